-- A new server session keeps all: it has nothing yet, and the one before it under its session number was lost.
use Rattle.std.proofs.Common.{◌≡◌, ◌≢◌, ℕ, suc, ◌<◌, ◌⊎◌, inl, inr, sym, refl, ap, ◌∙◌, subst, arith, ne_eqb}
use Rattle.std.proofs.lemmas.Bool.{cases_eq}
use Rattle.law_moves.specs.Table.{Name, Status, ServerSession}
use Rattle.law_moves.specs.Table.Status.{Unmade, Standing, Lost}
use Rattle.law_moves.specs.World.{World, LostBefore, StandsAfter, WasGiven}
use Rattle.law_moves.specs.Move.Move.{Make}
use Rattle.law_moves.specs.After.{effect}
use Rattle.law_moves.specs.Lawful.{IsLawful}
use Rattle.law_moves.specs.Extends.{Grows}
use Rattle.law_moves.proofs.Kept.{Kept, IsShut, Dead}
use Rattle.law_moves.proofs.Basics.{choice_of, chosen, empty}
use Rattle.law_moves.proofs.Grows.{names_later, clients_grow, backed_still, calls_grow, packets_same, made_if_judged, made_if_forgotten, made_if_lost}

other_than : (w : World) (unique session : ℕ) → IsLawful w (Make unique session) → (other : ℕ)
    → (w.servers other).status ≢ Unmade
    → other ≡ unique
    → ⊥
other_than w unique session lawful other made same = made (ap (λ u. (w.servers u).status) same ∙ lawful.1)

-- every other server session is as it was
there : (w : World) (unique session other : ℕ)
    → (other ≡ unique → ⊥) → (effect w (Make unique session)).servers other ≡ w.servers other
there w unique session other differs = rw (ne_eqb other unique differs)

pub make_grows : (w : World) (unique session : ℕ)
    → IsLawful w (Make unique session) → Grows w.servers (effect w (Make unique session)).servers
make_grows w unique session lawful =
    record {
      session = λ other made. ap (λ (s : ServerSession). s.session) (there w unique session other (other_than w unique session lawful other made));
      made = λ other made.
          subst (λ (s : ServerSession). s.status ≢ Unmade) (sym (there w unique session other (other_than w unique session lawful other made))) made;
      since = λ other made. ap (λ (s : ServerSession). s.made) (there w unique session other (other_than w unique session lawful other made));
      lost = λ other at lost.
          ap (λ (s : ServerSession). s.status) (
          there w unique session other (other_than w unique session lawful other (made_if_lost (w.servers other) at lost))
          ) ∙ lost;
      salts = λ other salt h. h;
      judged = λ other judged h. h;
      forgotten = λ other number h. h;
    }

dead : (now : ℕ) (w : World) (unique session : ℕ)
    → Kept now w
    → IsLawful w (Make unique session)
    → (name : Name)
    → Dead w.servers w.ups name
    → Dead (effect w (Make unique session)).servers w.ups name
dead now w unique session k lawful name h other of =
    elim (cases_eq other unique) [
      | inl same ↦
          let none = k.servers.unmade other (ap (λ u. (w.servers u).status) same ∙ lawful.1) in (
            λ judged among number accepted. empty judged (w.servers other).judged none.1 among,
            λ standing. inr (λ message among under salt. empty message.salt (w.servers other).salts none.0 salt),
          )
      | inr differs ↦
          subst (IsShut w.ups name) (sym (there w unique session other differs)) (
          h other (sym (ap (λ (s : ServerSession). s.session) (there w unique session other differs)) ∙ of)
          )
    ]

-- one that was made before is lost before the new one is made
lost_before_new : (w : World) (unique session : ℕ)
    → Kept w.time w
    → IsLawful w (Make unique session)
    → (other : ℕ)
    → (w.servers other).status ≢ Unmade
    → (w.servers other).session ≡ session
    → LostBefore (w.servers other) w.time
lost_before_new w unique session k lawful other made of = by_status (w.servers other).status refl
  where
    by_status : (status : Status) → (w.servers other).status ≡ status → LostBefore (w.servers other) w.time
    by_status Unmade is = absurd (made is)
    by_status Standing is = absurd (lawful.3 other of is)
    by_status (Lost at) is = (at, is, (k.servers.lost_before other at is).1)

Follow : ServerSession → ServerSession → Type 0
Follow one other =
    one.status ≢ Unmade
    → other.status ≢ Unmade
    → one.session ≡ other.session
    → LostBefore one other.made ⊎ LostBefore other one.made

following : (w : World) (unique session : ℕ)
    → Kept w.time w
    → IsLawful w (Make unique session)
    → (one other : ℕ)
    → one ≢ other
    → Follow ((effect w (Make unique session)).servers one) ((effect w (Make unique session)).servers other)
unfolding Follow
following w unique session k lawful one other differ =
    elim (cases_eq one unique) [
      | inl first ↦
          elim (cases_eq other unique) [
            | inl second ↦ absurd (differ (first ∙ sym second))
            | inr differs ↦
                subst (λ (s : ServerSession). Follow ((effect w (Make unique session)).servers one) s) (sym (there w unique session other differs)) (
                λ made made_other of.
                inr (
                subst (LostBefore (w.servers other)) (sym (chosen one unique w.time (w.servers one).made first)) (
                lost_before_new w unique session k lawful other made_other (
                sym of ∙ chosen one unique session (w.servers one).session first
                )
                )
                )
                )
          ]
      | inr differs ↦
          subst (λ (s : ServerSession). Follow s ((effect w (Make unique session)).servers other)) (sym (there w unique session one differs)) (
          elim (cases_eq other unique) [
            | inl second ↦
                λ made_one made of.
                inl (
                subst (LostBefore (w.servers one)) (sym (chosen other unique w.time (w.servers other).made second)) (
                lost_before_new w unique session k lawful one made_one (
                of ∙ chosen other unique session (w.servers other).session second
                )
                )
                )
            | inr apart ↦
                subst (λ (s : ServerSession). Follow (w.servers one) s) (sym (there w unique session other apart)) (
                k.servers.following one other differ
                )
          ]
          )
    ]

pub kept_after_make : (w : World) (unique session : ℕ)
    → Kept w.time w → IsLawful w (Make unique session) → Kept (suc w.time) (effect w (Make unique session))
unfolding Follow
kept_after_make w unique session k lawful =
    let g = make_grows w unique session lawful in
    let later : World = effect w (Make unique session) in
    record {
      servers =
          record {
            made_before = λ other made.
                elim (cases_eq other unique) [
                  | inl same ↦ let is = chosen other unique w.time (w.servers other).made same in omega arith
                  | inr differs ↦
                      let same = there w unique session other differs in
                      let before : (w.servers other).made < w.time =
                      k.servers.made_before other (subst (λ (s : ServerSession). s.status ≢ Unmade) same made) in
                      let is = ap (λ (s : ServerSession). s.made) same in
                      omega arith
                ];
            session_nonzero = λ other made none.
                elim (cases_eq other unique) [
                  | inl same ↦ lawful.2.1.0 (sym (chosen other unique session (w.servers other).session same) ∙ none)
                  | inr differs ↦
                      let same = there w unique session other differs in
                      k.servers.session_nonzero other (subst (λ (s : ServerSession). s.status ≢ Unmade) same made) (sym (ap (λ (s : ServerSession). s.session) same) ∙ none)
                ];
            lost_before = λ other at lost.
                elim (cases_eq other unique) [
                  | inl same ↦
                      let never : Standing ≡ Lost at = sym (chosen other unique Standing (w.servers other).status same) ∙ lost in
                      absurd cc
                  | inr differs ↦
                      let same = there w unique session other differs in
                      let before : ((w.servers other).made < at) × (at < w.time) =
                      k.servers.lost_before other at (sym (ap (λ (s : ServerSession). s.status) same) ∙ lost) in
                      let is = ap (λ (s : ServerSession). s.made) same in
                      (omega arith, omega arith)
                ];
            following = following w unique session k lawful;
            unmade = λ other none.
                elim (choice_of (λ (s : Status). s ≡ Unmade) other unique Standing (w.servers other).status none) [
                  | inl new ↦ let never : Standing ≡ Unmade = new.1 in absurd cc
                  | inr old ↦ k.servers.unmade other old.1
                ];
            salts_nonzero = k.servers.salts_nonzero;
            salts_apart = k.servers.salts_apart;
          };
      outcomes =
          record {
            backed = λ other judged h. backed_still k g other judged h;
            judged_once = k.outcomes.judged_once;
            forgotten_given = λ other number h.
                subst (λ s. WasGiven w.ups s number) (sym (g.session other (made_if_forgotten k other number h))) (k.outcomes.forgotten_given other number h);
            entry_judged = k.outcomes.entry_judged;
            entry_once = k.outcomes.entry_once;
          };
      messages = k.messages;
      owners = k.owners;
      clients = clients_grow k g;
      names = names_later w.time w.ups (λ call. (w.calls call).names) k.names;
      bodies = k.bodies;
      takers =
          record {
            known = λ call name other among known.
                let old = k.takers.known call name other among known in
                (subst (λ t. t < name.first) (sym (g.since other old.1)) old.0, g.made other old.1);
            judged = λ call name other judged among of h number.
                let made = made_if_judged k other judged h in
                subst (λ (s : ServerSession). StandsAfter s name.first) (sym (there w unique session other (other_than w unique session lawful other made))) (
                k.takers.judged call name other judged among (sym (g.session other made) ∙ of) h number
                );
            forgotten = λ call name other among of h.
                let made = made_if_forgotten k other name.number h in
                subst (λ (s : ServerSession). StandsAfter s name.first) (sym (there w unique session other (other_than w unique session lawful other made))) (
                k.takers.forgotten call name other among (sym (g.session other made) ∙ of) h
                );
            replaced = λ call name among. dead w.time w unique session k lawful name (k.takers.replaced call name among);
          };
      calls = calls_grow k g w.entries (λ entry h. h) (dead w.time w unique session k lawful);
      packets = packets_same k later.servers g;
    }
