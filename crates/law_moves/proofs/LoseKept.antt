-- A loss keeps all: what the server session might have accepted is never accepted.
use Rattle.std.proofs.Common.{◌≡◌, ◌≢◌, ℕ, suc, ◌<◌, inl, inr, sym, refl, ap, ◌∙◌, arith}
use Rattle.std.proofs.lemmas.Bool.{cases_eq}
use Rattle.law_moves.specs.Table.{Name, Status}
use Rattle.law_moves.specs.Table.Status.{Unmade, Standing, Lost}
use Rattle.law_moves.specs.World.{World, StandsAfter}
use Rattle.law_moves.specs.Move.Move.{Lose}
use Rattle.law_moves.specs.After.{effect}
use Rattle.law_moves.specs.Lawful.{IsLawful}
use Rattle.law_moves.specs.Extends.{Grows}
use Rattle.law_moves.proofs.Kept.{Kept, Dead}
use Rattle.law_moves.proofs.Basics.{choice, choice_of, chosen, unchosen}
use Rattle.law_moves.proofs.Grows.{names_later, clients_grow, backed_still, calls_grow, packets_same, made_if_standing, lost_at}

pub lose_grows : (w : World) (unique : ℕ) → IsLawful w (Lose unique) → Grows w.servers (effect w (Lose unique)).servers
lose_grows w unique lawful =
    record {
      session = λ other made. refl;
      made = λ other made.
          choice (λ (s : Status). s ≢ Unmade) other unique (Lost w.time) (w.servers other).status (λ same h. cc) (λ differs. made);
      since = λ other made. refl;
      lost = λ other at lost.
          unchosen other unique (Lost w.time) (w.servers other).status (
          λ same.
          let standing : (w.servers other).status ≡ Standing = ap (λ u. (w.servers u).status) same ∙ lawful in
          cc
          ) ∙ lost;
      salts = λ other salt h. h;
      judged = λ other judged h. h;
      forgotten = λ other number h. h;
    }

was_made : (w : World) (unique : ℕ) → IsLawful w (Lose unique) → (other : ℕ)
    → ((effect w (Lose unique)).servers other).status ≢ Unmade
    → (w.servers other).status ≢ Unmade
was_made w unique lawful other made unmade =
    made (
    unchosen other unique (Lost w.time) (w.servers other).status (
    λ same.
    let standing : (w.servers other).status ≡ Standing = ap (λ u. (w.servers u).status) same ∙ lawful in
    cc
    ) ∙ unmade
    )

stands : (w : World) (unique : ℕ) → IsLawful w (Lose unique) → (other time : ℕ)
    → time < w.time
    → StandsAfter (w.servers other) time
    → StandsAfter ((effect w (Lose unique)).servers other) time
stands w unique lawful other time before (inl standing) =
    elim (cases_eq other unique) [
      | inl same ↦ inr (w.time, chosen other unique (Lost w.time) (w.servers other).status same, before)
      | inr differs ↦ inl (unchosen other unique (Lost w.time) (w.servers other).status differs ∙ standing)
    ]
stands w unique lawful other time before (inr lost) =
    inr (lost.0, (lose_grows w unique lawful).lost other lost.0 lost.1, lost.2)

dead : (w : World) (unique : ℕ) (name : Name)
    → Dead w.servers w.ups name
    → Dead (effect w (Lose unique)).servers w.ups name
dead w unique name h other session = (
  (h other session).0,
  λ standing.
      elim (choice_of (λ (s : Status). s ≡ Standing) other unique (Lost w.time) (w.servers other).status standing) [
        | inl lost ↦ let never : Lost w.time ≡ Standing = lost.1 in absurd cc
        | inr old ↦ (h other session).1 old.1
      ],
)

pub kept_after_lose : (w : World) (unique : ℕ)
    → Kept w.time w → IsLawful w (Lose unique) → Kept (suc w.time) (effect w (Lose unique))
kept_after_lose w unique k lawful =
    let g = lose_grows w unique lawful in
    let later : World = effect w (Lose unique) in
    record {
      servers =
          record {
            made_before = λ other made.
                let before : (w.servers other).made < w.time = k.servers.made_before other (was_made w unique lawful other made) in
                omega arith;
            session_nonzero = λ other made. k.servers.session_nonzero other (was_made w unique lawful other made);
            lost_before = λ other at lost.
                elim (choice_of (λ (s : Status). s ≡ Lost at) other unique (Lost w.time) (w.servers other).status lost) [
                  | inl new ↦
                      let is : at ≡ w.time = sym (lost_at w.time at new.1) in
                      let standing : (w.servers other).status ≡ Standing = ap (λ u. (w.servers u).status) new.0 ∙ lawful in
                      let before : (w.servers other).made < w.time = k.servers.made_before other (made_if_standing (w.servers other) standing) in
                      (omega arith, omega arith)
                  | inr old ↦
                      let before : ((w.servers other).made < at) × (at < w.time) = k.servers.lost_before other at old.1 in
                      (before.0, omega arith)
                ];
            following = λ one other differ made_one made_other session.
                elim (
                k.servers.following one other differ (was_made w unique lawful one made_one) (was_made w unique lawful other made_other) session
                ) [
                  | inl lost ↦ inl (lost.0, g.lost one lost.0 lost.1, lost.2)
                  | inr lost ↦ inr (lost.0, g.lost other lost.0 lost.1, lost.2)
                ];
            unmade = λ other none.
                elim (choice_of (λ (s : Status). s ≡ Unmade) other unique (Lost w.time) (w.servers other).status none) [
                  | inl lost ↦ let never : Lost w.time ≡ Unmade = lost.1 in absurd cc
                  | inr old ↦ k.servers.unmade other old.1
                ];
            salts_nonzero = k.servers.salts_nonzero;
            salts_apart = k.servers.salts_apart;
          };
      outcomes =
          record {
            backed = λ other judged h. backed_still k g other judged h;
            judged_once = k.outcomes.judged_once;
            forgotten_given = k.outcomes.forgotten_given;
            entry_judged = k.outcomes.entry_judged;
            entry_once = k.outcomes.entry_once;
          };
      messages = k.messages;
      owners = k.owners;
      clients = clients_grow k g;
      names = names_later w.time w.ups (λ call. (w.calls call).names) k.names;
      bodies = k.bodies;
      takers =
          record {
            known = λ call name other among known.
                ((k.takers.known call name other among known).0, g.made other (k.takers.known call name other among known).1);
            judged = λ call name other judged among session h number.
                stands w unique lawful other name.first (k.names.first call name among) (k.takers.judged call name other judged among session h number);
            forgotten = λ call name other among session h.
                stands w unique lawful other name.first (k.names.first call name among) (k.takers.forgotten call name other among session h);
            replaced = λ call name among. dead w unique name (k.takers.replaced call name among);
          };
      calls = calls_grow k g w.entries (λ entry h. h) (dead w unique);
      packets = packets_same k later.servers g;
    }
