-- An outcome keeps all: it is the first for its message there, and what it accepts has a salt of the server session.
use Rattle.std.proofs.lemmas.List.Elements.{All-contains}
use Rattle.std.proofs.Common.{◌≡◌, ◌≢◌, ℕ, ◌∷◌, inl, inr, sym, refl, ap, ◌∙◌, subst, subst₂}
use Rattle.std.specs.List.{Contains}
use Rattle.law_moves.specs.Table.{Name, Message, Judged, Outcome}
use Rattle.law_moves.specs.Table.Status.{Unmade, Standing}
use Rattle.law_moves.specs.Table.Outcome.{AcceptedCall, AcceptedOther, Noticed}
use Rattle.law_moves.specs.World.{World, IsUnder, IsAccepted}
use Rattle.law_moves.specs.Move.Move.{Judge}
use Rattle.law_moves.specs.After.{effect}
use Rattle.law_moves.specs.Lawful.{IsLawful, MayDecide}
use Rattle.law_moves.specs.Extends.{Grows}
use Rattle.law_moves.proofs.Kept.{Kept, Backs, Dead}
use Rattle.law_moves.proofs.Basics.{added_cases, added_still, unchosen}
use Rattle.law_moves.proofs.Grows.{backs_grows, made_if_standing, messages_grow, clients_grow, backed_still, calls_grow, packets_same}

pub judge_grows : (w : World) (unique : ℕ) (message : Message) (outcome : Outcome)
    → Grows w.servers (effect w (Judge unique message outcome)).servers
judge_grows w unique message outcome =
    record {
      session = λ other made. refl;
      made = λ other made. made;
      since = λ other made. refl;
      lost = λ other at lost. lost;
      salts = λ other salt h. h;
      judged = λ other old h.
          added_still old (record { number = message.number; outcome = outcome }) (w.servers other).judged other unique h;
      forgotten = λ other number h. h;
    }

-- the packet's maker had learnt the server session whose salt the packet has
known : (now : ℕ) (w : World) (unique : ℕ) (message : Message)
    → Kept now w → Contains w.ups message → Contains (w.servers unique).salts message.salt → Contains message.known unique
known now w unique message k among of =
    elim (k.messages message among) [
      | inl none ↦ absurd (k.servers.salts_nonzero unique (subst (λ s. Contains (w.servers unique).salts s) none.1 of))
      | inr other ↦ subst (λ u. Contains message.known u) (k.servers.salts_apart other.0 unique message.salt other.1 of) other.2
    ]

backs : (now : ℕ) (w : World) (unique : ℕ) (message : Message) (outcome : Outcome)
    → Kept now w → Contains w.ups message → MayDecide (w.servers unique) message outcome → Backs message unique (w.servers unique) outcome
backs now w unique message (AcceptedCall body) k among may = (may.0, may.1, known now w unique message k among may.1)
backs now w unique message AcceptedOther k among may = (may, known now w unique message k among may)
backs now w unique message (Noticed code) k among may = may

-- only a message with a salt of the server session is accepted
has_salt : (w : World) (unique : ℕ) (message : Message) (outcome : Outcome)
    → MayDecide (w.servers unique) message outcome → IsAccepted outcome → Contains (w.servers unique).salts message.salt
has_salt w unique message (AcceptedCall body) may accepted = may.1
has_salt w unique message AcceptedOther may accepted = may
has_salt w unique message (Noticed code) may accepted = absurd accepted

not_judged : (w : World) (unique : ℕ) (message : Message) (outcome : Outcome)
    → IsLawful w (Judge unique message outcome)
    → (judged : Judged)
    → Contains (w.servers unique).judged judged
    → judged.number ≢ message.number
not_judged w unique message outcome lawful judged among =
    All-contains (λ (j : Judged). j.number ≢ message.number) (w.servers unique).judged judged lawful.3 among

dead : (w : World) (unique : ℕ) (message : Message) (outcome : Outcome)
    → IsLawful w (Judge unique message outcome)
    → (name : Name)
    → Dead w.servers w.ups name
    → Dead (effect w (Judge unique message outcome)).servers w.ups name
dead w unique message outcome lawful name h other session =
    let new : Judged = record { number = message.number; outcome = outcome } in (
      λ judged among number accepted.
          elim (added_cases judged new (w.servers other).judged other unique among) [
            | inl is ↦
                let mine : outcome ≡ judged.outcome = ap (λ (j : Judged). j.outcome) (sym is.1) in
                let salt : Contains (w.servers unique).salts message.salt =
                has_salt w unique message outcome lawful.4 (subst IsAccepted (sym mine) accepted) in
                let under : IsUnder name message =
                (lawful.2 ∙ ap (λ u. (w.servers u).session) (sym is.0) ∙ session, ap (λ (j : Judged). j.number) (sym is.1) ∙ number) in
                elim ((h unique (ap (λ u. (w.servers u).session) (sym is.0) ∙ session)).1 lawful.0) [
                  | inl before ↦ not_judged w unique message outcome lawful before.0 before.1 (before.2 ∙ sym under.1)
                  | inr none ↦ none message lawful.1 under salt
                ]
            | inr old ↦ (h other session).0 judged old number accepted
          ],
      λ standing.
          elim ((h other session).1 standing) [
            | inl judged ↦ inl (judged.0, added_still judged.0 new (w.servers other).judged other unique judged.1, judged.2)
            | inr none ↦ inr none
          ],
    )

pub kept_after_judge : (now : ℕ) (w : World) (unique : ℕ) (message : Message) (outcome : Outcome)
    → Kept now w
    → IsLawful w (Judge unique message outcome)
    → Kept now (effect w (Judge unique message outcome))
kept_after_judge now w unique message outcome k lawful =
    let g = judge_grows w unique message outcome in
    let later : World = effect w (Judge unique message outcome) in
    let new : Judged = record { number = message.number; outcome = outcome } in
    let new_number : (other : ℕ) (is : other ≡ unique) (judged : Judged) → Contains (w.servers other).judged judged → judged.number ≢ new.number =
    λ other is judged old. not_judged w unique message outcome lawful judged (subst (λ u. Contains (w.servers u).judged judged) is old) in
    record {
      servers =
          record {
            made_before = k.servers.made_before;
            session_nonzero = k.servers.session_nonzero;
            lost_before = k.servers.lost_before;
            following = k.servers.following;
            unmade = λ other none.
                let differs : other ≡ unique → ⊥ = λ same. made_if_standing (w.servers unique) lawful.0 (subst (λ u. (w.servers u).status ≡ Unmade) same none) in
                let old = k.servers.unmade other none in
                (old.0, unchosen other unique (new ∷ (w.servers other).judged) (w.servers other).judged differs ∙ old.1, old.2);
            salts_nonzero = k.servers.salts_nonzero;
            salts_apart = k.servers.salts_apart;
          };
      outcomes =
          record {
            backed = λ other judged h.
                elim (added_cases judged new (w.servers other).judged other unique h) [
                  | inl is ↦ (
                    message,
                    lawful.1,
                    lawful.2 ∙ ap (λ u. (w.servers u).session) (sym is.0),
                    ap (λ (j : Judged). j.number) (sym is.1),
                    backs_grows g message other judged.outcome (
                        subst₂ (λ u o. Backs message u (w.servers u) o) (sym is.0) (ap (λ (j : Judged). j.outcome) (sym is.1)) (
                        backs now w unique message outcome k lawful.1 lawful.4
                        )
                        ),
                  )
                  | inr old ↦ backed_still k g other judged old
                ];
            judged_once = λ other one two at_one at_two number.
                elim (added_cases one new (w.servers other).judged other unique at_one) [
                  | inl is ↦
                      elim (added_cases two new (w.servers other).judged other unique at_two) [
                        | inl too ↦ is.1 ∙ sym too.1
                        | inr old ↦ absurd (new_number other is.0 two old (sym number ∙ ap (λ (j : Judged). j.number) is.1))
                      ]
                  | inr old ↦
                      elim (added_cases two new (w.servers other).judged other unique at_two) [
                        | inl is ↦ absurd (new_number other is.0 one old (number ∙ ap (λ (j : Judged). j.number) is.1))
                        | inr too ↦ k.outcomes.judged_once other one two old too number
                      ]
                ];
            forgotten_given = k.outcomes.forgotten_given;
            entry_judged = λ entry among. g.judged entry.server _ (k.outcomes.entry_judged entry among);
            entry_once = k.outcomes.entry_once;
          };
      messages = messages_grow k g;
      owners = k.owners;
      clients = clients_grow k g;
      names = k.names;
      bodies = k.bodies;
      takers =
          record {
            known = k.takers.known;
            judged = λ call name other judged among session h number.
                elim (added_cases judged new (w.servers other).judged other unique h) [
                  | inl is ↦ inl (subst (λ u. (w.servers u).status ≡ Standing) (sym is.0) lawful.0)
                  | inr old ↦ k.takers.judged call name other judged among session old number
                ];
            forgotten = k.takers.forgotten;
            replaced = λ call name among. dead w unique message outcome lawful name (k.takers.replaced call name among);
          };
      calls = calls_grow k g w.entries (λ entry h. h) (dead w unique message outcome lawful);
      packets = packets_same k later.servers g;
    }
