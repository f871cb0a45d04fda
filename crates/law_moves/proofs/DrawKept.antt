-- A drawn salt keeps all: no message has it, and no server session.
use Rattle.std.proofs.Common.{◌≡◌, ◌≢◌, ℕ, ◌∷◌, inl, inr, sym, refl, ◌∙◌, subst}
use Rattle.std.specs.List.{Contains}
use Rattle.law_moves.specs.Table.{Name, Message}
use Rattle.law_moves.specs.Table.Status.{Unmade}
use Rattle.law_moves.specs.World.{World}
use Rattle.law_moves.specs.Move.Move.{Draw}
use Rattle.law_moves.specs.After.{effect}
use Rattle.law_moves.specs.Lawful.{IsLawful}
use Rattle.law_moves.specs.Extends.{Grows}
use Rattle.law_moves.proofs.Kept.{Kept, Dead}
use Rattle.law_moves.proofs.Basics.{added_cases, added_still, unchosen}
use Rattle.law_moves.proofs.Grows.{made_if_standing, messages_grow, clients_grow, backed_still, calls_grow, packets_same}

pub draw_grows : (w : World) (unique salt : ℕ) → Grows w.servers (effect w (Draw unique salt)).servers
draw_grows w unique salt =
    record {
      session = λ other made. refl;
      made = λ other made. made;
      since = λ other made. refl;
      lost = λ other at lost. lost;
      salts = λ other old h. added_still old salt (w.servers other).salts other unique h;
      judged = λ other judged h. h;
      forgotten = λ other number h. h;
    }

-- no message has a salt that no server session has, but 0
not_sent : {now : ℕ} {w : World} (k : Kept now w) (unique salt : ℕ)
    → IsLawful w (Draw unique salt) → (message : Message) → Contains w.ups message → message.salt ≢ salt
not_sent {w = w} k unique salt lawful message among is =
    elim (k.messages message among) [
      | inl none ↦ lawful.1 (sym is ∙ none.1)
      | inr of ↦ lawful.2 of.0 (subst (Contains (w.servers of.0).salts) is of.1)
    ]

dead : {now : ℕ} {w : World} (k : Kept now w) (unique salt : ℕ) → IsLawful w (Draw unique salt) → (name : Name)
    → Dead w.servers w.ups name
    → Dead (effect w (Draw unique salt)).servers w.ups name
dead {w = w} k unique salt lawful name h other session = (
  (h other session).0,
  λ standing.
      elim ((h other session).1 standing) [
        | inl judged ↦ inl judged
        | inr no_salt ↦
            inr (
            λ message among under of.
            elim (added_cases message.salt salt (w.servers other).salts other unique of) [
              | inl new ↦ not_sent k unique salt lawful message among new.1
              | inr old ↦ no_salt message among under old
            ]
            )
      ],
)

pub kept_after_draw : (now : ℕ) (w : World) (unique salt : ℕ)
    → Kept now w → IsLawful w (Draw unique salt) → Kept now (effect w (Draw unique salt))
kept_after_draw now w unique salt k lawful =
    let g = draw_grows w unique salt in
    let later : World = effect w (Draw unique salt) in
    record {
      servers =
          record {
            made_before = k.servers.made_before;
            session_nonzero = k.servers.session_nonzero;
            lost_before = k.servers.lost_before;
            following = k.servers.following;
            unmade = λ other none.
                let differs : other ≡ unique → ⊥ = λ same. made_if_standing (w.servers unique) lawful.0 (subst (λ u. (w.servers u).status ≡ Unmade) same none) in
                let old = k.servers.unmade other none in
                (unchosen other unique (salt ∷ (w.servers other).salts) (w.servers other).salts differs ∙ old.0, old.1, old.2);
            salts_nonzero = λ other h.
                elim (added_cases 0 salt (w.servers other).salts other unique h) [
                  | inl new ↦ lawful.1 (sym new.1)
                  | inr old ↦ k.servers.salts_nonzero other old
                ];
            salts_apart = λ one other both at_one at_other.
                elim (added_cases both salt (w.servers one).salts one unique at_one) [
                  | inl new ↦
                      elim (added_cases both salt (w.servers other).salts other unique at_other) [
                        | inl too ↦ new.0 ∙ sym too.0
                        | inr old ↦ absurd (lawful.2 other (subst (λ s. Contains (w.servers other).salts s) new.1 old))
                      ]
                  | inr old ↦
                      elim (added_cases both salt (w.servers other).salts other unique at_other) [
                        | inl new ↦ absurd (lawful.2 one (subst (λ s. Contains (w.servers one).salts s) new.1 old))
                        | inr too ↦ k.servers.salts_apart one other both old too
                      ]
                ];
          };
      outcomes =
          record {
            backed = λ other judged h. backed_still k g other judged h;
            judged_once = k.outcomes.judged_once;
            forgotten_given = k.outcomes.forgotten_given;
            entry_judged = k.outcomes.entry_judged;
            entry_once = k.outcomes.entry_once;
          };
      messages = messages_grow k g;
      owners = k.owners;
      clients = clients_grow k g;
      names = k.names;
      bodies = k.bodies;
      takers =
          record {
            known = k.takers.known;
            judged = k.takers.judged;
            forgotten = k.takers.forgotten;
            replaced = λ call name among. dead k unique salt lawful name (k.takers.replaced call name among);
          };
      calls = calls_grow k g w.entries (λ entry h. h) (dead k unique salt lawful);
      packets = packets_same k later.servers g;
    }
