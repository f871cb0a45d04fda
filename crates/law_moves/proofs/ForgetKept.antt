-- A forgotten number keeps all: it was given, and the server session stands.
use Rattle.std.proofs.Common.{◌≡◌, ℕ, ◌∷◌, inl, inr, sym, refl, ◌∙◌, subst, subst₂}
use Rattle.law_moves.specs.Table.Status.{Unmade, Standing}
use Rattle.law_moves.specs.World.{World, WasGiven}
use Rattle.law_moves.specs.Move.Move.{Forget}
use Rattle.law_moves.specs.After.{effect}
use Rattle.law_moves.specs.Lawful.{IsLawful}
use Rattle.law_moves.specs.Extends.{Grows}
use Rattle.law_moves.proofs.Kept.{Kept}
use Rattle.law_moves.proofs.Basics.{added_cases, added_still, unchosen}
use Rattle.law_moves.proofs.Grows.{made_if_standing, messages_grow, clients_grow, backed_still, calls_grow, packets_same}

pub forget_grows : (w : World) (unique number : ℕ) → Grows w.servers (effect w (Forget unique number)).servers
forget_grows w unique number =
    record {
      session = λ other made. refl;
      made = λ other made. made;
      since = λ other made. refl;
      lost = λ other at lost. lost;
      salts = λ other salt h. h;
      judged = λ other judged h. h;
      forgotten = λ other old h. added_still old number (w.servers other).forgotten other unique h;
    }

pub kept_after_forget : (now : ℕ) (w : World) (unique number : ℕ)
    → Kept now w → IsLawful w (Forget unique number) → Kept now (effect w (Forget unique number))
kept_after_forget now w unique number k lawful =
    let g = forget_grows w unique number in
    let later : World = effect w (Forget unique number) in
    record {
      servers =
          record {
            made_before = k.servers.made_before;
            session_nonzero = k.servers.session_nonzero;
            lost_before = k.servers.lost_before;
            following = k.servers.following;
            unmade = λ other none.
                let differs : other ≡ unique → ⊥ = λ same. made_if_standing (w.servers unique) lawful.0 (subst (λ u. (w.servers u).status ≡ Unmade) same none) in
                let old = k.servers.unmade other none in
                (old.0, old.1, unchosen other unique (number ∷ (w.servers other).forgotten) (w.servers other).forgotten differs ∙ old.2);
            salts_nonzero = k.servers.salts_nonzero;
            salts_apart = k.servers.salts_apart;
          };
      outcomes =
          record {
            backed = λ other judged h. backed_still k g other judged h;
            judged_once = k.outcomes.judged_once;
            forgotten_given = λ other some h.
                elim (added_cases some number (w.servers other).forgotten other unique h) [
                  | inl is ↦ subst₂ (λ u n. WasGiven w.ups (w.servers u).session n) (sym is.0) (sym is.1) lawful.1
                  | inr old ↦ k.outcomes.forgotten_given other some old
                ];
            entry_judged = k.outcomes.entry_judged;
            entry_once = k.outcomes.entry_once;
          };
      messages = messages_grow k g;
      owners = k.owners;
      clients = clients_grow k g;
      names = k.names;
      bodies = k.bodies;
      takers =
          record {
            known = k.takers.known;
            judged = k.takers.judged;
            forgotten = λ call name other among session h.
                elim (added_cases name.number number (w.servers other).forgotten other unique h) [
                  | inl is ↦ inl (subst (λ u. (w.servers u).status ≡ Standing) (sym is.0) lawful.0)
                  | inr old ↦ k.takers.forgotten call name other among session old
                ];
            replaced = k.takers.replaced;
          };
      calls = calls_grow k g w.entries (λ entry h. h) (λ name h. h);
      packets = packets_same k later.servers g;
    }
