-- The sessions that are left of others.
use Rattle.std.proofs.Common.{◌≡◌, ◌∙◌, ◌≤◌, Bool, true, List, [], ◌∷◌, length, ap, sym, subst, refl, arith, inl, inr}
use Rattle.std.specs.Prelude.{◌&&◌, not}
use Rattle.std.specs.List.{All, filter}
use Rattle.std.proofs.lemmas.Bool.{cases_Bool}
use Rattle.std.proofs.lemmas.List.Elements.{All-filter}
use Rattle.std.proofs.lemmas.List.Filters.{length-filter_both}
use Rattle.server_session.specs.declared.session.SessionState.{SessionState}
use Rattle.server_rules.specs.Server.{Name}
use Rattle.server_core.specs.Others.{AreLeft}
use Rattle.server_core.specs.Sessions.{is_kept_as, without_kept}

filter-all : (standings : List SessionState) → filter (λ standing. true) standings ≡ standings
filter-all [] = refl
filter-all (standing ∷ standings) = ap (λ (rest : List SessionState). standing ∷ rest) (filter-all standings)

filter-then : (one other : SessionState → Bool) (standings : List SessionState) → filter other (filter one standings) ≡ filter (λ standing. one standing && other standing) standings
filter-then one other [] = refl
filter-then one other (standing ∷ standings) =
    elim (cases_Bool (one standing)) [
      | inl is ↦
          elim (cases_Bool (other standing)) [
            | inl also ↦ rw is (rw also (ap (λ (rest : List SessionState). standing ∷ rest) (filter-then one other standings)))
            | inr not_so ↦ rw is (rw not_so (filter-then one other standings))
          ]
      | inr not_so ↦ rw not_so (filter-then one other standings)
    ]

-- all are
pub left-all : (standings : List SessionState) → AreLeft standings standings
left-all standings = record { stays = λ standing. true; left = sym (filter-all standings) }

pub left-then : (before between after : List SessionState) → AreLeft before between → AreLeft between after → AreLeft before after
left-then before between after first next =
    record {
      stays = λ standing. first.stays standing && next.stays standing;
      left = next.left ∙ (ap (filter next.stays) first.left ∙ filter-then first.stays next.stays before);
    }

-- those but one of this name
pub left-without : (name : Name) (before after : List SessionState) → after ≡ without_kept name before → AreLeft before after
left-without name before after is = record { stays = λ standing. not (is_kept_as name standing); left = is }

-- they are no more than there were, and what held of each does so still
pub left-few : (before after : List SessionState) → AreLeft before after → length after ≤ length before
left-few before after is =
    let long : length after ≡ length (filter is.stays before) = ap (λ (standings : List SessionState). length standings) is.left in
    omega (arith, long, length-filter_both is.stays (λ (standing : SessionState). not (is.stays standing)) (λ standing. refl) before)

pub left-each : (P : SessionState → Type 0) (before after : List SessionState) → AreLeft before after → All P before → All P after
left-each P before after is all = subst (λ (standings : List SessionState). All P standings) (sym is.left) (All-filter is.stays P before all)
