-- The order of first words, where one session owes further messages.
use Rattle.std.proofs.Common.{◌≡◌, ◌∙◌, Bool, true, false, List, [], ◌∷◌, ◌++◌, ap, sym, refl, inl, inr, not}
use Rattle.std.specs.Prelude.{◌||◌}
use Rattle.std.specs.List.{All, filter}
use Rattle.std.proofs.lemmas.Bool.{cases_Bool, cond-true, cond-false}
use Rattle.std.proofs.lemmas.List.{append-nil}
use Rattle.std.proofs.lemmas.List.Elements.{filter-append}
use Rattle.server_rules.specs.Server.{Name, is_same}
use Rattle.server_rules.specs.Event.{Owed}
use Rattle.server_rules.specs.Sending.{names_in}
use Rattle.server_core.specs.Ticking.{has_spoken, with_name}
use Rattle.server_core.proofs.One.{names-one}

kept : (test : Name → Bool) (b : Bool) (first name : Name) (names : List Name) → test name ≡ true
    → first ∷ filter test (with_name b name names) ≡ with_name b name (first ∷ filter test names)
kept test true first name names is = refl
kept test false first name names is =
    ap (λ (now : List Name). first ∷ now)
    (filter-append test names (name ∷ []) ∙ ap (λ (now : List Name). filter test names ++ now) (cond-true (test name) (name ∷ []) [] is))

dropped : (test : Name → Bool) (b : Bool) (name : Name) (names : List Name) → test name ≡ false → filter test (with_name b name names) ≡ filter test names
dropped test true name names off = refl
dropped test false name names off =
    filter-append test names (name ∷ [])
    ∙ (ap (λ (now : List Name). filter test names ++ now) (cond-false (test name) (name ∷ []) [] off) ∙ append-nil (filter test names))

pub first-words : (name : Name) (owed : List Owed) (one : Owed) (later : List Owed) → All (λ one. one.name ≡ name) (one ∷ later)
    → names_in (owed ++ one ∷ later) ≡ with_name (has_spoken name owed) name (names_in owed)
first-words name [] one later all = names-one name one later all
first-words name (first ∷ owed) one later all =
    let test = λ (other : Name). not (is_same first.name other) in
    let spoken = has_spoken name owed in
    let names = names_in owed in
    let rest = ap (λ (names : List Name). first.name ∷ filter test names) (first-words name owed one later all) in
    elim (cases_Bool (is_same first.name name)) [
      | inl is ↦
          rest
          ∙ (ap (λ (now : List Name). first.name ∷ now) (dropped test spoken name names (ap not is))
          ∙ ap (λ (b : Bool). with_name (b || spoken) name (first.name ∷ filter test names)) (sym is))
      | inr off ↦
          rest
          ∙ (kept test spoken first.name name names (ap not off)
          ∙ ap (λ (b : Bool). with_name (b || spoken) name (first.name ∷ filter test names)) (sym off))
    ]
