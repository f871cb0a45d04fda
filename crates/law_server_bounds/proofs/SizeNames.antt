-- Names of sessions.
use Rattle.std.proofs.Common.{◌≡◌, ◌∙◌, ℕ, true, false, ap, sym}
use Rattle.std.proofs.lemmas.Bool.{and_parts, and_from, eqb-true, eq-eqb, false≢true}
use Rattle.server_rules.specs.Server.{Name, is_same}

abbrev named : ℕ → ℕ → Name
named key session = record { key = key; session = session }

pub same-names : (one other : Name) → is_same one other ≡ true → one ≡ other
same-names one other is =
    let parts = and_parts _ _ is in
    ap (λ (k : ℕ). named k one.session) (eqb-true one.key other.key parts.0) ∙ ap (λ (s : ℕ). named other.key s) (eqb-true one.session other.session parts.1)

pub names-apart : (one other : Name) → is_same one other ≡ false → one ≡ other → ⊥
names-apart one other apart is =
    false≢true (sym apart
    ∙ and_from _ _ (eq-eqb one.key other.key (ap (λ (name : Name). name.key) is)) (eq-eqb one.session other.session (ap (λ (name : Name). name.session) is)))
