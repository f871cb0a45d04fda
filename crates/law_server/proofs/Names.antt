-- Names of sessions.
use Rattle.std.proofs.Common.{◌≡◌, ◌≢◌, ◌∙◌, ℕ, true, false, ap, sym, inl, inr}
use Rattle.std.specs.Prelude.{◌⊎◌}
use Rattle.std.proofs.lemmas.Bool.{cases_Bool, and_parts, and_from, eqb-true, eq-eqb, false≢true}
use Rattle.server_rules.specs.Server.{Name, is_same}

abbrev pub named : ℕ → ℕ → Name
named key session = record { key = key; session = session }

pub name-by : (one other : Name) → one.key ≡ other.key → one.session ≡ other.session → one ≡ other
name-by one other key session =
    ap (λ (k : ℕ). named k one.session) key ∙ ap (λ (s : ℕ). named other.key s) session

pub same-names : (one other : Name) → is_same one other ≡ true → one ≡ other
same-names one other is =
    let parts = and_parts _ _ is in
    name-by one other (eqb-true one.key other.key parts.0) (eqb-true one.session other.session parts.1)

pub names-same : (one other : Name) → one ≡ other → is_same one other ≡ true
names-same one other is =
    and_from _ _ (eq-eqb one.key other.key (ap (λ (name : Name). name.key) is)) (eq-eqb one.session other.session (ap (λ (name : Name). name.session) is))

pub names-apart : (one other : Name) → is_same one other ≡ false → one ≢ other
names-apart one other apart is = false≢true (sym apart ∙ names-same one other is)

pub cases_name : (one other : Name) → (one ≡ other) ⊎ (one ≢ other)
cases_name one other =
    elim (cases_Bool (is_same one other)) [
      | inl is ↦ inl (same-names one other is)
      | inr apart ↦ inr (names-apart one other apart)
    ]

pub apart-names : (one other : Name) → one ≢ other → is_same one other ≡ false
apart-names one other apart =
    elim (cases_Bool (is_same one other)) [
      | inl is ↦ absurd (apart (same-names one other is))
      | inr not_same ↦ not_same
    ]
