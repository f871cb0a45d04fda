-- What the laws of salt lines say.
use Rattle.std.proofs.Common.{◌≡◌, ◌≢◌, ℕ, zero, suc, ◌<◌, ◌≤◌, ◌⊎◌, inl, inr, true, false, cond, List, [], ◌∷◌, ◌++◌, length, map, ap, ◌∙◌, sym, refl, subst, arith, append-nil, append_assoc, get_or}
use Rattle.std.specs.Prelude.{Any, AllPairs, nat_eq, ◌||◌}
use Rattle.std.proofs.lemmas.Bool.{eqb-true, eq-eqb}
use Rattle.std.proofs.lemmas.List.{map-append}
use Rattle.std.proofs.lemmas.List.Quantifiers.{all_pairs_push}
use Rattle.draws.specs.Draws.{draw_after, next_words}
use Rattle.salt_line.specs.Rows.{Row, IsValidAt, period_at}
use Rattle.salt_line.specs.Needed.{has_row, word_in, needed, needed_from}
use Rattle.salt_line.proofs.TestLemmas.{bool_cases, any_here, any_there}
use Rattle.salt_line.proofs.NeededLemmas.{needed-there, needed-missing, needed-has, needed-keeps}

-- a row of this period stands in the list
has_row-at : (q : ℕ) (xs : List Row) (k : ℕ) (d : Row) → k < length xs → (get_or xs k d).period ≡ q → has_row q xs ≡ true
has_row-at q [] k d inside is = absurd (omega arith)
has_row-at q (x ∷ xs) zero d inside is = ap (λ b. b || has_row q xs) (eq-eqb x.period q is)
has_row-at q (x ∷ xs) (suc k) d inside is =
    elim (nat_eq x.period q) as (λ b. (b || has_row q xs) ≡ true) [
      | true ↦ refl
      | false ↦ has_row-at q xs k d (omega arith) is
    ]

abbrev pub AreApart : List Row → Type 0
AreApart = AllPairs (λ one other. one.period ≢ other.period)

apart-needed-go : {S : Type 0} (step : S → ℕ × S) (q : ℕ) (both : List Row × S) → AreApart both.0
    → ((has_row q both.0 ≡ true) ⊎ (has_row q both.0 ≡ false)) → AreApart (needed step q both).0
apart-needed-go step q both apart (inl holds) = subst (λ b. AreApart b.0) (sym (needed-there step q both holds)) apart
apart-needed-go step q both apart (inr fails) =
    subst (λ b. AreApart b.0) (sym (needed-missing step q both fails))
    (all_pairs_push (λ (one other : Row). one.period ≢ other.period) both.0 record { period = q; word = (step both.1).0 } apart
    (λ k d inside is. let e : true ≡ false = sym (has_row-at q both.0 k d inside is) ∙ fails in cc))

pub apart-needed_from : {S : Type 0} (step : S → ℕ × S) (q n : ℕ) (both : List Row × S) → AreApart both.0
    → AreApart (needed_from step q n both).0
apart-needed_from step q zero both apart = apart
apart-needed_from step q (suc n) both apart =
    apart-needed_from step (suc q) n (needed step q both) (apart-needed-go step q both apart (bool_cases (has_row q both.0)))

-- so many words were drawn, each for a row of its own
abbrev pub Drew : {S : Type 0} → (S → ℕ × S) → List Row × S → List Row × S → Type 0
Drew step before after =
    (count : ℕ)
    × (map (λ row. row.word) after.0 ≡ map (λ row. row.word) before.0 ++ next_words step count before.1)
    × (after.1 ≡ draw_after step count before.1)

drew-go : {S : Type 0} (step : S → ℕ × S) (q n : ℕ) (both : List Row × S)
    → Drew step (needed step q both) (needed_from step (suc q) n (needed step q both))
    → ((has_row q both.0 ≡ true) ⊎ (has_row q both.0 ≡ false))
    → Drew step both (needed_from step (suc q) n (needed step q both))
drew-go step q n both rest (inl holds) =
    let e = needed-there step q both holds in
    subst (λ b. Drew step b (needed_from step (suc q) n (needed step q both))) e rest
drew-go step q n both rest (inr fails) =
    let e = needed-missing step q both fails in
    let words : List Row → List ℕ = map (λ row. row.word) in
    let more = subst (λ b. Drew step b (needed_from step (suc q) n (needed step q both))) e rest in (
      suc more.0,
      more.1
          ∙ ap (λ l. l ++ next_words step more.0 (step both.1).1)
          (map-append (λ (row : Row). row.word) both.0 (record { period = q; word = (step both.1).0 } ∷ []))
          ∙ append_assoc (words both.0) ((step both.1).0 ∷ []) (next_words step more.0 (step both.1).1),
      more.2,
    )

pub drew-needed_from : {S : Type 0} (step : S → ℕ × S) (q n : ℕ) (both : List Row × S)
    → Drew step both (needed_from step q n both)
drew-needed_from step q zero both = (0, sym (append-nil (map (λ row. row.word) both.0)), refl)
drew-needed_from step q (suc n) both =
    drew-go step q n both (drew-needed_from step (suc q) n (needed step q both)) (bool_cases (has_row q both.0))

-- the word of a period that has a row is the word of one of its rows
any-word_in : (q : ℕ) (xs : List Row) → has_row q xs ≡ true → Any (λ row. (row.word ≡ word_in q xs) × (row.period ≡ q)) xs
any-word_in q [] h = absurd (cc)
any-word_in q (x ∷ xs) h =
    (elim (bool_cases (nat_eq x.period q)) [
      | inl holds ↦
          any_here (λ row. (row.word ≡ word_in q (x ∷ xs)) × (row.period ≡ q)) x xs
          (sym (ap (λ b. cond b x.word (word_in q xs)) holds), eqb-true x.period q holds)
      | inr fails ↦
          let there = any-word_in q xs (sym (ap (λ b. b || has_row q xs) fails) ∙ h) in
          subst (λ (w : ℕ). Any (λ row. (row.word ≡ w) × (row.period ≡ q)) (x ∷ xs))
          (sym (ap (λ b. cond b x.word (word_in q xs)) fails))
          (any_there (λ row. (row.word ≡ word_in q xs) × (row.period ≡ q)) x xs there)
    ])

has-needed_from : {S : Type 0} (step : S → ℕ × S) (q n r : ℕ) (both : List Row × S) → has_row r both.0 ≡ true
    → has_row r (needed_from step q n both).0 ≡ true
has-needed_from step q zero r both h = h
has-needed_from step q (suc n) r both h =
    has-needed_from step (suc q) n r (needed step q both) (needed-keeps step r q both h).0

pub has-needed_first : {S : Type 0} (step : S → ℕ × S) (q n : ℕ) (both : List Row × S) → 0 < n
    → has_row q (needed_from step q n both).0 ≡ true
has-needed_first step q zero both some = absurd (omega arith)
has-needed_first step q (suc n) both some =
    has-needed_from step (suc q) n q (needed step q both) (needed-has step q both)

-- the word of the current period, where there is a row, is that of a valid row
pub current-valid : (start now : ℕ) (xs : List Row) → start ≤ now → has_row (period_at start now) xs ≡ true
    → Any (λ row. (row.word ≡ word_in (period_at start now) xs) × IsValidAt start row now) xs
current-valid start now xs started h =
    let some = any-word_in (period_at start now) xs h in
    let at = some.4.1 in
    (some.0, some.1, some.2, some.3, (some.4.0, (omega arith, omega arith)))
