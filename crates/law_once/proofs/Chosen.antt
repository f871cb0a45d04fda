-- Words that stand no more often than among some that are drawn have places there, each its own.
use Rattle.std.proofs.Common.{◌≡◌, ◌≢◌, ℕ, zero, suc, ◌+◌, ◌<◌, ◌≤◌, ◌==◌, ◌&&◌, Bool, true, false, List, [], ◌∷◌, map, if◌then◌else◌, inl, inr, refl, sym, ap, subst, ◌∙◌, arith, eq-eqb, ne_eqb}
use Rattle.std.specs.List.{AllByRecursion, AllPairs}
use Rattle.std.proofs.lemmas.Bool.{and_parts, cases_Bool, cases_eq, eqb-true}
use Rattle.std.proofs.lemmas.List.Kept.{AllPairs-cons}
use Rattle.draws.specs.Draws.{next_words, word_after}
use Rattle.law_once.specs.Words.{HavePlaces}
use Rattle.law_once.proofs.Lists.{at_each, map_all}
use Rattle.law_once.proofs.Counting.{count}
use Rattle.law_once.proofs.Later.{count_more}

abbrev one_if : Bool → ℕ
one_if true = 1
one_if false = 0

count_first : (x y : ℕ) (ys : List ℕ) → count x (y ∷ ys) ≡ one_if (y == x) + count x ys
count_first x y ys =
    elim (cases_Bool (y == x)) [
      | inl is ↦ rw is (omega arith)
      | inr not_so ↦ rw not_so (omega arith)
    ]

module _ (word : ℕ → ℕ) where
  -- how many of the first n places are free and have this word
  abbrev free_with : (ℕ → Bool) → ℕ → ℕ → ℕ
  free_with free x zero = 0
  free_with free x (suc n) = one_if (free n && (word n == x)) + free_with free x n

  -- one of them
  found : (free : ℕ → Bool) (x n : ℕ) → 1 ≤ free_with free x n → (place : ℕ) × (place < n) × (free place ≡ true) × (word place ≡ x)
  found free x zero some = absurd (omega (arith, some))
  found free x (suc n) some =
      elim (cases_Bool (free n && (word n == x))) [
        | inl is ↦ let both = and_parts (free n) (word n == x) is in (n, omega arith, both.0, eqb-true (word n) x both.1)
        | inr not_so ↦
            let e : one_if (free n && (word n == x)) ≡ 0 = ap one_if not_so in
            let rest = found free x n (omega (arith, some, e)) in
            let below : rest.0 < n = rest.1 in
            (rest.0, omega (arith, below), rest.2, rest.3)
      ]

  -- all but one
  abbrev but : ℕ → (ℕ → Bool) → ℕ → Bool
  but place free other = if other == place then false else free other

  before_it : (place : ℕ) (free : ℕ → Bool) (x n : ℕ) → n ≤ place → free_with (but place free) x n ≡ free_with free x n
  before_it place free x zero below = refl
  before_it place free x (suc n) below =
      let rest = before_it place free x n (omega (arith, below)) in
      let other : (n == place) ≡ false = ne_eqb n place (λ is. absurd (omega (arith, is, below))) in
      let same : but place free n ≡ free n = rw other refl in
      omega (arith, rest, ap (λ (b : Bool). one_if (b && (word n == x))) same)

  one_most : (a b : Bool) → one_if (a && b) ≤ one_if b
  one_most true b = omega arith
  one_most false true = omega arith
  one_most false false = omega arith

  one_less : (place : ℕ) (free : ℕ → Bool) (x n : ℕ) → free_with free x n ≤ free_with (but place free) x n + one_if (word place == x)
  one_less place free x zero = omega arith
  one_less place free x (suc n) =
      elim (cases_eq n place) [
        | inl is ↦
            let rest = before_it place free x n (omega (arith, is)) in
            let most = one_most (free n) (word n == x) in
            omega (arith, rest, most, ap (λ (k : ℕ). one_if (word k == x)) is)
        | inr differs ↦
            let rest = one_less place free x n in
            let same : but place free n ≡ free n = rw (ne_eqb n place differs) refl in
            omega (arith, rest, ap (λ (b : Bool). one_if (b && (word n == x))) same)
      ]

  -- each its own
  record Chosen (free : ℕ → Bool) (n : ℕ) (xs : List ℕ) : Type 0 where
    places : List ℕ
    each : AllByRecursion (λ (place : ℕ). (place < n) × (free place ≡ true)) places
    apart : AllPairs (λ place other. place ≢ other) places
    there : xs ≡ map word places

  free_but : (place other : ℕ) (free : ℕ → Bool) → but place free other ≡ true → (place ≢ other) × (free other ≡ true)
  free_but place other free is =
      elim (cases_eq other place) [
        | inl same ↦ let e : false ≡ true = subst (λ (b : Bool). (if b then false else free other) ≡ true) (eq-eqb other place same) is in absurd (cc)
        | inr differs ↦ ((λ same. differs (sym same)), subst (λ (b : Bool). (if b then false else free other) ≡ true) (ne_eqb other place differs) is)
      ]

  chosen : (xs : List ℕ) (free : ℕ → Bool) (n : ℕ) → ((x : ℕ) → count x xs ≤ free_with free x n) → Chosen free n xs
  chosen [] free n within = record { places = []; each = tt; apart = λ i j d below inside. absurd (omega arith); there = refl }
  chosen (x ∷ xs) free n within =
      let first = within x in
      let one : one_if (x == x) ≡ 1 = ap one_if (eq-eqb x x refl) in
      let it = found free x n (omega (arith, first, one, count_first x x xs)) in
      let rest : Chosen (but it.0 free) n xs =
      chosen xs (but it.0 free) n
      (λ y. let most = within y in let less = one_less it.0 free y n in
      omega (arith, most, less, count_first y x xs, ap (λ (w : ℕ). one_if (w == y)) it.3)) in
      record {
        places = it.0 ∷ rest.places;
        each = (
          (it.1, it.2),
          map_all (λ (place : ℕ). (place < n) × (but it.0 free place ≡ true)) (λ (place : ℕ). (place < n) × (free place ≡ true)) rest.places
              (λ place among h. let its = free_but it.0 place free h.1 in (h.0, its.1)) rest.each,
        );
        apart =
            AllPairs-cons (λ place other. place ≢ other) it.0 rest.places
            (at_each (λ (other : ℕ). it.0 ≢ other) rest.places
            (map_all (λ (place : ℕ). (place < n) × (but it.0 free place ≡ true)) (λ (other : ℕ). it.0 ≢ other) rest.places
            (λ place among h. let its = free_but it.0 place free h.1 in its.0) rest.each)) rest.apart;
        there = ap (λ (l : List ℕ). x ∷ l) rest.there ∙ ap (λ (w : ℕ). w ∷ map word rest.places) (sym it.3);
      }

module _ {S : Type 0} (step : S → ℕ × S) (draw : S) where
  all_free : (x n : ℕ) → count x (next_words step n draw) ≡ free_with (λ place. word_after step place draw) (λ place. true) x n
  all_free x zero = refl
  all_free x (suc n) =
      let e : suc n ≡ n + 1 = omega arith in
      let rest = all_free x n in
      omega (
        arith,
        rest,
        ap (λ (m : ℕ). count x (next_words step m draw)) e,
        count_more step x n 1 draw,
        count_first x (word_after step n draw) [],
      )

  pub have_places : (xs : List ℕ) (n : ℕ) → ((x : ℕ) → count x xs ≤ count x (next_words step n draw)) → HavePlaces step draw n xs
  have_places xs n within =
      let its = chosen (λ place. word_after step place draw) xs (λ place. true) n (λ x. let most = within x in omega (arith, most, all_free x n)) in
      record {
        places = its.places;
        below =
            at_each (λ (place : ℕ). place < n) its.places
            (map_all (λ (place : ℕ). (place < n) × (true ≡ true)) (λ (place : ℕ). place < n) its.places (λ place among h. h.0) its.each);
        apart = its.apart;
        there = its.there;
      }
