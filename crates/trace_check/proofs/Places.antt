-- Keys of a list, and where they stand.
use Rattle.std.proofs.Common.{◌≡◌, ◌≢◌, ◌∙◌, ℕ, zero, suc, ◌<◌, Bool, true, false, cond, List, [], ◌∷◌, ◌++◌, length, Option, Some, None, IsTrue, is_some, ◌↔◌, inl, inr, ◌⊎◌, refl, sym, ap, subst, arith}
use Rattle.std.specs.BTreeMap.{BTreeMap, get, Updates}
use Rattle.std.specs.Ordering.{nat_cmp, ordering_then, is_eq}
use Rattle.std.specs.Cmp.{nat_cmp_is}
use Rattle.std.specs.declared.cmp.Ordering.{Ordering}
use Rattle.std.specs.declared.cmp.Ordering.TheVariants.{Less, Equal, Greater}
use Rattle.std.proofs.lemmas.Map.Lookups.{exact_unsigned}
use Rattle.std.proofs.lemmas.Bool.{cases_lt, ltb-true, lt-ltb}
use Rattle.trace_check.specs.declared.numbered.Numbered.{Numbered}
use Rattle.trace_check.specs.declared.table.Row.{Row}
use Rattle.trace_check.specs.Indexes.{key_cmp, Stands, IsRow, Indexes, first_of_row, row_before, row_twice}

-- ---- the order of keys tells them apart

both_equal : (a b : Ordering) → is_eq (ordering_then a b) ≡ true → (a ≡ Equal) × (b ≡ Equal)
both_equal Equal Equal e = (refl, refl)
both_equal Equal Less e = cc
both_equal Equal Greater e = cc
both_equal Less b e = cc
both_equal Greater b e = cc

pub same_key : (k q : Numbered) → is_eq (key_cmp k q) ≡ true → k ≡ q
same_key k q e =
    let both = both_equal (nat_cmp k.owner q.owner) (nat_cmp k.number q.number) e in
    let owner = exact_unsigned k.owner q.owner both.0 in
    let number = exact_unsigned k.number q.number both.1 in
    λ i. record { owner = owner i; number = number i }

pub key_itself : (k : Numbered) → is_eq (key_cmp k k) ≡ true
key_itself k =
    let owner : Equal ≡ nat_cmp k.owner k.owner = nat_cmp_is k.owner k.owner Equal refl in
    let number : Equal ≡ nat_cmp k.number k.number = nat_cmp_is k.number k.number Equal refl in
    ap is_eq (ap (λ o. ordering_then o (nat_cmp k.number k.number)) (sym owner) ∙ sym number)

-- ---- a list with one member more

pub stands_more : (keys : List (Option Numbered)) (last : Option Numbered) (place : ℕ) (key : Numbered) → Stands (keys ++ last ∷ []) place key → Stands keys place key ⊎ ((place ≡ length keys) × (last ≡ Some key))
stands_more [] last zero key s = inr (refl, cc)
stands_more [] last (suc place) key s = absurd cc
stands_more (k ∷ keys) last zero key s = inl s
stands_more (k ∷ keys) last (suc place) key s =
    elim (stands_more keys last place key s) [ inl h ↦ inl h | inr h ↦ inr (omega (arith, h.0), h.1) ]

pub stands_kept : (keys : List (Option Numbered)) (last : Option Numbered) (place : ℕ) (key : Numbered) → Stands keys place key → Stands (keys ++ last ∷ []) place key
stands_kept [] last place key s = absurd cc
stands_kept (k ∷ keys) last zero key s = s
stands_kept (k ∷ keys) last (suc place) key s = stands_kept keys last place key s

pub stands_last : (keys : List (Option Numbered)) (key : Numbered) → Stands (keys ++ Some key ∷ []) (length keys) key
stands_last [] key = refl
stands_last (k ∷ keys) key = stands_last keys key

pub stands_within : (keys : List (Option Numbered)) (place : ℕ) (key : Numbered) → Stands keys place key → place < length keys
stands_within [] place key s = absurd cc
stands_within (k ∷ keys) zero key s = omega arith
stands_within (k ∷ keys) (suc place) key s = omega (arith, stands_within keys place key s)

-- ---- rows of a list with one member more

-- of another key
pub row_kept : (keys : List (Option Numbered)) (last : Option Numbered) (key : Numbered) (row : Option Row) → last ≢ Some key → IsRow keys key row → IsRow (keys ++ last ∷ []) key row
row_kept keys last key None apart is = λ place s. elim (stands_more keys last place key s) [ inl h ↦ is place h | inr h ↦ apart h.1 ]
row_kept keys last key (Some row) apart is = (
  record {
    stands = stands_kept keys last row.first key is.0.stands;
    least = λ place s less. elim (stands_more keys last place key s) [ inl h ↦ is.0.least place h less | inr h ↦ apart h.1 ];
  },
  record {
    stands = stands_kept keys last row.last key is.1.stands;
    greatest = λ place s more. elim (stands_more keys last place key s) [ inl h ↦ is.1.greatest place h more | inr h ↦ apart h.1 ];
  },
)

-- of the key of that member
pub row_noted : (keys : List (Option Numbered)) (key : Numbered) (row : Option Row) (place : ℕ) → length keys ≡ place → IsRow keys key row
    → IsRow (keys ++ Some key ∷ []) key (Some (record { first = first_of_row row place; last = place }))
row_noted keys key None place e is =
    let at : Stands (keys ++ Some key ∷ []) place key = subst (λ p. Stands (keys ++ Some key ∷ []) p key) e (stands_last keys key) in (
      record {
        stands = at;
        least = λ other s less. elim (stands_more keys (Some key) other key s) [ inl h ↦ is other h | inr h ↦ omega (arith, e, h.0, less) ];
      },
      record {
        stands = at;
        greatest = λ other s more. elim (stands_more keys (Some key) other key s) [ inl h ↦ is other h | inr h ↦ omega (arith, e, h.0, more) ];
      },
    )
row_noted keys key (Some row) place e is =
    let at : Stands (keys ++ Some key ∷ []) place key = subst (λ p. Stands (keys ++ Some key ∷ []) p key) e (stands_last keys key) in (
      record {
        stands = stands_kept keys (Some key) row.first key is.0.stands;
        least = λ other s less. elim (stands_more keys (Some key) other key s) [
          | inl h ↦ is.0.least other h less
          | inr h ↦ let within = stands_within keys row.first key is.0.stands in omega (arith, e, h.0, less, within)
        ];
      },
      record {
        stands = at;
        greatest = λ other s more. elim (stands_more keys (Some key) other key s) [
          | inl h ↦ let within = stands_within keys other key h in omega (arith, e, within, more)
          | inr h ↦ omega (arith, e, h.0, more)
        ];
      },
    )

-- ---- maps

-- what a row becomes where a test says whether it is the key's
noted_at : (keys : List (Option Numbered)) (key q : Numbered) (place first : ℕ) (row : Option Row) (new : Option Row) (b : Bool) → is_eq (key_cmp key q) ≡ b → length keys ≡ place
    → (key ≡ q → first ≡ first_of_row row place) → new ≡ cond b (Some (record { first = first; last = place })) row → IsRow keys q row → IsRow (keys ++ Some key ∷ []) q new
noted_at keys key q place first row new true test e own is h =
    let same = same_key key q test in
    let written : new ≡ Some (record { first = first_of_row row place; last = place }) = is ∙ ap (λ (f : ℕ). Some (record { first = f; last = place })) (own same) in
    subst (λ (n : Option Row). IsRow (keys ++ Some key ∷ []) q n) (sym written)
    (subst (λ (k : Numbered). IsRow (keys ++ Some k ∷ []) q (Some (record { first = first_of_row row place; last = place }))) (sym same) (row_noted keys q row place e h))
noted_at keys key q place first row new false test e own is h =
    let apart : Some key ≢ Some q = λ s. let k : key ≡ q = cc in let t : is_eq (key_cmp key q) ≡ true = subst (λ (v : Numbered). is_eq (key_cmp key v) ≡ true) k (key_itself key) in cc in
    subst (λ (n : Option Row). IsRow (keys ++ Some key ∷ []) q n) (sym is) (row_kept keys (Some key) q row apart h)

pub noted : (rows new : BTreeMap Numbered Row) (keys : List (Option Numbered)) (key : Numbered) (place first : ℕ) → Indexes rows keys → length keys ≡ place
    → first ≡ first_of_row (get key_cmp rows key) place → Updates key_cmp rows new key (Some (record { first = first; last = place })) → Indexes new (keys ++ Some key ∷ [])
noted rows new keys key place first h e own updates q =
    noted_at keys key q place first (get key_cmp rows q) (get key_cmp new q) (is_eq (key_cmp key q)) refl e (λ same. own ∙ ap (λ (k : Numbered). first_of_row (get key_cmp rows k) place) same) (updates.0 q) (h q)

-- ---- what rows say

pub has_row : (keys : List (Option Numbered)) (key : Numbered) (row : Option Row) → IsRow keys key row → IsTrue (is_some row) ↔ ((place : ℕ) × Stands keys place key)
has_row keys key None h = (λ e. cc, λ s. absurd (h s.0 s.1))
has_row keys key (Some row) h = (λ e. (row.first, h.0.stands), λ s. refl)

pub row_is_before : (keys : List (Option Numbered)) (key : Numbered) (row : Option Row) (place : ℕ) → IsRow keys key row
    → IsTrue (row_before row place) ↔ ((earlier : ℕ) × (earlier < place) × Stands keys earlier key)
row_is_before keys key None place h = (λ e. cc, λ s. absurd (h s.0 s.2))
row_is_before keys key (Some row) place h = (
  λ e. (row.first, ltb-true row.first place e, h.0.stands),
  λ s. lt-ltb row.first place (elim (cases_lt s.0 row.first) [ inl less ↦ absurd (h.0.least s.0 s.2 less) | inr more ↦ omega (arith, more, s.1) ]),
)

pub row_is_twice : (keys : List (Option Numbered)) (key : Numbered) (row : Option Row) → IsRow keys key row
    → IsTrue (row_twice row) ↔ ((first second : ℕ) × (first < second) × Stands keys first key × Stands keys second key)
row_is_twice keys key None h = (λ e. cc, λ s. absurd (h s.0 s.3))
row_is_twice keys key (Some row) h = (
  λ e. (row.first, row.last, ltb-true row.first row.last e, h.0.stands, h.1.stands),
  λ s. lt-ltb row.first row.last
      (elim (cases_lt s.0 row.first) [
        | inl less ↦ absurd (h.0.least s.0 s.3 less)
        | inr more ↦ elim (cases_lt row.last s.1) [ inl less ↦ absurd (h.1.greatest s.1 s.4 less) | inr most ↦ omega (arith, more, most, s.2) ]
      ]),
)
