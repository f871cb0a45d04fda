-- The names and sums of a map's entries.
use Rattle.std.proofs.Common.{◌≡◌, ◌∙◌, ℕ, suc, List, [], ◌∷◌, length, cond, true, nat_lt, ◌||◌, ◌+◌, ◌≤◌, Option, Some, None, is_some, arith, refl, sym, ap, Vec, Global}
use Rattle.std.specs.List.{AllZip}
use Rattle.std.specs.BTreeMap.{insert_entry, is_at}
use Rattle.std.specs.Map.{lookup}
use Rattle.std.specs.declared.cmp.Ordering.{Ordering}
use Rattle.std.specs.declared.cmp.Ordering.TheVariants.{Less, Equal, Greater}
use Rattle.std.specs.Ordering.{nat_cmp, is_eq, match_ordering}
use Rattle.std.specs.Cmp.Lexicographic.{slice_cmp}
use Rattle.std.proofs.lemmas.Bool.{ltb-true}
use Rattle.regs_service.specs.Kept.{sums_of}
use Rattle.regs_service.specs.Registers.{find, has_place}

-- what a query finds in the map is what the name finds in its names and sums
pub found : (name : List ℕ) (entries : List (Vec ℕ Global × ℕ))
    → lookup (is_at (slice_cmp nat_cmp name)) (sums_of entries) ≡ lookup (is_at (λ key. slice_cmp nat_cmp name key.items)) entries
found name [] = refl
found name (entry ∷ entries) = ap (cond (is_eq (slice_cmp nat_cmp name entry.0.items)) _) (found name entries)

by_order : {A B : Type 0} (f : A → B) (o : Ordering) (x y z : A) (w : B) → f z ≡ w → f (match_ordering o x y z) ≡ match_ordering o (f x) (f y) w
by_order f Less x y z w e = refl
by_order f Equal x y z w e = refl
by_order f Greater x y z w e = e

-- an insert into the map puts the sum at the name
pub inserted : (key : Vec ℕ Global) (sum : ℕ) (entries : List (Vec ℕ Global × ℕ))
    → sums_of (insert_entry (λ x y. slice_cmp nat_cmp x.items y.items) entries key sum) ≡ insert_entry (slice_cmp nat_cmp) (sums_of entries) key.items sum
inserted key sum [] = refl
inserted key sum (entry ∷ entries) = by_order sums_of (slice_cmp nat_cmp key.items entry.0.items) _ _ _ _ (ap (λ rest. (entry.0.items, entry.1) ∷ rest) (inserted key sum entries))

-- a copy of each entry gives the same names and sums
pub copied : (C : Vec ℕ Global → Vec ℕ Global → Type 0) (D : ℕ → ℕ → Type 0) → ((x y : Vec ℕ Global) → C x y → y.items ≡ x.items) → ((v w : ℕ) → D v w → w ≡ v)
    → (es fs : List (Vec ℕ Global × ℕ)) → AllZip (λ p q. C p.0 q.0 × D p.1 q.1) es fs → sums_of fs ≡ sums_of es
copied C D c d [] [] h = refl
copied C D c d [] (f ∷ fs) h = absurd h
copied C D c d (e ∷ es) [] h = absurd h
copied C D c d (e ∷ es) (f ∷ fs) h = λ i. (c e.0 f.0 h.0.0 i, d e.1 f.1 h.0.1 i) ∷ copied C D c d es fs h.1 i

counts : (entries : List (Vec ℕ Global × ℕ)) → length (sums_of entries) ≡ length entries
counts [] = refl
counts (entry ∷ entries) = ap suc (counts entries)

counted : (o : Option ℕ) (n m : ℕ) → n ≤ 65536 → (is_some o || nat_lt n 65536) ≡ true → m ≡ n + cond (is_some o) 0 1 → m ≤ 65536
counted (Some v) n m few place len = omega (arith, few, len)
counted None n m few place len = let below = ltb-true n 65536 place in omega (arith, below, len)

-- a name that has a place leaves them few
pub still_few : (name : List ℕ) (key : Vec ℕ Global) (entries : List (Vec ℕ Global × ℕ)) (after : ℕ) (old : Option ℕ)
    → key.items ≡ name → length entries ≤ 65536 → has_place (sums_of entries) name ≡ true
    → old ≡ lookup (is_at (λ k. slice_cmp nat_cmp key.items k.items)) entries → after ≡ length entries + cond (is_some old) 0 1 → after ≤ 65536
still_few name key entries after old own few place at len =
    let there : old ≡ find (sums_of entries) name = at ∙ sym (found key.items entries) ∙ ap (λ n. find (sums_of entries) n) own in
    counted old (length entries) after few
    (ap (λ o. is_some o || nat_lt (length entries) 65536) there ∙ ap (λ n. is_some (find (sums_of entries) name) || nat_lt n 65536) (sym (counts entries)) ∙ place)
    len
