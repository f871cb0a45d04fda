-- Calls that are to be sent again, by one number after the other.
use Rattle.std.proofs.Common.{◌≡◌, ◌∙◌, ℕ, zero, suc, ◌+◌, ◌<◌, List, [], ◌∷◌, length, take, fold, slice_index, ap, refl, Option, Some, None, arith}
use Rattle.std.specs.Prelude.{slice_get}
use Rattle.std.specs.List.{zip}
use Rattle.call_table.specs.declared.call.CallNo.{CallNo}
use Rattle.call_table.specs.Table.{Table, owner}
use Rattle.client_calls.specs.Marks.{table_alone, table_alone_at}

-- ---- one more of a list

pub fold_more : {S : Type 0} (f : S → ℕ → S) (s : S) (k : ℕ) (xs : List ℕ) → k < length xs → fold f s (take (suc k) xs) ≡ f (fold f s (take k xs)) (slice_index xs k)
fold_more f s k [] less = absurd (omega (arith, less))
fold_more f s zero (x ∷ xs) less = refl
fold_more f s (suc k) (x ∷ xs) less = fold_more f (f s x) k xs (omega (arith, less))

pub fold_all : {S X : Type 0} (f : S → X → S) (s : S) (k : ℕ) (xs : List X) → k ≡ length xs → fold f s (take k xs) ≡ fold f s xs
fold_all f s zero [] all = refl
fold_all f s zero (x ∷ xs) all = absurd (omega (arith, all))
fold_all f s (suc k) [] all = absurd (omega (arith, all))
fold_all f s (suc k) (x ∷ xs) all = fold_all f (f s x) k xs (omega (arith, all))

-- one more of two lists
pub fold_both : {S : Type 0} (f : S → ℕ × ℕ → S) (s : S) (k : ℕ) (xs ys : List ℕ) → k < length xs → k < length ys
    → fold f s (zip (take (suc k) xs) (take (suc k) ys)) ≡ f (fold f s (zip (take k xs) (take k ys))) (slice_index xs k, slice_index ys k)
fold_both f s k [] ys less less' = absurd (omega (arith, less))
fold_both f s k (x ∷ xs) [] less less' = absurd (omega (arith, less'))
fold_both f s zero (x ∷ xs) (y ∷ ys) less less' = refl
fold_both f s (suc k) (x ∷ xs) (y ∷ ys) less less' = fold_both f (f s (x, y)) k xs ys (omega (arith, less)) (omega (arith, less'))

abbrev value_of : ℕ → Option ℕ → ℕ
value_of x None = x
value_of x (Some y) = y

-- by what a place gives
pub fold_got : {S : Type 0} (f : S → ℕ → S) (s : S) (k number : ℕ) (xs : List ℕ) → slice_get xs k ≡ Some number → fold f s (take (suc k) xs) ≡ f (fold f s (take k xs)) number
fold_got f s k number [] told = absurd (grind (arith, told))
fold_got f s zero number (x ∷ xs) told = ap (λ (got : Option ℕ). f s (value_of x got)) told
fold_got f s (suc k) number (x ∷ xs) told = fold_got f (f s x) k number xs told

pub got_there : (k : ℕ) (xs : List ℕ) → k < length xs → slice_get xs k ≡ None → ⊥
got_there k [] less told = absurd (omega (arith, less))
got_there zero (x ∷ xs) less told = grind (arith, told)
got_there (suc k) (x ∷ xs) less told = got_there k xs (omega (arith, less)) told

-- ---- the packets are as they were

packets_at : (own : Option CallNo) (table : Table) → (table_alone_at own table).packets ≡ table.packets
packets_at None table = refl
packets_at (Some call) table = refl

pub packets_stay : (numbers : List ℕ) (table : Table) → (fold table_alone table numbers).packets ≡ table.packets
packets_stay [] table = refl
packets_stay (number ∷ numbers) table = packets_stay numbers (table_alone table number) ∙ packets_at (owner number table.calls) table

-- ---- by a place

pub fold_next : {S : Type 0} (f : S → ℕ → S) (s : S) (k : ℕ) (xs : List ℕ) → k < length xs → fold f s (take (k + 1) xs) ≡ f (fold f s (take k xs)) (slice_index xs k)
fold_next f s k xs less = let more : k + 1 ≡ suc k = omega arith in ap (λ n. fold f s (take n xs)) more ∙ fold_more f s k xs less

pub fold_next_both : {S : Type 0} (f : S → ℕ × ℕ → S) (s : S) (k : ℕ) (xs ys : List ℕ) → k < length xs → length ys ≡ length xs
    → fold f s (zip (take (k + 1) xs) (take (k + 1) ys)) ≡ f (fold f s (zip (take k xs) (take k ys))) (slice_index xs k, slice_index ys k)
fold_next_both f s k xs ys less same = let more : k + 1 ≡ suc k = omega arith in ap (λ n. fold f s (zip (take n xs) (take n ys))) more ∙ fold_both f s k xs ys less (omega (arith, less, same))

pub fold_next_got : {S : Type 0} (f : S → ℕ → S) (s : S) (k number : ℕ) (xs : List ℕ) → slice_get xs k ≡ Some number → fold f s (take (k + 1) xs) ≡ f (fold f s (take k xs)) number
fold_next_got f s k number xs told = let more : k + 1 ≡ suc k = omega arith in ap (λ n. fold f s (take n xs)) more ∙ fold_got f s k number xs told

pub fold_whole_both : {S : Type 0} (f : S → ℕ × ℕ → S) (s : S) (k : ℕ) (xs ys : List ℕ) → k ≡ length xs → length ys ≡ length xs → fold f s (zip (take k xs) (take k ys)) ≡ fold f s (zip xs ys)
fold_whole_both f s zero [] ys all same = refl
fold_whole_both f s zero (x ∷ xs) ys all same = absurd (omega (arith, all))
fold_whole_both f s (suc k) [] ys all same = absurd (omega (arith, all))
fold_whole_both f s (suc k) (x ∷ xs) [] all same = absurd (omega (arith, same))
fold_whole_both f s (suc k) (x ∷ xs) (y ∷ ys) all same = fold_whole_both f (f s (x, y)) k xs ys (omega (arith, all)) (omega (arith, same))
