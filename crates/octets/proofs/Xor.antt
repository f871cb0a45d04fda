-- The exclusive or of lists, place by place.
use Rattle.std.proofs.Common.{◌≡◌, ℕ, zero, suc, ◌<◌, ◌≤◌, List, [], ◌∷◌, ◌++◌, length, slice_index, refl, sym, ap, ap₂, ◌∙◌, arith, lit<}
use Rattle.std.specs.Prelude.{bit_xor}
use Rattle.std.specs.Int.Bits.{xor_assoc, xor_self, xor_zero_r}
use Rattle.std.proofs.lemmas.List.{same_lists, get_or_default}
use Rattle.std.proofs.lemmas.Nat.{xor_lt, xor_comm}
use Rattle.octets.specs.Bytes.{IsBytes, HasBytes, xor_bytes}

xor_twice : (x y : ℕ) → bit_xor (bit_xor x y) y ≡ x
xor_twice x y = rw (xor_assoc x y y, xor_self y, xor_zero_r x) refl

pub length-xor_bytes : (xs ys : List ℕ) → length xs ≤ length ys → length (xor_bytes xs ys) ≡ length xs
length-xor_bytes [] ys h = refl
length-xor_bytes (x ∷ xs) [] h = absurd (omega arith)
length-xor_bytes (x ∷ xs) (y ∷ ys) h = ap suc (length-xor_bytes xs ys (omega arith))

pub IsBytes-xor_bytes : (xs ys : List ℕ) → IsBytes xs → IsBytes ys → IsBytes (xor_bytes xs ys)
IsBytes-xor_bytes [] ys h t i = lit< tt
IsBytes-xor_bytes (x ∷ xs) [] h t i = lit< tt
IsBytes-xor_bytes (x ∷ xs) (y ∷ ys) h t zero = xor_lt 8 x y (h 0) (t 0)
IsBytes-xor_bytes (x ∷ xs) (y ∷ ys) h t (suc i) = IsBytes-xor_bytes xs ys (λ j. h (suc j)) (λ j. t (suc j)) i

pub HasBytes-xor_bytes : (n : ℕ) (xs ys : List ℕ) → HasBytes n xs → HasBytes n ys → HasBytes n (xor_bytes xs ys)
HasBytes-xor_bytes n xs ys h t = record {
  count = length-xor_bytes xs ys (omega (arith, h.count, t.count)) ∙ h.count;
  in_range = IsBytes-xor_bytes xs ys h.in_range t.in_range;
}

pub slice_index-xor_bytes : (xs ys : List ℕ) (k : ℕ) → k < length xs → k < length ys
    → slice_index (xor_bytes xs ys) k ≡ bit_xor (slice_index xs k) (slice_index ys k)
slice_index-xor_bytes [] ys k h t = absurd (omega arith)
slice_index-xor_bytes (x ∷ xs) [] k h t = absurd (omega arith)
slice_index-xor_bytes (x ∷ xs) (y ∷ ys) zero h t = refl
slice_index-xor_bytes (x ∷ xs) (y ∷ ys) (suc k) h t = slice_index-xor_bytes xs ys k (omega arith) (omega arith)

-- a list that is the exclusive or at each place
pub same_as_xor_bytes : (xs ys zs : List ℕ) → length zs ≡ length xs → length xs ≤ length ys
    → ((k : ℕ) → k < length xs → slice_index zs k ≡ bit_xor (slice_index xs k) (slice_index ys k)) → zs ≡ xor_bytes xs ys
same_as_xor_bytes xs ys zs len fits same =
    let total = length-xor_bytes xs ys fits in
    same_lists zs (xor_bytes xs ys) (len ∙ sym total) (λ k d h.
    get_or_default zs k d 0 h ∙ same k (omega arith)
    ∙ sym (slice_index-xor_bytes xs ys k (omega arith) (omega arith))
    ∙ get_or_default (xor_bytes xs ys) k 0 d (omega arith))

pub xor_bytes-append : (us vs xs ys : List ℕ) → length us ≡ length vs → xor_bytes (us ++ xs) (vs ++ ys) ≡ xor_bytes us vs ++ xor_bytes xs ys
xor_bytes-append [] [] xs ys same = refl
xor_bytes-append [] (v ∷ vs) xs ys same = absurd (omega arith)
xor_bytes-append (u ∷ us) [] xs ys same = absurd (omega arith)
xor_bytes-append (u ∷ us) (v ∷ vs) xs ys same = ap (λ (zs : List ℕ). bit_xor u v ∷ zs) (xor_bytes-append us vs xs ys (omega arith))

pub xor_bytes-comm : (xs ys : List ℕ) → xor_bytes xs ys ≡ xor_bytes ys xs
xor_bytes-comm [] [] = refl
xor_bytes-comm [] (y ∷ ys) = refl
xor_bytes-comm (x ∷ xs) [] = refl
xor_bytes-comm (x ∷ xs) (y ∷ ys) = ap₂ (λ (z : ℕ) (zs : List ℕ). z ∷ zs) (xor_comm x y) (xor_bytes-comm xs ys)

pub xor_bytes-assoc : (xs ys zs : List ℕ) → xor_bytes (xor_bytes xs ys) zs ≡ xor_bytes xs (xor_bytes ys zs)
xor_bytes-assoc [] ys zs = refl
xor_bytes-assoc (x ∷ xs) [] zs = refl
xor_bytes-assoc (x ∷ xs) (y ∷ ys) [] = refl
xor_bytes-assoc (x ∷ xs) (y ∷ ys) (z ∷ zs) = ap₂ (λ (w : ℕ) (ws : List ℕ). w ∷ ws) (xor_assoc x y z) (xor_bytes-assoc xs ys zs)

pub xor_bytes_twice : (xs ys : List ℕ) → length xs ≤ length ys → xor_bytes (xor_bytes xs ys) ys ≡ xs
xor_bytes_twice [] ys h = refl
xor_bytes_twice (x ∷ xs) [] h = absurd (omega arith)
xor_bytes_twice (x ∷ xs) (y ∷ ys) h = ap₂ (λ (z : ℕ) (zs : List ℕ). z ∷ zs) (xor_twice x y) (xor_bytes_twice xs ys (omega arith))
