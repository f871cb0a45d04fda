-- Lists of bytes, and lists of sixteen.
use Rattle.std.proofs.Common.{◌≡◌, ℕ, zero, suc, ◌<◌, ◌≤◌, ◌+◌, List, [], ◌∷◌, ◌++◌, map, take, drop, length, slice_index, refl, ap, ap₂, ◌∙◌, arith, lit<}
use Rattle.std.proofs.lemmas.List.{length-map, length-append, length-take-le, length-drop, get_or-drop, drop_more, drop_all}
use Rattle.std.proofs.lemmas.Nat.{xor_lt}
use Rattle.octets.specs.Bytes.{HasBytes, xor_bytes}
use Rattle.aes_core.proofs.XorLaws.{xor_twice}

pub HasBytes-nil : HasBytes 0 []
HasBytes-nil = record { count = refl; in_range = λ k. lit< tt }

in_range-cons : (x : ℕ) (xs : List ℕ) → x < 256 → ((k : ℕ) → slice_index xs k < 256)
    → (k : ℕ) → slice_index (x ∷ xs) k < 256
in_range-cons x xs h t zero = h
in_range-cons x xs h t (suc k) = t k

pub HasBytes-cons : {n x : ℕ} {xs : List ℕ} → x < 256 → HasBytes n xs → HasBytes (suc n) (x ∷ xs)
HasBytes-cons {n} {x} {xs} h t = record {
  count = ap suc t.count;
  in_range = in_range-cons x xs h t.in_range;
}

pub in_range-append : (xs ys : List ℕ) → ((k : ℕ) → slice_index xs k < 256)
    → ((k : ℕ) → slice_index ys k < 256) → (k : ℕ) → slice_index (xs ++ ys) k < 256
in_range-append [] ys h t k = t k
in_range-append (x ∷ xs) ys h t zero = h 0
in_range-append (x ∷ xs) ys h t (suc k) = in_range-append xs ys (λ j. h (suc j)) t k

pub HasBytes-append : (m n : ℕ) (xs ys : List ℕ) → HasBytes m xs → HasBytes n ys → HasBytes (m + n) (xs ++ ys)
HasBytes-append m n xs ys h t = record {
  count = length-append xs ys ∙ ap₂ (λ (i : ℕ) (j : ℕ). i + j) h.count t.count;
  in_range = in_range-append xs ys h.in_range t.in_range;
}

pub in_range-drop : (n : ℕ) (xs : List ℕ) → ((k : ℕ) → slice_index xs k < 256) → (k : ℕ) → slice_index (drop n xs) k < 256
in_range-drop n xs h k = rw (get_or-drop n xs k 0) (h (n + k))

pub in_range-take : (n : ℕ) (xs : List ℕ) → ((k : ℕ) → slice_index xs k < 256) → (k : ℕ) → slice_index (take n xs) k < 256
in_range-take zero xs h k = lit< tt
in_range-take (suc n) [] h k = lit< tt
in_range-take (suc n) (x ∷ xs) h zero = h 0
in_range-take (suc n) (x ∷ xs) h (suc k) = in_range-take n xs (λ j. h (suc j)) k

-- a part of a list of bytes
pub HasBytes-part : (i n : ℕ) (xs : List ℕ) → i + n ≤ length xs → ((k : ℕ) → slice_index xs k < 256) → HasBytes n (take n (drop i xs))
HasBytes-part i n xs fits h = record {
  count = length-take-le n (drop i xs) (omega (arith, length-drop i xs));
  in_range = in_range-take n (drop i xs) (in_range-drop i xs h);
}

-- ---- a function on each byte

in_range-map : (f : ℕ → ℕ) → ((b : ℕ) → b < 256 → f b < 256) → (xs : List ℕ)
    → ((k : ℕ) → slice_index xs k < 256) → (k : ℕ) → slice_index (map f xs) k < 256
in_range-map f p [] h k = lit< tt
in_range-map f p (x ∷ xs) h zero = p x (h 0)
in_range-map f p (x ∷ xs) h (suc k) = in_range-map f p xs (λ j. h (suc j)) k

pub HasBytes-map : (n : ℕ) (f : ℕ → ℕ) → ((b : ℕ) → b < 256 → f b < 256) → (xs : List ℕ) → HasBytes n xs → HasBytes n (map f xs)
HasBytes-map n f p xs h = record {
  count = length-map xs f ∙ h.count;
  in_range = in_range-map f p xs h.in_range;
}

pub map_undone : (f g : ℕ → ℕ) → ((b : ℕ) → b < 256 → g (f b) ≡ b) → (xs : List ℕ)
    → ((k : ℕ) → slice_index xs k < 256) → map g (map f xs) ≡ xs
map_undone f g p [] h = refl
map_undone f g p (x ∷ xs) h = ap₂ (λ (y : ℕ) (ys : List ℕ). y ∷ ys) (p x (h 0)) (map_undone f g p xs (λ j. h (suc j)))

-- ---- exclusive or

pub length-xor_bytes : (xs ys : List ℕ) → length xs ≤ length ys → length (xor_bytes xs ys) ≡ length xs
length-xor_bytes [] ys h = refl
length-xor_bytes (x ∷ xs) [] h = absurd (omega arith)
length-xor_bytes (x ∷ xs) (y ∷ ys) h = ap suc (length-xor_bytes xs ys (omega arith))

in_range-xor_bytes : (xs ys : List ℕ) → ((k : ℕ) → slice_index xs k < 256)
    → ((k : ℕ) → slice_index ys k < 256) → (k : ℕ) → slice_index (xor_bytes xs ys) k < 256
in_range-xor_bytes [] ys h t k = lit< tt
in_range-xor_bytes (x ∷ xs) [] h t k = lit< tt
in_range-xor_bytes (x ∷ xs) (y ∷ ys) h t zero = xor_lt 8 x y (h 0) (t 0)
in_range-xor_bytes (x ∷ xs) (y ∷ ys) h t (suc k) = in_range-xor_bytes xs ys (λ j. h (suc j)) (λ j. t (suc j)) k

pub HasBytes-xor_bytes : (n : ℕ) (xs ys : List ℕ) → HasBytes n xs → HasBytes n ys → HasBytes n (xor_bytes xs ys)
HasBytes-xor_bytes n xs ys h t = record {
  count = length-xor_bytes xs ys (omega (arith, h.count, t.count)) ∙ h.count;
  in_range = in_range-xor_bytes xs ys h.in_range t.in_range;
}

pub xor_bytes_twice : (xs ys : List ℕ) → length xs ≤ length ys → xor_bytes (xor_bytes xs ys) ys ≡ xs
xor_bytes_twice [] ys h = refl
xor_bytes_twice (x ∷ xs) [] h = absurd (omega arith)
xor_bytes_twice (x ∷ xs) (y ∷ ys) h =
    ap₂ (λ (z : ℕ) (zs : List ℕ). z ∷ zs) (xor_twice x y) (xor_bytes_twice xs ys (omega arith))

-- ---- a list of sixteen by its places

pub by_places_16 : (xs : List ℕ) → length xs ≡ 16
    → slice_index xs 0 ∷ slice_index xs 1 ∷ slice_index xs 2 ∷ slice_index xs 3 ∷ slice_index xs 4 ∷ slice_index xs 5 ∷ slice_index xs 6 ∷ slice_index xs 7 ∷ slice_index xs 8 ∷ slice_index xs 9 ∷ slice_index xs 10 ∷ slice_index xs 11 ∷ slice_index xs 12 ∷ slice_index xs 13 ∷ slice_index xs 14 ∷ slice_index xs 15 ∷ [] ≡ xs
by_places_16 xs h =
    let e0 = drop_more xs 0 0 (omega arith) in
    let e1 = drop_more xs 1 0 (omega arith) in
    let e2 = drop_more xs 2 0 (omega arith) in
    let e3 = drop_more xs 3 0 (omega arith) in
    let e4 = drop_more xs 4 0 (omega arith) in
    let e5 = drop_more xs 5 0 (omega arith) in
    let e6 = drop_more xs 6 0 (omega arith) in
    let e7 = drop_more xs 7 0 (omega arith) in
    let e8 = drop_more xs 8 0 (omega arith) in
    let e9 = drop_more xs 9 0 (omega arith) in
    let e10 = drop_more xs 10 0 (omega arith) in
    let e11 = drop_more xs 11 0 (omega arith) in
    let e12 = drop_more xs 12 0 (omega arith) in
    let e13 = drop_more xs 13 0 (omega arith) in
    let e14 = drop_more xs 14 0 (omega arith) in
    let e15 = drop_more xs 15 0 (omega arith) in
    let e16 = drop_all 16 xs (omega arith) in
    cc
