-- Parts of a start, by their places.
use Rattle.std.proofs.Common.{◌≡◌, ℕ, suc, ◌≤◌, ◌+◌, List, [], ◌∷◌, ◌++◌, take, drop, length, refl, sym, ap, ap₂, ◌∙◌, arith, append_assoc, length-drop}
use Rattle.std.proofs.lemmas.List.{take_at, drop_at, drop-drop, take-append-le, drop-append-le, length-take-le, length-append}
use Rattle.std.specs.Prelude.{bit_xor}
use Rattle.cipher_modes.specs.CounterMode.{ctr_stream, xor_stream, CtrState, applied}

length-xor_stream : (stream : ℕ → ℕ) (k : ℕ) (xs : List ℕ) → length (xor_stream stream k xs) ≡ length xs
length-xor_stream stream k [] = refl
length-xor_stream stream k (x ∷ xs) = ap suc (length-xor_stream stream (k + 1) xs)

-- a text has the length of what it was
pub length-applied : (s : CtrState) (text : List ℕ) → length (applied s text) ≡ length text
length-applied s text = length-xor_stream _ _ text

xor_stream-append : (stream : ℕ → ℕ) (k : ℕ) (xs ys : List ℕ)
    → xor_stream stream k (xs ++ ys) ≡ xor_stream stream k xs ++ xor_stream stream (k + length xs) ys
xor_stream-append stream k [] ys = ap (λ (i : ℕ). xor_stream stream i ys) (omega arith)
xor_stream-append stream k (x ∷ xs) ys =
    ap (λ (zs : List ℕ). bit_xor x (stream k) ∷ zs) (xor_stream-append stream (k + 1) xs ys
    ∙ ap (λ (i : ℕ). xor_stream stream (k + 1) xs ++ xor_stream stream i ys) (omega arith))

-- a stream so many bytes on
abbrev pub past : CtrState → ℕ → CtrState
past s n = record s { place = s.place + n }

pub applied-append : (s : CtrState) (us vs : List ℕ) → applied s (us ++ vs) ≡ applied s us ++ applied (past s (length us)) vs
applied-append s us vs = xor_stream-append (ctr_stream s.key s.iv) s.place us vs

-- a part of the front is one whatever is behind the front
pub part_in_front : (i n : ℕ) (us vs : List ℕ) → i + n ≤ length us → take n (drop i (us ++ vs)) ≡ take n (drop i us)
part_in_front i n us vs within =
    ap (take n) (drop-append-le i us vs (omega arith))
    ∙ take-append-le n (drop i us) vs (omega (arith, length-drop i us))

-- a part behind the front
pub part_behind : (i n m : ℕ) (us vs : List ℕ) → length us ≡ m → take n (drop (m + i) (us ++ vs)) ≡ take n (drop i vs)
part_behind i n m us vs long =
    ap (take n) (sym (drop-drop i m (us ++ vs)) ∙ ap (drop i) (drop_at us vs m long))

-- two neighbouring parts written one after the other
pub two_parts : (i n m : ℕ) (a b xs : List ℕ) → length a ≡ n → i ≤ length xs
    → take (i + n) (take i xs ++ (a ++ drop n (drop i xs))) ++ (b ++ drop m (drop (i + n) (take i xs ++ (a ++ drop n (drop i xs)))))
    ≡ take i xs ++ (a ++ (b ++ drop (i + n + m) xs))
two_parts i n m a b xs long within =
    let front : List ℕ = take i xs ++ a in
    let back : List ℕ = drop n (drop i xs) in
    let together : take i xs ++ (a ++ back) ≡ front ++ back = sym (append_assoc (take i xs) a back) in
    let size : length front ≡ i + n = omega (arith, length-append (take i xs) a, length-take-le i xs within) in
    let first : take (i + n) (take i xs ++ (a ++ back)) ≡ front = ap (take (i + n)) together ∙ take_at front back (i + n) size in
    let last : drop (i + n) (take i xs ++ (a ++ back)) ≡ back = ap (drop (i + n)) together ∙ drop_at front back (i + n) size in
    let rest : drop m back ≡ drop (i + n + m) xs = ap (drop m) (drop-drop n i xs) ∙ drop-drop m (i + n) xs in
    ap₂ (λ (f r : List ℕ). f ++ (b ++ r)) first (ap (drop m) last ∙ rest)
    ∙ append_assoc (take i xs) a (b ++ drop (i + n + m) xs)
