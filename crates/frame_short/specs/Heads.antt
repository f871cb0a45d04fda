-- Scaffolding of proofs, and no promise: the length field at the front of a text.
use Rattle.std.proofs.Common.{◌≡◌, ℕ, ◌+◌, ◌-◌, ◌<◌, ◌≤◌, List, [], ◌∷◌, ◌++◌, length, take, drop, get_or, refl, sym, ap, subst, ◌∙◌, arith, inl, inr, length-append}
use Rattle.std.proofs.lemmas.List.{get_or-take, drop-take, length-take-le}
use Rattle.byteorder.specs.Endian.{little_bytes, little_number}
use Rattle.byteorder.specs.Numbers.{length-bytes_low_first, little_from-append, little_from-take, little_number-reads_back}
use Rattle.frame_short.specs.Abridged.{IsHead, SaysWords}

-- a length field says one thing
pub one_head : (h w k v : ℕ) (bytes : List ℕ) → SaysWords h w bytes → SaysWords k v bytes → (h ≡ k) × (w ≡ v)
one_head h w k v bytes (inl f) (inl g) = (omega arith, omega arith)
one_head h w k v bytes (inl f) (inr g) = absurd (omega arith)
one_head h w k v bytes (inr f) (inl g) = absurd (omega arith)
one_head h w k v bytes (inr f) (inr g) = (omega arith, omega arith)

-- its first byte is below 128, and it is there
pub first_of : (h w : ℕ) (bytes : List ℕ) → SaysWords h w bytes → (1 ≤ length bytes) × (get_or bytes 0 0 < 128) × (0 < h)
first_of h w bytes (inl f) = (omega arith, omega arith, omega arith)
first_of h w bytes (inr f) = (omega arith, omega arith, omega arith)

pub first_on : (bytes rest : List ℕ) → 1 ≤ length bytes → get_or (bytes ++ rest) 0 0 ≡ get_or bytes 0 0
first_on [] rest h = absurd (omega arith)
first_on (b ∷ bytes) rest h = refl

behind_on : (bytes rest : List ℕ) → 4 ≤ length bytes → little_number 3 (drop 1 (bytes ++ rest)) ≡ little_number 3 (drop 1 bytes)
behind_on [] rest h = absurd (omega arith)
behind_on (b ∷ bytes) rest h = little_from-append 3 bytes rest (omega arith)

pub head_on : (h w : ℕ) (bytes rest : List ℕ) → SaysWords h w bytes → SaysWords h w (bytes ++ rest)
head_on h w bytes rest (inl f) =
    inl (f.0, f.1, omega (arith, length-append bytes rest), first_on bytes rest f.2 ∙ f.3)
head_on h w bytes rest (inr f) =
    inr (f.0, first_on bytes rest (omega arith) ∙ f.1, omega (arith, length-append bytes rest), behind_on bytes rest f.2 ∙ f.3)

first_within : (size : ℕ) (bytes : List ℕ) → 1 ≤ size → get_or (take size bytes) 0 0 ≡ get_or bytes 0 0
first_within size bytes h = get_or-take size bytes 0 0 (omega arith)

behind_within : (size : ℕ) (bytes : List ℕ) → 4 ≤ size → little_number 3 (drop 1 (take size bytes)) ≡ little_number 3 (drop 1 bytes)
behind_within size bytes h =
    let e : size ≡ 1 + (size - 1) = omega arith in
    ap (λ (n : ℕ). little_number 3 (drop 1 (take n bytes))) e
    ∙ ap (little_number 3) (drop-take 1 (size - 1) bytes)
    ∙ little_from-take 0 3 (size - 1) (drop 1 bytes) (omega arith)

pub head_within : (h w size : ℕ) (bytes : List ℕ) → SaysWords h w bytes → h ≤ size → size ≤ length bytes → SaysWords h w (take size bytes)
head_within h w size bytes (inl f) fits there =
    let long : length (take size bytes) ≡ size = length-take-le size bytes there in
    inl (f.0, f.1, omega arith, first_within size bytes (omega arith) ∙ f.3)
head_within h w size bytes (inr f) fits there =
    let long : length (take size bytes) ≡ size = length-take-le size bytes there in
    inr (f.0, first_within size bytes (omega arith) ∙ f.1, omega arith, behind_within size bytes (omega arith) ∙ f.3)

-- a head says its words, whatever follows
pub head_says : (words : ℕ) (head rest : List ℕ) → IsHead words head → words < 16777216 → SaysWords (length head) words (head ++ rest)
head_says words head rest (inl f) fits =
    subst (λ (xs : List ℕ). SaysWords (length xs) words (xs ++ rest)) (sym f.1) (inl (refl, f.0, omega arith, refl))
head_says words head rest (inr e) fits =
    let long : length (127 ∷ little_bytes 3 words) ≡ 4 = refl in
    let whole : 4 ≤ length (127 ∷ (little_bytes 3 words ++ rest)) = omega (arith, length-append (little_bytes 3 words) rest, length-bytes_low_first 0 3 words) in
    subst (λ (xs : List ℕ). SaysWords (length xs) words (xs ++ rest)) (sym e)
    (inr (refl, refl, whole, little_number-reads_back 3 words rest (omega arith)))
