-- A buffer that is filled with the bytes of words.
use Rattle.std.proofs.Common.{◌≡◌, ℕ, ◌+◌, ◌*◌, ◌-◌, ◌<◌, ◌≤◌, min, List, [], ◌∷◌, ◌++◌, length, take, drop, ap, ◌∙◌, sym, refl, arith, append_assoc, length-append, length-drop, length-take-le, inl, inr, ◌⊎◌}
use Rattle.std.proofs.lemmas.List.{take_all, take_at, drop_at, drop_all, drop-drop}
use Rattle.std.proofs.lemmas.Grind.{flat_map-append}
use Rattle.std.proofs.Math.Seq.{take-append-add}
use Rattle.std.specs.Int.{w64, to_le_bytes}
use Rattle.std.specs.List.{flat_map}
use borrow.Rule.Slice.PartMut.{put_mid}
use Rattle.draws.specs.Draws.{next_words, word_after}
use Rattle.draws.proofs.WordLemmas.{next_words-add, length-next_words}

enough_or_short : (m n : ℕ) → (m ≤ n) ⊎ (n < m)
enough_or_short m n = grind arith

-- what a buffer has no room for is cut
cut_piece : (a k n : ℕ) (front bytes : List ℕ) → length front ≡ a → a < n → length bytes ≡ 8 → (8 ≤ n - a) ⊎ (n - a < 8)
    → k ≡ min (n - a) 8 → front ++ take k bytes ≡ take n (front ++ bytes)
cut_piece a k n front bytes filled some eight (inl room) piece =
    ap (λ l. front ++ l) (take_all k bytes (omega arith))
    ∙ sym (take_all n (front ++ bytes) (omega (arith, length-append front bytes)))
cut_piece a k n front bytes filled some eight (inr short) piece =
    let e : length front + k ≡ n = omega arith in
    sym (take-append-add front bytes k) ∙ ap (λ m. take m (front ++ bytes)) e

-- what follows a word starts where the buffer ends, or after the word
past_piece : (a k n : ℕ) (initial : List ℕ) → length initial ≡ n → a < n → (8 ≤ n - a) ⊎ (n - a < 8) → k ≡ min (n - a) 8
    → drop (a + k) initial ≡ drop (a + 8) initial
past_piece a k n initial same some (inl room) piece = let e : a + k ≡ a + 8 = omega arith in ap (λ m. drop m initial) e
past_piece a k n initial same some (inr short) piece =
    drop_all (a + k) initial (omega arith) ∙ sym (drop_all (a + 8) initial (omega arith))

-- the next piece of a buffer, whose front is filled, gets the next bytes, cut where the buffer ends
pub put_mid-next : (a k n : ℕ) (front bytes xs ys initial : List ℕ)
    → xs ≡ take n front ++ drop a initial → n ≡ length xs → length initial ≡ n → length front ≡ a → a < n
    → length bytes ≡ 8 → k ≡ min (n - a) 8 → ys ≡ take k bytes
    → put_mid a k xs ys ≡ take n (front ++ bytes) ++ drop (a + 8) initial
put_mid-next a k n front bytes xs ys initial split long same filled some eight piece is =
    let whole : xs ≡ front ++ drop a initial = split ∙ ap (λ f. f ++ drop a initial) (take_all n front (omega arith)) in
    let low : take a xs ≡ front = ap (take a) whole ∙ take_at front (drop a initial) a filled in
    let high : drop k (drop a xs) ≡ drop (a + k) initial =
    ap (λ l. drop k (drop a l)) whole ∙ ap (drop k) (drop_at front (drop a initial) a filled) ∙ drop-drop k a initial in
    let rest : drop (a + k) initial ≡ drop (a + 8) initial = past_piece a k n initial same some (enough_or_short 8 (n - a)) piece in
    let cut : front ++ take k bytes ≡ take n (front ++ bytes) = cut_piece a k n front bytes filled some eight (enough_or_short 8 (n - a)) piece in
    ap (λ l. l ++ (ys ++ drop k (drop a xs))) low
    ∙ ap (λ l. front ++ (l ++ drop k (drop a xs))) is
    ∙ ap (λ l. front ++ (take k bytes ++ l)) (high ∙ rest)
    ∙ sym (append_assoc front (take k bytes) (drop (a + 8) initial))
    ∙ ap (λ l. l ++ drop (a + 8) initial) cut

-- a word has 8 bytes, so so many words have 8 times as many
pub length-flat_map-words : (ws : List ℕ) → length (flat_map (to_le_bytes w64) ws) ≡ 8 * length ws
length-flat_map-words [] = refl
length-flat_map-words (w ∷ ws) =
    let e = length-flat_map-words ws in
    let both = length-append (to_le_bytes w64 w) (flat_map (to_le_bytes w64) ws) in
    omega (arith, e, both)

-- the bytes of one more word
pub flat_map-more : {S : Type 0} (step : S → ℕ × S) (k : ℕ) (draw : S)
    → flat_map (to_le_bytes w64) (next_words step (k + 1) draw)
    ≡ flat_map (to_le_bytes w64) (next_words step k draw) ++ to_le_bytes w64 (word_after step k draw)
flat_map-more step k draw =
    ap (flat_map (to_le_bytes w64)) (next_words-add step k 1 draw)
    ∙ flat_map-append (to_le_bytes w64) (next_words step k draw) (word_after step k draw ∷ [])

-- a write to a part of a list keeps its length
length-put_mid : (a m : ℕ) (xs ys : List ℕ) → a + m ≤ length xs → length ys ≡ m → length (put_mid a m xs ys) ≡ length xs
length-put_mid a m xs ys inside long =
    let front = length-take-le a xs (omega arith) in
    let middle = length-append ys (drop m (drop a xs)) in
    let whole = length-append (take a xs) (ys ++ drop m (drop a xs)) in
    let back = length-drop m (drop a xs) in
    let after = length-drop a xs in
    omega (arith, front, middle, whole, back, after)

-- a buffer with the bytes of k words in front gets those of one more
pub filled-next : {S : Type 0} (step : S → ℕ × S) (draw : S) (k count : ℕ) (xs ys bytes initial : List ℕ)
    → xs ≡ take (length xs) (flat_map (to_le_bytes w64) (next_words step k draw)) ++ drop (8 * k) initial
    → length initial ≡ length xs → 8 * k < length xs → bytes ≡ to_le_bytes w64 (word_after step k draw)
    → count ≡ min (length xs - k * 8) 8 → ys ≡ take count bytes
    → put_mid (k * 8) (k * 8 + count - k * 8) xs ys
    ≡ take (length (put_mid (k * 8) (k * 8 + count - k * 8) xs ys)) (flat_map (to_le_bytes w64) (next_words step (k + 1) draw))
    ++ drop (8 * (k + 1)) initial
filled-next step draw k count xs ys bytes initial split same some are piece is =
    let front = flat_map (to_le_bytes w64) (next_words step k draw) in
    let front_length : length front ≡ k * 8 = omega (arith, length-flat_map-words (next_words step k draw), length-next_words step k draw) in
    let eight : length bytes ≡ 8 = ap length are in
    let m = k * 8 + count - k * 8 in
    let m_is : m ≡ count = omega arith in
    let piece_length : length ys ≡ m = ap length is ∙ length-take-le count bytes (omega arith) ∙ sym m_is in
    let long = length-put_mid (k * 8) m xs ys (omega arith) piece_length in
    let at : 8 * k ≡ k * 8 = omega arith in
    let next : k * 8 + 8 ≡ 8 * (k + 1) = omega arith in
    put_mid-next (k * 8) m (length xs) front bytes xs ys initial
    (split ∙ ap (λ a. take (length xs) front ++ drop a initial) at) refl same front_length (omega arith) eight (m_is ∙ piece)
    (is ∙ ap (λ n. take n bytes) (sym m_is))
    ∙ ap (λ bs. take (length xs) bs ++ drop (k * 8 + 8) initial) (ap (λ b. front ++ b) are ∙ sym (flat_map-more step k draw))
    ∙ ap (λ n. take n (flat_map (to_le_bytes w64) (next_words step (k + 1) draw)) ++ drop (k * 8 + 8) initial) (sym long)
    ∙ ap (λ a. take (length (put_mid (k * 8) m xs ys)) (flat_map (to_le_bytes w64) (next_words step (k + 1) draw)) ++ drop a initial) next
