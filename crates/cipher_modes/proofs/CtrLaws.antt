-- Counter mode: the stream repeats, a text is xored byte by byte, and pieces are as the whole.
use Rattle.std.proofs.Common.{◌≡◌, ℕ, suc, ◌<◌, ◌≤◌, ◌+◌, ◌*◌, ◌/◌, ◌%◌, ◌^◌, List, [], ◌∷◌, ◌++◌, take, drop, set, length, slice_index, get_or, refl, sym, ap, ap₂, ◌∙◌, arith}
use Rattle.std.specs.Prelude.{bit_xor}
use Rattle.std.specs.Int.Bits.{xor_assoc, xor_self, xor_zero_r}
use Rattle.std.specs.Int.{w128, from_be_bytes, to_be_bytes}
use Rattle.std.specs.List.{concat}
use Rattle.std.proofs.Math.Nat.{add-mod-mod, mod-add-mod}
use Rattle.std.proofs.lemmas.Nat.{field_of, mod-pow-add, mod_low}
use Rattle.std.proofs.lemmas.List.{take_more, drop_more, take_at, drop_at, drop-drop, drop-take, take-take, take-append-drop, get_or_at, set_at, length-take-le, length-append, append_assoc}
use borrow.Rule.Slice.PartMut.{put_mid}
use Rattle.octets.specs.Bytes.{xor_bytes}
use Rattle.aes_core.specs.Cipher.{aes}
use Rattle.cipher_modes.specs.Ige.{block}
use Rattle.cipher_modes.specs.CounterMode.{counter_block, ctr_stream, xor_stream, CtrState, applied, advanced, applied_in_turn}

-- ---- the stream at a place

pub stream_at : (key iv block : List ℕ) (index used : ℕ) → used < 16 → block ≡ aes key (counter_block iv index)
    → slice_index block used ≡ ctr_stream key iv (16 * index + used)
unfolding ctr_stream
stream_at key iv block index used within is =
    let quotient : (16 * index + used) / 16 ≡ index = omega arith in
    let remainder : (16 * index + used) % 16 ≡ used = omega arith in
    rw (quotient, remainder, is) refl

counter_block_wraps : (iv : List ℕ) (i : ℕ) → counter_block iv (i % 2 ^ 128) ≡ counter_block iv i
unfolding counter_block
counter_block_wraps iv i = ap (to_be_bytes w128) (add-mod-mod (from_be_bytes w128 iv) i (2 ^ 128))

pub ctr_stream_wraps : (key iv : List ℕ) (k : ℕ) → ctr_stream key iv (k % 2 ^ 132) ≡ ctr_stream key iv k
unfolding ctr_stream
ctr_stream_wraps key iv k =
    let quotient = field_of k 128 4 in
    let split = mod-pow-add k 128 4 in
    let remainder : k % 2 ^ 132 % 2 ^ 4 ≡ k % 2 ^ 4 = ap (λ (x : ℕ). x % 2 ^ 4) split ∙ mod_low (k / 2 ^ 4 % 2 ^ 128) 4 (k % 2 ^ 4) (omega arith) in
    ap₂ (λ (x : ℕ) (y : ℕ). slice_index (aes key (counter_block iv x)) y) quotient remainder
    ∙ ap (λ (x : List ℕ). slice_index (aes key x) (k % 16)) (counter_block_wraps iv (k / 16))

-- ---- a text byte by byte

length-xor_stream : (stream : ℕ → ℕ) (k : ℕ) (xs : List ℕ) → length (xor_stream stream k xs) ≡ length xs
length-xor_stream stream k [] = refl
length-xor_stream stream k (x ∷ xs) = ap suc (length-xor_stream stream (k + 1) xs)

xor_stream-append : (stream : ℕ → ℕ) (k : ℕ) (xs ys : List ℕ)
    → xor_stream stream k (xs ++ ys) ≡ xor_stream stream k xs ++ xor_stream stream (k + length xs) ys
xor_stream-append stream k [] ys = ap (λ (i : ℕ). xor_stream stream i ys) (omega arith)
xor_stream-append stream k (x ∷ xs) ys =
    ap (λ (zs : List ℕ). bit_xor x (stream k) ∷ zs) (xor_stream-append stream (k + 1) xs ys
    ∙ ap (λ (i : ℕ). xor_stream stream (k + 1) xs ++ xor_stream stream i ys) (omega arith))

pub one_more_byte : (stream : ℕ → ℕ) (k : ℕ) (old text : List ℕ) (i s : ℕ) → i < length old
    → text ≡ xor_stream stream k (take i old) ++ drop i old → s ≡ stream (k + i)
    → set text i (bit_xor (get_or text i 0) s) ≡ xor_stream stream k (take (i + 1) old) ++ drop (i + 1) old
one_more_byte stream k old text i s within so_far byte =
    let done : List ℕ = xor_stream stream k (take i old) in
    let taken = length-take-le i old (omega arith) in
    let long : length done ≡ i = length-xor_stream stream k (take i old) ∙ taken in
    let head = drop_more old i 0 within in
    let now : text ≡ done ++ get_or old i 0 ∷ drop (i + 1) old = rw head at so_far in
    let own : get_or text i 0 ≡ get_or old i 0 = ap (λ (t : List ℕ). get_or t i 0) now ∙ get_or_at done (get_or old i 0) (drop (i + 1) old) 0 i long in
    let next : xor_stream stream k (take (i + 1) old) ≡ done ++ bit_xor (get_or old i 0) (stream (k + i)) ∷ [] =
    ap (xor_stream stream k) (take_more old i 0 within) ∙ xor_stream-append stream k (take i old) (get_or old i 0 ∷ [])
    ∙ ap (λ (m : ℕ). done ++ bit_xor (get_or old i 0) (stream (k + m)) ∷ []) taken in
    ap₂ (λ (t : List ℕ) (y : ℕ). set t i y) now (ap₂ bit_xor own byte)
    ∙ set_at done (get_or old i 0) (drop (i + 1) old) (bit_xor (get_or old i 0) (stream (k + i))) i long
    ∙ sym (append_assoc done (bit_xor (get_or old i 0) (stream (k + i)) ∷ []) (drop (i + 1) old))
    ∙ ap (λ (t : List ℕ). t ++ drop (i + 1) old) (sym next)

-- ---- a text block by block

xor_stream-bytes : (stream : ℕ → ℕ) (k : ℕ) (xs ys : List ℕ) → length xs ≤ length ys
    → ((j : ℕ) → j < length xs → slice_index ys j ≡ stream (k + j)) → xor_bytes xs ys ≡ xor_stream stream k xs
xor_stream-bytes stream k [] ys fits same = refl
xor_stream-bytes stream k (x ∷ xs) [] fits same = absurd (omega arith)
xor_stream-bytes stream k (x ∷ xs) (y ∷ ys) fits same =
    let here : y ≡ stream k = same 0 (omega arith) ∙ ap stream (omega arith) in
    ap₂ (λ (b : ℕ) (zs : List ℕ). bit_xor x b ∷ zs) here
    (xor_stream-bytes stream (k + 1) xs ys (omega arith) (λ j h. same (suc j) (omega arith) ∙ ap stream (omega arith)))

-- a block of text, xored with the block of the stream at whose start the stream stands
pub block_applied : (s : CtrState) (xs ys : List ℕ) → length xs ≡ 16 → length ys ≡ 16 → s.place % 16 ≡ 0
    → ys ≡ aes s.key (counter_block s.iv (s.place / 16)) → xor_bytes xs ys ≡ applied s xs
block_applied s xs ys long same_long start is =
    let begins : 16 * (s.place / 16) ≡ s.place = omega arith in
    xor_stream-bytes (ctr_stream s.key s.iv) s.place xs ys (omega arith)
    (λ j h. stream_at s.key s.iv ys (s.place / 16) j (omega arith) is ∙ ap (λ (p : ℕ). ctr_stream s.key s.iv (p + j)) begins)

-- ---- the place

pub advanced-advanced : (s : CtrState) (m n : ℕ) → advanced (advanced s m) n ≡ advanced s (m + n)
advanced-advanced s m n =
    let sum : s.place + m + n ≡ s.place + (m + n) = omega arith in
    ap (λ (p : ℕ). record s { place = p }) (mod-add-mod (s.place + m) (2 ^ 132) n ∙ ap (λ (x : ℕ). x % 2 ^ 132) sum)

-- the byte of a stream that was moved on
pub byte_at : (s t : CtrState) (i b : ℕ) → t ≡ advanced s i → b ≡ ctr_stream t.key t.iv t.place → b ≡ ctr_stream s.key s.iv (s.place + i)
byte_at s t i b moved is =
    is ∙ ap (λ (x : CtrState). ctr_stream x.key x.iv x.place) moved ∙ ctr_stream_wraps s.key s.iv (s.place + i)

-- the stream of a place that was counted modulo its length
xor_stream_wraps : (key iv : List ℕ) (k j : ℕ) (xs : List ℕ) → k % 2 ^ 132 ≡ j % 2 ^ 132
    → xor_stream (ctr_stream key iv) k xs ≡ xor_stream (ctr_stream key iv) j xs
xor_stream_wraps key iv k j [] same = refl
xor_stream_wraps key iv k j (x ∷ xs) same =
    let byte = sym (ctr_stream_wraps key iv k) ∙ ap (ctr_stream key iv) same ∙ ctr_stream_wraps key iv j in
    let next = sym (mod-add-mod k (2 ^ 132) 1) ∙ ap (λ (m : ℕ). (m + 1) % 2 ^ 132) same ∙ mod-add-mod j (2 ^ 132) 1 in
    ap₂ (λ (b : ℕ) (ys : List ℕ). bit_xor x b ∷ ys) byte (xor_stream_wraps key iv (k + 1) (j + 1) xs next)

pub applied-append : (s : CtrState) (xs ys : List ℕ) → applied s (xs ++ ys) ≡ applied s xs ++ applied (advanced s (length xs)) ys
applied-append s xs ys =
    let stream : ℕ → ℕ = ctr_stream s.key s.iv in
    let same : (s.place + length xs) % 2 ^ 132 ≡ (s.place + length xs) % 2 ^ 132 % 2 ^ 132 = omega arith in
    xor_stream-append stream s.place xs ys
    ∙ ap (λ (t : List ℕ). xor_stream stream s.place xs ++ t)
    (xor_stream_wraps s.key s.iv (s.place + length xs) ((s.place + length xs) % 2 ^ 132) ys same)

pub applied_in_turn-concat : (s : CtrState) (pieces : List (List ℕ)) → applied_in_turn s pieces ≡ applied s (concat pieces)
applied_in_turn-concat s [] = refl
applied_in_turn-concat s (piece ∷ pieces) =
    ap (λ (t : List ℕ). applied s piece ++ t) (applied_in_turn-concat (advanced s (length piece)) pieces)
    ∙ sym (applied-append s piece (concat pieces))

xor_twice : (a b : ℕ) → bit_xor (bit_xor a b) b ≡ a
xor_twice a b = rw (xor_assoc a b b, xor_self b, xor_zero_r a) refl

xor_stream_twice : (stream : ℕ → ℕ) (k : ℕ) (xs : List ℕ) → xor_stream stream k (xor_stream stream k xs) ≡ xs
xor_stream_twice stream k [] = refl
xor_stream_twice stream k (x ∷ xs) = ap₂ (λ (y : ℕ) (ys : List ℕ). y ∷ ys) (xor_twice x (stream k)) (xor_stream_twice stream (k + 1) xs)

pub applied_twice : (s : CtrState) (text : List ℕ) → applied s (applied s text) ≡ text
applied_twice s text = xor_stream_twice (ctr_stream s.key s.iv) s.place text

-- one more block of a loop
pub one_more_block : (s : CtrState) (old text out : List ℕ) (i k : ℕ) → 16 * i + 16 ≤ length old → k ≡ 16
    → text ≡ applied s (take (16 * i) old) ++ drop (16 * i) old
    → (block text i ≡ block old i → out ≡ applied (advanced s (16 * i)) (block old i)) → length out ≡ 16
    → put_mid (16 * i) k text out ≡ applied s (take (16 * (i + 1)) old) ++ drop (16 * (i + 1)) old
one_more_block s old text out i k fits width so_far made long =
    let done : List ℕ = applied s (take (16 * i) old) in
    let taken : length (take (16 * i) old) ≡ 16 * i = length-take-le (16 * i) old (omega arith) in
    let done_long : length done ≡ 16 * i = length-xor_stream (ctr_stream s.key s.iv) s.place (take (16 * i) old) ∙ taken in
    let front : take (16 * i) text ≡ done = ap (take (16 * i)) so_far ∙ take_at done (drop (16 * i) old) (16 * i) done_long in
    let rest : drop (16 * i) text ≡ drop (16 * i) old = ap (drop (16 * i)) so_far ∙ drop_at done (drop (16 * i) old) (16 * i) done_long in
    let place : 16 * (i + 1) ≡ 16 * i + 16 = omega arith in
    let next : take (16 * (i + 1)) old ≡ take (16 * i) old ++ block old i =
    ap (λ (n : ℕ). take n old) place
    ∙ sym (take-append-drop (16 * i) (take (16 * i + 16) old))
    ∙ ap₂ (λ (x : List ℕ) (y : List ℕ). x ++ y) (take-take (16 * i) (16 * i + 16) old (omega arith)) (drop-take (16 * i) 16 old) in
    let here : out ≡ applied (advanced s (length (take (16 * i) old))) (block old i) =
    made (ap (take 16) rest) ∙ ap (λ (n : ℕ). applied (advanced s n) (block old i)) (sym taken) in
    let whole : applied s (take (16 * (i + 1)) old) ≡ done ++ out =
    ap (applied s) next ∙ applied-append s (take (16 * i) old) (block old i) ∙ ap (λ (x : List ℕ). done ++ x) (sym here) in
    let back : drop k (drop (16 * i) text) ≡ drop (16 * (i + 1)) old =
    ap₂ drop width rest ∙ drop-drop 16 (16 * i) old ∙ ap (λ (n : ℕ). drop n old) (sym place) in
    rw (front, back, whole, append_assoc) refl

-- a text in three parts, each from where the part before it left the stream
pub three_parts : (s t u v : CtrState) (text others a b c x y z : List ℕ)
    → text ≡ a ++ others → others ≡ b ++ c
    → x ≡ applied s a → t ≡ advanced s (length a) → y ≡ applied t b → u ≡ advanced t (length b)
    → z ≡ applied u c → v ≡ advanced u (length c)
    → (x ++ (y ++ z) ≡ applied s text) × (v ≡ advanced s (length text))
three_parts s t u v text others a b c x y z text_is others_are x_is t_is y_is u_is z_is v_is =
    let rest : y ++ z ≡ applied t others =
    ap₂ (λ (p : List ℕ) (q : List ℕ). p ++ q) y_is (z_is ∙ ap (λ (w : CtrState). applied w c) u_is)
    ∙ sym (applied-append t b c) ∙ ap (applied t) (sym others_are) in
    let end : v ≡ advanced t (length others) =
    v_is ∙ ap (λ (w : CtrState). advanced w (length c)) u_is ∙ advanced-advanced t (length b) (length c)
    ∙ ap (advanced t) (sym (length-append b c) ∙ ap length (sym others_are)) in (
      ap₂ (λ (p : List ℕ) (q : List ℕ). p ++ q) x_is (rest ∙ ap (λ (w : CtrState). applied w others) t_is)
          ∙ sym (applied-append s a others) ∙ ap (applied s) (sym text_is),
      end ∙ ap (λ (w : CtrState). advanced w (length others)) t_is ∙ advanced-advanced s (length a) (length others)
          ∙ ap (advanced s) (sym (length-append a others) ∙ ap length (sym text_is)),
    )
