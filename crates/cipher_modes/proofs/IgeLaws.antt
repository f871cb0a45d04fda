-- Infinite garble extension: the steps of the loops, the equations, and that each way undoes the
-- other.
use Rattle.std.proofs.Common.{◌≡◌, ℕ, zero, suc, ◌<◌, ◌≤◌, ◌+◌, ◌-◌, ◌*◌, ◌/◌, List, [], ◌++◌, take, drop, length, slice_index, sym, ap, ap₂, subst, ◌∙◌, arith}
use Rattle.std.proofs.lemmas.List.{take_at, drop_at, take_all, drop-drop, take-append-drop, append_assoc, append-nil, nil_from_length}
use Rattle.std.proofs.lemmas.Slice.{take-put_mid, drop-put_mid}
use borrow.Rule.Slice.PartMut.{put_mid}
use Rattle.octets.specs.Bytes.{HasBytes, xor_bytes}
use Rattle.aes_core.specs.Cipher.{aes, inverse_aes}
use Rattle.cipher_modes.specs.Below.{BlockLaws}
use Rattle.cipher_modes.specs.Ige.{block, ige_block, inverse_ige_block, ige_after, inverse_ige_after, ige, inverse_ige, MeetsIgeEquations}

-- ---- the loops

-- the blocks so far and those left make the whole; the key is known to be bytes once it was used
pub record MakesWhole (key old so_far whole : List ℕ) (i : ℕ) : Type 0 where
  pub whole_text : so_far ≡ whole
  pub key_bytes : 0 < i → HasBytes 32 key
  pub text_bytes : (k : ℕ) → slice_index old k < 256

-- one more block of the loop
pub ige_next : (key c p text out whole : List ℕ) (i k n : ℕ) → i < n → 16 * n ≤ length text
    → out ≡ ige_block key c p (block text i) → length out ≡ 16 → k ≡ 16
    → take (16 * i) text ++ ige_after key (n - i) c p (drop (16 * i) text) ≡ whole
    → take (16 * (i + 1)) (put_mid (16 * i) k text out)
    ++ ige_after key (n - (i + 1)) out (block text i) (drop (16 * (i + 1)) (put_mid (16 * i) k text out)) ≡ whole
unfolding ige_after
ige_next key c p text out whole i k n within fits made long width so_far =
    let front = take-put_mid (16 * i) k text out (16 * (i + 1)) (omega arith) (omega arith) in
    let back = drop-put_mid (16 * i) k text out (16 * (i + 1)) (omega arith) (omega arith) (omega arith) in
    let left : n - i ≡ suc (n - (i + 1)) = omega arith in
    let place : 16 * (i + 1) ≡ 16 * i + 16 = omega arith in
    let rest : drop 16 (drop (16 * i) text) ≡ drop (16 * (i + 1)) text = drop-drop 16 (16 * i) text ∙ ap (λ (m : ℕ). drop m text) (sym place) in
    let before : take (16 * i) text ++ (out ++ ige_after key (n - (i + 1)) out (block text i) (drop (16 * (i + 1)) text)) ≡ whole =
    rw (left, ← made, rest) at so_far in
    rw (front, back, append_assoc) before

pub ige_done : (key c p text whole : List ℕ) (i n : ℕ) → i ≡ n → length text ≡ 16 * n
    → take (16 * i) text ++ ige_after key (n - i) c p (drop (16 * i) text) ≡ whole → text ≡ whole
unfolding ige_after
ige_done key c p text whole i n last long so_far =
    let none : n - i ≡ 0 = omega arith in
    let all = take_all (16 * i) text (omega arith) in
    let ended : text ++ [] ≡ whole = rw (none, all) at so_far in
    sym (append-nil text) ∙ ended

-- one more block of the loop
pub inverse_ige_next : (key c p text out whole : List ℕ) (i k n : ℕ) → i < n → 16 * n ≤ length text
    → out ≡ inverse_ige_block key c p (block text i) → length out ≡ 16 → k ≡ 16
    → take (16 * i) text ++ inverse_ige_after key (n - i) c p (drop (16 * i) text) ≡ whole
    → take (16 * (i + 1)) (put_mid (16 * i) k text out)
    ++ inverse_ige_after key (n - (i + 1)) (block text i) out (drop (16 * (i + 1)) (put_mid (16 * i) k text out)) ≡ whole
unfolding inverse_ige_after
inverse_ige_next key c p text out whole i k n within fits made long width so_far =
    let front = take-put_mid (16 * i) k text out (16 * (i + 1)) (omega arith) (omega arith) in
    let back = drop-put_mid (16 * i) k text out (16 * (i + 1)) (omega arith) (omega arith) (omega arith) in
    let left : n - i ≡ suc (n - (i + 1)) = omega arith in
    let place : 16 * (i + 1) ≡ 16 * i + 16 = omega arith in
    let rest : drop 16 (drop (16 * i) text) ≡ drop (16 * (i + 1)) text = drop-drop 16 (16 * i) text ∙ ap (λ (m : ℕ). drop m text) (sym place) in
    let before : take (16 * i) text ++ (out ++ inverse_ige_after key (n - (i + 1)) (block text i) out (drop (16 * (i + 1)) text)) ≡ whole =
    rw (left, ← made, rest) at so_far in
    rw (front, back, append_assoc) before

pub inverse_ige_done : (key c p text whole : List ℕ) (i n : ℕ) → i ≡ n → length text ≡ 16 * n
    → take (16 * i) text ++ inverse_ige_after key (n - i) c p (drop (16 * i) text) ≡ whole → text ≡ whole
unfolding inverse_ige_after
inverse_ige_done key c p text whole i n last long so_far =
    let none : n - i ≡ 0 = omega arith in
    let all = take_all (16 * i) text (omega arith) in
    let ended : text ++ [] ≡ whole = rw (none, all) at so_far in
    sym (append-nil text) ∙ ended

-- ---- one block; the laws of the crates below are taken as a premise

pub HasBytes-ige_block : (laws : BlockLaws) → (key c p b : List ℕ) → HasBytes 32 key → HasBytes 16 c → HasBytes 16 p → HasBytes 16 b → HasBytes 16 (ige_block key c p b)
HasBytes-ige_block laws key c p b k hc hp hb =
    laws.xor 16 (aes key (xor_bytes b c)) p (laws.enciphered key (xor_bytes b c) k (laws.xor 16 b c hb hc)) hp

pub HasBytes-inverse_ige_block : (laws : BlockLaws) → (key c p e : List ℕ) → HasBytes 32 key → HasBytes 16 c → HasBytes 16 p → HasBytes 16 e → HasBytes 16 (inverse_ige_block key c p e)
HasBytes-inverse_ige_block laws key c p e k hc hp he =
    laws.xor 16 (inverse_aes key (xor_bytes e p)) c (laws.deciphered key (xor_bytes e p) k (laws.xor 16 e p he hp)) hc

inverse_ige_block-ige_block : (laws : BlockLaws) → (key c p b : List ℕ) → HasBytes 32 key → HasBytes 16 c → HasBytes 16 p → HasBytes 16 b
    → inverse_ige_block key c p (ige_block key c p b) ≡ b
inverse_ige_block-ige_block laws key c p b k hc hp hb =
    let mixed = laws.xor 16 b c hb hc in
    let sealed = laws.enciphered key (xor_bytes b c) k mixed in
    ap (λ (x : List ℕ). xor_bytes (inverse_aes key x) c) (laws.xor_undone (aes key (xor_bytes b c)) p (omega (arith, sealed.count, hp.count)))
    ∙ ap (λ (x : List ℕ). xor_bytes x c) (laws.enciphered_undone key (xor_bytes b c) k mixed)
    ∙ laws.xor_undone b c (omega (arith, hb.count, hc.count))

ige_block-inverse_ige_block : (laws : BlockLaws) → (key c p e : List ℕ) → HasBytes 32 key → HasBytes 16 c → HasBytes 16 p → HasBytes 16 e
    → ige_block key c p (inverse_ige_block key c p e) ≡ e
ige_block-inverse_ige_block laws key c p e k hc hp he =
    let mixed = laws.xor 16 e p he hp in
    let opened = laws.deciphered key (xor_bytes e p) k mixed in
    ap (λ (x : List ℕ). xor_bytes (aes key x) p) (laws.xor_undone (inverse_aes key (xor_bytes e p)) c (omega (arith, opened.count, hc.count)))
    ∙ ap (λ (x : List ℕ). xor_bytes x p) (laws.deciphered_undone key (xor_bytes e p) k mixed)
    ∙ laws.xor_undone e p (omega (arith, he.count, hp.count))

-- ---- whole texts; the key is only asked for where there is a block

first_block : (laws : BlockLaws) → (n : ℕ) (text : List ℕ) → HasBytes (16 * suc n) text → HasBytes 16 (take 16 text)
first_block laws n text h = laws.first_part 16 text (omega (arith, h.count)) h.in_range

other_blocks : (laws : BlockLaws) → (n : ℕ) (text : List ℕ) → HasBytes (16 * suc n) text → HasBytes (16 * n) (drop 16 text)
other_blocks laws n text h = laws.last_part 16 (16 * n) text (omega (arith, h.count)) h.in_range

pub HasBytes-ige_after : (laws : BlockLaws) → (key : List ℕ) (n : ℕ) → (0 < n → HasBytes 32 key) → (c p text : List ℕ)
    → HasBytes 16 c → HasBytes 16 p → HasBytes (16 * n) text → HasBytes (16 * n) (ige_after key n c p text)
unfolding ige_after
HasBytes-ige_after laws key zero k c p text hc hp ht = laws.nil
HasBytes-ige_after laws key (suc n) k c p text hc hp ht =
    let key_bytes = k (omega arith) in
    let first = first_block laws n text ht in
    let made = HasBytes-ige_block laws key c p (take 16 text) key_bytes hc hp first in
    let total : 16 * suc n ≡ 16 + 16 * n = omega arith in
    rw total (laws.append 16 (16 * n) (ige_block key c p (take 16 text)) _ made
    (HasBytes-ige_after laws key n (λ _. key_bytes) _ _ (drop 16 text) made first (other_blocks laws n text ht)))

pub inverse_ige_after-ige_after : (laws : BlockLaws) → (key : List ℕ) (n : ℕ) → (0 < n → HasBytes 32 key) → (c p text : List ℕ)
    → HasBytes 16 c → HasBytes 16 p → HasBytes (16 * n) text → inverse_ige_after key n c p (ige_after key n c p text) ≡ text
unfolding ige_after inverse_ige_after
inverse_ige_after-ige_after laws key zero k c p text hc hp ht = sym (nil_from_length text ht.count)
inverse_ige_after-ige_after laws key (suc n) k c p text hc hp ht =
    let key_bytes = k (omega arith) in
    let first = first_block laws n text ht in
    let made = HasBytes-ige_block laws key c p (take 16 text) key_bytes hc hp first in
    let begins = take_at (ige_block key c p (take 16 text)) (ige_after key n (ige_block key c p (take 16 text)) (take 16 text) (drop 16 text)) 16 made.count in
    let goes_on = drop_at (ige_block key c p (take 16 text)) (ige_after key n (ige_block key c p (take 16 text)) (take 16 text) (drop 16 text)) 16 made.count in
    let back = inverse_ige_block-ige_block laws key c p (take 16 text) key_bytes hc hp first in
    let others = inverse_ige_after-ige_after laws key n (λ _. key_bytes) (ige_block key c p (take 16 text)) (take 16 text) (drop 16 text) made first (other_blocks laws n text ht) in
    rw (begins, goes_on, back, others) (take-append-drop 16 text)

pub HasBytes-inverse_ige_after : (laws : BlockLaws) → (key : List ℕ) (n : ℕ) → (0 < n → HasBytes 32 key) → (c p text : List ℕ)
    → HasBytes 16 c → HasBytes 16 p → HasBytes (16 * n) text → HasBytes (16 * n) (inverse_ige_after key n c p text)
unfolding inverse_ige_after
HasBytes-inverse_ige_after laws key zero k c p text hc hp ht = laws.nil
HasBytes-inverse_ige_after laws key (suc n) k c p text hc hp ht =
    let key_bytes = k (omega arith) in
    let first = first_block laws n text ht in
    let made = HasBytes-inverse_ige_block laws key c p (take 16 text) key_bytes hc hp first in
    let total : 16 * suc n ≡ 16 + 16 * n = omega arith in
    rw total (laws.append 16 (16 * n) (inverse_ige_block key c p (take 16 text)) _ made
    (HasBytes-inverse_ige_after laws key n (λ _. key_bytes) _ _ (drop 16 text) first made (other_blocks laws n text ht)))

pub ige_after-inverse_ige_after : (laws : BlockLaws) → (key : List ℕ) (n : ℕ) → (0 < n → HasBytes 32 key) → (c p text : List ℕ)
    → HasBytes 16 c → HasBytes 16 p → HasBytes (16 * n) text → ige_after key n c p (inverse_ige_after key n c p text) ≡ text
unfolding inverse_ige_after ige_after
ige_after-inverse_ige_after laws key zero k c p text hc hp ht = sym (nil_from_length text ht.count)
ige_after-inverse_ige_after laws key (suc n) k c p text hc hp ht =
    let key_bytes = k (omega arith) in
    let first = first_block laws n text ht in
    let made = HasBytes-inverse_ige_block laws key c p (take 16 text) key_bytes hc hp first in
    let begins = take_at (inverse_ige_block key c p (take 16 text)) (inverse_ige_after key n (take 16 text) (inverse_ige_block key c p (take 16 text)) (drop 16 text)) 16 made.count in
    let goes_on = drop_at (inverse_ige_block key c p (take 16 text)) (inverse_ige_after key n (take 16 text) (inverse_ige_block key c p (take 16 text)) (drop 16 text)) 16 made.count in
    let back = ige_block-inverse_ige_block laws key c p (take 16 text) key_bytes hc hp first in
    let others = ige_after-inverse_ige_after laws key n (λ _. key_bytes) (take 16 text) (inverse_ige_block key c p (take 16 text)) (drop 16 text) first made (other_blocks laws n text ht) in
    rw (begins, goes_on, back, others) (take-append-drop 16 text)

-- ---- the equations

block_zero : (xs ys : List ℕ) → length xs ≡ 16 → block (xs ++ ys) 0 ≡ xs
block_zero xs ys long = take_at xs ys 16 long

block_next : (text : List ℕ) (j : ℕ) → block text (suc j) ≡ block (drop 16 text) j
block_next text j =
    let place : 16 * suc j ≡ 16 + 16 * j = omega arith in
    ap (take 16) (ap (λ (m : ℕ). drop m text) place ∙ sym (drop-drop (16 * j) 16 text))

block_after : (xs ys : List ℕ) (j : ℕ) → length xs ≡ 16 → block (xs ++ ys) (suc j) ≡ block ys j
block_after xs ys j long = block_next (xs ++ ys) j ∙ ap (λ (x : List ℕ). block x j) (drop_at xs ys 16 long)

equation_at : (laws : BlockLaws) → (key : List ℕ) (n : ℕ) → (0 < n → HasBytes 32 key) → (c p text : List ℕ) → HasBytes 16 c → HasBytes 16 p → HasBytes (16 * n) text
    → (i : ℕ) → i < n
    → block (ige_after key n c p text) i
    ≡ ige_block key (block (c ++ ige_after key n c p text) i) (block (p ++ text) i) (block text i)
unfolding ige_after
equation_at laws key zero k c p text hc hp ht i within = absurd (omega arith)
equation_at laws key (suc n) k c p text hc hp ht zero within =
    let first = first_block laws n text ht in
    let made = HasBytes-ige_block laws key c p (take 16 text) (k (omega arith)) hc hp first in
    let rest : List ℕ = ige_after key n (ige_block key c p (take 16 text)) (take 16 text) (drop 16 text) in
    let here = block_zero (ige_block key c p (take 16 text)) rest made.count in
    let cipher_before = block_zero c (ige_block key c p (take 16 text) ++ rest) hc.count in
    let plain_before = block_zero p text hp.count in
    here ∙ ap₂ (λ (x : List ℕ) (y : List ℕ). ige_block key x y (take 16 text)) (sym cipher_before) (sym plain_before)
equation_at laws key (suc n) k c p text hc hp ht (suc j) within =
    let key_bytes = k (omega arith) in
    let first = first_block laws n text ht in
    let made = HasBytes-ige_block laws key c p (take 16 text) key_bytes hc hp first in
    let rest : List ℕ = ige_after key n (ige_block key c p (take 16 text)) (take 16 text) (drop 16 text) in
    let here = block_after (ige_block key c p (take 16 text)) rest j made.count in
    let cipher_before = block_after c (ige_block key c p (take 16 text) ++ rest) j hc.count in
    let plain_before : block (p ++ text) (suc j) ≡ block (take 16 text ++ drop 16 text) j =
    block_after p text j hp.count ∙ ap (λ (x : List ℕ). block x j) (sym (take-append-drop 16 text)) in
    let own = block_next text j in
    let others = equation_at laws key n (λ _. key_bytes) (ige_block key c p (take 16 text)) (take 16 text) (drop 16 text) made first (other_blocks laws n text ht) j (omega arith) in
    rw (here, cipher_before, plain_before, own) others

-- ---- under an initialisation vector

first_half_bytes : (laws : BlockLaws) → (iv : List ℕ) → HasBytes 32 iv → HasBytes 16 (take 16 iv)
first_half_bytes laws iv h = laws.first_part 16 iv (omega (arith, h.count)) h.in_range

last_half_bytes : (laws : BlockLaws) → (iv : List ℕ) → HasBytes 32 iv → HasBytes 16 (drop 16 iv)
last_half_bytes laws iv h = laws.last_part 16 16 iv h.count h.in_range

blocks_of : (n : ℕ) (text : List ℕ) → HasBytes (16 * n) text → length text / 16 ≡ n
blocks_of n text h = omega (arith, h.count)

pub inverse_ige-ige : (laws : BlockLaws) → (key iv text : List ℕ) (n : ℕ) → (0 < n → HasBytes 32 key) → HasBytes 32 iv → HasBytes (16 * n) text → inverse_ige key iv (ige key iv text) ≡ text
inverse_ige-ige laws key iv text n k h t =
    let first = first_half_bytes laws iv h in
    let last = last_half_bytes laws iv h in
    let made = HasBytes-ige_after laws key n k (take 16 iv) (drop 16 iv) text first last t in
    rw (blocks_of n text t, blocks_of n _ made) (inverse_ige_after-ige_after laws key n k (take 16 iv) (drop 16 iv) text first last t)

pub ige-inverse_ige : (laws : BlockLaws) → (key iv text : List ℕ) (n : ℕ) → (0 < n → HasBytes 32 key) → HasBytes 32 iv → HasBytes (16 * n) text → ige key iv (inverse_ige key iv text) ≡ text
ige-inverse_ige laws key iv text n k h t =
    let first = first_half_bytes laws iv h in
    let last = last_half_bytes laws iv h in
    let made = HasBytes-inverse_ige_after laws key n k (take 16 iv) (drop 16 iv) text first last t in
    rw (blocks_of n text t, blocks_of n _ made) (ige_after-inverse_ige_after laws key n k (take 16 iv) (drop 16 iv) text first last t)

pub ige-MeetsIgeEquations : (laws : BlockLaws) → (key iv text : List ℕ) (n : ℕ) → (0 < n → HasBytes 32 key) → HasBytes 32 iv → HasBytes (16 * n) text → MeetsIgeEquations key iv text (ige key iv text)
ige-MeetsIgeEquations laws key iv text n k h t =
    let first = first_half_bytes laws iv h in
    let last = last_half_bytes laws iv h in
    rw (blocks_of n text t) (record {
      same_length = (HasBytes-ige_after laws key n k (take 16 iv) (drop 16 iv) text first last t).count ∙ sym t.count;
      each_block = λ i fits. equation_at laws key n k (take 16 iv) (drop 16 iv) text first last t i (omega (arith, t.count));
    })

pub inverse_ige-MeetsIgeEquations : (laws : BlockLaws) → (key iv text : List ℕ) (n : ℕ) → (0 < n → HasBytes 32 key) → HasBytes 32 iv → HasBytes (16 * n) text → MeetsIgeEquations key iv (inverse_ige key iv text) text
inverse_ige-MeetsIgeEquations laws key iv text n k h t =
    let made = HasBytes-inverse_ige_after laws key n k (take 16 iv) (drop 16 iv) text (first_half_bytes laws iv h) (last_half_bytes laws iv h) t in
    let plain : HasBytes (16 * n) (inverse_ige key iv text) = rw (blocks_of n text t) made in
    let P : List ℕ → Type 0 = λ x. MeetsIgeEquations key iv (inverse_ige key iv text) x in
    subst P (ige-inverse_ige laws key iv text n k h t) (ige-MeetsIgeEquations laws key iv (inverse_ige key iv text) n k h plain)
