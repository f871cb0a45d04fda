-- The inverse cipher undoes the cipher, and the cipher the inverse cipher, under every schedule
-- whose round keys are lists of 16 bytes.
use Rattle.std.proofs.Common.{◌≡◌, ℕ, zero, suc, ◌<◌, ◌≤◌, ◌+◌, ◌-◌, List, refl, sym, ap, ◌∙◌, arith}
use Rattle.octets.specs.Bytes.{HasBytes}
use Rattle.aes_core.specs.KeySchedule.{round_key}
use Rattle.aes_core.specs.Cipher.{sub_bytes, inverse_sub_bytes, shift_rows, inverse_shift_rows, mix_columns, inverse_mix_columns, add_round_key, round, rounds, inverse_round, inverse_rounds, cipher, inverse_cipher}
use Rattle.aes_core.proofs.StateLaws.{HasBytes-sub_bytes, HasBytes-inverse_sub_bytes, inverse_sub_bytes-sub_bytes, sub_bytes-inverse_sub_bytes, HasBytes-shift_rows, HasBytes-inverse_shift_rows, inverse_shift_rows-shift_rows, shift_rows-inverse_shift_rows, HasBytes-mix_columns, HasBytes-inverse_mix_columns, inverse_mix_columns-mix_columns, mix_columns-inverse_mix_columns, HasBytes-add_round_key, add_round_key_twice}

-- each round key of the schedule is a list of 16 bytes
abbrev pub RoundKeys : List ℕ → Type 0
RoundKeys w = (r : ℕ) → r ≤ 14 → HasBytes 16 (round_key w r)

-- ---- the states are lists of 16 bytes

HasBytes-rows : (s : List ℕ) → HasBytes 16 s → HasBytes 16 (shift_rows (sub_bytes s))
HasBytes-rows s h = HasBytes-shift_rows (sub_bytes s) (HasBytes-sub_bytes s h)

HasBytes-inverse_rows : (s : List ℕ) → HasBytes 16 s → HasBytes 16 (inverse_sub_bytes (inverse_shift_rows s))
HasBytes-inverse_rows s h = HasBytes-inverse_sub_bytes (inverse_shift_rows s) (HasBytes-inverse_shift_rows s h)

HasBytes-rounds : (w : List ℕ) → RoundKeys w → (n : ℕ) → n ≤ 14 → (s : List ℕ) → HasBytes 16 s → HasBytes 16 (rounds w n s)
unfolding rounds
HasBytes-rounds w k zero le s h = h
HasBytes-rounds w k (suc n) le s h =
    let before = HasBytes-rounds w k n (omega arith) s h in
    HasBytes-add_round_key w (n + 1) _ (k (n + 1) (omega arith)) (HasBytes-mix_columns _ (HasBytes-rows (rounds w n s) before))

HasBytes-inverse_round : (w : List ℕ) → RoundKeys w → (r : ℕ) → r ≤ 14 → (s : List ℕ) → HasBytes 16 s → HasBytes 16 (inverse_round w r s)
HasBytes-inverse_round w k r le s h =
    HasBytes-inverse_mix_columns _ (HasBytes-add_round_key w r _ (k r le) (HasBytes-inverse_rows s h))

HasBytes-inverse_rounds : (w : List ℕ) → RoundKeys w → (n : ℕ) → n ≤ 14 → (s : List ℕ) → HasBytes 16 s → HasBytes 16 (inverse_rounds w n s)
unfolding inverse_rounds
HasBytes-inverse_rounds w k zero le s h = h
HasBytes-inverse_rounds w k (suc n) le s h =
    HasBytes-inverse_rounds w k n (omega arith) (inverse_round w (n + 1) s) (HasBytes-inverse_round w k (n + 1) (omega arith) s h)

pub HasBytes-cipher : (w : List ℕ) → RoundKeys w → (s : List ℕ) → HasBytes 16 s → HasBytes 16 (cipher w s)
unfolding cipher
HasBytes-cipher w k s h =
    HasBytes-add_round_key w 14 _ (k 14 (omega arith))
    (HasBytes-rows _ (HasBytes-rounds w k 13 (omega arith) _ (HasBytes-add_round_key w 0 s (k 0 (omega arith)) h)))

pub HasBytes-inverse_cipher : (w : List ℕ) → RoundKeys w → (s : List ℕ) → HasBytes 16 s → HasBytes 16 (inverse_cipher w s)
unfolding inverse_cipher
HasBytes-inverse_cipher w k s h =
    HasBytes-add_round_key w 0 _ (k 0 (omega arith))
    (HasBytes-inverse_rows _ (HasBytes-inverse_rounds w k 13 (omega arith) _ (HasBytes-add_round_key w 14 s (k 14 (omega arith)) h)))

-- ---- the steps undone

inverse_rows-rows : (s : List ℕ) → HasBytes 16 s → inverse_sub_bytes (inverse_shift_rows (shift_rows (sub_bytes s))) ≡ s
inverse_rows-rows s h =
    ap inverse_sub_bytes (inverse_shift_rows-shift_rows (sub_bytes s) (HasBytes-sub_bytes s h))
    ∙ inverse_sub_bytes-sub_bytes s h

rows-inverse_rows : (s : List ℕ) → HasBytes 16 s → shift_rows (sub_bytes (inverse_sub_bytes (inverse_shift_rows s))) ≡ s
rows-inverse_rows s h =
    ap shift_rows (sub_bytes-inverse_sub_bytes (inverse_shift_rows s) (HasBytes-inverse_shift_rows s h))
    ∙ shift_rows-inverse_shift_rows s h

-- an inverse round takes the rows after a round to the rows before it
inverse_round-round : (w : List ℕ) (r : ℕ) (s : List ℕ) → HasBytes 16 (round_key w r) → HasBytes 16 s
    → inverse_round w r (shift_rows (sub_bytes (round w r s))) ≡ shift_rows (sub_bytes s)
inverse_round-round w r s k h =
    let rows = HasBytes-rows s h in
    let mix = HasBytes-mix_columns (shift_rows (sub_bytes s)) rows in
    ap (λ (x : List ℕ). inverse_mix_columns (add_round_key w r x)) (inverse_rows-rows (round w r s) (HasBytes-add_round_key w r _ k mix))
    ∙ ap inverse_mix_columns (add_round_key_twice w r (mix_columns (shift_rows (sub_bytes s))) k mix)
    ∙ inverse_mix_columns-mix_columns (shift_rows (sub_bytes s)) rows

round-inverse_round : (w : List ℕ) (r : ℕ) (s : List ℕ) → HasBytes 16 (round_key w r) → HasBytes 16 s
    → add_round_key w r (mix_columns (inverse_round w r s)) ≡ inverse_sub_bytes (inverse_shift_rows s)
round-inverse_round w r s k h =
    let rows = HasBytes-inverse_rows s h in
    ap (add_round_key w r) (mix_columns-inverse_mix_columns _ (HasBytes-add_round_key w r _ k rows))
    ∙ add_round_key_twice w r (inverse_sub_bytes (inverse_shift_rows s)) k rows

inverse_rounds-rounds : (w : List ℕ) → RoundKeys w → (n : ℕ) → n ≤ 14 → (s : List ℕ) → HasBytes 16 s
    → inverse_rounds w n (shift_rows (sub_bytes (rounds w n s))) ≡ shift_rows (sub_bytes s)
unfolding rounds inverse_rounds
inverse_rounds-rounds w k zero le s h = refl
inverse_rounds-rounds w k (suc n) le s h =
    ap (inverse_rounds w n) (inverse_round-round w (n + 1) (rounds w n s) (k (n + 1) (omega arith)) (HasBytes-rounds w k n (omega arith) s h))
    ∙ inverse_rounds-rounds w k n (omega arith) s h

rounds-inverse_rounds : (w : List ℕ) → RoundKeys w → (n : ℕ) → n ≤ 14 → (s : List ℕ) → HasBytes 16 s
    → rounds w n (inverse_sub_bytes (inverse_shift_rows (inverse_rounds w n s))) ≡ inverse_sub_bytes (inverse_shift_rows s)
unfolding rounds inverse_rounds
rounds-inverse_rounds w k zero le s h = refl
rounds-inverse_rounds w k (suc n) le s h =
    let next = HasBytes-inverse_round w k (n + 1) (omega arith) s h in
    ap (round w (n + 1)) (rounds-inverse_rounds w k n (omega arith) (inverse_round w (n + 1) s) next)
    ∙ ap (λ (x : List ℕ). add_round_key w (n + 1) (mix_columns x)) (rows-inverse_rows (inverse_round w (n + 1) s) next)
    ∙ round-inverse_round w (n + 1) s (k (n + 1) (omega arith)) h

pub inverse_cipher-cipher : (w : List ℕ) → RoundKeys w → (s : List ℕ) → HasBytes 16 s → inverse_cipher w (cipher w s) ≡ s
unfolding cipher inverse_cipher
inverse_cipher-cipher w k s h =
    let first = HasBytes-add_round_key w 0 s (k 0 (omega arith)) h in
    let last = HasBytes-rows _ (HasBytes-rounds w k 13 (omega arith) (add_round_key w 0 s) first) in
    ap (λ (x : List ℕ). add_round_key w 0 (inverse_sub_bytes (inverse_shift_rows (inverse_rounds w 13 x))))
    (add_round_key_twice w 14 _ (k 14 (omega arith)) last)
    ∙ ap (λ (x : List ℕ). add_round_key w 0 (inverse_sub_bytes (inverse_shift_rows x)))
    (inverse_rounds-rounds w k 13 (omega arith) (add_round_key w 0 s) first)
    ∙ ap (add_round_key w 0) (inverse_rows-rows (add_round_key w 0 s) first)
    ∙ add_round_key_twice w 0 s (k 0 (omega arith)) h

pub cipher-inverse_cipher : (w : List ℕ) → RoundKeys w → (s : List ℕ) → HasBytes 16 s → cipher w (inverse_cipher w s) ≡ s
unfolding cipher inverse_cipher
cipher-inverse_cipher w k s h =
    let first = HasBytes-add_round_key w 14 s (k 14 (omega arith)) h in
    let last = HasBytes-inverse_rows _ (HasBytes-inverse_rounds w k 13 (omega arith) (add_round_key w 14 s) first) in
    ap (λ (x : List ℕ). add_round_key w 14 (shift_rows (sub_bytes (rounds w 13 x))))
    (add_round_key_twice w 0 _ (k 0 (omega arith)) last)
    ∙ ap (λ (x : List ℕ). add_round_key w 14 (shift_rows (sub_bytes x)))
    (rounds-inverse_rounds w k 13 (omega arith) (add_round_key w 14 s) first)
    ∙ ap (add_round_key w 14) (rows-inverse_rows (add_round_key w 14 s) first)
    ∙ add_round_key_twice w 14 s (k 14 (omega arith)) h

-- ---- the steps of the code's loops

pub rounds_next : (w s t : List ℕ) (r : ℕ) → 1 ≤ r → t ≡ rounds w (r - 1) s → round w r t ≡ rounds w (r + 1 - 1) s
unfolding rounds
rounds_next w s t r first h =
    let place : r - 1 + 1 ≡ r = omega arith in
    let count : r + 1 - 1 ≡ suc (r - 1) = omega arith in
    ap (round w r) h
    ∙ ap (λ (k : ℕ). round w k (rounds w (r - 1) s)) (sym place)
    ∙ ap (λ (k : ℕ). rounds w k s) (sym count)

pub inverse_rounds_next : (w s x : List ℕ) (d : ℕ) → d < 14 → inverse_rounds w (14 - d) s ≡ x
    → inverse_rounds w (14 - (d + 1)) (inverse_round w (14 - d) s) ≡ x
unfolding inverse_rounds
inverse_rounds_next w s x d within h =
    let place : 14 - (d + 1) + 1 ≡ 14 - d = omega arith in
    let count : 14 - d ≡ suc (14 - (d + 1)) = omega arith in
    ap (λ (k : ℕ). inverse_rounds w (14 - (d + 1)) (inverse_round w k s)) (sym place)
    ∙ ap (λ (k : ℕ). inverse_rounds w k s) (sym count)
    ∙ h

pub inverse_rounds_done : (w s x : List ℕ) (d : ℕ) → d ≡ 14 → inverse_rounds w (14 - d) s ≡ x → s ≡ x
unfolding inverse_rounds
inverse_rounds_done w s x d done h =
    let none : 14 - d ≡ 0 = omega arith in
    rw none at h
