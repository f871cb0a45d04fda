-- The fronts of records, and what events they have.
use Rattle.std.proofs.Common.{◌≡◌, ◌∙◌, ℕ, List, ◌∷◌, ◌++◌, length, take, drop, get_or, arith, sym, ap}
use Rattle.std.proofs.lemmas.List.{drop_more, drop-drop, length-drop, take_all, take-append-drop}
use Rattle.std.specs.Int.{w32, w64, to_le_bytes}
use Rattle.sess_records.specs.declared.heads.Head.{Head}
use Rattle.sess_records.specs.Steps.{head_bytes}

-- the four parts of a front
head_joined : (bytes : List ℕ) → length bytes ≡ 21 → take 4 (drop 0 bytes) ++ (get_or bytes 4 0 ∷ (take 8 (drop 5 bytes) ++ take 8 (drop 13 bytes))) ≡ bytes
head_joined bytes h =
    let last : take 8 (drop 13 bytes) ≡ drop 13 bytes = take_all 8 (drop 13 bytes) (omega (arith, h, length-drop 13 bytes)) in
    let two : take 8 (drop 5 bytes) ++ take 8 (drop 13 bytes) ≡ drop 5 bytes =
    ap (λ (l : List ℕ). take 8 (drop 5 bytes) ++ l) (last ∙ sym (drop-drop 8 5 bytes)) ∙ take-append-drop 8 (drop 5 bytes) in
    let three : get_or bytes 4 0 ∷ (take 8 (drop 5 bytes) ++ take 8 (drop 13 bytes)) ≡ drop 4 bytes =
    ap (λ (l : List ℕ). get_or bytes 4 0 ∷ l) two ∙ sym (drop_more bytes 4 0 (omega (arith, h))) in
    ap (λ (l : List ℕ). take 4 bytes ++ l) three ∙ take-append-drop 4 bytes

pub head_read : (bytes : List ℕ) (head : Head) → length bytes ≡ 21 → to_le_bytes w32 head.size ≡ take 4 (drop 0 bytes) → head.kind ≡ get_or bytes 4 0
    → to_le_bytes w64 head.moment ≡ take 8 (drop 5 bytes) → to_le_bytes w64 head.place ≡ take 8 (drop 13 bytes) → head_bytes head ≡ bytes
unfolding head_bytes
head_read bytes head h size kind moment place = (λ i. size i ++ (kind i ∷ (moment i ++ place i))) ∙ head_joined bytes h
