-- Lines of a text.
use Rattle.std.proofs.Common.{◌≡◌, ◌≢◌, ◌∙◌, ℕ, suc, ◌+◌, ◌-◌, ◌<◌, ◌≤◌, List, [], ◌∷◌, ◌++◌, length, get_or, take, drop, All, ap, sym, subst, refl, arith, add-one, drop-cons}
use Rattle.std.proofs.lemmas.List.{take-append-drop, take_all, get_or-take, get_or_default}
use Rattle.std.proofs.lemmas.List.{length-take-le}
use Rattle.std.proofs.Math.Seq.{drop-length}
use Rattle.std.proofs.lemmas.List.{length-drop}
use Rattle.std.proofs.lemmas.List.Elements.{All-head, All-tail}
use Rattle.std.proofs.lemmas.Bool.{ne_eqb, cond-false}
use Rattle.auth_keys.specs.KeyFile.{lines_of, onto_first}

-- a list round its member at a place
pub parted : (xs : List ℕ) (place byte : ℕ) → place < length xs → get_or xs place 0 ≡ byte → xs ≡ take place xs ++ byte ∷ drop (place + 1) xs
parted xs place byte within e =
    sym (take-append-drop place xs) ∙ ap (λ rest. take place xs ++ rest) (drop-cons xs place 0 within ∙ (ap (λ b. b ∷ drop (suc place) xs) e ∙ ap (λ n. byte ∷ drop n xs) (sym (add-one place))))

-- members before a place that pass
pub none_before : (P : ℕ → Type 0) (xs : List ℕ) (place : ℕ) → place ≤ length xs → ((k : ℕ) → k < place → P (get_or xs k 0)) → All P (take place xs)
none_before P xs place within h = λ k d less.
    let below : k < place = omega (arith, length-take-le place xs within) in
    let at : get_or (take place xs) k d ≡ get_or xs k 0 = get_or-take place xs k d below ∙ get_or_default xs k d 0 (omega arith) in
    subst P (sym at) (h k below)

-- all members pass
pub none_at_all : (P : ℕ → Type 0) (xs : List ℕ) → ((k : ℕ) → k < length xs → P (get_or xs k 0)) → All P xs
none_at_all P xs h = λ k d less. subst P (sym (get_or_default xs k d 0 less)) (h k less)

-- a line and its newline, before the lines that follow
pub lines_of-line : (line rest : List ℕ) → All (λ b. b ≢ 10) line → lines_of (line ++ 10 ∷ rest) ≡ line ∷ lines_of rest
lines_of-line [] rest h = refl
lines_of-line (byte ∷ line) rest h =
    let apart = ne_eqb byte 10 (All-head (λ b. b ≢ 10) byte line h) in
    cond-false _ _ _ apart ∙ ap (onto_first byte) (lines_of-line line rest (All-tail (λ b. b ≢ 10) byte line h))

-- a last line that has no newline
pub lines_of-last : (line : List ℕ) → 0 < length line → All (λ b. b ≢ 10) line → lines_of line ≡ line ∷ []
lines_of-last [] some h = absurd (omega arith)
lines_of-last (byte ∷ []) some h = cond-false _ _ _ (ne_eqb byte 10 (All-head (λ b. b ≢ 10) byte [] h))
lines_of-last (byte ∷ next ∷ line) some h =
    let apart = ne_eqb byte 10 (All-head (λ b. b ≢ 10) byte (next ∷ line) h) in
    cond-false _ _ _ apart ∙ ap (onto_first byte) (lines_of-last (next ∷ line) (omega arith) (All-tail (λ b. b ≢ 10) byte (next ∷ line) h))

-- the first line of a text ends at the first newline
pub lines_of-cut : (text : List ℕ) (place : ℕ) → place < length text → get_or text place 0 ≡ 10 → ((k : ℕ) → k < place → get_or text k 0 ≢ 10) → lines_of text ≡ take place text ∷ lines_of (take (length text - (place + 1)) (drop (place + 1) text))
lines_of-cut text place within at before =
    let rest : take (length text - (place + 1)) (drop (place + 1) text) ≡ drop (place + 1) text = take_all _ _ (omega (arith, length-drop (place + 1) text)) in
    ap lines_of (parted text place 10 within at) ∙ lines_of-line (take place text) (drop (place + 1) text) (none_before (λ b. b ≢ 10) text place (omega arith) before)
    ∙ ap (λ xs. take place text ∷ lines_of xs) (sym rest)

-- a text with no newline is one line
pub lines_of-whole : (text : List ℕ) → 0 < length text → ((k : ℕ) → k < length text → get_or text k 0 ≢ 10) → lines_of text ≡ text ∷ lines_of (take (length text - length text) (drop (length text) text))
lines_of-whole text some none =
    lines_of-last text some (none_at_all (λ b. b ≢ 10) text none) ∙ ap (λ xs. text ∷ lines_of xs) (sym (take_all _ (drop (length text) text) (omega (arith, length-drop (length text) text)) ∙ drop-length text))
