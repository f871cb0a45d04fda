-- A vector of numbers at the front of a text.
use Rattle.std.proofs.Common.{◌≡◌, ℕ, zero, suc, ◌+◌, ◌*◌, ◌%◌, ◌^◌, ◌<◌, ◌≤◌, ltb, eqb, true, false, cond, List, [], ◌∷◌, ◌++◌, length, take, drop, Ok, Err, refl, sym, ap, subst, ◌∙◌, append_assoc, arith}
use Rattle.std.proofs.Math.Seq.{take-add}
use Rattle.std.specs.List.{flat_map}
use Rattle.std.proofs.lemmas.Bool.{le-ltb, ltb-false, eqb-true, eq-eqb}
use Rattle.std.proofs.lemmas.List.{drop_at, take-append-drop, length-append, length-drop}
use Rattle.byteorder.specs.Endian.{little_bytes}
use Rattle.byteorder.specs.Numbers.{length-bytes_low_first, little_number-reads_back}
use Rattle.tl_codec.specs.Standard.{vector, longs_max}
use Rattle.tl_codec.specs.declared.fault.TlFault.TheVariants.{BadTag, TooMany, Short}
use Rattle.octets.specs.Bytes.{IsBytes, AreLongs}
use Rattle.tl_codec.specs.Spelling.{Longs, spelling, Spells}
use Rattle.tl_codec.specs.Reading.{◌>>=◌, Takes, number_at, tag_at, longs_in, longs_at}
use Rattle.tl_codec.proofs.Steps.{bind_ok, guard_ok, guard_held, guard_then}
use Rattle.tl_codec.proofs.Texts.{IsBytes-drop, IsBytes-after}
use Rattle.tl_codec.proofs.Longs.{AreLongs-longs_in}
use Rattle.tl_codec.proofs.Numbers.{little_bytes-little_number, number_takes, number_again}

-- ---- a constructor

pub tag_takes : (want : ℕ) (text : List ℕ) (value : Unit {0}) (rest : List ℕ) → IsBytes text → tag_at want text ≡ Ok (value, rest) → (want < 2 ^ 32) × (text ≡ little_bytes 4 want ++ rest)
unfolding tag_at
tag_takes want text value rest fits e =
    let a = bind_ok (number_at 4 text) (λ found. cond (eqb found.0 want) (Ok (tt, found.1)) (Err (BadTag found.0))) (value, rest) e in
    let g = guard_held (eqb a.0.0 want) (BadTag a.0.0) (tt, a.0.1) (value, rest) a.2 in
    let is : a.0.0 ≡ want = eqb-true _ _ g.0 in
    let same : a.0.1 ≡ rest = ap (λ (p : Unit {0} × List ℕ). p.1) g.1 in
    let taken = number_takes 4 text a.0.0 a.0.1 fits a.1 in
    let spelt : text ≡ little_bytes 4 want ++ a.0.1 = subst (λ (n : ℕ). text ≡ little_bytes 4 n ++ a.0.1) is taken.1 in
    (subst (λ (n : ℕ). n < 2 ^ 32) is taken.0, subst (λ (left : List ℕ). text ≡ little_bytes 4 want ++ left) same spelt)

pub tag_again : (want : ℕ) (rest : List ℕ) → want < 2 ^ 32 → tag_at want (little_bytes 4 want ++ rest) ≡ Ok (tt, rest)
unfolding tag_at
tag_again want rest lt =
    let is : eqb want want ≡ true = eq-eqb want want refl in
    rw (number_again 4 want rest lt, is) refl

-- ---- the items

length-longs_in : (count : ℕ) (text : List ℕ) → length (longs_in count text) ≡ count
length-longs_in zero text = refl
length-longs_in (suc count) text = ap suc (length-longs_in count (drop 8 text))

longs_in-spelt : (count : ℕ) (text : List ℕ) → 8 * count ≤ length text → IsBytes text → flat_map (little_bytes 8) (longs_in count text) ≡ take (8 * count) text
longs_in-spelt zero text enough fits = refl
longs_in-spelt (suc count) text enough fits =
    let first = little_bytes-little_number 8 text (omega arith) fits in
    let others = longs_in-spelt count (drop 8 text) (omega (arith, length-drop 8 text)) (IsBytes-drop 8 text fits) in
    let sum : 8 * suc count ≡ 8 + 8 * count = omega arith in
    rw (sum, take-add 8 (8 * count) text, ← first, ← others) refl

pub length-spelt : (numbers : List ℕ) → length (flat_map (little_bytes 8) numbers) ≡ 8 * length numbers
length-spelt [] = refl
length-spelt (n ∷ numbers) =
    omega (arith, length-append (little_bytes 8 n) (flat_map (little_bytes 8) numbers), length-bytes_low_first 0 8 n, length-spelt numbers)

AreLongs-tail : (n : ℕ) (numbers : List ℕ) → AreLongs (n ∷ numbers) → AreLongs numbers
AreLongs-tail n numbers fit i = fit (suc i)

longs_in-again : (numbers rest : List ℕ) → AreLongs numbers → longs_in (length numbers) (flat_map (little_bytes 8) numbers ++ rest) ≡ numbers
longs_in-again [] rest fit = refl
longs_in-again (n ∷ numbers) rest fit =
    let others = flat_map (little_bytes 8) numbers ++ rest in
    let regrouped : flat_map (little_bytes 8) (n ∷ numbers) ++ rest ≡ little_bytes 8 n ++ others = append_assoc (little_bytes 8 n) (flat_map (little_bytes 8) numbers) rest in
    let first = little_number-reads_back 8 n others (fit 0) in
    let after : drop 8 (little_bytes 8 n ++ others) ≡ others = drop_at (little_bytes 8 n) others 8 (length-bytes_low_first 0 8 n) in
    ap (longs_in (suc (length numbers))) regrouped ∙ rw (first, after, longs_in-again numbers rest (AreLongs-tail n numbers fit)) refl

-- ---- the whole vector

longs_stand : (count : ℕ) (text left : List ℕ) → IsBytes left → count ≤ longs_max → 8 * count ≤ length left
    → text ≡ little_bytes 4 vector ++ (little_bytes 4 count ++ left) → Takes Longs (longs_in count left) text (drop (8 * count) left)
unfolding spelling
longs_stand count text left fits few enough e =
    let numbers = longs_in count left in
    let len = length-longs_in count left in
    let items = longs_in-spelt count left enough fits in
    let regrouped : text ≡ (little_bytes 4 vector ++ little_bytes 4 count ++ take (8 * count) left) ++ drop (8 * count) left =
    e
    ∙ ap (λ (x : List ℕ). little_bytes 4 vector ++ (little_bytes 4 count ++ x)) (sym (take-append-drop (8 * count) left))
    ∙ sym (append_assoc (little_bytes 4 vector) (little_bytes 4 count) (take (8 * count) left ++ drop (8 * count) left))
    ∙ sym (append_assoc (little_bytes 4 vector ++ little_bytes 4 count) (take (8 * count) left) (drop (8 * count) left)) in
    let same : little_bytes 4 vector ++ little_bytes 4 count ++ take (8 * count) left ≡ spelling Longs numbers =
    ap (λ (x : List ℕ). little_bytes 4 vector ++ little_bytes 4 count ++ x) (sym items) ∙ ap (λ (n : ℕ). little_bytes 4 vector ++ little_bytes 4 n ++ flat_map (little_bytes 8) numbers) (sym len) in
    (spelling Longs numbers, ((rw len few, AreLongs-longs_in count left fits), refl), subst (λ (x : List ℕ). text ≡ x ++ drop (8 * count) left) same regrouped)

pub longs_take : (text numbers rest : List ℕ) → IsBytes text → longs_at text ≡ Ok (numbers, rest) → Takes Longs numbers text rest
unfolding longs_at
longs_take text numbers rest fits e =
    let a = bind_ok (tag_at vector text) (λ tag. number_at 4 tag.1 >>= λ count. cond (ltb longs_max count.0) (Err (TooMany count.0)) (cond (ltb (length count.1) (8 * count.0)) (Err (Short 8 (length count.1 % 8))) (Ok (longs_in count.0 count.1, drop (8 * count.0) count.1)))) (numbers, rest) e in
    let b = bind_ok (number_at 4 a.0.1) (λ count. cond (ltb longs_max count.0) (Err (TooMany count.0)) (cond (ltb (length count.1) (8 * count.0)) (Err (Short 8 (length count.1 % 8))) (Ok (longs_in count.0 count.1, drop (8 * count.0) count.1)))) (numbers, rest) a.2 in
    let few = guard_then (ltb longs_max b.0.0) (TooMany b.0.0) (cond (ltb (length b.0.1) (8 * b.0.0)) (Err (Short 8 (length b.0.1 % 8))) (Ok (longs_in b.0.0 b.0.1, drop (8 * b.0.0) b.0.1))) (numbers, rest) b.2 in
    let whole = guard_ok (ltb (length b.0.1) (8 * b.0.0)) (Short 8 (length b.0.1 % 8)) (longs_in b.0.0 b.0.1, drop (8 * b.0.0) b.0.1) (numbers, rest) few.1 in
    let tagged = tag_takes vector text a.0.0 a.0.1 fits a.1 in
    let after = IsBytes-after text (little_bytes 4 vector) a.0.1 tagged.1 fits in
    let counted = number_takes 4 a.0.1 b.0.0 b.0.1 after b.1 in
    let left = IsBytes-after a.0.1 (little_bytes 4 b.0.0) b.0.1 counted.1 after in
    let spelt = tagged.1 ∙ ap (λ (x : List ℕ). little_bytes 4 vector ++ x) counted.1 in
    let made : List ℕ × List ℕ = (longs_in b.0.0 b.0.1, drop (8 * b.0.0) b.0.1) in
    subst (λ (p : List ℕ × List ℕ). Takes Longs p.0 text p.1) {x = made} whole.1 (longs_stand b.0.0 text b.0.1 left (ltb-false _ _ few.0) (ltb-false _ _ whole.0) spelt)

pub longs_again : (numbers text rest : List ℕ) → Spells Longs numbers text → longs_at (text ++ rest) ≡ Ok (numbers, rest)
unfolding longs_at spelling
longs_again numbers text rest spelt =
    let count = length numbers in
    let items = flat_map (little_bytes 8) numbers in
    let regrouped : text ++ rest ≡ little_bytes 4 vector ++ (little_bytes 4 count ++ (items ++ rest)) =
    rw spelt.1 (append_assoc (little_bytes 4 vector ++ little_bytes 4 count) items rest ∙ append_assoc (little_bytes 4 vector) (little_bytes 4 count) (items ++ rest)) in
    let tagged = tag_again vector (little_bytes 4 count ++ (items ++ rest)) (omega arith) in
    let counted = number_again 4 count (items ++ rest) (omega (arith, spelt.0.0)) in
    let few : ltb longs_max count ≡ false = le-ltb _ _ spelt.0.0 in
    let enough : ltb (length (items ++ rest)) (8 * count) ≡ false = le-ltb _ _ (omega (arith, length-append items rest, length-spelt numbers)) in
    let after : drop (8 * count) (items ++ rest) ≡ rest = drop_at items rest (8 * count) (length-spelt numbers) in
    ap longs_at regrouped ∙ rw (tagged, counted, few, enough, longs_in-again numbers rest spelt.0.1, after) refl
