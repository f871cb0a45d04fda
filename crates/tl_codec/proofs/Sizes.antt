-- How many bytes a spelling has.
use Rattle.std.proofs.Common.{◌≡◌, ℕ, ◌+◌, ◌*◌, ltb, true, false, inl, inr, List, ◌++◌, length, replicate, cond, refl, arith}
use Rattle.std.specs.List.{flat_map}
use Rattle.std.proofs.lemmas.Bool.{cases_lt, lt-ltb, le-ltb}
use Rattle.std.proofs.lemmas.List.{length-append, length-replicate}
use Rattle.byteorder.specs.Endian.{little_bytes}
use Rattle.byteorder.specs.Numbers.{length-bytes_low_first}
use Rattle.tl_codec.specs.Standard.{vector, bool_true, bool_false}
use Rattle.tl_codec.specs.Spelling.{Form, Int, Long, Raw, Bytes, Longs, Truth, Tag, Of, Fits, head, padding_of, string_size, size_of, spelling}
use Rattle.tl_codec.proofs.Vectors.{length-spelt}

-- the length in front of a string
head_size : (size : ℕ) → length (head size) ≡ cond (ltb size 254) 1 4
head_size size =
    elim (cases_lt size 254) [
      | inl lt ↦ let test : ltb size 254 ≡ true = lt-ltb _ _ lt in rw test refl
      | inr le ↦ let test : ltb size 254 ≡ false = le-ltb _ _ le in rw test refl
    ]

string_sized : (content : List ℕ) → length (spelling Bytes content) ≡ string_size (length content)
unfolding spelling
string_sized content =
    let size = length content in
    let front = head_size size in
    let padding : List ℕ = replicate (padding_of (length (head size) + size)) 0 in
    rw (length-append (head size ++ content) padding, length-append (head size) content, length-replicate {A = ℕ} (padding_of (length (head size) + size)) 0, front) refl

longs_sized : (numbers : List ℕ) → length (spelling Longs numbers) ≡ 8 + 8 * length numbers
unfolding spelling
longs_sized numbers =
    let tag = little_bytes 4 vector in
    let count = little_bytes 4 (length numbers) in
    let items = flat_map (little_bytes 8) numbers in
    omega (arith, length-append (tag ++ count) items, length-append tag count, length-bytes_low_first 0 4 vector, length-bytes_low_first 0 4 (length numbers), length-spelt numbers)

pub spelt_sized : (form : Form) (value : Of form) → Fits form value → length (spelling form value) ≡ size_of form value
unfolding spelling
spelt_sized Int value fits = length-bytes_low_first 0 4 value
spelt_sized Long value fits = length-bytes_low_first 0 8 value
spelt_sized (Raw size) value fits = fits
spelt_sized Bytes value fits = string_sized value
spelt_sized Longs value fits = longs_sized value
spelt_sized Truth value fits = length-bytes_low_first 0 4 (cond value bool_true bool_false)
spelt_sized (Tag number) value fits = length-bytes_low_first 0 4 number
