-- What is sent is deciphered, and read.
use Rattle.std.proofs.Common.{◌≡◌, ℕ, ◌<◌, ◌+◌, ◌^◌, List, ◌++◌, take, drop, length, reverse, refl, sym, ap, ap₂, ◌∙◌, arith, true, false, Bool, Option}
use Rattle.std.specs.Prelude.{slice_range, slice_set, if◌then◌else◌}
use Rattle.std.specs.Int.{w16, to_le_bytes, from_le_bytes}
use Rattle.std.proofs.lemmas.List.{take_at, drop_at, take-append-drop, length-take-le, length-append, length-reverse, reverse-append, length-drop, length-set}
use Rattle.cipher_modes.specs.CounterMode.{CtrState, applied}
use Rattle.obfus.specs.Starts.{begins_as_another, begins_full, first_mended, next_mended, tag_bytes, start_of}
use Rattle.obfus.specs.Streams.{key_of, up_stream, down_stream, ciphered}
use Rattle.obfus.specs.Reads.{Reads}
use Rattle.obfus.specs.declared.tag.Tag.{Tag}
use Rattle.obfus.specs.declared.tag.Tag.TheVariants.{Abridged, Intermediate, Padded}
use Rattle.obfus.proofs.Parts.{length-applied, applied-append, past, part_in_front, part_behind}

-- what the crate below promises of a stream
abbrev pub UndoesItself : Type 0
UndoesItself = (stream : CtrState) (text : List ℕ) → applied stream (applied stream text) ≡ text

-- the streams are those of the first 56 bytes
pub same_up : (secret : Option (List ℕ)) (front one other : List ℕ) (place : ℕ) → length front ≡ 56
    → up_stream secret (front ++ one) place ≡ up_stream secret (front ++ other) place
unfolding up_stream
same_up secret front one other place long =
    let key = part_in_front 8 32 front one (omega arith) ∙ sym (part_in_front 8 32 front other (omega arith)) in
    let iv = part_in_front 40 16 front one (omega arith) ∙ sym (part_in_front 40 16 front other (omega arith)) in
    ap₂ (λ (k v : List ℕ). let s : CtrState = record { key = key_of secret k; iv = v; place = place } in s) key iv

reversed_part : (i n : ℕ) (front one other : List ℕ) → length one ≡ 8 → length other ≡ 8
    → take n (drop (8 + i) (reverse (front ++ one))) ≡ take n (drop (8 + i) (reverse (front ++ other)))
reversed_part i n front one other long as_long =
    ap (λ (l : List ℕ). take n (drop (8 + i) l)) (reverse-append front one)
    ∙ part_behind i n 8 (reverse one) (reverse front) (length-reverse one ∙ long)
    ∙ sym (part_behind i n 8 (reverse other) (reverse front) (length-reverse other ∙ as_long))
    ∙ sym (ap (λ (l : List ℕ). take n (drop (8 + i) l)) (reverse-append front other))

pub same_down : (secret : Option (List ℕ)) (front one other : List ℕ) (place : ℕ) → length one ≡ 8 → length other ≡ 8
    → down_stream secret (front ++ one) place ≡ down_stream secret (front ++ other) place
unfolding up_stream
same_down secret front one other place long as_long =
    let key = reversed_part 0 32 front one other long as_long in
    let iv = reversed_part 32 16 front one other long as_long in
    ap₂ (λ (k v : List ℕ). let s : CtrState = record { key = key_of secret k; iv = v; place = place } in s) key iv

-- the last 8 bytes alone are enciphered, by the stream as it stands behind the first 56
ciphered_parts : (secret : Option (List ℕ)) (s : CtrState) (front back : List ℕ) → length front ≡ 56
    → up_stream secret (front ++ back) 0 ≡ s → ciphered secret (front ++ back) ≡ front ++ applied (past s 56) back
unfolding ciphered
ciphered_parts secret s front back long is =
    let text : List ℕ = front ++ back in
    let split : applied s text ≡ applied s front ++ applied (past s 56) back =
    applied-append s front back ∙ ap (λ (n : ℕ). applied s front ++ applied (past s n) back) long in
    let behind : drop 56 (applied s text) ≡ applied (past s 56) back =
    ap (drop 56) split ∙ drop_at (applied s front) (applied (past s 56) back) 56 (length-applied s front ∙ long) in
    let its : drop 56 (applied (up_stream secret text 0) text) ≡ applied (past s 56) back =
    ap (λ (z : CtrState). drop 56 (applied z text)) is ∙ behind in
    ap₂ (λ (f b : List ℕ). f ++ b) (take_at front back 56 long) its

module _ (secret : Option (List ℕ)) (start : List ℕ) (long : length start ≡ 64) where
  front : List ℕ
  front = take 56 start

  back : List ℕ
  back = drop 56 start

  behind : CtrState
  behind = past (up_stream secret start 0) 56

  whole : front ++ back ≡ start
  unfolding front back
  whole = take-append-drop 56 start

  front_long : length front ≡ 56
  unfolding front
  front_long = length-take-le 56 start (omega arith)

  back_long : length back ≡ 8
  unfolding back
  back_long = omega (arith, length-drop 56 start)

  sent : ciphered secret start ≡ front ++ applied behind back
  unfolding behind
  sent =
      sym (ap (ciphered secret) whole)
      ∙ ciphered_parts secret (up_stream secret start 0) front back front_long (ap (λ (l : List ℕ). up_stream secret l 0) whole)

  -- both sides know the streams
  pub up_of_wire : (place : ℕ) → up_stream secret start place ≡ up_stream secret (ciphered secret start) place
  up_of_wire place =
      sym (ap (λ (l : List ℕ). up_stream secret l place) whole)
      ∙ same_up secret front back (applied behind back) place front_long
      ∙ sym (ap (λ (l : List ℕ). up_stream secret l place) sent)

  pub down_of_wire : (place : ℕ) → down_stream secret start place ≡ down_stream secret (ciphered secret start) place
  down_of_wire place =
      sym (ap (λ (l : List ℕ). down_stream secret l place) whole)
      ∙ same_down secret front back (applied behind back) place back_long (length-applied behind back ∙ back_long)
      ∙ sym (ap (λ (l : List ℕ). down_stream secret l place) sent)

  pub deciphered : UndoesItself → ciphered secret (ciphered secret start) ≡ start
  unfolding behind
  deciphered undone =
      let same : up_stream secret (front ++ applied behind back) 0 ≡ up_stream secret start 0 =
      ap (λ (l : List ℕ). up_stream secret l 0) (sym sent) ∙ sym (up_of_wire 0) in
      ap (ciphered secret) sent
      ∙ ciphered_parts secret (up_stream secret start 0) front (applied behind back) front_long same
      ∙ ap (λ (l : List ℕ). front ++ l) (undone behind back)
      ∙ whole

  -- the first 8 bytes are sent as they are
  pub sent_front : take 56 (ciphered secret start) ≡ take 56 start
  unfolding front
  sent_front = ap (take 56) sent ∙ take_at front (applied behind back) 56 front_long

-- ---- a start

length-changed : (b : Bool) (xs : List ℕ) (i v : ℕ) → length (if b then slice_set xs i v else xs) ≡ length xs
length-changed true xs i v = length-set xs i v
length-changed false xs i v = refl

pub length-first : (xs : List ℕ) → length (first_mended xs) ≡ length xs
length-first xs = length-changed (begins_as_another xs) xs 0 1

length-mended : (xs : List ℕ) → length (next_mended (first_mended xs)) ≡ length xs
length-mended xs =
    length-changed (begins_full (first_mended xs)) (first_mended xs) 4 1 ∙ length-first xs

pub length-tag_bytes : (tag : Tag) → length (tag_bytes tag) ≡ 4
length-tag_bytes Abridged = refl
length-tag_bytes Intermediate = refl
length-tag_bytes Padded = refl

module _ (tag : Tag) (dc : ℕ) (drawn : List ℕ) (long : length drawn ≡ 64) where
  mended : List ℕ
  mended = next_mended (first_mended drawn)

  mended_long : length mended ≡ 64
  unfolding mended
  mended_long = length-mended drawn ∙ long

  start_is : start_of tag dc drawn ≡ take 56 mended ++ (tag_bytes tag ++ (to_le_bytes w16 dc ++ drop 62 mended))
  unfolding start_of mended
  start_is = refl

  first_long : length (take 56 mended) ≡ 56
  first_long = length-take-le 56 mended (omega (arith, mended_long))

  pub start_long : length (start_of tag dc drawn) ≡ 64
  start_long =
      let a = length-append (take 56 mended) (tag_bytes tag ++ (to_le_bytes w16 dc ++ drop 62 mended)) in
      let b = length-append (tag_bytes tag) (to_le_bytes w16 dc ++ drop 62 mended) in
      let c : length (to_le_bytes w16 dc ++ drop 62 mended) ≡ 2 + length (drop 62 mended) = length-append (to_le_bytes w16 dc) (drop 62 mended) in
      ap length start_is ∙ omega (arith, a, b, c, first_long, length-tag_bytes tag, length-drop 62 mended, mended_long)

  pub start_front : take 56 (start_of tag dc drawn) ≡ take 56 (next_mended (first_mended drawn))
  unfolding mended
  start_front = ap (take 56) start_is ∙ take_at (take 56 mended) (tag_bytes tag ++ (to_le_bytes w16 dc ++ drop 62 mended)) 56 first_long

  start_tag : slice_range (start_of tag dc drawn) 56 60 ≡ tag_bytes tag
  start_tag =
      ap (λ (l : List ℕ). take 4 (drop 56 l)) start_is
      ∙ part_behind 0 4 56 (take 56 mended) (tag_bytes tag ++ (to_le_bytes w16 dc ++ drop 62 mended)) first_long
      ∙ take_at (tag_bytes tag) (to_le_bytes w16 dc ++ drop 62 mended) 4 (length-tag_bytes tag)

  start_dc : slice_range (start_of tag dc drawn) 60 62 ≡ to_le_bytes w16 dc
  start_dc =
      ap (λ (l : List ℕ). take 2 (drop 60 l)) start_is
      ∙ part_behind 4 2 56 (take 56 mended) (tag_bytes tag ++ (to_le_bytes w16 dc ++ drop 62 mended)) first_long
      ∙ part_behind 0 2 4 (tag_bytes tag) (to_le_bytes w16 dc ++ drop 62 mended) (length-tag_bytes tag)
      ∙ take_at (to_le_bytes w16 dc) (drop 62 mended) 2 refl

dc_read : (dc : ℕ) → dc < 2 ^ 16 → dc ≡ from_le_bytes w16 (to_le_bytes w16 dc)
dc_read dc fits = omega arith

pub read_back : UndoesItself → (secret : Option (List ℕ)) (tag : Tag) (dc : ℕ) (drawn : List ℕ) → length drawn ≡ 64 → dc < 2 ^ 16
    → Reads secret (ciphered secret (start_of tag dc drawn)) (record {
      tag = tag;
      dc = dc;
      up = up_stream secret (start_of tag dc drawn) 64;
      down = down_stream secret (start_of tag dc drawn) 0;
    })
read_back undone secret tag dc drawn long fits =
    let start : List ℕ = start_of tag dc drawn in
    let start_long' : length start ≡ 64 = start_long tag dc drawn long in
    let plain = deciphered secret start start_long' undone in
    record {
      tag = ap (λ (l : List ℕ). slice_range l 56 60) plain ∙ start_tag tag dc drawn long;
      dc = dc_read dc fits ∙ ap (from_le_bytes w16) (sym (start_dc tag dc drawn long) ∙ sym (ap (λ (l : List ℕ). slice_range l 60 62) plain));
      up = up_of_wire secret start start_long' 64;
      down = down_of_wire secret start start_long' 0;
    }
