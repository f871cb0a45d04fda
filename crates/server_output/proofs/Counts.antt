-- How many packets messages make at most.
use Rattle.std.proofs.Common.{◌≡◌, ℕ, ◌+◌, ◌*◌, ◌/◌, ◌≤◌, true, false, List, [], ◌∷◌, ◌++◌, length, sum_by, refl, arith, length-append, inl, inr}
use Rattle.std.proofs.lemmas.Bool.{leb-true, leb-false, le-leb, and_from, and_parts, cases_Bool}
use Rattle.std.proofs.lemmas.List.Sums.{sum_by-cons, sum_by_push}
use Rattle.std.specs.Prelude.{nat_le}
use Rattle.service_tl.specs.declared.lists.Message.{Message}
use Rattle.containers.specs.Container.{size_of}
use Rattle.packing.specs.Packing.{is_within, grouped, groups}
use Rattle.server_output.specs.Dues.{bodies_bytes}
use Rattle.server_output.specs.Batch.{is_one, packets_most, with_heads}

-- the bytes of messages with their heads
abbrev pub one_weight : Message → ℕ
one_weight message = 16 + length message.body

abbrev pub weight : List Message → ℕ
weight messages = sum_by one_weight messages

pub weight-bytes : (messages : List Message) → weight messages ≡ 16 * length messages + bodies_bytes messages
weight-bytes [] = refl
weight-bytes (message ∷ messages) =
    omega (arith, sum_by-cons one_weight message messages, sum_by-cons (λ (one : Message). length one.body) message messages, weight-bytes messages)

-- a packet ends for one of these reasons
record IsFull (begun : List Message) (message : Message) : Type 0 where
  few : length begun + 1 ≤ 1020
  short : 8 + weight begun + one_weight message ≤ 1044480

full-within : (begun : List Message) (message : Message) → IsFull begun message → is_within (begun ++ message ∷ []) ≡ true
full-within begun message fits =
    let few : length (begun ++ message ∷ []) ≤ 1020 = omega (arith, fits.few, length-append begun (message ∷ [])) in
    let short : size_of (begun ++ message ∷ []) ≤ 1044480 = omega (arith, fits.short, sum_by_push one_weight begun message) in
    and_from _ _ (le-leb (length (begun ++ message ∷ [])) 1020 few) (le-leb (size_of (begun ++ message ∷ [])) 1044480 short)

-- so many packets of so many messages and bytes: each but the last ended for one of two reasons
pub record IsCut (count messages bytes : ℕ) : Type 0 where
  pub by_count : ℕ
  pub by_bytes : ℕ
  pub all : count ≤ 1 + by_count + by_bytes
  pub messages_are : 1020 * by_count ≤ messages
  pub bytes_are : 1044473 * by_bytes ≤ bytes

contradicts : (begun : List Message) (message : Message) → is_within (begun ++ message ∷ []) ≡ false → IsFull begun message → ⊥
contradicts begun message beyond fits = let is : is_within (begun ++ message ∷ []) ≡ true = full-within begun message fits in cc

-- the next message doesn't fit
cut-next : (begun : List Message) (message : Message) (messages : List Message) → is_within (begun ++ message ∷ []) ≡ false
    → IsCut (length (grouped (message ∷ []) messages)) (1 + length messages) (weight (message ∷ []) + 2 * weight messages)
    → IsCut (length (begun ∷ grouped (message ∷ []) messages)) (length begun + length (message ∷ messages)) (weight begun + 2 * (one_weight message + weight messages))
cut-next begun message messages beyond cut =
    elim (cases_Bool (nat_le (length begun + 1) 1020)) [
      | inl few ↦ elim (cases_Bool (nat_le (8 + weight begun + one_weight message) 1044480)) [
        | inl short ↦ absurd (contradicts begun message beyond (record { few = leb-true _ _ few; short = leb-true _ _ short }))
        | inr long ↦ record {
          by_count = cut.by_count;
          by_bytes = 1 + cut.by_bytes;
          all = omega (arith, cut.all);
          messages_are = omega (arith, cut.messages_are);
          bytes_are = omega (arith, cut.bytes_are, leb-false _ _ long, sum_by-cons one_weight message []);
        }
      ]
      | inr many ↦ record {
        by_count = 1 + cut.by_count;
        by_bytes = cut.by_bytes;
        all = omega (arith, cut.all);
        messages_are = omega (arith, cut.messages_are, leb-false _ _ many);
        bytes_are = omega (arith, cut.bytes_are, sum_by-cons one_weight message []);
      }
    ]

taken : (begun : List Message) (message : Message) (messages : List Message)
    → IsCut (length (grouped (begun ++ message ∷ []) messages)) (length (begun ++ message ∷ []) + length messages) (weight (begun ++ message ∷ []) + 2 * weight messages)
    → IsCut (length (grouped (begun ++ message ∷ []) messages)) (length begun + length (message ∷ messages)) (weight begun + 2 * weight (message ∷ messages))
taken begun message messages cut = record {
  by_count = cut.by_count;
  by_bytes = cut.by_bytes;
  all = cut.all;
  messages_are = omega (arith, cut.messages_are, length-append begun (message ∷ []));
  bytes_are = omega (arith, cut.bytes_are, sum_by_push one_weight begun message, sum_by-cons one_weight message messages);
}

next : (begun : List Message) (message : Message) (messages : List Message)
    → IsCut (length (begun ∷ grouped (message ∷ []) messages)) (length begun + length (message ∷ messages)) (weight begun + 2 * (one_weight message + weight messages))
    → IsCut (length (begun ∷ grouped (message ∷ []) messages)) (length begun + length (message ∷ messages)) (weight begun + 2 * weight (message ∷ messages))
next begun message messages cut = record {
  by_count = cut.by_count;
  by_bytes = cut.by_bytes;
  all = cut.all;
  messages_are = cut.messages_are;
  bytes_are = omega (arith, cut.bytes_are, sum_by-cons one_weight message messages);
}

grouped-cut : (begun messages : List Message) → IsCut (length (grouped begun messages)) (length begun + length messages) (weight begun + 2 * weight messages)
grouped-cut begun [] = record { by_count = 0; by_bytes = 0; all = omega arith; messages_are = omega arith; bytes_are = omega arith }
grouped-cut begun (message ∷ messages) =
    elim (cases_Bool (is_within (begun ++ message ∷ []))) [
      | inl is ↦ rw is (taken begun message messages (grouped-cut (begun ++ message ∷ []) messages))
      | inr is ↦ rw is (next begun message messages (cut-next begun message messages is (grouped-cut (message ∷ []) messages)))
    ]

-- where all fit one container they make one packet
grouped-one : (begun messages : List Message) → length begun + length messages ≤ 1020 → 8 + weight begun + weight messages ≤ 1044480 → length (grouped begun messages) ≤ 1
grouped-one begun [] few short = omega arith
grouped-one begun (message ∷ messages) few short =
    let cons = sum_by-cons one_weight message messages in
    let here : is_within (begun ++ message ∷ []) ≡ true = full-within begun message (record { few = omega arith; short = omega arith }) in
    rw here (grouped-one (begun ++ message ∷ []) messages (omega (arith, length-append begun (message ∷ []))) (omega (arith, sum_by_push one_weight begun message)))

none : (count bytes : ℕ) → 0 ≤ packets_most count bytes
none count bytes = omega arith

one : (message : Message) (messages : List Message) (count bytes : ℕ) → length (message ∷ messages) ≤ count → bodies_bytes (message ∷ messages) ≤ bytes → is_one count bytes ≡ true
    → length (groups (message ∷ messages)) ≤ 1
one message messages count bytes few short is =
    let parts = and_parts _ _ is in
    let within : count ≤ 1020 = leb-true _ _ parts.0 in
    let small : 8 + with_heads count bytes ≤ 1044480 = leb-true _ _ parts.1 in
    let whole = weight-bytes (message ∷ messages) in
    let cons = sum_by-cons one_weight message messages in
    let alone = sum_by-cons one_weight message [] in
    grouped-one (message ∷ []) messages (omega arith) (omega arith)

bound : (packets count bytes by_count by_bytes : ℕ) → packets ≤ 1 + by_count + by_bytes → 1020 * by_count ≤ count → 1044473 * by_bytes ≤ bytes
    → packets ≤ 1 + count / 1020 + bytes / 1044473
bound packets count bytes by_count by_bytes all messages_are bytes_are = omega arith

more : (message : Message) (messages : List Message) (count bytes : ℕ) → length (message ∷ messages) ≤ count → bodies_bytes (message ∷ messages) ≤ bytes
    → length (groups (message ∷ messages)) ≤ 1 + count / 1020 + (2 * with_heads count bytes) / 1044473
more message messages count bytes few short =
    let cut : IsCut (length (grouped (message ∷ []) messages)) (1 + length messages) (weight (message ∷ []) + 2 * weight messages) = grouped-cut (message ∷ []) messages in
    let whole = weight-bytes (message ∷ messages) in
    let cons = sum_by-cons one_weight message messages in
    let alone = sum_by-cons one_weight message [] in
    bound (length (grouped (message ∷ []) messages)) count (2 * with_heads count bytes) cut.by_count cut.by_bytes cut.all (omega (arith, cut.messages_are)) (omega (arith, cut.bytes_are))

pub packets-few : (messages : List Message) (count bytes : ℕ) → length messages ≤ count → bodies_bytes messages ≤ bytes → length (groups messages) ≤ packets_most count bytes
packets-few [] count bytes few short = none count bytes
packets-few (message ∷ messages) count bytes few short =
    elim (cases_Bool (is_one count bytes)) [
      | inl is ↦ rw is (one message messages count bytes few short is)
      | inr is ↦ rw is (more message messages count bytes few short)
    ]
