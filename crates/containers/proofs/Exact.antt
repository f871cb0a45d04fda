-- A body has parts exactly where it is a lawful container.
use Rattle.std.proofs.Common.{◌≡◌, ℕ, zero, suc, ◌+◌, ◌≤◌, Bool, true, false, cond, ltb, List, [], ◌∷◌, ◌++◌, length, take, drop, Option, Some, None, Result, Ok, Err, refl, sym, ap, subst, ◌∙◌, drop-drop, arith}
use Rattle.std.proofs.lemmas.Bool.{ltb-false, le-ltb, leb-true, le-leb, eqb-true, and_parts, and_from}
use Rattle.std.proofs.lemmas.List.{take_at, drop_at, take-append-drop, length-append, length-take-le, length-drop, nil_from_length}
use Rattle.std.specs.List.{flat_map, AllByRecursion}
use Rattle.byteorder.specs.Endian.{little_bytes, little_number}
use Rattle.byteorder.specs.Numbers.{little_from-lt, little_number-reads_back}
use Rattle.octets.specs.Bytes.{IsBytes}
use Rattle.service_tl.specs.declared.lists.Message.{Message}
use Rattle.containers.specs.declared.fault.ContainerFault.{ContainerFault}
use Rattle.containers.specs.declared.fault.Why.TheVariants.{Short, TooMany, Extra}
use Rattle.containers.specs.Container.{constructor, container_head, message_head, messages_max, row, head_of, container_of, begins_container, IsInner, IsContainer}
use Rattle.containers.specs.Parts.{said_length, message_in, after, cause_in, messages_in, extra_in, causes, first_from, unless, parts_of}
use Rattle.containers.proofs.Numbers.{int_bytes, long_bytes, IsBytes-drop}
use Rattle.containers.proofs.Rows.{length-row, length-container_of}
use Rattle.containers.proofs.Fronts.{passed, IsLawfulFront, lawful_front, no_cause}
use Rattle.containers.proofs.Places.{length-messages_in, first_from-next, none_first}

-- ---- a message that was spelt is at the front

same_message : (message : Message) (number seq : ℕ) (body : List ℕ) → number ≡ message.number → seq ≡ message.seq → body ≡ message.body
    → ◌≡◌ {A = Message} (record { number = number; seq = seq; body = body }) message
same_message message number seq body a b c = rw (a, b, c) refl

module _ (number : ℕ) (message : Message) (more : List ℕ) (inner : IsInner number message) where
  said : said_length (row message ++ more) ≡ length message.body
  unfolding row
  said = little_number-reads_back 4 (length message.body) (message.body ++ more) inner.fits.2

  body_at : drop message_head (row message ++ more) ≡ message.body ++ more
  unfolding row
  body_at = refl

  pub message_in-row : message_in (row message ++ more) ≡ message
  unfolding row message_in
  message_in-row =
      let size = little_bytes 4 (length message.body) in
      let body : take (said_length (row message ++ more)) (drop message_head (row message ++ more)) ≡ message.body = rw said (take_at message.body more (length message.body) refl) in
      same_message message _ _ _ (little_number-reads_back 8 message.number (little_bytes 4 message.seq ++ (size ++ (message.body ++ more))) inner.fits.0) (little_number-reads_back 4 message.seq (size ++ (message.body ++ more)) inner.fits.1) body

  pub after-row : after (row message ++ more) ≡ more
  unfolding after
  after-row = sym (drop-drop (said_length (row message ++ more)) message_head (row message ++ more)) ∙ rw (body_at, said) (drop_at message.body more (length message.body) refl)

  lawful_row : IsLawfulFront number (row message ++ more)
  lawful_row =
      let whole = length-append (row message) more in
      record {
        head = omega (arith, whole, length-row message);
        whole_words = rw said inner.rules.whole_words;
        whole = omega (arith, said, whole, length-row message);
        below = rw message_in-row inner.rules.below;
        unnested = rw message_in-row inner.rules.unnested;
      }

  pub no_cause-row : cause_in number (row message ++ more) ≡ None
  no_cause-row = no_cause number (row message ++ more) lawful_row

-- ---- a message at the front is spelt there

cut : (n m : ℕ) (text : List ℕ) → drop n text ≡ take m (drop n text) ++ drop (n + m) text
cut n m text = sym (take-append-drop m (drop n text)) ∙ ap (λ (x : List ℕ). take m (drop n text) ++ x) (drop-drop m n text)

module _ (number : ℕ) (text : List ℕ) (bytes : IsBytes text) (lawful : IsLawfulFront number text) where
  length-body : length (take (said_length text) (drop message_head text)) ≡ said_length text
  length-body = length-take-le (said_length text) (drop message_head text) (omega (arith, lawful.whole, length-drop message_head text))

  pub spelt_front : text ≡ row (message_in text) ++ after text
  unfolding row message_in after
  spelt_front =
      let said = said_length text in
      let body = take said (drop message_head text) in
      let left = drop (message_head + said) text in
      let n = long_bytes text (omega (arith, lawful.head)) bytes in
      let s = int_bytes (drop 8 text) (omega (arith, lawful.head, length-drop 8 text)) (IsBytes-drop 8 text bytes) in
      let l : little_bytes 4 (length body) ≡ take 4 (drop 12 text) = ap (little_bytes 4) length-body ∙ int_bytes (drop 12 text) (omega (arith, lawful.head, length-drop 12 text)) (IsBytes-drop 12 text bytes) in
      let size = little_bytes 4 (length body) in
      let seq = little_bytes 4 (little_number 4 (drop 8 text)) in
      let front = little_bytes 8 (little_number 8 text) in
      cut 0 8 text
      ∙ ap (λ (x : List ℕ). take 8 text ++ x) (cut 8 4 text)
      ∙ ap (λ (x : List ℕ). take 8 text ++ (take 4 (drop 8 text) ++ x)) (cut 12 4 text)
      ∙ ap (λ (x : List ℕ). take 8 text ++ (take 4 (drop 8 text) ++ (take 4 (drop 12 text) ++ x))) (cut 16 said text)
      ∙ ap (λ (x : List ℕ). take 8 text ++ (take 4 (drop 8 text) ++ (x ++ (body ++ left)))) (sym l)
      ∙ ap (λ (x : List ℕ). take 8 text ++ (x ++ (size ++ (body ++ left)))) (sym s)
      ∙ ap (λ (x : List ℕ). x ++ (seq ++ (size ++ (body ++ left)))) (sym n)

  pub inner_front : IsInner number (message_in text)
  unfolding message_in
  inner_front = record {
    fits = (little_from-lt 0 8 text bytes, little_from-lt 0 4 (drop 8 text) (IsBytes-drop 8 text bytes), rw length-body (little_from-lt 0 4 (drop 12 text) (IsBytes-drop 12 text bytes)));
    rules = record { whole_words = rw length-body lawful.whole_words; below = lawful.below; unnested = lawful.unnested };
  }

bytes_after : (text : List ℕ) → IsBytes text → IsBytes (after text)
unfolding after
bytes_after text bytes = IsBytes-drop (message_head + said_length text) text bytes

-- ---- all messages

pub no_first : (number place : ℕ) (messages : List Message) → AllByRecursion (IsInner number) messages
    → (first_from place (causes number (length messages) (flat_map row messages)) ≡ None) × (messages_in (length messages) (flat_map row messages) ≡ messages)
no_first number place [] inner = (refl, refl)
no_first number place (message ∷ messages) inner =
    let more = flat_map row messages in
    let others = no_first number (suc place) messages inner.1 in
    let none = no_cause-row number message more inner.0 in
    let behind = after-row number message more inner.0 in
    (first_from-next number place (length messages) (row message ++ more) none ∙ ap (λ (x : List ℕ). first_from (suc place) (causes number (length messages) x)) behind ∙ others.0, rw (message_in-row number message more inner.0, behind, others.1) refl)

pub spelt_all : (number place count : ℕ) (text : List ℕ) → IsBytes text → first_from place (causes number count text) ≡ None
    → (text ≡ flat_map row (messages_in count text)) × AllByRecursion (IsInner number) (messages_in count text)
spelt_all number place zero text bytes none =
    let no_extra = none_first place (extra_in text) [] none in
    let empty = passed (ltb 0 (length text)) Extra None no_extra.0 in
    let short : length text ≤ 0 = ltb-false _ _ empty.0 in
    (nil_from_length text (omega arith), tt)
spelt_all number place (suc count) text bytes none =
    let parts = none_first place (cause_in number text) (causes number count (after text)) none in
    let lawful = lawful_front number text parts.0 in
    let front = spelt_front number text bytes lawful in
    let others = spelt_all number (suc place) count (after text) (bytes_after text bytes) parts.1 in
    (front ∙ ap (λ (x : List ℕ). row (message_in text) ++ x) others.0, (inner_front number text bytes lawful, others.1))

-- ---- the container

parts_from : (number : ℕ) (body : List ℕ) (count : ℕ) (text : List ℕ) (messages : List Message) → container_head ≤ length body → little_number 4 (drop 4 body) ≡ count → drop container_head body ≡ text
    → count ≤ messages_max → first_from 0 (causes number count text) ≡ None → messages_in count text ≡ messages → parts_of number body ≡ Ok messages
unfolding parts_of
parts_from number body count text messages head count-is text-is few none same =
    let long : ltb (length body) container_head ≡ false = le-ltb _ _ head in
    let small : ltb messages_max count ≡ false = le-ltb _ _ few in
    rw (long, count-is, small, text-is, none, same) refl

count_at : (messages : List Message) → length messages ≤ messages_max → little_number 4 (drop 4 (container_of messages)) ≡ length messages
unfolding container_of head_of
count_at messages few = little_number-reads_back 4 (length messages) (flat_map row messages) (omega arith)

rows_at : (messages : List Message) → drop container_head (container_of messages) ≡ flat_map row messages
unfolding container_of head_of
rows_at messages = refl

pub parts_of-container_of : (number : ℕ) (messages : List Message) → length messages ≤ messages_max → AllByRecursion (IsInner number) messages → parts_of number (container_of messages) ≡ Ok messages
parts_of-container_of number messages few inner =
    let all = no_first number 0 messages inner in
    parts_from number (container_of messages) (length messages) (flat_map row messages) messages (omega (arith, length-container_of messages)) (count_at messages few) (rows_at messages) few all.0 all.1

pub parts_of-container : (number : ℕ) (messages : List Message) (body : List ℕ) → IsContainer number messages body → parts_of number body ≡ Ok messages
parts_of-container number messages body container = rw container.spelt (parts_of-container_of number messages container.few container.inner)

no_fault : (b : Bool) (fault : ContainerFault) (others : Result (List Message) ContainerFault) (messages : List Message) → cond b (Err fault) others ≡ Ok messages → (b ≡ false) × (others ≡ Ok messages)
no_fault true fault others messages e = absurd cc
no_fault false fault others messages e = (refl, e)

none_unless : (fault : Option ContainerFault) (all messages : List Message) → unless fault all ≡ Ok messages → (fault ≡ None) × (all ≡ messages)
none_unless None all messages e = (refl, cc)
none_unless (Some fault) all messages e = absurd cc

record IsTaken (number : ℕ) (body : List ℕ) (messages : List Message) : Type 0 where
  head : container_head ≤ length body
  few : little_number 4 (drop 4 body) ≤ messages_max
  none : first_from 0 (causes number (little_number 4 (drop 4 body)) (drop container_head body)) ≡ None
  same : messages_in (little_number 4 (drop 4 body)) (drop container_head body) ≡ messages

taken : (number : ℕ) (body : List ℕ) (messages : List Message) → parts_of number body ≡ Ok messages → IsTaken number body messages
unfolding parts_of
taken number body messages e =
    let count = little_number 4 (drop 4 body) in
    let text = drop container_head body in
    let all = unless (first_from 0 (causes number count text)) (messages_in count text) in
    let a = no_fault (ltb (length body) container_head) (record { place = 0; why = Short }) (cond (ltb messages_max count) (Err (record { place = 0; why = TooMany })) all) messages e in
    let b = no_fault (ltb messages_max count) (record { place = 0; why = TooMany }) all messages a.1 in
    let d = none_unless (first_from 0 (causes number count text)) (messages_in count text) messages b.1 in
    record { head = ltb-false _ _ a.0; few = ltb-false _ _ b.0; none = d.0; same = d.1 }

begins : (body : List ℕ) → IsBytes body → begins_container body ≡ true → take 4 body ≡ little_bytes 4 constructor
unfolding begins_container
begins body bytes e =
    let both = and_parts _ _ e in
    sym (int_bytes body (leb-true _ _ both.0) bytes) ∙ ap (little_bytes 4) (eqb-true _ _ both.1)

assembled : (body : List ℕ) (count : ℕ) (messages : List Message) → take 4 body ≡ little_bytes 4 constructor → take 4 (drop 4 body) ≡ little_bytes 4 count → length messages ≡ count
    → drop container_head body ≡ flat_map row messages → body ≡ container_of messages
unfolding container_of head_of
assembled body count messages tag size count-is rows =
    let number : take 4 (drop 4 body) ≡ little_bytes 4 (length messages) = size ∙ ap (little_bytes 4) (sym count-is) in
    cut 0 4 body
    ∙ ap (λ (x : List ℕ). take 4 body ++ x) (cut 4 4 body)
    ∙ ap (λ (x : List ℕ). take 4 body ++ (take 4 (drop 4 body) ++ x)) rows
    ∙ ap (λ (x : List ℕ). take 4 body ++ (x ++ flat_map row messages)) number
    ∙ ap (λ (x : List ℕ). x ++ (little_bytes 4 (length messages) ++ flat_map row messages)) tag

pub container-parts_of : (number : ℕ) (messages : List Message) (body : List ℕ) → IsBytes body → begins_container body ≡ true → parts_of number body ≡ Ok messages → IsContainer number messages body
container-parts_of number messages body bytes e parts =
    let count = little_number 4 (drop 4 body) in
    let text = drop container_head body in
    let is = taken number body messages parts in
    let size : little_bytes 4 count ≡ take 4 (drop 4 body) = int_bytes (drop 4 body) (omega (arith, is.head, length-drop 4 body)) (IsBytes-drop 4 body bytes) in
    let all = spelt_all number 0 count text (IsBytes-drop container_head body bytes) is.none in
    let same = is.same in
    let many : length messages ≡ count = ap length (sym same) ∙ length-messages_in count text in
    let rows : text ≡ flat_map row messages = all.0 ∙ ap (flat_map row) same in
    record {
      spelt = assembled body count messages (begins body bytes e) (sym size) many rows;
      few = rw many is.few;
      inner = subst (AllByRecursion (IsInner number)) same all.1;
    }

pub begins_container-container_of : (messages : List Message) → begins_container (container_of messages) ≡ true
unfolding begins_container container_of head_of
begins_container-container_of messages = and_from _ _ (le-leb _ _ (omega arith)) refl
