-- The packets of messages that are such are whole.
use Rattle.std.proofs.Common.{◌++◌, ◌≡◌, ◌∙◌, ℕ, ◌+◌, ◌*◌, ◌%◌, ◌^◌, ◌<◌, ◌≤◌, Bool, true, false, List, [], ◌∷◌, length, ap, sym, subst, refl, arith}
use Rattle.std.specs.Prelude.{sum_by}
use Rattle.std.specs.List.{AllByRecursion, flat_map}
use Rattle.std.proofs.lemmas.Bool.{false≢true}
use Rattle.std.proofs.lemmas.List.Sums.{sum_by-cons}
use Rattle.byteorder.specs.Endian.{little_bytes}
use Rattle.msg_ids.specs.Counters.{Counters, after_next}
use Rattle.service_tl.specs.declared.lists.Message.{Message}
use Rattle.octets.specs.Bytes.{IsBytes}
use Rattle.service_tl.specs.Words.{IsWords}
use Rattle.containers.specs.Container.{AreWithin, IsContainer, IsInner, begins_container, constructor, container_of, head_of, message_head, row, size_of}
use Rattle.packing.specs.Packing.{IsPacket, after_outer, after_outers, groups, outer_of, outers_of, packed}
use Rattle.law_server_bounds.specs.Small.{IsGivenBy, IsSmallMessage}
use Rattle.law_server_bounds.proofs.Items.{bytes-append, bytes-nil, item-bytes, item-short, item-unnested, item-words, little-bytes}
use Rattle.law_server_bounds.proofs.SizeLists.{all-split, both-all, weaker}

-- ---- counters go on

pub record GoesOn (before after : Counters) : Type 0 where
  pub last : before.last ≤ after.last
  pub content : before.content_messages ≤ after.content_messages

pub stays : (counters : Counters) → GoesOn counters counters
stays counters = record { last = omega arith; content = omega arith }

pub goes-further : (one other third : Counters) → GoesOn one other → GoesOn other third → GoesOn one third
goes-further one other third a b =
    let l = a.last in
    let m = b.last in
    let c = a.content in
    let d = b.content in
    record { last = omega (arith, l, m); content = omega (arith, c, d) }

pub next-goes : (now : ℕ) (content : Bool) (counters : Counters) → GoesOn counters (after_next counters now content)
next-goes now true counters = record { last = omega arith; content = omega arith }
next-goes now false counters = record { last = omega arith; content = omega arith }

pub given-later : (before after : Counters) (number seq : ℕ) → GoesOn before after → IsGivenBy before number seq → IsGivenBy after number seq
given-later before after number seq goes given =
    let l = goes.last in
    let c = goes.content in
    (omega (arith, l, given.0), omega (arith, c, given.1))

-- ---- one message

abbrev pub IsReady : Counters → Message → Type 0
IsReady counters message = IsSmallMessage message × IsGivenBy counters message.number message.seq

pub message-words : (message : Message) → IsSmallMessage message → IsWords message.body
message-words message small = subst IsWords (sym small.body) (item-words small.item small.small)

message-unnested : (message : Message) → IsSmallMessage message → begins_container message.body ≡ false
message-unnested message small = ap begins_container small.body ∙ item-unnested small.item small.small

message-bytes : (message : Message) → IsSmallMessage message → IsBytes message.body
message-bytes message small = subst IsBytes (sym small.body) (item-bytes small.item small.small)

row-bytes : (message : Message) → IsBytes message.body → IsBytes (row message)
unfolding row
row-bytes message bytes =
    let number = little_bytes 8 message.number in
    let seq = little_bytes 4 message.seq in
    let size = little_bytes 4 (length message.body) in
    bytes-append number (seq ++ (size ++ message.body)) (little-bytes 8 message.number)
    (bytes-append seq (size ++ message.body) (little-bytes 4 message.seq) (bytes-append size message.body (little-bytes 4 (length message.body)) bytes))

rows-bytes : (messages : List Message) → AllByRecursion IsSmallMessage messages → IsBytes (flat_map row messages)
rows-bytes [] small = bytes-nil
rows-bytes (message ∷ messages) small = bytes-append (row message) (flat_map row messages) (row-bytes message (message-bytes message small.0)) (rows-bytes messages small.1)

container-bytes : (messages : List Message) → AllByRecursion IsSmallMessage messages → IsBytes (container_of messages)
unfolding container_of head_of
container-bytes messages small =
    let tag = little_bytes 4 constructor in
    let count = little_bytes 4 (length messages) in
    bytes-append (tag ++ count) (flat_map row messages) (bytes-append tag count (little-bytes 4 constructor) (little-bytes 4 (length messages))) (rows-bytes messages small)

-- ---- a packet

-- what a packet with this number, seq and body has
pub record IsWholeOuter (outer : Message) : Type 0 where
  pub group : List Message
  pub body : outer.body ≡ packed group
  pub messages : AllByRecursion IsSmallMessage group
  pub bytes : IsBytes outer.body
  pub words : IsWords outer.body
  pub short : length outer.body ≤ 1044480
  pub whole : outer.number < 2 ^ 64 → outer.seq < 2 ^ 32 → begins_container outer.body ≡ true → IsContainer outer.number group outer.body

-- each body is no longer than the whole
bodies-short : (group : List Message) (most : ℕ) → sum_by (λ message. message_head + length message.body) group ≤ most → AllByRecursion (λ message. length message.body ≤ most) group
bodies-short [] most short = tt
bodies-short (message ∷ group) most short =
    let cons = sum_by-cons (λ (one : Message). message_head + length one.body) message group in
    (omega (arith, short, cons), bodies-short group most (omega (arith, short, cons)))

inner-all : (now : ℕ) (counters : Counters) (number seq : ℕ) (group : List Message) → counters.last + 4 ≤ number → seq ≡ 2 * counters.content_messages → number < 2 ^ 64 → seq < 2 ^ 32
    → AllByRecursion (λ message. length message.body ≤ 1044480) group → AllByRecursion (IsReady counters) group → AllByRecursion (IsInner number) group
inner-all now counters number seq [] above is fits low short ready = tt
inner-all now counters number seq (message ∷ group) above is fits low short ready =
    let given = ready.0.1 in
    let few = short.0 in
    let below : message.number < number = omega (arith, above, given.0) in (
      record {
        fits = (omega (arith, below, fits), omega (arith, is, low, given.1), omega (arith, few));
        rules = record { whole_words = message-words message ready.0.0; below = below; unnested = message-unnested message ready.0.0 };
      },
      inner-all now counters number seq group above is fits low short.1 ready.1,
    )

smalls : (counters : Counters) (group : List Message) → AllByRecursion (IsReady counters) group → AllByRecursion IsSmallMessage group
smalls counters group ready = weaker (IsReady counters) IsSmallMessage group (λ message r. r.0) ready

-- the law on how many bytes a container has
abbrev pub AreSized : Type 0
AreSized = (messages : List Message) → length (container_of messages) ≡ size_of messages

sum-words : (counters : Counters) (group : List Message) → AllByRecursion (IsReady counters) group → size_of group % 4 ≡ 0
sum-words counters [] ready = refl
sum-words counters (message ∷ group) ready =
    let rest = sum-words counters group ready.1 in
    let first = message-words message ready.0.0 in
    let cons = sum_by-cons (λ (one : Message). message_head + length one.body) message group in
    omega (arith, rest, first, cons)

container-words : AreSized → (counters : Counters) (group : List Message) → AllByRecursion (IsReady counters) group → IsWords (container_of group)
container-words sized counters group ready = ap (λ (n : ℕ). n % 4) (sized group) ∙ sum-words counters group ready

container-whole : AreSized → (now : ℕ) (counters : Counters) (first second : Message) (group : List Message) → AreWithin (first ∷ second ∷ group)
    → AllByRecursion (IsReady counters) (first ∷ second ∷ group) → IsWholeOuter (outer_of now counters (first ∷ second ∷ group))
container-whole sized now counters first second group within ready =
    let all = first ∷ second ∷ group in
    let outer = outer_of now counters all in
    let short = within.short in
    record {
      group = all;
      body = refl;
      messages = smalls counters all ready;
      bytes = container-bytes all (smalls counters all ready);
      words = container-words sized counters all ready;
      short = omega (arith, short, sized all);
      whole = λ fits low begins. record {
        spelt = refl;
        few = within.few;
        inner = inner-all now counters outer.number outer.seq all (omega arith) (omega arith) fits low (bodies-short all 1044480 (omega (arith, short))) ready;
      };
    }

outer-whole : AreSized → (now : ℕ) (counters : Counters) (group : List Message) → IsPacket group → AllByRecursion (IsReady counters) group → IsWholeOuter (outer_of now counters group)
outer-whole sized now counters [] packet ready = absurd packet
outer-whole sized now counters (message ∷ []) packet ready =
    record {
      group = message ∷ [];
      body = refl;
      messages = smalls counters (message ∷ []) ready;
      bytes = message-bytes message ready.0.0;
      words = message-words message ready.0.0;
      short = subst (λ (body : List ℕ). length body ≤ 1044480) (sym ready.0.0.body) (item-short ready.0.0.item ready.0.0.small);
      whole = λ fits low begins. absurd (false≢true (sym (message-unnested message ready.0.0) ∙ begins));
    }
outer-whole sized now counters (first ∷ (second ∷ group)) packet ready = container-whole sized now counters first second group packet ready

outer-goes : (now : ℕ) (counters : Counters) (group : List Message) → GoesOn counters (after_outer now counters group)
outer-goes now counters [] = next-goes now false counters
outer-goes now counters (message ∷ []) = stays counters
outer-goes now counters (first ∷ (second ∷ group)) = next-goes now false counters

ready-later : (before after : Counters) (group : List Message) → GoesOn before after → AllByRecursion (IsReady before) group → AllByRecursion (IsReady after) group
ready-later before after group goes ready =
    weaker (IsReady before) (IsReady after) group (λ message r. (r.0, given-later before after message.number message.seq goes r.1)) ready

all-later : (before after : Counters) (all : List (List Message)) → GoesOn before after
    → AllByRecursion (λ (group : List Message). IsPacket group × AllByRecursion (IsReady before) group) all
    → AllByRecursion (λ (group : List Message). IsPacket group × AllByRecursion (IsReady after) group) all
all-later before after [] goes ready = tt
all-later before after (group ∷ all) goes ready = ((ready.0.0, ready-later before after group goes ready.0.1), all-later before after all goes ready.1)

outers-whole : AreSized → (now : ℕ) (counters : Counters) (all : List (List Message))
    → AllByRecursion (λ (group : List Message). IsPacket group × AllByRecursion (IsReady counters) group) all → AllByRecursion IsWholeOuter (outers_of now counters all)
outers-whole sized now counters [] ready = tt
outers-whole sized now counters (group ∷ all) ready =
    let later = after_outer now counters group in
    (outer-whole sized now counters group ready.0.0 ready.0.1, outers-whole sized now later all (all-later counters later all (outer-goes now counters group) ready.1))

pub outers-go : (now : ℕ) (counters : Counters) (all : List (List Message)) → GoesOn counters (after_outers now counters all)
outers-go now counters [] = stays counters
outers-go now counters (group ∷ all) =
    let later = after_outer now counters group in
    goes-further counters later (after_outers now later all) (outer-goes now counters group) (outers-go now later all)

-- ---- the packets of messages

-- the laws on them
abbrev pub HaveAll : Type 0
HaveAll = (messages : List Message) → flat_map (λ (group : List Message). group) (groups messages) ≡ messages

abbrev pub ArePackets : Type 0
ArePackets = (messages : List Message) → AllByRecursion IsPacket (groups messages)

pub packets-whole : AreSized → HaveAll → ArePackets → (now : ℕ) (counters : Counters) (messages : List Message) → AllByRecursion (IsReady counters) messages
    → AllByRecursion IsWholeOuter (outers_of now counters (groups messages))
packets-whole sized have packets now counters messages ready =
    let Ready : List Message → Type 0 = λ group. AllByRecursion (IsReady counters) group in
    let split = all-split (IsReady counters) (groups messages) (subst Ready (sym (have messages)) ready) in
    outers-whole sized now counters (groups messages) (both-all IsPacket Ready (groups messages) (packets messages) split)
