-- Which numbers are a container's, by the packets of a world in which no number is that of two messages.
use Rattle.std.proofs.Common.{◌≡◌, ◌≤◌, ◌<◌, ◌+◌, ◌^◌, ◌==◌, ℕ, Bool, true, false, List, [], ◌∷◌, ◌++◌, length, length-append, Some, Result, Ok, Err, inl, inr, refl, sym, ap, subst, ◌∙◌, arith, drop, take, eq-eqb}
use Rattle.std.specs.Prelude.{◌&&◌, IsTrue}
use Rattle.std.specs.List.{AllByRecursion, Contains, flat_map, list_any}
use Rattle.std.proofs.lemmas.Bool.{and_parts, cases_Bool, eqb-true}
use Rattle.std.proofs.lemmas.List.{take_at, drop_at, length-drop}
use Rattle.byteorder.specs.Endian.{little_bytes, little_number}
use Rattle.byteorder.specs.Numbers.{little_number-reads_back}
use Rattle.octets.specs.Bytes.{IsBytes}
use Rattle.service_tl.specs.declared.lists.Message.{Message}
use Rattle.containers.specs.declared.fault.ContainerFault.{ContainerFault}
use Rattle.containers.specs.Container.{IsContainer, IsInner, begins_container, container_of, head_of, row}
use Rattle.containers.specs.Parts.{parts_of}
use Rattle.envelope.specs.declared.parts.Dir.{Dir}
use Rattle.envelope.specs.declared.parts.Dir.TheVariants.{Up, Down}
use Rattle.envelope.specs.declared.parts.Envelope.{Envelope}
use Rattle.inbox.specs.Verdicts.{Verdict, Accepted, Again, Noticed}
use Rattle.inbox.specs.Kinds.{inner_messages, parts_among}
use Rattle.inbox.specs.Judging.{judge, unfolded}
use Rattle.client_rules.specs.Taking.{message_in}
use Rattle.law_order.specs.Given.{IsContainerOf, IsPlain}
use Rattle.server_rules.specs.Server.{Name, remembered}
use Rattle.law_order.specs.Apart.{IsOfKind, IsPacketOf, Kinds}
use Rattle.world_rules.specs.Setting.{as_heard}
use Rattle.world_rules.specs.World.{Packet}
use Rattle.law_once.specs.Made.{IsShort}
use Rattle.law_order.specs.Numbers.{AreGivenOnce, IsGiven, IsGivenUnder}
use Rattle.law_order.proofs.Lists.{all-members, any-found, any-there, each_of, true-false}
use Rattle.law_order.proofs.Telling.{ArePacketsOf}

-- what laws tell of containers
pub record Containers : Type 0 where
  pub begins : (messages : List Message) → IsTrue (begins_container (container_of messages))
  pub lawful : (number : ℕ) (messages : List Message) (body : List ℕ) → IsBytes body → IsTrue (begins_container body) → parts_of number body ≡ Ok messages → IsContainer number messages body

-- ---- a container's messages

module _ (message : Message) (rest : List ℕ) where
  row-number : message.number < 2 ^ 64 → little_number 8 (row message ++ rest) ≡ message.number
  unfolding row
  row-number small = little_number-reads_back 8 message.number (little_bytes 4 message.seq ++ (little_bytes 4 (length message.body) ++ (message.body ++ rest))) small

  row-size : length message.body < 2 ^ 32 → little_number 4 (drop 12 (row message ++ rest)) ≡ length message.body
  unfolding row
  row-size small = little_number-reads_back 4 (length message.body) (message.body ++ rest) small

  row-behind : drop 16 (row message ++ rest) ≡ message.body ++ rest
  unfolding row
  row-behind = refl

  row-long : 16 ≤ length (row message ++ rest)
  unfolding row
  row-long = omega (arith, length-append message.body rest)

  row-length : length message.body + length rest ≤ length (row message ++ rest)
  unfolding row
  row-length = omega (arith, length-append message.body rest)

-- one of these has this number and body
abbrev Was : List Message → ℕ → List ℕ → Type 0
Was all number body = (message : Message) × Contains all message × (message.number ≡ number) × (message.body ≡ body)

-- what is read in a container was put there
parts-were : (all messages parts : List Message) → AllByRecursion (λ message. Was all message.number message.body) messages
    → AllByRecursion (λ message. message.number < 2 ^ 64) messages → AllByRecursion (λ message. message.number < 2 ^ 64) parts
    → flat_map row messages ≡ flat_map row parts → length (flat_map row parts) < 2 ^ 24 → AllByRecursion (λ message. Was all message.number message.body) parts
parts-were all messages [] was small also same few = tt
parts-were all [] (part ∷ parts) was small also same few =
    let counted : 0 ≡ length (row part ++ flat_map row parts) = ap length same in
    absurd (omega (arith, counted, row-long part (flat_map row parts)))
parts-were all (message ∷ messages) (part ∷ parts) was small also same few =
    let one = flat_map row messages in
    let other = flat_map row parts in
    let counted : length (row message ++ one) ≡ length (row part ++ other) = ap length same in
    let first = row-length message one in
    let second = row-length part other in
    let number : message.number ≡ part.number = sym (row-number message one small.0) ∙ ap (little_number 8) same ∙ row-number part other also.0 in
    let size : length message.body ≡ length part.body =
    sym (row-size message one (omega (arith, counted, first, few))) ∙ ap (λ (t : List ℕ). little_number 4 (drop 12 t)) same ∙ row-size part other (omega (arith, second, few)) in
    let behind_it : message.body ++ one ≡ part.body ++ other = sym (row-behind message one) ∙ ap (drop 16) same ∙ row-behind part other in
    let body : message.body ≡ part.body =
    sym (take_at message.body one (length part.body) size) ∙ ap (take (length part.body)) behind_it ∙ take_at part.body other (length part.body) refl in
    let others : one ≡ other =
    sym (drop_at message.body one (length part.body) size) ∙ ap (drop (length part.body)) behind_it ∙ drop_at part.body other (length part.body) refl in (
      subst (λ (b : List ℕ). Was all part.number b) body (subst (λ (n : ℕ). Was all n message.body) number was.0),
      parts-were all messages parts was.1 small.1 also.1 others (omega (arith, second, few)),
    )

container-rows : (messages : List Message) → drop 8 (container_of messages) ≡ flat_map row messages
unfolding container_of head_of
container-rows messages = refl

smaller : (top : ℕ) → top < 2 ^ 64 → (messages : List Message) → AllByRecursion (λ message. message.number < top) messages → AllByRecursion (λ message. message.number < 2 ^ 64) messages
smaller top small [] below = tt
smaller top small (message ∷ messages) below = (omega (arith, small, below.0), smaller top small messages below.1)

inner-small : (number : ℕ) (messages : List Message) → AllByRecursion (IsInner number) messages → AllByRecursion (λ message. message.number < 2 ^ 64) messages
inner-small number [] inner = tt
inner-small number (message ∷ messages) inner = (inner.0.fits.0, inner-small number messages inner.1)

-- a part that was read: it was put there, and is no container
abbrev IsPart : List Message → Message → Type 0
IsPart all part = Was all part.number part.body × (begins_container part.body ≡ false)

both : (all : List Message) (number : ℕ) (parts : List Message) → AllByRecursion (λ message. Was all message.number message.body) parts → AllByRecursion (IsInner number) parts
    → AllByRecursion (IsPart all) parts
both all number [] was inner = tt
both all number (part ∷ parts) was inner = ((was.0, inner.0.rules.unnested), both all number parts was.1 inner.1)

among-parts : Containers → (messages : List Message) (envelope : Envelope) → IsShort envelope → IsContainerOf messages envelope → begins_container envelope.body ≡ true
    → (result : Result (List Message) ContainerFault) → parts_of envelope.number envelope.body ≡ result → AllByRecursion (IsPart messages) (parts_among (Some result))
among-parts laws messages envelope short is begins (Err fault) parsed = tt
among-parts laws messages envelope short is begins (Ok parts) parsed =
    let lawful = laws.lawful envelope.number parts envelope.body short.lawful.bytes begins parsed in
    let same : flat_map row messages ≡ flat_map row parts =
    sym (container-rows messages) ∙ ap (drop 8) (sym is.body ∙ lawful.spelt) ∙ container-rows parts in
    let rows : drop 8 envelope.body ≡ flat_map row parts = ap (drop 8) lawful.spelt ∙ container-rows parts in
    let dropped : length (drop 8 envelope.body) ≡ length (flat_map row parts) = ap length rows in
    let few = short.body in
    both messages envelope.number parts
    (parts-were messages messages parts (all-members (λ (message : Message). Was messages message.number message.body) messages (λ message among. (message, among, refl, refl)))
    (smaller envelope.number short.lawful.number messages is.below) (inner-small envelope.number parts lawful.inner) same
    (omega (arith, dropped, length-drop 8 envelope.body, few)))
    lawful.inner

-- ---- the kinds of a bag

abbrev is_up : Dir → Bool
is_up Up = true
is_up Down = false

-- a packet up under this name has this number, and is a container
abbrev is_container_of : Name → ℕ → Packet → Bool
is_container_of name number packet =
    (is_up packet.dir && (packet.envelope.session == name.session)) && ((packet.envelope.number == number) && begins_container packet.envelope.body)

abbrev pub kinds_of : List Packet → Kinds
kinds_of bag name number = list_any (is_container_of name number) bag

is-up : (dir : Dir) → is_up dir ≡ true → dir ≡ Up
is-up Up is = refl
is-up Down is = absurd (true-false (sym is))

-- a packet of the bag that makes a number a container's
record IsMaker (bag : List Packet) (name : Name) (number : ℕ) : Type 0 where
  pub packet : Packet
  pub among : Contains bag packet
  pub up : packet.dir ≡ Up
  pub session : packet.envelope.session ≡ name.session
  pub same : packet.envelope.number ≡ number
  pub begins : begins_container packet.envelope.body ≡ true

maker-of : (bag : List Packet) (name : Name) (number : ℕ) → kinds_of bag name number ≡ true → IsMaker bag name number
maker-of bag name number is =
    let found = any-found (is_container_of name number) bag is in
    let parts = and_parts _ _ found.2 in
    let way = and_parts _ _ parts.0 in
    let what = and_parts _ _ parts.1 in
    record {
      packet = found.0;
      among = found.1;
      up = is-up found.0.dir way.0;
      session = eqb-true found.0.envelope.session name.session way.1;
      same = eqb-true found.0.envelope.number number what.0;
      begins = what.1;
    }

module _ (laws : Containers) (bag : List Packet) (once : (session : ℕ) → AreGivenOnce bag session) where
  -- no number of a message that was given, and isn't a container, is a container's
  apart : (name : Name) (message : Message) → Contains (once name.session).given message → begins_container message.body ≡ false → kinds_of bag name message.number ≡ false
  apart name message among plain =
      elim (cases_Bool (kinds_of bag name message.number)) [
        | inr is ↦ is
        | inl is ↦
            let maker = maker-of bag name message.number is in
            let own = once name.session in
            let its = each_of (IsGivenUnder name.session own.given) bag own.packets maker.packet maker.among maker.up maker.session in
            let same : message_in maker.packet.envelope ≡ message = own.once (message_in maker.packet.envelope) message its.outer among maker.same in
            absurd (true-false (sym maker.begins ∙ (ap (λ (message : Message). begins_container message.body) same ∙ plain)))
      ]

  module _ (packet : Packet) (among : Contains bag packet) (up : packet.dir ≡ Up) (short : IsShort packet.envelope) where
    abbrev envelope : Envelope
    envelope = packet.envelope

    abbrev name : Name
    name = record { key = packet.envelope.key; session = packet.envelope.session }

    abbrev given : List Message
    given = (once packet.envelope.session).given

    its : IsGiven given packet.envelope
    its = each_of (IsGivenUnder packet.envelope.session given) bag (once packet.envelope.session).packets packet among up refl

    -- the message in the envelope
    outer-kind : begins_container packet.envelope.body ≡ kinds_of bag name packet.envelope.number
    outer-kind =
        elim (cases_Bool (begins_container packet.envelope.body)) [
          | inr plain ↦ plain ∙ sym (apart name (message_in packet.envelope) its.outer plain)
          | inl begins ↦
              begins
              ∙ sym
              (any-there (is_container_of name packet.envelope.number) bag packet among
              (rw (up, eq-eqb packet.envelope.session packet.envelope.session refl, eq-eqb packet.envelope.number packet.envelope.number refl) begins))
        ]

    -- those inside it
    part-kind : (part : Message) → IsPart its.messages part → IsOfKind (kinds_of bag) name part
    part-kind part is =
        let was = is.0 in
        let put = each_of (Contains given) its.messages its.among was.0 was.1 in
        is.1 ∙ sym (subst (λ (number : ℕ). kinds_of bag name number ≡ false) was.2 (apart name was.0 put (ap begins_container was.3 ∙ is.1)))

    parts-kind : (parts : List Message) → AllByRecursion (IsPart its.messages) parts → AllByRecursion (IsOfKind (kinds_of bag) name) parts
    parts-kind [] are = tt
    parts-kind (part ∷ parts) are = (part-kind part are.0, parts-kind parts are.1)

    lone-plain : (messages : List Message) → messages ≡ message_in packet.envelope ∷ [] → AllByRecursion (λ message. IsPlain message.body) messages → begins_container packet.envelope.body ≡ false
    lone-plain messages is plain =
        let all : AllByRecursion (λ message. IsPlain message.body) (message_in packet.envelope ∷ []) = subst (AllByRecursion (λ message. IsPlain message.body)) is plain in
        all.0

    inner-kinds : AllByRecursion (IsOfKind (kinds_of bag) name) (inner_messages (message_in packet.envelope))
    inner-kinds =
        elim (cases_Bool (begins_container packet.envelope.body)) [
          | inr plain ↦ rw plain tt
          | inl begins ↦
              elim its.made.packet [
                | inl lone ↦ absurd (true-false (sym begins ∙ lone-plain its.messages lone its.made.plain))
                | inr container ↦
                    rw begins
                    (parts-kind (parts_among (Some (parts_of packet.envelope.number packet.envelope.body)))
                    (among-parts laws its.messages packet.envelope short container begins (parts_of packet.envelope.number packet.envelope.body) refl))
              ]
        ]

    unfolded-kinds : (verdict : Verdict) → AllByRecursion (IsOfKind (kinds_of bag) name) (unfolded verdict (message_in packet.envelope))
    unfolded-kinds (Accepted item) = inner-kinds
    unfolded-kinds (Again mark) = tt
    unfolded-kinds (Noticed code) = tt

    packet-kinds : IsPacketOf (kinds_of bag) (as_heard packet.envelope)
    packet-kinds way session = (outer-kind, unfolded-kinds (judge way (remembered session) (message_in packet.envelope)))

  pub bag-kinds : ArePacketsOf (kinds_of bag) bag
  bag-kinds = all-members (λ (packet : Packet). packet.dir ≡ Up → IsShort packet.envelope → IsPacketOf (kinds_of bag) (as_heard packet.envelope)) bag packet-kinds
