-- What a server judges of a packet that a client sent was sent by it.
use Rattle.std.proofs.Common.{◌≡◌, ◌≤◌, ◌<◌, ◌+◌, ◌^◌, ℕ, Bool, true, false, List, [], ◌∷◌, ◌++◌, length, length-append, Option, None, Some, Result, Ok, Err, inl, inr, refl, sym, ap, subst, ◌∙◌, arith, drop, take}
use Rattle.std.specs.Prelude.{IsTrue}
use Rattle.std.specs.List.{AllByRecursion, flat_map}
use Rattle.std.proofs.lemmas.List.{take_at, drop_at, length-drop}
use Rattle.byteorder.specs.Endian.{little_bytes, little_number}
use Rattle.byteorder.specs.Numbers.{little_number-reads_back}
use Rattle.octets.specs.Bytes.{IsBytes}
use Rattle.tl_codec.specs.Standard.{bytes_max}
use Rattle.service_tl.specs.declared.lists.Message.{Message}
use Rattle.containers.specs.declared.fault.ContainerFault.{ContainerFault}
use Rattle.containers.specs.Container.{IsContainer, IsInner, begins_container, container_of, head_of, row}
use Rattle.containers.specs.Parts.{parts_of}
use Rattle.envelope.specs.declared.parts.Envelope.{Envelope}
use Rattle.envelope.specs.Packet.{IsEnvelope}
use Rattle.inbox.specs.Verdicts.{Verdict, Accepted, Again, Noticed}
use Rattle.inbox.specs.Kinds.{inner_messages, parts_among}
use Rattle.inbox.specs.Judging.{judge, unfolded}
use Rattle.server_rules.specs.Answer.{message_in}
use Rattle.server_rules.specs.Server.{remembered}
use Rattle.law_moves.specs.Table as moves
use Rattle.law_client.specs.Sent.{Asks, IsPacketSent, WasSent}
use Rattle.world_rules.specs.Setting.{as_heard}
use Rattle.law_server_moves.specs.Servers.{IsPacketUp, IsUp}
use Rattle.law_server_moves.proofs.Asked.{Reading, asked}

-- ---- rows of a container

module _ (message : Message) (rest : List ℕ) where
  row_number : message.number < 2 ^ 64 → little_number 8 (row message ++ rest) ≡ message.number
  unfolding row
  row_number small = little_number-reads_back 8 message.number (little_bytes 4 message.seq ++ (little_bytes 4 (length message.body) ++ (message.body ++ rest))) small

  pub row_size : length message.body < 2 ^ 32 → little_number 4 (drop 12 (row message ++ rest)) ≡ length message.body
  unfolding row
  row_size small = little_number-reads_back 4 (length message.body) (message.body ++ rest) small

  pub row_behind : drop 16 (row message ++ rest) ≡ message.body ++ rest
  unfolding row
  row_behind = refl

  pub row_long : 16 ≤ length (row message ++ rest)
  unfolding row
  row_long = omega (arith, length-append message.body rest)

  pub row_length : length message.body + length rest ≤ length (row message ++ rest)
  unfolding row
  row_length = omega (arith, length-append message.body rest)

-- a message of a packet: what was sent of it, and its body is bytes, few enough to be read
abbrev IsPart : (ℕ → List ℕ → Type 0) → Message → Type 0
IsPart Was message = Was message.number message.body × IsBytes message.body × (length message.body ≤ bytes_max)

module _ (front_bytes : (xs ys : List ℕ) → IsBytes (xs ++ ys) → IsBytes xs) (back_bytes : (xs ys : List ℕ) → IsBytes (xs ++ ys) → IsBytes ys)
    (drop_bytes : (n : ℕ) (xs : List ℕ) → IsBytes xs → IsBytes (drop n xs)) (Was : ℕ → List ℕ → Type 0) where
  parts_were : (messages parts : List Message) → AllByRecursion (λ message. Was message.number message.body) messages
      → AllByRecursion (λ message. message.number < 2 ^ 64) messages → AllByRecursion (λ message. message.number < 2 ^ 64) parts
      → flat_map row messages ≡ flat_map row parts → IsBytes (flat_map row parts) → length (flat_map row parts) ≤ bytes_max
      → AllByRecursion (IsPart Was) parts
  parts_were messages [] was small also same bytes few = tt
  parts_were [] (part ∷ parts) was small also same bytes few =
      let counted : 0 ≡ length (row part ++ flat_map row parts) = ap length same in
      absurd (omega (arith, counted, row_long part (flat_map row parts)))
  parts_were (message ∷ messages) (part ∷ parts) was small also same bytes few =
      let one = flat_map row messages in
      let other = flat_map row parts in
      let counted : length (row message ++ one) ≡ length (row part ++ other) = ap length same in
      let first = row_length message one in
      let second = row_length part other in
      let number : message.number ≡ part.number = sym (row_number message one small.0) ∙ ap (little_number 8) same ∙ row_number part other also.0 in
      let size : length message.body ≡ length part.body =
      sym (row_size message one (omega (arith, counted, first, few))) ∙ ap (λ (t : List ℕ). little_number 4 (drop 12 t)) same ∙ row_size part other (omega (arith, second, few)) in
      let behind : message.body ++ one ≡ part.body ++ other = sym (row_behind message one) ∙ ap (drop 16) same ∙ row_behind part other in
      let body : message.body ≡ part.body =
      sym (take_at message.body one (length part.body) size) ∙ ap (take (length part.body)) behind ∙ take_at part.body other (length part.body) refl in
      let others : one ≡ other =
      sym (drop_at message.body one (length part.body) size) ∙ ap (drop (length part.body)) behind ∙ drop_at part.body other (length part.body) refl in
      let its : IsBytes (part.body ++ other) = subst IsBytes (row_behind part other) (drop_bytes 16 (row part ++ other) bytes) in (
        (
          subst (λ (b : List ℕ). Was part.number b) body (subst (λ (n : ℕ). Was n message.body) number was.0),
          front_bytes part.body other its,
          omega (arith, second, few),
        ),
        parts_were messages parts was.1 small.1 also.1 others (back_bytes part.body other its) (omega (arith, second, few)),
      )

-- ---- a packet

-- what a container's parts are
pub record Unfolds : Type 0 where
  pub front : (xs ys : List ℕ) → IsBytes (xs ++ ys) → IsBytes xs
  pub back : (xs ys : List ℕ) → IsBytes (xs ++ ys) → IsBytes ys
  pub drop : (n : ℕ) (xs : List ℕ) → IsBytes xs → IsBytes (drop n xs)
  pub begins : (messages : List Message) → IsTrue (begins_container (container_of messages))
  pub lawful : (number : ℕ) (messages : List Message) (body : List ℕ) → IsBytes body → IsTrue (begins_container body) → parts_of number body ≡ Ok messages → IsContainer number messages body

pub container_rows : (messages : List Message) → drop 8 (container_of messages) ≡ flat_map row messages
unfolding container_of head_of
container_rows messages = refl

smaller : (top : ℕ) → top < 2 ^ 64 → (messages : List Message) → AllByRecursion (λ message. message.number < top) messages → AllByRecursion (λ message. message.number < 2 ^ 64) messages
smaller top small [] below = tt
smaller top small (message ∷ messages) below = (omega (arith, small, below.0), smaller top small messages below.1)

inner_small : (number : ℕ) (messages : List Message) → AllByRecursion (IsInner number) messages → AllByRecursion (λ message. message.number < 2 ^ 64) messages
inner_small number [] inner = tt
inner_small number (message ∷ messages) inner = (inner.0.fits.0, inner_small number messages inner.1)

unfolds_so : (P : Message → Type 0) (verdict : Verdict) (message : Message) → AllByRecursion P (inner_messages message) → AllByRecursion P (unfolded verdict message)
unfolds_so P (Accepted item) message each = each
unfolds_so P (Again mark) message each = tt
unfolds_so P (Noticed code) message each = tt

begins_true : (b : Bool) → IsTrue b → b ≡ true
begins_true b is = is

module _ (r : Reading) (u : Unfolds) (ups : List moves.Message) (session salt : ℕ) where
  abbrev Was : ℕ → List ℕ → Type 0
  Was number body = (call : Option (List ℕ)) × Asks body call × WasSent ups session salt number call

  up_of : (message : Message) → IsBytes message.body → length message.body ≤ bytes_max → Was message.number message.body → message.number < 2 ^ 64 → IsUp ups session salt message
  up_of message bytes few (call, asks, sent) fits =
      (fits, subst (λ (c : Option (List ℕ)). WasSent ups session salt message.number c) (sym (asked r message.body call bytes few asks).asks) sent)

  parts_up : (parts : List Message) → AllByRecursion (IsPart Was) parts → AllByRecursion (λ (message : Message). message.number < 2 ^ 64) parts → AllByRecursion (IsUp ups session salt) parts
  parts_up [] each small = tt
  parts_up (part ∷ parts) each small = (up_of part each.0.1 each.0.2 each.0.0 small.0, parts_up parts each.1 small.1)

  alone_up : (message : Message) → message.number < 2 ^ 64 → IsBytes message.body → length message.body ≤ bytes_max → Was message.number message.body
      → (verdict : Verdict) → AllByRecursion (IsUp ups session salt) (message ∷ unfolded verdict message)
  alone_up message small bytes few was verdict =
      let alone : begins_container message.body ≡ false = (asked r message.body was.0 bytes few was.1).unnested in
      (up_of message bytes few was small, unfolds_so (IsUp ups session salt) verdict message (rw alone tt))

  among_up : (messages : List Message) (number : ℕ) (body : List ℕ) → number < 2 ^ 64 → IsBytes body → length body ≤ bytes_max → body ≡ container_of messages
      → begins_container body ≡ true
      → AllByRecursion (λ message. Was message.number message.body) messages → AllByRecursion (λ message. message.number < number) messages
      → (result : Result (List Message) ContainerFault) → parts_of number body ≡ result → AllByRecursion (IsUp ups session salt) (parts_among (Some result))
  among_up messages number body small bytes few is begins was below (Err fault) parsed = tt
  among_up messages number body small bytes few is begins was below (Ok parts) parsed =
      let lawful = u.lawful number parts body bytes begins parsed in
      let same : flat_map row messages ≡ flat_map row parts =
      sym (container_rows messages) ∙ ap (drop 8) (sym is ∙ lawful.spelt) ∙ container_rows parts in
      let rows : drop 8 body ≡ flat_map row parts = ap (drop 8) lawful.spelt ∙ container_rows parts in
      let dropped : length (drop 8 body) ≡ length (flat_map row parts) = ap length rows in
      parts_up parts
      (parts_were u.front u.back u.drop Was messages parts was (smaller number small messages below) (inner_small number parts lawful.inner) same
      (subst IsBytes rows (u.drop 8 body bytes)) (omega (arith, dropped, length-drop 8 body, few)))
      (inner_small number parts lawful.inner)

  container_up : (messages : List Message) (message : Message) → message.number < 2 ^ 64 → IsBytes message.body → length message.body ≤ bytes_max → message.body ≡ container_of messages
      → AllByRecursion (λ inner. Was inner.number inner.body) messages → AllByRecursion (λ inner. inner.number < message.number) messages
      → WasSent ups session salt message.number None → (verdict : Verdict) → AllByRecursion (IsUp ups session salt) (message ∷ unfolded verdict message)
  container_up messages message small bytes few is was below outer verdict =
      let begins : begins_container message.body ≡ true = begins_true (begins_container message.body) (subst (λ (b : List ℕ). IsTrue (begins_container b)) (sym is) (u.begins messages)) in (
        rw begins (small, outer),
        unfolds_so (IsUp ups session salt) verdict message
            (rw begins (among_up messages message.number message.body small bytes few is begins was below (parts_of message.number message.body) refl)),
      )

pub packet_up : (r : Reading) (u : Unfolds) (ups : List moves.Message) (sealed : Envelope) → IsEnvelope sealed → length sealed.body ≤ bytes_max → IsPacketSent ups sealed
    → IsPacketUp ups (as_heard sealed)
packet_up r u ups sealed lawful few (inl sent) =
    λ way session. alone_up r u ups sealed.session sealed.salt (message_in (as_heard sealed)) lawful.number lawful.bytes few sent (judge way (remembered session) (message_in (as_heard sealed)))
packet_up r u ups sealed lawful few (inr sent) =
    λ way session. container_up r u ups sealed.session sealed.salt sent.messages (message_in (as_heard sealed)) lawful.number lawful.bytes few sent.body sent.inner sent.below sent.outer
    (judge way (remembered session) (message_in (as_heard sealed)))
