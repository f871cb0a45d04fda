-- What is sent before the next piece is read.
use Rattle.std.specs.Prelude.{◌≡◌, ◌⊎◌, ℕ, Bool, true, false, List, [], ◌∷◌, ◌++◌, length, Option, IfOk, OnOk, Result, Ok, Err, ⊤}
use Rattle.auth_keys.specs.declared.ring.RingKey.{RingKey}
use Rattle.envelope.specs.Packet.{Lock}
use Rattle.cipher_modes.specs.CounterMode.{CtrState}
use Rattle.mt_edge.specs.Faults.{one_more}
use Rattle.transport.specs.Wires.{Line}
use Rattle.client_rules.specs.Sending.{Setting}
use Rattle.client_core.specs.declared.flush.Flush.TheVariants as told
use Rattle.client_core.specs.declared.holder.Holder.{Holder}
use Rattle.client_node.specs.Course.{Answers, AreSent, Course, flushes, is_decided, sends_all}
use Rattle.client_node.specs.Standing.{StandsAs}
use Rattle.client_node.specs.Writes.{Breaks, Seen, Writes}
use Rattle.transport.specs.Spelt.{Spells}
use Rattle.client_node.specs.declared.end.End.{End}
use Rattle.client_node.specs.declared.end.End.TheVariants.{Decided, Lost, TurnsSpent, Spent, Memory}

-- The course after these packets, and after a last flush that found nothing due, where there was one.
abbrev pub flowed : {S : Type 0} → Setting S → ℕ → Course S → List (List ℕ) → Bool → Course S
flowed setting now course sent false = sends_all setting now course sent
flowed setting now course sent true = flushes setting now (sends_all setting now course sent)

-- that flush found nothing due
abbrev pub FoundNothing : {S : Type 0} → Setting S → Lock → List RingKey → ℕ → Course S → Bool → Type 0
FoundNothing setting lock keys now course false = ⊤
FoundNothing setting lock keys now course true = Answers setting lock keys now course told.Nothing

-- Why it stopped: nothing is due; each call is decided; a write failed, and a call isn't decided; a flush answered that
-- numbers are spent. Where memory ran out nothing more is said.
abbrev pub StoppedBy : {S : Type 0} → {X : Type 0} → Setting S → Lock → List RingKey → ℕ → Course S → Result X End → Type 0
StoppedBy setting lock keys now course (Ok done) = is_decided course.client ≡ false
StoppedBy setting lock keys now course (Err Decided) = is_decided course.client ≡ true
StoppedBy setting lock keys now course (Err Lost) = is_decided course.client ≡ false
StoppedBy setting lock keys now course (Err Spent) = Answers setting lock keys now course told.Spent
StoppedBy setting lock keys now course (Err TurnsSpent) = ⊥
StoppedBy setting lock keys now course (Err Memory) = ⊤

-- The frames of these packets behind a wire: those of all but the last one, and that of the last one.
pub record Cut (wire : Line) (framed : List (List ℕ)) (bytes : List ℕ) : Type 0 where
  pub earlier : List (List ℕ)
  pub packet : List ℕ
  pub whole : List ℕ
  pub last : List ℕ
  pub between : Line
  pub packets : framed ≡ earlier ++ packet ∷ []
  pub all : bytes ≡ whole ++ last
  pub form : between.form ≡ wire.form
  pub tells : (to : Option CtrState) (packets : List (List ℕ)) (before : List ℕ) → Spells wire to packets before → Spells between to (packets ++ earlier) (before ++ whole)

-- a write of the last packet's frame failed, and there was no further flush
pub record BreaksLast (is_done : Bool) (wire : Line) (framed : List (List ℕ)) (bytes : List ℕ) (before after : Seen) : Type 0 where
  pub last : is_done ≡ false
  pub cut : Cut wire framed bytes
  pub breaks : Breaks cut.whole cut.last before after

-- of these packets' frames: all are written, or a write of the last one's failed
abbrev pub FlowedBy : {X : Type 0} → Result X End → Bool → Line → List (List ℕ) → List ℕ → Seen → Seen → Type 0
FlowedBy (Ok done) is_done wire framed bytes before after = Writes bytes before after
FlowedBy (Err Spent) is_done wire framed bytes before after = Writes bytes before after
FlowedBy (Err Memory) is_done wire framed bytes before after = Writes bytes before after
FlowedBy (Err Decided) is_done wire framed bytes before after = Writes bytes before after ⊎ BreaksLast is_done wire framed bytes before after
FlowedBy (Err Lost) is_done wire framed bytes before after = BreaksLast is_done wire framed bytes before after
FlowedBy (Err TurnsSpent) is_done wire framed bytes before after = ⊥

-- The packets that were put into frames: all that were sent; or all but the last one where memory ran out, and then there was no
-- further flush.
abbrev pub FramedBy : {X : Type 0} → Result X End → Bool → List (List ℕ) → List (List ℕ) → Type 0
FramedBy (Ok done) is_done sent framed = sent ≡ framed
FramedBy (Err Spent) is_done sent framed = sent ≡ framed
FramedBy (Err Decided) is_done sent framed = sent ≡ framed
FramedBy (Err Lost) is_done sent framed = sent ≡ framed
FramedBy (Err TurnsSpent) is_done sent framed = sent ≡ framed
FramedBy (Err Memory) is_done sent framed = (sent ≡ framed) ⊎ ((last : List ℕ) × (is_done ≡ false) × (sent ≡ framed ++ last ∷ []))

-- how a flush that gave a packet ends, by whether each call is decided then and what its write came to
abbrev pub ended_by : Bool → Result Unit End → Result Bool End
ended_by is_decided (Err Memory) = Err Memory
ended_by true sent = Err Decided
ended_by false (Ok done) = Ok true
ended_by false (Err end) = Err end

-- A course that was followed over a wire to a client and a draw, with these packets.
pub record Follows {S : Type 0} (setting : Setting S) (lock : Lock) (keys : List RingKey) (now : ℕ) (course : Course S) (packets : List (List ℕ)) (is_done : Bool) (kept : Holder) (draw : S) : Type 0 where
  pub sent : AreSent setting lock keys now course packets
  pub nothing : FoundNothing setting lock keys now (sends_all setting now course packets) is_done
  pub stands : StandsAs kept draw (flowed setting now course packets is_done)

-- What was sent from a client, of which a call isn't decided, a draw, a wire and what a link told to others: the packets, those of them that were put into
-- frames, whether a last flush found nothing due, and the bytes of the frames.
pub record Flow {S : Type 0} {X : Type 0} (setting : Setting S) (lock : Lock) (keys : List RingKey) (now : ℕ) (kept : Holder) (draw : S) (wire : Line) (link : Seen) (result : Result X End) (kept_then : Holder) (draw_then : S) (wire_then : Line) (link_then : Seen) : Type 0 where
  pub sent : List (List ℕ)
  pub framed : List (List ℕ)
  pub is_done : Bool
  pub bytes : List ℕ
  pub all : FramedBy result is_done sent framed
  pub course : (course : Course S) → StandsAs kept draw course → is_decided course.client ≡ false → Follows setting lock keys now course sent is_done kept_then draw_then
  pub form : wire_then.form ≡ wire.form
  pub tells : (to : Option CtrState) (packets : List (List ℕ)) (before : List ℕ) → Spells wire to packets before → Spells wire_then to (packets ++ framed) (before ++ bytes)
  pub written : FlowedBy result is_done wire framed bytes link link_then

-- why it stopped then, for each course that it began as
abbrev pub Stops : {S : Type 0} → {X : Type 0} → Setting S → Lock → List RingKey → ℕ → Holder → S → List (List ℕ) → Bool → Result X End → Type 0
Stops {S} setting lock keys now kept draw sent is_done result =
    (course : Course S) → StandsAs kept draw course → is_decided course.client ≡ false → StoppedBy setting lock keys now (flowed setting now course sent is_done) result

-- one flush: it sent a packet, so that more may be due, or found nothing due
abbrev pub IsOne : Bool → Bool → List (List ℕ) → Type 0
IsOne true is_done sent = (is_done ≡ false) × (length sent ≡ 1)
IsOne false is_done sent = (is_done ≡ true) × (sent ≡ [])

-- What one flush did over a wire.
pub record OneFlush {S : Type 0} (setting : Setting S) (lock : Lock) (keys : List RingKey) (now : ℕ) (kept : Holder) (draw : S) (wire : Line) (link : Seen) (result : Result Bool End) (kept_then : Holder) (draw_then : S) (wire_then : Line) (link_then : Seen) : Type 0 where
  pub flow : Flow setting lock keys now kept draw wire link result kept_then draw_then wire_then link_then
  pub stops : Stops setting lock keys now kept draw flow.sent flow.is_done result
  pub one : IfOk result (λ more. IsOne more flow.is_done flow.sent)

-- a packet was sent, and more may be due
abbrev pub went_on : Result Bool End
went_on = Ok true

-- So many flushes, each of which sent a packet.
pub record SoFar {S : Type 0} (setting : Setting S) (lock : Lock) (keys : List RingKey) (now : ℕ) (kept : Holder) (draw : S) (wire : Line) (link : Seen) (times : ℕ) (kept_then : Holder) (draw_then : S) (wire_then : Line) (link_then : Seen) : Type 0 where
  pub flow : Flow setting lock keys now kept draw wire link went_on kept_then draw_then wire_then link_then
  pub goes : flow.is_done ≡ false
  pub count : length flow.sent ≡ times
  pub undecided : Stops setting lock keys now kept draw flow.sent false went_on

-- What all flushes did.
pub record AllFlushes {S : Type 0} (setting : Setting S) (lock : Lock) (keys : List RingKey) (now : ℕ) (kept : Holder) (draw : S) (wire : Line) (link : Seen) (result : Result Unit End) (kept_then : Holder) (draw_then : S) (wire_then : Line) (link_then : Seen) : Type 0 where
  pub flow : Flow setting lock keys now kept draw wire link result kept_then draw_then wire_then link_then
  pub stops : Stops setting lock keys now kept draw flow.sent flow.is_done result
  -- the last one found nothing due
  pub all : OnOk result ((course : Course S) → StandsAs kept draw course → is_decided course.client ≡ false → flow.is_done ≡ true)

-- the count of the link's faults by how the flushes ended: the connection is lost exactly where a write failed, unless each
-- call is decided by then
abbrev pub CountsEnd : {X : Type 0} → Result X End → ℕ → ℕ → Type 0
CountsEnd (Ok done) before after = after ≡ before
CountsEnd (Err Lost) before after = after ≡ one_more before
CountsEnd (Err Decided) before after = (after ≡ before) ⊎ (after ≡ one_more before)
CountsEnd (Err Spent) before after = after ≡ before
CountsEnd (Err Memory) before after = after ≡ before
CountsEnd (Err TurnsSpent) before after = ⊥
