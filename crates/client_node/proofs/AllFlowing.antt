-- All flushes, one after the other.
use Rattle.std.proofs.Common.{◌≡◌, ◌<◌, ◌≤◌, ◌+◌, ◌*◌, ℕ, Bool, false, List, [], ◌∷◌, ◌++◌, length, Result, Ok, Err, refl, sym, ap, subst, ◌∙◌, length-append, arith}
use Rattle.auth_keys.specs.declared.ring.RingKey.{RingKey}
use Rattle.envelope.specs.Packet.{Lock}
use Rattle.client_node.specs.Writes.{Seen}
use Rattle.transport.specs.Wires.{Line}
use Rattle.client_rules.specs.Client.{Client, calls_of}
use Rattle.client_rules.specs.Flush.{Answer, Nothing, Spent, Sends, flush}
use Rattle.client_rules.specs.Sending.{Packet, Setting}
use Rattle.law_client.specs.Due.{due_of}
use Rattle.client_core.specs.Flushed.{TellsFlush}
use Rattle.client_core.specs.declared.flush.Flush.TheVariants as told
use Rattle.client_core.specs.declared.holder.Holder.{Holder}
use Rattle.client_node.specs.Course.{AreSent, Course, Phase, Opening, Open, Ended, flush_of, flushed_in, flushes, is_decided, sends_all}
use Rattle.client_node.specs.Flow.{AllFlushes, Flow, OneFlush, SoFar, Stops, went_on}
use Rattle.client_node.specs.Standing.{StandsAs, StandsFor}
use Rattle.client_node.specs.declared.end.End.{End}
use Rattle.client_node.specs.declared.end.End.TheVariants as ends
use Rattle.client_node.proofs.Flowing.{stands_first, flow_both, no_flow, stops_both}

pub so_far_none : {S : Type 0} (setting : Setting S) (lock : Lock) (keys : List RingKey) (now : ℕ) (kept : Holder) (draw : S) (line : Line) (link : Seen)
    → SoFar setting lock keys now kept draw line link 0 kept draw line link
so_far_none setting lock keys now kept draw line link =
    record { flow = no_flow setting lock keys now kept draw line link; goes = refl; count = refl; undecided = λ course stands some. some }

-- the course after the packets so far
stands_then : {S : Type 0} (setting : Setting S) (lock : Lock) (keys : List RingKey) (now : ℕ) (kept : Holder) (draw : S) (line : Line) (link : Seen) (times : ℕ)
    (middle : Holder) (between : S) (line_between : Line) (link_between : Seen)
    → (before : SoFar setting lock keys now kept draw line link times middle between line_between link_between)
    → (course : Course S) → StandsAs kept draw course → is_decided course.client ≡ false → StandsAs middle between (sends_all setting now course before.flow.sent)
stands_then setting lock keys now kept draw line link times middle between line_between link_between before course stands some =
    stands_first setting lock keys now course before.flow.sent before.flow.is_done middle between before.goes (before.flow.course course stands some)

abbrev joined : {S X : Type 0} (setting : Setting S) (lock : Lock) (keys : List RingKey) (now : ℕ) (kept : Holder) (draw : S) (line : Line) (link : Seen) (times : ℕ)
    (middle : Holder) (between : S) (line_between : Line) (link_between : Seen) (left : Holder) (drawn : S) (line_then : Line) (link_then : Seen) (result : Result X End)
    → SoFar setting lock keys now kept draw line link times middle between line_between link_between
    → Flow setting lock keys now middle between line_between link_between result left drawn line_then link_then
    → Flow setting lock keys now kept draw line link result left drawn line_then link_then
joined setting lock keys now kept draw line link times middle between line_between link_between left drawn line_then link_then result before after =
    flow_both setting lock keys now kept draw line link middle between line_between link_between left drawn line_then link_then result before.flow before.goes before.undecided after

stopped : {S X : Type 0} (setting : Setting S) (lock : Lock) (keys : List RingKey) (now : ℕ) (kept : Holder) (draw : S) (line : Line) (link : Seen) (times : ℕ)
    (middle : Holder) (between : S) (line_between : Line) (link_between : Seen) (result : Result X End) (sent : List (List ℕ)) (is_done : Bool)
    → (before : SoFar setting lock keys now kept draw line link times middle between line_between link_between)
    → Stops setting lock keys now middle between sent is_done result
    → Stops setting lock keys now kept draw (before.flow.sent ++ sent) is_done result
stopped setting lock keys now kept draw line link times middle between line_between link_between result sent is_done before stops =
    stops_both setting lock keys now kept draw middle between before.flow.sent sent is_done result
    (stands_then setting lock keys now kept draw line link times middle between line_between link_between before) before.undecided stops

pub so_far_more : {S : Type 0} (setting : Setting S) (lock : Lock) (keys : List RingKey) (now : ℕ) (kept : Holder) (draw : S) (line : Line) (link : Seen) (times : ℕ)
    (middle : Holder) (between : S) (line_between : Line) (link_between : Seen) (left : Holder) (drawn : S) (line_then : Line) (link_then : Seen)
    → SoFar setting lock keys now kept draw line link times middle between line_between link_between
    → OneFlush setting lock keys now middle between line_between link_between went_on left drawn line_then link_then
    → SoFar setting lock keys now kept draw line link (times + 1) left drawn line_then link_then
so_far_more setting lock keys now kept draw line link times middle between line_between link_between left drawn line_then link_then before one =
    record {
      flow = joined setting lock keys now kept draw line link times middle between line_between link_between left drawn line_then link_then went_on before one.flow;
      goes = one.one.0;
      count = length-append before.flow.sent one.flow.sent ∙ ap (λ (n : ℕ). n + length one.flow.sent) before.count ∙ ap (λ (n : ℕ). times + n) one.one.1;
      undecided = subst (λ is_done. Stops setting lock keys now kept draw (before.flow.sent ++ one.flow.sent) is_done went_on) one.one.0
          (stopped setting lock keys now kept draw line link times middle between line_between link_between went_on one.flow.sent one.flow.is_done before one.stops);
    }

-- nothing was due any more
abbrev all_well : Result Unit End
all_well = Ok tt

-- the last flush found nothing due
pub all_done : {S : Type 0} (setting : Setting S) (lock : Lock) (keys : List RingKey) (now : ℕ) (kept : Holder) (draw : S) (line : Line) (link : Seen) (times : ℕ)
    (middle : Holder) (between : S) (line_between : Line) (link_between : Seen) (left : Holder) (drawn : S) (line_then : Line) (link_then : Seen)
    → SoFar setting lock keys now kept draw line link times middle between line_between link_between
    → OneFlush setting lock keys now middle between line_between link_between (Ok false) left drawn line_then link_then
    → AllFlushes setting lock keys now kept draw line link (Ok tt) left drawn line_then link_then
all_done setting lock keys now kept draw line link times middle between line_between link_between left drawn line_then link_then before one =
    let whole = joined setting lock keys now kept draw line link times middle between line_between link_between left drawn line_then link_then (Ok false) before one.flow in
    record {
      flow = record { sent = whole.sent; framed = whole.framed; all = whole.all; is_done = whole.is_done; bytes = whole.bytes; course = whole.course; form = whole.form; tells = whole.tells; written = whole.written };
      stops = stopped setting lock keys now kept draw line link times middle between line_between link_between all_well one.flow.sent one.flow.is_done before one.stops;
      all = λ course stands some. one.one.0;
    }

-- what a flush that sends a packet leaves waits to be sent, and is less
abbrev pub LeavesLess : Type 0 → Type 0
LeavesLess S = (setting : Setting S) (now : ℕ) (client : Client) (draw : S) (packet : Packet) → (flush setting now client draw).answer ≡ Sends packet
    → due_of (flush setting now client draw).client < due_of client

sends_of : (lock : Lock) (keys : List RingKey) (answer : Answer) (bytes : List ℕ) → TellsFlush lock keys answer (told.Packet bytes) → (packet : Packet) × (answer ≡ Sends packet)
sends_of lock keys Nothing bytes tells = absurd tells
sends_of lock keys Spent bytes tells = absurd tells
sends_of lock keys (Sends packet) bytes tells = (packet, refl)

none_sent : (packet : Packet) → Nothing ≡ Sends packet → ⊥
none_sent packet same = cc

one_less : {S : Type 0} (less : LeavesLess S) (phase : Phase) (setting : Setting S) (now : ℕ) (client : Client) (draw : S) (packet : Packet)
    → (flushed_in phase setting now client draw).answer ≡ Sends packet → due_of (flushed_in phase setting now client draw).client < due_of client
one_less less Opening setting now client draw packet is = less setting now client draw packet is
one_less less Open setting now client draw packet is = less setting now client draw packet is
one_less less Ended setting now client draw packet is = absurd (none_sent packet is)

sent_less : {S : Type 0} (less : LeavesLess S) (setting : Setting S) (lock : Lock) (keys : List RingKey) (now : ℕ) (course : Course S) (packets : List (List ℕ))
    → AreSent setting lock keys now course packets → length packets ≤ due_of course.client
sent_less less setting lock keys now course [] are = omega arith
sent_less less setting lock keys now course (packet ∷ packets) are =
    let gave = sends_of lock keys (flush_of setting now course).answer packet are.0.1 in
    let first = one_less less course.phase setting now course.client course.draw gave.0 gave.1 in
    let rest = sent_less less setting lock keys now (flushes setting now course) packets are.1 in
    omega (arith, first, rest)

-- so many packets aren't sent: there is less that waits
pub too_many : {S : Type 0} (setting : Setting S) (lock : Lock) (keys : List RingKey) (now : ℕ) (kept : Holder) (draw : S) (line : Line) (link : Seen) (times calls : ℕ)
    (left : Holder) (drawn : S) (line_then : Line) (link_then : Seen)
    → LeavesLess S → ((client : Client) → due_of client ≤ 9 + 3 * length (calls_of client)) → ((client : Client) → StandsFor kept client → calls ≡ length (calls_of client))
    → times ≡ 10 + 3 * calls
    → SoFar setting lock keys now kept draw line link times left drawn line_then link_then
    → AllFlushes setting lock keys now kept draw line link (Ok tt) left drawn line_then link_then
too_many setting lock keys now kept draw line link times calls left drawn line_then link_then less few counted most before =
    let whole = before.flow in
    record {
      flow = record { sent = whole.sent; framed = whole.framed; all = whole.all; is_done = whole.is_done; bytes = whole.bytes; course = whole.course; form = whole.form; tells = whole.tells; written = whole.written };
      stops = subst (λ is_done. Stops setting lock keys now kept draw before.flow.sent is_done went_on) (sym before.goes) before.undecided;
      all = λ course stands some.
          let sent = sent_less less setting lock keys now course whole.sent (whole.course course stands some).sent in
          let waits = few course.client in
          let its = counted course.client stands.client in
          let none : ⊥ = omega (arith, sent, waits, its, most, before.count) in
          absurd none;
    }

-- a flush failed
abbrev one_err : End → Result Bool End
one_err end = Err end

failed_as : {S : Type 0} (setting : Setting S) (lock : Lock) (keys : List RingKey) (now : ℕ) (kept : Holder) (draw : S) (line : Line) (link : Seen)
    (left : Holder) (drawn : S) (line_then : Line) (link_then : Seen) (end : End)
    → (flow : Flow setting lock keys now kept draw line link (one_err end) left drawn line_then link_then)
    → Stops setting lock keys now kept draw flow.sent flow.is_done (one_err end)
    → AllFlushes setting lock keys now kept draw line link (Err end) left drawn line_then link_then
failed_as setting lock keys now kept draw line link left drawn line_then link_then ends.Decided flow stops =
    record { flow = record { sent = flow.sent; framed = flow.framed; all = flow.all; is_done = flow.is_done; bytes = flow.bytes; course = flow.course; form = flow.form; tells = flow.tells; written = flow.written }; stops = stops; all = tt }
failed_as setting lock keys now kept draw line link left drawn line_then link_then ends.Lost flow stops =
    record { flow = record { sent = flow.sent; framed = flow.framed; all = flow.all; is_done = flow.is_done; bytes = flow.bytes; course = flow.course; form = flow.form; tells = flow.tells; written = flow.written }; stops = stops; all = tt }
failed_as setting lock keys now kept draw line link left drawn line_then link_then ends.TurnsSpent flow stops =
    record { flow = record { sent = flow.sent; framed = flow.framed; all = flow.all; is_done = flow.is_done; bytes = flow.bytes; course = flow.course; form = flow.form; tells = flow.tells; written = flow.written }; stops = stops; all = tt }
failed_as setting lock keys now kept draw line link left drawn line_then link_then ends.Spent flow stops =
    record { flow = record { sent = flow.sent; framed = flow.framed; all = flow.all; is_done = flow.is_done; bytes = flow.bytes; course = flow.course; form = flow.form; tells = flow.tells; written = flow.written }; stops = stops; all = tt }
failed_as setting lock keys now kept draw line link left drawn line_then link_then ends.Memory flow stops =
    record { flow = record { sent = flow.sent; framed = flow.framed; all = flow.all; is_done = flow.is_done; bytes = flow.bytes; course = flow.course; form = flow.form; tells = flow.tells; written = flow.written }; stops = stops; all = tt }

pub all_failed : {S : Type 0} (setting : Setting S) (lock : Lock) (keys : List RingKey) (now : ℕ) (kept : Holder) (draw : S) (line : Line) (link : Seen) (times : ℕ)
    (middle : Holder) (between : S) (line_between : Line) (link_between : Seen) (left : Holder) (drawn : S) (line_then : Line) (link_then : Seen) (end : End)
    → SoFar setting lock keys now kept draw line link times middle between line_between link_between
    → OneFlush setting lock keys now middle between line_between link_between (Err end) left drawn line_then link_then
    → AllFlushes setting lock keys now kept draw line link (Err end) left drawn line_then link_then
all_failed setting lock keys now kept draw line link times middle between line_between link_between left drawn line_then link_then end before one =
    failed_as setting lock keys now kept draw line link left drawn line_then link_then end
    (joined setting lock keys now kept draw line link times middle between line_between link_between left drawn line_then link_then (one_err end) before one.flow)
    (stopped setting lock keys now kept draw line link times middle between line_between link_between (one_err end) one.flow.sent one.flow.is_done before one.stops)
