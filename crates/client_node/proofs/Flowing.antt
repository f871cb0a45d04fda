-- What is sent in two steps is sent in one.
use Rattle.std.proofs.Common.{◌≡◌, ℕ, nat_lt, not, if◌then◌else◌, Bool, true, false, List, [], ◌∷◌, ◌++◌, Option, Some, None, IfSome, IsSomeAnd, Result, Ok, Err, inl, inr, refl, sym, ap, subst, ◌∙◌, append-nil}
use Rattle.auth_keys.specs.declared.ring.RingKey.{RingKey}
use Rattle.envelope.specs.Packet.{Lock}
use Rattle.cipher_modes.specs.CounterMode.{CtrState}
use Rattle.mt_edge.specs.Links.{Told}
use Rattle.transport.specs.Wires.{Line}
use Rattle.msg_ids.specs.Counters.{room}
use Rattle.service_tl.specs.declared.lists.Message.{Message}
use Rattle.client_rules.specs.Client.{Client, at_moment}
use Rattle.client_rules.specs.Filling.{Filling}
use Rattle.client_rules.specs.Flush.{Spent, filled, flush, has_any, room_min, sends}
use Rattle.client_core.specs.Flushed.{TellsFlush}
use Rattle.client_rules.specs.Sending.{Setting}
use Rattle.client_core.specs.declared.flush.Flush.TheVariants as answers
use Rattle.client_core.specs.declared.holder.Holder.{Holder}
use Rattle.client_node.specs.Course.{AreSent, Course, Phase, Opening, Open, Ended, flushed_in, flushes, is_decided, sends_all}
use Rattle.client_node.specs.Flow.{CountsEnd, Cut, Flow, FlowedBy, Follows, FramedBy, FoundNothing, OneFlush, StoppedBy, Stops, ended_by, flowed, went_on}
use Rattle.client_node.specs.Standing.{DecidedBy, FlushedAs, StandsAs, StandsFor, has_undecided}
use Rattle.client_node.specs.Writes.{CountsBy, Seen, StaysBy, TellsMore, Writes, Wrote, WroteBy}
use Rattle.transport.specs.Spelt.{Spells}
use Rattle.client_node.specs.declared.end.End.{End}
use Rattle.client_node.specs.declared.end.End.TheVariants as ends
use Rattle.client_node.proofs.Joining.{flowed_both, framed_both, tells_after}
use Rattle.client_node.proofs.KindLemmas.{all_decided}

-- ---- the course

sends_both : {S : Type 0} (setting : Setting S) (now : ℕ) (course : Course S) (one other : List (List ℕ))
    → sends_all setting now course (one ++ other) ≡ sends_all setting now (sends_all setting now course one) other
sends_both setting now course [] other = refl
sends_both setting now course (packet ∷ packets) other = sends_both setting now (flushes setting now course) packets other

are_both : {S : Type 0} (setting : Setting S) (lock : Lock) (keys : List RingKey) (now : ℕ) (course : Course S) (one other : List (List ℕ))
    → AreSent setting lock keys now course one → AreSent setting lock keys now (sends_all setting now course one) other
    → AreSent setting lock keys now course (one ++ other)
are_both setting lock keys now course [] other before after = after
are_both setting lock keys now course (packet ∷ packets) other before after =
    (before.0, are_both setting lock keys now (flushes setting now course) packets other before.1 after)

flowed_on : {S : Type 0} (setting : Setting S) (now : ℕ) (course : Course S) (one other : List (List ℕ)) (is_done : Bool)
    → flowed setting now (sends_all setting now course one) other is_done ≡ flowed setting now course (one ++ other) is_done
flowed_on setting now course one other false = sym (sends_both setting now course one other)
flowed_on setting now course one other true = ap (λ so_far. flushes setting now so_far) (sym (sends_both setting now course one other))

pub follows_both : {S : Type 0} (setting : Setting S) (lock : Lock) (keys : List RingKey) (now : ℕ) (course : Course S)
    (one other : List (List ℕ)) (is_done : Bool) (middle kept : Holder) (between draw : S)
    → Follows setting lock keys now course one false middle between
    → Follows setting lock keys now (sends_all setting now course one) other is_done kept draw
    → Follows setting lock keys now course (one ++ other) is_done kept draw
follows_both setting lock keys now course one other is_done middle kept between draw before after =
    record {
      sent = are_both setting lock keys now course one other before.sent after.sent;
      nothing = subst (λ so_far. FoundNothing setting lock keys now so_far is_done) (sym (sends_both setting now course one other)) after.nothing;
      stands = subst (λ so_far. StandsAs kept draw so_far) (flowed_on setting now course one other is_done) after.stands;
    }

-- what was sent in two steps, the first of which went on
abbrev pub flow_both : {S X : Type 0} (setting : Setting S) (lock : Lock) (keys : List RingKey) (now : ℕ)
    (kept : Holder) (draw : S) (line : Line) (link : Seen)
    (middle : Holder) (between : S) (line_between : Line) (link_between : Seen)
    (left : Holder) (drawn : S) (line_then : Line) (link_then : Seen) (result : Result X End)
    → (before : Flow setting lock keys now kept draw line link went_on middle between line_between link_between)
    → before.is_done ≡ false
    → Stops setting lock keys now kept draw before.sent false went_on
    → Flow setting lock keys now middle between line_between link_between result left drawn line_then link_then
    → Flow setting lock keys now kept draw line link result left drawn line_then link_then
flow_both setting lock keys now kept draw line link middle between line_between link_between left drawn line_then link_then result before goes undecided after =
    record {
      sent = before.sent ++ after.sent;
      framed = before.framed ++ after.framed;
      is_done = after.is_done;
      bytes = before.bytes ++ after.bytes;
      all = framed_both result after.is_done before.sent before.framed after.sent after.framed before.all after.all;
      course = λ course stands some.
          let first = subst (λ is_done. Follows setting lock keys now course before.sent is_done middle between) goes (before.course course stands some) in
          follows_both setting lock keys now course before.sent after.sent after.is_done middle left between drawn first (after.course _ first.stands (undecided course stands some));
      form = after.form ∙ before.form;
      tells = tells_after line line_between line_then before.framed after.framed before.bytes after.bytes before.tells after.tells;
      written = flowed_both result after.is_done line line_between before.framed after.framed before.bytes after.bytes link link_between link_then before.form before.tells before.written after.written;
    }

pub stops_both : {S X : Type 0} (setting : Setting S) (lock : Lock) (keys : List RingKey) (now : ℕ)
    (kept : Holder) (draw : S) (middle : Holder) (between : S) (one other : List (List ℕ)) (is_done : Bool) (result : Result X End)
    → ((course : Course S) → StandsAs kept draw course → is_decided course.client ≡ false → StandsAs middle between (sends_all setting now course one))
    → Stops setting lock keys now kept draw one false went_on
    → Stops setting lock keys now middle between other is_done result
    → Stops setting lock keys now kept draw (one ++ other) is_done result
stops_both setting lock keys now kept draw middle between one other is_done result first undecided stops course stands some =
    subst (λ so_far. StoppedBy setting lock keys now so_far result) (flowed_on setting now course one other is_done)
    (stops (sends_all setting now course one) (first course stands some) (undecided course stands some))

-- where no flush found nothing due
pub stands_first : {S : Type 0} (setting : Setting S) (lock : Lock) (keys : List RingKey) (now : ℕ) (course : Course S) (sent : List (List ℕ)) (is_done : Bool) (middle : Holder) (between : S)
    → is_done ≡ false → Follows setting lock keys now course sent is_done middle between → StandsAs middle between (sends_all setting now course sent)
stands_first setting lock keys now course sent is_done middle between goes follows =
    subst (λ is_done. StandsAs middle between (flowed setting now course sent is_done)) goes follows.stands

-- ---- nothing was sent yet

pub tells_as_before : (line : Line) (to : Option CtrState) (packets : List (List ℕ)) (before : List ℕ) → Spells line to packets before → Spells line to (packets ++ []) (before ++ [])
tells_as_before line to packets before tells = rw (append-nil packets, append-nil before) tells

-- ---- one packet

-- what is told, where it tells
pub map_told : (P Q : Told → Told → Type 0) → ((before after : Told) → P before after → Q before after) → (first last : Option Told)
    → IfSome last (λ after. IsSomeAnd first (λ before. P before after)) → IfSome last (λ after. IsSomeAnd first (λ before. Q before after))
map_told P Q change first None told = tt
map_told P Q change None (Some last) told = absurd told
map_told P Q change (Some first) (Some last) told = change first last told

-- nothing was written
wrote_nothing : (before after : Told) → after ≡ before → Wrote [] before after
wrote_nothing before after same =
    record {
      written = ap (λ one. one.written) same ∙ sym (append-nil before.written);
      came = ap (λ one. one.came) same;
      left = ap (λ one. one.left) same;
      reads = ap (λ one. one.reads) same;
    }

nothing_told : (link : Option Told) → IfSome link (λ after. IsSomeAnd link (λ before. Wrote [] before after))
nothing_told None = tt
nothing_told (Some link) = wrote_nothing link link refl

pub writes_nothing : (link : Seen) → Writes [] link link
writes_nothing link = record { told = nothing_told link.told; faults = refl }

pub follows_packet : {S : Type 0} (setting : Setting S) (lock : Lock) (keys : List RingKey) (now : ℕ) (course : Course S) (packet : List ℕ)
    (left : Holder) (drawn : S)
    → is_decided course.client ≡ false
    → FlushedAs setting lock keys now course (answers.Packet packet) left drawn
    → Follows setting lock keys now course (packet ∷ []) false left drawn
follows_packet setting lock keys now course packet left drawn some flushed =
    record {
      sent = ((some, flushed.told), tt);
      nothing = tt;
      stands = record { phase = flushed.phase; client = flushed.leaves.0; draw = flushed.leaves.1 };
    }

abbrev flow_of_packet : {S : Type 0} (setting : Setting S) (lock : Lock) (keys : List RingKey) (now : ℕ) (kept : Holder) (draw : S) (line : Line) (link : Seen)
    (packet bytes : List ℕ) (framed : List (List ℕ)) (result : Result Bool End) (left : Holder) (drawn : S) (line_then : Line) (link_then : Seen)
    → ((course : Course S) → StandsAs kept draw course → FlushedAs setting lock keys now course (answers.Packet packet) left drawn)
    → FramedBy result false (packet ∷ []) framed
    → FlowedBy result false line framed bytes link link_then
    → line_then.form ≡ line.form
    → ((to : Option CtrState) (packets : List (List ℕ)) (text : List ℕ) → Spells line to packets text → Spells line_then to (packets ++ framed) (text ++ bytes))
    → Flow setting lock keys now kept draw line link result left drawn line_then link_then
flow_of_packet setting lock keys now kept draw line link packet bytes framed result left drawn line_then link_then flushed all written form tells =
    record {
      sent = packet ∷ [];
      framed = framed;
      is_done = false;
      bytes = bytes;
      all = all;
      course = λ course stands some. follows_packet setting lock keys now course packet left drawn some (flushed course stands);
      form = form;
      tells = tells;
      written = written;
    }

decided_so : {S : Type 0} (setting : Setting S) (lock : Lock) (keys : List RingKey) (now : ℕ) (kept : Holder) (draw : S) (packet : List ℕ) (decided : Bool) (left : Holder) (drawn : S)
    → ((course : Course S) → StandsAs kept draw course → FlushedAs setting lock keys now course (answers.Packet packet) left drawn)
    → ((whole : Client) → StandsFor left whole → decided ≡ is_decided whole)
    → (course : Course S) → StandsAs kept draw course → is_decided course.client ≡ false → is_decided (flushes setting now course).client ≡ decided
decided_so setting lock keys now kept draw packet decided left drawn flushed decided_now course stands some =
    sym (decided_now _ (flushed course stands).leaves.0)

-- memory ran out before the packet was in a frame
unframed : (line line_then : Line) → line_then ≡ line → (to : Option CtrState) (packets : List (List ℕ)) (text : List ℕ) → Spells line to packets text → Spells line_then to (packets ++ []) (text ++ [])
unframed line line_then same to packets text tells =
    subst (λ (one : Line). Spells one to (packets ++ []) (text ++ [])) (sym same) (tells_as_before line to packets text tells)

-- there is no packet before it
abbrev cut_one : (line : Line) (packet bytes : List ℕ) → Cut line (packet ∷ []) bytes
cut_one line packet bytes =
    record { earlier = []; packet = packet; whole = []; last = bytes; between = line; packets = refl; all = refl; form = refl; tells = tells_as_before line }

-- a flush that gave a packet, by whether each call is decided then and what its write came to
pub flow_packet : {S : Type 0} (setting : Setting S) (lock : Lock) (keys : List RingKey) (now : ℕ) (kept : Holder) (draw : S) (line : Line) (link : Seen)
    (packet bytes : List ℕ) (decided : Bool) (sent : Result Unit End) (left : Holder) (drawn : S) (line_then : Line) (link_then : Seen)
    → ((course : Course S) → StandsAs kept draw course → FlushedAs setting lock keys now course (answers.Packet packet) left drawn)
    → ((whole : Client) → StandsFor left whole → decided ≡ is_decided whole)
    → IfSome link_then.told (λ after. IsSomeAnd link.told (λ before. WroteBy sent bytes before after))
    → CountsBy sent link.faults link_then.faults
    → TellsMore sent ((to : Option CtrState) (packets : List (List ℕ)) (text : List ℕ) → Spells line to packets text → Spells line_then to (packets ++ packet ∷ []) (text ++ bytes))
    → StaysBy sent (line_then ≡ line)
    → line_then.form ≡ line.form
    → OneFlush setting lock keys now kept draw line link (ended_by decided sent) left drawn line_then link_then
flow_packet setting lock keys now kept draw line link packet bytes decided (Err ends.Decided) left drawn line_then link_then flushed decided_now written counted tells stays form = absurd counted
flow_packet setting lock keys now kept draw line link packet bytes decided (Err ends.TurnsSpent) left drawn line_then link_then flushed decided_now written counted tells stays form = absurd counted
flow_packet setting lock keys now kept draw line link packet bytes decided (Err ends.Spent) left drawn line_then link_then flushed decided_now written counted tells stays form = absurd counted
flow_packet setting lock keys now kept draw line link packet bytes decided (Err ends.Memory) left drawn line_then link_then flushed decided_now written counted tells stays form =
    record {
      flow = flow_of_packet setting lock keys now kept draw line link packet [] [] (Err ends.Memory) left drawn line_then link_then flushed (inr (packet, refl, refl))
          (record { told = map_told (λ before after. after ≡ before) (Wrote []) wrote_nothing link.told link_then.told written; faults = counted }) form (unframed line line_then stays);
      stops = λ course stands some. tt;
      one = tt;
    }
flow_packet setting lock keys now kept draw line link packet bytes false (Ok done) left drawn line_then link_then flushed decided_now written counted tells stays form =
    record {
      flow = flow_of_packet setting lock keys now kept draw line link packet bytes (packet ∷ []) (Ok true) left drawn line_then link_then flushed refl (record { told = written; faults = counted }) form tells;
      stops = decided_so setting lock keys now kept draw packet false left drawn flushed decided_now;
      one = (refl, refl);
    }
flow_packet setting lock keys now kept draw line link packet bytes false (Err ends.Lost) left drawn line_then link_then flushed decided_now written counted tells stays form =
    record {
      flow = flow_of_packet setting lock keys now kept draw line link packet bytes (packet ∷ []) (Err ends.Lost) left drawn line_then link_then flushed refl
          (record { last = refl; cut = cut_one line packet bytes; breaks = record { told = written; faults = counted } }) form tells;
      stops = decided_so setting lock keys now kept draw packet false left drawn flushed decided_now;
      one = tt;
    }
flow_packet setting lock keys now kept draw line link packet bytes true (Ok done) left drawn line_then link_then flushed decided_now written counted tells stays form =
    record {
      flow = flow_of_packet setting lock keys now kept draw line link packet bytes (packet ∷ []) (Err ends.Decided) left drawn line_then link_then flushed refl (inl (record { told = written; faults = counted })) form tells;
      stops = decided_so setting lock keys now kept draw packet true left drawn flushed decided_now;
      one = tt;
    }
flow_packet setting lock keys now kept draw line link packet bytes true (Err ends.Lost) left drawn line_then link_then flushed decided_now written counted tells stays form =
    record {
      flow = flow_of_packet setting lock keys now kept draw line link packet bytes (packet ∷ []) (Err ends.Decided) left drawn line_then link_then flushed refl
          (inr (record { last = refl; cut = cut_one line packet bytes; breaks = record { told = written; faults = counted } })) form tells;
      stops = decided_so setting lock keys now kept draw packet true left drawn flushed decided_now;
      one = tt;
    }

-- ---- no packet

-- a flush that gave no packet, or none at all, leaves the wire and the link as they were
abbrev pub flow_nothing : {S X : Type 0} (setting : Setting S) (lock : Lock) (keys : List RingKey) (now : ℕ) (kept : Holder) (draw : S) (line : Line) (link : Seen)
    (is_done : Bool) (result : Result X End) (left : Holder) (drawn : S)
    → FramedBy result is_done [] [] → FlowedBy result is_done line [] [] link link
    → ((course : Course S) → StandsAs kept draw course → is_decided course.client ≡ false → Follows setting lock keys now course [] is_done left drawn)
    → Flow setting lock keys now kept draw line link result left drawn line link
flow_nothing setting lock keys now kept draw line link is_done result left drawn all written follows =
    record {
      sent = [];
      framed = [];
      is_done = is_done;
      bytes = [];
      all = all;
      course = follows;
      form = refl;
      tells = tells_as_before line;
      written = written;
    }

pub follows_nothing : {S : Type 0} (setting : Setting S) (lock : Lock) (keys : List RingKey) (now : ℕ) (course : Course S) (left : Holder) (drawn : S)
    → is_decided course.client ≡ false → FlushedAs setting lock keys now course answers.Nothing left drawn → Follows setting lock keys now course [] true left drawn
follows_nothing setting lock keys now course left drawn some flushed =
    record { sent = tt; nothing = (some, flushed.told); stands = record { phase = flushed.phase; client = flushed.leaves.0; draw = flushed.leaves.1 } }

-- by whether each call is decided then
abbrev pub nothing_by : Bool → Result Bool End
nothing_by true = Err ends.Decided
nothing_by false = Ok false

nothing_stops : {S : Type 0} (setting : Setting S) (lock : Lock) (keys : List RingKey) (now : ℕ) (kept : Holder) (draw : S) (decided : Bool) (left : Holder) (drawn : S)
    → ((course : Course S) → StandsAs kept draw course → FlushedAs setting lock keys now course answers.Nothing left drawn)
    → ((whole : Client) → StandsFor left whole → decided ≡ is_decided whole)
    → Stops setting lock keys now kept draw [] true (nothing_by decided)
nothing_stops setting lock keys now kept draw true left drawn flushed decided_now course stands some = sym (decided_now _ (flushed course stands).leaves.0)
nothing_stops setting lock keys now kept draw false left drawn flushed decided_now course stands some = sym (decided_now _ (flushed course stands).leaves.0)

pub flush_nothing : {S : Type 0} (setting : Setting S) (lock : Lock) (keys : List RingKey) (now : ℕ) (kept : Holder) (draw : S) (line : Line) (link : Seen)
    (decided : Bool) (left : Holder) (drawn : S)
    → ((course : Course S) → StandsAs kept draw course → FlushedAs setting lock keys now course answers.Nothing left drawn)
    → ((whole : Client) → StandsFor left whole → decided ≡ is_decided whole)
    → OneFlush setting lock keys now kept draw line link (nothing_by decided) left drawn line link
flush_nothing setting lock keys now kept draw line link true left drawn flushed decided_now =
    record {
      flow = flow_nothing setting lock keys now kept draw line link true (Err ends.Decided) left drawn refl (inl (writes_nothing link)) (λ course stands some. follows_nothing setting lock keys now course left drawn some (flushed course stands));
      stops = nothing_stops setting lock keys now kept draw true left drawn flushed decided_now;
      one = tt;
    }
flush_nothing setting lock keys now kept draw line link false left drawn flushed decided_now =
    record {
      flow = flow_nothing setting lock keys now kept draw line link true (Ok false) left drawn refl (writes_nothing link) (λ course stands some. follows_nothing setting lock keys now course left drawn some (flushed course stands));
      stops = nothing_stops setting lock keys now kept draw false left drawn flushed decided_now;
      one = (refl, refl);
    }

-- ---- a flush that failed

-- a flush that finds numbers spent changes nothing
spent_by : {S : Type 0} (setting : Setting S) (lock : Lock) (keys : List RingKey) (any few : Bool) (messages : List Message) (filling : Filling S) (client : Client) (draw : S)
    → TellsFlush lock keys (if any then (if few then record { answer = Spent; client = client; draw = draw } else sends setting messages filling) else sends setting [] filling).answer answers.Spent
    → ((if any then (if few then record { answer = Spent; client = client; draw = draw } else sends setting messages filling) else sends setting [] filling).client ≡ client)
    × ((if any then (if few then record { answer = Spent; client = client; draw = draw } else sends setting messages filling) else sends setting [] filling).draw ≡ draw)
spent_by setting lock keys true true messages filling client draw spent = (refl, refl)
spent_by setting lock keys true false [] filling client draw spent = absurd spent
spent_by setting lock keys true false (message ∷ []) filling client draw spent = absurd spent
spent_by setting lock keys true false (message ∷ other ∷ others) filling client draw spent = absurd spent
spent_by setting lock keys false few messages filling client draw spent = absurd spent

spent_same : {S : Type 0} (setting : Setting S) (lock : Lock) (keys : List RingKey) (now : ℕ) (client : Client) (draw : S)
    → TellsFlush lock keys (flush setting now client draw).answer answers.Spent
    → ((flush setting now client draw).client ≡ client) × ((flush setting now client draw).draw ≡ draw)
spent_same setting lock keys now client draw spent =
    let filling = filled setting (at_moment now client) draw in
    spent_by setting lock keys (has_any filling.messages) (nat_lt (room client.counters) room_min) filling.messages filling client draw spent

spent_in : {S : Type 0} (setting : Setting S) (lock : Lock) (keys : List RingKey) (now : ℕ) (phase : Phase) (client : Client) (draw : S)
    → TellsFlush lock keys (flushed_in phase setting now client draw).answer answers.Spent
    → ((flushed_in phase setting now client draw).client ≡ client) × ((flushed_in phase setting now client draw).draw ≡ draw)
spent_in setting lock keys now Opening client draw spent = spent_same setting lock keys now client draw spent
spent_in setting lock keys now Open client draw spent = spent_same setting lock keys now client draw spent
spent_in setting lock keys now Ended client draw spent = absurd spent

pub follows_none : {S : Type 0} (setting : Setting S) (lock : Lock) (keys : List RingKey) (now : ℕ) (course : Course S) (left : Holder) (drawn : S)
    → StandsAs left drawn course → Follows setting lock keys now course [] false left drawn
follows_none setting lock keys now course left drawn stands = record { sent = tt; nothing = tt; stands = stands }

pub spent_stands : {S : Type 0} (setting : Setting S) (lock : Lock) (keys : List RingKey) (now : ℕ) (course : Course S) (left : Holder) (drawn : S)
    → FlushedAs setting lock keys now course answers.Spent left drawn → StandsAs left drawn course
spent_stands setting lock keys now course left drawn flushed =
    let same = spent_in setting lock keys now course.phase course.client course.draw flushed.told in
    record {
      phase = flushed.phase;
      client = subst (λ (client : Client). StandsFor left client) same.0 flushed.leaves.0;
      draw = flushed.leaves.1 ∙ same.1;
    }

pub flush_spent : {S : Type 0} (setting : Setting S) (lock : Lock) (keys : List RingKey) (now : ℕ) (kept : Holder) (draw : S) (line : Line) (link : Seen)
    (left : Holder) (drawn : S)
    → ((course : Course S) → StandsAs kept draw course → FlushedAs setting lock keys now course answers.Spent left drawn)
    → OneFlush setting lock keys now kept draw line link (Err ends.Spent) left drawn line link
flush_spent setting lock keys now kept draw line link left drawn flushed =
    record {
      flow = flow_nothing setting lock keys now kept draw line link false (Err ends.Spent) left drawn refl (writes_nothing link)
          (λ course stands some. follows_none setting lock keys now course left drawn (spent_stands setting lock keys now course left drawn (flushed course stands)));
      stops = λ course stands some. (some, (flushed course stands).told);
      one = tt;
    }

pub flush_memory : {S : Type 0} (setting : Setting S) (lock : Lock) (keys : List RingKey) (now : ℕ) (kept : Holder) (draw : S) (line : Line) (link : Seen)
    (left : Holder) (drawn : S)
    → ((course : Course S) → StandsAs kept draw course → FlushedAs setting lock keys now course answers.Memory left drawn)
    → OneFlush setting lock keys now kept draw line link (Err ends.Memory) left drawn line link
flush_memory setting lock keys now kept draw line link left drawn flushed =
    record {
      flow = flow_nothing setting lock keys now kept draw line link false (Err ends.Memory) left drawn (inl refl) (writes_nothing link)
          (λ course stands some. follows_none setting lock keys now course left drawn
          (record { phase = (flushed course stands).phase; client = (flushed course stands).leaves.0; draw = (flushed course stands).leaves.1 }));
      stops = λ course stands some. tt;
      one = tt;
    }

-- ---- all flushes

abbrev pub no_flow : {S : Type 0} (setting : Setting S) (lock : Lock) (keys : List RingKey) (now : ℕ) (kept : Holder) (draw : S) (line : Line) (link : Seen)
    → Flow setting lock keys now kept draw line link went_on kept draw line link
no_flow setting lock keys now kept draw line link =
    flow_nothing setting lock keys now kept draw line link false (Ok true) kept draw refl (writes_nothing link) (λ course stands some. follows_none setting lock keys now course kept draw stands)

-- ---- the count of faults

pub ended_counts : (decided : Bool) (sent : Result Unit End) (before after : ℕ) → CountsBy sent before after → CountsEnd (ended_by decided sent) before after
ended_counts decided (Err ends.Decided) before after counted = absurd counted
ended_counts decided (Err ends.TurnsSpent) before after counted = absurd counted
ended_counts decided (Err ends.Spent) before after counted = absurd counted
ended_counts decided (Err ends.Memory) before after counted = counted
ended_counts true (Ok done) before after counted = inl counted
ended_counts false (Ok done) before after counted = counted
ended_counts true (Err ends.Lost) before after counted = inr counted
ended_counts false (Err ends.Lost) before after counted = counted

-- ---- whether each call is decided

pub ended_decided : (decided : Bool) (sent : Result Unit End) (before after : ℕ) (kept : Holder) → CountsBy sent before after
    → decided ≡ not (has_undecided kept) → DecidedBy (ended_by decided sent) kept
ended_decided decided (Err ends.Decided) before after kept counted tells = absurd counted
ended_decided decided (Err ends.TurnsSpent) before after kept counted tells = absurd counted
ended_decided decided (Err ends.Spent) before after kept counted tells = absurd counted
ended_decided decided (Err ends.Memory) before after kept counted tells = tt
ended_decided true (Ok done) before after kept counted tells = all_decided kept true tells refl
ended_decided false (Ok done) before after kept counted tells = tt
ended_decided true (Err ends.Lost) before after kept counted tells = all_decided kept true tells refl
ended_decided false (Err ends.Lost) before after kept counted tells = tt

pub counts_from : {X : Type 0} (result : Result X End) (first before after : ℕ) → before ≡ first → CountsEnd result before after → CountsEnd result first after
counts_from result first before after same counted = subst (λ (count : ℕ). CountsEnd result count after) same counted
