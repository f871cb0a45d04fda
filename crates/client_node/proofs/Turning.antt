-- One turn more of a connection, and how it ends.
use Rattle.std.proofs.Common.{◌≡◌, ◌<◌, ◌≤◌, ◌+◌, ℕ, Bool, false, List, [], ◌∷◌, ◌++◌, ◌*◌, length, length-append, Option, Ok, Err, inl, inr, refl, sym, ap, subst, ◌∙◌, append_assoc, append-nil, arith}
use Rattle.auth_keys.specs.declared.ring.RingKey.{RingKey}
use Rattle.envelope.specs.Packet.{Lock}
use Rattle.cipher_modes.specs.CounterMode.{CtrState}
use Rattle.framing.specs.Streams.{Begins, Faulty, Frames, Stream}
use Rattle.transport.specs.Directions.{through}
use Rattle.transport.specs.Forms.{framing_of}
use Rattle.transport.specs.Starts.{Opening}
use Rattle.transport.specs.Wires.{Hears, Line}
use Rattle.mt_edge.specs.Clocks.{Gave}
use Rattle.mt_edge.specs.Faults.{one_more}
use Rattle.mt_edge.specs.declared.source.Got.{Got}
use Rattle.mt_edge.specs.declared.source.Got.TheVariants as got
use Rattle.client_core.specs.Flushed.{setting_of}
use Rattle.client_core.specs.declared.holder.Holder.{Holder}
use Rattle.client_node.specs.Course.{Course, Reading, is_decided}
use Rattle.client_node.specs.Flow.{AllFlushes, BreaksLast, FlowedBy, Follows, FramedBy}
use Rattle.client_node.specs.Runs.{GotPiece, MissedPiece, ReadsBy, Talked, TookTurn, TurnsSoFar}
use Rattle.client_node.specs.Standing.{IsReading, StandsAs}
use Rattle.client_node.specs.Talks.{AreFramed, AreWhole, EndsHearing, FailsLast, Heard, IsNoPiece, IsReady, IsSaid, IsText, Loses, Passes, Place, Rules, Said, ShowsClose, Stopped, Turn, TurnsDone, Unread, gets, hears_all, reads, rules_of, says, turned, turns_from, turns_max}
use Rattle.client_node.specs.Took.{CameAll, IsDone, IsLost, TookAll, packets_max, takes_all}
use Rattle.client_node.specs.Writes.{Seen}
use Rattle.transport.specs.Spelt.{Spells, frames_of}
use Rattle.client_node.specs.declared.end.End.{End}
use Rattle.client_node.specs.declared.end.End.TheVariants as ends
use Rattle.client_node.proofs.Passing.{begins_by, fails_read, fails_said, gave_more, gave_none, hears_as, passes_none, passes_read, passes_said, spells_as}
use Rattle.client_node.proofs.Fitting.{packets_fit}
use Rattle.client_node.proofs.Undecided.{all_undecided}

-- ---- the packets of what came

begins_as : (line : Line) (opening : Opening) (packets : List (List ℕ)) (bytes : List ℕ) → line.form ≡ opening.form → Hears line opening.down packets bytes
    → Begins (framing_of opening.form) packets (through opening.down bytes)
begins_as line opening packets bytes same hears =
    subst (λ form. Begins (framing_of form) packets (through opening.down bytes)) same
    (begins_by (framing_of line.form) line.held.fault packets line.held.left (through opening.down bytes) hears.stands.text)

-- by how a piece came
whole_by : (first last : Line) (opening : Opening) (packets heard : List (List ℕ)) (bytes : List ℕ)
    → first.form ≡ opening.form → last.form ≡ opening.form → length bytes < packets_max → IsDone first opening.down packets bytes heard last
    → AreWhole opening (packets ++ heard) bytes
whole_by first last opening packets heard bytes form form_then few (inl idle) =
    (idle.rest, subst (λ one. Stream (framing_of one) (packets ++ heard) idle.rest (through opening.down bytes)) form idle.stream)
whole_by first last opening packets heard bytes form form_then few (inr (count, hears)) =
    let begins = begins_as last opening (packets ++ heard) bytes form_then hears in
    let fit = packets_fit opening.form opening.down (packets ++ heard) bytes begins in
    let none : ⊥ = omega (arith, fit, length-append packets heard, few, count) in
    absurd none

hears_by : (first last : Line) (from : Option CtrState) (packets heard : List (List ℕ)) (bytes : List ℕ)
    → IsDone first from packets bytes heard last → Hears last from (packets ++ heard) bytes
hears_by first last from packets heard bytes (inl idle) = idle.hears
hears_by first last from packets heard bytes (inr (count, hears)) = hears

loses_by : (line : Line) (opening : Opening) (packets : List (List ℕ)) (bytes : List ℕ) → line.form ≡ opening.form → IsLost line opening.down packets bytes → Loses opening packets bytes
loses_by line opening packets bytes form (inl lost) =
    inl (lost.error, lost.size, subst (λ one. Begins (framing_of one) (packets ++ lost.error ∷ []) (through opening.down bytes)) form lost.next)
loses_by line opening packets bytes form (inr lost) =
    inr (lost.fault, subst (λ one. Faulty (framing_of one) packets lost.fault (through opening.down bytes)) form lost.shown)

text_by : (line : Line) (opening : Opening) (packets : List (List ℕ)) (bytes : List ℕ) → line.form ≡ opening.form → Spells line opening.up packets bytes → IsText opening packets bytes
text_by line opening packets bytes form tells =
    record {
      frames = subst (λ one. Frames (framing_of one) 0 packets (through opening.up bytes)) form tells.tells.frames;
      spelt = subst (λ one. through opening.up bytes ≡ frames_of one 0 packets) form tells.spelt;
    }

-- ---- what was said

is_said : {S : Type 0} (step : S → ℕ × S) (lock : Lock) (keys : List RingKey) (reading : Reading) (place : Place S) (packets : List (List ℕ)) (is_done : Bool) (left : Holder) (drawn : S)
    → Follows (setting_of step keys) lock keys place.now place.course packets is_done left drawn
    → IsSaid (rules_of step lock keys reading) place (record { packets = packets; is_done = is_done })
is_said step lock keys reading place packets is_done left drawn follows = record { sent = follows.sent; nothing = follows.nothing }

is_ready : {S : Type 0} (step : S → ℕ × S) (lock : Lock) (keys : List RingKey) (reading : Reading) (place : Place S) (kept : Holder) (draw : S) (line : Line) (link : Seen)
    (left : Holder) (drawn : S) (line_then : Line) (link_then : Seen)
    → StandsAs kept draw place.course
    → is_decided place.course.client ≡ false
    → (flushes : AllFlushes (setting_of step keys) lock keys place.now kept draw line link (Ok tt) left drawn line_then link_then)
    → IsReady (rules_of step lock keys reading) place (record { packets = flushes.flow.sent; is_done = flushes.flow.is_done })
is_ready step lock keys reading place kept draw line link left drawn line_then link_then stands some flushes =
    record {
      sent = is_said step lock keys reading place flushes.flow.sent flushes.flow.is_done left drawn (flushes.flow.course place.course stands some);
      all = flushes.all place.course stands some;
      undecided = flushes.stops place.course stands some;
    }

-- ---- one turn more

pub no_turns : {S : Type 0} (rules : Rules S) (opening : Opening) (place : Place S) (kept : Holder) (draw : S) (line : Line) (link : Seen) (given : Option (List ℕ))
    → place.came ≡ [] → place.reads ≡ [] → place.heard ≡ [] → place.sent ≡ [] → place.moments ≡ []
    → StandsAs kept draw place.course → is_decided place.course.client ≡ false → line.form ≡ opening.form → Hears line opening.down [] [] → Spells line opening.up [] []
    → TurnsSoFar rules opening place 0 place.now kept draw line link given link given
no_turns rules opening place kept draw line link given came reads heard sent moments stands some form hears tells =
    record {
      turns = [];
      bytes = [];
      count = refl;
      few = omega (arith, ap (λ (bytes : List ℕ). length bytes) came);
      are = tt;
      moment = refl;
      stands = stands;
      undecided = some;
      hears = subst (λ (packets : List (List ℕ)). Hears line opening.down packets place.came) (sym heard) (subst (λ (bytes : List ℕ). Hears line opening.down [] bytes) (sym came) hears);
      tells = subst (λ (packets : List (List ℕ)). Spells line opening.up packets []) (sym sent) tells;
      form = form;
      passes = passes_none place came reads link;
      gave = subst (λ (all : List ℕ). Gave all given given) (sym moments) (gave_none given);
    }

pub turn_more : {S : Type 0} (step : S → ℕ × S) (lock : Lock) (keys : List RingKey) (reading : Reading) (opening : Opening) (place : Place S) (times now : ℕ)
    (kept : Holder) (draw : S) (line : Line) (link : Seen) (given : Option (List ℕ)) (link_first : Seen) (given_first : Option (List ℕ))
    (middle : Holder) (between : S) (line_between : Line) (link_between : Seen)
    (piece : List ℕ) (moment : ℕ) (left : Holder) (drawn : S) (line_then : Line) (link_then : Seen) (given_then : Option (List ℕ))
    → times < turns_max
    → IsReading lock keys reading
    → TurnsSoFar (rules_of step lock keys reading) opening place times now kept draw line link given link_first given_first
    → AllFlushes (setting_of step keys) lock keys now kept draw line link (Ok tt) middle between line_between link_between
    → (line_between.form ≡ line.form) × (line_between.held ≡ line.held) × (line_between.reading ≡ line.reading)
    → GotPiece step lock keys middle between line_between link_between given piece moment (Ok tt) left drawn line_then link_then given_then
    → (line_then.form ≡ line_between.form) × (line_then.writing ≡ line_between.writing) × (line_then.number ≡ line_between.number)
    → TurnsSoFar (rules_of step lock keys reading) opening place (times + 1) moment left drawn line_then link_then given_then link_first given_first
turn_more step lock keys reading opening place times now kept draw line link given link_first given_first middle between line_between link_between piece moment left drawn line_then link_then given_then few read_so before flushes same_in gets_it same_out =
    let rules = rules_of step lock keys reading in
    let here = turns_from rules place before.turns in
    let flushed = subst (λ (at : ℕ). AllFlushes (setting_of step keys) lock keys at kept draw line link (Ok tt) middle between line_between link_between) (sym before.moment) flushes in
    let follows = flushed.flow.course here.course before.stands before.undecided in
    let said : Said = record { packets = flushed.flow.sent; is_done = flushed.flow.is_done } in
    let mid = says rules said here in
    let heard = gets_it.took.heard in
    let took = gets_it.took.took reading mid.course read_so follows.stands in
    let form = same_in.0 ∙ before.form in
    let form_then = same_out.0 ∙ form in
    let came = gets_it.took.came opening.down here.heard here.came (hears_as line line_between opening.down here.heard here.came same_in before.hears) in
    let tells = subst (λ (all : List (List ℕ)). Spells line_between opening.up (here.sent ++ all) (before.bytes ++ flushed.flow.bytes)) (sym flushed.flow.all)
    (flushed.flow.tells opening.up here.sent before.bytes before.tells) in
    let turn : Turn = record { said = said; piece = piece; moment = moment; heard = heard } in
    let longer : length (here.came ++ piece) ≤ (times + 1) * 65536 = omega (arith, length-append here.came piece, before.few, gets_it.most) in
    record {
      turns = turn ∷ before.turns;
      bytes = before.bytes ++ flushed.flow.bytes;
      count = omega (arith, before.count);
      few = longer;
      are = (
        before.are,
        record {
          ready = is_ready step lock keys reading here kept draw line link middle between line_between link_between before.stands before.undecided flushed;
          some = gets_it.some;
          most = gets_it.most;
          sizes = gets_it.took.sizes;
          none = took.0;
          whole = whole_by line_between line_then opening here.heard heard (here.came ++ piece) form form_then (omega (arith, longer, few)) came;
        },
      );
      moment = refl;
      stands = took.1;
      undecided = all_undecided step reading moment mid.course heard took.0 (flushed.stops here.course before.stands before.undecided);
      hears = hears_by line_between line_then opening.down here.heard heard (here.came ++ piece) came;
      tells = spells_as line_between line_then opening.up (here.sent ++ flushed.flow.sent) (before.bytes ++ flushed.flow.bytes) same_out tells;
      form = form_then;
      passes = passes_read (before.bytes ++ flushed.flow.bytes) piece (got.Bytes (length piece)) mid (turned rules turn here) refl refl link_first link_between link_then
          (passes_said rules said before.bytes flushed.flow.bytes here link_first link link_between before.passes flushed.flow.written) gets_it.told gets_it.faults;
      gave = gave_more here.moments (moment ∷ []) given_first given given_then before.gave gets_it.gave;
    }

-- ---- the end

framed_stopped : (X : Type 0) (end : End) (before : List (List ℕ)) (said : Said) (framed : List (List ℕ)) → FramedBy {X = X} (Err end) said.is_done said.packets framed
    → AreFramed (Stopped end) before said (before ++ framed)
framed_stopped X ends.Memory before said framed (inl same) = inl (ap (λ (all : List (List ℕ)). before ++ all) (sym same))
framed_stopped X ends.Memory before said framed (inr (last, no_more, same)) = inr (framed, last, same, no_more, refl)
framed_stopped X ends.Lost before said framed same = ap (λ (all : List (List ℕ)). before ++ all) (sym same)
framed_stopped X ends.Decided before said framed same = ap (λ (all : List (List ℕ)). before ++ all) (sym same)
framed_stopped X ends.Spent before said framed same = ap (λ (all : List (List ℕ)). before ++ all) (sym same)
framed_stopped X ends.TurnsSpent before said framed same = ap (λ (all : List (List ℕ)). before ++ all) (sym same)

-- a write of the last frame failed
fails_last : {S : Type 0} (rules : Rules S) (opening : Opening) (said : Said) (sent framed : List (List ℕ)) (bytes more : List ℕ) (line : Line) (place : Place S) (first middle last : Seen)
    → line.form ≡ opening.form → Spells line opening.up sent bytes → Passes bytes place first middle → said.packets ≡ framed → BreaksLast said.is_done line framed more middle last
    → FailsLast opening [] sent said (bytes ++ more) (says rules said place) first last
fails_last rules opening said sent framed bytes more line place first middle last form tells before all after =
    let cut = after.cut in
    record {
      earlier = cut.earlier;
      packet = cut.packet;
      whole = bytes ++ cut.whole;
      last = cut.last;
      each = all ∙ cut.packets;
      no_more = after.last;
      all = ap (λ (all : List ℕ). bytes ++ all) cut.all ∙ sym (append_assoc bytes cut.whole cut.last);
      text = text_by cut.between opening (sent ++ cut.earlier) (bytes ++ cut.whole) (cut.form ∙ form) (cut.tells opening.up sent bytes tells);
      fails = fails_said rules said bytes cut.whole cut.last place first middle last before after.breaks;
    }

shows_stopped : {S : Type 0} (X : Type 0) (rules : Rules S) (opening : Opening) (said : Said) (end : End) (sent framed : List (List ℕ)) (bytes more : List ℕ) (line : Line) (place : Place S) (first middle last : Seen)
    → line.form ≡ opening.form → Spells line opening.up sent bytes → Passes bytes place first middle
    → FramedBy {X = X} (Err end) said.is_done said.packets framed → FlowedBy {X = X} (Err end) said.is_done line framed more middle last
    → ShowsClose (Stopped end) opening [] sent said (bytes ++ more) (says rules said place) first last
shows_stopped X rules opening said ends.Lost sent framed bytes more line place first middle last form tells before all after =
    fails_last rules opening said sent framed bytes more line place first middle last form tells before all after
shows_stopped X rules opening said ends.Decided sent framed bytes more line place first middle last form tells before all (inl after) =
    inl (passes_said rules said bytes more place first middle last before after)
shows_stopped X rules opening said ends.Decided sent framed bytes more line place first middle last form tells before all (inr after) =
    inr (fails_last rules opening said sent framed bytes more line place first middle last form tells before all after)
shows_stopped X rules opening said ends.Spent sent framed bytes more line place first middle last form tells before all after =
    passes_said rules said bytes more place first middle last before after
shows_stopped X rules opening said ends.Memory sent framed bytes more line place first middle last form tells before all after =
    passes_said rules said bytes more place first middle last before after
shows_stopped X rules opening said ends.TurnsSpent sent framed bytes more line place first middle last form tells before all after = absurd after

-- the flushes ended it
pub stopped : {S : Type 0} (step : S → ℕ × S) (lock : Lock) (keys : List RingKey) (reading : Reading) (opening : Opening) (place : Place S) (times now : ℕ)
    (kept : Holder) (draw : S) (line : Line) (link : Seen) (given : Option (List ℕ)) (link_first : Seen) (given_first : Option (List ℕ))
    (end : End) (left : Holder) (drawn : S) (line_then : Line) (link_then : Seen)
    → times ≤ turns_max
    → TurnsSoFar (rules_of step lock keys reading) opening place times now kept draw line link given link_first given_first
    → AllFlushes (setting_of step keys) lock keys now kept draw line link (Err end) left drawn line_then link_then
    → line_then.form ≡ line.form
    → Talked (rules_of step lock keys reading) opening place link_first given_first end left drawn link_then given
stopped step lock keys reading opening place times now kept draw line link given link_first given_first end left drawn line_then link_then most before flushes same =
    let rules = rules_of step lock keys reading in
    let here = turns_from rules place before.turns in
    let flushed = subst (λ (at : ℕ). AllFlushes (setting_of step keys) lock keys at kept draw line link (Err end) left drawn line_then link_then) (sym before.moment) flushes in
    let follows = flushed.flow.course here.course before.stands before.undecided in
    let said : Said = record { packets = flushed.flow.sent; is_done = flushed.flow.is_done } in
    let framed = here.sent ++ flushed.flow.framed in
    let bytes = before.bytes ++ flushed.flow.bytes in
    record {
      talk = record { turns = before.turns; said = said; close = Stopped end; framed = framed; bytes = bytes };
      is = record {
        turns = before.are;
        closed = (
          subst (λ (count : ℕ). count ≤ turns_max) (sym before.count) most,
          is_said step lock keys reading here flushed.flow.sent flushed.flow.is_done left drawn follows,
          flushed.stops here.course before.stands before.undecided,
        );
        framed = framed_stopped Unit end here.sent said flushed.flow.framed flushed.flow.all;
        text = text_by line_then opening framed bytes (same ∙ before.form) (flushed.flow.tells opening.up here.sent before.bytes before.tells);
      };
      ends_so = refl;
      stands = follows.stands;
      shows = shows_stopped Unit rules opening said end here.sent flushed.flow.framed before.bytes flushed.flow.bytes line here link_first link link_then
          before.form before.tells before.passes flushed.flow.all flushed.flow.written;
      gave = before.gave;
    }

shows_unread : {S : Type 0} (answer : Got) (opening : Opening) (sent : List (List ℕ)) (said : Said) (bytes : List ℕ) (place : Place S) (first middle last : Seen)
    → IsNoPiece answer → Passes bytes place first middle → ReadsBy answer [] middle.told last.told
    → (answer ≡ got.End → last.faults ≡ middle.faults) → (answer ≡ got.Failed → last.faults ≡ one_more middle.faults)
    → ShowsClose (Unread answer) opening [] sent said bytes (reads answer place) first last
shows_unread (got.Bytes count) opening sent said bytes place first middle last none before after ended failed = absurd none
shows_unread got.End opening sent said bytes place first middle last none before after ended failed =
    passes_read bytes [] got.End place (reads got.End place) (sym (append-nil place.came)) refl first middle last before after (ended refl)
shows_unread got.Failed opening sent said bytes place first middle last none before after ended failed =
    fails_read bytes [] got.Failed place (reads got.Failed place) (sym (append-nil place.came)) refl first middle last before after (failed refl)

-- the read behind the flushes gave no piece
pub unread : {S : Type 0} (step : S → ℕ × S) (lock : Lock) (keys : List RingKey) (reading : Reading) (opening : Opening) (place : Place S) (times now : ℕ)
    (kept : Holder) (draw : S) (line : Line) (link : Seen) (given : Option (List ℕ)) (link_first : Seen) (given_first : Option (List ℕ))
    (middle : Holder) (between : S) (line_between : Line) (link_between : Seen)
    (answer : Got) (left : Holder) (drawn : S) (link_then : Seen) (given_then : Option (List ℕ))
    → times < turns_max
    → TurnsSoFar (rules_of step lock keys reading) opening place times now kept draw line link given link_first given_first
    → AllFlushes (setting_of step keys) lock keys now kept draw line link (Ok tt) middle between line_between link_between
    → line_between.form ≡ line.form
    → MissedPiece middle between link_between given answer left drawn link_then given_then
    → Talked (rules_of step lock keys reading) opening place link_first given_first ends.Lost left drawn link_then given_then
unread step lock keys reading opening place times now kept draw line link given link_first given_first middle between line_between link_between answer left drawn link_then given_then few before flushes same missed =
    let rules = rules_of step lock keys reading in
    let here = turns_from rules place before.turns in
    let flushed = subst (λ (at : ℕ). AllFlushes (setting_of step keys) lock keys at kept draw line link (Ok tt) middle between line_between link_between) (sym before.moment) flushes in
    let follows = flushed.flow.course here.course before.stands before.undecided in
    let said : Said = record { packets = flushed.flow.sent; is_done = flushed.flow.is_done } in
    let mid = says rules said here in
    let framed = here.sent ++ flushed.flow.framed in
    let bytes = before.bytes ++ flushed.flow.bytes in
    record {
      talk = record { turns = before.turns; said = said; close = Unread answer; framed = framed; bytes = bytes };
      is = record {
        turns = before.are;
        closed = (
          subst (λ (count : ℕ). count < turns_max) (sym before.count) few,
          is_ready step lock keys reading here kept draw line link middle between line_between link_between before.stands before.undecided flushed,
          missed.none,
        );
        framed = ap (λ (all : List (List ℕ)). here.sent ++ all) (sym flushed.flow.all);
        text = text_by line_between opening framed bytes (same ∙ before.form) (flushed.flow.tells opening.up here.sent before.bytes before.tells);
      };
      ends_so = refl;
      stands = subst (λ (one : Holder). StandsAs one drawn mid.course) (sym missed.same_kept) (subst (λ one. StandsAs middle one mid.course) (sym missed.same_draw) follows.stands);
      shows = shows_unread answer opening here.sent said bytes mid link_first link_between link_then missed.none
          (passes_said rules said before.bytes flushed.flow.bytes here link_first link link_between before.passes flushed.flow.written) missed.told missed.ended missed.failed;
      gave = subst (λ (all : Option (List ℕ)). Gave here.moments given_first all) (sym missed.same_given) before.gave;
    }

heard_stands : {S : Type 0} (step : S → ℕ × S) (reading : Reading) (now : ℕ) (course : Course S) (heard : List (List ℕ)) (end : End) (kept : Holder) (draw : S)
    → TookAll step reading now course heard (Err end) kept draw → StandsAs kept draw (takes_all step reading now course heard)
heard_stands step reading now course heard ends.Decided kept draw took = took.5
heard_stands step reading now course heard ends.Lost kept draw took = took.1
heard_stands step reading now course heard ends.Memory kept draw took = took.1
heard_stands step reading now course heard ends.TurnsSpent kept draw took = absurd took
heard_stands step reading now course heard ends.Spent kept draw took = absurd took

ends_hearing : {S : Type 0} (step : S → ℕ × S) (lock : Lock) (keys : List RingKey) (reading : Reading) (opening : Opening) (place : Place S) (first last : Line) (heard : List (List ℕ)) (end : End) (kept : Holder) (draw : S)
    → first.form ≡ opening.form → last.form ≡ opening.form
    → TookAll step reading place.now place.course heard (Err end) kept draw
    → CameAll first opening.down place.heard place.came heard (Err end) last
    → EndsHearing (rules_of step lock keys reading) opening place heard end
ends_hearing step lock keys reading opening place first last heard ends.Decided kept draw form form_then took came =
    (took.0, took.1, took.2, took.3, took.4, begins_as last opening (place.heard ++ heard) place.came form_then came)
ends_hearing step lock keys reading opening place first last heard ends.Lost kept draw form form_then took came =
    (took.0, loses_by first opening (place.heard ++ heard) place.came form came)
ends_hearing step lock keys reading opening place first last heard ends.Memory kept draw form form_then took (inl none) = (took.0, inl none)
ends_hearing step lock keys reading opening place first last heard ends.Memory kept draw form form_then took (inr begins) =
    (took.0, inr (subst (λ one. Begins (framing_of one) (place.heard ++ heard) (through opening.down place.came)) form begins))
ends_hearing step lock keys reading opening place first last heard ends.TurnsSpent kept draw form form_then took came = absurd took
ends_hearing step lock keys reading opening place first last heard ends.Spent kept draw form form_then took came = absurd took

-- the piece that was read behind the flushes ended it
pub heard_last : {S : Type 0} (step : S → ℕ × S) (lock : Lock) (keys : List RingKey) (reading : Reading) (opening : Opening) (place : Place S) (times now : ℕ)
    (kept : Holder) (draw : S) (line : Line) (link : Seen) (given : Option (List ℕ)) (link_first : Seen) (given_first : Option (List ℕ))
    (middle : Holder) (between : S) (line_between : Line) (link_between : Seen)
    (piece : List ℕ) (moment : ℕ) (end : End) (left : Holder) (drawn : S) (line_then : Line) (link_then : Seen) (given_then : Option (List ℕ))
    → times < turns_max
    → IsReading lock keys reading
    → TurnsSoFar (rules_of step lock keys reading) opening place times now kept draw line link given link_first given_first
    → AllFlushes (setting_of step keys) lock keys now kept draw line link (Ok tt) middle between line_between link_between
    → (line_between.form ≡ line.form) × (line_between.held ≡ line.held) × (line_between.reading ≡ line.reading)
    → GotPiece step lock keys middle between line_between link_between given piece moment (Err end) left drawn line_then link_then given_then
    → line_then.form ≡ line_between.form
    → Talked (rules_of step lock keys reading) opening place link_first given_first end left drawn link_then given_then
heard_last step lock keys reading opening place times now kept draw line link given link_first given_first middle between line_between link_between piece moment end left drawn line_then link_then given_then few read_so before flushes same_in gets_it same_out =
    let rules = rules_of step lock keys reading in
    let here = turns_from rules place before.turns in
    let flushed = subst (λ (at : ℕ). AllFlushes (setting_of step keys) lock keys at kept draw line link (Ok tt) middle between line_between link_between) (sym before.moment) flushes in
    let follows = flushed.flow.course here.course before.stands before.undecided in
    let said : Said = record { packets = flushed.flow.sent; is_done = flushed.flow.is_done } in
    let mid = says rules said here in
    let got_it = gets piece moment mid in
    let heard = gets_it.took.heard in
    let took = gets_it.took.took reading mid.course read_so follows.stands in
    let form = same_in.0 ∙ before.form in
    let came = gets_it.took.came opening.down here.heard here.came (hears_as line line_between opening.down here.heard here.came same_in before.hears) in
    let framed = here.sent ++ flushed.flow.framed in
    let bytes = before.bytes ++ flushed.flow.bytes in
    record {
      talk = record { turns = before.turns; said = said; close = Heard piece moment heard end; framed = framed; bytes = bytes };
      is = record {
        turns = before.are;
        closed = (
          subst (λ (count : ℕ). count < turns_max) (sym before.count) few,
          is_ready step lock keys reading here kept draw line link middle between line_between link_between before.stands before.undecided flushed,
          gets_it.some,
          gets_it.most,
          gets_it.took.sizes,
          ends_hearing step lock keys reading opening got_it line_between line_then heard end left drawn form (same_out ∙ form) took came,
        );
        framed = ap (λ (all : List (List ℕ)). here.sent ++ all) (sym flushed.flow.all);
        text = text_by line_between opening framed bytes form (flushed.flow.tells opening.up here.sent before.bytes before.tells);
      };
      ends_so = refl;
      stands = heard_stands step reading moment mid.course heard end left drawn took;
      shows = passes_read bytes piece (got.Bytes (length piece)) mid (hears_all rules heard got_it) refl refl link_first link_between link_then
          (passes_said rules said before.bytes flushed.flow.bytes here link_first link link_between before.passes flushed.flow.written) gets_it.told gets_it.faults;
      gave = gave_more here.moments (moment ∷ []) given_first given given_then before.gave gets_it.gave;
    }

-- it gave as many pieces as one connection gives
pub turns_done : {S : Type 0} (step : S → ℕ × S) (lock : Lock) (keys : List RingKey) (reading : Reading) (opening : Opening) (place : Place S) (times now : ℕ)
    (kept : Holder) (draw : S) (line : Line) (link : Seen) (given : Option (List ℕ)) (link_first : Seen) (given_first : Option (List ℕ))
    (left : Holder) (drawn : S) (line_then : Line) (link_then : Seen)
    → times ≡ turns_max
    → TurnsSoFar (rules_of step lock keys reading) opening place times now kept draw line link given link_first given_first
    → AllFlushes (setting_of step keys) lock keys now kept draw line link (Ok tt) left drawn line_then link_then
    → line_then.form ≡ line.form
    → Talked (rules_of step lock keys reading) opening place link_first given_first ends.TurnsSpent left drawn link_then given
turns_done step lock keys reading opening place times now kept draw line link given link_first given_first left drawn line_then link_then most before flushes same =
    let rules = rules_of step lock keys reading in
    let here = turns_from rules place before.turns in
    let flushed = subst (λ (at : ℕ). AllFlushes (setting_of step keys) lock keys at kept draw line link (Ok tt) left drawn line_then link_then) (sym before.moment) flushes in
    let follows = flushed.flow.course here.course before.stands before.undecided in
    let said : Said = record { packets = flushed.flow.sent; is_done = flushed.flow.is_done } in
    let framed = here.sent ++ flushed.flow.framed in
    let bytes = before.bytes ++ flushed.flow.bytes in
    record {
      talk = record { turns = before.turns; said = said; close = TurnsDone; framed = framed; bytes = bytes };
      is = record {
        turns = before.are;
        closed = (
          before.count ∙ most,
          is_ready step lock keys reading here kept draw line link left drawn line_then link_then before.stands before.undecided flushed,
        );
        framed = ap (λ (all : List (List ℕ)). here.sent ++ all) (sym flushed.flow.all);
        text = text_by line_then opening framed bytes (same ∙ before.form) (flushed.flow.tells opening.up here.sent before.bytes before.tells);
      };
      ends_so = refl;
      stands = follows.stands;
      shows = passes_said rules said before.bytes flushed.flow.bytes here link_first link link_then before.passes flushed.flow.written;
      gave = before.gave;
    }

-- a turn that ended it
pub turn_ended : {S : Type 0} (step : S → ℕ × S) (lock : Lock) (keys : List RingKey) (reading : Reading) (opening : Opening) (place : Place S) (times now : ℕ)
    (kept : Holder) (draw : S) (line : Line) (link : Seen) (given : Option (List ℕ)) (link_first : Seen) (given_first : Option (List ℕ))
    (middle : Holder) (between : S) (line_between : Line) (link_between : Seen)
    (end : End) (left : Holder) (drawn : S) (line_then : Line) (link_then : Seen) (given_then : Option (List ℕ))
    → times < turns_max
    → IsReading lock keys reading
    → TurnsSoFar (rules_of step lock keys reading) opening place times now kept draw line link given link_first given_first
    → AllFlushes (setting_of step keys) lock keys now kept draw line link (Ok tt) middle between line_between link_between
    → (line_between.form ≡ line.form) × (line_between.held ≡ line.held) × (line_between.reading ≡ line.reading)
    → TookTurn step lock keys middle between line_between link_between given (Err end) left drawn line_then link_then given_then
    → line_then.form ≡ line_between.form
    → Talked (rules_of step lock keys reading) opening place link_first given_first end left drawn link_then given_then
turn_ended step lock keys reading opening place times now kept draw line link given link_first given_first middle between line_between link_between end left drawn line_then link_then given_then few read_so before flushes same_in (inl (lost, (answer, missed))) same_out =
    subst (λ (how : End). Talked (rules_of step lock keys reading) opening place link_first given_first how left drawn link_then given_then) (sym lost)
    (unread step lock keys reading opening place times now kept draw line link given link_first given_first middle between line_between link_between answer left drawn link_then given_then few before flushes same_in.0 missed)
turn_ended step lock keys reading opening place times now kept draw line link given link_first given_first middle between line_between link_between end left drawn line_then link_then given_then few read_so before flushes same_in (inr (piece, moment, gets_it)) same_out =
    heard_last step lock keys reading opening place times now kept draw line link given link_first given_first middle between line_between link_between piece moment end left drawn line_then link_then given_then few read_so before flushes same_in gets_it same_out
