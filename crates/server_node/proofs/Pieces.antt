-- All that a piece brings.
use Rattle.std.proofs.Common.{◌≡◌, ◌≢◌, ◌≤◌, ◌+◌, ℕ, zero, suc, List, [], ◌∷◌, ◌++◌, length, Option, Some, None, inl, refl, sym, ap, subst, ◌∙◌, append-nil, append_assoc, length-append, arith}
use Rattle.auth_keys.specs.declared.ring.RingKey.{RingKey}
use Rattle.cipher_modes.specs.CounterMode.{CtrState}
use Rattle.envelope.specs.Packet.{Lock}
use Rattle.mt_edge.specs.Links.{Told}
use Rattle.regs_service.specs.Served.{Step}
use Rattle.server_core.specs.declared.desk.DeskFault.{DeskFault}
use Rattle.framing.specs.Streams.{Begins}
use Rattle.transport.specs.Directions.{through}
use Rattle.transport.specs.Forms.{framing_of}
use Rattle.transport.specs.Wires.{Line}
use Rattle.server_node.specs.Coming.{AllCame, AllCut, Fed, Sides, TookAll, TookWhole, Unfed}
use Rattle.server_node.specs.Connection.{AreWhole, BreaksIn, EndsHeard, EndsUnfed, Heard, Hearing, IsCut, IsText, IsUnnamed, OwesBy, Passed, Place, Turn, Unfed as UnfedAt, Working, gets, hears, turned}
use Rattle.server_node.specs.Doing.{Did, Due, IsEventEnd, IsFeedEnd, IsPacketsEnd, IsPart, Side, Stands, StandsBy, Worked, at_once}
use Rattle.server_node.specs.Record.{BringsToZero, MayAnswerMore, Stops, with_answered}
use Rattle.server_node.specs.Steps.{HearsAlike, IsQuiet, LineTells, SentBy}
use Rattle.server_node.specs.Trace.{Act, IsOutside, Outside, Rules, Talk, after_acts, packet_acts, packets_acts, rules_of, work_acts}
use Rattle.server_node.specs.Turns.{IsFramed, IsLine, IsRaw, PieceDone, PieceEnded, StandsAt, TookPiece, came_max}
use Rattle.server_node.specs.Writes.{WrittenBy, Wrote}
use Rattle.server_node.specs.declared.conn.ConnEnd.{ConnEnd}
use Rattle.server_node.specs.declared.conn.ConnEnd.TheVariants as ends
use Rattle.server_core.specs.declared.session_name.SessionName.{SessionName}
use Rattle.server_node.specs.declared.line.Line.{Line as Ends}
use Rattle.server_node.specs.declared.line.Line.TheVariants.{Raw, Framed}
use Rattle.server_node.proofs.Breaking.{breaks_in}
use Rattle.server_node.proofs.Doings.{written_both}
use Rattle.server_node.proofs.Lines.{SameForm, alike_form, faulty_by, fed_line, first_by, line_alike, owes_text, owes_then, text_of, text_on, text_then, whole_by}
use Rattle.server_node.proofs.Reading.{passed_at, passed_wrote, told_as, told_both}
use Rattle.server_node.proofs.Starting.{begun_short}
use Rattle.server_node.proofs.Writing.{wrote_nothing}

-- ---- the count

answered_both : (one other : ℕ) (last : Option ℕ) → with_answered one (with_answered other last) ≡ with_answered (one + other) last
answered_both one other None = refl
answered_both one other (Some left) = ap (λ (n : ℕ). Some n) (omega arith)

left_both : (one other : List (List ℕ)) (first middle last : Option ℕ) → first ≡ with_answered (length one) middle → middle ≡ with_answered (length other) last
    → first ≡ with_answered (length (one ++ other)) last
left_both one other first middle last before after =
    before ∙ ap (λ (some : Option ℕ). with_answered (length one) some) after ∙ answered_both (length one) (length other) last
    ∙ ap (λ (n : ℕ). with_answered n last) (sym (length-append one other))

-- some packet may still be answered
more_left : (count : ℕ) (first last : Option ℕ) → first ≡ with_answered count last → last ≢ Some 0 → MayAnswerMore count first
more_left count first None same some = subst (λ (left : Option ℕ). MayAnswerMore count left) (sym same) tt
more_left count first (Some zero) same some = absurd (some refl)
more_left count first (Some (suc left)) same some = subst (λ (left : Option ℕ). MayAnswerMore count left) (sym same) (omega arith)

-- none may any more, and one might before these packets
none_left : (earlier packets : List (List ℕ)) (first left last : Option ℕ) → first ≡ with_answered (length earlier) left → left ≡ with_answered (length packets) last → left ≢ Some 0 → last ≡ Some 0
    → BringsToZero first earlier packets
none_left earlier packets first left last before after some spent = record {
  some = λ none. some (after ∙ ap (λ (all : List (List ℕ)). with_answered (length all) last) none ∙ ap (λ (rest : Option ℕ). with_answered 0 rest) spent);
  all = left_both earlier packets first left last before after ∙ ap (λ (rest : Option ℕ). with_answered (length (earlier ++ packets)) rest) spent ∙ ap (λ (n : ℕ). Some n) (omega arith);
}

-- ---- events that went on

pub done_stands : {S V : Type 0} (step : S → ℕ × S) (serve : Step V) (lock : Lock) (ring : List RingKey) (side later : Side S V) (due : Due S V) (outside : Outside) (talk : Talk S V)
    → IsOutside lock ring outside → Stands side talk → Did step serve lock ring side due None later → Stands later (after_acts (rules_of step serve outside) talk (due (rules_of step serve outside) talk))
done_stands step serve lock ring side later due outside talk is stands did =
    let one = did.follows outside talk is stands in
    subst (λ (acts : List Act). Stands later (after_acts (rules_of step serve outside) talk acts)) (sym one.part) one.stands

done_sends : {S V : Type 0} (step : S → ℕ × S) (serve : Step V) (lock : Lock) (ring : List RingKey) (side later : Side S V) (due : Due S V) (outside : Outside) (talk : Talk S V)
    → IsOutside lock ring outside → Stands side talk → (did : Did step serve lock ring side due None later) → (to : Option CtrState) (text : List ℕ) → LineTells side.line to talk.sent text
    → LineTells later.line to (after_acts (rules_of step serve outside) talk (due (rules_of step serve outside) talk)).sent (text ++ did.bytes)
done_sends step serve lock ring side later due outside talk is stands did to text tells =
    let one = did.follows outside talk is stands in
    subst (λ (acts : List Act). LineTells later.line to (after_acts (rules_of step serve outside) talk acts).sent (text ++ did.bytes)) (sym one.part) (one.sends to text tells)

-- ---- the line is fed

quiet_fed : (line after : Ends) (piece : List ℕ) (heard : List SessionName) → Fed line piece after → IsQuiet line heard → IsQuiet after heard
quiet_fed (Raw wire) (Raw other) piece heard fed quiet = quiet
quiet_fed (Raw wire) (Framed other) piece heard fed quiet = tt
quiet_fed (Framed wire) (Raw other) piece heard fed quiet = absurd fed
quiet_fed (Framed wire) (Framed other) piece heard fed quiet = tt

pub stands_fed : {S V : Type 0} (side : Side S V) (after : Ends) (piece : List ℕ) (now : ℕ) (place : Place S V) (bytes : List ℕ) → Fed side.line piece after → StandsAt side place bytes
    → StandsAt (record side { line = after }) (gets piece now place) bytes
stands_fed side after piece now place bytes fed stands = record {
  talk = record {
    serves = record { server = stands.talk.serves.server; drawn = stands.talk.serves.drawn; service = stands.talk.serves.service };
    heard = stands.talk.heard;
    quiet = quiet_fed side.line after piece side.heard fed stands.talk.quiet;
  };
  line = fed_line side.line after place.came piece place.packets place.talk.sent bytes fed stands.line;
}

-- ---- its packets

pub record WholeDone {S V : Type 0} (rules : Rules S V) (now : ℕ) (place : Place S V) (bytes : List ℕ) (side later : Side S V) (first left_then : Option ℕ) : Type 0 where
  pub packets : List (List ℕ)
  pub more : List ℕ
  pub stands : StandsAt later (hears rules now packets place) (bytes ++ more)
  pub whole : AreWhole place.came (place.packets ++ packets)
  pub written : WrittenBy None more side.told later.told
  pub left : first ≡ with_answered (length (place.packets ++ packets)) left_then

raw_done : {S V : Type 0} (step : S → ℕ × S) (serve : Step V) (lock : Lock) (ring : List RingKey) (side later : Side S V) (now : ℕ) (wire : List ℕ) (outside : Outside) (place : Place S V) (bytes : List ℕ) (first left_then : Option ℕ)
    → IsOutside lock ring outside → Stands side place.talk → side.line ≡ Raw wire → later.line ≡ Raw wire → IsRaw wire place.came place.packets place.talk.sent bytes
    → first ≡ with_answered (length place.packets) left_then → Did step serve lock ring side (λ rules talk. []) None later
    → WholeDone (rules_of step serve outside) now place bytes side later first left_then
raw_done {S} {V} step serve lock ring side later now wire outside place bytes first left_then is stands line line_then raw left did =
    let rules : Rules S V = rules_of step serve outside in
    let nothing : place.packets ++ [] ≡ place.packets = append-nil place.packets in
    record {
      packets = [];
      more = did.bytes;
      stands = record {
        talk = done_stands step serve lock ring side later (λ rules talk. []) outside place.talk is stands did;
        line = subst (λ (packets : List (List ℕ)). IsLine later.line place.came packets place.talk.sent (bytes ++ did.bytes)) (sym nothing)
            (line_alike (Raw wire) later.line place.came place.packets place.talk.sent place.talk.sent bytes (bytes ++ did.bytes) line_then raw
            (λ to tells. done_sends step serve lock ring side later (λ rules talk. []) outside place.talk is stands did to bytes (subst (λ some. LineTells some to place.talk.sent bytes) (sym line) tells)));
      };
      whole = inl (raw.awaited, nothing ∙ raw.none);
      written = did.written;
      left = left ∙ ap (λ (packets : List (List ℕ)). with_answered (length packets) left_then) (sym nothing);
    }

framed_done : {S V : Type 0} (step : S → ℕ × S) (serve : Step V) (lock : Lock) (ring : List RingKey) (side later : Sides S V) (now : ℕ) (wire wire_then : Line) (left left_then : Option ℕ) (service : V) (outside : Outside) (place : Place S V) (bytes : List ℕ) (first : Option ℕ)
    → IsOutside lock ring outside → Stands (side service) place.talk → (side service).line ≡ Framed wire → (later service).line ≡ Framed wire_then → IsFramed wire place.came place.packets place.talk.sent bytes
    → wire_then.form ≡ wire.form → length place.came ≤ came_max → first ≡ with_answered (length place.packets) left → AllCame step serve lock ring side now wire wire_then left left_then None later
    → WholeDone (rules_of step serve outside) now place bytes (side service) (later service) first left_then
framed_done {S} {V} step serve lock ring side later now wire wire_then left left_then service outside place bytes first is stands line line_then framed form few before all =
    let did = all.did service in
    let sent : List (List ℕ) = (hears (rules_of step serve outside) now all.packets place).talk.sent in
    record {
      packets = all.packets;
      more = did.bytes;
      stands = record {
        talk = done_stands step serve lock ring (side service) (later service) (λ rules talk. packets_acts rules now all.packets talk) outside place.talk is stands did;
        line = subst (λ (some : Ends). IsLine some place.came (place.packets ++ all.packets) sent (bytes ++ did.bytes)) (sym line_then) (record {
          opening = framed.opening;
          rest = framed.rest;
          starts = framed.starts;
          form = form ∙ framed.form;
          hears = (all.heard framed.opening.up place.packets framed.rest framed.hears).1;
          tells = subst (λ (some : Ends). LineTells some framed.opening.down sent (bytes ++ did.bytes)) line_then
              (done_sends step serve lock ring (side service) (later service) (λ rules talk. packets_acts rules now all.packets talk) outside place.talk is stands did framed.opening.down bytes
              (subst (λ (some : Ends). LineTells some framed.opening.down place.talk.sent bytes) (sym line) framed.tells));
        });
      };
      whole = whole_by wire wire_then place.came place.packets all.packets place.talk.sent bytes few framed all.heard;
      written = did.written;
      left = left_both place.packets all.packets first left left_then before all.left_is;
    }

pub whole_done : {S V : Type 0} (step : S → ℕ × S) (serve : Step V) (lock : Lock) (ring : List RingKey) (side later : Sides S V) (now : ℕ) (line line_then : Ends) (left left_then : Option ℕ) (service : V) (outside : Outside) (place : Place S V) (bytes : List ℕ) (first : Option ℕ)
    → IsOutside lock ring outside → StandsAt (side service) place bytes → (side service).line ≡ line → (later service).line ≡ line_then
    → length place.came ≤ came_max → first ≡ with_answered (length place.packets) left → TookWhole step serve lock ring side now line line_then left left_then None later
    → WholeDone (rules_of step serve outside) now place bytes (side service) (later service) first left_then
whole_done step serve lock ring side later now (Raw wire) line_then left left_then service outside place bytes first is stands line after few before took =
    raw_done step serve lock ring (side service) (later service) now wire outside place bytes first left_then is stands.talk line (after ∙ took.line)
    (subst (λ (some : Ends). IsLine some place.came place.packets place.talk.sent bytes) line stands.line) (before ∙ ap (λ (some : Option ℕ). with_answered (length place.packets) some) (sym took.left_is)) (took.did service)
whole_done step serve lock ring side later now (Framed wire) line_then left left_then service outside place bytes first is stands line after few before took =
    framed_done step serve lock ring side later now wire took.wire_then left left_then service outside place bytes first is stands.talk line (after ∙ took.line)
    (subst (λ (some : Ends). IsLine some place.came place.packets place.talk.sent bytes) line stands.line) took.form few before took.took

-- ---- and the work

pub piece_done : {S V : Type 0} (step : S → ℕ × S) (serve : Step V) (lock : Lock) (ring other : List RingKey) (side middle later : Side S V) (piece : List ℕ) (now : ℕ) (outside : Outside) (place : Place S V) (bytes : List ℕ) (first left_then : Option ℕ)
    → other ≡ ring → IsOutside lock ring outside → WholeDone (rules_of step serve outside) now (gets piece now place) bytes side middle first left_then
    → HearsAlike middle.line later.line → Worked step serve lock other middle now None later → left_then ≢ Some 0
    → PieceDone (rules_of step serve outside) place bytes piece now side.told later first left_then
piece_done {S} {V} step serve lock ring other side middle later piece now outside place bytes first left_then same is whole alike worked some =
    let rules : Rules S V = rules_of step serve outside in
    let did = subst (λ (keys : List RingKey). Did step serve lock keys middle (λ rules talk. work_acts now worked.count) None later) same worked.did in
    let there : Place S V = hears rules now whole.packets (gets piece now place) in
    let turn : Turn = record { piece = piece; now = now; packets = whole.packets; runs = worked.count } in
    let talk = done_stands step serve lock ring middle later (λ rules talk. work_acts now worked.count) outside there.talk is whole.stands.talk did in
    record {
      packets = whole.packets;
      runs = worked.count;
      more = whole.more ++ did.bytes;
      is = λ size. record { size = size; whole = whole.whole; goes_on = more_left (length (place.packets ++ whole.packets)) first left_then whole.left some; idle = worked.idle outside there.talk (subst (λ (keys : List RingKey). IsOutside lock keys outside) (sym same) is) whole.stands.talk };
      stands = record {
        talk = talk;
        line = subst (λ (all : List ℕ). IsLine later.line there.came there.packets (turned rules turn place).talk.sent all) (append_assoc bytes whole.more did.bytes)
            (line_alike middle.line later.line there.came there.packets there.talk.sent (turned rules turn place).talk.sent (bytes ++ whole.more) ((bytes ++ whole.more) ++ did.bytes) alike whole.stands.line
            (λ to tells. done_sends step serve lock ring middle later (λ rules talk. work_acts now worked.count) outside there.talk is whole.stands.talk did to (bytes ++ whole.more) tells));
      };
      written = written_both None whole.more did.bytes side.told middle.told later.told whole.written did.written;
      left = whole.left;
    }

-- ---- how a piece ends a connection

-- the line doesn't matter any more
stands_line : {S V : Type 0} (end : ConnEnd) (side : Side S V) (line : Ends) (talk : Talk S V) → StandsBy (Some end) side talk → StandsBy (Some end) (record side { line = line }) talk
stands_line ends.LinkFault side line talk stands = record { server = stands.server; drawn = stands.drawn; service = stands.service }
stands_line ends.Ended side line talk stands = record { server = stands.server; drawn = stands.drawn; service = stands.service }
stands_line (ends.Frame fault) side line talk stands = record { server = stands.server; drawn = stands.drawn; service = stands.service }
stands_line ends.Start side line talk stands = record { server = stands.server; drawn = stands.drawn; service = stands.service }
stands_line ends.TurnsSpent side line talk stands = record { server = stands.server; drawn = stands.drawn; service = stands.service }
stands_line ends.Stopped side line talk stands = record { server = stands.server; drawn = stands.drawn; service = stands.service }
stands_line (ends.Journal fault) side line talk stands = stands
stands_line ends.Memory side line talk stands = stands

unfed_stands : {S V : Type 0} (end : ConnEnd) (side : Side S V) (talk : Talk S V) → IsFeedEnd (Some end) → Stands side talk → StandsBy (Some end) side talk
unfed_stands ends.Memory side talk can stands = (stands.serves.server, stands.serves.service)
unfed_stands ends.Start side talk can stands = stands.serves
unfed_stands ends.LinkFault side talk can stands = absurd can
unfed_stands (ends.Journal fault) side talk can stands = absurd can
unfed_stands (ends.Frame fault) side talk can stands = absurd can
unfed_stands ends.Stopped side talk can stands = absurd can
unfed_stands ends.Ended side talk can stands = absurd can
unfed_stands ends.TurnsSpent side talk can stands = absurd can

unnamed : (line : Ends) (came piece : List ℕ) (packets sent : List (List ℕ)) (bytes : List ℕ) → Unfed line piece ends.Start → IsLine line came packets sent bytes → IsUnnamed (came ++ piece)
unnamed (Raw wire) came piece packets sent bytes none raw = subst (λ (some : List ℕ). IsUnnamed (some ++ piece)) raw.wire_is none
unnamed (Framed wire) came piece packets sent bytes none framed = absurd none

ends_unfed : (end : ConnEnd) (line : Ends) (came piece : List ℕ) (packets sent : List (List ℕ)) (bytes : List ℕ) → IsFeedEnd (Some end) → Unfed line piece end → IsLine line came packets sent bytes → EndsUnfed (came ++ piece) end
ends_unfed ends.Memory line came piece packets sent bytes can none is = tt
ends_unfed ends.Start line came piece packets sent bytes can none is = unnamed line came piece packets sent bytes none is
ends_unfed ends.LinkFault line came piece packets sent bytes can none is = absurd can
ends_unfed (ends.Journal fault) line came piece packets sent bytes can none is = absurd can
ends_unfed (ends.Frame fault) line came piece packets sent bytes can none is = absurd can
ends_unfed ends.Stopped line came piece packets sent bytes can none is = absurd can
ends_unfed ends.Ended line came piece packets sent bytes can none is = absurd can
ends_unfed ends.TurnsSpent line came piece packets sent bytes can none is = absurd can

wrote_none : (end : ConnEnd) (told : Option Told) → IsFeedEnd (Some end) → WrittenBy (Some end) [] told told
wrote_none ends.Memory told can = wrote_nothing told
wrote_none ends.Start told can = wrote_nothing told
wrote_none ends.LinkFault told can = absurd can
wrote_none (ends.Journal fault) told can = absurd can
wrote_none (ends.Frame fault) told can = absurd can
wrote_none ends.Stopped told can = absurd can
wrote_none ends.Ended told can = absurd can
wrote_none ends.TurnsSpent told can = absurd can

-- the line took no piece
pub piece_unfed : {S V : Type 0} (step : S → ℕ × S) (serve : Step V) (lock : Lock) (ring : List RingKey) (side : Side S V) (piece : List ℕ) (now : ℕ) (left : Option ℕ) (end : ConnEnd) (line : Ends)
    → IsFeedEnd (Some end) → Unfed side.line piece end → TookPiece step serve lock ring piece now side (record side { line = line }) left left (Some end)
piece_unfed step serve lock ring side piece now left end line can none outside place bytes first is stands few before =
    let text = text_on place.came piece place.talk.sent bytes (text_of side.line place.came place.packets place.talk.sent bytes stands.line) in
    record {
      close = UnfedAt piece now end;
      more = [];
      is = λ size. (size, ends_unfed end side.line place.came piece place.packets place.talk.sent bytes can none stands.line);
      behind = λ count less. less;
      ended = refl;
      came = refl;
      reads = refl;
      moments = refl;
      leaves = stands_line end side line place.talk (unfed_stands end side place.talk can stands.talk);
      owes = owes_text end (place.came ++ piece) place.talk.sent (bytes ++ []) (subst (λ (all : List ℕ). IsText (place.came ++ piece) place.talk.sent all) (sym (append-nil bytes)) text);
      shows = λ first last shows. shows;
      breaks = λ told passed. tt;
      written = wrote_none end side.told can;
      left = before;
    }

-- behind the packets that were answered it ended
pub piece_heard : {S V : Type 0} (step : S → ℕ × S) (serve : Step V) (lock : Lock) (ring : List RingKey) (side later : Side S V) (piece : List ℕ) (now : ℕ) (wire wire_then : Line) (end : ConnEnd) (line : Ends) (packets : List (List ℕ)) (outside : Outside) (place : Place S V) (bytes : List ℕ) (first left left_then : Option ℕ)
    → IsOutside lock ring outside → StandsAt side (gets piece now place) bytes → side.line ≡ Framed wire → later.line ≡ Framed wire_then → wire_then.form ≡ wire.form
    → (did : Did step serve lock ring side (λ rules talk. packets_acts rules now packets talk) None later)
    → ((talk : Talk S V) → Stands later talk → StandsBy (Some end) later talk) → ((told told_then : Option Told) (text : List ℕ) → WrittenBy None text told told_then → WrittenBy (Some end) text told told_then)
    → EndsHeard first (place.came ++ piece) place.packets packets end
    → first ≡ with_answered (length place.packets) left → left ≡ with_answered (length packets) left_then
    → PieceEnded (rules_of step serve outside) place bytes piece now end side.told (record later { line = line }) first left_then
piece_heard {S} {V} step serve lock ring side later piece now wire wire_then end line packets outside place bytes first left left_then is stands line_is line_then form did stays writes how before after =
    let rules : Rules S V = rules_of step serve outside in
    let here : Place S V = gets piece now place in
    let there : Place S V = hears rules now packets here in
    let framed = subst (λ (some : Ends). IsLine some here.came here.packets here.talk.sent bytes) line_is stands.line in
    record {
      close = Heard piece now packets end;
      more = did.bytes;
      is = λ size. (size, how);
      behind = λ count less. less;
      ended = refl;
      came = refl;
      reads = refl;
      moments = refl;
      leaves = stands_line end later line there.talk (stays there.talk (done_stands step serve lock ring side later (λ rules talk. packets_acts rules now packets talk) outside here.talk is stands.talk did));
      owes = owes_text end here.came there.talk.sent (bytes ++ did.bytes) (text_then (Framed wire) (Framed wire_then) here.came here.packets here.talk.sent there.talk.sent bytes (bytes ++ did.bytes) form framed
          (λ to tells. subst (λ (some : Ends). LineTells some to there.talk.sent (bytes ++ did.bytes)) line_then
          (done_sends step serve lock ring side later (λ rules talk. packets_acts rules now packets talk) outside here.talk is stands.talk did to bytes
          (subst (λ (some : Ends). LineTells some to here.talk.sent bytes) (sym line_is) tells))));
      shows = λ one last shows. shows;
      breaks = λ told passed. tt;
      written = writes side.told later.told did.bytes did.written;
      left = left_both place.packets packets first left left_then before after;
    }

cut_by : (MayAnswer : DeskFault → Type 0) (end : ConnEnd) (whole acts : List Act) → IsEventEnd MayAnswer (Some end) → IsPart (Some end) whole acts → IsCut end whole acts
cut_by MayAnswer ends.LinkFault whole acts can part = part
cut_by MayAnswer ends.Memory whole acts can part = part
cut_by MayAnswer (ends.Journal fault) whole acts can part = part
cut_by MayAnswer (ends.Frame fault) whole acts can part = absurd can
cut_by MayAnswer ends.Ended whole acts can part = absurd can
cut_by MayAnswer ends.Start whole acts can part = absurd can
cut_by MayAnswer ends.TurnsSpent whole acts can part = absurd can
cut_by MayAnswer ends.Stopped whole acts can part = absurd can

-- an event of the next packet ended it
piece_hearing : {S V : Type 0} (step : S → ℕ × S) (serve : Step V) (lock : Lock) (ring : List RingKey) (side later : Sides S V) (piece : List ℕ) (now : ℕ) (wire wire_then : Line) (MayAnswer : DeskFault → Type 0) (end : ConnEnd) (line : Ends) (service : V) (outside : Outside) (place : Place S V) (bytes : List ℕ) (first left left_then : Option ℕ)
    → IsEventEnd MayAnswer (Some end) → IsOutside lock ring outside → StandsAt (side service) (gets piece now place) bytes → (side service).line ≡ Framed wire → (later service).line ≡ Framed wire_then → wire_then.form ≡ wire.form
    → AllCut step serve lock ring side now wire left left_then end later → first ≡ with_answered (length place.packets) left → left_then ≢ Some 0
    → PieceEnded (rules_of step serve outside) place bytes piece now end (side service).told (record (later service) { line = line }) first left_then
piece_hearing {S} {V} step serve lock ring side later piece now wire wire_then MayAnswer end line service outside place bytes first left left_then can is stands line_is line_then form cut before some =
    let rules : Rules S V = rules_of step serve outside in
    let here : Place S V = gets piece now place in
    let there : Place S V = hears rules now cut.packets here in
    let framed : IsFramed wire here.came here.packets here.talk.sent bytes = subst (λ (some : Ends). IsLine some here.came here.packets here.talk.sent bytes) line_is stands.line in
    let begins = cut.next framed.opening.up place.packets framed.rest framed.hears in
    let did = cut.did (begun_short wire.form place.packets cut.packets cut.packet (through framed.opening.up framed.rest) begins) service in
    let one = did.follows outside here.talk is stands.talk in
    let last : Talk S V = after_acts rules there.talk did.acts in
    record {
      close = Hearing piece now cut.packets cut.packet did.acts end;
      more = did.bytes;
      is = λ size. (
        size,
        record {
          opening = framed.opening;
          rest = framed.rest;
          starts = framed.starts;
          begins = subst (λ some. Begins (framing_of some) (place.packets ++ (cut.packets ++ cut.packet ∷ [])) (through framed.opening.up framed.rest)) framed.form begins;
        },
        cut_by MayAnswer end (packet_acts rules now cut.packet there.talk) did.acts can one.part,
        more_left (length (place.packets ++ cut.packets)) first left_then (left_both place.packets cut.packets first left left_then before cut.left_is) some,
      );
      behind = λ count less. less;
      ended = refl;
      came = refl;
      reads = refl;
      moments = refl;
      leaves = stands_line end (later service) line last one.stands;
      owes = owes_then end (Framed wire) (Framed wire_then) here.came here.packets here.talk.sent last.sent bytes (bytes ++ did.bytes) form framed
          (λ to tells. subst (λ (some : Ends). SentBy (Some end) some to last.sent (bytes ++ did.bytes)) line_then
          (one.sends to bytes (subst (λ (some : Ends). LineTells some to here.talk.sent bytes) (sym line_is) tells)));
      shows = λ one last shows. shows;
      breaks = λ told passed. breaks_in end step serve lock ring (side service) (later service).line (later service).told (λ rules talk. packets_acts rules now cut.packets talk) did.acts did.bytes outside here.talk there here.packets bytes told
          is stands.talk refl
          (subst (λ (some : Ends). SameForm some (later service).line) (sym line_is) (subst (λ (some : Ends). SameForm (Framed wire) some) (sym line_then) form)) stands.line
          (told_as (Passed bytes here) (Passed bytes there) (passed_at bytes here there refl refl) told (side service).told passed) did.cut;
      written = did.written;
      left = left_both place.packets cut.packets first left left_then before cut.left_is;
    }

-- an event of the work ended it
pub piece_working : {S V : Type 0} (step : S → ℕ × S) (serve : Step V) (lock : Lock) (ring other : List RingKey) (side middle later : Side S V) (piece : List ℕ) (now : ℕ) (MayAnswer : DeskFault → Type 0) (end : ConnEnd) (line : Ends) (outside : Outside) (place : Place S V) (bytes : List ℕ) (first left_then : Option ℕ)
    → IsEventEnd MayAnswer (Some end) → other ≡ ring → IsOutside lock ring outside → WholeDone (rules_of step serve outside) now (gets piece now place) bytes side middle first left_then
    → HearsAlike middle.line later.line → Worked step serve lock other middle now (Some end) later → left_then ≢ Some 0
    → PieceEnded (rules_of step serve outside) place bytes piece now end side.told (record later { line = line }) first left_then
piece_working {S} {V} step serve lock ring other side middle later piece now MayAnswer end line outside place bytes first left_then can same is whole alike worked some =
    let rules : Rules S V = rules_of step serve outside in
    let did = subst (λ (keys : List RingKey). Did step serve lock keys middle (λ rules talk. work_acts now worked.count) (Some end) later) same worked.did in
    let here : Place S V = gets piece now place in
    let there : Place S V = hears rules now whole.packets here in
    let turn : Turn = record { piece = piece; now = now; packets = whole.packets; runs = worked.count } in
    let one = did.follows outside there.talk is whole.stands.talk in
    let last : Talk S V = after_acts rules there.talk did.acts in
    record {
      close = Working turn did.acts end;
      more = whole.more ++ did.bytes;
      is = λ size. (size, whole.whole, cut_by MayAnswer end (work_acts now worked.count) did.acts can one.part, more_left (length (place.packets ++ whole.packets)) first left_then whole.left some);
      behind = λ count less. less;
      ended = refl;
      came = refl;
      reads = refl;
      moments = refl;
      leaves = stands_line end later line last one.stands;
      owes = subst (λ (all : List ℕ). OwesBy end there.came last.sent all) (append_assoc bytes whole.more did.bytes)
          (owes_then end middle.line later.line there.came there.packets there.talk.sent last.sent (bytes ++ whole.more) ((bytes ++ whole.more) ++ did.bytes) (alike_form middle.line later.line alike) whole.stands.line
          (λ to tells. one.sends to (bytes ++ whole.more) tells));
      shows = λ one last shows. shows;
      breaks = λ told passed. subst (λ (all : List ℕ). BreaksIn end rules there did.acts all told later.told) (append_assoc bytes whole.more did.bytes)
          (breaks_in end step serve lock ring middle later.line later.told at_once did.acts did.bytes outside there.talk there there.packets (bytes ++ whole.more) told
          is whole.stands.talk refl (alike_form middle.line later.line alike) whole.stands.line
          (told_both (Passed bytes here) (Wrote whole.more) (Passed (bytes ++ whole.more) there)
          (λ one two three before after. passed_at (bytes ++ whole.more) here there refl refl one three (passed_wrote bytes whole.more here one two three before after)) told side.told middle.told passed whole.written)
          did.cut);
      written = written_both (Some end) whole.more did.bytes side.told middle.told later.told whole.written did.written;
      left = whole.left;
    }

-- its packets ended it
framed_ended : {S V : Type 0} (step : S → ℕ × S) (serve : Step V) (lock : Lock) (ring : List RingKey) (side later : Sides S V) (piece : List ℕ) (now : ℕ) (wire wire_then : Line) (MayAnswer : DeskFault → Type 0) (end : ConnEnd) (line : Ends) (service : V) (outside : Outside) (place : Place S V) (bytes : List ℕ) (first left left_then : Option ℕ)
    → IsPacketsEnd MayAnswer (Some end) → IsOutside lock ring outside → StandsAt (side service) (gets piece now place) bytes → (side service).line ≡ Framed wire → (later service).line ≡ Framed wire_then → wire_then.form ≡ wire.form
    → TookAll step serve lock ring side now wire wire_then left left_then (Some end) later → first ≡ with_answered (length place.packets) left → left ≢ Some 0 → Stops (Some end) left_then
    → PieceEnded (rules_of step serve outside) place bytes piece now end (side service).told (record (later service) { line = line }) first left_then
framed_ended step serve lock ring side later piece now wire wire_then MayAnswer (ends.Frame fault) line service outside place bytes first left left_then can is stands line_is line_then form took before some stops =
    piece_heard step serve lock ring (side service) (later service) piece now wire wire_then (ends.Frame fault) line took.packets outside place bytes first left left_then is stands line_is line_then form
    (took.did service) (λ talk stands. stands.serves) (λ told told_then text written. written) (
      faulty_by wire wire_then (place.came ++ piece) place.packets took.packets place.talk.sent bytes fault (subst (λ (some : Ends). IsLine some (place.came ++ piece) place.packets place.talk.sent bytes) line_is stands.line) took.heard,
      more_left (length (place.packets ++ took.packets)) first left_then (left_both place.packets took.packets first left left_then before took.left_is) stops,
    )
    before took.left_is
framed_ended step serve lock ring side later piece now wire wire_then MayAnswer ends.Stopped line service outside place bytes first left left_then can is stands line_is line_then form took before some stops =
    piece_heard step serve lock ring (side service) (later service) piece now wire wire_then ends.Stopped line took.packets outside place bytes first left left_then is stands line_is line_then form
    (took.did service) (λ talk stands. stands.serves) (λ told told_then text written. written) (
      first_by wire wire_then (place.came ++ piece) place.packets took.packets place.talk.sent bytes form (subst (λ (some : Ends). IsLine some (place.came ++ piece) place.packets place.talk.sent bytes) line_is stands.line) took.heard,
      none_left place.packets took.packets first left left_then before took.left_is some stops,
    )
    before took.left_is
framed_ended step serve lock ring side later piece now wire wire_then MayAnswer ends.LinkFault line service outside place bytes first left left_then can is stands line_is line_then form took before some stops =
    piece_hearing step serve lock ring side later piece now wire wire_then MayAnswer ends.LinkFault line service outside place bytes first left left_then tt is stands line_is line_then form took before stops
framed_ended step serve lock ring side later piece now wire wire_then MayAnswer ends.Memory line service outside place bytes first left left_then can is stands line_is line_then form took before some stops =
    piece_hearing step serve lock ring side later piece now wire wire_then MayAnswer ends.Memory line service outside place bytes first left left_then tt is stands line_is line_then form took before stops
framed_ended step serve lock ring side later piece now wire wire_then MayAnswer (ends.Journal fault) line service outside place bytes first left left_then can is stands line_is line_then form took before some stops =
    piece_hearing step serve lock ring side later piece now wire wire_then MayAnswer (ends.Journal fault) line service outside place bytes first left left_then can is stands line_is line_then form took before stops
framed_ended step serve lock ring side later piece now wire wire_then MayAnswer ends.Ended line service outside place bytes first left left_then can is stands line_is line_then form took before some stops = absurd can
framed_ended step serve lock ring side later piece now wire wire_then MayAnswer ends.Start line service outside place bytes first left left_then can is stands line_is line_then form took before some stops = absurd can
framed_ended step serve lock ring side later piece now wire wire_then MayAnswer ends.TurnsSpent line service outside place bytes first left left_then can is stands line_is line_then form took before some stops = absurd can

some_is_none : (end : ConnEnd) → Some end ≡ None → ⊥
some_is_none end same = absurd cc

pub whole_ended : {S V : Type 0} (step : S → ℕ × S) (serve : Step V) (lock : Lock) (ring : List RingKey) (side later : Sides S V) (piece : List ℕ) (now : ℕ) (fed fed_then : Ends) (left left_then : Option ℕ) (MayAnswer : DeskFault → Type 0) (end : ConnEnd) (line : Ends) (service : V) (outside : Outside) (place : Place S V) (bytes : List ℕ) (first : Option ℕ)
    → IsPacketsEnd MayAnswer (Some end) → IsOutside lock ring outside → StandsAt (side service) (gets piece now place) bytes → (side service).line ≡ fed → (later service).line ≡ fed_then
    → first ≡ with_answered (length place.packets) left → TookWhole step serve lock ring side now fed fed_then left left_then (Some end) later → left ≢ Some 0 → Stops (Some end) left_then
    → PieceEnded (rules_of step serve outside) place bytes piece now end (side service).told (record (later service) { line = line }) first left_then
whole_ended step serve lock ring side later piece now (Raw wire) fed_then left left_then MayAnswer end line service outside place bytes first can is stands line_is line_then before took some stops = absurd (some_is_none end took.goes_on)
whole_ended step serve lock ring side later piece now (Framed wire) fed_then left left_then MayAnswer end line service outside place bytes first can is stands line_is line_then before took some stops =
    framed_ended step serve lock ring side later piece now wire took.wire_then MayAnswer end line service outside place bytes first left left_then can is stands line_is (line_then ∙ took.line) took.form took.took before some stops
