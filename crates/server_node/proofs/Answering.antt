-- A packet is heard, and what it owes is sent.
use Rattle.std.proofs.Common.{◌≡◌, ◌≢◌, ◌≤◌, ℕ, Bool, true, false, not, List, [], ◌∷◌, ◌++◌, length, Option, Some, None, Result, Ok, Err, refl, sym, subst, ◌∙◌}
use Rattle.auth_keys.specs.declared.ring.RingKey.{RingKey}
use Rattle.cipher_modes.specs.CounterMode.{CtrState}
use Rattle.envelope.specs.Lawful.{OpensWhatItSealed}
use Rattle.envelope.specs.Packet.{Lock}
use Rattle.envelope.specs.declared.refusal.Refusal.{Refusal}
use Rattle.envelope.specs.declared.refusal.Refusal.TheVariants as refusals
use Rattle.mt_edge.specs.Links.{Told}
use Rattle.regs_service.specs.Served.{Step}
use Rattle.server_core.specs.Desks.{frame_bytes_max}
use Rattle.server_core.specs.Packets.{effects_in}
use Rattle.server_core.specs.declared.desk.Heard.{Heard}
use Rattle.server_core.specs.declared.desk.Heard.TheVariants.{Judged, NotOpened}
use Rattle.server_core.specs.declared.desk.Reply.{Reply}
use Rattle.server_core.specs.declared.desk.DeskFault.{DeskFault}
use Rattle.server_core.specs.declared.desk.DeskFault.TheVariants as faults
use Rattle.server_rules.specs.Server.{Server}
use Rattle.transport.specs.Wires.{Hears, Line}
use Rattle.server_node.specs.Coming.{CameBy, FailsNext, HasNext, HeardLast, IsNext, IsSameDesk, NextBy, NoneCame, SameOut, SaysBy, SaysJudged, SaysNothing, SaysUnknown, Sides, TellsNext, came_by}
use Rattle.server_node.specs.Doing.{Did, Due, end_by, Serves, Side, StandsBy}
use Rattle.server_node.specs.Names.{was_heard, with_name}
use Rattle.server_node.specs.Steps.{IsSameIn, IsSendEnd, LineTells, Said, going_out}
use Rattle.server_node.specs.Trace.{Hear, Talk, after_acts, moment_at, rules_of}
use Rattle.server_node.specs.Writes.{end_in, unknown_key}
use Rattle.server_node.specs.declared.conn.ConnEnd.{ConnEnd}
use Rattle.server_node.specs.declared.conn.ConnEnd.TheVariants as ends
use Rattle.server_core.specs.declared.session_name.SessionName.{SessionName}
use Rattle.server_node.specs.declared.line.Line.TheVariants.{Framed}
use Rattle.server_node.specs.declared.taking.Came.{Came}
use Rattle.server_node.proofs.Cuts.{cut_from}
use Rattle.server_node.proofs.Events.{did_event, did_fail, same_tells}
use Rattle.server_node.proofs.Hearing.{OneRefusal, did_drop, did_unknown, first_judged, heard_judged, none_first, refused_read, tells_same}
use Rattle.server_node.proofs.Writing.{wrote_nothing}

-- where a connection stands whose form is known
abbrev pub sides : {S V : Type 0} → (Server → Type 0) → (DeskFault → Server → Type 0) → S → List SessionName → Line → Option Told → Sides S V
sides desk behind drawn heard wire told service = record { desk = desk; behind = behind; drawn = drawn; service = service; heard = heard; line = Framed wire; told = told }

pub hears_same : (wire wire_then : Line) (from : Option CtrState) (packets : List (List ℕ)) (bytes : List ℕ) → IsSameIn wire wire_then → Hears wire from packets bytes → Hears wire_then from packets bytes
hears_same wire wire_then from packets bytes same hears = record {
  stands = rw (same.0, same.1) hears.stands;
  place = rw (same.1, same.2) hears.place;
}

pub next_on : (wire between wire_then : Line) (packet : List ℕ) → IsSameIn between wire_then → IsNext wire packet between → IsNext wire packet wire_then
next_on wire between wire_then packet same next from packets bytes hears =
    ((next from packets bytes hears).0, hears_same between wire_then from (packets ++ packet ∷ []) bytes same (next from packets bytes hears).1)

-- the wire stands past the packet
did_from : {S V : Type 0} (step : S → ℕ × S) (serve : Step V) (lock : Lock) (ring : List RingKey) (desk : Server → Type 0) (behind : DeskFault → Server → Type 0) (drawn : S) (heard : List SessionName) (wire between : Line) (told : Option Told) (service : V) (due : Due S V) (end : Option ConnEnd) (later : Side S V)
    → SameOut wire between
    → Did step serve lock ring (sides desk behind drawn heard between told service) due end later → Did step serve lock ring (sides desk behind drawn heard wire told service) due end later
did_from step serve lock ring desk behind drawn heard wire between told service due end later same did = record {
  acts = did.acts;
  bytes = did.bytes;
  follows = λ outside talk is stands.
      let one = did.follows outside talk is (record { serves = record { server = stands.serves.server; drawn = stands.serves.drawn; service = stands.serves.service }; heard = stands.heard; quiet = tt }) in
      record { part = one.part; stands = one.stands; sends = λ to text tells. one.sends to text (tells_same wire between to talk.sent text same tells) };
  written = did.written;
  cut = cut_from end step serve lock ring (sides desk behind drawn heard between told service) (sides desk behind drawn heard wire told service) later.line later.told did.acts did.bytes refl
      (λ talk stands. record { serves = record { server = stands.serves.server; drawn = stands.serves.drawn; service = stands.serves.service }; heard = stands.heard; quiet = tt })
      (λ to packets text tells. tells_same wire between to packets text same tells) did.cut;
}

-- the sessions that were heard don't matter any more
unheard : {S V : Type 0} (end : ConnEnd) (side other : Side S V) (talk : Talk S V) → side.desk ≡ other.desk → IsSendEnd (Some end) → StandsBy (Some end) side talk
    → (Serves side talk → Serves other talk) → (side.desk talk.server × (side.service ≡ talk.service) → other.desk talk.server × (other.service ≡ talk.service)) → StandsBy (Some end) other talk
unheard ends.LinkFault side other talk same can stands serves keeps = serves stands
unheard ends.Memory side other talk same can stands serves keeps = keeps stands
unheard ends.Ended side other talk same can stands serves keeps = absurd can
unheard (ends.Frame fault) side other talk same can stands serves keeps = absurd can
unheard ends.Start side other talk same can stands serves keeps = absurd can
unheard ends.TurnsSpent side other talk same can stands serves keeps = absurd can
unheard ends.Stopped side other talk same can stands serves keeps = absurd can
unheard (ends.Journal fault) side other talk same can stands serves keeps = absurd can

did_unheard : {S V : Type 0} (step : S → ℕ × S) (serve : Step V) (lock : Lock) (ring : List RingKey) (side : Side S V) (due : Due S V) (end : ConnEnd) (desk : Server → Type 0) (behind : DeskFault → Server → Type 0) (drawn : S) (heard heard_then : List SessionName) (wire : Line) (told : Option Told) (service : V)
    → IsSendEnd (Some end)
    → Did step serve lock ring side due (Some end) (sides desk behind drawn heard wire told service) → Did step serve lock ring side due (Some end) (sides desk behind drawn heard_then wire told service)
did_unheard step serve lock ring side due end desk behind drawn heard heard_then wire told service can did = record {
  acts = did.acts;
  bytes = did.bytes;
  follows = λ outside talk is stands.
      let one = did.follows outside talk is stands in
      record {
        part = one.part;
        stands = unheard end (sides desk behind drawn heard wire told service) (sides desk behind drawn heard_then wire told service) (after_acts (rules_of step serve outside) talk did.acts) refl can one.stands
            (λ serves. record { server = serves.server; drawn = serves.drawn; service = serves.service }) (λ keeps. keeps);
        sends = one.sends;
      };
  written = did.written;
  cut = did.cut;
}

-- ---- no packet

pub came_none : {S V : Type 0} (step : S → ℕ × S) (serve : Step V) (lock : Lock) (ring : List RingKey) (desk desk_then : Server → Type 0) (behind behind_then : DeskFault → Server → Type 0) (drawn drawn_then : S) (heard : List SessionName) (wire wire_then : Line) (told : Option Told)
    → IsSameDesk desk drawn desk_then drawn_then → SameOut wire wire_then
    → NoneCame step serve lock ring (sides desk behind drawn heard wire told) (sides desk_then behind_then drawn_then heard wire_then told)
came_none step serve lock ring desk desk_then behind behind_then drawn drawn_then heard wire wire_then told same out service = record {
  acts = [];
  bytes = [];
  follows = λ outside talk is stands. record {
    part = refl;
    stands = record { serves = record { server = same.0 talk.server stands.serves.server; drawn = same.1 ∙ stands.serves.drawn; service = stands.serves.service }; heard = stands.heard; quiet = tt };
    sends = λ to text tells. same_tells (Framed wire_then) to talk.sent text (tells_same wire wire_then to talk.sent text out tells);
  };
  written = wrote_nothing told;
  cut = tt;
}

came_failed : {S V : Type 0} (step : S → ℕ × S) (serve : Step V) (lock : Lock) (ring : List RingKey) (desk desk_then : Server → Type 0) (behind behind_then : DeskFault → Server → Type 0) (drawn drawn_then : S) (heard : List SessionName) (wire wire_then : Line) (told : Option Told) (now : ℕ) (end : ConnEnd)
    → SameOut wire wire_then → FailsNext wire desk desk_then behind_then end
    → HeardLast {S = S} {V = V} step serve lock ring (sides desk behind drawn heard wire told) now wire end (sides desk_then behind_then drawn_then heard wire_then told)
came_failed step serve lock ring desk desk_then behind behind_then drawn drawn_then heard wire wire_then told now end out fails = record {
  packet = fails.packet;
  next = fails.next;
  did = λ short service. did_from step serve lock ring desk behind drawn heard wire wire_then told service (λ rules talk. Hear now fails.packet ∷ []) (Some end) (sides desk_then behind_then drawn_then heard wire_then told service) out
      (did_fail step serve lock ring (sides desk behind drawn heard wire_then told service) (sides desk_then behind_then drawn_then heard wire_then told service) (λ rules talk. Hear now fails.packet ∷ []) fails.fault end
      fails.is refl refl fails.unchanged fails.full (λ server stands. fails.behind server stands short) (λ memory. refl) (λ len full. refl));
}

pub hear_failed : {S V : Type 0} (step : S → ℕ × S) (serve : Step V) (lock : Lock) (ring : List RingKey) (desk desk_then : Server → Type 0) (behind behind_then : DeskFault → Server → Type 0) (drawn drawn_then : S) (heard : List SessionName) (wire wire_then : Line) (told : Option Told) (now : ℕ) (end : ConnEnd)
    → SameOut wire wire_then → NextBy step lock ring desk drawn now wire (Err end) desk_then behind_then drawn_then wire_then
    → CameBy {S = S} {V = V} step serve lock ring (sides desk behind drawn heard wire told) now wire wire_then (Err end) (sides desk_then behind_then drawn_then heard wire_then told)
hear_failed step serve lock ring desk desk_then behind behind_then drawn drawn_then heard wire wire_then told now (ends.Frame fault) out next =
    (next.0, came_none step serve lock ring desk desk_then behind behind_then drawn drawn_then heard wire wire_then told next.1 out)
hear_failed step serve lock ring desk desk_then behind behind_then drawn drawn_then heard wire wire_then told now ends.Memory out next = came_failed step serve lock ring desk desk_then behind behind_then drawn drawn_then heard wire wire_then told now ends.Memory out next
hear_failed step serve lock ring desk desk_then behind behind_then drawn drawn_then heard wire wire_then told now ends.LinkFault out next = came_failed step serve lock ring desk desk_then behind behind_then drawn drawn_then heard wire wire_then told now ends.LinkFault out next
hear_failed step serve lock ring desk desk_then behind behind_then drawn drawn_then heard wire wire_then told now ends.Ended out next = came_failed step serve lock ring desk desk_then behind behind_then drawn drawn_then heard wire wire_then told now ends.Ended out next
hear_failed step serve lock ring desk desk_then behind behind_then drawn drawn_then heard wire wire_then told now ends.Start out next = came_failed step serve lock ring desk desk_then behind behind_then drawn drawn_then heard wire wire_then told now ends.Start out next
hear_failed step serve lock ring desk desk_then behind behind_then drawn drawn_then heard wire wire_then told now ends.TurnsSpent out next = came_failed step serve lock ring desk desk_then behind behind_then drawn drawn_then heard wire wire_then told now ends.TurnsSpent out next
hear_failed step serve lock ring desk desk_then behind behind_then drawn drawn_then heard wire wire_then told now ends.Stopped out next = came_failed step serve lock ring desk desk_then behind behind_then drawn drawn_then heard wire wire_then told now ends.Stopped out next
hear_failed step serve lock ring desk desk_then behind behind_then drawn drawn_then heard wire wire_then told now (ends.Journal fault) out next = came_failed step serve lock ring desk desk_then behind behind_then drawn drawn_then heard wire wire_then told now (ends.Journal fault) out next

fails_by : {S : Type 0} (step : S → ℕ × S) (lock : Lock) (ring : List RingKey) (desk desk_then : Server → Type 0) (behind behind_then : DeskFault → Server → Type 0) (drawn drawn_then : S) (now : ℕ) (wire wire_then : Line) (fault : DeskFault)
    → FailsNext wire desk desk_then behind_then (end_by fault) → NextBy step lock ring desk drawn now wire (Err (end_by fault)) desk_then behind_then drawn_then wire_then
fails_by step lock ring desk desk_then behind behind_then drawn drawn_then now wire wire_then faults.Memory fails = fails
fails_by step lock ring desk desk_then behind behind_then drawn drawn_then now wire wire_then faults.Closed fails = fails
fails_by step lock ring desk desk_then behind behind_then drawn drawn_then now wire wire_then (faults.Full len) fails = fails
fails_by step lock ring desk desk_then behind behind_then drawn drawn_then now wire wire_then faults.Disk fails = fails

-- the desk did nothing of the next packet
pub next_failed : {S : Type 0} (step : S → ℕ × S) (lock : Lock) (ring : List RingKey) (desk desk_then : Server → Type 0) (behind behind_then : DeskFault → Server → Type 0) (drawn drawn_then : S) (now : ℕ) (wire wire_then : Line) (packet : List ℕ) (fault : DeskFault) (end : ConnEnd)
    → end ≡ end_by fault → HasNext wire packet → ((server : Server) → desk server → fault ≡ faults.Memory → desk_then server) → ((server : Server) (len : ℕ) → desk server → fault ≡ faults.Full len → desk_then server)
    → ((server : Server) → desk server → length packet ≤ frame_bytes_max → behind_then fault server)
    → NextBy step lock ring desk drawn now wire (Err end) desk_then behind_then drawn_then wire_then
next_failed step lock ring desk desk_then behind behind_then drawn drawn_then now wire wire_then packet fault end is next unchanged full behind_by =
    subst (λ (some : ConnEnd). NextBy step lock ring desk drawn now wire (Err some) desk_then behind_then drawn_then wire_then) (sym is)
    (fails_by step lock ring desk desk_then behind behind_then drawn drawn_then now wire wire_then fault (record { packet = packet; fault = fault; next = next; is = refl; unchanged = unchanged; full = full; behind = behind_by }))

-- ---- a packet

last_of : {S V : Type 0} (step : S → ℕ × S) (serve : Step V) (lock : Lock) (ring : List RingKey) (side later : Sides S V) (now : ℕ) (wire wire_then : Line) (end : ConnEnd)
    → IsSendEnd (Some end) → HeardLast step serve lock ring side now wire end later → CameBy step serve lock ring side now wire wire_then (Err end) later
last_of step serve lock ring side later now wire wire_then ends.LinkFault can last = last
last_of step serve lock ring side later now wire wire_then ends.Memory can last = last
last_of step serve lock ring side later now wire wire_then ends.Ended can last = absurd can
last_of step serve lock ring side later now wire wire_then (ends.Frame fault) can last = absurd can
last_of step serve lock ring side later now wire wire_then ends.Start can last = absurd can
last_of step serve lock ring side later now wire wire_then ends.TurnsSpent can last = absurd can
last_of step serve lock ring side later now wire wire_then ends.Stopped can last = absurd can
last_of step serve lock ring side later now wire wire_then (ends.Journal fault) can last = absurd can

-- a session that was heard
judged_did : {S V : Type 0} (step : S → ℕ × S) (serve : Step V) (lock : Lock) (ring : List RingKey) (desk desk_then : Server → Type 0) (behind behind_then : DeskFault → Server → Type 0) (drawn drawn_then : S) (heard : List SessionName) (wire between wire_then : Line) (told told_then : Option Told) (now : ℕ) (reply : Reply) (key session : ℕ) (end : Option ConnEnd)
    → OpensWhatItSealed lock → SameOut wire between → IsSameIn between wire_then → (next : TellsNext step lock ring desk drawn now wire reply desk_then drawn_then between) → reply.heard ≡ Judged key session → IsSendEnd end
    → Said (Framed between) (with_name heard (record { key = key; session = session })) told (going_out (with_name heard (record { key = key; session = session })) reply.out.outs) end (Framed wire_then) told_then
    → (service : V) → Did step serve lock ring (sides desk behind drawn heard wire told service) (λ rules talk. Hear now next.packet ∷ []) end (sides desk_then behind_then drawn_then (with_name heard (record { key = key; session = session })) wire_then told_then service)
judged_did step serve lock ring desk desk_then behind behind_then drawn drawn_then heard wire between wire_then told told_then now reply key session end opens out same next was can said service =
    did_from step serve lock ring desk behind drawn heard wire between told service (λ rules talk. Hear now next.packet ∷ []) end (sides desk_then behind_then drawn_then (with_name heard (record { key = key; session = session })) wire_then told_then service) out
    (did_event step serve lock ring (sides desk behind drawn heard between told service) (sides desk_then behind_then drawn_then (with_name heard (record { key = key; session = session })) wire_then told_then service) (Hear now next.packet) end (effects_in reply)
    opens can same said (λ quiet. (tt, tt))
    (heard_judged step serve lock ring (sides desk behind drawn heard between told service) (sides desk_then behind_then drawn_then (with_name heard (record { key = key; session = session })) wire_then told_then service) now next.packet reply key session
    opens next.tells was refl refl))

judged_ok : {S V : Type 0} (step : S → ℕ × S) (serve : Step V) (lock : Lock) (ring : List RingKey) (desk desk_then : Server → Type 0) (behind behind_then : DeskFault → Server → Type 0) (drawn drawn_then : S) (heard : List SessionName) (wire between wire_then : Line) (told told_then : Option Told) (now : ℕ) (reply : Reply) (key session : ℕ) (is_first : Bool)
    → OpensWhatItSealed lock → SameOut wire between → IsSameIn between wire_then → (next : TellsNext step lock ring desk drawn now wire reply desk_then drawn_then between) → reply.heard ≡ Judged key session
    → is_first ≡ not (was_heard heard (record { key = key; session = session }))
    → Said (Framed between) (with_name heard (record { key = key; session = session })) told (going_out (with_name heard (record { key = key; session = session })) reply.out.outs) None (Framed wire_then) told_then
    → CameBy {S = S} {V = V} step serve lock ring (sides desk behind drawn heard wire told) now wire wire_then (Ok (came_by is_first (record { key = key; session = session }))) (sides desk_then behind_then drawn_then (with_name heard (record { key = key; session = session })) wire_then told_then)
judged_ok step serve lock ring desk desk_then behind behind_then drawn drawn_then heard wire between wire_then told told_then now reply key session true opens out same next was first said = record {
  packet = next.packet;
  next = next_on wire between wire_then next.packet same next.next;
  did = judged_did step serve lock ring desk desk_then behind behind_then drawn drawn_then heard wire between wire_then told told_then now reply key session None opens out same next was tt said;
  first = λ service. first_judged step lock ring (sides desk behind drawn heard wire told service) (sides desk_then behind_then drawn_then (with_name heard (record { key = key; session = session })) wire_then told_then service) now next.packet reply key session true opens next.tells was first;
}
judged_ok step serve lock ring desk desk_then behind behind_then drawn drawn_then heard wire between wire_then told told_then now reply key session false opens out same next was first said = record {
  packet = next.packet;
  next = next_on wire between wire_then next.packet same next.next;
  did = judged_did step serve lock ring desk desk_then behind behind_then drawn drawn_then heard wire between wire_then told told_then now reply key session None opens out same next was tt said;
  first = λ service. first_judged step lock ring (sides desk behind drawn heard wire told service) (sides desk_then behind_then drawn_then (with_name heard (record { key = key; session = session })) wire_then told_then service) now next.packet reply key session false opens next.tells was first;
}

hear_judged : {S V : Type 0} (step : S → ℕ × S) (serve : Step V) (lock : Lock) (ring : List RingKey) (desk desk_then : Server → Type 0) (behind behind_then : DeskFault → Server → Type 0) (drawn drawn_then : S) (heard heard_then : List SessionName) (wire between wire_then : Line) (told told_then : Option Told) (now : ℕ) (reply : Reply) (key session : ℕ) (result : Result Came ConnEnd)
    → OpensWhatItSealed lock → SameOut wire between → IsSameIn between wire_then → TellsNext step lock ring desk drawn now wire reply desk_then drawn_then between → reply.heard ≡ Judged key session
    → IsSendEnd (end_in result) → SaysJudged between heard told (record { key = key; session = session }) reply.out.outs result wire_then heard_then told_then
    → CameBy {S = S} {V = V} step serve lock ring (sides desk behind drawn heard wire told) now wire wire_then result (sides desk_then behind_then drawn_then heard_then wire_then told_then)
hear_judged {S} {V} step serve lock ring desk desk_then behind behind_then drawn drawn_then heard heard_then wire between wire_then told told_then now reply key session (Ok came) opens out same next was can says =
    subst (λ (names : List SessionName). CameBy {S = S} {V = V} step serve lock ring (sides desk behind drawn heard wire told) now wire wire_then (Ok came) (sides desk_then behind_then drawn_then names wire_then told_then)) (sym says.noted)
    (subst (λ (some : Came). CameBy {S = S} {V = V} step serve lock ring (sides desk behind drawn heard wire told) now wire wire_then (Ok some) (sides desk_then behind_then drawn_then (with_name heard (record { key = key; session = session })) wire_then told_then)) (sym says.came)
    (judged_ok step serve lock ring desk desk_then behind behind_then drawn drawn_then heard wire between wire_then told told_then now reply key session (not (was_heard heard (record { key = key; session = session }))) opens out same next was refl says.said))
hear_judged step serve lock ring desk desk_then behind behind_then drawn drawn_then heard heard_then wire between wire_then told told_then now reply key session (Err end) opens out same next was can says =
    last_of step serve lock ring (sides desk behind drawn heard wire told) (sides desk_then behind_then drawn_then heard_then wire_then told_then) now wire wire_then end can (record {
      packet = next.packet;
      next = λ from packets bytes hears. (next.next from packets bytes hears).0;
      did = λ short service. did_unheard step serve lock ring (sides desk behind drawn heard wire told service) (λ rules talk. Hear now next.packet ∷ []) end desk_then behind_then drawn_then (with_name heard (record { key = key; session = session })) heard_then wire_then told_then service can
          (judged_did step serve lock ring desk desk_then behind behind_then drawn drawn_then heard wire between wire_then told told_then now reply key session (Some end) opens out same next was can says.said service);
    })

-- an unknown key
unknown_did : {S V : Type 0} (step : S → ℕ × S) (serve : Step V) (lock : Lock) (ring : List RingKey) (desk desk_then : Server → Type 0) (behind behind_then : DeskFault → Server → Type 0) (drawn drawn_then : S) (heard heard_then : List SessionName) (wire between wire_then : Line) (told told_then : Option Told) (now : ℕ) (reply : Reply) (id : ℕ) (end : Option ConnEnd)
    → OpensWhatItSealed lock → OneRefusal lock → SameOut wire between → IsSameIn between wire_then → (next : TellsNext step lock ring desk drawn now wire reply desk_then drawn_then between) → reply.heard ≡ NotOpened (refusals.NoKey id) → IsSendEnd end
    → heard_then ≡ heard → Said (Framed between) heard told (unknown_key ∷ []) end (Framed wire_then) told_then
    → (service : V) → Did step serve lock ring (sides desk behind drawn heard wire told service) (λ rules talk. Hear now next.packet ∷ []) end (sides desk_then behind_then drawn_then heard_then wire_then told_then service)
unknown_did step serve lock ring desk desk_then behind behind_then drawn drawn_then heard heard_then wire between wire_then told told_then now reply id end opens one out alike next was can same said service =
    did_from step serve lock ring desk behind drawn heard wire between told service (λ rules talk. Hear now next.packet ∷ []) end (sides desk_then behind_then drawn_then heard_then wire_then told_then service) out
    (did_unknown step serve lock ring (sides desk behind drawn heard between told service) (sides desk_then behind_then drawn_then heard_then wire_then told_then service) between wire_then now next.packet reply id end
    opens one can refl refl next.tells was same refl alike said)

hear_unknown : {S V : Type 0} (step : S → ℕ × S) (serve : Step V) (lock : Lock) (ring : List RingKey) (desk desk_then : Server → Type 0) (behind behind_then : DeskFault → Server → Type 0) (drawn drawn_then : S) (heard heard_then : List SessionName) (wire between wire_then : Line) (told told_then : Option Told) (now : ℕ) (reply : Reply) (id : ℕ) (result : Result Came ConnEnd)
    → OpensWhatItSealed lock → OneRefusal lock → SameOut wire between → IsSameIn between wire_then → TellsNext step lock ring desk drawn now wire reply desk_then drawn_then between → reply.heard ≡ NotOpened (refusals.NoKey id)
    → IsSendEnd (end_in result) → SaysUnknown between heard told result wire_then heard_then told_then
    → CameBy {S = S} {V = V} step serve lock ring (sides desk behind drawn heard wire told) now wire wire_then result (sides desk_then behind_then drawn_then heard_then wire_then told_then)
hear_unknown {S} {V} step serve lock ring desk desk_then behind behind_then drawn drawn_then heard heard_then wire between wire_then told told_then now reply id (Ok came) opens one out same next was can says =
    subst (λ (some : Came). CameBy {S = S} {V = V} step serve lock ring (sides desk behind drawn heard wire told) now wire wire_then (Ok some) (sides desk_then behind_then drawn_then heard_then wire_then told_then)) (sym says.came) (record {
      packet = next.packet;
      next = next_on wire between wire_then next.packet same next.next;
      did = unknown_did step serve lock ring desk desk_then behind behind_then drawn drawn_then heard heard_then wire between wire_then told told_then now reply id None opens one out same next was tt says.same says.said;
      first = λ service outside talk is stands. none_first now talk (outside.reading (moment_at talk now) next.packet) (refusals.NoKey id)
          (refused_read step lock ring (sides desk behind drawn heard wire told service) (sides desk_then behind_then drawn_then heard_then wire_then told_then service) now next.packet reply (refusals.NoKey id) opens one next.tells was outside talk is stands);
    })
hear_unknown step serve lock ring desk desk_then behind behind_then drawn drawn_then heard heard_then wire between wire_then told told_then now reply id (Err end) opens one out same next was can says =
    last_of step serve lock ring (sides desk behind drawn heard wire told) (sides desk_then behind_then drawn_then heard_then wire_then told_then) now wire wire_then end can (record {
      packet = next.packet;
      next = λ from packets bytes hears. (next.next from packets bytes hears).0;
      did = λ short. unknown_did step serve lock ring desk desk_then behind behind_then drawn drawn_then heard heard_then wire between wire_then told told_then now reply id (Some end) opens one out same next was can says.same says.said;
    })

-- another packet that doesn't open
hear_dropped : {S V : Type 0} (step : S → ℕ × S) (serve : Step V) (lock : Lock) (ring : List RingKey) (desk desk_then : Server → Type 0) (behind behind_then : DeskFault → Server → Type 0) (drawn drawn_then : S) (heard heard_then : List SessionName) (wire between wire_then : Line) (told told_then : Option Told) (now : ℕ) (reply : Reply) (refusal : Refusal) (result : Result Came ConnEnd)
    → OpensWhatItSealed lock → OneRefusal lock → ((id : ℕ) → refusal ≢ refusals.NoKey id) → SameOut wire between → IsSameIn between wire_then → TellsNext step lock ring desk drawn now wire reply desk_then drawn_then between
    → reply.heard ≡ NotOpened refusal → SaysNothing between heard told result wire_then heard_then told_then
    → CameBy {S = S} {V = V} step serve lock ring (sides desk behind drawn heard wire told) now wire wire_then result (sides desk_then behind_then drawn_then heard_then wire_then told_then)
hear_dropped {S} {V} step serve lock ring desk desk_then behind behind_then drawn drawn_then heard heard_then wire between wire_then told told_then now reply refusal result opens one other out same next was says =
    subst (λ (some : Result Came ConnEnd). CameBy {S = S} {V = V} step serve lock ring (sides desk behind drawn heard wire told) now wire wire_then some (sides desk_then behind_then drawn_then heard_then wire_then told_then)) (sym says.came) (record {
      packet = next.packet;
      next = next_on wire between wire_then next.packet same next.next;
      did = λ service. did_from step serve lock ring desk behind drawn heard wire between told service (λ rules talk. Hear now next.packet ∷ []) None (sides desk_then behind_then drawn_then heard_then wire_then told_then service) out
          (did_drop step serve lock ring (sides desk behind drawn heard between told service) (sides desk_then behind_then drawn_then heard_then wire_then told_then service) now next.packet reply refusal
          opens one other next.tells was says.same refl says.same_told tt (λ to packets text tells. subst (λ (some : Line). LineTells (Framed some) to packets text) (sym says.same_wire) tells));
      first = λ service outside talk is stands. none_first now talk (outside.reading (moment_at talk now) next.packet) refusal
          (refused_read step lock ring (sides desk behind drawn heard wire told service) (sides desk_then behind_then drawn_then heard_then wire_then told_then service) now next.packet reply refusal opens one next.tells was outside talk is stands);
    })

pub hear_answered : {S V : Type 0} (step : S → ℕ × S) (serve : Step V) (lock : Lock) (ring : List RingKey) (desk desk_then : Server → Type 0) (behind behind_then : DeskFault → Server → Type 0) (drawn drawn_then : S) (heard heard_then : List SessionName) (wire between wire_then : Line) (told told_then : Option Told) (now : ℕ) (reply : Reply) (heard_of : Heard) (result : Result Came ConnEnd)
    → reply.heard ≡ heard_of → OpensWhatItSealed lock → OneRefusal lock → SameOut wire between → IsSameIn between wire_then → NextBy step lock ring desk drawn now wire (Ok (Some reply)) desk_then behind_then drawn_then between
    → IsSendEnd (end_in result) → SaysBy between heard told heard_of reply.out.outs result wire_then heard_then told_then
    → CameBy {S = S} {V = V} step serve lock ring (sides desk behind drawn heard wire told) now wire wire_then result (sides desk_then behind_then drawn_then heard_then wire_then told_then)
hear_answered step serve lock ring desk desk_then behind behind_then drawn drawn_then heard heard_then wire between wire_then told told_then now reply (Judged key session) result was opens one out same next can says =
    hear_judged step serve lock ring desk desk_then behind behind_then drawn drawn_then heard heard_then wire between wire_then told told_then now reply key session result opens out same next was can says
hear_answered step serve lock ring desk desk_then behind behind_then drawn drawn_then heard heard_then wire between wire_then told told_then now reply (NotOpened (refusals.NoKey id)) result was opens one out same next can says =
    hear_unknown step serve lock ring desk desk_then behind behind_then drawn drawn_then heard heard_then wire between wire_then told told_then now reply id result opens one out same next was can says
hear_answered step serve lock ring desk desk_then behind behind_then drawn drawn_then heard heard_then wire between wire_then told told_then now reply (NotOpened (refusals.Size len)) result was opens one out same next can says =
    hear_dropped step serve lock ring desk desk_then behind behind_then drawn drawn_then heard heard_then wire between wire_then told told_then now reply (refusals.Size len) result opens one (λ id is. absurd cc) out same next was says
hear_answered step serve lock ring desk desk_then behind behind_then drawn drawn_then heard heard_then wire between wire_then told told_then now reply (NotOpened (refusals.KeyMismatch said found)) result was opens one out same next can says =
    hear_dropped step serve lock ring desk desk_then behind behind_then drawn drawn_then heard heard_then wire between wire_then told told_then now reply (refusals.KeyMismatch said found) result opens one (λ id is. absurd cc) out same next was says
hear_answered step serve lock ring desk desk_then behind behind_then drawn drawn_then heard heard_then wire between wire_then told told_then now reply (NotOpened (refusals.Length said)) result was opens one out same next can says =
    hear_dropped step serve lock ring desk desk_then behind behind_then drawn drawn_then heard heard_then wire between wire_then told told_then now reply (refusals.Length said) result opens one (λ id is. absurd cc) out same next was says
hear_answered step serve lock ring desk desk_then behind behind_then drawn drawn_then heard heard_then wire between wire_then told told_then now reply (NotOpened (refusals.Padding bytes)) result was opens one out same next can says =
    hear_dropped step serve lock ring desk desk_then behind behind_then drawn drawn_then heard heard_then wire between wire_then told told_then now reply (refusals.Padding bytes) result opens one (λ id is. absurd cc) out same next was says
