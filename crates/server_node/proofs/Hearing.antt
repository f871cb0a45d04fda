-- What a packet makes of a desk, and what is sent of it.
use Rattle.std.proofs.Common.{◌≡◌, ◌≢◌, max, ℕ, Bool, true, false, not, if◌then◌else◌, List, [], ◌∷◌, ◌++◌, Option, Some, None, Result, Ok, Err, refl, sym, ap, subst, ◌∙◌, append-nil}
use Rattle.auth_keys.specs.declared.ring.RingKey.{RingKey}
use Rattle.cipher_modes.specs.CounterMode.{CtrState}
use Rattle.envelope.specs.Lawful.{OpensWhatItSealed}
use Rattle.envelope.specs.Opening.{IsRefused, Opens}
use Rattle.envelope.specs.Packet.{Lock}
use Rattle.envelope.specs.declared.parts.Dir.{Dir}
use Rattle.envelope.specs.declared.parts.Dir.TheVariants.{Up}
use Rattle.envelope.specs.declared.parts.Envelope.{Envelope}
use Rattle.envelope.specs.declared.refusal.Refusal.{Refusal}
use Rattle.envelope.specs.declared.refusal.Refusal.TheVariants as refusals
use Rattle.regs_service.specs.Served.{Step}
use Rattle.server_core.specs.Desks.{Does}
use Rattle.server_core.specs.Packets.{IsHeardOf, brought_in, effects_in}
use Rattle.server_core.specs.declared.desk.Heard.{Heard}
use Rattle.server_core.specs.declared.desk.Heard.TheVariants.{Judged, NotOpened}
use Rattle.server_core.specs.declared.desk.Reply.{Reply}
use Rattle.server_rules.specs.Answer.{after_packet}
use Rattle.server_session.specs.Says.{setting_of}
use Rattle.transport.specs.Wires.{Line}
use Rattle.server_node.specs.Coming.{SameOut}
use Rattle.server_node.specs.Coming as coming
use Rattle.server_node.specs.Doing.{Did, IsPart, Serves, Side, Stands, StandsBy}
use Rattle.server_node.specs.Names.{was_heard, with_name}
use Rattle.transport.specs.Spelt.{Spells}
use Rattle.server_node.specs.Steps.{HearsAlike, IsQuiet, IsSendEnd, LineTells, Said, SentBy}
use Rattle.server_node.specs.Trace.{Act, Attach, Hear, IsOutside, IsRead, Outside, Rules, Talk, after_act, first_acts, hears_as, moment_at, name_in, rules_of}
use Rattle.server_node.specs.Writes.{WrittenBy, unknown_key}
use Rattle.server_node.specs.declared.conn.ConnEnd.{ConnEnd}
use Rattle.server_node.specs.declared.conn.ConnEnd.TheVariants as ends
use Rattle.server_core.specs.declared.session_name.SessionName.{SessionName}
use Rattle.server_node.specs.declared.line.Line.TheVariants.{Framed}
use Rattle.server_node.proofs.Cuts.{cut_one}
use Rattle.server_node.proofs.Events.{Answers, same_tells}
use Rattle.server_node.proofs.Writing.{wrote_nothing}

pub tells_same : (wire wire_then : Line) (to : Option CtrState) (packets : List (List ℕ)) (bytes : List ℕ) → SameOut wire wire_then → Spells wire to packets bytes → Spells wire_then to packets bytes
tells_same wire wire_then to packets bytes same spells = record {
  tells = record {
    frames = rw (same.0) spells.tells.frames;
    number = rw (same.0, same.2) spells.tells.number;
    place = same.1 ∙ spells.tells.place;
  };
  spelt = rw (same.0) spells.spelt;
}

-- ---- what the desk heard is what the packet opens to

abbrev pub OneRefusal : Lock → Type 0
OneRefusal lock = (ring : List RingKey) (now : ℕ) (dir : Dir) (packet : List ℕ) (refusal other : Refusal)
    → IsRefused lock ring now dir packet refusal → IsRefused lock ring now dir packet other → refusal ≡ other

opens_to : (lock : Lock) (ring : List RingKey) (now : ℕ) (packet : List ℕ) (read : Result Envelope Refusal) (envelope : Envelope) → OpensWhatItSealed lock
    → IsRead lock ring now packet read → Opens lock ring now Up packet envelope → read ≡ Ok envelope
opens_to lock ring now packet (Ok other) envelope opens reads known = ap (λ (one : Envelope). Ok one) (opens.one_envelope ring now Up packet other envelope reads known)
opens_to lock ring now packet (Err refusal) envelope opens reads known = absurd (opens.not_both ring now Up packet envelope refusal known reads)

refused_by : (lock : Lock) (ring : List RingKey) (now : ℕ) (packet : List ℕ) (read : Result Envelope Refusal) (refusal : Refusal) → OpensWhatItSealed lock → OneRefusal lock
    → IsRead lock ring now packet read → IsRefused lock ring now Up packet refusal → read ≡ Err refusal
refused_by lock ring now packet (Ok envelope) refusal opens one reads known = absurd (opens.not_both ring now Up packet envelope refusal reads known)
refused_by lock ring now packet (Err other) refusal opens one reads known = ap (λ (some : Refusal). Err some) (one ring now Up packet other refusal reads known)

-- ---- a session was heard

same_name : (envelope : Envelope) (key session : ℕ) → envelope.key ≡ key → envelope.session ≡ session → name_in envelope ≡ record { key = key; session = session }
same_name envelope key session same also = ap (λ (k : ℕ). record { key = k; session = envelope.session }) same ∙ ap (λ (n : ℕ). record { key = key; session = n }) also

pub heard_judged : {S V : Type 0} (step : S → ℕ × S) (serve : Step V) (lock : Lock) (ring : List RingKey) (side later : Side S V) (now : ℕ) (packet : List ℕ) (reply : Reply) (key session : ℕ)
    → OpensWhatItSealed lock → coming.Tells step lock ring side.desk later.desk side.drawn later.drawn now packet reply → reply.heard ≡ Judged key session
    → later.heard ≡ with_name side.heard (record { key = key; session = session }) → later.service ≡ side.service
    → (outside : Outside) (talk : Talk S V) → IsOutside lock ring outside → Stands side talk
    → Answers (rules_of step serve outside) talk (Hear now packet) lock ring (effects_in reply) later
heard_judged {S} {V} step serve lock ring side later now packet reply key session opens told was heard service outside talk is stands =
    let moment : ℕ = max talk.server.now now in
    let name : SessionName = record { key = key; session = session } in
    let found : IsHeardOf lock ring moment packet (Judged key session) = subst (λ (one : Heard). IsHeardOf lock ring moment packet one) was (told.heard talk.server stands.serves.server) in
    let envelope : Envelope = found.0 in
    let read : outside.reading moment packet ≡ Ok envelope = opens_to lock ring moment packet (outside.reading moment packet) envelope opens (is.reads moment packet told.bytes) found.1 in
    let named : name_in envelope ≡ name = same_name envelope key session found.2 found.3 in
    record {
      answer = after_packet (setting_of moment step outside.keys) (brought_in envelope) talk.server talk.draw;
      start = record talk { heard = with_name talk.heard (name_in envelope) };
      is = ap (λ (one : Result Envelope Refusal). hears_as (rules_of step serve outside) moment one talk) read;
      does = subst (λ draw. Does later.desk lock ring later.drawn (effects_in reply) (after_packet (setting_of moment step outside.keys) (brought_in envelope) talk.server draw)) stands.serves.drawn
          (told.given outside.keys talk.server envelope is.keys stands.serves.server found.1);
      sent = refl;
      heard = heard ∙ ap (λ names. with_name names name) stands.heard ∙ ap (λ one. with_name talk.heard one) (sym named);
      service = service ∙ stands.serves.service;
    }

-- its first packet, or a later one
firsts : (was : Bool) (name : SessionName) (now : ℕ) (is_first : Bool) → is_first ≡ not was → (if was then [] else Attach now name ∷ []) ≡ (if is_first then Attach now name ∷ [] else [])
firsts true name now is_first same = rw same refl
firsts false name now is_first same = rw same refl

pub first_judged : {S V : Type 0} (step : S → ℕ × S) (lock : Lock) (ring : List RingKey) (side later : Side S V) (now : ℕ) (packet : List ℕ) (reply : Reply) (key session : ℕ) (is_first : Bool)
    → OpensWhatItSealed lock → coming.Tells step lock ring side.desk later.desk side.drawn later.drawn now packet reply → reply.heard ≡ Judged key session
    → is_first ≡ not (was_heard side.heard (record { key = key; session = session }))
    → (outside : Outside) (talk : Talk S V) → IsOutside lock ring outside → Stands side talk
    → first_acts now talk (outside.reading (moment_at talk now) packet) ≡ (if is_first then Attach now (record { key = key; session = session }) ∷ [] else [])
first_judged {S} {V} step lock ring side later now packet reply key session is_first opens told was first outside talk is stands =
    let moment : ℕ = max talk.server.now now in
    let name : SessionName = record { key = key; session = session } in
    let found : IsHeardOf lock ring moment packet (Judged key session) = subst (λ (one : Heard). IsHeardOf lock ring moment packet one) was (told.heard talk.server stands.serves.server) in
    let envelope : Envelope = found.0 in
    let read : outside.reading moment packet ≡ Ok envelope = opens_to lock ring moment packet (outside.reading moment packet) envelope opens (is.reads moment packet told.bytes) found.1 in
    let named : name_in envelope ≡ name = same_name envelope key session found.2 found.3 in
    ap (λ (one : Result Envelope Refusal). first_acts now talk one) read
    ∙ ap (λ (one : SessionName). if was_heard talk.heard one then [] else Attach now one ∷ []) named
    ∙ ap (λ (names : List SessionName). if was_heard names name then [] else Attach now name ∷ []) (sym stands.heard)
    ∙ firsts (was_heard side.heard name) name now is_first first

-- ---- a packet doesn't open

pub refused_read : {S V : Type 0} (step : S → ℕ × S) (lock : Lock) (ring : List RingKey) (side later : Side S V) (now : ℕ) (packet : List ℕ) (reply : Reply) (refusal : Refusal)
    → OpensWhatItSealed lock → OneRefusal lock → coming.Tells step lock ring side.desk later.desk side.drawn later.drawn now packet reply → reply.heard ≡ NotOpened refusal
    → (outside : Outside) (talk : Talk S V) → IsOutside lock ring outside → Stands side talk → outside.reading (moment_at talk now) packet ≡ Err refusal
refused_read step lock ring side later now packet reply refusal opens one told was outside talk is stands =
    let moment : ℕ = max talk.server.now now in
    let found : IsHeardOf lock ring moment packet (NotOpened refusal) = subst (λ (some : Heard). IsHeardOf lock ring moment packet some) was (told.heard talk.server stands.serves.server) in
    refused_by lock ring moment packet (outside.reading moment packet) refusal opens one (is.reads moment packet told.bytes) found

pub none_first : {S V : Type 0} (now : ℕ) (talk : Talk S V) (read : Result Envelope Refusal) (refusal : Refusal) → read ≡ Err refusal → first_acts now talk read ≡ []
none_first now talk read refusal same = ap (λ (one : Result Envelope Refusal). first_acts now talk one) same

-- the desk does nothing, and the moment counts
quiet_serves : {S V : Type 0} (step : S → ℕ × S) (lock : Lock) (ring : List RingKey) (side later : Side S V) (now : ℕ) (packet : List ℕ) (reply : Reply) (refusal : Refusal) (talk : Talk S V) (sent : List (List ℕ))
    → coming.Tells step lock ring side.desk later.desk side.drawn later.drawn now packet reply → reply.heard ≡ NotOpened refusal → later.service ≡ side.service
    → Stands side talk → Serves later (record talk { server = record talk.server { now = moment_at talk now }; sent = sent })
quiet_serves step lock ring side later now packet reply refusal talk sent told was service stands =
    let moment : ℕ = max talk.server.now now in
    let found : IsHeardOf lock ring moment packet (NotOpened refusal) = subst (λ (some : Heard). IsHeardOf lock ring moment packet some) was (told.heard talk.server stands.serves.server) in
    let nothing = told.refused talk.server refusal stands.serves.server found in
    record { server = nothing.stands; drawn = nothing.drawn ∙ stands.serves.drawn; service = service ∙ stands.serves.service }

serves_then : {S V : Type 0} (end : Option ConnEnd) (side : Side S V) (talk : Talk S V) → IsSendEnd end → (end ≡ None → Stands side talk) → Serves side talk → StandsBy end side talk
serves_then None side talk can stands serves = stands refl
serves_then (Some ends.LinkFault) side talk can stands serves = serves
serves_then (Some ends.Memory) side talk can stands serves = (serves.server, serves.service)
serves_then (Some ends.Ended) side talk can stands serves = absurd can
serves_then (Some (ends.Frame fault)) side talk can stands serves = absurd can
serves_then (Some ends.Start) side talk can stands serves = absurd can
serves_then (Some ends.TurnsSpent) side talk can stands serves = absurd can
serves_then (Some ends.Stopped) side talk can stands serves = absurd can
serves_then (Some (ends.Journal fault)) side talk can stands serves = absurd can

part_one : (end : Option ConnEnd) (acts : List Act) → IsPart end acts acts
part_one None acts = refl
part_one (Some end) acts = ([], sym (append-nil acts))

-- an unknown key
pub did_unknown : {S V : Type 0} (step : S → ℕ × S) (serve : Step V) (lock : Lock) (ring : List RingKey) (side later : Side S V) (wire wire_then : Line) (now : ℕ) (packet : List ℕ) (reply : Reply) (id : ℕ) (end : Option ConnEnd)
    → OpensWhatItSealed lock → OneRefusal lock → IsSendEnd end → side.line ≡ Framed wire → later.line ≡ Framed wire_then
    → coming.Tells step lock ring side.desk later.desk side.drawn later.drawn now packet reply → reply.heard ≡ NotOpened (refusals.NoKey id)
    → later.heard ≡ side.heard → later.service ≡ side.service
    → HearsAlike side.line later.line → Said (Framed wire) side.heard side.told (unknown_key ∷ []) end (Framed wire_then) later.told
    → Did step serve lock ring side (λ rules talk. Hear now packet ∷ []) end later
did_unknown {S} {V} step serve lock ring side later wire wire_then now packet reply id end opens one can line line_then told was heard service alike said = record {
  acts = Hear now packet ∷ [];
  bytes = said.bytes;
  follows = λ outside talk is stands.
      let rules : Rules S V = rules_of step serve outside in
      let moment : ℕ = max talk.server.now now in
      let read = refused_read step lock ring side later now packet reply (refusals.NoKey id) opens one told was outside talk is stands in
      let after : after_act rules talk (Hear now packet) ≡ record talk { server = record talk.server { now = moment }; sent = talk.sent ++ unknown_key ∷ [] } =
      ap (λ (some : Result Envelope Refusal). hears_as rules moment some talk) read in
      let serves = quiet_serves step lock ring side later now packet reply (refusals.NoKey id) talk (talk.sent ++ unknown_key ∷ []) told was service stands in
      record {
        part = part_one end (Hear now packet ∷ []);
        stands = subst (λ (last : Talk S V). StandsBy end later last) (sym after)
            (serves_then end later (record talk { server = record talk.server { now = moment }; sent = talk.sent ++ unknown_key ∷ [] }) can
            (λ goes. record { serves = serves; heard = heard ∙ stands.heard; quiet = subst (λ some. IsQuiet some later.heard) (sym line_then) tt }) serves);
        sends = λ to text tells.
            subst (λ (last : Talk S V). SentBy end later.line to last.sent (text ++ said.bytes)) (sym after)
            (subst (λ some. SentBy end some to (talk.sent ++ unknown_key ∷ []) (text ++ said.bytes)) (sym line_then)
            (said.sends to talk.sent text tt (subst (λ some. LineTells some to talk.sent text) line tells)));
      };
  written = said.written;
  cut = cut_one end step serve lock ring side later.line later.told (Hear now packet) said.bytes alike said.written;
}

drops : {S V : Type 0} (rules : Rules S V) (moment : ℕ) (refusal : Refusal) (talk : Talk S V) → ((id : ℕ) → refusal ≢ refusals.NoKey id)
    → hears_as rules moment (Err refusal) talk ≡ record talk { server = record talk.server { now = moment } }
drops rules moment (refusals.NoKey id) talk other = absurd (other id refl)
drops rules moment (refusals.Size len) talk other = refl
drops rules moment (refusals.KeyMismatch said found) talk other = refl
drops rules moment (refusals.Length said) talk other = refl
drops rules moment (refusals.Padding bytes) talk other = refl

-- another packet that doesn't open
pub did_drop : {S V : Type 0} (step : S → ℕ × S) (serve : Step V) (lock : Lock) (ring : List RingKey) (side later : Side S V) (now : ℕ) (packet : List ℕ) (reply : Reply) (refusal : Refusal)
    → OpensWhatItSealed lock → OneRefusal lock → ((id : ℕ) → refusal ≢ refusals.NoKey id)
    → coming.Tells step lock ring side.desk later.desk side.drawn later.drawn now packet reply → reply.heard ≡ NotOpened refusal
    → later.heard ≡ side.heard → later.service ≡ side.service → later.told ≡ side.told → IsQuiet later.line later.heard
    → ((to : Option CtrState) (packets : List (List ℕ)) (text : List ℕ) → LineTells side.line to packets text → LineTells later.line to packets text)
    → Did step serve lock ring side (λ rules talk. Hear now packet ∷ []) None later
did_drop {S} {V} step serve lock ring side later now packet reply refusal opens one other told was heard service same quiet tell = record {
  acts = Hear now packet ∷ [];
  bytes = [];
  follows = λ outside talk is stands.
      let rules : Rules S V = rules_of step serve outside in
      let moment : ℕ = max talk.server.now now in
      let read = refused_read step lock ring side later now packet reply refusal opens one told was outside talk is stands in
      let after : after_act rules talk (Hear now packet) ≡ record talk { server = record talk.server { now = moment } } =
      ap (λ (some : Result Envelope Refusal). hears_as rules moment some talk) read ∙ drops rules moment refusal talk other in
      record {
        part = refl;
        stands = subst (λ (last : Talk S V). Stands later last) (sym after) (record {
          serves = quiet_serves step lock ring side later now packet reply refusal talk talk.sent told was service stands;
          heard = heard ∙ stands.heard;
          quiet = quiet;
        });
        sends = λ to text tells.
            subst (λ (last : Talk S V). LineTells later.line to last.sent (text ++ [])) (sym after) (same_tells later.line to talk.sent text (tell to talk.sent text tells));
      };
  written = subst (λ some. WrittenBy None [] side.told some) (sym same) (wrote_nothing side.told);
  cut = tt;
}
