-- What becomes of a course by a packet that a client heard.
use Rattle.std.proofs.Common.{◌≡◌, ℕ, max, Bool, true, false, List, Ok, Err, sym, subst, ◌∙◌}
use Rattle.octets.specs.declared.memory.Memory.{Memory}
use Rattle.client_rules.specs.Client.{Client}
use Rattle.client_core.specs.declared.holder.Holder.{Holder}
use Rattle.client_node.specs.Course.{Course, Reading, heard_in, hears, is_decided, phase_after, renews, renews_unless}
use Rattle.client_node.specs.Standing.{HeardAs, StandsAs, StandsFor, phase_of}
use Rattle.client_node.specs.Took.{TookPacket}
use Rattle.client_node.specs.declared.end.End.TheVariants as ends

-- what was heard, where memory was there
pub packet_heard : {S : Type 0} (reading : Reading) (now : ℕ) (course : Course S) (packet : List ℕ) (kept left : Holder) (draw : S)
    → StandsAs kept draw course
    → HeardAs (phase_of kept) course.client (heard_in (phase_of kept) now (reading (max course.client.now now) packet) course.client) left (Ok tt)
    → StandsAs left draw (hears reading now course packet)
packet_heard reading now course packet kept left draw stands heard =
    let opened = reading (max course.client.now now) packet in
    let same = subst (λ phase. (phase_of left ≡ phase_after phase (heard_in phase now opened course.client)) × StandsFor left (heard_in phase now opened course.client)) stands.phase heard in
    record { phase = same.0; client = same.1; draw = stands.draw }

pub packet_memory : {S : Type 0} (step : S → ℕ × S) (reading : Reading) (now : ℕ) (course : Course S) (packet : List ℕ) (kept left : Holder) (draw : S) (memory : Memory)
    → StandsAs kept draw course
    → HeardAs (phase_of kept) course.client (heard_in (phase_of kept) now (reading (max course.client.now now) packet) course.client) left (Err memory)
    → TookPacket step reading now course packet (Err ends.Memory) left draw
packet_memory step reading now course packet kept left draw memory stands heard =
    record { phase = heard.0 ∙ stands.phase; client = heard.1; draw = stands.draw }

pub packet_decided : {S : Type 0} (step : S → ℕ × S) (reading : Reading) (now : ℕ) (course : Course S) (packet : List ℕ) (kept left : Holder) (draw : S) (decided : Bool)
    → StandsAs kept draw course
    → HeardAs (phase_of kept) course.client (heard_in (phase_of kept) now (reading (max course.client.now now) packet) course.client) left (Ok tt)
    → ((whole : Client) → StandsFor left whole → decided ≡ is_decided whole) → decided ≡ true
    → TookPacket step reading now course packet (Err ends.Decided) left draw
packet_decided step reading now course packet kept left draw decided stands heard tells all_are =
    let after = packet_heard reading now course packet kept left draw stands heard in
    let all : is_decided (hears reading now course packet).client ≡ true = sym (tells (hears reading now course packet).client after.client) ∙ all_are in
    (all, subst (λ test. StandsAs left draw (renews_unless test step (hears reading now course packet))) (sym all) after)

pub packet_goes : {S : Type 0} (step : S → ℕ × S) (reading : Reading) (now : ℕ) (course : Course S) (packet : List ℕ) (kept left renewed : Holder) (draw drawn : S) (decided : Bool)
    → StandsAs kept draw course
    → HeardAs (phase_of kept) course.client (heard_in (phase_of kept) now (reading (max course.client.now now) packet) course.client) left (Ok tt)
    → ((whole : Client) → StandsFor left whole → decided ≡ is_decided whole) → decided ≡ false
    → ((after : Course S) → StandsAs left draw after → StandsAs renewed drawn (renews step after))
    → TookPacket step reading now course packet (Ok tt) renewed drawn
packet_goes step reading now course packet kept left renewed draw drawn decided stands heard tells not_all renewal =
    let after = packet_heard reading now course packet kept left draw stands heard in
    let some : is_decided (hears reading now course packet).client ≡ false = sym (tells (hears reading now course packet).client after.client) ∙ not_all in
    (some, subst (λ test. StandsAs renewed drawn (renews_unless test step (hears reading now course packet))) (sym some) (renewal (hears reading now course packet) after))
