use Rattle.std.proofs.Common.{◌≡◌, ◌+◌, ℕ, List, [], length, ap, subst, arith}
use Rattle.server_dispatch.specs.declared.dues.Due.{Due}
use Rattle.server_session.specs.Unsaid.{IsCalled}
use Rattle.server_core.specs.Room.{packet_bytes, packet_messages}
use Rattle.server_core.specs.SettlingAll.{calls_by}
use Rattle.server_core.specs.Speech.{IsRoomFor}
use Rattle.server_core.proofs.room.PacketRoom.new.Goals as goal

pub returns-clause-room : goal.returns-clause-room
returns-clause-room c =
    let dues = c.in_ok-dues.dues in
    let limit = c.blocked.result + c.len-count.result in
    let called = c.called_by-called.result in
    let speech = c.in_ok-speech_for.field-0 in
    let again = c.as_slice-2.ensures.value in
    let count : c.len-count.result ≡ length dues.items = omega (arith, c.len-count.ensures, dues.ok.0) in
    let long = ap (λ (dues : List Due). length dues) again in
    record {
      few = omega (arith, c.in_ok-dues.ensures.few, dues.ok.0);
      no_acks = c.in_ok-with_capacity.ensures.items;
      acks = omega (arith, c.in_ok-with_capacity.ensures.capacity, c.len-count.ensures, dues.ok.0);
      called = subst (λ (dues : List Due). IsCalled (calls_by dues) c.args.standing.now called) c.as_slice.ensures.value c.called_by-called.ensures;
      speech = subst (λ (dues : List Due). IsRoomFor (packet_messages (length dues) limit + called.count) (packet_bytes dues limit + called.bytes) speech) again c.in_ok-speech_for.ensures.room;
      entries = subst (λ (count : ℕ). c.in_ok-new.field-0 ≡ record { entries = []; room = count + limit }) count c.in_ok-new.ensures;
      numbers = omega (arith, long, c.in_ok-speech_for.ensures.numbers);
    }

pub returns-clause-dues : goal.returns-clause-dues
returns-clause-dues c = λ now session stands. c.in_ok-dues.ensures.dues now session stands
