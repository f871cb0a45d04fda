use Rattle.std.proofs.Common.{◌≡◌, ◌∙◌, ℕ, ◌+◌, ◌-◌, List, length, take, drop, sym, subst, ap}
use Rattle.std.specs.Prelude.{slice_range}
use Rattle.secret_relay.specs.Going.{HasRoom}
use Rattle.secret_relay.proofs.Looks.{lent_is, one_more, rest_is, room_left, room_now}
use Rattle.secret_relay.proofs.passing.pass_on.Goals as goal

pub put_frame-requires-clause-room : goal.put_frame-requires-clause-room
put_frame-requires-clause-room c =
    let text : List ℕ = c.args.text.now in
    let taken : ℕ = c.frames.taken in
    let start : ℕ = c.in-Packet.start in
    let end : ℕ = c.in-Packet.end in
    let rest : List ℕ = take (length text - taken) (drop taken text) in
    let is : rest ≡ drop taken text = rest_is text taken in
    room_now c.args.from c.args.to rest _ start end c.in-Packet.size c.frames.into.room
    (lent_is text taken start end ∙ ap (λ (l : List ℕ). slice_range l start end) (sym is)) c.in-Packet.ensures
    (subst (λ (l : List ℕ). HasRoom c.args.from l c.frames.into.room) (sym is) c.frames.invariant.room)

pub frames-preserved : goal.frames-preserved
frames-preserved c =
    let text : List ℕ = c.args.text.now in
    let taken : ℕ = c.frames.taken in
    let start : ℕ = c.in-Packet.start in
    let end : ℕ = c.in-Packet.end in
    let rest : List ℕ = take (length text - taken) (drop taken text) in
    let packet : List ℕ = take (taken + end - (taken + start)) (drop (taken + start) text) in
    let is : rest ≡ drop taken text = rest_is text taken in
    let packet_is : packet ≡ slice_range rest start end = lent_is text taken start end ∙ ap (λ (l : List ℕ). slice_range l start end) (sym is) in
    let room = room_left c.args.from c.args.to text taken start end c.in-Packet.size c.frames.into.room c.put_frame.new.into.room rest packet
    is packet_is c.frames.invariant.within c.in-Packet.ensures
    (subst (λ (l : List ℕ). HasRoom c.args.from l c.frames.into.room) (sym is) c.frames.invariant.room) c.put_frame.ensures.room in
    record {
      within = room.0;
      room = room.1;
      so_far = one_more c.args.from c.args.to c.requires.from_plain text taken start end c.in-Packet.size rest packet
          c.args.into.now.bytes c.frames.into.bytes c.put_frame.new.into.bytes is packet_is c.frames.invariant.so_far c.in-Packet.ensures
          c.put_frame.ensures.written;
    }
