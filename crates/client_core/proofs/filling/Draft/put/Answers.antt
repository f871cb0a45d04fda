use Rattle.std.proofs.Common.{length, ap, arith}
use Rattle.client_core.specs.Draft.{Draft}
use Rattle.client_core.proofs.RoomLemmas.{room_there}
use Rattle.client_core.proofs.filling.Draft.put.Goals as goal

pub put_sent-requires-clause-room : goal.put_sent-requires-clause-room
put_sent-requires-clause-room c =
    omega (arith, room_there (length c.args.body.now) c.args.self.now c.requires.room c.requires.fits, ap (λ (draft : Draft). draft.room) c.self.view_is)

pub returns-clause-takes : goal.returns-clause-takes
returns-clause-takes c =
    let room = ap (λ (draft : Draft). draft.room) c.self.view_is in
    let rows = ap (λ (draft : Draft). length draft.rows) c.self.view_is in
    record {
      same = omega (arith, c.put_sent.ensures.left, c.put_sent.ensures.size, room, rows);
      most = omega (arith, c.put_sent.ensures.size, rows);
      left = omega (arith, c.push_reserved.ensures.len, c.push_reserved.ensures.capacity, ap (λ (draft : Draft). draft.numbers) c.self.view_is);
    }

pub push_reserved-requires : goal.push_reserved-requires
push_reserved-requires c = omega (arith, c.requires.place, ap (λ (draft : Draft). draft.numbers) c.self.view_is)
