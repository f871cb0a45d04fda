use Rattle.std.proofs.Common.{◌≡◌, ◌∙◌, ◌+◌, true, length, ap, sym, arith}
use Rattle.client_core.specs.Calling.{wrap_bytes}
use Rattle.client_core.specs.Draft.{Draft, enters}
use Rattle.client_core.proofs.RoomLemmas.{count_there, room_there, takes_full}
use Rattle.client_core.proofs.filling.Draft.send.Goals as goal

pub put_sent-requires-clause-room : goal.put_sent-requires-clause-room
put_sent-requires-clause-room c =
    let size = wrap_bytes c.args.wrap + length c.args.body.now in
    let fits : enters size c.args.self.now ≡ true = ap (λ n. enters (n + length c.args.body.now) c.args.self.now) (sym c.wrap_size.ensures) ∙ (sym c.takes.ensures.told ∙ c.if-not-takes.false) in
    let kept = ap (λ (draft : Draft). draft.room) (c.self.view_is ∙ c.takes.ensures.kept c.if-not-takes.false) in
    omega (arith, room_there size c.args.self.now (c.requires.room (count_there size c.args.self.now fits)) fits, kept)

pub returns-then-not-takes-clause-takes : goal.returns-then-not-takes-clause-takes
returns-then-not-takes-clause-takes c = takes_full _ _ _ (c.takes.ensures.full c.if-not-takes.true)

pub returns-clause-takes : goal.returns-clause-takes
returns-clause-takes c =
    let same = c.self.view_is ∙ c.takes.ensures.kept c.if-not-takes.false in
    let room = ap (λ (draft : Draft). draft.room) same in
    let rows = ap (λ (draft : Draft). length draft.rows) same in
    record {
      same = omega (arith, c.put_sent.ensures.left, c.put_sent.ensures.size, room, rows);
      most = omega (arith, c.put_sent.ensures.size, rows);
      left = omega (arith, c.push_reserved.ensures.len, c.push_reserved.ensures.capacity, ap (λ (draft : Draft). draft.numbers) same);
    }

pub push_reserved-requires : goal.push_reserved-requires
push_reserved-requires c =
    let size = wrap_bytes c.args.wrap + length c.args.body.now in
    let fits : enters size c.args.self.now ≡ true = ap (λ n. enters (n + length c.args.body.now) c.args.self.now) (sym c.wrap_size.ensures) ∙ (sym c.takes.ensures.told ∙ c.if-not-takes.false) in
    let numbers = ap (λ (draft : Draft). draft.numbers) (c.self.view_is ∙ c.takes.ensures.kept c.if-not-takes.false) in
    omega (arith, c.requires.place (count_there size c.args.self.now fits), numbers)
