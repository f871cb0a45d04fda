use Rattle.std.proofs.Common.{◌≡◌, ◌∙◌, true, length, ap, sym, arith}
use Rattle.client_core.specs.Draft.{Draft, enters, said_bytes}
use Rattle.client_core.proofs.RoomLemmas.{room_there, takes_full}
use Rattle.client_core.proofs.filling.Draft.say.Goals as goal

pub put_said-requires-clause-room : goal.put_said-requires-clause-room
put_said-requires-clause-room c =
    let size = said_bytes c.args.said.now in
    let fits : enters size c.args.self.now ≡ true = ap (λ n. enters n c.args.self.now) (sym c.said_size.ensures) ∙ (sym c.takes.ensures.told ∙ c.if-not-takes.false) in
    let kept = ap (λ (draft : Draft). draft.room) (c.self.view_is ∙ c.takes.ensures.kept c.if-not-takes.false) in
    omega (arith, room_there size c.args.self.now c.requires.room fits, kept)

pub returns-then-not-takes-clause-takes : goal.returns-then-not-takes-clause-takes
returns-then-not-takes-clause-takes c = takes_full _ _ _ (c.takes.ensures.full c.if-not-takes.true)

pub returns-clause-takes : goal.returns-clause-takes
returns-clause-takes c =
    let same = c.self.view_is ∙ c.takes.ensures.kept c.if-not-takes.false in
    let room = ap (λ (draft : Draft). draft.room) same in
    let rows = ap (λ (draft : Draft). length draft.rows) same in
    record {
      same = omega (arith, c.put_said.ensures.left, c.put_said.ensures.size, room, rows);
      most = omega (arith, c.put_said.ensures.size, rows);
      left = omega (arith, ap (λ (draft : Draft). draft.numbers) same);
    }
