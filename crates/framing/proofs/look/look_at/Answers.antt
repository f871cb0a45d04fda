use Rattle.std.proofs.Common.{inr}
use Rattle.framing.proofs.Looking.{whole_frame, outline_of, spoilt_front}
use Rattle.framing.proofs.look.look_at.Goals as goal

pub packet-requires : goal.packet-requires
packet-requires g c =
    outline_of (g.F.Framing.form c.args.form.now) (g.met.F.Framing.lawful c.args.form.now) c.args.text.now c.in-Size.size c.in-Size.ensures c.if-text-size.false

pub returns-then-text-size : goal.returns-then-text-size
returns-then-text-size g c = inr (record { size = c.in-Size.size; sized = c.in-Size.ensures; short = c.if-text-size.true })

pub returns-in-Ok : goal.returns-in-Ok
returns-in-Ok g c =
    whole_frame (g.F.Framing.form c.args.form.now) c.args.number c.args.text.now c.in-Size.size c.in-Ok.span c.if-text-size.false c.in-Ok.ensures

pub returns-in-Err : goal.returns-in-Err
returns-in-Err g c =
    spoilt_front (g.F.Framing.form c.args.form.now) (g.met.F.Framing.lawful c.args.form.now) c.args.number c.args.text.now c.in-Size.size c.in-Err.fault
    c.in-Size.ensures c.if-text-size.false c.in-Err.ensures
