use Rattle.std.proofs.Common.{refl}
use Rattle.secret_relay.proofs.Looks.{packet_here, misfit_here, outline_of, spoilt_front}
use Rattle.secret_relay.proofs.look.look_at.Goals as goal

pub packet-requires : goal.packet-requires
packet-requires c = outline_of c.args.from c.args.text.now c.in-Size.size c.in-Size.ensures c.if-text-size.false

pub returns-in-Err : goal.returns-in-Err
returns-in-Err c = spoilt_front c.args.from 0 c.args.text.now c.in-Size.size c.in-Err.fault c.in-Size.ensures c.if-text-size.false c.in-Err.ensures

pub returns-then-not-can_go_out : goal.returns-then-not-can_go_out
returns-then-not-can_go_out c =
    misfit_here c.args.from c.args.to c.args.text.now c.in-Size.size _ c.in-Ok.span c.if-text-size.false c.in-Ok.ensures
    (λ fits. let yes = c.can_go_out.ensures.1 fits in let no = c.if-not-can_go_out.true in cc) refl

pub returns : goal.returns
returns c =
    packet_here c.args.from c.args.to c.args.text.now c.in-Size.size c.in-Ok.span c.if-text-size.false c.in-Ok.ensures
    (c.can_go_out.ensures.0 c.if-not-can_go_out.false)
