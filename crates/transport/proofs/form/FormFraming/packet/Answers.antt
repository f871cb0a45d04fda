use Rattle.std.proofs.Common.{subst}
use Rattle.framing.specs.Streams.{IsOutline}
use Rattle.transport.specs.Forms.{framing_of}
use Rattle.transport.specs.declared.form.Form.{Form}
use Rattle.transport.proofs.form.FormFraming.packet.Goals as goal

pub packet-requires : goal.packet-requires
packet-requires c = subst (λ (f : Form). IsOutline (framing_of f) c.args.frame.now) c.in-Abridged.is c.requires

pub packet-requires-in-Intermediate : goal.packet-requires-in-Intermediate
packet-requires-in-Intermediate c = subst (λ (f : Form). IsOutline (framing_of f) c.args.frame.now) c.in-Intermediate.is c.requires

pub packet-requires-in-Padded : goal.packet-requires-in-Padded
packet-requires-in-Padded c = subst (λ (f : Form). IsOutline (framing_of f) c.args.frame.now) c.in-Padded.is c.requires

pub packet-requires-in-Full : goal.packet-requires-in-Full
packet-requires-in-Full c = subst (λ (f : Form). IsOutline (framing_of f) c.args.frame.now) c.in-Full.is c.requires
