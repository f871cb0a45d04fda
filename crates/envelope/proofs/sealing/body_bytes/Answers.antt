use Rattle.std.proofs.Common.{◌≡◌, ◌+◌, ◌-◌, length, ap, arith, length-drop}
use Rattle.envelope.proofs.sealing.body_bytes.Goals as goal

pub returns-clause-value : goal.returns-clause-value
returns-clause-value c = omega (arith, length-drop 56 c.args.text.now.bytes, ap length c.as_slice.ensures.value)

pub returns-clause-bytes : goal.returns-clause-bytes
returns-clause-bytes c = c.parts_are_bytes.ensures.drop 56 c.args.text.now.bytes c.as_slice.ensures.bytes
