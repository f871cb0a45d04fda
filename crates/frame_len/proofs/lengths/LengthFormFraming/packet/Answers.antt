use Rattle.std.proofs.Common.{arith}
use Rattle.frame_len.proofs.Parts.{frame_at}
use Rattle.frame_len.proofs.lengths.LengthFormFraming.packet.Goals as goal

pub returns : goal.returns
returns c = frame_at c.args.self.now.padded c.args._number c.args.frame.now (λ i. omega (arith, c.type_inv.frame i)) c.requires c.payload_bytes-payload.result c.payload_bytes-payload.ensures
