use Rattle.std.proofs.Common.{arith}
use Rattle.server_node.proofs.taking.are_bytes.Goals as goal

pub returns : goal.returns
returns c k = omega (arith, c.type_inv.packet k)
