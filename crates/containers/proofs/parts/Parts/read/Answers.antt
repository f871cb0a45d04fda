use Rattle.std.proofs.Common.{arith}
use Rattle.containers.proofs.Places.{are_whole}
use Rattle.containers.proofs.parts.Parts.read.Goals as goal

pub invariant_of-result : goal.invariant_of-result
invariant_of-result c = record {
  few = omega arith;
  whole = are_whole c.args.number 0 c.read_u32-count.result c.split_at.result.1.now c.in_ok-check.ensures;
}
