use Rattle.std.proofs.Common.{take}
use Rattle.server_node.specs.Steps.{Framings, IsSameIn, going_out}
use Rattle.server_node.proofs.sending.put_all.Given as goal

abbrev pub invariant-loop-out : goal.invariant-loop-out
invariant-loop-out l = record {
  framed : Framings l.fn.wire l.fn.text (going_out l.heard (take l.out-index l.outs.outs)) l.wire l.text;
  same_in : IsSameIn l.fn.wire l.wire;
}
