use Rattle.std.proofs.Common.{◌<◌, ◌≡◌, List, length, get_or, subst, ◌∙◌}
use Rattle.server_output.specs.declared.outs.Out.{Out}
use Rattle.server_node.proofs.Going.{framed_more}
use Rattle.server_node.proofs.sending.put_all.Goals as goal

pub loop-out-preserved : goal.loop-out-preserved
loop-out-preserved c =
    let so_far = c.loop-out.invariant in
    let now = c.put_heard.ensures.same_in in
    let i = c.loop-out.out-index in
    let out = c.out-item.result in
    record {
      framed = framed_more c.args.wire.now c.loop-out.wire c.put_heard.new.wire c.args.text.now c.loop-out.text c.put_heard.new.text c.args.heard.now c.args.outs.now.outs i out
          (subst (λ (outs : List Out). i < length outs) c.as_slice-out-items.ensures c.loop-out-test.true)
          (subst (λ (outs : List Out). out ≡ get_or outs i out) c.as_slice-out-items.ensures c.out-item.is) so_far.framed c.in_ok-put_heard.ensures.framed;
      same_in = (now.0 ∙ so_far.same_in.0, now.1 ∙ so_far.same_in.1, now.2 ∙ so_far.same_in.2);
    }
