use Rattle.std.proofs.Common.{arith, ◌∙◌}
use Rattle.client_node.specs.Standing.{kept_of}
use Rattle.client_node.proofs.KindLemmas.{kind_found, none_more}
use Rattle.client_node.proofs.calls.first_between.Goals as goal

pub returns-then-is_one : goal.returns-then-is_one
returns-then-is_one c =
    kind_found c.args.kind (kept_of c.args.client.now).calls.rows c.loop-place.place (omega (arith, c.requires.within, c.loop-place-test.true)) (c.is_one.ensures ∙ c.if-is_one.true)

pub loop-place-preserved : goal.loop-place-preserved
loop-place-preserved c =
    none_more c.args.kind (kept_of c.args.client.now).calls.rows c.args.first c.loop-place.place c.loop-place.invariant (c.is_one.ensures ∙ c.if-is_one.false)
