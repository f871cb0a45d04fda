use Rattle.std.proofs.Common.{◌∙◌, ◌<◌, ◌≤◌, length, take, subst, arith}
use Rattle.client_core.specs.Kept.{Stands}
use Rattle.client_rules.specs.Client.{Client}
use Rattle.cmd_call.specs.Script.{given_all}
use Rattle.cmd_call.proofs.Submitting.{after_of, all_given, gives_on, none_untaken, taken_on, untaken_here}
use Rattle.cmd_call.proofs.asking.submit_all.Goals as goal

pub returns-in-Err-clause-told : goal.returns-in-Err-clause-told
returns-in-Err-clause-told c whole stands none =
    let calls = c.args.script.now in
    let k = c.loop-place.place in
    let within : k < length calls = omega arith in
    untaken_here calls k c.body.result.now c.earlier-after.result within c.body.ensures (after_of calls k c.after.result c.earlier-after.result c.earlier-after.ensures c.after.ensures)
    whole c.line.result c.in-Err.fault none c.line.ensures (c.loop-place.invariant.untaken whole stands none)
    (c.in-Err.ensures.refused (given_all (take k calls) whole) (c.loop-place.invariant.stands whole stands))

pub loop-place-preserved : goal.loop-place-preserved
loop-place-preserved c =
    let calls = c.args.script.now in
    let k = c.loop-place.place in
    let within : k < length calls = omega arith in
    let after = after_of calls k c.after.result c.earlier-after.result c.earlier-after.ensures c.after.ensures in
    record {
      stands = λ whole stands.
          subst (λ (client : Client). Stands c.submit.new.self client) (gives_on calls k c.body.result.now c.earlier-after.result within c.body.ensures after whole)
          (c.in_default.ensures.stands (given_all (take k calls) whole) (c.loop-place.invariant.stands whole stands));
      untaken = λ whole stands none.
          taken_on calls k c.body.result.now c.earlier-after.result within c.body.ensures after whole none
          (c.in_default.ensures.refused (given_all (take k calls) whole) (c.loop-place.invariant.stands whole stands))
          ∙ c.loop-place.invariant.untaken whole stands none;
      keys = c.submit.ensures.keys ∙ c.loop-place.invariant.keys;
    }

pub returns : goal.returns
returns c =
    let calls = c.args.script.now in
    let k = c.loop-place.place in
    let done : length calls ≤ k = omega arith in
    record {
      told = λ whole stands none. none_untaken calls k done (c.loop-place.invariant.untaken whole stands none);
      stands = λ whole stands. subst (λ (client : Client). Stands c.loop-place.client client) (all_given calls k whole done) (c.loop-place.invariant.stands whole stands);
      keys = c.loop-place.invariant.keys;
    }
