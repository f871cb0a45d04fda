use Rattle.std.proofs.Common.{◌∙◌, None, refl, subst, sym}
use Rattle.client_core.specs.Keys.{HasKeys, Keys}
use Rattle.cmd_call.specs.Inner.{keys_of}
use Rattle.cmd_call.specs.Keys.{client_under}
use Rattle.draws.specs.Draws.{word_after}
use Rattle.sim_text.specs.Faults.{fault_of}
use Rattle.cmd_pair.proofs.Checking.{untaken-by}
use Rattle.cmd_pair.proofs.checks.client_of.Goals as goal

pub returns-in-Ok-clause-given : goal.returns-in-Ok-clause-given
returns-in-Ok-clause-given g c =
    let keys = keys_of c.in-Some.keys in
    let first = client_under keys (word_after g.D.Draw.step 0 c.args.draw.now) in
    record {
      keys = keys;
      found = sym c.in-Some.ensures.keys;
      taken = c.in-Ok.ensures.told first c.in_ok-client.ensures.stands refl;
      stands = c.in-Ok.ensures.stands first c.in_ok-client.ensures.stands;
      drawn = c.in_ok-client.ensures.after;
      has = subst (λ (k : Keys). HasKeys c.args.ring.now k) (sym (c.submit_all.ensures.keys ∙ c.in_ok-client.ensures.keys)) (c.found_keys_are_there.ensures c.args.ring.now c.args.options.now.key None keys (sym c.in-Some.ensures.keys));
    }

pub returns-in_ok-refused_call-in-Err-clause-halts : goal.returns-in_ok-refused_call-in-Err-clause-halts
returns-in_ok-refused_call-in-Err-clause-halts g c =
    let keys = keys_of c.in-Some.keys in
    let first = client_under keys (word_after g.D.Draw.step 0 c.args.draw.now) in
    untaken-by c.args.options.now c.args.script.now c.args.ring.now g.D.Draw.step c.args.draw.now c.opening.new.draw keys c.in-Err.untaken.line (fault_of c.in-Err.untaken.fault) c.in_ok-refused_call-in-Err.field-0 (sym c.in-Some.ensures.keys)
    c.in_ok-client.ensures.after (c.in-Err.ensures.told first c.in_ok-client.ensures.stands refl) c.in_ok-refused_call-in-Err.ensures
