use Rattle.std.proofs.Common.{◌∙◌, ◌-◌, ℕ, List, Option, Some, ap, subst, sym}
use Rattle.call_table.specs.Kept.{Contents as Calls}
use Rattle.call_table.specs.Table.{at}
use Rattle.client_rules.specs.Client.{calls_of, with_call}
use Rattle.client_rules.specs.Filling.{number_of, says_drop_of, undropped}
use Rattle.client_core.specs.Kept.{Contents}
use Rattle.call_table.specs.declared.row.Row.{Row}
use Rattle.client_core.specs.Owed.{SameQueue}
use Rattle.client_core.proofs.FrontLemmas.{same_flagged}
use Rattle.client_core.proofs.GoesLemmas.{drop_leaves, goes_so, kept_calls, moved, same_goes, undropped_stands}
use Rattle.client_core.proofs.TurnLemmas.{number_is}
use Rattle.client_core.proofs.core_client.Core.says_drop.Goals as goal

pub invariant_of-self : goal.invariant_of-self
invariant_of-self g c =
    (rw (c.set_flags.ensures.kept) (c.calls_stay_sound.ensures.flagged _ c.args.call _ _ c.self-2.invariant.0), c.self-2.invariant.1, c.self-2.invariant.2)

pub returns-then-not-say-clause-goes : goal.returns-then-not-say-clause-goes
returns-then-not-say-clause-goes g c filling is =
    let number = number_is (at c.args.call (calls_of filling.client)) (Some c.in-Some.living) (c.in-Some.ensures.living filling.client.table (kept_calls _ _ _ filling c.self.view_is is)) in
    moved _ _ (λ (own : Option ℕ). says_drop_of c.args.call own filling) (number_of (at c.args.call (calls_of filling.client))) (Some c.in-Some.living.number) number
    (c.say.ensures.stays c.if-not-say.true filling (with_call c.args.call undropped) is)

pub returns-clause-goes : goal.returns-clause-goes
returns-clause-goes g c filling is =
    let number = number_is (at c.args.call (calls_of filling.client)) (Some c.in-Some.living) (c.in-Some.ensures.living filling.client.table (kept_calls _ _ _ filling c.self.view_is is)) in
    moved _ _ (λ (own : Option ℕ). says_drop_of c.args.call own filling) (number_of (at c.args.call (calls_of filling.client))) (Some c.in-Some.living.number) number
    (same_goes _ _ _ _ (c.say.ensures.then c.if-not-say.false filling (with_call c.args.call undropped) is)
    (goes_so c.say.new.self _ _ c.say.new.draft _ (with_call c.args.call undropped) c.self-2.view_is (c.say.ensures.goes c.if-not-say.false filling is) (λ client rest. rest)
    (λ client calls. undropped_stands _ client.table c.args.call c.flags-flags.result (c.set_flags.ensures.stands client.table calls) (c.flags-flags.ensures.flags client.table calls))))

pub returns-clause-left : goal.returns-clause-left
returns-clause-left g c went filling is first =
    let number = number_is (at c.args.call (calls_of filling.client)) (Some c.in-Some.living) (c.in-Some.ensures.living filling.client.table (kept_calls _ _ _ filling c.self.view_is is)) in
    drop_leaves c.args.self.now c.args.draft.now filling c.args.call c.in-Some.living.number _ is number c.say.ensures.size (sym c.say.ensures.fits ∙ c.if-not-say.false) first

pub returns-clause-queued : goal.returns-clause-queued
returns-clause-queued g c =
    let before = ap (λ (core : Contents). core.calls.rows) c.self-2.view_is ∙ ap (λ (calls : Calls). calls.rows) c.say.ensures.calls in
    subst (λ (rows : List Row). SameQueue rows c.set_flags.new.self.rows) before
    (rw (c.set_flags.ensures.kept) (same_flagged _ (c.args.call.n - 1) c.self-2.inside.calls.rows))
