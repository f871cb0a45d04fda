use Rattle.std.proofs.Common.{◌≡◌, ◌∙◌, refl, sym}
use Rattle.std.proofs.lemmas.Bool.{true≢false}
use Rattle.call_table.specs.declared.call.Group.TheVariants as group
use Rattle.call_table.specs.declared.call.Fate.TheVariants as fate
use Rattle.call_table.specs.Table.{Call, Queued, at, settled}
use Rattle.client_rules.specs.Client.{calls_of, with_call}
use Rattle.client_rules.specs.Filling.{Never, Waits, Goes as Going}
use Rattle.client_core.specs.Draft.{LeavesQueue, nothing_yet}
use Rattle.client_core.specs.Due.{goes_at}
use Rattle.client_core.proofs.GivingLemmas.{state_waits}
use Rattle.client_core.proofs.GoesLemmas.{goes_so, if_any, is_there, turn_any, turn_comes}
use Rattle.client_core.proofs.QueueLemmas.{left_group}
use Rattle.client_core.proofs.QuietLemmas.{goes_next}
use Rattle.client_core.proofs.SayLemmas.{goes_told}
use Rattle.client_core.proofs.core_client.Core.gives_up_call.Goals as goal

pub invariant_of-self : goal.invariant_of-self
invariant_of-self g c =
    (rw (c.settle.ensures.kept) (c.calls_stay_sound.ensures.settled _ c.args.call (fate.Refused 0) _ c.self.invariant.0), c.self.invariant.1, c.self.invariant.2)

pub returns-in-Goes-clause-goes : goal.returns-in-Goes-clause-goes
returns-in-Goes-clause-goes g c filling is still =
    absurd (true≢false (goes_told filling.client (at c.args.call (calls_of filling.client)) (Going c.in-Goes.field-0) (c.in-Goes.ensures.told filling.client is.client)
    (is_there _ Queued (sym (c.tables_tell.ensures.states _ _ is.client.calls c.args.call) ∙ c.requires.queued)) ∙ still))

pub returns-in-Goes-clause-waits : goal.returns-in-Goes-clause-waits
returns-in-Goes-clause-waits g c out filling is still =
    absurd (true≢false (goes_told filling.client (at c.args.call (calls_of filling.client)) (Going c.in-Goes.field-0) (c.in-Goes.ensures.told filling.client is.client)
    (is_there _ Queued (sym (c.tables_tell.ensures.states _ _ is.client.calls c.args.call) ∙ c.requires.queued)) ∙ still))

pub returns-in-Goes-clause-none : goal.returns-in-Goes-clause-none
returns-in-Goes-clause-none g c filling other is still =
    absurd (true≢false (goes_told filling.client (at c.args.call (calls_of filling.client)) (Going c.in-Goes.field-0) (c.in-Goes.ensures.told filling.client is.client)
    (is_there _ Queued (sym (c.tables_tell.ensures.states _ _ is.client.calls c.args.call) ∙ c.requires.queued)) ∙ still))

pub returns-in-Waits-clause-goes : goal.returns-in-Waits-clause-goes
returns-in-Waits-clause-goes g c filling is still =
    turn_comes _ _ filling c.args.call Waits (sym is.is_full) (if_any (at c.args.call (calls_of filling.client)) _ (λ (one : Call). is))
    (c.in-Waits.ensures.told filling.client is.client)
    (is_there _ Queued (sym (c.tables_tell.ensures.states _ _ is.client.calls c.args.call) ∙ c.requires.queued))

pub returns-in-Waits-clause-waits : goal.returns-in-Waits-clause-waits
returns-in-Waits-clause-waits g c out filling is still =
    turn_any (λ own. own ≡ filling) filling c.args.call Waits (sym is.is_full)
    (if_any (at c.args.call (calls_of filling.client)) _ (λ (one : Call). refl)) (c.in-Waits.ensures.told filling.client is.client)
    (is_there _ Queued (sym (c.tables_tell.ensures.states _ _ is.client.calls c.args.call) ∙ c.requires.queued))

pub returns-in-Waits-clause-none : goal.returns-in-Waits-clause-none
returns-in-Waits-clause-none g c filling other is still =
    turn_any (λ own. goes_at own.client other ≡ goes_at filling.client other) filling c.args.call Waits (sym is.is_full)
    (if_any (at c.args.call (calls_of filling.client)) _ (λ (one : Call). refl)) (c.in-Waits.ensures.told filling.client is.client)
    (is_there _ Queued (sym (c.tables_tell.ensures.states _ _ is.client.calls c.args.call) ∙ c.requires.queued))

pub returns-in-Never-clause-goes : goal.returns-in-Never-clause-goes
returns-in-Never-clause-goes g c filling is still =
    turn_comes _ _ filling c.args.call Never (sym is.is_full)
    (if_any (at c.args.call (calls_of filling.client)) _ (λ (one : Call).
    goes_so c.args.self.now _ _ nothing_yet filling (with_call c.args.call (settled (fate.Refused 0))) c.self.view_is is
    (λ client rest. rest) (λ client calls. c.settle.ensures.stands client.table calls)))
    (c.in-Never.ensures.told filling.client is.client)
    (is_there _ Queued (sym (c.tables_tell.ensures.states _ _ is.client.calls c.args.call) ∙ c.requires.queued))

pub returns-in-Never-clause-left : goal.returns-in-Never-clause-left
returns-in-Never-clause-left g c went filling is still =
    turn_any (LeavesQueue c.args.call filling) filling c.args.call Never (sym is.is_full)
    (if_any (at c.args.call (calls_of filling.client)) _ (λ (one : Call) place there.
    left_group group.Queued (settled (fate.Refused 0)) (λ own. refl) (calls_of filling.client) c.args.call place there))
    (c.in-Never.ensures.told filling.client is.client)
    (is_there _ Queued (sym (c.tables_tell.ensures.states _ _ is.client.calls c.args.call) ∙ c.requires.queued))

pub returns-in-Never-clause-none : goal.returns-in-Never-clause-none
returns-in-Never-clause-none g c filling other is still =
    let queued = sym (c.tables_tell.ensures.states _ _ is.client.calls c.args.call) ∙ c.requires.queued in
    turn_any (λ own. goes_at own.client other ≡ goes_at filling.client other) filling c.args.call Never (sym is.is_full)
    (if_any (at c.args.call (calls_of filling.client)) _ (λ (one : Call). goes_next c.args.call filling.client (state_waits (at c.args.call (calls_of filling.client)) queued) other))
    (c.in-Never.ensures.told filling.client is.client)
    (is_there _ Queued queued)
