use Rattle.std.proofs.Common.{◌≡◌, ◌∙◌, ◌-◌, Some, ap, refl, sym, arith}
use Rattle.std.proofs.lemmas.Bool.{true≢false}
use Rattle.call_table.specs.declared.call.Group.TheVariants as group
use Rattle.call_table.specs.declared.call.Fate.TheVariants as fate
use Rattle.call_table.specs.Table.{Call, Queued, at, changed, settled}
use Rattle.client_rules.specs.Client.{calls_of, with_call}
use Rattle.client_rules.specs.Filling.{Never, Waits, Goes as Going}
use Rattle.call_table.specs.Kept.{Contents as Calls, settled_row}
use Rattle.client_core.specs.Draft.{LeavesQueue}
use Rattle.client_core.specs.Kept.{Contents}
use Rattle.client_core.specs.Owed.{follows_at, holds_back}
use Rattle.client_core.proofs.FrontLemmas.{never_not, room_behind, room_never, room_waits, waits_not, waits_so}
use Rattle.client_core.proofs.GoesLemmas.{goes_so, if_any, is_there, turn_any, turn_comes}
use Rattle.client_core.proofs.QueueLemmas.{left_group}
use Rattle.client_core.proofs.core_client.Core.says_call.Goals as goal

pub invariant_of-self : goal.invariant_of-self
invariant_of-self g c =
    (rw (c.settle.ensures.kept) (c.calls_stay_sound.ensures.settled _ c.args.call (fate.Refused 0) _ c.self.invariant.0), c.self.invariant.1, c.self.invariant.2)

pub returns-in-Goes-clause-goes : goal.returns-in-Goes-clause-goes
returns-in-Goes-clause-goes g c filling is =
    turn_comes _ _ filling c.args.call (Going c.in-Goes.wrap) (sym is.is_full ∙ c.requires.room)
    (c.sends_call.ensures.goes filling is) (c.in-Goes.ensures.told filling.client is.client)
    (is_there _ Queued (sym (c.tables_tell.ensures.states _ _ is.client.calls c.args.call) ∙ c.requires.queued))

pub returns-in-Never-clause-goes : goal.returns-in-Never-clause-goes
returns-in-Never-clause-goes g c filling is =
    turn_comes _ _ filling c.args.call Never (sym is.is_full ∙ c.requires.room)
    (if_any (at c.args.call (calls_of filling.client)) _ (λ (one : Call).
    goes_so c.args.self.now _ _ c.args.draft.now filling (with_call c.args.call (settled (fate.Refused 0))) c.self.view_is is
    (λ client rest. rest) (λ client calls. c.settle.ensures.stands client.table calls)))
    (c.in-Never.ensures.told filling.client is.client)
    (is_there _ Queued (sym (c.tables_tell.ensures.states _ _ is.client.calls c.args.call) ∙ c.requires.queued))

pub returns-in-Goes-clause-left : goal.returns-in-Goes-clause-left
returns-in-Goes-clause-left g c went filling is =
    turn_any (LeavesQueue c.args.call filling) filling c.args.call (Going c.in-Goes.wrap) (sym is.is_full ∙ c.requires.room)
    (c.sends_call.ensures.left went filling is) (c.in-Goes.ensures.told filling.client is.client)
    (is_there _ Queued (sym (c.tables_tell.ensures.states _ _ is.client.calls c.args.call) ∙ c.requires.queued))

pub returns-in-Goes-clause-waits : goal.returns-in-Goes-clause-waits
returns-in-Goes-clause-waits g c out room filling is = absurd (true≢false (sym (c.sends_call.ensures.full out) ∙ room))

pub returns-in-Waits-clause-waits : goal.returns-in-Waits-clause-waits
returns-in-Waits-clause-waits g c out room filling is =
    turn_any (λ own. own ≡ filling) filling c.args.call Waits (sym is.is_full ∙ c.requires.room)
    (if_any (at c.args.call (calls_of filling.client)) _ (λ (one : Call). refl)) (c.in-Waits.ensures.told filling.client is.client)
    (is_there _ Queued (sym (c.tables_tell.ensures.states _ _ is.client.calls c.args.call) ∙ c.requires.queued))

pub returns-in-Never-clause-left : goal.returns-in-Never-clause-left
returns-in-Never-clause-left g c went filling is =
    turn_any (LeavesQueue c.args.call filling) filling c.args.call Never (sym is.is_full ∙ c.requires.room)
    (if_any (at c.args.call (calls_of filling.client)) _ (λ (one : Call) place there.
    left_group group.Queued (settled (fate.Refused 0)) (λ own. refl) (calls_of filling.client) c.args.call place there))
    (c.in-Never.ensures.told filling.client is.client)
    (is_there _ Queued (sym (c.tables_tell.ensures.states _ _ is.client.calls c.args.call) ∙ c.requires.queued))

pub returns-in-Goes-clause-bytes_behind : goal.returns-in-Goes-clause-bytes_behind
returns-in-Goes-clause-bytes_behind g c out place told has = room_behind _ _ _ (c.sends_call.ensures.full out)

pub returns-in-Waits-clause-bytes_behind : goal.returns-in-Waits-clause-bytes_behind
returns-in-Waits-clause-bytes_behind g c out place told has =
    room_waits c.args.self.now place c.args.call _
    (λ free. waits_so (follows_at c.args.self.now.calls.rows (Some (c.args.call.n - 1))) (λ first. waits_not (c.in-Waits.ensures.first free first))) told has

pub returns-in-Never-clause-bytes_left : goal.returns-in-Never-clause-bytes_left
returns-in-Never-clause-bytes_left g c went place told has =
    let held = ap (λ (core : Contents). holds_back core.rest) c.self.view_is in
    let reserved = ap (λ (calls : Calls). calls.room) c.settle.ensures.kept ∙ ap (λ (core : Contents). core.calls.room) c.self.view_is in
    let rows = ap (λ (calls : Calls). calls.rows) c.settle.ensures.kept ∙ ap (λ (core : Contents). changed c.args.call (settled_row (fate.Refused 0)) core.calls.rows) c.self.view_is in
    room_never c.args.self.now _ place c.args.call (settled_row (fate.Refused 0)) _ (λ row. refl) (held, rows) (omega (arith, reserved))
    (λ free. waits_so (follows_at c.args.self.now.calls.rows (Some (c.args.call.n - 1))) (λ first. never_not (c.in-Never.ensures.first free first))) told has

pub sends_call-requires-clause-wrap : goal.sends_call-requires-clause-wrap
sends_call-requires-clause-wrap g c = c.in-Goes.ensures.wrap c.in-Goes.wrap refl

pub sends_call-requires-clause-bytes : goal.sends_call-requires-clause-bytes
sends_call-requires-clause-bytes g c = c.requires.bytes (c.in-Goes.ensures.held c.in-Goes.wrap refl)
