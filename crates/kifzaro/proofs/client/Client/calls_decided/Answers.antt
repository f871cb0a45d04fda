use Rattle.std.proofs.Common.{◌≡◌, ◌+◌, ℕ, Some, sym, subst, ◌∙◌}
use Rattle.call_table.specs.Table.{state_at}
use Rattle.call_table.specs.Kept.{shown}
use Rattle.client_rules.specs.Client.{calls_of}
use Rattle.kifzaro.proofs.DecidedLemmas.{one_more}
use Rattle.kifzaro.proofs.client.Client.calls_decided.Goals as goal

pub loop-place-preserved : goal.loop-place-preserved
loop-place-preserved c = λ client stands.
    let at = subst (λ (n : ℕ). state_at (record { n = n + 1 }) (calls_of client) ≡ Some (shown c.state.result)) c.from.ensures (c.state.ensures.state client stands) in
    one_more (calls_of client) c.loop-place.place (shown c.state.result) (c.loop-place.invariant client stands) at
    (sym c.is_undecided.ensures ∙ c.if-is_undecided.false)
