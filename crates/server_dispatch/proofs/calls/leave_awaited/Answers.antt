use Rattle.std.proofs.Common.{rules, ℕ}
use Rattle.std.specs.Prelude.{not}
use Rattle.std.proofs.lemmas.Fn.{filter_same}
use Rattle.server_rules.specs.Waiting.{outlook}
use Rattle.server_rules.specs.Calls.{is_over}
use Rattle.server_dispatch.proofs.calls.leave_awaited.Goals as goal

pub returns : goal.returns
returns c = λ now session stands.
    filter_same _ (λ (other : ℕ). not (is_over (outlook session c.args.jobs.now.jobs other))) _ (λ x b f' k. search (rules, stands)) _ _ c.retain.ensures.filtered
