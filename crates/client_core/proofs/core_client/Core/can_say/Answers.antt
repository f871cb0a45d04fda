use Rattle.std.proofs.Common.{◌∙◌, ℕ, ◌-◌, ◌≤◌, List, length, ap, subst}
use Rattle.call_table.specs.declared.row.Row.{Row}
use Rattle.client_rules.specs.Client.{Client, calls_of}
use Rattle.client_core.specs.Kept.{Contents}
use Rattle.client_calls.specs.Sound.{AreSound}
use Rattle.client_core.proofs.GoesLemmas.{told}
use Rattle.client_core.proofs.SayLemmas.{bodies_few, told_few}
use Rattle.client_core.proofs.core_client.Core.can_say.Goals as goal

pub returns : goal.returns
returns c client stands = record {
  acks = subst (λ (acks : List ℕ). length acks ≤ 8192) (ap (λ (core : Contents). core.calls.acks) c.self.view_is ∙ stands.calls.acks) c.acks.ensures.few;
  told = told_few c.self.inside.waiting.told client.waiting.told (told _ _ client (λ (rest : Client). rest.waiting.told) c.self.view_is stands) c.self.invariant.2.0.1;
  resent = subst (λ (numbers : List ℕ). length numbers ≤ 8192) (told _ _ client (λ (rest : Client). rest.waiting.resent) c.self.view_is stands) c.self.invariant.2.0.0;
  drops = c.has_drops.ensures.numbered client stands;
  bodies = λ call. bodies_few c.self.inside.numbers.last c.args.self.now.calls.rows (calls_of client) (call.n - 1) stands.calls.rows
      (subst (λ (rows : List Row). AreSound c.self.inside.numbers.last rows) (ap (λ (core : Contents). core.calls.rows) c.self.view_is) c.self.invariant.0);
}
