use Rattle.std.proofs.Common.{◌∙◌, min, ap, sym}
use Rattle.client_core.specs.Kept.{Contents}
use Rattle.client_core.specs.Owed.{asked_count}
use Rattle.client_core.proofs.OwedLemmas.{asked_all, asked_none, numbers_places}
use Rattle.client_core.proofs.core_client.Core.asked_count.Goals as goal

pub returns-then-not-self : goal.returns-then-not-self
returns-then-not-self c =
    sym (sym (ap (λ (core : Contents). asked_count core.rest.waiting.states core.calls.rows) c.self.view_is) ∙ asked_none c.self.inside.waiting.states c.self.inside.calls.rows c.if-not-self.true)

pub returns : goal.returns
returns c =
    let rows = c.self.inside.calls.rows in
    c.min.ensures ∙ (ap (λ n. min n 8192) (c.members.ensures.kept ∙ sym (numbers_places 0 rows))
    ∙ (sym (asked_all c.self.inside.waiting.states rows c.if-not-self.false) ∙ ap (λ (core : Contents). asked_count core.rest.waiting.states core.calls.rows) c.self.view_is))
