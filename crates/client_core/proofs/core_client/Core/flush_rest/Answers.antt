use Rattle.std.proofs.Common.{◌≡◌, ◌∙◌, true, false, ap, refl, sym}
use Rattle.std.specs.Prelude.{fold}
use Rattle.client_rules.specs.Client.{at_moment}
use Rattle.client_rules.specs.Filling.{Filling, empty, says_call}
use Rattle.client_rules.specs.Flush.{has_any}
use Rattle.client_core.specs.Draft.{queue}
use Rattle.client_core.specs.Due.{is_due_beside}
use Rattle.client_core.specs.Flushed.{setting_of}
use Rattle.client_core.proofs.FillLemmas.{calls_draw}
use Rattle.client_core.proofs.FlushLemmas.{begins, rest_goes, rest_nothing, rest_spent}
use Rattle.client_core.proofs.core_client.Core.flush_rest.Goals as goal

pub returns-then-not-is_due_beside-clause-flushes : goal.returns-then-not-is_due_beside-clause-flushes
returns-then-not-is_due_beside-clause-flushes g c client stands alone call =
    let setting = setting_of g.D.Draw.step (g.S.Seal.keys c.args.seal.now) in
    let draw = c.args.draw.now in
    let now = c.args.now in
    let first = empty (at_moment now client) draw in
    let quiet : is_due_beside client ≡ false = sym (c.is_due_beside.ensures client stands) ∙ c.if-not-is_due_beside.true in
    let rest = rest_goes setting now client draw alone call in
    let goes = c.gives_up.ensures.goes first (begins _ _ (at_moment now client) draw refl (c.at.ensures.stands client stands)) (c.due_tells.ensures.none client now stands quiet) in
    rest_nothing setting _ _ now client draw (fold says_call first (queue first)) _ (rest ∙ c.due_tells.ensures.quiet client now draw stands quiet)
    (ap (λ (own : Filling _). has_any own.messages) rest ∙ (c.due_tells.ensures.due client now draw stands ∙ quiet)) goes.client (calls_draw first (queue first))

pub returns-then-is_spent-clause-flushes : goal.returns-then-is_spent-clause-flushes
returns-then-is_spent-clause-flushes g c client stands alone call =
    let setting = setting_of g.D.Draw.step (g.S.Seal.keys c.args.seal.now) in
    let draw = c.args.draw.now in
    let now = c.args.now in
    let due : is_due_beside client ≡ true = sym (c.is_due_beside.ensures client stands) ∙ c.if-not-is_due_beside.false in
    rest_spent setting _ _ now client draw _ (ap (λ (own : Filling _). has_any own.messages) (rest_goes setting now client draw alone call) ∙ (c.due_tells.ensures.due client now draw stands ∙ due))
    (c.is_spent.ensures.client client stands ∙ c.if-is_spent.true) stands

pub returns-clause-flushes : goal.returns-clause-flushes
returns-clause-flushes g c client stands alone call =
    let due : is_due_beside client ≡ true = sym (c.is_due_beside.ensures client stands) ∙ c.if-not-is_due_beside.false in
    c.flush_due.ensures.flushes client stands alone call (c.due_tells.ensures.due client c.args.now c.args.draw.now stands ∙ due)
    (c.is_spent.ensures.client client stands ∙ c.if-is_spent.false)
