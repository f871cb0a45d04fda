use Rattle.std.proofs.Common.{◌∙◌, ℕ, Option, Some, None, ap, sym}
use Rattle.client_rules.specs.Client.{Client}
use Rattle.client_rules.specs.Filling.{says_ping}
use Rattle.client_core.proofs.GoesLemmas.{goes_so, moved, same_goes, told}
use Rattle.client_core.proofs.core_client.Core.says_ping.Goals as goal

abbrev change : Client → Client
change client = record client { waiting = record client.waiting { ping = None } }

pub returns-then-say-clause-goes : goal.returns-then-say-clause-goes
returns-then-say-clause-goes g c filling is =
    let waits = sym (told _ _ filling.client (λ (rest : Client). rest.waiting.ping) c.self.view_is is.client) ∙ c.in-Some.is in
    moved _ _ (λ (own : Option ℕ). says_ping own filling) filling.client.waiting.ping (Some c.in-Some.id) waits
    (same_goes _ _ _ _ (c.say.ensures.then c.if-say.true filling change is)
    (goes_so c.say.new.self _ _ c.say.new.draft _ change c.self-in-Some.view_is (c.say.ensures.goes c.if-say.true filling is) (λ client rest. ap change rest) (λ client calls. calls)))

pub returns-else-say-clause-goes : goal.returns-else-say-clause-goes
returns-else-say-clause-goes g c filling is =
    let waits = sym (told _ _ filling.client (λ (rest : Client). rest.waiting.ping) c.self.view_is is.client) ∙ c.in-Some.is in
    moved _ _ (λ (own : Option ℕ). says_ping own filling) filling.client.waiting.ping (Some c.in-Some.id) waits
    (c.say.ensures.stays c.if-say.false filling change is)
