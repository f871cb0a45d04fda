use Rattle.std.proofs.Common.{◌∙◌, ℕ, Option, Some, None, ap, sym}
use Rattle.client_rules.specs.Client.{Client}
use Rattle.client_rules.specs.Filling.{says_destroyed}
use Rattle.client_core.proofs.GoesLemmas.{destroys, destroys_not, goes_so, moved, same_goes, told}
use Rattle.client_core.proofs.core_client.Core.says_destroyed.Goals as goal

abbrev change : Client → Client
change client = record client { waiting = record client.waiting { destroyed = None } }

pub returns-then-not-is_open-clause-goes : goal.returns-then-not-is_open-clause-goes
returns-then-not-is_open-clause-goes g c filling is =
    same_goes _ _ _ _ (destroys_not filling.client.waiting.destroyed filling (sym (c.is_open.ensures.client filling.client is.client) ∙ c.if-not-is_open.true)) is

pub returns-then-say-clause-goes : goal.returns-then-say-clause-goes
returns-then-say-clause-goes g c filling is =
    let waits = sym (told _ _ filling.client (λ (rest : Client). rest.waiting.destroyed) c.self.view_is is.client) ∙ c.in-Some.is in
    moved _ _ (λ (own : Option ℕ). says_destroyed own filling) filling.client.waiting.destroyed (Some c.in-Some.session) waits
    (same_goes _ _ _ _ (destroys c.in-Some.session filling (sym (c.is_open.ensures.client filling.client is.client) ∙ c.if-not-is_open.false) ∙ c.say.ensures.then c.if-say.true filling change is)
    (goes_so c.say.new.self _ _ c.say.new.draft _ change c.self-in-Some.view_is (c.say.ensures.goes c.if-say.true filling is) (λ client rest. ap change rest) (λ client calls. calls)))

pub returns-else-say-clause-goes : goal.returns-else-say-clause-goes
returns-else-say-clause-goes g c filling is =
    let waits = sym (told _ _ filling.client (λ (rest : Client). rest.waiting.destroyed) c.self.view_is is.client) ∙ c.in-Some.is in
    moved _ _ (λ (own : Option ℕ). says_destroyed own filling) filling.client.waiting.destroyed (Some c.in-Some.session) waits
    (same_goes _ _ _ _ (destroys c.in-Some.session filling (sym (c.is_open.ensures.client filling.client is.client) ∙ c.if-not-is_open.false)) (c.say.ensures.stays c.if-say.false filling change is))
