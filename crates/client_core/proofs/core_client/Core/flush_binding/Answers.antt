use Rattle.std.proofs.Common.{◌≡◌, ◌∙◌, ◌∷◌, [], Some, ap, sym}
use Rattle.client_rules.specs.Client.{Asked, Client, at_moment, with_binding}
use Rattle.client_rules.specs.Flush.{binding_alone}
use Rattle.client_core.specs.Flushed.{setting_of}
use Rattle.client_core.proofs.FlushLemmas.{alone_sent, alone_spent, binding_goes, memory_left}
use Rattle.client_core.proofs.core_client.Core.flush_binding.Goals as goal

pub returns-then-is_spent-clause-flushes : goal.returns-then-is_spent-clause-flushes
returns-then-is_spent-clause-flushes g c client stands =
    let setting = setting_of g.D.Draw.step (g.S.Seal.keys c.args.seal.now) in
    let alone : binding_alone client.temporary ≡ Some c.args.message = ap binding_alone (sym (ap (λ (rest : Client). rest.temporary) stands.rest)) ∙ c.requires.alone in
    alone_spent setting _ _ c.args.now client _ c.args.draw.now c.args.message _ _ (binding_goes setting c.args.now client c.args.draw.now c.args.message alone)
    (c.is_spent.ensures.client client stands ∙ c.if-is_spent.true) stands

pub returns-in-Err-clause-flushes : goal.returns-in-Err-clause-flushes
returns-in-Err-clause-flushes g c client stands = memory_left _ _ _ c.args.now client c.args.draw.now _ stands

pub returns-in-Ok-clause-flushes : goal.returns-in-Ok-clause-flushes
returns-in-Ok-clause-flushes g c client stands =
    let setting = setting_of g.D.Draw.step (g.S.Seal.keys c.args.seal.now) in
    let message = c.in-Ok.lone.message in
    let alone : binding_alone client.temporary ≡ Some message =
    ap binding_alone (sym (ap (λ (rest : Client). rest.temporary) stands.rest)) ∙ (c.requires.alone ∙ ap Some (sym c.in-Ok.ensures.message)) in
    let after = c.send_binding.ensures.stands client stands in
    alone_sent setting _ _ c.args.now client (with_binding (Asked message) (at_moment c.args.now client)) c.args.draw.now message (message.number ∷ []) _ _ _
    (binding_goes setting c.args.now client c.args.draw.now message alone)
    (c.is_spent.ensures.client client stands ∙ c.if-is_spent.false) after (c.send_binding.ensures.sealed _ after) c.send_binding.ensures.drawn
