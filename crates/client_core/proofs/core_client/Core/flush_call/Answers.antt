use Rattle.std.proofs.Common.{◌∙◌, ◌∷◌, [], ap, sym}
use Rattle.client_rules.specs.Client.{at_moment, with_call}
use Rattle.service_tl.specs.declared.lists.Message.{Message}
use Rattle.client_rules.specs.Flush.{again, gone_again}
use Rattle.client_core.specs.Calling.{marked_in}
use Rattle.client_core.specs.Flushed.{setting_of}
use Rattle.client_core.proofs.FlushLemmas.{alone_sent, alone_spent, call_goes, memory_left}
use Rattle.client_core.proofs.core_client.Core.flush_call.Goals as goal

pub returns-then-is_spent-clause-flushes : goal.returns-then-is_spent-clause-flushes
returns-then-is_spent-clause-flushes g c client stands none marked =
    let setting = setting_of g.D.Draw.step (g.S.Seal.keys c.args.seal.now) in
    alone_spent setting _ _ c.args.now client _ c.args.draw.now c.args.marked.message _ _ (call_goes setting c.args.now client c.args.draw.now (marked_in c.args.marked) none (sym marked))
    (c.is_spent.ensures.client client stands ∙ c.if-is_spent.true) stands

pub returns-in-Err-clause-flushes : goal.returns-in-Err-clause-flushes
returns-in-Err-clause-flushes g c client stands none marked = memory_left _ _ _ c.args.now client c.args.draw.now _ (c.take_lone.ensures.stands client stands)

pub returns-in-Ok-clause-flushes : goal.returns-in-Ok-clause-flushes
returns-in-Ok-clause-flushes g c client stands none marked =
    let setting = setting_of g.D.Draw.step (g.S.Seal.keys c.args.seal.now) in
    let draw = c.args.draw.now in
    let message = c.in-Ok.lone.message in
    let left = with_call c.args.marked.call (gone_again client.salt) (at_moment c.args.now client) in
    let after = c.send_call.ensures.stands client (c.take_lone.ensures.stands client stands) in
    alone_sent setting _ _ c.args.now client left draw message (message.number ∷ []) _ _ _
    (call_goes setting c.args.now client draw (marked_in c.args.marked) none (sym marked) ∙ ap (λ (one : Message). again one (one.number ∷ []) left draw) (sym c.in-Ok.ensures.message))
    (c.is_spent.ensures.client client stands ∙ c.if-is_spent.false) after (c.send_call.ensures.sealed _ after) c.send_call.ensures.drawn
