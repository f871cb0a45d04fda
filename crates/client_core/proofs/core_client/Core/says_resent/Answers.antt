use Rattle.std.proofs.Common.{◌∙◌, ℕ, List, [], length, ap, sym, arith}
use Rattle.msg_ids.specs.Counters.{Counters, after_next}
use Rattle.client_rules.specs.Client.{Client, after_message, numbered}
use Rattle.client_rules.specs.Filling.{changes, says_resent}
use Rattle.client_core.specs.Numbers.{Numbers}
use Rattle.client_core.specs.Draft.{Goes, item_of, needs_answer, said_bytes}
use Rattle.service_tl.specs.Items.{spelling_of}
use Rattle.client_core.specs.declared.saying.Outgoing.{Outgoing}
use Rattle.client_core.specs.declared.saying.Outgoing.TheVariants as said
use Rattle.client_core.proofs.GoesLemmas.{goes_out, moved, none_of, resent_go, resent_not, said_in, same_goes, some_of, told}
use Rattle.client_core.specs.Kept.{Contents}
use Rattle.client_core.proofs.RoomLemmas.{room_less, takes_more}
use Rattle.client_core.proofs.core_client.Core.says_resent.Goals as goal

abbrev change : Client → Client
change client = record client { waiting = record client.waiting { resent = [] } }

pub returns-then-is_empty-clause-goes : goal.returns-then-is_empty-clause-goes
returns-then-is_empty-clause-goes g c filling is =
    let none = none_of _ _ c.is_empty.ensures c.if-is_empty.true in
    let waits = c.ids-numbers.ensures.value ∙ told _ _ filling.client (λ (rest : Client). rest.waiting.resent) c.self.view_is is.client in
    moved _ _ (λ (own : List ℕ). says_resent own filling) filling.client.waiting.resent c.ids-numbers.result.now (sym waits)
    (same_goes _ _ _ _ (resent_not c.ids-numbers.result.now filling none) is)

pub returns-then-say-clause-goes : goal.returns-then-say-clause-goes
returns-then-say-clause-goes g c filling is =
    let kept = (Rattle.client_core.specs.contracts.core_client.Core.the_view c.self.inside).rest in
    let numbers = c.ids-numbers.result.now in
    let some = some_of _ _ c.is_empty.ensures c.if-is_empty.false in
    let waits = c.ids-numbers.ensures.value ∙ told _ _ filling.client (λ (rest : Client). rest.waiting.resent) c.self.view_is is.client in
    let counted = after_next c.self.inside.numbers c.time-at.result (needs_answer (said.Resent c.ids-numbers.result)) in
    moved _ _ (λ (own : List ℕ). says_resent own filling) filling.client.waiting.resent numbers (sym waits)
    (same_goes _ _ _ _ (resent_go numbers filling some)
    (said_in c.args.self.now _ _ c.args.draft.now _ filling change (said.Resent c.ids-numbers.result) c.time-at.result c.self.view_is is
    (c.time-at.ensures filling.client is.client) c.say.ensures.size (sym c.say.ensures.told ∙ c.if-say.true)
    (c.say.ensures.holds c.if-say.true) (c.say.ensures.inner c.if-say.true) (c.say.ensures.open c.if-say.true)
    (λ client rest.
    ap (λ (own : Counters). record kept { counters = own; waiting = record kept.waiting { resent = c.clear.new.self.numbers } }) (c.say.ensures.counted c.if-say.true)
    ∙ (ap (λ (own : Numbers). record kept { counters = counted; waiting = record kept.waiting { resent = own.numbers } }) c.clear.ensures ∙ ap change rest))
    (λ client calls. calls)))

pub returns-else-say-clause-goes : goal.returns-else-say-clause-goes
returns-else-say-clause-goes g c filling is =
    let numbers = c.ids-numbers.result.now in
    let one : Outgoing = said.Resent c.ids-numbers.result in
    let some = some_of _ _ c.is_empty.ensures c.if-is_empty.false in
    let inside : Goes (Rattle.client_core.specs.contracts.core_client.Core.the_view c.self.inside) c.args.draft.now filling = rw c.self.view_is is in
    let waits = c.ids-numbers.ensures.value ∙ told _ _ filling.client (λ (rest : Client). rest.waiting.resent) c.self.view_is is.client in
    rw (c.say.ensures.full c.if-say.false, c.say.ensures.uncounted c.if-say.false)
    (moved _ _ (λ (own : List ℕ). says_resent own filling) filling.client.waiting.resent numbers (sym waits)
    (same_goes _ _ _ _ (resent_go numbers filling some)
    (goes_out _ c.args.draft.now filling (numbered (needs_answer one) (spelling_of (item_of one)) filling.client) (changes (λ (client : Client). change (after_message (needs_answer one) client))) (said_bytes one) inside
    c.say.ensures.size (sym c.say.ensures.told ∙ c.if-say.false))))

pub say-requires-clause-room : goal.say-requires-clause-room
say-requires-clause-room g c =
    room_less _ _ _ (omega (arith, ap length c.ids-numbers.ensures.value, ap (λ (core : Contents). length core.rest.waiting.resent) c.self.view_is)) c.requires.bytes

pub returns-then-say-clause-takes : goal.returns-then-say-clause-takes
returns-then-say-clause-takes g c =
    takes_more _ _ _ _ (omega (arith, ap length c.ids-numbers.ensures.value, ap (λ (core : Contents). length core.rest.waiting.resent) c.self.view_is)) c.say.ensures.takes

pub returns-else-say-clause-takes : goal.returns-else-say-clause-takes
returns-else-say-clause-takes g c =
    takes_more _ _ _ _ (omega (arith, ap length c.ids-numbers.ensures.value, ap (λ (core : Contents). length core.rest.waiting.resent) c.self.view_is)) c.say.ensures.takes
