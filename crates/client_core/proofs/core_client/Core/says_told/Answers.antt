use Rattle.std.proofs.Common.{◌≡◌, ◌∙◌, ◌+◌, ℕ, List, Option, Some, None, length, ap, sym, arith}
use Rattle.std.specs.Prelude.{option_map}
use Rattle.msg_ids.specs.Counters.{Counters, after_next}
use Rattle.client_rules.specs.Client.{Client, States, Waiting, after_message, numbered}
use Rattle.client_rules.specs.Filling.{changes, says_told}
use Rattle.client_core.specs.Kept.{states_in, waiting_in}
use Rattle.client_core.specs.Draft.{Goes, item_of, needs_answer, said_bytes}
use Rattle.service_tl.specs.Items.{spelling_of}
use Rattle.client_core.specs.declared.saying.Outgoing.{Outgoing}
use Rattle.client_core.specs.declared.saying.Outgoing.TheVariants as said
use Rattle.client_core.proofs.GoesLemmas.{goes_out, moved, said_in, told}
use Rattle.client_core.specs.Kept.{Contents}
use Rattle.client_core.specs.Owed.{told_bytes}
use Rattle.tl_codec.specs.Spelling.{string_size}
use Rattle.containers.specs.Container.{message_head}
use Rattle.client_core.proofs.RoomLemmas.{room_less, takes_more}
use Rattle.client_core.proofs.core_client.Core.says_told.Goals as goal

abbrev change : Client → Client
change client = record client { waiting = record client.waiting { told = None } }

pub returns-then-say-clause-goes : goal.returns-then-say-clause-goes
returns-then-say-clause-goes g c filling is =
    let kept = (Rattle.client_core.specs.contracts.core_client.Core.the_view c.self.inside).rest in
    let states = c.in-Some.states in
    let waits = sym (told _ _ filling.client (λ (rest : Client). rest.waiting.told) c.self.view_is is.client)
    ∙ (ap (option_map states_in) c.in-Some.is ∙ ap (λ (info : List ℕ). Some (record { request = states.request; info = info })) (sym c.as_slice.ensures.value)) in
    let counted = after_next c.self.inside.numbers c.time-at.result (needs_answer (said.Told states.request c.as_slice.result)) in
    moved _ _ (λ (own : Option States). says_told own filling) filling.client.waiting.told (Some (record { request = states.request; info = c.as_slice.result.now })) waits
    (said_in c.args.self.now _ _ c.args.draft.now _ filling change (said.Told states.request c.as_slice.result) c.time-at.result c.self.view_is is
    (c.time-at.ensures filling.client is.client) c.say.ensures.size (sym c.say.ensures.told ∙ c.if-say.true)
    (c.say.ensures.holds c.if-say.true) (c.say.ensures.inner c.if-say.true) (c.say.ensures.open c.if-say.true)
    (λ client rest.
    ap (λ (own : Counters). record kept { counters = own; waiting = waiting_in c.forget_told.new.waiting }) (c.say.ensures.counted c.if-say.true)
    ∙ (ap (λ (own : Waiting). record kept { counters = counted; waiting = own }) c.forget_told.ensures.told ∙ ap change rest))
    (λ client calls. calls))

pub returns-else-say-clause-goes : goal.returns-else-say-clause-goes
returns-else-say-clause-goes g c filling is =
    let states = c.in-Some.states in
    let one : Outgoing = said.Told states.request c.as_slice.result in
    let inside : Goes (Rattle.client_core.specs.contracts.core_client.Core.the_view c.self.inside) c.args.draft.now filling = rw c.self.view_is is in
    let waits = sym (told _ _ filling.client (λ (rest : Client). rest.waiting.told) c.self.view_is is.client)
    ∙ (ap (option_map states_in) c.in-Some.is ∙ ap (λ (info : List ℕ). Some (record { request = states.request; info = info })) (sym c.as_slice.ensures.value)) in
    rw (c.say.ensures.full c.if-say.false, c.say.ensures.uncounted c.if-say.false)
    (moved _ _ (λ (own : Option States). says_told own filling) filling.client.waiting.told (Some (record { request = states.request; info = c.as_slice.result.now })) waits
    (goes_out _ c.args.draft.now filling (numbered (needs_answer one) (spelling_of (item_of one)) filling.client) (changes (λ (client : Client). change (after_message (needs_answer one) client))) (said_bytes one) inside
    c.say.ensures.size (sym c.say.ensures.told ∙ c.if-say.false)))

pub say-requires-clause-room : goal.say-requires-clause-room
say-requires-clause-room g c =
    let states = c.in-Some.states in
    let own : told_bytes c.args.self.now.rest.waiting.told ≡ message_head + (12 + string_size (length states.info)) =
    ap (λ (core : Contents). told_bytes core.rest.waiting.told) (sym c.self.view_is) ∙ ap (λ own. told_bytes (option_map states_in own)) c.in-Some.is in
    let size = ap (λ (info : List ℕ). string_size (length info)) c.as_slice.ensures.value in
    room_less _ _ _ (omega (arith, own, size)) c.requires.bytes

pub returns-then-say-clause-takes : goal.returns-then-say-clause-takes
returns-then-say-clause-takes g c =
    let states = c.in-Some.states in
    let own : told_bytes c.args.self.now.rest.waiting.told ≡ message_head + (12 + string_size (length states.info)) =
    ap (λ (core : Contents). told_bytes core.rest.waiting.told) (sym c.self.view_is) ∙ ap (λ own. told_bytes (option_map states_in own)) c.in-Some.is in
    let size = ap (λ (info : List ℕ). string_size (length info)) c.as_slice.ensures.value in
    takes_more _ _ _ _ (omega (arith, own, size)) c.say.ensures.takes

pub returns-else-say-clause-takes : goal.returns-else-say-clause-takes
returns-else-say-clause-takes g c =
    let states = c.in-Some.states in
    let own : told_bytes c.args.self.now.rest.waiting.told ≡ message_head + (12 + string_size (length states.info)) =
    ap (λ (core : Contents). told_bytes core.rest.waiting.told) (sym c.self.view_is) ∙ ap (λ own. told_bytes (option_map states_in own)) c.in-Some.is in
    let size = ap (λ (info : List ℕ). string_size (length info)) c.as_slice.ensures.value in
    takes_more _ _ _ _ (omega (arith, own, size)) c.say.ensures.takes
