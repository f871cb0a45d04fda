use Rattle.std.proofs.Common.{◌≡◌, ◌∙◌, ℕ, Bool, true, false, List, Option, Some, take, length, ap, sym, arith}
use Rattle.std.specs.Prelude.{option_map}
use Rattle.service_tl.specs.declared.item.Item.TheVariants.{MsgsStateReq}
use Rattle.client_rules.specs.Client.{Client, StateRequest, calls_of}
use Rattle.client_rules.specs.Filling.{asks_states, numbers_max, outstanding, says, says_states}
use Rattle.call_table.specs.Kept.{numbers_in}
use Rattle.client_core.specs.Kept.{Contents, asked_in}
use Rattle.client_core.proofs.GoesLemmas.{goes_so, kept_calls, moved, same_goes, told}
use Rattle.client_core.proofs.ListLemmas.{take_few}
use Rattle.client_core.proofs.NumberLemmas.{kept_numbers, outstanding_is}
use Rattle.client_core.specs.Owed.{asked_count}
use Rattle.client_core.proofs.RoomLemmas.{room_less, takes_more}
use Rattle.client_core.proofs.OwedLemmas.{asked_all, take_least}
use Rattle.client_core.proofs.core_client.Core.says_states.Goals as goal

pub say-requires-clause-lawful : goal.say-requires-clause-lawful
say-requires-clause-lawful g c =
    omega (arith, ap length (c.deref.ensures.value ∙ c.living_in-numbers.ensures), take_few 8192 (numbers_in c.self.inside.calls.rows))

pub returns-then-say-clause-goes : goal.returns-then-say-clause-goes
returns-then-say-clause-goes g c filling is =
    let list = c.deref.result.now in
    let kept = (Rattle.client_core.specs.contracts.core_client.Core.the_view c.self-2.inside).rest in
    let waits = sym (told _ _ filling.client (λ (rest : Client). rest.waiting.states) c.self.view_is is.client) ∙ c.if-not-self.false in
    let own : list ≡ outstanding filling.client = c.deref.ensures.value
    ∙ (c.living_in-numbers.ensures ∙ ap (take numbers_max) (kept_numbers _ _ (kept_calls _ _ _ filling c.self.view_is is).rows ∙ sym (outstanding_is (calls_of filling.client)))) in
    let number : c.number.result ≡ kept.counters.last = c.number.ensures ∙ (c.say.ensures.number c.if-say.true ∙ sym (ap (λ (core : Contents). core.rest.counters.last) c.self-2.view_is)) in
    let asked : option_map asked_in c.asks.new.asked ≡ Some (record { number = kept.counters.last; numbers = list }) = c.asks.ensures
    ∙ (ap (λ (one : ℕ). Some (record { number = one; numbers = c.living_in-numbers.result.items })) number ∙ ap (λ (numbers : List ℕ). Some (record { number = kept.counters.last; numbers = numbers })) (sym c.deref.ensures.value)) in
    moved _ _ (λ (wish : Bool). says_states wish filling) filling.client.waiting.states true waits
    (moved _ _ (λ (numbers : List ℕ). says false (MsgsStateReq numbers) (asks_states numbers) filling) (outstanding filling.client) list (sym own)
    (same_goes _ _ _ _ (c.say.ensures.then c.if-say.true filling (asks_states list) is)
    (goes_so c.say.new.self _ _ c.say.new.draft _ (asks_states list) c.self-2.view_is (c.say.ensures.goes c.if-say.true filling is)
    (λ client rest. ap (λ (request : Option StateRequest). record kept { waiting = record kept.waiting { states = false }; asked = request }) asked ∙ ap (asks_states list) rest)
    (λ client calls. calls))))

pub returns-else-say-clause-goes : goal.returns-else-say-clause-goes
returns-else-say-clause-goes g c filling is =
    let list = c.deref.result.now in
    let waits = sym (told _ _ filling.client (λ (rest : Client). rest.waiting.states) c.self.view_is is.client) ∙ c.if-not-self.false in
    let own : list ≡ outstanding filling.client = c.deref.ensures.value
    ∙ (c.living_in-numbers.ensures ∙ ap (take numbers_max) (kept_numbers _ _ (kept_calls _ _ _ filling c.self.view_is is).rows ∙ sym (outstanding_is (calls_of filling.client)))) in
    moved _ _ (λ (wish : Bool). says_states wish filling) filling.client.waiting.states true waits
    (moved _ _ (λ (numbers : List ℕ). says false (MsgsStateReq numbers) (asks_states numbers) filling) (outstanding filling.client) list (sym own)
    (c.say.ensures.stays c.if-say.false filling (asks_states list) is))

pub living_in-numbers-requires-clause-room : goal.living_in-numbers-requires-clause-room
living_in-numbers-requires-clause-room g c =
    let rows = c.self.inside.calls.rows in
    let own = ap (λ (core : Contents). asked_count core.rest.waiting.states core.calls.rows) c.self.view_is in
    omega (arith, own, asked_all c.self.inside.waiting.states rows c.if-not-self.false, c.requires.room)

pub say-requires-clause-bytes : goal.say-requires-clause-bytes
say-requires-clause-bytes g c =
    let rows = c.self.inside.calls.rows in
    let own = ap (λ (core : Contents). asked_count core.rest.waiting.states core.calls.rows) c.self.view_is in
    let few = asked_all c.self.inside.waiting.states rows c.if-not-self.false in
    let size = ap length (c.deref.ensures.value ∙ c.living_in-numbers.ensures) in
    room_less _ _ _ (omega (arith, own, few, size, take_least numbers_max (numbers_in rows))) c.requires.bytes

pub returns-then-say-clause-takes : goal.returns-then-say-clause-takes
returns-then-say-clause-takes g c =
    let rows = c.self.inside.calls.rows in
    let own = ap (λ (core : Contents). asked_count core.rest.waiting.states core.calls.rows) c.self.view_is in
    let few = asked_all c.self.inside.waiting.states rows c.if-not-self.false in
    let size = ap length (c.deref.ensures.value ∙ c.living_in-numbers.ensures) in
    takes_more _ _ _ _ (omega (arith, own, few, size, take_least numbers_max (numbers_in rows))) c.say.ensures.takes

pub returns-else-say-clause-takes : goal.returns-else-say-clause-takes
returns-else-say-clause-takes g c =
    let rows = c.self.inside.calls.rows in
    let own = ap (λ (core : Contents). asked_count core.rest.waiting.states core.calls.rows) c.self.view_is in
    let few = asked_all c.self.inside.waiting.states rows c.if-not-self.false in
    let size = ap length (c.deref.ensures.value ∙ c.living_in-numbers.ensures) in
    takes_more _ _ _ _ (omega (arith, own, few, size, take_least numbers_max (numbers_in rows))) c.say.ensures.takes
