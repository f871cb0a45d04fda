use Rattle.std.proofs.Common.{◌≡◌, ◌∙◌, ℕ, List, [], length, ap, sym, arith}
use Rattle.std.specs.Prelude.{◌≢◌}
use Rattle.client_rules.specs.Client.{Client}
use Rattle.client_rules.specs.Filling.{says_acks}
use Rattle.client_core.specs.Kept.{Contents}
use Rattle.client_core.proofs.GoesLemmas.{acks_go, goes_so, moved, same_goes}
use Rattle.client_core.proofs.RoomLemmas.{room_less, takes_more}
use Rattle.client_core.proofs.core_client.Core.says_acks.Goals as goal

abbrev change : Client → Client
change client = record client { table = record client.table { acks = [] } }

pub returns-then-say-clause-goes : goal.returns-then-say-clause-goes
returns-then-say-clause-goes g c filling is =
    let acks = c.deref.result.now in
    let own : acks ≡ c.self.inside.calls.acks = c.deref.ensures.value ∙ c.acks_in-acks.ensures in
    let waits : filling.client.table.acks ≡ acks = sym (own ∙ (ap (λ (core : Contents). core.calls.acks) c.self.view_is ∙ is.client.calls.acks)) in
    let some : length acks ≢ 0 = λ none. c.if-acks-eq0.false (c.acks.ensures.kept ∙ (ap length (sym own) ∙ none)) in
    moved _ _ (λ (other : List ℕ). says_acks other filling) filling.client.table.acks acks waits
    (same_goes _ _ _ _ (acks_go acks filling some ∙ c.say.ensures.then c.if-say.true filling change is)
    (goes_so c.say.new.self _ _ c.say.new.draft _ change c.self-2.view_is (c.say.ensures.goes c.if-say.true filling is) (λ client rest. rest)
    (λ client calls. c.clear_acks.ensures.stands client.table calls)))

pub returns-clause-goes : goal.returns-clause-goes
returns-clause-goes g c filling is =
    let acks = c.deref.result.now in
    let own : acks ≡ c.self.inside.calls.acks = c.deref.ensures.value ∙ c.acks_in-acks.ensures in
    let waits : filling.client.table.acks ≡ acks = sym (own ∙ (ap (λ (core : Contents). core.calls.acks) c.self.view_is ∙ is.client.calls.acks)) in
    let some : length acks ≢ 0 = λ none. c.if-acks-eq0.false (c.acks.ensures.kept ∙ (ap length (sym own) ∙ none)) in
    moved _ _ (λ (other : List ℕ). says_acks other filling) filling.client.table.acks acks waits
    (same_goes _ _ _ _ (acks_go acks filling some) (c.say.ensures.stays c.if-say.false filling change is))

pub say-requires-clause-bytes : goal.say-requires-clause-bytes
say-requires-clause-bytes g c =
    let own = ap length (c.deref.ensures.value ∙ c.acks_in-acks.ensures) in
    room_less _ _ _ (omega (arith, own, ap (λ (core : Contents). length core.calls.acks) c.self.view_is)) c.requires.bytes

pub returns-then-say-clause-takes : goal.returns-then-say-clause-takes
returns-then-say-clause-takes g c =
    let own = ap length (c.deref.ensures.value ∙ c.acks_in-acks.ensures) in
    takes_more _ _ _ _ (omega (arith, own, ap (λ (core : Contents). length core.calls.acks) c.self.view_is)) c.say.ensures.takes

pub returns-clause-takes : goal.returns-clause-takes
returns-clause-takes g c =
    let own = ap length (c.deref.ensures.value ∙ c.acks_in-acks.ensures) in
    takes_more _ _ _ _ (omega (arith, own, ap (λ (core : Contents). length core.calls.acks) c.self.view_is)) c.say.ensures.takes
