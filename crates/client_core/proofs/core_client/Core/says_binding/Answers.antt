use Rattle.std.proofs.Common.{◌≡◌, ◌∙◌, ℕ, true, List, Some, ap, sym, subst, length, arith}
use Rattle.auth_keys.specs.declared.ring.RingKey.{RingKey}
use Rattle.auth_keys.specs.Rings.{entry_of}
use Rattle.service_tl.specs.declared.lists.Message.{Message}
use Rattle.client_rules.specs.Client.{Client, is_open, time_of}
use Rattle.client_rules.specs.Filling.{asks_binding}
use Rattle.client_rules.specs.Sending.{draw_after_binding}
use Rattle.client_core.specs.Asked.{asked_message, asking_message, needed_of}
use Rattle.client_core.specs.Flushed.{setting_of}
use Rattle.client_core.proofs.BoundLemmas.{asked_draw, asked_goes, asked_kept, needed_goes, unasked_draw, under_key}
use Rattle.client_core.proofs.GoesLemmas.{goes_out, same_goes, told}
use Rattle.client_core.specs.Kept.{Contents}
use Rattle.client_core.specs.Draft.{Draft, TakesUp}
use Rattle.client_core.specs.Owed.{binding_most}
use Rattle.client_core.proofs.FrontLemmas.{asked_holds, most_so, needs_so, numbers_so}
use Rattle.client_core.proofs.RoomLemmas.{room_less, takes_full}
use Rattle.client_core.proofs.core_client.Core.says_binding.Goals as goal

pub returns-then-not-takes-clause-goes : goal.returns-then-not-takes-clause-goes
returns-then-not-takes-clause-goes g c filling is drawn =
    let step = g.D.Draw.step in
    let keys = g.S.Seal.keys c.args.seal.now in
    let setting = setting_of step keys in
    let client = filling.client in
    let needed = c.in-Some.needed in
    let key = c.in-Some-find.key.now in
    let own : needed_of client.temporary ≡ Some needed = ap needed_of (sym (told _ _ client (λ (rest : Client). rest.temporary) c.self.view_is is.client)) ∙ (sym c.need_of.ensures ∙ c.in-Some.is) in
    let learns : is_open client ≡ true = sym (c.is_open.ensures.client client is.client) ∙ c.if-not-is_open.false in
    let entry = ap (λ (ring : List RingKey). entry_of needed.perm ring) (sym c.ring.ensures) ∙ c.in-Some-find.ensures.found.1 in
    let message = asking_message setting client needed filling.draw in
    let sized : length message.body ≡ 132 = ap (λ (one : Message). length one.body) (under_key step keys client needed filling.draw key _ entry) ∙ c.sizes_of_bindings.ensures key (time_of client) client needed filling.draw in
    rw (c.takes.ensures.full c.if-not-takes.true) (same_goes _ _ _ _ (needed_goes setting client.temporary filling needed own learns)
    (goes_out c.args.self.now c.args.draft.now filling message (asks_binding setting message) 132 is sized (sym c.takes.ensures.told ∙ c.if-not-takes.true)))

pub returns-then-not-takes-clause-drawn : goal.returns-then-not-takes-clause-drawn
returns-then-not-takes-clause-drawn g c filling is drawn =
    let step = g.D.Draw.step in
    let keys = g.S.Seal.keys c.args.seal.now in
    let setting = setting_of step keys in
    let client = filling.client in
    let needed = c.in-Some.needed in
    let key = c.in-Some-find.key.now in
    let own : needed_of client.temporary ≡ Some needed = ap needed_of (sym (told _ _ client (λ (rest : Client). rest.temporary) c.self.view_is is.client)) ∙ (sym c.need_of.ensures ∙ c.in-Some.is) in
    let learns : is_open client ≡ true = sym (c.is_open.ensures.client client is.client) ∙ c.if-not-is_open.false in
    let entry = ap (λ (ring : List RingKey). entry_of needed.perm ring) (sym c.ring.ensures) ∙ c.in-Some-find.ensures.found.1 in
    let message = asking_message setting client needed filling.draw in
    let sized : length message.body ≡ 132 = ap (λ (one : Message). length one.body) (under_key step keys client needed filling.draw key _ entry) ∙ c.sizes_of_bindings.ensures key (time_of client) client needed filling.draw in
    ap (λ own. own.draw) (needed_goes setting client.temporary filling needed own learns)
    ∙ (unasked_draw c.args.self.now c.args.draft.now filling message (asks_binding setting message) 132 is sized (sym c.takes.ensures.told ∙ c.if-not-takes.true) ∙ drawn)

pub returns-clause-goes : goal.returns-clause-goes
returns-clause-goes g c filling is drawn =
    let step = g.D.Draw.step in
    let keys = g.S.Seal.keys c.args.seal.now in
    let setting = setting_of step keys in
    let client = filling.client in
    let needed = c.in-Some.needed in
    let key = c.in-Some-find.key.now in
    let own : needed_of client.temporary ≡ Some needed = ap needed_of (sym (told _ _ client (λ (rest : Client). rest.temporary) c.self.view_is is.client)) ∙ (sym c.need_of.ensures ∙ c.in-Some.is) in
    let learns : is_open client ≡ true = sym (c.is_open.ensures.client client is.client) ∙ c.if-not-is_open.false in
    let entry = ap (λ (ring : List RingKey). entry_of needed.perm ring) (sym c.ring.ensures) ∙ c.in-Some-find.ensures.found.1 in
    let now : c.time-at.result ≡ time_of client = c.time-at.ensures client is.client in
    let same = under_key step keys client needed filling.draw key _ entry ∙ asked_kept step key c.time-at.result c.args.self.now.rest client needed c.args.draw.now filling.draw is.client.rest now drawn in
    let fits = sym c.takes.ensures.told ∙ c.if-not-takes.false in
    let kept = c.takes.ensures.kept c.if-not-takes.false in
    same_goes _ _ _ _ (needed_goes setting client.temporary filling needed own learns)
    (asked_goes c.args.self.now _ c.args.draft.now _ filling setting (asking_message setting client needed filling.draw) _ c.time-at.result 132 is same now
    (c.sizes_of_bindings.ensures key c.time-at.result c.args.self.now.rest needed c.args.draw.now) fits
    (λ messages holds. c.ask_binding.ensures.holds messages (rw kept holds))
    (rw (sym kept) c.ask_binding.ensures.inner) (rw (sym kept) c.ask_binding.ensures.kept)
    c.ask_binding.ensures.asked c.ask_binding.ensures.calls)

pub returns-clause-drawn : goal.returns-clause-drawn
returns-clause-drawn g c filling is drawn =
    let step = g.D.Draw.step in
    let keys = g.S.Seal.keys c.args.seal.now in
    let setting = setting_of step keys in
    let client = filling.client in
    let needed = c.in-Some.needed in
    let key = c.in-Some-find.key.now in
    let own : needed_of client.temporary ≡ Some needed = ap needed_of (sym (told _ _ client (λ (rest : Client). rest.temporary) c.self.view_is is.client)) ∙ (sym c.need_of.ensures ∙ c.in-Some.is) in
    let learns : is_open client ≡ true = sym (c.is_open.ensures.client client is.client) ∙ c.if-not-is_open.false in
    let entry = ap (λ (ring : List RingKey). entry_of needed.perm ring) (sym c.ring.ensures) ∙ c.in-Some-find.ensures.found.1 in
    let message = asking_message setting client needed filling.draw in
    let sized : length message.body ≡ 132 = ap (λ (one : Message). length one.body) (under_key step keys client needed filling.draw key _ entry) ∙ c.sizes_of_bindings.ensures key (time_of client) client needed filling.draw in
    ap (λ own. own.draw) (needed_goes setting client.temporary filling needed own learns)
    ∙ (asked_draw c.args.self.now c.args.draft.now filling setting message 132 is sized (sym c.takes.ensures.told ∙ c.if-not-takes.false)
    ∙ (ap (draw_after_binding setting) drawn ∙ sym c.ask_binding.ensures.drawn))

pub ask_binding-requires-clause-bytes : goal.ask_binding-requires-clause-bytes
ask_binding-requires-clause-bytes g c =
    let needs = needs_so c.args.self.now.rest c.in-Some.needed (sym c.is_open.ensures.open ∙ c.if-not-is_open.false)
    (ap (λ (core : Contents). needed_of core.rest.temporary) (sym c.self.view_is) ∙ (sym c.need_of.ensures ∙ c.in-Some.is)) in
    rw (c.takes.ensures.kept c.if-not-takes.false) (room_less _ _ _ (omega (arith, most_so c.args.self.now.rest needs)) c.requires.bytes)

pub ask_binding-requires-clause-place : goal.ask_binding-requires-clause-place
ask_binding-requires-clause-place g c =
    let needs = needs_so c.args.self.now.rest c.in-Some.needed (sym c.is_open.ensures.open ∙ c.if-not-is_open.false)
    (ap (λ (core : Contents). needed_of core.rest.temporary) (sym c.self.view_is) ∙ (sym c.need_of.ensures ∙ c.in-Some.is)) in
    omega (arith, ap (λ (draft : Draft). draft.numbers) (c.takes.ensures.kept c.if-not-takes.false), numbers_so c.args.self.now.rest needs, c.requires.place)

pub ask_binding-requires-clause-room : goal.ask_binding-requires-clause-room
ask_binding-requires-clause-room g c =
    c.requires.room (needs_so c.args.self.now.rest c.in-Some.needed (sym c.is_open.ensures.open ∙ c.if-not-is_open.false)
    (ap (λ (core : Contents). needed_of core.rest.temporary) (sym c.self.view_is) ∙ (sym c.need_of.ensures ∙ c.in-Some.is)))

pub returns-then-not-takes-clause-takes : goal.returns-then-not-takes-clause-takes
returns-then-not-takes-clause-takes g c = takes_full _ _ _ (c.takes.ensures.full c.if-not-takes.true)

pub returns-clause-takes : goal.returns-clause-takes
returns-clause-takes g c =
    let needs = needs_so c.args.self.now.rest c.in-Some.needed (sym c.is_open.ensures.open ∙ c.if-not-is_open.false)
    (ap (λ (core : Contents). needed_of core.rest.temporary) (sym c.self.view_is) ∙ (sym c.need_of.ensures ∙ c.in-Some.is)) in
    subst (λ (n : ℕ). TakesUp (binding_most c.args.self.now.rest) n c.args.draft.now c.ask_binding.new.draft) (sym (numbers_so c.args.self.now.rest needs))
    (subst (λ (n : ℕ). TakesUp n 1 c.args.draft.now c.ask_binding.new.draft) (sym (most_so c.args.self.now.rest needs))
    (rw (sym (c.takes.ensures.kept c.if-not-takes.false)) c.ask_binding.ensures.takes))

pub returns-clause-held : goal.returns-clause-held
returns-clause-held g c is =
    let rest = c.ask_binding.ensures.asked in
    asked_holds c.args.self.now.rest c.ask_binding.new.self.rest (asked_message g.D.Draw.step c.in-Some-find.key.now c.time-at.result c.args.self.now.rest c.in-Some.needed c.args.draw.now)
    (ap (λ (client : Client). client.learnt) rest) (ap (λ (client : Client). client.temporary) rest) is
