use Rattle.std.proofs.Common.{◌≡◌, ◌∙◌, ◌<◌, ℕ, List, length, get_or, set, ap, sym, subst, arith}
use Rattle.std.specs.Prelude.{IsSome}
use Rattle.std.proofs.lemmas.List.{get_or_default, length-set}
use Rattle.auth_keys.specs.Rings.{entry_of}
use Rattle.server_output.specs.Outs.{AreSent}
use Rattle.server_rules.specs.Event.{Setting}
use Rattle.server_rules.specs.Server.{Name}
use Rattle.server_session.specs.declared.session.SessionState.{SessionState}
use Rattle.server_session.specs.SessionState.{Stands, numbers_left}
use Rattle.server_session.specs.Says.{Says, setting_of}
use Rattle.server_rules.specs.Sending.{sends}
use Rattle.server_core.specs.declared.tick_turns.TickTurn.{TickTurn}
use Rattle.server_core.specs.Outgoing.{CanGoOut, CanSend, IsSending}
use Rattle.server_core.proofs.Places.{one-of}
use Rattle.server_core.proofs.SendSteps.{send-step}
use Rattle.server_core.proofs.TickTurnSteps.{sent-step, some-sendable}
use Rattle.server_core.proofs.tick_turns.TickTurns.sends_at.Goals as goal

-- the voice at the place is the one that was lent
here : (voices : List TickTurn) (place : ℕ) (voice e : TickTurn) → voice ≡ get_or voices place voice → place < length voices → voice ≡ get_or voices place e
here voices place voice e value within = value ∙ get_or_default voices place voice e within

pub sends-requires-clause-few : goal.sends-requires-clause-few
sends-requires-clause-few g c =
    let voice : TickTurn = c.index_mut-voice.result.now in
    let d = one-of c.args.sessions.now c.args.place c.requires.place in
    let can = c.requires.sendable.each c.args.place d voice c.requires.place in
    let its = subst (λ (voice : TickTurn). CanGoOut (g.S.Seal.keys c.args.seal.now) c.args.now (get_or c.args.sessions.now c.args.place d) voice) (sym c.index_mut-voice.ensures.value) can in
    (some-sendable voice (numbers_left (get_or c.args.sessions.now c.args.place d)) voice.packets c.in-Some.packets (sym c.take.ensures.value ∙ c.in-Some.is) its.room).few

pub sends-requires-clause-short : goal.sends-requires-clause-short
sends-requires-clause-short g c =
    let voice : TickTurn = c.index_mut-voice.result.now in
    let d = one-of c.args.sessions.now c.args.place c.requires.place in
    let can = c.requires.sendable.each c.args.place d voice c.requires.place in
    let its = subst (λ (voice : TickTurn). CanGoOut (g.S.Seal.keys c.args.seal.now) c.args.now (get_or c.args.sessions.now c.args.place d) voice) (sym c.index_mut-voice.ensures.value) can in
    (some-sendable voice (numbers_left (get_or c.args.sessions.now c.args.place d)) voice.packets c.in-Some.packets (sym c.take.ensures.value ∙ c.in-Some.is) its.room).short

pub sends-requires-clause-key : goal.sends-requires-clause-key
sends-requires-clause-key g c = λ d. (c.requires.sendable.each c.args.place d c.index_mut-voice.result.now c.requires.place).key

pub sends-requires-clause-at : goal.sends-requires-clause-at
sends-requires-clause-at g c = λ d. (c.requires.sendable.each c.args.place d c.index_mut-voice.result.now c.requires.place).at

pub sends-requires-clause-numbers : goal.sends-requires-clause-numbers
sends-requires-clause-numbers g c = λ d.
    let voice : TickTurn = c.index_mut-voice.result.now in
    let can = c.requires.sendable.each c.args.place d voice c.requires.place in
    let its = subst (λ (voice : TickTurn). CanGoOut (g.S.Seal.keys c.args.seal.now) c.args.now (get_or c.args.sessions.now c.args.place d) voice) (sym c.index_mut-voice.ensures.value) can in
    let one = some-sendable voice (numbers_left (get_or c.args.sessions.now c.args.place d)) voice.packets c.in-Some.packets (sym c.take.ensures.value ∙ c.in-Some.is) its.room in
    let most = one.packets in
    let left = one.numbers in
    omega arith

pub sends-requires-clause-outs : goal.sends-requires-clause-outs
sends-requires-clause-outs g c =
    let voice : TickTurn = c.index_mut-voice.result.now in
    let d = one-of c.args.sessions.now c.args.place c.requires.place in
    let can = c.requires.sendable.each c.args.place d voice c.requires.place in
    let its = subst (λ (voice : TickTurn). CanGoOut (g.S.Seal.keys c.args.seal.now) c.args.now (get_or c.args.sessions.now c.args.place d) voice) (sym c.index_mut-voice.ensures.value) can in
    let one = some-sendable voice (numbers_left (get_or c.args.sessions.now c.args.place d)) voice.packets c.in-Some.packets (sym c.take.ensures.value ∙ c.in-Some.is) its.room in
    let most = one.packets in
    let room = c.requires.outs in
    omega arith

pub returns-in-Some-clause-sendable : goal.returns-in-Some-clause-sendable
returns-in-Some-clause-sendable g c =
    let voice : TickTurn = c.index_mut-voice.result.now in
    let ring = g.S.Seal.keys c.args.seal.now in
    let standings = c.args.sessions.now in
    let voices = c.args.self.now.list.items in
    let place = c.args.place in
    let d = one-of standings place c.requires.place in
    let after = get_or c.sends.new.self place d in
    let next : TickTurn = record { turn = voice.turn; packets = c.take.new.self; left = voice.left; spoke = voice.spoke } in
    let can = c.requires.sendable.each place d voice c.requires.place in
    let key = subst (λ (name : Name). IsSome (entry_of name.key ring)) (sym (c.sends.ensures.same_name d)) can.key in
    let done = sent-step ring c.args.now standings voices place d after next c.requires.sendable c.requires.place key (c.sends.ensures.at d) c.take.ensures.after in
    subst (λ (standings : List SessionState). CanSend ring c.args.now standings (set voices place next)) (sym (c.sends.ensures.others d)) done

pub returns-in-Some-clause-room_lasts : goal.returns-in-Some-clause-room_lasts
returns-in-Some-clause-room_lasts g c =
    let voice : TickTurn = c.index_mut-voice.result.now in
    let d = one-of c.args.sessions.now c.args.place c.requires.place in
    let can = c.requires.sendable.each c.args.place d voice c.requires.place in
    let its = subst (λ (voice : TickTurn). CanGoOut (g.S.Seal.keys c.args.seal.now) c.args.now (get_or c.args.sessions.now c.args.place d) voice) (sym c.index_mut-voice.ensures.value) can in
    let one = some-sendable voice (numbers_left (get_or c.args.sessions.now c.args.place d)) voice.packets c.in-Some.packets (sym c.take.ensures.value ∙ c.in-Some.is) its.room in
    let most = one.packets in
    let lasts = c.sends.ensures.room_lasts in
    omega arith

pub returns-in-Some-clause-same_count : goal.returns-in-Some-clause-same_count
returns-in-Some-clause-same_count g c =
    let standings = c.args.sessions.now in
    let place = c.args.place in
    let d = one-of standings place c.requires.place in
    ap (λ (standings : List SessionState). length standings) (c.sends.ensures.others d) ∙ length-set standings place (get_or c.sends.new.self place d)

pub returns-in-Some-clause-sends : goal.returns-in-Some-clause-sends
returns-in-Some-clause-sends g c = λ keys later start going.
    let D : Type 0 = g.row.D.Denot in
    let now = c.args.now in
    let voice : TickTurn = c.index_mut-voice.result.now in
    let lock = g.S.Seal.lock in
    let ring = g.S.Seal.keys c.args.seal.now in
    let setting : Setting D = setting_of now g.D.Draw.step keys in
    let standings = c.args.sessions.now in
    let voices = c.args.self.now.list.items in
    let place = c.args.place in
    let within = c.requires.place in
    let long = c.requires.sendable.long in
    let within_voices : place < length voices = omega arith in
    let d = one-of standings place within in
    let after = get_or c.sends.new.self place d in
    let draw = c.args.draw.now in
    let outs = c.args.outs.now.outs in
    let next : TickTurn = record { turn = voice.turn; packets = c.take.new.self; left = voice.left; spoke = voice.spoke } in
    let its : (e : TickTurn) → get_or voices place e ≡ voice = λ e. sym (here voices place voice e c.index_mut-voice.ensures.value within_voices) in
    let done = send-step {S = D} c.sessions_stand_later.ensures.name lock ring setting standings voices place later draw outs start going c.sends.ensures.apart long within
    after next c.sends.new.draw c.sends.new.outs.outs
    (λ e. ap (λ (voice : TickTurn). voice.turn.owing.messages) (sym (its e)))
    (λ d' e speaker says.
    subst (λ (voice : TickTurn). Stands now after (sends setting voice.turn.owing.messages speaker).session) (sym (its e))
    (c.sends.ensures.stands d keys speaker
    (subst (λ (voice : TickTurn). Says {S = D} now (get_or standings place d) voice.turn.owing draw speaker) (its e)
    (subst (λ (standing : SessionState). Says {S = D} now standing (get_or voices place e).turn.owing draw speaker) (get_or_default standings place d' d within) says))))
    (λ d' e speaker says.
    subst (λ (voice : TickTurn). c.sends.new.draw ≡ (sends setting voice.turn.owing.messages speaker).draw) (sym (its e))
    (c.sends.ensures.drawn d keys speaker
    (subst (λ (voice : TickTurn). Says {S = D} now (get_or standings place d) voice.turn.owing draw speaker) (its e)
    (subst (λ (standing : SessionState). Says {S = D} now standing (get_or voices place e).turn.owing draw speaker) (get_or_default standings place d' d within) says))))
    (λ d' e speaker says sent.
    subst (λ (voice : TickTurn). AreSent lock ring (sends setting voice.turn.owing.messages speaker).sent c.sends.new.outs.outs) (sym (its e))
    (c.sends.ensures.sent d keys speaker
    (subst (λ (voice : TickTurn). Says {S = D} now (get_or standings place d) voice.turn.owing draw speaker) (its e)
    (subst (λ (standing : SessionState). Says {S = D} now standing (get_or voices place e).turn.owing draw speaker) (get_or_default standings place d' d within) says)) sent)) in
    subst (λ (standings : List SessionState). IsSending {S = D} lock ring setting standings (set voices place next) later c.sends.new.draw c.sends.new.outs.outs start)
    (sym (c.sends.ensures.others d)) done
