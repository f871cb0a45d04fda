use Rattle.std.proofs.Common.{◌≡◌, ◌∙◌, ◌≤◌, ℕ, List, max, ap, subst, sym, arith}
use Rattle.std.specs.Prelude.{IfOk, OnOk}
use Rattle.std.proofs.lemmas.Result.{IfOk-weaker}
use Rattle.auth_keys.specs.declared.ring.RingKey.{RingKey}
use Rattle.envelope.specs.declared.parts.Dir.TheVariants.{Up}
use Rattle.envelope.specs.declared.parts.Envelope.{Envelope}
use Rattle.envelope.specs.Opening.{IsRefused, Opens}
use Rattle.msg_ids.specs.Moments.{latest_moment}
use Rattle.server_rules.specs.Answer.{after_packet}
use Rattle.server_rules.specs.Event.{Setting}
use Rattle.server_session.specs.Says.{setting_of}
use Rattle.server_core.specs.declared.desk.Reply.{Reply}
use Rattle.server_core.specs.Desks.{Does}
use Rattle.server_core.specs.Effects.{Gives}
use Rattle.server_core.specs.Packets.{brought_in, effects_in}
use Rattle.server_core.specs.Server.{Kept, Stands, StandsFor}
use Rattle.server_core.specs.Acceptance.{WasTaken}
use Rattle.server_core.proofs.Acked.{was-taken}
use Rattle.server_core.proofs.Desked.{does, stays}
use Rattle.server_core.proofs.Speaking.{sessions-have_room}
use Rattle.server_core.proofs.server.Server.on_packet.Goals as goal

pub returns-in-None-clause-given : goal.returns-in-None-clause-given
returns-in-None-clause-given g c = λ keys server envelope of is opens.
    let V : Type 0 = g.row.S.Denot in
    let D : Type 0 = g.row.D.Denot in
    let K : Type 0 = Kept V in
    let lock = g.S.Seal.lock in
    let ring = g.S.Seal.keys c.args.self.now.seal in
    let packet = c.args.packet.now in
    let latest = max c.args.self.now.moment c.args.now in
    let same_ring : g.S.Seal.keys c.self.inside.seal ≡ ring = ap (λ (kept : K). g.S.Seal.keys kept.seal) c.self.view_is in
    let moment : c.later-moment.result ≡ latest = c.later-moment.ensures ∙ ap (λ (kept : K). max kept.moment c.args.now) c.self.view_is in
    let one : Envelope = c.in-Envelope.envelope in
    let R : List RingKey → Type 0 = λ ring. Opens lock ring c.later-moment.result Up packet one in
    let M : ℕ → Type 0 = λ now. Opens lock ring now Up packet one in
    let opened : Opens lock ring latest Up packet one = subst M moment (subst R same_ring c.in-Envelope.ensures.envelope) in
    let same : one ≡ envelope = c.opens_what_it_sealed.ensures.one_envelope ring latest Up packet one envelope opened opens in
    let N : ℕ → Type 0 = λ now. IfOk c.takes_new.result (λ reply. Gives {S = V} {D = D} lock ring c.takes_new.new.self c.takes_new.new.draw (effects_in reply)
    (after_packet (setting_of now g.D.Draw.step keys) (brought_in one) server c.args.draw.now)) in
    let E : Envelope → Type 0 = λ envelope. IfOk c.takes_new.result (λ reply. Gives {S = V} {D = D} lock ring c.takes_new.new.self c.takes_new.new.draw (effects_in reply)
    (after_packet (setting_of latest g.D.Draw.step keys) (brought_in envelope) server c.args.draw.now)) in
    let setting : Setting D = setting_of latest g.D.Draw.step keys in
    let draw = c.args.draw.now in
    let early : latest ≤ latest_moment = subst (λ (at : ℕ). at ≤ latest_moment) moment c.is_early.ensures in
    does V D lock ring c.takes_new.new.self c.takes_new.new.draw (λ (reply : Reply). effects_in reply) (after_packet setting (brought_in envelope) server draw) c.takes_new.result
    (c.events_keep_order.ensures.packet setting (brought_in envelope) server draw early is.between)
    (subst E same (subst N moment (c.takes_new.ensures.given keys server of is)))

pub returns-clause-given : goal.returns-clause-given
returns-clause-given g c = λ keys server envelope of is opens.
    let V : Type 0 = g.row.S.Denot in
    let D : Type 0 = g.row.D.Denot in
    let K : Type 0 = Kept V in
    let lock = g.S.Seal.lock in
    let ring = g.S.Seal.keys c.args.self.now.seal in
    let packet = c.args.packet.now in
    let latest = max c.args.self.now.moment c.args.now in
    let same_ring : g.S.Seal.keys c.self.inside.seal ≡ ring = ap (λ (kept : K). g.S.Seal.keys kept.seal) c.self.view_is in
    let moment : c.later-moment.result ≡ latest = c.later-moment.ensures ∙ ap (λ (kept : K). max kept.moment c.args.now) c.self.view_is in
    let one : Envelope = c.in-Envelope.envelope in
    let R : List RingKey → Type 0 = λ ring. Opens lock ring c.later-moment.result Up packet one in
    let M : ℕ → Type 0 = λ now. Opens lock ring now Up packet one in
    let opened : Opens lock ring latest Up packet one = subst M moment (subst R same_ring c.in-Envelope.ensures.envelope) in
    let same : one ≡ envelope = c.opens_what_it_sealed.ensures.one_envelope ring latest Up packet one envelope opened opens in
    let N : ℕ → Type 0 = λ now. IfOk c.takes_at.result (λ reply. Gives {S = V} {D = D} lock ring c.takes_at.new.self c.takes_at.new.draw (effects_in reply)
    (after_packet (setting_of now g.D.Draw.step keys) (brought_in one) server c.args.draw.now)) in
    let E : Envelope → Type 0 = λ envelope. IfOk c.takes_at.result (λ reply. Gives {S = V} {D = D} lock ring c.takes_at.new.self c.takes_at.new.draw (effects_in reply)
    (after_packet (setting_of latest g.D.Draw.step keys) (brought_in envelope) server c.args.draw.now)) in
    let setting : Setting D = setting_of latest g.D.Draw.step keys in
    let draw = c.args.draw.now in
    let early : latest ≤ latest_moment = subst (λ (at : ℕ). at ≤ latest_moment) moment c.is_early.ensures in
    does V D lock ring c.takes_at.new.self c.takes_at.new.draw (λ (reply : Reply). effects_in reply) (after_packet setting (brought_in envelope) server draw) c.takes_at.result
    (c.events_keep_order.ensures.packet setting (brought_in envelope) server draw early is.between)
    (subst E same (subst N moment (c.takes_at.ensures.given keys server of is)))

pub returns-in-Refused-clause-given : goal.returns-in-Refused-clause-given
returns-in-Refused-clause-given g c = λ keys server envelope of is opens.
    let K : Type 0 = Kept g.row.S.Denot in
    let lock = g.S.Seal.lock in
    let ring = g.S.Seal.keys c.args.self.now.seal in
    let packet = c.args.packet.now in
    let latest = max c.args.self.now.moment c.args.now in
    let same_ring : g.S.Seal.keys c.self.inside.seal ≡ ring = ap (λ (kept : K). g.S.Seal.keys kept.seal) c.self.view_is in
    let moment : c.later-moment.result ≡ latest = c.later-moment.ensures ∙ ap (λ (kept : K). max kept.moment c.args.now) c.self.view_is in
    let refusal = c.in-Refused.refusal in
    let R : List RingKey → Type 0 = λ ring. IsRefused lock ring c.later-moment.result Up packet refusal in
    let M : ℕ → Type 0 = λ now. IsRefused lock ring now Up packet refusal in
    absurd (c.opens_what_it_sealed.ensures.not_both ring latest Up packet envelope refusal opens (subst M moment (subst R same_ring c.in-Refused.ensures.refused)))

pub returns-in-None-clause-accepted : goal.returns-in-None-clause-accepted
returns-in-None-clause-accepted g c = λ keys server envelope session of is opens found acceptable.
    let V : Type 0 = g.row.S.Denot in
    let D : Type 0 = g.row.D.Denot in
    let setting = setting_of (max c.args.self.now.moment c.args.now) g.D.Draw.step keys in
    let lock = g.S.Seal.lock in
    let ring = g.S.Seal.keys c.args.self.now.seal in
    let brought = brought_in envelope in
    let taken = c.lawful_messages_are_taken.ensures setting brought server c.args.draw.now session found acceptable in
    let inside = subst (λ (kept : Kept V). Stands kept server) (sym c.self.view_is) is.stands in
    let room = sessions-have_room c.sessions_stand_later.ensures.room (g.S.Seal.keys c.self.inside.seal) c.self.inside.moment c.self.inside.moment c.self.inside.sessions
    server.sessions inside.sessions c.self.invariant.speaking in
    let accepted = c.acceptable_messages_are_accepted.ensures setting brought server c.args.draw.now session room is.between.order found acceptable in
    IfOk-weaker c.takes_new.result
    (λ reply. Does {D = D} (StandsFor {S = V} c.takes_new.new.self) lock ring c.takes_new.new.draw (effects_in reply) (after_packet setting brought server c.args.draw.now))
    (λ reply. WasTaken {S = V} lock ring setting brought server c.args.draw.now session c.takes_new.new.self (effects_in reply))
    (λ reply gives. was-taken lock ring setting brought server c.args.draw.now session c.takes_new.new.self c.takes_new.new.draw (effects_in reply) gives accepted
    (c.acknowledgements_go_out.ensures setting brought server c.args.draw.now taken))
    (returns-in-None-clause-given g c keys server envelope of is opens)

pub returns-clause-accepted : goal.returns-clause-accepted
returns-clause-accepted g c = λ keys server envelope session of is opens found acceptable.
    let V : Type 0 = g.row.S.Denot in
    let D : Type 0 = g.row.D.Denot in
    let setting = setting_of (max c.args.self.now.moment c.args.now) g.D.Draw.step keys in
    let lock = g.S.Seal.lock in
    let ring = g.S.Seal.keys c.args.self.now.seal in
    let brought = brought_in envelope in
    let taken = c.lawful_messages_are_taken.ensures setting brought server c.args.draw.now session found acceptable in
    let inside = subst (λ (kept : Kept V). Stands kept server) (sym c.self.view_is) is.stands in
    let room = sessions-have_room c.sessions_stand_later.ensures.room (g.S.Seal.keys c.self.inside.seal) c.self.inside.moment c.self.inside.moment c.self.inside.sessions
    server.sessions inside.sessions c.self.invariant.speaking in
    let accepted = c.acceptable_messages_are_accepted.ensures setting brought server c.args.draw.now session room is.between.order found acceptable in
    IfOk-weaker c.takes_at.result
    (λ reply. Does {D = D} (StandsFor {S = V} c.takes_at.new.self) lock ring c.takes_at.new.draw (effects_in reply) (after_packet setting brought server c.args.draw.now))
    (λ reply. WasTaken {S = V} lock ring setting brought server c.args.draw.now session c.takes_at.new.self (effects_in reply))
    (λ reply gives. was-taken lock ring setting brought server c.args.draw.now session c.takes_at.new.self c.takes_at.new.draw (effects_in reply) gives accepted
    (c.acknowledgements_go_out.ensures setting brought server c.args.draw.now taken))
    (returns-clause-given g c keys server envelope of is opens)

pub returns-in-Refused-clause-accepted : goal.returns-in-Refused-clause-accepted
returns-in-Refused-clause-accepted g c = λ keys server envelope session of is opens found acceptable.
    let K : Type 0 = Kept g.row.S.Denot in
    let lock = g.S.Seal.lock in
    let ring = g.S.Seal.keys c.args.self.now.seal in
    let packet = c.args.packet.now in
    let latest = max c.args.self.now.moment c.args.now in
    let same_ring : g.S.Seal.keys c.self.inside.seal ≡ ring = ap (λ (kept : K). g.S.Seal.keys kept.seal) c.self.view_is in
    let moment : c.later-moment.result ≡ latest = c.later-moment.ensures ∙ ap (λ (kept : K). max kept.moment c.args.now) c.self.view_is in
    let refusal = c.in-Refused.refusal in
    let R : List RingKey → Type 0 = λ ring. IsRefused lock ring c.later-moment.result Up packet refusal in
    let M : ℕ → Type 0 = λ now. IsRefused lock ring now Up packet refusal in
    absurd (c.opens_what_it_sealed.ensures.not_both ring latest Up packet envelope refusal opens (subst M moment (subst R same_ring c.in-Refused.ensures.refused)))

pub returns-in-Refused-clause-stays : goal.returns-in-Refused-clause-stays
returns-in-Refused-clause-stays g c = λ server refusal is refused.
    let K : Type 0 = Kept g.row.S.Denot in
    let latest = max c.args.self.now.moment c.args.now in
    let moment : c.later-moment.result ≡ latest = c.later-moment.ensures ∙ ap (λ (kept : K). max kept.moment c.args.now) c.self.view_is in
    let early : latest ≤ latest_moment = subst (λ (at : ℕ). at ≤ latest_moment) moment c.is_early.ensures in
    let same = subst (λ (at : ℕ). OnOk c.refuses.result (c.refuses.new.self ≡ record c.args.self.now { moment = at })) moment c.refuses.ensures.moment_alone in
    stays c.sessions_stand_later.ensures.later c.args.self.now c.refuses.new.self latest server c.refuses.result (omega arith) same
    (c.losses_keep_order.ensures.later latest server early is.between) is
