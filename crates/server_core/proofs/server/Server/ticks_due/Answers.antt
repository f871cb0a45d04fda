use Rattle.std.proofs.Common.{◌≡◌, ◌∙◌, ◌≤◌, ℕ, List, [], ap, sym, subst, refl, arith}
use Rattle.std.specs.Prelude.{sum_by}
use Rattle.auth_keys.specs.declared.ring.RingKey.{RingKey}
use Rattle.server_output.specs.Outs.{AreSent, Going}
use Rattle.server_dispatch.specs.Entries.{Held}
use Rattle.waits.specs.Jobs.{Queue}
use Rattle.server_rules.specs.Event.{Sent, Setting, State}
use Rattle.server_rules.specs.Sending.{all_sent}
use Rattle.server_rules.specs.Answer.{Answer, after_tick, begun, ticks, without_spent}
use Rattle.server_session.specs.Says.{setting_of}
use Rattle.server_core.specs.declared.effects.Effects.{Effects}
use Rattle.server_core.specs.declared.tick_turns.TickTurn.{TickTurn}
use Rattle.server_core.specs.Answering.{AreVoices, IsInTick}
use Rattle.server_core.specs.Effects.{Gives}
use Rattle.server_core.specs.Losing.{IsHere}
use Rattle.server_core.specs.One.{answer_of}
use Rattle.server_core.specs.Reserving.{AreFresh, AreReserved}
use Rattle.server_core.specs.Server.{Kept, Stands, StandsFor}
use Rattle.server_core.proofs.Speaking.{kept-later}
use Rattle.server_core.proofs.TickStart.{can-here, here-speaking, here-with, reserved-all, sending-starts, speaking-here, spent-rest, tick-room, tick-starts}
use Rattle.server_core.proofs.TickTurnSteps.{can-send}
use Rattle.server_core.proofs.Steady.{no_keys, steady-by}
use Rattle.server_core.proofs.server.Server.ticks_due.Goals as goal

pub answers_all-requires-clause-voices : goal.answers_all-requires-clause-voices
answers_all-requires-clause-voices g c =
    let standings = c.self.inside.sessions in
    let after = c.reserves.new.sessions in
    let voices = c.in_ok-voices.voices.list.items in
    let room = c.in_ok-voices.voices.entries.room in
    let ring = g.S.Seal.keys c.self.inside.seal in
    let reserved : AreReserved 0 standings voices after =
    subst (λ (voices : List TickTurn). AreReserved 0 standings voices after) c.deref.ensures.value c.in_ok-reserves.ensures.reserved in
    let sums : sum_by (λ voice. voice.left) voices ≡ room = sym (ap (λ (held : Held). held.room) c.in_ok-voices.ensures.entries) in
    let done = tick-room c.args.moment c.self.inside.jobs.jobs ring c.self.inside.moment standings after voices room c.in_ok-voices.ensures.fresh reserved c.self.invariant.speaking sums in
    subst (λ (order : List ℕ). AreVoices after voices order room) (sym c.in_ok-voices.ensures.order) done

pub sends-requires-clause-sendable : goal.sends-requires-clause-sendable
sends-requires-clause-sendable g c =
    let K : Type 0 = Kept g.row.S.Denot in
    let moment = c.args.moment in
    let standings = c.self.inside.sessions in
    let after = c.reserves.new.sessions in
    let voices = c.in_ok-voices.voices.list.items in
    let ring = g.S.Seal.keys c.self.inside.seal in
    let lt : c.self.inside.moment ≤ moment =
    subst (λ (old : ℕ). old ≤ moment) (sym (ap (λ (kept : K). kept.moment) c.self.view_is)) c.requires.later in
    let reserved : AreReserved 0 standings voices after =
    subst (λ (voices : List TickTurn). AreReserved 0 standings voices after) c.deref.ensures.value c.in_ok-reserves.ensures.reserved in
    let here = speaking-here c.sessions_stand_later.ensures.at ring c.self.inside.moment moment standings lt c.self.invariant.speaking in
    let here_after = reserved-all (IsHere ring moment) (here-with ring moment) standings voices after c.in_ok-voices.ensures.fresh.long reserved here in
    let two = c.answers_all.new in
    can-send ring moment two.sessions two.self.list.items two.self.order.items two.self.entries.room c.answers_all.ensures.voices (c.answers_all.ensures.here ring here_after)

pub returns-clause-given : goal.returns-clause-given
returns-clause-given g c = λ keys server is.
    let stands = is.stands in
    let order = is.between.order in
    let V : Type 0 = g.row.S.Denot in
    let D : Type 0 = g.row.D.Denot in
    let K : Type 0 = Kept V in
    let moment = c.args.moment in
    let draw = c.args.draw.now in
    let lock = g.S.Seal.lock in
    let ring = g.S.Seal.keys c.self.inside.seal in
    let setting : Setting D = setting_of moment g.D.Draw.step keys in
    let inside = subst (λ (kept : K). Stands kept server) (sym c.self.view_is) stands in
    let lt : c.self.inside.moment ≤ moment =
    subst (λ (old : ℕ). old ≤ moment) (sym (ap (λ (kept : K). kept.moment) c.self.view_is)) c.requires.later in
    let standings = c.self.inside.sessions in
    let after = c.reserves.new.sessions in
    let voices = c.in_ok-voices.voices.list.items in
    let made = c.in_ok-voices.voices.entries.entries in
    let bound = c.self.inside.bindings.bindings in
    let are = kept-later c.sessions_stand_later.ensures.later c.self.inside.moment moment standings server.sessions lt inside.sessions in
    let reserved : AreReserved 0 standings voices after =
    subst (λ (voices : List TickTurn). AreReserved 0 standings voices after) c.deref.ensures.value c.in_ok-reserves.ensures.reserved in
    let fresh : AreFresh moment server.jobs standings voices =
    subst (λ (jobs : Queue). AreFresh moment jobs standings voices) inside.jobs c.in_ok-voices.ensures.fresh in
    let none : made ≡ [] = ap (λ (held : Held). held.entries) c.in_ok-voices.ensures.entries in
    let state : State D = begun server draw in
    let starts = tick-starts {S = D} moment standings after voices bound draw server made fresh reserved are order inside.bindings none in
    let begins : IsInTick moment after voices c.in_ok-voices.voices.order.items made c.self.inside.jobs.jobs bound draw state =
    subst (λ (order : List ℕ). IsInTick moment after voices order made c.self.inside.jobs.jobs bound draw state) (sym c.in_ok-voices.ensures.order)
    (subst (λ (jobs : Queue). IsInTick moment after voices [] made jobs bound draw state) (sym inside.jobs) starts) in
    let told : State D = ticks setting state in
    let two = c.answers_all.new in
    let answered = c.answers_all.ensures.ticks keys bound draw state begins in
    let sending = sending-starts {S = D} lock ring setting two.sessions two.self.list.items two.self.order.items two.self.entries.entries two.self.entries.room two.jobs.jobs bound draw
    c.in_ok-outs.outs.outs told answered c.answers_all.ensures.voices (ap (λ (going : Going). going.outs) c.in_ok-outs.ensures) in
    let sent = c.sends.ensures.sends keys told sending in
    let so_far : State D = sent.so_far in
    let all : so_far ≡ all_sent setting told = sent.same in
    let jobs_are : two.jobs.jobs ≡ so_far.jobs = answered.jobs ∙ sym sent.jobs in
    let lost = c.lose_all_spent.ensures.lost moment so_far sent.kept jobs_are in
    let rest = spent-rest so_far in
    let done : State D = without_spent so_far in
    let effects : Effects = record { out = c.sends.new.outs; entries = c.sends.new.self.entries } in
    let kept_now : K = record {
      seal = c.self.inside.seal;
      moment = moment;
      sessions = c.lose_all_spent.new.sessions;
      jobs = c.lose_all_spent.new.jobs.jobs;
      bindings = bound;
    } in
    let answer : Answer D = answer_of setting done in
    let same_ring : ring ≡ g.S.Seal.keys c.args.self.now.seal = ap (λ (kept : K). g.S.Seal.keys kept.seal) c.self.view_is in
    let sent_then : AreSent lock (g.S.Seal.keys c.args.self.now.seal) done.sent c.sends.new.outs.outs =
    subst (λ (ring : List RingKey). AreSent lock ring done.sent c.sends.new.outs.outs) same_ring
    (subst (λ (sent : List Sent). AreSent lock ring sent c.sends.new.outs.outs) (sym rest.sent) sent.sent) in
    let given : Gives {S = V} {D = D} lock (g.S.Seal.keys c.args.self.now.seal) kept_now c.sends.new.draw effects answer = record {
      stands = record {
        moment = refl;
        sessions = lost.0;
        jobs = lost.1;
        bindings = answered.bindings ∙ (sym sent.bindings ∙ sym rest.bindings);
      };
      drawn = sent.draws ∙ sym rest.draw;
      sent = sent_then;
      entered = ap (λ (held : Held). held.entries) c.sends.ensures.same_entries ∙ (answered.entries ∙ (sym sent.entries ∙ sym rest.entries));
    } in
    let same : after_tick setting server draw ≡ answer = ap (λ (state : State D). answer_of setting (without_spent state)) (sym all) in
    subst (λ (answer : Answer D). Gives {S = V} {D = D} lock (g.S.Seal.keys c.args.self.now.seal) kept_now c.sends.new.draw effects answer) (sym same) given

pub invariant_of-self-2 : goal.invariant_of-self-2
invariant_of-self-2 g c =
    let moment = c.args.moment in
    let ring = g.S.Seal.keys c.self.inside.seal in
    let sent = c.sends.new in
    let here = c.lose_all_spent.ensures.here ring moment (can-here ring moment sent.sessions sent.self.list.items c.sends.ensures.sendable) in
    let standings = c.self.inside.sessions in
    let after = c.reserves.new.sessions in
    let voices = c.in_ok-voices.voices.list.items in
    let reserved : AreReserved 0 standings voices after =
    subst (λ (voices : List TickTurn). AreReserved 0 standings voices after) c.deref.ensures.value c.in_ok-reserves.ensures.reserved in
    let long = reserved.long in
    let answered = c.answers_all.ensures.same_count in
    let out = c.sends.ensures.same_count in
    let fewer = c.lose_all_spent.ensures.fewer in
    let few = c.self.invariant.few in
    let V : Type 0 = g.row.S.Denot in
    let D : Type 0 = g.row.D.Denot in
    let K : Type 0 = Kept V in
    let old = c.self.invariant in
    let setting : Setting D = setting_of moment g.D.Draw.step no_keys in
    let given = returns-clause-given g c no_keys old.server (subst (λ (kept : K). StandsFor kept old.server) c.self.view_is old.stands_for) in
    steady-by {S = V} ring _ (after_tick setting old.server c.args.draw.now).server
    (record {
      few = omega arith;
      speaking = here-speaking ring moment c.lose_all_spent.new.sessions here c.lose_all_spent.ensures.left;
    })
    given.stands (c.events_keep_order.ensures.tick setting old.server c.args.draw.now c.is_early.ensures old.stands_for.between)

pub answers_all-requires-clause-tick : goal.answers_all-requires-clause-tick
answers_all-requires-clause-tick g c =
    let V : Type 0 = g.row.S.Denot in
    let D : Type 0 = g.row.D.Denot in
    let K : Type 0 = Kept V in
    let moment = c.args.moment in
    let draw = c.args.draw.now in
    let old = c.self.invariant in
    let server = old.server in
    let inside = old.stands_for.stands in
    let lt : c.self.inside.moment ≤ moment =
    subst (λ (old : ℕ). old ≤ moment) (sym (ap (λ (kept : K). kept.moment) c.self.view_is)) c.requires.later in
    let standings = c.self.inside.sessions in
    let after = c.reserves.new.sessions in
    let voices = c.in_ok-voices.voices.list.items in
    let made = c.in_ok-voices.voices.entries.entries in
    let bound = c.self.inside.bindings.bindings in
    let are = kept-later c.sessions_stand_later.ensures.later c.self.inside.moment moment standings server.sessions lt inside.sessions in
    let reserved : AreReserved 0 standings voices after =
    subst (λ (voices : List TickTurn). AreReserved 0 standings voices after) c.deref.ensures.value c.in_ok-reserves.ensures.reserved in
    let fresh : AreFresh moment server.jobs standings voices =
    subst (λ (jobs : Queue). AreFresh moment jobs standings voices) inside.jobs c.in_ok-voices.ensures.fresh in
    let none : made ≡ [] = ap (λ (held : Held). held.entries) c.in_ok-voices.ensures.entries in
    let starts = tick-starts {S = D} moment standings after voices bound draw server made fresh reserved are old.stands_for.between.order inside.bindings none in
    record {
      bound = bound;
      draw = draw;
      state = begun server draw;
      is = subst (λ (order : List ℕ). IsInTick moment after voices order made c.self.inside.jobs.jobs bound draw (begun server draw)) (sym c.in_ok-voices.ensures.order)
          (subst (λ (jobs : Queue). IsInTick moment after voices [] made jobs bound draw (begun server draw)) (sym inside.jobs) starts);
    }
