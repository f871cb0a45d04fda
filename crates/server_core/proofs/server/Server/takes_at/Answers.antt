use Rattle.std.proofs.Common.{◌≡◌, ◌∙◌, ◌+◌, ◌≤◌, ℕ, Some, List, length, map, ap, sym, subst, arith}
use Rattle.std.specs.List.{insert, position, remove}
use Rattle.std.proofs.lemmas.List.Edits.{length-remove}
use Rattle.auth_keys.specs.declared.ring.RingKey.{RingKey}
use Rattle.inbox.specs.Verdicts.{Judgement, bare_judgement}
use Rattle.server_dispatch.specs.declared.dues.Due.{Due}
use Rattle.server_dispatch.specs.Rings.{AreOf}
use Rattle.waits.specs.Jobs.{Queue}
use Rattle.server_rules.specs.Answer.{Answer, after_packet, begun, message_in}
use Rattle.server_rules.specs.Event.{Envelope, Setting}
use Rattle.server_rules.specs.Server.{Binding, Name, Session, mark_in, remembered, session_named}
use Rattle.law_server.specs.Order.{jobs_of}
use Rattle.server_session.specs.declared.session.SessionState.{SessionState}
use Rattle.server_session.specs.Names.{name_kept}
use Rattle.server_session.specs.Says.{setting_of}
use Rattle.law_server.specs.Lives.{way_of}
use Rattle.server_core.specs.Among.{Among, ended_among, heard_among, takes_among}
use Rattle.server_core.specs.Effects.{Gives}
use Rattle.server_core.specs.Failures.{blocked_of}
use Rattle.server_core.specs.Packets.{Fits, bodies_of, brought, judged_of, kept_so}
use Rattle.server_core.specs.Room.{dues_in}
use Rattle.ring_rules.specs.Binding.{keys_of}
use Rattle.server_core.specs.Server.{IsSteady, Kept, Stands, StandsFor}
use Rattle.server_core.specs.Sessions.{AreApart, is_kept_as}
use Rattle.server_core.specs.SettlingAll.{AreDue}
use Rattle.server_core.proofs.HeardLemmas.{back-at, beside-known, can-judged, can-lent, fits-few, heard-blocked, judged-so}
use Rattle.server_core.proofs.Lists.{place-is}
use Rattle.server_core.proofs.PacketDues.{are-due}
use Rattle.server_core.proofs.Speaking.{kept-later, sessions-have_room}
use Rattle.server_core.proofs.Steady.{no_keys, sound-of, steady-by}
use Rattle.server_core.proofs.server.Server.takes_at.Goals as goal

pub hears_known-others-requires : goal.hears_known-others-requires
hears_known-others-requires g c =
    let K : Type 0 = Kept g.row.S.Denot in
    let name : Name = record { key = c.args.name.key; session = c.args.name.session } in
    let standings = c.self.inside.sessions in
    let placed : Some c.args.place ≡ position (is_kept_as name) standings =
    sym (ap (λ (kept : K). position (is_kept_as name) kept.sessions) c.self.view_is ∙ c.requires.place) in
    record { place = (place-is (is_kept_as name) standings c.args.place placed).1 }

pub judges_in_room-requires : goal.judges_in_room-requires
judges_in_room-requires g c =
    let K : Type 0 = Kept g.row.S.Denot in
    let laws = c.sessions_stand_later.ensures in
    let name : Name = record { key = c.args.name.key; session = c.args.name.session } in
    let place = c.args.place in
    let moment = c.args.moment in
    let standings = c.self.inside.sessions in
    let placed : position (is_kept_as name) standings ≡ Some place = ap (λ (kept : K). position (is_kept_as name) kept.sessions) c.self.view_is ∙ c.requires.place in
    let at = place-is (is_kept_as name) standings place (sym placed) in
    let one : SessionState = c.hears_known-others.result.1 in
    let ring = g.S.Seal.keys c.self.inside.seal in
    let lt : c.self.inside.moment ≤ moment = subst (λ (old : ℕ). old ≤ moment) (sym (ap (λ (kept : K). kept.moment) c.self.view_is)) c.requires.later in
    let can = can-lent ring c.self.inside.moment standings place one c.self.invariant.speaking at.1 (c.hears_known-others.ensures.at_place one) in
    record { at = laws.at c.self.inside.moment moment one lt can.at }

pub answers-sessions-requires : goal.answers-sessions-requires
answers-sessions-requires g c =
    let K : Type 0 = Kept g.row.S.Denot in
    let laws = c.sessions_stand_later.ensures in
    let name : Name = record { key = c.args.name.key; session = c.args.name.session } in
    let place = c.args.place in
    let moment = c.args.moment in
    let standings = c.self.inside.sessions in
    let placed : position (is_kept_as name) standings ≡ Some place = ap (λ (kept : K). position (is_kept_as name) kept.sessions) c.self.view_is ∙ c.requires.place in
    let at = place-is (is_kept_as name) standings place (sym placed) in
    let one : SessionState = c.hears_known-others.result.1 in
    let ring = g.S.Seal.keys c.self.inside.seal in
    let lt : c.self.inside.moment ≤ moment = subst (λ (old : ℕ). old ≤ moment) (sym (ap (λ (kept : K). kept.moment) c.self.view_is)) c.requires.later in
    let can = can-lent ring c.self.inside.moment standings place one c.self.invariant.speaking at.1 (c.hears_known-others.ensures.at_place one) in
    let after : SessionState = c.judges_in_room.new.standing in
    let D : Type 0 = g.row.D.Denot in
    let server = c.self.invariant.server in
    let setting : Setting D = setting_of moment g.D.Draw.step no_keys in
    let envelope : Envelope = brought c.args.name.key c.args.name.session c.args.outer.now in
    let draw = c.args.draw.now in
    let are = kept-later laws.later c.self.inside.moment moment standings server.sessions lt c.self.invariant.stands_for.stands.sessions in
    let heard : Among D = heard_among setting envelope (begun server draw) in
    let is_heard = c.hears_known-others.ensures.heard setting envelope server draw are placed in
    record {
      speaking = can-judged ring c.self.inside.moment moment one after can c.in-Ok.ensures.same_name c.in-Ok.ensures.same_numbers c.in-Ok.ensures.at;
      room = c.in-Ok.ensures.room;
      fitting = c.in-Ok.ensures.fitting heard.speaker.session is_heard.stands;
      beside =
          beside-known laws.at ring c.self.inside.moment moment name standings c.hears_known-others.result.0 place after lt (sound-of ring _ c.self.invariant) at.1
          c.hears_known-others.ensures.removed (c.hears_known-others.ensures.others name placed) (c.in-Ok.ensures.same_name ∙ c.hears_known-others.ensures.named name placed);
    }

pub with_it_at-requires : goal.with_it_at-requires
with_it_at-requires g c =
    let K : Type 0 = Kept g.row.S.Denot in
    let laws = c.sessions_stand_later.ensures in
    let name : Name = record { key = c.args.name.key; session = c.args.name.session } in
    let place = c.args.place in
    let moment = c.args.moment in
    let standings = c.self.inside.sessions in
    let placed : position (is_kept_as name) standings ≡ Some place = ap (λ (kept : K). position (is_kept_as name) kept.sessions) c.self.view_is ∙ c.requires.place in
    let at = place-is (is_kept_as name) standings place (sym placed) in
    let one : SessionState = c.hears_known-others.result.1 in
    let ring = g.S.Seal.keys c.self.inside.seal in
    let lt : c.self.inside.moment ≤ moment = subst (λ (old : ℕ). old ≤ moment) (sym (ap (λ (kept : K). kept.moment) c.self.view_is)) c.requires.later in
    let can = can-lent ring c.self.inside.moment standings place one c.self.invariant.speaking at.1 (c.hears_known-others.ensures.at_place one) in
    let after : SessionState = c.judges_in_room.new.standing in
    let others = c.hears_known-others.result.0 in
    let removed : others ≡ remove standings place = c.hears_known-others.ensures.removed in
    let long : length others ≡ length (remove standings place) = ap (λ (standings : List SessionState). length standings) removed in
    let fewer = length-remove standings place at.1 in
    let is : insert others place after ≡ standings =
    ap (λ (others : List SessionState). insert others place after) removed
    ∙ (ap (λ (one : SessionState). insert (remove standings place) place one) c.in-Err.ensures.unchanged_on_memory ∙ back-at standings place one at.1 (c.hears_known-others.ensures.at_place one)) in
    record { place = omega (arith, at.1); apart = subst AreApart (sym is) c.hears_known-others.ensures.sessions_apart }

pub returns-in-Err-clause-unchanged_on_memory : goal.returns-in-Err-clause-unchanged_on_memory
returns-in-Err-clause-unchanged_on_memory g c =
    let K : Type 0 = Kept g.row.S.Denot in
    let laws = c.sessions_stand_later.ensures in
    let name : Name = record { key = c.args.name.key; session = c.args.name.session } in
    let place = c.args.place in
    let moment = c.args.moment in
    let standings = c.self.inside.sessions in
    let placed : position (is_kept_as name) standings ≡ Some place = ap (λ (kept : K). position (is_kept_as name) kept.sessions) c.self.view_is ∙ c.requires.place in
    let at = place-is (is_kept_as name) standings place (sym placed) in
    let one : SessionState = c.hears_known-others.result.1 in
    let ring = g.S.Seal.keys c.self.inside.seal in
    let lt : c.self.inside.moment ≤ moment = subst (λ (old : ℕ). old ≤ moment) (sym (ap (λ (kept : K). kept.moment) c.self.view_is)) c.requires.later in
    let can = can-lent ring c.self.inside.moment standings place one c.self.invariant.speaking at.1 (c.hears_known-others.ensures.at_place one) in
    let after : SessionState = c.judges_in_room.new.standing in
    let others = c.hears_known-others.result.0 in
    let removed : others ≡ remove standings place = c.hears_known-others.ensures.removed in
    let is : insert others place after ≡ standings =
    ap (λ (others : List SessionState). insert others place after) removed
    ∙ (ap (λ (one : SessionState). insert (remove standings place) place one) c.in-Err.ensures.unchanged_on_memory ∙ back-at standings place one at.1 (c.hears_known-others.ensures.at_place one)) in
    let seal = c.self.inside.seal in
    let before = c.self.inside.moment in
    let jobs = c.judges_in_room.new.jobs.jobs in
    let bindings = c.judges_in_room.new.bindings.bindings in
    ap (λ (standings : List SessionState). kept_so seal before standings jobs bindings) (c.with_it_at.ensures ∙ is)
    ∙ (ap (λ (jobs : Queue). kept_so seal before standings jobs bindings) c.in-Err.ensures.same_jobs
    ∙ (ap (λ (bindings : List Binding). kept_so seal before standings c.self.inside.jobs.jobs bindings) c.in-Err.ensures.same_bindings ∙ c.self.view_is))

pub returns-in-Ok-clause-given : goal.returns-in-Ok-clause-given
returns-in-Ok-clause-given g c = λ keys server of is.
    let stands = is.stands in
    let order = is.between.order in
    let V : Type 0 = g.row.S.Denot in
    let D : Type 0 = g.row.D.Denot in
    let K : Type 0 = Kept V in
    let laws = c.sessions_stand_later.ensures in
    let name : Name = record { key = c.args.name.key; session = c.args.name.session } in
    let moment = c.args.moment in
    let standings = c.self.inside.sessions in
    let placed : position (is_kept_as name) standings ≡ Some c.args.place = ap (λ (kept : K). position (is_kept_as name) kept.sessions) c.self.view_is ∙ c.requires.place in
    let lock = g.S.Seal.lock in
    let ring = g.S.Seal.keys c.self.inside.seal in
    let same_ring : ring ≡ g.S.Seal.keys c.args.self.now.seal = ap (λ (kept : K). g.S.Seal.keys kept.seal) c.self.view_is in
    let of_ring = subst (λ (ring : List RingKey). AreOf ring keys) (sym same_ring) of in
    let lt : c.self.inside.moment ≤ moment = subst (λ (old : ℕ). old ≤ moment) (sym (ap (λ (kept : K). kept.moment) c.self.view_is)) c.requires.later in
    let inside = subst (λ (kept : K). Stands kept server) (sym c.self.view_is) stands in
    let are = kept-later laws.later c.self.inside.moment moment standings server.sessions lt inside.sessions in
    let room = sessions-have_room laws.room ring c.self.inside.moment moment standings server.sessions are c.self.invariant.speaking in
    let setting : Setting D = setting_of moment g.D.Draw.step keys in
    let envelope : Envelope = brought c.args.name.key c.args.name.session c.args.outer.now in
    let draw = c.args.draw.now in
    let heard : Among D = heard_among setting envelope (begun server draw) in
    let session : Session = heard.speaker.session in
    let one : SessionState = c.hears_known-others.result.1 in
    let is_heard = c.hears_known-others.ensures.heard setting envelope server draw are placed in
    let alone = c.one_session_stays_alone.ensures.heard setting envelope server draw room order.unfailed in
    let ordered = c.one_session_stays_in_order.ensures.heard setting envelope server draw order in
    let judged = c.in-Ok.both.1 in
    let taken = c.in-Ok.both.0 in
    let told : List Judgement = judged_of setting envelope session in
    let judged_is : judged ≡ map bare_judgement told = c.in-Ok.ensures.judged session is_heard.stands in
    let after = c.in-Ok.ensures.stands session (jobs_of name heard.speaker.jobs) is_heard.stands ordered in
    let jobs_are : c.judges_in_room.new.jobs.jobs ≡ server.jobs = c.in-Ok.ensures.same_jobs ∙ inside.jobs in
    let bindings_are : c.judges_in_room.new.bindings.bindings ≡ server.bindings = c.in-Ok.ensures.same_bindings ∙ inside.bindings in
    let has = judged-so setting envelope c.hears_known-others.result.0 one c.judges_in_room.new.standing server.jobs c.judges_in_room.new.jobs.jobs
    server.bindings c.judges_in_room.new.bindings.bindings draw judged heard is_heard after jobs_are bindings_are judged_is alone ordered in
    let bodies = bodies_of setting envelope session in
    let due_is : taken.dues.items ≡ dues_in (mark_in session envelope.number) (message_in envelope) = c.in-Ok.ensures.dues session is_heard.stands in
    let E : List Due → Type 0 = λ dues. AreDue told bodies dues in
    let due : AreDue told bodies taken.dues.items = subst E (sym due_is) (are-due (way_of setting envelope session) (remembered session) (message_in envelope)) in
    let fitting = c.in-Ok.ensures.fitting session is_heard.stands in
    let named_so : name_kept one ≡ name = c.hears_known-others.ensures.named name placed in
    let limit_is : taken.limit ≡ blocked_of name server.jobs + length taken.dues.items =
    c.in-Ok.ensures.limit
    ∙ (ap (λ (name : Name). blocked_of name c.self.inside.jobs.jobs + length taken.dues.items) named_so
    ∙ ap (λ (jobs : Queue). blocked_of name jobs + length taken.dues.items) inside.jobs) in
    let fits : Fits setting envelope judged taken heard = record {
      due = due;
      few =
          fits-few (blocked_of name server.jobs) (blocked_of name heard.speaker.jobs) (length judged) (length taken.dues.items) taken.limit limit_is
          (heard-blocked setting envelope (session_named name server.sessions) (begun server draw)) fitting.few;
    } in
    let given = c.answers-sessions.ensures.given keys envelope heard of_ring has fits in
    let same : after_packet setting envelope server draw ≡ ended_among setting (takes_among setting envelope heard) =
    c.one_session_takes.ensures setting envelope server draw room order.unfailed in
    let kept_now : K = kept_so c.self.inside.seal moment c.answers-sessions.result.0 c.answers-sessions.new.jobs.jobs c.answers-sessions.new.bindings.bindings in
    let R : List RingKey → Type 0 = λ ring. Gives {S = V} {D = D} lock ring kept_now c.answers-sessions.new.draw c.answers-sessions.result.1
    (ended_among setting (takes_among setting envelope heard)) in
    let G : Answer D → Type 0 = λ answer. Gives {S = V} {D = D} lock (g.S.Seal.keys c.args.self.now.seal) kept_now c.answers-sessions.new.draw c.answers-sessions.result.1 answer in
    subst G (sym same) (subst R same_ring given)

pub invariant_of-self-in-Err : goal.invariant_of-self-in-Err
invariant_of-self-in-Err g c =
    let K : Type 0 = Kept g.row.S.Denot in
    subst (λ (kept : K). IsSteady (g.S.Seal.keys c.self.inside.seal) kept) (c.self.view_is ∙ sym (returns-in-Err-clause-unchanged_on_memory g c)) c.self.invariant

pub invariant_of-self : goal.invariant_of-self
invariant_of-self g c =
    let V : Type 0 = g.row.S.Denot in
    let D : Type 0 = g.row.D.Denot in
    let K : Type 0 = Kept V in
    let old = c.self.invariant in
    let ring = g.S.Seal.keys c.args.self.now.seal in
    let keys = keys_of ring in
    let setting : Setting D = setting_of c.args.moment g.D.Draw.step keys in
    let envelope : Envelope = brought c.args.name.key c.args.name.session c.args.outer.now in
    let given = returns-in-Ok-clause-given g c keys old.server (c.rings_have_keys.ensures ring) (subst (λ (kept : K). StandsFor kept old.server) c.self.view_is old.stands_for) in
    steady-by {S = V} (g.S.Seal.keys c.self.inside.seal) _ (after_packet setting envelope old.server c.args.draw.now).server c.answers-sessions.ensures.sound
    given.stands (c.events_keep_order.ensures.packet setting envelope old.server c.args.draw.now c.is_early.ensures old.stands_for.between)
