use Rattle.std.proofs.Common.{◌≡◌, ◌∙◌, ◌+◌, ◌≤◌, ℕ, None, Result, Ok, Err, List, length, map, ap, sym, subst, refl, arith}
use Rattle.std.specs.List.{position}
use Rattle.std.specs.Prelude.{IfOk, IsErrAnd, IsSome, OnErr}
use Rattle.auth_keys.specs.declared.ring.RingKey.{RingKey}
use Rattle.auth_keys.specs.Rings.{entry_of}
use Rattle.inbox.specs.Verdicts.{Judgement, bare_judgement}
use Rattle.server_dispatch.specs.declared.dues.Due.{Due}
use Rattle.server_dispatch.specs.Rings.{AreOf}
use Rattle.waits.specs.Held.{Held}
use Rattle.waits.specs.Jobs.{Queue}
use Rattle.server_rules.specs.Answer.{Answer, after_packet, begun, message_in, session_for}
use Rattle.server_rules.specs.Event.{Envelope, Setting, State}
use Rattle.server_rules.specs.Server.{Binding, Name, Session, mark_in, remembered, session_named}
use Rattle.law_server.specs.Order.{jobs_of}
use Rattle.server_session.specs.declared.session.SessionState.{SessionState}
use Rattle.server_session.specs.Names.{name_kept}
use Rattle.server_session.specs.Says.{setting_of}
use Rattle.law_server.specs.Lives.{way_of}
use Rattle.server_core.specs.Among.{Among, ended_among, heard_among, takes_among}
use Rattle.server_core.specs.Effects.{Gives}
use Rattle.server_core.specs.Failures.{blocked_of}
use Rattle.server_core.specs.Packets.{Fits, bodies_of, brought, judged_of, kept_so}
use Rattle.server_core.specs.Room.{CanTake, dues_in}
use Rattle.ring_rules.specs.Binding.{keys_of}
use Rattle.server_core.specs.Server.{CanSpeak, Kept, Stands, StandsFor}
use Rattle.server_core.specs.Sessions.{is_kept_as}
use Rattle.server_core.specs.SettlingAll.{AreDue}
use Rattle.server_core.proofs.HeardLemmas.{beside-new, can-judged, fits-few, heard-blocked, heard-new, judged-so}
use Rattle.server_core.proofs.Lists.{no-place}
use Rattle.server_core.proofs.Names.{name-by}
use Rattle.server_core.proofs.PacketDues.{are-due}
use Rattle.server_core.proofs.Speaking.{kept-later, none-at, sessions-have_room}
use Rattle.server_core.proofs.Steady.{no_keys, sound-of, steady-by}
use Rattle.server_core.proofs.server.Server.takes_new.Goals as goal

pub answers-sessions-requires : goal.answers-sessions-requires
answers-sessions-requires g c =
    let K : Type 0 = Kept g.row.S.Denot in
    let laws = c.sessions_stand_later.ensures in
    let name : Name = record { key = c.args.name.key; session = c.args.name.session } in
    let moment = c.args.moment in
    let standings = c.self.inside.sessions in
    let none : position (is_kept_as name) standings ≡ None = ap (λ (kept : K). position (is_kept_as name) kept.sessions) c.self.view_is ∙ c.requires.none in
    let outside = no-place (is_kept_as name) standings (sym none) in
    let one : SessionState = c.in_ok-standing.standing in
    let ring = g.S.Seal.keys c.self.inside.seal in
    let same_ring : ring ≡ g.S.Seal.keys c.args.self.now.seal = ap (λ (kept : K). g.S.Seal.keys kept.seal) c.self.view_is in
    let lt : c.self.inside.moment ≤ moment = subst (λ (old : ℕ). old ≤ moment) (sym (ap (λ (kept : K). kept.moment) c.self.view_is)) c.requires.later in
    let named_so : name_kept one ≡ name = name-by (name_kept one) name c.in_ok-standing.ensures.key c.in_ok-standing.ensures.number in
    let after : SessionState = c.judges_in_room.new.standing in
    let R : List RingKey → Type 0 = λ ring. IsSome (entry_of c.args.name.key ring) in
    let T : ℕ → Type 0 = λ key. IsSome (entry_of key ring) in
    let J : ℕ → Type 0 = λ jobs. CanTake after jobs c.judges_in_room.new.bindings.room c.in_ok-both.both.0 in
    let can : CanSpeak ring moment one = record {
      key = subst T (sym c.in_ok-standing.ensures.key) (subst R (sym same_ring) c.requires.key);
      numbers = omega (arith, c.in_ok-standing.ensures.numbers);
      at = c.in_ok-standing.ensures.at;
    } in
    let D : Type 0 = g.row.D.Denot in
    let outer = c.args.outer.now in
    let setting : Setting D = setting_of moment g.D.Draw.step no_keys in
    let envelope : Envelope = brought c.args.name.key c.args.name.session outer in
    record {
      speaking = can-judged ring moment moment one after can c.in_ok-both.ensures.same_name c.in_ok-both.ensures.same_numbers c.in_ok-both.ensures.at;
      room = subst J (sym c.in_ok-others.ensures.same_job_room) c.in_ok-both.ensures.room;
      fitting =
          c.in_ok-both.ensures.fitting (session_for setting envelope c.args.draw.now) (c.in_ok-standing.ensures.stands no_keys outer.salt outer.seq outer.body);
      beside =
          beside-new laws.at ring c.self.inside.moment moment name standings c.in_ok-others.others after lt (sound-of ring _ c.self.invariant) outside
          c.in_ok-others.ensures.others (c.in_ok-both.ensures.same_name ∙ named_so);
    }

on-err : {A E : Type 0} (result : Result A E) (P : Type 0) → P → OnErr result P
on-err (Ok x) P holds = tt
on-err (Err error) P holds = holds

pub returns-in_err-others-clause-unchanged_on_memory : goal.returns-in_err-others-clause-unchanged_on_memory
returns-in_err-others-clause-unchanged_on_memory g c =
    let seal = c.self.inside.seal in
    let moment = c.self.inside.moment in
    let standings = c.self.inside.sessions in
    let jobs = c.makes_place.new.jobs.jobs in
    let bindings = c.judges_in_room.new.bindings.bindings in
    let unchanged = c.in_err-others.ensures.unchanged_on_memory in
    on-err c.from_residual-in_err-others.result _
    (ap (λ (standings : List SessionState). kept_so seal moment standings jobs bindings) unchanged.0
    ∙ (ap (λ (held : Held). kept_so seal moment standings held.jobs bindings) unchanged.1
    ∙ (ap (λ (jobs : Queue). kept_so seal moment standings jobs bindings) c.in_ok-both.ensures.same_jobs
    ∙ (ap (λ (bindings : List Binding). kept_so seal moment standings c.self.inside.jobs.jobs bindings) c.in_ok-both.ensures.same_bindings ∙ c.self.view_is))))

-- what fails gives nothing to hold of
none-given : {T E : Type 0} (Q : E → Type 0) (P : T → Type 0) (result : Result T E) → IsErrAnd result Q → IfOk result P
none-given Q P (Ok value) is = absurd is
none-given Q P (Err error) is = tt

pub returns-in_err-others-clause-given : goal.returns-in_err-others-clause-given
returns-in_err-others-clause-given g c = λ keys server of is.
    none-given _ _ c.from_residual-in_err-others.result c.from_residual-in_err-others.ensures.1

pub returns-clause-given : goal.returns-clause-given
returns-clause-given g c = λ keys server of is.
    let stands = is.stands in
    let order = is.between.order in
    let V : Type 0 = g.row.S.Denot in
    let D : Type 0 = g.row.D.Denot in
    let K : Type 0 = Kept g.row.S.Denot in
    let laws = c.sessions_stand_later.ensures in
    let name : Name = record { key = c.args.name.key; session = c.args.name.session } in
    let moment = c.args.moment in
    let standings = c.self.inside.sessions in
    let none : position (is_kept_as name) standings ≡ None = ap (λ (kept : K). position (is_kept_as name) kept.sessions) c.self.view_is ∙ c.requires.none in
    let outside = no-place (is_kept_as name) standings (sym none) in
    let one : SessionState = c.in_ok-standing.standing in
    let ring = g.S.Seal.keys c.self.inside.seal in
    let same_ring : ring ≡ g.S.Seal.keys c.args.self.now.seal = ap (λ (kept : K). g.S.Seal.keys kept.seal) c.self.view_is in
    let lt : c.self.inside.moment ≤ moment = subst (λ (old : ℕ). old ≤ moment) (sym (ap (λ (kept : K). kept.moment) c.self.view_is)) c.requires.later in
    let named_so : name_kept one ≡ name = name-by (name_kept one) name c.in_ok-standing.ensures.key c.in_ok-standing.ensures.number in
    let lock = g.S.Seal.lock in
    let of_ring = subst (λ (ring : List RingKey). AreOf ring keys) (sym same_ring) of in
    let inside = subst (λ (kept : K). Stands kept server) (sym c.self.view_is) stands in
    let are = kept-later laws.later c.self.inside.moment moment standings server.sessions lt inside.sessions in
    let room = sessions-have_room laws.room ring c.self.inside.moment moment standings server.sessions are c.self.invariant.speaking in
    let unnamed = none-at laws.name c.self.inside.moment name standings server.sessions inside.sessions outside in
    let setting : Setting D = setting_of moment g.D.Draw.step keys in
    let envelope : Envelope = brought c.args.name.key c.args.name.session c.args.outer.now in
    let draw = c.args.draw.now in
    let state : State D = begun server draw in
    let heard : Among D = heard_among setting envelope state in
    let session : Session = heard.speaker.session in
    let outer = c.args.outer.now in
    let judged = c.in_ok-both.both.1 in
    let taken = c.in_ok-both.both.0 in
    let same_jobs : c.judges_in_room.new.jobs.jobs ≡ server.jobs = c.in_ok-both.ensures.same_jobs ∙ inside.jobs in
    let same_bindings : c.judges_in_room.new.bindings.bindings ≡ server.bindings = c.in_ok-both.ensures.same_bindings ∙ inside.bindings in
    let is_heard = heard-new setting envelope server draw c.new.new.draw c.in_ok-others.others one c.makes_place.new.jobs.jobs unnamed
    (c.in_ok-others.ensures.placed moment state are) (c.in_ok-others.ensures.jobs moment state are same_jobs)
    (c.in_ok-standing.ensures.stands keys outer.salt outer.seq outer.body) c.in_ok-standing.ensures.drawn in
    let alone = c.one_session_stays_alone.ensures.heard setting envelope server draw room order.unfailed in
    let ordered = c.one_session_stays_in_order.ensures.heard setting envelope server draw order in
    let told : List Judgement = judged_of setting envelope session in
    let judged_is : judged ≡ map bare_judgement told = c.in_ok-both.ensures.judged session is_heard.stands in
    let after = c.in_ok-both.ensures.stands session (jobs_of name heard.speaker.jobs) is_heard.stands ordered in
    let has = judged-so setting envelope c.in_ok-others.others one c.judges_in_room.new.standing c.makes_place.new.jobs.jobs c.makes_place.new.jobs.jobs
    server.bindings c.judges_in_room.new.bindings.bindings c.new.new.draw judged heard is_heard after refl same_bindings judged_is alone ordered in
    let bodies = bodies_of setting envelope session in
    let due_is : taken.dues.items ≡ dues_in (mark_in session envelope.number) (message_in envelope) = c.in_ok-both.ensures.dues session is_heard.stands in
    let E : List Due → Type 0 = λ dues. AreDue told bodies dues in
    let due : AreDue told bodies taken.dues.items = subst E (sym due_is) (are-due (way_of setting envelope session) (remembered session) (message_in envelope)) in
    let fitting = c.in_ok-both.ensures.fitting session is_heard.stands in
    let limit_is : taken.limit ≡ blocked_of name server.jobs + length taken.dues.items =
    c.in_ok-both.ensures.limit
    ∙ (ap (λ (name : Name). blocked_of name c.self.inside.jobs.jobs + length taken.dues.items) named_so
    ∙ ap (λ (jobs : Queue). blocked_of name jobs + length taken.dues.items) inside.jobs) in
    let fits : Fits setting envelope judged taken heard = record {
      due = due;
      few =
          fits-few (blocked_of name server.jobs) (blocked_of name heard.speaker.jobs) (length judged) (length taken.dues.items) taken.limit limit_is
          (heard-blocked setting envelope (session_named name server.sessions) state) fitting.few;
    } in
    let given = c.answers-sessions.ensures.given keys envelope heard of_ring has fits in
    let same : after_packet setting envelope server draw ≡ ended_among setting (takes_among setting envelope heard) =
    c.one_session_takes.ensures setting envelope server draw room order.unfailed in
    let kept_now : K = kept_so c.self.inside.seal moment c.answers-sessions.result.0 c.answers-sessions.new.jobs.jobs c.answers-sessions.new.bindings.bindings in
    let R : List RingKey → Type 0 = λ ring. Gives {S = V} {D = D} lock ring kept_now c.answers-sessions.new.draw c.answers-sessions.result.1
    (ended_among setting (takes_among setting envelope heard)) in
    let G : Answer D → Type 0 = λ answer. Gives {S = V} {D = D} lock (g.S.Seal.keys c.args.self.now.seal) kept_now c.answers-sessions.new.draw c.answers-sessions.result.1 answer in
    subst G (sym same) (subst R same_ring given)

pub invariant_of-self-2 : goal.invariant_of-self-2
invariant_of-self-2 g c =
    let V : Type 0 = g.row.S.Denot in
    let D : Type 0 = g.row.D.Denot in
    let K : Type 0 = Kept V in
    let old = c.self.invariant in
    let ring = g.S.Seal.keys c.args.self.now.seal in
    let keys = keys_of ring in
    let setting : Setting D = setting_of c.args.moment g.D.Draw.step keys in
    let envelope : Envelope = brought c.args.name.key c.args.name.session c.args.outer.now in
    let given = returns-clause-given g c keys old.server (c.rings_have_keys.ensures ring) (subst (λ (kept : K). StandsFor kept old.server) c.self.view_is old.stands_for) in
    steady-by {S = V} (g.S.Seal.keys c.self.inside.seal) _ (after_packet setting envelope old.server c.args.draw.now).server c.answers-sessions.ensures.sound
    given.stands (c.events_keep_order.ensures.packet setting envelope old.server c.args.draw.now c.is_early.ensures old.stands_for.between)
