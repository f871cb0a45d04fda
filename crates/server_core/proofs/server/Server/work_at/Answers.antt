use Rattle.std.proofs.Common.{◌≡◌, ◌∙◌, ◌<◌, ◌≤◌, ◌+◌, ℕ, Bool, true, false, Some, List, length, get_or, max, set, ap, sym, subst, refl, arith}
use Rattle.std.specs.Prelude.{nat_lt}
use Rattle.std.specs.List.{position, position_or_len}
use Rattle.std.proofs.lemmas.Bool.{ltb-false}
use Rattle.std.proofs.lemmas.List.{length-set, set-set}
use Rattle.std.proofs.lemmas.List.Sums.{passes_at_first}
use Rattle.server_output.specs.Outs.{AreSent}
use Rattle.regs_service.specs.Served.{reply_bytes_max}
use Rattle.auth_keys.specs.declared.ring.RingKey.{RingKey}
use Rattle.waits.specs.declared.job.Job.{Job}
use Rattle.waits.specs.Jobs.{ready_count, ready_job}
use Rattle.server_rules.specs.Server.{Name, is_same, name_of}
use Rattle.server_rules.specs.Event.{Sent, Setting, Speaker, State, speaker_in, spoken}
use Rattle.server_rules.specs.Answer.{Answer, after_work, begun, is_spent, room_min}
use Rattle.law_server.specs.Order.{jobs_of}
use Rattle.server_session.specs.declared.session.SessionState.{SessionState}
use Rattle.server_session.specs.SessionState.{Stands as StandsFor, numbers_left, replies_left}
use Rattle.server_session.specs.Names.{name_kept}
use Rattle.server_session.specs.Says.{setting_of}
use Rattle.server_core.specs.Effects.{Gives}
use Rattle.server_core.specs.Failures.{blocked_of}
use Rattle.server_core.specs.One.{answer_of, lost_where}
use Rattle.server_core.specs.Sessions.{AreKept, is_kept_as}
use Rattle.server_core.specs.Server.{CanSpeak, IsSound, Kept, Stands, StandsFor as StandsForServer, without_kept_where}
use Rattle.server_core.specs.Speech.{Begins}
use Rattle.server_core.specs.Working.{Ends, IsRunning, worked}
use Rattle.server_core.proofs.Attached.{drawn-where, ends-so, entered-where, sent-where}
use Rattle.server_core.proofs.Lists.{place-is}
use Rattle.server_core.proofs.Names.{name-by, named}
use Rattle.server_core.proofs.Places.{can-still, one-of, sound-set}
use Rattle.server_core.proofs.Rooms.{stands-with}
use Rattle.server_core.proofs.Speaking.{found-at, kept-later, kept-set, sessions-apart, sessions-have_room}
use Rattle.server_core.proofs.Worked.{IsRun, is-running, ready-there, without_its, work-gives, worked-bindings, worked-name}
use Rattle.server_core.proofs.Steady.{no_keys, sound-of, steady-by}
use Rattle.server_core.proofs.server.Server.work_at.Goals as goal

-- a place that is set twice has the later one
set-twice : (standings served : List SessionState) (place : ℕ) (one after : SessionState) → served ≡ set standings place one → set served place after ≡ set standings place after
set-twice standings served place one after is = ap (λ (some : List SessionState). set some place after) is ∙ set-set standings place one after

pub lose_spent-requires : goal.lose_spent-requires
lose_spent-requires g c =
    let K : Type 0 = Kept g.row.S.Denot in
    let name : Name = record { key = c.args.job.key; session = c.args.job.session } in
    let standings = c.self.inside.sessions in
    let placed : Some c.args.place ≡ position (is_kept_as name) standings =
    sym (ap (λ (kept : K). position (is_kept_as name) kept.sessions) c.self.view_is ∙ c.requires.place) in
    let at = place-is (is_kept_as name) standings c.args.place placed in
    let d = one-of standings c.args.place at.1 in
    let after = get_or c.works-effects.new.self c.args.place d in
    let long : length c.works-effects.new.self ≡ length standings =
    ap (λ (standings : List SessionState). length standings) (c.works-effects.ensures.others d ∙ set-twice standings c.serves.new.self c.args.place (get_or c.serves.new.self c.args.place d) after (c.serves.ensures.others d)) ∙ length-set standings c.args.place after in
    omega (arith, at.1)

pub returns-clause-given : goal.returns-clause-given
returns-clause-given g c = λ keys server is.
    let stands = is.stands in
    let order = is.between.order in
    let V : Type 0 = g.row.S.Denot in
    let D : Type 0 = g.row.D.Denot in
    let W : Type 0 = g.row.V.Denot in
    let K : Type 0 = Kept V in
    let names = c.sessions_stand_later.ensures.name in
    let rooms = c.sessions_stand_later.ensures.room in
    let name : Name = record { key = c.args.job.key; session = c.args.job.session } in
    let test = is_kept_as name in
    let place = c.args.place in
    let moment = c.args.moment in
    let k = c.args.job.k in
    let standings = c.self.inside.sessions in
    let placed : Some place ≡ position test standings = sym (ap (λ (kept : K). position test kept.sessions) c.self.view_is ∙ c.requires.place) in
    let at = place-is test standings place placed in
    let first = position_or_len test standings in
    let within : first < length standings = omega (arith, at.0, at.1) in
    let d = one-of standings place at.1 in
    let after = get_or c.works-effects.new.self place d in
    let so = nat_lt (numbers_left after) room_min in
    let lock = g.S.Seal.lock in
    let ring = g.S.Seal.keys c.self.inside.seal in
    let lt : c.self.inside.moment ≤ moment =
    subst (λ (old : ℕ). old ≤ moment) (sym (ap (λ (kept : K). kept.moment) c.self.view_is)) c.requires.later in
    let inside = subst (λ (kept : K). Stands kept server) (sym c.self.view_is) stands in
    let are = kept-later c.sessions_stand_later.ensures.later c.self.inside.moment moment standings server.sessions lt inside.sessions in
    let there = found-at names moment name standings server.sessions d are within in
    let setting : Setting D = setting_of moment g.D.Draw.step keys in
    let state : State D = begun server c.args.draw.now in
    let speaker : Speaker D = speaker_in state there.session in
    let begins : Begins moment (get_or standings place d) c.args.draw.now speaker = record {
      stands = subst (λ (n : ℕ). StandsFor moment (get_or standings n d) there.session) at.0 there.stands;
      draws = refl;
      owed = refl;
      sent = refl;
    } in
    let found = ready-there k c.self.inside.jobs.jobs (subst (λ (kept : K). k < ready_count kept.jobs) (sym c.self.view_is) c.requires.ready) in
    let job : Job = found.0 in
    let jobs_are : c.self.inside.jobs.jobs ≡ server.jobs = inside.jobs in
    let ready : ready_job k server.jobs ≡ Some job = ap (ready_job k) (sym jobs_are) ∙ found.1 in
    let whose = c.requires.whose job (ap (λ (kept : K). ready_job k kept.jobs) (sym c.self.view_is) ∙ found.1) in
    let of_name : named job.key job.session ≡ name = name-by (named job.key job.session) name whose.0 whose.1 in
    let reply : List ℕ = (g.V.Service.step c.args.service.now job.request).0 in
    let blocked : c.in_ok-work.work.limit ≡ blocked_of name server.jobs =
    c.in_ok-work.ensures.limit job found.1 ∙ (ap (λ (name : Name). blocked_of name c.self.inside.jobs.jobs) of_name ∙ ap (blocked_of name) jobs_are) in
    let replied : c.in_ok-work.work.reply ≡ reply = c.in_ok-work.ensures.reply job found.1 in
    let running = is-running c.taken_jobs_are_open.ensures.ready name server c.args.draw.now there.session k job c.in_ok-work.work.limit there.found order ready of_name blocked in
    let run : IsRun D name server there.session k job = record {
      found = there.found;
      apart = sessions-apart names moment standings server.sessions are c.serves.ensures.apart;
      room = sessions-have_room rooms ring c.self.inside.moment moment standings server.sessions are c.self.invariant.speaking;
      unfailed = order.unfailed;
      ready = ready;
      is = of_name;
      gives = c.sessions_speak_for_themselves.ensures.gives_up;
      ends = c.sessions_speak_for_themselves.ensures.finishes;
    } in
    let done : Speaker D = worked setting job reply (without_its k speaker) in
    let work = c.in_ok-work.work in
    let served = get_or c.serves.new.self place d in
    let room = max (replies_left (get_or standings place d)) (work.limit + 1) in
    let begins_served : Begins moment served c.args.draw.now speaker = record {
      stands = subst (λ (standing : SessionState). StandsFor moment standing speaker.session) (sym (c.in_ok-serves.ensures.kept d))
          (stands-with room moment (get_or standings place d) speaker.session begins.stands);
      draws = refl;
      owed = refl;
      sent = refl;
    } in
    let E : ℕ → Type 0 = λ k. ready_job k c.self.inside.jobs.jobs ≡ Some job → IsRunning name (λ other. jobs_of other server.jobs) there.session.history job work.limit (without_its k speaker)
    → Ends lock ring moment after c.works-effects.new.jobs.jobs c.works-effects.new.draw c.works-effects.result (worked setting job work.reply (without_its k speaker)) in
    let ends_as = subst E c.in_ok-work.ensures.place
    (λ ready running. c.works-effects.ensures.ends d keys name (λ other. jobs_of other server.jobs) there.session.history job speaker begins_served jobs_are refl ready running) found.1 running in
    let ends_now : Ends lock ring moment after c.works-effects.new.jobs.jobs c.works-effects.new.draw c.works-effects.result done =
    subst (λ (reply : List ℕ). Ends lock ring moment after c.works-effects.new.jobs.jobs c.works-effects.new.draw c.works-effects.result (worked setting job reply (without_its k speaker)))
    replied ends_as in
    let so_same : so ≡ is_spent done.session = ap (λ (left : ℕ). nat_lt left room_min) (rooms moment after done.session ends_now.stands) in
    let answer : Answer D = answer_of setting (lost_where so name (spoken state done)) in
    let own : name_of done.session ≡ name = worked-name setting name server c.args.draw.now there.session k job reply run in
    let kept = kept-set names moment name standings server.sessions after done.session are c.serves.ensures.apart within ends_now.stands own in
    let sessions_are : c.lose_spent.new.sessions ≡ without_kept_where so name (set standings first after) =
    c.lose_spent.ensures.sessions d
    ∙ ap (without_kept_where so name) (c.works-effects.ensures.others d ∙ (set-twice standings c.serves.new.self place (get_or c.serves.new.self place d) after (c.serves.ensures.others d) ∙ ap (λ (n : ℕ). set standings n after) (sym at.0))) in
    let bound : c.self.inside.bindings.bindings ≡ done.bindings = inside.bindings ∙ sym (worked-bindings setting job reply (without_its k speaker)) in
    let ends = ends-so names setting state done name so c.self.inside.seal (set standings first after) c.works-effects.new.jobs.jobs c.self.inside.bindings.bindings kept
    ends_now.jobs bound in
    let kept_now : K = record {
      seal = c.self.inside.seal;
      moment = moment;
      sessions = c.lose_spent.new.sessions;
      jobs = c.lose_spent.new.jobs.jobs;
      bindings = c.self.inside.bindings.bindings;
    } in
    let stands_then : Stands kept_now answer.server = record {
      moment = ends.moment;
      sessions = subst (λ (standings : List SessionState). AreKept moment standings answer.server.sessions) (sym sessions_are) ends.sessions;
      jobs = c.lose_spent.ensures.jobs d ∙ ends.jobs;
      bindings = ends.bindings;
    } in
    let same_ring : ring ≡ g.S.Seal.keys c.args.self.now.seal = ap (λ (kept : K). g.S.Seal.keys kept.seal) c.self.view_is in
    let sent : AreSent lock ring answer.packets c.works-effects.result.out.outs =
    subst (λ (sent : List Sent). AreSent lock ring sent c.works-effects.result.out.outs) (sym (sent-where so name (spoken state done))) ends_now.sent in
    let given : Gives {S = V} {D = D} lock (g.S.Seal.keys c.args.self.now.seal) kept_now c.works-effects.new.draw c.works-effects.result answer = record {
      stands = stands_then;
      drawn = ends_now.drawn ∙ sym (drawn-where so name (spoken state done));
      sent = subst (λ (ring : List RingKey). AreSent lock ring answer.packets c.works-effects.result.out.outs) same_ring sent;
      entered = ends_now.entered ∙ sym (entered-where so name (spoken state done));
    } in
    let same : (after_work setting k g.V.Service.step c.args.service.now server c.args.draw.now).0 ≡ answer =
    work-gives setting g.V.Service.step c.args.service.now name server c.args.draw.now there.session k job run
    ∙ ap (λ (so : Bool). answer_of setting (lost_where so name (spoken state done))) (sym so_same) in
    subst (λ (answer : Answer D). Gives {S = V} {D = D} lock (g.S.Seal.keys c.args.self.now.seal) kept_now c.works-effects.new.draw c.works-effects.result answer) (sym same) given

pub works-effects-requires-clause-speaking : goal.works-effects-requires-clause-speaking
works-effects-requires-clause-speaking g c = λ d.
    let K : Type 0 = Kept g.row.S.Denot in
    let name : Name = record { key = c.args.job.key; session = c.args.job.session } in
    let standings = c.self.inside.sessions in
    let place = c.args.place in
    let placed : Some place ≡ position (is_kept_as name) standings = sym (ap (λ (kept : K). position (is_kept_as name) kept.sessions) c.self.view_is ∙ c.requires.place) in
    let at = place-is (is_kept_as name) standings place placed in
    let ring = g.S.Seal.keys c.self.inside.seal in
    let lt : c.self.inside.moment ≤ c.args.moment =
    subst (λ (moment : ℕ). moment ≤ c.args.moment) (sym (ap (λ (kept : K). kept.moment) c.self.view_is)) c.requires.later in
    let before = get_or standings place d in
    let can : CanSpeak ring c.self.inside.moment before = c.self.invariant.speaking place d at.1 in
    subst (CanSpeak ring c.args.moment) (sym (c.in_ok-serves.ensures.kept d))
    (record { key = can.key; numbers = can.numbers; at = c.sessions_stand_later.ensures.at c.self.inside.moment c.args.moment before lt can.at })

pub works-effects-requires-clause-replies : goal.works-effects-requires-clause-replies
works-effects-requires-clause-replies g c = λ d.
    let kept : replies_left (get_or c.serves.new.self c.args.place d) ≡ max (replies_left (get_or c.self.inside.sessions c.args.place d)) (c.in_ok-work.work.limit + 1) =
    ap replies_left (c.in_ok-serves.ensures.kept d) in
    omega (arith, kept)

pub works-effects-requires-clause-place : goal.works-effects-requires-clause-place
works-effects-requires-clause-place g c =
    let K : Type 0 = Kept g.row.S.Denot in
    let name : Name = record { key = c.args.job.key; session = c.args.job.session } in
    let standings = c.self.inside.sessions in
    let place = c.args.place in
    let placed : Some place ≡ position (is_kept_as name) standings = sym (ap (λ (kept : K). position (is_kept_as name) kept.sessions) c.self.view_is ∙ c.requires.place) in
    let at = place-is (is_kept_as name) standings place placed in
    let d = one-of standings place at.1 in
    let long : length c.serves.new.self ≡ length standings =
    ap (λ (standings : List SessionState). length standings) (c.serves.ensures.others d) ∙ length-set standings place (get_or c.serves.new.self place d) in
    omega (arith, at.1)

pub returns-clause-short : goal.returns-clause-short
returns-clause-short g c = λ job ready.
    let K : Type 0 = Kept g.row.S.Denot in
    let inside_ready = ap (λ (kept : K). ready_job c.args.job.k kept.jobs) c.self.view_is ∙ ready in
    subst (λ (reply : List ℕ). length reply ≤ reply_bytes_max) (c.in_ok-work.ensures.reply job inside_ready) c.in_ok-work.ensures.room.short

pub invariant_of-self-2 : goal.invariant_of-self-2
invariant_of-self-2 g c =
    let K : Type 0 = Kept g.row.S.Denot in
    let name : Name = record { key = c.args.job.key; session = c.args.job.session } in
    let test = is_kept_as name in
    let place = c.args.place in
    let standings = c.self.inside.sessions in
    let placed : Some place ≡ position test standings = sym (ap (λ (kept : K). position test kept.sessions) c.self.view_is ∙ c.requires.place) in
    let at = place-is test standings place placed in
    let first = position_or_len test standings in
    let within : first < length standings = omega (arith, at.0, at.1) in
    let d = one-of standings place at.1 in
    let before = get_or standings place d in
    let after = get_or c.works-effects.new.self place d in
    let so = nat_lt (numbers_left after) room_min in
    let ring = g.S.Seal.keys c.self.inside.seal in
    let lt : c.self.inside.moment ≤ c.args.moment =
    subst (λ (moment : ℕ). moment ≤ c.args.moment) (sym (ap (λ (kept : K). kept.moment) c.self.view_is)) c.requires.later in
    let same : name_kept after ≡ name_kept before = c.works-effects.ensures.same_name d ∙ ap name_kept (c.in_ok-serves.ensures.kept d) in
    let has : test before ≡ true = ap (λ (n : ℕ). test (get_or standings n d)) (sym at.0) ∙ passes_at_first test standings d within in
    let is : test after ≡ true = ap (λ (other : Name). is_same name other) same ∙ has in
    let can : so ≡ false → CanSpeak ring c.args.moment after = λ left.
    can-still ring c.self.inside.moment c.args.moment before after (c.self.invariant.speaking place d at.1) same (c.works-effects.ensures.at d)
    (ltb-false (numbers_left after) room_min left) in
    let sound = sound-set c.sessions_stand_later.ensures.at ring c.self.inside.moment c.args.moment name standings after so lt (sound-of ring _ c.self.invariant) within is can in
    let sessions_are : c.lose_spent.new.sessions ≡ without_kept_where so name (set standings first after) =
    c.lose_spent.ensures.sessions d
    ∙ ap (without_kept_where so name) (c.works-effects.ensures.others d ∙ (set-twice standings c.serves.new.self place (get_or c.serves.new.self place d) after (c.serves.ensures.others d) ∙ ap (λ (n : ℕ). set standings n after) (sym at.0))) in
    let V : Type 0 = g.row.S.Denot in
    let D : Type 0 = g.row.D.Denot in
    let W : Type 0 = g.row.V.Denot in
    let old = c.self.invariant in
    let serve = g.V.Service.step in
    let setting : Setting D = setting_of c.args.moment g.D.Draw.step no_keys in
    let stands_for = subst (λ (kept : K). StandsForServer kept old.server) c.self.view_is old.stands_for in
    let given = returns-clause-given g c no_keys old.server stands_for in
    let short = λ (job : Job) (ready : ready_job c.args.job.k old.server.jobs ≡ Some job). returns-clause-short g c job (ap (ready_job c.args.job.k) stands_for.stands.jobs ∙ ready) in
    steady-by {S = V} ring _ (after_work setting c.args.job.k serve c.args.service.now old.server c.args.draw.now).0.server
    (subst (λ (standings : List SessionState). IsSound ring c.args.moment standings) (sym sessions_are) sound)
    given.stands (c.runs_keep_order.ensures setting c.args.job.k serve c.args.service.now old.server c.args.draw.now c.is_early.ensures short old.stands_for.between)
