use Rattle.std.proofs.Common.{◌≡◌, ◌∙◌, ◌+◌, ◌*◌, ◌≤◌, Some, None, length, ap, sym, subst, refl, arith}
use Rattle.waits.specs.Held.{Held}
use Rattle.waits.specs.declared.job.Job.{Job}
use Rattle.waits.specs.Jobs.{Queue, first_job, has_failed, without_first}
use Rattle.server_rules.specs.Event.{Setting, Speaker}
use Rattle.server_session.specs.Says.{setting_of}
use Rattle.server_dispatch.specs.Speaks.{Speaks}
use Rattle.server_core.specs.One.{fails_all}
use Rattle.server_core.specs.Failures.{blocked_of}
use Rattle.server_core.proofs.Blocked.{none-blocked, none-fails, none-taken}
use Rattle.server_core.proofs.Steps.{after-some, spends-more, taken}
use Rattle.server_core.proofs.Uses.{nothing-used, used, uses-both, uses-more}
use Rattle.server_core.proofs.failures.answers_failed.Goals as goal

pub loop-place-init : goal.loop-place-init
loop-place-init g c = record {
  speaks = λ keys bindings draw name others past start speaks has. record { speaker = start; speaks = speaks; has = has; left = omega arith; same = refl };
  spends = record {
    places = omega arith;
    bytes = omega arith;
    numbers = omega arith;
    entries = omega arith;
    places_taken = refl;
    bytes_taken = refl;
    key = refl;
    number = refl;
    at = λ is. is;
  };
  uses = λ again. nothing-used again c.args.now c.args.standing.now c.args.turn.now;
  replies = omega arith;
  same_job_room = refl;
}

-- none has failed any more
pub returns-in_default-clause-speaks : goal.returns-in_default-clause-speaks
returns-in_default-clause-speaks g c = λ keys bindings draw name others past speaker speaks has few.
    let D : Type 0 = g.row.D.Denot in
    let setting : Setting D = setting_of c.args.now g.D.Draw.step keys in
    let final = c.loop-place.invariant.speaks keys bindings draw name others past speaker speaks has in
    let none : first_job has_failed c.loop-place.jobs.jobs ≡ None = sym c.failed.ensures.job ∙ c.in_default.is in
    let said_none : first_job has_failed final.speaker.jobs ≡ None = ap (first_job has_failed) (sym final.speaks.jobs) ∙ none in
    let same : c.failed.new.self.jobs ≡ c.loop-place.jobs.jobs = ap (λ (held : Held). held.jobs) c.failed.ensures.others ∙ none-taken c.loop-place.jobs.jobs none in
    let done : final.speaker ≡ fails_all setting (length speaker.jobs) speaker =
    sym (none-fails setting (length final.speaker.jobs) final.speaker said_none) ∙ final.same in
    subst (λ (jobs : Queue). Speaks c.args.now c.loop-place.standing c.loop-place.turn jobs bindings draw (fails_all setting (length speaker.jobs) speaker)) (sym same)
    (subst (λ (said : Speaker D). Speaks c.args.now c.loop-place.standing c.loop-place.turn c.loop-place.jobs.jobs bindings draw said) done final.speaks)

pub returns-in_default-clause-fewer : goal.returns-in_default-clause-fewer
returns-in_default-clause-fewer g c = λ keys bindings draw name others past speaker speaks has.
    let final = c.loop-place.invariant.speaks keys bindings draw name others past speaker speaks has in
    let none : first_job has_failed c.loop-place.jobs.jobs ≡ None = sym c.failed.ensures.job ∙ c.in_default.is in
    let same : c.failed.new.self.jobs ≡ c.loop-place.jobs.jobs = ap (λ (held : Held). held.jobs) c.failed.ensures.others ∙ none-taken c.loop-place.jobs.jobs none in
    subst (λ (jobs : Queue). blocked_of name jobs + c.loop-place.place ≤ blocked_of name speaker.jobs) (sym (same ∙ final.speaks.jobs)) final.left

pub loop-place-preserved : goal.loop-place-preserved
loop-place-preserved g c =
    let D : Type 0 = g.row.D.Denot in
    let now = c.args.now in
    let place = c.loop-place.place in
    let so_far = c.loop-place.invariant in
    let others_left : c.failed.new.self ≡ record c.loop-place.jobs { jobs = without_first has_failed c.loop-place.jobs.jobs } = c.failed.ensures.others in
    let job : Job = c.in-Some.job in
    let found : first_job has_failed c.loop-place.jobs.jobs ≡ Some job = sym c.failed.ensures.job ∙ c.in-Some.is in
    let fewer = c.gives_up.ensures.replies_last in
    let enough = so_far.replies in
    record {
      speaks = λ keys bindings draw name others past start speaks has.
          let setting : Setting D = setting_of now g.D.Draw.step keys in
          let before = so_far.speaks keys bindings draw name others past start speaks has in
          let there : first_job has_failed before.speaker.jobs ≡ Some job = ap (first_job has_failed) (sym before.speaks.jobs) ∙ found in
          let rest : Speaker D = record before.speaker { jobs = without_first has_failed before.speaker.jobs } in
          let out = taken {S = D} c.taken_jobs_are_open.ensures.first name others past job before.speaker before.has there in
          let says = before.speaks.says in
          let begun : Speaks now c.loop-place.standing c.loop-place.turn c.failed.new.self.jobs bindings draw rest = record {
            says = record { stands = says.stands; owed = says.owed; draws = says.draws };
            jobs = ap (λ (held : Held). held.jobs) others_left ∙ ap (without_first has_failed) before.speaks.jobs;
            bindings = before.speaks.bindings;
            entries = before.speaks.entries;
          } in
          let done = c.gives_up.ensures.speaks keys bindings draw rest out.unanswered begun in
          after-some {S = D} c.taken_jobs_are_open.ensures.first c.rows_keep_order.ensures.gives_up now setting bindings draw name others past start place
          c.loop-place.standing c.gives_up.new.standing c.loop-place.turn c.gives_up.new.self c.loop-place.jobs.jobs c.gives_up.new.jobs.jobs job before there done;
      spends = spends-more now place c.args.standing.now c.loop-place.standing c.gives_up.new.standing c.args.turn.now c.loop-place.turn c.gives_up.new.self
          so_far.spends c.gives_up.ensures.spends;
      uses = λ again.
          uses-more again now place c.args.standing.now c.loop-place.standing c.gives_up.new.standing c.args.turn.now c.loop-place.turn c.gives_up.new.self
          (so_far.uses again)
          (used again now 1 48 1 1 c.loop-place.standing c.loop-place.turn c.gives_up.new.standing c.gives_up.new.self c.gives_up.ensures.spends c.gives_up.ensures.unsaid (omega arith));
      replies = omega arith;
      same_job_room =
          c.gives_up.ensures.same_job_room ∙ (ap (λ (held : Held). held.room) others_left ∙ so_far.same_job_room);
    }

pub returns-clause-speaks : goal.returns-clause-speaks
returns-clause-speaks g c = λ keys bindings draw name others past speaker speaks has few.
    let D : Type 0 = g.row.D.Denot in
    let setting : Setting D = setting_of c.args.now g.D.Draw.step keys in
    let final = c.loop-place.invariant.speaks keys bindings draw name others past speaker speaks has in
    let over = c.loop-place-test.false in
    let fewer = final.left in
    let none : first_job has_failed final.speaker.jobs ≡ None = none-blocked name final.speaker.jobs final.has.own (omega arith) in
    let done : final.speaker ≡ fails_all setting (length speaker.jobs) speaker =
    sym (none-fails setting (length final.speaker.jobs) final.speaker none) ∙ final.same in
    subst (λ (said : Speaker D). Speaks c.args.now c.loop-place.standing c.loop-place.turn c.loop-place.jobs.jobs bindings draw said) done final.speaks

pub returns-clause-fewer : goal.returns-clause-fewer
returns-clause-fewer g c = λ keys bindings draw name others past speaker speaks has.
    let final = c.loop-place.invariant.speaks keys bindings draw name others past speaker speaks has in
    let over = c.loop-place-test.false in
    let fewer = final.left in
    let is : blocked_of name c.loop-place.jobs.jobs ≡ blocked_of name final.speaker.jobs = ap (blocked_of name) final.speaks.jobs in
    omega arith

pub returns-clause-uses : goal.returns-clause-uses
returns-clause-uses g c = λ called.
    let limit = c.args.limit in
    let place = c.loop-place.place in
    let over = c.loop-place-test.false in
    let within = c.loop-place.auto.place-end in
    uses-both called c.args.now place (place * 48) place place 0 0 0 0 limit (limit * 48) limit limit
    c.args.standing.now c.args.turn.now c.loop-place.standing c.loop-place.turn c.loop-place.standing c.loop-place.turn
    (c.loop-place.invariant.uses called) (nothing-used called c.args.now c.loop-place.standing c.loop-place.turn) (omega arith) (omega arith) (omega arith) (omega arith)
