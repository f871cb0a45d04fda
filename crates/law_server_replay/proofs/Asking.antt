-- Events that ask nothing of the ring's keys.
use Rattle.std.proofs.Common.{◌≡◌, ℕ, zero, suc, Option, Some, None, List, length, refl, ap, ◌∙◌}
use Rattle.regs_service.specs.Served.{Step}
use Rattle.waits.specs.declared.job.Job.{Job}
use Rattle.waits.specs.Jobs.{Queue, ready_job, without_ready}
use Rattle.server_rules.specs.Answer.{Answer, after_attach, after_run, after_tick, after_work, begun, ended, finishes}
use Rattle.server_rules.specs.Event.{Setting, State, speaks}
use Rattle.server_rules.specs.Server.{Name, Server}
use Rattle.server_rules.specs.Speaking.{msg_wait_failed, msg_wait_timeout}
use Rattle.server_rules.specs.Waiting.{after_failures, after_timeouts, all_given_up, first_failed, first_given_up, first_overdue, given_up}
use Rattle.server_session.specs.Says.{Keys, setting_of}

module _ {S : Type 0} (now : ℕ) (step : S → ℕ × S) (keys other : Keys) where
  abbrev one : Setting S
  one = setting_of now step keys

  abbrev two : Setting S
  two = setting_of now step other

  given_same : (content : List ℕ) (found : Option Job) (state : State S) → given_up one content found state ≡ given_up two content found state
  given_same content None state = refl
  given_same content (Some job) state = refl

  all_given_same : (content : List ℕ) (first : Queue → Option Job × Queue) (n : ℕ) (state : State S)
      → all_given_up one content first n state ≡ all_given_up two content first n state
  all_given_same content first zero state = refl
  all_given_same content first (suc n) state =
      all_given_same content first n (first_given_up one content first state)
      ∙ ap (all_given_up two content first n) (given_same content (first state.jobs).0 (record state { jobs = (first state.jobs).1 }))

  failures_same : (state : State S) → after_failures one state ≡ after_failures two state
  failures_same state = all_given_same msg_wait_failed first_failed (length state.jobs) state

  pub tick_same : (server : Server) (draw : S) → after_tick one server draw ≡ after_tick two server draw
  tick_same server draw =
      ap (λ (state : State S). ended one (after_failures one state)) (all_given_same msg_wait_timeout (first_overdue now) (length server.jobs) (begun server draw))
      ∙ ap (ended two) (failures_same (after_timeouts two (begun server draw)))

  pub attach_same : (name : Name) (server : Server) (draw : S) → after_attach one name server draw ≡ after_attach two name server draw
  attach_same name server draw = refl

  run_same : {V : Type 0} → (place : ℕ) (found : Option Job) (serve : Step V) (service : V) (server : Server) (draw : S)
      → after_run one place found serve service server draw ≡ after_run two place found serve service server draw
  run_same place None serve service server draw = refl
  run_same {V} place (Some job) serve service server draw =
      let served = serve service job.request in
      let ran : State S = speaks (record { key = job.key; session = job.session }) (finishes one job served.0) (record (begun server draw) { jobs = without_ready place server.jobs }) in
      ap (λ (state : State S). let answer : Answer S × V = (ended two state, served.1) in answer) (failures_same ran)

  pub work_same : {V : Type 0} → (place : ℕ) (serve : Step V) (service : V) (server : Server) (draw : S)
      → after_work one place serve service server draw ≡ after_work two place serve service server draw
  work_same place serve service server draw = run_same place (ready_job place server.jobs) serve service server draw
