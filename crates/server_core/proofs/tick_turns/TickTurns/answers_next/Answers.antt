use Rattle.std.proofs.Common.{◌≡◌, ◌∙◌, ℕ, Option, Some, None, List, ap, sym, subst}
use Rattle.server_dispatch.specs.Contents.{content_of}
use Rattle.waits.specs.Held.{Held}
use Rattle.waits.specs.declared.job.Job.{Job}
use Rattle.waits.specs.Jobs.{Queue, first_job, without_first}
use Rattle.server_rules.specs.Event.{Setting, State}
use Rattle.server_rules.specs.Server.{Name}
use Rattle.server_rules.specs.Waiting.{first_given_up, given_up}
use Rattle.server_session.specs.Says.{setting_of}
use Rattle.server_core.specs.Answering.{IsInTick, content_for, first_for, test_of}
use Rattle.server_core.specs.Sessions.{is_kept_as}
use Rattle.server_core.proofs.Due.{cause-due}
use Rattle.server_core.proofs.Lists.{no-place}
use Rattle.server_core.proofs.Names.{named}
use Rattle.server_core.proofs.Quiet.{first-same, none-out}
use Rattle.server_core.proofs.Speaking.{none-at}
use Rattle.server_core.proofs.Steady.{no_keys}
use Rattle.server_core.proofs.TickSteps.{owner-stands}
use Rattle.server_core.proofs.tick_turns.TickTurns.answers_next.Goals as goal

pub returns-in_default-clause-ticks : goal.returns-in_default-clause-ticks
returns-in_default-clause-ticks g c = λ keys bindings draw state tick.
    let D : Type 0 = g.row.D.Denot in
    let now = c.args.now in
    let setting : Setting D = setting_of now g.D.Draw.step keys in
    let test = test_of now c.args.cause in
    let content = content_for c.args.cause in
    let queue = c.args.jobs.now.jobs in
    let none : first_job test queue ≡ None = sym c.take.ensures.job ∙ c.in_default.is in
    let none_said : first_job test state.jobs ≡ None = ap (first_job test) (sym tick.jobs) ∙ none in
    let jobs_are : c.take.new.jobs.jobs ≡ queue = ap (λ (held : Held). held.jobs) c.take.ensures.others ∙ none-out test queue none in
    let same : first_given_up setting content (first_for now c.args.cause) state ≡ state = first-same setting content test state none_said in
    subst (λ (jobs : Queue). IsInTick now c.args.sessions.now c.args.self.now.list.items c.args.self.now.order.items c.args.self.now.entries.entries jobs bindings draw
    (first_given_up setting content (first_for now c.args.cause) state)) (sym jobs_are)
    (subst (λ (state : State D). IsInTick now c.args.sessions.now c.args.self.now.list.items c.args.self.now.order.items c.args.self.now.entries.entries queue bindings draw state)
    (sym same) tick)

pub returns-clause-ticks : goal.returns-clause-ticks
returns-clause-ticks g c = λ keys bindings draw state tick.
    let D : Type 0 = g.row.D.Denot in
    let now = c.args.now in
    let setting : Setting D = setting_of now g.D.Draw.step keys in
    let test = test_of now c.args.cause in
    let content = content_for c.args.cause in
    let job : Job = c.in-Some.job in
    let found : first_job test c.args.jobs.now.jobs ≡ Some job = sym c.take.ensures.job ∙ c.in-Some.is in
    let is : first_job test state.jobs ≡ Some job = ap (first_job test) (sym tick.jobs) ∙ found in
    let jobs_are : c.take.new.jobs.jobs ≡ without_first test state.jobs = ap (λ (held : Held). held.jobs) c.take.ensures.others ∙ ap (without_first test) tick.jobs in
    let starts = subst (λ (jobs : Queue). IsInTick now c.args.sessions.now c.args.self.now.list.items c.args.self.now.order.items c.args.self.now.entries.entries jobs bindings draw state)
    tick.jobs tick in
    let done = c.answers.ensures.ticks keys test bindings draw state (cause-due now c.args.cause) starts is jobs_are (sym c.place.ensures ∙ c.in-Some-place.is) in
    let rest : State D = record state { jobs = without_first test state.jobs } in
    let same : given_up setting (content_of c.short.result) (Some job) rest ≡ first_given_up setting content (first_for now c.args.cause) state =
    ap (λ (content : List ℕ). given_up setting content (Some job) rest) c.short.ensures
    ∙ ap (λ (found : Option Job). given_up setting content found rest) (sym is) in
    subst (λ (state : State D). IsInTick now c.answers.new.sessions c.answers.new.self.list.items c.answers.new.self.order.items c.answers.new.self.entries.entries
    c.answers.new.jobs.jobs bindings draw state) same done

-- the session of a job is there
pub unreachable-requires : goal.unreachable-requires
unreachable-requires g c =
    let tick = c.requires.tick in
    let state = tick.state in
    let test = test_of c.args.now c.args.cause in
    let job : Job = c.in-Some.job in
    let name : Name = named job.key job.session in
    let found : first_job test c.args.jobs.now.jobs ≡ Some job = sym c.take.ensures.job ∙ c.in-Some.is in
    let is : first_job test state.jobs ≡ Some job = ap (first_job test) (sym tick.is.jobs) ∙ found in
    let none = none-at c.sessions_stand_later.ensures.name c.args.now name c.args.sessions.now state.sessions tick.is.kept
    (no-place (is_kept_as name) c.args.sessions.now (sym c.in_default-place.is ∙ c.place.ensures)) in
    owner-stands state.sessions state.jobs test job tick.is.in_order is none

-- there is an event still
pub returns-in_default-clause-tick : goal.returns-in_default-clause-tick
returns-in_default-clause-tick g c =
    let tick = c.requires.tick in
    let setting : Setting g.row.D.Denot = setting_of c.args.now g.D.Draw.step no_keys in
    record {
      bound = tick.bound;
      draw = tick.draw;
      state = first_given_up setting (content_for c.args.cause) (first_for c.args.now c.args.cause) tick.state;
      is = returns-in_default-clause-ticks g c no_keys tick.bound tick.draw tick.state tick.is;
    }

pub returns-clause-tick : goal.returns-clause-tick
returns-clause-tick g c =
    let tick = c.requires.tick in
    let setting : Setting g.row.D.Denot = setting_of c.args.now g.D.Draw.step no_keys in
    record {
      bound = tick.bound;
      draw = tick.draw;
      state = first_given_up setting (content_for c.args.cause) (first_for c.args.now c.args.cause) tick.state;
      is = returns-clause-ticks g c no_keys tick.bound tick.draw tick.state tick.is;
    }
