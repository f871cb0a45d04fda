use Rattle.std.proofs.Common.{◌≡◌, ◌+◌, ℕ, None, [], ◌∷◌, refl, sym}
use Rattle.commands.specs.declared.command.ServeOptions.{ServeOptions}
use Rattle.cmd_call.specs.Owed.{plan_of}
use Rattle.cmd_pair.specs.Batches.{plan_at}
use Rattle.cmd_serve.specs.Runs.{Course, Deaf, Draws, IsBroken, Moments, Mute, Refused, Serves, ServesBy, Shut, Unbegun, Unread, first_of}
use Rattle.client_node.specs.declared.plan.Batch.TheVariants as batch
use Rattle.law_runs.specs.Joining.{IsServing, Served, connections_in, ring_in, start_by}
use Rattle.law_runs.specs.Told.{acts_told}
use Rattle.law_runs.proofs.laws.runs_are_told.Goals as goal

served-so : {D : Type 0} (step : D → ℕ × D) (options : ServeOptions) (moments : Moments) (draws : Draws D) (course : Course D) → (served : ServesBy step options moments draws course) → (IsBroken course → ⊥) → IsServing course
    → (run : Served step (ring_in course)) × (run.first ≡ first_of options moments draws.before) × (run.connections ≡ connections_in course)
    × ((start_by run).acts ≡ acts_told step options moments draws course served)
served-so step options moments draws (Serves ring connections ending) served whole is = (
  record {
    first = first_of options moments draws.before;
    connections = connections;
    conns = options.conns;
    ending = ending;
    are = served.are;
    ended = served.ended;
    whole = whole;
    server = refl;
    service = refl;
  },
  refl,
  refl,
  refl,
)
served-so step options moments draws Unread served whole is = absurd is
served-so step options moments draws (Refused line) served whole is = absurd is
served-so step options moments draws Unbegun served whole is = absurd is
served-so step options moments draws (Shut ring) served whole is = absurd is
served-so step options moments draws (Deaf ring) served whole is = absurd is
served-so step options moments draws (Mute ring) served whole is = absurd is

pub returns-clause-serves : goal.returns-clause-serves
returns-clause-serves g c = λ step options moments draws course served whole is. served-so step options moments draws course served whole is

pub returns-clause-calls : goal.returns-clause-calls
returns-clause-calls g c = λ options text calls ring keys around one due spelt found ran. (
  record {
    text = text;
    calls = calls;
    spelt = spelt;
    taken = ran.taken;
    ring = ring;
    key = options.key;
    perm = options.perm;
    keys = keys;
    found = found;
    draw = around.draw;
    batches = record { plan = plan_of options; end = ran.end; attempts = ran.trace.attempts } ∷ [];
    are = (tt, ran.trace.ended);
  },
  record { calls_are = refl; ring_is = refl; keys_are = refl; draw_is = refl },
  refl,
  sym ran.its,
)

pub returns-clause-left : goal.returns-clause-left
returns-clause-left g c = λ options text calls ring keys around spelt found left. (
  record {
    text = text;
    calls = calls;
    spelt = spelt;
    taken = left.taken;
    ring = ring;
    key = options.key;
    perm = options.perm;
    keys = keys;
    found = found;
    draw = around.draw;
    batches = record { plan = plan_of options; end = left.end; attempts = left.trace.attempts } ∷ [];
    are = (tt, left.trace.ended);
  },
  record { calls_are = refl; ring_is = refl; keys_are = refl; draw_is = refl },
  refl,
)

pub returns-clause-over_one : goal.returns-clause-over_one
returns-clause-over_one g c = λ options input files calls ring keys around kids one due ready over. (
  record {
    text = ready.script.text;
    calls = calls;
    spelt = ready.script.spelt;
    taken = ready.taken;
    ring = ring;
    key = options.key;
    perm = None;
    keys = keys;
    found = ready.found;
    draw = around.draw;
    batches = record { plan = plan_at options.port; end = over.last.end; attempts = over.last.trace.attempts } ∷ [];
    are = (tt, over.last.trace.ended);
  },
  record { calls_are = refl; ring_is = refl; keys_are = refl; draw_is = refl },
  refl,
  sym over.last.its,
)

pub returns-clause-over_both : goal.returns-clause-over_both
returns-clause-over_both g c = λ options input files calls ring keys around kids one due ready over. (
  record {
    text = ready.script.text;
    calls = calls;
    spelt = ready.script.spelt;
    taken = ready.taken;
    ring = ring;
    key = options.key;
    perm = None;
    keys = keys;
    found = ready.found;
    draw = around.draw;
    batches = record { plan = plan_at (options.port + 1); end = over.last.end; attempts = over.last.trace.attempts }
        ∷ record { plan = plan_at options.port; end = batch.LinkLost; attempts = over.first.trace.attempts } ∷ [];
    are = ((tt, over.first.trace.ended, refl), over.last.trace.ended);
  },
  record { calls_are = refl; ring_is = refl; keys_are = refl; draw_is = refl },
  refl,
  sym over.last.its,
)
