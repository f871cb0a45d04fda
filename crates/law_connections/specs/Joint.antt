-- A joint run: what a server and its clients do over connections. The order of steps is any, and packets that come are any
-- bytes at any end: so the net between may lose, repeat, reorder, cut, mix and invent.
use Rattle.std.specs.Prelude.{ℕ, Option, Some, None, option_map, List, [], ◌∷◌, ◌++◌, fold}
use Rattle.draws.specs.Draws.{draw_after}
use Rattle.sched_text.specs.declared.event.Event.TheVariants as line
use Rattle.server_rules.specs.Server.{Name, fresh_server}
use Rattle.server_rules.specs.Events as events
use Rattle.server_node.specs.Trace.{Act, Attach, Hear, Run, Tick}
use Rattle.client_rules.specs.Client.{Temporary, temporary_of}
use Rattle.client_core.specs.Keys.{BoundTo, Keys}
use Rattle.world_rules.specs.Setting.{Setting}
use Rattle.world_rules.specs.World.{World, begins, changed_at, counted}
use Rattle.world_rules.specs.Ends.{serves}
use Rattle.world_rules.specs.Run.{after, joins}

-- ---- steps

-- What a client's node does: it is given a call, after an earlier one or not; it draws so many words for the start of a
-- connection; a connection was opened; it goes on in another session; it sends what is due, and a packet comes, each at a moment.
-- Where a connection is lost nothing changes at the client until another one is opened, so that is none of these.
pub data Deed : Type 0 where
  Submits : (body : List ℕ) (earlier : Option ℕ) → Deed
  Draws : (words : ℕ) → Deed
  Attaches : Deed
  Renews : Deed
  Flushes : (now : ℕ) → Deed
  Hears : (now : ℕ) (packet : List ℕ) → Deed

pub data Step (S : Type 0) : Type 0 where
  -- an event of the server's node: a packet comes, a connection is attached to a session, a tick, or the first ready job runs
  Serves : (act : Act) → Step S
  -- the server starts again: a server without sessions, with a fresh service, that draws its words from here
  Starts : (draw : S) → Step S
  -- a client begins under these keys, and draws its words from here
  Begins : (keys : Keys) (draw : S) → Step S
  -- the client of this number, counted from 1, does so
  Does : (number : ℕ) (deed : Deed) → Step S

-- ---- what a step does to a world

-- the server's clock is at this moment
abbrev pub at_moment : {S V : Type 0} → ℕ → World S V → World S V
at_moment now world = record world { clock = now }

-- a connection is attached to a session of this name, whichever client has or had it
abbrev pub attaches : {S V : Type 0} → Setting S V → Name → World S V → World S V
attaches setting name world = serves setting (events.Attach world.clock name) world

abbrev pub served : {S V : Type 0} → Setting S V → Act → World S V → World S V
served setting (Hear now packet) world = after setting (at_moment now world) (line.ForeignServer packet)
served setting (Attach now name) world = attaches setting (record { key = name.key; session = name.session }) (at_moment now world)
served setting (Tick now) world = after setting (at_moment now world) line.TickServer
served setting (Run now) world = after setting (at_moment now world) (line.Work 1)

-- another start of the server: what the former one had of sessions is lost, and entries and packets stay
abbrev pub started : {S V : Type 0} → Setting S V → S → World S V → World S V
started setting draw world = record (after setting world line.Restart) { server = fresh_server; draw = draw }

-- what a temporary key is to be bound to
abbrev pub temporary_in : Option BoundTo → Option Temporary
temporary_in bound = option_map (λ one. temporary_of one.perm one.expires) bound

abbrev pub begun : {S V : Type 0} → Setting S V → Keys → World S V → World S V
begun setting keys world = joins setting keys.key (temporary_in keys.bound_to) world

-- the client's clock is at this moment
abbrev pub at_client_moment : {S V : Type 0} → Setting S V → ℕ → ℕ → World S V → World S V
at_client_moment setting number now world = after setting world (line.ClockClient number now)

abbrev pub did : {S V : Type 0} → Setting S V → ℕ → Deed → World S V → World S V
did setting number (Submits body earlier) world = after setting world (line.Call number body earlier)
did setting number (Draws words) world = record world { draw = draw_after setting.step words world.draw }
did setting number Attaches world = after setting world (line.AttachClient number)
did setting number Renews world = after setting world (line.Renew number)
did setting number (Flushes now) world = after setting (at_client_moment setting number now world) (line.Flush number)
did setting number (Hears now packet) world = after setting (at_client_moment setting number now world) (line.ForeignClient number packet)

-- ---- a joint run

-- A world, whose draw is that of the server's present start, and what the words of each client are drawn from, in order of the
-- clients.
pub record Joint (S V : Type 0) : Type 0 where
  pub world : World S V
  pub draws : List S

-- the words of a step are drawn from here
abbrev pub drawing : {S V : Type 0} → S → World S V → World S V
drawing draw world = record world { draw = draw }

-- A client comes, or does something, with words of its own; what the server draws from stays.
abbrev pub comes : {S V : Type 0} → Setting S V → Keys → S → Joint S V → Joint S V
comes setting keys draw joint =
    let there = begun setting keys (drawing draw joint.world) in
    record { world = drawing joint.world.draw there; draws = joint.draws ++ there.draw ∷ [] }

abbrev pub does : {S V : Type 0} → Setting S V → ℕ → Deed → Option S → Joint S V → Joint S V
does setting number deed None joint = joint
does setting number deed (Some draw) joint =
    let there = did setting number deed (drawing draw joint.world) in
    record { world = drawing joint.world.draw there; draws = changed_at number (λ other. there.draw) joint.draws }

-- one step
abbrev pub steps_on : {S V : Type 0} → Setting S V → Joint S V → Step S → Joint S V
steps_on setting joint (Serves act) = record joint { world = served setting act joint.world }
steps_on setting joint (Starts draw) = record joint { world = started setting draw joint.world }
steps_on setting joint (Begins keys draw) = comes setting keys draw joint
steps_on setting joint (Does number deed) = does setting number deed (counted number joint.draws) joint

-- it begins with the server's first start, which draws its words from here, and no client
abbrev pub nobody_yet : {S V : Type 0} → Setting S V → S → Joint S V
nobody_yet setting draw = record { world = begins setting draw; draws = [] }

abbrev pub joint_from : {S V : Type 0} → Setting S V → Joint S V → List (Step S) → Joint S V
joint_from setting joint steps = fold (steps_on setting) joint steps

abbrev pub joint_of : {S V : Type 0} → Setting S V → S → List (Step S) → Joint S V
joint_of setting draw steps = joint_from setting (nobody_yet setting draw) steps
