use Rattle.std.proofs.Common.{◌≡◌, ◌≤◌, List, length, vec_capacity}
use Rattle.std.specs.List.{All}
use Rattle.auth_keys.specs.declared.ring.RingKey.{RingKey}
use Rattle.server_rules.specs.Server.{Binding}
use Rattle.server_rules.specs.Event.{State}
use Rattle.server_session.specs.Says.{Keys, setting_of}
use Rattle.server_core.specs.Answering.{AreInTick, AreVoices, GoesOn, IsInTick}
use Rattle.server_core.specs.Losing.{IsHere}
use Rattle.server_core.proofs.tick_turns.TickTurns.answers_each.Given as goal

-- after so many steps
abbrev pub invariant-loop-step : goal.invariant-loop-step
invariant-loop-step g l = record {
  voices : AreVoices l.sessions l.self.list.items l.self.order.items l.self.entries.room;
  capacity : length l.sessions ≤ vec_capacity l.self.order;
  tick : AreInTick g.row.D.Denot l.now l.sessions l.self.list.items l.self.order.items l.self.entries.entries l.jobs.jobs;
  count : length l.sessions ≡ length l.fn.sessions;
  here : (ring : List RingKey) → All (IsHere ring l.now) l.fn.sessions → All (IsHere ring l.now) l.sessions;
  ticks : (keys : Keys) (bindings : List Binding) (draw : g.row.D.Denot) (start : State g.row.D.Denot)
      → IsInTick l.now l.fn.sessions l.fn.self.list.items l.fn.self.order.items l.fn.self.entries.entries l.fn.jobs.jobs bindings draw start
      → GoesOn (setting_of l.now g.D.Draw.step keys) l.cause l.step (length l.fn.jobs.jobs) l.sessions l.self.list.items l.self.order.items l.self.entries.entries
      l.jobs.jobs bindings draw start;
}
