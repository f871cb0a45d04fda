use Rattle.std.proofs.Common.{◌≡◌, ◌≤◌, ◌+◌, ◌*◌, length, drop}
use Rattle.server_rules.specs.Event.{State}
use Rattle.server_session.specs.Says.{Keys, setting_of}
use Rattle.server_core.specs.Outgoing.{CanSend, IsSending}
use Rattle.server_core.proofs.tick_turns.TickTurns.sends.Given as goal

-- so many sessions have sent
abbrev pub invariant-loop-k : goal.invariant-loop-k
invariant-loop-k g l = record {
  sendable : CanSend (g.S.Seal.keys l.seal) l.now l.sessions l.self.list.items;
  count : length l.sessions ≡ length l.fn.sessions;
  order : l.self.order ≡ l.fn.self.order;
  entries : l.self.entries ≡ l.fn.self.entries;
  room : 5 * length l.fn.self.order.items ≤ l.outs.room + 5 * l.k;
  sends : (keys : Keys) (start : State g.row.D.Denot)
      → IsSending g.S.Seal.lock (g.S.Seal.keys l.seal) (setting_of l.now g.D.Draw.step keys) l.fn.sessions l.fn.self.list.items l.fn.self.order.items l.fn.draw l.fn.outs.outs start
      → IsSending g.S.Seal.lock (g.S.Seal.keys l.seal) (setting_of l.now g.D.Draw.step keys) l.sessions l.self.list.items (drop l.k l.fn.self.order.items) l.draw l.outs.outs start;
}
