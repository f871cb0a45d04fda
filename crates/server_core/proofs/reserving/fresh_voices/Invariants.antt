use Rattle.std.proofs.Common.{◌≡◌, ◌≤◌, ◌<◌, ◌+◌, ◌*◌, ℕ, false, length, get_or, take, vec_capacity, vec_len}
use Rattle.std.specs.Prelude.{sum_by}
use Rattle.std.specs.List.{All}
use Rattle.waits.specs.Jobs.{overdue_count}
use Rattle.server_session.specs.declared.session.SessionState.{SessionState}
use Rattle.server_session.specs.Names.{name_kept}
use Rattle.server_core.specs.declared.tick_turns.TickTurn.{TickTurn}
use Rattle.server_core.specs.Answering.{answers_left}
use Rattle.server_core.specs.Reserving.{IsFresh}
use Rattle.server_core.specs.Sessions.{AreApart}
use Rattle.server_core.proofs.OverdueLemmas.{overdue_at}
use Rattle.server_core.proofs.reserving.fresh_voices.Given as goal

-- so many sessions have a voice
abbrev pub invariant-loop-place : goal.invariant-loop-place
invariant-loop-place l = record {
  long : length l.list.items ≡ l.place;
  vec : vec_len l.list ≡ l.place;
  capacity : l.count ≤ vec_capacity l.list;
  each : (i : ℕ) (e : TickTurn) → i < length l.list.items → IsFresh (get_or l.list.items i e).left (get_or l.list.items i e);
  few : (i : ℕ) (e : TickTurn) → i < length l.list.items → (get_or l.list.items i e).left ≤ 4096;
  enough : All (λ one. one.failed ≡ false) l.jobs.jobs → (i : ℕ) (d : SessionState) (e : TickTurn) → i < length l.list.items
      → answers_left l.now l.jobs.jobs (name_kept (get_or l.sessions i d)) ≤ (get_or l.list.items i e).left;
  total : l.total ≡ sum_by (λ voice. voice.left) l.list.items;
  most : l.total ≤ l.place * 4096;
  behind : AreApart l.sessions → overdue_count l.now l.jobs.jobs ≤ l.left + sum_by (overdue_at l.now l.jobs.jobs) (take l.place l.sessions);
}
