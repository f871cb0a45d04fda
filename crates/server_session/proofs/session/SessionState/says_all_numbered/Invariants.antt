use Rattle.std.proofs.Common.{◌≡◌, ◌≤◌, ◌+◌, ℕ, Bool, true, take}
use Rattle.outbox.specs.declared.kept.Kept.{Kept}
use Rattle.server_rules.specs.Event.{Speaker}
use Rattle.server_session.specs.Says.{Says}
use Rattle.server_session.specs.Unsaid.{CallsFor, is_among, unsaid_bytes, unsaid_count}
use Rattle.server_session.proofs.UnsaidLemmas.{said_numbered}
use Rattle.server_session.proofs.session.SessionState.says_all_numbered.Given as goal

-- the replies of the numbers so far are said, in no more room than the others need less
abbrev pub invariant-loop-place : goal.invariant-loop-place
invariant-loop-place g l = record {
  says : (now : ℕ) (draw : g.row.D.Denot) (speaker : Speaker g.row.D.Denot) → Says now l.self l.initial.owing draw speaker
      → Says now l.self l.owing draw (said_numbered speaker (take l.place l.ids));
  places : (called : Kept → Bool) → CallsFor (is_among l.ids) called → l.initial.owing.places + unsaid_count called l.self l.owing ≤ l.owing.places + unsaid_count called l.self l.initial.owing;
  left : (called : Kept → Bool) → CallsFor (is_among l.ids) called → l.initial.owing.room + unsaid_bytes called l.self l.owing ≤ l.owing.room + unsaid_bytes called l.self l.initial.owing;
  places_taken : l.owing.places_taken ≡ l.initial.owing.places_taken;
  bytes_taken : l.owing.bytes_taken ≡ l.initial.owing.bytes_taken;
}
