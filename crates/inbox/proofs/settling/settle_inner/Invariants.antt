use Rattle.std.proofs.Common.{◌≤◌, ◌+◌, vec_len, vec_capacity}
use Rattle.std.specs.Vec.Iter.{into_iter_items, into_iter_len}
use Rattle.id_window.specs.Window.{Stands}
use Rattle.inbox.specs.Judging.{Session}
use Rattle.inbox.proofs.SettledLemmas.{Goes}
use Rattle.inbox.proofs.settling.settle_inner.Given as goal

-- there is room for what is left, and what was judged goes on with it
abbrev pub invariant-loop-draft : goal.invariant-loop-draft
invariant-loop-draft l =
    (goal.iterator-loop-draft).can_next l.draft-iterator ×
    (goal.iterator-loop-draft).is_finite l.draft-iterator ×
    (into_iter_len l.draft-iterator ≤ l.window.room) ×
    (vec_len l.judgements + into_iter_len l.draft-iterator ≤ vec_capacity l.judgements) ×
    ((session : Session) → Stands l.initial.window session.history session.marks
    → Goes session l.window l.initial.judgements.items l.judgements.items l.fn.drafts.items (into_iter_items l.draft-iterator))
