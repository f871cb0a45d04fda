-- Scaffolding, and no promise: judgements whose numbers are acknowledged.
use Rattle.std.specs.Prelude.{ℕ, ◌&&◌, ◌==◌, not, Bool, true, false, if◌then◌else◌, List, [], ◌∷◌, ◌++◌}
use Rattle.std.specs.List.{list_any}
use Rattle.msg_ids.specs.Counters.{is_odd}
use Rattle.inbox.specs.declared.judged.Verdict.{Verdict}
use Rattle.inbox.specs.declared.judged.Verdict.TheVariants.{Accepted, Again, Noticed}
use Rattle.inbox.specs.declared.judged.Judgement.{Judgement}
use Rattle.server_rules.specs.Rows.{is_mark_acked}

abbrev pub is_bare_acked : Verdict → Bool
is_bare_acked Accepted = true
is_bare_acked (Again mark) = is_mark_acked mark
is_bare_acked (Noticed code) = false

unfoldable pub is_acked : Judgement → Bool
is_acked judgement = is_odd judgement.seq && is_bare_acked judgement.verdict

-- its number stands behind these, where it is acknowledged and isn't among them
abbrev pub noted : List ℕ → Judgement → List ℕ
noted numbers judgement =
    if is_acked judgement && not (list_any (λ other. other == judgement.number) numbers) then numbers ++ judgement.number ∷ [] else numbers
