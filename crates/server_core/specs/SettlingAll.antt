-- The judgements of a packet, settled in order.
use Rattle.std.specs.Prelude.{◌≡◌, ◌≤◌, ◌==◌, ◌+◌, ℕ, Bool, true, List, [], ◌∷◌, All, ⊤, fold, length, max}
use Rattle.std.specs.List.{list_all, list_any, zip}
use Rattle.id_window.specs.History.{History}
use Rattle.outbox.specs.declared.kept.Kept.{Kept}
use Rattle.inbox.specs.declared.judged.Judgement.{Judgement as BareJudgement}
use Rattle.inbox.specs.Verdicts.{Judgement, bare_judgement}
use Rattle.server_output.specs.Items.{bad_salt_bytes}
use Rattle.server_rules.specs.Server.{Name}
use Rattle.server_rules.specs.Event.{Setting}
use Rattle.law_server.specs.Order.{IsTold, opens_of}
use Rattle.server_dispatch.specs.declared.action.Action.{Action}
use Rattle.server_dispatch.specs.declared.dues.Due.{Due}
use Rattle.server_dispatch.specs.Action.{due_by, due_bytes, due_calls, due_of, may_call}
use Rattle.server_core.specs.Among.{Among, IsAlone, IsInOrder, settles_among}
use Rattle.server_core.specs.Failures.{blocked_of}

-- ---- what judged messages need

-- what a judged message needs, where this is what it needs accepted
abbrev pub due_judged : BareJudgement → Due → Action
due_judged judgement due = due_by judgement.seq judgement.verdict due.action

-- Judged so, the messages of these bodies need this, where these are what they need accepted. There may be more that weren't
-- judged.
abbrev pub AreDue : List Judgement → List (List ℕ) → List Due → Type 0
AreDue [] bodies dues = ⊤
AreDue (judgement ∷ judged) [] dues = ⊥
AreDue (judgement ∷ judged) (body ∷ bodies) [] = ⊥
AreDue (judgement ∷ judged) (body ∷ bodies) (due ∷ dues) =
    (due_judged (bare_judgement judgement) due ≡ due_of judgement.number judgement.seq judgement.verdict body) × AreDue judged bodies dues

-- the bytes of bodies of the longer one of what a message needs, and of what it needs where it isn't accepted
abbrev pub due_most : Due → ℕ
due_most due = max bad_salt_bytes (due_bytes due.action)

-- the judgements are on the messages that need this, one after the other
abbrev pub are_numbered : List BareJudgement → List Due → Bool
are_numbered judged dues = list_all (λ one. one.0.number == one.1.number) (zip judged dues)

-- Each judgement has at its place what its message needs: there are at most as many, and each is on that message.
pub record AreFitting (judged : List BareJudgement) (dues : List Due) : Type 0 where
  pub few : length judged ≤ length dues
  pub numbered : are_numbered judged dues ≡ true

-- the kept replies that the judgements call for,
abbrev pub calls_of : List BareJudgement → List Due → Kept → Bool
calls_of judged dues kept = list_any (λ one. due_calls one.0.number (due_judged one.0 one.1) kept) (zip judged dues)

-- and those that the messages may call for before they are judged
abbrev pub calls_by : List Due → Kept → Bool
calls_by dues kept = list_any (λ due. may_call due kept) dues

-- ---- the session that speaks

-- The session is alone of its name and in order, and the numbers are open that these judgements accepted, of which its history
-- tells. So many of its jobs at most fail as they are settled: each of those that aren't ready, one that becomes such a job
-- for each judgement among them.
pub record AreSettling {S : Type 0} (name : Name) (past : History) (limit : ℕ) (judged : List Judgement) (among : Among S) : Type 0 where
  pub alone : IsAlone name among
  pub told : All (λ judgement. IsTold judgement.number judgement.verdict past) judged
  pub order : IsInOrder name past (opens_of judged) among.speaker
  pub few : blocked_of name among.speaker.jobs + length judged ≤ limit

-- each judgement is settled with the body of its message
abbrev pub all_settled : {S : Type 0} → Setting S → List Judgement → List (List ℕ) → Among S → Among S
all_settled setting judged bodies among = fold (settles_among setting) among (zip judged bodies)
