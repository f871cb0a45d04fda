-- A judgement that is settled: what holds once its row was applied and the jobs were told of it.
use Rattle.std.proofs.Common.{◌≡◌, ℕ, ◌+◌, ◌≤◌, Bool, List, [], ◌∷◌, ap, subst, arith, inl, inr}
use Rattle.std.specs.Prelude.{is_some, not}
use Rattle.std.specs.List.{filter}
use Rattle.std.proofs.lemmas.Bool.{cases_Bool, cond_both, cond-true, cond-false}
use Rattle.service_tl.specs.declared.item.Item.TheVariants.{DestroySession}
use Rattle.id_window.specs.History.{History}
use Rattle.inbox.specs.Verdicts.{Verdict, Accepted, Again, Noticed}
use Rattle.waits.specs.declared.job.Unfinished.{Unfinished}
use Rattle.waits.specs.Jobs.{Queue, is_of}
use Rattle.server_rules.specs.Server.{Binding, Name, session_named}
use Rattle.server_rules.specs.Event.{Setting, Speaker}
use Rattle.server_rules.specs.Waiting.{outlook, tells_of}
use Rattle.law_server.specs.Order.{IsSpeaking, jobs_of}
use Rattle.server_session.specs.declared.session.SessionState.{SessionState}
use Rattle.server_dispatch.specs.declared.turn.Turn.{Turn}
use Rattle.server_dispatch.specs.Speaks.{Speaks}
use Rattle.server_core.specs.Among.{Among, IsAlone, destroys_another, row_among, speaks_among}
use Rattle.server_core.specs.Failures.{HasFailures, blocked_of}
use Rattle.server_core.specs.Settling.{IsSettling}
use Rattle.server_core.proofs.Among.{OwesForItself, row-alone, told-alone}
use Rattle.server_core.proofs.Blocked.{told-blocked}
use Rattle.server_core.proofs.Names.{named}
use Rattle.server_core.proofs.Ordered.{KeepsOrder, row-order}
use Rattle.server_core.proofs.OwnJobs.{owes-blocked}

-- ---- how many jobs aren't ready

pub blocked-left : (name : Name) (stays : Unfinished → Bool) (jobs : Queue) → blocked_of name (filter stays jobs) ≤ blocked_of name jobs
blocked-left name stays [] = omega arith
blocked-left name stays (one ∷ jobs) =
    let left = filter stays jobs in
    let rest = blocked-left name stays jobs in
    elim (cases_Bool (stays one)) [
      | inl is ↦
          let w : blocked_of name (filter stays (one ∷ jobs)) ≡ blocked_of name (one ∷ left) = ap (blocked_of name) (cond-true (stays one) (one ∷ left) left is) in
          omega arith
      | inr not_so ↦
          let w : blocked_of name (filter stays (one ∷ jobs)) ≡ blocked_of name left = ap (blocked_of name) (cond-false (stays one) (one ∷ left) left not_so) in
          omega arith
    ]

destroyed-blocked : {S : Type 0} (setting : Setting S) (name : Name) (destroyed : ℕ) (among : Among S)
    → blocked_of name (destroys_another setting destroyed among).speaker.jobs ≤ blocked_of name among.speaker.jobs + 1
destroyed-blocked {S} setting name destroyed among =
    let other = named among.speaker.session.key destroyed in
    let P : Among S → Type 0 = λ after. blocked_of name after.speaker.jobs ≤ blocked_of name among.speaker.jobs + 1 in
    let fewer = blocked-left name (λ one. not (is_of other.key other.session one)) among.speaker.jobs in
    cond_both (is_some (session_named other among.others)) _ _ P (λ is. omega arith) (λ is. omega arith)

rowed-blocked : {S : Type 0} (setting : Setting S) (name : Name) (number seq : ℕ) (verdict : Verdict) (body : List ℕ) (among : Among S) → IsAlone name among
    → blocked_of name (row_among setting number seq verdict body among).speaker.jobs ≤ blocked_of name among.speaker.jobs + 1
rowed-blocked setting name number seq (Accepted (DestroySession destroyed)) body among alone = destroyed-blocked setting name destroyed among
rowed-blocked setting name number seq (Accepted item) body among alone = owes-blocked setting name number seq (Accepted item) body among.speaker alone.named
rowed-blocked setting name number seq (Again mark) body among alone = owes-blocked setting name number seq (Again mark) body among.speaker alone.named
rowed-blocked setting name number seq (Noticed code) body among alone = owes-blocked setting name number seq (Noticed code) body among.speaker alone.named

-- ---- the session once its row was applied and its jobs were told

-- no number needs to be open
all-left : {S : Type 0} → KeepsOrder S → (name : Name) (others : Name → Queue) (past : History) (opened : List ℕ) (speaker : Speaker S)
    → IsSpeaking name others past opened speaker → IsSpeaking name others past [] speaker
all-left keeps name others past [] speaker order = order
all-left keeps name others past (number ∷ opened) speaker order = all-left keeps name others past opened speaker (keeps.left number name others past opened speaker order)

pub record IsRowed (S : Type 0) (name : Name) (past : History) (number before : ℕ) (rowed : Among S) : Type 0 where
  pub has : HasFailures name (λ one. jobs_of one rowed.speaker.jobs) past (tells_of number rowed.speaker)
  pub few : blocked_of name (tells_of number rowed.speaker).jobs ≤ before + 1

pub is-rowed : {S : Type 0} → KeepsOrder S → OwesForItself S → (setting : Setting S) (name : Name) (past : History) (number seq : ℕ) (verdict : Verdict) (body opened : List ℕ) (among : Among S)
    → IsSettling name past number verdict opened among
    → IsRowed S name past number (blocked_of name among.speaker.jobs) (row_among setting number seq verdict body among)
is-rowed {S} keeps owed setting name past number seq verdict body opened among is =
    let rowed : Among S = row_among setting number seq verdict body among in
    let is_rowed : IsAlone name rowed = row-alone owed setting name number seq verdict body among is.alone in
    let is_told : IsAlone name (speaks_among (tells_of number) rowed) = told-alone setting name number rowed is_rowed in
    let before = λ (one : Name). jobs_of one rowed.speaker.jobs in
    let row_order = row-order keeps setting name (λ (one : Name). jobs_of one among.speaker.jobs) past opened number seq verdict body among is.alone is.told is.order in
    let tells_order = keeps.tells number name before past opened rowed.speaker row_order in
    let B : Name → Type 0 = λ name. blocked_of name (tells_of number rowed.speaker).jobs ≤ blocked_of name rowed.speaker.jobs in
    let told = subst B is_rowed.named (told-blocked rowed.speaker.session (outlook rowed.speaker.session rowed.speaker.jobs number) number rowed.speaker.jobs) in
    let more = rowed-blocked setting name number seq verdict body among is.alone in
    record {
      has = record { named = is_told.named; order = all-left keeps name before past opened (tells_of number rowed.speaker) tells_order; own = is_told.own };
      few = omega arith;
    }

pub told-speaks : {S : Type 0} (now number : ℕ) (standing : SessionState) (turn : Turn) (queue later : Queue) (bound : List Binding) (draw : S) (speaker : Speaker S)
    → Speaks now standing turn queue bound draw speaker → later ≡ (tells_of number speaker).jobs → Speaks now standing turn later bound draw (tells_of number speaker)
told-speaks now number standing turn queue later bound draw speaker speaks told =
    record {
      says = record { stands = speaks.says.stands; owed = speaks.says.owed; draws = speaks.says.draws };
      jobs = told;
      bindings = speaks.bindings;
      entries = speaks.entries;
    }
