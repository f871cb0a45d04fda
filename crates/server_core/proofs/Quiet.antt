-- Where no job is to be given up, none is.
use Rattle.std.proofs.Common.{◌≡◌, ◌∙◌, ℕ, zero, suc, Bool, false, Option, Some, None, List, [], ◌∷◌, length, ap, sym, refl, arith, inl, inr}
use Rattle.std.specs.List.{All}
use Rattle.std.proofs.lemmas.Bool.{cases_Bool}
use Rattle.std.proofs.lemmas.List.Elements.{All-head, All-tail}
use Rattle.waits.specs.declared.job.Job.{Job}
use Rattle.waits.specs.declared.job.Unfinished.{Unfinished}
use Rattle.waits.specs.Jobs.{Queue, first_job, has_failed, is_overdue, one_if, overdue_count, without_first}
use Rattle.server_rules.specs.Server.{Server}
use Rattle.server_rules.specs.Event.{Setting, State}
use Rattle.server_rules.specs.Speaking.{msg_wait_failed, msg_wait_timeout}
use Rattle.server_rules.specs.Waiting.{after_failures, after_timeouts, all_given_up, first_given_up, given_up}
use Rattle.server_rules.specs.Answer.{after_tick, begun, ended, ticks}
use Rattle.server_core.specs.One.{answer_of}
use Rattle.server_core.proofs.Names.{none-some}
use Rattle.server_core.proofs.Running.{IsUnfailed}
use Rattle.server_core.proofs.Spent.{HasRoom, none-ends}

-- the first job that is so, and the others
abbrev pub first_so : (Unfinished → Bool) → Queue → Option Job × Queue
first_so test queue = (first_job test queue, without_first test queue)

-- none is so, and all are left
abbrev pub HasNone : (Unfinished → Bool) → Queue → Type 0
HasNone test jobs = first_job test jobs ≡ None

pub none-out : (test : Unfinished → Bool) (jobs : Queue) → HasNone test jobs → without_first test jobs ≡ jobs
none-out test [] none = refl
none-out test (one ∷ jobs) none =
    elim (cases_Bool (test one)) [
      | inl is ↦ (let found : first_job test (one ∷ jobs) ≡ Some one.job = rw is refl in absurd (none-some one.job (sym none ∙ found)))
      | inr not_so ↦
          (let later : first_job test (one ∷ jobs) ≡ first_job test jobs = rw not_so refl in
          rw not_so (ap (λ (left : Queue). one ∷ left) (none-out test jobs (sym later ∙ none))))
    ]

pub first-same : {S : Type 0} (setting : Setting S) (content : List ℕ) (test : Unfinished → Bool) (state : State S) → HasNone test state.jobs
    → first_given_up setting content (first_so test) state ≡ state
first-same {S} setting content test state none =
    ap (λ (found : Option Job). given_up setting content found (record state { jobs = without_first test state.jobs })) none
    ∙ ap (λ (jobs : Queue). record state { jobs = jobs }) (none-out test state.jobs none)

pub none-given : {S : Type 0} (setting : Setting S) (content : List ℕ) (test : Unfinished → Bool) (n : ℕ) (state : State S) → HasNone test state.jobs
    → all_given_up setting content (first_so test) n state ≡ state
none-given setting content test zero state none = refl
none-given setting content test (suc n) state none =
    ap (all_given_up setting content (first_so test) n) (first-same setting content test state none)
    ∙ none-given setting content test n state none

-- ---- a tick

pub none-overdue : (now : ℕ) (jobs : Queue) → overdue_count now jobs ≡ 0 → HasNone (is_overdue now) jobs
none-overdue now [] none = refl
none-overdue now (one ∷ jobs) none =
    elim (cases_Bool (is_overdue now one)) [
      | inl is ↦ (let here : one_if (is_overdue now one) ≡ 1 = ap one_if is in absurd (omega arith))
      | inr not_so ↦ (let here : one_if (is_overdue now one) ≡ 0 = ap one_if not_so in rw not_so (none-overdue now jobs (omega arith)))
    ]

pub none-failed : (jobs : Queue) → All IsUnfailed jobs → HasNone has_failed jobs
none-failed [] all = refl
none-failed (one ∷ jobs) all =
    let not_so : one.failed ≡ false = All-head IsUnfailed one jobs all in
    rw not_so (none-failed jobs (All-tail IsUnfailed one jobs all))

pub ticks-none : {S : Type 0} (setting : Setting S) (state : State S) → All IsUnfailed state.jobs → overdue_count setting.now state.jobs ≡ 0
    → ticks setting state ≡ state
ticks-none {S} setting state unfailed none =
    let first : after_timeouts setting state ≡ state =
    none-given setting msg_wait_timeout (is_overdue setting.now) (length state.jobs) state (none-overdue setting.now state.jobs none) in
    ap (after_failures setting) first
    ∙ none-given setting msg_wait_failed has_failed (length state.jobs) state (none-failed state.jobs unfailed)

pub quiet-tick : {S : Type 0} (setting : Setting S) (server : Server) (draw : S) → All HasRoom server.sessions → All IsUnfailed server.jobs
    → overdue_count setting.now server.jobs ≡ 0 → after_tick setting server draw ≡ answer_of setting (begun server draw)
quiet-tick {S} setting server draw room unfailed none =
    let start : State S = begun server draw in
    ap (ended setting) (ticks-none setting start unfailed none) ∙ none-ends setting start room refl
