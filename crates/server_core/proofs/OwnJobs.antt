-- What a row leaves of the jobs: what holds of them where none is added, and what holds where one is.
use Rattle.std.proofs.Common.{◌≡◌, ◌∙◌, ◌≤◌, ◌+◌, ℕ, eqb, Bool, true, false, Option, Some, None, List, [], ◌∷◌, ap, sym, subst, refl, arith, inl, inr}
use Rattle.std.specs.Prelude.{fold, is_some, ◌&&◌, ◌==◌}
use Rattle.std.specs.List.{All, find, list_all}
use Rattle.std.proofs.lemmas.Bool.{cases_Bool, cond_both, cond-false, cond-true, false≢true}
use Rattle.std.proofs.lemmas.List.Elements.{All-cons, All-head, All-push, All-tail}
use Rattle.service_tl.specs.declared.item.Item.{Item}
use Rattle.service_tl.specs.declared.item.Item.TheVariants.{RpcDropAnswer, GetFutureSalts, Ping, PingDelayDisconnect, MsgsAck, MsgsStateReq, MsgResendReq, InvokeAfterMsg, InvokeAfterMsgs, AuthBindTempAuthKey, Packed, Call, Broken}
use Rattle.service_tl.specs.Schema.{rpc_drop_answer}
use Rattle.id_window.specs.declared.mark.Mark.{Mark}
use Rattle.id_window.specs.declared.mark.Mark.TheVariants.{Noticed as MarkNoticed, Service, Container, Waiting, Replied, Acked, Dropped}
use Rattle.inbox.specs.Verdicts.{Verdict, Accepted, Again, Noticed}
use Rattle.waits.specs.declared.job.Job.{Job}
use Rattle.waits.specs.declared.job.Unfinished.{Unfinished}
use Rattle.waits.specs.Jobs.{Queue, accepted, first_job, is_call, is_of, without_first}
use Rattle.server_rules.specs.Server.{Binding, Name, Reply, Session, is_kept, mark_in, name_of, reply_to}
use Rattle.server_rules.specs.Event.{BindingCall, Setting, Speaker}
use Rattle.server_rules.specs.Speaking.{answers, answers_in_place, has_said, message_of, owes_message, says_again}
use Rattle.server_rules.specs.Waiting.{Outlook, outlook, tells_of, told as told_of}
use Rattle.server_rules.specs.Calls.{accepts_call, becomes_job, binds, binds_by, drops_answer, drops_by, dropped_running, job_of, refusal}
use Rattle.server_rules.specs.Rows.{accepts, answers_broken, came_again, kept_numbered, notices, owes, says_reply, sends_again, tells_states}
use Rattle.server_core.specs.One.{AreOwnFailures}
use Rattle.server_core.specs.Failures.{blocked_of, is_blocked}
use Rattle.server_core.proofs.Blocked.{one-at_most, told-blocked}
use Rattle.server_core.proofs.Failing.{outlook-own}

-- the jobs without the first that is so
first-out : (P : Unfinished → Type 0) (test : Unfinished → Bool) (jobs : Queue) → All P jobs → All P (without_first test jobs)
first-out P test [] all = all
first-out P test (one ∷ jobs) all =
    cond_both (test one) jobs (one ∷ without_first test jobs) (λ (left : Queue). All P left)
    (λ is. All-tail P one jobs all)
    (λ is. All-cons P one (without_first test jobs) (All-head P one jobs all) (first-out P test jobs (All-tail P one jobs all)))

-- the session has this name, and this holds of the jobs
pub record HasJobs (S : Type 0) (name : Name) (K : Queue → Type 0) (speaker : Speaker S) : Type 0 where
  pub named : name_of speaker.session ≡ name
  pub holds : K speaker.jobs

-- what holds of jobs stays where some of the session are told, or one is taken out; where one is added the other holds, which
-- is no more
pub record StaysOfJobs (name : Name) (K L : Queue → Type 0) : Type 0 where
  pub told : (session : Session) (outlook : Outlook) (number : ℕ) (jobs : Queue) → name_of session ≡ name → K jobs → K (told_of outlook session number jobs)
  pub out : (test : Unfinished → Bool) (jobs : Queue) → K jobs → K (without_first test jobs)
  pub pushed : (job : Job) (jobs : Queue) → K jobs → L (accepted job jobs)
  pub weaker : (jobs : Queue) → K jobs → L jobs

module _ {S : Type 0} (setting : Setting S) (name : Name) (K L : Queue → Type 0) (stays : StaysOfJobs name K L) where
  abbrev P : Speaker S → Type 0
  P speaker = HasJobs S name K speaker

  abbrev Q : Speaker S → Type 0
  Q speaker = HasJobs S name L speaker

  less : (speaker : Speaker S) → P speaker → Q speaker
  less speaker p = record { named = p.named; holds = stays.weaker speaker.jobs p.holds }

  same : (before after : Speaker S) → name_of after.session ≡ name_of before.session → after.jobs ≡ before.jobs → P before → P after
  same before after named jobs p = record { named = named ∙ p.named; holds = subst K (sym jobs) p.holds }

  told : (number : ℕ) (speaker : Speaker S) → P speaker → P (tells_of number speaker)
  told number speaker p =
      record {
        named = p.named;
        holds = stays.told speaker.session (outlook speaker.session speaker.jobs number) number speaker.jobs p.named p.holds;
      }

  notice : (number seq code : ℕ) (speaker : Speaker S) → P speaker → P (notices setting number seq code speaker)
  notice number seq code speaker p =
      cond_both (eqb code 48) _ _ P
      (λ is. same speaker _ refl refl p)
      (λ is. same speaker _ refl refl p)

  said_again : (reply : Reply) (speaker : Speaker S) → P speaker → P (says_again reply speaker)
  said_again reply speaker p =
      cond_both (has_said reply.number speaker) speaker (owes_message (message_of reply) speaker) P
      (λ is. p) (λ is. same speaker (owes_message (message_of reply) speaker) refl refl p)

  reply : (found : Option Reply) (speaker : Speaker S) → P speaker → P (says_reply found speaker)
  reply None speaker p = p
  reply (Some found) speaker p = said_again found speaker p

  again : (number seq : ℕ) (mark : Option Mark) (speaker : Speaker S) → P speaker → P (came_again setting number seq mark speaker)
  again number seq (Some (MarkNoticed code)) speaker p = notice number seq code speaker p
  again number seq (Some (Replied good)) speaker p = reply (reply_to number speaker.session.replies) speaker p
  again number seq (Some (Dropped good)) speaker p = notice number seq 20 speaker p
  again number seq (Some Service) speaker p = p
  again number seq (Some Container) speaker p = p
  again number seq (Some Waiting) speaker p = p
  again number seq (Some (Acked good)) speaker p = p
  again number seq None speaker p = p

  replies : (numbers : List ℕ) (speaker : Speaker S) → P speaker
      → P (fold (λ speaker other. says_reply (kept_numbered speaker.session.replies other) speaker) speaker numbers)
  replies [] speaker p = p
  replies (number ∷ numbers) speaker p =
      let found = kept_numbered speaker.session.replies number in
      replies numbers (says_reply found speaker) (reply found speaker p)

  resent : (number : ℕ) (numbers : List ℕ) (speaker : Speaker S) → P speaker → P (sends_again setting number numbers speaker)
  resent number numbers speaker p =
      cond_both (list_all (λ other. is_some (kept_numbered speaker.session.replies other)) numbers) _ _ P
      (λ is. replies numbers speaker p) (λ is. same speaker (tells_states setting number numbers speaker) refl refl p)

  in_place : (call : ℕ) (request content : List ℕ) (speaker : Speaker S) → P speaker → P (answers_in_place setting call request content speaker)
  in_place call request content speaker p = same speaker (answers_in_place setting call request content speaker) refl refl p

  broken : (number constructor : ℕ) (body : List ℕ) (speaker : Speaker S) → P speaker → P (answers_broken setting number constructor body speaker)
  broken number constructor body speaker p =
      cond_both (eqb constructor rpc_drop_answer.number) _ _ P
      (λ is. same speaker _ refl refl p) (λ is. same speaker _ refl refl p)

  becomes : (job : Job) (content : Option (List ℕ)) (speaker : Speaker S) → P speaker → Q (becomes_job setting job content speaker)
  becomes job (Some content) speaker p = less (becomes_job setting job (Some content) speaker) (in_place job.number job.request content speaker p)
  becomes job None speaker p = record { named = p.named; holds = stays.pushed job speaker.jobs p.holds }

  call : (number : ℕ) (numbers request : List ℕ) (speaker : Speaker S) → P speaker → Q (accepts_call setting number numbers request speaker)
  call number numbers request speaker p =
      let job = job_of setting number numbers request speaker in
      becomes job (refusal setting job speaker) speaker p

  drop_by : (number : ℕ) (job : Option Job) (found : Option Reply) (speaker : Speaker S) → P speaker → P (drops_by setting number job found speaker)
  drop_by number (Some job) found speaker p =
      let own : Speaker S = answers setting number dropped_running speaker in
      let left = without_first (is_call job.key job.session job.number) own.jobs in
      let rest : Speaker S = record own { jobs = left } in
      let fails : P rest = record { named = p.named; holds = stays.out (is_call job.key job.session job.number) speaker.jobs p.holds } in
      told job.number (answers_in_place setting job.number job.request dropped_running rest)
      (in_place job.number job.request dropped_running rest fails)
  drop_by number None (Some found) speaker p = same speaker (drops_by setting number None (Some found) speaker) refl refl p
  drop_by number None None speaker p = same speaker (drops_by setting number None None speaker) refl refl p

  drop : (number called : ℕ) (speaker : Speaker S) → P speaker → P (drops_answer setting number called speaker)
  drop number called speaker p =
      drop_by number (first_job (is_call speaker.session.key speaker.session.number called) speaker.jobs)
      (find (λ reply. is_kept reply && (reply.call == called)) speaker.session.replies) speaker p

  bind_by : (number : ℕ) (binding : Option Binding) (speaker : Speaker S) → P speaker → P (binds_by setting number binding speaker)
  bind_by number None speaker p = same speaker (binds_by setting number None speaker) refl refl p
  bind_by number (Some binding) speaker p = same speaker (binds_by setting number (Some binding) speaker) refl refl p

  bind : (binding : BindingCall) (speaker : Speaker S) → P speaker → P (binds setting binding speaker)
  bind binding speaker p = bind_by binding.number (setting.bound_by setting.now (name_of speaker.session) binding) speaker p

  accept : (number : ℕ) (item : Item) (body : List ℕ) (speaker : Speaker S) → P speaker → Q (accepts setting number item body speaker)
  accept number Packed body speaker p = less (accepts setting number Packed body speaker) (same speaker (accepts setting number Packed body speaker) refl refl p)
  accept number (Broken constructor) body speaker p = less (answers_broken setting number constructor body speaker) (broken number constructor body speaker p)
  accept number (AuthBindTempAuthKey perm nonce expires message) body speaker p =
      let call : BindingCall = record { number = number; perm = perm; nonce = nonce; expires = expires; message = message } in
      less (binds setting call speaker) (bind call speaker p)
  accept number Call body speaker p = call number [] body speaker p
  accept number (InvokeAfterMsg other query) body speaker p = call number (other ∷ []) query speaker p
  accept number (InvokeAfterMsgs numbers query) body speaker p = call number numbers query speaker p
  accept number (RpcDropAnswer called) body speaker p = less (drops_answer setting number called speaker) (drop number called speaker p)
  accept number (Ping ping) body speaker p =
      less (accepts setting number (Ping ping) body speaker) (same speaker (accepts setting number (Ping ping) body speaker) refl refl p)
  accept number (PingDelayDisconnect ping delay) body speaker p =
      less (accepts setting number (PingDelayDisconnect ping delay) body speaker) (same speaker (accepts setting number (PingDelayDisconnect ping delay) body speaker) refl refl p)
  accept number (GetFutureSalts count) body speaker p =
      less (accepts setting number (GetFutureSalts count) body speaker) (same speaker (accepts setting number (GetFutureSalts count) body speaker) refl refl p)
  accept number (MsgsAck numbers) body speaker p =
      less (accepts setting number (MsgsAck numbers) body speaker) (same speaker (accepts setting number (MsgsAck numbers) body speaker) refl refl p)
  accept number (MsgsStateReq numbers) body speaker p =
      less (accepts setting number (MsgsStateReq numbers) body speaker) (same speaker (accepts setting number (MsgsStateReq numbers) body speaker) refl refl p)
  accept number (MsgResendReq numbers) body speaker p = less (sends_again setting number numbers speaker) (resent number numbers speaker p)
  accept number _ body speaker p = less speaker p

  pub owes-jobs : (number seq : ℕ) (verdict : Verdict) (body : List ℕ) (speaker : Speaker S) → P speaker → Q (owes setting number seq verdict body speaker)
  owes-jobs number seq (Noticed code) body speaker p = less (notices setting number seq code speaker) (notice number seq code speaker p)
  owes-jobs number seq (Again mark) body speaker p =
      less (came_again setting number seq (mark_in speaker.session number) speaker) (again number seq (mark_in speaker.session number) speaker p)
  owes-jobs number seq (Accepted item) body speaker p = accept number item body speaker p

-- ---- the jobs that have failed are the session's own, as before

abbrev IsOwn : Name → Unfinished → Type 0
IsOwn name one = one.failed ≡ true → is_of name.key name.session one ≡ true

-- the session has this name, and all jobs that have failed are its own
pub record FailsAlone (S : Type 0) (name : Name) (speaker : Speaker S) : Type 0 where
  pub named : name_of speaker.session ≡ name
  pub own : AreOwnFailures name speaker.jobs

told-own : (name : Name) (session : Session) (outlook : Outlook) (number : ℕ) (jobs : Queue) → name_of session ≡ name → AreOwnFailures name jobs
    → AreOwnFailures name (told_of outlook session number jobs)
told-own name session outlook number jobs named own =
    let N : Name → Type 0 = λ name. AreOwnFailures name jobs in
    let M : Name → Type 0 = λ name. AreOwnFailures name (told_of outlook session number jobs) in
    subst M named (outlook-own session outlook number jobs (subst N (sym named) own))

own-stays : (name : Name) → StaysOfJobs name (AreOwnFailures name) (AreOwnFailures name)
own-stays name = record {
  told = told-own name;
  out = first-out (IsOwn name);
  pushed = λ job jobs own. All-push (IsOwn name) jobs (record { job = job; failed = false }) own (λ failed. absurd (false≢true failed));
  weaker = λ jobs own. own;
}

pub owes-alone : {S : Type 0} (setting : Setting S) (name : Name) (number seq : ℕ) (verdict : Verdict) (body : List ℕ) (speaker : Speaker S) → FailsAlone S name speaker
    → FailsAlone S name (owes setting number seq verdict body speaker)
owes-alone {S} setting name number seq verdict body speaker alone =
    let own = AreOwnFailures name in
    let has = owes-jobs {S = S} setting name own own (own-stays name) number seq verdict body speaker (record { named = alone.named; holds = alone.own }) in
    record { named = has.named; own = has.holds }

pub tells-alone : {S : Type 0} (setting : Setting S) (name : Name) (number : ℕ) (speaker : Speaker S) → FailsAlone S name speaker → FailsAlone S name (tells_of number speaker)
tells-alone {S} setting name number speaker alone =
    record { named = alone.named; own = told-own name speaker.session (outlook speaker.session speaker.jobs number) number speaker.jobs alone.named alone.own }

-- ---- one job more at most isn't ready

blocked-out : (name : Name) (test : Unfinished → Bool) (jobs : Queue) → blocked_of name (without_first test jobs) ≤ blocked_of name jobs
blocked-out name test [] = omega arith
blocked-out name test (one ∷ jobs) =
    let left = without_first test jobs in
    let rest = blocked-out name test jobs in
    elim (cases_Bool (test one)) [
      | inl is ↦
          let w : blocked_of name (without_first test (one ∷ jobs)) ≡ blocked_of name jobs = ap (blocked_of name) (cond-true (test one) jobs (one ∷ left) is) in
          omega arith
      | inr not_so ↦
          let w : blocked_of name (without_first test (one ∷ jobs)) ≡ blocked_of name (one ∷ left) = ap (blocked_of name) (cond-false (test one) jobs (one ∷ left) not_so) in
          omega arith
    ]

blocked-pushed : (name : Name) (job : Job) (jobs : Queue) → blocked_of name (accepted job jobs) ≤ blocked_of name jobs + 1
blocked-pushed name job [] = let most = one-at_most (is_blocked name (record { job = job; failed = false })) in omega arith
blocked-pushed name job (one ∷ jobs) = let rest = blocked-pushed name job jobs in omega arith

blocked-told : (name : Name) (most : ℕ) (session : Session) (outlook : Outlook) (number : ℕ) (jobs : Queue) → name_of session ≡ name → blocked_of name jobs ≤ most
    → blocked_of name (told_of outlook session number jobs) ≤ most
blocked-told name most session outlook number jobs named few =
    let B : Name → Type 0 = λ name. blocked_of name (told_of outlook session number jobs) ≤ blocked_of name jobs in
    let fewer = subst B named (told-blocked session outlook number jobs) in
    omega arith

pub owes-blocked : {S : Type 0} (setting : Setting S) (name : Name) (number seq : ℕ) (verdict : Verdict) (body : List ℕ) (speaker : Speaker S) → name_of speaker.session ≡ name
    → blocked_of name (owes setting number seq verdict body speaker).jobs ≤ blocked_of name speaker.jobs + 1
owes-blocked {S} setting name number seq verdict body speaker named =
    let most = blocked_of name speaker.jobs in
    let K : Queue → Type 0 = λ jobs. blocked_of name jobs ≤ most in
    let L : Queue → Type 0 = λ jobs. blocked_of name jobs ≤ most + 1 in
    let stays : StaysOfJobs name K L = record {
      told = blocked-told name most;
      out = λ test jobs few. let fewer = blocked-out name test jobs in omega arith;
      pushed = λ job jobs few. let more = blocked-pushed name job jobs in omega arith;
      weaker = λ jobs few. omega arith;
    } in
    let has = owes-jobs {S = S} setting name K L stays number seq verdict body speaker (record { named = named; holds = omega arith }) in
    has.holds
