-- What a session does to jobs and entries, row by row.
use Rattle.std.proofs.Common.{◌≡◌, ◌≢◌, ◌∙◌, ℕ, ◌+◌, eqb, Bool, true, false, cond, Option, Some, None, List, [], ◌∷◌, ◌++◌, ap, sym, subst, refl, arith, inl, inr}
use Rattle.std.specs.Prelude.{fold, is_some, ◌&&◌, ◌==◌}
use Rattle.std.specs.List.{find, list_all}
use Rattle.std.proofs.lemmas.Bool.{cases_Bool, cond_both, cond-true, cond-false, and_parts, eqb-true}
use Rattle.service_tl.specs.declared.item.Item.{Item}
use Rattle.service_tl.specs.declared.item.Item.TheVariants.{RpcDropAnswer, GetFutureSalts, Ping, PingDelayDisconnect, MsgsAck, MsgsStateReq, MsgResendReq, InvokeAfterMsg, InvokeAfterMsgs, AuthBindTempAuthKey, Packed, Call, Broken}
use Rattle.service_tl.specs.Schema.{rpc_drop_answer}
use Rattle.id_window.specs.declared.mark.Mark.{Mark}
use Rattle.id_window.specs.declared.mark.Mark.TheVariants.{Noticed as MarkNoticed, Service, Container, Waiting, Replied, Acked, Dropped}
use Rattle.inbox.specs.Verdicts.{Verdict, Accepted, Again, Noticed}
use Rattle.waits.specs.declared.job.Job.{Job}
use Rattle.waits.specs.declared.job.Unfinished.{Unfinished}
use Rattle.waits.specs.Jobs.{Queue, accepted, is_call, first_job, without_first, one_if}
use Rattle.server_rules.specs.Server.{Name, Reply, Binding, is_kept, name_of, mark_in, reply_to}
use Rattle.server_rules.specs.Event.{Setting, Speaker, BindingCall, Entry}
use Rattle.server_rules.specs.Speaking.{says_again, has_said, answers, records, answers_in_place, packed_body_refused, bad_body}
use Rattle.server_rules.specs.Waiting.{gives_up, tells_of, outlook}
use Rattle.server_rules.specs.Calls.{accepts_call, becomes_job, refusal, job_of, drops_running, drops_by, drops_answer, dropped_running, binds, binds_by}
use Rattle.server_rules.specs.Rows.{notices, came_again, says_reply, sends_again, kept_numbered, answers_broken, accepts, owes}
use Rattle.server_rules.specs.Answer.{finishes}
use Rattle.law_server.specs.Lives.{request_of}
use Rattle.law_server.proofs.LivedNames.{named, some-same, none-some}
use Rattle.law_server.proofs.Counting.{Test, count, count-append, jobs_at, entries_at, is_by, job_passes, entry_passes, asks, by-own, by-other, told-at, first-at, found_at}

-- how much an account rises for each test
abbrev pub Rise : Type 0
Rise = Test → ℕ

abbrev pub none : Rise
none test = 0

abbrev pub asking : ℕ → Option (List ℕ) → Rise
asking number request test = one_if (asks test number request)

-- between these two the jobs and entries of the session that speaks rose by so much, and other sessions have the same jobs
pub record Account (S : Type 0) (rise : Rise) (before after : Speaker S) : Type 0 where
  pub own : (test : Test) → jobs_at (name_of before.session) test after.jobs + entries_at (name_of before.session) test after.entries
      ≡ jobs_at (name_of before.session) test before.jobs + entries_at (name_of before.session) test before.entries + rise test
  pub others : (other : Name) → other ≢ name_of before.session → (test : Test) → jobs_at other test after.jobs ≡ jobs_at other test before.jobs

-- neither jobs nor entries change
abbrev pub Still : (S : Type 0) → Speaker S → Speaker S → Type 0
Still S before after = (after.jobs ≡ before.jobs) × (after.entries ≡ before.entries)

pub still-account : {S : Type 0} (before after : Speaker S) → Still S before after → Account S none before after
still-account before after still = record {
  own = λ test.
      let jobs = ap (jobs_at (name_of before.session) test) still.0 in
      let entries = ap (entries_at (name_of before.session) test) still.1 in omega arith;
  others = λ other apart test. ap (jobs_at other test) still.0;
}

-- ---- rows that change neither

notices-still : {S : Type 0} (setting : Setting S) (number seq code : ℕ) (speaker : Speaker S) → Still S speaker (notices setting number seq code speaker)
notices-still {S} setting number seq code speaker = cond_both (eqb code 48) _ _ (Still S speaker) (λ is. (refl, refl)) (λ is. (refl, refl))

again-still : {S : Type 0} (reply : Reply) (speaker : Speaker S) → Still S speaker (says_again reply speaker)
again-still {S} reply speaker = cond_both (has_said reply.number speaker) speaker _ (Still S speaker) (λ is. (refl, refl)) (λ is. (refl, refl))

reply-still : {S : Type 0} (reply : Option Reply) (speaker : Speaker S) → Still S speaker (says_reply reply speaker)
reply-still None speaker = (refl, refl)
reply-still (Some reply) speaker = again-still reply speaker

came-still : {S : Type 0} (setting : Setting S) (number seq : ℕ) (mark : Option Mark) (speaker : Speaker S) → Still S speaker (came_again setting number seq mark speaker)
came-still setting number seq (Some (MarkNoticed code)) speaker = notices-still setting number seq code speaker
came-still setting number seq (Some (Replied good)) speaker = reply-still (reply_to number speaker.session.replies) speaker
came-still setting number seq (Some (Dropped good)) speaker = notices-still setting number seq 20 speaker
came-still setting number seq (Some Service) speaker = (refl, refl)
came-still setting number seq (Some Container) speaker = (refl, refl)
came-still setting number seq (Some Waiting) speaker = (refl, refl)
came-still setting number seq (Some (Acked good)) speaker = (refl, refl)
came-still setting number seq None speaker = (refl, refl)

replies-still : {S : Type 0} (numbers : List ℕ) (speaker : Speaker S)
    → Still S speaker (fold (λ speaker other. says_reply (kept_numbered speaker.session.replies other) speaker) speaker numbers)
replies-still [] speaker = (refl, refl)
replies-still (number ∷ numbers) speaker =
    let reply = kept_numbered speaker.session.replies number in
    let first = reply-still reply speaker in
    let rest = replies-still numbers (says_reply reply speaker) in
    (rest.0 ∙ first.0, rest.1 ∙ first.1)

sends_again-still : {S : Type 0} (setting : Setting S) (number : ℕ) (numbers : List ℕ) (speaker : Speaker S) → Still S speaker (sends_again setting number numbers speaker)
sends_again-still {S} setting number numbers speaker =
    cond_both (list_all (λ other. is_some (kept_numbered speaker.session.replies other)) numbers) _ _ (Still S speaker)
    (λ is. replies-still numbers speaker) (λ is. (refl, refl))

binds_by-still : {S : Type 0} (setting : Setting S) (number : ℕ) (binding : Option Binding) (speaker : Speaker S) → Still S speaker (binds_by setting number binding speaker)
binds_by-still setting number None speaker = (refl, refl)
binds_by-still setting number (Some binding) speaker = (refl, refl)

-- ---- an entry more, and a job more

-- the account of one session's further entry
entered-at : (key session : ℕ) (test : Test) (entries : List Entry) (entry : Entry) → entry.key ≡ key → entry.session ≡ session
    → entries_at (record { key = key; session = session }) test (entries ++ entry ∷ [])
    ≡ entries_at (record { key = key; session = session }) test entries + one_if (test entry.number entry.request)
entered-at key session test entries entry of_key of_session =
    let name : Name = record { key = key; session = session } in
    let own : is_by name entry.key entry.session ≡ true =
    ap (λ (k : ℕ). is_by name k entry.session) of_key ∙ (ap (is_by name key) of_session ∙ by-own key session) in
    let same : one_if (entry_passes name test entry) ≡ one_if (test entry.number entry.request) = ap (λ (is : Bool). one_if (is && test entry.number entry.request)) own in
    let all = count-append (entry_passes name test) entries (entry ∷ []) in omega arith

records-account : {S : Type 0} (setting : Setting S) (ran : Bool) (number : ℕ) (request content : List ℕ) (speaker : Speaker S)
    → Account S (asking number (Some request)) speaker (records ran number request content (answers setting number content speaker))
records-account setting ran number request content speaker = record {
  own = λ test.
      let entry : Entry =
      record { key = speaker.session.key; session = speaker.session.number; number = number; request = request; reply = content; ran = ran } in
      let more = entered-at speaker.session.key speaker.session.number test speaker.entries entry refl refl in omega arith;
  others = λ other apart test. refl;
}

in_place-account : {S : Type 0} (setting : Setting S) (number : ℕ) (request content : List ℕ) (speaker : Speaker S)
    → Account S (asking number (Some request)) speaker (answers_in_place setting number request content speaker)
in_place-account setting number request content speaker = records-account setting false number request content speaker

-- what jobs are told changes no account
tells-account : {S : Type 0} (rise : Rise) (number : ℕ) (before after : Speaker S) → Account S rise before after → Account S rise before (tells_of number after)
tells-account rise number before after account =
    let look = outlook after.session after.jobs number in
    record {
      own = λ test.
          let told = told-at (name_of before.session) test look after.session number after.jobs in
          let was = account.own test in omega arith;
      others = λ other apart test. told-at other test look after.session number after.jobs ∙ account.others other apart test;
    }

pub gives_up-account : {S : Type 0} (setting : Setting S) (content : List ℕ) (job : Job) (speaker : Speaker S)
    → Account S (asking job.number (Some job.request)) speaker (gives_up setting content job speaker)
gives_up-account setting content job speaker =
    tells-account (asking job.number (Some job.request)) job.number speaker (answers_in_place setting job.number job.request content speaker)
    (in_place-account setting job.number job.request content speaker)

pub finishes-account : {S : Type 0} (setting : Setting S) (job : Job) (reply : List ℕ) (speaker : Speaker S)
    → Account S (asking job.number (Some job.request)) speaker (finishes setting job reply speaker)
finishes-account setting job reply speaker =
    tells-account (asking job.number (Some job.request)) job.number speaker (records true job.number job.request reply (answers setting job.number reply speaker))
    (records-account setting true job.number job.request reply speaker)

pub told-account : {S : Type 0} (number : ℕ) (speaker : Speaker S) → Account S none speaker (tells_of number speaker)
told-account number speaker = tells-account none number speaker speaker (still-account speaker speaker (refl, refl))

pub job-account : {S : Type 0} (job : Job) (speaker : Speaker S) → job.key ≡ speaker.session.key → job.session ≡ speaker.session.number
    → Account S (asking job.number (Some job.request)) speaker (record speaker { jobs = accepted job speaker.jobs })
job-account job speaker of_key of_session =
    let name = name_of speaker.session in
    let one : Unfinished = record { job = job; failed = false } in
    record {
      own = λ test.
          let own : is_by name job.key job.session ≡ true =
          ap (λ (k : ℕ). is_by name k job.session) of_key ∙ (ap (is_by name speaker.session.key) of_session ∙ by-own speaker.session.key speaker.session.number) in
          let same : one_if (job_passes name test job) ≡ one_if (test job.number job.request) = ap (λ (is : Bool). one_if (is && test job.number job.request)) own in
          let all = count-append (λ (one : Unfinished). job_passes name test one.job) speaker.jobs (one ∷ []) in omega arith;
      others = λ other apart test.
          let off : is_by other job.key job.session ≡ false =
          by-other other job.key job.session
          (λ same. apart (same ∙ (ap (λ (k : ℕ). named k job.session) of_key ∙ ap (named speaker.session.key) of_session))) in
          let same : one_if (job_passes other test job) ≡ 0 = ap (λ (is : Bool). one_if (is && test job.number job.request)) off in
          let all = count-append (λ (one : Unfinished). job_passes other test one.job) speaker.jobs (one ∷ []) in omega arith;
    }

-- ---- rows

becomes-account : {S : Type 0} (setting : Setting S) (job : Job) (content : Option (List ℕ)) (speaker : Speaker S)
    → job.key ≡ speaker.session.key → job.session ≡ speaker.session.number
    → Account S (asking job.number (Some job.request)) speaker (becomes_job setting job content speaker)
becomes-account setting job (Some content) speaker of_key of_session = in_place-account setting job.number job.request content speaker
becomes-account setting job None speaker of_key of_session = job-account job speaker of_key of_session

call-account : {S : Type 0} (setting : Setting S) (number : ℕ) (numbers request : List ℕ) (speaker : Speaker S)
    → Account S (asking number (Some request)) speaker (accepts_call setting number numbers request speaker)
call-account setting number numbers request speaker =
    let job = job_of setting number numbers request speaker in
    becomes-account setting job (refusal setting job speaker) speaker refl refl

broken-account : {S : Type 0} (setting : Setting S) (number constructor : ℕ) (body : List ℕ) (speaker : Speaker S)
    → Account S (asking number (request_of (Broken constructor) body)) speaker (answers_broken setting number constructor body speaker)
broken-account {S} setting number constructor body speaker =
    let is_drop = eqb constructor rpc_drop_answer.number in
    let quiet = answers setting number bad_body speaker in
    let entered = answers_in_place setting number body bad_body speaker in
    elim (cases_Bool is_drop) [
      | inl is ↦
          let P : Bool → Type 0 = λ drop. Account S (asking number (cond drop None (Some body))) speaker (cond drop quiet entered) in
          subst P (sym is) (still-account speaker quiet (refl, refl))
      | inr fails ↦
          let P : Bool → Type 0 = λ drop. Account S (asking number (cond drop None (Some body))) speaker (cond drop quiet entered) in
          subst P (sym fails) (in_place-account setting number body bad_body speaker)
    ]

-- ---- rpc_drop_answer

first-is : (key session number : ℕ) (jobs : Queue) (job : Job) → first_job (is_call key session number) jobs ≡ Some job
    → (job.key ≡ key) × (job.session ≡ session) × (job.number ≡ number)
first-is key session number [] job is = absurd (none-some job is)
first-is key session number (one ∷ jobs) job is =
    elim (cases_Bool (is_call key session number one)) [
      | inl holds ↦
          let same : one.job ≡ job = some-same one.job job (sym (cond-true (is_call key session number one) (Some one.job) (first_job (is_call key session number) jobs) holds) ∙ is) in
          let parts = and_parts _ _ holds in
          let names = and_parts _ _ parts.0 in (
            ap (λ (job : Job). job.key) (sym same) ∙ eqb-true one.job.key key names.0,
            ap (λ (job : Job). job.session) (sym same) ∙ eqb-true one.job.session session names.1,
            ap (λ (job : Job). job.number) (sym same) ∙ eqb-true one.job.number number parts.1,
          )
      | inr fails ↦
          first-is key session number jobs job (sym (cond-false (is_call key session number one) (Some one.job) (first_job (is_call key session number) jobs) fails) ∙ is)
    ]

-- the first job by its own name and number is the one that was found
first-again : (key session number : ℕ) (jobs : Queue) (job : Job) → first_job (is_call key session number) jobs ≡ Some job
    → first_job (is_call job.key job.session job.number) jobs ≡ Some job
first-again key session number jobs job is =
    let are = first-is key session number jobs job is in
    ap (λ (k : ℕ). first_job (is_call k job.session job.number) jobs) are.0
    ∙ (ap (λ (s : ℕ). first_job (is_call key s job.number) jobs) are.1
    ∙ (ap (λ (n : ℕ). first_job (is_call key session n) jobs) are.2 ∙ is))

running-account : {S : Type 0} (setting : Setting S) (number : ℕ) (job : Job) (speaker : Speaker S)
    → first_job (is_call job.key job.session job.number) speaker.jobs ≡ Some job → job.key ≡ speaker.session.key → job.session ≡ speaker.session.number
    → Account S none speaker (drops_running setting number job speaker)
running-account {S} setting number job speaker first of_key of_session =
    let name = name_of speaker.session in
    let own = answers setting number dropped_running speaker in
    let rest : Speaker S = record own { jobs = without_first (is_call job.key job.session job.number) own.jobs } in
    let entered = in_place-account setting job.number job.request dropped_running rest in
    let same : is_by name job.key job.session ≡ true =
    ap (λ (k : ℕ). is_by name k job.session) of_key ∙ (ap (is_by name speaker.session.key) of_session ∙ by-own speaker.session.key speaker.session.number) in
    tells-account none job.number speaker (answers_in_place setting job.number job.request dropped_running rest) (record {
      own = λ test.
          let taken = first-at name test (is_call job.key job.session job.number) speaker.jobs in
          let found : found_at name test (first_job (is_call job.key job.session job.number) speaker.jobs) ≡ one_if (test job.number job.request) =
          ap (found_at name test) first ∙ ap (λ (is : Bool). one_if (is && test job.number job.request)) same in
          let more = entered.own test in omega arith;
      others = λ other apart test.
          let off : is_by other job.key job.session ≡ false =
          by-other other job.key job.session
          (λ same. apart (same ∙ (ap (λ (k : ℕ). named k job.session) of_key ∙ ap (named speaker.session.key) of_session))) in
          let taken = first-at other test (is_call job.key job.session job.number) speaker.jobs in
          let found : found_at other test (first_job (is_call job.key job.session job.number) speaker.jobs) ≡ 0 =
          ap (found_at other test) first ∙ ap (λ (is : Bool). one_if (is && test job.number job.request)) off in
          omega arith;
    })

drops_by-account : {S : Type 0} (setting : Setting S) (number call : ℕ) (job : Option Job) (reply : Option Reply) (speaker : Speaker S)
    → first_job (is_call speaker.session.key speaker.session.number call) speaker.jobs ≡ job
    → Account S none speaker (drops_by setting number job reply speaker)
drops_by-account setting number call (Some job) reply speaker is =
    let are = first-is speaker.session.key speaker.session.number call speaker.jobs job is in
    running-account setting number job speaker (first-again speaker.session.key speaker.session.number call speaker.jobs job is) are.0 are.1
drops_by-account setting number call None (Some reply) speaker is = still-account speaker (drops_by setting number None (Some reply) speaker) (refl, refl)
drops_by-account setting number call None None speaker is = still-account speaker (drops_by setting number None None speaker) (refl, refl)

drops-account : {S : Type 0} (setting : Setting S) (number call : ℕ) (speaker : Speaker S) → Account S none speaker (drops_answer setting number call speaker)
drops-account setting number call speaker =
    drops_by-account setting number call (first_job (is_call speaker.session.key speaker.session.number call) speaker.jobs)
    (find (λ reply. is_kept reply && (reply.call == call)) speaker.session.replies) speaker refl

-- ---- all rows

binds-account : {S : Type 0} (setting : Setting S) (call : BindingCall) (speaker : Speaker S) → Account S none speaker (binds setting call speaker)
binds-account setting call speaker =
    still-account speaker (binds setting call speaker) (binds_by-still setting call.number (setting.bound_by setting.now (name_of speaker.session) call) speaker)

accepts-account : {S : Type 0} (setting : Setting S) (number : ℕ) (item : Item) (body : List ℕ) (speaker : Speaker S)
    → Account S (asking number (request_of item body)) speaker (accepts setting number item body speaker)
accepts-account setting number Packed body speaker = in_place-account setting number body packed_body_refused speaker
accepts-account setting number (Broken constructor) body speaker = broken-account setting number constructor body speaker
accepts-account setting number (AuthBindTempAuthKey perm nonce expires message) body speaker =
    binds-account setting (record { number = number; perm = perm; nonce = nonce; expires = expires; message = message }) speaker
accepts-account setting number Call body speaker = call-account setting number [] body speaker
accepts-account setting number (InvokeAfterMsg other query) body speaker = call-account setting number (other ∷ []) query speaker
accepts-account setting number (InvokeAfterMsgs numbers query) body speaker = call-account setting number numbers query speaker
accepts-account setting number (RpcDropAnswer call) body speaker = drops-account setting number call speaker
accepts-account setting number (Ping ping) body speaker = still-account speaker (accepts setting number (Ping ping) body speaker) (refl, refl)
accepts-account setting number (PingDelayDisconnect ping delay) body speaker =
    still-account speaker (accepts setting number (PingDelayDisconnect ping delay) body speaker) (refl, refl)
accepts-account setting number (GetFutureSalts count) body speaker = still-account speaker (accepts setting number (GetFutureSalts count) body speaker) (refl, refl)
accepts-account setting number (MsgsAck numbers) body speaker = still-account speaker (accepts setting number (MsgsAck numbers) body speaker) (refl, refl)
accepts-account setting number (MsgsStateReq numbers) body speaker = still-account speaker (accepts setting number (MsgsStateReq numbers) body speaker) (refl, refl)
accepts-account setting number (MsgResendReq numbers) body speaker = still-account speaker (sends_again setting number numbers speaker) (sends_again-still setting number numbers speaker)
accepts-account setting number _ body speaker = still-account speaker speaker (refl, refl)

-- what an accepted message asks, and a message that isn't accepted asks nothing
abbrev pub asked_by : Verdict → List ℕ → Option (List ℕ)
asked_by (Accepted item) body = request_of item body
asked_by _ body = None

pub owes-account : {S : Type 0} (setting : Setting S) (number seq : ℕ) (verdict : Verdict) (body : List ℕ) (speaker : Speaker S)
    → Account S (asking number (asked_by verdict body)) speaker (owes setting number seq verdict body speaker)
owes-account setting number seq (Noticed code) body speaker = still-account speaker (notices setting number seq code speaker) (notices-still setting number seq code speaker)
owes-account setting number seq (Again mark) body speaker =
    let now = mark_in speaker.session number in
    still-account speaker (came_again setting number seq now speaker) (came-still setting number seq now speaker)
owes-account setting number seq (Accepted item) body speaker = accepts-account setting number item body speaker
