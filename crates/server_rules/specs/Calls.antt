-- Accepted calls: those that become jobs, and those that are answered in place
-- (core.telegram.org/api/invoking, "Saving query order"; core.telegram.org/mtproto/pfs; core.telegram.org/mtproto/service_messages,
-- "Cancellation of an RPC Query").
use Rattle.std.specs.Prelude.{ℕ, ◌+◌, ◌==◌, ◌&&◌, ◌||◌, not, nat_lt, nat_le, Bool, true, false, if◌then◌else◌, Option, Some, None, List, [], ◌∷◌, ◌++◌, length, map}
use Rattle.std.specs.List.{filter, find, list_any}
use Rattle.std.specs.Option.{option_or}
use Rattle.tl_codec.specs.Spelling.{Truth, spelling}
use Rattle.service_tl.specs.declared.item.Item.TheVariants.{RpcAnswerUnknown, RpcAnswerDroppedRunning, RpcAnswerDropped}
use Rattle.service_tl.specs.Items.{spelling_of}
use Rattle.service_tl.specs.Schema.{service_numbers, gzip_packed}
use Rattle.service_tl.specs.Results.{constructor_of}
use Rattle.waits.specs.Limits.{most_jobs, most_job_bytes}
use Rattle.waits.specs.declared.job.Job.{Job}
use Rattle.waits.specs.Jobs.{accepted, job_count, job_bytes, load_of, first_job, without_first, is_call}
use Rattle.server_rules.specs.Server.{Reply, Binding, name_of, is_kept, kept_of}
use Rattle.server_rules.specs.Event.{Setting, Speaker, BindingCall}
use Rattle.server_rules.specs.Speaking.{answers, answers_in_place, dropped, auth_key_perm_empty, packed_body_refused, bad_body, jobs_full, msg_wait_failed, encrypted_message_invalid}
use Rattle.server_rules.specs.Waiting.{Outlook, Over, InVain, GoesOn, outlook, tells_of}

-- ---- calls for the service

-- each number of a list once, where it comes first
abbrev pub each_once : List ℕ → List ℕ
each_once [] = []
each_once (number ∷ numbers) = number ∷ filter (λ other. not (other == number)) (each_once numbers)

-- the key is bound to a permanent one now
abbrev pub is_bound : ℕ → ℕ → List Binding → Bool
is_bound now key bindings = list_any (λ binding. (binding.temp == key) && nat_lt now binding.expires) bindings

-- the key is a temporary one that is bound to none now
abbrev pub is_unbound : {S : Type 0} → Setting S → Speaker S → Bool
is_unbound setting speaker =
    setting.is_temporary speaker.session.key && not (is_bound setting.now speaker.session.key speaker.bindings)

-- a query that a service constructor begins isn't one for the service
abbrev pub query_refusal : Option ℕ → Option (List ℕ)
query_refusal None = None
query_refusal (Some number) =
    if number == gzip_packed then Some packed_body_refused
    else if list_any (λ service. number == service) service_numbers then Some bad_body
    else None

-- the waiting for a number is over already, or is in vain
abbrev pub is_over : Outlook → Bool
is_over Over = true
is_over InVain = false
is_over GoesOn = false

abbrev pub is_in_vain : Outlook → Bool
is_in_vain InVain = true
is_in_vain Over = false
is_in_vain GoesOn = false

-- the job that a call of this number becomes, which waits for those of these numbers that aren't answered well already
abbrev pub job_of : {S : Type 0} → Setting S → ℕ → List ℕ → List ℕ → Speaker S → Job
job_of setting number numbers request speaker =
    record {
      key = speaker.session.key;
      session = speaker.session.number;
      number = number;
      since = setting.now;
      after = filter (λ other. not (is_over (outlook speaker.session speaker.jobs other))) (each_once numbers);
      request = request;
    }

-- the session has as many jobs as it may, or too many bytes with this one
abbrev pub is_full : {S : Type 0} → Job → Speaker S → Bool
is_full job speaker =
    nat_le most_jobs (job_count job.key job.session speaker.jobs)
    || nat_lt most_job_bytes (job_bytes job.key job.session speaker.jobs + load_of job)

-- a number that it waits for will never be a call that is answered well
abbrev pub has_failed_already : {S : Type 0} → Job → Speaker S → Bool
has_failed_already job speaker = list_any (λ other. is_in_vain (outlook speaker.session speaker.jobs other)) job.after

abbrev pub if_so : Bool → List ℕ → Option (List ℕ)
if_so test content = if test then Some content else None

-- the answer in place of a job, where there is one: the first of these
abbrev pub refusal : {S : Type 0} → Setting S → Job → Speaker S → Option (List ℕ)
refusal setting job speaker =
    option_or (if_so (is_unbound setting speaker) auth_key_perm_empty)
    (option_or (query_refusal (constructor_of job.request))
    (option_or (if_so (is_full job speaker) jobs_full)
    (if_so (has_failed_already job speaker) msg_wait_failed)))

abbrev pub becomes_job : {S : Type 0} → Setting S → Job → Option (List ℕ) → Speaker S → Speaker S
becomes_job setting job (Some content) speaker = answers_in_place setting job.number job.request content speaker
becomes_job setting job None speaker = record speaker { jobs = accepted job speaker.jobs }

-- a call that waits for these numbers is accepted
abbrev pub accepts_call : {S : Type 0} → Setting S → ℕ → List ℕ → List ℕ → Speaker S → Speaker S
accepts_call setting number numbers request speaker =
    let job = job_of setting number numbers request speaker in
    becomes_job setting job (refusal setting job speaker) speaker

-- ---- rpc_drop_answer

abbrev pub dropped_running : List ℕ
dropped_running = spelling_of RpcAnswerDroppedRunning

-- an unfinished call is taken out and answered, after the answer to the request to drop it
abbrev pub drops_running : {S : Type 0} → Setting S → ℕ → Job → Speaker S → Speaker S
drops_running setting number job speaker =
    let own = answers setting number dropped_running speaker in
    let rest = record own { jobs = without_first (is_call job.key job.session job.number) own.jobs } in
    tells_of job.number (answers_in_place setting job.number job.request dropped_running rest)

-- a kept reply is dropped, and then told of
abbrev pub drops_kept : {S : Type 0} → Setting S → ℕ → Reply → Speaker S → Speaker S
drops_kept setting number reply speaker =
    let others = map (λ other. if other.number == reply.number then dropped other else other) speaker.session.replies in
    answers setting number (spelling_of (RpcAnswerDropped reply.number reply.seq (length (kept_of reply).body)))
    (record speaker { session = record speaker.session { replies = others } })

abbrev pub drops_by : {S : Type 0} → Setting S → ℕ → Option Job → Option Reply → Speaker S → Speaker S
drops_by setting number (Some job) reply speaker = drops_running setting number job speaker
drops_by setting number None (Some reply) speaker = drops_kept setting number reply speaker
drops_by setting number None None speaker = answers setting number (spelling_of RpcAnswerUnknown) speaker

-- the message of this number asks to drop the answer to that call
abbrev pub drops_answer : {S : Type 0} → Setting S → ℕ → ℕ → Speaker S → Speaker S
drops_answer setting number call speaker =
    drops_by setting number
    (first_job (is_call speaker.session.key speaker.session.number call) speaker.jobs)
    (find (λ reply. is_kept reply && (reply.call == call)) speaker.session.replies)
    speaker

-- ---- auth.bindTempAuthKey

abbrev pub bool_true_content : List ℕ
bool_true_content = spelling Truth true

-- a binding takes the place of the one that its temporary key had
abbrev pub with_binding : Binding → List Binding → List Binding
with_binding binding bindings = filter (λ other. not (other.temp == binding.temp)) bindings ++ binding ∷ []

abbrev pub binds_by : {S : Type 0} → Setting S → ℕ → Option Binding → Speaker S → Speaker S
binds_by setting number None speaker = answers setting number encrypted_message_invalid speaker
binds_by setting number (Some binding) speaker =
    answers setting number bool_true_content (record speaker { bindings = with_binding binding speaker.bindings })

abbrev pub binds : {S : Type 0} → Setting S → BindingCall → Speaker S → Speaker S
binds setting call speaker = binds_by setting call.number (setting.bound_by setting.now (name_of speaker.session) call) speaker
