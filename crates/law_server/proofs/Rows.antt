-- Each row of what a judgement owes leaves its session in order.
use Rattle.std.proofs.Common.{◌≡◌, ◌∙◌, ℕ, eqb, Bool, true, cond, Option, Some, None, List, [], ◌∷◌, length, ap, sym, subst, refl, inl, inr}
use Rattle.std.specs.Prelude.{map, fold, min, is_some, ◌&&◌, ◌==◌}
use Rattle.std.specs.List.{find, list_all}
use Rattle.std.proofs.lemmas.Bool.{cases_Bool, cond-true, cond-false, cond_both, and_parts, eqb-true}
use Rattle.service_tl.specs.declared.item.Item.{Item}
use Rattle.service_tl.specs.declared.item.Item.TheVariants.{NewSessionCreated, RpcDropAnswer, RpcAnswerUnknown, RpcAnswerDropped, GetFutureSalts, FutureSalts, Ping, PingDelayDisconnect, Pong, MsgsAck, MsgsStateReq, MsgsStateInfo, MsgResendReq, BadMsgNotification, BadServerSalt, InvokeAfterMsg, InvokeAfterMsgs, AuthBindTempAuthKey, Packed, Call, Broken}
use Rattle.service_tl.specs.Items.{spelling_of}
use Rattle.service_tl.specs.Schema.{rpc_drop_answer}
use Rattle.salt_line.specs.Rows.{future_rows_max}
use Rattle.salt_line.specs.Line.{current_salt}
use Rattle.salt_line.specs.Future.{salt_rows}
use Rattle.id_window.specs.declared.mark.Mark.{Mark}
use Rattle.id_window.specs.declared.mark.Mark.TheVariants.{Noticed as MarkNoticed, Service, Container, Waiting, Replied, Acked, Dropped}
use Rattle.id_window.specs.History.{History}
use Rattle.inbox.specs.States.{state_byte}
use Rattle.waits.specs.declared.job.Job.{Job}
use Rattle.waits.specs.declared.job.Unfinished.{Unfinished}
use Rattle.waits.specs.Jobs.{Queue, is_call, first_job, without_first}
use Rattle.server_rules.specs.Server.{Name, Reply, Binding, is_kept, kept_of, marks_of, reply_to, name_of}
use Rattle.server_rules.specs.Event.{Setting, Speaker, BindingCall}
use Rattle.server_rules.specs.Speaking.{says_with_salt, says_it_is_new, needs_salts, dropped, answers, answers_in_place, packed_body_refused, bad_body, encrypted_message_invalid}
use Rattle.server_rules.specs.Waiting.{gives_up}
use Rattle.server_rules.specs.Calls.{accepts_call, becomes_job, refusal, job_of, drops_running, drops_kept, drops_by, drops_answer, dropped_running, binds, binds_by, with_binding, bool_true_content}
use Rattle.server_rules.specs.Rows.{notices, came_again, says_reply, tells_salts, takes_acks, acked_by, tells_states, sends_again, kept_numbered, answers_broken, accepts, acknowledges, future_salt_of}
use Rattle.law_server.specs.Order.{WasCalled, IsSpeaking, jobs_of, is_for_service}
use Rattle.law_server.proofs.Midway.{stamp, midway-fates}
use Rattle.law_server.proofs.Own.{IsTaken, first-taken, of-key, of-session, some-same, none-some}
use Rattle.law_server.proofs.Speaking.{says-keeps, says_again-keeps, answers-keeps, in_place-keeps, leaves-keeps, tells-keeps, job-keeps, taken-speaks}

-- ---- messages alone

pub acknowledges-keeps : {S : Type 0} (setting : Setting S) (numbers : List ℕ) (name : Name) (others : Name → Queue) (past : History) (opened : List ℕ) (speaker : Speaker S)
    → IsSpeaking name others past opened speaker → IsSpeaking name others past opened (acknowledges setting numbers speaker)
acknowledges-keeps setting [] name others past opened speaker s = s
acknowledges-keeps setting (number ∷ numbers) name others past opened speaker s = says-keeps setting (MsgsAck (number ∷ numbers)) name others past opened speaker s

pub with_salt-keeps : {S : Type 0} (setting : Setting S) (item : ℕ → Item) (name : Name) (others : Name → Queue) (past : History) (opened : List ℕ) (speaker : Speaker S)
    → IsSpeaking name others past opened speaker → IsSpeaking name others past opened (says_with_salt setting item speaker)
with_salt-keeps setting item name others past opened speaker s =
    let ready = needs_salts setting 1 speaker in
    says-keeps setting (item (current_salt ready.session.salts setting.now)) name others past opened ready s

pub new-keeps : {S : Type 0} (setting : Setting S) (name : Name) (others : Name → Queue) (past : History) (opened : List ℕ) (speaker : Speaker S)
    → IsSpeaking name others past opened speaker → IsSpeaking name others past opened (says_it_is_new setting speaker)
new-keeps setting name others past opened speaker s =
    with_salt-keeps setting (λ salt. NewSessionCreated speaker.session.first speaker.session.unique salt) name others past opened speaker s

pub notices-keeps : {S : Type 0} (setting : Setting S) (number seq code : ℕ) (name : Name) (others : Name → Queue) (past : History) (opened : List ℕ) (speaker : Speaker S)
    → IsSpeaking name others past opened speaker → IsSpeaking name others past opened (notices setting number seq code speaker)
notices-keeps {S} setting number seq code name others past opened speaker s =
    cond_both (eqb code 48) _ _ (λ (speaker : Speaker S). IsSpeaking name others past opened speaker)
    (λ is. with_salt-keeps setting (λ salt. BadServerSalt number seq 48 salt) name others past opened speaker s)
    (λ is. says-keeps setting (BadMsgNotification number seq code) name others past opened speaker s)

pub says_reply-keeps : {S : Type 0} (reply : Option Reply) (name : Name) (others : Name → Queue) (past : History) (opened : List ℕ) (speaker : Speaker S)
    → IsSpeaking name others past opened speaker → IsSpeaking name others past opened (says_reply reply speaker)
says_reply-keeps None name others past opened speaker s = s
says_reply-keeps (Some reply) name others past opened speaker s = says_again-keeps reply name others past opened speaker s

pub came_again-keeps : {S : Type 0} (setting : Setting S) (number seq : ℕ) (mark : Option Mark) (name : Name) (others : Name → Queue) (past : History) (opened : List ℕ) (speaker : Speaker S)
    → IsSpeaking name others past opened speaker → IsSpeaking name others past opened (came_again setting number seq mark speaker)
came_again-keeps setting number seq (Some (MarkNoticed code)) name others past opened speaker s = notices-keeps setting number seq code name others past opened speaker s
came_again-keeps setting number seq (Some (Replied good)) name others past opened speaker s =
    says_reply-keeps (reply_to number speaker.session.replies) name others past opened speaker s
came_again-keeps setting number seq (Some (Dropped good)) name others past opened speaker s = notices-keeps setting number seq 20 name others past opened speaker s
came_again-keeps setting number seq (Some Service) name others past opened speaker s = s
came_again-keeps setting number seq (Some Container) name others past opened speaker s = s
came_again-keeps setting number seq (Some Waiting) name others past opened speaker s = s
came_again-keeps setting number seq (Some (Acked good)) name others past opened speaker s = s
came_again-keeps setting number seq None name others past opened speaker s = s

pub salts-keeps : {S : Type 0} (setting : Setting S) (number count : ℕ) (name : Name) (others : Name → Queue) (past : History) (opened : List ℕ) (speaker : Speaker S)
    → IsSpeaking name others past opened speaker → IsSpeaking name others past opened (tells_salts setting number count speaker)
salts-keeps setting number count name others past opened speaker s =
    let ready = needs_salts setting count speaker in
    says-keeps setting (FutureSalts number setting.now (map future_salt_of (salt_rows ready.session.salts setting.now count))) name others past opened ready s

pub states-keeps : {S : Type 0} (setting : Setting S) (number : ℕ) (numbers : List ℕ) (name : Name) (others : Name → Queue) (past : History) (opened : List ℕ) (speaker : Speaker S)
    → IsSpeaking name others past opened speaker → IsSpeaking name others past opened (tells_states setting number numbers speaker)
states-keeps setting number numbers name others past opened speaker s =
    let session = speaker.session in
    says-keeps setting (MsgsStateInfo number (map (state_byte session.history (marks_of session.history session.replies)) numbers)) name others past opened speaker s

replies-keep : {S : Type 0} (numbers : List ℕ) (name : Name) (others : Name → Queue) (past : History) (opened : List ℕ) (speaker : Speaker S)
    → IsSpeaking name others past opened speaker
    → IsSpeaking name others past opened (fold (λ speaker other. says_reply (kept_numbered speaker.session.replies other) speaker) speaker numbers)
replies-keep [] name others past opened speaker s = s
replies-keep (number ∷ numbers) name others past opened speaker s =
    let reply = kept_numbered speaker.session.replies number in
    replies-keep numbers name others past opened (says_reply reply speaker) (says_reply-keeps reply name others past opened speaker s)

pub sends_again-keeps : {S : Type 0} (setting : Setting S) (number : ℕ) (numbers : List ℕ) (name : Name) (others : Name → Queue) (past : History) (opened : List ℕ) (speaker : Speaker S)
    → IsSpeaking name others past opened speaker → IsSpeaking name others past opened (sends_again setting number numbers speaker)
sends_again-keeps {S} setting number numbers name others past opened speaker s =
    cond_both (list_all (λ other. is_some (kept_numbered speaker.session.replies other)) numbers) _ _ (λ (speaker : Speaker S). IsSpeaking name others past opened speaker)
    (λ is. replies-keep numbers name others past opened speaker s)
    (λ is. states-keeps setting number numbers name others past opened speaker s)

-- ---- what becomes of replies

fates-keep : {S : Type 0} (replies : List Reply) (name : Name) (others : Name → Queue) (past : History) (opened : List ℕ) (speaker : Speaker S)
    → map stamp speaker.session.replies ≡ map stamp replies
    → IsSpeaking name others past opened speaker → IsSpeaking name others past opened (record speaker { session = record speaker.session { replies = replies } })
fates-keep replies name others past opened speaker same s = record {
  of_key = s.of_key;
  of_session = s.of_session;
  same = s.same;
  midway = midway-fates opened speaker.session.history speaker.session.replies replies speaker.session.counters.last (jobs_of name speaker.jobs) same s.midway;
  apart = s.apart;
}

map-stamps : (change : Reply → Reply) → ((reply : Reply) → stamp (change reply) ≡ stamp reply) → (replies : List Reply) → map stamp replies ≡ map stamp (map change replies)
map-stamps change same [] = refl
map-stamps change same (reply ∷ replies) =
    ap (λ (one : Reply). one ∷ map stamp replies) (sym (same reply)) ∙ ap (λ (rest : List Reply). stamp (change reply) ∷ rest) (map-stamps change same replies)

stamp-acked : (numbers : List ℕ) (reply : Reply) → stamp (acked_by numbers reply) ≡ stamp reply
stamp-acked numbers reply = cond_both _ _ reply (λ (other : Reply). stamp other ≡ stamp reply) (λ is. refl) (λ is. refl)

stamp-dropped : (reply : Reply) → stamp (dropped reply) ≡ stamp reply
stamp-dropped reply = cond_both (is_kept reply) _ reply (λ (other : Reply). stamp other ≡ stamp reply) (λ is. refl) (λ is. refl)

stamp-dropped_at : (number : ℕ) (reply : Reply) → stamp (cond (eqb reply.number number) (dropped reply) reply) ≡ stamp reply
stamp-dropped_at number reply =
    cond_both (eqb reply.number number) (dropped reply) reply (λ (other : Reply). stamp other ≡ stamp reply) (λ is. stamp-dropped reply) (λ is. refl)

pub acks-keep : {S : Type 0} (numbers : List ℕ) (name : Name) (others : Name → Queue) (past : History) (opened : List ℕ) (speaker : Speaker S)
    → IsSpeaking name others past opened speaker → IsSpeaking name others past opened (takes_acks numbers speaker)
acks-keep numbers name others past opened speaker s =
    fates-keep (map (acked_by numbers) speaker.session.replies) name others past opened speaker
    (map-stamps (acked_by numbers) (stamp-acked numbers) speaker.session.replies) s

-- ---- answers

pub broken-keeps : {S : Type 0} (setting : Setting S) (number constructor : ℕ) (body : List ℕ) (name : Name) (others : Name → Queue) (past : History) (opened : List ℕ) (speaker : Speaker S)
    → IsSpeaking name others past (number ∷ opened) speaker → IsSpeaking name others past opened (answers_broken setting number constructor body speaker)
broken-keeps {S} setting number constructor body name others past opened speaker s =
    cond_both (eqb constructor rpc_drop_answer.number) _ _ (λ (speaker : Speaker S). IsSpeaking name others past opened speaker)
    (λ is. answers-keeps setting number bad_body name others past opened speaker s)
    (λ is. in_place-keeps setting number body bad_body name others past opened speaker s)

becomes-keeps : {S : Type 0} (setting : Setting S) (job : Job) (content : Option (List ℕ)) (name : Name) (others : Name → Queue) (past : History) (opened : List ℕ) (speaker : Speaker S)
    → job.key ≡ speaker.session.key → job.session ≡ speaker.session.number → WasCalled job.number speaker.session.history
    → IsSpeaking name others past (job.number ∷ opened) speaker → IsSpeaking name others past opened (becomes_job setting job content speaker)
becomes-keeps setting job (Some content) name others past opened speaker key session called s =
    in_place-keeps setting job.number job.request content name others past opened speaker s
becomes-keeps setting job None name others past opened speaker key session called s = job-keeps job name others past opened speaker key session called s

pub call-keeps : {S : Type 0} (setting : Setting S) (number : ℕ) (numbers request : List ℕ) (name : Name) (others : Name → Queue) (past : History) (opened : List ℕ) (speaker : Speaker S)
    → WasCalled number speaker.session.history
    → IsSpeaking name others past (number ∷ opened) speaker → IsSpeaking name others past opened (accepts_call setting number numbers request speaker)
call-keeps setting number numbers request name others past opened speaker called s =
    let job = job_of setting number numbers request speaker in
    becomes-keeps setting job (refusal setting job speaker) name others past opened speaker refl refl called s

-- a job that was taken out is answered in place, and those that wait for it are told
pub gives_up-keeps : {S : Type 0} (setting : Setting S) (content : List ℕ) (job : Job) (name : Name) (others : Name → Queue) (past : History) (opened : List ℕ) (speaker : Speaker S)
    → IsSpeaking name others past (job.number ∷ opened) speaker → IsSpeaking name others past opened (gives_up setting content job speaker)
gives_up-keeps setting content job name others past opened speaker s =
    tells-keeps job.number name others past opened (answers_in_place setting job.number job.request content speaker)
    (in_place-keeps setting job.number job.request content name others past opened speaker s)

-- ---- rpc_drop_answer

-- what is looked for passes the test
found-call : (test : Unfinished → Bool) (jobs : Queue) (job : Job) → first_job test jobs ≡ Some job → (one : Unfinished) × (one.job ≡ job) × (test one ≡ true)
found-call test [] job is = absurd (none-some job is)
found-call test (one ∷ jobs) job is =
    elim (cases_Bool (test one)) [
      | inl holds ↦ (one, some-same one.job job (sym (cond-true (test one) (Some one.job) (first_job test jobs) holds) ∙ is), holds)
      | inr fails ↦ found-call test jobs job (sym (cond-false (test one) (Some one.job) (first_job test jobs) fails) ∙ is)
    ]

-- it is a job of the session, and has its number
pub found-of : (key session call : ℕ) (jobs : Queue) (job : Job) → first_job (is_call key session call) jobs ≡ Some job
    → (job.key ≡ key) × (job.session ≡ session) × (job.number ≡ call)
found-of key session call jobs job is =
    let found = found-call (is_call key session call) jobs job is in
    let parts = and_parts _ _ found.2 in
    let job_is = found.1 in (
      ap (λ (job : Job). job.key) (sym job_is) ∙ of-key key session found.0 parts.0,
      ap (λ (job : Job). job.session) (sym job_is) ∙ of-session key session found.0 parts.0,
      ap (λ (job : Job). job.number) (sym job_is) ∙ eqb-true found.0.job.number call parts.1,
    )

-- the search by what the job has is the search that found it
call-again : (key session call : ℕ) (job : Job) → job.key ≡ key → job.session ≡ session → job.number ≡ call
    → is_call key session call ≡ is_call job.key job.session job.number
call-again key session call job of_key of_session of_number =
    ap (λ (k : ℕ). is_call k session call) (sym of_key)
    ∙ (ap (λ (s : ℕ). is_call job.key s call) (sym of_session) ∙ ap (λ (n : ℕ). is_call job.key job.session n) (sym of_number))

running-keeps : {S : Type 0} (setting : Setting S) (number call : ℕ) (job : Job) (name : Name) (others : Name → Queue) (past : History) (opened : List ℕ) (speaker : Speaker S)
    → first_job (is_call speaker.session.key speaker.session.number call) speaker.jobs ≡ Some job
    → IsSpeaking name others past (number ∷ opened) speaker → IsSpeaking name others past opened (drops_running setting number job speaker)
running-keeps {S} setting number call job name others past opened speaker is s =
    let of = found-of speaker.session.key speaker.session.number call speaker.jobs job is in
    let again = call-again speaker.session.key speaker.session.number call job of.0 of.1 of.2 in
    let T : (Unfinished → Bool) → Type 0 = λ test. IsTaken job speaker.jobs (without_first test speaker.jobs) in
    let taken : IsTaken job speaker.jobs (without_first (is_call job.key job.session job.number) speaker.jobs) =
    subst T again (first-taken (is_call speaker.session.key speaker.session.number call) speaker.jobs job is) in
    let own = answers setting number dropped_running speaker in
    let own_keeps = answers-keeps setting number dropped_running name others past opened speaker s in
    let rest : Speaker S = record own { jobs = without_first (is_call job.key job.session job.number) own.jobs } in
    let rest_keeps : IsSpeaking name others past (job.number ∷ opened) rest =
    taken-speaks job rest.jobs name others past opened own.session.key own.session.number own.session.history own.session.replies own.session.counters.last own.jobs
    taken (of.0 ∙ s.of_key) (of.1 ∙ s.of_session) own_keeps in
    tells-keeps job.number name others past opened (answers_in_place setting job.number job.request dropped_running rest)
    (in_place-keeps setting job.number job.request dropped_running name others past opened rest rest_keeps)

kept-keeps : {S : Type 0} (setting : Setting S) (number : ℕ) (reply : Reply) (name : Name) (others : Name → Queue) (past : History) (opened : List ℕ) (speaker : Speaker S)
    → IsSpeaking name others past (number ∷ opened) speaker → IsSpeaking name others past opened (drops_kept setting number reply speaker)
kept-keeps setting number reply name others past opened speaker s =
    let replies = map (λ other. cond (eqb other.number reply.number) (dropped other) other) speaker.session.replies in
    answers-keeps setting number (spelling_of (RpcAnswerDropped reply.number reply.seq (length (kept_of reply).body))) name others past opened
    (record speaker { session = record speaker.session { replies = replies } })
    (fates-keep replies name others past (number ∷ opened) speaker
    (map-stamps (λ other. cond (eqb other.number reply.number) (dropped other) other) (stamp-dropped_at reply.number) speaker.session.replies) s)

drops_by-keeps : {S : Type 0} (setting : Setting S) (number call : ℕ) (job : Option Job) (reply : Option Reply) (name : Name) (others : Name → Queue) (past : History) (opened : List ℕ) (speaker : Speaker S)
    → first_job (is_call speaker.session.key speaker.session.number call) speaker.jobs ≡ job
    → IsSpeaking name others past (number ∷ opened) speaker → IsSpeaking name others past opened (drops_by setting number job reply speaker)
drops_by-keeps setting number call (Some job) reply name others past opened speaker is s = running-keeps setting number call job name others past opened speaker is s
drops_by-keeps setting number call None (Some reply) name others past opened speaker is s = kept-keeps setting number reply name others past opened speaker s
drops_by-keeps setting number call None None name others past opened speaker is s =
    answers-keeps setting number (spelling_of RpcAnswerUnknown) name others past opened speaker s

pub drops-keeps : {S : Type 0} (setting : Setting S) (number call : ℕ) (name : Name) (others : Name → Queue) (past : History) (opened : List ℕ) (speaker : Speaker S)
    → IsSpeaking name others past (number ∷ opened) speaker → IsSpeaking name others past opened (drops_answer setting number call speaker)
drops-keeps setting number call name others past opened speaker s =
    drops_by-keeps setting number call (first_job (is_call speaker.session.key speaker.session.number call) speaker.jobs)
    (find (λ reply. is_kept reply && (reply.call == call)) speaker.session.replies) name others past opened speaker refl s

-- ---- auth.bindTempAuthKey

binds_by-keeps : {S : Type 0} (setting : Setting S) (number : ℕ) (binding : Option Binding) (name : Name) (others : Name → Queue) (past : History) (opened : List ℕ) (speaker : Speaker S)
    → IsSpeaking name others past (number ∷ opened) speaker → IsSpeaking name others past opened (binds_by setting number binding speaker)
binds_by-keeps setting number None name others past opened speaker s = answers-keeps setting number encrypted_message_invalid name others past opened speaker s
binds_by-keeps setting number (Some binding) name others past opened speaker s =
    answers-keeps setting number bool_true_content name others past opened (record speaker { bindings = with_binding binding speaker.bindings }) s

pub binds-keeps : {S : Type 0} (setting : Setting S) (call : BindingCall) (name : Name) (others : Name → Queue) (past : History) (opened : List ℕ) (speaker : Speaker S)
    → IsSpeaking name others past (call.number ∷ opened) speaker → IsSpeaking name others past opened (binds setting call speaker)
binds-keeps setting call name others past opened speaker s =
    binds_by-keeps setting call.number (setting.bound_by setting.now (name_of speaker.session) call) name others past opened speaker s

-- ---- the rows

pub accepts-keeps : {S : Type 0} (setting : Setting S) (number : ℕ) (item : Item) (body : List ℕ) (name : Name) (others : Name → Queue) (past : History) (opened : List ℕ) (speaker : Speaker S)
    → (is_for_service item ≡ true → WasCalled number speaker.session.history)
    → IsSpeaking name others past (number ∷ opened) speaker → IsSpeaking name others past opened (accepts setting number item body speaker)
accepts-keeps setting number Packed body name others past opened speaker called s = in_place-keeps setting number body packed_body_refused name others past opened speaker s
accepts-keeps setting number (Broken constructor) body name others past opened speaker called s = broken-keeps setting number constructor body name others past opened speaker s
accepts-keeps setting number (AuthBindTempAuthKey perm nonce expires message) body name others past opened speaker called s =
    binds-keeps setting (record { number = number; perm = perm; nonce = nonce; expires = expires; message = message }) name others past opened speaker s
accepts-keeps setting number Call body name others past opened speaker called s = call-keeps setting number [] body name others past opened speaker (called refl) s
accepts-keeps setting number (InvokeAfterMsg other query) body name others past opened speaker called s =
    call-keeps setting number (other ∷ []) query name others past opened speaker (called refl) s
accepts-keeps setting number (InvokeAfterMsgs numbers query) body name others past opened speaker called s =
    call-keeps setting number numbers query name others past opened speaker (called refl) s
accepts-keeps setting number (RpcDropAnswer call) body name others past opened speaker called s = drops-keeps setting number call name others past opened speaker s
accepts-keeps setting number (Ping ping) body name others past opened speaker called s =
    says-keeps setting (Pong number ping) name others past opened speaker (leaves-keeps number name others past opened speaker s)
accepts-keeps setting number (PingDelayDisconnect ping delay) body name others past opened speaker called s =
    says-keeps setting (Pong number ping) name others past opened speaker (leaves-keeps number name others past opened speaker s)
accepts-keeps setting number (GetFutureSalts count) body name others past opened speaker called s =
    salts-keeps setting number (min count future_rows_max) name others past opened speaker (leaves-keeps number name others past opened speaker s)
accepts-keeps setting number (MsgsAck numbers) body name others past opened speaker called s =
    acks-keep numbers name others past opened speaker (leaves-keeps number name others past opened speaker s)
accepts-keeps setting number (MsgsStateReq numbers) body name others past opened speaker called s =
    states-keeps setting number numbers name others past opened speaker (leaves-keeps number name others past opened speaker s)
accepts-keeps setting number (MsgResendReq numbers) body name others past opened speaker called s =
    sends_again-keeps setting number numbers name others past opened speaker (leaves-keeps number name others past opened speaker s)
accepts-keeps setting number _ body name others past opened speaker called s = leaves-keeps number name others past opened speaker s
