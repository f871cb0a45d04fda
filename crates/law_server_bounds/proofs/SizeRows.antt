-- What a session says for a judgement leaves all as it has to be.
use Rattle.std.proofs.Common.{◌≡◌, ℕ, eqb, ◌==◌, ◌&&◌, ◌^◌, ◌<◌, Bool, true, false, cond, Option, Some, None, List, [], ◌∷◌, length, refl, arith, zero, suc, leb, ◌≤◌, ap}
use Rattle.std.specs.Prelude.{map, fold, min, is_some, ⊤, not}
use Rattle.std.specs.List.{AllByRecursion, find, list_all, filter}
use Rattle.std.proofs.lemmas.Bool.{cond_both}
use Rattle.service_tl.specs.declared.item.Item.{Item}
use Rattle.service_tl.specs.declared.item.Item.TheVariants.{RpcDropAnswer, RpcAnswerUnknown, RpcAnswerDropped, NewSessionCreated, GetFutureSalts, FutureSalts, Ping, PingDelayDisconnect, Pong, MsgsAck, MsgsStateReq, MsgsStateInfo, MsgResendReq, BadMsgNotification, BadServerSalt, InvokeAfterMsg, InvokeAfterMsgs, AuthBindTempAuthKey, Packed, Call, Broken}
use Rattle.service_tl.specs.Items.{spelling_of}
use Rattle.service_tl.specs.Schema.{rpc_drop_answer}
use Rattle.salt_line.specs.Rows.{future_rows_max, period_at}
use Rattle.salt_line.specs.Line.{current_salt, Line}
use Rattle.salt_line.specs.Future.{salt_rows, salt_rows_from}
use Rattle.id_window.specs.History.{History, Outcome, Refused, AcceptedContainer, AcceptedCall, AcceptedOther, found, is_kept as is_in_window, floor, greatest}
use Rattle.id_window.specs.Marks.{Marks, mark_of}
use Rattle.id_window.specs.declared.mark.Mark.{Mark}
use Rattle.id_window.specs.declared.mark.Mark.TheVariants.{Noticed as MarkNoticed, Replied, Dropped, Waiting, Service, Acked}
use Rattle.service_tl.specs.Results.{constructor_of}
use Rattle.inbox.specs.States.{state_byte, state_by}
use Rattle.inbox.specs.Verdicts.{Verdict, Accepted, Again, Noticed, Judgement}
use Rattle.waits.specs.declared.job.Job.{Job}
use Rattle.waits.specs.declared.job.Unfinished.{Unfinished}
use Rattle.waits.specs.Jobs.{Queue, accepted as with_job, after_answer, first_job, without_first, is_call, told as told_one, waits_for}
use Rattle.std.proofs.lemmas.List.{length-map}
use Rattle.msg_ids.specs.Counters.{is_odd}
use Rattle.law_server_bounds.proofs.Items.{bytes-map}
use Rattle.server_rules.specs.Server.{Fate, IsKept, WasAcked, WasDropped, Reply, Binding, answered_mark, is_kept, kept_of, mark_after, mark_by, mark_in, marks_of, reply_to, name_of, has_accepted, Name, Session}
use Rattle.service_tl.specs.Results.{is_good}
use Rattle.server_rules.specs.Event.{Owed, Setting, Speaker, BindingCall}
use Rattle.server_rules.specs.Speaking.{says, says_with_salt, says_it_is_new, needs_salts, answers, records, answers_in_place, dropped, packed_body_refused, bad_body, encrypted_message_invalid}
use Rattle.server_rules.specs.Waiting.{Outlook, Over, InVain, GoesOn as GoesOnWaiting, outlook, tells_of, told, gives_up}
use Rattle.server_rules.specs.Calls.{accepts_call, becomes_job, binds_by, bool_true_content, drops_by, drops_kept, drops_running, dropped_running, has_failed_already, is_full, is_unbound, job_of, with_binding, each_once}
use Rattle.server_rules.specs.Rows.{accepts, acked_by, acknowledges, answers_broken, came_again, future_salt_of, kept_numbered, notices, owes, says_reply, sends_again, tells_salts, tells_states, acks_of, is_verdict_acked}
use Rattle.server_rules.specs.Answer.{finishes, opens}
use Rattle.law_server_bounds.specs.Small.{IsContent, DrawsWords, IsSmallItem, IsSmallJob, IsSmallJudgement, IsSmallOutcome, IsSmallReply}
use Rattle.law_server_bounds.proofs.SizeContents.{bad-content, dropped-content, invalid-content, packed-content, refused-by, running-content, true-content, unknown-content}
use Rattle.law_server_bounds.proofs.SizeLists.{all-map, all-push, find-all}
use Rattle.law_server_bounds.proofs.Speaking.{Says, ack-small, answered, drop-small, fated, judged, repeated, said, salt-small, salted, with_jobs}

-- ---- marks

-- the code of a notice has 32 bits
abbrev pub IsSmallMark : Mark → Type 0
IsSmallMark (MarkNoticed code) = code < 2 ^ 32
IsSmallMark _ = ⊤

abbrev pub IsSmallFound : Option Mark → Type 0
IsSmallFound None = ⊤
IsSmallFound (Some mark) = IsSmallMark mark

answered-small : (good : Bool) (fate : Fate) → IsSmallMark (answered_mark good fate)
answered-small good IsKept = tt
answered-small good WasAcked = tt
answered-small good WasDropped = tt

by-small : (unanswered : Mark) (reply : Option Reply) → IsSmallMark unanswered → IsSmallMark (mark_by unanswered reply)
by-small unanswered None small = small
by-small unanswered (Some reply) small = answered-small (is_good reply.content) reply.fate

after-small : (replies : List Reply) (number : ℕ) (outcome : Outcome) → IsSmallOutcome outcome → IsSmallMark (mark_after replies number outcome)
after-small replies number (Refused code) small = small
after-small replies number AcceptedContainer small = tt
after-small replies number AcceptedCall small = by-small Waiting (reply_to number replies) tt
after-small replies number AcceptedOther small = by-small Service (reply_to number replies) tt

abbrev IsSmallPair : ℕ × Mark → Type 0
IsSmallPair pair = IsSmallMark pair.1

last-small : (number : ℕ) (marks : Marks) (last : Option Mark) → AllByRecursion IsSmallPair marks → IsSmallFound last
    → IsSmallFound (fold (λ last given. cond (eqb given.0 number) (Some given.1) last) last marks)
last-small number [] last all small = small
last-small number (given ∷ marks) last all small =
    last-small number marks (cond (eqb given.0 number) (Some given.1) last) all.1
    (cond_both (eqb given.0 number) (Some given.1) last IsSmallFound (λ is. all.0) (λ is. small))

pub found-small : (number : ℕ) (history : History) (replies : List Reply) → AllByRecursion IsSmallJudgement history → IsSmallFound (found number history (marks_of history replies))
found-small number history replies small =
    let marks = marks_of history replies in
    let all : AllByRecursion IsSmallPair marks =
    all-map IsSmallJudgement IsSmallPair (λ judgement. (judgement.number, mark_after replies judgement.number judgement.outcome)) history
    (λ judgement one. after-small replies judgement.number judgement.outcome one.1) small in
    cond_both (is_in_window number history) (mark_of number marks) None IsSmallFound (λ is. last-small number marks None all tt) (λ is. tt)

-- ---- verdicts

-- the list of numbers that an item has isn't too long to be told of
abbrev pub IsHeard : Item → Type 0
IsHeard (MsgsStateReq numbers) = length numbers ≤ 8192
IsHeard (MsgResendReq numbers) = length numbers ≤ 8192
IsHeard _ = ⊤

abbrev pub IsSmallVerdict : Verdict → Type 0
IsSmallVerdict (Noticed code) = code < 2 ^ 32
IsSmallVerdict (Accepted item) = IsHeard item
IsSmallVerdict (Again mark) = ⊤

-- ---- states and salts

state-low : (mark : Option Mark) (low high number : ℕ) → state_by mark low high number < 256
state-low (Some Waiting) low high number = omega arith
state-low (Some (Replied ok)) low high number = omega arith
state-low (Some (Acked ok)) low high number = omega arith
state-low (Some (Dropped ok)) low high number = omega arith
state-low (Some _) low high number = omega arith
state-low None low high number =
    cond_both (leb number low) 1 (cond (leb number high) 2 3) (λ (byte : ℕ). byte < 256) (λ is. omega arith)
    (λ is. cond_both (leb number high) 2 3 (λ (byte : ℕ). byte < 256) (λ is. omega arith) (λ is. omega arith))

rows-length : (line : Line) (n period : ℕ) → length (salt_rows_from line period n) ≡ n
rows-length line zero period = refl
rows-length line (suc n) period = ap suc (rows-length line n (suc period))

-- ---- numbers once

filter-few : {X : Type 0} (test : X → Bool) (xs : List X) → length (filter test xs) ≤ length xs
filter-few test [] = omega arith
filter-few {X} test (x ∷ xs) =
    let rest = filter-few test xs in
    cond_both (test x) (x ∷ filter test xs) (filter test xs) (λ (left : List X). length left ≤ suc (length xs)) (λ is. omega (arith, rest)) (λ is. omega (arith, rest))

once-few : (numbers : List ℕ) → length (each_once numbers) ≤ length numbers
once-few [] = omega arith
once-few (number ∷ numbers) =
    let rest = once-few numbers in
    let fewer = filter-few (λ other. not (other == number)) (each_once numbers) in
    omega (arith, rest, fewer)

acks-few : (judged : List Judgement) → length (acks_of judged) ≤ length judged
acks-few judged =
    let test : Judgement → Bool = λ judgement. is_odd judgement.seq && is_verdict_acked judgement.verdict in
    let once = once-few (map (λ (judgement : Judgement). judgement.number) (filter test judged)) in
    let same = length-map (filter test judged) (λ (judgement : Judgement). judgement.number) in
    let fewer = filter-few test judged in
    omega (arith, once, same, fewer)

-- ---- jobs

answer-small : (key session number : ℕ) (ok : Bool) (one : Unfinished) → IsSmallJob one → IsSmallJob (after_answer key session number ok one)
answer-small key session number true one small = cond_both (waits_for key session number one) (told_one number true one) one IsSmallJob (λ is. small) (λ is. small)
answer-small key session number false one small = cond_both (waits_for key session number one) (told_one number false one) one IsSmallJob (λ is. small) (λ is. small)

told-small : (outlook : Outlook) (session : Session) (number : ℕ) (jobs : Queue) → AllByRecursion IsSmallJob jobs → AllByRecursion IsSmallJob (told outlook session number jobs)
told-small Over session number jobs small =
    all-map IsSmallJob IsSmallJob (after_answer session.key session.number number true) jobs (λ one s. answer-small session.key session.number number true one s) small
told-small InVain session number jobs small =
    all-map IsSmallJob IsSmallJob (after_answer session.key session.number number false) jobs (λ one s. answer-small session.key session.number number false one s) small
told-small GoesOnWaiting session number jobs small = small

pub left-small : (test : Unfinished → Bool) (jobs : Queue) → AllByRecursion IsSmallJob jobs → AllByRecursion IsSmallJob (without_first test jobs)
left-small test [] small = tt
left-small test (one ∷ others) small =
    cond_both (test one) others (one ∷ without_first test others) (λ (left : Queue). AllByRecursion IsSmallJob left) (λ is. small.1) (λ is. (small.0, left-small test others small.1))

-- a job that is found
abbrev pub IsSmallCall : Option Job → Type 0
IsSmallCall None = ⊤
IsSmallCall (Some job) = job.number < 2 ^ 64

pub first-small : (test : Unfinished → Bool) (jobs : Queue) → AllByRecursion IsSmallJob jobs → IsSmallCall (first_job test jobs)
first-small test [] small = tt
first-small test (one ∷ others) small = cond_both (test one) (Some one.job) (first_job test others) IsSmallCall (λ is. small.0) (λ is. first-small test others small.1)

module _ {S : Type 0} (setting : Setting S) (draws : DrawsWords setting) (own : Name) (past : List Owed) where
  abbrev P : Speaker S → Type 0
  P x = Says own past x

  salt-said : (item : ℕ → Item) (x : Speaker S) → ((salt : ℕ) → salt < 2 ^ 64 → IsSmallItem (item salt)) → P x → P (says_with_salt setting item x)
  salt-said item x small p =
      let ready = needs_salts setting 1 x in
      let is_ready = salted setting own past draws 1 x p in
      let salt = current_salt ready.session.salts setting.now in
      said setting own past (item salt) ready (small salt (salt-small setting.now ready.session.salts is_ready.small.salts)) is_ready

  pub new-said : (x : Speaker S) → P x → P (says_it_is_new setting x)
  new-said x p = salt-said (λ salt. NewSessionCreated x.session.first x.session.unique salt) x (λ salt fits. (p.small.unique, fits)) p

  noticed : (number seq code : ℕ) (x : Speaker S) → number < 2 ^ 64 → code < 2 ^ 32 → P x → P (notices setting number seq code x)
  noticed number seq code x fits small p =
      cond_both (eqb code 48) (says_with_salt setting (λ salt. BadServerSalt number seq 48 salt) x) (says setting (BadMsgNotification number seq code) x) P
      (λ is. salt-said (λ salt. BadServerSalt number seq 48 salt) x (λ salt word. (fits, word)) p)
      (λ is. said setting own past (BadMsgNotification number seq code) x (fits, small) p)

  -- a reply that is found is one of its own
  reply-said : (test : Reply → Bool) (x : Speaker S) → P x → P (says_reply (find test x.session.replies) x)
  reply-said test x p = by (find test x.session.replies) refl
    where
      by : (reply : Option Reply) → find test x.session.replies ≡ reply → P (says_reply reply x)
      by None is = p
      by (Some reply) is = repeated setting own past reply x (find-all (IsSmallReply x.session.counters) test x.session.replies reply p.small.replies is).0 p

  came : (number seq : ℕ) (mark : Option Mark) (x : Speaker S) → number < 2 ^ 64 → IsSmallFound mark → P x → P (came_again setting number seq mark x)
  came number seq (Some (MarkNoticed code)) x fits small p = noticed number seq code x fits small p
  came number seq (Some (Replied good)) x fits small p = reply-said (λ reply. reply.call == number) x p
  came number seq (Some (Dropped good)) x fits small p = noticed number seq 20 x fits (omega arith) p
  came number seq _ x fits small p = p

  -- ---- service messages

  states-told : (number : ℕ) (numbers : List ℕ) (x : Speaker S) → length numbers ≤ 8192 → P x → P (tells_states setting number numbers x)
  states-told number numbers x few p =
      let byte : ℕ → ℕ = state_byte x.session.history (marks_of x.session.history x.session.replies) in
      said setting own past (MsgsStateInfo number (map byte numbers)) x
      (omega (arith, few, length-map numbers byte), bytes-map byte numbers (λ one. state-low (found one x.session.history (marks_of x.session.history x.session.replies)) (floor x.session.history) (greatest x.session.history) one)) p

  salts-told : (number count : ℕ) (x : Speaker S) → count ≤ 64 → P x → P (tells_salts setting number count x)
  salts-told number count x few p =
      let ready = needs_salts setting count x in
      let rows = salt_rows ready.session.salts setting.now count in
      let same = length-map rows future_salt_of in
      let many = rows-length ready.session.salts count (period_at ready.session.salts.start setting.now) in
      said setting own past (FutureSalts number setting.now (map future_salt_of rows)) ready (omega (arith, few, same, many)) (salted setting own past draws count x p)

  all-said : (numbers : List ℕ) (x : Speaker S) → P x → P (fold (λ speaker other. says_reply (kept_numbered speaker.session.replies other) speaker) x numbers)
  all-said [] x p = p
  all-said (number ∷ numbers) x p =
      all-said numbers (says_reply (kept_numbered x.session.replies number) x) (reply-said (λ reply. is_kept reply && (reply.number == number)) x p)

  sent-again : (number : ℕ) (numbers : List ℕ) (x : Speaker S) → length numbers ≤ 8192 → P x → P (sends_again setting number numbers x)
  sent-again number numbers x few p =
      cond_both (list_all (λ other. is_some (kept_numbered x.session.replies other)) numbers) _ _ P (λ is. all-said numbers x p) (λ is. states-told number numbers x few p)

  -- ---- answers

  placed : (ran : Bool) (call : ℕ) (request content : List ℕ) (x : Speaker S) → call < 2 ^ 64 → IsContent content → P x → P (records ran call request content (answers setting call content x))
  placed ran call request content x fits words p = answered setting own past call content x fits words p

  pub told-so : (number : ℕ) (x : Speaker S) → P x → P (tells_of number x)
  told-so number x p =
      let jobs = told (outlook x.session x.jobs number) x.session number x.jobs in
      with_jobs setting own past jobs x (told-small (outlook x.session x.jobs number) x.session number x.jobs p.jobs) p

  broken : (number constructor : ℕ) (body : List ℕ) (x : Speaker S) → number < 2 ^ 64 → P x → P (answers_broken setting number constructor body x)
  broken number constructor body x fits p =
      cond_both (eqb constructor rpc_drop_answer.number) (answers setting number bad_body x) (answers_in_place setting number body bad_body x) P
      (λ is. answered setting own past number bad_body x fits bad-content p) (λ is. placed false number body bad_body x fits bad-content p)

  called : (number : ℕ) (numbers request : List ℕ) (x : Speaker S) → number < 2 ^ 64 → P x → P (accepts_call setting number numbers request x)
  called number numbers request x fits p =
      let job = job_of setting number numbers request x in
      refused-by (λ (content : Option (List ℕ)). P (becomes_job setting job content x)) (is_unbound setting x) (is_full job x) (has_failed_already job x)
      (constructor_of job.request)
      (λ content words. placed false job.number job.request content x fits words p)
      (with_jobs setting own past (with_job job x.jobs) x (all-push IsSmallJob x.jobs _ p.jobs fits) p)

  run-dropped : (number : ℕ) (job : Job) (x : Speaker S) → number < 2 ^ 64 → job.number < 2 ^ 64 → P x → P (drops_running setting number job x)
  run-dropped number job x fits is p =
      let first = answers setting number dropped_running x in
      let is_first = answered setting own past number dropped_running x fits running-content p in
      let test = is_call job.key job.session job.number in
      let left = without_first test first.jobs in
      let rest : Speaker S = record first { jobs = left } in
      told-so job.number (answers_in_place setting job.number job.request dropped_running rest)
      (placed false job.number job.request dropped_running rest is running-content
      (with_jobs setting own past left first (left-small test first.jobs is_first.jobs) is_first))

  reply-dropped : (number : ℕ) (reply : Reply) (x : Speaker S) → number < 2 ^ 64 → P x → P (drops_kept setting number reply x)
  reply-dropped number reply x fits p =
      let change : Reply → Reply = λ other. cond (eqb other.number reply.number) (dropped other) other in
      let bytes = length (kept_of reply).body in
      answered setting own past number (spelling_of (RpcAnswerDropped reply.number reply.seq bytes)) (record x { session = record x.session { replies = map change x.session.replies } })
      fits (dropped-content reply.number reply.seq bytes)
      (fated setting own past change x
      (λ counters one small. cond_both (eqb one.number reply.number) (dropped one) one (IsSmallReply counters) (λ is. drop-small counters one small) (λ is. small)) p)

  dropped-by : (number : ℕ) (job : Option Job) (reply : Option Reply) (x : Speaker S) → number < 2 ^ 64 → IsSmallCall job → P x → P (drops_by setting number job reply x)
  dropped-by number (Some job) reply x fits is p = run-dropped number job x fits is p
  dropped-by number None (Some reply) x fits is p = reply-dropped number reply x fits p
  dropped-by number None None x fits is p = answered setting own past number (spelling_of RpcAnswerUnknown) x fits unknown-content p

  bound-by : (number : ℕ) (binding : Option Binding) (x : Speaker S) → number < 2 ^ 64 → P x → P (binds_by setting number binding x)
  bound-by number None x fits p = answered setting own past number encrypted_message_invalid x fits invalid-content p
  bound-by number (Some binding) x fits p =
      answered setting own past number bool_true_content (record x { bindings = with_binding binding x.bindings }) fits true-content p

  -- ---- the rows

  accepted : (number : ℕ) (item : Item) (body : List ℕ) (x : Speaker S) → number < 2 ^ 64 → IsHeard item → P x → P (accepts setting number item body x)
  accepted number Packed body x fits heard p = placed false number body packed_body_refused x fits packed-content p
  accepted number (Broken constructor) body x fits heard p = broken number constructor body x fits p
  accepted number (AuthBindTempAuthKey perm nonce expires message) body x fits heard p =
      let call : BindingCall = record { number = number; perm = perm; nonce = nonce; expires = expires; message = message } in
      bound-by number (setting.bound_by setting.now (name_of x.session) call) x fits p
  accepted number Call body x fits heard p = called number [] body x fits p
  accepted number (InvokeAfterMsg other query) body x fits heard p = called number (other ∷ []) query x fits p
  accepted number (InvokeAfterMsgs others query) body x fits heard p = called number others query x fits p
  accepted number (RpcDropAnswer call) body x fits heard p =
      let test = is_call x.session.key x.session.number call in
      dropped-by number (first_job test x.jobs) (find (λ reply. is_kept reply && (reply.call == call)) x.session.replies) x fits (first-small test x.jobs p.jobs) p
  accepted number (Ping ping) body x fits heard p = said setting own past (Pong number ping) x tt p
  accepted number (PingDelayDisconnect ping delay) body x fits heard p = said setting own past (Pong number ping) x tt p
  accepted number (GetFutureSalts count) body x fits heard p = salts-told number (min count future_rows_max) x (omega arith) p
  accepted number (MsgsAck numbers) body x fits heard p = fated setting own past (acked_by numbers) x (ack-small numbers) p
  accepted number (MsgsStateReq numbers) body x fits heard p = states-told number numbers x heard p
  accepted number (MsgResendReq numbers) body x fits heard p = sent-again number numbers x heard p
  accepted number _ body x fits heard p = p

  pub owed-so : (number seq : ℕ) (verdict : Verdict) (body : List ℕ) (x : Speaker S) → number < 2 ^ 64 → IsSmallVerdict verdict → P x → P (owes setting number seq verdict body x)
  owed-so number seq (Noticed code) body x fits small p = noticed number seq code x fits small p
  owed-so number seq (Again mark) body x fits small p =
      came number seq (mark_in x.session number) x fits (found-small number x.session.history x.session.replies p.small.history) p
  owed-so number seq (Accepted item) body x fits small p = accepted number item body x fits small p

  -- ---- other events

  pub given : (content : List ℕ) (job : Job) (x : Speaker S) → job.number < 2 ^ 64 → IsContent content → P x → P (gives_up setting content job x)
  given content job x fits words p = told-so job.number (answers_in_place setting job.number job.request content x) (placed false job.number job.request content x fits words p)

  pub finished : (job : Job) (reply : List ℕ) (x : Speaker S) → job.number < 2 ^ 64 → IsContent reply → P x → P (finishes setting job reply x)
  finished job reply x fits words p =
      told-so job.number (records true job.number job.request reply (answers setting job.number reply x)) (placed true job.number job.request reply x fits words p)

  acknowledged : (numbers : List ℕ) (x : Speaker S) → length numbers ≤ 8192 → P x → P (acknowledges setting numbers x)
  acknowledged [] x few p = p
  acknowledged (number ∷ numbers) x few p = said setting own past (MsgsAck (number ∷ numbers)) x few p

  started : (x : Speaker S) → P x → P (cond (has_accepted x.session) x (says_it_is_new setting x))
  started x p = cond_both (has_accepted x.session) x (says_it_is_new setting x) P (λ is. p) (λ is. new-said x p)

  pub opened : (history : History) (judgements : List Judgement) (x : Speaker S) → AllByRecursion IsSmallJudgement history → length judgements ≤ 8192 → P x → P (opens setting history judgements x)
  opened history judgements x small few p =
      let ready : Speaker S = record x { session = record x.session { history = history } } in
      acknowledged (acks_of judgements) (cond (has_accepted ready.session) ready (says_it_is_new setting ready)) (let acked = acks-few judgements in omega (arith, few, acked)) (started ready (judged setting own past history x small p))
