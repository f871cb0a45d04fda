-- A session that speaks keeps its calls in turn, row by row.
use Rattle.std.proofs.Common.{◌≡◌, ◌∙◌, ◌==◌, ℕ, eqb, Bool, true, false, cond, Option, Some, None, List, [], ◌∷◌, ◌++◌, length, map, append_assoc, eq-eqb, ap, sym, subst, refl, inl, inr}
use Rattle.std.specs.Prelude.{◌&&◌, fold, is_some, min}
use Rattle.std.specs.List.{AllByRecursion, filter, find, list_all, list_any}
use Rattle.std.specs.Option.{option_or}
use Rattle.std.proofs.lemmas.Bool.{cond_both, and_parts, eqb-true}
use Rattle.tl_codec.specs.Spelling.{spelling}
use Rattle.service_tl.specs.declared.item.Item.{Item}
use Rattle.service_tl.specs.declared.item.Item.TheVariants.{NewSessionCreated, RpcDropAnswer, RpcAnswerUnknown, RpcAnswerDropped, GetFutureSalts, FutureSalts, Ping, PingDelayDisconnect, Pong, MsgsAck, MsgsStateReq, MsgsStateInfo, MsgResendReq, BadMsgNotification, BadServerSalt, InvokeAfterMsg, InvokeAfterMsgs, AuthBindTempAuthKey, Packed, Call, Broken}
use Rattle.service_tl.specs.Items.{spelling_of}
use Rattle.service_tl.specs.Schema.{service_numbers, gzip_packed, rpc_drop_answer}
use Rattle.salt_line.specs.Line.{current_salt}
use Rattle.salt_line.specs.Rows.{future_rows_max}
use Rattle.salt_line.specs.Future.{salt_rows}
use Rattle.id_window.specs.declared.mark.Mark.{Mark}
use Rattle.id_window.specs.declared.mark.Mark.TheVariants.{Noticed as MarkNoticed, Service, Container, Waiting, Replied, Acked, Dropped}
use Rattle.service_tl.specs.Results.{constructor_of}
use Rattle.inbox.specs.States.{state_byte}
use Rattle.inbox.specs.Verdicts.{Verdict, Accepted, Again, Noticed}
use Rattle.waits.specs.declared.job.Job.{Job}
use Rattle.waits.specs.Jobs.{Queue, accepted, is_call, first_job, without_first}
use Rattle.server_rules.specs.Server.{Binding, Name, Reply, has_accepted, is_kept, kept_of, kept_replies, mark_in, marks_of, name_of, reply_to}
use Rattle.service_tl.specs.Results.{is_good}
use Rattle.server_rules.specs.Event.{BindingCall, Entry, Setting, Speaker}
use Rattle.server_rules.specs.Speaking.{answers, answers_in_place, auth_key_perm_empty, bad_body, dropped, encrypted_message_invalid, has_said, jobs_full, made_room, msg_wait_failed, msg_wait_timeout, needs_salts, packed_body_refused, records, says, says_again, says_it_is_new, says_with_salt}
use Rattle.outbox.specs.Replies.{fits}
use Rattle.server_rules.specs.Waiting.{gives_up, tells_of}
use Rattle.server_rules.specs.Calls.{accepts_call, becomes_job, binds_by, bool_true_content, drops_answer, drops_by, dropped_running, has_failed_already, if_so, is_full, is_unbound, job_of, query_refusal, refusal, with_binding}
use Rattle.server_rules.specs.Rows.{accepts, acked_by, acknowledges, answers_broken, came_again, future_salt_of, kept_numbered, notices, owes, says_reply, sends_again, takes_acks, tells_salts, tells_states}
use Rattle.server_rules.specs.Answer.{attaches, finishes}
use Rattle.law_order.specs.After.{HasRun, IsAnswer, IsFor, IsHonest, IsWaiting, Pair, RanBehind, is_among, is_aside, is_run, is_run_well}
use Rattle.law_order.proofs.Lists.{all-append, all-map, all-weaker, some-append, some-last, split-last, true-false}
use Rattle.law_order.proofs.ServerWaiting.{first-left, its-name, name-so, still-awaited, told-waits}

-- ---- contents that aren't good

packed-bad : is_good packed_body_refused ≡ false
unfolding spelling
packed-bad = refl

body-bad : is_good bad_body ≡ false
unfolding spelling
body-bad = refl

unbound-bad : is_good auth_key_perm_empty ≡ false
unfolding spelling
unbound-bad = refl

full-bad : is_good jobs_full ≡ false
unfolding spelling
full-bad = refl

pub failed-bad : is_good msg_wait_failed ≡ false
unfolding spelling
failed-bad = refl

pub timeout-bad : is_good msg_wait_timeout ≡ false
unfolding spelling
timeout-bad = refl

running-bad : is_good dropped_running ≡ false
unfolding spelling
running-bad = refl

abbrev IsBad : Option (List ℕ) → Type 0
IsBad content = (one : List ℕ) → content ≡ Some one → is_good one ≡ false

bad-so : (content : List ℕ) → is_good content ≡ false → IsBad (Some content)
bad-so content bad = λ one is. let same : content ≡ one = cc in ap is_good (sym same) ∙ bad

bad-none : IsBad None
bad-none = λ one is. absurd cc

bad-or : (one other : Option (List ℕ)) → IsBad one → IsBad other → IsBad (option_or one other)
bad-or None other bad rest = rest
bad-or (Some content) other bad rest = bad

bad-if : (test : Bool) (content : List ℕ) → is_good content ≡ false → IsBad (if_so test content)
bad-if test content bad = cond_both test (Some content) None IsBad (λ is. bad-so content bad) (λ is. bad-none)

bad-query : (constructor : Option ℕ) → IsBad (query_refusal constructor)
bad-query None = bad-none
bad-query (Some number) =
    cond_both (eqb number gzip_packed) (Some packed_body_refused) (cond (list_any (λ service. eqb number service) service_numbers) (Some bad_body) None) IsBad
    (λ is. bad-so packed_body_refused packed-bad)
    (λ is. cond_both (list_any (λ service. eqb number service) service_numbers) (Some bad_body) None IsBad (λ is. bad-so bad_body body-bad) (λ is. bad-none))

refusal-bad : {S : Type 0} (setting : Setting S) (job : Job) (speaker : Speaker S) → IsBad (refusal setting job speaker)
refusal-bad setting job speaker =
    bad-or (if_so (is_unbound setting speaker) auth_key_perm_empty) _ (bad-if (is_unbound setting speaker) auth_key_perm_empty unbound-bad)
    (bad-or (query_refusal (constructor_of job.request)) _ (bad-query (constructor_of job.request))
    (bad-or (if_so (is_full job speaker) jobs_full) _ (bad-if (is_full job speaker) jobs_full full-bad)
    (bad-if (has_failed_already job speaker) msg_wait_failed failed-bad)))

-- ---- a session that speaks

-- The session of this name speaks: its jobs and replies, and what was entered, with the entries of the past before that. What ran
-- at the beginning has run still.
pub record Sound {S : Type 0} (pair : Pair) (past : List Entry) (name : Name) (R : Type 0) (speaker : Speaker S) : Type 0 where
  pub named : name_of speaker.session ≡ name
  pub waiting : AllByRecursion (IsWaiting pair (HasRun pair (past ++ speaker.entries))) speaker.jobs
  pub answers : name ≡ pair.name → AllByRecursion (IsAnswer pair (HasRun pair (past ++ speaker.entries))) speaker.session.replies
  pub behind : RanBehind pair (past ++ speaker.entries)
  pub honest : AllByRecursion IsHonest (past ++ speaker.entries)
  pub stays : R → HasRun pair (past ++ speaker.entries)

pub more-waits : (pair : Pair) (R Q : Type 0) (jobs : Queue) → (R → Q) → AllByRecursion (IsWaiting pair R) jobs → AllByRecursion (IsWaiting pair Q) jobs
more-waits pair R Q jobs so all =
    all-weaker (IsWaiting pair R) (IsWaiting pair Q) jobs
    (λ one waits is. elim (waits is) [
      | inl among ↦ inl among
      | inr ran ↦ inr (so ran)
    ]) all

pub more-answers : (pair : Pair) (R Q : Type 0) (replies : List Reply) → (R → Q) → AllByRecursion (IsAnswer pair R) replies → AllByRecursion (IsAnswer pair Q) replies
more-answers pair R Q replies so all = all-weaker (IsAnswer pair R) (IsAnswer pair Q) replies (λ reply answer of good. so (answer of good)) all

room-answers : (pair : Pair) (R : Type 0) (bytes : ℕ) (replies : List Reply) → AllByRecursion (IsAnswer pair R) replies → AllByRecursion (IsAnswer pair R) (made_room bytes replies)
room-answers pair R bytes [] all = tt
room-answers pair R bytes (reply ∷ replies) all = (
  cond_both (fits bytes (kept_replies (reply ∷ replies))) reply (dropped reply) (IsAnswer pair R) (λ is. all.0)
      (λ is. cond_both (is_kept reply) _ reply (IsAnswer pair R) (λ is. all.0) (λ is. all.0)),
  room-answers pair R bytes replies all.1,
)

module _ {S : Type 0} (setting : Setting S) (pair : Pair) (past : List Entry) (name : Name) (R : Type 0) where
  abbrev P : Speaker S → Type 0
  P speaker = Sound pair past name R speaker

  abbrev Ran : Speaker S → Type 0
  Ran speaker = HasRun pair (past ++ speaker.entries)

  -- ---- words

  pub says-sound : (item : Item) (speaker : Speaker S) → P speaker → P (says setting item speaker)
  says-sound item speaker s = record { named = s.named; waiting = s.waiting; answers = s.answers; behind = s.behind; honest = s.honest; stays = s.stays }

  again-sound : (reply : Reply) (speaker : Speaker S) → P speaker → P (says_again reply speaker)
  again-sound reply speaker s =
      cond_both (has_said reply.number speaker) speaker _ P (λ is. s)
      (λ is. record { named = s.named; waiting = s.waiting; answers = s.answers; behind = s.behind; honest = s.honest; stays = s.stays })

  pub salts-sound : (count : ℕ) (speaker : Speaker S) → P speaker → P (needs_salts setting count speaker)
  salts-sound count speaker s = record { named = s.named; waiting = s.waiting; answers = s.answers; behind = s.behind; honest = s.honest; stays = s.stays }

  replies-sound : (replies : List Reply) (speaker : Speaker S) → (name ≡ pair.name → AllByRecursion (IsAnswer pair (Ran speaker)) replies)
      → P speaker → P (record speaker { session = record speaker.session { replies = replies } })
  replies-sound replies speaker are s = record { named = s.named; waiting = s.waiting; answers = are; behind = s.behind; honest = s.honest; stays = s.stays }

  jobs-sound : (jobs : Queue) (speaker : Speaker S) → AllByRecursion (IsWaiting pair (Ran speaker)) jobs → P speaker → P (record speaker { jobs = jobs })
  jobs-sound jobs speaker are s = record { named = s.named; waiting = are; answers = s.answers; behind = s.behind; honest = s.honest; stays = s.stays }

  -- a further reply
  with-answers : (Q : Type 0) (call bytes : ℕ) (reply : Reply) (replies : List Reply) → reply.call ≡ call → (call ≡ pair.earlier → is_good reply.content ≡ true → Q)
      → AllByRecursion (IsAnswer pair Q) replies → AllByRecursion (IsAnswer pair Q) (made_room bytes replies ++ reply ∷ [])
  with-answers Q call bytes reply replies is good all =
      all-append (IsAnswer pair Q) (made_room bytes replies) (reply ∷ []) (room-answers pair Q bytes replies all)
      (λ of_call well. good (sym is ∙ of_call) well, tt)

  pub answers-sound : (call : ℕ) (content : List ℕ) (speaker : Speaker S) → (name ≡ pair.name → call ≡ pair.earlier → is_good content ≡ true → Ran speaker)
      → P speaker → P (answers setting call content speaker)
  answers-sound call content speaker good s = record {
    named = s.named;
    waiting = s.waiting;
    answers = λ own. with-answers (Ran speaker) call _ _ speaker.session.replies refl (good own) (s.answers own);
    behind = s.behind;
    honest = s.honest;
    stays = s.stays;
  }

  -- what is entered further
  entered-behind : (entries : List Entry) (entry : Entry) → (is_run pair.name pair.call entry ≡ true → HasRun pair entries) → RanBehind pair entries
      → RanBehind pair (entries ++ entry ∷ [])
  entered-behind entries entry so behind = λ before rest one is ran.
      elim (split-last entries before rest entry one is) [
        | inl last ↦ subst (HasRun pair) (sym last.0) (so (ap (is_run pair.name pair.call) (sym last.1) ∙ ran))
        | inr inside ↦ behind before inside.0 one inside.1 ran
      ]

  abbrev entry_of : Bool → ℕ → List ℕ → List ℕ → Speaker S → Entry
  entry_of ran call request content speaker =
      record { key = speaker.session.key; session = speaker.session.number; number = call; request = request; reply = content; ran = ran }

  entries-more : (entries : List Entry) (entry : Entry) → past ++ (entries ++ entry ∷ []) ≡ (past ++ entries) ++ entry ∷ []
  entries-more entries entry = sym (append_assoc past entries (entry ∷ []))

  grown : (entries : List Entry) (entry : Entry) → HasRun pair (past ++ entries) → HasRun pair (past ++ (entries ++ entry ∷ []))
  grown entries entry has = subst (HasRun pair) (sym (entries-more entries entry)) (some-append (is_run_well pair.name pair.earlier) (past ++ entries) (entry ∷ []) has)

  grown-honest : (entries : List Entry) (entry : Entry) → IsHonest entry → AllByRecursion IsHonest (past ++ entries) → AllByRecursion IsHonest (past ++ (entries ++ entry ∷ []))
  grown-honest entries entry is all =
      subst (AllByRecursion IsHonest) (sym (entries-more entries entry)) (all-append IsHonest (past ++ entries) (entry ∷ []) all (is, tt))

  -- by what ran or didn't
  pub records-sound : (ran : Bool) (call : ℕ) (request content : List ℕ) (speaker : Speaker S)
      → (is_run pair.name pair.call (entry_of ran call request content speaker) ≡ true → Ran speaker)
      → (ran ≡ false → is_good content ≡ false) → P speaker → P (records ran call request content speaker)
  records-sound ran call request content speaker so honest s =
      let entry = entry_of ran call request content speaker in
      let more = grown speaker.entries entry in
      record {
        named = s.named;
        waiting = more-waits pair (Ran speaker) (HasRun pair (past ++ (speaker.entries ++ entry ∷ []))) speaker.jobs more s.waiting;
        answers = λ own. more-answers pair (Ran speaker) (HasRun pair (past ++ (speaker.entries ++ entry ∷ []))) speaker.session.replies more (s.answers own);
        behind = subst (RanBehind pair) (sym (entries-more speaker.entries entry)) (entered-behind (past ++ speaker.entries) entry so s.behind);
        honest = grown-honest speaker.entries entry honest s.honest;
        stays = λ r. more (s.stays r);
      }

  unrun : (call : ℕ) (request content : List ℕ) (speaker : Speaker S) → is_run pair.name pair.call (entry_of false call request content speaker) ≡ true → Ran speaker
  unrun call request content speaker is = absurd (true-false (sym (and_parts _ _ (and_parts _ _ is).1).1))

  pub in_place-sound : (call : ℕ) (request content : List ℕ) (speaker : Speaker S) → is_good content ≡ false → P speaker
      → P (answers_in_place setting call request content speaker)
  in_place-sound call request content speaker bad s =
      let own = answers setting call content speaker in
      records-sound false call request content own (unrun call request content own) (λ unran. bad)
      (answers-sound call content speaker (λ of_name of_call good. absurd (true-false (sym good ∙ bad))) s)

  pub tells-sound : (number : ℕ) (speaker : Speaker S) → P speaker → P (tells_of number speaker)
  tells-sound number speaker s =
      jobs-sound _ speaker
      (told-waits pair (Ran speaker) speaker.session number speaker.jobs speaker.jobs (λ own. s.answers (sym s.named ∙ own)) s.waiting) s

  -- ---- what changes neither jobs, replies' contents nor entries

  with_salt-sound : (item : ℕ → Item) (speaker : Speaker S) → P speaker → P (says_with_salt setting item speaker)
  with_salt-sound item speaker s =
      let ready = needs_salts setting 1 speaker in
      says-sound (item (current_salt ready.session.salts setting.now)) ready (salts-sound 1 speaker s)

  pub new-sound : (speaker : Speaker S) → P speaker → P (says_it_is_new setting speaker)
  new-sound speaker s = with_salt-sound (λ salt. NewSessionCreated speaker.session.first speaker.session.unique salt) speaker s

  pub acknowledges-sound : (numbers : List ℕ) (speaker : Speaker S) → P speaker → P (acknowledges setting numbers speaker)
  acknowledges-sound [] speaker s = s
  acknowledges-sound (number ∷ numbers) speaker s = says-sound (MsgsAck (number ∷ numbers)) speaker s

  notices-sound : (number seq code : ℕ) (speaker : Speaker S) → P speaker → P (notices setting number seq code speaker)
  notices-sound number seq code speaker s =
      cond_both (eqb code 48) _ _ P
      (λ is. with_salt-sound (λ salt. BadServerSalt number seq 48 salt) speaker s)
      (λ is. says-sound (BadMsgNotification number seq code) speaker s)

  reply-sound : (reply : Option Reply) (speaker : Speaker S) → P speaker → P (says_reply reply speaker)
  reply-sound None speaker s = s
  reply-sound (Some reply) speaker s = again-sound reply speaker s

  came-sound : (number seq : ℕ) (mark : Option Mark) (speaker : Speaker S) → P speaker → P (came_again setting number seq mark speaker)
  came-sound number seq (Some (MarkNoticed code)) speaker s = notices-sound number seq code speaker s
  came-sound number seq (Some (Replied good)) speaker s = reply-sound (reply_to number speaker.session.replies) speaker s
  came-sound number seq (Some (Dropped good)) speaker s = notices-sound number seq 20 speaker s
  came-sound number seq (Some Service) speaker s = s
  came-sound number seq (Some Container) speaker s = s
  came-sound number seq (Some Waiting) speaker s = s
  came-sound number seq (Some (Acked good)) speaker s = s
  came-sound number seq None speaker s = s

  tells_salts-sound : (number count : ℕ) (speaker : Speaker S) → P speaker → P (tells_salts setting number count speaker)
  tells_salts-sound number count speaker s =
      let ready = needs_salts setting count speaker in
      says-sound (FutureSalts number setting.now (map future_salt_of (salt_rows ready.session.salts setting.now count))) ready (salts-sound count speaker s)

  states-sound : (number : ℕ) (numbers : List ℕ) (speaker : Speaker S) → P speaker → P (tells_states setting number numbers speaker)
  states-sound number numbers speaker s =
      let session = speaker.session in
      says-sound (MsgsStateInfo number (map (state_byte session.history (marks_of session.history session.replies)) numbers)) speaker s

  listed-sound : (numbers : List ℕ) (speaker : Speaker S) → P speaker
      → P (fold (λ speaker other. says_reply (kept_numbered speaker.session.replies other) speaker) speaker numbers)
  listed-sound [] speaker s = s
  listed-sound (number ∷ numbers) speaker s =
      let reply = kept_numbered speaker.session.replies number in
      listed-sound numbers (says_reply reply speaker) (reply-sound reply speaker s)

  sends_again-sound : (number : ℕ) (numbers : List ℕ) (speaker : Speaker S) → P speaker → P (sends_again setting number numbers speaker)
  sends_again-sound number numbers speaker s =
      cond_both (list_all (λ other. is_some (kept_numbered speaker.session.replies other)) numbers) _ _ P
      (λ is. listed-sound numbers speaker s) (λ is. states-sound number numbers speaker s)

  acks-sound : (numbers : List ℕ) (speaker : Speaker S) → P speaker → P (takes_acks numbers speaker)
  acks-sound numbers speaker s =
      replies-sound (map (acked_by numbers) speaker.session.replies) speaker
      (λ own.
      all-map (IsAnswer pair (Ran speaker)) (IsAnswer pair (Ran speaker)) (acked_by numbers) speaker.session.replies
      (λ reply answer.
      cond_both (is_kept reply && list_any (λ number. eqb number reply.number) numbers) _ reply (IsAnswer pair (Ran speaker)) (λ is. answer) (λ is. answer))
      (s.answers own))
      s

  -- ---- answers

  broken-sound : (number constructor : ℕ) (body : List ℕ) (speaker : Speaker S) → P speaker → P (answers_broken setting number constructor body speaker)
  broken-sound number constructor body speaker s =
      cond_both (eqb constructor rpc_drop_answer.number) _ _ P
      (λ is. answers-sound number bad_body speaker (λ of_name of_call good. absurd (true-false (sym good ∙ body-bad))) s)
      (λ is. in_place-sound number body bad_body speaker body-bad s)

  pub gives_up-sound : (content : List ℕ) (job : Job) → is_good content ≡ false → (speaker : Speaker S) → P speaker → P (gives_up setting content job speaker)
  gives_up-sound content job bad speaker s =
      tells-sound job.number (answers_in_place setting job.number job.request content speaker) (in_place-sound job.number job.request content speaker bad s)

  -- a job that is ready ran: the earlier call did before it
  pub finishes-sound : (job : Job) (reply : List ℕ) → (record { key = job.key; session = job.session } ≡ pair.name → job.number ≡ pair.call → R)
      → record { key = job.key; session = job.session } ≡ name
      → (speaker : Speaker S) → P speaker → P (finishes setting job reply speaker)
  finishes-sound job reply ready of_name speaker s =
      let own = answers setting job.number reply speaker in
      let entry = entry_of true job.number job.request reply speaker in
      let Now = HasRun pair (past ++ (speaker.entries ++ entry ∷ [])) in
      let more = grown speaker.entries entry in
      tells-sound job.number (records true job.number job.request reply own) (record {
        named = s.named;
        waiting = more-waits pair (Ran speaker) Now speaker.jobs more s.waiting;
        answers = λ same.
            with-answers Now job.number _ _ speaker.session.replies refl
            (λ of_call good. subst (HasRun pair) (sym (entries-more speaker.entries entry))
            (some-last (is_run_well pair.name pair.earlier) (past ++ speaker.entries) entry (well same of_call good)))
            (more-answers pair (Ran speaker) Now speaker.session.replies more (s.answers same));
        behind =
            subst (RanBehind pair) (sym (entries-more speaker.entries entry))
            (entered-behind (past ++ speaker.entries) entry (λ is. s.stays (ready (of_name ∙ (sym s.named ∙ (mine is).0)) (mine is).1)) s.behind);
        honest = grown-honest speaker.entries entry (λ unran. absurd (true-false unran)) s.honest;
        stays = λ r. more (s.stays r);
      }) where
        mine : is_run pair.name pair.call (entry_of true job.number job.request reply speaker) ≡ true → (name_of speaker.session ≡ pair.name) × (job.number ≡ pair.call)
        mine is =
            let parts = and_parts _ _ is in
            (name-so speaker.session.key speaker.session.number pair.name parts.0, eqb-true job.number pair.call (and_parts _ _ parts.1).0)

        well : name ≡ pair.name → job.number ≡ pair.earlier → is_good reply ≡ true → is_run_well pair.name pair.earlier (entry_of true job.number job.request reply speaker) ≡ true
        well same of_call good =
            let whose : name_of speaker.session ≡ pair.name = s.named ∙ same in
            let of_key : speaker.session.key ≡ pair.name.key = ap (λ (name : Name). name.key) whose in
            let of_session : speaker.session.number ≡ pair.name.session = ap (λ (name : Name). name.session) whose in
            rw (eq-eqb speaker.session.key pair.name.key of_key, eq-eqb speaker.session.number pair.name.session of_session, eq-eqb job.number pair.earlier of_call) good

  -- ---- calls

  becomes-sound : (job : Job) (content : Option (List ℕ)) (speaker : Speaker S) → IsBad content → IsWaiting pair (Ran speaker) (record { job = job; failed = false })
      → P speaker → P (becomes_job setting job content speaker)
  becomes-sound job (Some content) speaker bad waits s = in_place-sound job.number job.request content speaker (bad content refl) s
  becomes-sound job None speaker bad waits s =
      jobs-sound (accepted job speaker.jobs) speaker
      (all-append (IsWaiting pair (Ran speaker)) speaker.jobs (record { job = job; failed = false } ∷ []) s.waiting (waits, tt)) s

  call-sound : (number : ℕ) (numbers request : List ℕ) (speaker : Speaker S) → (name ≡ pair.name → number ≡ pair.call → is_among pair.earlier numbers ≡ true)
      → P speaker → P (accepts_call setting number numbers request speaker)
  call-sound number numbers request speaker among s =
      let job = job_of setting number numbers request speaker in
      becomes-sound job (refusal setting job speaker) speaker (refusal-bad setting job speaker)
      (λ is.
      let its = its-name pair (Ran speaker) job false is in
      let own : name ≡ pair.name = sym s.named ∙ its.0 in
      still-awaited pair (Ran speaker) speaker.session speaker.jobs numbers (s.answers own) (among own its.1))
      s

  drops_by-sound : (number : ℕ) (job : Option Job) (reply : Option Reply) (speaker : Speaker S) → (name ≡ pair.name → number ≡ pair.earlier → Ran speaker)
      → P speaker → P (drops_by setting number job reply speaker)
  drops_by-sound number (Some job) reply speaker apart s =
      let own = answers setting number dropped_running speaker in
      let others = without_first (is_call job.key job.session job.number) own.jobs in
      let rest : Speaker S = record own { jobs = others } in
      let first = answers-sound number dropped_running speaker (λ of_name of_call good. apart of_name of_call) s in
      tells-sound job.number (answers_in_place setting job.number job.request dropped_running rest)
      (in_place-sound job.number job.request dropped_running rest running-bad
      (jobs-sound others own (first-left pair (Ran speaker) (is_call job.key job.session job.number) own.jobs s.waiting) first))
  drops_by-sound number None (Some reply) speaker apart s =
      let replies = map (λ other. cond (eqb other.number reply.number) (dropped other) other) speaker.session.replies in
      let rest : Speaker S = record speaker { session = record speaker.session { replies = replies } } in
      answers-sound number (spelling_of (RpcAnswerDropped reply.number reply.seq (length (kept_of reply).body))) rest (λ of_name of_call good. apart of_name of_call)
      (replies-sound replies speaker
      (λ own.
      all-map (IsAnswer pair (Ran speaker)) (IsAnswer pair (Ran speaker)) (λ other. cond (eqb other.number reply.number) (dropped other) other) speaker.session.replies
      (λ other answer.
      cond_both (eqb other.number reply.number) (dropped other) other (IsAnswer pair (Ran speaker))
      (λ is. cond_both (is_kept other) _ other (IsAnswer pair (Ran speaker)) (λ is. answer) (λ is. answer)) (λ is. answer))
      (s.answers own))
      s)
  drops_by-sound number None None speaker apart s = answers-sound number (spelling_of RpcAnswerUnknown) speaker (λ of_name of_call good. apart of_name of_call) s

  drops-sound : (number call : ℕ) (speaker : Speaker S) → (name ≡ pair.name → number ≡ pair.earlier → Ran speaker) → P speaker → P (drops_answer setting number call speaker)
  drops-sound number call speaker apart s =
      drops_by-sound number (first_job (is_call speaker.session.key speaker.session.number call) speaker.jobs)
      (find (λ reply. is_kept reply && (reply.call == call)) speaker.session.replies) speaker apart s

  binds_by-sound : (number : ℕ) (binding : Option Binding) (speaker : Speaker S) → (name ≡ pair.name → number ≡ pair.earlier → Ran speaker) → P speaker
      → P (binds_by setting number binding speaker)
  binds_by-sound number None speaker apart s = answers-sound number encrypted_message_invalid speaker (λ of_name of_call good. apart of_name of_call) s
  binds_by-sound number (Some binding) speaker apart s =
      let bindings = with_binding binding speaker.bindings in
      let bound : Speaker S = record speaker { bindings = bindings } in
      answers-sound number bool_true_content bound (λ of_name of_call good. apart of_name of_call)
      (record { named = s.named; waiting = s.waiting; answers = s.answers; behind = s.behind; honest = s.honest; stays = s.stays })

  -- ---- rows

  -- what an item under this number is, where this session is the one
  abbrev pub IsOwn : ℕ → Item → Type 0
  IsOwn number item = name ≡ pair.name → IsFor pair number item

  never : (number : ℕ) (item : Item) (speaker : Speaker S) → is_aside item ≡ true → IsOwn number item → name ≡ pair.name → number ≡ pair.earlier → Ran speaker
  never number item speaker is own of_name of_call = absurd (true-false (sym is ∙ (own of_name).runs of_call))

  accepts-sound : (number : ℕ) (item : Item) (body : List ℕ) (speaker : Speaker S) → IsOwn number item → P speaker → P (accepts setting number item body speaker)
  accepts-sound number Packed body speaker own s = in_place-sound number body packed_body_refused speaker packed-bad s
  accepts-sound number (Broken constructor) body speaker own s = broken-sound number constructor body speaker s
  accepts-sound number (AuthBindTempAuthKey perm nonce expires message) body speaker own s =
      let call : BindingCall = record { number = number; perm = perm; nonce = nonce; expires = expires; message = message } in
      binds_by-sound number (setting.bound_by setting.now (name_of speaker.session) call) speaker
      (never number (AuthBindTempAuthKey perm nonce expires message) speaker refl own) s
  accepts-sound number Call body speaker own s = call-sound number [] body speaker (λ of_name of_call. (own of_name).waits of_call refl) s
  accepts-sound number (InvokeAfterMsg other query) body speaker own s =
      call-sound number (other ∷ []) query speaker (λ of_name of_call. (own of_name).waits of_call refl) s
  accepts-sound number (InvokeAfterMsgs numbers query) body speaker own s =
      call-sound number numbers query speaker (λ of_name of_call. (own of_name).waits of_call refl) s
  accepts-sound number (RpcDropAnswer call) body speaker own s = drops-sound number call speaker (never number (RpcDropAnswer call) speaker refl own) s
  accepts-sound number (Ping ping) body speaker own s = says-sound (Pong number ping) speaker s
  accepts-sound number (PingDelayDisconnect ping delay) body speaker own s = says-sound (Pong number ping) speaker s
  accepts-sound number (GetFutureSalts count) body speaker own s = tells_salts-sound number (min count future_rows_max) speaker s
  accepts-sound number (MsgsAck numbers) body speaker own s = acks-sound numbers speaker s
  accepts-sound number (MsgsStateReq numbers) body speaker own s = states-sound number numbers speaker s
  accepts-sound number (MsgResendReq numbers) body speaker own s = sends_again-sound number numbers speaker s
  accepts-sound number _ body speaker own s = s

  -- an accepted item is such
  abbrev pub IsVerdictFor : ℕ → Verdict → Type 0
  IsVerdictFor number verdict = (item : Item) → verdict ≡ Accepted item → IsOwn number item

  pub owes-sound : (number seq : ℕ) (verdict : Verdict) (body : List ℕ) → IsVerdictFor number verdict → (speaker : Speaker S) → P speaker
      → P (owes setting number seq verdict body speaker)
  owes-sound number seq (Noticed code) body is speaker s = notices-sound number seq code speaker s
  owes-sound number seq (Again mark) body is speaker s = came-sound number seq (mark_in speaker.session number) speaker s
  owes-sound number seq (Accepted item) body is speaker s = accepts-sound number item body speaker (is item refl) s

  -- ---- an attach

  attached-sound : (replies : List Reply) (speaker : Speaker S) → P speaker → P (fold (λ speaker reply. says_again reply speaker) speaker replies)
  attached-sound [] speaker s = s
  attached-sound (reply ∷ replies) speaker s = attached-sound replies (says_again reply speaker) (again-sound reply speaker s)

  pub attaches-sound : (speaker : Speaker S) → P speaker → P (attaches setting speaker)
  attaches-sound speaker s =
      attached-sound (filter is_kept speaker.session.replies) (cond (has_accepted speaker.session) speaker (says_it_is_new setting speaker))
      (cond_both (has_accepted speaker.session) speaker (says_it_is_new setting speaker) P (λ is. s) (λ is. new-sound speaker s))
