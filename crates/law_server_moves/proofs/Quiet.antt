-- Jobs fail for the session of a packet alone, and the others are left as they were.
use Rattle.std.proofs.Common.{◌≡◌, ℕ, zero, suc, ◌==◌, ◌&&◌, not, Bool, true, false, Option, None, Some, List, [], ◌∷◌, fold, length, inl, inr, refl, sym, ap, subst, ◌∙◌}
use Rattle.std.specs.Prelude.{◌⊎◌, is_some}
use Rattle.std.specs.List.{AllByRecursion, Contains, find, list_all, list_any}
use Rattle.std.proofs.lemmas.Bool.{cases_Bool, cond_both}
use Rattle.service_tl.specs.declared.item.Item.{Item}
use Rattle.service_tl.specs.declared.item.Item.TheVariants.{Packed, Broken, AuthBindTempAuthKey, Call, InvokeAfterMsg, InvokeAfterMsgs, RpcDropAnswer, Ping, PingDelayDisconnect, GetFutureSalts, MsgsAck, MsgsStateReq, MsgResendReq, BadServerSalt, BadMsgNotification, DestroySession, DestroySessionOk, DestroySessionNone}
use Rattle.service_tl.specs.Schema.{rpc_drop_answer}
use Rattle.id_window.specs.declared.mark.Mark.{Mark}
use Rattle.id_window.specs.declared.mark.Mark.TheVariants.{Noticed as MarkNoticed, Replied, Dropped}
use Rattle.inbox.specs.Verdicts.{Verdict, Accepted, Again, Noticed}
use Rattle.waits.specs.declared.job.Job.{Job}
use Rattle.waits.specs.declared.job.Unfinished.{Unfinished}
use Rattle.waits.specs.Jobs.{Queue, accepted, after_answer, first_job, has_failed, is_call, is_of, settled, told as job_told, waits_for, without_first, without_session as without_jobs_of}
use Rattle.server_rules.specs.Server.{Binding, Name, Reply, Session, is_kept, is_named, is_same, mark_in, name_of, reply_to, session_named, without_session}
use Rattle.server_rules.specs.Event.{Setting, Speaker, State, lost, speaker_in, speaks, spoken_by}
use Rattle.server_rules.specs.Speaking.{answers, answers_in_place, bad_body, has_said, message_of, msg_wait_failed, owes_message, says, says_again, says_with_salt}
use Rattle.server_rules.specs.Waiting.{GoesOn, InVain, Outlook, Over, after_failures, all_given_up, first_given_up, given_up, gives_up, outlook, tells_of, told}
use Rattle.server_rules.specs.Calls.{accepts_call, becomes_job, binds_by, drops_by, dropped_running, job_of, refusal}
use Rattle.server_rules.specs.Rows.{accepts, answers_broken, came_again, destroys, kept_numbered, notices, owes, row, says_reply, sends_again, tells_states}
use Rattle.law_server_moves.proofs.Lists.{all_append, all_of, each_of, from_filter, map_all}
use Rattle.law_server_moves.proofs.Losing.{and_right, eq_true}
use Rattle.law_server_moves.proofs.One.{put}
use Rattle.law_server_moves.proofs.Found.{first_in, found_in}
use Rattle.law_server_moves.proofs.Events.{all_mapped, and_first, name_is}

abbrev named : ℕ → ℕ → Name
named key session = record { key = key; session = session }

-- ---- jobs

-- a job that has failed is one of this name
abbrev pub IsOwn : Name → Unfinished → Type 0
IsOwn name one = one.failed ≡ true → is_of name.key name.session one ≡ true

abbrev pub FailedOwn : Name → Queue → Type 0
FailedOwn name jobs = AllByRecursion (IsOwn name) jobs

pub none_failed : (name : Name) (jobs : Queue) → AllByRecursion (λ (one : Unfinished). one.failed ≡ false) jobs → FailedOwn name jobs
none_failed name jobs h = map_all (λ (one : Unfinished). one.failed ≡ false) (IsOwn name) jobs (λ one there is fails. let e : false ≡ true = sym is ∙ fails in absurd (cc)) h

first_own : (name : Name) (test : Unfinished → Bool) (jobs : Queue) → FailedOwn name jobs → FailedOwn name (without_first test jobs)
first_own name test [] h = tt
first_own name test (one ∷ jobs) h =
    elim (cases_Bool (test one)) [
      | inl is ↦ rw is h.1
      | inr fails ↦ rw fails (h.0, first_own name test jobs h.1)
    ]

told_own : (name : Name) (number : ℕ) (ok : Bool) (one : Unfinished) → is_of name.key name.session one ≡ true → IsOwn name (job_told number ok one)
told_own name number true one is = λ fails. is
told_own name number false one is = λ fails. is

after_own : (name : Name) (number : ℕ) (ok : Bool) (one : Unfinished) → IsOwn name one → IsOwn name (after_answer name.key name.session number ok one)
after_own name number ok one h =
    elim (cases_Bool (waits_for name.key name.session number one)) [
      | inl is ↦ rw is (told_own name number ok one (and_first (is_of name.key name.session one) (list_any (λ awaited. awaited == number) one.job.after) is))
      | inr fails ↦ rw fails h
    ]

settled_own : (name : Name) (number : ℕ) (ok : Bool) (jobs : Queue) → FailedOwn name jobs → FailedOwn name (settled name.key name.session number ok jobs)
settled_own name number ok [] h = tt
settled_own name number ok (one ∷ jobs) h = (after_own name number ok one h.0, settled_own name number ok jobs h.1)

outlook_own : (outlook : Outlook) (x : Session) (number : ℕ) (jobs : Queue) → FailedOwn (name_of x) jobs → FailedOwn (name_of x) (told outlook x number jobs)
outlook_own Over x number jobs h = settled_own (name_of x) number true jobs h
outlook_own InVain x number jobs h = settled_own (name_of x) number false jobs h
outlook_own GoesOn x number jobs h = h

lost_own : (name other : Name) (jobs : Queue) → FailedOwn name jobs → FailedOwn name (without_jobs_of other.key other.session jobs)
lost_own name other jobs h =
    all_of (IsOwn name) (without_jobs_of other.key other.session jobs)
    (λ one there. each_of (IsOwn name) jobs h one (from_filter (λ (one : Unfinished). not (is_of other.key other.session one)) jobs one there).0)

accepted_own : (name : Name) (job : Job) (jobs : Queue) → FailedOwn name jobs → FailedOwn name (accepted job jobs)
accepted_own name job jobs h = all_append (IsOwn name) jobs (record { job = job; failed = false } ∷ []) h (λ fails. absurd (cc), tt)

-- ---- what the session says and answers

module _ {S : Type 0} (setting : Setting S) where
  -- its jobs have failed alone, if they had before
  abbrev From : Speaker S → Speaker S → Type 0
  From before after = FailedOwn (name_of before.session) before.jobs → FailedOwn (name_of before.session) after.jobs

  itself : (speaker : Speaker S) → From speaker speaker
  itself speaker h = h

  notices_own : (number seq code : ℕ) (speaker : Speaker S) → From speaker (notices setting number seq code speaker)
  notices_own number seq code speaker =
      cond_both (code == 48) (says_with_salt setting (λ salt. BadServerSalt number seq 48 salt) speaker) (says setting (BadMsgNotification number seq code) speaker) (From speaker)
      (λ is h. h) (λ is h. h)

  again_own : (reply : Reply) (speaker : Speaker S) → (says_again reply speaker).jobs ≡ speaker.jobs
  again_own reply speaker = cond_both (has_said reply.number speaker) speaker (owes_message (message_of reply) speaker) (λ (s : Speaker S). s.jobs ≡ speaker.jobs) (λ is. refl) (λ is. refl)

  reply_own : (reply : Option Reply) (speaker : Speaker S) → (says_reply reply speaker).jobs ≡ speaker.jobs
  reply_own None speaker = refl
  reply_own (Some reply) speaker = again_own reply speaker

  same_own : (before after : Speaker S) → after.jobs ≡ before.jobs → From before after
  same_own before after is h = subst (λ (jobs : Queue). FailedOwn (name_of before.session) jobs) (sym is) h

  came_own : (number seq : ℕ) (mark : Option Mark) (speaker : Speaker S) → From speaker (came_again setting number seq mark speaker)
  came_own number seq (Some (MarkNoticed code)) speaker = notices_own number seq code speaker
  came_own number seq (Some (Replied good)) speaker =
      same_own speaker (says_reply (reply_to number speaker.session.replies) speaker) (reply_own (reply_to number speaker.session.replies) speaker)
  came_own number seq (Some (Dropped good)) speaker = notices_own number seq 20 speaker
  came_own number seq _ speaker = itself speaker

  all_again_own : (numbers : List ℕ) (speaker : Speaker S) → (fold (λ speaker other. says_reply (kept_numbered speaker.session.replies other) speaker) speaker numbers).jobs ≡ speaker.jobs
  all_again_own [] speaker = refl
  all_again_own (number ∷ numbers) speaker =
      all_again_own numbers (says_reply (kept_numbered speaker.session.replies number) speaker) ∙ reply_own (kept_numbered speaker.session.replies number) speaker

  sends_own : (number : ℕ) (numbers : List ℕ) (speaker : Speaker S) → From speaker (sends_again setting number numbers speaker)
  sends_own number numbers speaker =
      let all : Speaker S = fold (λ speaker other. says_reply (kept_numbered speaker.session.replies other) speaker) speaker numbers in
      cond_both (list_all (λ other. is_some (kept_numbered speaker.session.replies other)) numbers) all (tells_states setting number numbers speaker) (From speaker)
      (λ is. same_own speaker all (all_again_own numbers speaker)) (λ is h. h)

  broken_own : (number constructor : ℕ) (body : List ℕ) (speaker : Speaker S) → From speaker (answers_broken setting number constructor body speaker)
  broken_own number constructor body speaker =
      cond_both (constructor == rpc_drop_answer.number) (answers setting number bad_body speaker) (answers_in_place setting number body bad_body speaker) (From speaker)
      (λ is h. h) (λ is h. h)

  becomes_own : (job : Job) (content : Option (List ℕ)) (speaker : Speaker S) → From speaker (becomes_job setting job content speaker)
  becomes_own job (Some content) speaker h = h
  becomes_own job None speaker h = accepted_own (name_of speaker.session) job speaker.jobs h

  call_own : (number : ℕ) (numbers request : List ℕ) (speaker : Speaker S) → From speaker (accepts_call setting number numbers request speaker)
  call_own number numbers request speaker = let job = job_of setting number numbers request speaker in becomes_own job (refusal setting job speaker) speaker

  drops_own : (number : ℕ) (job : Option Job) (reply : Option Reply) (speaker : Speaker S) → From speaker (drops_by setting number job reply speaker)
  drops_own number (Some job) reply speaker h =
      let own : Speaker S = answers setting number dropped_running speaker in
      let rest : Speaker S = record own { jobs = without_first (is_call job.key job.session job.number) own.jobs } in
      let done : Speaker S = answers_in_place setting job.number job.request dropped_running rest in
      outlook_own (outlook done.session done.jobs job.number) done.session job.number done.jobs (first_own (name_of speaker.session) (is_call job.key job.session job.number) speaker.jobs h)
  drops_own number None (Some reply) speaker h = h
  drops_own number None None speaker h = h

  binds_own : (number : ℕ) (binding : Option Binding) (speaker : Speaker S) → From speaker (binds_by setting number binding speaker)
  binds_own number None speaker h = h
  binds_own number (Some binding) speaker h = h

  accepts_own : (number : ℕ) (item : Item) (body : List ℕ) (speaker : Speaker S) → From speaker (accepts setting number item body speaker)
  accepts_own number Packed body speaker = itself speaker
  accepts_own number (Broken constructor) body speaker = broken_own number constructor body speaker
  accepts_own number (AuthBindTempAuthKey perm nonce expires message) body speaker =
      binds_own number (setting.bound_by setting.now (name_of speaker.session) (record { number = number; perm = perm; nonce = nonce; expires = expires; message = message })) speaker
  accepts_own number Call body speaker = call_own number [] body speaker
  accepts_own number (InvokeAfterMsg other query) body speaker = call_own number (other ∷ []) query speaker
  accepts_own number (InvokeAfterMsgs others query) body speaker = call_own number others query speaker
  accepts_own number (RpcDropAnswer call) body speaker =
      drops_own number (first_job (is_call speaker.session.key speaker.session.number call) speaker.jobs) (find (λ reply. is_kept reply && (reply.call == call)) speaker.session.replies) speaker
  accepts_own number (Ping ping) body speaker = itself speaker
  accepts_own number (PingDelayDisconnect ping delay) body speaker = itself speaker
  accepts_own number (GetFutureSalts count) body speaker = itself speaker
  accepts_own number (MsgsAck numbers) body speaker = itself speaker
  accepts_own number (MsgsStateReq numbers) body speaker = itself speaker
  accepts_own number (MsgResendReq numbers) body speaker = sends_own number numbers speaker
  accepts_own number _ body speaker = itself speaker

  pub owes_own : (number seq : ℕ) (verdict : Verdict) (body : List ℕ) (speaker : Speaker S) → From speaker (owes setting number seq verdict body speaker)
  owes_own number seq (Noticed code) body speaker = notices_own number seq code speaker
  owes_own number seq (Again mark) body speaker = came_own number seq (mark_in speaker.session number) speaker
  owes_own number seq (Accepted item) body speaker = accepts_own number item body speaker

  tells_own : (number : ℕ) (speaker : Speaker S) → From speaker (tells_of number speaker)
  tells_own number speaker h = outlook_own (outlook speaker.session speaker.jobs number) speaker.session number speaker.jobs h

  gives_up_own : (content : List ℕ) (job : Job) (speaker : Speaker S) → From speaker (gives_up setting content job speaker)
  gives_up_own content job speaker h = tells_own job.number (answers_in_place setting job.number job.request content speaker) h

  -- ---- an event

  module _ (name : Name) (from : List Session) where
    abbrev pub IsOther : Session → Type 0
    IsOther o = (is_named name o ≡ true) ⊎ Contains from o

    -- jobs have failed for the session of this name alone, and the others are some of these
    pub record IsQuiet (state : State S) : Type 0 where
      pub others : AllByRecursion IsOther state.sessions
      pub failed : FailedOwn name state.jobs

    abbrev IsSpeech : (Speaker S → Speaker S) → State S → Type 0
    IsSpeech speak state =
        (y : Session) → session_named name state.sessions ≡ Some y
        → (name_of (speak (speaker_in state y)).session ≡ name_of y) × From (speaker_in state y) (speak (speaker_in state y))

    speaks_by : (speak : Speaker S → Speaker S) (state : State S) → IsSpeech speak state → IsQuiet state → (found : Option Session) → session_named name state.sessions ≡ found
        → IsQuiet (spoken_by found speak state)
    speaks_by speak state its h None is = h
    speaks_by speak state its h (Some y) is =
        let b : Speaker S = speak (speaker_in state y) in
        let one = its y is in
        let same : name ≡ name_of y = name_is name y (found_in (is_named name) state.sessions y is).1 in
        let named : is_named name b.session ≡ true = ap (λ (n : Name). is_same name n) one.0 ∙ (found_in (is_named name) state.sessions y is).1 in
        record {
          others = all_mapped IsOther (put b.session) state.sessions
              (λ o there.
              elim (cases_Bool (is_named (name_of b.session) o)) [
                | inl is ↦ rw is (inl named)
                | inr not_so ↦ rw not_so (each_of IsOther state.sessions h.others o there)
              ]);
          failed = subst (λ (n : Name). FailedOwn n b.jobs) (sym same) (one.1 (subst (λ (n : Name). FailedOwn n state.jobs) same h.failed));
        }

    pub own_speaks : (speak : Speaker S → Speaker S) (state : State S) → IsSpeech speak state → IsQuiet state → IsQuiet (speaks name speak state)
    own_speaks speak state its h = speaks_by speak state its h (session_named name state.sessions) refl

    pub quiet_lost : (other : Name) (state : State S) → IsQuiet state → IsQuiet (lost other state)
    quiet_lost other state h = record {
      others = all_of IsOther (without_session other state.sessions)
          (λ o there. each_of IsOther state.sessions h.others o (from_filter (λ (o : Session). not (is_named other o)) state.sessions o there).0);
      failed = lost_own name other state.jobs h.failed;
    }

    quiet_says : (item : Item) (state : State S) → IsQuiet state → IsQuiet (speaks name (says setting item) state)
    quiet_says item state h = own_speaks (says setting item) state (λ y is. (refl, λ own. own)) h

    quiet_destroys : (number destroyed : ℕ) (state : State S) → IsQuiet state → IsQuiet (destroys setting number destroyed name state)
    quiet_destroys number destroyed state h =
        let other : Name = record name { session = destroyed } in
        cond_both (not (destroyed == name.session) && is_some (session_named other state.sessions)) (speaks name (says setting (DestroySessionOk destroyed)) (lost other state))
        (speaks name (says setting (DestroySessionNone destroyed)) state) IsQuiet
        (λ is. quiet_says (DestroySessionOk destroyed) (lost other state) (quiet_lost other state h)) (λ is. quiet_says (DestroySessionNone destroyed) state h)

    pub quiet_tells : (number : ℕ) (state : State S) → IsQuiet state → IsQuiet (speaks name (tells_of number) state)
    quiet_tells number state h = own_speaks (tells_of number) state (λ y is. (refl, tells_own number (speaker_in state y))) h

    -- a job that has failed is one of this name
    module _ (content : List ℕ) where
      abbrev failed_first : Queue → Option Job × Queue
      failed_first queue = (first_job has_failed queue, without_first has_failed queue)

      given_quiet : (found : Option Job) (state : State S) → first_job has_failed state.jobs ≡ found → IsQuiet state
          → IsQuiet (given_up setting content found (record state { jobs = without_first has_failed state.jobs }))
      given_quiet None state is h = record { others = h.others; failed = first_own name has_failed state.jobs h.failed }
      given_quiet (Some job) state is h =
          let rest : State S = record state { jobs = without_first has_failed state.jobs } in
          let one = first_in has_failed state.jobs job is in
          let its : is_of name.key name.session one.0 ≡ true = each_of (IsOwn name) state.jobs h.failed one.0 one.1 one.3 in
          let key : one.0.job.key ≡ name.key = eq_true one.0.job.key name.key (and_first (one.0.job.key == name.key) (one.0.job.session == name.session) its) in
          let session : one.0.job.session ≡ name.session = eq_true one.0.job.session name.session (and_right (one.0.job.key == name.key) (one.0.job.session == name.session) its) in
          let same : record { key = job.key; session = job.session } ≡ name =
          ap (λ (k : ℕ). named k job.session) (ap (λ (j : Job). j.key) (sym one.2) ∙ key) ∙ ap (λ (n : ℕ). named name.key n) (ap (λ (j : Job). j.session) (sym one.2) ∙ session) in
          subst (λ (n : Name). IsQuiet (speaks n (gives_up setting content job) rest)) (sym same)
          (own_speaks (gives_up setting content job) rest (λ y found. (refl, gives_up_own content job (speaker_in rest y))) (record { others = h.others; failed = first_own name has_failed state.jobs h.failed }))

      all_quiet : (n : ℕ) (state : State S) → IsQuiet state → IsQuiet (all_given_up setting content failed_first n state)
      all_quiet zero state h = h
      all_quiet (suc n) state h = all_quiet n (first_given_up setting content failed_first state) (given_quiet (first_job has_failed state.jobs) state refl h)

    pub quiet_failures : (state : State S) → IsQuiet state → IsQuiet (after_failures setting state)
    quiet_failures state h = all_quiet msg_wait_failed (length state.jobs) state h

    module _ (alone : (number seq : ℕ) (verdict : Verdict) (body : List ℕ) (speaker : Speaker S) → name_of (owes setting number seq verdict body speaker).session ≡ name_of speaker.session) where
      quiet_owes : (number seq : ℕ) (verdict : Verdict) (body : List ℕ) (state : State S) → IsQuiet state → IsQuiet (speaks name (owes setting number seq verdict body) state)
      quiet_owes number seq verdict body state h =
          own_speaks (owes setting number seq verdict body) state
          (λ y is. (alone number seq verdict body (speaker_in state y), owes_own number seq verdict body (speaker_in state y))) h

      pub quiet_row : (number seq : ℕ) (verdict : Verdict) (body : List ℕ) (state : State S) → IsQuiet state → IsQuiet (row setting name number seq verdict body state)
      quiet_row number seq (Accepted (DestroySession destroyed)) body state h = quiet_destroys number destroyed state h
      quiet_row number seq (Accepted item) body state h = quiet_owes number seq (Accepted item) body state h
      quiet_row number seq (Again mark) body state h = quiet_owes number seq (Again mark) body state h
      quiet_row number seq (Noticed code) body state h = quiet_owes number seq (Noticed code) body state h
