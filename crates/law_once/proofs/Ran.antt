-- Only a job that runs is entered as one that ran.
use Rattle.std.proofs.Common.{◌≡◌, ℕ, zero, suc, ◌==◌, ◌&&◌, not, Bool, true, false, Option, None, Some, List, [], ◌∷◌, ◌++◌, map, filter, fold, length, if◌then◌else◌, inl, inr, refl, ap, ◌∙◌}
use Rattle.std.specs.Prelude.{is_some}
use Rattle.std.specs.List.{find, list_all, zip}
use Rattle.std.proofs.lemmas.Bool.{cases_Bool, cond_both}
use Rattle.salt_line.specs.Line.{current_salt}
use Rattle.service_tl.specs.declared.item.Item.{Item}
use Rattle.service_tl.specs.declared.item.Item.TheVariants.{Packed, Broken, AuthBindTempAuthKey, Call, InvokeAfterMsg, InvokeAfterMsgs, RpcDropAnswer, Ping, PingDelayDisconnect, GetFutureSalts, MsgsAck, MsgsStateReq, MsgResendReq, BadServerSalt, BadMsgNotification, DestroySession, DestroySessionOk, DestroySessionNone}
use Rattle.service_tl.specs.declared.lists.Message.{Message}
use Rattle.service_tl.specs.Schema.{rpc_drop_answer}
use Rattle.id_window.specs.History.{History}
use Rattle.id_window.specs.declared.mark.Mark.{Mark}
use Rattle.id_window.specs.declared.mark.Mark.TheVariants.{Noticed as MarkNoticed, Replied, Dropped}
use Rattle.inbox.specs.Verdicts.{Judgement, Verdict, Accepted, Again, Noticed}
use Rattle.inbox.specs.Refusals.{InEnvelope}
use Rattle.inbox.specs.Judging.{judgements, session_after}
use Rattle.packing.specs.Packing.{after_packets, packets_of}
use Rattle.regs_service.specs.Served.{Ran}
use Rattle.waits.specs.declared.job.Job.{Job}
use Rattle.waits.specs.Jobs.{Queue, first_job, is_call, without_ready}
use Rattle.server_rules.specs.Server.{Binding, Name, Reply, Session, has_accepted, is_kept, mark_in, name_of, remembered, reply_to, session_named}
use Rattle.server_rules.specs.Event.{Entry, Envelope, Setting, Speaker, State, lost, speaker_in, speaks, spoken_by}
use Rattle.server_rules.specs.Speaking.{answers, answers_in_place, bad_body, has_said, message_of, needs_salts, owes_message, says, says_again, says_it_is_new, says_with_salt}
use Rattle.server_rules.specs.Waiting.{after_failures, after_timeouts, all_given_up, first_given_up, given_up, gives_up, tells_of}
use Rattle.server_rules.specs.Calls.{accepts_call, becomes_job, binds_by, drops_by, job_of, refusal}
use Rattle.server_rules.specs.Rows.{accepts, acknowledges, acks_of, answers_broken, came_again, destroys, kept_numbered, notices, owes, row, says_reply, sends_again, settles}
use Rattle.server_rules.specs.Sending.{all_sent, messages_by, names_in, seals, sends}
use Rattle.server_rules.specs.Answer.{attaches, finishes, hears, hears_by, is_spent, message_in, messages_judged, name_in, opens, runs, takes, takes_by, ticks, with_place, without_first, without_spent}

-- what ran, of some entries
abbrev pub ran_of : List Entry → List Ran
ran_of entries = map (λ (entry : Entry). record { request = entry.request; reply = entry.reply }) (filter (λ (entry : Entry). entry.ran) entries)

abbrev entered : Bool → ℕ → ℕ → ℕ → List ℕ → List ℕ → Entry
entered ran key session number request reply =
    record { key = key; session = session; number = number; request = request; reply = reply; ran = ran }

pub push_other : (entries : List Entry) (key session number : ℕ) (request reply : List ℕ)
    → ran_of (entries ++ entered false key session number request reply ∷ []) ≡ ran_of entries
push_other [] key session number request reply = refl
push_other (entry ∷ entries) key session number request reply =
    elim (cases_Bool entry.ran) [
      | inl is ↦ rw is (ap (λ (l : List Ran). record { request = entry.request; reply = entry.reply } ∷ l) (push_other entries key session number request reply))
      | inr not_so ↦ rw not_so (push_other entries key session number request reply)
    ]

pub push_ran : (entries : List Entry) (key session number : ℕ) (request reply : List ℕ)
    → ran_of (entries ++ entered true key session number request reply ∷ []) ≡ ran_of entries ++ record { request = request; reply = reply } ∷ []
push_ran [] key session number request reply = refl
push_ran (entry ∷ entries) key session number request reply =
    elim (cases_Bool entry.ran) [
      | inl is ↦ rw is (ap (λ (l : List Ran). record { request = entry.request; reply = entry.reply } ∷ l) (push_ran entries key session number request reply))
      | inr not_so ↦ rw not_so (push_ran entries key session number request reply)
    ]

module _ {S : Type 0} (setting : Setting S) where
  -- ---- a session that speaks

  -- the same ran
  abbrev pub Same : Speaker S → Speaker S → Type 0
  Same before after = ran_of after.entries ≡ ran_of before.entries

  in_place : (call : ℕ) (request content : List ℕ) (speaker : Speaker S) → Same speaker (answers_in_place setting call request content speaker)
  in_place call request content speaker = push_other speaker.entries speaker.session.key speaker.session.number call request content

  notices_same : (number seq code : ℕ) (speaker : Speaker S) → Same speaker (notices setting number seq code speaker)
  notices_same number seq code speaker =
      cond_both (code == 48) (says_with_salt setting (λ salt. BadServerSalt number seq 48 salt) speaker) (says setting (BadMsgNotification number seq code) speaker) (Same speaker)
      (λ is. refl) (λ is. refl)

  again_same : (reply : Reply) (speaker : Speaker S) → Same speaker (says_again reply speaker)
  again_same reply speaker = cond_both (has_said reply.number speaker) speaker (owes_message (message_of reply) speaker) (Same speaker) (λ is. refl) (λ is. refl)

  reply_same : (reply : Option Reply) (speaker : Speaker S) → Same speaker (says_reply reply speaker)
  reply_same None speaker = refl
  reply_same (Some reply) speaker = again_same reply speaker

  came_same : (number seq : ℕ) (mark : Option Mark) (speaker : Speaker S) → Same speaker (came_again setting number seq mark speaker)
  came_same number seq (Some (MarkNoticed code)) speaker = notices_same number seq code speaker
  came_same number seq (Some (Replied good)) speaker = reply_same (reply_to number speaker.session.replies) speaker
  came_same number seq (Some (Dropped good)) speaker = notices_same number seq 20 speaker
  came_same number seq _ speaker = refl

  all_again_same : (numbers : List ℕ) (speaker : Speaker S) → Same speaker (fold (λ speaker other. says_reply (kept_numbered speaker.session.replies other) speaker) speaker numbers)
  all_again_same [] speaker = refl
  all_again_same (number ∷ numbers) speaker =
      all_again_same numbers (says_reply (kept_numbered speaker.session.replies number) speaker) ∙ reply_same (kept_numbered speaker.session.replies number) speaker

  sends_again_same : (number : ℕ) (numbers : List ℕ) (speaker : Speaker S) → Same speaker (sends_again setting number numbers speaker)
  sends_again_same number numbers speaker =
      cond_both (list_all (λ other. is_some (kept_numbered speaker.session.replies other)) numbers) _ _ (Same speaker) (λ is. all_again_same numbers speaker) (λ is. refl)

  broken_same : (number constructor : ℕ) (body : List ℕ) (speaker : Speaker S) → Same speaker (answers_broken setting number constructor body speaker)
  broken_same number constructor body speaker =
      cond_both (constructor == rpc_drop_answer.number) (answers setting number bad_body speaker) (answers_in_place setting number body bad_body speaker) (Same speaker)
      (λ is. refl) (λ is. in_place number body bad_body speaker)

  becomes_same : (job : Job) (content : Option (List ℕ)) (speaker : Speaker S) → Same speaker (becomes_job setting job content speaker)
  becomes_same job (Some content) speaker = in_place job.number job.request content speaker
  becomes_same job None speaker = refl

  call_same : (number : ℕ) (numbers request : List ℕ) (speaker : Speaker S) → Same speaker (accepts_call setting number numbers request speaker)
  call_same number numbers request speaker =
      let job = job_of setting number numbers request speaker in becomes_same job (refusal setting job speaker) speaker

  drops_same : (number : ℕ) (job : Option Job) (reply : Option Reply) (speaker : Speaker S) → Same speaker (drops_by setting number job reply speaker)
  drops_same number (Some job) reply speaker = push_other speaker.entries speaker.session.key speaker.session.number job.number job.request _
  drops_same number None (Some reply) speaker = refl
  drops_same number None None speaker = refl

  binds_same : (number : ℕ) (binding : Option Binding) (speaker : Speaker S) → Same speaker (binds_by setting number binding speaker)
  binds_same number None speaker = refl
  binds_same number (Some binding) speaker = refl

  accepts_same : (number : ℕ) (item : Item) (body : List ℕ) (speaker : Speaker S) → Same speaker (accepts setting number item body speaker)
  accepts_same number Packed body speaker = in_place number body _ speaker
  accepts_same number (Broken constructor) body speaker = broken_same number constructor body speaker
  accepts_same number (AuthBindTempAuthKey perm nonce expires message) body speaker =
      binds_same number (setting.bound_by setting.now (record { key = speaker.session.key; session = speaker.session.number }) (record { number = number; perm = perm; nonce = nonce; expires = expires; message = message })) speaker
  accepts_same number Call body speaker = call_same number [] body speaker
  accepts_same number (InvokeAfterMsg other query) body speaker = call_same number (other ∷ []) query speaker
  accepts_same number (InvokeAfterMsgs others query) body speaker = call_same number others query speaker
  accepts_same number (RpcDropAnswer call) body speaker =
      drops_same number (first_job (is_call speaker.session.key speaker.session.number call) speaker.jobs) (find (λ reply. is_kept reply && (reply.call == call)) speaker.session.replies) speaker
  accepts_same number (Ping ping) body speaker = refl
  accepts_same number (PingDelayDisconnect ping delay) body speaker = refl
  accepts_same number (GetFutureSalts count) body speaker = refl
  accepts_same number (MsgsAck numbers) body speaker = refl
  accepts_same number (MsgsStateReq numbers) body speaker = refl
  accepts_same number (MsgResendReq numbers) body speaker = sends_again_same number numbers speaker
  accepts_same number _ body speaker = refl

  owes_same : (number seq : ℕ) (verdict : Verdict) (body : List ℕ) (speaker : Speaker S) → Same speaker (owes setting number seq verdict body speaker)
  owes_same number seq (Noticed code) body speaker = notices_same number seq code speaker
  owes_same number seq (Again mark) body speaker = came_same number seq (mark_in speaker.session number) speaker
  owes_same number seq (Accepted item) body speaker = accepts_same number item body speaker

  acks_same : (numbers : List ℕ) (speaker : Speaker S) → Same speaker (acknowledges setting numbers speaker)
  acks_same [] speaker = refl
  acks_same (number ∷ numbers) speaker = refl

  opens_same : (history : History) (judged : List Judgement) (speaker : Speaker S) → Same speaker (opens setting history judged speaker)
  opens_same history judged speaker =
      let ready : Speaker S = record speaker { session = record speaker.session { history = history } } in
      acks_same (acks_of judged) (if has_accepted ready.session then ready else says_it_is_new setting ready)
      ∙ cond_both (has_accepted ready.session) ready (says_it_is_new setting ready) (Same speaker) (λ is. refl) (λ is. refl)

  kept_same : (replies : List Reply) (speaker : Speaker S) → Same speaker (fold (λ speaker reply. says_again reply speaker) speaker replies)
  kept_same [] speaker = refl
  kept_same (reply ∷ replies) speaker = kept_same replies (says_again reply speaker) ∙ again_same reply speaker

  attaches_same : (speaker : Speaker S) → Same speaker (attaches setting speaker)
  attaches_same speaker =
      let first : Speaker S = if has_accepted speaker.session then speaker else says_it_is_new setting speaker in
      kept_same (filter is_kept speaker.session.replies) first
      ∙ cond_both (has_accepted speaker.session) speaker (says_it_is_new setting speaker) (Same speaker) (λ is. refl) (λ is. refl)

  sealed_same : (salt : ℕ) (packets : List Message) (speaker : Speaker S) → (fold (seals setting salt) speaker packets).entries ≡ speaker.entries
  sealed_same salt [] speaker = refl
  sealed_same salt (packet ∷ packets) speaker = sealed_same salt packets (seals setting salt speaker packet)

  sends_same : (messages : List Message) (speaker : Speaker S) → Same speaker (sends setting messages speaker)
  sends_same messages speaker =
      let ready : Speaker S = needs_salts setting 1 speaker in
      let counters = after_packets setting.now ready.session.counters messages in
      ap ran_of (sealed_same (current_salt ready.session.salts setting.now) (packets_of setting.now ready.session.counters messages)
      (record ready { session = record ready.session { counters = counters } }))

  -- ---- an event

  abbrev pub SameState : State S → State S → Type 0
  SameState before after = ran_of after.entries ≡ ran_of before.entries

  by_session : (found : Option Session) (speak : Speaker S → Speaker S) (state : State S) → ((session : Session) → Same (speaker_in state session) (speak (speaker_in state session)))
      → SameState state (spoken_by found speak state)
  by_session None speak state so = refl
  by_session (Some session) speak state so = so session

  pub speaks_same : (name : Name) (speak : Speaker S → Speaker S) (state : State S) → ((speaker : Speaker S) → Same speaker (speak speaker)) → SameState state (speaks name speak state)
  speaks_same name speak state so = by_session (session_named name state.sessions) speak state (λ session. so (speaker_in state session))

  given_same : (content : List ℕ) (job : Option Job) (state : State S) → SameState state (given_up setting content job state)
  given_same content None state = refl
  given_same content (Some job) state =
      speaks_same (record { key = job.key; session = job.session }) (gives_up setting content job) state (λ speaker. in_place job.number job.request content speaker)

  all_given_same : (content : List ℕ) (first : Queue → Option Job × Queue) (n : ℕ) (state : State S) → SameState state (all_given_up setting content first n state)
  all_given_same content first zero state = refl
  all_given_same content first (suc n) state =
      all_given_same content first n (first_given_up setting content first state)
      ∙ given_same content (first state.jobs).0 (record state { jobs = (first state.jobs).1 })

  pub failures_same : (state : State S) → SameState state (after_failures setting state)
  failures_same state = all_given_same _ _ (length state.jobs) state

  pub ticks_same : (state : State S) → SameState state (ticks setting state)
  ticks_same state = failures_same (after_timeouts setting state) ∙ all_given_same _ _ (length state.jobs) state

  pub attached_same : (name : Name) (state : State S) → SameState state (speaks name (attaches setting) state)
  attached_same name state = speaks_same name (attaches setting) state attaches_same

  destroys_same : (number destroyed : ℕ) (name : Name) (state : State S) → SameState state (destroys setting number destroyed name state)
  destroys_same number destroyed name state =
      let other : Name = record name { session = destroyed } in
      cond_both (not (destroyed == name.session) && is_some (session_named other state.sessions))
      (speaks name (says setting (DestroySessionOk destroyed)) (lost other state)) (speaks name (says setting (DestroySessionNone destroyed)) state) (SameState state)
      (λ is. speaks_same name (says setting (DestroySessionOk destroyed)) (lost other state) (λ speaker. refl))
      (λ is. speaks_same name (says setting (DestroySessionNone destroyed)) state (λ speaker. refl))

  accepted_same : (name : Name) (number seq : ℕ) (item : Item) (body : List ℕ) (state : State S) → SameState state (row setting name number seq (Accepted item) body state)
  accepted_same name number seq (DestroySession destroyed) body state = destroys_same number destroyed name state
  accepted_same name number seq item body state = speaks_same name (owes setting number seq (Accepted item) body) state (owes_same number seq (Accepted item) body)

  row_same : (name : Name) (number seq : ℕ) (verdict : Verdict) (body : List ℕ) (state : State S) → SameState state (row setting name number seq verdict body state)
  row_same name number seq (Noticed code) body state = speaks_same name (owes setting number seq (Noticed code) body) state (owes_same number seq (Noticed code) body)
  row_same name number seq (Again mark) body state = speaks_same name (owes setting number seq (Again mark) body) state (owes_same number seq (Again mark) body)
  row_same name number seq (Accepted item) body state = accepted_same name number seq item body state

  all_settled_same : (name : Name) (judged : List (Judgement × List ℕ)) (state : State S) → SameState state (fold (settles setting name) state judged)
  all_settled_same name [] state = refl
  all_settled_same name (one ∷ judged) state =
      let done : State S = row setting name one.0.number one.0.seq one.0.verdict one.1 state in
      let told : State S = speaks name (tells_of one.0.number) done in
      all_settled_same name judged (settles setting name state one)
      ∙ failures_same told ∙ speaks_same name (tells_of one.0.number) done (λ speaker. refl)
      ∙ row_same name one.0.number one.0.seq one.0.verdict one.1 state

  placed_same : (sessions : List Session) (state : State S) → (without_first sessions state).entries ≡ state.entries
  placed_same [] state = refl
  placed_same (session ∷ sessions) state = refl

  place_same : (state : State S) → (with_place state).entries ≡ state.entries
  place_same state = cond_both _ state (without_first state.sessions state) (λ (s : State S). s.entries ≡ state.entries) (λ is. refl) (λ is. placed_same state.sessions state)

  hears_same : (envelope : Envelope) (found : Option Session) (state : State S) → (hears_by setting envelope found state).entries ≡ state.entries
  hears_same envelope None state = place_same state
  hears_same envelope (Some session) state = refl

  taken_same : (envelope : Envelope) (found : Option Session) (state : State S) → SameState state (takes_by setting envelope found state)
  taken_same envelope None state = refl
  taken_same envelope (Some session) state =
      let way = InEnvelope setting.now session.salts envelope.salt in
      let message : Message = message_in envelope in
      let judged = judgements way (remembered session) message in
      let bodies = map (λ (one : Message). one.body) (messages_judged way session message) in
      let history = (session_after way (remembered session) message).history in
      all_settled_same (name_of session) (zip judged bodies) (speaks (name_of session) (opens setting history judged) state)
      ∙ speaks_same (name_of session) (opens setting history judged) state (opens_same history judged)

  pub takes_same : (envelope : Envelope) (state : State S) → SameState state (takes setting envelope state)
  takes_same envelope state =
      let heard : State S = hears setting envelope state in
      taken_same envelope (session_named (name_in envelope) heard.sessions) heard
      ∙ ap ran_of (hears_same envelope (session_named (name_in envelope) state.sessions) state)

  -- ---- its end

  names_sent : (owed : List _) (names : List Name) (state : State S)
      → SameState state (fold (λ so_far name. speaks name (sends setting (messages_by name owed)) so_far) state names)
  names_sent owed [] state = refl
  names_sent owed (name ∷ names) state =
      names_sent owed names (speaks name (sends setting (messages_by name owed)) state)
      ∙ speaks_same name (sends setting (messages_by name owed)) state (sends_same (messages_by name owed))

  all_lost : (sessions : List Session) (state : State S) → (fold (λ so_far session. lost (name_of session) so_far) state sessions).entries ≡ state.entries
  all_lost [] state = refl
  all_lost (session ∷ sessions) state = all_lost sessions (lost (name_of session) state)

  pub ended_same : (state : State S) → SameState state (without_spent (all_sent setting state))
  ended_same state = ap ran_of (all_lost (filter is_spent (all_sent setting state).sessions) (all_sent setting state)) ∙ names_sent state.owed (names_in state.owed) state

  -- ---- a job that runs

  finished_by : (job : Job) (reply : List ℕ) (found : Option Session) (session : Session) (state : State S) → found ≡ Some session
      → ran_of (spoken_by found (finishes setting job reply) state).entries ≡ ran_of state.entries ++ record { request = job.request; reply = reply } ∷ []
  finished_by job reply None session state is = absurd (cc)
  finished_by job reply (Some other) session state is = push_ran state.entries other.key other.number job.number job.request reply

  pub runs_so : (place : ℕ) (job : Job) (reply : List ℕ) (session : Session) (state : State S)
      → session_named (record { key = job.key; session = job.session }) state.sessions ≡ Some session
      → ran_of (runs setting place job reply state).entries ≡ ran_of state.entries ++ record { request = job.request; reply = reply } ∷ []
  runs_so place job reply session state is =
      failures_same (speaks (record { key = job.key; session = job.session }) (finishes setting job reply) (record state { jobs = without_ready place state.jobs }))
      ∙ finished_by job reply (session_named (record { key = job.key; session = job.session }) state.sessions) session (record state { jobs = without_ready place state.jobs }) is
