-- A session that speaks says no notice 19, row by row.
use Rattle.std.proofs.Common.{◌≡◌, ◌==◌, ℕ, eqb, cond, Option, Some, None, List, [], ◌∷◌, length, map, subst, refl}
use Rattle.std.specs.Prelude.{◌&&◌, fold, is_some, min}
use Rattle.std.specs.List.{AllByRecursion, filter, find, list_all}
use Rattle.std.proofs.lemmas.Bool.{cond_both}
use Rattle.service_tl.specs.declared.item.Item.{Item}
use Rattle.service_tl.specs.declared.item.Item.TheVariants.{NewSessionCreated, RpcDropAnswer, RpcAnswerUnknown, RpcAnswerDropped, RpcResult, GetFutureSalts, FutureSalts, Ping, PingDelayDisconnect, Pong, MsgsAck, MsgsStateReq, MsgsStateInfo, MsgResendReq, BadMsgNotification, BadServerSalt, InvokeAfterMsg, InvokeAfterMsgs, AuthBindTempAuthKey, Packed, Call, Broken}
use Rattle.service_tl.specs.declared.lists.Message.{Message}
use Rattle.service_tl.specs.Items.{spelling_of}
use Rattle.service_tl.specs.Schema.{rpc_drop_answer}
use Rattle.salt_line.specs.Line.{current_salt}
use Rattle.salt_line.specs.Rows.{future_rows_max}
use Rattle.salt_line.specs.Future.{salt_rows}
use Rattle.id_window.specs.declared.mark.Mark.{Mark}
use Rattle.id_window.specs.declared.mark.Mark.TheVariants.{Noticed as MarkNoticed, Service, Container, Waiting, Replied, Acked, Dropped}
use Rattle.inbox.specs.States.{state_byte}
use Rattle.inbox.specs.Verdicts.{Verdict, Accepted, Again, Noticed}
use Rattle.packing.specs.Numbering.{numbered}
use Rattle.waits.specs.declared.job.Job.{Job}
use Rattle.waits.specs.Jobs.{is_call, first_job, without_first}
use Rattle.server_rules.specs.Server.{Binding, Name, Reply, has_accepted, is_kept, kept_of, mark_in, marks_of, name_of, reply_to}
use Rattle.server_rules.specs.Event.{BindingCall, Owed, Setting, Speaker}
use Rattle.server_rules.specs.Speaking.{answers, answers_in_place, bad_body, dropped, encrypted_message_invalid, has_said, message_of, needs_salts, owes_message, packed_body_refused, says, says_again, says_it_is_new, says_with_salt}
use Rattle.server_rules.specs.Waiting.{gives_up, tells_of}
use Rattle.server_rules.specs.Calls.{accepts_call, becomes_job, binds_by, bool_true_content, drops_answer, drops_by, dropped_running, job_of, refusal, with_binding}
use Rattle.server_rules.specs.Rows.{accepts, acked_by, acknowledges, answers_broken, came_again, future_salt_of, kept_numbered, notices, owes, says_reply, sends_again, takes_acks, tells_salts, tells_states}
use Rattle.server_rules.specs.Answer.{attaches, finishes}
use Rattle.law_order.specs.Apart.{AreQuiet, IsJudgementOf, IsOtherCode, IsQuiet, IsQuietItem, Kinds}
use Rattle.law_order.proofs.Judging.{IsFound, IsVerdictSo, found-so, marks-so, other-code}
use Rattle.law_order.proofs.Lists.{all-append}

-- what is owed
abbrev pub AreOwedQuiet : List Owed → Type 0
AreOwedQuiet owed = AllByRecursion (λ one. IsQuiet one.message) owed

-- The session of this name speaks: what it judged is what is told, and nothing that is owed or sent has notice 19.
pub record Sound {S : Type 0} (kinds : Kinds) (name : Name) (speaker : Speaker S) : Type 0 where
  pub named : name_of speaker.session ≡ name
  pub history : AllByRecursion (IsJudgementOf kinds name) speaker.session.history
  pub owed : AreOwedQuiet speaker.owed
  pub sent : AreQuiet speaker.sent

module _ {S : Type 0} (setting : Setting S) (kinds : Kinds) (name : Name) where
  abbrev P : Speaker S → Type 0
  P speaker = Sound kinds name speaker

  -- ---- words

  owes-sound_of : (message : Message) (speaker : Speaker S) → IsQuiet message → P speaker → P (owes_message message speaker)
  owes-sound_of message speaker quiet s =
      record {
        named = s.named;
        history = s.history;
        owed = all-append (λ (one : Owed). IsQuiet one.message) speaker.owed (record { name = name_of speaker.session; message = message } ∷ []) s.owed (quiet, tt);
        sent = s.sent;
      }

  pub says-sound : (item : Item) (speaker : Speaker S) → IsQuietItem item → P speaker → P (says setting item speaker)
  says-sound item speaker quiet s =
      let message : Message = numbered setting.now speaker.session.counters item in
      record {
        named = s.named;
        history = s.history;
        owed =
            all-append (λ (one : Owed). IsQuiet one.message) speaker.owed (record { name = name_of speaker.session; message = message } ∷ []) s.owed
            (record { item = item; body = refl; quiet = quiet }, tt);
        sent = s.sent;
      }

  pub again-sound : (reply : Reply) (speaker : Speaker S) → P speaker → P (says_again reply speaker)
  again-sound reply speaker s =
      cond_both (has_said reply.number speaker) speaker _ P (λ is. s)
      (λ is. owes-sound_of (message_of reply) speaker (record { item = RpcResult reply.call reply.content; body = refl; quiet = tt }) s)

  pub salts-sound : (count : ℕ) (speaker : Speaker S) → P speaker → P (needs_salts setting count speaker)
  salts-sound count speaker s = record { named = s.named; history = s.history; owed = s.owed; sent = s.sent }

  replies-sound : (replies : List Reply) (speaker : Speaker S) → P speaker → P (record speaker { session = record speaker.session { replies = replies } })
  replies-sound replies speaker s = record { named = s.named; history = s.history; owed = s.owed; sent = s.sent }

  pub answers-sound : (call : ℕ) (content : List ℕ) (speaker : Speaker S) → P speaker → P (answers setting call content speaker)
  answers-sound call content speaker s =
      let said = says-sound (RpcResult call content) speaker tt s in
      record { named = said.named; history = said.history; owed = said.owed; sent = said.sent }

  pub in_place-sound : (call : ℕ) (request content : List ℕ) (speaker : Speaker S) → P speaker → P (answers_in_place setting call request content speaker)
  in_place-sound call request content speaker s =
      let own = answers-sound call content speaker s in
      record { named = own.named; history = own.history; owed = own.owed; sent = own.sent }

  pub tells-sound : (number : ℕ) (speaker : Speaker S) → P speaker → P (tells_of number speaker)
  tells-sound number speaker s = record { named = s.named; history = s.history; owed = s.owed; sent = s.sent }

  with_salt-sound : (item : ℕ → Item) (speaker : Speaker S) → ((salt : ℕ) → IsQuietItem (item salt)) → P speaker → P (says_with_salt setting item speaker)
  with_salt-sound item speaker quiet s =
      let ready = needs_salts setting 1 speaker in
      let salt = current_salt ready.session.salts setting.now in
      says-sound (item salt) ready (quiet salt) (salts-sound 1 speaker s)

  pub new-sound : (speaker : Speaker S) → P speaker → P (says_it_is_new setting speaker)
  new-sound speaker s = with_salt-sound (λ salt. NewSessionCreated speaker.session.first speaker.session.unique salt) speaker (λ salt. tt) s

  pub acknowledges-sound : (numbers : List ℕ) (speaker : Speaker S) → P speaker → P (acknowledges setting numbers speaker)
  acknowledges-sound [] speaker s = s
  acknowledges-sound (number ∷ numbers) speaker s = says-sound (MsgsAck (number ∷ numbers)) speaker tt s

  notices-sound : (number seq code : ℕ) (speaker : Speaker S) → IsOtherCode code → P speaker → P (notices setting number seq code speaker)
  notices-sound number seq code speaker coded s =
      cond_both (eqb code 48) _ _ P
      (λ is. with_salt-sound (λ salt. BadServerSalt number seq 48 salt) speaker (λ salt. tt) s)
      (λ is. says-sound (BadMsgNotification number seq code) speaker coded s)

  reply-sound : (reply : Option Reply) (speaker : Speaker S) → P speaker → P (says_reply reply speaker)
  reply-sound None speaker s = s
  reply-sound (Some reply) speaker s = again-sound reply speaker s

  came-sound : (number seq : ℕ) (mark : Option Mark) (speaker : Speaker S) → mark_in speaker.session number ≡ mark → P speaker → P (came_again setting number seq mark speaker)
  came-sound number seq (Some (MarkNoticed code)) speaker is s =
      notices-sound number seq code speaker
      (subst (IsFound kinds name number) is (found-so kinds name number speaker.session.history (marks_of speaker.session.history speaker.session.replies)
      (marks-so kinds name speaker.session.history speaker.session.replies s.history))) s
  came-sound number seq (Some (Replied good)) speaker is s = reply-sound (reply_to number speaker.session.replies) speaker s
  came-sound number seq (Some (Dropped good)) speaker is s = notices-sound number seq 20 speaker (other-code 20 refl refl) s
  came-sound number seq (Some Service) speaker is s = s
  came-sound number seq (Some Container) speaker is s = s
  came-sound number seq (Some Waiting) speaker is s = s
  came-sound number seq (Some (Acked good)) speaker is s = s
  came-sound number seq None speaker is s = s

  tells_salts-sound : (number count : ℕ) (speaker : Speaker S) → P speaker → P (tells_salts setting number count speaker)
  tells_salts-sound number count speaker s =
      let ready = needs_salts setting count speaker in
      says-sound (FutureSalts number setting.now (map future_salt_of (salt_rows ready.session.salts setting.now count))) ready tt (salts-sound count speaker s)

  states-sound : (number : ℕ) (numbers : List ℕ) (speaker : Speaker S) → P speaker → P (tells_states setting number numbers speaker)
  states-sound number numbers speaker s =
      let session = speaker.session in
      says-sound (MsgsStateInfo number (map (state_byte session.history (marks_of session.history session.replies)) numbers)) speaker tt s

  listed-sound : (numbers : List ℕ) (speaker : Speaker S) → P speaker
      → P (fold (λ speaker other. says_reply (kept_numbered speaker.session.replies other) speaker) speaker numbers)
  listed-sound [] speaker s = s
  listed-sound (number ∷ numbers) speaker s =
      let reply = kept_numbered speaker.session.replies number in
      listed-sound numbers (says_reply reply speaker) (reply-sound reply speaker s)

  sends_again-sound : (number : ℕ) (numbers : List ℕ) (speaker : Speaker S) → P speaker → P (sends_again setting number numbers speaker)
  sends_again-sound number numbers speaker s =
      cond_both (list_all (λ other. is_some (kept_numbered speaker.session.replies other)) numbers) _ _ P
      (λ is. listed-sound numbers speaker s) (λ is. states-sound number numbers speaker s)

  acks-sound : (numbers : List ℕ) (speaker : Speaker S) → P speaker → P (takes_acks numbers speaker)
  acks-sound numbers speaker s = replies-sound (map (acked_by numbers) speaker.session.replies) speaker s

  -- ---- answers

  broken-sound : (number constructor : ℕ) (body : List ℕ) (speaker : Speaker S) → P speaker → P (answers_broken setting number constructor body speaker)
  broken-sound number constructor body speaker s =
      cond_both (eqb constructor rpc_drop_answer.number) _ _ P (λ is. answers-sound number bad_body speaker s) (λ is. in_place-sound number body bad_body speaker s)

  pub gives_up-sound : (content : List ℕ) (job : Job) (speaker : Speaker S) → P speaker → P (gives_up setting content job speaker)
  gives_up-sound content job speaker s =
      tells-sound job.number (answers_in_place setting job.number job.request content speaker) (in_place-sound job.number job.request content speaker s)

  pub finishes-sound : (job : Job) (reply : List ℕ) (speaker : Speaker S) → P speaker → P (finishes setting job reply speaker)
  finishes-sound job reply speaker s =
      let own = answers-sound job.number reply speaker s in
      record { named = own.named; history = own.history; owed = own.owed; sent = own.sent }

  -- ---- calls

  becomes-sound : (job : Job) (content : Option (List ℕ)) (speaker : Speaker S) → P speaker → P (becomes_job setting job content speaker)
  becomes-sound job (Some content) speaker s = in_place-sound job.number job.request content speaker s
  becomes-sound job None speaker s = record { named = s.named; history = s.history; owed = s.owed; sent = s.sent }

  call-sound : (number : ℕ) (numbers request : List ℕ) (speaker : Speaker S) → P speaker → P (accepts_call setting number numbers request speaker)
  call-sound number numbers request speaker s =
      let job = job_of setting number numbers request speaker in
      becomes-sound job (refusal setting job speaker) speaker s

  drops_by-sound : (number : ℕ) (job : Option Job) (reply : Option Reply) (speaker : Speaker S) → P speaker → P (drops_by setting number job reply speaker)
  drops_by-sound number (Some job) reply speaker s =
      let own = answers setting number dropped_running speaker in
      let first = answers-sound number dropped_running speaker s in
      let rest : Speaker S = record own { jobs = without_first (is_call job.key job.session job.number) own.jobs } in
      tells-sound job.number (answers_in_place setting job.number job.request dropped_running rest)
      (in_place-sound job.number job.request dropped_running rest (record { named = first.named; history = first.history; owed = first.owed; sent = first.sent }))
  drops_by-sound number None (Some reply) speaker s =
      let replies = map (λ other. cond (eqb other.number reply.number) (dropped other) other) speaker.session.replies in
      let rest : Speaker S = record speaker { session = record speaker.session { replies = replies } } in
      answers-sound number (spelling_of (RpcAnswerDropped reply.number reply.seq (length (kept_of reply).body))) rest (replies-sound replies speaker s)
  drops_by-sound number None None speaker s = answers-sound number (spelling_of RpcAnswerUnknown) speaker s

  drops-sound : (number call : ℕ) (speaker : Speaker S) → P speaker → P (drops_answer setting number call speaker)
  drops-sound number call speaker s =
      drops_by-sound number (first_job (is_call speaker.session.key speaker.session.number call) speaker.jobs)
      (find (λ reply. is_kept reply && (reply.call == call)) speaker.session.replies) speaker s

  binds_by-sound : (number : ℕ) (binding : Option Binding) (speaker : Speaker S) → P speaker → P (binds_by setting number binding speaker)
  binds_by-sound number None speaker s = answers-sound number encrypted_message_invalid speaker s
  binds_by-sound number (Some binding) speaker s =
      let bound : Speaker S = record speaker { bindings = with_binding binding speaker.bindings } in
      answers-sound number bool_true_content bound (record { named = s.named; history = s.history; owed = s.owed; sent = s.sent })

  -- ---- rows

  accepts-sound : (number : ℕ) (item : Item) (body : List ℕ) (speaker : Speaker S) → P speaker → P (accepts setting number item body speaker)
  accepts-sound number Packed body speaker s = in_place-sound number body packed_body_refused speaker s
  accepts-sound number (Broken constructor) body speaker s = broken-sound number constructor body speaker s
  accepts-sound number (AuthBindTempAuthKey perm nonce expires message) body speaker s =
      let call : BindingCall = record { number = number; perm = perm; nonce = nonce; expires = expires; message = message } in
      binds_by-sound number (setting.bound_by setting.now (name_of speaker.session) call) speaker s
  accepts-sound number Call body speaker s = call-sound number [] body speaker s
  accepts-sound number (InvokeAfterMsg other query) body speaker s = call-sound number (other ∷ []) query speaker s
  accepts-sound number (InvokeAfterMsgs numbers query) body speaker s = call-sound number numbers query speaker s
  accepts-sound number (RpcDropAnswer call) body speaker s = drops-sound number call speaker s
  accepts-sound number (Ping ping) body speaker s = says-sound (Pong number ping) speaker tt s
  accepts-sound number (PingDelayDisconnect ping delay) body speaker s = says-sound (Pong number ping) speaker tt s
  accepts-sound number (GetFutureSalts count) body speaker s = tells_salts-sound number (min count future_rows_max) speaker s
  accepts-sound number (MsgsAck numbers) body speaker s = acks-sound numbers speaker s
  accepts-sound number (MsgsStateReq numbers) body speaker s = states-sound number numbers speaker s
  accepts-sound number (MsgResendReq numbers) body speaker s = sends_again-sound number numbers speaker s
  accepts-sound number _ body speaker s = s

  pub owes-sound : (number seq : ℕ) (verdict : Verdict) (body : List ℕ) → IsVerdictSo kinds name verdict → (speaker : Speaker S) → P speaker
      → P (owes setting number seq verdict body speaker)
  owes-sound number seq (Noticed code) body is speaker s = notices-sound number seq code speaker is s
  owes-sound number seq (Again mark) body is speaker s = came-sound number seq (mark_in speaker.session number) speaker refl s
  owes-sound number seq (Accepted item) body is speaker s = accepts-sound number item body speaker s

  -- ---- an attach

  attached-sound : (replies : List Reply) (speaker : Speaker S) → P speaker → P (fold (λ speaker reply. says_again reply speaker) speaker replies)
  attached-sound [] speaker s = s
  attached-sound (reply ∷ replies) speaker s = attached-sound replies (says_again reply speaker) (again-sound reply speaker s)

  pub attaches-sound : (speaker : Speaker S) → P speaker → P (attaches setting speaker)
  attaches-sound speaker s =
      attached-sound (filter is_kept speaker.session.replies) (cond (has_accepted speaker.session) speaker (says_it_is_new setting speaker))
      (cond_both (has_accepted speaker.session) speaker (says_it_is_new setting speaker) P (λ is. s) (λ is. new-sound speaker s))
