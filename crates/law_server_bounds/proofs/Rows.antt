-- What holds after each thing that a session does for a judgement holds after the whole row.
use Rattle.std.proofs.Common.{◌≡◌, ◌∙◌, ℕ, zero, suc, eqb, ◌==◌, ◌&&◌, Bool, true, false, cond, Option, Some, None, List, [], ◌∷◌, length, ap, sym, subst, refl}
use Rattle.std.specs.Prelude.{map, fold, min, is_some, ◌⊎◌}
use Rattle.std.specs.List.{Contains, find, list_all, filter}
use Rattle.std.proofs.lemmas.Bool.{cond_both, and_parts}
use Rattle.service_tl.specs.declared.item.Item.{Item}
use Rattle.service_tl.specs.declared.item.Item.TheVariants.{RpcDropAnswer, RpcAnswerUnknown, RpcAnswerDropped, NewSessionCreated, GetFutureSalts, FutureSalts, Ping, PingDelayDisconnect, Pong, MsgsAck, MsgsStateReq, MsgsStateInfo, MsgResendReq, BadMsgNotification, BadServerSalt, InvokeAfterMsg, InvokeAfterMsgs, AuthBindTempAuthKey, Packed, Call, Broken}
use Rattle.service_tl.specs.Items.{spelling_of}
use Rattle.service_tl.specs.Schema.{rpc_drop_answer}
use Rattle.salt_line.specs.Rows.{future_rows_max}
use Rattle.salt_line.specs.Line.{current_salt}
use Rattle.salt_line.specs.Future.{salt_rows}
use Rattle.id_window.specs.History.{History}
use Rattle.id_window.specs.declared.mark.Mark.{Mark}
use Rattle.id_window.specs.declared.mark.Mark.TheVariants.{Noticed as MarkNoticed, Replied, Dropped}
use Rattle.service_tl.specs.Results.{constructor_of}
use Rattle.inbox.specs.States.{state_byte}
use Rattle.inbox.specs.Verdicts.{Verdict, Accepted, Again, Noticed, Judgement}
use Rattle.waits.specs.declared.job.Job.{Job}
use Rattle.waits.specs.declared.job.Unfinished.{Unfinished}
use Rattle.waits.specs.Jobs.{accepted as with_job, first_job, without_first, is_call}
use Rattle.server_rules.specs.Server.{Reply, Binding, is_kept, kept_of, mark_in, marks_of, reply_to, name_of, has_accepted}
use Rattle.server_rules.specs.Event.{Setting, Speaker, BindingCall}
use Rattle.server_rules.specs.Speaking.{says, says_again, says_with_salt, says_it_is_new, needs_salts, answers, records, answers_in_place, dropped, packed_body_refused, bad_body, encrypted_message_invalid}
use Rattle.server_rules.specs.Waiting.{tells_of, gives_up}
use Rattle.server_rules.specs.Calls.{accepts_call, becomes_job, binds, binds_by, bool_true_content, drops_answer, drops_by, drops_kept, drops_running, dropped_running, has_failed_already, is_full, is_unbound, job_of, query_refusal, refusal, with_binding}
use Rattle.server_rules.specs.Rows.{accepts, acked_by, acknowledges, answers_broken, came_again, future_salt_of, kept_numbered, notices, owes, says_reply, sends_again, takes_acks, tells_salts, tells_states, acks_of}
use Rattle.server_rules.specs.Answer.{attaches, finishes, opens}
use Rattle.law_server_bounds.proofs.Lists.{find-holds}
use Rattle.law_server_bounds.proofs.Contents.{Fits, packed-fits, bad_body-fits, invalid-fits, running-fits, true-fits, unknown-fits, dropped-fits, query-fits, refusal-by}
use Rattle.law_server_bounds.proofs.Kept.{OnlyDrops, dropped_at-only, acked-only}

-- P holds of a speaker at a cost of so many further messages; F is what it wants of a content
pub record Steps (S : Type 0) (setting : Setting S) (F : List ℕ → Type 0) (P : ℕ → Speaker S → Type 0) : Type 0 where
  pub fine : (content : List ℕ) → Fits content → F content
  pub more : (n : ℕ) (x : Speaker S) → P n x → P (suc n) x
  pub said : (item : Item) (n : ℕ) (x : Speaker S) → P n x → P (suc n) (says setting item x)
  pub salted : (count n : ℕ) (x : Speaker S) → P n x → P n (needs_salts setting count x)
  pub answered : (call : ℕ) (content : List ℕ) (n : ℕ) (x : Speaker S) → F content → P n x → P (suc n) (answers setting call content x)
  pub placed : (ran : Bool) (call : ℕ) (request content : List ℕ) (n : ℕ) (x : Speaker S) → F content → P n x
      → P (suc n) (records ran call request content (answers setting call content x))
  pub repeated : (reply : Reply) (n : ℕ) (x : Speaker S) → P n x → P (suc n) (says_again reply x)
  pub kept : (reply : Reply) (n : ℕ) (x : Speaker S) → Contains x.session.replies reply → is_kept reply ≡ true → P n x → P n (says_again reply x)
  pub fated : (change : Reply → Reply) (n : ℕ) (x : Speaker S) → OnlyDrops change → P n x
      → P n (record x { session = record x.session { replies = map change x.session.replies } })
  pub joined : (job : Job) (n : ℕ) (x : Speaker S) → job.key ≡ x.session.key → job.session ≡ x.session.number → is_full job x ≡ false → P n x
      → P (suc n) (record x { jobs = with_job job x.jobs })
  pub ended : (job : Job) (request content : List ℕ) (n : ℕ) (x : Speaker S) → F content → P n x
      → P (suc n) (answers_in_place setting job.number request content (record x { jobs = without_first (is_call job.key job.session job.number) x.jobs }))
  pub told : (number n : ℕ) (x : Speaker S) → P n x → P n (tells_of number x)
  pub bound : (bindings : List Binding) (n : ℕ) (x : Speaker S) → P n x → P n (record x { bindings = bindings })
  pub past : (history : History) (n : ℕ) (x : Speaker S) → P n x → P n (record x { session = record x.session { history = history } })

module _ {S : Type 0} (setting : Setting S) (F : List ℕ → Type 0) (P : ℕ → Speaker S → Type 0) (steps : Steps S setting F P) where
  salt-said : (item : ℕ → Item) (n : ℕ) (x : Speaker S) → P n x → P (suc n) (says_with_salt setting item x)
  salt-said item n x p =
      let ready = needs_salts setting 1 x in
      steps.said (item (current_salt ready.session.salts setting.now)) n ready (steps.salted 1 n x p)

  pub new-said : (n : ℕ) (x : Speaker S) → P n x → P (suc n) (says_it_is_new setting x)
  new-said n x p = salt-said (λ salt. NewSessionCreated x.session.first x.session.unique salt) n x p

  pub noticed : (number seq code n : ℕ) (x : Speaker S) → P n x → P (suc n) (notices setting number seq code x)
  noticed number seq code n x p =
      cond_both (eqb code 48) (says_with_salt setting (λ salt. BadServerSalt number seq 48 salt) x) (says setting (BadMsgNotification number seq code) x) (P (suc n))
      (λ is. salt-said (λ salt. BadServerSalt number seq 48 salt) n x p) (λ is. steps.said (BadMsgNotification number seq code) n x p)

  reply-said : (reply : Option Reply) (n : ℕ) (x : Speaker S) → P n x → P (suc n) (says_reply reply x)
  reply-said None n x p = steps.more n x p
  reply-said (Some reply) n x p = steps.repeated reply n x p

  came : (number seq : ℕ) (mark : Option Mark) (n : ℕ) (x : Speaker S) → P n x → P (suc n) (came_again setting number seq mark x)
  came number seq (Some (MarkNoticed code)) n x p = noticed number seq code n x p
  came number seq (Some (Replied good)) n x p = reply-said (reply_to number x.session.replies) n x p
  came number seq (Some (Dropped good)) n x p = noticed number seq 20 n x p
  came number seq _ n x p = steps.more n x p

  -- ---- service messages

  states-told : (number : ℕ) (numbers : List ℕ) (n : ℕ) (x : Speaker S) → P n x → P (suc n) (tells_states setting number numbers x)
  states-told number numbers n x p =
      steps.said (MsgsStateInfo number (map (state_byte x.session.history (marks_of x.session.history x.session.replies)) numbers)) n x p

  salts-told : (number count n : ℕ) (x : Speaker S) → P n x → P (suc n) (tells_salts setting number count x)
  salts-told number count n x p =
      let ready = needs_salts setting count x in
      steps.said (FutureSalts number setting.now (map future_salt_of (salt_rows ready.session.salts setting.now count))) n ready (steps.salted count n x p)

  kept-said : (reply : Option Reply) (n : ℕ) (x : Speaker S) → ((one : Reply) → reply ≡ Some one → Contains x.session.replies one × (is_kept one ≡ true)) → P n x
      → P n (says_reply reply x)
  kept-said None n x there p = p
  kept-said (Some reply) n x there p = let is = there reply refl in steps.kept reply n x is.0 is.1 p

  all-said : (numbers : List ℕ) (n : ℕ) (x : Speaker S) → P n x → P n (fold (λ speaker other. says_reply (kept_numbered speaker.session.replies other) speaker) x numbers)
  all-said [] n x p = p
  all-said (number ∷ numbers) n x p =
      let test : Reply → Bool = λ reply. is_kept reply && (reply.number == number) in
      let there : (one : Reply) → kept_numbered x.session.replies number ≡ Some one → Contains x.session.replies one × (is_kept one ≡ true) =
      λ one is. let has = find-holds test x.session.replies one is in (has.0, (and_parts _ _ has.1).0) in
      all-said numbers n (says_reply (kept_numbered x.session.replies number) x) (kept-said (kept_numbered x.session.replies number) n x there p)

  sent-again : (number : ℕ) (numbers : List ℕ) (n : ℕ) (x : Speaker S) → P n x → P (suc n) (sends_again setting number numbers x)
  sent-again number numbers n x p =
      cond_both (list_all (λ other. is_some (kept_numbered x.session.replies other)) numbers) _ _ (P (suc n))
      (λ is. all-said numbers (suc n) x (steps.more n x p)) (λ is. states-told number numbers n x p)

  -- ---- answers

  broken : (number constructor : ℕ) (body : List ℕ) (n : ℕ) (x : Speaker S) → P n x → P (suc n) (answers_broken setting number constructor body x)
  broken number constructor body n x p =
      let fine = steps.fine bad_body bad_body-fits in
      cond_both (eqb constructor rpc_drop_answer.number) (answers setting number bad_body x) (answers_in_place setting number body bad_body x) (P (suc n))
      (λ is. steps.answered number bad_body n x fine p) (λ is. steps.placed false number body bad_body n x fine p)

  called : (number : ℕ) (numbers request : List ℕ) (n : ℕ) (x : Speaker S) → P n x → P (suc n) (accepts_call setting number numbers request x)
  called number numbers request n x p =
      let job = job_of setting number numbers request x in
      refusal-by (λ (content : Option (List ℕ)). P (suc n) (becomes_job setting job content x)) (is_unbound setting x) (is_full job x) (has_failed_already job x)
      (query_refusal (constructor_of job.request)) (query-fits (constructor_of job.request))
      (λ content fits. steps.placed false job.number job.request content n x (steps.fine content fits) p)
      (λ room. steps.joined job n x refl refl room p)

  run-dropped : (number : ℕ) (job : Job) (n : ℕ) (x : Speaker S) → P n x → P (suc (suc n)) (drops_running setting number job x)
  run-dropped number job n x p =
      let fine = steps.fine dropped_running running-fits in
      let own = answers setting number dropped_running x in
      let test = is_call job.key job.session job.number in
      let rest : Speaker S = record own { jobs = without_first test own.jobs } in
      steps.told job.number (suc (suc n)) (answers_in_place setting job.number job.request dropped_running rest)
      (steps.ended job job.request dropped_running (suc n) own fine (steps.answered number dropped_running n x fine p))

  reply-dropped : (number : ℕ) (reply : Reply) (n : ℕ) (x : Speaker S) → P n x → P (suc n) (drops_kept setting number reply x)
  reply-dropped number reply n x p =
      let change : Reply → Reply = λ other. cond (eqb other.number reply.number) (dropped other) other in
      let content = spelling_of (RpcAnswerDropped reply.number reply.seq (length (kept_of reply).body)) in
      steps.answered number content n (record x { session = record x.session { replies = map change x.session.replies } })
      (steps.fine content (dropped-fits reply.number reply.seq (length (kept_of reply).body)))
      (steps.fated change n x (dropped_at-only reply.number) p)

  dropped-by : (number : ℕ) (job : Option Job) (reply : Option Reply) (n : ℕ) (x : Speaker S) → P n x → P (suc (suc n)) (drops_by setting number job reply x)
  dropped-by number (Some job) reply n x p = run-dropped number job n x p
  dropped-by number None (Some reply) n x p = steps.more (suc n) (drops_kept setting number reply x) (reply-dropped number reply n x p)
  dropped-by number None None n x p =
      let content = spelling_of RpcAnswerUnknown in
      steps.more (suc n) (answers setting number content x) (steps.answered number content n x (steps.fine content unknown-fits) p)

  bound-by : (number : ℕ) (binding : Option Binding) (n : ℕ) (x : Speaker S) → P n x → P (suc n) (binds_by setting number binding x)
  bound-by number None n x p = steps.answered number encrypted_message_invalid n x (steps.fine encrypted_message_invalid invalid-fits) p
  bound-by number (Some binding) n x p =
      let bindings = with_binding binding x.bindings in
      steps.answered number bool_true_content n (record x { bindings = bindings }) (steps.fine bool_true_content true-fits) (steps.bound bindings n x p)

  -- ---- the rows

  two : (n : ℕ) (x : Speaker S) → P (suc n) x → P (suc (suc n)) x
  two n x p = steps.more (suc n) x p

  accepted : (number : ℕ) (item : Item) (body : List ℕ) (n : ℕ) (x : Speaker S) → P n x → P (suc (suc n)) (accepts setting number item body x)
  accepted number Packed body n x p =
      two n (answers_in_place setting number body packed_body_refused x) (steps.placed false number body packed_body_refused n x (steps.fine packed_body_refused packed-fits) p)
  accepted number (Broken constructor) body n x p = two n (answers_broken setting number constructor body x) (broken number constructor body n x p)
  accepted number (AuthBindTempAuthKey perm nonce expires message) body n x p =
      let call : BindingCall = record { number = number; perm = perm; nonce = nonce; expires = expires; message = message } in
      two n (binds setting call x) (bound-by number (setting.bound_by setting.now (name_of x.session) call) n x p)
  accepted number Call body n x p = two n (accepts_call setting number [] body x) (called number [] body n x p)
  accepted number (InvokeAfterMsg other query) body n x p = two n (accepts_call setting number (other ∷ []) query x) (called number (other ∷ []) query n x p)
  accepted number (InvokeAfterMsgs others query) body n x p = two n (accepts_call setting number others query x) (called number others query n x p)
  accepted number (RpcDropAnswer call) body n x p =
      dropped-by number (first_job (is_call x.session.key x.session.number call) x.jobs) (find (λ reply. is_kept reply && (reply.call == call)) x.session.replies) n x p
  accepted number (Ping ping) body n x p = two n (says setting (Pong number ping) x) (steps.said (Pong number ping) n x p)
  accepted number (PingDelayDisconnect ping delay) body n x p = two n (says setting (Pong number ping) x) (steps.said (Pong number ping) n x p)
  accepted number (GetFutureSalts count) body n x p =
      two n (tells_salts setting number (min count future_rows_max) x) (salts-told number (min count future_rows_max) n x p)
  accepted number (MsgsAck numbers) body n x p =
      let after = takes_acks numbers x in
      two n after (steps.more n after (steps.fated (acked_by numbers) n x (acked-only numbers) p))
  accepted number (MsgsStateReq numbers) body n x p = two n (tells_states setting number numbers x) (states-told number numbers n x p)
  accepted number (MsgResendReq numbers) body n x p = two n (sends_again setting number numbers x) (sent-again number numbers n x p)
  accepted number _ body n x p = two n x (steps.more n x p)

  pub owed : (number seq : ℕ) (verdict : Verdict) (body : List ℕ) (n : ℕ) (x : Speaker S) → P n x → P (suc (suc n)) (owes setting number seq verdict body x)
  owed number seq (Noticed code) body n x p = two n (notices setting number seq code x) (noticed number seq code n x p)
  owed number seq (Again mark) body n x p = two n (came_again setting number seq (mark_in x.session number) x) (came number seq (mark_in x.session number) n x p)
  owed number seq (Accepted item) body n x p = accepted number item body n x p

  -- ---- other events

  pub given : (content : List ℕ) (job : Job) (n : ℕ) (x : Speaker S) → F content → P n x → P (suc n) (gives_up setting content job x)
  given content job n x fine p =
      steps.told job.number (suc n) (answers_in_place setting job.number job.request content x) (steps.placed false job.number job.request content n x fine p)

  pub finished : (job : Job) (reply : List ℕ) (n : ℕ) (x : Speaker S) → F reply → P n x → P (suc n) (finishes setting job reply x)
  finished job reply n x fine p =
      steps.told job.number (suc n) (records true job.number job.request reply (answers setting job.number reply x)) (steps.placed true job.number job.request reply n x fine p)

  acknowledged : (numbers : List ℕ) (n : ℕ) (x : Speaker S) → P n x → P (suc n) (acknowledges setting numbers x)
  acknowledged [] n x p = steps.more n x p
  acknowledged (number ∷ numbers) n x p = steps.said (MsgsAck (number ∷ numbers)) n x p

  pub opened : (history : History) (judged : List Judgement) (n : ℕ) (x : Speaker S) → P n x → P (suc (suc n)) (opens setting history judged x)
  opened history judged n x p =
      let ready : Speaker S = record x { session = record x.session { history = history } } in
      let is_ready = steps.past history n x p in
      let first : P (suc n) (cond (has_accepted ready.session) ready (says_it_is_new setting ready)) =
      cond_both (has_accepted ready.session) ready (says_it_is_new setting ready) (P (suc n)) (λ is. steps.more n ready is_ready) (λ is. new-said n ready is_ready) in
      acknowledged (acks_of judged) (suc n) (cond (has_accepted ready.session) ready (says_it_is_new setting ready)) first
