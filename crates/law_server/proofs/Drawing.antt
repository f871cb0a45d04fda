-- What a session says draws words for its salts alone.
use Rattle.std.proofs.Common.{◌≡◌, ◌∙◌, ℕ, ◌==◌, ◌&&◌, Bool, true, false, Option, None, Some, List, [], ◌∷◌, filter, fold, if◌then◌else◌, refl}
use Rattle.std.specs.Prelude.{is_some, min}
use Rattle.std.specs.List.{find, list_all}
use Rattle.std.proofs.lemmas.Bool.{cond_both}
use Rattle.salt_line.specs.Rows.{future_rows_max}
use Rattle.service_tl.specs.declared.item.Item.{Item}
use Rattle.service_tl.specs.declared.item.Item.TheVariants.{Packed, Broken, AuthBindTempAuthKey, Call, InvokeAfterMsg, InvokeAfterMsgs, RpcDropAnswer, Ping, PingDelayDisconnect, GetFutureSalts, MsgsAck, MsgsStateReq, MsgResendReq, BadServerSalt, BadMsgNotification}
use Rattle.service_tl.specs.Schema.{rpc_drop_answer}
use Rattle.id_window.specs.History.{History}
use Rattle.id_window.specs.declared.mark.Mark.{Mark}
use Rattle.id_window.specs.declared.mark.Mark.TheVariants.{Noticed as MarkNoticed, Replied, Dropped}
use Rattle.inbox.specs.Verdicts.{Judgement, Verdict, Accepted, Again, Noticed}
use Rattle.waits.specs.declared.job.Job.{Job}
use Rattle.waits.specs.Jobs.{first_job, is_call}
use Rattle.server_rules.specs.Server.{Binding, Reply, has_accepted, is_kept, mark_in, reply_to}
use Rattle.server_rules.specs.Event.{Setting, Speaker}
use Rattle.server_rules.specs.Speaking.{answers, answers_in_place, bad_body, has_said, message_of, needs_salts, owes_message, says, says_again, says_it_is_new, says_with_salt}
use Rattle.server_rules.specs.Calls.{accepts_call, becomes_job, binds_by, drops_by, job_of, refusal}
use Rattle.server_rules.specs.Rows.{accepts, acknowledges, acks_of, answers_broken, came_again, kept_numbered, notices, owes, says_reply, sends_again}
use Rattle.server_rules.specs.Answer.{attaches, opens}
use Rattle.law_server.specs.Drawing.{AreNeeded, DrawsSalts}

module _ {S : Type 0} (setting : Setting S) where
  abbrev From : Speaker S → Speaker S → Type 0
  From before after = DrawsSalts setting before after

  itself : (speaker : Speaker S) → From speaker speaker
  itself speaker = (refl, record { periods = 0; rows_then = refl; draw_then = refl })

  needs_drawn : (number : ℕ) (speaker : Speaker S) → From speaker (needs_salts setting number speaker)
  needs_drawn number speaker = (refl, record { periods = number; rows_then = refl; draw_then = refl })

  -- ---- what draws nothing

  abbrev Same : Speaker S → Speaker S → Type 0
  Same before after =
      (after.session.unique ≡ before.session.unique) × (after.session.salts.rows ≡ before.session.salts.rows) × (after.draw ≡ before.draw)

  same : (speaker : Speaker S) → Same speaker speaker
  same speaker = (refl, refl, refl)

  same_then : (a b c : Speaker S) → Same a b → Same b c → Same a c
  same_then a b c one two = (two.0 ∙ one.0, two.1 ∙ one.1, two.2 ∙ one.2)

  of_same : (before after : Speaker S) → Same before after → From before after
  of_same before after is = (is.0, record { periods = 0; rows_then = is.1; draw_then = is.2 })

  drawn_then : (a b c : Speaker S) → From a b → Same b c → From a c
  drawn_then a b c one is = (is.0 ∙ one.0, record { periods = one.1.periods; rows_then = is.1 ∙ one.1.rows_then; draw_then = is.2 ∙ one.1.draw_then })

  again_same : (reply : Reply) (speaker : Speaker S) → Same speaker (says_again reply speaker)
  again_same reply speaker = cond_both (has_said reply.number speaker) speaker (owes_message (message_of reply) speaker) (Same speaker) (λ is. same speaker) (λ is. same speaker)

  reply_same : (reply : Option Reply) (speaker : Speaker S) → Same speaker (says_reply reply speaker)
  reply_same None speaker = same speaker
  reply_same (Some reply) speaker = again_same reply speaker

  all_again_same : (numbers : List ℕ) (speaker : Speaker S) → Same speaker (fold (λ speaker other. says_reply (kept_numbered speaker.session.replies other) speaker) speaker numbers)
  all_again_same [] speaker = same speaker
  all_again_same (number ∷ numbers) speaker =
      let next = says_reply (kept_numbered speaker.session.replies number) speaker in
      same_then speaker next (fold (λ speaker other. says_reply (kept_numbered speaker.session.replies other) speaker) next numbers) (reply_same (kept_numbered speaker.session.replies number) speaker) (all_again_same numbers next)

  kept_same : (replies : List Reply) (speaker : Speaker S) → Same speaker (fold (λ speaker reply. says_again reply speaker) speaker replies)
  kept_same [] speaker = same speaker
  kept_same (reply ∷ replies) speaker =
      same_then speaker (says_again reply speaker) (fold (λ speaker reply. says_again reply speaker) (says_again reply speaker) replies) (again_same reply speaker) (kept_same replies (says_again reply speaker))

  acks_same : (numbers : List ℕ) (speaker : Speaker S) → Same speaker (acknowledges setting numbers speaker)
  acks_same [] speaker = same speaker
  acks_same (number ∷ numbers) speaker = same speaker

  -- ---- what is owed for a judgement

  notices_drawn : (number seq code : ℕ) (speaker : Speaker S) → From speaker (notices setting number seq code speaker)
  notices_drawn number seq code speaker =
      cond_both (code == 48) (says_with_salt setting (λ salt. BadServerSalt number seq 48 salt) speaker) (says setting (BadMsgNotification number seq code) speaker) (From speaker)
      (λ is. needs_drawn 1 speaker) (λ is. itself speaker)

  reply_drawn : (reply : Option Reply) (speaker : Speaker S) → From speaker (says_reply reply speaker)
  reply_drawn reply speaker = of_same speaker (says_reply reply speaker) (reply_same reply speaker)

  came_drawn : (number seq : ℕ) (mark : Option Mark) (speaker : Speaker S) → From speaker (came_again setting number seq mark speaker)
  came_drawn number seq (Some (MarkNoticed code)) speaker = notices_drawn number seq code speaker
  came_drawn number seq (Some (Replied good)) speaker = reply_drawn (reply_to number speaker.session.replies) speaker
  came_drawn number seq (Some (Dropped good)) speaker = notices_drawn number seq 20 speaker
  came_drawn number seq _ speaker = itself speaker

  resends_drawn : (number : ℕ) (numbers : List ℕ) (speaker : Speaker S) → From speaker (sends_again setting number numbers speaker)
  resends_drawn number numbers speaker =
      cond_both (list_all (λ other. is_some (kept_numbered speaker.session.replies other)) numbers) _ _ (From speaker)
      (λ is. of_same speaker (fold (λ speaker other. says_reply (kept_numbered speaker.session.replies other) speaker) speaker numbers) (all_again_same numbers speaker)) (λ is. itself speaker)

  broken_drawn : (number constructor : ℕ) (body : List ℕ) (speaker : Speaker S) → From speaker (answers_broken setting number constructor body speaker)
  broken_drawn number constructor body speaker =
      cond_both (constructor == rpc_drop_answer.number) (answers setting number bad_body speaker) (answers_in_place setting number body bad_body speaker) (From speaker)
      (λ is. itself speaker) (λ is. itself speaker)

  becomes_drawn : (job : Job) (content : Option (List ℕ)) (speaker : Speaker S) → From speaker (becomes_job setting job content speaker)
  becomes_drawn job (Some content) speaker = itself speaker
  becomes_drawn job None speaker = itself speaker

  call_drawn : (number : ℕ) (numbers request : List ℕ) (speaker : Speaker S) → From speaker (accepts_call setting number numbers request speaker)
  call_drawn number numbers request speaker =
      let job = job_of setting number numbers request speaker in becomes_drawn job (refusal setting job speaker) speaker

  drops_drawn : (number : ℕ) (job : Option Job) (reply : Option Reply) (speaker : Speaker S) → From speaker (drops_by setting number job reply speaker)
  drops_drawn number (Some job) reply speaker = itself speaker
  drops_drawn number None (Some reply) speaker = itself speaker
  drops_drawn number None None speaker = itself speaker

  binds_drawn : (number : ℕ) (binding : Option Binding) (speaker : Speaker S) → From speaker (binds_by setting number binding speaker)
  binds_drawn number None speaker = itself speaker
  binds_drawn number (Some binding) speaker = itself speaker

  accepts_drawn : (number : ℕ) (item : Item) (body : List ℕ) (speaker : Speaker S) → From speaker (accepts setting number item body speaker)
  accepts_drawn number Packed body speaker = itself speaker
  accepts_drawn number (Broken constructor) body speaker = broken_drawn number constructor body speaker
  accepts_drawn number (AuthBindTempAuthKey perm nonce expires message) body speaker =
      binds_drawn number (setting.bound_by setting.now (record { key = speaker.session.key; session = speaker.session.number }) (record { number = number; perm = perm; nonce = nonce; expires = expires; message = message })) speaker
  accepts_drawn number Call body speaker = call_drawn number [] body speaker
  accepts_drawn number (InvokeAfterMsg other query) body speaker = call_drawn number (other ∷ []) query speaker
  accepts_drawn number (InvokeAfterMsgs others query) body speaker = call_drawn number others query speaker
  accepts_drawn number (RpcDropAnswer call) body speaker =
      drops_drawn number (first_job (is_call speaker.session.key speaker.session.number call) speaker.jobs) (find (λ reply. is_kept reply && (reply.call == call)) speaker.session.replies) speaker
  accepts_drawn number (Ping ping) body speaker = itself speaker
  accepts_drawn number (PingDelayDisconnect ping delay) body speaker = itself speaker
  accepts_drawn number (GetFutureSalts wanted) body speaker = needs_drawn (min wanted future_rows_max) speaker
  accepts_drawn number (MsgsAck numbers) body speaker = itself speaker
  accepts_drawn number (MsgsStateReq numbers) body speaker = itself speaker
  accepts_drawn number (MsgResendReq numbers) body speaker = resends_drawn number numbers speaker
  accepts_drawn number _ body speaker = itself speaker

  pub owes_drawn : (number seq : ℕ) (verdict : Verdict) (body : List ℕ) (speaker : Speaker S) → From speaker (owes setting number seq verdict body speaker)
  owes_drawn number seq (Noticed code) body speaker = notices_drawn number seq code speaker
  owes_drawn number seq (Again mark) body speaker = came_drawn number seq (mark_in speaker.session number) speaker
  owes_drawn number seq (Accepted item) body speaker = accepts_drawn number item body speaker

  -- ---- what opens an event

  new_drawn : (accepted : Bool) (speaker : Speaker S) → From speaker (if accepted then speaker else says_it_is_new setting speaker)
  new_drawn true speaker = itself speaker
  new_drawn false speaker = needs_drawn 1 speaker

  pub opens_drawn : (history : History) (judged : List Judgement) (speaker : Speaker S) → From speaker (opens setting history judged speaker)
  opens_drawn history judged speaker =
      let ready : Speaker S = record speaker { session = record speaker.session { history = history } } in
      let first : Speaker S = if has_accepted ready.session then ready else says_it_is_new setting ready in
      drawn_then ready first (acknowledges setting (acks_of judged) first) (new_drawn (has_accepted ready.session) ready) (acks_same (acks_of judged) first)

  pub attaches_drawn : (speaker : Speaker S) → From speaker (attaches setting speaker)
  attaches_drawn speaker =
      let first : Speaker S = if has_accepted speaker.session then speaker else says_it_is_new setting speaker in
      drawn_then speaker first (fold (λ speaker reply. says_again reply speaker) first (filter is_kept speaker.session.replies)) (new_drawn (has_accepted speaker.session) speaker)
      (kept_same (filter is_kept speaker.session.replies) first)
