-- The salts of a session only grow within an event.
use Rattle.std.proofs.Common.{◌≡◌, ℕ, zero, suc, ◌==◌, ◌&&◌, Option, None, Some, List, [], ◌∷◌, ◌++◌, fold, inl, inr, refl, sym, ap, subst, ◌∙◌, append_assoc}
use Rattle.std.specs.Prelude.{is_some, min}
use Rattle.std.specs.List.{Contains, find, list_all}
use Rattle.std.proofs.lemmas.Bool.{cases_Bool, cond_both}
use Rattle.std.proofs.lemmas.List.Elements.{Contains-append_left}
use Rattle.salt_line.specs.Line.{Line}
use Rattle.salt_line.specs.Rows.{Row, future_rows_max}
use Rattle.salt_line.specs.Needed.{has_row, needed, needed_from}
use Rattle.salt_line.specs.Rows.{period_at}
use Rattle.service_tl.specs.declared.item.Item.{Item}
use Rattle.service_tl.specs.declared.item.Item.TheVariants.{Packed, Broken, AuthBindTempAuthKey, Call, InvokeAfterMsg, InvokeAfterMsgs, RpcDropAnswer, Ping, PingDelayDisconnect, GetFutureSalts, MsgsAck, MsgsStateReq, MsgResendReq, BadServerSalt, BadMsgNotification}
use Rattle.service_tl.specs.Schema.{rpc_drop_answer}
use Rattle.id_window.specs.declared.mark.Mark.{Mark}
use Rattle.id_window.specs.declared.mark.Mark.TheVariants.{Noticed as MarkNoticed, Replied, Dropped}
use Rattle.inbox.specs.Verdicts.{Verdict, Accepted, Again, Noticed}
use Rattle.waits.specs.declared.job.Job.{Job}
use Rattle.waits.specs.Jobs.{first_job, is_call}
use Rattle.server_rules.specs.Server.{Reply, Session, is_kept, mark_in, reply_to}
use Rattle.server_rules.specs.Event.{Setting, Speaker}
use Rattle.server_rules.specs.Server.{Binding}
use Rattle.server_rules.specs.Speaking.{answers, answers_in_place, bad_body, has_said, message_of, needs_salts, owes_message, says, says_again, says_with_salt}
use Rattle.server_rules.specs.Calls.{accepts_call, becomes_job, binds_by, drops_by, job_of, refusal}
use Rattle.server_rules.specs.Rows.{accepts, answers_broken, came_again, kept_numbered, notices, owes, says_reply, sends_again}
use Rattle.law_server_moves.specs.Speaking.{IsWithin}
use Rattle.law_server_moves.proofs.Lists.{all_of}
use Rattle.law_server_moves.proofs.Losing.{append_nothing}

-- the session's line has the rows that it had before, and then others
abbrev pub Grown : Session → Session → Type 0
Grown before after = (more : List Row) × (after.salts ≡ record before.salts { rows = before.salts.rows ++ more })

abbrev pub with_line_rows : Line → List Row → Line
with_line_rows line rows = record line { rows = rows }

pub grown_itself : (x : Session) → Grown x x
grown_itself x = ([], ap (λ (rows : List Row). with_line_rows x.salts rows) (sym (append_nothing x.salts.rows)))

pub grown_then : (x y z : Session) → Grown x y → Grown y z → Grown x z
grown_then x y z one two = (
  one.0 ++ two.0,
  two.1
      ∙ ap (λ (line : Line). with_line_rows line (line.rows ++ two.0)) one.1
      ∙ ap (λ (rows : List Row). with_line_rows x.salts rows) (append_assoc x.salts.rows one.0 two.0),
)

-- so each row that it had is there
pub grown_within : (x y : Session) → Grown x y → IsWithin y.salts x
grown_within x y h =
    all_of (λ (row : Row). Contains y.salts.rows row) x.salts.rows
    (λ row there. subst (λ (line : Line). Contains line.rows row) (sym h.1) (Contains-append_left x.salts.rows h.0 row there))

module _ {S : Type 0} (setting : Setting S) where
  needed_more : (period : ℕ) (rows : List Row) (draw : S) → (more : List Row) × ((needed setting.step period (rows, draw)).0 ≡ rows ++ more)
  needed_more period rows draw =
      elim (cases_Bool (has_row period rows)) [
        | inl is ↦ rw is ([], sym (append_nothing rows))
        | inr not_so ↦ rw not_so (record { period = period; word = (setting.step draw).0 } ∷ [], refl)
      ]

  more_from : (period n : ℕ) (rows : List Row) (draw : S) → (more : List Row) × ((needed_from setting.step period n (rows, draw)).0 ≡ rows ++ more)
  more_from period zero rows draw = ([], sym (append_nothing rows))
  more_from period (suc n) rows draw =
      let next = needed setting.step period (rows, draw) in
      let one = needed_more period rows draw in
      let rest = more_from (suc period) n next.0 next.1 in
      (one.0 ++ rest.0, rest.1 ∙ ap (λ (l : List Row). l ++ rest.0) one.1 ∙ append_assoc rows one.0 rest.0)

  pub needs_grown : (count : ℕ) (speaker : Speaker S) → Grown speaker.session (needs_salts setting count speaker).session
  needs_grown count speaker =
      let more = more_from (period_at speaker.session.salts.start setting.now) count speaker.session.salts.rows speaker.draw in
      (more.0, ap (λ (rows : List Row). with_line_rows speaker.session.salts rows) more.1)

  abbrev From : Speaker S → Speaker S → Type 0
  From before after = Grown before.session after.session

  itself : (speaker : Speaker S) → From speaker speaker
  itself speaker = grown_itself speaker.session

  pub notices_grown : (number seq code : ℕ) (speaker : Speaker S) → From speaker (notices setting number seq code speaker)
  notices_grown number seq code speaker =
      cond_both (code == 48) (says_with_salt setting (λ salt. BadServerSalt number seq 48 salt) speaker) (says setting (BadMsgNotification number seq code) speaker) (From speaker)
      (λ is. needs_grown 1 speaker) (λ is. itself speaker)

  again_grown : (reply : Reply) (speaker : Speaker S) → From speaker (says_again reply speaker)
  again_grown reply speaker = cond_both (has_said reply.number speaker) speaker (owes_message (message_of reply) speaker) (From speaker) (λ is. itself speaker) (λ is. itself speaker)

  reply_grown : (reply : Option Reply) (speaker : Speaker S) → From speaker (says_reply reply speaker)
  reply_grown None speaker = itself speaker
  reply_grown (Some reply) speaker = again_grown reply speaker

  came_grown : (number seq : ℕ) (mark : Option Mark) (speaker : Speaker S) → From speaker (came_again setting number seq mark speaker)
  came_grown number seq (Some (MarkNoticed code)) speaker = notices_grown number seq code speaker
  came_grown number seq (Some (Replied good)) speaker = reply_grown (reply_to number speaker.session.replies) speaker
  came_grown number seq (Some (Dropped good)) speaker = notices_grown number seq 20 speaker
  came_grown number seq _ speaker = itself speaker

  all_again_grown : (numbers : List ℕ) (speaker : Speaker S) → From speaker (fold (λ speaker other. says_reply (kept_numbered speaker.session.replies other) speaker) speaker numbers)
  all_again_grown [] speaker = itself speaker
  all_again_grown (number ∷ numbers) speaker =
      let next = says_reply (kept_numbered speaker.session.replies number) speaker in
      grown_then speaker.session next.session (fold (λ speaker other. says_reply (kept_numbered speaker.session.replies other) speaker) next numbers).session (reply_grown (kept_numbered speaker.session.replies number) speaker) (all_again_grown numbers next)

  sends_grown : (number : ℕ) (numbers : List ℕ) (speaker : Speaker S) → From speaker (sends_again setting number numbers speaker)
  sends_grown number numbers speaker =
      cond_both (list_all (λ other. is_some (kept_numbered speaker.session.replies other)) numbers) _ _ (From speaker) (λ is. all_again_grown numbers speaker) (λ is. itself speaker)

  broken_grown : (number constructor : ℕ) (body : List ℕ) (speaker : Speaker S) → From speaker (answers_broken setting number constructor body speaker)
  broken_grown number constructor body speaker =
      cond_both (constructor == rpc_drop_answer.number) (answers setting number bad_body speaker) (answers_in_place setting number body bad_body speaker) (From speaker)
      (λ is. itself speaker) (λ is. itself speaker)

  becomes_grown : (job : Job) (content : Option (List ℕ)) (speaker : Speaker S) → From speaker (becomes_job setting job content speaker)
  becomes_grown job (Some content) speaker = itself speaker
  becomes_grown job None speaker = itself speaker

  call_grown : (number : ℕ) (numbers request : List ℕ) (speaker : Speaker S) → From speaker (accepts_call setting number numbers request speaker)
  call_grown number numbers request speaker =
      let job = job_of setting number numbers request speaker in becomes_grown job (refusal setting job speaker) speaker

  drops_grown : (number : ℕ) (job : Option Job) (reply : Option Reply) (speaker : Speaker S) → From speaker (drops_by setting number job reply speaker)
  drops_grown number (Some job) reply speaker = itself speaker
  drops_grown number None (Some reply) speaker = itself speaker
  drops_grown number None None speaker = itself speaker

  binds_grown : (number : ℕ) (binding : Option Binding) (speaker : Speaker S) → From speaker (binds_by setting number binding speaker)
  binds_grown number None speaker = itself speaker
  binds_grown number (Some binding) speaker = itself speaker

  accepts_grown : (number : ℕ) (item : Item) (body : List ℕ) (speaker : Speaker S) → From speaker (accepts setting number item body speaker)
  accepts_grown number Packed body speaker = itself speaker
  accepts_grown number (Broken constructor) body speaker = broken_grown number constructor body speaker
  accepts_grown number (AuthBindTempAuthKey perm nonce expires message) body speaker =
      binds_grown number (setting.bound_by setting.now (record { key = speaker.session.key; session = speaker.session.number }) (record { number = number; perm = perm; nonce = nonce; expires = expires; message = message })) speaker
  accepts_grown number Call body speaker = call_grown number [] body speaker
  accepts_grown number (InvokeAfterMsg other query) body speaker = call_grown number (other ∷ []) query speaker
  accepts_grown number (InvokeAfterMsgs others query) body speaker = call_grown number others query speaker
  accepts_grown number (RpcDropAnswer call) body speaker =
      drops_grown number (first_job (is_call speaker.session.key speaker.session.number call) speaker.jobs) (find (λ reply. is_kept reply && (reply.call == call)) speaker.session.replies) speaker
  accepts_grown number (Ping ping) body speaker = itself speaker
  accepts_grown number (PingDelayDisconnect ping delay) body speaker = itself speaker
  accepts_grown number (GetFutureSalts count) body speaker = needs_grown (min count future_rows_max) speaker
  accepts_grown number (MsgsAck numbers) body speaker = itself speaker
  accepts_grown number (MsgsStateReq numbers) body speaker = itself speaker
  accepts_grown number (MsgResendReq numbers) body speaker = sends_grown number numbers speaker
  accepts_grown number _ body speaker = itself speaker

  pub owes_grown : (number seq : ℕ) (verdict : Verdict) (body : List ℕ) (speaker : Speaker S) → From speaker (owes setting number seq verdict body speaker)
  owes_grown number seq (Noticed code) body speaker = notices_grown number seq code speaker
  owes_grown number seq (Again mark) body speaker = came_grown number seq (mark_in speaker.session number) speaker
  owes_grown number seq (Accepted item) body speaker = accepts_grown number item body speaker
