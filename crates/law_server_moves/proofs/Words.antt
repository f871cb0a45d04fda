-- Each row of what a session owes is said in words that it can say.
use Rattle.std.proofs.Common.{◌≡◌, ℕ, append_assoc, ◌<◌, arith, ◌==◌, ◌&&◌, Bool, true, false, Option, None, Some, List, [], ◌∷◌, ◌++◌, map, fold, length, if◌then◌else◌, inl, inr, refl, sym, ap, subst, ◌∙◌, eq-eqb}
use Rattle.std.specs.Prelude.{◌⊎◌, min, is_some}
use Rattle.std.specs.List.{AllByRecursion, Contains, filter, find, list_all}
use Rattle.std.proofs.lemmas.Bool.{cases_Bool, cond_both}
use Rattle.std.proofs.lemmas.List.Elements.{Contains-append_cases, Contains-append_right}
use Rattle.salt_line.specs.Rows.{Row, future_rows_max, period_at}
use Rattle.salt_line.specs.Line.{Line, current_salt}
use Rattle.salt_line.specs.Future.{salt_rows}
use Rattle.salt_line.specs.Needed.{needed}
use Rattle.service_tl.specs.declared.item.Item.{Item}
use Rattle.service_tl.specs.declared.item.Item.TheVariants.{RpcResult, RpcDropAnswer, RpcAnswerUnknown, RpcAnswerDropped, GetFutureSalts, FutureSalts, Ping, PingDelayDisconnect, Pong, NewSessionCreated, MsgsAck, MsgsStateReq, MsgsStateInfo, MsgResendReq, BadMsgNotification, BadServerSalt, InvokeAfterMsg, InvokeAfterMsgs, AuthBindTempAuthKey, Packed, Call, Broken}
use Rattle.service_tl.specs.declared.lists.Message.{Message}
use Rattle.service_tl.specs.Items.{spelling_of}
use Rattle.service_tl.specs.Schema.{rpc_drop_answer}
use Rattle.id_window.specs.declared.mark.Mark.{Mark}
use Rattle.id_window.specs.declared.mark.Mark.TheVariants.{Noticed as MarkNoticed, Replied, Dropped}
use Rattle.id_window.specs.History.{History}
use Rattle.inbox.specs.Verdicts.{Judgement, Verdict, Accepted, Again, Noticed}
use Rattle.inbox.specs.States.{state_byte}
use Rattle.packing.specs.Numbering.{after_item, numbered}
use Rattle.waits.specs.declared.job.Job.{Job}
use Rattle.waits.specs.declared.job.Unfinished.{Unfinished}
use Rattle.waits.specs.Jobs.{Queue, first_job, is_call, is_of, without_first}
use Rattle.server_rules.specs.Server.{Binding, IsKept, Reply, Session, has_accepted, is_kept, kept_of, mark_in, marks_of, name_of, reply_to, with_session}
use Rattle.server_rules.specs.Event.{BindingCall, Entry, Owed, Setting, Speaker}
use Rattle.server_rules.specs.Speaking.{answers as answers_by, answers_in_place, bad_body, dropped, encrypted_message_invalid, has_said, made_room, message_of, needs_salts, owes_message, packed_body_refused, records, says, says_again, says_it_is_new, says_with_salt}
use Rattle.server_rules.specs.Waiting.{gives_up, outlook, tells_of, told}
use Rattle.server_rules.specs.Calls.{accepts_call, becomes_job, binds, binds_by, bool_true_content, dropped_running, drops_answer, drops_by, job_of, refusal, with_binding}
use Rattle.server_rules.specs.Rows.{acked_by, accepts, acknowledges, acks_of, answers_broken, came_again, future_salt_of, kept_numbered, notices, owes, says_reply, sends_again, takes_acks, tells_salts, tells_states}
use Rattle.server_rules.specs.Answer.{attaches, finishes, opens}
use Rattle.law_server.specs.Lives.{request_of}
use Rattle.law_moves.specs.Table.Item.{Notice}
use Rattle.law_moves.specs.World.{World, WasGiven}
use Rattle.law_moves.specs.Reached.{after_all}
use Rattle.law_client.specs.Packets.{item_there}
use Rattle.law_server_moves.specs.Leading.{Leads}
use Rattle.law_server_moves.specs.Servers.{AsksThere, CanSay, GoOn, HasForgotten, HasNoticed, HasSalt, HasSame, IsJobThere, IsJobOf, IsNoCall, Past, has_dropped, with_entries, with_replies}
use Rattle.law_server_moves.specs.Speaking.{AreOthersOpen, IsDue, IsOpen, IsPlain, IsSaid, IsWithin, SpeaksThere, StandsSpeaking, with_line}
use Rattle.law_server_moves.proofs.Lists.{all_of, each_of, first_or, from_filter, here}
use Rattle.law_server_moves.proofs.Leading.{leads_so, stays}
use Rattle.law_server_moves.proofs.Answering.{accepts as accepts_job, forgets, jobs_go_on}
use Rattle.law_server_moves.proofs.Kept.{acks_taken, all_told, first_out, one_dropped, room_made, same_jobs}
use Rattle.law_server_moves.proofs.Losing.{eq_true}
use Rattle.law_server_moves.proofs.Found.{dropped_outcome, first_in, found_in, judged_so, needed_row, noticed_outcome, row_in}
use Rattle.law_server_moves.proofs.Speech.{Adds, go_same, owed_still, owes_one, quietly, replies_aside, replies_to, reply_said, same_reply}

none_left : {X : Type 0} (x : X) → Contains [] x → ⊥
none_left x h = let below : h.0 < 0 = h.1 in omega (arith, below)

last_one : (replies : List Reply) (reply : Reply) → Contains (replies ++ reply ∷ []) reply
last_one replies reply = Contains-append_right replies (reply ∷ []) reply (here reply [])

and_first : (a b : Bool) → (a && b) ≡ true → a ≡ true
and_first true b is = refl
and_first false b is = absurd (cc)

-- an open number stays open where replies go on
pub still_open : (old new : List Reply) → GoOn old new → (number : ℕ) → IsOpen number old → IsOpen number new
still_open old new on number is_open was =
    let other = each_of (HasSame old) new on.from was.0 was.1 in
    is_open (other.0, other.1, other.2 ∙ was.2)

-- and where one is answered, another is
pub open_more : (replies : List Reply) (reply : Reply) (number : ℕ) → IsOpen number replies → (number ≡ reply.call → ⊥) → IsOpen number (replies ++ reply ∷ [])
open_more replies reply number is_open differs was =
    elim (Contains-append_cases replies (reply ∷ []) was.0 was.1) [
      | inl old ↦ is_open (was.0, old, was.2)
      | inr new ↦
          elim (first_or was.0 reply [] new) [
            | inl same ↦ differs (sym was.2 ∙ ap (λ (r : Reply). r.call) (sym same))
            | inr none ↦ none_left was.0 none
          ]
    ]

abbrev CanNotice : World → Session → ℕ → ℕ → Type 0
CanNotice w session number code =
    HasNoticed session number code ⊎ ((code ≡ 20) × Contains (w.servers session.unique).forgotten number) ⊎ ((code ≡ 19) × IsNoCall w.ups session.number number)

noticed_48 : (w : World) (session : Session) (number code : ℕ) → code ≡ 48 → CanNotice w session number code → HasNoticed session number 48
noticed_48 w session number code is (inl h) = subst (λ (c : ℕ). HasNoticed session number c) is h
noticed_48 w session number code is (inr (inl h)) = let twenty : code ≡ 20 = h.0 in absurd (omega (arith, is, twenty))
noticed_48 w session number code is (inr (inr h)) = let nineteen : code ≡ 19 = h.0 in absurd (omega (arith, is, nineteen))

can_notice : (w : World) (x : Session) (number code : ℕ) → CanNotice w x number code → CanSay w x (Notice number code)
can_notice w x number code (inl h) = inl h
can_notice w x number code (inr (inl h)) = inr (inl h)
can_notice w x number code (inr (inr h)) = let nineteen : code ≡ 19 = h.0 in inr (inr (omega (arith, nineteen), h.1))

module _ {S : Type 0} (adds : Adds) (setting : Setting S) (past : Past) (sessions : List Session) (line : Line) where
  abbrev At : World → Speaker S → Type 0
  At w speaker = SpeaksThere w past sessions line speaker

  -- what is behind it, with what the event has entered so far
  abbrev so_far : Speaker S → Past
  so_far speaker = with_entries speaker.entries past

  -- ---- words

  owes_it : (w : World) (speaker : Speaker S) (message : Message) → At w speaker → IsSaid w (with_line line speaker.session) message → At w (owes_message message speaker)
  owes_it w speaker message h said =
      owes_one w (so_far speaker) sessions (with_line line speaker.session) speaker.jobs speaker.owed h (record { name = name_of speaker.session; message = message }) (λ of. said)

  counts : (w : World) (speaker : Speaker S) (item : Item) → At w speaker
      → At w (record speaker { session = record speaker.session { counters = after_item setting.now speaker.session.counters item } })
  counts w speaker item h =
      quietly w (so_far speaker) sessions (with_line line speaker.session) speaker.jobs speaker.owed h (after_item setting.now speaker.session.counters item) speaker.session.replies speaker.jobs
      (go_same speaker.session.replies) (same_jobs speaker.jobs)

  pub says_it : (w : World) (speaker : Speaker S) (item : Item) → At w speaker
      → AllByRecursion (CanSay w (with_line line (record speaker.session { counters = after_item setting.now speaker.session.counters item }))) (item_there item)
      → IsPlain item → At w (says setting item speaker)
  says_it w speaker item h can plain =
      let counted : Speaker S = record speaker { session = record speaker.session { counters = after_item setting.now speaker.session.counters item } } in
      owes_it w counted (numbered setting.now speaker.session.counters item) (counts w speaker item h) (record { item = item; body = refl; plain = plain; can = can })

  again_it : (w : World) (speaker : Speaker S) (reply : Reply) → At w speaker → HasSame speaker.session.replies reply → At w (says_again reply speaker)
  again_it w speaker reply h same =
      cond_both (has_said reply.number speaker) speaker (owes_message (message_of reply) speaker) (At w) (λ is. h)
      (λ is. owes_it w speaker (message_of reply) h (reply_said w (with_line line speaker.session) reply same (message_of reply) refl))

  pub tells_it : (w : World) (number : ℕ) (speaker : Speaker S) → At w speaker → At w (tells_of number speaker)
  tells_it w number speaker h =
      let list : Queue = told (outlook speaker.session speaker.jobs number) speaker.session number speaker.jobs in
      record {
        stands = jobs_go_on w (so_far speaker) (with_session (with_line line speaker.session) sessions) speaker.jobs list h.stands
            (all_told (outlook speaker.session speaker.jobs number) speaker.session number speaker.jobs);
        among = h.among;
        owed = h.owed;
      }

  -- ---- salts

  pub current : (speaker : Speaker S) → IsWithin line (needs_salts setting 1 speaker).session
      → HasSalt (with_line line speaker.session) (current_salt (needs_salts setting 1 speaker).session.salts setting.now)
  current speaker within =
      let period : ℕ = period_at speaker.session.salts.start setting.now in
      let rows : List Row = (needed setting.step period (speaker.session.salts.rows, speaker.draw)).0 in
      let row = row_in period rows (needed_row setting.step period speaker.session.salts.rows speaker.draw) in
      (row.0, each_of (λ (r : Row). Contains line.rows r) rows within row.0 row.1, row.2)

  new_it : (w : World) (speaker : Speaker S) → At w speaker → IsWithin line (needs_salts setting 1 speaker).session → At w (says_it_is_new setting speaker)
  new_it w speaker h within =
      let ready : Speaker S = needs_salts setting 1 speaker in
      let salt : ℕ = current_salt ready.session.salts setting.now in
      says_it w ready (NewSessionCreated speaker.session.first speaker.session.unique salt) h ((refl, current speaker within), tt) tt

  acknowledges_it : (w : World) (numbers : List ℕ) (speaker : Speaker S) → At w speaker → At w (acknowledges setting numbers speaker)
  acknowledges_it w [] speaker h = h
  acknowledges_it w (number ∷ numbers) speaker h = says_it w speaker (MsgsAck (number ∷ numbers)) h tt tt

  -- ---- notices

  notices_it : (w : World) (number seq code : ℕ) (speaker : Speaker S) → At w speaker → CanNotice w speaker.session number code
      → (code ≡ 48 → IsWithin line (needs_salts setting 1 speaker).session) → At w (notices setting number seq code speaker)
  notices_it w number seq code speaker h can within =
      let ready : Speaker S = needs_salts setting 1 speaker in
      let salt : ℕ = current_salt ready.session.salts setting.now in
      cond_both (code == 48) (says_with_salt setting (λ salt. BadServerSalt number seq 48 salt) speaker) (says setting (BadMsgNotification number seq code) speaker) (At w)
      (λ is. let code_is : code ≡ 48 = eq_true code 48 is in
      says_it w ready (BadServerSalt number seq 48 salt) h ((noticed_48 w speaker.session number code code_is can, current speaker (within code_is)), tt) tt)
      (λ is. says_it w speaker (BadMsgNotification number seq code) h (can_notice w speaker.session number code can, tt) tt)

  -- ---- answers

  -- a call is answered, and that is entered
  answers_it : (w : World) (ran : Bool) (call : ℕ) (content request : List ℕ) (speaker : Speaker S) → At w speaker → AsksThere w speaker.session call (Some request)
      → IsOpen call speaker.session.replies → Leads w (λ later. At later (records ran call request content (answers_by setting call content speaker)))
  answers_it w ran call content request speaker h asks is_open =
      let item : Item = RpcResult call content in
      let message : Message = numbered setting.now speaker.session.counters item in
      let room : List Reply = made_room (length message.body) speaker.session.replies in
      let on : GoOn speaker.session.replies room = room_made (length message.body) speaker.session.replies in
      let y : Session = with_line line (record speaker.session { replies = room; counters = after_item setting.now speaker.session.counters item }) in
      let reply : Reply = record { call = call; number = message.number; seq = message.seq; content = content; fate = IsKept } in
      let z : Session = with_replies (room ++ reply ∷ []) y in
      let one : Owed = record { name = name_of speaker.session; message = message } in
      let entry : Entry = record { key = speaker.session.key; session = speaker.session.number; number = call; request = request; reply = content; ran = ran } in
      let quiet : StandsSpeaking w (so_far speaker) sessions y speaker.jobs speaker.owed =
      quietly w (so_far speaker) sessions (with_line line speaker.session) speaker.jobs speaker.owed h y.counters room speaker.jobs on (same_jobs speaker.jobs) in
      leads_so w (λ later. StandsSpeaking later (with_entries (entry ∷ []) (so_far speaker)) sessions z speaker.jobs speaker.owed)
      (λ later. At later (records ran call request content (answers_by setting call content speaker)))
      (λ later k. subst (λ (entries : List Entry). StandsSpeaking later (record past { entries = entries }) sessions z speaker.jobs (speaker.owed ++ one ∷ []))
      (append_assoc past.entries speaker.entries (entry ∷ []))
      (owes_one later (with_entries (entry ∷ []) (so_far speaker)) sessions z speaker.jobs speaker.owed k one
      (λ of. reply_said later z reply (same_reply z.replies reply (last_one room reply)) message refl)))
      (replies_to adds w (so_far speaker) sessions y speaker.jobs speaker.owed quiet reply ran request asks (still_open speaker.session.replies room on call is_open))

  -- a message that is no call is
  aside_it : (w : World) (call : ℕ) (content : List ℕ) (speaker : Speaker S) → At w speaker → AsksThere w speaker.session call None → At w (answers_by setting call content speaker)
  aside_it w call content speaker h asks =
      let item : Item = RpcResult call content in
      let message : Message = numbered setting.now speaker.session.counters item in
      let room : List Reply = made_room (length message.body) speaker.session.replies in
      let y : Session = with_line line (record speaker.session { replies = room; counters = after_item setting.now speaker.session.counters item }) in
      let reply : Reply = record { call = call; number = message.number; seq = message.seq; content = content; fate = IsKept } in
      let z : Session = with_replies (room ++ reply ∷ []) y in
      let quiet : StandsSpeaking w (so_far speaker) sessions y speaker.jobs speaker.owed =
      quietly w (so_far speaker) sessions (with_line line speaker.session) speaker.jobs speaker.owed h y.counters room speaker.jobs (room_made (length message.body) speaker.session.replies) (same_jobs speaker.jobs) in
      owes_one w (so_far speaker) sessions z speaker.jobs speaker.owed (replies_aside adds w (so_far speaker) sessions y speaker.jobs speaker.owed quiet reply asks) (record { name = name_of speaker.session; message = message })
      (λ of. reply_said w z reply (same_reply z.replies reply (last_one room reply)) message refl)

  -- ---- rows that are no move

  salts_it : (w : World) (number count : ℕ) (speaker : Speaker S) → At w speaker → At w (tells_salts setting number count speaker)
  salts_it w number count speaker h =
      let ready : Speaker S = needs_salts setting count speaker in
      says_it w ready (FutureSalts number setting.now (map future_salt_of (salt_rows ready.session.salts setting.now count))) h tt tt

  states_it : (w : World) (number : ℕ) (numbers : List ℕ) (speaker : Speaker S) → At w speaker → At w (tells_states setting number numbers speaker)
  states_it w number numbers speaker h =
      says_it w speaker (MsgsStateInfo number (map (state_byte speaker.session.history (marks_of speaker.session.history speaker.session.replies)) numbers)) h tt tt

  acks_it : (w : World) (numbers : List ℕ) (speaker : Speaker S) → At w speaker → At w (takes_acks numbers speaker)
  acks_it w numbers speaker h =
      quietly w (so_far speaker) sessions (with_line line speaker.session) speaker.jobs speaker.owed h speaker.session.counters (map (acked_by numbers) speaker.session.replies) speaker.jobs
      (acks_taken numbers speaker.session.replies) (same_jobs speaker.jobs)

  reply_by : (w : World) (reply : Option Reply) (speaker : Speaker S) → At w speaker → ((one : Reply) → reply ≡ Some one → Contains speaker.session.replies one)
      → At w (says_reply reply speaker)
  reply_by w None speaker h among = h
  reply_by w (Some one) speaker h among = again_it w speaker one h (same_reply speaker.session.replies one (among one refl))

  kept_replies_it : (w : World) (numbers : List ℕ) (speaker : Speaker S) → At w speaker
      → At w (fold (λ speaker other. says_reply (kept_numbered speaker.session.replies other) speaker) speaker numbers)
  kept_replies_it w [] speaker h = h
  kept_replies_it w (number ∷ numbers) speaker h =
      let reply = kept_numbered speaker.session.replies number in
      kept_replies_it w numbers (says_reply reply speaker)
      (reply_by w reply speaker h (λ one is. (found_in (λ reply. is_kept reply && (reply.number == number)) speaker.session.replies one is).0))

  sends_again_it : (w : World) (number : ℕ) (numbers : List ℕ) (speaker : Speaker S) → At w speaker → At w (sends_again setting number numbers speaker)
  sends_again_it w number numbers speaker h =
      cond_both (list_all (λ other. is_some (kept_numbered speaker.session.replies other)) numbers) _ _ (At w)
      (λ is. kept_replies_it w numbers speaker h) (λ is. states_it w number numbers speaker h)

  -- ---- rows that answer

  abbrev LeadsTo : World → Speaker S → Type 0
  LeadsTo w speaker = Leads w (λ later. At later speaker)

  broken_it : (w : World) (number constructor : ℕ) (body : List ℕ) (speaker : Speaker S) → At w speaker → AsksThere w speaker.session number (request_of (Broken constructor) body)
      → IsOpen number speaker.session.replies → LeadsTo w (answers_broken setting number constructor body speaker)
  broken_it w number constructor body speaker h asks is_open =
      let Goal : Bool → Type 0 = λ b. LeadsTo w (if b then answers_by setting number bad_body speaker else answers_in_place setting number body bad_body speaker) in
      let Asked : Bool → Type 0 = λ b. AsksThere w speaker.session number (if b then None else Some body) in
      elim (cases_Bool (constructor == rpc_drop_answer.number)) [
        | inl is ↦ subst Goal (sym is) (stays w (λ later. At later (answers_by setting number bad_body speaker)) (aside_it w number bad_body speaker h (subst Asked is asks)))
        | inr not ↦ subst Goal (sym not) (answers_it w false number bad_body body speaker h (subst Asked not asks) is_open)
      ]

  becomes_it : (w : World) (number : ℕ) (numbers request : List ℕ) (content : Option (List ℕ)) (speaker : Speaker S) → At w speaker → AsksThere w speaker.session number (Some request)
      → IsOpen number speaker.session.replies → LeadsTo w (becomes_job setting (job_of setting number numbers request speaker) content speaker)
  becomes_it w number numbers request (Some content) speaker h asks is_open = answers_it w false number content request speaker h asks is_open
  becomes_it w number numbers request None speaker h asks is_open =
      let job : Job = job_of setting number numbers request speaker in
      let y : Session = with_line line speaker.session in
      stays w (λ later. At later (becomes_job setting job None speaker)) (record {
        stands = accepts_job w (so_far speaker) (with_session y sessions) speaker.jobs h.stands y h.among job refl asks;
        among = h.among;
        owed = h.owed;
      })

  call_it : (w : World) (number : ℕ) (numbers request : List ℕ) (speaker : Speaker S) → At w speaker → AsksThere w speaker.session number (Some request)
      → IsOpen number speaker.session.replies → LeadsTo w (accepts_call setting number numbers request speaker)
  call_it w number numbers request speaker h asks is_open =
      becomes_it w number numbers request (refusal setting (job_of setting number numbers request speaker) speaker) speaker h asks is_open

  told_after : (w : World) (number : ℕ) (speaker : Speaker S) → LeadsTo w speaker → LeadsTo w (tells_of number speaker)
  told_after w number speaker l = leads_so w (λ later. At later speaker) (λ later. At later (tells_of number speaker)) (λ later h. tells_it later number speaker h) l

  -- a job that was taken out is answered
  pub gives_up_it : (w : World) (content : List ℕ) (job : Job) (speaker : Speaker S) → At w speaker → AsksThere w speaker.session job.number (Some job.request)
      → IsOpen job.number speaker.session.replies → LeadsTo w (gives_up setting content job speaker)
  gives_up_it w content job speaker h asks is_open =
      told_after w job.number (answers_in_place setting job.number job.request content speaker) (answers_it w false job.number content job.request speaker h asks is_open)

  pub finishes_it : (w : World) (job : Job) (reply : List ℕ) (speaker : Speaker S) → At w speaker → AsksThere w speaker.session job.number (Some job.request)
      → IsOpen job.number speaker.session.replies → LeadsTo w (finishes setting job reply speaker)
  finishes_it w job reply speaker h asks is_open =
      let own : Speaker S = answers_by setting job.number reply speaker in
      told_after w job.number (records true job.number job.request reply own) (answers_it w true job.number reply job.request speaker h asks is_open)

  -- ---- an answer is dropped

  jobs_it : (w : World) (jobs : Queue) (speaker : Speaker S) → At w speaker → AllByRecursion (IsJobOf speaker.jobs) jobs → At w (record speaker { jobs = jobs })
  jobs_it w jobs speaker h from = record {
    stands = jobs_go_on w (so_far speaker) (with_session (with_line line speaker.session) sessions) speaker.jobs jobs h.stands from;
    among = h.among;
    owed = h.owed;
  }

  -- the session's job is a call there
  job_asks : (w : World) (speaker : Speaker S) → At w speaker → (one : Unfinished) → Contains speaker.jobs one → is_of speaker.session.key speaker.session.number one ≡ true
      → AsksThere w speaker.session one.job.number (Some one.job.request)
  job_asks w speaker h one among of =
      let y : Session = with_line line speaker.session in
      each_of (IsJobThere w y) speaker.jobs
      (each_of (λ (o : Session). AllByRecursion (IsJobThere w o) speaker.jobs) (with_session y sessions) h.stands.working y h.among) one among of

  running_it : (w : World) (number : ℕ) (job : Job) (speaker : Speaker S) → At w speaker → AsksThere w speaker.session number None
      → AsksThere w speaker.session job.number (Some job.request) → IsOpen job.number speaker.session.replies → (job.number ≡ number → ⊥)
      → LeadsTo w (drops_by setting number (Some job) None speaker)
  running_it w number job speaker h asks job_asks_so is_open differs =
      let own : Speaker S = answers_by setting number dropped_running speaker in
      let test : Unfinished → Bool = is_call job.key job.session job.number in
      let rest : Speaker S = record own { jobs = without_first test own.jobs } in
      let message : Message = numbered setting.now speaker.session.counters (RpcResult number dropped_running) in
      let room : List Reply = made_room (length message.body) speaker.session.replies in
      let reply : Reply = record { call = number; number = message.number; seq = message.seq; content = dropped_running; fate = IsKept } in
      told_after w job.number (answers_in_place setting job.number job.request dropped_running rest)
      (answers_it w false job.number dropped_running job.request rest (jobs_it w rest.jobs own (aside_it w number dropped_running speaker h asks) (first_out test own.jobs)) job_asks_so
      (open_more room reply job.number (still_open speaker.session.replies room (room_made (length message.body) speaker.session.replies) job.number is_open) differs))

  kept_it : (w : World) (number : ℕ) (reply : Reply) (speaker : Speaker S) → At w speaker → AsksThere w speaker.session number None
      → At w (drops_by setting number None (Some reply) speaker)
  kept_it w number reply speaker h asks =
      let replies : List Reply = map (λ other. if other.number == reply.number then dropped other else other) speaker.session.replies in
      let rest : Speaker S = record speaker { session = record speaker.session { replies = replies } } in
      aside_it w number (spelling_of (RpcAnswerDropped reply.number reply.seq (length (kept_of reply).body))) rest
      (quietly w (so_far speaker) sessions (with_line line speaker.session) speaker.jobs speaker.owed h speaker.session.counters replies speaker.jobs
      (one_dropped reply.number speaker.session.replies) (same_jobs speaker.jobs)) asks

  drops_by_it : (w : World) (number : ℕ) (job : Option Job) (reply : Option Reply) (speaker : Speaker S) → At w speaker → AsksThere w speaker.session number None
      → ((one : Job) → job ≡ Some one → AsksThere w speaker.session one.number (Some one.request) × IsOpen one.number speaker.session.replies × (one.number ≡ number → ⊥))
      → LeadsTo w (drops_by setting number job reply speaker)
  drops_by_it w number (Some job) reply speaker h asks jobs =
      let its = jobs job refl in
      running_it w number job speaker h asks its.0 its.1 its.2
  drops_by_it w number None (Some reply) speaker h asks jobs =
      stays w (λ later. At later (drops_by setting number None (Some reply) speaker)) (kept_it w number reply speaker h asks)
  drops_by_it w number None None speaker h asks jobs =
      stays w (λ later. At later (drops_by setting number None None speaker)) (aside_it w number (spelling_of RpcAnswerUnknown) speaker h asks)

  drops_it : (w : World) (number call : ℕ) (speaker : Speaker S) → At w speaker → AsksThere w speaker.session number None → AreOthersOpen number speaker.session speaker.jobs
      → LeadsTo w (drops_answer setting number call speaker)
  drops_it w number call speaker h asks others =
      let test : Unfinished → Bool = is_call speaker.session.key speaker.session.number call in
      drops_by_it w number (first_job test speaker.jobs) (find (λ reply. is_kept reply && (reply.call == call)) speaker.session.replies) speaker h asks
      (λ job is.
      let found = first_in test speaker.jobs job is in
      let of : is_of speaker.session.key speaker.session.number found.0 ≡ true =
      and_first (is_of speaker.session.key speaker.session.number found.0) (found.0.job.number == call) found.3 in
      let its = each_of (λ (one : Unfinished). is_of speaker.session.key speaker.session.number one ≡ true → IsOpen one.job.number speaker.session.replies × (one.job.number ≡ number → ⊥))
      speaker.jobs others found.0 found.1 of in
      subst (λ (j : Job). AsksThere w speaker.session j.number (Some j.request) × IsOpen j.number speaker.session.replies × (j.number ≡ number → ⊥)) found.2
      (job_asks w speaker h found.0 found.1 of, its.0, its.1))

  -- ---- a binding

  binds_by_it : (w : World) (number : ℕ) (binding : Option Binding) (speaker : Speaker S) → At w speaker → AsksThere w speaker.session number None → At w (binds_by setting number binding speaker)
  binds_by_it w number None speaker h asks = aside_it w number encrypted_message_invalid speaker h asks
  binds_by_it w number (Some binding) speaker h asks =
      aside_it w number bool_true_content (record speaker { bindings = with_binding binding speaker.bindings }) h asks

  binds_it : (w : World) (call : BindingCall) (speaker : Speaker S) → At w speaker → AsksThere w speaker.session call.number None → LeadsTo w (binds setting call speaker)
  binds_it w call speaker h asks =
      stays w (λ later. At later (binds setting call speaker)) (binds_by_it w call.number (setting.bound_by setting.now (name_of speaker.session) call) speaker h asks)

  -- ---- what was accepted

  stays_so : (w : World) (speaker : Speaker S) → At w speaker → LeadsTo w speaker
  stays_so w speaker h = stays w (λ later. At later speaker) h

  accepts_it : (w : World) (number : ℕ) (item : Item) (body : List ℕ) (speaker : Speaker S) → At w speaker → AsksThere w speaker.session number (request_of item body)
      → IsOpen number speaker.session.replies → AreOthersOpen number speaker.session speaker.jobs → LeadsTo w (accepts setting number item body speaker)
  accepts_it w number Packed body speaker h asks is_open others = answers_it w false number packed_body_refused body speaker h asks is_open
  accepts_it w number (Broken constructor) body speaker h asks is_open others = broken_it w number constructor body speaker h asks is_open
  accepts_it w number (AuthBindTempAuthKey perm nonce expires message) body speaker h asks is_open others =
      binds_it w (record { number = number; perm = perm; nonce = nonce; expires = expires; message = message }) speaker h asks
  accepts_it w number Call body speaker h asks is_open others = call_it w number [] body speaker h asks is_open
  accepts_it w number (InvokeAfterMsg other query) body speaker h asks is_open others = call_it w number (other ∷ []) query speaker h asks is_open
  accepts_it w number (InvokeAfterMsgs numbers query) body speaker h asks is_open others = call_it w number numbers query speaker h asks is_open
  accepts_it w number (RpcDropAnswer call) body speaker h asks is_open others = drops_it w number call speaker h asks others
  accepts_it w number (Ping ping) body speaker h asks is_open others = stays_so w (says setting (Pong number ping) speaker) (says_it w speaker (Pong number ping) h tt tt)
  accepts_it w number (PingDelayDisconnect ping delay) body speaker h asks is_open others = stays_so w (says setting (Pong number ping) speaker) (says_it w speaker (Pong number ping) h tt tt)
  accepts_it w number (GetFutureSalts count) body speaker h asks is_open others =
      stays_so w (tells_salts setting number (min count future_rows_max) speaker) (salts_it w number (min count future_rows_max) speaker h)
  accepts_it w number (MsgsAck numbers) body speaker h asks is_open others = stays_so w (takes_acks numbers speaker) (acks_it w numbers speaker h)
  accepts_it w number (MsgsStateReq numbers) body speaker h asks is_open others = stays_so w (tells_states setting number numbers speaker) (states_it w number numbers speaker h)
  accepts_it w number (MsgResendReq numbers) body speaker h asks is_open others = stays_so w (sends_again setting number numbers speaker) (sends_again_it w number numbers speaker h)
  accepts_it w number _ body speaker h asks is_open others = stays_so w speaker h

  -- ---- what was noticed, and what came again

  within_48 : (number seq code : ℕ) (speaker : Speaker S) → IsWithin line (notices setting number seq code speaker).session → code ≡ 48
      → IsWithin line (needs_salts setting 1 speaker).session
  within_48 number seq code speaker within is =
      subst (λ (b : Bool). IsWithin line (if b then says_with_salt setting (λ salt. BadServerSalt number seq 48 salt) speaker else says setting (BadMsgNotification number seq code) speaker).session)
      (eq-eqb code 48 is) within

  -- the number is forgotten there, and then it says so
  forgotten_it : (w : World) (number seq code : ℕ) (speaker : Speaker S) → At w speaker → code ≡ 20 → WasGiven w.ups speaker.session.number number → HasForgotten number speaker.session
      → IsWithin line (notices setting number seq code speaker).session → LeadsTo w (notices setting number seq code speaker)
  forgotten_it w number seq code speaker h is given was within =
      let y : Session = with_line line speaker.session in
      let l = forgets w (so_far speaker) (with_session y sessions) speaker.jobs h.stands y h.among number given was in
      record {
        moves = l.moves;
        lawful = l.lawful;
        own = l.own;
        gives = notices_it (after_all w l.moves) number seq code speaker
            (record {
              stands = l.gives.0;
              among = h.among;
              owed = owed_still w (after_all w l.moves) y y.counters y.replies (λ reply same. same) (λ n has. adds.forgotten w l.moves l.lawful y.unique n has) (λ m has. adds.messages w l.moves l.lawful m has) speaker.owed h.owed;
            })
            (inr (inl (is, l.gives.1))) (within_48 number seq code speaker within);
      }

  due_it : (w : World) (number seq code : ℕ) (speaker : Speaker S) → At w speaker
      → HasNoticed speaker.session number code ⊎ ((code ≡ 20) × WasGiven w.ups speaker.session.number number × HasForgotten number speaker.session)
      ⊎ ((code ≡ 19) × IsNoCall w.ups speaker.session.number number)
      → IsWithin line (notices setting number seq code speaker).session → LeadsTo w (notices setting number seq code speaker)
  due_it w number seq code speaker h (inl noticed) within =
      stays_so w (notices setting number seq code speaker) (notices_it w number seq code speaker h (inl noticed) (within_48 number seq code speaker within))
  due_it w number seq code speaker h (inr (inl forgot)) within = forgotten_it w number seq code speaker h forgot.0 forgot.1 forgot.2 within
  due_it w number seq code speaker h (inr (inr none)) within =
      stays_so w (notices setting number seq code speaker) (notices_it w number seq code speaker h (inr (inr none)) (within_48 number seq code speaker within))

  again_by : (w : World) (number seq : ℕ) (mark : Option Mark) (speaker : Speaker S) → mark_in speaker.session number ≡ mark → At w speaker → WasGiven w.ups speaker.session.number number
      → IsWithin line (came_again setting number seq mark speaker).session → LeadsTo w (came_again setting number seq mark speaker)
  again_by w number seq (Some (MarkNoticed code)) speaker is h given within =
      let j = judged_so speaker.session.history speaker.session.replies number (MarkNoticed code) is in
      due_it w number seq code speaker h (inl (j.0, j.1, eq_true j.0.number number j.2, noticed_outcome speaker.session.replies j.0.number j.0.outcome code j.3)) within
  again_by w number seq (Some (Replied good)) speaker is h given within =
      stays_so w (says_reply (reply_to number speaker.session.replies) speaker)
      (reply_by w (reply_to number speaker.session.replies) speaker h (λ one found. (found_in (λ reply. reply.call == number) speaker.session.replies one found).0))
  again_by w number seq (Some (Dropped good)) speaker is h given within =
      let j = judged_so speaker.session.history speaker.session.replies number (Dropped good) is in
      let was : has_dropped number speaker.session.replies ≡ true =
      subst (λ (n : ℕ). has_dropped n speaker.session.replies ≡ true) (eq_true j.0.number number j.2) (dropped_outcome speaker.session.replies j.0.number j.0.outcome good j.3) in
      due_it w number seq 20 speaker h (inr (inl (refl, given, inr was))) within
  again_by w number seq _ speaker is h given within = stays_so w speaker h

  pub owes_row : (w : World) (number seq : ℕ) (verdict : Verdict) (body : List ℕ) (speaker : Speaker S) → At w speaker → IsDue w speaker.session speaker.jobs number verdict body
      → IsWithin line (owes setting number seq verdict body speaker).session → LeadsTo w (owes setting number seq verdict body speaker)
  owes_row w number seq (Noticed code) body speaker h due within = due_it w number seq code speaker h due within
  owes_row w number seq (Again mark) body speaker h due within = again_by w number seq (mark_in speaker.session number) speaker refl h due within
  owes_row w number seq (Accepted item) body speaker h due within = accepts_it w number item body speaker h due.0 due.1 due.2

  -- ---- an attach, and what a packet opens with

  new_if : (w : World) (speaker : Speaker S) → At w speaker → IsWithin line (if has_accepted speaker.session then speaker else says_it_is_new setting speaker).session
      → At w (if has_accepted speaker.session then speaker else says_it_is_new setting speaker)
  new_if w speaker h within =
      elim (cases_Bool (has_accepted speaker.session)) [
        | inl is ↦ subst (λ (b : Bool). At w (if b then speaker else says_it_is_new setting speaker)) (sym is) h
        | inr not ↦
            subst (λ (b : Bool). At w (if b then speaker else says_it_is_new setting speaker)) (sym not)
            (new_it w speaker h (subst (λ (b : Bool). IsWithin line (if b then speaker else says_it_is_new setting speaker).session) not within))
      ]

  again_all : (w : World) (replies : List Reply) (speaker : Speaker S) → At w speaker → AllByRecursion (HasSame speaker.session.replies) replies
      → At w (fold (λ speaker reply. says_again reply speaker) speaker replies)
  again_all w [] speaker h same = h
  again_all w (reply ∷ replies) speaker h same =
      again_all w replies (says_again reply speaker) (again_it w speaker reply h same.0)
      (cond_both (has_said reply.number speaker) speaker (owes_message (message_of reply) speaker) (λ s. AllByRecursion (HasSame s.session.replies) replies) (λ is. same.1) (λ is. same.1))

  same_of : (speaker : Speaker S) (list : List Reply) → AllByRecursion (HasSame speaker.session.replies) list
      → AllByRecursion (HasSame (if has_accepted speaker.session then speaker else says_it_is_new setting speaker).session.replies) list
  same_of speaker list h =
      cond_both (has_accepted speaker.session) speaker (says_it_is_new setting speaker) (λ s. AllByRecursion (HasSame s.session.replies) list) (λ is. h) (λ is. h)

  -- kept replies are said by the same session
  again_session : (replies : List Reply) (speaker : Speaker S) → (fold (λ speaker reply. says_again reply speaker) speaker replies).session ≡ speaker.session
  again_session [] speaker = refl
  again_session (reply ∷ replies) speaker =
      again_session replies (says_again reply speaker)
      ∙ cond_both (has_said reply.number speaker) speaker (owes_message (message_of reply) speaker) (λ s. s.session ≡ speaker.session) (λ is. refl) (λ is. refl)

  pub attaches_it : (w : World) (speaker : Speaker S) → At w speaker → IsWithin line (attaches setting speaker).session → At w (attaches setting speaker)
  attaches_it w speaker h within =
      let first : Speaker S = if has_accepted speaker.session then speaker else says_it_is_new setting speaker in
      let list : List Reply = filter is_kept speaker.session.replies in
      let kept : AllByRecursion (HasSame speaker.session.replies) list =
      all_of (HasSame speaker.session.replies) list (λ reply among. same_reply speaker.session.replies reply (from_filter is_kept speaker.session.replies reply among).0) in
      again_all w list first (new_if w speaker h (subst (λ (s : Session). IsWithin line s) (again_session list first) within)) (same_of speaker list kept)

  within_acks : (numbers : List ℕ) (speaker : Speaker S) → IsWithin line (acknowledges setting numbers speaker).session → IsWithin line speaker.session
  within_acks [] speaker within = within
  within_acks (number ∷ numbers) speaker within = within

  pub opens_it : (w : World) (history : History) (judged : List Judgement) (speaker : Speaker S) → At w (record speaker { session = record speaker.session { history = history } })
      → IsWithin line (opens setting history judged speaker).session → At w (opens setting history judged speaker)
  opens_it w history judged speaker h within =
      let ready : Speaker S = record speaker { session = record speaker.session { history = history } } in
      let first : Speaker S = if has_accepted ready.session then ready else says_it_is_new setting ready in
      acknowledges_it w (acks_of judged) first (new_if w ready h (within_acks (acks_of judged) first within))
