-- A packet's message that nothing refuses: its session stays or has no room, and a call is a job or answered.
use Rattle.std.proofs.Common.{◌≡◌, ◌∙◌, ℕ, zero, suc, Bool, true, false, cond, Option, Some, None, List, [], ◌∷◌, ◌++◌, length, ap, sym, subst, refl, arith, inl, inr}
use Rattle.std.specs.Prelude.{fold, map, nat_le, ◌==◌, ◌&&◌, ◌⊎◌}
use Rattle.std.specs.List.{All, Contains, list_any, zip}
use Rattle.std.proofs.lemmas.Bool.{cases_Bool, cond_both, cond-true, cond-false, and_from, eq-eqb, false≢true}
use Rattle.std.proofs.lemmas.List.Elements.{All-head, All-push, Contains-append_left, Contains-push}
use Rattle.std.proofs.lemmas.List.Sums.{fold-append}
use Rattle.containers.specs.Container.{begins_container}
use Rattle.containers.specs.Parts.{parts_of}
use Rattle.service_tl.specs.declared.item.Item.{Item}
use Rattle.service_tl.specs.declared.item.Item.TheVariants.{AuthBindTempAuthKey, Broken, Call, InvokeAfterMsg, InvokeAfterMsgs, MsgContainer, Packed, RpcResult}
use Rattle.service_tl.specs.ItemOf.{item_of}
use Rattle.service_tl.specs.Schema.{rpc_drop_answer}
use Rattle.service_tl.specs.declared.lists.Message.{Message}
use Rattle.salt_line.specs.Line.{current_salt}
use Rattle.packing.specs.Numbering.{numbered}
use Rattle.packing.specs.Packing.{after_packets, packets_of}
use Rattle.outbox.specs.Replies.{fits}
use Rattle.id_window.specs.History.{EachOnce, FirstJudgement, History, Outcome, AcceptedCall, floor, found, is_kept as is_number_kept, noted}
use Rattle.id_window.specs.Marks.{Marks, given, mark_of}
use Rattle.id_window.specs.declared.mark.Mark.{Mark}
use Rattle.id_window.specs.declared.mark.Mark.TheVariants.{Waiting}
use Rattle.inbox.specs.Verdicts.{Judgement, Verdict, Accepted}
use Rattle.inbox.specs.Judging.{Session as Remembered, first_mark, inner_judgements, judge, judged_session, judgement_on, inner_session, judgements, outcome_of, session_after, unfolded}
use Rattle.inbox.specs.Kinds.{inner_messages, item_told, kind_of, parts_among}
use Rattle.waits.specs.declared.job.Job.{Job}
use Rattle.waits.specs.declared.job.Unfinished.{Unfinished}
use Rattle.waits.specs.Jobs.{Queue, accepted, has_failed, is_call, without_first}
use Rattle.server_rules.specs.Server.{Binding, Name, Reply, Server, Session, IsKept, WasDropped, has_accepted, is_kept, kept_replies, mark_in, marks_of, name_of, remembered, session_named}
use Rattle.server_rules.specs.Event.{BindingCall, Envelope, Setting, Speaker, State}
use Rattle.server_rules.specs.Speaking.{answers, answers_in_place, bad_body, dropped, encrypted_message_invalid, made_room, msg_wait_failed, needs_salts, packed_body_refused, says_it_is_new}
use Rattle.server_rules.specs.Waiting.{GoesOn, Outlook, first_failed, outlook, outlook_by, tells_of, told}
use Rattle.server_rules.specs.Calls.{accepts_call, becomes_job, binds_by, bool_true_content, job_of, refusal, with_binding}
use Rattle.server_rules.specs.Rows.{accepts, acknowledges, acks_of}
use Rattle.server_rules.specs.Sending.{all_sent, messages_by, seals}
use Rattle.server_rules.specs.Answer.{Answer, after_packet, begun, hears, is_spent, message_in, messages_judged, name_in, opens, takes}
use Rattle.inbox.specs.Refusals.{InEnvelope, Way}
use Rattle.law_server.specs.Order.{IsOrderly, IsTold, WasAccepted, is_for_service, jobs_of}
use Rattle.server_core.specs.Acceptance.{Due, HasDue, IsAcceptedBy, IsAnswered, Waits, bound_content, due_by, due_call, due_of, opened}
use Rattle.server_core.specs.Among.{Among, IsAlone, IsOrderlySpeaker, heard_among, left_where, row_among, settles_among, speaks_among, state_of, takes_among, tells_all}
use Rattle.server_core.specs.One.{answer_of, fails_all, fails_first, given_up_by, says_its_own, sends_all}
use Rattle.server_core.proofs.Acked.{first-or-later, in-nothing, later}
use Rattle.server_core.proofs.Among.{GivesUpForItself, OwesForItself, Unfailed, heard-unfailed, heard_by-alone, heard_by-same, packet-same, sent-same, taken-alone, takes-same}
use Rattle.server_core.proofs.Last.{AreApart, apart-none, last-found}
use Rattle.server_core.proofs.Names.{none-some, some-same}
use Rattle.server_core.proofs.Quiet.{none-failed, none-out}
use Rattle.server_core.proofs.Running.{IsUnfailed}
use Rattle.server_core.proofs.Taken.{PacketsOpen, PacketsTell}
use Rattle.server_core.proofs.Spent.{HasRoom, own-name}

-- ---- replies

-- a reply to this call has this content
abbrev Answers : ℕ → List ℕ → List Reply → Type 0
Answers number content replies = HasDue number (IsAnswered content) replies []

dropped-same : (reply : Reply) → ((dropped reply).call ≡ reply.call) × ((dropped reply).content ≡ reply.content)
dropped-same reply =
    cond_both (is_kept reply) (record reply { fate = WasDropped }) reply (λ (after : Reply). (after.call ≡ reply.call) × (after.content ≡ reply.content))
    (λ is. (refl, refl)) (λ is. (refl, refl))

room-has : (number : ℕ) (content : List ℕ) (bytes : ℕ) (replies : List Reply) → Answers number content replies → Answers number content (made_room bytes replies)
room-has number content bytes [] has = absurd (in-nothing has.0 has.1)
room-has number content bytes (reply ∷ replies) has =
    let test = fits bytes (kept_replies (reply ∷ replies)) in
    let first = cond test reply (dropped reply) in
    let same : (first.call ≡ reply.call) × (first.content ≡ reply.content) =
    cond_both test reply (dropped reply) (λ (after : Reply). (after.call ≡ reply.call) × (after.content ≡ reply.content)) (λ is. (refl, refl)) (λ is. dropped-same reply) in
    elim (first-or-later reply replies has.0 has.1) [
      | inl here ↦
          (first, (0, omega arith, refl), same.0 ∙ (ap (λ (one : Reply). one.call) here ∙ has.2), same.1 ∙ (ap (λ (one : Reply). one.content) here ∙ has.3))
      | inr after ↦
          let rest = room-has number content bytes replies (has.0, after, has.2, has.3) in
          (rest.0, later first (made_room bytes replies) rest.0 rest.1, rest.2, rest.3)
    ]

any-last : {X : Type 0} (test : X → Bool) (xs : List X) (x : X) → test x ≡ true → list_any test (xs ++ x ∷ []) ≡ true
any-last test [] x is = rw is refl
any-last test (first ∷ xs) x is =
    let rest = any-last test xs x is in
    elim (cases_Bool (test first)) [ inl one ↦ rw one refl | inr one ↦ rw one rest ]

-- ---- the mark of a call that was accepted just now

-- the waiting for it goes on
none-goes : (forgotten has_job : Bool) → has_job ≡ true → outlook_by None forgotten has_job ≡ GoesOn
none-goes true has_job is = rw is refl
none-goes false has_job is = refl

abbrev MayWait : Option Mark → Type 0
MayWait mark = (mark ≡ None) ⊎ (mark ≡ Some Waiting)

goes-on : (mark : Option Mark) (forgotten has_job : Bool) → MayWait mark → has_job ≡ true → outlook_by mark forgotten has_job ≡ GoesOn
goes-on mark forgotten has_job (inl is) has = ap (λ (mark : Option Mark). outlook_by mark forgotten has_job) is ∙ none-goes forgotten has_job has
goes-on mark forgotten has_job (inr is) has = ap (λ (mark : Option Mark). outlook_by mark forgotten has_job) is

given-last : (number : ℕ) (mark : Mark) (marks : Marks) → mark_of number (given number mark marks) ≡ Some mark
given-last number mark marks =
    let step : Option Mark → ℕ × Mark → Option Mark = λ last one. cond (one.0 == number) (Some one.1) last in
    fold-append step None marks ((number, mark) ∷ [])
    ∙ cond-true (number == number) (Some mark) (fold step None marks) (eq-eqb number number refl)

found-waits : (number : ℕ) (history : History) (marks before : Marks) → marks ≡ given number Waiting before → MayWait (found number history marks)
found-waits number history marks before is =
    cond_both (is_number_kept number history) (mark_of number marks) None MayWait
    (λ kept. inr (ap (mark_of number) is ∙ given-last number Waiting before)) (λ gone. inl refl)

-- ---- what a session says

module _ {S : Type 0} (setting : Setting S) where
  answers-has : (number : ℕ) (content : List ℕ) (x : Speaker S) → Answers number content (answers setting number content x).session.replies
  answers-has number content x =
      let message = numbered setting.now x.session.counters (RpcResult number content) in
      let reply : Reply = record { call = number; number = message.number; seq = message.seq; content = content; fate = IsKept } in
      (reply, Contains-push (made_room (length message.body) x.session.replies) reply, refl, refl)

  more-has : (number : ℕ) (content : List ℕ) (call : ℕ) (other : List ℕ) (x : Speaker S) → Answers number content x.session.replies
      → Answers number content (answers setting call other x).session.replies
  more-has number content call other x has =
      let message = numbered setting.now x.session.counters (RpcResult call other) in
      let reply : Reply = record { call = call; number = message.number; seq = message.seq; content = other; fate = IsKept } in
      let rest = room-has number content (length message.body) x.session.replies has in
      (rest.0, Contains-append_left (made_room (length message.body) x.session.replies) (reply ∷ []) rest.0 rest.1, rest.2, rest.3)

  given-has : (number : ℕ) (content : List ℕ) (job : Option Job) (x : Speaker S) → Answers number content x.session.replies
      → Answers number content (given_up_by setting job x).session.replies
  given-has number content None x has = has
  given-has number content (Some job) x has = more-has number content job.number msg_wait_failed x has

  fails-has : (number : ℕ) (content : List ℕ) (n : ℕ) (x : Speaker S) → Answers number content x.session.replies → Answers number content (fails_all setting n x).session.replies
  fails-has number content zero x has = has
  fails-has number content (suc n) x has =
      fails-has number content n (fails_first setting x)
      (given-has number content (first_failed x.jobs).0 (record x { jobs = (first_failed x.jobs).1 }) has)

  fails-none : (n : ℕ) (x : Speaker S) → Unfailed x.jobs → fails_all setting n x ≡ x
  fails-none zero x all = refl
  fails-none (suc n) x all =
      let none = none-failed x.jobs all in
      let first : fails_first setting x ≡ x =
      ap (λ (job : Option Job). given_up_by setting job (record x { jobs = without_first has_failed x.jobs })) none
      ∙ ap (λ (jobs : Queue). record x { jobs = jobs }) (none-out has_failed x.jobs none) in
      ap (fails_all setting n) first ∙ fails-none n x all

  -- as it begins to answer
  record Opens (history : History) (x y : Speaker S) : Type 0 where
    jobs : y.jobs ≡ x.jobs
    recorded : y.session.history ≡ history
    replies : y.session.replies ≡ x.session.replies

  acknowledged-so : (numbers : List ℕ) (history : History) (x y : Speaker S) → Opens history x y → Opens history x (acknowledges setting numbers y)
  acknowledged-so [] history x y so = so
  acknowledged-so (number ∷ numbers) history x y so = record { jobs = so.jobs; recorded = so.recorded; replies = so.replies }

  opens-so : (history : History) (judged : List Judgement) (x : Speaker S) → Opens history x (opens setting history judged x)
  opens-so history judged x =
      let ready : Speaker S = record x { session = record x.session { history = history } } in
      acknowledged-so (acks_of judged) history x (cond (has_accepted ready.session) ready (says_it_is_new setting ready))
      (cond_both (has_accepted ready.session) ready (says_it_is_new setting ready) (Opens history x)
      (λ is. record { jobs = refl; recorded = refl; replies = refl }) (λ is. record { jobs = refl; recorded = refl; replies = refl }))

  -- as all is sent
  sealed-so : (salt : ℕ) (packets : List Message) (x : Speaker S)
      → ((fold (seals setting salt) x packets).session ≡ x.session) × ((fold (seals setting salt) x packets).jobs ≡ x.jobs)
  sealed-so salt [] x = (refl, refl)
  sealed-so salt (packet ∷ packets) x = sealed-so salt packets (seals setting salt x packet)

  sends-so : (messages : List Message) (x : Speaker S)
      → ((sends_all setting messages x).session.replies ≡ x.session.replies) × ((sends_all setting messages x).jobs ≡ x.jobs)
  sends-so [] x = (refl, refl)
  sends-so (message ∷ messages) x =
      let ready = needs_salts setting 1 x in
      let counters = after_packets setting.now ready.session.counters (message ∷ messages) in
      let y : Speaker S = record ready { session = record ready.session { counters = counters } } in
      let sealed = sealed-so (current_salt ready.session.salts setting.now) (packets_of setting.now ready.session.counters (message ∷ messages)) y in
      (ap (λ (session : Session). session.replies) sealed.0, sealed.1)

  -- ---- the row of a call

  -- what a call has behind its row
  abbrev Meets : ℕ → Item → Due → Speaker S → Speaker S → Type 0
  Meets number item (Waits job) y z =
      (z ≡ record y { jobs = accepted job y.jobs })
      × (is_call y.session.key y.session.number number (record { job = job; failed = false }) ≡ true)
      × (is_for_service item ≡ true)
  Meets number item (IsAnswered content) y z = Answers number content z.session.replies

  call-meets : (number : ℕ) (item : Item) (numbers request : List ℕ) (y : Speaker S) (content : Option (List ℕ)) → is_for_service item ≡ true
      → Meets number item (due_by (job_of setting number numbers request y) content) y (becomes_job setting (job_of setting number numbers request y) content y)
  call-meets number item numbers request y None service =
      let key = y.session.key in
      let session = y.session.number in (
        refl,
        and_from ((key == key) && (session == session)) (number == number) (and_from (key == key) (session == session) (eq-eqb key key refl) (eq-eqb session session refl)) (eq-eqb number number refl),
        service,
      )
  call-meets number item numbers request y (Some content) service = answers-has number content y

  called-meets : (number : ℕ) (item : Item) (numbers request : List ℕ) (y : Speaker S) (due : Due) → is_for_service item ≡ true → Some (due_call setting number numbers request y) ≡ Some due
      → Meets number item due y (accepts_call setting number numbers request y)
  called-meets number item numbers request y due service is =
      let M : Due → Type 0 = λ due. Meets number item due y (accepts_call setting number numbers request y) in
      let job = job_of setting number numbers request y in
      subst M (some-same (due_call setting number numbers request y) due is) (call-meets number item numbers request y (refusal setting job y) service)

  bound-meets : (number : ℕ) (item : Item) (binding : Option Binding) (y : Speaker S) → Meets number item (IsAnswered (bound_content binding)) y (binds_by setting number binding y)
  bound-meets number item None y = answers-has number encrypted_message_invalid y
  bound-meets number item (Some binding) y = answers-has number bool_true_content (record y { bindings = with_binding binding y.bindings })

  answered-meets : (number : ℕ) (item : Item) (content : List ℕ) (y z : Speaker S) (due : Due) → Some (IsAnswered content) ≡ Some due → Answers number content z.session.replies
      → Meets number item due y z
  answered-meets number item content y z due is has =
      let M : Due → Type 0 = λ due. Meets number item due y z in
      subst M (some-same (IsAnswered content) due is) has

  row-meets : (number seq : ℕ) (item : Item) (body : List ℕ) (among : Among S) (due : Due) → due_of setting number item body among.speaker ≡ Some due
      → Meets number item due among.speaker (row_among setting number seq (Accepted item) body among).speaker
  row-meets number seq Call body among due is = called-meets number Call [] body among.speaker due refl is
  row-meets number seq (InvokeAfterMsg other query) body among due is =
      called-meets number (InvokeAfterMsg other query) (other ∷ []) query among.speaker due refl is
  row-meets number seq (InvokeAfterMsgs others query) body among due is =
      called-meets number (InvokeAfterMsgs others query) others query among.speaker due refl is
  row-meets number seq Packed body among due is =
      answered-meets number Packed packed_body_refused among.speaker (accepts setting number Packed body among.speaker) due is (answers-has number packed_body_refused among.speaker)
  row-meets number seq (Broken constructor) body among due is =
      let y = among.speaker in
      answered-meets number (Broken constructor) bad_body y (accepts setting number (Broken constructor) body y) due is
      (cond_both (constructor == rpc_drop_answer.number) (answers setting number bad_body y) (answers_in_place setting number body bad_body y)
      (λ (z : Speaker S). Answers number bad_body z.session.replies)
      (λ is. answers-has number bad_body y) (λ is. answers-has number bad_body y))
  row-meets number seq (AuthBindTempAuthKey perm nonce expires message) body among due is =
      let y = among.speaker in
      let call : BindingCall = record { number = number; perm = perm; nonce = nonce; expires = expires; message = message } in
      let binding = setting.bound_by setting.now (name_of y.session) call in
      answered-meets number (AuthBindTempAuthKey perm nonce expires message) (bound_content binding) y (binds_by setting number binding y) due is
      (bound-meets number (AuthBindTempAuthKey perm nonce expires message) binding y)
  row-meets number seq _ body among due is = absurd (none-some due is)

  -- and once its waiting jobs were told
  tells-due : (number : ℕ) (item : Item) (due : Due) (y z : Speaker S) → Meets number item due y z → Unfailed y.jobs → (is_for_service item ≡ true → MayWait (mark_in y.session number))
      → HasDue number due (tells_all setting number z).session.replies (tells_all setting number z).jobs
  tells-due number item (IsAnswered content) y z meets unfailed waits =
      fails-has number content (length (tells_of number z).jobs) (tells_of number z) meets
  tells-due number item (Waits job) y z meets unfailed waits =
      let one : Unfinished = record { job = job; failed = false } in
      let jobs = accepted job y.jobs in
      let joined : Speaker S = record y { jobs = jobs } in
      let has_job : list_any (is_call y.session.key y.session.number number) jobs ≡ true = any-last (is_call y.session.key y.session.number number) y.jobs one meets.1 in
      let look : outlook y.session jobs number ≡ GoesOn =
      goes-on (mark_in y.session number) (nat_le number (floor y.session.history)) (list_any (is_call y.session.key y.session.number number) jobs) (waits meets.2) has_job in
      let told_so : tells_of number joined ≡ joined = ap (λ (look : Outlook). record joined { jobs = told look y.session number jobs }) look in
      let all : Unfailed jobs = All-push IsUnfailed y.jobs one unfailed refl in
      let same : tells_all setting number joined ≡ joined =
      ap (λ (x : Speaker S). fails_all setting (length x.jobs) x) told_so ∙ fails-none (length jobs) joined all in
      let C : Speaker S → Type 0 = λ x. Contains x.jobs one in
      subst C (sym (ap (tells_all setting number) meets.0 ∙ same)) (Contains-push y.jobs one)

  no-container : (number : ℕ) (body : List ℕ) (x : Speaker S) (due : Due) → due_of setting number (item_told body) body x ≡ Some due → begins_container body ≡ false
  no-container number body x due is =
      elim (cases_Bool (begins_container body)) [
        | inl container ↦
            let item : item_told body ≡ MsgContainer [] = cond-true (begins_container body) (MsgContainer []) (item_of body) container in
            absurd (none-some due (sym (ap (λ (item : Item). due_of setting number item body x) item) ∙ is))
        | inr other ↦ other
      ]

  due-then : (number : ℕ) (due : Due) (replies more : List Reply) (jobs others : Queue) → more ≡ replies → others ≡ jobs → HasDue number due replies jobs → HasDue number due more others
  due-then number due replies more jobs others same_replies same_jobs has =
      let R : List Reply → Type 0 = λ replies. HasDue number due replies jobs in
      let J : Queue → Type 0 = λ jobs. HasDue number due more jobs in
      subst J (sym same_jobs) (subst R (sym same_replies) has)

  -- ---- the end

  left-named : (lost : Bool) (name : Name) (done : Among S) → AreApart name done.others → name_of done.speaker.session ≡ name
      → session_named name (left_where lost done).sessions ≡ cond lost None (Some done.speaker.session)
  left-named true name done apart is = apart-none name done.others apart
  left-named false name done apart is = last-found name done.others done.speaker.session apart is

  left-jobs : (lost : Bool) (done : Among S) → lost ≡ false → (left_where lost done).jobs ≡ done.speaker.jobs
  left-jobs true done is = absurd (false≢true (sym is))
  left-jobs false done is = refl

-- what the laws below say
pub record Laws (S : Type 0) : Type 0 where
  pub owes : OwesForItself S
  pub gives : GivesUpForItself S
  pub tells : PacketsTell
  pub opens : PacketsOpen
  pub once : (history : History) (one other : FirstJudgement) → EachOnce history → Contains history one → Contains history other → one.number ≡ other.number → one ≡ other
  pub marks : (way : Way) (session : Session) (message : Message) (jobs : Queue) → IsOrderly session.history session.replies session.counters.last jobs
      → session_after way (remembered session) message ≡ record {
        history = (session_after way (remembered session) message).history;
        marks = marks_of (session_after way (remembered session) message).history session.replies;
      }

-- its number is that of a call, which waits
call-waits : {S : Type 0} → Laws S → (way : Way) (session : Session) (message : Message) (jobs : Queue) → IsOrderly session.history session.replies session.counters.last jobs
    → judge way (remembered session) message ≡ Accepted (item_told message.body)
    → session_after way (remembered session) message ≡ record {
      history = noted message.number message.seq (outcome_of (kind_of message)) session.history;
      marks = given message.number (first_mark (outcome_of (kind_of message))) (remembered session).marks;
    }
    → is_for_service (item_told message.body) ≡ true
    → MayWait (found message.number (session_after way (remembered session) message).history (marks_of (session_after way (remembered session) message).history session.replies))
call-waits laws way session message jobs order verdict is service =
    let before = remembered session in
    let after = session_after way before message in
    let outcome = outcome_of (kind_of message) in
    let first = judgement_on way before message in
    let others = inner_judgements (judged_session way before message) (unfolded (judge way before message) message) in
    let told_so = All-head (λ judgement. IsTold judgement.number judgement.verdict after.history) first others (laws.tells way session message jobs order) in
    let called = told_so.called (item_told message.body) verdict service in
    let one : FirstJudgement = record { number = message.number; seq = message.seq; outcome = outcome } in
    let C : History → Type 0 = λ history. Contains history one in
    let there : Contains after.history one =
    subst C (sym (ap (λ (session : Remembered). session.history) is)) (Contains-push session.history one) in
    let each : EachOnce after.history = (laws.opens way session message jobs order).order.judged in
    let same : one ≡ called.0 = laws.once after.history one called.0 each there called.1 (sym called.2) in
    let is_call_so : outcome ≡ AcceptedCall = ap (λ (one : FirstJudgement). one.outcome) same ∙ called.3 in
    let marks : marks_of after.history session.replies ≡ given message.number Waiting before.marks =
    ap (λ (session : Remembered). session.marks) (sym (laws.marks way session message jobs order) ∙ is)
    ∙ ap (λ (outcome : Outcome). given message.number (first_mark outcome) before.marks) is_call_so in
    found-waits message.number after.history (marks_of after.history session.replies) before.marks marks

-- the call, where its session stays
call-due : {S : Type 0} → Laws S → (setting : Setting S) (envelope : Envelope) (among : Among S) (due : Due)
    → Unfailed among.speaker.jobs → IsOrderlySpeaker (name_in envelope) among.speaker
    → judge (InEnvelope setting.now among.speaker.session.salts envelope.salt) (remembered among.speaker.session) (message_in envelope) ≡ Accepted (item_told envelope.body)
    → session_after (InEnvelope setting.now among.speaker.session.salts envelope.salt) (remembered among.speaker.session) (message_in envelope)
    ≡ inner_session (record {
      history = noted envelope.number envelope.seq (outcome_of (kind_of (message_in envelope))) among.speaker.session.history;
      marks = given envelope.number (first_mark (outcome_of (kind_of (message_in envelope)))) (remembered among.speaker.session).marks;
    }) (inner_messages (message_in envelope))
    → due_of setting envelope.number (item_told envelope.body) envelope.body (opened setting envelope among.speaker.session (state_of among)) ≡ Some due
    → HasDue envelope.number due (takes_among setting envelope among).speaker.session.replies (takes_among setting envelope among).speaker.jobs
call-due {S} laws setting envelope among due unfailed order verdict after_is is =
    let session = among.speaker.session in
    let way = InEnvelope setting.now session.salts envelope.salt in
    let message = message_in envelope in
    let before = remembered session in
    let after = session_after way before message in
    let judged = judgements way before message in
    let first = judgement_on way before message in
    let y = opens setting after.history judged among.speaker in
    let start : Remembered = record {
      history = noted envelope.number envelope.seq (outcome_of (kind_of message)) session.history;
      marks = given envelope.number (first_mark (outcome_of (kind_of message))) before.marks;
    } in
    let uncontained = no-container setting envelope.number envelope.body y due is in
    let inside : inner_messages message ≡ [] = ap parts_among (cond-false (begins_container envelope.body) (Some (parts_of envelope.number envelope.body)) None uncontained) in
    let nothing : unfolded (judge way before message) message ≡ [] = ap (λ (verdict : Verdict). unfolded verdict message) verdict ∙ inside in
    let alone_after : after ≡ start = after_is ∙ ap (inner_session start) inside in
    let opened_among : Among S = speaks_among (opens setting after.history judged) among in
    let pairs : zip judged (map (λ one. one.body) (messages_judged way session message)) ≡ (first, envelope.body) ∷ [] =
    ap (λ (inner : List Message). zip (first ∷ inner_judgements (judged_session way before message) inner) (envelope.body ∷ map (λ one. one.body) inner)) nothing in
    let taken : takes_among setting envelope among ≡ settles_among setting opened_among (first, envelope.body) =
    ap (fold (settles_among setting) opened_among) pairs in
    let item = item_told envelope.body in
    let so = opens-so setting after.history judged among.speaker in
    let V : Verdict → Type 0 = λ verdict. HasDue envelope.number due
    (tells_all setting envelope.number (row_among setting envelope.number envelope.seq verdict envelope.body opened_among).speaker).session.replies
    (tells_all setting envelope.number (row_among setting envelope.number envelope.seq verdict envelope.body opened_among).speaker).jobs in
    let waits : is_for_service item ≡ true → MayWait (mark_in y.session envelope.number) = λ service.
    let at = call-waits laws way session message (jobs_of (name_in envelope) among.speaker.jobs) order verdict alone_after service in
    let H : History → Type 0 = λ history. MayWait (found envelope.number history (marks_of history session.replies)) in
    let R : List Reply → Type 0 = λ replies. MayWait (found envelope.number y.session.history (marks_of y.session.history replies)) in
    subst R (sym so.replies) (subst H (sym so.recorded) at) in
    let accepted_so : V (Accepted item) =
    tells-due setting envelope.number item due y (row_among setting envelope.number envelope.seq (Accepted item) envelope.body opened_among).speaker
    (row-meets setting envelope.number envelope.seq item envelope.body opened_among due is)
    (subst Unfailed (sym so.jobs) unfailed) waits in
    let T : Among S → Type 0 = λ among. HasDue envelope.number due among.speaker.session.replies among.speaker.jobs in
    subst T (sym taken) (subst V (sym verdict) accepted_so)

-- the whole event
pub accepted-by : {S : Type 0} → Laws S → (setting : Setting S) (envelope : Envelope) (server : Server) (draw : S) (session : Session)
    → All HasRoom server.sessions → Unfailed server.jobs → IsOrderlySpeaker (name_in envelope) (heard_among setting envelope (begun server draw)).speaker
    → session_named (name_in envelope) (hears setting envelope (begun server draw)).sessions ≡ Some session
    → judge (InEnvelope setting.now session.salts envelope.salt) (remembered session) (message_in envelope) ≡ Accepted (item_told envelope.body)
    → session_after (InEnvelope setting.now session.salts envelope.salt) (remembered session) (message_in envelope)
    ≡ inner_session (record {
      history = noted envelope.number envelope.seq (outcome_of (kind_of (message_in envelope))) session.history;
      marks = given envelope.number (first_mark (outcome_of (kind_of (message_in envelope)))) (remembered session).marks;
    }) (inner_messages (message_in envelope))
    → ((last : Session) × (session_named (name_in envelope) (all_sent setting (takes setting envelope (begun server draw))).sessions ≡ Some last) × WasAccepted envelope.number last.history)
    → IsAcceptedBy setting envelope server draw session (after_packet setting envelope server draw).server
accepted-by {S} laws setting envelope server draw session room unfailed order is_session verdict after_is recorded =
    let name = name_in envelope in
    let state : State S = begun server draw in
    let found_so = session_named name server.sessions in
    let heard : Among S = heard_among setting envelope state in
    let alone : IsAlone name heard = heard_by-alone setting envelope server draw found_so refl room unfailed in
    let heard_so : hears setting envelope state ≡ state_of heard = heard_by-same setting envelope found_so state in
    let same : session ≡ heard.speaker.session =
    some-same session heard.speaker.session
    (sym is_session ∙ (ap (λ (state : State S). session_named name state.sessions) heard_so ∙ last-found name heard.others heard.speaker.session alone.apart alone.named)) in
    let after : Among S = takes_among setting envelope heard in
    let after_alone : IsAlone name after = taken-alone laws.owes laws.gives setting envelope name heard alone in
    let done : Among S = speaks_among (says_its_own setting) after in
    let last = done.speaker.session in
    let last_named : name_of last ≡ name = own-name setting after.speaker ∙ after_alone.named in
    let standing : session_named name (all_sent setting (takes setting envelope state)).sessions ≡ Some last =
    ap (λ (taken : State S). session_named name (all_sent setting taken).sessions) (takes-same laws.owes laws.gives setting envelope server draw room unfailed)
    ∙ (ap (λ (sent : State S). session_named name sent.sessions) (sent-same setting name after after_alone)
    ∙ last-found name after.others last after_alone.apart last_named) in
    let one : recorded.0 ≡ last = some-same recorded.0 last (sym recorded.1 ∙ standing) in
    let end : after_packet setting envelope server draw ≡ answer_of setting (left_where (is_spent last) done) =
    packet-same laws.owes laws.gives setting envelope server draw room unfailed in
    record {
      last = last;
      standing = standing;
      recorded = subst (λ (last : Session). WasAccepted envelope.number last.history) one recorded.2;
      stays = ap (λ (answer : Answer S). session_named name answer.server.sessions) end ∙ left-named setting (is_spent last) name done after_alone.apart last_named;
      called = λ stays due is.
          let M : Session → Type 0 = λ session.
          judge (InEnvelope setting.now session.salts envelope.salt) (remembered session) (message_in envelope) ≡ Accepted (item_told envelope.body) in
          let N : Session → Type 0 = λ session.
          session_after (InEnvelope setting.now session.salts envelope.salt) (remembered session) (message_in envelope)
          ≡ inner_session (record {
            history = noted envelope.number envelope.seq (outcome_of (kind_of (message_in envelope))) session.history;
            marks = given envelope.number (first_mark (outcome_of (kind_of (message_in envelope)))) (remembered session).marks;
          }) (inner_messages (message_in envelope)) in
          let O : Session → Type 0 = λ session. due_of setting envelope.number (item_told envelope.body) envelope.body (opened setting envelope session (hears setting envelope state)) ≡ Some due in
          let P : State S → Type 0 = λ state. due_of setting envelope.number (item_told envelope.body) envelope.body (opened setting envelope heard.speaker.session state) ≡ Some due in
          let has = call-due laws setting envelope heard due (heard-unfailed setting envelope server draw found_so unfailed) order (subst M same verdict) (subst N same after_is) (subst P heard_so (subst O same is)) in
          let sent = sends-so setting (messages_by (name_of after.speaker.session) after.speaker.owed) after.speaker in
          let jobs : (after_packet setting envelope server draw).server.jobs ≡ after.speaker.jobs =
          ap (λ (answer : Answer S). answer.server.jobs) end ∙ (left-jobs setting (is_spent last) done stays ∙ sent.1) in
          due-then setting envelope.number due after.speaker.session.replies last.replies after.speaker.jobs (after_packet setting envelope server draw).server.jobs sent.0 jobs has;
    }
