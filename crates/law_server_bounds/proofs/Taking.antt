-- A packet's message that nothing refuses is recorded and acknowledged.
use Rattle.std.proofs.Common.{◌≡◌, ◌≢◌, ◌∙◌, ℕ, zero, suc, Bool, true, cond, Option, Some, None, Result, Ok, Err, List, [], ◌∷◌, ◌++◌, length, ap, sym, subst, refl, arith, inl, inr}
use Rattle.std.specs.Prelude.{map, fold, not, is_some, ◌&&◌, ◌==◌}
use Rattle.std.specs.List.{Contains, filter, zip}
use Rattle.std.proofs.lemmas.Bool.{cases_Bool, cond_both, cond-true, and_parts, and_from, eq-eqb, false≢true}
use Rattle.std.proofs.lemmas.List.{append-nil, append_assoc}
use Rattle.std.proofs.lemmas.List.Elements.{Contains-append_left, Contains-append_right}
use Rattle.service_tl.specs.declared.item.Item.{Item}
use Rattle.service_tl.specs.declared.item.Item.TheVariants.{DestroySession, DestroySessionOk, DestroySessionNone, MsgsAck}
use Rattle.service_tl.specs.declared.lists.Message.{Message}
use Rattle.salt_line.specs.Line.{Line, current_salt}
use Rattle.packing.specs.Numbering.{numbered}
use Rattle.packing.specs.Packing.{after_packets, packets_of}
use Rattle.msg_ids.specs.Counters.{is_odd}
use Rattle.id_window.specs.Marks.{Marks}
use Rattle.id_window.specs.History.{History, FirstJudgement, Outcome, noted, was_accepted}
use Rattle.containers.specs.declared.fault.ContainerFault.{ContainerFault}
use Rattle.inbox.specs.Verdicts.{Judgement, Verdict, Accepted, Again, Noticed}
use Rattle.inbox.specs.Kinds.{begins_acknowledgement, begins_call, container_in, inner_messages, item_told, kind_among, kind_beginning, kind_of}
use Rattle.service_tl.specs.Results.{constructor_of}
use Rattle.inbox.specs.Refusals.{InContainer, InEnvelope}
use Rattle.inbox.specs.Judging.{Session as Remembered, inner_judgements, inner_session, judge, judged_session, judgement_on, judgements, outcome_of, recorded, remembered as remembered_so, session_after, unfolded}
use Rattle.waits.specs.declared.job.Job.{Job}
use Rattle.waits.specs.Jobs.{Queue}
use Rattle.server_rules.specs.Server.{Name, Server, Session, has_accepted, name_of, remembered, session_named, without_session}
use Rattle.server_rules.specs.Event.{Setting, State, Speaker, Envelope, Owed, speaker_in, spoken_by, speaks, lost}
use Rattle.server_rules.specs.Speaking.{says, says_it_is_new, needs_salts, msg_wait_failed}
use Rattle.server_rules.specs.Waiting.{after_failures, all_given_up, first_failed, first_given_up, given_up, gives_up, tells_of}
use Rattle.server_rules.specs.Rows.{acknowledges, acks_of, destroys, is_verdict_acked, owes, row, settles}
use Rattle.server_rules.specs.Calls.{each_once}
use Rattle.server_rules.specs.Sending.{all_sent, messages_by, names_in, seals, sends}
use Rattle.server_rules.specs.Answer.{begun, hears, is_spent, message_in, messages_judged, name_in, opens, takes, takes_by}
use Rattle.law_server.specs.Order.{WasAccepted, is_for_service}
use Rattle.law_server.specs.Speech.{SaidFor}
use Rattle.law_server_bounds.specs.Taking.{IsAcknowledged, IsTaken}
use Rattle.law_server_bounds.proofs.Lists.{none-some, some-same}
use Rattle.law_server_bounds.proofs.Names.{cases_name, found-named, lost-named, lost-none, named}
use Rattle.law_server_bounds.proofs.Unsaid.{not-true}
use Rattle.law_server_bounds.proofs.Counted.{Speak}
use Rattle.law_server_bounds.proofs.Answered as call

-- ---- what is recorded

judged-grows : (number seq : ℕ) (outcome : Option Outcome) (before : Remembered) → (more : History) × ((remembered_so number seq outcome before).history ≡ before.history ++ more)
judged-grows number seq None before = ([], sym (append-nil before.history))
judged-grows number seq (Some outcome) before = (record { number = number; seq = seq; outcome = outcome } ∷ [], refl)

inner-grows : (messages : List Message) (before : Remembered) → (more : History) × ((inner_session before messages).history ≡ before.history ++ more)
inner-grows [] before = ([], sym (append-nil before.history))
inner-grows (message ∷ messages) before =
    let first = judged-grows message.number message.seq (recorded (kind_of message) (judge InContainer before message)) before in
    let rest = inner-grows messages (judged_session InContainer before message) in
    (first.0 ++ rest.0, rest.1 ∙ (ap (λ (history : History). history ++ rest.0) first.1 ∙ append_assoc before.history first.0 rest.0))

beginning-accepted : (number : Option ℕ) → was_accepted (outcome_of (kind_beginning number)) ≡ true
beginning-accepted number =
    elim (cases_Bool (begins_acknowledgement number)) [
      | inl is ↦ rw is refl
      | inr is ↦ elim (cases_Bool (begins_call number)) [ inl call ↦ rw (is, call) refl | inr other ↦ rw (is, other) refl ]
    ]

among-accepted : (found : Option (Result (List Message) ContainerFault)) (body : List ℕ) → was_accepted (outcome_of (kind_among found body)) ≡ true
among-accepted (Some (Ok parts)) body = refl
among-accepted (Some (Err fault)) body = refl
among-accepted None body = beginning-accepted (constructor_of body)

accepted-so : (message : Message) → was_accepted (outcome_of (kind_of message)) ≡ true
accepted-so message = among-accepted (container_in message.number message.body) message.body

-- an accepted number stays so as a history goes on
noted-accepted : (number seq : ℕ) (outcome : Outcome) (before more : History) → was_accepted outcome ≡ true → WasAccepted number (noted number seq outcome before ++ more)
noted-accepted number seq outcome before more is =
    let one : FirstJudgement = record { number = number; seq = seq; outcome = outcome } in
    (one, Contains-append_left (noted number seq outcome before) more one (Contains-append_right before (one ∷ []) one (0, omega arith, refl)), refl, is)

-- ---- acknowledgements

-- a message of odd seq that was accepted first stands first in the acknowledgement
acks-first : (first : Judgement) (judged : List Judgement) → is_odd first.seq ≡ true → is_verdict_acked first.verdict ≡ true
    → (others : List ℕ) × (acks_of (first ∷ judged) ≡ first.number ∷ others)
acks-first first judged odd acked =
    let test : Judgement → Bool = λ judgement. is_odd judgement.seq && is_verdict_acked judgement.verdict in
    let rest = filter test judged in
    let is = and_from (is_odd first.seq) (is_verdict_acked first.verdict) odd acked in
    let numbers = each_once (map (λ judgement. judgement.number) rest) in (
      filter (λ other. not (other == first.number)) numbers,
      ap (λ (kept : List Judgement). each_once (map (λ judgement. judgement.number) kept)) (cond-true (test first) (first ∷ rest) rest is),
    )

module _ {S : Type 0} (setting : Setting S) where
  said-acked : (numbers : List ℕ) (number : ℕ) (x : Speaker S) → Contains numbers number → IsAcknowledged (name_of x.session) number (says setting (MsgsAck numbers) x).owed
  said-acked numbers number x there =
      let one : Owed = record { name = name_of x.session; message = numbered setting.now x.session.counters (MsgsAck numbers) } in
      (one, Contains-append_right x.owed (one ∷ []) one (0, omega arith, refl), refl, (numbers, there, refl))

  opened-acked : (history : History) (first : Judgement) (judged : List Judgement) (x : Speaker S) → is_odd first.seq ≡ true → is_verdict_acked first.verdict ≡ true
      → IsAcknowledged (name_of x.session) first.number (opens setting history (first ∷ judged) x).owed
  opened-acked history first judged x odd acked =
      let ready : Speaker S = record x { session = record x.session { history = history } } in
      let acks = acks-first first judged odd acked in
      let numbers = first.number ∷ acks.0 in
      let there : Contains numbers first.number = (0, omega arith, refl) in
      let P : List ℕ → Type 0 = λ numbers. IsAcknowledged (name_of x.session) first.number (acknowledges setting numbers (cond (has_accepted ready.session) ready (says_it_is_new setting ready))).owed in
      subst P (sym acks.1)
      (cond_both (has_accepted ready.session) ready (says_it_is_new setting ready)
      (λ (y : Speaker S). IsAcknowledged (name_of x.session) first.number (says setting (MsgsAck numbers) y).owed)
      (λ is. said-acked numbers first.number ready there) (λ is. said-acked numbers first.number (says_it_is_new setting ready) there))

  -- ---- what speaks and leaves the session as it is

  -- the same session with the same history, and what is owed only grows
  pub record Same (x y : Speaker S) : Type 0 where
    pub key : y.session.key ≡ x.session.key
    pub number : y.session.number ≡ x.session.number
    pub history : y.session.history ≡ x.session.history
    pub owed : (later : List Owed) × (y.owed ≡ x.owed ++ later)

  same-itself : (x y : Speaker S) → y.session.key ≡ x.session.key → y.session.number ≡ x.session.number → y.session.history ≡ x.session.history → y.owed ≡ x.owed → Same x y
  same-itself x y key number history owed = record { key = key; number = number; history = history; owed = ([], owed ∙ sym (append-nil x.owed)) }

  pub for-itself : (x y : Speaker S) → SaidFor S x y → Same x y
  for-itself x y said = record { key = said.key; number = said.number; history = said.history; owed = (said.owed.0, said.owed.1) }

  pub says-same : (item : Item) (x : Speaker S) → Same x (says setting item x)
  says-same item x = record { key = refl; number = refl; history = refl; owed = (record { name = name_of x.session; message = numbered setting.now x.session.counters item } ∷ [], refl) }

  sealed-same : (salt : ℕ) (packets : List Message) (x y : Speaker S) → Same x y → Same x (fold (seals setting salt) y packets)
  sealed-same salt [] x y same = same
  sealed-same salt (packet ∷ packets) x y same =
      sealed-same salt packets x (seals setting salt y packet) (record { key = same.key; number = same.number; history = same.history; owed = same.owed })

  pub sends-same : (messages : List Message) (x : Speaker S) → Same x (sends setting messages x)
  sends-same messages x =
      let ready = needs_salts setting 1 x in
      let counters = after_packets setting.now ready.session.counters messages in
      let y : Speaker S = record ready { session = record ready.session { counters = counters } } in
      sealed-same (current_salt ready.session.salts setting.now) (packets_of setting.now ready.session.counters messages) x y (same-itself x y refl refl refl refl)

  acked-name : (numbers : List ℕ) (x : Speaker S) → name_of (acknowledges setting numbers x).session ≡ name_of x.session
  acked-name [] x = refl
  acked-name (number ∷ numbers) x = refl

  acked-history : (numbers : List ℕ) (x : Speaker S) → (acknowledges setting numbers x).session.history ≡ x.session.history
  acked-history [] x = refl
  acked-history (number ∷ numbers) x = refl

  pub opens-name : (history : History) (judged : List Judgement) (x : Speaker S) → name_of (opens setting history judged x).session ≡ name_of x.session
  opens-name history judged x =
      let ready : Speaker S = record x { session = record x.session { history = history } } in
      cond_both (has_accepted ready.session) ready (says_it_is_new setting ready) (λ (y : Speaker S). name_of (acknowledges setting (acks_of judged) y).session ≡ name_of x.session)
      (λ is. acked-name (acks_of judged) ready) (λ is. acked-name (acks_of judged) (says_it_is_new setting ready))

  opens-history : (history : History) (judged : List Judgement) (x : Speaker S) → (opens setting history judged x).session.history ≡ history
  opens-history history judged x =
      let ready : Speaker S = record x { session = record x.session { history = history } } in
      cond_both (has_accepted ready.session) ready (says_it_is_new setting ready) (λ (y : Speaker S). (acknowledges setting (acks_of judged) y).session.history ≡ history)
      (λ is. acked-history (acks_of judged) ready) (λ is. acked-history (acks_of judged) (says_it_is_new setting ready))

  -- what the laws say of rows and of jobs that are given up
  pub record Speech : Type 0 where
    pub owes_for : (speaker : Speaker S) (number seq : ℕ) (verdict : Verdict) (body : List ℕ) → SaidFor S speaker (owes setting number seq verdict body speaker)
    pub gives_for : (speaker : Speaker S) (content : List ℕ) (job : Job) → SaidFor S speaker (gives_up setting content job speaker)

module _ {S : Type 0} (laws : Speak S) (setting : Setting S) (speech : Speech setting) (own : Name) (past : History) (number : ℕ) where
  -- the session of this name has this history, and has acknowledged this number where it is to
  pub record Stands (A : Type 0) (state : State S) : Type 0 where
    pub stands : (session : Session) × (session_named own state.sessions ≡ Some session) × (session.history ≡ past)
    pub said : A → IsAcknowledged own number state.owed

  still-said : (owed later after : List Owed) → after ≡ owed ++ later → IsAcknowledged own number owed → IsAcknowledged own number after
  still-said owed later after is said =
      let P : List Owed → Type 0 = λ owed. IsAcknowledged own number owed in
      subst P (sym is) (said.0, Contains-append_left owed later said.0 said.1, said.2, said.3)

  same-name : (x y : Speaker S) (name : Name) → Same setting x y → name_of x.session ≡ name → name_of y.session ≡ name
  same-name x y name same is =
      ap (λ (key : ℕ). named key y.session.number) same.key ∙ (ap (λ (session : ℕ). named x.session.key session) same.number ∙ is)

  by-speaks : (A : Type 0) (found : Option Session) (name : Name) (speak : Speaker S → Speaker S) (state : State S) → session_named name state.sessions ≡ found
      → ((x : Speaker S) → Same setting x (speak x)) → Stands A state → Stands A (spoken_by found speak state)
  by-speaks A None name speak state is goes s = s
  by-speaks A (Some session) name speak state is goes s =
      let x = speaker_in state session in
      let same = goes x in
      let named_so = same-name x (speak x) name same (found-named name state.sessions session is) in
      let said : A → IsAcknowledged own number (speak x).owed = λ a. still-said state.owed same.owed.0 (speak x).owed same.owed.1 (s.said a) in
      elim (cases_name own name) [
        | inl same_name ↦
            let N : Name → Type 0 = λ name. session_named name (spoken_by (Some session) speak state).sessions ≡ Some (speak x).session in
            let Q : Option Session → Type 0 = λ found. session_named name (spoken_by found speak state).sessions ≡ Some (speak x).session in
            let M : Name → Type 0 = λ name. session_named name state.sessions ≡ Some session in
            let one : session ≡ s.stands.0 = some-same session s.stands.0 (sym (subst M (sym same_name) is) ∙ s.stands.1) in
            record {
              stands = (
                (speak x).session,
                subst N (sym same_name) (subst Q is (laws.own name speak state session is named_so)),
                same.history ∙ (ap (λ (session : Session). session.history) one ∙ s.stands.2),
              );
              said = said;
            }
        | inr apart ↦
            let Q : Option Session → Type 0 = λ found. session_named own (spoken_by found speak state).sessions ≡ session_named own state.sessions in
            record {
              stands = (s.stands.0, subst Q is (laws.others name own speak state session is named_so apart) ∙ s.stands.1, s.stands.2);
              said = said;
            }
      ]

  one-speaks : (A : Type 0) (name : Name) (speak : Speaker S → Speaker S) (state : State S) → ((x : Speaker S) → Same setting x (speak x)) → Stands A state → Stands A (speaks name speak state)
  one-speaks A name speak state goes s = by-speaks A (session_named name state.sessions) name speak state refl goes s

  -- ---- jobs that fail

  one-given : (A : Type 0) (content : List ℕ) (job : Option Job) (state : State S) → Stands A state → Stands A (given_up setting content job state)
  one-given A content None state s = s
  one-given A content (Some job) state s =
      one-speaks A (record { key = job.key; session = job.session }) (gives_up setting content job) state
      (λ x. for-itself setting x (gives_up setting content job x) (speech.gives_for x content job)) s

  all-given : (A : Type 0) (content : List ℕ) (first : Queue → Option Job × Queue) (n : ℕ) (state : State S) → Stands A state → Stands A (all_given_up setting content first n state)
  all-given A content first zero state s = s
  all-given A content first (suc n) state s =
      all-given A content first n (first_given_up setting content first state)
      (one-given A content (first state.jobs).0 (record state { jobs = (first state.jobs).1 }) (record { stands = s.stands; said = s.said }))

  failures : (A : Type 0) (state : State S) → Stands A state → Stands A (after_failures setting state)
  failures A state s = all-given A msg_wait_failed first_failed (length state.jobs) state s

  -- ---- judgements

  destroyed : (A : Type 0) (message other_number : ℕ) (state : State S) → Stands A state → Stands A (destroys setting message other_number own state)
  destroyed A message other_number state s =
      let other : Name = record own { session = other_number } in
      let test = not (other_number == own.session) && is_some (session_named other state.sessions) in
      cond_both test (speaks own (says setting (DestroySessionOk other_number)) (lost other state)) (speaks own (says setting (DestroySessionNone other_number)) state) (Stands A)
      (λ is.
      let off = not-true (other_number == own.session) (and_parts (not (other_number == own.session)) (is_some (session_named other state.sessions)) is).0 in
      let apart : own ≢ other = λ same. false≢true (sym off ∙ eq-eqb other_number own.session (sym (ap (λ (name : Name). name.session) same))) in
      let left : Stands A (lost other state) = record { stands = (s.stands.0, lost-named other own state.sessions apart ∙ s.stands.1, s.stands.2); said = s.said } in
      one-speaks A own (says setting (DestroySessionOk other_number)) (lost other state) (says-same setting (DestroySessionOk other_number)) left)
      (λ is. one-speaks A own (says setting (DestroySessionNone other_number)) state (says-same setting (DestroySessionNone other_number)) s)

  owed-by : (A : Type 0) (message seq : ℕ) (verdict : Verdict) (body : List ℕ) (state : State S) → Stands A state → Stands A (speaks own (owes setting message seq verdict body) state)
  owed-by A message seq verdict body state s =
      one-speaks A own (owes setting message seq verdict body) state
      (λ x. for-itself setting x (owes setting message seq verdict body x) (speech.owes_for x message seq verdict body)) s

  rowed : (A : Type 0) (message seq : ℕ) (verdict : Verdict) (body : List ℕ) (state : State S) → Stands A state → Stands A (row setting own message seq verdict body state)
  rowed A message seq (Accepted (DestroySession other_number)) body state s = destroyed A message other_number state s
  rowed A message seq (Accepted item) body state s = owed-by A message seq (Accepted item) body state s
  rowed A message seq (Again mark) body state s = owed-by A message seq (Again mark) body state s
  rowed A message seq (Noticed code) body state s = owed-by A message seq (Noticed code) body state s

  pub all-settled : (A : Type 0) (judged : List (Judgement × List ℕ)) (state : State S) → Stands A state → Stands A (fold (settles setting own) state judged)
  all-settled A [] state s = s
  all-settled A ((judgement, body) ∷ judged) state s =
      let done = row setting own judgement.number judgement.seq judgement.verdict body state in
      all-settled A judged (settles setting own state (judgement, body))
      (failures A (speaks own (tells_of judgement.number) done)
      (one-speaks A own (tells_of judgement.number) done (λ x. same-itself setting x (tells_of judgement.number x) refl refl refl refl)
      (rowed A judgement.number judgement.seq judgement.verdict body state s)))

  pub all-sent : (A : Type 0) (owed : List Owed) (names : List Name) (state : State S) → Stands A state
      → Stands A (fold (λ so_far name. speaks name (sends setting (messages_by name owed)) so_far) state names)
  all-sent A owed [] state s = s
  all-sent A owed (name ∷ names) state s =
      all-sent A owed names (speaks name (sends setting (messages_by name owed)) state)
      (one-speaks A name (sends setting (messages_by name owed)) state (λ x. sends-same setting (messages_by name owed) x) s)

-- ---- the end

one-left : (own lost_name : Name) (sessions : List Session) (after : Session) → session_named own (without_session lost_name sessions) ≡ Some after → session_named own sessions ≡ Some after
one-left own lost_name sessions after is =
    elim (cases_name own lost_name) [
      | inl same ↦
          let P : Name → Type 0 = λ name. session_named own (without_session name sessions) ≡ Some after in
          absurd (none-some after (sym (lost-none own sessions) ∙ subst P (sym same) is))
      | inr apart ↦ sym (lost-named lost_name own sessions apart) ∙ is
    ]

spent-left : {S : Type 0} (own : Name) (spent : List Session) (state : State S) (after : Session)
    → session_named own (fold (λ so_far session. lost (name_of session) so_far) state spent).sessions ≡ Some after → session_named own state.sessions ≡ Some after
spent-left own [] state after is = is
spent-left own (session ∷ spent) state after is = one-left own (name_of session) state.sessions after (spent-left own spent (lost (name_of session) state) after is)

-- ---- the event

-- what the laws say of a message that nothing refuses
pub record Acceptance (session : Remembered) (now : ℕ) (line : Line) (salt : ℕ) (message : Message) : Type 0 where
  pub accepted : judge (InEnvelope now line salt) session message ≡ Accepted (item_told message.body)
  pub marks : Marks
  pub history : session_after (InEnvelope now line salt) session message
      ≡ inner_session (record { history = noted message.number message.seq (outcome_of (kind_of message)) session.history; marks = marks }) (inner_messages message)

taken-by : {S : Type 0} (laws : Speak S) (setting : Setting S) (speech : Speech setting) (envelope : Envelope) (session : Session) (state : State S)
    → session_named (name_in envelope) state.sessions ≡ Some session
    → Acceptance (remembered session) setting.now session.salts envelope.salt (message_in envelope)
    → Stands laws setting speech (name_in envelope) (session_after (InEnvelope setting.now session.salts envelope.salt) (remembered session) (message_in envelope)).history
    envelope.number (is_odd envelope.seq ≡ true) (takes_by setting envelope (Some session) state)
taken-by {S} laws setting speech envelope session state is acceptance =
    let own = name_in envelope in
    let way = InEnvelope setting.now session.salts envelope.salt in
    let message = message_in envelope in
    let judged = judgements way (remembered session) message in
    let later = (session_after way (remembered session) message).history in
    let pairs = zip judged (map (λ one. one.body) (messages_judged way session message)) in
    let speak = opens setting later judged in
    let x = speaker_in state session in
    let named_so = found-named own state.sessions session is in
    let first = judgement_on way (remembered session) message in
    let others = inner_judgements (judged_session way (remembered session) message) (unfolded (judge way (remembered session) message) message) in
    let acked : is_verdict_acked first.verdict ≡ true = ap is_verdict_acked acceptance.accepted in
    let opened-name : name_of (speak x).session ≡ own = opens-name setting later judged x ∙ named_so in
    let Q : Option Session → Type 0 = λ found. session_named own (spoken_by found speak state).sessions ≡ Some (speak x).session in
    let A : Name → Type 0 = λ name. IsAcknowledged name envelope.number (speak x).owed in
    let begin : Stands laws setting speech own later envelope.number (is_odd envelope.seq ≡ true) (spoken_by (Some session) speak state) =
    record {
      stands = ((speak x).session, subst Q is (laws.own own speak state session is opened-name), opens-history setting later judged x);
      said = λ odd. subst A named_so (opened-acked setting later first others x odd acked);
    } in
    let R : Option Session → Type 0 = λ found. Stands laws setting speech own later envelope.number (is_odd envelope.seq ≡ true) (spoken_by found speak state) in
    let here : Stands laws setting speech own later envelope.number (is_odd envelope.seq ≡ true) (speaks own speak state) = subst R (sym is) begin in
    let F : Name → Type 0 = λ name. Stands laws setting speech own later envelope.number (is_odd envelope.seq ≡ true) (fold (settles setting name) (speaks name speak state) pairs) in
    subst F (sym named_so) (all-settled laws setting speech own later envelope.number (is_odd envelope.seq ≡ true) pairs (speaks own speak state) here)

answered-by : {S : Type 0} (laws : Speak S) (setting : Setting S) (envelope : Envelope) (session : Session) (state : State S)
    → session_named (name_in envelope) state.sessions ≡ Some session
    → judge (InEnvelope setting.now session.salts envelope.salt) (remembered session) (message_in envelope) ≡ Accepted (item_told envelope.body)
    → is_for_service (item_told envelope.body) ≡ true
    → call.Good laws setting (name_in envelope) envelope.number (takes_by setting envelope (Some session) state)
answered-by {S} laws setting envelope session state is accepted service =
    let own = name_in envelope in
    let way = InEnvelope setting.now session.salts envelope.salt in
    let message = message_in envelope in
    let judged = judgements way (remembered session) message in
    let later = (session_after way (remembered session) message).history in
    let verdict = judge way (remembered session) message in
    let first = judgement_on way (remembered session) message in
    let others = zip (inner_judgements (judged_session way (remembered session) message) (unfolded verdict message)) (map (λ one. one.body) (unfolded verdict message)) in
    let F : Name → Type 0 = λ name. call.Good laws setting own envelope.number (fold (settles setting name) (speaks name (opens setting later judged) state) ((first, message.body) ∷ others)) in
    subst F (sym (found-named own state.sessions session is))
    (call.first-settled laws setting own envelope.number (item_told envelope.body) first message.body others (speaks own (opens setting later judged) state) service refl accepted)

pub event-taken : {S : Type 0} (laws : Speak S) (setting : Setting S) (speech : Speech setting) (envelope : Envelope) (server : Server) (draw : S) (session : Session)
    → session_named (name_in envelope) (hears setting envelope (begun server draw)).sessions ≡ Some session
    → Acceptance (remembered session) setting.now session.salts envelope.salt (message_in envelope) → IsTaken S setting envelope server draw
event-taken {S} laws setting speech envelope server draw session is acceptance =
    let own = name_in envelope in
    let message = message_in envelope in
    let heard = hears setting envelope (begun server draw) in
    let way = InEnvelope setting.now session.salts envelope.salt in
    let later = (session_after way (remembered session) message).history in
    let odd = is_odd envelope.seq ≡ true in
    let Holds : State S → Type 0 = λ state. Stands laws setting speech own later envelope.number odd state in
    let R : Option Session → Type 0 = λ found. Holds (takes_by setting envelope found heard) in
    let Q : Option Session → Type 0 = λ found. call.Good laws setting own envelope.number (takes_by setting envelope found heard) in
    let taken : Holds (takes setting envelope (begun server draw)) = subst R (sym is) (taken-by laws setting speech envelope session heard is acceptance) in
    let state = takes setting envelope (begun server draw) in
    let sent : Holds (all_sent setting state) = all-sent laws setting speech own later envelope.number odd state.owed (names_in state.owed) state taken in
    let start : Remembered = record { history = noted message.number message.seq (outcome_of (kind_of message)) session.history; marks = acceptance.marks } in
    let grown = inner-grows (inner_messages message) start in
    let all : later ≡ start.history ++ grown.0 = ap (λ (session : Remembered). session.history) acceptance.history ∙ grown.1 in
    let W : History → Type 0 = λ history. WasAccepted envelope.number history in
    let was : WasAccepted envelope.number later =
    subst W (sym all) (noted-accepted envelope.number envelope.seq (outcome_of (kind_of message)) session.history grown.0 (accepted-so message)) in
    let last : WasAccepted envelope.number sent.stands.0.history = subst W (sym sent.stands.2) was in
    record {
      recorded = (sent.stands.0, sent.stands.1, last);
      stays = λ after there.
          let before = spent-left own (filter is_spent (all_sent setting state).sessions) (all_sent setting state) after there in
          let same = some-same sent.stands.0 after (sym sent.stands.1 ∙ before) in
          subst W (ap (λ (session : Session). session.history) same) last;
      acknowledged = taken.said;
      answered = λ service after there.
          call.all-spent laws setting own envelope.number (filter is_spent (all_sent setting state).sessions) (all_sent setting state)
          (call.all-sent laws setting own envelope.number state.owed (names_in state.owed) state
          (subst Q (sym is) (answered-by laws setting envelope session heard is acceptance.accepted service))) after there;
    }
