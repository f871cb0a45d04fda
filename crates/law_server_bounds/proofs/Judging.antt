-- What is judged of an envelope whose numbers fit their places does so too.
use Rattle.std.proofs.Common.{subst, ◌++◌, ◌≡◌, ℕ, eqb, ltb, leb, ◌&&◌, ◌+◌, ◌%◌, ◌^◌, ◌<◌, true, cond, Option, Some, None, Result, Ok, Err, List, [], ◌∷◌, refl, arith, inl, inr, suc, length, ◌≤◌, ap}
use Rattle.std.specs.Prelude.{⊤}
use Rattle.std.specs.List.{AllByRecursion, zip, flat_map}
use Rattle.std.specs.Option.{option_or}
use Rattle.std.proofs.lemmas.Bool.{cases_Bool, cond_both}
use Rattle.octets.specs.Bytes.{IsBytes}
use Rattle.service_tl.specs.declared.item.Item.{Item}
use Rattle.service_tl.specs.declared.lists.Message.{Message}
use Rattle.containers.specs.declared.fault.ContainerFault.{ContainerFault}
use Rattle.containers.specs.Container.{IsContainer, IsInner, begins_container, container_of, head_of, row}
use Rattle.containers.specs.Parts.{parts_of}
use Rattle.id_window.specs.declared.cross.Cross.{Cross}
use Rattle.id_window.specs.declared.cross.Cross.TheVariants.{None as Apart, Low, High}
use Rattle.msg_ids.specs.Counters.{is_odd}
use Rattle.id_window.specs.declared.mark.Mark.{Mark}
use Rattle.id_window.specs.History.{History, Outcome, Refused, crosses, floor, found}
use Rattle.service_tl.specs.declared.item.Item.TheVariants.{MsgContainer, MsgsStateReq, MsgResendReq}
use Rattle.service_tl.specs.ItemOf.{item_of}
use Rattle.service_tl.specs.Items.{IsOfSchema, ItemFits}
use Rattle.byteorder.specs.Endian.{little_bytes}
use Rattle.inbox.specs.Verdicts.{Verdict, Accepted, Again, Noticed, Judgement}
use Rattle.inbox.specs.Kinds.{begins_acknowledgement, begins_call, container_in, inner_messages, item_told, kind_among, kind_of, parts_among}
use Rattle.service_tl.specs.Results.{constructor_of}
use Rattle.inbox.specs.Refusals.{Way, InContainer, InEnvelope, by_body, by_envelope, by_neighbours, by_number, by_parity, is_valid_salt, needs_even, needs_odd, refusal, second_of}
use Rattle.inbox.specs.Judging.{Session as Remembered, inner_judgements, inner_session, is_container, is_recorded, is_uncontained, judge, judged_session, judgements, outcome_of, recorded, remembered, session_after, unfolded, verdict_by}
use Rattle.law_server_bounds.specs.Small.{IsSmallJudgement, IsSmallOutcome}
use Rattle.law_server_bounds.proofs.Items.{bytes-back, bytes-front}
use Rattle.law_server_bounds.proofs.SizeLists.{all-push}
use Rattle.law_server_bounds.proofs.SizeRows.{IsSmallVerdict, IsHeard}

-- ---- codes

abbrev IsCode : Option ℕ → Type 0
IsCode None = ⊤
IsCode (Some code) = code < 2 ^ 32

either-code : (one other : Option ℕ) → IsCode one → IsCode other → IsCode (option_or one other)
either-code None other a b = b
either-code (Some code) other a b = a

number-code : (low number : ℕ) → IsCode (by_number low number)
number-code low number =
    cond_both (leb number low) (Some 20) (cond (eqb (number % 4) 0) None (Some 18)) IsCode (λ is. omega arith)
    (λ is. cond_both (eqb (number % 4) 0) None (Some 18) IsCode (λ four. tt) (λ other. omega arith))

envelope-code : (way : Way) (number : ℕ) → IsCode (by_envelope way number)
envelope-code InContainer number = tt
envelope-code (InEnvelope now line salt) number =
    let third : IsCode (cond (is_valid_salt line now salt) None (Some 48)) =
    cond_both (is_valid_salt line now salt) None (Some 48) IsCode (λ is. tt) (λ is. omega arith) in
    let second : IsCode (cond (ltb (now + 30) (second_of number)) (Some 17) (cond (is_valid_salt line now salt) None (Some 48))) =
    cond_both (ltb (now + 30) (second_of number)) (Some 17) (cond (is_valid_salt line now salt) None (Some 48)) IsCode (λ is. omega arith) (λ is. third) in
    cond_both (ltb (second_of number + 300) now) (Some 16) (cond (ltb (now + 30) (second_of number)) (Some 17) (cond (is_valid_salt line now salt) None (Some 48))) IsCode
    (λ is. omega arith) (λ is. second)

parity-code : (kind : _) (seq : ℕ) → IsCode (by_parity kind seq)
parity-code kind seq =
    let odd : IsCode (cond (needs_even kind) (Some 34) None) = cond_both (needs_even kind) (Some 34) None IsCode (λ is. omega arith) (λ is. tt) in
    let even : IsCode (cond (needs_odd kind) (Some 35) None) = cond_both (needs_odd kind) (Some 35) None IsCode (λ is. omega arith) (λ is. tt) in
    cond_both (is_odd seq) (cond (needs_even kind) (Some 34) None) (cond (needs_odd kind) (Some 35) None) IsCode (λ is. odd) (λ is. even)

neighbours-code : (cross : Cross) → IsCode (by_neighbours cross)
neighbours-code Low = omega arith
neighbours-code High = omega arith
neighbours-code Apart = tt

body-code : (parts : Option (Result (List Message) ContainerFault)) (body : List ℕ) → IsCode (by_body (kind_among parts body))
body-code (Some (Ok messages)) body = tt
body-code (Some (Err fault)) body = omega arith
body-code None body =
    elim (cases_Bool (begins_acknowledgement (constructor_of body))) [
      | inl is ↦ rw is tt
      | inr fails ↦ elim (cases_Bool (begins_call (constructor_of body))) [ inl is ↦ rw (fails, is) tt | inr not_call ↦ rw (fails, not_call) tt ]
    ]

refusal-code : (way : Way) (history : History) (message : Message) → IsCode (refusal way history message)
refusal-code way history message =
    let kind = kind_of message in
    either-code (by_number (floor history) message.number) _ (number-code (floor history) message.number)
    (either-code (by_envelope way message.number) _ (envelope-code way message.number)
    (either-code (by_parity kind message.seq) _ (parity-code kind message.seq)
    (either-code (by_neighbours (crosses message.number message.seq history)) _ (neighbours-code (crosses message.number message.seq history)) (body-code (container_in message.number message.body) message.body))))

-- ---- verdicts

by-verdict : (found : Option Mark) (code : Option ℕ) (kind : _) (item : Item) → IsCode code → IsHeard item → IsSmallVerdict (verdict_by found code kind item)
by-verdict (Some mark) code kind item small heard =
    cond_both (is_container kind && is_uncontained mark) (Noticed 19) (Again mark) IsSmallVerdict (λ is. omega arith) (λ is. tt)
by-verdict None (Some code) kind item small heard = small
by-verdict None None kind item small heard = heard

-- ---- an item that is read

-- the law on items that are read of bytes
abbrev pub AreRead : Type 0
AreRead = (body : List ℕ) → IsBytes body → IsOfSchema (item_of body) → ItemFits (item_of body)

fits-heard : (item : Item) → (IsOfSchema item → ItemFits item) → IsHeard item
fits-heard (MsgsStateReq numbers) fits = let few = (fits tt).0.0 in few
fits-heard (MsgResendReq numbers) fits = let few = (fits tt).0.0 in few
fits-heard _ fits = tt

told-heard : AreRead → (body : List ℕ) → IsBytes body → IsHeard (item_told body)
told-heard read body bytes =
    cond_both (begins_container body) (MsgContainer []) (item_of body) IsHeard (λ is. tt) (λ is. fits-heard (item_of body) (read body bytes))

judge-small : AreRead → (way : Way) (session : Remembered) (message : Message) → IsBytes message.body → IsSmallVerdict (judge way session message)
judge-small read way session message bytes =
    by-verdict (found message.number session.history session.marks) (refusal way session.history message) (kind_of message) (item_told message.body)
    (refusal-code way session.history message) (told-heard read message.body bytes)

-- ---- what is recorded

abbrev IsSmallRecord : Option Outcome → Type 0
IsSmallRecord None = ⊤
IsSmallRecord (Some outcome) = IsSmallOutcome outcome

outcome-small : (parts : Option (Result (List Message) ContainerFault)) (body : List ℕ) → IsSmallOutcome (outcome_of (kind_among parts body))
outcome-small (Some (Ok messages)) body = tt
outcome-small (Some (Err fault)) body = tt
outcome-small None body =
    elim (cases_Bool (begins_acknowledgement (constructor_of body))) [
      | inl is ↦ rw is tt
      | inr fails ↦ elim (cases_Bool (begins_call (constructor_of body))) [ inl is ↦ rw (fails, is) tt | inr not_call ↦ rw (fails, not_call) tt ]
    ]

recorded-small : (message : Message) (verdict : Verdict) → IsSmallVerdict verdict → IsSmallRecord (recorded (kind_of message) verdict)
recorded-small message (Again mark) small = tt
recorded-small message (Noticed code) small = cond_both (is_recorded code) (Some (Refused code)) None IsSmallRecord (λ is. small) (λ is. tt)
recorded-small message (Accepted item) small = outcome-small (container_in message.number message.body) message.body

abbrev IsSmallHistory : History → Type 0
IsSmallHistory history = AllByRecursion IsSmallJudgement history

remembered-small : (number seq : ℕ) (outcome : Option Outcome) (session : Remembered) → number < 2 ^ 64 → IsSmallRecord outcome → IsSmallHistory session.history
    → IsSmallHistory (remembered number seq outcome session).history
remembered-small number seq None session fits small history = history
remembered-small number seq (Some outcome) session fits small history =
    all-push IsSmallJudgement session.history (record { number = number; seq = seq; outcome = outcome }) history (fits, small)

abbrev IsSmallNumber : Message → Type 0
IsSmallNumber message = (message.number < 2 ^ 64) × IsBytes message.body

judged-small : AreRead → (way : Way) (session : Remembered) (message : Message) → IsSmallNumber message → IsSmallHistory session.history
    → IsSmallHistory (judged_session way session message).history
judged-small read way session message fits history =
    remembered-small message.number message.seq (recorded (kind_of message) (judge way session message)) session fits.0
    (recorded-small message (judge way session message) (judge-small read way session message fits.1)) history

-- ---- messages inside

-- the law on the parts of a container
abbrev pub AreLawful : Type 0
AreLawful = (number : ℕ) (messages : List Message) (body : List ℕ) → IsBytes body → begins_container body ≡ true → parts_of number body ≡ Ok messages → IsContainer number messages body

inner-small : AreRead → (messages : List Message) (session : Remembered) → AllByRecursion IsSmallNumber messages → IsSmallHistory session.history
    → IsSmallHistory (inner_session session messages).history
inner-small read [] session small history = history
inner-small read (message ∷ messages) session small history =
    inner-small read messages (judged_session InContainer session message) small.1 (judged-small read InContainer session message small.0 history)

abbrev pub IsSmallJudged : Judgement → Type 0
IsSmallJudged judgement = (judgement.number < 2 ^ 64) × IsSmallVerdict judgement.verdict

inner-judged : AreRead → (messages : List Message) (session : Remembered) → AllByRecursion IsSmallNumber messages → AllByRecursion IsSmallJudged (inner_judgements session messages)
inner-judged read [] session small = tt
inner-judged read (message ∷ messages) session small =
    ((small.0.0, judge-small read InContainer session message small.0.1), inner-judged read messages (judged_session InContainer session message) small.1)

-- the bodies of a container of bytes are bytes
row-body : (message : Message) → IsBytes (row message) → IsBytes message.body
unfolding row
row-body message bytes =
    let size = little_bytes 4 (length message.body) in
    let seq = little_bytes 4 message.seq in
    bytes-back size message.body (bytes-back seq (size ++ message.body) (bytes-back (little_bytes 8 message.number) (seq ++ (size ++ message.body)) bytes))

rows-bodies : (number : ℕ) (messages : List Message) → AllByRecursion (IsInner number) messages → IsBytes (flat_map row messages) → AllByRecursion IsSmallNumber messages
rows-bodies number [] inner bytes = tt
rows-bodies number (message ∷ messages) inner bytes = (
  (inner.0.fits.0, row-body message (bytes-front (row message) (flat_map row messages) bytes)),
  rows-bodies number messages inner.1 (bytes-back (row message) (flat_map row messages) bytes),
)

container-bodies : (number : ℕ) (messages : List Message) → AllByRecursion (IsInner number) messages → IsBytes (container_of messages) → AllByRecursion IsSmallNumber messages
unfolding container_of
container-bodies number messages inner bytes = rows-bodies number messages inner (bytes-back (head_of (length messages)) (flat_map row messages) bytes)

abbrev AreFew : List Message → Type 0
AreFew messages = AllByRecursion IsSmallNumber messages × (length messages ≤ 1020)

parts-small : (number : ℕ) (body : List ℕ) (parts : Result (List Message) ContainerFault) → IsBytes body → ((messages : List Message) → parts ≡ Ok messages → IsContainer number messages body)
    → AreFew (parts_among (Some parts))
parts-small number body (Ok messages) bytes lawful =
    let container = lawful messages refl in
    let spelt = container.spelt in
    (container-bodies number messages container.inner (subst IsBytes spelt bytes), container.few)
parts-small number body (Err fault) bytes lawful = (tt, omega arith)

inner-count : (messages : List Message) (session : Remembered) → length (inner_judgements session messages) ≡ length messages
inner-count [] session = refl
inner-count (message ∷ messages) session = ap suc (inner-count messages (judged_session InContainer session message))

module _ (lawful : AreLawful) (read : AreRead) where
  messages-small : (message : Message) → IsBytes message.body → AreFew (inner_messages message)
  messages-small message bytes =
      cond_both (begins_container message.body) (Some (parts_of message.number message.body)) None
      (λ (parts : Option (Result (List Message) ContainerFault)). AreFew (parts_among parts))
      (λ begins. parts-small message.number message.body (parts_of message.number message.body) bytes (λ messages is. lawful message.number messages message.body bytes begins is))
      (λ other. (tt, omega arith))

  unfolded-small : (verdict : Verdict) (message : Message) → IsBytes message.body → AreFew (unfolded verdict message)
  unfolded-small (Accepted item) message bytes = messages-small message bytes
  unfolded-small (Again mark) message bytes = (tt, omega arith)
  unfolded-small (Noticed code) message bytes = (tt, omega arith)

  pub history-small : (way : Way) (session : Remembered) (message : Message) → message.number < 2 ^ 64 → IsBytes message.body → AllByRecursion IsSmallJudgement session.history
      → AllByRecursion IsSmallJudgement (session_after way session message).history
  history-small way session message fits bytes history =
      inner-small read (unfolded (judge way session message) message) (judged_session way session message) (unfolded-small (judge way session message) message bytes).0
      (judged-small read way session message (fits, bytes) history)

  pub judgements-small : (way : Way) (session : Remembered) (message : Message) → message.number < 2 ^ 64 → IsBytes message.body
      → AllByRecursion IsSmallJudged (judgements way session message) × (length (judgements way session message) ≤ 8192)
  judgements-small way session message fits bytes =
      let inner = unfolded-small (judge way session message) message bytes in
      let few = inner.1 in
      let count = inner-count (unfolded (judge way session message) message) (judged_session way session message) in (
        ((fits, judge-small read way session message bytes), inner-judged read (unfolded (judge way session message) message) (judged_session way session message) inner.0),
        omega (arith, few, count),
      )

abbrev pub IsSmallBoth : Judgement × List ℕ → Type 0
IsSmallBoth both = IsSmallJudged both.0

pub zipped-small : (all : List Judgement) (bodies : List (List ℕ)) → AllByRecursion IsSmallJudged all → AllByRecursion IsSmallBoth (zip all bodies)
zipped-small [] bodies small = tt
zipped-small (judgement ∷ all) [] small = tt
zipped-small (judgement ∷ all) (body ∷ bodies) small = (small.0, zipped-small all bodies small.1)
