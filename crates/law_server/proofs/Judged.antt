-- Judging a packet's messages: what is accepted is new, and the marks stay those of the history.
use Rattle.std.proofs.Common.{◌≡◌, ◌≢◌, ◌∙◌, ℕ, ◌-◌, ◌<◌, ◌≤◌, eqb, leb, true, false, cond, Option, Some, None, Result, Ok, Err, List, [], ◌∷◌, length, get_or, ap, sym, subst, refl, inl, inr}
use Rattle.std.specs.Prelude.{fold, is_some, ◌⊎◌, ◌&&◌}
use Rattle.std.specs.List.{All, AllPairs, Contains}
use Rattle.std.specs.Option.{option_or}
use Rattle.std.proofs.lemmas.Bool.{cases_Bool, cases_lt, cond-true, cond-false, cond_both, eqb-true, eq-eqb, le-leb, false≢true}
use Rattle.std.proofs.lemmas.List.Elements.{All-nil, All-cons, All-head, All-tail, All-drop, All-weaker, All-contains, Contains-append_left, Contains-push, Contains-get_or}
use Rattle.std.proofs.lemmas.List.Quantifiers.{all_pairs_push}
use Rattle.std.proofs.lemmas.List.Folds.{Any-from_list_any}
use Rattle.service_tl.specs.declared.item.Item.{Item}
use Rattle.service_tl.specs.declared.lists.Message.{Message}
use Rattle.id_window.specs.declared.mark.Mark.{Mark}
use Rattle.id_window.specs.Marks.{Marks, mark_of, given}
use Rattle.id_window.specs.History.{History, FirstJudgement, Outcome, AcceptedCall, EachOnce, noted, inserted, ascending, window_numbers, kept, is_kept, found, floor, crosses, was_accepted}
use Rattle.inbox.specs.Verdicts.{Verdict, Accepted, Again, Noticed, Judgement}
use Rattle.containers.specs.declared.fault.ContainerFault.{ContainerFault}
use Rattle.inbox.specs.Kinds.{kind_of, item_told, kind_among, container_in, begins_acknowledgement, begins_call}
use Rattle.service_tl.specs.Results.{constructor_of}
use Rattle.inbox.specs.Refusals.{Way, InContainer, refusal, by_number, by_envelope, by_parity, by_neighbours, by_body}
use Rattle.inbox.specs.Judging.{Session as Remembered, is_container, is_uncontained, verdict_by, judge, is_accepted, outcome_of, first_mark, recorded, remembered, judged_session, judgement_on, inner_judgements, inner_session, unfolded, judgements, session_after}
use Rattle.server_rules.specs.Server.{Reply, marks_of, mark_after, reply_to}
use Rattle.waits.specs.declared.job.Unfinished.{Unfinished}
use Rattle.waits.specs.Jobs.{Queue}
use Rattle.law_server.specs.Order.{WasAccepted, WasCalled, IsUnanswered, HasNoJob, IsOrderly, IsMidway, IsTold, is_for_service, opens_of}
use Rattle.law_server.proofs.Lists.{pairs-cons, pairs-nil}
use Rattle.law_server.proofs.Own.{some-same, none-some}

-- what other crates' laws say, which each law here calls
pub record Known : Type 0 where
  pub new : (history : History) (number : ℕ) → floor history < number → is_kept number history ≡ false → All (λ (judgement : FirstJudgement). judgement.number ≢ number) history
  pub noted : (number seq : ℕ) (outcome : Outcome) (history : History) (replies : List Reply) → reply_to number replies ≡ None
      → marks_of (noted number seq outcome history) replies ≡ given number (first_mark outcome) (marks_of history replies)

-- ---- each number of a history has a mark

abbrev from_mark : ℕ → Option Mark → Marks → Option Mark
from_mark number last marks = fold (λ so_far given. cond (eqb given.0 number) (Some given.1) so_far) last marks

some-stays : (number : ℕ) (mark : Mark) (marks : Marks) → is_some (from_mark number (Some mark) marks) ≡ true
some-stays number mark [] = refl
some-stays number mark (one ∷ marks) =
    cond_both (eqb one.0 number) (Some one.1) (Some mark) (λ (last : Option Mark). is_some (from_mark number last marks) ≡ true)
    (λ is. some-stays number one.1 marks) (λ is. some-stays number mark marks)

covered_from : (last : ℕ → Option Mark) (history : History) (replies : List Reply)
    → All (λ (judgement : FirstJudgement). is_some (from_mark judgement.number (last judgement.number) (marks_of history replies)) ≡ true) history
covered_from last [] replies = All-nil (λ (judgement : FirstJudgement). is_some (from_mark judgement.number (last judgement.number) []) ≡ true)
covered_from last (first ∷ history) replies =
    let mark = mark_after replies first.number first.outcome in
    let after : ℕ → Option Mark = λ number. cond (eqb first.number number) (Some mark) (last number) in
    let P : FirstJudgement → Type 0 = λ judgement. is_some (from_mark judgement.number (after judgement.number) (marks_of history replies)) ≡ true in
    let Q : Option Mark → Type 0 = λ found. is_some (from_mark first.number found (marks_of history replies)) ≡ true in
    All-cons P first history
    (subst Q (sym (cond-true (eqb first.number first.number) (Some mark) (last first.number) (eq-eqb first.number first.number refl))) (some-stays first.number mark (marks_of history replies)))
    (covered_from after history replies)

covered : (history : History) (replies : List Reply) → All (λ (judgement : FirstJudgement). is_some (mark_of judgement.number (marks_of history replies)) ≡ true) history
covered history replies = covered_from (λ number. None) history replies

-- ---- what is kept is in the history

abbrev put : History → FirstJudgement → History
put sorted judgement = inserted (λ judged. judged.number) judgement sorted

all-inserted : (P : FirstJudgement → Type 0) (judgement : FirstJudgement) (sorted : History) → P judgement → All P sorted → All P (put sorted judgement)
all-inserted P judgement [] is all = All-cons P judgement [] is (All-nil P)
all-inserted P judgement (first ∷ sorted) is all =
    let head = All-head P first sorted all in
    let rest = All-tail P first sorted all in
    cond_both _ (first ∷ put sorted judgement) (judgement ∷ (first ∷ sorted)) (All P)
    (λ later. All-cons P first (put sorted judgement) head (all-inserted P judgement sorted is rest))
    (λ here. All-cons P judgement (first ∷ sorted) is all)

all-ascending : (P : FirstJudgement → Type 0) (sorted history : History) → All P sorted → All P history → All P (fold put sorted history)
all-ascending P sorted [] so_far all = so_far
all-ascending P sorted (judgement ∷ history) so_far all =
    all-ascending P (put sorted judgement) history (all-inserted P judgement sorted (All-head P judgement history all) so_far) (All-tail P judgement history all)

all-kept : (P : FirstJudgement → Type 0) (history : History) → All P history → All P (kept history)
unfolding kept
all-kept P history all = All-drop P (length history - window_numbers) (ascending history) (all-ascending P [] history (All-nil P) all)

-- a number that no mark is found of isn't kept
unfound : (number : ℕ) (history : History) (replies : List Reply) → found number history (marks_of history replies) ≡ None → is_kept number history ≡ false
unfound number history replies none =
    elim (cases_Bool (is_kept number history)) [
      | inl is ↦
          let one = Any-from_list_any (λ (judgement : FirstJudgement). eqb judgement.number number) (kept history) is in
          let P : FirstJudgement → Type 0 = λ judgement. is_some (mark_of judgement.number (marks_of history replies)) ≡ true in
          let marked : P (get_or (kept history) one.0 one.1) = all-kept P history (covered history replies) one.0 one.1 one.2 in
          let marked_so : P one.1 = subst P one.3 marked in
          let N : ℕ → Type 0 = λ number. is_some (mark_of number (marks_of history replies)) ≡ true in
          let here : is_some (mark_of number (marks_of history replies)) ≡ true = subst N (eqb-true one.1.number number one.4) marked_so in
          let none_here : mark_of number (marks_of history replies) ≡ None = sym (cond-true (is_kept number history) (mark_of number (marks_of history replies)) None is) ∙ none in
          absurd (false≢true (sym (ap is_some none_here) ∙ here))
      | inr fails ↦ fails
    ]

-- ---- what is recorded is new

abbrev pub IsNew : ℕ → History → Type 0
IsNew number history = All (λ judgement. judgement.number ≢ number) history

-- a number that isn't kept is refused with 20, or new
low-refused : (way : Way) (history : History) (message : Message) → message.number ≤ floor history → refusal way history message ≡ Some 20
low-refused way history message low =
    let number = by_number (floor history) message.number in
    let is : leb message.number (floor history) ≡ true = le-leb message.number (floor history) low in
    let twenty : number ≡ Some 20 = cond-true (leb message.number (floor history)) (Some 20) _ is in
    ap (λ (code : Option ℕ). option_or code (option_or (by_envelope way message.number) (option_or (by_parity (kind_of message) message.seq)
    (option_or (by_neighbours (crosses message.number message.seq history)) (by_body (kind_of message)))))) twenty

new-or-low : (known : Known) (way : Way) (history : History) (replies : List Reply) (message : Message)
    → found message.number history (marks_of history replies) ≡ None → (refusal way history message ≡ Some 20) ⊎ IsNew message.number history
new-or-low known way history replies message none =
    elim (cases_lt (floor history) message.number) [
      | inl above ↦ inr (known.new history message.number above (unfound message.number history replies none))
      | inr low ↦ inl (low-refused way history message low)
    ]

recorded-new : (New : Type 0) (mark : Option Mark) (code : Option ℕ) (message : Message) (item : Item) (outcome : Outcome) → (mark ≡ None → (code ≡ Some 20) ⊎ New)
    → recorded (kind_of message) (verdict_by mark code (kind_of message) item) ≡ Some outcome → New
recorded-new New (Some mark) code message item outcome new is =
    let P : Verdict → Type 0 = λ verdict. recorded (kind_of message) verdict ≡ Some outcome → New in
    cond_both (is_container (kind_of message) && is_uncontained mark) (Noticed 19) (Again mark) P (λ so is. absurd (none-some outcome is)) (λ so is. absurd (none-some outcome is)) is
recorded-new New None (Some code) message item outcome new is =
    elim (new refl) [
      | inl low ↦
          let twenty : code ≡ 20 = some-same code 20 low in
          absurd (none-some outcome (sym (ap (λ (code : ℕ). recorded (kind_of message) (Noticed code)) twenty) ∙ is))
      | inr is_new ↦ is_new
    ]
recorded-new New None None message item outcome new is =
    elim (new refl) [ inl low ↦ absurd (none-some 20 low) | inr is_new ↦ is_new ]

-- ---- one judgement

-- no reply is to a number that was never judged
unreplied : (number : ℕ) (history : History) (replies : List Reply) → IsNew number history → All (λ (reply : Reply). WasAccepted reply.call history) replies
    → IsUnanswered replies number
unreplied number history replies new all =
    All-weaker (λ (reply : Reply). WasAccepted reply.call history) (λ (reply : Reply). reply.call ≢ number)
    (λ reply accepted same. All-contains (λ (judgement : FirstJudgement). judgement.number ≢ number) history accepted.0 new accepted.1 (accepted.2 ∙ same))
    replies all

pub none-answers : (number : ℕ) (replies : List Reply) → IsUnanswered replies number → reply_to number replies ≡ None
none-answers number [] all = refl
none-answers number (reply ∷ replies) all =
    let P : Reply → Type 0 = λ reply. reply.call ≢ number in
    elim (cases_Bool (eqb reply.call number)) [
      | inl is ↦ absurd (All-head P reply replies all (eqb-true reply.call number is))
      | inr fails ↦ cond-false (eqb reply.call number) (Some reply) (reply_to number replies) fails ∙ none-answers number replies (All-tail P reply replies all)
    ]

-- what a session remembers, by its history and its replies
abbrev pub memory : History → List Reply → Remembered
memory history replies = record { history = history; marks = marks_of history replies }

-- a history that goes on
abbrev pub Grows : History → History → Type 0
Grows history later = (judgement : FirstJudgement) → Contains history judgement → Contains later judgement

-- what one judgement leaves
pub record Step (way : Way) (history : History) (replies : List Reply) (message : Message) : Type 0 where
  pub later : History
  pub session : judged_session way (memory history replies) message ≡ memory later replies
  pub once : EachOnce later
  pub replied : All (λ (reply : Reply). WasAccepted reply.call later) replies
  pub grows : Grows history later
  pub new : is_accepted (judge way (memory history replies) message) ≡ true → IsNew message.number history
  pub told : IsTold message.number (judge way (memory history replies) message) later

accepted-recorded : (message : Message) (verdict : Verdict) → is_accepted verdict ≡ true → recorded (kind_of message) verdict ≡ Some (outcome_of (kind_of message))
accepted-recorded message (Accepted item) is = refl
accepted-recorded message (Again mark) is = absurd (false≢true is)
accepted-recorded message (Noticed code) is = absurd (false≢true is)

accepted-among : (parts : Option (Result (List Message) ContainerFault)) (body : List ℕ) → was_accepted (outcome_of (kind_among parts body)) ≡ true
accepted-among (Some (Ok messages)) body = refl
accepted-among (Some (Err fault)) body = refl
accepted-among None body =
    elim (cases_Bool (begins_acknowledgement (constructor_of body))) [
      | inl is ↦ rw is refl
      | inr fails ↦ elim (cases_Bool (begins_call (constructor_of body))) [ inl is ↦ rw (fails, is) refl | inr not_call ↦ rw (fails, not_call) refl ]
    ]

outcome-accepted : (message : Message) → was_accepted (outcome_of (kind_of message)) ≡ true
outcome-accepted message = accepted-among (container_in message.number message.body) message.body

grows-accepted : (history later : History) (replies : List Reply) → Grows history later → All (λ (reply : Reply). WasAccepted reply.call history) replies
    → All (λ (reply : Reply). WasAccepted reply.call later) replies
grows-accepted history later replies grows all =
    All-weaker (λ (reply : Reply). WasAccepted reply.call history) (λ (reply : Reply). WasAccepted reply.call later)
    (λ reply accepted. (accepted.0, grows accepted.0 accepted.1, accepted.2, accepted.3)) replies all

item-of : (mark : Option Mark) (code : Option ℕ) (message : Message) (item other : Item) → verdict_by mark code (kind_of message) item ≡ Accepted other → item ≡ other
item-of (Some mark) code message item other is =
    let P : Verdict → Type 0 = λ verdict. verdict ≡ Accepted other → item ≡ other in
    cond_both (is_container (kind_of message) && is_uncontained mark) (Noticed 19) (Again mark) P
    (λ so is. absurd (false≢true (ap is_accepted is))) (λ so is. absurd (false≢true (ap is_accepted is))) is
item-of None (Some code) message item other is = absurd (false≢true (ap is_accepted is))
item-of None None message item other is =
    let get : Verdict → Item = λ verdict. elim verdict [ Accepted one ↦ one | Again mark ↦ item | Noticed code ↦ item ] in
    ap get is

step-by : (known : Known) (service : (message : Message) → is_for_service (item_told message.body) ≡ true → outcome_of (kind_of message) ≡ AcceptedCall)
    (way : Way) (history : History) (replies : List Reply) (message : Message) (outcome : Option Outcome)
    → recorded (kind_of message) (judge way (memory history replies) message) ≡ outcome → EachOnce history
    → All (λ (reply : Reply). WasAccepted reply.call history) replies → Step way history replies message
step-by known service way history replies message None is once replied =
    let verdict = judge way (memory history replies) message in
    let fails : is_accepted verdict ≡ true → ⊥ = λ accepted. none-some (outcome_of (kind_of message)) (sym is ∙ accepted-recorded message verdict accepted) in
    record {
      later = history;
      session = ap (λ (outcome : Option Outcome). remembered message.number message.seq outcome (memory history replies)) is;
      once = once;
      replied = replied;
      grows = λ judgement has. has;
      new = λ accepted. absurd (fails accepted);
      told = record {
        accepted = λ accepted. absurd (fails accepted);
        called = λ item so called. absurd (fails (ap is_accepted so));
      };
    }
step-by known service way history replies message (Some outcome) is once replied =
    let verdict = judge way (memory history replies) message in
    let new : IsNew message.number history =
    recorded-new (IsNew message.number history) (found message.number history (marks_of history replies)) (refusal way history message) message (item_told message.body) outcome
    (new-or-low known way history replies message) is in
    let none = none-answers message.number replies (unreplied message.number history replies new replied) in
    let later = noted message.number message.seq outcome history in
    let one : FirstJudgement = record { number = message.number; seq = message.seq; outcome = outcome } in
    let grows : Grows history later = λ judgement has. Contains-append_left history (one ∷ []) judgement has in
    let outcome_is : is_accepted verdict ≡ true → outcome ≡ outcome_of (kind_of message) =
    λ accepted. some-same outcome (outcome_of (kind_of message)) (sym is ∙ accepted-recorded message verdict accepted) in
    record {
      later = later;
      session =
          ap (λ (outcome : Option Outcome). remembered message.number message.seq outcome (memory history replies)) is
          ∙ ap (λ (marks : Marks). record { history = later; marks = marks }) (sym (known.noted message.number message.seq outcome history replies none));
      once = all_pairs_push (λ (earlier other : FirstJudgement). earlier.number ≢ other.number) history one once new;
      replied = grows-accepted history later replies grows replied;
      grows = grows;
      new = λ accepted. new;
      told = record {
        accepted = λ accepted. (one, Contains-push history one, refl, ap was_accepted (outcome_is accepted) ∙ outcome-accepted message);
        called = λ item so called.
            let told_is : item_told message.body ≡ item =
            item-of (found message.number history (marks_of history replies)) (refusal way history message) message (item_told message.body) item so in
            (one, Contains-push history one, refl, outcome_is (ap is_accepted so) ∙ service message (ap is_for_service told_is ∙ called));
      };
    }

pub step : (known : Known) (service : (message : Message) → is_for_service (item_told message.body) ≡ true → outcome_of (kind_of message) ≡ AcceptedCall)
    (way : Way) (history : History) (replies : List Reply) (message : Message) → EachOnce history
    → All (λ (reply : Reply). WasAccepted reply.call history) replies → Step way history replies message
step known service way history replies message once replied =
    step-by known service way history replies message (recorded (kind_of message) (judge way (memory history replies) message)) refl once replied

-- ---- all judgements

-- what judgements have, of messages judged from one history on, at the end of them
pub record AreJudged (judged : List Judgement) (history later : History) : Type 0 where
  pub grows : Grows history later
  pub new : All (λ number. IsNew number history) (opens_of judged)
  pub apart : AllPairs (λ one other. one ≢ other) (opens_of judged)
  pub accepted : All (λ number. WasAccepted number later) (opens_of judged)
  pub told : All (λ judgement. IsTold judgement.number judgement.verdict later) judged

pub record Ends (session : Remembered) (judgements : List Judgement) (history : History) (replies : List Reply) : Type 0 where
  pub later : History
  pub is : session ≡ memory later replies
  pub once : EachOnce later
  pub replied : All (λ (reply : Reply). WasAccepted reply.call later) replies
  pub judged : AreJudged judgements history later

new-before : (history later : History) → Grows history later → (number : ℕ) → IsNew number later → IsNew number history
new-before history later grows number new = λ k d within.
    All-contains (λ (judgement : FirstJudgement). judgement.number ≢ number) later (get_or history k d) new (grows (get_or history k d) (Contains-get_or history k d within))

told-grows : (number : ℕ) (verdict : Verdict) (history later : History) → Grows history later → IsTold number verdict history → IsTold number verdict later
told-grows number verdict history later grows told = record {
  accepted = λ is. let had = told.accepted is in (had.0, grows had.0 had.1, had.2, had.3);
  called = λ item so service. let had = told.called item so service in (had.0, grows had.0 had.1, had.2, had.3);
}

judged-cons : (way : Way) (history : History) (replies : List Reply) (message : Message) (step : Step way history replies message) (rest : List Judgement) (last : History)
    → AreJudged rest step.later last → AreJudged (judgement_on way (memory history replies) message ∷ rest) history last
judged-cons way history replies message step rest last judged =
    let verdict = judge way (memory history replies) message in
    let test = is_accepted verdict in
    let number = message.number in
    let numbers = opens_of rest in
    let before = All-weaker (λ (number : ℕ). IsNew number step.later) (λ (number : ℕ). IsNew number history) (new-before history step.later step.grows) numbers judged.new in
    let last_told = told-grows number verdict step.later last judged.grows step.told in
    record {
      grows = λ judgement has. judged.grows judgement (step.grows judgement has);
      new =
          cond_both test (number ∷ numbers) numbers (λ (numbers : List ℕ). All (λ number. IsNew number history) numbers)
          (λ is. All-cons (λ (number : ℕ). IsNew number history) number numbers (step.new is) before) (λ is. before);
      apart =
          cond_both test (number ∷ numbers) numbers (λ (numbers : List ℕ). AllPairs (λ one other. one ≢ other) numbers)
          (λ is. let accepted = step.told.accepted is in
          pairs-cons (λ (one other : ℕ). one ≢ other) number numbers
          (λ k d within same. All-contains (λ (judgement : FirstJudgement). judgement.number ≢ get_or numbers k d) step.later accepted.0 (judged.new k d within) accepted.1 (accepted.2 ∙ same))
          judged.apart)
          (λ is. judged.apart);
      accepted =
          cond_both test (number ∷ numbers) numbers (λ (numbers : List ℕ). All (λ number. WasAccepted number last) numbers)
          (λ is. All-cons (λ (number : ℕ). WasAccepted number last) number numbers (last_told.accepted is) judged.accepted) (λ is. judged.accepted);
      told = All-cons (λ (judgement : Judgement). IsTold judgement.number judgement.verdict last) (judgement_on way (memory history replies) message) rest last_told judged.told;
    }

abbrev pub IsService : Type 0
IsService = (message : Message) → is_for_service (item_told message.body) ≡ true → outcome_of (kind_of message) ≡ AcceptedCall

inner-ends : (known : Known) (service : IsService) (replies : List Reply) (messages : List Message) (history : History) → EachOnce history
    → All (λ (reply : Reply). WasAccepted reply.call history) replies
    → Ends (inner_session (memory history replies) messages) (inner_judgements (memory history replies) messages) history replies
inner-ends known service replies [] history once replied = record {
  later = history;
  is = refl;
  once = once;
  replied = replied;
  judged = record {
    grows = λ judgement has. has;
    new = All-nil (λ (number : ℕ). IsNew number history);
    apart = pairs-nil (λ (one other : ℕ). one ≢ other);
    accepted = All-nil (λ (number : ℕ). WasAccepted number history);
    told = All-nil (λ (judgement : Judgement). IsTold judgement.number judgement.verdict history);
  };
}
inner-ends known service replies (message ∷ messages) history once replied =
    let first = step known service InContainer history replies message once replied in
    let rest = inner-ends known service replies messages first.later first.once first.replied in
    let P : Remembered → Type 0 = λ session. Ends (inner_session session messages) (judgement_on InContainer (memory history replies) message ∷ inner_judgements session messages) history replies in
    subst P (sym first.session) (record {
      later = rest.later;
      is = rest.is;
      once = rest.once;
      replied = rest.replied;
      judged = judged-cons InContainer history replies message first (inner_judgements (memory first.later replies) messages) rest.later rest.judged;
    })

-- a message with what is inside it
pub all-ends : (known : Known) (service : IsService) (way : Way) (replies : List Reply) (message : Message) (history : History) → EachOnce history
    → All (λ (reply : Reply). WasAccepted reply.call history) replies
    → Ends (session_after way (memory history replies) message) (judgements way (memory history replies) message) history replies
all-ends known service way replies message history once replied =
    let first = step known service way history replies message once replied in
    let messages = unfolded (judge way (memory history replies) message) message in
    let rest = inner-ends known service replies messages first.later first.once first.replied in
    let P : Remembered → Type 0 = λ session. Ends (inner_session session messages) (judgement_on way (memory history replies) message ∷ inner_judgements session messages) history replies in
    subst P (sym first.session) (record {
      later = rest.later;
      is = rest.is;
      once = rest.once;
      replied = rest.replied;
      judged = judged-cons way history replies message first (inner_judgements (memory first.later replies) messages) rest.later rest.judged;
    })

-- what was judged is open then
pub judged-midway : (judged : List Judgement) (history later : History) (replies : List Reply) (last : ℕ) (jobs : Queue) → EachOnce later
    → AreJudged judged history later → IsOrderly history replies last jobs → IsMidway (opens_of judged) later replies last jobs
judged-midway judged history later replies last jobs once are order = record {
  order = record {
    judged = once;
    replied = record {
      accepted = grows-accepted history later replies are.grows order.replied.accepted;
      once = order.replied.once;
      rising = order.replied.rising;
      given = order.replied.given;
    };
    unfinished = record {
      called =
          All-weaker (λ (one : Unfinished). WasCalled one.job.number history) (λ (one : Unfinished). WasCalled one.job.number later)
          (λ one had. (had.0, are.grows had.0 had.1, had.2, had.3)) jobs order.unfinished.called;
      unanswered = order.unfinished.unanswered;
      once = order.unfinished.once;
    };
  };
  opened = record {
    once = are.apart;
    accepted = are.accepted;
    unanswered =
        All-weaker (λ (number : ℕ). IsNew number history) (IsUnanswered replies) (λ number new. unreplied number history replies new order.replied.accepted)
        (opens_of judged) are.new;
    unfinished =
        All-weaker (λ (number : ℕ). IsNew number history) (HasNoJob jobs)
        (λ number new. All-weaker (λ (one : Unfinished). WasCalled one.job.number history) (λ (one : Unfinished). one.job.number ≢ number)
        (λ one had same. All-contains (λ (judgement : FirstJudgement). judgement.number ≢ number) history had.0 new had.1 (had.2 ∙ same)) jobs order.unfinished.called)
        (opens_of judged) are.new;
  };
}

-- the marks after a packet's messages were judged are those of the history then and the same replies
pub marks-after : (known : Known) (service : IsService) (way : Way) (replies : List Reply) (message : Message) (history : History) → EachOnce history
    → All (λ (reply : Reply). WasAccepted reply.call history) replies
    → session_after way (memory history replies) message ≡ memory (session_after way (memory history replies) message).history replies
marks-after known service way replies message history once replied =
    let ends = all-ends known service way replies message history once replied in
    ends.is ∙ ap (λ (later : History). memory later replies) (sym (ap (λ (session : Remembered). session.history) ends.is))

-- and what was accepted is open then
pub open-after : (known : Known) (service : IsService) (way : Way) (replies : List Reply) (message : Message) (history : History) (last : ℕ) (jobs : Queue) → IsOrderly history replies last jobs
    → IsMidway (opens_of (judgements way (memory history replies) message)) (session_after way (memory history replies) message).history replies last jobs
open-after known service way replies message history last jobs order =
    let ends = all-ends known service way replies message history order.judged order.replied.accepted in
    let judged = judgements way (memory history replies) message in
    let P : History → Type 0 = λ later. IsMidway (opens_of judged) later replies last jobs in
    subst P (sym (ap (λ (session : Remembered). session.history) ends.is)) (judged-midway judged history ends.later replies last jobs ends.once ends.judged order)

pub told-after : (known : Known) (service : IsService) (way : Way) (replies : List Reply) (message : Message) (history : History) (last : ℕ) (jobs : Queue) → IsOrderly history replies last jobs
    → All (λ judgement. IsTold judgement.number judgement.verdict (session_after way (memory history replies) message).history) (judgements way (memory history replies) message)
told-after known service way replies message history last jobs order =
    let ends = all-ends known service way replies message history order.judged order.replied.accepted in
    let P : History → Type 0 = λ later. All (λ judgement. IsTold judgement.number judgement.verdict later) (judgements way (memory history replies) message) in
    subst P (sym (ap (λ (session : Remembered). session.history) ends.is)) ends.judged.told
