-- The numbers that a history accepted grow by those that its judgements accept.
use Rattle.std.proofs.Common.{◌≡◌, ◌∙◌, ℕ, Bool, true, cond, Option, Some, None, Result, Ok, Err, List, [], ◌∷◌, ◌++◌, ap, sym, refl, inl, inr, append_assoc}
use Rattle.std.specs.Prelude.{map, filter_map}
use Rattle.std.specs.List.{filter, zip, cons_option}
use Rattle.std.proofs.lemmas.Bool.{cases_Bool, cond_both, cond-true, cond-false}
use Rattle.std.proofs.lemmas.List.{append-nil, map-append}
use Rattle.std.proofs.lemmas.List.Elements.{filter-append}
use Rattle.service_tl.specs.declared.lists.Message.{Message}
use Rattle.containers.specs.declared.fault.ContainerFault.{ContainerFault}
use Rattle.id_window.specs.History.{History, FirstJudgement, Outcome, Refused, noted, was_accepted}
use Rattle.inbox.specs.Verdicts.{Verdict, Accepted, Again, Noticed, Judgement}
use Rattle.inbox.specs.Kinds.{kind_of, kind_among, container_in, begins_acknowledgement, begins_call}
use Rattle.service_tl.specs.Results.{constructor_of}
use Rattle.inbox.specs.Refusals.{Way, InContainer}
use Rattle.inbox.specs.Judging.{Session as Remembered, judge, outcome_of, recorded, is_recorded, remembered, judged_session, inner_judgements, inner_session, unfolded, judgements, session_after}
use Rattle.law_server.specs.Lives.{Acceptance, acceptance_of, acceptance_by}
use Rattle.law_server.specs.Finality.{accepted_numbers}

accepted-among : (parts : Option (Result (List Message) ContainerFault)) (body : List ℕ) → was_accepted (outcome_of (kind_among parts body)) ≡ true
accepted-among (Some (Ok messages)) body = refl
accepted-among (Some (Err fault)) body = refl
accepted-among None body =
    elim (cases_Bool (begins_acknowledgement (constructor_of body))) [
      | inl is ↦ rw is refl
      | inr fails ↦ elim (cases_Bool (begins_call (constructor_of body))) [ inl is ↦ rw (fails, is) refl | inr not_call ↦ rw (fails, not_call) refl ]
    ]

outcome-accepted : (message : Message) → was_accepted (outcome_of (kind_of message)) ≡ true
outcome-accepted message = accepted-among (container_in message.number message.body) message.body

-- the numbers of a history with a further judgement
noted-numbers : (number seq : ℕ) (outcome : Outcome) (history : History)
    → accepted_numbers (noted number seq outcome history) ≡ accepted_numbers history ++ cond (was_accepted outcome) (number ∷ []) []
noted-numbers number seq outcome history =
    let one : FirstJudgement = record { number = number; seq = seq; outcome = outcome } in
    let test : FirstJudgement → Bool = λ judgement. was_accepted judgement.outcome in
    let number_of : FirstJudgement → ℕ = λ judgement. judgement.number in
    ap (map number_of) (filter-append test history (one ∷ []))
    ∙ (map-append number_of (filter test history) (filter test (one ∷ []))
    ∙ ap (λ (rest : List ℕ). accepted_numbers history ++ rest)
    (cond_both (was_accepted outcome) (one ∷ []) [] (λ (l : History). map number_of l ≡ cond (was_accepted outcome) (number ∷ []) [])
    (λ is. sym (cond-true (was_accepted outcome) (number ∷ []) [] is)) (λ fails. sym (cond-false (was_accepted outcome) (number ∷ []) [] fails))))

-- the number of an acceptance, where there is one
abbrev numbers_of : List Acceptance → List ℕ
numbers_of accepted = map (λ one. one.number) accepted

one-numbers : (message : Message) (verdict : Verdict) (session : Remembered)
    → accepted_numbers (remembered message.number message.seq (recorded (kind_of message) verdict) session).history
    ≡ accepted_numbers session.history ++ numbers_of (cons_option (acceptance_by message.number verdict message.body) [])
one-numbers message (Accepted item) session =
    noted-numbers message.number message.seq (outcome_of (kind_of message)) session.history
    ∙ ap (λ (rest : List ℕ). accepted_numbers session.history ++ rest) (cond-true (was_accepted (outcome_of (kind_of message))) (message.number ∷ []) [] (outcome-accepted message))
one-numbers message (Again mark) session = sym (append-nil (accepted_numbers session.history))
one-numbers message (Noticed code) session =
    cond_both (is_recorded code) (Some (Refused code)) None
    (λ (outcome : Option Outcome). accepted_numbers (remembered message.number message.seq outcome session).history ≡ accepted_numbers session.history ++ [])
    (λ is. noted-numbers message.number message.seq (Refused code) session.history) (λ fails. sym (append-nil (accepted_numbers session.history)))

abbrev told_numbers : List Judgement → List Message → List ℕ
told_numbers judged messages = numbers_of (filter_map acceptance_of (zip judged (map (λ one. one.body) messages)))

-- a first one and others
cons-numbers : (option : Option Acceptance) (others : List Acceptance) → numbers_of (cons_option option []) ++ numbers_of others ≡ numbers_of (cons_option option others)
cons-numbers None others = refl
cons-numbers (Some one) others = refl

inner-numbers : (session : Remembered) (messages : List Message)
    → accepted_numbers (inner_session session messages).history ≡ accepted_numbers session.history ++ told_numbers (inner_judgements session messages) messages
inner-numbers session [] = sym (append-nil (accepted_numbers session.history))
inner-numbers session (message ∷ messages) =
    let verdict = judge InContainer session message in
    let next = judged_session InContainer session message in
    let option = acceptance_by message.number verdict message.body in
    let others = filter_map acceptance_of (zip (inner_judgements next messages) (map (λ one. one.body) messages)) in
    inner-numbers next messages
    ∙ (ap (λ (numbers : List ℕ). numbers ++ numbers_of others) (one-numbers message verdict session)
    ∙ (append_assoc (accepted_numbers session.history) (numbers_of (cons_option option [])) (numbers_of others)
    ∙ ap (λ (rest : List ℕ). accepted_numbers session.history ++ rest) (cons-numbers option others)))

-- a message with what is inside it
pub all-numbers : (way : Way) (session : Remembered) (message : Message)
    → accepted_numbers (session_after way session message).history
    ≡ accepted_numbers session.history ++ told_numbers (judgements way session message) (message ∷ unfolded (judge way session message) message)
all-numbers way session message =
    let verdict = judge way session message in
    let messages = unfolded verdict message in
    let next = judged_session way session message in
    let option = acceptance_by message.number verdict message.body in
    let others = filter_map acceptance_of (zip (inner_judgements next messages) (map (λ one. one.body) messages)) in
    inner-numbers next messages
    ∙ (ap (λ (numbers : List ℕ). numbers ++ numbers_of others) (one-numbers message verdict session)
    ∙ (append_assoc (accepted_numbers session.history) (numbers_of (cons_option option [])) (numbers_of others)
    ∙ ap (λ (rest : List ℕ). accepted_numbers session.history ++ rest) (cons-numbers option others)))
