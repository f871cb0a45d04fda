-- What the messages of a packet need, as they were judged.
use Rattle.std.proofs.Common.{◌≡◌, ◌∙◌, ◌≤◌, ℕ, ◌&&◌, true, List, [], ◌∷◌, Option, Some, None, ap, length, map, subst, sym, refl, arith}
use Rattle.std.specs.Prelude.{◌==◌}
use Rattle.std.proofs.lemmas.Bool.{and_from, cond_both, eq-eqb}
use Rattle.std.proofs.lemmas.List.{length-map}
use Rattle.service_tl.specs.declared.lists.Message.{Message}
use Rattle.id_window.specs.declared.mark.Mark.{Mark}
use Rattle.inbox.specs.declared.judged.Judgement.{Judgement as BareJudgement}
use Rattle.inbox.specs.Verdicts.{Judgement, Verdict, Accepted, Again, Noticed, bare, bare_judgement}
use Rattle.inbox.specs.Kinds.{inner_messages, item_told, kind_of}
use Rattle.inbox.specs.Judging.{Session, inner_judgements, is_container, is_uncontained, judge, judged_session, judgements, unfolded, verdict_again, verdict_by}
use Rattle.inbox.specs.Refusals.{Way, InContainer, refusal}
use Rattle.id_window.specs.History.{found}
use Rattle.server_dispatch.specs.declared.action.Action.TheVariants.{Nothing}
use Rattle.server_dispatch.specs.declared.dues.Due.{Due}
use Rattle.server_dispatch.specs.Action.{due_by, due_needed, due_of, needed_of}
use Rattle.server_core.specs.Room.{dues_in}
use Rattle.server_core.specs.SettlingAll.{AreDue, AreFitting, are_numbered}

due-by : (mark : Option Mark) (code : Option ℕ) (message : Message)
    → due_by message.seq (bare (verdict_by mark code (kind_of message) (item_told message.body))) (needed_of message)
    ≡ due_of message.number message.seq (verdict_by mark code (kind_of message) (item_told message.body)) message.body
due-by (Some mark) code message =
    let P : Verdict → Type 0 = λ verdict. due_by message.seq (bare verdict) (needed_of message) ≡ due_of message.number message.seq verdict message.body in
    cond_both (is_container (kind_of message) && is_uncontained mark) (Noticed 19) (Again mark) P (λ is. refl) (λ is. refl)
due-by None (Some code) message = refl
due-by None None message = refl

due-judged : (way : Way) (session : Session) (message : Message)
    → due_by message.seq (bare (judge way session message)) (needed_of message) ≡ due_of message.number message.seq (judge way session message) message.body
due-judged way session message =
    due-by (found message.number session.history session.marks) (refusal way session.history message) message

inner-due : (session : Session) (messages : List Message) → AreDue (inner_judgements session messages) (map (λ one. one.body) messages) (map due_needed messages)
inner-due session [] = tt
inner-due session (message ∷ messages) = (due-judged InContainer session message, inner-due (judged_session InContainer session message) messages)

unfolded-due : (verdict : Verdict) (session : Session) (message : Message)
    → AreDue (inner_judgements session (unfolded verdict message)) (map (λ one. one.body) (unfolded verdict message)) (map due_needed (inner_messages message))
unfolded-due (Accepted item) session message = inner-due session (inner_messages message)
unfolded-due (Again mark) session message = tt
unfolded-due (Noticed code) session message = tt

-- where the first one's number isn't kept
new-due : (way : Way) (session : Session) (message : Message)
    → AreDue (judgements way session message) (map (λ one. one.body) (message ∷ unfolded (judge way session message) message)) (map due_needed (message ∷ inner_messages message))
new-due way session message = (due-judged way session message, unfolded-due (judge way session message) (judged_session way session message) message)

-- each has the number of its message

inner-numbered : (session : Session) (messages : List Message) → are_numbered (map bare_judgement (inner_judgements session messages)) (map due_needed messages) ≡ true
inner-numbered session [] = refl
inner-numbered session (message ∷ messages) =
    and_from (message.number == message.number) _ (eq-eqb message.number message.number refl) (inner-numbered (judged_session InContainer session message) messages)

none-numbered : (dues : List Due) → are_numbered [] dues ≡ true
none-numbered [] = refl
none-numbered (due ∷ dues) = refl

unfolded-numbered : (verdict : Verdict) (session : Session) (message : Message)
    → are_numbered (map bare_judgement (inner_judgements session (unfolded verdict message))) (map due_needed (inner_messages message)) ≡ true
unfolded-numbered (Accepted item) session message = inner-numbered session (inner_messages message)
unfolded-numbered (Again mark) session message = none-numbered (map due_needed (inner_messages message))
unfolded-numbered (Noticed code) session message = none-numbered (map due_needed (inner_messages message))

new-numbers : (way : Way) (session : Session) (message : Message)
    → are_numbered (map bare_judgement (judgements way session message)) (map due_needed (message ∷ inner_messages message)) ≡ true
new-numbers way session message =
    and_from (message.number == message.number) _ (eq-eqb message.number message.number refl)
    (unfolded-numbered (judge way session message) (judged_session way session message) message)

-- ---- where its number is kept it is judged alone

abbrev judged-with : Session → Message → Verdict → List Judgement
judged-with after message verdict = record { number = message.number; seq = message.seq; verdict = verdict } ∷ inner_judgements after (unfolded verdict message)

abbrev bodies-with : Message → Verdict → List (List ℕ)
bodies-with message verdict = map (λ one. one.body) (message ∷ unfolded verdict message)

abbrev alone : Message → List Due
alone message = record { number = message.number; action = Nothing } ∷ []

again-due : (after : Session) (message : Message) (mark : Mark)
    → AreDue (judged-with after message (verdict_again (kind_of message) mark)) (bodies-with message (verdict_again (kind_of message) mark)) (alone message)
again-due after message mark =
    let P : Verdict → Type 0 = λ verdict. AreDue (judged-with after message verdict) (bodies-with message verdict) (alone message) in
    cond_both (is_container (kind_of message) && is_uncontained mark) (Noticed 19) (Again mark) P (λ is. (refl, tt)) (λ is. (refl, tt))

again-numbers : (after : Session) (message : Message) (mark : Mark)
    → are_numbered (map bare_judgement (judged-with after message (verdict_again (kind_of message) mark))) (alone message) ≡ true
again-numbers after message mark =
    let P : Verdict → Type 0 = λ verdict. are_numbered (map bare_judgement (judged-with after message verdict)) (alone message) ≡ true in
    let is = and_from (message.number == message.number) true (eq-eqb message.number message.number refl) refl in
    cond_both (is_container (kind_of message) && is_uncontained mark) (Noticed 19) (Again mark) P (λ so. is) (λ so. is)

kept-verdict : (way : Way) (session : Session) (message : Message) (mark : Mark) → found message.number session.history session.marks ≡ Some mark
    → judge way session message ≡ verdict_again (kind_of message) mark
kept-verdict way session message mark is =
    ap (λ (mark : Option Mark). verdict_by mark (refusal way session.history message) (kind_of message) (item_told message.body)) is

-- ---- what the messages need where they are accepted is what they need by their judgements

due-by_mark : (way : Way) (session : Session) (message : Message) (mark : Option Mark) → found message.number session.history session.marks ≡ mark
    → AreDue (judgements way session message) (bodies-with message (judge way session message)) (dues_in mark message)
due-by_mark way session message None is = new-due way session message
due-by_mark way session message (Some mark) is =
    let after = judged_session way session message in
    let P : Verdict → Type 0 = λ verdict. AreDue (judged-with after message verdict) (bodies-with message verdict) (alone message) in
    subst P (sym (kept-verdict way session message mark is)) (again-due after message mark)

pub are-due : (way : Way) (session : Session) (message : Message)
    → AreDue (judgements way session message) (map (λ one. one.body) (message ∷ unfolded (judge way session message) message))
    (dues_in (found message.number session.history session.marks) message)
are-due way session message = due-by_mark way session message (found message.number session.history session.marks) refl

-- and each has the number of its message

numbers-by_mark : (way : Way) (session : Session) (message : Message) (mark : Option Mark) → found message.number session.history session.marks ≡ mark
    → are_numbered (map bare_judgement (judgements way session message)) (dues_in mark message) ≡ true
numbers-by_mark way session message None is = new-numbers way session message
numbers-by_mark way session message (Some mark) is =
    let after = judged_session way session message in
    let P : Verdict → Type 0 = λ verdict. are_numbered (map bare_judgement (judged-with after message verdict)) (alone message) ≡ true in
    subst P (sym (kept-verdict way session message mark is)) (again-numbers after message mark)

same-numbers : (way : Way) (session : Session) (message : Message)
    → are_numbered (map bare_judgement (judgements way session message)) (dues_in (found message.number session.history session.marks) message) ≡ true
same-numbers way session message = numbers-by_mark way session message (found message.number session.history session.marks) refl

-- ---- and there is what is needed for each

-- each judgement has something that its message needs
due-few : (judged : List Judgement) (bodies : List (List ℕ)) (dues : List Due) → AreDue judged bodies dues → length judged ≤ length dues
due-few [] bodies dues are = omega arith
due-few (judgement ∷ judged) [] dues are = absurd are
due-few (judgement ∷ judged) (body ∷ bodies) [] are = absurd are
due-few (judgement ∷ judged) (body ∷ bodies) (due ∷ dues) are = let rest = due-few judged bodies dues are.1 in omega arith

-- each of them has something that its message needs
pub told-few : (judged : List BareJudgement) (bodies : List (List ℕ)) (dues : List Due) (told : List Judgement) → judged ≡ map bare_judgement told → AreDue told bodies dues
    → (length judged ≡ length told) × (length judged ≤ length dues)
told-few judged bodies dues told are due =
    let counted : length judged ≡ length told = ap (λ (judged : List BareJudgement). length judged) are ∙ length-map told bare_judgement in
    let few = due-few told bodies dues due in
    (counted, omega (arith, counted, few))

pub are-fitting : (way : Way) (session : Session) (message : Message) (judged : List BareJudgement) (dues : List Due)
    → judged ≡ map bare_judgement (judgements way session message) → dues ≡ dues_in (found message.number session.history session.marks) message
    → AreFitting judged dues
are-fitting way session message judged dues judged_is dues_are =
    let told = judgements way session message in
    let bodies = map (λ one. one.body) (message ∷ unfolded (judge way session message) message) in
    let E : List Due → Type 0 = λ dues. AreDue told bodies dues in
    let J : List BareJudgement → Type 0 = λ judged. are_numbered judged dues ≡ true in
    let N : List Due → Type 0 = λ dues. are_numbered (map bare_judgement told) dues ≡ true in
    let few = told-few judged bodies dues told judged_is (subst E (sym dues_are) (are-due way session message)) in
    record { few = few.1; numbered = subst J (sym judged_is) (subst N (sym dues_are) (same-numbers way session message)) }
