-- What stands behind a notice: the number is recorded with its code, or it isn't above the floor.
use Rattle.std.proofs.Common.{◌≡◌, ℕ, ◌≤◌, ◌<◌, ◌+◌, ◌==◌, ◌&&◌, ◌%◌, Bool, true, false, Option, None, Some, List, [], ◌∷◌, ◌++◌, Result, Ok, Err, if◌then◌else◌, inl, inr, refl, sym, ap, subst, ◌∙◌, arith, ne_eqb, append_assoc}
use Rattle.std.specs.Prelude.{nat_le, nat_lt, ⊤, ◌⊎◌}
use Rattle.std.specs.List.{Contains}
use Rattle.std.specs.Option.{option_or}
use Rattle.std.proofs.lemmas.Bool.{cases_Bool, cases_eq, cond_both}
use Rattle.std.proofs.lemmas.List.Elements.{Contains-append_left, Contains-append_right}
use Rattle.std.proofs.lemmas.Bool.Decides.{nat_tests}
use Rattle.id_window.specs.declared.mark.Mark.{Mark}
use Rattle.msg_ids.specs.Counters.{is_odd}
use Rattle.id_window.specs.declared.cross.Cross.{Cross}
use Rattle.id_window.specs.declared.cross.Cross.TheVariants.{None as Apart, Low, High}
use Rattle.id_window.specs.History.{FirstJudgement, History, Outcome, Refused, crosses, floor, found}
use Rattle.service_tl.specs.declared.item.Item.{Item}
use Rattle.service_tl.specs.declared.lists.Message.{Message}
use Rattle.inbox.specs.Verdicts.{Verdict, Accepted, Again, Noticed, Judgement}
use Rattle.containers.specs.Container.{begins_container}
use Rattle.containers.specs.declared.fault.ContainerFault.{ContainerFault}
use Rattle.inbox.specs.Kinds.{begins_acknowledgement, begins_call, container_in, item_told, kind_among, kind_of}
use Rattle.service_tl.specs.Results.{constructor_of}
use Rattle.inbox.specs.Refusals.{Way, InContainer, InEnvelope, by_body, by_envelope, by_neighbours, by_parity, is_valid_salt, needs_even, needs_odd, refusal, second_of}
use Rattle.inbox.specs.Judging.{Session as Remembered, inner_judgements, inner_session, is_container, is_recorded, is_uncontained, judge, judged_session, recorded, judgements, remembered as remembers, session_after, unfolded, verdict_by}
use Rattle.law_server_moves.proofs.Lists.{here}
use Rattle.law_server_moves.proofs.Losing.{append_nothing}

-- ---- 20 is told of low numbers alone, and 19 of containers

abbrev or_zero : Option ℕ → ℕ
or_zero None = 0
or_zero (Some n) = n

-- a code that is none of those by envelope, seq and body
module _ (n : ℕ) (low : 18 < n) (high : n < 32) where
  abbrev pub IsNot : Option ℕ → Type 0
  IsNot code = code ≡ Some n → ⊥

  none_not : IsNot None
  none_not is = cc

  some_not : (m : ℕ) → (m ≡ n → ⊥) → IsNot (Some m)
  some_not m differs is = differs (ap or_zero is)

  below : (m : ℕ) → m ≤ 18 → IsNot (Some m)
  below m small = some_not m (λ is. omega (arith, is, low, small))

  beyond : (m : ℕ) → 32 ≤ m → IsNot (Some m)
  beyond m great = some_not m (λ is. omega (arith, is, high, great))

  pub or_not : (one other : Option ℕ) → IsNot one → IsNot other → IsNot (option_or one other)
  or_not None other first second = second
  or_not (Some m) other first second = first

  not_by_envelope : (way : Way) (number : ℕ) → IsNot (by_envelope way number)
  not_by_envelope InContainer number = none_not
  not_by_envelope (InEnvelope now line salt) number =
      cond_both (nat_lt (second_of number + 300) now) (Some 16) _ IsNot (λ is. below 16 (omega arith))
      (λ is. cond_both (nat_lt (now + 30) (second_of number)) (Some 17) _ IsNot (λ is. below 17 (omega arith))
      (λ is. cond_both (is_valid_salt line now salt) None (Some 48) IsNot (λ is. none_not) (λ is. beyond 48 (omega arith))))

  not_by_parity : (message : Message) → IsNot (by_parity (kind_of message) message.seq)
  not_by_parity message =
      cond_both (is_odd message.seq) _ _ IsNot (λ is. cond_both (needs_even (kind_of message)) (Some 34) None IsNot (λ is. beyond 34 (omega arith)) (λ is. none_not))
      (λ is. cond_both (needs_odd (kind_of message)) (Some 35) None IsNot (λ is. beyond 35 (omega arith)) (λ is. none_not))

  not_by_neighbours : (cross : Cross) → IsNot (by_neighbours cross)
  not_by_neighbours Low = beyond 32 (omega arith)
  not_by_neighbours High = beyond 33 (omega arith)
  not_by_neighbours Apart = none_not

  not_by_body : (parts : Option (Result (List Message) ContainerFault)) (body : List ℕ) → IsNot (by_body (kind_among parts body))
  not_by_body (Some (Ok messages)) body = none_not
  not_by_body (Some (Err fault)) body = beyond 64 (omega arith)
  not_by_body None body =
      elim (cases_Bool (begins_acknowledgement (constructor_of body))) [
        | inl is ↦ rw is none_not
        | inr fails ↦ elim (cases_Bool (begins_call (constructor_of body))) [ inl is ↦ rw (fails, is) none_not | inr not_call ↦ rw (fails, not_call) none_not ]
      ]

  pub rest_not : (way : Way) (history : History) (message : Message)
      → IsNot (option_or (by_envelope way message.number) (option_or (by_parity (kind_of message) message.seq)
      (option_or (by_neighbours (crosses message.number message.seq history)) (by_body (kind_of message)))))
  rest_not way history message =
      or_not (by_envelope way message.number) _ (not_by_envelope way message.number)
      (or_not (by_parity (kind_of message) message.seq) _ (not_by_parity message)
      (or_not (by_neighbours (crosses message.number message.seq history)) (by_body (kind_of message)) (not_by_neighbours (crosses message.number message.seq history)) (not_by_body (container_in message.number message.body) message.body)))

abbrev Not : ℕ → Option ℕ → Type 0
Not n code = code ≡ Some n → ⊥

number_not : (n number : ℕ) → (18 ≡ n → ⊥) → Not n (if number % 4 == 0 then None else Some 18)
number_not n number differs = cond_both (number % 4 == 0) None (Some 18) (Not n) (λ is same. cc) (λ is same. differs (ap or_zero same))

first_not : (n : ℕ) (one other : Option ℕ) → Not n one → Not n other → Not n (option_or one other)
first_not n None other first second = second
first_not n (Some m) other first second = first

low_by : (low number : ℕ) (b : Bool) (rest : Option ℕ) → Not 20 rest → option_or (if b then Some 20 else if number % 4 == 0 then None else Some 18) rest ≡ Some 20 → b ≡ true
low_by low number true rest none is = refl
low_by low number false rest none is =
    absurd (first_not 20 (if number % 4 == 0 then None else Some 18) rest (number_not 20 number (λ same. omega (arith, same))) none is)

low_of_20 : (way : Way) (history : History) (message : Message) → refusal way history message ≡ Some 20 → message.number ≤ floor history
low_of_20 way history message is =
    let holds : nat_le message.number (floor history) ≡ true =
    low_by (floor history) message.number (nat_le message.number (floor history)) _ (rest_not 20 (omega arith) (omega arith) way history message) is in
    grind (arith, nat_tests, holds)

never_19 : (number : ℕ) (b : Bool) (rest : Option ℕ) → Not 19 rest → Not 19 (option_or (if b then Some 20 else if number % 4 == 0 then None else Some 18) rest)
never_19 number true rest none is = let e : 20 ≡ 19 = ap or_zero is in omega (arith, e)
never_19 number false rest none is =
    first_not 19 (if number % 4 == 0 then None else Some 18) rest (number_not 19 number (λ same. omega (arith, same))) none is

-- a container's kind, by how its body begins
no_container : (body : List ℕ) → is_container (kind_among None body) ≡ false
no_container body =
    elim (cases_Bool (begins_acknowledgement (constructor_of body))) [
      | inl is ↦ rw is refl
      | inr fails ↦ elim (cases_Bool (begins_call (constructor_of body))) [ inl is ↦ rw (fails, is) refl | inr not_call ↦ rw (fails, not_call) refl ]
    ]

contained : (message : Message) → is_container (kind_of message) ≡ true → begins_container message.body ≡ true
contained message is =
    elim (cases_Bool (begins_container message.body)) [
      | inl begins ↦ begins
      | inr fails ↦
          let none : container_in message.number message.body ≡ None = rw fails refl in
          let e : true ≡ false = sym is ∙ ap (λ (parts : Option (Result (List Message) ContainerFault)). is_container (kind_among parts message.body)) none ∙ no_container message.body in absurd (cc)
    ]

first_holds : (a b : Bool) → (a && b) ≡ true → a ≡ true
first_holds true b is = refl
first_holds false b is = absurd (cc)

-- ---- a notice

-- the number was recorded with this code, or 20 is told of one that isn't above the floor, or 19 of a container
abbrev pub NoticedIn : History → ℕ → Verdict → List ℕ → Type 0
NoticedIn history number (Noticed code) body =
    ((judgement : FirstJudgement) × Contains history judgement × (judgement.number ≡ number) × (judgement.outcome ≡ Refused code))
    ⊎ (((code ≡ 20) × (number ≤ floor history)) ⊎ ((code ≡ 19) × (begins_container body ≡ true)))
NoticedIn history number _ body = ⊤

abbrev code_in : Verdict → ℕ
code_in (Noticed code) = code
code_in (Again mark) = 0
code_in (Accepted item) = 0

code_same : (code other : ℕ) → Noticed code ≡ Noticed other → code ≡ other
code_same code other is = ap code_in is

refused_20 : (mark : Option Mark) (code : Option ℕ) (message : Message) (item : Item) → verdict_by mark code (kind_of message) item ≡ Noticed 20 → code ≡ Some 20
refused_20 (Some mark) code message item is =
    absurd (cond_both (is_container (kind_of message) && is_uncontained mark) (Noticed 19) (Again mark) (λ v. v ≡ Noticed 20 → ⊥)
    (λ so same. let e = code_same 19 20 same in omega (arith, e)) (λ so same. cc) is)
refused_20 None (Some code) message item is = ap (λ (n : ℕ). Some n) (code_same code 20 is)
refused_20 None None message item is = absurd (cc)

held_19 : (mark : Option Mark) (code : Option ℕ) (message : Message) (item : Item) → Not 19 code → verdict_by mark code (kind_of message) item ≡ Noticed 19
    → is_container (kind_of message) ≡ true
held_19 (Some mark) code message item none is =
    cond_both (is_container (kind_of message) && is_uncontained mark) (Noticed 19) (Again mark) (λ v. v ≡ Noticed 19 → is_container (kind_of message) ≡ true)
    (λ so same. first_holds (is_container (kind_of message)) (is_uncontained mark) so) (λ so same. absurd (cc)) is
held_19 None (Some code) message item none is = absurd (none (ap (λ (n : ℕ). Some n) (code_same code 19 is)))
held_19 None None message item none is = absurd (cc)

contained_19 : (way : Way) (r : Remembered) (message : Message) → judge way r message ≡ Noticed 19 → begins_container message.body ≡ true
contained_19 way r message is =
    contained message
    (held_19 (found message.number r.history r.marks) (refusal way r.history message) message (item_told message.body)
    (never_19 message.number (nat_le message.number (floor r.history)) _ (rest_not 19 (omega arith) (omega arith) way r.history message)) is)

unrecorded : (code : ℕ) → (code ≡ 19 → ⊥) → (code ≡ 20 → ⊥) → is_recorded code ≡ true
unrecorded code one other = rw (ne_eqb code 19 one, ne_eqb code 20 other) refl

noticed_at : (way : Way) (r : Remembered) (message : Message) (verdict : Verdict) → judge way r message ≡ verdict
    → NoticedIn (remembers message.number message.seq (recorded (kind_of message) verdict) r).history message.number verdict message.body
noticed_at way r message (Noticed code) is =
    elim (cases_eq code 19) [
      | inl same ↦ inr (inr (same, contained_19 way r message (is ∙ ap (λ (n : ℕ). Noticed n) same)))
      | inr not19 ↦
          elim (cases_eq code 20) [
            | inl same ↦
                let refused = refused_20 (found message.number r.history r.marks) (refusal way r.history message) message (item_told message.body) (is ∙ ap (λ (n : ℕ). Noticed n) same) in
                let low : message.number ≤ floor r.history = low_of_20 way r.history message refused in
                subst (λ (c : ℕ). NoticedIn (remembers message.number message.seq (recorded (kind_of message) (Noticed c)) r).history message.number (Noticed c) message.body) (sym same) (inr (inl (refl, low)))
            | inr not20 ↦
                let one : FirstJudgement = record { number = message.number; seq = message.seq; outcome = Refused code } in
                rw (unrecorded code not19 not20) (inl (one, Contains-append_right r.history (one ∷ []) one (here one []), refl, refl))
          ]
    ]
noticed_at way r message (Again mark) is = tt
noticed_at way r message (Accepted item) is = tt

-- ---- the whole packet

noticed_on : (history later : History) → ((history later : History) → floor history ≤ floor (history ++ later)) → (number : ℕ) (verdict : Verdict) (body : List ℕ) → NoticedIn history number verdict body
    → NoticedIn (history ++ later) number verdict body
noticed_on history later rises number (Noticed code) body (inl h) = inl (h.0, Contains-append_left history later h.0 h.1, h.2, h.3)
noticed_on history later rises number (Noticed code) body (inr (inl h)) = let rise = rises history later in inr (inl (h.0, (let low = h.1 in omega (arith, low, rise))))
noticed_on history later rises number (Noticed code) body (inr (inr h)) = inr (inr h)
noticed_on history later rises number (Again mark) body h = tt
noticed_on history later rises number (Accepted item) body h = tt

-- a judgement adds to the history
added_by : (number seq : ℕ) (outcome : Option Outcome) (r : Remembered) → (later : History) × ((remembers number seq outcome r).history ≡ r.history ++ later)
added_by number seq None r = ([], sym (append_nothing r.history))
added_by number seq (Some outcome) r = (record { number = number; seq = seq; outcome = outcome } ∷ [], refl)

added_inside : (r : Remembered) (messages : List Message) → (later : History) × ((inner_session r messages).history ≡ r.history ++ later)
added_inside r [] = ([], sym (append_nothing r.history))
added_inside r (message ∷ messages) =
    let next = judged_session InContainer r message in
    let one = added_by message.number message.seq (recorded (kind_of message) (judge InContainer r message)) r in
    let rest = added_inside next messages in
    (one.0 ++ rest.0, rest.1 ∙ ap (λ (h : History). h ++ rest.0) one.1 ∙ append_assoc r.history one.0 rest.0)

-- each judgement is on the message in its place, and stands by the history
abbrev pub AreNoticed : History → List Judgement → List Message → Type 0
AreNoticed history [] [] = ⊤
AreNoticed history [] (message ∷ messages) = ⊥
AreNoticed history (judgement ∷ judged) [] = ⊥
AreNoticed history (judgement ∷ judged) (message ∷ messages) =
    (judgement.number ≡ message.number) × NoticedIn history judgement.number judgement.verdict message.body × AreNoticed history judged messages

module _ (rises : (history later : History) → floor history ≤ floor (history ++ later)) where
  inside_noticed : (r : Remembered) (messages : List Message) → AreNoticed (inner_session r messages).history (inner_judgements r messages) messages
  inside_noticed r [] = tt
  inside_noticed r (message ∷ messages) =
      let next = judged_session InContainer r message in
      let verdict = judge InContainer r message in
      let more = added_inside next messages in (
        refl,
        subst (λ (h : History). NoticedIn h message.number verdict message.body) (sym more.1) (noticed_on next.history more.0 rises message.number verdict message.body (noticed_at InContainer r message verdict refl)),
        inside_noticed next messages,
      )

  pub packet_noticed : (way : Way) (r : Remembered) (message : Message)
      → AreNoticed (session_after way r message).history (judgements way r message) (message ∷ unfolded (judge way r message) message)
  packet_noticed way r message =
      let next = judged_session way r message in
      let verdict = judge way r message in
      let inner = unfolded verdict message in
      let more = added_inside next inner in (
        refl,
        subst (λ (h : History). NoticedIn h message.number verdict message.body) (sym more.1) (noticed_on next.history more.0 rises message.number verdict message.body (noticed_at way r message verdict refl)),
        inside_noticed next inner,
      )
