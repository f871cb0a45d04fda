-- What is judged of messages that are what is told of their numbers.
use Rattle.std.proofs.Common.{◌≡◌, ◌∙◌, ◌+◌, ◌==◌, ℕ, Bool, true, false, cond, Option, Some, None, List, [], ◌∷◌, map, ap, sym, subst, refl, inl, inr}
use Rattle.std.specs.Prelude.{◌&&◌, ⊤, fold, nat_lt, nat_le, Result, Ok, Err}
use Rattle.std.specs.List.{AllByRecursion, zip}
use Rattle.std.specs.Option.{option_or}
use Rattle.std.proofs.lemmas.Bool.{cases_Bool, cond_both, and_parts, eqb-true}
use Rattle.service_tl.specs.declared.lists.Message.{Message}
use Rattle.containers.specs.declared.fault.ContainerFault.{ContainerFault}
use Rattle.containers.specs.Container.{begins_container}
use Rattle.containers.specs.Parts.{parts_of}
use Rattle.id_window.specs.declared.mark.Mark.{Mark}
use Rattle.id_window.specs.declared.mark.Mark.TheVariants.{Noticed as MarkNoticed, Service, Container as MarkContainer, Waiting, Replied, Acked, Dropped}
use Rattle.id_window.specs.declared.cross.Cross.{Cross}
use Rattle.id_window.specs.declared.cross.Cross.TheVariants.{None as Apart, Low, High}
use Rattle.msg_ids.specs.Counters.{is_odd}
use Rattle.id_window.specs.Marks.{Marks, mark_of}
use Rattle.id_window.specs.History.{AcceptedCall, AcceptedContainer, AcceptedOther, FirstJudgement, History, Outcome, Refused, crosses, floor, found, is_kept}
use Rattle.inbox.specs.Verdicts.{Judgement, Verdict, Accepted, Again, Noticed}
use Rattle.inbox.specs.Kinds.{begins_acknowledgement, begins_call, item_told, kind_among, kind_beginning, kind_of}
use Rattle.service_tl.specs.Results.{constructor_of}
use Rattle.inbox.specs.Refusals.{Way, InContainer, InEnvelope, by_body, by_envelope, by_neighbours, by_number, by_parity, is_valid_salt, needs_even, needs_odd, refusal, second_of}
use Rattle.inbox.specs.Judging.{Session as Remembered, first_mark, inner_judgements, inner_session, is_container, is_recorded, is_uncontained, judge, judged_session, judgements, outcome_of, recorded, remembered as after_judging, session_after, unfolded, verdict_by}
use Rattle.server_rules.specs.Server.{Fate, IsKept, Name, Reply, WasAcked, WasDropped, answered_mark, mark_after, mark_by, marks_of, reply_to}
use Rattle.service_tl.specs.Results.{is_good}
use Rattle.law_order.specs.Apart.{IsJudgementOf, IsOfKind, IsOtherCode, IsOutcomeOf, Kinds}
use Rattle.law_order.proofs.Lists.{all-append, all-map, none-some, some-same, true-false}

-- ---- codes

abbrev IsCode : Option ℕ → Type 0
IsCode None = ⊤
IsCode (Some code) = IsOtherCode code

code-or : (one other : Option ℕ) → IsCode one → IsCode other → IsCode (option_or one other)
code-or None other first rest = rest
code-or (Some code) other first rest = first

pub other-code : (code : ℕ) → (code == 19) ≡ false → nat_lt code 4294967296 ≡ true → IsOtherCode code
other-code code differs small = ((λ is. true-false (sym (ap (λ (n : ℕ). n == 19) is) ∙ differs)), Rattle.std.proofs.lemmas.Bool.ltb-true code 4294967296 small)

number-code : (floor number : ℕ) → IsCode (by_number floor number)
number-code floor number =
    cond_both (nat_le number floor) (Some 20) _ IsCode (λ is. other-code 20 refl refl)
    (λ is. cond_both _ None (Some 18) IsCode (λ is. tt) (λ is. other-code 18 refl refl))

envelope-code : (way : Way) (number : ℕ) → IsCode (by_envelope way number)
envelope-code InContainer number = tt
envelope-code (InEnvelope now line salt) number =
    let salted : Option ℕ = cond (is_valid_salt line now salt) None (Some 48) in
    let early : Option ℕ = cond (nat_lt (now + 30) (second_of number)) (Some 17) salted in
    cond_both (nat_lt (second_of number + 300) now) (Some 16) early IsCode (λ is. other-code 16 refl refl)
    (λ is.
    cond_both (nat_lt (now + 30) (second_of number)) (Some 17) salted IsCode (λ is. other-code 17 refl refl)
    (λ is. cond_both (is_valid_salt line now salt) None (Some 48) IsCode (λ is. tt) (λ is. other-code 48 refl refl)))

parity-code : (message : Message) → IsCode (by_parity (kind_of message) message.seq)
parity-code message =
    cond_both (is_odd message.seq) _ _ IsCode
    (λ is. cond_both (needs_even (kind_of message)) (Some 34) None IsCode (λ is. other-code 34 refl refl) (λ is. tt))
    (λ is. cond_both (needs_odd (kind_of message)) (Some 35) None IsCode (λ is. other-code 35 refl refl) (λ is. tt))

neighbours-code : (cross : Cross) → IsCode (by_neighbours cross)
neighbours-code Low = other-code 32 refl refl
neighbours-code High = other-code 33 refl refl
neighbours-code Apart = tt

among-code : (found : Result (List Message) ContainerFault) (body : List ℕ) → IsCode (by_body (kind_among (Some found) body))
among-code (Ok parts) body = tt
among-code (Err fault) body = other-code 64 refl refl

beginning-code : (number : Option ℕ) → IsCode (by_body (kind_beginning number))
beginning-code number =
    cond_both (begins_acknowledgement number) _ _ (λ kind. IsCode (by_body kind)) (λ is. tt)
    (λ is. cond_both (begins_call number) _ _ (λ kind. IsCode (by_body kind)) (λ is. tt) (λ is. tt))

body-code : (message : Message) → IsCode (by_body (kind_of message))
body-code message =
    elim (cases_Bool (begins_container message.body)) [
      | inl is ↦ rw is (among-code (parts_of message.number message.body) message.body)
      | inr fails ↦ rw fails (beginning-code (constructor_of message.body))
    ]

refusal-code : (way : Way) (history : History) (message : Message) → IsCode (refusal way history message)
refusal-code way history message =
    code-or (by_number (floor history) message.number) _ (number-code (floor history) message.number)
    (code-or (by_envelope way message.number) _ (envelope-code way message.number)
    (code-or (by_parity (kind_of message) message.seq) _ (parity-code message)
    (code-or (by_neighbours (crosses message.number message.seq history)) _ (neighbours-code (crosses message.number message.seq history)) (body-code message))))

-- ---- kinds

among-contains : (found : Result (List Message) ContainerFault) (body : List ℕ) → is_container (kind_among (Some found) body) ≡ true
among-contains (Ok parts) body = refl
among-contains (Err fault) body = refl

beginning-none : (number : Option ℕ) → is_container (kind_beginning number) ≡ false
beginning-none number =
    cond_both (begins_acknowledgement number) _ _ (λ kind. is_container kind ≡ false) (λ is. refl)
    (λ is. cond_both (begins_call number) _ _ (λ kind. is_container kind ≡ false) (λ is. refl) (λ is. refl))

kind-begins : (message : Message) → is_container (kind_of message) ≡ begins_container message.body
kind-begins message =
    elim (cases_Bool (begins_container message.body)) [
      | inl is ↦ rw is (among-contains (parts_of message.number message.body) message.body)
      | inr fails ↦ rw fails (beginning-none (constructor_of message.body))
    ]

-- ---- marks

module _ (kinds : Kinds) (name : Name) where
  abbrev pub IsMarkOf : ℕ → Mark → Type 0
  IsMarkOf number (MarkNoticed code) = IsOtherCode code
  IsMarkOf number MarkContainer = ⊤
  IsMarkOf number Service = kinds name number ≡ false
  IsMarkOf number Waiting = kinds name number ≡ false
  IsMarkOf number (Replied good) = kinds name number ≡ false
  IsMarkOf number (Acked good) = kinds name number ≡ false
  IsMarkOf number (Dropped good) = kinds name number ≡ false

  answered-so : (number : ℕ) (good : Bool) (fate : Fate) → kinds name number ≡ false → IsMarkOf number (answered_mark good fate)
  answered-so number good IsKept is = is
  answered-so number good WasAcked is = is
  answered-so number good WasDropped is = is

  by-so : (number : ℕ) (mark : Mark) (reply : Option Reply) → IsMarkOf number mark → kinds name number ≡ false → IsMarkOf number (mark_by mark reply)
  by-so number mark None so is = so
  by-so number mark (Some reply) so is = answered-so number (is_good reply.content) reply.fate is

  after-so : (replies : List Reply) (number : ℕ) (outcome : Outcome) → IsOutcomeOf kinds name number outcome → IsMarkOf number (mark_after replies number outcome)
  after-so replies number (Refused code) so = so
  after-so replies number AcceptedContainer so = tt
  after-so replies number AcceptedCall so = by-so number Waiting (reply_to number replies) so so
  after-so replies number AcceptedOther so = by-so number Service (reply_to number replies) so so

  abbrev pub IsGiven : ℕ × Mark → Type 0
  IsGiven (number, mark) = IsMarkOf number mark

  pub marks-so : (history : History) (replies : List Reply) → AllByRecursion (IsJudgementOf kinds name) history → AllByRecursion IsGiven (marks_of history replies)
  marks-so history replies all =
      all-map (IsJudgementOf kinds name) IsGiven (λ (judgement : FirstJudgement). (judgement.number, mark_after replies judgement.number judgement.outcome)) history
      (λ judgement so. after-so replies judgement.number judgement.outcome so) all

  abbrev pub IsFound : ℕ → Option Mark → Type 0
  IsFound number None = ⊤
  IsFound number (Some mark) = IsMarkOf number mark

  last-so : (number : ℕ) (marks : Marks) (last : Option Mark) → IsFound number last → AllByRecursion IsGiven marks
      → IsFound number (fold (λ (last : Option Mark) (given : ℕ × Mark). cond (given.0 == number) (Some given.1) last) last marks)
  last-so number [] last so all = so
  last-so number ((other, mark) ∷ marks) last so all =
      last-so number marks (cond (other == number) (Some mark) last)
      (cond_both (other == number) (Some mark) last (IsFound number)
      (λ is. subst (λ (n : ℕ). IsMarkOf n mark) (eqb-true other number is) all.0) (λ is. so))
      all.1

  pub found-so : (number : ℕ) (history : History) (marks : Marks) → AllByRecursion IsGiven marks → IsFound number (found number history marks)
  found-so number history marks all = cond_both (is_kept number history) (mark_of number marks) None (IsFound number) (λ is. last-so number marks None tt all) (λ is. tt)

  -- what a session remembers
  pub record Remembers (session : Remembered) : Type 0 where
    pub history : AllByRecursion (IsJudgementOf kinds name) session.history
    pub marks : AllByRecursion IsGiven session.marks

  -- ---- one message

  abbrev pub IsVerdictSo : Verdict → Type 0
  IsVerdictSo (Noticed code) = IsOtherCode code
  IsVerdictSo (Again mark) = ⊤
  IsVerdictSo (Accepted item) = ⊤

  uncontained-so : (number : ℕ) (mark : Mark) → is_uncontained mark ≡ true → IsMarkOf number mark → kinds name number ≡ false
  uncontained-so number (MarkNoticed code) is so = absurd (true-false (sym is))
  uncontained-so number MarkContainer is so = absurd (true-false (sym is))
  uncontained-so number Service is so = so
  uncontained-so number Waiting is so = so
  uncontained-so number (Replied good) is so = so
  uncontained-so number (Acked good) is so = so
  uncontained-so number (Dropped good) is so = so

  pub verdict-so : (way : Way) (session : Remembered) (message : Message) → IsOfKind kinds name message → Remembers session → IsVerdictSo (judge way session message)
  verdict-so way session message kind r =
      go (found message.number session.history session.marks) (refusal way session.history message) (found-so message.number session.history session.marks r.marks)
      (refusal-code way session.history message) where
        go : (mark : Option Mark) (code : Option ℕ) → IsFound message.number mark → IsCode code → IsVerdictSo (verdict_by mark code (kind_of message) (item_told message.body))
        go (Some mark) code marked coded =
            cond_both (is_container (kind_of message) && is_uncontained mark) (Noticed 19) (Again mark) IsVerdictSo
            (λ is.
            let parts = and_parts _ _ is in
            absurd (true-false (sym parts.0 ∙ kind-begins message ∙ kind ∙ uncontained-so message.number mark parts.1 marked)))
            (λ is. tt)
        go None (Some code) marked coded = coded
        go None None marked coded = tt

  -- what an accepted message is recorded as
  abbrev IsRecord : ℕ → Outcome → Type 0
  IsRecord number outcome = IsOutcomeOf kinds name number outcome × IsMarkOf number (first_mark outcome)

  among-record : (number : ℕ) (found : Result (List Message) ContainerFault) (body : List ℕ) → IsRecord number (outcome_of (kind_among (Some found) body))
  among-record number (Ok parts) body = (tt, tt)
  among-record number (Err fault) body = (tt, tt)

  beginning-record : (number : ℕ) (constructor : Option ℕ) → kinds name number ≡ false → IsRecord number (outcome_of (kind_beginning constructor))
  beginning-record number constructor is =
      cond_both (begins_acknowledgement constructor) _ _ (λ kind. IsRecord number (outcome_of kind)) (λ so. (is, is))
      (λ so. cond_both (begins_call constructor) _ _ (λ kind. IsRecord number (outcome_of kind)) (λ so. (is, is)) (λ so. (is, is)))

  outcome-so : (message : Message) → IsOfKind kinds name message → IsRecord message.number (outcome_of (kind_of message))
  outcome-so message kind =
      elim (cases_Bool (begins_container message.body)) [
        | inl is ↦ rw is (among-record message.number (parts_of message.number message.body) message.body)
        | inr fails ↦ rw fails (beginning-record message.number (constructor_of message.body) (sym kind ∙ fails))
      ]

  noted-so : (number seq : ℕ) (outcome : Option Outcome) (session : Remembered)
      → ((one : Outcome) → outcome ≡ Some one → IsOutcomeOf kinds name number one × IsMarkOf number (first_mark one)) → Remembers session
      → Remembers (after_judging number seq outcome session)
  noted-so number seq None session so r = r
  noted-so number seq (Some outcome) session so r =
      let its = so outcome refl in
      record {
        history = all-append (IsJudgementOf kinds name) session.history (record { number = number; seq = seq; outcome = outcome } ∷ []) r.history (its.0, tt);
        marks = all-append IsGiven session.marks ((number, first_mark outcome) ∷ []) r.marks (its.1, tt);
      }

  recorded-so : (message : Message) (verdict : Verdict) → IsOfKind kinds name message → IsVerdictSo verdict → (one : Outcome) → recorded (kind_of message) verdict ≡ Some one
      → IsOutcomeOf kinds name message.number one × IsMarkOf message.number (first_mark one)
  recorded-so message (Again mark) kind so one is = absurd (none-some one is)
  recorded-so message (Noticed code) kind so one is =
      cond_both (is_recorded code) (Some (Refused code)) None
      (λ (found : Option Outcome). found ≡ Some one → IsOutcomeOf kinds name message.number one × IsMarkOf message.number (first_mark one))
      (λ yes same.
      subst (λ (one : Outcome). IsOutcomeOf kinds name message.number one × IsMarkOf message.number (first_mark one)) (some-same (Refused code) one same) (so, so))
      (λ no same. absurd (none-some one same)) is
  recorded-so message (Accepted item) kind so one is =
      subst (λ (one : Outcome). IsOutcomeOf kinds name message.number one × IsMarkOf message.number (first_mark one)) (some-same (outcome_of (kind_of message)) one is)
      (outcome-so message kind)

  pub judged-so : (way : Way) (session : Remembered) (message : Message) → IsOfKind kinds name message → Remembers session → Remembers (judged_session way session message)
  judged-so way session message kind r =
      noted-so message.number message.seq (recorded (kind_of message) (judge way session message)) session
      (recorded-so message (judge way session message) kind (verdict-so way session message kind r)) r

  -- ---- a message with those in it

  abbrev pub IsJudgedSo : Judgement × List ℕ → Type 0
  IsJudgedSo (judgement, body) = IsVerdictSo judgement.verdict

  pub inner-so : (session : Remembered) (messages : List Message) → AllByRecursion (IsOfKind kinds name) messages → Remembers session
      → AllByRecursion IsJudgedSo (zip (inner_judgements session messages) (map (λ (one : Message). one.body) messages)) × Remembers (inner_session session messages)
  inner-so session [] are r = (tt, r)
  inner-so session (message ∷ messages) are r =
      let rest = inner-so (judged_session InContainer session message) messages are.1 (judged-so InContainer session message are.0 r) in
      ((verdict-so InContainer session message are.0 r, rest.0), rest.1)

  pub all-so : (way : Way) (session : Remembered) (message : Message) → IsOfKind kinds name message
      → AllByRecursion (IsOfKind kinds name) (unfolded (judge way session message) message) → Remembers session
      → AllByRecursion IsJudgedSo (zip (judgements way session message) (map (λ (one : Message). one.body) (message ∷ unfolded (judge way session message) message)))
      × Remembers (session_after way session message)
  all-so way session message kind are r =
      let rest = inner-so (judged_session way session message) (unfolded (judge way session message) message) are (judged-so way session message kind r) in
      ((verdict-so way session message kind r, rest.0), rest.1)
