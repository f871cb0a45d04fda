-- Jobs of a call that waits, and replies to the one that it waits for.
use Rattle.std.proofs.Common.{◌≡◌, ◌∙◌, ◌==◌, ℕ, suc, zero, Bool, true, false, cond, Option, Some, None, List, [], ◌∷◌, filter, eq-eqb, ap, sym, subst, refl, arith, inl, inr}
use Rattle.std.specs.Prelude.{◌⊎◌, ◌&&◌, not, fold, nat_le}
use Rattle.std.specs.List.{AllByRecursion, list_any}
use Rattle.std.proofs.lemmas.Bool.{cases_Bool, cond-true, cond-false, and_parts, eqb-true}
use Rattle.id_window.specs.declared.mark.Mark.{Mark}
use Rattle.id_window.specs.declared.mark.Mark.TheVariants.{Service, Waiting}
use Rattle.id_window.specs.History.{History, Outcome, Refused, AcceptedContainer, AcceptedCall, AcceptedOther, floor, is_kept}
use Rattle.waits.specs.declared.job.Job.{Job}
use Rattle.waits.specs.declared.job.Unfinished.{Unfinished}
use Rattle.waits.specs.Jobs.{Queue, is_call, is_of, is_ready, is_empty, without_first, ready_job, without_ready, waits_for, after_answer}
use Rattle.server_rules.specs.Server.{Name, Reply, Session, Fate, IsKept, WasAcked, WasDropped, answered_mark, mark_after, mark_by, mark_in, marks_of, name_of, reply_to}
use Rattle.service_tl.specs.Results.{is_good}
use Rattle.server_rules.specs.Waiting.{Outlook, Over, InVain, GoesOn, outlook, outlook_by, outlook_of_mark, told}
use Rattle.server_rules.specs.Calls.{each_once, is_over}
use Rattle.law_order.specs.After.{IsAnswer, IsWaiting, Pair, is_among}
use Rattle.law_order.proofs.Lists.{all-map, among-filter, none-some, some-same, true-false}

-- ---- names

pub name-so : (key session : ℕ) (name : Name) → ((key == name.key) && (session == name.session)) ≡ true → record { key = key; session = session } ≡ name
name-so key session name is =
    let parts = and_parts _ _ is in
    let of_key = eqb-true key name.key parts.0 in
    let of_session = eqb-true session name.session parts.1 in
    ap (λ (k : ℕ). record { key = k; session = session }) of_key ∙ ap (λ (s : ℕ). record { key = name.key; session = s }) of_session

module _ (pair : Pair) (R : Type 0) where
  -- whose job it is, and that it is the call
  pub its-name : (job : Job) (failed : Bool) → is_call pair.name.key pair.name.session pair.call (record { job = job; failed = failed }) ≡ true
      → (record { key = job.key; session = job.session } ≡ pair.name) × (job.number ≡ pair.call)
  its-name job failed is =
      let parts = and_parts _ _ is in
      (name-so job.key job.session pair.name parts.0, eqb-true job.number pair.call parts.1)

  -- ---- an answer that is good

  -- a mark by which the waiting is over is that of a good reply
  abbrev IsOver : Option Mark → Type 0
  IsOver found = (mark : Mark) → found ≡ Some mark → outlook_of_mark mark ≡ Over → R

  good-of : (good : Bool) → cond good Over InVain ≡ Over → good ≡ true
  good-of true is = refl
  good-of false is = absurd cc

  fate-over : (good : Bool) (fate : Fate) → outlook_of_mark (answered_mark good fate) ≡ Over → good ≡ true
  fate-over good IsKept is = good-of good is
  fate-over good WasAcked is = good-of good is
  fate-over good WasDropped is = good-of good is

  by-over : (unanswered : Mark) (reply : Option Reply) → (outlook_of_mark unanswered ≡ Over → ⊥)
      → ((one : Reply) → reply ≡ Some one → is_good one.content ≡ true → R) → outlook_of_mark (mark_by unanswered reply) ≡ Over → R
  by-over unanswered None never good is = absurd (never is)
  by-over unanswered (Some reply) never good is = good reply refl (fate-over (is_good reply.content) reply.fate is)

  reply-good : (replies : List Reply) → AllByRecursion (IsAnswer pair R) replies → (number : ℕ) → number ≡ pair.earlier
      → (one : Reply) → reply_to number replies ≡ Some one → is_good one.content ≡ true → R
  reply-good [] answers number own one is good = absurd (none-some one is)
  reply-good (reply ∷ replies) answers number own one is good =
      elim (cases_Bool (reply.call == number)) [
        | inl holds ↦
            let same : reply ≡ one = some-same reply one (sym (cond-true (reply.call == number) (Some reply) (reply_to number replies) holds) ∙ is) in
            answers.0 (eqb-true reply.call number holds ∙ own) (ap (λ (reply : Reply). is_good reply.content) same ∙ good)
        | inr fails ↦
            reply-good replies answers.1 number own one (sym (cond-false (reply.call == number) (Some reply) (reply_to number replies) fails) ∙ is) good
      ]

  mark-over : (replies : List Reply) → AllByRecursion (IsAnswer pair R) replies → (number : ℕ) → number ≡ pair.earlier → (outcome : Outcome)
      → outlook_of_mark (mark_after replies number outcome) ≡ Over → R
  mark-over replies answers number own (Refused code) is = absurd (let f : InVain ≡ Over = is in cc)
  mark-over replies answers number own AcceptedContainer is = absurd (let f : InVain ≡ Over = is in cc)
  mark-over replies answers number own AcceptedCall is =
      by-over Waiting (reply_to number replies) (λ never. let f : GoesOn ≡ Over = never in cc) (reply-good replies answers number own) is
  mark-over replies answers number own AcceptedOther is =
      by-over Service (reply_to number replies) (λ never. let f : InVain ≡ Over = never in cc) (reply-good replies answers number own) is

  marks-over : (replies : List Reply) → AllByRecursion (IsAnswer pair R) replies → (number : ℕ) → number ≡ pair.earlier → (history : History) (last : Option Mark)
      → IsOver last → IsOver (fold (λ last given. cond (given.0 == number) (Some given.1) last) last (marks_of history replies))
  marks-over replies answers number own [] last over = over
  marks-over replies answers number own (judgement ∷ history) last over =
      let mark = mark_after replies judgement.number judgement.outcome in
      marks-over replies answers number own history (cond (judgement.number == number) (Some mark) last)
      (elim (cases_Bool (judgement.number == number)) [
        | inl same ↦
            rw same (λ one is ends.
            let its : mark ≡ one = some-same mark one is in
            mark-over replies answers judgement.number (eqb-true judgement.number number same ∙ own) judgement.outcome (ap outlook_of_mark its ∙ ends))
        | inr other ↦ rw other over
      ])

  -- where the waiting for the earlier call is over, that has run
  pub over-ran : (session : Session) (jobs : Queue) → AllByRecursion (IsAnswer pair R) session.replies → outlook session jobs pair.earlier ≡ Over → R
  over-ran session jobs answers is = go (mark_in session pair.earlier) refl is where
    marked : IsOver (mark_in session pair.earlier)
    marked =
        elim (cases_Bool (is_kept pair.earlier session.history)) [
          | inl kept ↦ rw kept (marks-over session.replies answers pair.earlier refl session.history None (λ mark no. absurd (none-some mark no)))
          | inr gone ↦ rw gone (λ mark no. absurd (none-some mark no))
        ]

    forgotten : (test : Bool) → cond test InVain GoesOn ≡ Over → R
    forgotten true is = absurd (let f : InVain ≡ Over = is in cc)
    forgotten false is = absurd (let f : GoesOn ≡ Over = is in cc)

    go : (found : Option Mark) → mark_in session pair.earlier ≡ found → outlook_by found (nat_le pair.earlier (floor session.history)) (list_any (is_call session.key session.number pair.earlier) jobs) ≡ Over → R
    go None found is = forgotten (nat_le pair.earlier (floor session.history) && not (list_any (is_call session.key session.number pair.earlier) jobs)) is
    go (Some mark) found is = marked mark found is

  -- ---- jobs

  -- those that are left are as they were
  pub first-left : (test : Unfinished → Bool) (jobs : Queue) → AllByRecursion (IsWaiting pair R) jobs → AllByRecursion (IsWaiting pair R) (without_first test jobs)
  first-left test [] all = tt
  first-left test (one ∷ jobs) all =
      elim (cases_Bool (test one)) [
        | inl is ↦ rw is all.1
        | inr fails ↦ rw fails (all.0, first-left test jobs all.1)
      ]

  pub ready-left : (place : ℕ) (jobs : Queue) → AllByRecursion (IsWaiting pair R) jobs → AllByRecursion (IsWaiting pair R) (without_ready place jobs)
  ready-left place [] all = tt
  ready-left zero (one ∷ jobs) all =
      elim (cases_Bool (is_ready one)) [
        | inl is ↦ rw is all.1
        | inr fails ↦ rw fails (all.0, ready-left zero jobs all.1)
      ]
  ready-left (suc place) (one ∷ jobs) all = (all.0, ready-left (cond (is_ready one) place (suc place)) jobs all.1)

  empty-none : (numbers : List ℕ) → is_empty numbers ≡ true → is_among pair.earlier numbers ≡ true → ⊥
  empty-none [] is among = true-false (sym among)
  empty-none (number ∷ numbers) is among = true-false (sym is)

  ready-one : (one : Unfinished) → is_ready one ≡ true → IsWaiting pair R one
      → record { key = one.job.key; session = one.job.session } ≡ pair.name → one.job.number ≡ pair.call → R
  ready-one one ready waits of_name of_call =
      let none = (and_parts _ _ ready).1 in
      let is : is_call one.job.key one.job.session one.job.number one ≡ true = rw (eq-eqb one.job.key one.job.key refl, eq-eqb one.job.session one.job.session refl, eq-eqb one.job.number one.job.number refl) refl in
      let own : is_call pair.name.key pair.name.session pair.call one ≡ true =
      subst (λ (n : ℕ). is_call pair.name.key pair.name.session n one ≡ true) of_call
      (subst (λ (name : Name). is_call name.key name.session one.job.number one ≡ true) of_name is) in
      elim (waits own) [
        | inl among ↦ absurd (empty-none one.job.after none among)
        | inr ran ↦ ran
      ]

  -- a ready job of the call waits for none
  pub ready-ran : (place : ℕ) (jobs : Queue) (job : Job) → ready_job place jobs ≡ Some job → AllByRecursion (IsWaiting pair R) jobs
      → record { key = job.key; session = job.session } ≡ pair.name → job.number ≡ pair.call → R
  ready-ran place [] job is all of_name of_call = absurd (none-some job is)
  ready-ran zero (one ∷ jobs) job is all of_name of_call =
      elim (cases_Bool (is_ready one)) [
        | inl ready ↦
            let same : one.job ≡ job = some-same one.job job (rw ready at is) in
            ready-one one ready all.0 (ap (λ (job : Job). record { key = job.key; session = job.session }) same ∙ of_name) (ap (λ (job : Job). job.number) same ∙ of_call)
        | inr fails ↦ ready-ran zero jobs job (rw fails at is) all.1 of_name of_call
      ]
  ready-ran (suc place) (one ∷ jobs) job is all of_name of_call = ready-ran (cond (is_ready one) place (suc place)) jobs job is all.1 of_name of_call

  -- ---- what jobs are told

  told-one : (name : Name) (number : ℕ) → (name ≡ pair.name → number ≡ pair.earlier → R) → (one : Unfinished)
      → IsWaiting pair R one → IsWaiting pair R (after_answer name.key name.session number true one)
  told-one name number ran one waits =
      elim (cases_Bool (waits_for name.key name.session number one)) [
        | inr fails ↦ rw fails waits
        | inl holds ↦
            rw holds (λ is.
            elim (cases_Bool (pair.earlier == number)) [
              | inl same ↦
                  let whose = (and_parts (is_of name.key name.session one) (list_any (λ awaited. awaited == number) one.job.after) holds).0 in
                  let its = (its-name one.job one.failed is).0 in
                  let of_name : record { key = one.job.key; session = one.job.session } ≡ name = name-so one.job.key one.job.session name whose in
                  inr (ran (sym of_name ∙ its) (sym (eqb-true pair.earlier number same)))
              | inr other ↦
                  elim (waits is) [
                    | inr has ↦ inr has
                    | inl among ↦ inl (among-filter (λ awaited. not (awaited == number)) pair.earlier one.job.after (rw other refl) among)
                  ]
            ])
      ]

  failed-one : (name : Name) (number : ℕ) (one : Unfinished) → IsWaiting pair R one → IsWaiting pair R (after_answer name.key name.session number false one)
  failed-one name number one waits =
      elim (cases_Bool (waits_for name.key name.session number one)) [
        | inl holds ↦ rw holds waits
        | inr fails ↦ rw fails waits
      ]

  pub told-waits : (session : Session) (number : ℕ) (jobs queue : Queue) → (name_of session ≡ pair.name → AllByRecursion (IsAnswer pair R) session.replies)
      → AllByRecursion (IsWaiting pair R) queue → AllByRecursion (IsWaiting pair R) (told (outlook session jobs number) session number queue)
  told-waits session number jobs queue answers all = go (outlook session jobs number) refl where
    go : (found : Outlook) → outlook session jobs number ≡ found → AllByRecursion (IsWaiting pair R) (told found session number queue)
    go GoesOn is = all
    go InVain is = all-map (IsWaiting pair R) (IsWaiting pair R) (after_answer session.key session.number number false) queue (failed-one (name_of session) number) all
    go Over is =
        all-map (IsWaiting pair R) (IsWaiting pair R) (after_answer session.key session.number number true) queue
        (told-one (name_of session) number
        (λ of_name of_number. over-ran session jobs (answers of_name) (subst (λ (n : ℕ). outlook session jobs n ≡ Over) of_number is))) all

  -- ---- a further job

  pub among-once : (numbers : List ℕ) → is_among pair.earlier numbers ≡ true → is_among pair.earlier (each_once numbers) ≡ true
  among-once [] is = is
  among-once (number ∷ numbers) is =
      elim (cases_Bool (number == pair.earlier)) [
        | inl same ↦ rw same refl
        | inr other ↦
            let rest = among-once numbers (rw other at is) in
            let apart : (pair.earlier == number) ≡ false = search arith in
            rw other (among-filter (λ one. not (one == number)) pair.earlier (each_once numbers) (rw apart refl) rest)
      ]

  -- of numbers with the earlier one among them, it is still waited for where that isn't over
  pub still-awaited : (session : Session) (jobs : Queue) (numbers : List ℕ) → AllByRecursion (IsAnswer pair R) session.replies → is_among pair.earlier numbers ≡ true
      → (is_among pair.earlier (filter (λ other. not (is_over (outlook session jobs other))) (each_once numbers)) ≡ true) ⊎ R
  still-awaited session jobs numbers answers among = go (outlook session jobs pair.earlier) refl where
    stays : not (is_over (outlook session jobs pair.earlier)) ≡ true
        → (is_among pair.earlier (filter (λ other. not (is_over (outlook session jobs other))) (each_once numbers)) ≡ true) ⊎ R
    stays goes = inl (among-filter (λ other. not (is_over (outlook session jobs other))) pair.earlier (each_once numbers) goes (among-once numbers among))

    go : (found : Outlook) → outlook session jobs pair.earlier ≡ found
        → (is_among pair.earlier (filter (λ other. not (is_over (outlook session jobs other))) (each_once numbers)) ≡ true) ⊎ R
    go Over is = inr (over-ran session jobs answers is)
    go InVain is = stays (ap (λ (found : Outlook). not (is_over found)) is)
    go GoesOn is = stays (ap (λ (found : Outlook). not (is_over found)) is)
