-- What an even account says of each number.
use Rattle.std.proofs.Common.{◌≡◌, ◌≢◌, ◌∙◌, ℕ, ◌≤◌, Bool, true, false, Option, Some, None, List, [], ◌∷◌, get_or, ap, sym, subst, refl, arith, inl, inr}
use Rattle.std.specs.Prelude.{map, is_some, ◌==◌, ◌&&◌}
use Rattle.std.specs.List.{filter, All}
use Rattle.std.proofs.lemmas.Bool.{cases_Bool, cond_both, cond-false, and_parts, and_from, eqb-true, eq-eqb, ne_eqb, false≢true}
use Rattle.std.proofs.lemmas.List.Elements.{All-nil, All-cons, All-head, All-tail, All-map, All-filter}
use Rattle.id_window.specs.History.{History, FirstJudgement, EachOnce, was_accepted}
use Rattle.waits.specs.declared.job.Unfinished.{Unfinished}
use Rattle.waits.specs.Jobs.{Queue, is_call, one_if}
use Rattle.server_rules.specs.Server.{Name, Server}
use Rattle.server_rules.specs.Event.{Entry}
use Rattle.law_server.specs.Lives.{Acceptance, Life, request_of, is_entry_of}
use Rattle.law_server.specs.Finality.{unfinished_at, entered_at, is_asking, WasAsked, accepted_numbers, IsFinal, IsStanding}
use Rattle.law_server.proofs.Counting.{Test, count, count-length, jobs_at, entries_at, job_passes, entry_passes, asks, asked_at}
use Rattle.law_server.proofs.LivedLists.{pairs-head, pairs-tail, pairs-nil, pairs-cons, all-unmap, count-some, count-at, counted-none, Differ}
use Rattle.law_server.proofs.LivedEvents.{IsEven}
use Rattle.law_server.proofs.Living.{IsRecorded}

-- ---- tests of numbers

abbrev of_number : ℕ → Test
of_number number other request = other == number

unfinished-at : (name : Name) (number : ℕ) (jobs : Queue) → unfinished_at name number jobs ≡ jobs_at name (of_number number) jobs
unfinished-at name number jobs = count-length (is_call name.key name.session number) jobs

own-count : (name : Name) (number : ℕ) (entries : List Entry) → All (λ entry. is_entry_of name entry ≡ true) entries
    → count (λ entry. entry.number == number) entries ≡ entries_at name (of_number number) entries
own-count name number [] all = refl
own-count name number (entry ∷ entries) all =
    let P : Entry → Type 0 = λ entry. is_entry_of name entry ≡ true in
    let own = All-head P entry entries all in
    let rest = own-count name number entries (All-tail P entry entries all) in
    let same : one_if (entry_passes name (of_number number) entry) ≡ one_if (entry.number == number) =
    ap (λ (is : Bool). one_if (is && (entry.number == number))) own in omega arith

entered-at : (name : Name) (number : ℕ) (entries : List Entry) → All (λ entry. is_entry_of name entry ≡ true) entries
    → entered_at number entries ≡ entries_at name (of_number number) entries
entered-at name number entries all = count-length (λ entry. entry.number == number) entries ∙ own-count name number entries all

-- ---- of calls that were accepted under different numbers each is one

asks-less : (number other : ℕ) (request : Option (List ℕ)) → one_if (asks (of_number number) other request) ≤ one_if (other == number)
asks-less number other None = omega arith
asks-less number other (Some request) = omega arith

asks-own : (number : ℕ) (request : Option (List ℕ)) → one_if (asks (of_number number) number request) ≡ one_if (is_some request)
asks-own number None = refl
asks-own number (Some request) = ap one_if (eq-eqb number number refl)

asked-less : (number : ℕ) (accepted : List Acceptance) → asked_at (of_number number) accepted ≤ count (λ other. other == number) (map (λ one. one.number) accepted)
asked-less number [] = omega arith
asked-less number (one ∷ accepted) =
    let first = asks-less number one.number (request_of one.item one.body) in
    let rest = asked-less number accepted in omega arith

asked-one : (accepted : List Acceptance) → Differ (map (λ one. one.number) accepted)
    → All (λ one. asked_at (of_number one.number) accepted ≡ one_if (is_asking one)) accepted
asked-one [] differ = All-nil (λ (one : Acceptance). asked_at (of_number one.number) [] ≡ one_if (is_asking one))
asked-one (first ∷ accepted) differ =
    let numbers : List ℕ = map (λ (one : Acceptance). one.number) accepted in
    let R : ℕ → ℕ → Type 0 = λ one other. one ≢ other in
    let apart : All (R first.number) numbers = pairs-head R first.number numbers differ in
    let rest = asked-one accepted (pairs-tail R first.number numbers differ) in
    let P : Acceptance → Type 0 = λ one. asked_at (of_number one.number) (first ∷ accepted) ≡ one_if (is_asking one) in
    let own = asks-own first.number (request_of first.item first.body) in
    let less = asked-less first.number accepted in
    let none_other = counted-none first.number numbers apart in
    let apart_so = all-unmap (R first.number) (λ (one : Acceptance). one.number) accepted apart in
    All-cons P first accepted (omega arith)
    (λ k d within.
    let one = get_or accepted k d in
    let is = rest k d within in
    let off : (first.number == one.number) ≡ false = ne_eqb first.number one.number (apart_so k d within) in
    let none_first : one_if (first.number == one.number) ≡ 0 = ap one_if off in
    let less_first = asks-less one.number first.number (request_of first.item first.body) in omega arith)

-- ---- numbers of a history

history-differs : (history : History) → EachOnce history → Differ (accepted_numbers history)
history-differs [] once = pairs-nil (λ (one other : ℕ). one ≢ other)
history-differs (first ∷ history) once =
    let R : FirstJudgement → FirstJudgement → Type 0 = λ earlier later. earlier.number ≢ later.number in
    let test : FirstJudgement → Bool = λ judgement. was_accepted judgement.outcome in
    let N : ℕ → Type 0 = λ other. first.number ≢ other in
    let rest = history-differs history (pairs-tail R first history once) in
    let apart : All N (accepted_numbers history) =
    All-map N (λ (judgement : FirstJudgement). judgement.number) (filter test history)
    (All-filter test (λ (judgement : FirstJudgement). N judgement.number) history (pairs-head R first history once)) in
    cond_both (test first) (first ∷ filter test history) (filter test history) (λ (l : History). Differ (map (λ judgement. judgement.number) l))
    (λ is. pairs-cons (λ (one other : ℕ). one ≢ other) first.number (accepted_numbers history) apart rest) (λ fails. rest)

refused-none : (history : History) → EachOnce history
    → All (λ judgement. was_accepted judgement.outcome ≡ false → count (λ other. other == judgement.number) (accepted_numbers history) ≡ 0) history
refused-none [] once = All-nil (λ (judgement : FirstJudgement). was_accepted judgement.outcome ≡ false → count (λ other. other == judgement.number) [] ≡ 0)
refused-none (first ∷ history) once =
    let R : FirstJudgement → FirstJudgement → Type 0 = λ earlier later. earlier.number ≢ later.number in
    let test : FirstJudgement → Bool = λ judgement. was_accepted judgement.outcome in
    let numbers = accepted_numbers history in
    let heads = pairs-head R first history once in
    let N : ℕ → Type 0 = λ other. first.number ≢ other in
    let apart : All N numbers =
    All-map N (λ (judgement : FirstJudgement). judgement.number) (filter test history)
    (All-filter test (λ (judgement : FirstJudgement). N judgement.number) history heads) in
    let rest = refused-none history (pairs-tail R first history once) in
    let P : FirstJudgement → Type 0 = λ judgement.
    was_accepted judgement.outcome ≡ false → count (λ other. other == judgement.number) (accepted_numbers (first ∷ history)) ≡ 0 in
    let all_numbers : FirstJudgement → List ℕ → Type 0 = λ judgement numbers. count (λ other. other == judgement.number) numbers ≡ 0 in
    All-cons P first history
    (λ refused.
    let same : accepted_numbers (first ∷ history) ≡ numbers =
    ap (map (λ (judgement : FirstJudgement). judgement.number)) (cond-false (test first) (first ∷ filter test history) (filter test history) refused) in
    let Q : List ℕ → Type 0 = all_numbers first in
    subst Q (sym same) (counted-none first.number numbers apart))
    (λ k d within refused.
    let judgement = get_or history k d in
    let none_later = rest k d within refused in
    let off : (first.number == judgement.number) ≡ false = ne_eqb first.number judgement.number (heads k d within) in
    let none_first : one_if (first.number == judgement.number) ≡ 0 = ap one_if off in
    cond_both (test first) (first ∷ filter test history) (filter test history)
    (λ (l : History). all_numbers judgement (map (λ judgement. judgement.number) l))
    (λ is. omega arith) (λ fails. none_later))

-- ---- what is asked

same_list : List ℕ → List ℕ → Bool
same_list [] [] = true
same_list (x ∷ xs) (y ∷ ys) = (x == y) && same_list xs ys
same_list [] (y ∷ ys) = false
same_list (x ∷ xs) [] = false

list-same : (xs : List ℕ) → same_list xs xs ≡ true
unfolding same_list
list-same [] = refl
list-same (x ∷ xs) = and_from _ _ (eq-eqb x x refl) (list-same xs)

same-lists : (xs ys : List ℕ) → same_list xs ys ≡ true → xs ≡ ys
unfolding same_list
same-lists [] [] is = refl
same-lists (x ∷ xs) (y ∷ ys) is =
    let parts = and_parts _ _ is in
    ap (λ (first : ℕ). first ∷ xs) (eqb-true x y parts.0) ∙ ap (λ (rest : List ℕ). y ∷ rest) (same-lists xs ys parts.1)
same-lists [] (y ∷ ys) is = absurd (false≢true is)
same-lists (x ∷ xs) [] is = absurd (false≢true is)

abbrev of_call : ℕ → List ℕ → Test
of_call number request other asked = (other == number) && same_list asked request

asks-call : (number : ℕ) (request : List ℕ) (other : ℕ) (asked : Option (List ℕ)) → asks (of_call number request) other asked ≡ true
    → (other ≡ number) × (asked ≡ Some request)
asks-call number request other None is = absurd (false≢true is)
asks-call number request other (Some asked) is =
    let parts = and_parts _ _ is in
    (eqb-true other number parts.0, ap (λ (list : List ℕ). Some list) (same-lists asked request parts.1))

was-asked : (accepted : List Acceptance) (number : ℕ) (request : List ℕ) → 1 ≤ asked_at (of_call number request) accepted → WasAsked accepted number request
was-asked accepted number request one =
    let found = count-some (λ (one : Acceptance). asks (of_call number request) one.number (request_of one.item one.body)) accepted one in
    let is = asks-call number request found.0.number (request_of found.0.item found.0.body) found.2 in
    (found.0, found.1, is.0, is.1)

own-call : (number : ℕ) (request : List ℕ) → of_call number request number request ≡ true
own-call number request = and_from _ _ (eq-eqb number number refl) (list-same request)

-- ---- a life

entries-less : (server : Server) (life : Life) → IsEven server life → (test : Test) → entries_at life.name test life.entries ≤ asked_at test life.accepted
entries-less server life even test =
    elim (cases_Bool life.stands) [
      | inl stands ↦ let sum = (even.standing stands).3 test in omega arith
      | inr gone ↦ even.lost gone test
    ]

pub is-final : (server : Server) (life : Life) → IsEven server life → IsRecorded life → IsFinal server.jobs life
is-final server life even recorded =
    let differ : Differ (map (λ (one : Acceptance). one.number) life.accepted) =
    let D : List ℕ → Type 0 = Differ in subst D (sym recorded.accepted) (history-differs life.history recorded.judged) in
    let each = asked-one life.accepted differ in
    let refused = refused-none life.history recorded.judged in
    record {
      judged = recorded.judged;
      accepted = recorded.accepted;
      standing = λ stands k d within.
          let one = get_or life.accepted k d in
          let sum = (even.standing stands).3 (of_number one.number) in
          let asked = each k d within in
          let jobs = unfinished-at life.name one.number server.jobs in
          let entries = entered-at life.name one.number life.entries recorded.own in omega arith;
      lost = λ gone k d within.
          let one = get_or life.accepted k d in
          let less = even.lost gone (of_number one.number) in
          let asked = each k d within in
          let entries = entered-at life.name one.number life.entries recorded.own in omega arith;
      noticed = λ k d within is_refused.
          let judgement = get_or life.history k d in
          let none_there = refused k d within is_refused in
          let asked = asked-less judgement.number life.accepted in
          let numbers = ap (count (λ other. other == judgement.number)) recorded.accepted in
          let less = entries-less server life even (of_number judgement.number) in
          let entries = entered-at life.name judgement.number life.entries recorded.own in omega arith;
      unworked = λ stands k d within is_refused.
          let judgement = get_or life.history k d in
          let none_there = refused k d within is_refused in
          let asked = asked-less judgement.number life.accepted in
          let numbers = ap (count (λ other. other == judgement.number)) recorded.accepted in
          let sum = (even.standing stands).3 (of_number judgement.number) in
          let jobs = unfinished-at life.name judgement.number server.jobs in omega arith;
      entered = λ k d within.
          let entry = get_or life.entries k d in
          let test = of_call entry.number entry.request in
          let passes : entry_passes life.name test entry ≡ true = and_from _ _ (recorded.own k d within) (own-call entry.number entry.request) in
          let one = count-at (entry_passes life.name test) life.entries k d within passes in
          let less = entries-less server life even test in
          was-asked life.accepted entry.number entry.request (omega arith);
      waiting = λ stands k d within own.
          let job = (get_or server.jobs k d).job in
          let test = of_call job.number job.request in
          let passes : job_passes life.name test job ≡ true = and_from _ _ own (own-call job.number job.request) in
          let one = count-at (λ (one : Unfinished). job_passes life.name test one.job) server.jobs k d within passes in
          let sum = (even.standing stands).3 test in
          was-asked life.accepted job.number job.request (omega arith);
    }

pub is-standing : (server : Server) (life : Life) → IsEven server life → IsStanding server.sessions life
is-standing server life even = λ stands. let is = even.standing stands in (is.0, is.1, is.2)
