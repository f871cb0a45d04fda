-- Numbers of a list, each once.
use Rattle.std.proofs.Common.{◌≡◌, ◌∙◌, ◌+◌, ◌<◌, ◌≤◌, ℕ, Bool, true, false, List, [], ◌∷◌, ◌++◌, if◌then◌else◌, ap, sym, refl, inl, inr, arith, take, length, get_or, map, fold, append-nil, append_assoc}
use Rattle.std.specs.Prelude.{not, ◌&&◌, ◌==◌}
use Rattle.std.specs.List.{AllByRecursion, filter, list_any}
use Rattle.std.proofs.lemmas.Bool.{cases_Bool, eqb-true, eq-eqb, ne_eqb, false≢true}
use Rattle.std.proofs.lemmas.List.{take_more}
use Rattle.std.proofs.lemmas.List.Elements.{filter-append}
use Rattle.inbox.specs.declared.judged.Judgement.{Judgement as BareJudgement}
use Rattle.inbox.specs.Verdicts.{Verdict, Accepted, Again, Noticed, Judgement, bare, bare_judgement}
use Rattle.server_rules.specs.Calls.{each_once}
use Rattle.msg_ids.specs.Counters.{is_odd}
use Rattle.server_rules.specs.Rows.{acks_of, is_verdict_acked}
use Rattle.server_dispatch.specs.Acks.{is_acked, is_bare_acked, noted}

abbrev pub among : ℕ → List ℕ → Bool
among number numbers = list_any (λ other. other == number) numbers

abbrev apart : ℕ → List ℕ → List ℕ
apart number numbers = filter (λ other. not (other == number)) numbers

-- another number is still among those that are left
still : (number taken : ℕ) (numbers : List ℕ) → (taken == number) ≡ false → among number (apart taken numbers) ≡ among number numbers
still number taken [] other = refl
still number taken (one ∷ numbers) other =
    elim (cases_Bool (one == taken)) [
      | inl is ↦
          (let same : (one == number) ≡ false = ap (λ (n : ℕ). n == number) (eqb-true one taken is) ∙ other in
          rw (is, still number taken numbers other, same) refl)
      | inr not_is ↦ rw (not_is, still number taken numbers other) refl
    ]

turned : (one other : ℕ) → (one == other) ≡ true → (other == one) ≡ true
turned one other is = eq-eqb other one (sym (eqb-true one other is))

unlike : (one other : ℕ) → (one == other) ≡ false → (other == one) ≡ false
unlike one other not_is =
    elim (cases_Bool (other == one)) [
      | inl is ↦ absurd (false≢true (sym not_is ∙ turned other one is))
      | inr other_not ↦ other_not
    ]

pub once-more : (numbers : List ℕ) (number : ℕ)
    → each_once (numbers ++ number ∷ []) ≡ (if among number (each_once numbers) then each_once numbers else each_once numbers ++ number ∷ [])
once-more [] number = refl
once-more (one ∷ numbers) number =
    let first = once-more numbers number in
    let own = each_once numbers in
    let behind = filter-append (λ (other : ℕ). not (other == one)) own (number ∷ []) in
    elim (cases_Bool (one == number)) [
      | inl same ↦
          (let back = turned one number same in
          elim (cases_Bool (among number own)) [
            | inl there ↦ rw (first, same, there) refl
            | inr absent ↦
                (let gone : apart one (own ++ number ∷ []) ≡ apart one own = behind ∙ (rw back (append-nil (apart one own))) in
                rw (first, same, absent) (ap (λ (l : List ℕ). one ∷ l) gone))
          ])
      | inr other ↦
          (let back = unlike one number other in
          let kept = still number one own other in
          elim (cases_Bool (among number own)) [
            | inl there ↦ rw (first, other, kept, there) refl
            | inr absent ↦
                (let gone : apart one (own ++ number ∷ []) ≡ apart one own ++ number ∷ [] = behind ∙ (rw back refl) in
                rw (first, other, kept, absent) (ap (λ (l : List ℕ). one ∷ l) gone))
          ])
    ]

pub passed-absent : (numbers once : List ℕ) (place : ℕ) → place < length numbers → once ≡ each_once (take place numbers)
    → among (get_or numbers place 0) once ≡ false → once ++ get_or numbers place 0 ∷ [] ≡ each_once (take (place + 1) numbers)
passed-absent numbers once place lt is absent =
    let number = get_or numbers place 0 in
    let so : among number (each_once (take place numbers)) ≡ false = ap (among number) (sym is) ∙ absent in
    ap (λ (l : List ℕ). l ++ number ∷ []) is
    ∙ sym (ap each_once (take_more numbers place 0 lt) ∙ (once-more (take place numbers) number ∙ (rw so refl)))

pub passed-there : (numbers once : List ℕ) (place : ℕ) → place < length numbers → once ≡ each_once (take place numbers)
    → among (get_or numbers place 0) once ≡ true → once ≡ each_once (take (place + 1) numbers)
passed-there numbers once place lt is there =
    let number = get_or numbers place 0 in
    let so : among number (each_once (take place numbers)) ≡ true = ap (among number) (sym is) ∙ there in
    is ∙ sym (ap each_once (take_more numbers place 0 lt) ∙ (once-more (take place numbers) number ∙ (rw so refl)))

-- what is acknowledged, one after the other

-- a further number stands there once
once-noted : (numbers : List ℕ) (one : BareJudgement) → is_acked one ≡ true → noted (each_once numbers) one ≡ each_once (numbers ++ one.number ∷ [])
once-noted numbers one acked =
    let more = once-more numbers one.number in
    elim (cases_Bool (among one.number (each_once numbers))) [
      | inl there ↦ rw (acked, there) (sym (more ∙ (rw there refl)))
      | inr absent ↦ rw (acked, absent) (sym (more ∙ (rw absent refl)))
    ]

noted-all : (numbers : List ℕ) (judged : List BareJudgement)
    → fold noted (each_once numbers) judged ≡ each_once (numbers ++ map (λ judgement. judgement.number) (filter is_acked judged))
noted-all numbers [] = ap each_once (sym (append-nil numbers))
noted-all numbers (one ∷ judged) =
    let own : List ℕ = map (λ judgement. judgement.number) (filter is_acked judged) in
    elim (cases_Bool (is_acked one)) [
      | inl acked ↦
          ap (λ (so_far : List ℕ). fold noted so_far judged) (once-noted numbers one acked)
          ∙ (noted-all (numbers ++ one.number ∷ []) judged ∙ (rw acked (ap each_once (append_assoc numbers (one.number ∷ []) own))))
      | inr silent ↦ rw silent (noted-all numbers judged)
    ]

-- and those that the definitions say

acked-so : (verdict : Verdict) → is_bare_acked (bare verdict) ≡ is_verdict_acked verdict
acked-so (Accepted item) = refl
acked-so (Again mark) = refl
acked-so (Noticed code) = refl

acked-numbers : (judged : List Judgement) → map (λ judgement. judgement.number) (filter is_acked (map bare_judgement judged))
    ≡ map (λ judgement. judgement.number) (filter (λ judgement. is_odd judgement.seq && is_verdict_acked judgement.verdict) judged)
unfolding is_acked
acked-numbers [] = refl
acked-numbers (one ∷ judged) =
    let same : (is_odd one.seq && is_bare_acked (bare one.verdict)) ≡ (is_odd one.seq && is_verdict_acked one.verdict) = ap (λ (acked : Bool). is_odd one.seq && acked) (acked-so one.verdict) in
    elim (cases_Bool (is_odd one.seq && is_verdict_acked one.verdict)) [
      | inl acked ↦ rw (same, acked) (ap (λ (l : List ℕ). one.number ∷ l) (acked-numbers judged))
      | inr silent ↦ rw (same, silent) (acked-numbers judged)
    ]

pub noted-are : (judged : List Judgement) → fold noted [] (map bare_judgement judged) ≡ acks_of judged
noted-are judged = noted-all [] (map bare_judgement judged) ∙ ap each_once (acked-numbers judged)

-- a number that is above all isn't among them
pub above_absent : (number greatest : ℕ) (numbers : List ℕ) → greatest < number → AllByRecursion (λ one. one ≤ greatest) numbers → among number numbers ≡ false
above_absent number greatest [] above below = refl
above_absent number greatest (one ∷ numbers) above below =
    let other : (one == number) ≡ false = ne_eqb one number (λ same. omega (arith, above, below.0)) in
    rw other (above_absent number greatest numbers above below.1)
