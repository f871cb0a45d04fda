-- What is found of facts.
use Rattle.std.proofs.Common.{◌≡◌, ◌∙◌, ℕ, ◌<◌, ◌≤◌, List, [], ◌∷◌, ◌++◌, length, get_or, Some, inl, inr, sym, ap, arith, append_assoc}
use Rattle.std.specs.List.{slice_get}
use Rattle.std.proofs.lemmas.Option.{slice_get-get_or}
use Rattle.std.proofs.lemmas.Bool.{cases_lt}
use Rattle.trace_check.specs.declared.fact.Fact.{Fact}
use Rattle.trace_check.specs.declared.sentence.Sentence.{Sentence}
use Rattle.trace_check.specs.declared.sentence.Sentence.TheVariants as sentence
use Rattle.trace_check.specs.Lawful.{IsFirstBadLine}
use Rattle.trace_check.specs.Sentences.{Holds, Keeps, number_of}
use Rattle.trace_check.specs.Books.{IsBreak, IsUnfit, Rise}
use Rattle.trace_check.specs.Answers.{AllHold, IsBroken}
use Rattle.trace_check.proofs.Lines.{least_line}
use Rattle.trace_check.proofs.Marking.{one_place}
use Rattle.trace_check.proofs.Serving.{holds_served, keeps_served}

-- ---- a sentence holds exactly where no line shows a break of it

pub holds : (s : Sentence) (facts : List Fact) → ((place : ℕ) → Keeps s facts place) → Holds s facts
holds sentence.AtMostOnce facts keeps = λ call p q a b one other. one_place p q (λ less. keeps q call b other p a less one) (λ less. keeps p call a one q b less other)
holds sentence.AsSent facts keeps = λ place entry at. keeps place entry at
holds sentence.Done facts keeps = λ place call reply at. keeps place call reply at
holds sentence.Replaced facts keeps = (λ call place entry is replaced. (keeps place).0 call entry is replaced, λ place call told at idle has. (keeps place).1 call told at idle has)
holds sentence.Unknown facts keeps = λ place call cause at. keeps place call cause at
holds sentence.Served facts keeps = holds_served facts keeps

pub keeps : (s : Sentence) (facts : List Fact) → Holds s facts → (place : ℕ) → Keeps s facts place
keeps sentence.AtMostOnce facts h place = λ call entry is earlier one less other. let same = h call place earlier entry one is other in omega (arith, same, less)
keeps sentence.AsSent facts h place = λ entry at. h place entry at
keeps sentence.Done facts h place = λ call reply at. h place call reply at
keeps sentence.Replaced facts h place = (λ call entry is replaced. h.0 call place entry is replaced, λ call told at idle has. h.1 place call told at idle has)
keeps sentence.Unknown facts h place = λ call cause at. h place call cause at
keeps sentence.Served facts h place = keeps_served facts h place

-- ---- the answers

pub from_one : (s : Sentence) → 1 ≤ number_of s
from_one sentence.AtMostOnce = omega arith
from_one sentence.AsSent = omega arith
from_one sentence.Done = omega arith
from_one sentence.Replaced = omega arith
from_one sentence.Unknown = omega arith
from_one sentence.Served = omega arith

pub all_hold : (facts : List Fact) → ((s : Sentence) (place : ℕ) → 1 ≤ number_of s → Keeps s facts place) → AllHold facts
all_hold facts h s = holds s facts (λ place. h s place (from_one s))

line_at : (numbers : List ℕ) (place : ℕ) → place < length numbers → slice_get numbers place ≡ Some (get_or numbers place 0)
line_at numbers place less = slice_get-get_or numbers place 0 less

pub broken : (facts : List Fact) (numbers : List ℕ) (s : Sentence) (place clause line : ℕ) → length numbers ≡ length facts → Rise numbers → IsBreak facts 1 s place → clause ≡ number_of s → line ≡ get_or numbers place 0
    → IsBroken facts numbers clause line
broken facts numbers s place clause line count rises is numbered at =
    let here : slice_get numbers place ≡ Some line = line_at numbers place (let w = is.is.within in omega (arith, count, w)) ∙ ap (λ n. Some n) (sym at) in
    record {
      sentence = s;
      numbered = numbered;
      earlier = λ other less. holds other facts (λ p. is.earlier other p (from_one other) (omega (arith, less, numbered)));
      fails = λ h. is.is.shows (keeps s facts h place);
      shown = (place, here, is.is.shows);
      least = λ other shows. elim (cases_lt shows.0 place) [
        | inl less ↦ absurd (shows.2 (is.is.first shows.0 less))
        | inr more ↦ least_line numbers rises place shows.0 line other here shows.1 more
      ];
    }

pub bad_line : (facts : List Fact) (numbers : List ℕ) (place line : ℕ) → length numbers ≡ length facts → Rise numbers → IsUnfit facts place → line ≡ get_or numbers place 0 → IsFirstBadLine facts numbers line
bad_line facts numbers place line count rises is at =
    let here : slice_get numbers place ≡ Some line = line_at numbers place (let w = is.within in omega (arith, count, w)) ∙ ap (λ n. Some n) (sym at) in
    record {
      is = (place, here, is.unfit);
      first = λ other bad. elim (cases_lt bad.0 place) [
        | inl less ↦ absurd (bad.2 (is.first bad.0 less))
        | inr more ↦ least_line numbers rises place bad.0 line other here bad.1 more
      ];
    }

-- ---- one line more

pub read_more : {X : Type 0} (all old new rest lines : List X) (x y : X) → all ≡ old ++ lines → lines ≡ y ∷ rest → x ≡ y → new ≡ old ++ x ∷ [] → all ≡ new ++ rest
read_more all old new rest lines x y is cut same put =
    is ∙ (ap (λ l. old ++ l) (cut ∙ ap (λ z. z ∷ rest) (sym same)) ∙ (sym (append_assoc old (x ∷ []) rest) ∙ ap (λ l. l ++ rest) (sym put)))
