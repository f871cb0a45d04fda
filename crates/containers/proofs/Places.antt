-- The places of a container, one after the other.
use Rattle.std.proofs.Common.{◌≡◌, ℕ, zero, suc, ◌+◌, ◌-◌, ◌<◌, List, ◌∷◌, length, Option, Some, None, refl, ap, ◌∙◌, arith}
use Rattle.containers.specs.declared.fault.Why.{Why}
use Rattle.containers.specs.Parts.{after, cause_in, messages_in, causes, first_from}
use Rattle.containers.specs.Whole.{AreWhole}
use Rattle.containers.proofs.Fronts.{lawful_front}

pub length-messages_in : (count : ℕ) (text : List ℕ) → length (messages_in count text) ≡ count
length-messages_in zero text = refl
length-messages_in (suc count) text = ap suc (length-messages_in count (after text))

-- nothing is wrong at a place, so the first cause is at the next or later
pub first_from-next : (number place left : ℕ) (text : List ℕ) → cause_in number text ≡ None
    → first_from place (causes number (suc left) text) ≡ first_from (suc place) (causes number left (after text))
first_from-next number place left text none = rw none refl

pub goes_on : (number place count : ℕ) (text : List ℕ) → place < count → cause_in number text ≡ None
    → first_from place (causes number (count - place) text) ≡ first_from (place + 1) (causes number (count - (place + 1)) (after text))
goes_on number place count text lt none =
    let left = count - (place + 1) in
    let more : count - place ≡ suc left = omega arith in
    let next : suc place ≡ place + 1 = omega arith in
    ap (λ (n : ℕ). first_from place (causes number n text)) more
    ∙ first_from-next number place left text none
    ∙ ap (λ (p : ℕ). first_from p (causes number left (after text))) next

pub none_first : (place : ℕ) (cause : Option Why) (causes : List (Option Why)) → first_from place (cause ∷ causes) ≡ None → (cause ≡ None) × (first_from (suc place) causes ≡ None)
none_first place None causes e = (refl, e)
none_first place (Some why) causes e = absurd cc

pub are_whole : (number place count : ℕ) (text : List ℕ) → first_from place (causes number count text) ≡ None → AreWhole count text
are_whole number place zero text e = tt
are_whole number place (suc count) text e =
    let parts = none_first place (cause_in number text) (causes number count (after text)) e in
    (((lawful_front number text parts.0).whole), are_whole number (suc place) count (after text) parts.1)
