-- Where a fact may stand, and the bad lines of a text.
use Rattle.std.specs.Prelude.{◌≡◌, ◌+◌, ◌<◌, ◌≤◌, ◌⊎◌, ℕ, List, slice_get, Some}
use Rattle.trace_check.specs.declared.numbered.Numbered.{Numbered}
use Rattle.trace_check.specs.declared.fact.Fact.{Fact}
use Rattle.trace_check.specs.declared.fact.Fact.TheVariants.{Body, Name, State, Outside}
use Rattle.trace_check.specs.declared.fact.Told.{Told}
use Rattle.trace_check.specs.Facts.{At}

-- a line before this place has a body of the call, or has the name, or tells a state of the call
abbrev pub HasBodyBefore : List Fact → Numbered → ℕ → Type 0
HasBodyBefore facts call place = (earlier : ℕ) × (body : List ℕ) × (earlier < place) × At facts earlier (Body call body)

abbrev pub HasNameBefore : List Fact → Numbered → ℕ → Type 0
HasNameBefore facts name place = (earlier : ℕ) × (call : Numbered) × (earlier < place) × At facts earlier (Name call name)

abbrev pub HasStateBefore : List Fact → Numbered → ℕ → Type 0
HasStateBefore facts call place = (earlier : ℕ) × (told : Told) × (earlier < place) × At facts earlier (State call told)

-- some line tells a state of the call
abbrev pub HasState : List Fact → Numbered → Type 0
HasState facts call = (place : ℕ) × (told : Told) × At facts place (State call told)

-- the call is the next one of its client: the first, or that behind one that has a body already
abbrev pub IsNext : List Fact → Numbered → ℕ → Type 0
IsNext facts call place =
    (call.number ≡ 1) ⊎ ((before : ℕ) × (1 ≤ before) × (call.number ≡ before + 1) × HasBodyBefore facts (record { owner = call.owner; number = before }) place)

-- a body of a client's next call, of which a state is told
pub record IsLawfulBody (facts : List Fact) (call : Numbered) (place : ℕ) : Type 0 where
  pub next : IsNext facts call place
  pub new : HasBodyBefore facts call place → ⊥
  pub told : HasState facts call

-- a new name of a call that has a body already
pub record IsLawfulName (facts : List Fact) (call name : Numbered) (place : ℕ) : Type 0 where
  pub known : HasBodyBefore facts call place
  pub new : HasNameBefore facts name place → ⊥

-- the only state of a call that has a body already
pub record IsLawfulState (facts : List Fact) (call : Numbered) (place : ℕ) : Type 0 where
  pub known : HasBodyBefore facts call place
  pub new : HasStateBefore facts call place → ⊥

-- a fact may stand at this place
abbrev pub IsLawful : List Fact → ℕ → Fact → Type 0
IsLawful facts place (Body call body) = IsLawfulBody facts call place
IsLawful facts place (Name call name) = IsLawfulName facts call name place
IsLawful facts place (State call told) = IsLawfulState facts call place
IsLawful facts place Outside = ⊥
IsLawful facts place _ = Unit {0}

-- what stands at this place may stand there
abbrev pub Fits : List Fact → ℕ → Type 0
Fits facts place = (fact : Fact) → At facts place fact → IsLawful facts place fact

-- no line of the text is a bad one
abbrev pub IsTrace : List Fact → Type 0
IsTrace facts = (place : ℕ) → Fits facts place

-- the line of this number is a bad one
abbrev pub IsBadLine : List Fact → List ℕ → ℕ → Type 0
IsBadLine facts numbers bad = (place : ℕ) × (slice_get numbers place ≡ Some bad) × (Fits facts place → ⊥)

-- it is the first of these
pub record IsFirstBadLine (facts : List Fact) (numbers : List ℕ) (bad : ℕ) : Type 0 where
  pub is : IsBadLine facts numbers bad
  pub first : (other : ℕ) → IsBadLine facts numbers other → bad ≤ other
