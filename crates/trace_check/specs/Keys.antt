-- Scaffolding, and no promise: by what the tables look facts up.
use Rattle.std.specs.Prelude.{◌≡◌, ◌<◌, ℕ, List, map, Option, Some, None, slice_get}
use Rattle.trace_check.specs.declared.numbered.Numbered.{Numbered}
use Rattle.trace_check.specs.declared.fact.Fact.{Fact}
use Rattle.trace_check.specs.declared.fact.Fact.TheVariants.{Body, Name, State, Made, Left, Closed, Gone}
use Rattle.trace_check.specs.declared.book.By.{By}
use Rattle.trace_check.specs.declared.book.By.TheVariants as by

-- a session as a whole
abbrev pub whole : ℕ → Numbered
whole session = record { owner = session; number = 0 }

-- the key under which a table of this kind has a fact
abbrev pub key_of : By → Fact → Option Numbered
key_of by.Body (Body call body) = Some call
key_of by.State (State call told) = Some call
key_of by.Name (Name call name) = Some name
key_of by.Call (Name call name) = Some call
key_of by.Made (Made session) = Some (whole session)
key_of by.Left (Left session) = Some (whole session)
key_of by.Closed (Closed session) = Some (whole session)
key_of by.Gone (Gone name) = Some name
key_of _ _ = None

-- the fact at this place has this key
abbrev pub Marks : By → List Fact → Numbered → ℕ → Type 0
Marks by facts key place = slice_get (map (key_of by) facts) place ≡ Some (Some key)

-- some fact has
abbrev pub IsMarked : By → List Fact → Numbered → Type 0
IsMarked by facts key = (place : ℕ) × Marks by facts key place

-- one before this place has
abbrev pub IsMarkedBefore : By → List Fact → Numbered → ℕ → Type 0
IsMarkedBefore by facts key place = (earlier : ℕ) × (earlier < place) × Marks by facts key earlier

-- two have
abbrev pub IsMarkedTwice : By → List Fact → Numbered → Type 0
IsMarkedTwice by facts key = (first second : ℕ) × (first < second) × Marks by facts key first × Marks by facts key second
