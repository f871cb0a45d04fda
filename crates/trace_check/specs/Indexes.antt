-- Scaffolding, and no promise: where keys stand in a list of which some members have one.
use Rattle.std.specs.Prelude.{◌≡◌, ◌<◌, ℕ, Bool, false, nat_lt, List, Option, Some, None, MatchOption, slice_get}
use Rattle.std.specs.BTreeMap.{BTreeMap, get}
use Rattle.std.specs.Ordering.{nat_cmp, ordering_then}
use Rattle.std.specs.declared.cmp.Ordering.{Ordering}
use Rattle.trace_check.specs.declared.numbered.Numbered.{Numbered}
use Rattle.trace_check.specs.declared.table.Row.{Row}

-- the order of keys
abbrev pub key_cmp : Numbered → Numbered → Ordering
key_cmp a b = ordering_then (nat_cmp a.owner b.owner) (nat_cmp a.number b.number)

-- a member at this place has this key
abbrev pub Stands : List (Option Numbered) → ℕ → Numbered → Type 0
Stands keys place key = slice_get keys place ≡ Some (Some key)

-- no member has this key
abbrev pub HasNone : List (Option Numbered) → Numbered → Type 0
HasNone keys key = (place : ℕ) → Stands keys place key → ⊥

-- the first place of the key
pub record IsFirst (keys : List (Option Numbered)) (key : Numbered) (first : ℕ) : Type 0 where
  pub stands : Stands keys first key
  pub least : (place : ℕ) → Stands keys place key → place < first → ⊥

-- the last one
pub record IsLast (keys : List (Option Numbered)) (key : Numbered) (last : ℕ) : Type 0 where
  pub stands : Stands keys last key
  pub greatest : (place : ℕ) → Stands keys place key → last < place → ⊥

-- where the key stands
abbrev pub IsRow : List (Option Numbered) → Numbered → Option Row → Type 0
IsRow keys key row = MatchOption row (HasNone keys key) (λ row. IsFirst keys key row.first × IsLast keys key row.last)

-- the map has a row for each key of the list, and no other
abbrev pub Indexes : BTreeMap Numbered Row → List (Option Numbered) → Type 0
Indexes rows keys = (key : Numbered) → IsRow keys key (get key_cmp rows key)

-- the first place of a row, or this one where there is none
abbrev pub first_of_row : Option Row → ℕ → ℕ
first_of_row None place = place
first_of_row (Some row) place = row.first

-- the first place of a row is before this one
abbrev pub row_before : Option Row → ℕ → Bool
row_before None place = false
row_before (Some row) place = nat_lt row.first place

-- the row has two places
abbrev pub row_twice : Option Row → Bool
row_twice None = false
row_twice (Some row) = nat_lt row.first row.last

-- the first place of the one is before the last of the other
abbrev pub row_later : Option Row → Option Row → Bool
row_later (Some own) (Some all) = nat_lt own.first all.last
row_later _ _ = false
