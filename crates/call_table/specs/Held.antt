-- Scaffolding, no promise: how the orders beside the rows are held.
use Rattle.std.specs.Prelude.{◌≡◌, ℕ, zero, suc, ◌+◌, ◌<◌, ◌≤◌, Bool, false, nat_lt, ◌==◌, if◌then◌else◌, Option, Some, None, IfSome, List, [], ◌∷◌, map, length}
use Rattle.std.specs.List.{AllByRecursion}
use Rattle.call_table.specs.declared.names.Named.{Named}
use Rattle.std.specs.VecDeque.{deque_capacity}
use Rattle.call_table.specs.declared.row.Row.{Row}
use Rattle.call_table.specs.declared.groups.Groups.{Groups}
use Rattle.call_table.specs.declared.call.Group.{Group}
use Rattle.call_table.specs.declared.call.Group.TheVariants as group
use Rattle.call_table.specs.Table.{calls_max, acks_max, packets_max, is_sent, no_flags, places_from, IsEarlier}
use Rattle.call_table.specs.Kept.{number_in, is_row_in, state_of}

-- each of these numbers is above this one
abbrev pub IsAbove : ℕ → List ℕ → Type 0
IsAbove floor [] = Unit {0}
IsAbove floor (number ∷ numbers) = (floor < number) × IsAbove floor numbers

-- each number is above those before it
abbrev pub Rises : List ℕ → Type 0
Rises [] = Unit {0}
Rises (number ∷ numbers) = IsAbove number numbers × Rises numbers

-- how many numbers stand before the first one that is at least this one
abbrev pub place : ℕ → List ℕ → ℕ
place number [] = 0
place number (first ∷ others) = if nat_lt first number then place number others + 1 else 0

-- a place enters an ascending list of places, or leaves it
abbrev pub with_member : ℕ → Bool → List ℕ → List ℕ
with_member member enters [] = if enters then member ∷ [] else []
with_member member enters (first ∷ others) =
    if nat_lt first member then first ∷ with_member member enters others
    else (if first == member then (if enters then first ∷ others else others)
    else (if enters then member ∷ (first ∷ others) else first ∷ others))

-- the place of the row that is named so
abbrev pub found : ℕ → List Named → Option ℕ
found number [] = None
found number (one ∷ others) = if one.number == number then Some one.place else found number others

-- the names without that number
abbrev pub without : ℕ → List Named → List Named
without number [] = []
without number (one ∷ others) = if one.number == number then others else one ∷ without number others

abbrev pub without_own : Option ℕ → List Named → List Named
without_own None names = names
without_own (Some number) names = without number names

-- under which number the call at a place is outstanding
abbrev pub number_at : ℕ → List Row → Option ℕ
number_at place [] = None
number_at zero (row ∷ rows) = number_in row.progress
number_at (suc place) (row ∷ rows) = number_at place rows

-- the living numbers with the places of their calls
pub record IsIndexed (rows : List Row) (names : List Named) : Type 0 where
  pub rising : Rises (map (λ one. one.number) names)
  pub sound : AllByRecursion (λ one. number_at one.place rows ≡ Some one.number) names
  pub complete : (place number : ℕ) → number_at place rows ≡ Some number → found number names ≡ Some place

-- the places of a group, and how many it has room for
abbrev pub places_in : Group → Groups → List ℕ
places_in group.Queued groups = groups.queued.items
places_in group.Outstanding groups = groups.outstanding.items
places_in group.Held groups = groups.held.items
places_in group.Alone groups = groups.alone.items
places_in group.Dropping groups = groups.dropping.items

abbrev pub capacity_in : Group → Groups → ℕ
capacity_in group.Queued groups = deque_capacity groups.queued
capacity_in group.Outstanding groups = deque_capacity groups.outstanding
capacity_in group.Held groups = deque_capacity groups.held
capacity_in group.Alone groups = deque_capacity groups.alone
capacity_in group.Dropping groups = deque_capacity groups.dropping

-- the places of each group are those of its calls
abbrev pub AreGrouped : List Row → Groups → Type 0
AreGrouped rows groups = (group : Group) → places_in group groups ≡ places_from (is_row_in group) 0 rows

-- each group has room for more places than these
abbrev pub HaveRoom : ℕ → Groups → Type 0
HaveRoom count groups = (group : Group) → count < capacity_in group groups

-- where a call isn't sent, nothing is to be done about it
abbrev pub IsUnmarked : Row → Type 0
IsUnmarked row = is_sent (state_of row.progress) ≡ false → row.flags ≡ no_flags

-- each call that follows another follows an earlier one
abbrev pub FollowEarlier : ℕ → List Row → Type 0
FollowEarlier place [] = Unit {0}
FollowEarlier place (row ∷ rows) = IfSome row.after (IsEarlier place) × FollowEarlier (place + 1) rows

-- what stands beside the rows
pub record IsHeld (rows : List Row) (names : List Named) (groups : Groups) (acks_capacity packets_capacity : ℕ) : Type 0 where
  pub indexed : IsIndexed rows names
  pub unmarked : AllByRecursion IsUnmarked rows
  pub earlier : FollowEarlier 0 rows
  pub grouped : AreGrouped rows groups
  pub group_room : HaveRoom (length rows) groups
  pub few : length rows ≤ calls_max
  pub acks : acks_capacity ≡ acks_max
  pub packets : packets_capacity ≡ packets_max
