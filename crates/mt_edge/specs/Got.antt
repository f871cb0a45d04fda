-- What a read gives.
use Rattle.std.specs.Prelude.{◌≡◌, ℕ, ◌<◌, ◌≤◌, List, [], ◌++◌, take}
use Rattle.mt_edge.specs.declared.source.Got.{Got}
use Rattle.mt_edge.specs.declared.source.Got.TheVariants.{Bytes, End, Failed}
use Rattle.mt_edge.specs.Faults.{one_more}

-- a read gives at least one byte, and no more than there was room for
abbrev pub IsWithin : Got → ℕ → Type 0
IsWithin (Bytes n) room = (0 < n) × (n ≤ room)
IsWithin End room = Unit {0}
IsWithin Failed room = Unit {0}

-- a read into this buffer, by the bytes that were left before it and are left after it
abbrev pub HandsOver : Got → List ℕ → List ℕ → List ℕ → Type 0
HandsOver (Bytes n) buffer before after = before ≡ take n buffer ++ after
HandsOver End buffer before after = (before ≡ []) × (after ≡ [])
HandsOver Failed buffer before after = after ≡ before

-- the bytes that a read into this buffer handed over
abbrev pub handed : Got → List ℕ → List ℕ
handed (Bytes n) buffer = take n buffer
handed End buffer = []
handed Failed buffer = []

-- a failed read is one more fault, and no other read is a fault
abbrev pub Counts : Got → ℕ → ℕ → Type 0
Counts (Bytes n) before after = after ≡ before
Counts End before after = after ≡ before
Counts Failed before after = after ≡ one_more before
