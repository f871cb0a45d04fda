-- What a write takes.
use Rattle.std.specs.Prelude.{◌≡◌, ℕ, zero, suc, ◌<◌, ◌≤◌, ◌-◌, List, Option, None, Some, [], ◌++◌, length, take}
use Rattle.mt_edge.specs.declared.sink.Put.{Put}
use Rattle.mt_edge.specs.declared.sink.Put.TheVariants.{Took, Failed}
use Rattle.mt_edge.specs.Faults.{one_more}
use Rattle.std.specs.Io.KnownBytes.{Appends}

-- a write takes at least one byte, and no more than the piece has
abbrev pub IsWithin : Put → ℕ → Type 0
IsWithin (Took n) piece = (0 < n) × (n ≤ piece)
IsWithin Failed piece = Unit {0}

-- a write of this piece, by the bytes that were written before it and are written after it
abbrev pub TakesOver : Put → List ℕ → List ℕ → List ℕ → Type 0
TakesOver (Took n) piece before after = after ≡ before ++ take n piece
TakesOver Failed piece before after = after ≡ before

-- the bytes that a write of this piece took
abbrev pub taken : Put → List ℕ → List ℕ
taken (Took n) piece = take n piece
taken Failed piece = []

-- a failed write is one more fault, and no other write is a fault
abbrev pub Counts : Put → ℕ → ℕ → Type 0
Counts (Took n) before after = after ≡ before
Counts Failed before after = after ≡ one_more before

-- a write of this piece, by the bytes that a writer of std held before it and holds after it, and by how many of them no flush
-- followed: of a write that failed since its flush did, those that the writer took
abbrev pub TakesFrom : Put → ℕ → List ℕ → Option (List ℕ) → Option (List ℕ) → Type 0
TakesFrom (Took n) unflushed piece before after = (unflushed ≡ 0) × Appends before after (take n piece)
TakesFrom Failed unflushed piece before after = Appends before after (take unflushed piece)

-- the bytes that a writer of std holds, but for the last ones, behind which there was no flush
abbrev pub flushed : ℕ → Option (List ℕ) → Option (List ℕ)
flushed zero held = held
flushed (suc n) None = None
flushed (suc n) (Some bytes) = Some (take (length bytes - suc n) bytes)

-- the same of a write without that number: what a writer took of a piece is a front of it, and it took that once
abbrev pub TakesFront : Put → List ℕ → Option (List ℕ) → Option (List ℕ) → Type 0
TakesFront (Took n) piece before after = Appends before after (take n piece)
TakesFront Failed piece before after = (count : ℕ) × Appends before after (take count piece)
