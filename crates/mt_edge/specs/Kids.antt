-- What a spawner tells: the list of its calls.
use Rattle.std.specs.Prelude.{◌≡◌, ◌≢◌, ℕ, List, [], ◌∷◌, ◌++◌, ◌⊎◌, Option, IsSomeAnd}
use Rattle.mt_edge.specs.Faults.{one_more}
use Rattle.mt_edge.specs.declared.act.Act.{Act}
use Rattle.mt_edge.specs.declared.act.Act.TheVariants.{Ready, Failed as NotDone}
use Rattle.mt_edge.specs.declared.spawner.Line.{Line}
use Rattle.mt_edge.specs.declared.spawner.Line.TheVariants.{Text, End, Failed, Memory}
use Rattle.mt_edge.specs.declared.kid_call.KidCall.{KidCall}
use Rattle.mt_edge.specs.declared.mem_kids.MemKid.{MemKid}

-- a call that failed is noted, or leaves the record as it was
abbrev pub MayNote : KidCall → List KidCall → List KidCall → Type 0
MayNote call before after = (after ≡ before ++ call ∷ []) ⊎ (after ≡ before)

-- a start or a wait with this answer is noted
abbrev pub NotesAct : Act → KidCall → List KidCall → List KidCall → Type 0
NotesAct Ready call before after = after ≡ before ++ call ∷ []
NotesAct NotDone call before after = MayNote call before after

-- a read of a line with this answer is noted
abbrev pub NotesLine : Line → KidCall → List KidCall → List KidCall → Type 0
NotesLine (Text line) call before after = after ≡ before ++ call ∷ []
NotesLine End call before after = after ≡ before ++ call ∷ []
NotesLine Failed call before after = MayNote call before after
NotesLine Memory call before after = after ≡ before ++ call ∷ []

-- a failed read of a line is one more fault, and no other is a fault
abbrev pub Counts : Line → ℕ → ℕ → Type 0
Counts (Text line) before after = after ≡ before
Counts End before after = after ≡ before
Counts Failed before after = after ≡ one_more before
Counts Memory before after = after ≡ before

-- a wait for a child that ended with this status
abbrev pub Ends : ℕ → Act → Type 0
Ends status answer = (status ≡ 0 → answer ≡ Ready) × (status ≢ 0 → answer ≡ NotDone)

-- a start, by the children that weren't started before it and after it, and by the one that was started last: the last child of
-- the list is started, or there is none, and nothing changes
abbrev pub Begins : Act → List MemKid → List MemKid → Option MemKid → Option MemKid → Type 0
Begins Ready kids rest last started = IsSomeAnd started (λ kid. kids ≡ rest ++ kid ∷ [])
Begins NotDone kids rest last started = (kids ≡ []) × (rest ≡ []) × (started ≡ last)

-- a read of a line, by the lines that were left before it and are left after it, the last one first: for want of memory they stay
abbrev pub Pops : Line → List (List ℕ) → List (List ℕ) → Type 0
Pops (Text line) lines rest = lines ≡ rest ++ line ∷ []
Pops End lines rest = (lines ≡ []) × (rest ≡ [])
Pops Failed lines rest = ⊥
Pops Memory lines rest = rest ≡ lines
