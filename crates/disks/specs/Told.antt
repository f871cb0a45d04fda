-- What a disk tells.
use Rattle.std.specs.Prelude.{◌≡◌, ℕ, ◌≤◌, List, [], ◌∷◌, ◌++◌, ◌⊎◌, take, length}
use Rattle.mt_edge.specs.Faults.{one_more}
use Rattle.mt_edge.specs.declared.act.Act.{Act}
use Rattle.mt_edge.specs.declared.act.Act.TheVariants.{Ready, Failed}
use Rattle.disks.specs.declared.disk_len.DiskLen.{DiskLen}
use Rattle.disks.specs.declared.disk_len.DiskLen.TheVariants.{Len, Failed as NoLen}
use Rattle.disks.specs.declared.disk_act.DiskAct.{DiskAct}
use Rattle.disks.specs.declared.disk_act.DiskAct.TheVariants.{Sync}
use Rattle.disks.specs.Crash.{Standing, MayLeave, after_act, after_acts}

-- a file by what a read gives, and by all that was asked for since some moment
pub record DiskTold : Type 0 where
  -- what a read gives now
  pub contents : List ℕ
  -- the moment from which on the acts are told
  pub first : Standing
  -- the acts since, in order: a failed one too, unless it surely did nothing
  pub acts : List DiskAct

-- the moment after the first n of the acts
abbrev pub moment : DiskTold → ℕ → Standing
moment told n = after_acts told.first (take n told.acts)

-- now
abbrev pub now : DiskTold → Standing
now told = after_acts told.first told.acts

-- a crash at some moment since the one after the first n acts may have left this
pub record MayHaveLeft (since : ℕ) (told : DiskTold) (bytes : List ℕ) : Type 0 where
  pub at : ℕ
  pub from : since ≤ at
  pub to : at ≤ length told.acts
  pub left : MayLeave (moment told at) bytes

-- an act is noted, and the moment after it is now
pub record Noted (act : DiskAct) (before after : DiskTold) : Type 0 where
  pub acts : after.acts ≡ before.acts ++ act ∷ []
  pub stands : now after ≡ after_act (now before) act

-- what a call that changes the file comes to: done, it is noted, and a read gives these bytes; failed, it may be noted
abbrev pub Does : Act → DiskAct → List ℕ → DiskTold → DiskTold → Type 0
Does Ready act contents before after = Noted act before after × (after.contents ≡ contents)
Does Failed act contents before after = Noted act before after ⊎ (after.acts ≡ before.acts)

-- a call that changes the file
pub record Changes (answer : Act) (act : DiskAct) (contents : List ℕ) (before after : DiskTold) : Type 0 where
  pub first : after.first ≡ before.first
  pub does : Does answer act contents before after
  -- what a read gives is one of the contents that a crash now may leave
  pub possible : MayLeave (now after) after.contents

-- what a sync comes to: done, the file is as a read gives it; failed, it is as if there had been none
abbrev pub Settles : Act → DiskTold → DiskTold → Type 0
Settles Ready before after = Noted (Sync before.contents) before after × (after.contents ≡ before.contents)
Settles Failed before after = after.acts ≡ before.acts

-- a sync
pub record Syncs (answer : Act) (before after : DiskTold) : Type 0 where
  pub first : after.first ≡ before.first
  pub settles : Settles answer before after
  pub possible : MayLeave (now after) after.contents

-- P says something of the length, where there is one
abbrev pub IfLen : DiskLen → (ℕ → Type 0) → Type 0
IfLen (Len len) P = P len
IfLen NoLen P = Unit {0}

-- a failed call for the length is one more fault, and no other is a fault
abbrev pub Counts : DiskLen → ℕ → ℕ → Type 0
Counts (Len len) before after = after ≡ before
Counts NoLen before after = after ≡ one_more before
