-- Acts.
use Rattle.std.specs.Prelude.{◌≡◌, ℕ}
use Rattle.mt_edge.specs.declared.act.Act.{Act}
use Rattle.mt_edge.specs.declared.act.Act.TheVariants.{Ready, Failed}
use Rattle.mt_edge.specs.Faults.{one_more}

-- a failed act is one more fault, and no other act is a fault
abbrev pub Counts : Act → ℕ → ℕ → Type 0
Counts Ready before after = after ≡ before
Counts Failed before after = after ≡ one_more before
