-- The faults that a net counts over its calls.
use Rattle.std.specs.Prelude.{◌≡◌, ℕ, List, [], ◌∷◌, ◌++◌}
use Rattle.mt_edge.specs.Faults.{one_more}
use Rattle.mt_edge.specs.declared.act.Act.TheVariants.{Ready, Failed as NotDone}
use Rattle.mt_edge.specs.declared.net_call.NetCall.{NetCall}
use Rattle.mt_edge.specs.declared.net_call.NetCall.TheVariants.{Listen, Connect, Accept}
use Rattle.mt_edge.specs.declared.net_call.Outcome.{Outcome}
use Rattle.mt_edge.specs.declared.net_call.Outcome.TheVariants.{Failed, Open, Done}

-- the count after an attempt: one more where it failed
abbrev pub count_attempt : Outcome → ℕ → ℕ
count_attempt Failed faults = one_more faults
count_attempt Open faults = faults
count_attempt (Done told count) faults = faults

-- the count after a call
abbrev pub count_call : NetCall → ℕ → ℕ
count_call (Listen port Ready) faults = faults
count_call (Listen port NotDone) faults = one_more faults
count_call (Connect port outcome) faults = count_attempt outcome faults
count_call (Accept outcome) faults = count_attempt outcome faults

-- the count after these calls
abbrev pub count_calls : List NetCall → ℕ → ℕ
count_calls [] faults = faults
count_calls (call ∷ calls) faults = count_calls calls (count_call call faults)

-- by what a net told before and after, and by its counts: the faults after are those before, and one for each attempt between
-- that failed
pub record Counted (before after : List NetCall) (faults faults_then : ℕ) : Type 0 where
  pub made : List NetCall
  pub whole : after ≡ before ++ made
  pub count : faults_then ≡ count_calls made faults
