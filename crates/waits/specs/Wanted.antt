-- What a search looks for: words of private contracts, which are no promise of this crate.
use Rattle.std.specs.Prelude.{Bool, ◌&&◌, nat_le}
use Rattle.waits.specs.declared.stamped.Stamped.{Stamped}
use Rattle.waits.specs.declared.wanted.Wanted.{Wanted}
use Rattle.waits.specs.declared.wanted.Wanted.TheVariants.{Failed, Overdue, Ready, Call, Waiter}
use Rattle.waits.specs.Jobs.{has_failed, is_overdue, is_ready, is_call, waits_for}

-- a job is what is looked for
abbrev pub is_wanted : Wanted → Stamped → Bool
is_wanted Failed x = has_failed x.one
is_wanted (Overdue now) x = is_overdue now x.one
is_wanted (Ready least) x = nat_le least x.stamp && is_ready x.one
is_wanted (Call key session number) x = is_call key session number x.one
is_wanted (Waiter key session number) x = waits_for key session number x.one
