-- Scaffolding, and no promise: the registers of each start.
use Rattle.std.specs.Prelude.{◌≡◌, ◌==◌, ◌&&◌, ℕ, true, if◌then◌else◌, unwrap_or}
use Rattle.std.specs.BTreeMap.{BTreeMap, get}
use Rattle.std.specs.Ordering.{nat_cmp}
use Rattle.regs_service.specs.Registers.{Sums, fresh, step}
use Rattle.trace_check.specs.declared.fact.Entry.{Entry}
use Rattle.trace_check.specs.declared.fact.Fact.{Fact}
use Rattle.trace_check.specs.declared.fact.Fact.TheVariants as fact

-- the state in a start, which is fresh where there is none
abbrev pub state_of : BTreeMap ℕ Sums → ℕ → Sums
state_of services start = unwrap_or (get nat_cmp services start) fresh

-- the state in a start behind a line
abbrev pub state_with : ℕ → Sums → Fact → Sums
state_with start state (fact.Entry entry) = if (entry.start == start) && entry.ran then (step state entry.request).1 else state
state_with start state _ = state

-- the line is no entry that ran, or has the reply of the registers of its start
abbrev pub IsRight : BTreeMap ℕ Sums → Fact → Type 0
IsRight services line = (entry : Entry) → line ≡ fact.Entry entry → entry.ran ≡ true → entry.reply ≡ (step (state_of services entry.start) entry.request).0

-- the state in a start, where that of another start is now this one
abbrev pub with_state : ℕ → ℕ → Sums → Sums → Sums
with_state changed start new old = if changed == start then new else old
