-- What `sim` owes to the bytes of its input.
use Rattle.std.specs.Prelude.{◌≡◌, ◌≤◌, ◌⊎◌, ℕ, Bool, Some, None, List, length}
use Rattle.sched_text.specs.declared.schedule.Placed.{Placed}
use Rattle.sched_text.specs.Schedule.{HasBadLine, Spells}
use Rattle.world_rules.specs.Once.{InOrder, Once}
use Rattle.world_rules.specs.Refusals.{Refusal, NumbersSpent}
use Rattle.world_rules.specs.Report.{refusal_text, whole_report}
use Rattle.law_order.specs.Numbers.{GivesOnce, SaysNo19}
use Rattle.statuses.specs.declared.status.Status.{Status}
use Rattle.statuses.specs.declared.status.Status.TheVariants as status
use Rattle.statuses.specs.Lines.{IsTooLong, bad_line, input_bytes_max, refusal_line}
use Rattle.cmd_sim.specs.Worlds.{sim_refused, sim_setting, sim_world}

-- ---- a lawful schedule

-- the text spells these events, and none of them is refused
pub record IsLawful (text : List ℕ) (events : List Placed) : Type 0 where
  pub short : length text ≤ input_bytes_max
  pub schedule : Spells text events
  pub lawful : sim_refused events ≡ None

-- the report of their world, and with `--wire` the line on all packets
abbrev pub report_of : Bool → List Placed → List ℕ
report_of wire events = whole_report sim_setting wire (sim_world events)

-- in it each call executed at most once, as its client sent it, and what is told of it is so; what ran of a call with an
-- earlier call ran behind that one; no client gave one number to two messages under one session number; and no packet of the
-- server has notice 19
pub record ExecutesOnce (events : List Placed) : Type 0 where
  pub once : Once sim_setting (sim_world events)
  pub in_order : InOrder (sim_world events)
  pub numbers : GivesOnce (sim_world events)
  pub no_notice_19 : SaysNo19 (sim_world events)

-- ---- any other text

-- the first line outside the grammar
pub record HasBadLineAt (text : List ℕ) (line : ℕ) (due : List ℕ) : Type 0 where
  pub short : length text ≤ input_bytes_max
  pub bad : HasBadLine text line
  pub told : due ≡ bad_line line

-- else the line of the first event that is refused
pub record IsRefusedAt (text : List ℕ) (events : List Placed) (line : ℕ) (refusal : Refusal) (due : List ℕ) : Type 0 where
  pub short : length text ≤ input_bytes_max
  pub schedule : Spells text events
  pub refused : sim_refused events ≡ Some (line, refusal)
  pub told : due ≡ refusal_line line (refusal_text refusal)

-- the status of a refusal: where a client has too few numbers left it is one of its own
abbrev pub status_of : Refusal → Status
status_of NumbersSpent = status.NumbersSpent
status_of refusal = status.InputRefused

-- ---- the text that is due

-- the text is a lawful schedule, this is the report of its world, and of that `ExecutesOnce` holds
abbrev pub Reported : Bool → List ℕ → List ℕ → Type 0
Reported wire text due = (events : List Placed) × IsLawful text events × (due ≡ report_of wire events) × ExecutesOnce events

-- the text is no lawful schedule for another cause than spent numbers, and this says why
abbrev pub IsRefused : List ℕ → List ℕ → Type 0
IsRefused text due =
    IsTooLong text due
    ⊎ ((line : ℕ) × HasBadLineAt text line due)
    ⊎ ((events : List Placed) × (line : ℕ) × (refusal : Refusal) × IsRefusedAt text events line refusal due
    × (status_of refusal ≡ status.InputRefused))

-- the first event that is refused is so because a client has too few numbers left, and this says where
abbrev pub RunsOut : List ℕ → List ℕ → Type 0
RunsOut text due = (events : List Placed) × (line : ℕ) × IsRefusedAt text events line NumbersSpent due

-- this status and this text are due to the input
abbrev pub Owes : Bool → List ℕ → Status → List ℕ → Type 0
Owes wire text one due =
    ((one ≡ status.Done) × Reported wire text due)
    ⊎ ((one ≡ status.InputRefused) × IsRefused text due)
    ⊎ ((one ≡ status.NumbersSpent) × RunsOut text due)

-- this text is due to it, with some status
abbrev pub IsDue : Bool → List ℕ → List ℕ → Type 0
IsDue wire text due = (one : Status) × Owes wire text one due

-- a status with which an answer of `sim` comes
abbrev pub IsOfSim : Status → Type 0
IsOfSim one = (one ≡ status.Done) ⊎ (one ≡ status.InputRefused) ⊎ (one ≡ status.NumbersSpent)
