-- What a summary counts.
use Rattle.std.specs.Prelude.{ℕ, ◌+◌, Bool, if◌then◌else◌, List, ◌++◌, codes, decimal, length}
use Rattle.call_table.specs.Table.{Call, State}
use Rattle.world_rules.specs.Report.{count_of, is_done, is_refused, is_unknown}

-- how many calls there are, how many of them are done, how many are refused, and of how many nothing is known
pub record Tally : Type 0 where
  pub calls : ℕ
  pub done : ℕ
  pub refused : ℕ
  pub unknown : ℕ

abbrev pub tally_of : List Call → Tally
tally_of calls =
    record {
      calls = length calls;
      done = count_of is_done calls;
      refused = count_of is_refused calls;
      unknown = count_of is_unknown calls;
    }

-- one more, in this state
abbrev pub more_if : Bool → ℕ → ℕ
more_if is count = if is then count + 1 else count

abbrev pub counted : State → Tally → Tally
counted state tally =
    record {
      calls = tally.calls + 1;
      done = more_if (is_done state) tally.done;
      refused = more_if (is_refused state) tally.refused;
      unknown = more_if (is_unknown state) tally.unknown;
    }

abbrev pub calls_part : Tally → List ℕ
calls_part tally =
    codes "calls " ++ decimal tally.calls ++ codes " done " ++ decimal tally.done ++ codes " refused " ++ decimal tally.refused
    ++ codes " unknown " ++ decimal tally.unknown

-- the line of a summary, of the calls, of the entries that ran, of the packets and of their bytes
abbrev pub tally_line : Tally → ℕ → ℕ → ℕ → List ℕ
tally_line tally runs packets bytes =
    calls_part tally ++ codes " runs " ++ decimal runs ++ codes " packets " ++ decimal packets
    ++ codes " bytes " ++ decimal bytes ++ codes "\n"
