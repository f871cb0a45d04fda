-- Packets that wait to be handed out.
use Rattle.std.specs.Prelude.{◌≡◌, List, ◌∷◌, ◌++◌}
use Rattle.server_output.specs.declared.outs.Out.{Out}

-- those among which there is room, and those behind them
pub record Line : Type 0 where
  pub front : List Out
  pub behind : List Out

abbrev pub all_in : Line → List Out
all_in line = line.front ++ line.behind

-- it is the first of these
abbrev pub IsFirst : Out → List Out → Type 0
IsFirst out outs = (rest : List Out) × (outs ≡ out ∷ rest)
