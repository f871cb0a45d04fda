-- Words of private contracts, which are no promise of this crate.
use Rattle.std.specs.Prelude.{◌≡◌, ℕ, List, [], ⊤}
use Rattle.clap.specs.Words.{App, Row}
use Rattle.commands.specs.Simple.{faults, rows}
use Rattle.commands.specs.declared.command.WordsFault.{WordsFault}
use Rattle.commands.specs.declared.command.WordsFault.TheVariants.{Refused}

-- the simple command takes the words, and they tell it this
pub record IsTold {T : Type 0} (app : App) (Tells : List Row → T → Type 0) (words : List (List ℕ)) (told : T) : Type 0 where
  pub taken : faults app words ≡ []
  pub tells : Tells (rows app words) told

-- memory ran out, or they tell it nothing
abbrev pub RefusesUnlessMemory : {T : Type 0} → App → (List Row → T → Type 0) → List (List ℕ) → WordsFault → Type 0
RefusesUnlessMemory {T} app Tells words fault = fault ≡ Refused → (told : T) → IsTold app Tells words told → ⊥

-- of a command without options
abbrev pub SaysNothing : List Row → Unit {0} → Type 0
SaysNothing rows told = ⊤
