-- The commands as simple commands of `clap`: the options of each. What words such a command takes, and what it takes
-- them for, is `clap`'s own definition.
use Rattle.std.specs.Prelude.{ℕ, true, List, [], ◌∷◌, Some, codes}
use Rattle.clap.specs.Words.{App, Rule, Row, fault_of, matches_of, new_rule}
use Rattle.clap.specs.Simple.{new_shape}
use Rattle.clap.specs.Kinds.{Kinds}
use Rattle.clap.specs.declared.builder.action.ArgAction.TheVariants.{SetTrue}

-- ---- arguments

-- `--NAME VALUE` or `--NAME=VALUE`, which may be left out
abbrev pub option : List ℕ → Rule
option name = record (new_rule name) { long = Some name }

-- the same, which has to be there
abbrev pub needed : List ℕ → Rule
needed name = record (option name) { required = true }

-- the same, with what stands for it where it is left out
abbrev pub defaulted : List ℕ → List ℕ → Rule
defaulted name value = record (option name) { defaults = value ∷ [] }

-- `--NAME`, which has no value
abbrev pub flag : List ℕ → Rule
flag name = record (option name) { action = Some SetTrue }

-- a value with no `--NAME` before it, which has to be there
abbrev pub operand : List ℕ → Rule
operand name = record (new_rule name) { required = true }

-- ---- commands

-- the simple command of this name with these arguments
abbrev pub simple : List ℕ → List Rule → App
simple name rules = record { top = record (new_shape name) { rules = rules }; subs = [] }

unfoldable pub sim : App
sim = simple (codes "sim") (flag (codes "wire") ∷ [])

unfoldable pub load : App
load = simple (codes "load") (operand (codes "calls") ∷ [])

unfoldable pub serve : App
serve = simple (codes "serve")
    (needed (codes "keys") ∷ needed (codes "port") ∷ needed (codes "conns") ∷ option (codes "stop-after") ∷ option (codes "journal") ∷ [])

unfoldable pub call : App
call = simple (codes "call")
    (needed (codes "keys") ∷ needed (codes "key") ∷ needed (codes "port") ∷ needed (codes "form") ∷ flag (codes "obfuscate")
    ∷ defaulted (codes "retries") (codes "0") ∷ option (codes "perm") ∷ [])

unfoldable pub pair : App
pair = simple (codes "pair")
    (needed (codes "keys") ∷ needed (codes "key") ∷ needed (codes "port") ∷ needed (codes "stop-after") ∷ [])

unfoldable pub check : App
check = simple (codes "check") []

unfoldable pub relay : App
relay = simple (codes "relay") (needed (codes "secret") ∷ needed (codes "form") ∷ [])

-- ---- words

-- the kinds of error that a simple command may give at the words, the first of which is its name: none where it takes them
unfoldable pub faults : App → List (List ℕ) → Kinds
faults app words = fault_of app words

-- what it takes the words for: a row for each argument that is there or has a default
unfoldable pub rows : App → List (List ℕ) → List Row
rows app words = matches_of app words
