-- What the program promises, by the command that the words say.
use Rattle.std.specs.Prelude.{◌≡◌, Bool, List, ℕ}
use Rattle.cmd_call.specs.Owed.{Around, Files, IsIdle}
use Rattle.cmd_call.specs.Runs.{CallRun}
use Rattle.cmd_check.specs.Runs.{CheckRun}
use Rattle.cmd_pair.specs.Runs.{PairRun}
use Rattle.cmd_pair.specs.Servers.{Kids}
use Rattle.cmd_relay.specs.Runs.{RelayRun}
use Rattle.commands.specs.Pages.{page_text, version_text}
use Rattle.commands.specs.Says.{Says}
use Rattle.commands.specs.declared.command.CallOptions.{CallOptions}
use Rattle.commands.specs.declared.command.Command.{Command}
use Rattle.commands.specs.declared.command.Command.TheVariants as command
use Rattle.commands.specs.declared.command.PairOptions.{PairOptions}
use Rattle.commands.specs.declared.command.RelayOptions.{RelayOptions}
use Rattle.commands.specs.declared.command.ServeOptions.{ServeOptions}
use Rattle.disks.specs.Named.{NamesTold}
use Rattle.mt_edge.specs.declared.net_call.NetCall.{NetCall}
use Rattle.cmd_sim.specs.Runs.{LoadRun, SimRun}
use Rattle.cmd_serve.specs.Journals.{Drawing}
use Rattle.cmd_serve.specs.Runs.{Draws, Moments, ServeRun}
use Rattle.statuses.specs.Outside.{IsUntouched, Outside, Part, PlainRun}
use Rattle.statuses.specs.declared.status.Status.{Status}
use Rattle.statuses.specs.declared.status.Status.TheVariants as status

-- ---- what a run leaves alone

-- the words say no command that reads the input
pub record AreWithoutInput (words : List (List ℕ)) : Type 0 where
  pub no_sim : (wire : Bool) → Says words (command.Sim wire) → ⊥
  pub no_call : (options : CallOptions) → Says words (command.Call options) → ⊥
  pub no_pair : (options : PairOptions) → Says words (command.Pair options) → ⊥
  pub no_check : Says words command.Check → ⊥
  pub no_relay : (options : RelayOptions) → Says words (command.Relay options) → ⊥

-- the words say no command that connects to anything or is connected to
pub record AreOffline (words : List (List ℕ)) : Type 0 where
  pub no_serve : (options : ServeOptions) → Says words (command.Serve options) → ⊥
  pub no_call : (options : CallOptions) → Says words (command.Call options) → ⊥
  pub no_pair : (options : PairOptions) → Says words (command.Pair options) → ⊥

-- the words don't say `pair`
abbrev pub AreWithoutChildren : List (List ℕ) → Type 0
AreWithoutChildren words = (options : PairOptions) → Says words (command.Pair options) → ⊥

-- the words don't say `serve`
abbrev pub AreWithoutDisks : List (List ℕ) → Type 0
AreWithoutDisks words = (options : ServeOptions) → Says words (command.Serve options) → ⊥

-- files, net, clock and drawn words are as they were
pub record IsApart {F N C D : Type 0} (files : Files F) (around : Around N C D) : Type 0 where
  pub files_stay : files.after ≡ files.before
  pub idle : IsIdle around

-- memory ran out while the words were read: nothing is written, and the command wasn't begun
pub record IsUnbegun {O F N C D : Type 0} (out : Outside O) (files : Files F) (around : Around N C D) (one : Status) : Type 0 where
  pub said : one ≡ status.Memory
  pub unwritten : IsUntouched out
  pub apart : IsApart files around

-- ---- what a run does

abbrev pub net_part : {N C D : Type 0} → Around N C D → Part (List NetCall) N
net_part around = record { told = around.calls; faults = around.faults; before = around.net; after = around.net_then }

abbrev pub moments_of : {N C D : Type 0} → Around N C D → Moments
moments_of around = record { before = around.given around.clock; after = around.given around.clock_then }

abbrev pub draws_of : {N C D : Type 0} → Around N C D → Draws D
draws_of around = record { before = around.draw; after = around.draw_then }

abbrev pub Obeys : {S O F N C D P K : Type 0} → Drawing D → Command → Outside S → Outside O → Files F → Around N C D → Kids P → Part NamesTold K → Status → Type 0
Obeys drawing (command.Sim wire) input out files around kids disks one = SimRun wire input out one
Obeys drawing (command.Load calls) input out files around kids disks one = LoadRun calls out one
Obeys drawing (command.Serve options) input out files around kids disks one = ServeRun drawing options files (net_part around) out (moments_of around) (draws_of around) disks one
Obeys drawing (command.Call options) input out files around kids disks one = CallRun options input out files around one
Obeys drawing (command.Pair options) input out files around kids disks one = PairRun options input out files around kids one
Obeys drawing command.Check input out files around kids disks one = CheckRun input out one
Obeys drawing (command.Relay options) input out files around kids disks one = RelayRun options.form options.secret input out one
Obeys drawing (command.Help page) input out files around kids disks one = PlainRun out status.Done (page_text page) one
Obeys drawing command.Version input out files around kids disks one = PlainRun out status.Done version_text one

-- no call of the spawner was made
abbrev pub IsAlone : {P : Type 0} → Kids P → Type 0
IsAlone kids = kids.after ≡ kids.before

-- no file of a journal was opened
abbrev pub IsUnopened : {K : Type 0} → Part NamesTold K → Type 0
IsUnopened disks = disks.after ≡ disks.before

-- what a command leaves alone
abbrev pub Stays : {S F N C D P K : Type 0} → Command → Outside S → Files F → Around N C D → Kids P → Part NamesTold K → Type 0
Stays (command.Sim wire) input files around kids disks = IsApart files around × IsAlone kids × IsUnopened disks
Stays (command.Load calls) input files around kids disks = IsUntouched input × IsApart files around × IsAlone kids × IsUnopened disks
Stays (command.Serve options) input files around kids disks = IsUntouched input × IsAlone kids
Stays (command.Call options) input files around kids disks = IsAlone kids × IsUnopened disks
Stays (command.Pair options) input files around kids disks = IsUnopened disks
Stays command.Check input files around kids disks = IsApart files around × IsAlone kids × IsUnopened disks
Stays (command.Relay options) input files around kids disks = IsApart files around × IsAlone kids × IsUnopened disks
Stays (command.Help page) input files around kids disks = IsUntouched input × IsApart files around × IsAlone kids × IsUnopened disks
Stays command.Version input files around kids disks = IsUntouched input × IsApart files around × IsAlone kids × IsUnopened disks
