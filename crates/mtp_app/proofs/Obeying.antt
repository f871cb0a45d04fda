-- What a run promises, by the command that was carried out.
use Rattle.std.proofs.Common.{◌≡◌, ◌⊎◌, ℕ, List, Bool, inl, subst}
use Rattle.cmd_call.specs.Owed.{Around, Files}
use Rattle.cmd_call.specs.Runs.{CallRun}
use Rattle.cmd_check.specs.Runs.{CheckRun}
use Rattle.cmd_pair.specs.Runs.{PairRun}
use Rattle.cmd_pair.specs.Servers.{Kids}
use Rattle.cmd_relay.specs.Runs.{RelayRun}
use Rattle.commands.specs.Pages.{page_text, version_text}
use Rattle.commands.specs.Says.{Says}
use Rattle.commands.specs.declared.command.CallOptions.{CallOptions}
use Rattle.commands.specs.declared.command.Command.{Command}
use Rattle.commands.specs.declared.command.Command.TheVariants as command
use Rattle.commands.specs.declared.command.PairOptions.{PairOptions}
use Rattle.commands.specs.declared.command.RelayOptions.{RelayOptions}
use Rattle.commands.specs.declared.command.ServeOptions.{ServeOptions}
use Rattle.commands.specs.declared.page.Page.{Page}
use Rattle.cmd_sim.specs.Runs.{LoadRun, SimRun}
use Rattle.cmd_serve.specs.Journals.{Drawing}
use Rattle.cmd_serve.specs.Runs.{ServeRun}
use Rattle.disks.specs.Named.{NamesTold}
use Rattle.statuses.specs.Outside.{IsUntouched, Outside, Part, PlainRun}
use Rattle.statuses.specs.Statuses.{EndsBy, number_of}
use Rattle.statuses.specs.declared.status.Status.{Status}
use Rattle.statuses.specs.declared.status.Status.TheVariants as status
use Rattle.mtp_app.specs.Obeys.{AreOffline, AreWithoutChildren, AreWithoutDisks, AreWithoutInput, IsAlone, IsApart, IsUnbegun, IsUnopened, Obeys, Stays, draws_of, moments_of, net_part}

-- ---- the command was carried out

module _ {S O F N C D P K : Type 0} (drawing : Drawing D) (input : Outside S) (out : Outside O) (files : Files F) (around : Around N C D) (kids : Kids P) (disks : Part NamesTold K) (n : ℕ) (one : Status) (said : Command) (ends : n ≡ number_of one) (obeyed : Obeys drawing said input out files around kids disks one) where
  so : (other : Command) → said ≡ other → Obeys drawing other input out files around kids disks one
  so other same = subst (λ (command : Command). Obeys drawing command input out files around kids disks one) same obeyed

  pub sims : (wire : Bool) → said ≡ command.Sim wire → EndsBy n (SimRun wire input out)
  sims wire same = (one, ends, so (command.Sim wire) same)

  pub loads : (calls : ℕ) → said ≡ command.Load calls → EndsBy n (LoadRun calls out)
  loads calls same = (one, ends, so (command.Load calls) same)

  pub serves : (options : ServeOptions) → said ≡ command.Serve options
      → EndsBy n (λ one. ServeRun drawing options files (net_part around) out (moments_of around) (draws_of around) disks one ⊎ (IsUnbegun out files around one × IsUnopened disks))
  serves options same = (one, ends, inl (so (command.Serve options) same))

  pub calls : (options : CallOptions) → said ≡ command.Call options → EndsBy n (λ one. CallRun options input out files around one ⊎ IsUnbegun out files around one)
  calls options same = (one, ends, inl (so (command.Call options) same))

  pub pairs : (options : PairOptions) → said ≡ command.Pair options
      → EndsBy n (λ one. PairRun options input out files around kids one ⊎ (IsUnbegun out files around one × IsAlone kids))
  pairs options same = (one, ends, inl (so (command.Pair options) same))

  pub checks : said ≡ command.Check → EndsBy n (CheckRun input out)
  checks same = (one, ends, so command.Check same)

  pub relays : (options : RelayOptions) → said ≡ command.Relay options → EndsBy n (RelayRun options.form options.secret input out)
  relays options same = (one, ends, so (command.Relay options) same)

  pub helps : (page : Page) → said ≡ command.Help page → EndsBy n (λ one. PlainRun out status.Done (page_text page) one)
  helps page same = (one, ends, so (command.Help page) same)

  pub tells-version : said ≡ command.Version → EndsBy n (λ one. PlainRun out status.Done version_text one)
  tells-version same = (one, ends, so command.Version same)

-- ---- what it leaves alone

pub reads-not : {S F N C D P K : Type 0} (input : Outside S) (files : Files F) (around : Around N C D) (kids : Kids P) (disks : Part NamesTold K) (words : List (List ℕ)) (said : Command) → Says words said → Stays said input files around kids disks
    → AreWithoutInput words → IsUntouched input
reads-not input files around kids disks words (command.Sim wire) says h not = absurd (not.no_sim wire says)
reads-not input files around kids disks words (command.Load calls) says h not = h.0
reads-not input files around kids disks words (command.Serve options) says h not = h.0
reads-not input files around kids disks words (command.Call options) says h not = absurd (not.no_call options says)
reads-not input files around kids disks words (command.Pair options) says h not = absurd (not.no_pair options says)
reads-not input files around kids disks words command.Check says h not = absurd (not.no_check says)
reads-not input files around kids disks words (command.Relay options) says h not = absurd (not.no_relay options says)
reads-not input files around kids disks words (command.Help page) says h not = h.0
reads-not input files around kids disks words command.Version says h not = h.0

pub stays-apart : {S F N C D P K : Type 0} (input : Outside S) (files : Files F) (around : Around N C D) (kids : Kids P) (disks : Part NamesTold K) (words : List (List ℕ)) (said : Command) → Says words said → Stays said input files around kids disks
    → AreOffline words → IsApart files around
stays-apart input files around kids disks words (command.Sim wire) says h not = h.0
stays-apart input files around kids disks words (command.Load calls) says h not = h.1
stays-apart input files around kids disks words (command.Serve options) says h not = absurd (not.no_serve options says)
stays-apart input files around kids disks words (command.Call options) says h not = absurd (not.no_call options says)
stays-apart input files around kids disks words (command.Pair options) says h not = absurd (not.no_pair options says)
stays-apart input files around kids disks words command.Check says h not = h.0
stays-apart input files around kids disks words (command.Relay options) says h not = h.0
stays-apart input files around kids disks words (command.Help page) says h not = h.1
stays-apart input files around kids disks words command.Version says h not = h.1

pub stays-alone : {S F N C D P K : Type 0} (input : Outside S) (files : Files F) (around : Around N C D) (kids : Kids P) (disks : Part NamesTold K) (words : List (List ℕ)) (said : Command) → Says words said → Stays said input files around kids disks
    → AreWithoutChildren words → IsAlone kids
stays-alone input files around kids disks words (command.Sim wire) says h not = h.1
stays-alone input files around kids disks words (command.Load calls) says h not = h.2
stays-alone input files around kids disks words (command.Serve options) says h not = h.1
stays-alone input files around kids disks words (command.Call options) says h not = h.0
stays-alone input files around kids disks words (command.Pair options) says h not = absurd (not options says)
stays-alone input files around kids disks words command.Check says h not = h.1
stays-alone input files around kids disks words (command.Relay options) says h not = h.1
stays-alone input files around kids disks words (command.Help page) says h not = h.2
stays-alone input files around kids disks words command.Version says h not = h.2

pub stays-unopened : {S F N C D P K : Type 0} (input : Outside S) (files : Files F) (around : Around N C D) (kids : Kids P) (disks : Part NamesTold K) (words : List (List ℕ)) (said : Command) → Says words said → Stays said input files around kids disks
    → AreWithoutDisks words → IsUnopened disks
stays-unopened input files around kids disks words (command.Sim wire) says h not = h.2
stays-unopened input files around kids disks words (command.Load calls) says h not = h.3
stays-unopened input files around kids disks words (command.Serve options) says h not = absurd (not options says)
stays-unopened input files around kids disks words (command.Call options) says h not = h.1
stays-unopened input files around kids disks words (command.Pair options) says h not = h
stays-unopened input files around kids disks words command.Check says h not = h.2
stays-unopened input files around kids disks words (command.Relay options) says h not = h.2
stays-unopened input files around kids disks words (command.Help page) says h not = h.3
stays-unopened input files around kids disks words command.Version says h not = h.3
