-- What the words of the command line say: the words without the program's own name.
use Rattle.std.specs.Prelude.{◌≡◌, ◌≢◌, ◌<◌, ℕ, Bool, true, false, List, [], ◌∷◌, Some, codes, slice_get, ⊤}
use Rattle.std.specs.Str.{bytes_eq}
use Rattle.std.specs.List.{list_any}
use Rattle.clap.specs.Words.{App, Row}
use Rattle.transport.specs.declared.form.Form.TheVariants.{Full}
use Rattle.commands.specs.Simple.{sim, load, serve, call, pair, check, relay, faults, rows}
use Rattle.commands.specs.Values.{HasText, MayHaveText, HasFlag, HasNumber, MayHaveNumber, HasId, MayHaveId, HasForm, HasSecret}
use Rattle.commands.specs.declared.command.Command.{Command}
use Rattle.commands.specs.declared.command.Command.TheVariants as command
use Rattle.commands.specs.declared.command.ServeOptions.{ServeOptions}
use Rattle.commands.specs.declared.command.CallOptions.{CallOptions}
use Rattle.commands.specs.declared.command.PairOptions.{PairOptions}
use Rattle.commands.specs.declared.command.RelayOptions.{RelayOptions}
use Rattle.commands.specs.declared.page.Page.{Page}
use Rattle.commands.specs.declared.page.Page.TheVariants as page

-- ---- the first word

-- the word that a page of help is asked for behind
abbrev pub page_word : Page → List ℕ
page_word page.Program = codes "--help"
page_word page.Sim = codes "sim"
page_word page.Load = codes "load"
page_word page.Serve = codes "serve"
page_word page.Call = codes "call"
page_word page.Pair = codes "pair"
page_word page.Check = codes "check"
page_word page.Relay = codes "relay"

abbrev pub first_word : Command → List ℕ
first_word (command.Sim wire) = codes "sim"
first_word (command.Load calls) = codes "load"
first_word (command.Serve options) = codes "serve"
first_word (command.Call options) = codes "call"
first_word (command.Pair options) = codes "pair"
first_word command.Check = codes "check"
first_word (command.Relay options) = codes "relay"
first_word (command.Help page) = page_word page
first_word command.Version = codes "--version"

-- ---- options

-- what `serve` was told
pub record SaysServe (rows : List Row) (options : ServeOptions) : Type 0 where
  pub keys : HasText (codes "keys") rows options.keys
  pub port : HasNumber (codes "port") 1 65535 rows options.port
  pub conns : HasNumber (codes "conns") 1 1000 rows options.conns
  pub stop_after : MayHaveNumber (codes "stop-after") 1 1000000000 rows options.stop_after
  pub journal : MayHaveText (codes "journal") rows options.journal

-- what `call` was told: full frames are never obfuscated
pub record SaysCall (rows : List Row) (options : CallOptions) : Type 0 where
  pub keys : HasText (codes "keys") rows options.keys
  pub key : HasId (codes "key") rows options.key
  pub port : HasNumber (codes "port") 1 65535 rows options.port
  pub form : HasForm (codes "form") rows options.form
  pub obfuscate : HasFlag (codes "obfuscate") rows options.obfuscate
  pub lawful : options.obfuscate ≡ true → options.form ≡ Full → ⊥
  pub retries : HasNumber (codes "retries") 0 1000 rows options.retries
  pub perm : MayHaveId (codes "perm") rows options.perm

-- what `pair` was told: behind its port there is another one
pub record SaysPair (rows : List Row) (options : PairOptions) : Type 0 where
  pub keys : HasText (codes "keys") rows options.keys
  pub key : HasId (codes "key") rows options.key
  pub port : HasNumber (codes "port") 1 65534 rows options.port
  pub stop_after : HasNumber (codes "stop-after") 1 1000000000 rows options.stop_after

-- what `relay` was told: the server's side is never in full frames
pub record SaysRelay (rows : List Row) (options : RelayOptions) : Type 0 where
  pub secret : HasSecret (codes "secret") rows options.secret
  pub form : HasForm (codes "form") rows options.form
  pub lawful : options.form ≢ Full

-- ---- the words

-- a word is `--help`
abbrev pub asks_help : List (List ℕ) → Bool
asks_help words = list_any (λ word. bytes_eq word (codes "--help")) words

-- no word asks for help, and the simple command takes the words
pub record Takes (app : App) (words : List (List ℕ)) : Type 0 where
  pub plain : asks_help words ≡ false
  pub taken : faults app words ≡ []

-- behind their first word the words say this command
abbrev pub Means : List (List ℕ) → Command → Type 0
Means words (command.Sim wire) = Takes sim words × HasFlag (codes "wire") (rows sim words) wire
Means words (command.Load calls) = Takes load words × HasNumber (codes "calls") 1 10000 (rows load words) calls
Means words (command.Serve options) = Takes serve words × SaysServe (rows serve words) options
Means words (command.Call options) = Takes call words × SaysCall (rows call words) options
Means words (command.Pair options) = Takes pair words × SaysPair (rows pair words) options
Means words command.Check = Takes check words
Means words (command.Relay options) = Takes relay words × SaysRelay (rows relay words) options
Means words (command.Help page) = asks_help words ≡ true
Means words command.Version = words ≡ codes "--version" ∷ []

-- the words say this command
pub record Says (words : List (List ℕ)) (said : Command) : Type 0 where
  pub first : slice_get words 0 ≡ Some (first_word said)
  pub means : Means words said

-- ---- what any words say

-- This holds of each command that words say: `serve` is never told to stop after 0 packets, full frames are never obfuscated,
-- behind the port of `pair` there is another one, and the server's side of `relay` is never in full frames.
abbrev pub IsLawful : Command → Type 0
IsLawful (command.Sim wire) = ⊤
IsLawful (command.Load calls) = ⊤
IsLawful (command.Serve options) = options.stop_after ≢ Some 0
IsLawful (command.Call options) = options.obfuscate ≡ true → options.form ≢ Full
IsLawful (command.Pair options) = options.port < 65535
IsLawful command.Check = ⊤
IsLawful (command.Relay options) = options.form ≢ Full
IsLawful (command.Help page) = ⊤
IsLawful command.Version = ⊤
