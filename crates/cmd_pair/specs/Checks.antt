-- What is read before a server is started, and why none is.
use Rattle.std.specs.Prelude.{◌≡◌, ◌<◌, ℕ, Some, None, List, length}
use Rattle.auth_keys.specs.KeyFile.{IsRingOf}
use Rattle.auth_keys.specs.declared.ring.RingKey.{RingKey}
use Rattle.call_script.specs.Scripts.{HasBadLine, Spells}
use Rattle.call_script.specs.declared.script.ScriptCall.{ScriptCall}
use Rattle.cmd_call.specs.Keys.{keys_for}
use Rattle.cmd_call.specs.Owed.{AskedFor, FileFault, Files, Gave, IsRead, no_key_text}
use Rattle.cmd_call.specs.Script.{untaken}
use Rattle.client_core.specs.Keys.{Keys}
use Rattle.client_rules.specs.Asking.{Fault}
use Rattle.commands.specs.declared.command.PairOptions.{PairOptions}
use Rattle.draws.specs.Draws.{draw_after}
use Rattle.key_files.specs.Files.{IsRefusedAt, not_read, refused_at}
use Rattle.statuses.specs.Lines.{bad_line, input_bytes_max, refusal_line, too_long}
use Rattle.statuses.specs.Outside.{IfTold, Outside}
use Rattle.statuses.specs.declared.status.Status.{Status}
use Rattle.statuses.specs.declared.status.Status.TheVariants as status
use Rattle.world_rules.specs.Report.{fault_text}

-- ---- what was read

-- the input is a script of these calls
pub record HasScript {S : Type 0} (input : Outside S) (calls : List ScriptCall) : Type 0 where
  pub text : List ℕ
  pub read : IsRead input text
  pub spelt : Spells text calls

-- the key file is that of this ring
pub record HasRing {F : Type 0} (options : PairOptions) (files : Files F) (ring : List RingKey) : Type 0 where
  pub text : List ℕ
  pub gave : Gave options.keys files text
  pub its : IsRingOf text ring

-- The keys of a ring for the options: the key has to be a permanent one.
abbrev pub HasKeys : PairOptions → List RingKey → Keys → Type 0
HasKeys options ring keys = keys_for ring options.key None ≡ Some keys

-- script, key file, key and calls are taken
pub record IsReady {S F : Type 0} (options : PairOptions) (input : Outside S) (files : Files F) (calls : List ScriptCall) (ring : List RingKey) (keys : Keys) : Type 0 where
  pub script : HasScript input calls
  pub file : HasRing options files ring
  pub found : HasKeys options ring keys
  pub taken : untaken calls ≡ None

-- ---- why no server is started, in the order of the checks

pub data Refusal : Type 0 where
  -- the input has more bytes than a script may have
  TooLong : Refusal
  -- this is its first line outside the grammar
  BadLine : (line : ℕ) → Refusal
  -- the key file can't be read
  Unread : Refusal
  -- its first fault is on this line
  BadFile : (line : ℕ) → Refusal
  -- the ring hasn't the key, or not as a permanent one
  NoKey : Refusal
  -- the call of this line is the first that isn't taken
  Untaken : (line : ℕ) → (fault : Fault) → Refusal

-- with its cause in what was read
abbrev pub Refuses : {S F : Type 0} → PairOptions → Outside S → Files F → Refusal → Type 0
Refuses options input files TooLong = IfTold input (λ text. input_bytes_max < length text) × (files.after ≡ files.before)
Refuses options input files (BadLine line) = (text : List ℕ) × IsRead input text × HasBadLine text line × (files.after ≡ files.before)
Refuses options input files Unread = (calls : List ScriptCall) × HasScript input calls × AskedFor options.keys files × FileFault files
Refuses options input files (BadFile line) = (calls : List ScriptCall) × HasScript input calls × (text : List ℕ) × Gave options.keys files text × IsRefusedAt text line
Refuses options input files NoKey =
    (calls : List ScriptCall) × HasScript input calls × (ring : List RingKey) × HasRing options files ring × (keys_for ring options.key None ≡ None)
Refuses options input files (Untaken line fault) =
    (calls : List ScriptCall) × HasScript input calls × (ring : List RingKey) × HasRing options files ring × (keys : Keys) × HasKeys options ring keys × (untaken calls ≡ Some (line, fault))

-- the status and the text by which it is told
abbrev pub status_of : Refusal → Status
status_of TooLong = status.InputRefused
status_of (BadLine line) = status.InputRefused
status_of Unread = status.KeysRefused
status_of (BadFile line) = status.KeysRefused
status_of NoKey = status.KeysRefused
status_of (Untaken line fault) = status.InputRefused

abbrev pub text_of : Refusal → List ℕ
text_of TooLong = too_long
text_of (BadLine line) = bad_line line
text_of Unread = not_read
text_of (BadFile line) = refused_at line
text_of NoKey = no_key_text
text_of (Untaken line fault) = refusal_line line (fault_text fault)

-- a session number is drawn before the calls are given to a client, and nothing before that
abbrev pub drawn_by : {D : Type 0} → Refusal → (D → ℕ × D) → D → D
drawn_by TooLong step draw = draw
drawn_by (BadLine line) step draw = draw
drawn_by Unread step draw = draw
drawn_by (BadFile line) step draw = draw
drawn_by NoKey step draw = draw
drawn_by (Untaken line fault) step draw = draw_after step 1 draw
