-- What the command promises.
use Rattle.std.specs.Prelude.{◌≡◌, ◌<◌, ◌≤◌, ◌⊎◌, ◌+◌, ℕ, Some, None, IfSome, IsSome, IsSomeAnd, List, ◌++◌, All, length}
use Rattle.auth_keys.specs.KeyFile.{IsRingOf}
use Rattle.auth_keys.specs.declared.ring.RingKey.{RingKey}
use Rattle.call_script.specs.Scripts.{HasBadLine, Spells}
use Rattle.call_script.specs.declared.script.ScriptCall.{ScriptCall}
use Rattle.client_core.specs.Keys.{Keys}
use Rattle.client_node.specs.Counts.{Counted}
use Rattle.client_rules.specs.Asking.{Fault}
use Rattle.commands.specs.declared.command.CallOptions.{CallOptions}
use Rattle.key_files.specs.Files.{IsFileOf, IsRefusedAt}
use Rattle.mt_edge.specs.declared.net_call.NetCall.{NetCall}
use Rattle.mt_edge.specs.declared.net_call.NetCall.TheVariants.{Listen, Connect, Accept}
use Rattle.mt_edge.specs.declared.net_call.Outcome.TheVariants.{Failed, Open, Done}
use Rattle.statuses.specs.Lines.{input_bytes_max}
use Rattle.statuses.specs.Outside.{HadFault, IfTold, IsUntouched, Outside, Tells, Writes}
use Rattle.statuses.specs.Statuses.{UnlessFault}
use Rattle.statuses.specs.declared.status.Status.{Status}
use Rattle.statuses.specs.declared.status.Status.TheVariants as status
use Rattle.cmd_call.specs.Keys.{keys_for}
use Rattle.cmd_call.specs.Owed.{AskedFor, Around, FileFault, Files, IsIdle, Owes, RanBatch, RunsOut}
use Rattle.cmd_call.specs.Script.{untaken}

-- ---- what is there to be read, where it is told

-- the input is no script
abbrev pub IsNoScript : List ℕ → Type 0
IsNoScript text = (input_bytes_max < length text) ⊎ ((length text ≤ input_bytes_max) × (line : ℕ) × HasBadLine text line)

-- it is a script of these calls
pub record IsScript (text : List ℕ) (calls : List ScriptCall) : Type 0 where
  pub short : length text ≤ input_bytes_max
  pub spelt : Spells text calls

abbrev pub IfScript : {S : Type 0} → Outside S → (List ScriptCall → Type 0) → Type 0
IfScript input P = IfTold input (λ text. (calls : List ScriptCall) → IsScript text calls → P calls)

-- the key file of this name has this text
abbrev pub IfFile : {F : Type 0} → Files F → List ℕ → (List ℕ → Type 0) → Type 0
IfFile files name P = IfSome (files.told files.before) (λ told. (text : List ℕ) → IsFileOf told.files name text → P text)

-- a ring has the keys that the options name
pub record IsLawful (options : CallOptions) (text : List ℕ) (ring : List RingKey) (keys : Keys) : Type 0 where
  pub read : IsRingOf text ring
  pub found : keys_for ring options.key options.perm ≡ Some keys

-- ---- how it may go otherwise

-- it is this status, unless a fault of the input, of the key files or of the output came before, or memory ran out
abbrev pub UnlessNotRead : {F : Type 0} → Files F → Status → Status → Type 0
UnlessNotRead files one due = UnlessFault one due ⊎ ((one ≡ status.KeysRefused) × FileFault files)

-- no read and no write failed
pub record HasNoFault {S O F : Type 0} (input : Outside S) (out : Outside O) (files : Files F) : Type 0 where
  pub of_input : HadFault input → ⊥
  pub of_files : FileFault files → ⊥
  pub of_out : HadFault out → ⊥

-- ---- the net

-- an attempt to connect to this port, which failed, or whose connection was given back
abbrev pub IsConnect : ℕ → NetCall → Type 0
IsConnect port (Connect to Failed) = to ≡ port
IsConnect port (Connect to (Done told faults)) = to ≡ port
IsConnect port (Connect to Open) = ⊥
IsConnect port (Listen to answer) = ⊥
IsConnect port (Accept outcome) = ⊥

-- these attempts alone, one more at most than connections may be lost
pub record ConnectsAlone (port retries : ℕ) (before after : List NetCall) : Type 0 where
  pub made : List NetCall
  pub whole : after ≡ before ++ made
  pub each : All (IsConnect port) made
  pub most : length made ≤ retries + 1

-- What the net tells afterwards, where it does. It does where it told before, and counted one fault at most, or can note each attempt.
pub record UsesNet {N C D : Type 0} (options : CallOptions) (around : Around N C D) : Type 0 where
  pub connects : IfSome (around.calls around.net_then) (λ after. IsSomeAnd (around.calls around.net) (λ before. ConnectsAlone options.port options.retries before after))
  pub goes_on : IsSome (around.calls around.net) → around.faults around.net ≡ 0 → around.faults around.net_then ≤ 1 → IsSome (around.calls around.net_then)
  pub still_tells : IsSome (around.calls around.net) → options.retries < around.room around.net → IsSome (around.calls around.net_then)
  -- the faults after are those before, and one for each attempt that failed
  pub counted : IfSome (around.calls around.net_then) (λ after. IsSomeAnd (around.calls around.net) (λ before.
      Counted before after (around.faults around.net) (around.faults around.net_then)))

-- ---- `call`

-- a status with which an answer of `call` comes
abbrev pub IsOfCall : Status → Type 0
IsOfCall one =
    (one ≡ status.Done) ⊎ (one ≡ status.InputRefused) ⊎ (one ≡ status.KeysRefused) ⊎ (one ≡ status.NotAllDone) ⊎ (one ≡ status.LinkLost)
    ⊎ (one ≡ status.TurnsSpent) ⊎ (one ≡ status.NumbersSpent)

-- the status and the text that are due to what was read are told; or none is, since a read of the input failed, and nothing else
-- was touched; or since memory ran out, and then what a batch did before is its trace
abbrev pub IsTold : {S O F N C D : Type 0} → CallOptions → Outside S → Outside O → Files F → Around N C D → Status → Type 0
IsTold options input out files around one =
    ((said : Status) × (due : List ℕ) × Owes options input files around said due × Tells out said due one)
    ⊎ ((one ≡ status.ReadFault) × HadFault input × IsUntouched out × (files.after ≡ files.before) × IsIdle around)
    ⊎ ((one ≡ status.Memory) × IsUntouched out × RunsOut options input files around)

pub record CallRun {S O F N C D : Type 0} (options : CallOptions) (input : Outside S) (out : Outside O) (files : Files F) (around : Around N C D) (one : Status) : Type 0 where
  -- it ends by one of these
  pub ends : IsOfCall one ⊎ (one ≡ status.ReadFault) ⊎ (one ≡ status.WriteFault) ⊎ (one ≡ status.Memory)
  -- each status has its cause, and each text
  pub told : IsTold options input out files around one
  -- key files are asked once, for the file that the options name, or not at all; and connections are made to their port alone
  pub asked : AskedFor options.keys files ⊎ (files.after ≡ files.before)
  pub connects : UsesNet options around
  -- The input is refused where it is no script, and where a call of it isn't taken.
  pub no_script : IfTold input (λ text. IsNoScript text → UnlessFault one status.InputRefused)
  pub not_taken : IfScript input (λ calls. IfFile files options.keys (λ text. (ring : List RingKey) (keys : Keys) → IsLawful options text ring keys
      → (line : ℕ) (fault : Fault) → untaken calls ≡ Some (line, fault) → UnlessNotRead files one status.InputRefused))
  -- Keys are refused where the key file has a fault, and where it lacks a key.
  pub no_ring : IfScript input (λ calls. IfFile files options.keys (λ text. (line : ℕ) → IsRefusedAt text line → UnlessFault one status.KeysRefused))
  pub no_key : IfScript input (λ calls. IfFile files options.keys (λ text. (ring : List RingKey) → IsRingOf text ring
      → keys_for ring options.key options.perm ≡ None → UnlessFault one status.KeysRefused))
  -- Where script, key file, keys and calls are taken and no read and no write failed, the batch was run and what became of it is
  -- written, unless memory ran out; so where each call is done, that is the status.
  pub completeness : HasNoFault input out files → IfScript input (λ calls. IfFile files options.keys (λ text. (ring : List RingKey) (keys : Keys) → IsLawful options text ring keys
      → untaken calls ≡ None → (one ≡ status.Memory) ⊎ ((due : List ℕ) × RanBatch options calls ring keys around one due × Writes out due)))
