-- What the command promises.
use Rattle.std.specs.Prelude.{◌≡◌, ◌⊎◌, ℕ, Some, None, List}
use Rattle.auth_keys.specs.KeyFile.{IsRingOf}
use Rattle.auth_keys.specs.declared.ring.RingKey.{RingKey}
use Rattle.call_script.specs.declared.script.ScriptCall.{ScriptCall}
use Rattle.cmd_call.specs.Keys.{keys_for}
use Rattle.cmd_call.specs.Owed.{AskedFor, Around, Files, begins}
use Rattle.cmd_call.specs.Runs.{HasNoFault, IfFile, IfScript, IsNoScript, IsOfCall, UnlessNotRead}
use Rattle.cmd_call.specs.Script.{untaken}
use Rattle.client_core.specs.Keys.{Keys}
use Rattle.client_rules.specs.Asking.{Fault}
use Rattle.commands.specs.declared.command.PairOptions.{PairOptions}
use Rattle.key_files.specs.Files.{IsRefusedAt}
use Rattle.mt_edge.specs.Faults.{Rose}
use Rattle.statuses.specs.Outside.{HadFault, IfTold, IsUntouched, Outside, Tells, Writes}
use Rattle.statuses.specs.Statuses.{UnlessFault}
use Rattle.statuses.specs.declared.status.Status.{Status}
use Rattle.statuses.specs.declared.status.Status.TheVariants as status
use Rattle.cmd_pair.specs.Batches.{OwesPair, RanPair}
use Rattle.cmd_pair.specs.Checks.{HasKeys, IsReady, Refusal, Refuses, drawn_by, status_of, text_of}
use Rattle.cmd_pair.specs.Servers.{Kids}

-- nothing was connected to, the clock wasn't asked, and no call of the spawner was made
pub record IsAside {N C D P : Type 0} (around : Around N C D) (kids : Kids P) : Type 0 where
  pub net : around.net_then ≡ around.net
  pub clock : around.clock_then ≡ around.clock
  pub kids_stay : kids.after ≡ kids.before

-- A refusal is told, and nothing behind its check was touched.
pub record IsRefused {S O F N C D P : Type 0} (options : PairOptions) (input : Outside S) (out : Outside O) (files : Files F) (around : Around N C D) (kids : Kids P) (one : Status) : Type 0 where
  pub refusal : Refusal
  pub cause : Refuses options input files refusal
  pub aside : IsAside around kids
  pub drawn : around.draw_then ≡ drawn_by refusal around.step around.draw
  pub tells : Tells out (status_of refusal) (text_of refusal) one

-- All that was read is taken: the servers were started, and what became of the batches is told.
pub record IsRun {S O F N C D P : Type 0} (options : PairOptions) (input : Outside S) (out : Outside O) (files : Files F) (around : Around N C D) (kids : Kids P) (one : Status) : Type 0 where
  pub calls : List ScriptCall
  pub ring : List RingKey
  pub keys : Keys
  pub ready : IsReady options input files calls ring keys
  pub said : Status
  pub due : List ℕ
  pub owed : OwesPair options ring (begins keys calls around) around kids said due
  pub tells : Tells out said due one

-- a read of the input failed, and nothing else was touched
pub record IsUnread {S O F N C D P : Type 0} (input : Outside S) (out : Outside O) (files : Files F) (around : Around N C D) (kids : Kids P) (one : Status) : Type 0 where
  pub said : one ≡ status.ReadFault
  pub fault : HadFault input
  pub untouched : IsUntouched out
  pub unasked : files.after ≡ files.before
  pub aside : IsAside around kids
  pub undrawn : around.draw_then ≡ around.draw

-- what came of a run: memory may run out at any time, and then nothing is written
abbrev pub IsTold : {S O F N C D P : Type 0} → PairOptions → Outside S → Outside O → Files F → Around N C D → Kids P → Status → Type 0
IsTold options input out files around kids one =
    IsRefused options input out files around kids one ⊎ IsRun options input out files around kids one
    ⊎ IsUnread input out files around kids one ⊎ ((one ≡ status.Memory) × IsUntouched out)

-- a ring of this text has the key
pub record IsLawful (options : PairOptions) (text : List ℕ) (ring : List RingKey) (keys : Keys) : Type 0 where
  pub read : IsRingOf text ring
  pub found : HasKeys options ring keys

-- a status with which an answer of `pair` comes: one of those of `call`, or a child fault
abbrev pub IsOfPair : Status → Type 0
IsOfPair one = IsOfCall one ⊎ (one ≡ status.NotListening)

pub record PairRun {S O F N C D P : Type 0} (options : PairOptions) (input : Outside S) (out : Outside O) (files : Files F) (around : Around N C D) (kids : Kids P) (one : Status) : Type 0 where
  -- it ends by one of these
  pub ends : IsOfPair one ⊎ (one ≡ status.ReadFault) ⊎ (one ≡ status.WriteFault) ⊎ (one ≡ status.Memory)
  -- each status has its cause, and each text
  pub told : IsTold options input out files around kids one
  -- key files are asked once, for the file that the options name, or not at all
  pub asked : AskedFor options.keys files ⊎ (files.after ≡ files.before)
  -- A child fault comes only where the spawner counted a fault.
  pub child_fault : one ≡ status.NotListening → Rose (kids.faults kids.before) (kids.faults kids.after)
  -- The input is refused where it is no script, and where a call of it isn't taken.
  pub no_script : IfTold input (λ text. IsNoScript text → UnlessFault one status.InputRefused)
  pub not_taken : IfScript input (λ calls. IfFile files options.keys (λ text. (ring : List RingKey) (keys : Keys) → IsLawful options text ring keys
      → (line : ℕ) (fault : Fault) → untaken calls ≡ Some (line, fault) → UnlessNotRead files one status.InputRefused))
  -- Keys are refused where the key file has a fault, and where it lacks the key or has it as a temporary one.
  pub no_ring : IfScript input (λ calls. IfFile files options.keys (λ text. (line : ℕ) → IsRefusedAt text line → UnlessFault one status.KeysRefused))
  pub no_key : IfScript input (λ calls. IfFile files options.keys (λ text. (ring : List RingKey) → IsRingOf text ring
      → keys_for ring options.key None ≡ None → UnlessFault one status.KeysRefused))
  -- Where script, key file, key and calls are taken and no read, no write and no call of the spawner failed, the batches were run
  -- and what became of the calls is written, unless memory ran out; so the status is the one for the last batch.
  pub completeness : HasNoFault input out files → (Rose (kids.faults kids.before) (kids.faults kids.after) → ⊥)
      → IfScript input (λ calls. IfFile files options.keys (λ text. (ring : List RingKey) (keys : Keys) → IsLawful options text ring keys
      → untaken calls ≡ None → (one ≡ status.Memory) ⊎ ((due : List ℕ) × RanPair options ring (begins keys calls around) around kids one due × Writes out due)))
