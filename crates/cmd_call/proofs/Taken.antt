-- What is owed, by what was read.
use Rattle.std.proofs.Common.{Bool, true, false, ◌≡◌, ◌∙◌, ◌⊎◌, inl, inr, ℕ, ◌≤◌, List, length, Option, Some, None, IfSome, ap, sym, subst, arith}
use Rattle.auth_keys.specs.KeyFile.{IsFaultOf, IsRingOf}
use Rattle.auth_keys.specs.declared.fault.KeyFault.{KeyFault}
use Rattle.auth_keys.specs.declared.fault.KeyFault.TheVariants as faults
use Rattle.auth_keys.specs.declared.ring.RingKey.{RingKey}
use Rattle.call_script.specs.Scripts.{HasBadLine, Spells}
use Rattle.call_script.specs.declared.script.ScriptCall.{ScriptCall}
use Rattle.client_core.specs.Keys.{Keys}
use Rattle.client_rules.specs.Asking.{Fault}
use Rattle.commands.specs.declared.command.CallOptions.{CallOptions}
use Rattle.key_files.specs.Files.{IsFileOf, IsRefusedAt, line_of}
use Rattle.statuses.specs.Outside.{IfTold, Outside}
use Rattle.statuses.specs.declared.status.Status.{Status}
use Rattle.statuses.specs.declared.status.Status.TheVariants as status
use Rattle.cmd_call.specs.Keys.{keys_for}
use Rattle.cmd_call.specs.Owed.{Around, FileFault, Files, Owes, OwesToKeyFile, OwesToKeys, OwesToRing, OwesToScript, OwesToText, RanBatch}
use Rattle.call_table.specs.Table.{Call}
use Rattle.client_node.specs.declared.plan.Batch.{Batch}
use Rattle.client_node.specs.declared.plan.Batch.TheVariants as batch
use Rattle.client_rules.specs.Client.{calls_of}
use Rattle.cmd_call.specs.Table.{TellsBatch, are_done, decided_status}
use Rattle.cmd_call.specs.Runs.{IsOfCall, IsNoScript, IsScript}
use Rattle.cmd_call.specs.Script.{untaken}

pub if-told : {X : Type 0} (o : Option X) (P : X → Type 0) → ((x : X) → P x) → IfSome o P
if-told None P h = tt
if-told (Some x) P h = h x

pub if-both : {X : Type 0} (o : Option X) (P Q : X → Type 0) → ((x : X) → P x → Q x) → IfSome o P → IfSome o Q
if-both None P Q h p = tt
if-both (Some x) P Q h p = h x p

-- what is owed, where these laws of texts hold
module _ (one-script : (text : List ℕ) (calls others : List ScriptCall) → Spells text calls → Spells text others → calls ≡ others) (good-script : (text : List ℕ) (calls : List ScriptCall) (bad : ℕ) → Spells text calls → HasBadLine text bad → ⊥) (one-ring : (text : List ℕ) (ring other : List RingKey) → IsRingOf text ring → IsRingOf text other → ring ≡ other) (good-ring : (text : List ℕ) (ring : List RingKey) (fault : KeyFault) → IsRingOf text ring → IsFaultOf text fault → fault ≡ faults.Memory) where
  no-fault-at : (text : List ℕ) (ring : List RingKey) (line : ℕ) → IsRingOf text ring → IsRefusedAt text line → ⊥
  no-fault-at text ring line is h = let none : None ≡ Some line = sym (ap line_of (good-ring text ring h.fault is h.its)) ∙ h.on in cc

  module _ {F N C D : Type 0} (options : CallOptions) (files : Files F) (around : Around N C D) (said : Status) (due : List ℕ) where
    -- ---- the input

    text-refused : (text left : List ℕ) → length text ≤ 16777216 → OwesToText options text files around said due → text ≡ left → IsNoScript left → said ≡ status.InputRefused
    text-refused text left short (inl r) same bad = r.said
    text-refused text left short (inr (calls, spelt, owes)) same (inl long) =
        let e : length text ≡ length left = ap length same in absurd (omega (arith, e, long, short))
    text-refused text left short (inr (calls, spelt, owes)) same (inr (few, line, bad)) =
        absurd (good-script text calls line spelt (subst (λ (t : List ℕ). HasBadLine t line) (sym same) bad))

    pub input_refused : {S : Type 0} (input : Outside S) → Owes options input files around said due → IfTold input (λ text. IsNoScript text → said ≡ status.InputRefused)
    input_refused input (inl r) = if-told (input.told input.before) _ (λ text bad. r.said)
    input_refused input (inr (text, read, owes)) =
        if-both (input.told input.before) _ _ (λ left same bad. text-refused text left read.short owes same bad) read.whole

    text-taken : (text left : List ℕ) (calls : List ScriptCall) → OwesToText options text files around said due → text ≡ left → IsScript left calls → OwesToScript options calls files around said due
    text-taken text left calls (inl r) same is = absurd (good-script text calls r.line (subst (λ (t : List ℕ). Spells t calls) (sym same) is.spelt) r.bad)
    text-taken text left calls (inr (others, spelt, owes)) same is =
        subst (λ (cs : List ScriptCall). OwesToScript options cs files around said due) (one-script text others calls spelt (subst (λ (t : List ℕ). Spells t calls) (sym same) is.spelt)) owes

    pub input_taken : {S : Type 0} (input : Outside S) → Owes options input files around said due
        → IfTold input (λ text. (calls : List ScriptCall) → IsScript text calls → OwesToScript options calls files around said due)
    input_taken input (inl r) =
        if-both (input.told input.before) _ _ (λ text long calls is. let short = is.short in absurd (omega (arith, long, short))) r.long
    input_taken input (inr (text, read, owes)) =
        if-both (input.told input.before) _ _ (λ left same calls is. text-taken text left calls owes same is) read.whole

    -- ---- the key file

    pub file_taken : (calls : List ScriptCall) → OwesToScript options calls files around said due
        → IfSome (files.told files.before) (λ told. (text : List ℕ) → IsFileOf told.files options.keys text
        → ((said ≡ status.KeysRefused) × FileFault files) ⊎ OwesToKeyFile options calls text around said due)
    file_taken calls (inl r) = if-told (files.told files.before) _ (λ told text is. inl (r.said, r.fault))
    file_taken calls (inr (other, gave, owes)) =
        if-both (files.told files.before) _ _ (λ told named text is. inr (subst (λ (t : List ℕ). OwesToKeyFile options calls t around said due) (is other named) owes)) gave.named

    pub file_refused : (calls : List ScriptCall) (text : List ℕ) (line : ℕ) → OwesToKeyFile options calls text around said due → IsRefusedAt text line → said ≡ status.KeysRefused
    file_refused calls text line (inl r) bad = r.said
    file_refused calls text line (inr (ring, is, owes)) bad = absurd (no-fault-at text ring line is bad)

    pub ring_taken : (calls : List ScriptCall) (text : List ℕ) (ring : List RingKey) → OwesToKeyFile options calls text around said due → IsRingOf text ring → OwesToRing options calls ring around said due
    ring_taken calls text ring (inl r) is = absurd (no-fault-at text ring r.line is r.fault)
    ring_taken calls text ring (inr (other, its, owes)) is =
        subst (λ (one : List RingKey). OwesToRing options calls one around said due) (one-ring text other ring its is) owes

-- ---- the keys, and the calls

module _ {N C D : Type 0} (options : CallOptions) (calls : List ScriptCall) (ring : List RingKey) (around : Around N C D) (said : Status) (due : List ℕ) where
  pub key_refused : OwesToRing options calls ring around said due → keys_for ring options.key options.perm ≡ None → said ≡ status.KeysRefused
  key_refused (inl r) none = r.said
  key_refused (inr (keys, is, owes)) none = absurd cc

  same-keys : (one other : Keys) → keys_for ring options.key options.perm ≡ Some one → keys_for ring options.key options.perm ≡ Some other → one ≡ other
  same-keys one other is its = cc

  pub keys_taken : (keys : Keys) → OwesToRing options calls ring around said due → keys_for ring options.key options.perm ≡ Some keys → OwesToKeys options calls ring keys around said due
  keys_taken keys (inl r) is = let none = r.none in absurd cc
  keys_taken keys (inr (other, its, owes)) is =
      subst (λ (one : Keys). OwesToKeys options calls ring one around said due) (same-keys other keys its is) owes

  pub call_refused : (keys : Keys) (line : ℕ) (fault : Fault) → OwesToKeys options calls ring keys around said due → untaken calls ≡ Some (line, fault) → said ≡ status.InputRefused
  call_refused keys line fault (inl r) first = r.said
  call_refused keys line fault (inr ran) first = let none = ran.taken in absurd cc

  pub calls_taken : (keys : Keys) → OwesToKeys options calls ring keys around said due → untaken calls ≡ None → RanBatch options calls ring keys around said due
  calls_taken keys (inl r) none = let first = r.first in absurd cc
  calls_taken keys (inr ran) none = ran

-- ---- the status

module _ {N C D : Type 0} (options : CallOptions) (calls : List ScriptCall) (around : Around N C D) (said : Status) (due : List ℕ) where
  decided-of : (all : Bool) → said ≡ decided_status all → IsOfCall said
  decided-of true is = inl is
  decided-of false is = inr (inr (inr (inl is)))

  batch-of : (end : Batch) (rows : List Call) → TellsBatch end rows said due → IsOfCall said
  batch-of batch.Decided rows told = decided-of (are_done rows) told.0
  batch-of batch.LinkLost rows told = inr (inr (inr (inr (inl told.0))))
  batch-of batch.TurnsSpent rows told = inr (inr (inr (inr (inr (inl told.0)))))
  batch-of batch.Spent rows told = inr (inr (inr (inr (inr (inr told.0)))))
  batch-of batch.Memory rows told = absurd told

  input-of : said ≡ status.InputRefused → IsOfCall said
  input-of is = inr (inl is)

  keys-of : said ≡ status.KeysRefused → IsOfCall said
  keys-of is = inr (inr (inl is))

  calls-of : (ring : List RingKey) (keys : Keys) → OwesToKeys options calls ring keys around said due → IsOfCall said
  calls-of ring keys (inl r) = input-of r.said
  calls-of ring keys (inr ran) = batch-of ran.end (calls_of ran.left) ran.told

  ring-of : (ring : List RingKey) → OwesToRing options calls ring around said due → IsOfCall said
  ring-of ring (inl r) = keys-of r.said
  ring-of ring (inr (keys, is, owes)) = calls-of ring keys owes

  file-of : (text : List ℕ) → OwesToKeyFile options calls text around said due → IsOfCall said
  file-of text (inl r) = keys-of r.said
  file-of text (inr (ring, is, owes)) = ring-of ring owes

  script-of : {F : Type 0} (files : Files F) → OwesToScript options calls files around said due → IsOfCall said
  script-of files (inl r) = keys-of r.said
  script-of files (inr (text, gave, owes)) = file-of text owes

text-of : {F N C D : Type 0} (options : CallOptions) (text : List ℕ) (files : Files F) (around : Around N C D) (said : Status) (due : List ℕ) → OwesToText options text files around said due → IsOfCall said
text-of options text files around said due (inl r) = inr (inl r.said)
text-of options text files around said due (inr (calls, spelt, owes)) = script-of options calls around said due files owes

pub is_of_call : {S F N C D : Type 0} (options : CallOptions) (input : Outside S) (files : Files F) (around : Around N C D) (said : Status) (due : List ℕ) → Owes options input files around said due → IsOfCall said
is_of_call options input files around said due (inl r) = inr (inl r.said)
is_of_call options input files around said due (inr (text, read, owes)) = text-of options text files around said due owes
