-- What is owed at each check, by what is owed behind it.
use Rattle.std.proofs.Common.{◌≡◌, ◌⊎◌, inl, inr, ℕ, ◌-◌, ◌^◌, ◌<◌, ◌≤◌, List, Option, Some, None, Result, Ok, Err, IfErr, IfOk, codes, sym, subst, arith}
use Rattle.std.proofs.lemmas.Bool.{cases_lt}
use Rattle.auth_keys.specs.KeyFile.{IsRingOf}
use Rattle.auth_keys.specs.declared.ring.RingKey.{RingKey}
use Rattle.call_script.specs.Scripts.{HasBadLine, Spells}
use Rattle.call_script.specs.declared.script.ScriptCall.{ScriptCall}
use Rattle.client_core.specs.Keys.{Keys}
use Rattle.client_rules.specs.Asking.{Fault}
use Rattle.commands.specs.declared.command.CallOptions.{CallOptions}
use Rattle.draws.specs.Draws.{draw_after}
use Rattle.key_files.specs.Files.{HasFile, IsRefusedAt, not_read, refused_at}
use Rattle.mt_edge.specs.Faults.{Rose, one_more}
use Rattle.octets.specs.declared.memory.Memory.{Memory}
use Rattle.statuses.specs.Lines.{refusal_line}
use Rattle.statuses.specs.Outside.{Outside}
use Rattle.statuses.specs.declared.answer.Answer.{Answer}
use Rattle.statuses.specs.declared.status.Status.TheVariants as status
use Rattle.cmd_call.specs.Inner.{IsAt, IsRefusalOf, LeavesKeys, LeavesRing, LeavesScript, LeavesText, LeftFrom, RanFrom, keys_of}
use Rattle.cmd_call.specs.Keys.{keys_for}
use Rattle.cmd_call.specs.Owed.{AskedFor, Around, FileFault, Files, Gave, IsBefore, IsIdle, IsOffline, IsRead, OwesToKeys, OwesToRing, OwesToScript, OwesToText, RunsOut, begins}
use Rattle.cmd_call.specs.Runs.{UsesNet}
use Rattle.cmd_call.specs.Script.{untaken}
use Rattle.cmd_call.specs.declared.keys.Acting.{Acting}
use Rattle.cmd_call.proofs.BatchLemmas.{left_batch, ran_batch}

if-ok : (answer : Result Answer Memory) (P Q : Answer → Type 0) → ((one : Answer) → P one → Q one) → IfOk answer P → IfOk answer Q
if-ok (Ok one) P Q h p = h one p
if-ok (Err memory) P Q h p = tt

if-ok-both : (answer : Result Answer Memory) (P R Q : Answer → Type 0) → ((one : Answer) → P one → R one → Q one) → IfOk answer P → IfOk answer R → IfOk answer Q
if-ok-both (Ok one) P R Q h p r = h one p r
if-ok-both (Err memory) P R Q h p r = tt

-- of a fault, whatever it is, and by what is said of it
pub if_err : {T E : Type 0} (result : Result T E) (P : Type 0) → P → IfErr result (λ error. P)
if_err (Ok one) P h = tt
if_err (Err error) P h = h

err-both : {T E : Type 0} (result : Result T E) (P Q : Type 0) → (P → Q) → IfErr result (λ error. P) → IfErr result (λ error. Q)
err-both (Ok one) P Q h p = tt
err-both (Err error) P Q h p = h p

module _ {N C D : Type 0} (options : CallOptions) (calls : List ScriptCall) (around : Around N C D) (answer : Result Answer Memory) where
  -- ---- the calls

  module _ (ring : List RingKey) (keys : Keys) where
    pub owes_batch : (drawn : D) → untaken calls ≡ None → IfOk answer (λ one. RanFrom options ring (begins keys calls around) (record around { draw = drawn }) one.status one.text)
        → IfOk answer (λ one. OwesToKeys options calls ring keys around one.status one.text)
    owes_batch drawn taken ran = if-ok answer _ _ (λ one r. inr (ran_batch options calls ring keys around drawn one.status one.text taken r)) ran

    pub leaves_batch : (drawn : D) → untaken calls ≡ None → IfErr answer (λ memory. LeftFrom options ring (begins keys calls around) (record around { draw = drawn }))
        → IfErr answer (λ memory. LeavesKeys options calls ring keys around)
    leaves_batch drawn taken left = err-both answer _ _ (λ l. inr (left_batch options calls ring keys around drawn taken l)) left

    pub owes_refusal : (line : ℕ) (why : Option Fault) → IsOffline around → around.draw_then ≡ draw_after around.step 1 around.draw → IsAt (untaken calls) line why
        → IfOk answer (λ one. IsRefusalOf line why one.status one.text) → IfOk answer (λ one. OwesToKeys options calls ring keys around one.status one.text)
    owes_refusal line None offline drawn at told = if-ok answer _ _ (λ one r. absurd r) told
    owes_refusal line (Some fault) offline drawn at told =
        if-ok answer _ _ (λ one r. inl (record { line = line; fault = fault; first = at; offline = offline; drawn = drawn; said = r.0; told = r.1 })) told

  -- ---- the keys

  module _ (ring : List RingKey) where
    pub owes_keys : (keys : Acting) → Some (keys_of keys) ≡ keys_for ring options.key options.perm → IfOk answer (λ one. OwesToKeys options calls ring (keys_of keys) around one.status one.text)
        → IfOk answer (λ one. OwesToRing options calls ring around one.status one.text)
    owes_keys keys is owes = let its = sym is in if-ok answer _ _ (λ one o. inr (keys_of keys, its, o)) owes

    by-keys : (keys : Acting) → Some (keys_of keys) ≡ keys_for ring options.key options.perm → LeavesKeys options calls ring (keys_of keys) around → LeavesRing options calls ring around
    by-keys keys is (inl before) = inl before
    by-keys keys is (inr left) = inr (keys_of keys, sym is, left)

    pub leaves_keys : (keys : Acting) → Some (keys_of keys) ≡ keys_for ring options.key options.perm → IfErr answer (λ memory. LeavesKeys options calls ring (keys_of keys) around)
        → IfErr answer (λ memory. LeavesRing options calls ring around)
    leaves_keys keys is left = err-both answer _ _ (by-keys keys is) left

    pub owes_no_key : None ≡ keys_for ring options.key options.perm → IsIdle around → IfOk answer (λ one. one.status ≡ status.KeysRefused) → IfOk answer (λ one. one.text ≡ codes "no such key\n")
        → IfOk answer (λ one. OwesToRing options calls ring around one.status one.text)
    owes_no_key none idle said told =
        if-ok-both answer _ _ _ (λ one s t. inl (record { none = sym none; idle = idle; said = s; told = t })) said told

  -- ---- the key file

  module _ {F : Type 0} (files : Files F) where
    pub owes_ring : (ring : List RingKey) (text : List ℕ) → Gave options.keys files text → IsRingOf text ring → IfOk answer (λ one. OwesToRing options calls ring around one.status one.text)
        → IfOk answer (λ one. OwesToScript options calls files around one.status one.text)
    owes_ring ring text gave is owes = if-ok answer _ _ (λ one o. inr (text, gave, inr (ring, is, o))) owes

    by-ring : (ring : List RingKey) (text : List ℕ) → Gave options.keys files text → IsRingOf text ring → LeavesRing options calls ring around → LeavesScript options calls files around
    by-ring ring text gave is (inl before) = inl before
    by-ring ring text gave is (inr left) = inr (record { text = text; gave = gave; ring = ring; its = is; keys = left.0; found = left.1; left = left.2 })

    pub leaves_ring : (ring : List RingKey) (text : List ℕ) → Gave options.keys files text → IsRingOf text ring → IfErr answer (λ memory. LeavesRing options calls ring around)
        → IfErr answer (λ memory. LeavesScript options calls files around)
    leaves_ring ring text gave is left = err-both answer _ _ (by-ring ring text gave is) left

    pub owes_bad_file : (text : List ℕ) (line : ℕ) → Gave options.keys files text → IsRefusedAt text line → IsIdle around → IfOk answer (λ one. one.status ≡ status.KeysRefused)
        → IfOk answer (λ one. one.text ≡ refused_at line) → IfOk answer (λ one. OwesToScript options calls files around one.status one.text)
    owes_bad_file text line gave bad idle said told =
        if-ok-both answer _ _ _ (λ one s t. inr (text, gave, inl (record { line = line; fault = bad; idle = idle; said = s; told = t }))) said told

    pub owes_no_file : AskedFor options.keys files → FileFault files → IsIdle around → IfOk answer (λ one. one.status ≡ status.KeysRefused) → IfOk answer (λ one. one.text ≡ not_read)
        → IfOk answer (λ one. OwesToScript options calls files around one.status one.text)
    owes_no_file asked fault idle said told =
        if-ok-both answer _ _ _ (λ one s t. inl (record { asked = asked; fault = fault; idle = idle; said = s; told = t })) said told

    -- ---- the script

    pub owes_script : (text : List ℕ) → Spells text calls → IfOk answer (λ one. OwesToScript options calls files around one.status one.text)
        → IfOk answer (λ one. OwesToText options text files around one.status one.text)
    owes_script text spelt owes = if-ok answer _ _ (λ one o. inr (calls, spelt, o)) owes

    by-script : (text : List ℕ) → Spells text calls → LeavesScript options calls files around → LeavesText options text files around
    by-script text spelt (inl before) = inl before
    by-script text spelt (inr left) = inr (calls, spelt, left)

    pub leaves_script : (text : List ℕ) → Spells text calls → IfErr answer (λ memory. LeavesScript options calls files around) → IfErr answer (λ memory. LeavesText options text files around)
    leaves_script text spelt left = err-both answer _ _ (by-script text spelt) left

pub owes_bad_line : {F N C D : Type 0} (options : CallOptions) (files : Files F) (around : Around N C D) (answer : Result Answer Memory) (text : List ℕ) (line : ℕ) → HasBadLine text line
    → files.after ≡ files.before → IsIdle around → IfOk answer (λ one. one.status ≡ status.InputRefused) → IfOk answer (λ one. one.text ≡ refusal_line line (codes "bad line"))
    → IfOk answer (λ one. OwesToText options text files around one.status one.text)
owes_bad_line options files around answer text line bad unasked idle said told =
    if-ok-both answer _ _ _ (λ one s t. inl (record { line = line; bad = bad; unasked = unasked; idle = idle; said = s; told = t })) said told

pub leaves_text : {S F N C D : Type 0} (options : CallOptions) (input : Outside S) (files : Files F) (around : Around N C D) (text : List ℕ) → IsRead input text → LeavesText options text files around
    → RunsOut options input files around
leaves_text options input files around text read (inl before) = inl before
leaves_text options input files around text read (inr left) = inr (record { text = text; read = read; calls = left.0; spelt = left.1; left = left.2 })

-- no batch was begun
pub before_idle : {N C D : Type 0} (around : Around N C D) → IsIdle around → IsBefore around
before_idle around idle = record { offline = idle.offline; drawn = inl idle.draw }

-- ---- the key file, by its name

pub asked_by : {F : Type 0} (name own : List ℕ) (files : Files F) → name ≡ own → AskedFor name files → AskedFor own files
asked_by name own files is asked = subst (λ (some : List ℕ). AskedFor some files) is asked

pub gave_by : {F : Type 0} (name own : List ℕ) (files : Files F) (text : List ℕ) → name ≡ own → AskedFor name files → HasFile (files.told files.before) name text
    → files.faults files.after ≡ files.faults files.before → Gave own files text
gave_by name own files text is asked named same = subst (λ (some : List ℕ). Gave some files text) is (record { asked = asked; named = named; no_fault = same })

rises-by : (before after : ℕ) → after ≡ one_more before → (before < 2 ^ 64 - 1) ⊎ (2 ^ 64 - 1 ≤ before) → Rose before after
rises-by before after same (inl less) = inl (omega (arith, same, less))
rises-by before after same (inr full) = inr (omega (arith, same, full))

-- one more fault is a rise, or the last value
pub rises : (before after : ℕ) → after ≡ one_more before → Rose before after
rises before after same = rises-by before after same (cases_lt before (2 ^ 64 - 1))

-- the words that are drawn beside don't matter to the net
pub same_net : {N C D : Type 0} (options : CallOptions) (around : Around N C D) (drawn : D) → UsesNet options (record around { draw = drawn }) → UsesNet options around
same_net options around drawn uses = record { connects = uses.connects; goes_on = uses.goes_on; still_tells = uses.still_tells; counted = uses.counted }
