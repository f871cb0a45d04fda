-- What a run promises, by what is owed and by what was written.
use Rattle.std.proofs.Common.{◌≡◌, ◌∙◌, ◌⊎◌, inl, inr, ℕ, List, sym, subst}
use Rattle.auth_keys.specs.KeyFile.{IsFaultOf, IsRingOf}
use Rattle.auth_keys.specs.declared.fault.KeyFault.{KeyFault}
use Rattle.auth_keys.specs.declared.fault.KeyFault.TheVariants as faults
use Rattle.auth_keys.specs.declared.ring.RingKey.{RingKey}
use Rattle.call_script.specs.Scripts.{HasBadLine, Spells}
use Rattle.call_script.specs.declared.script.ScriptCall.{ScriptCall}
use Rattle.client_core.specs.Keys.{Keys}
use Rattle.commands.specs.declared.command.CallOptions.{CallOptions}
use Rattle.statuses.specs.Outside.{HadFault, IsUntouched, Outside, Tells, Writes}
use Rattle.statuses.specs.Statuses.{UnlessFault}
use Rattle.statuses.specs.declared.status.Status.{Status}
use Rattle.statuses.specs.declared.status.Status.TheVariants as status
use Rattle.cmd_call.specs.Owed.{AskedFor, Around, FileFault, Files, IsIdle, Owes, OwesToKeyFile, OwesToKeys, RanBatch, RunsOut}
use Rattle.cmd_call.specs.Runs.{CallRun, HasNoFault, IsOfCall, IsLawful, IsTold, UnlessNotRead, UsesNet}
use Rattle.cmd_call.proofs.Taken.{call_refused, calls_taken, file_refused, file_taken, if-both, if-told, input_refused, input_taken, is_of_call, key_refused, keys_taken, ring_taken}

-- a status that is due comes, unless a write failed
unless-written : {O : Type 0} (out : Outside O) (said one : Status) (due : List ℕ) (status : Status) → Tells out said due one → said ≡ status → UnlessFault one status
unless-written out said one due want (inl h) is = inl (h.0 ∙ is)
unless-written out said one due want (inr h) is = inr (inr (inl h.0))

written-of : {O : Type 0} (out : Outside O) (said one : Status) (due : List ℕ) → IsOfCall said → Tells out said due one
    → IsOfCall one ⊎ (one ≡ status.ReadFault) ⊎ (one ≡ status.WriteFault) ⊎ (one ≡ status.Memory)
written-of out said one due of (inl h) = inl (subst (λ (s : Status). IsOfCall s) (sym h.0) of)
written-of out said one due of (inr h) = inr (inr (inl h.0))

module _ {S O F N C D : Type 0} (options : CallOptions) (input : Outside S) (out : Outside O) (files : Files F) (around : Around N C D) where
  -- ---- an answer is owed

  module _ (one-script : (text : List ℕ) (calls others : List ScriptCall) → Spells text calls → Spells text others → calls ≡ others) (good-script : (text : List ℕ) (calls : List ScriptCall) (bad : ℕ) → Spells text calls → HasBadLine text bad → ⊥) (one-ring : (text : List ℕ) (ring other : List RingKey) → IsRingOf text ring → IsRingOf text other → ring ≡ other) (good-ring : (text : List ℕ) (ring : List RingKey) (fault : KeyFault) → IsRingOf text ring → IsFaultOf text fault → fault ≡ faults.Memory) (said one : Status) (due : List ℕ) (tells : Tells out said due one) where
    -- the keys are taken
    keys-of : (calls : List ScriptCall) (text : List ℕ) (ring : List RingKey) (keys : Keys) → OwesToKeyFile options calls text around said due → IsLawful options text ring keys → OwesToKeys options calls ring keys around said due
    keys-of calls text ring keys owes is =
        keys_taken options calls ring around said due keys (ring_taken one-script good-script one-ring good-ring options files around said due calls text ring owes is.read) is.found

    file-fault : FileFault files → said ≡ status.KeysRefused → Tells out said due one → (want : Status) → UnlessNotRead files one want
    file-fault fault is (inl h) want = inr (h.0 ∙ is, fault)
    file-fault fault is (inr h) want = inl (inr (inr (inl h.0)))

    written-batch : (calls : List ScriptCall) (ring : List RingKey) (keys : Keys) → HasNoFault input out files → RanBatch options calls ring keys around said due → Tells out said due one
        → (one ≡ status.Memory) ⊎ ((text : List ℕ) × RanBatch options calls ring keys around one text × Writes out text)
    written-batch calls ring keys none ran (inl h) =
        inr (due, subst (λ (s : Status). RanBatch options calls ring keys around s due) (sym h.0) ran, h.1)
    written-batch calls ring keys none ran (inr h) = absurd (none.of_out h.1)

    -- what is to be shown where the key file was read holds where that was so
    by-file : (calls : List ScriptCall) (text : List ℕ) (P : Type 0) → ((said ≡ status.KeysRefused) × FileFault files) ⊎ OwesToKeyFile options calls text around said due
        → ((said ≡ status.KeysRefused) → FileFault files → P) → (OwesToKeyFile options calls text around said due → P) → P
    by-file calls text P (inl h) failed read = failed h.0 h.1
    by-file calls text P (inr h) failed read = read h

    pub told_run : Owes options input files around said due → (AskedFor options.keys files ⊎ (files.after ≡ files.before)) → UsesNet options around → CallRun options input out files around one
    told_run owes asked connects =
        let scripts = input_taken one-script good-script one-ring good-ring options files around said due input owes in
        let read = file_taken one-script good-script one-ring good-ring options files around said due in
        record {
          ends = written-of out said one due (is_of_call options input files around said due owes) tells;
          told = inl (said, due, owes, tells);
          asked = asked;
          connects = connects;
          no_script = if-both (input.told input.before) _ _ (λ text h bad. unless-written out said one due status.InputRefused tells (h bad)) (input_refused one-script good-script one-ring good-ring options files around said due input owes);
          not_taken = if-both (input.told input.before) _ _ (λ text h calls is. if-both (files.told files.before) _ _ (λ told g keys_text file ring keys lawful line fault first.
              by-file calls keys_text (UnlessNotRead files one status.InputRefused) (g keys_text file)
              (λ e failed. file-fault failed e tells status.InputRefused)
              (λ o. inl (unless-written out said one due status.InputRefused tells (call_refused options calls ring around said due keys line fault (keys-of calls keys_text ring keys o lawful) first)))) (read calls (h calls is))) scripts;
          no_ring = if-both (input.told input.before) _ _ (λ text h calls is. if-both (files.told files.before) _ _ (λ told g keys_text file line bad.
              by-file calls keys_text (UnlessFault one status.KeysRefused) (g keys_text file)
              (λ e failed. unless-written out said one due status.KeysRefused tells e)
              (λ o. unless-written out said one due status.KeysRefused tells (file_refused one-script good-script one-ring good-ring options files around said due calls keys_text line o bad))) (read calls (h calls is))) scripts;
          no_key = if-both (input.told input.before) _ _ (λ text h calls is. if-both (files.told files.before) _ _ (λ told g keys_text file ring its none.
              by-file calls keys_text (UnlessFault one status.KeysRefused) (g keys_text file)
              (λ e failed. unless-written out said one due status.KeysRefused tells e)
              (λ o. unless-written out said one due status.KeysRefused tells (key_refused options calls ring around said due (ring_taken one-script good-script one-ring good-ring options files around said due calls keys_text ring o its) none))) (read calls (h calls is))) scripts;
          completeness = λ no_fault. if-both (input.told input.before) _ _ (λ text h calls is. if-both (files.told files.before) _ _ (λ told g keys_text file ring keys lawful none.
              by-file calls keys_text ((one ≡ status.Memory) ⊎ ((written : List ℕ) × RanBatch options calls ring keys around one written × Writes out written)) (g keys_text file)
              (λ e failed. absurd (no_fault.of_files failed))
              (λ o. written-batch calls ring keys no_fault (calls_taken options calls ring around said due keys (keys-of calls keys_text ring keys o lawful) none) tells)) (read calls (h calls is))) scripts;
        }

  -- ---- none is

  -- whatever is due, this comes
  not-told : (one want : Status) → (one ≡ status.ReadFault) ⊎ (one ≡ status.Memory) → UnlessFault one want
  not-told one want (inl e) = inr (inl e)
  not-told one want (inr e) = inr (inr (inr e))

  module _ (one : Status) (why : (one ≡ status.ReadFault) ⊎ (one ≡ status.Memory)) (untouched : IsUntouched out) (asked : AskedFor options.keys files ⊎ (files.after ≡ files.before)) (connects : UsesNet options around) where
    none-of : (one ≡ status.ReadFault) ⊎ (one ≡ status.Memory) → IsOfCall one ⊎ (one ≡ status.ReadFault) ⊎ (one ≡ status.WriteFault) ⊎ (one ≡ status.Memory)
    none-of (inl e) = inr (inl e)
    none-of (inr e) = inr (inr (inr e))

    untold : (one ≡ status.ReadFault) ⊎ (one ≡ status.Memory) → (one ≡ status.ReadFault → HadFault input × (files.after ≡ files.before) × IsIdle around) → (one ≡ status.Memory → RunsOut options input files around)
        → IsTold options input out files around one
    untold (inl e) read_fault left = let h = read_fault e in inr (inl (e, h.0, untouched, h.1, h.2))
    untold (inr e) read_fault left = inr (inr (e, untouched, left e))

    for-memory : HasNoFault input out files → (one ≡ status.ReadFault) ⊎ (one ≡ status.Memory) → (one ≡ status.ReadFault → HadFault input × (files.after ≡ files.before) × IsIdle around) → one ≡ status.Memory
    for-memory no_fault (inl e) read_fault = absurd (no_fault.of_input (read_fault e).0)
    for-memory no_fault (inr e) read_fault = e

    pub untold_run : (one ≡ status.ReadFault → HadFault input × (files.after ≡ files.before) × IsIdle around) → (one ≡ status.Memory → RunsOut options input files around) → CallRun options input out files around one
    untold_run read_fault left = record {
      ends = none-of why;
      told = untold why read_fault left;
      asked = asked;
      connects = connects;
      no_script = if-told (input.told input.before) _ (λ text bad. not-told one status.InputRefused why);
      not_taken = if-told (input.told input.before) _ (λ text calls is. if-told (files.told files.before) _ (λ told keys_text file ring keys lawful line fault first. inl (not-told one status.InputRefused why)));
      no_ring = if-told (input.told input.before) _ (λ text calls is. if-told (files.told files.before) _ (λ told keys_text file line bad. not-told one status.KeysRefused why));
      no_key = if-told (input.told input.before) _ (λ text calls is. if-told (files.told files.before) _ (λ told keys_text file ring its none. not-told one status.KeysRefused why));
      completeness = λ no_fault. if-told (input.told input.before) _ (λ text calls is. if-told (files.told files.before) _ (λ told keys_text file ring keys lawful none. inl (for-memory no_fault why read_fault)));
    }
