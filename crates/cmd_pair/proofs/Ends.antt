-- What a run promises, by what is owed and by what was written.
use Rattle.std.proofs.Common.{◌≡◌, ◌∙◌, ◌⊎◌, inl, inr, ℕ, Bool, true, false, List, Some, None, sym, subst, refl}
use Rattle.auth_keys.specs.KeyFile.{IsFaultOf, IsRingOf}
use Rattle.auth_keys.specs.declared.fault.KeyFault.{KeyFault}
use Rattle.auth_keys.specs.declared.fault.KeyFault.TheVariants as faults
use Rattle.auth_keys.specs.declared.ring.RingKey.{RingKey}
use Rattle.call_script.specs.Scripts.{HasBadLine, Spells}
use Rattle.call_script.specs.declared.script.ScriptCall.{ScriptCall}
use Rattle.call_table.specs.Table.{Call}
use Rattle.cmd_call.specs.Keys.{keys_for}
use Rattle.cmd_call.specs.Owed.{AskedFor, Around, FileFault, Files, begins}
use Rattle.cmd_call.specs.Runs.{HasNoFault, IfFile, IfScript, IsNoScript, UnlessNotRead}
use Rattle.cmd_call.specs.Script.{untaken}
use Rattle.cmd_call.specs.Table.{TellsBatch, are_done, decided_status}
use Rattle.client_core.specs.Keys.{Keys}
use Rattle.client_node.specs.Course.{Course}
use Rattle.client_node.specs.declared.plan.Batch.{Batch}
use Rattle.client_node.specs.declared.plan.Batch.TheVariants as batch
use Rattle.client_rules.specs.Asking.{Fault}
use Rattle.client_rules.specs.Client.{calls_of}
use Rattle.commands.specs.declared.command.PairOptions.{PairOptions}
use Rattle.key_files.specs.Files.{IsRefusedAt}
use Rattle.mt_edge.specs.Faults.{Rose}
use Rattle.statuses.specs.Outside.{IfTold, Outside, Tells, Writes}
use Rattle.statuses.specs.Statuses.{UnlessFault}
use Rattle.statuses.specs.declared.status.Status.{Status}
use Rattle.statuses.specs.declared.status.Status.TheVariants as status
use Rattle.cmd_pair.specs.Batches.{OwesPair, RanPair}
use Rattle.cmd_pair.specs.Checks.{BadFile, BadLine, NoKey, Refusal, Refuses, TooLong, Unread, Untaken, status_of, text_of}
use Rattle.cmd_pair.specs.Runs.{IsLawful, IsOfPair, IsTold, IsUnread, PairRun}
use Rattle.cmd_pair.specs.Servers.{Kids}
use Rattle.cmd_pair.proofs.Readings.{always, by-bad, by-both, by-long, if-told, is-script, no-fault, by-script}
use Rattle.cmd_pair.proofs.Spawning.{rises}

-- ---- a status that is due comes, unless a write failed

unless : {O : Type 0} (out : Outside O) (said one : Status) (due : List ℕ) (want : Status) → Tells out said due one → said ≡ want → UnlessFault one want
unless out said one due want (inl h) is = inl (h.0 ∙ is)
unless out said one due want (inr h) is = inr (inr (inl h.0))

unless-read : {O F : Type 0} (out : Outside O) (files : Files F) (said one : Status) (due : List ℕ) (want : Status) → Tells out said due one → said ≡ status.KeysRefused → FileFault files → UnlessNotRead files one want
unless-read out files said one due want (inl h) is fault = inr (h.0 ∙ is, fault)
unless-read out files said one due want (inr h) is fault = inl (inr (inr (inl h.0)))

-- ---- by what it ends

written-of : {O : Type 0} (out : Outside O) (said one : Status) (due : List ℕ) → IsOfPair said → Tells out said due one
    → IsOfPair one ⊎ (one ≡ status.ReadFault) ⊎ (one ≡ status.WriteFault) ⊎ (one ≡ status.Memory)
written-of out said one due of (inl h) = inl (subst (λ (s : Status). IsOfPair s) (sym h.0) of)
written-of out said one due of (inr h) = inr (inr (inl h.0))

refused-of : (refusal : Refusal) → IsOfPair (status_of refusal)
refused-of TooLong = inl (inr (inl refl))
refused-of (BadLine line) = inl (inr (inl refl))
refused-of Unread = inl (inr (inr (inl refl)))
refused-of (BadFile line) = inl (inr (inr (inl refl)))
refused-of NoKey = inl (inr (inr (inl refl)))
refused-of (Untaken line fault) = inl (inr (inl refl))

decided-of : (all : Bool) → IsOfPair (decided_status all)
decided-of true = inl (inl refl)
decided-of false = inl (inr (inr (inr (inl refl))))

batch-of : (end : Batch) (calls : List Call) (one : Status) (due : List ℕ) → TellsBatch end calls one due → IsOfPair one
batch-of batch.Decided calls one due told = subst (λ (s : Status). IsOfPair s) (sym told.0) (decided-of (are_done calls))
batch-of batch.LinkLost calls one due told = inl (inr (inr (inr (inr (inl told.0)))))
batch-of batch.TurnsSpent calls one due told = inl (inr (inr (inr (inr (inr (inl told.0))))))
batch-of batch.Spent calls one due told = inl (inr (inr (inr (inr (inr (inr told.0))))))
batch-of batch.Memory calls one due told = absurd told

-- it isn't a child fault
no-child : {O : Type 0} (out : Outside O) (said one : Status) (due : List ℕ) → Tells out said due one → (said ≡ status.NotListening → ⊥) → one ≡ status.NotListening → ⊥
no-child out said one due (inl h) other is = other (sym h.0 ∙ is)
no-child out said one due (inr h) other is = let e = h.0 in cc

refused-no-child : (refusal : Refusal) → status_of refusal ≡ status.NotListening → ⊥
refused-no-child TooLong is = cc
refused-no-child (BadLine line) is = cc
refused-no-child Unread is = cc
refused-no-child (BadFile line) is = cc
refused-no-child NoKey is = cc
refused-no-child (Untaken line fault) is = cc

decided-no-child : (all : Bool) → decided_status all ≡ status.NotListening → ⊥
decided-no-child true is = cc
decided-no-child false is = cc

batch-no-child : (end : Batch) (calls : List Call) (one : Status) (due : List ℕ) → TellsBatch end calls one due → one ≡ status.NotListening → ⊥
batch-no-child batch.Decided calls one due told is = decided-no-child (are_done calls) (sym told.0 ∙ is)
batch-no-child batch.LinkLost calls one due told is = let e = told.0 in cc
batch-no-child batch.TurnsSpent calls one due told is = let e = told.0 in cc
batch-no-child batch.Spent calls one due told is = let e = told.0 in cc
batch-no-child batch.Memory calls one due told is = told

module _ {S O F N C D P : Type 0} (options : PairOptions) (input : Outside S) (out : Outside O) (files : Files F) (around : Around N C D) (kids : Kids P) (one : Status) where
  pair-no-child : (ring : List RingKey) (course : Course D) (said : Status) (due : List ℕ) → RanPair options ring course around kids said due → said ≡ status.NotListening → ⊥
  pair-no-child ring course said due (inl h) is = batch-no-child h.last.end (calls_of h.last.left) said due h.last.told is
  pair-no-child ring course said due (inr h) is = batch-no-child h.last.end (calls_of h.last.left) said due h.last.told is

  owed-of : (ring : List RingKey) (course : Course D) (said : Status) (due : List ℕ) → OwesPair options ring course around kids said due → IsOfPair said
  owed-of ring course said due (inl (inl h)) = batch-of h.last.end (calls_of h.last.left) said due h.last.told
  owed-of ring course said due (inl (inr h)) = batch-of h.last.end (calls_of h.last.left) said due h.last.told
  owed-of ring course said due (inr h) = inr h.said

  ends-by : IsTold options input out files around kids one → IsOfPair one ⊎ (one ≡ status.ReadFault) ⊎ (one ≡ status.WriteFault) ⊎ (one ≡ status.Memory)
  ends-by (inl h) = written-of out (status_of h.refusal) one (text_of h.refusal) (refused-of h.refusal) h.tells
  ends-by (inr (inl h)) = written-of out h.said one h.due (owed-of h.ring (begins h.keys h.calls around) h.said h.due h.owed) h.tells
  ends-by (inr (inr (inl h))) = inr (inl h.said)
  ends-by (inr (inr (inr h))) = inr (inr (inr h.0))

  child-by : (ring : List RingKey) (course : Course D) (said : Status) (due : List ℕ) → OwesPair options ring course around kids said due → Tells out said due one
      → one ≡ status.NotListening → Rose (kids.faults kids.before) (kids.faults kids.after)
  child-by ring course said due (inl ran) tells is = absurd (no-child out said one due tells (pair-no-child ring course said due ran) is)
  child-by ring course said due (inr child) tells is = rises (kids.faults kids.before) (kids.faults kids.after) child.counted

  child-fault : IsTold options input out files around kids one → one ≡ status.NotListening → Rose (kids.faults kids.before) (kids.faults kids.after)
  child-fault (inl h) is = absurd (no-child out (status_of h.refusal) one (text_of h.refusal) h.tells (refused-no-child h.refusal) is)
  child-fault (inr (inl h)) is = child-by h.ring (begins h.keys h.calls around) h.said h.due h.owed h.tells is
  child-fault (inr (inr (inl h))) is = let e = h.said in absurd cc
  child-fault (inr (inr (inr h))) is = let e = h.0 in absurd cc

  unread : (want : Status) → IsUnread input out files around kids one → UnlessFault one want
  unread want h = inr (inl h.said)

  forgot : (want : Status) → one ≡ status.Memory → UnlessFault one want
  forgot want is = inr (inr (inr is))

  module _ (one-script : (text : List ℕ) (calls others : List ScriptCall) → Spells text calls → Spells text others → calls ≡ others) (good-script : (text : List ℕ) (calls : List ScriptCall) (bad : ℕ) → Spells text calls → HasBadLine text bad → ⊥)
      (one-ring : (text : List ℕ) (ring other : List RingKey) → IsRingOf text ring → IsRingOf text other → ring ≡ other) (good-ring : (text : List ℕ) (ring : List RingKey) (fault : KeyFault) → IsRingOf text ring → IsFaultOf text fault → fault ≡ faults.Memory) where
    -- ---- the input is no script

    refused-input : (refusal : Refusal) → Refuses options input files refusal → Tells out (status_of refusal) (text_of refusal) one → IfTold input (λ text. IsNoScript text → UnlessFault one status.InputRefused)
    refused-input TooLong cause tells = if-told (input.told input.before) _ (λ text bad. unless out status.InputRefused one _ status.InputRefused tells refl)
    refused-input (BadLine line) cause tells = if-told (input.told input.before) _ (λ text bad. unless out status.InputRefused one _ status.InputRefused tells refl)
    refused-input Unread cause tells = is-script one-script good-script input cause.0 _ cause.1
    refused-input (BadFile line) cause tells = is-script one-script good-script input cause.0 _ cause.1
    refused-input NoKey cause tells = is-script one-script good-script input cause.0 _ cause.1
    refused-input (Untaken line fault) cause tells = is-script one-script good-script input cause.0 _ cause.1

    no-input : IsTold options input out files around kids one → IfTold input (λ text. IsNoScript text → UnlessFault one status.InputRefused)
    no-input (inl h) = refused-input h.refusal h.cause h.tells
    no-input (inr (inl h)) = is-script one-script good-script input h.calls _ h.ready.script
    no-input (inr (inr (inl h))) = if-told (input.told input.before) _ (λ text bad. unread status.InputRefused h)
    no-input (inr (inr (inr h))) = if-told (input.told input.before) _ (λ text bad. forgot status.InputRefused h.0)

    -- ---- a call isn't taken

    -- a text is of one ring
    same-ring : (mine text : List ℕ) (ring other : List RingKey) → IsRingOf mine ring → mine ≡ text → IsRingOf text other → ring ≡ other
    same-ring mine text ring other its same is = one-ring text ring other (subst (λ (t : List ℕ). IsRingOf t ring) same its) is

    not-lawful : (mine text : List ℕ) (ring other : List RingKey) (keys : Keys) → IsRingOf mine ring → mine ≡ text → keys_for ring options.key None ≡ None → IsLawful options text other keys → ⊥
    not-lawful mine text ring other keys its same none lawful =
        let is = same-ring mine text ring other its same lawful.read in
        let found = lawful.found in
        cc

    abbrev NotTaken : List ScriptCall → List ℕ → Type 0
    NotTaken calls text = (ring : List RingKey) (keys : Keys) → IsLawful options text ring keys → (line : ℕ) (fault : Fault) → untaken calls ≡ Some (line, fault) → UnlessNotRead files one status.InputRefused

    refused-call : (refusal : Refusal) → Refuses options input files refusal → Tells out (status_of refusal) (text_of refusal) one → IfScript input (λ calls. IfFile files options.keys (λ text. NotTaken calls text))
    refused-call TooLong cause tells = always input files options.keys NotTaken (λ calls text ring keys lawful line fault first. inl (unless out status.InputRefused one _ status.InputRefused tells refl))
    refused-call (BadLine bad) cause tells = always input files options.keys NotTaken (λ calls text ring keys lawful line fault first. inl (unless out status.InputRefused one _ status.InputRefused tells refl))
    refused-call (Untaken at why) cause tells = always input files options.keys NotTaken (λ calls text ring keys lawful line fault first. inl (unless out status.InputRefused one _ status.InputRefused tells refl))
    refused-call Unread cause tells = always input files options.keys NotTaken (λ calls text ring keys lawful line fault first. unless-read out files status.KeysRefused one _ status.InputRefused tells refl cause.3)
    refused-call (BadFile bad) cause tells =
        by-both one-script good-script input files options.keys NotTaken cause.0 cause.1 cause.2 cause.3
        (λ calls text is same ring keys lawful line fault first. absurd (no-fault good-ring text ring bad lawful.read (subst (λ (t : List ℕ). IsRefusedAt t bad) same cause.4)))
    refused-call NoKey cause tells =
        by-both one-script good-script input files options.keys NotTaken cause.0 cause.1 cause.3.text cause.3.gave
        (λ calls text is same ring keys lawful line fault first. absurd (not-lawful cause.3.text text cause.2 ring keys cause.3.its same cause.4 lawful))

    all-taken : (own calls : List ScriptCall) (line : ℕ) (fault : Fault) → untaken own ≡ None → own ≡ calls → untaken calls ≡ Some (line, fault) → ⊥
    all-taken own calls line fault none is first = cc

    no-call : IsTold options input out files around kids one → IfScript input (λ calls. IfFile files options.keys (λ text. NotTaken calls text))
    no-call (inl h) = refused-call h.refusal h.cause h.tells
    no-call (inr (inl h)) = by-script one-script good-script input files options.keys NotTaken h.calls h.ready.script (λ calls text is ring keys lawful line fault first. absurd (all-taken h.calls calls line fault h.ready.taken is first))
    no-call (inr (inr (inl h))) = always input files options.keys NotTaken (λ calls text ring keys lawful line fault first. inl (unread status.InputRefused h))
    no-call (inr (inr (inr h))) = always input files options.keys NotTaken (λ calls text ring keys lawful line fault first. inl (forgot status.InputRefused h.0))

    -- ---- the key file has a fault

    abbrev NoRing : List ScriptCall → List ℕ → Type 0
    NoRing calls text = (line : ℕ) → IsRefusedAt text line → UnlessFault one status.KeysRefused

    -- where a script and a ring were read, the file has no fault
    ring-read : (own : List ScriptCall) (ring : List RingKey) (mine text : List ℕ) (line : ℕ) → IsRingOf mine ring → mine ≡ text → IsRefusedAt text line → ⊥
    ring-read own ring mine text line its same bad = no-fault good-ring text ring line (subst (λ (t : List ℕ). IsRingOf t ring) same its) bad

    refused-file : (refusal : Refusal) → Refuses options input files refusal → Tells out (status_of refusal) (text_of refusal) one → IfScript input (λ calls. IfFile files options.keys (λ text. NoRing calls text))
    refused-file TooLong cause tells = by-long input _ cause.0
    refused-file (BadLine bad) cause tells = by-bad one-script good-script input _ cause.0 bad cause.1 cause.2
    refused-file Unread cause tells = always input files options.keys NoRing (λ calls text line bad. unless out status.KeysRefused one _ status.KeysRefused tells refl)
    refused-file (BadFile at) cause tells = always input files options.keys NoRing (λ calls text line bad. unless out status.KeysRefused one _ status.KeysRefused tells refl)
    refused-file NoKey cause tells = always input files options.keys NoRing (λ calls text line bad. unless out status.KeysRefused one _ status.KeysRefused tells refl)
    refused-file (Untaken at why) cause tells =
        by-both one-script good-script input files options.keys NoRing cause.0 cause.1 cause.3.text cause.3.gave (λ calls text is same line bad. absurd (ring-read cause.0 cause.2 cause.3.text text line cause.3.its same bad))

    no-file : IsTold options input out files around kids one → IfScript input (λ calls. IfFile files options.keys (λ text. NoRing calls text))
    no-file (inl h) = refused-file h.refusal h.cause h.tells
    no-file (inr (inl h)) =
        by-both one-script good-script input files options.keys NoRing h.calls h.ready.script h.ready.file.text h.ready.file.gave
        (λ calls text is same line bad. absurd (ring-read h.calls h.ring h.ready.file.text text line h.ready.file.its same bad))
    no-file (inr (inr (inl h))) = always input files options.keys NoRing (λ calls text line bad. unread status.KeysRefused h)
    no-file (inr (inr (inr h))) = always input files options.keys NoRing (λ calls text line bad. forgot status.KeysRefused h.0)

    -- ---- it lacks the key

    abbrev LacksKey : List ScriptCall → List ℕ → Type 0
    LacksKey calls text = (ring : List RingKey) → IsRingOf text ring → keys_for ring options.key None ≡ None → UnlessFault one status.KeysRefused

    -- a ring that has it was read
    has-key : (mine text : List ℕ) (ring other : List RingKey) (keys : Keys) → IsRingOf mine ring → mine ≡ text → keys_for ring options.key None ≡ Some keys → IsRingOf text other → keys_for other options.key None ≡ None → ⊥
    has-key mine text ring other keys its same found is none = let one = same-ring mine text ring other its same is in cc

    refused-key : (refusal : Refusal) → Refuses options input files refusal → Tells out (status_of refusal) (text_of refusal) one → IfScript input (λ calls. IfFile files options.keys (λ text. LacksKey calls text))
    refused-key TooLong cause tells = by-long input _ cause.0
    refused-key (BadLine bad) cause tells = by-bad one-script good-script input _ cause.0 bad cause.1 cause.2
    refused-key Unread cause tells = always input files options.keys LacksKey (λ calls text ring its none. unless out status.KeysRefused one _ status.KeysRefused tells refl)
    refused-key (BadFile at) cause tells = always input files options.keys LacksKey (λ calls text ring its none. unless out status.KeysRefused one _ status.KeysRefused tells refl)
    refused-key NoKey cause tells = always input files options.keys LacksKey (λ calls text ring its none. unless out status.KeysRefused one _ status.KeysRefused tells refl)
    refused-key (Untaken at why) cause tells =
        by-both one-script good-script input files options.keys LacksKey cause.0 cause.1 cause.3.text cause.3.gave
        (λ calls text is same ring its none. absurd (has-key cause.3.text text cause.2 ring cause.4 cause.3.its same cause.5 its none))

    no-key : IsTold options input out files around kids one → IfScript input (λ calls. IfFile files options.keys (λ text. LacksKey calls text))
    no-key (inl h) = refused-key h.refusal h.cause h.tells
    no-key (inr (inl h)) =
        by-both one-script good-script input files options.keys LacksKey h.calls h.ready.script h.ready.file.text h.ready.file.gave
        (λ calls text is same ring its none. absurd (has-key h.ready.file.text text h.ring ring h.keys h.ready.file.its same h.ready.found its none))
    no-key (inr (inr (inl h))) = always input files options.keys LacksKey (λ calls text ring its none. unread status.KeysRefused h)
    no-key (inr (inr (inr h))) = always input files options.keys LacksKey (λ calls text ring its none. forgot status.KeysRefused h.0)

    -- ---- all is taken, and nothing failed

    abbrev Completes : List ScriptCall → List ℕ → Type 0
    Completes calls text = (ring : List RingKey) (keys : Keys) → IsLawful options text ring keys → untaken calls ≡ None
        → (one ≡ status.Memory) ⊎ ((due : List ℕ) × RanPair options ring (begins keys calls around) around kids one due × Writes out due)

    module _ (never : HasNoFault input out files) (no_fault : Rose (kids.faults kids.before) (kids.faults kids.after) → ⊥) where
      -- the batches were run, and what became of the calls is written
      ran : (ring : List RingKey) (course : Course D) (said : Status) (due : List ℕ) → OwesPair options ring course around kids said due → Tells out said due one
          → (one ≡ status.Memory) ⊎ ((text : List ℕ) × RanPair options ring course around kids one text × Writes out text)
      ran ring course said due (inl h) (inl tells) = inr (due, subst (λ (s : Status). RanPair options ring course around kids s due) (sym tells.0) h, tells.1)
      ran ring course said due (inl h) (inr tells) = absurd (never.of_out tells.1)
      ran ring course said due (inr child) tells = absurd (no_fault (rises (kids.faults kids.before) (kids.faults kids.after) child.counted))

      refused-all : (refusal : Refusal) → Refuses options input files refusal → IfScript input (λ calls. IfFile files options.keys (λ text. Completes calls text))
      refused-all TooLong cause = by-long input _ cause.0
      refused-all (BadLine bad) cause = by-bad one-script good-script input _ cause.0 bad cause.1 cause.2
      refused-all Unread cause = absurd (never.of_files cause.3)
      refused-all (BadFile at) cause =
          by-both one-script good-script input files options.keys Completes cause.0 cause.1 cause.2 cause.3
          (λ calls text is same ring keys lawful none. absurd (no-fault good-ring text ring at lawful.read (subst (λ (t : List ℕ). IsRefusedAt t at) same cause.4)))
      refused-all NoKey cause =
          by-both one-script good-script input files options.keys Completes cause.0 cause.1 cause.3.text cause.3.gave
          (λ calls text is same ring keys lawful none. absurd (not-lawful cause.3.text text cause.2 ring keys cause.3.its same cause.4 lawful))
      refused-all (Untaken at why) cause =
          by-script one-script good-script input files options.keys Completes cause.0 cause.1 (λ calls text is ring keys lawful none. absurd (all-taken calls cause.0 at why none (sym is) cause.6))

      run-by : (own calls : List ScriptCall) (ring other : List RingKey) (mine keys : Keys) (said : Status) (due : List ℕ) → own ≡ calls → ring ≡ other → mine ≡ keys
          → OwesPair options ring (begins mine own around) around kids said due → Tells out said due one
          → (one ≡ status.Memory) ⊎ ((text : List ℕ) × RanPair options other (begins keys calls around) around kids one text × Writes out text)
      run-by own calls ring other mine keys said due same its found owed tells =
          ran other (begins keys calls around) said due
          (subst (λ (k : Keys). OwesPair options other (begins k calls around) around kids said due) found
          (subst (λ (r : List RingKey). OwesPair options r (begins mine calls around) around kids said due) its
          (subst (λ (cs : List ScriptCall). OwesPair options ring (begins mine cs around) around kids said due) same owed))) tells

      same-keys : (mine text : List ℕ) (ring other : List RingKey) (own keys : Keys) → ring ≡ other → keys_for ring options.key None ≡ Some own → keys_for other options.key None ≡ Some keys → own ≡ keys
      same-keys mine text ring other own keys same found is = cc

      complete : IsTold options input out files around kids one → IfScript input (λ calls. IfFile files options.keys (λ text. Completes calls text))
      complete (inl h) = refused-all h.refusal h.cause
      complete (inr (inl h)) =
          by-both one-script good-script input files options.keys Completes h.calls h.ready.script h.ready.file.text h.ready.file.gave
          (λ calls text is same ring keys lawful none.
          let its = same-ring h.ready.file.text text h.ring ring h.ready.file.its same lawful.read in
          run-by h.calls calls h.ring ring h.keys keys h.said h.due is its (same-keys h.ready.file.text text h.ring ring h.keys keys its h.ready.found lawful.found) h.owed h.tells)
      complete (inr (inr (inl h))) = absurd (never.of_input h.fault)
      complete (inr (inr (inr h))) = always input files options.keys Completes (λ calls text ring keys lawful none. inl h.0)

    -- ---- a run

    pub pair-run : IsTold options input out files around kids one → (AskedFor options.keys files ⊎ (files.after ≡ files.before)) → PairRun options input out files around kids one
    pair-run told asked = record {
      ends = ends-by told;
      told = told;
      asked = asked;
      child_fault = child-fault told;
      no_script = no-input told;
      not_taken = no-call told;
      no_ring = no-file told;
      no_key = no-key told;
      completeness = λ never no_fault. complete never no_fault told;
    }
