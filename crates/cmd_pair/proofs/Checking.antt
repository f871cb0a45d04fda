-- What is refused, at the check that refuses it and before the run.
use Rattle.std.proofs.Common.{◌≡◌, inl, inr, ℕ, List, Option, Some, None, Result, Ok, Err, IfErr, IfOk, subst}
use Rattle.auth_keys.specs.declared.ring.RingKey.{RingKey}
use Rattle.call_script.specs.Scripts.{Spells}
use Rattle.call_script.specs.declared.script.ScriptCall.{ScriptCall}
use Rattle.client_core.specs.Kept.{Contents}
use Rattle.client_core.specs.Keys.{Keys}
use Rattle.client_rules.specs.Asking.{Fault}
use Rattle.cmd_call.specs.Inner.{IsAt, IsRefusalOf}
use Rattle.cmd_call.specs.Owed.{AskedFor, Around, Files, Gave, IsRead}
use Rattle.cmd_call.specs.Script.{untaken}
use Rattle.commands.specs.declared.command.PairOptions.{PairOptions}
use Rattle.draws.specs.Draws.{draw_after}
use Rattle.key_files.specs.Files.{HasFile}
use Rattle.statuses.specs.Outside.{Outside}
use Rattle.statuses.specs.declared.answer.Answer.{Answer}
use Rattle.cmd_pair.specs.Checks.{BadFile, BadLine, HasKeys, HasRing, HasScript, NoKey, TooLong, Unread, Untaken}
use Rattle.cmd_pair.specs.Inner.{HaltsAtCalls, HaltsAtFile, HaltsAtScript, HaltsAtText, HaltsBefore, HaltsRun, IsGiven, IsTaken}
use Rattle.cmd_pair.specs.Runs.{IsAside}
use Rattle.cmd_pair.specs.Servers.{Kids}
use Rattle.cmd_pair.specs.declared.halt.Halt.{Halt}
use Rattle.cmd_pair.specs.declared.halt.Halt.TheVariants as halts

-- ---- at each check

-- the text that was read is a script, or isn't
pub script-by : {S : Type 0} (input : Outside S) (text : List ℕ) → IsRead input text → (result : Result (List ScriptCall) Halt) → IfOk result (Spells text) → IfOk result (HasScript input)
script-by input text read (Ok calls) spelt = record { text = text; read = read; spelt = spelt }
script-by input text read (Err halt) spelt = tt

pub halts-at-script : {S : Type 0} (input : Outside S) (text : List ℕ) → IsRead input text → (result : Result (List ScriptCall) Halt) → IfErr result (HaltsAtText text) → IfErr result (HaltsAtScript input)
halts-at-script input text read (Ok calls) h = tt
halts-at-script input text read (Err (halts.Refused answer)) h = inr (h.0, text, read, h.1, h.2)
halts-at-script input text read (Err halts.ReadFault) h = absurd h
halts-at-script input text read (Err halts.Memory) h = tt

pub gave-by : {F : Type 0} (name own : List ℕ) (files : Files F) (text : List ℕ) → name ≡ own → AskedFor name files → HasFile (files.told files.before) name text
    → files.faults files.after ≡ files.faults files.before → Gave own files text
gave-by name own files text is asked named same = subst (λ (some : List ℕ). Gave some files text) is (record { asked = asked; named = named; no_fault = same })

-- a call isn't taken
pub untaken-by : {D : Type 0} (options : PairOptions) (calls : List ScriptCall) (ring : List RingKey) (step : D → ℕ × D) (draw draw_then : D) (keys : Keys) (line : ℕ) (why : Option Fault) (answer : Answer) → HasKeys options ring keys
    → draw_then ≡ draw_after step 1 draw → IsAt (untaken calls) line why → IsRefusalOf line why answer.status answer.text → HaltsAtCalls options calls ring step draw draw_then (halts.Refused answer)
untaken-by options calls ring step draw draw_then keys line None answer has drawn at told = absurd told
untaken-by options calls ring step draw draw_then keys line (Some fault) answer has drawn at told = inr (line, fault, keys, has, at, drawn, told)

-- ---- in the run

module _ {S F D : Type 0} (options : PairOptions) (input : Outside S) (files : Files F) (step : D → ℕ × D) (draw draw_then : D) where
  -- at the script
  pub at-script : files.after ≡ files.before → draw_then ≡ draw → (halt : Halt) → HaltsAtScript input halt → HaltsBefore options input files step draw draw_then halt
  at-script unasked undrawn (halts.Refused answer) (inl h) = (TooLong, (h.0, unasked), undrawn, h.1)
  at-script unasked undrawn (halts.Refused answer) (inr h) = (BadLine h.0, (h.1, h.2, h.3, unasked), undrawn, h.4)
  at-script unasked undrawn halts.ReadFault h = (h, unasked, undrawn)
  at-script unasked undrawn halts.Memory h = tt

  module _ (calls : List ScriptCall) (script : HasScript input calls) where
    -- at the key file
    pub at-file : AskedFor options.keys files → draw_then ≡ draw → (halt : Halt) → HaltsAtFile options files halt → HaltsBefore options input files step draw draw_then halt
    at-file asked undrawn (halts.Refused answer) (inl h) = (Unread, (calls, script, asked, h.0), undrawn, h.1)
    at-file asked undrawn (halts.Refused answer) (inr h) = (BadFile h.0, (calls, script, h.1, h.2, h.3), undrawn, h.4)
    at-file asked undrawn halts.ReadFault h = absurd h
    at-file asked undrawn halts.Memory h = tt

    module _ (ring : List RingKey) (file : HasRing options files ring) where
      -- at the key, and at the calls
      pub at-calls : (halt : Halt) → HaltsAtCalls options calls ring step draw draw_then halt → HaltsBefore options input files step draw draw_then halt
      at-calls (halts.Refused answer) (inl h) = (NoKey, (calls, script, ring, file, h.0), h.1, h.2)
      at-calls (halts.Refused answer) (inr h) = (Untaken h.0 h.1, (calls, script, ring, file, h.2, h.3, h.4), h.5, h.6)
      at-calls halts.ReadFault h = absurd h
      at-calls halts.Memory h = tt

      -- all is taken
      pub taken : (client : Contents) → IsGiven options calls ring step draw draw_then client → IsTaken options input files step draw draw_then ring client
      taken client given = record { calls = calls; script = script; file = file; given = given }

module _ {S F N C D P : Type 0} (options : PairOptions) (input : Outside S) (files : Files F) (around : Around N C D) (kids : Kids P) where
  -- and nothing behind it was touched
  pub halts-run : IsAside around kids → (halt : Halt) → HaltsBefore options input files around.step around.draw around.draw_then halt → HaltsRun options input files around kids halt
  halts-run aside (halts.Refused answer) h = (h.0, h.1, h.2, h.3, aside)
  halts-run aside halts.ReadFault h = (h.0, h.1, h.2, aside)
  halts-run aside halts.Memory h = tt
