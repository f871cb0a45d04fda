-- What holds of the script and of the key file that were read.
use Rattle.std.proofs.Common.{◌≡◌, ◌∙◌, inl, inr, ℕ, ◌<◌, ◌≤◌, List, length, Option, Some, None, IfSome, ap, sym, subst, arith}
use Rattle.auth_keys.specs.KeyFile.{IsFaultOf, IsRingOf}
use Rattle.auth_keys.specs.declared.fault.KeyFault.{KeyFault}
use Rattle.auth_keys.specs.declared.fault.KeyFault.TheVariants as faults
use Rattle.auth_keys.specs.declared.ring.RingKey.{RingKey}
use Rattle.call_script.specs.Scripts.{HasBadLine, Spells}
use Rattle.call_script.specs.declared.script.ScriptCall.{ScriptCall}
use Rattle.cmd_call.specs.Owed.{Files, Gave, IsRead}
use Rattle.cmd_call.specs.Runs.{IfFile, IfScript, IsNoScript}
use Rattle.key_files.specs.Files.{IsRefusedAt, line_of}
use Rattle.statuses.specs.Outside.{IfTold, Outside}
use Rattle.cmd_pair.specs.Checks.{HasScript}

pub if-told : {X : Type 0} (o : Option X) (P : X → Type 0) → ((x : X) → P x) → IfSome o P
if-told None P h = tt
if-told (Some x) P h = h x

pub if-both : {X : Type 0} (o : Option X) (P Q : X → Type 0) → ((x : X) → P x → Q x) → IfSome o P → IfSome o Q
if-both None P Q h p = tt
if-both (Some x) P Q h p = h x p

-- whatever was read
pub always : {S F : Type 0} (input : Outside S) (files : Files F) (name : List ℕ) (P : List ScriptCall → List ℕ → Type 0) → ((calls : List ScriptCall) (text : List ℕ) → P calls text)
    → IfScript input (λ calls. IfFile files name (λ text. P calls text))
always input files name P h = if-told (input.told input.before) _ (λ left calls is. if-told (files.told files.before) _ (λ told text file. h calls text))

-- the input is too long for a script
pub by-long : {S : Type 0} (input : Outside S) (Q : List ScriptCall → Type 0) → IfTold input (λ text. 16777216 < length text) → IfScript input Q
by-long input Q long = if-both (input.told input.before) _ _ (λ text more calls is. let short = is.short in absurd (omega (arith, more, short))) long

module _ (one-script : (text : List ℕ) (calls others : List ScriptCall) → Spells text calls → Spells text others → calls ≡ others) (good-script : (text : List ℕ) (calls : List ScriptCall) (bad : ℕ) → Spells text calls → HasBadLine text bad → ⊥) where
  -- a script was read
  same-script : (text left : List ℕ) (own calls : List ScriptCall) → text ≡ left → Spells text own → Spells left calls → own ≡ calls
  same-script text left own calls same spelt is = one-script left own calls (subst (λ (t : List ℕ). Spells t own) same spelt) is

  pub by-script : {S F : Type 0} (input : Outside S) (files : Files F) (name : List ℕ) (P : List ScriptCall → List ℕ → Type 0) (own : List ScriptCall) → HasScript input own
      → ((calls : List ScriptCall) (text : List ℕ) → own ≡ calls → P calls text) → IfScript input (λ calls. IfFile files name (λ text. P calls text))
  by-script input files name P own has h = if-both (input.told input.before) _ _ (λ left same calls is. if-told (files.told files.before) _ (λ told text file. h calls text (same-script has.text left own calls same has.spelt is.spelt))) has.read.whole

  -- and a key file
  pub by-both : {S F : Type 0} (input : Outside S) (files : Files F) (name : List ℕ) (P : List ScriptCall → List ℕ → Type 0) (own : List ScriptCall) → HasScript input own → (mine : List ℕ) → Gave name files mine
      → ((calls : List ScriptCall) (text : List ℕ) → own ≡ calls → mine ≡ text → P calls text) → IfScript input (λ calls. IfFile files name (λ text. P calls text))
  by-both input files name P own has mine gave h =
      if-both (input.told input.before) _ _ (λ left same calls is. if-both (files.told files.before) _ _ (λ told there text file. h calls text (same-script has.text left own calls same has.spelt is.spelt) (file mine there)) gave.named) has.read.whole

  -- a script can't have been read
  pub by-bad : {S : Type 0} (input : Outside S) (Q : List ScriptCall → Type 0) (text : List ℕ) (line : ℕ) → IsRead input text → HasBadLine text line → IfScript input Q
  by-bad input Q text line read bad = if-both (input.told input.before) _ _ (λ left same calls is. absurd (good-script left calls line is.spelt (subst (λ (t : List ℕ). HasBadLine t line) same bad))) read.whole

  no-script : (text left : List ℕ) (own : List ScriptCall) → length text ≤ 16777216 → Spells text own → text ≡ left → IsNoScript left → ⊥
  no-script text left own short spelt same (inl long) = let e : length text ≡ length left = ap length same in omega (arith, e, long, short)
  no-script text left own short spelt same (inr (few, line, bad)) = good-script text own line spelt (subst (λ (t : List ℕ). HasBadLine t line) (sym same) bad)

  -- it isn't one that is none
  pub is-script : {S : Type 0} (input : Outside S) (own : List ScriptCall) (X : Type 0) → HasScript input own → IfTold input (λ text. IsNoScript text → X)
  is-script input own X has = if-both (input.told input.before) _ _ (λ left same bad. absurd (no-script has.text left own has.read.short has.spelt same bad)) has.read.whole

module _ (good-ring : (text : List ℕ) (ring : List RingKey) (fault : KeyFault) → IsRingOf text ring → IsFaultOf text fault → fault ≡ faults.Memory) where
  -- the text of a ring isn't refused
  pub no-fault : (text : List ℕ) (ring : List RingKey) (line : ℕ) → IsRingOf text ring → IsRefusedAt text line → ⊥
  no-fault text ring line is h = let none : None ≡ Some line = sym (ap line_of (good-ring text ring h.fault is h.its)) ∙ h.on in cc
