-- What a run reads and writes.
use Rattle.std.specs.Prelude.{◌≡◌, ◌≢◌, ◌⊎◌, ℕ, Option, Some, List, [], ◌++◌, IfSome, IsSomeAnd}
use Rattle.mt_edge.specs.Faults.{Rose}
use Rattle.statuses.specs.declared.status.Status.{Status}
use Rattle.statuses.specs.declared.status.Status.TheVariants as status

-- A part of the outside, before a run and after it: what it tells, where it does, and the faults that it counted.
pub record Part (A T : Type 0) : Type 0 where
  pub told : T → Option A
  pub faults : T → ℕ
  pub before : T
  pub after : T

-- a source or a sink, which tells the bytes that are left in it, or that were written to it
abbrev pub Outside : Type 0 → Type 0
Outside T = Part (List ℕ) T

-- of a source: this holds of the bytes that were left in it, where it tells them
abbrev pub IfTold : {T : Type 0} → Outside T → (List ℕ → Type 0) → Type 0
IfTold input P = IfSome (input.told input.before) P

-- all of them were read, and no read failed
pub record IsReadToTheEnd {T : Type 0} (input : Outside T) : Type 0 where
  pub bytes : IfTold input (λ text. input.told input.after ≡ Some [])
  pub no_fault : input.faults input.after ≡ input.faults input.before

-- of a sink: no write failed, and where it tells what was written, this text was
pub record Writes {T : Type 0} (out : Outside T) (due : List ℕ) : Type 0 where
  pub bytes : IfSome (out.told out.before) (λ bytes. out.told out.after ≡ Some (bytes ++ due))
  pub no_fault : out.faults out.after ≡ out.faults out.before

-- or a front of it was, which lacks at least its last byte
abbrev pub WritesFront : {T : Type 0} → Outside T → List ℕ → Type 0
WritesFront out due =
    IfSome (out.told out.before) (λ bytes. IsSomeAnd (out.told out.after) (λ now. (front : List ℕ) × (rest : List ℕ) × (due ≡ front ++ rest) × (rest ≢ []) × (now ≡ bytes ++ front)))

-- nothing was done to it
abbrev pub IsUntouched : {A T : Type 0} → Part A T → Type 0
IsUntouched one = one.after ≡ one.before

-- it counted a fault, or stands at the last value that its count can have
abbrev pub HadFault : {A T : Type 0} → Part A T → Type 0
HadFault one = Rose (one.faults one.before) (one.faults one.after)

-- A text was to be written and the run to end by this status: so it did, and no write failed; or one did, and the text isn't whole.
abbrev pub Tells : {T : Type 0} → Outside T → Status → List ℕ → Status → Type 0
Tells out due text one =
    ((one ≡ due) × Writes out text) ⊎ ((one ≡ status.WriteFault) × HadFault out × WritesFront out text)

-- A run that writes one text, which is known beforehand, as is its status: it does so, unless memory ran out before.
abbrev pub PlainRun : {T : Type 0} → Outside T → Status → List ℕ → Status → Type 0
PlainRun out due text one = Tells out due text one ⊎ ((one ≡ status.Memory) × IsUntouched out)
