-- The servers that are started, and what a spawner notes of each.
use Rattle.std.specs.Prelude.{◌≡◌, ℕ, ◌+◌, Option, Some, None, IfSome, IsSomeAnd, codes, decimal, List, [], ◌∷◌, ◌++◌, map, ⊤}
use Rattle.commands.specs.declared.command.PairOptions.{PairOptions}
use Rattle.mt_edge.specs.Faults.{one_more}
use Rattle.mt_edge.specs.declared.act.Act.TheVariants.{Ready}
use Rattle.mt_edge.specs.declared.kid_call.KidCall.{KidCall}
use Rattle.mt_edge.specs.declared.kid_call.KidCall.TheVariants as call
use Rattle.mt_edge.specs.declared.spawner.Line.{Line}
use Rattle.mt_edge.specs.declared.spawner.Line.TheVariants as lines

-- ---- their words

abbrev pub stop_words : Option ℕ → List (List ℕ)
stop_words None = []
stop_words (Some packets) = codes "--stop-after" ∷ decimal packets ∷ []

-- a server of this key file on this port, which takes one connection and, where it is told to, stops behind so many packets
abbrev pub server_words : List ℕ → ℕ → Option ℕ → List (List ℕ)
server_words keys port stop_after =
    (codes "serve" ∷ codes "--keys" ∷ keys ∷ codes "--port" ∷ decimal port ∷ codes "--conns" ∷ codes "1" ∷ []) ++ stop_words stop_after

-- the first one stops; the second one, on the next port, doesn't
abbrev pub first_words : PairOptions → List (List ℕ)
first_words options = server_words options.keys options.port (Some options.stop_after)

abbrev pub second_words : PairOptions → List (List ℕ)
second_words options = server_words options.keys (options.port + 1) None

-- ---- the calls of a spawner

-- A spawner, before a run and after it: the calls that it tells, where it does, and the faults that it counted.
pub record Kids (P : Type 0) : Type 0 where
  pub calls : P → Option (List KidCall)
  pub faults : P → ℕ
  pub before : P
  pub after : P

abbrev pub kids_of : {P : Type 0} → (P → Option (List KidCall)) → (P → ℕ) → P → P → Kids P
kids_of calls faults before after = record { calls = calls; faults = faults; before = before; after = after }

-- where it tells before, it does afterwards, and of the calls that were made of it this holds
abbrev pub MadeIn : Option (List KidCall) → Option (List KidCall) → (List KidCall → Type 0) → Type 0
MadeIn first last Q = IfSome first (λ before. IsSomeAnd last (λ after. (made : List KidCall) × (after ≡ before ++ made) × Q made))

abbrev pub Made : {P : Type 0} → Kids P → (List KidCall → Type 0) → Type 0
Made kids Q = MadeIn (kids.calls kids.before) (kids.calls kids.after) Q

-- no call of it failed; one did
abbrev pub FailsNever : {P : Type 0} → Kids P → Type 0
FailsNever kids = kids.faults kids.after ≡ kids.faults kids.before

abbrev pub FailsOnce : {P : Type 0} → Kids P → Type 0
FailsOnce kids = kids.faults kids.after ≡ one_more (kids.faults kids.before)

-- ---- one server

-- a line was read, or none is left
abbrev pub GoesOn : Line → Type 0
GoesOn (lines.Text text) = ⊤
GoesOn lines.End = ⊤
GoesOn lines.Failed = ⊥
GoesOn lines.Memory = ⊥

-- it was started with these words, one line of it was read, and it was waited for: it ended with status 0
pub record WasServed (words : List (List ℕ)) (made : List KidCall) : Type 0 where
  pub line : Line
  pub goes_on : GoesOn line
  pub are : made ≡ call.Start words Ready ∷ call.Line line ∷ call.Wait Ready ∷ []

-- what a call asks for, whatever the answer
pub data Ask : Type 0 where
  Starts : (words : List (List ℕ)) → Ask
  ReadsLine : Ask
  Waits : Ask

abbrev pub ask_of : KidCall → Ask
ask_of (call.Start words answer) = Starts words
ask_of (call.Line answer) = ReadsLine
ask_of (call.Wait answer) = Waits

-- what is asked for a server: a start with its words, one line and a wait
abbrev pub asks : List (List ℕ) → List Ask
asks words = Starts words ∷ ReadsLine ∷ Waits ∷ []

-- the calls are a front of these
pub record IsFrontOf (due : List Ask) (made : List KidCall) : Type 0 where
  pub rest : List Ask
  pub whole : due ≡ map ask_of made ++ rest

-- ---- two servers

-- both were served, one after the other
pub record AreBoth (options : PairOptions) (made : List KidCall) : Type 0 where
  pub one : List KidCall
  pub other : List KidCall
  pub whole : made ≡ one ++ other
  pub first : WasServed (first_words options) one
  pub second : WasServed (second_words options) other

-- the first one was served, and a front of the calls for the second one was made
pub record IsSecondFront (options : PairOptions) (made : List KidCall) : Type 0 where
  pub one : List KidCall
  pub other : List KidCall
  pub whole : made ≡ one ++ other
  pub first : WasServed (first_words options) one
  pub second : IsFrontOf (asks (second_words options)) other
