-- The calls of a spawner, one part and then another.
use Rattle.std.proofs.Common.{◌≡◌, ◌∙◌, ◌⊎◌, inl, inr, ℕ, ◌-◌, ◌^◌, ◌<◌, ◌≤◌, List, [], ◌∷◌, ◌++◌, map, Option, Some, None, Result, Ok, Err, IfOk, ap, sym, subst, refl, append_assoc, append-nil, arith}
use Rattle.std.specs.Prelude.{IfSome, IsSomeAnd}
use Rattle.std.proofs.lemmas.Bool.{cases_lt}
use Rattle.mt_edge.specs.Faults.{Rose, one_more}
use Rattle.mt_edge.specs.Kids.{MayNote}
use Rattle.mt_edge.specs.declared.act.Act.{Act}
use Rattle.mt_edge.specs.declared.act.Act.TheVariants.{Ready, Failed as NotDone}
use Rattle.mt_edge.specs.declared.kid_call.KidCall.{KidCall}
use Rattle.mt_edge.specs.declared.kid_call.KidCall.TheVariants as call
use Rattle.mt_edge.specs.declared.spawner.Line.{Line}
use Rattle.cmd_pair.specs.Inner.{BeginsBy, ServesBy, StopsBy, WaitsBy, WasBegun}
use Rattle.cmd_pair.specs.Servers.{Ask, GoesOn, IsFrontOf, Kids, MadeIn, ReadsLine, Waits, WasServed, ask_of, asks, kids_of}
use Rattle.cmd_pair.specs.declared.halt.KidFault.{KidFault}
use Rattle.cmd_pair.specs.declared.halt.KidFault.TheVariants as faults

-- ---- what is told, in parts

pub made-both : (P Q R : List KidCall → Type 0) (first middle last : Option (List KidCall)) → ((one other : List KidCall) → P one → Q other → R (one ++ other))
    → MadeIn first middle P → MadeIn middle last Q → MadeIn first last R
made-both P Q R None middle last both p q = tt
made-both P Q R (Some before) None last both p q = absurd p
made-both P Q R (Some before) (Some between) None both p q = absurd q
made-both P Q R (Some before) (Some between) (Some after) both p q =
    (p.0 ++ q.0, q.1 ∙ ap (λ (calls : List KidCall). calls ++ q.0) p.1 ∙ append_assoc before p.0 q.0, both p.0 q.0 p.2 q.2)

pub made-as : (P Q : List KidCall → Type 0) (first last : Option (List KidCall)) → ((made : List KidCall) → P made → Q made) → MadeIn first last P → MadeIn first last Q
made-as P Q None last so p = tt
made-as P Q (Some before) None so p = absurd p
made-as P Q (Some before) (Some after) so p = (p.0, p.1, so p.0 p.2)

-- a call was noted
pub made-one : (one : KidCall) (first last : Option (List KidCall)) → IfSome first (λ before. IsSomeAnd last (λ after. after ≡ before ++ one ∷ []))
    → MadeIn first last (λ made. made ≡ one ∷ [])
made-one one None last h = tt
made-one one (Some before) None h = absurd h
made-one one (Some before) (Some after) h = (one ∷ [], h, refl)

-- or it may have been
abbrev pub MayBe : KidCall → List KidCall → Type 0
MayBe one made = (made ≡ one ∷ []) ⊎ (made ≡ [])

noted : (one : KidCall) (before after : List KidCall) → MayNote one before after → (made : List KidCall) × (after ≡ before ++ made) × MayBe one made
noted one before after (inl h) = (one ∷ [], h, inl refl)
noted one before after (inr h) = ([], h ∙ sym (append-nil before), inr refl)

pub made-may : (one : KidCall) (first last : Option (List KidCall)) → IfSome first (λ before. IsSomeAnd last (λ after. MayNote one before after)) → MadeIn first last (MayBe one)
made-may one None last h = tt
made-may one (Some before) None h = absurd h
made-may one (Some before) (Some after) h = noted one before after h

-- ---- fronts

front-by : (due rest : List Ask) (made known : List KidCall) → made ≡ known → due ≡ map ask_of known ++ rest → IsFrontOf due made
front-by due rest made known same whole = record { rest = rest; whole = whole ∙ ap (λ (calls : List KidCall). map ask_of calls ++ rest) (sym same) }

module _ (words : List (List ℕ)) where
  -- the start failed
  pub front-start : (answer : Act) (made : List KidCall) → MayBe (call.Start words answer) made → IsFrontOf (asks words) made
  front-start answer made (inl h) = front-by (asks words) (ReadsLine ∷ Waits ∷ []) made (call.Start words answer ∷ []) h refl
  front-start answer made (inr h) = front-by (asks words) (asks words) made [] h refl

  -- it was
  pub begun : (line : Line) (one other : List KidCall) → GoesOn line → one ≡ call.Start words Ready ∷ [] → other ≡ call.Line line ∷ [] → WasBegun words (one ++ other)
  begun line one other goes start read = record {
    line = line;
    goes_on = goes;
    are = ap (λ (calls : List KidCall). calls ++ other) start ∙ ap (λ (calls : List KidCall). call.Start words Ready ∷ calls) read;
  }

  -- the wait failed
  pub front-wait : (answer : Act) (one other : List KidCall) → WasBegun words one → MayBe (call.Wait answer) other → IsFrontOf (asks words) (one ++ other)
  front-wait answer one other was (inl h) =
      front-by (asks words) [] (one ++ other) (call.Start words Ready ∷ call.Line was.line ∷ call.Wait answer ∷ [])
      (ap (λ (calls : List KidCall). calls ++ other) was.are ∙ ap (λ (calls : List KidCall). call.Start words Ready ∷ call.Line was.line ∷ calls) h) refl
  front-wait answer one other was (inr h) =
      front-by (asks words) (Waits ∷ []) (one ++ other) (call.Start words Ready ∷ call.Line was.line ∷ [])
      (ap (λ (calls : List KidCall). calls ++ other) was.are ∙ ap (λ (calls : List KidCall). call.Start words Ready ∷ call.Line was.line ∷ calls) h) refl

  -- it didn't
  pub served : (one other : List KidCall) → WasBegun words one → other ≡ call.Wait Ready ∷ [] → WasServed words (one ++ other)
  served one other was waited = record {
    line = was.line;
    goes_on = was.goes_on;
    are = ap (λ (calls : List KidCall). calls ++ other) was.are ∙ ap (λ (calls : List KidCall). call.Start words Ready ∷ call.Line was.line ∷ calls) waited;
  }

-- ---- a server

module _ {P : Type 0} (calls : P → Option (List KidCall)) (counts : P → ℕ) where
  -- a call was noted between these, or may have been
  abbrev Notes : P → P → KidCall → Type 0
  Notes first last one = IfSome (calls first) (λ before. IsSomeAnd (calls last) (λ after. after ≡ before ++ one ∷ []))

  abbrev NotesMaybe : P → P → KidCall → Type 0
  NotesMaybe first last one = IfSome (calls first) (λ before. IsSomeAnd (calls last) (λ after. MayNote one before after))

  module _ (words : List (List ℕ)) where
    -- the start failed
    pub unstarted : (first last : P) (answer : Act) → NotesMaybe first last (call.Start words answer) → counts last ≡ one_more (counts first) → StopsBy words (kids_of calls counts first last) faults.Failed
    unstarted first last answer noted counted = (
      made-as (MayBe (call.Start words answer)) (IsFrontOf (asks words)) (calls first) (calls last) (front-start words answer) (made-may (call.Start words answer) (calls first) (calls last) noted),
      counted,
    )

    module _ (first middle last : P) (start : Notes first middle (call.Start words Ready)) (same : counts middle ≡ counts first) (line : Line) where
      -- it was started, and its line was read
      pub begins : GoesOn line → Notes middle last (call.Line line) → counts last ≡ counts middle → BeginsBy words (Ok tt) (kids_of calls counts first last)
      begins goes read still = (
        made-both (λ made. made ≡ call.Start words Ready ∷ []) (λ made. made ≡ call.Line line ∷ []) (WasBegun words) (calls first) (calls middle) (calls last)
            (λ one other was is. begun words line one other goes was is) (made-one (call.Start words Ready) (calls first) (calls middle) start) (made-one (call.Line line) (calls middle) (calls last) read),
        still ∙ same,
      )

  -- it was waited for
  pub waited : (first last : P) → Notes first last (call.Wait Ready) → counts last ≡ counts first → WaitsBy {X = Unit {0}} (Ok tt) (kids_of calls counts first last)
  waited first last noted same = (made-one (call.Wait Ready) (calls first) (calls last) noted, same)

  pub unwaited : (first last : P) → NotesMaybe first last (call.Wait NotDone) → counts last ≡ one_more (counts first) → WaitsBy {X = Unit {0}} (Err faults.Failed) (kids_of calls counts first last)
  unwaited first last noted counted = (made-may (call.Wait NotDone) (calls first) (calls last) noted, counted)

  module _ (words : List (List ℕ)) (first middle last : P) (begun : BeginsBy words (Ok tt) (kids_of calls counts first middle)) where
    -- it ended
    pub served-by : {X : Type 0} (result : Result X KidFault) → WaitsBy result (kids_of calls counts middle last) → ServesBy words result (kids_of calls counts first last)
    served-by (Ok done) h = (
      made-both (WasBegun words) (λ made. made ≡ call.Wait Ready ∷ []) (WasServed words) (calls first) (calls middle) (calls last) (λ one other was is. served words one other was is) begun.0 h.0,
      h.1 ∙ begun.1,
    )
    served-by (Err faults.Failed) h = (
      made-both (WasBegun words) (MayBe (call.Wait NotDone)) (IsFrontOf (asks words)) (calls first) (calls middle) (calls last) (λ one other was may. front-wait words NotDone one other was may) begun.0 h.0,
      h.1 ∙ ap one_more begun.1,
    )
    served-by (Err faults.Memory) h = ap counts h ∙ begun.1

-- of what ended, whatever held of it before
pub if-same : {X E : Type 0} (P : X → Type 0) (one : X) (result : Result X E) → IfOk result (λ done. done ≡ one) → P one → IfOk result P
if-same P one (Ok done) same h = subst P (sym same) h
if-same P one (Err error) same h = tt

-- its words are these
pub begins-as : {P : Type 0} (words other : List (List ℕ)) (result : Result Unit KidFault) (kids : Kids P) → words ≡ other → BeginsBy words result kids → BeginsBy other result kids
begins-as words other result kids same begins = subst (λ (some : List (List ℕ)). BeginsBy some result kids) same begins

pub serves-as : {X P : Type 0} (words other : List (List ℕ)) (result : Result X KidFault) (kids : Kids P) → words ≡ other → ServesBy words result kids → ServesBy other result kids
serves-as words other result kids same serves = subst (λ (some : List (List ℕ)). ServesBy some result kids) same serves

-- ---- faults

rises-by : (before after : ℕ) → after ≡ one_more before → (before < 2 ^ 64 - 1) ⊎ (2 ^ 64 - 1 ≤ before) → Rose before after
rises-by before after same (inl less) = inl (omega (arith, same, less))
rises-by before after same (inr full) = inr (omega (arith, same, full))

-- one more fault is a rise, or the last value
pub rises : (before after : ℕ) → after ≡ one_more before → Rose before after
rises before after same = rises-by before after same (cases_lt before (2 ^ 64 - 1))
