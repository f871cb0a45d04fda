-- A wire that hears a connection hears it with its next piece.
use Rattle.std.proofs.Common.{◌≡◌, ℕ, ◌+◌, ◌%◌, ◌^◌, List, [], ◌∷◌, ◌++◌, length, refl, sym, ap, subst, ◌∙◌, arith, append-nil, length-append, Option, None, Some}
use Rattle.std.specs.Prelude.{IfNone, OnOk, Ok, Err}
use Rattle.std.specs.declared.result.Result.{Result}
use Rattle.framing.specs.Holding.{Answers, IsFault, taken}
use Rattle.framing.specs.declared.next.Next.{Next}
use Rattle.std.specs.List.{concat}
use Rattle.std.proofs.Math.Nat.{mod-add-mod}
use Rattle.cipher_modes.specs.CounterMode.{CtrState, applied, advanced, applied_in_turn}
use Rattle.tl_codec.specs.declared.fault.FrameFault.{FrameFault}
use Rattle.framing.specs.Held.{Held, with_piece}
use Rattle.framing.specs.Holding.{Stands}
use Rattle.transport.specs.Forms.{framing_of}
use Rattle.transport.specs.Directions.{through, behind}
use Rattle.transport.specs.Wires.{Line, Hears}
use Rattle.transport.specs.declared.form.Form.{Form}

-- what the crates below promise
abbrev pub PiecesEqualTheWhole : Type 0
PiecesEqualTheWhole = (stream : CtrState) (pieces : List (List ℕ)) → applied_in_turn stream pieces ≡ applied stream (concat pieces)

abbrev pub Feeds : Type 0
Feeds = (form : Form) (held : Held) (packets : List (List ℕ)) (bytes piece : List ℕ)
    → Stands (framing_of form) held packets bytes → Stands (framing_of form) (with_piece piece held) packets (bytes ++ piece)

pub through-append : PiecesEqualTheWhole → (stream : Option CtrState) (one other : List ℕ)
    → through stream (one ++ other) ≡ through stream one ++ through (behind stream (length one)) other
through-append laws None one other = refl
through-append laws (Some s) one other =
    ap (λ (l : List ℕ). applied s (one ++ l)) (sym (append-nil other))
    ∙ sym (laws s (one ∷ other ∷ []))
    ∙ ap (λ (l : List ℕ). applied s one ++ l) (append-nil (applied (advanced s (length one)) other))

pub behind-add : (stream : Option CtrState) (n m : ℕ) → behind (behind stream n) m ≡ behind stream (n + m)
behind-add None n m = refl
behind-add (Some s) n m =
    let sum : s.place + n + m ≡ s.place + (n + m) = omega arith in
    ap (λ (p : ℕ). let o : Option CtrState = Some (record s { place = p }) in o)
    (mod-add-mod (s.place + n) (2 ^ 132) m ∙ ap (λ (k : ℕ). k % 2 ^ 132) sum)

module _ (laws : PiecesEqualTheWhole) (feeds : Feeds) (form : Form) (left : List ℕ) (number : ℕ) (reading next from : Option CtrState)
    (packets : List (List ℕ)) (bytes piece : List ℕ) where
  -- both parts of what a wire hears, with the fault that was met, if any
  parts : (fault : Option FrameFault)
      → Stands (framing_of form) (record { left = left; number = number; fault = fault }) packets (through from bytes)
      → IfNone fault (reading ≡ behind from (length bytes))
      → IfNone fault (next ≡ behind reading (length piece))
      → Stands (framing_of form) (with_piece (through reading piece) (record { left = left; number = number; fault = fault })) packets (through from (bytes ++ piece))
      × IfNone fault (next ≡ behind from (length (bytes ++ piece)))
  parts None stands place passed =
      let held : Held = record { left = left; number = number; fault = None } in
      let text : through from (bytes ++ piece) ≡ through from bytes ++ through reading piece =
      through-append laws from bytes piece ∙ ap (λ (s : Option CtrState). through from bytes ++ through s piece) (sym place) in (
        subst (λ (t : List ℕ). Stands (framing_of form) (with_piece (through reading piece) held) packets t) (sym text)
            (feeds form held packets (through from bytes) (through reading piece) stands),
        passed ∙ ap (λ (s : Option CtrState). behind s (length piece)) place ∙ behind-add from (length bytes) (length piece)
            ∙ ap (λ (n : ℕ). behind from n) (sym (length-append bytes piece)),
      )
  parts (Some fault) stands place passed =
      let held : Held = record { left = left; number = number; fault = Some fault } in (
        subst (λ (t : List ℕ). Stands (framing_of form) held packets t) (sym (through-append laws from bytes piece))
            (feeds form held packets (through from bytes) (through (behind from (length bytes)) piece) stands),
        tt,
      )

pub heard : PiecesEqualTheWhole → Feeds → (old new : Line) (piece : List ℕ)
    → new.form ≡ old.form → new.held ≡ with_piece (through old.reading piece) old.held
    → IfNone old.held.fault (new.reading ≡ behind old.reading (length piece))
    → (from : Option CtrState) (packets : List (List ℕ)) (bytes : List ℕ) → Hears old from packets bytes → Hears new from packets (bytes ++ piece)
heard laws feeds old new piece form held passed from packets bytes hears =
    let both = parts laws feeds old.form old.held.left old.held.number old.reading new.reading from packets bytes piece old.held.fault
    hears.stands hears.place passed in
    record {
      stands = subst (λ (f : Form). Stands (framing_of f) new.held packets (through from (bytes ++ piece))) (sym form)
          (subst (λ (h : Held). Stands (framing_of old.form) h packets (through from (bytes ++ piece))) (sym held) both.0);
      place = subst (λ (h : Held). IfNone h.fault (new.reading ≡ behind from (length (bytes ++ piece)))) (sym held) both.1;
    }

-- two facts of what succeeded
pub on_ok_both : {T E : Type 0} {A C : Type 0} (B : Type 0) (r : Result T E) (fault : Option FrameFault)
    → OnOk r A → IfNone fault (OnOk r B) → (A → IfNone fault B → C) → OnOk r C
on_ok_both B (Ok x) fault a b k = k a b
on_ok_both B (Err e) fault a b k = tt

on_none : (P : Type 0) (o : Option FrameFault) → P → IfNone o P
on_none P None p = p
on_none P (Some f) p = tt

-- and with what was taken of it
module _ (form : Form) (left : List ℕ) (number : ℕ) (reading from : Option CtrState) (after : Held) (packets : List (List ℕ)) (bytes : List ℕ)
    (answer : Next) where
  place_on : (fault : Option FrameFault)
      → Stands (framing_of form) (record { left = left; number = number; fault = fault }) packets (through from bytes)
      → IfNone fault (reading ≡ behind from (length bytes))
      → Answers (framing_of form) packets (through from bytes) answer
      → ((f : FrameFault) → IsFault f answer → after.fault ≡ Some f)
      → IfNone after.fault (reading ≡ behind from (length bytes))
  place_on None stands place answers met = on_none (reading ≡ behind from (length bytes)) after.fault place
  place_on (Some fault) stands place answers met =
      subst (λ (o : Option FrameFault). IfNone o (reading ≡ behind from (length bytes))) (sym (met fault ((answers.fault fault).1 stands.text))) tt

pub heard_next : (old : Line) (held : Held) (answer : Next) (from : Option CtrState) (packets : List (List ℕ)) (bytes : List ℕ)
    → ((packets : List (List ℕ)) (text : List ℕ) → Stands (framing_of old.form) old.held packets text → Answers (framing_of old.form) packets text answer)
    → ((packets : List (List ℕ)) (text : List ℕ) → Stands (framing_of old.form) old.held packets text → Stands (framing_of old.form) held (taken packets answer) text)
    → ((f : FrameFault) → IsFault f answer → held.fault ≡ Some f)
    → Hears old from packets bytes → Hears (record old { held = held }) from (taken packets answer) bytes
heard_next old held answer from packets bytes answers stands met hears = record {
  stands = stands packets (through from bytes) hears.stands;
  place = place_on old.form old.held.left old.held.number old.reading from held packets bytes answer old.held.fault hears.stands hears.place
      (answers packets (through from bytes) hears.stands) met;
}
