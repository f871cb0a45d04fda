use Rattle.std.proofs.Common.{◌∙◌, ℕ, List, [], ◌∷◌, ◌++◌, inl, inr, refl, sym, ap, subst, append_assoc, append-nil}
use Rattle.sched_text.specs.Lines.{Line, Say, IsFirstBad, words_of, lines_in}
use Rattle.cmd_relay.specs.Captures.{SaysBytes, SaysPiece}
use Rattle.cmd_relay.specs.declared.capture.Piece.{Piece}
use Rattle.cmd_relay.specs.declared.capture.Way.{Way}
use Rattle.cmd_relay.proofs.capture.read_capture.Goals as goal

-- a line that says nothing is the first one, where those before it said something
pub returns-in_default-2-clause-bad_line : goal.returns-in_default-2-clause-bad_line
returns-in_default-2-clause-bad_line c =
    let none : (way : Way) (bytes : List ℕ) → SaysBytes way bytes (words_of c.in-Some.words.now) → ⊥ = rw c.in_default-2.is at c.in_ok-said.ensures.nothing in
    c.loop-line.invariant.good c.in-Some.line
    (subst (λ lines. IsFirstBad SaysPiece lines c.in-Some.line) (sym c.in-Some.ensures.line) (inl ((λ piece says. none piece.way piece.bytes says.1), refl)))

-- a line that says a piece: it and what the lines that are left say are what the lines so far leave
pub loop-line-preserved : goal.loop-line-preserved
loop-line-preserved c =
    let line : Line = record { number = c.in-Some.line; text = c.in-Some.words.now } in
    let piece : Piece = record { way = c.in-Some-2.said.0; bytes = c.in-Some-2.said.1; line = c.in-Some.line } in
    let said : SaysBytes piece.way piece.bytes (words_of c.in-Some.words.now) = rw c.in-Some-2.is at c.in_ok-said.ensures.said in
    let says : SaysPiece line piece = (refl, said) in
    record {
      said = λ tail h.
          subst (λ (pieces : List Piece). Say SaysPiece (lines_in c.args.text.now) pieces)
          (sym (ap (λ (l : List Piece). l ++ tail) c.in_ok-append.ensures ∙ append_assoc _ _ tail))
          (c.loop-line.invariant.said (piece ∷ tail) (subst (λ lines. Say SaysPiece lines (piece ∷ tail)) (sym c.in-Some.ensures.line) (says, h)));
      good = λ bad h. c.loop-line.invariant.good bad (subst (λ lines. IsFirstBad SaysPiece lines bad) (sym c.in-Some.ensures.line) (inr ((piece, says), h)));
    }

-- where no line is left, none says anything more
pub returns-clause-pieces : goal.returns-clause-pieces
returns-clause-pieces c =
    subst (λ (pieces : List Piece). Say SaysPiece (lines_in c.args.text.now) pieces) (append-nil c.loop-line.pieces.items)
    (c.loop-line.invariant.said [] (subst (λ lines. Say SaysPiece lines []) (sym c.in_default.ensures.none) tt))
