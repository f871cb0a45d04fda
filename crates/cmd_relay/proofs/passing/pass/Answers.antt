use Rattle.std.proofs.Common.{◌∙◌, ◌≤◌, ℕ, List, [], ◌++◌, take, length, sym, subst, ap, arith}
use Rattle.std.proofs.lemmas.List.{take_all}
use Rattle.cmd_relay.specs.Captures.{line_of}
use Rattle.cmd_relay.specs.declared.capture.Piece.{Piece}
use Rattle.cmd_relay.proofs.Owing.{refused-passes}
use Rattle.cmd_relay.proofs.Pieces.{SoFar, all_passed, none_yet, one_more, take_one}
use Rattle.cmd_relay.proofs.passing.pass.Goals as goal

pub loop-piece-init : goal.loop-piece-init
loop-piece-init c =
    subst (λ (t : List ℕ). SoFar c.args.form c.args.secret.now [] c.new-relay.result t) (sym c.new-text.ensures)
    (none_yet c.args.form c.args.secret.now c.new-relay.result c.new-relay.ensures.stands c.new-relay.ensures.form c.new-relay.ensures.secret)

pub returns-in-Err : goal.returns-in-Err
returns-in-Err c =
    refused-passes c.args.form c.args.secret.now c.args.pieces.now c.loop-piece.piece-index c.piece-item.result c.loop-piece.relay c.loop-piece.text
    c.in-Err.fault c.refused.result c.loop-piece-test.true c.piece-item.is c.loop-piece.invariant c.in-Err.ensures.refused
    c.refused.ensures.status c.refused.ensures.text c.refused.ensures.no_memory

pub loop-piece-preserved : goal.loop-piece-preserved
loop-piece-preserved c =
    let pieces = c.args.pieces.now in
    let i = c.loop-piece.piece-index in
    let piece = c.piece-item.result in
    subst (λ (l : List Piece). SoFar c.args.form c.args.secret.now l c.take.new.relay c.put_line.new.text)
    (sym (take_one pieces i piece c.loop-piece-test.true c.piece-item.is))
    (one_more c.args.form c.args.secret.now (take i pieces) piece c.loop-piece.relay c.take.new.relay c.loop-piece.text _ c.new-out.result c.take.new.out
    c.new-out.ensures c.loop-piece.invariant c.take.ensures.same_sides.0 c.take.ensures.same_sides.1 c.in_default.ensures.goes_on
    (c.in_ok-put_line.ensures ∙ ap (λ (b : List ℕ). c.loop-piece.text ++ line_of piece.way b) c.as_slice.ensures.value))

pub returns : goal.returns
returns c =
    let pieces = c.args.pieces.now in
    let i = c.loop-piece.piece-index in
    let done : length pieces ≤ i = omega arith in
    all_passed c.args.form c.args.secret.now pieces c.loop-piece.relay c.loop-piece.text
    (subst (λ (l : List Piece). SoFar c.args.form c.args.secret.now l c.loop-piece.relay c.loop-piece.text) (take_all i pieces done) c.loop-piece.invariant)
