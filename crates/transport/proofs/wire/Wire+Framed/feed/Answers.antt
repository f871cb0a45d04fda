use Rattle.std.proofs.Common.{◌++◌, List, ℕ, Option, subst}
use Rattle.cipher_modes.specs.CounterMode.{CtrState}
use Rattle.transport.specs.Wires.{Line, Hears}
use Rattle.transport.specs.Ends.{Takes}
use Rattle.transport.proofs.Hearing.{heard, on_ok_both}
use Rattle.transport.proofs.Wholes.{takes_on}
use Rattle.transport.proofs.wire.Wire+Framed.feed.Goals as goal

pub returns-clause-hears : goal.returns-clause-hears
returns-clause-hears c =
    let piece : List ℕ = c.args.piece.now in
    on_ok_both _ c.feed.result c.self.inside.state.held.fault c.feed.ensures.put c.feed.ensures.passed
    (λ put passed. subst (λ (old : Line). (from : Option CtrState) (packets : List (List ℕ)) (bytes : List ℕ)
    → Hears old from packets bytes → Hears c.feed.new.self from packets (bytes ++ piece)) c.self.view_is
    (heard c.ctr_pieces_equal_the_whole.ensures c.buffers_stand.ensures.fed c.self.inside.state c.feed.new.self piece
    c.feed.ensures.same_out.0 put passed))

pub returns-clause-takes : goal.returns-clause-takes
returns-clause-takes c =
    let piece : List ℕ = c.args.piece.now in
    on_ok_both _ c.feed.result c.self.inside.state.held.fault c.feed.ensures.put c.feed.ensures.passed
    (λ put passed. subst (λ (old : Line). (packets : List (List ℕ)) (bytes : List ℕ)
    → Takes old packets bytes → Takes c.feed.new.self packets (bytes ++ piece)) c.self.view_is
    (λ packets bytes takes. takes_on c.self.inside.state c.feed.new.self packets bytes piece
    (heard c.ctr_pieces_equal_the_whole.ensures c.buffers_stand.ensures.fed c.self.inside.state c.feed.new.self piece
    c.feed.ensures.same_out.0 put passed) c.feed.ensures.same_out.0 takes))
