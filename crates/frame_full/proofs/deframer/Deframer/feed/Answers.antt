use Rattle.std.proofs.Common.{◌≡◌, ◌++◌, List, ℕ, sym, subst}
use Rattle.std.proofs.lemmas.Result.{on_ok_weaker}
use Rattle.framing.specs.Held.{Held, with_piece}
use Rattle.framing.specs.Holding.{Stands}
use Rattle.frame_full.specs.Full.{full}
use Rattle.frame_full.proofs.deframer.Deframer.feed.Goals as goal

pub returns-clause-stands : goal.returns-clause-stands
returns-clause-stands c =
    let piece = c.args.piece.now in
    on_ok_weaker c.feed.result
    (λ (put : c.feed.new.self ≡ with_piece piece c.self.inside.stream) (packets : List (List ℕ)) (bytes : List ℕ) (stands : Stands full c.args.self.now packets bytes).
    subst (λ (held : Held). Stands full held packets (bytes ++ piece)) (sym put)
    (c.buffers_stand.ensures.fed (record {}) c.self.inside.stream packets bytes piece
    (subst (λ (held : Held). Stands full held packets bytes) (sym c.self.view_is) stands)))
    c.feed.ensures.put
