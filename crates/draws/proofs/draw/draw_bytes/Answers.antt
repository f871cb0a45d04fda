use Rattle.std.proofs.Common.{◌≡◌, ◌∙◌, ap, sym, arith}
use Rattle.std.specs.Int.{w64, to_le_bytes}
use Rattle.draws.specs.Draws.{word_after}
use Rattle.draws.proofs.WordLemmas.{draw_after-add}
use Rattle.draws.proofs.ByteLemmas.{filled-next}
use Rattle.draws.proofs.draw.draw_bytes.Goals as goal

pub loop-k-preserved : goal.loop-k-preserved
loop-k-preserved g c =
    let step = g.D.Draw.step in
    let word : c.word.result ≡ word_after step c.loop-k.k c.args.draw.now =
    c.word.ensures.word ∙ ap (λ d. (step d).0) c.loop-k.invariant.drawn in
    record {
      drawn = c.word.ensures.after ∙ ap (λ d. (step d).1) c.loop-k.invariant.drawn
          ∙ sym (draw_after-add step c.loop-k.k 1 c.args.draw.now);
      front = filled-next step c.args.draw.now c.loop-k.k c.min-count.result c.loop-k.into c.copy_from_slice.new.self
          c.to_le_bytes-bytes.result c.args.into.now c.loop-k.invariant.front (sym c.loop-k.auto.into) (omega arith)
          (c.to_le_bytes-bytes.ensures ∙ ap (to_le_bytes w64) word) c.min-count.ensures c.copy_from_slice.ensures.after;
    }
