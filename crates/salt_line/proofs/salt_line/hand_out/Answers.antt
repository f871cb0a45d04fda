use Rattle.std.proofs.Common.{◌≡◌, ℕ, ◌∙◌, ◌+◌, ◌++◌, ◌∷◌, [], ◌<◌, ◌≤◌, ap, sym, refl, arith, inl, inr, drop}
use Rattle.std.proofs.Math.Nat.{eq-or-lt_of_le}
use Rattle.std.proofs.lemmas.List.{drop-drop, drop-set-lt}
use Rattle.std.proofs.lemmas.Grind.{take-set_at}
use Rattle.salt_line.specs.Needed.{has_row, word_in, needed}
use Rattle.salt_line.specs.Held.{rows_of}
use Rattle.salt_line.specs.Line.{Line}
use Rattle.salt_line.specs.Future.{salt_rows_from}
use Rattle.salt_line.proofs.NeededLemmas.{needed-has, needed-keeps, needed_from-more}
use Rattle.salt_line.proofs.FutureLemmas.{salt_row, salt_rows_from-same, salt_rows_from-more}
use Rattle.salt_line.proofs.salt_line.hand_out.Goals as goal

pub loop-k-preserved : goal.loop-k-preserved
loop-k-preserved g c =
    let step = g.D.Draw.step in
    let k = c.loop-k.k in
    let period = c.args.period in
    let first_rows = rows_of c.args.rows.now.first c.args.rows.now.words.items in
    let rows = rows_of c.loop-k.rows.first c.loop-k.rows.words.items in
    let after = rows_of c.word-salt.new.self.first c.word-salt.new.self.words.items in
    let is = c.word-salt.ensures.needed in
    let after_is : after ≡ (needed step (period + k) (rows, c.loop-k.draw)).0 = ap (λ b. b.0) is in
    let line : Line = record { start = c.args.start; rows = after } in
    let word = c.word-salt.ensures.word in
    let same : (q : ℕ) → period ≤ q → q < period + k → word_in q after ≡ word_in q rows =
    λ q low high. ap (word_in q) after_is
    ∙ (needed-keeps step q (period + k) (rows, c.loop-k.draw) (c.loop-k.invariant.there q low high)).1 in
    let count = c.word-salt.ensures.count in
    let kept_first = c.word-salt.ensures.first in
    let before = c.loop-k.invariant.count in
    record {
      needed = is ∙ ap (needed step (period + k)) c.loop-k.invariant.needed
          ∙ sym (needed_from-more step period k (first_rows, c.args.draw.now));
      first = kept_first ∙ c.loop-k.invariant.first;
      room = c.word-salt.ensures.same_room ∙ c.loop-k.invariant.room;
      count = omega arith;
      there = λ q low high. ap (has_row q) after_is ∙ (elim (eq-or-lt_of_le {n = q} {m = period + k} (omega arith)) [
        | inl this ↦ ap (λ r. has_row r (needed step (period + k) (rows, c.loop-k.draw)).0) this
            ∙ needed-has step (period + k) (rows, c.loop-k.draw)
        | inr before ↦
            (needed-keeps step q (period + k) (rows, c.loop-k.draw) (c.loop-k.invariant.there q low before)).0
      ]);
      out = take-set_at c.loop-k.into k (k + 1) _ refl (omega arith)
          ∙ ap (λ l. l ++ salt_row c.args.start (period + k) c.word-salt.result ∷ [])
          (c.loop-k.invariant.out ∙ sym (salt_rows_from-same c.args.start rows after period k same))
          ∙ ap (λ w. salt_rows_from line period k ++ salt_row c.args.start (period + k) w ∷ []) word
          ∙ sym (salt_rows_from-more line period k);
      others = drop-set-lt (k + 1) c.loop-k.into k _ (omega arith)
          ∙ sym (drop-drop 1 k c.loop-k.into) ∙ ap (drop 1) c.loop-k.invariant.others ∙ drop-drop 1 k c.args.into.now;
    }
