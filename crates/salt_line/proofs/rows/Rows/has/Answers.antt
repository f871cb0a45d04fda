use Rattle.std.proofs.Common.{◌≡◌, ◌∙◌, ◌-◌, ◌<◌, true, false, sym, arith, inl, inr}
use Rattle.std.proofs.lemmas.Bool.{ltb-true}
use Rattle.salt_line.proofs.HeldLemmas.{held-in, in-held}
use Rattle.salt_line.proofs.rows.Rows.has.Goals as goal

pub returns-then-has_at : goal.returns-then-has_at
returns-then-has_at c =
    let items = c.args.self.now.words.items in (
      λ t. let h = c.has_at.ensures.0 t in
          held-in c.args.period c.args.self.now.first c.args.period c.args.word items h.0 h.1 (omega arith) (omega arith),
      λ some. c.if-has_at.true,
    )

pub returns-then-period-gt0 : goal.returns-then-period-gt0
returns-then-period-gt0 c =
    let items = c.args.self.now.words.items in
    let before = c.has_at-then-period-gt0.ensures in (
      λ t. let h = before.0 t in
          held-in c.args.period c.args.self.now.first (c.args.period - 1) c.args.word items h.0 h.1 (omega arith) (omega arith),
      λ some. elim (in-held c.args.period c.args.self.now.first c.args.word items some) [
        | inl this ↦ let e : true ≡ false = sym (c.has_at.ensures.1 this) ∙ c.if-has_at.false in cc
        | inr other ↦ before.1 other.1
      ],
    )

pub returns-else-period-gt0 : goal.returns-else-period-gt0
returns-else-period-gt0 c =
    let items = c.args.self.now.words.items in (
      λ t. let h = ltb-true 0 c.args.period t in absurd (omega arith),
      λ some. elim (in-held c.args.period c.args.self.now.first c.args.word items some) [
        | inl this ↦ let e : true ≡ false = sym (c.has_at.ensures.1 this) ∙ c.if-has_at.false in cc
        | inr other ↦ let h : 0 < c.args.period = other.0 in absurd (omega arith)
      ],
    )
