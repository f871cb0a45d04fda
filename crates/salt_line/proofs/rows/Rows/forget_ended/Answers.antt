use Rattle.std.proofs.Common.{◌≡◌, ◌∙◌, ◌-◌, ◌+◌, ap, sym, arith, length, drop}
use Rattle.salt_line.specs.Held.{rows_of}
use Rattle.salt_line.proofs.HeldLemmas.{others_go_on, none_goes_on}
use Rattle.salt_line.proofs.rows.Rows.forget_ended.Goals as goal

pub returns-then-ended-count-clause-rows : goal.returns-then-ended-count-clause-rows
returns-then-ended-count-clause-rows c =
    ap (λ b. rows_of c.args.period b.items) c.clear.ensures
    ∙ sym (none_goes_on c.args.period c.args.self.now.first c.args.self.now.words.items (omega arith))

pub returns-else-ended-count-clause-rows : goal.returns-else-ended-count-clause-rows
returns-else-ended-count-clause-rows c =
    let d = c.saturating_sub-ended.result in
    let items = c.args.self.now.words.items in
    let e : length items - (c.len-count.result - d) ≡ d = omega arith in
    ap (λ b. rows_of (c.args.self.now.first + d) b.items) c.truncate_front.ensures
    ∙ ap (λ n. rows_of (c.args.self.now.first + d) (drop n items)) e
    ∙ sym (others_go_on c.args.period c.args.self.now.first d items (omega arith) (omega arith) (omega arith))
