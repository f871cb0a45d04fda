use Rattle.std.proofs.Common.{◌≡◌, ◌∙◌, ℕ, take, ap, arith}
use Rattle.call_table.specs.Kept.{numbers_in}
use Rattle.client_core.proofs.ListLemmas.{get_some, take_none}
use Rattle.client_core.proofs.says.living_in.Goals as goal

pub returns-in-None : goal.returns-in-None
returns-in-None c =
    c.loop-k.invariant.items ∙ take_none (numbers_in c.args.calls.now.rows) c.loop-k.k 8192 c.in-None.ensures.kept (omega (arith, c.loop-k-test.true))

pub push_reserved-requires : goal.push_reserved-requires
push_reserved-requires c =
    let there = get_some (numbers_in c.args.calls.now.rows) c.loop-k.k _ c.in-Some.ensures.kept in
    omega (arith, there, c.loop-k-test.true, c.loop-k.invariant.count, c.loop-k.invariant.room)

pub returns : goal.returns
returns c =
    let all : c.loop-k.k ≡ 8192 = omega (arith, c.loop-k-test.false, c.loop-k.auto.k-end) in
    c.loop-k.invariant.items ∙ ap (λ (n : ℕ). take n (numbers_in c.args.calls.now.rows)) all
