use Rattle.std.proofs.Common.{◌≡◌, ◌-◌, ◌<◌, suc, List, length, sym, subst, arith, refl}
use Rattle.std.specs.List.{AllByRecursion}
use Rattle.std.proofs.lemmas.Bool.{ltb-true, lt-ltb}
use Rattle.std.proofs.lemmas.List.{nil_from_length}
use Rattle.call_table.specs.declared.names.Named.{Named}
use Rattle.call_table.proofs.IndexLemmas.{all_below_last, below_each}
use Rattle.call_table.proofs.names.are_below.Goals as goal

pub returns-then-count-eq0 : goal.returns-then-count-eq0
returns-then-count-eq0 c = (
  λ t. subst (λ (names : List Named). AllByRecursion (λ one. one.number < c.args.number) names) (sym (nil_from_length c.args.names.now.items (omega (arith, c.args.names.now.ok.0)))) tt,
  λ below. refl,
)

pub returns : goal.returns
returns c =
    let names = c.args.names.now.items in
    let k = c.len-count.result - 1 in
    let last = c.index.result.now in
    let long : length names ≡ suc k = omega (arith, c.args.names.now.ok.0) in (
      λ t. all_below_last c.args.number names k last c.requires long (subst (λ (one : Named). one.number < c.args.number) c.index.ensures (ltb-true last.number c.args.number t)),
      λ below. lt-ltb last.number c.args.number (subst (λ (one : Named). one.number < c.args.number) (sym c.index.ensures) (below_each c.args.number names k last (omega arith) below)),
    )
