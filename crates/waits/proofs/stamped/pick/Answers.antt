use Rattle.std.proofs.Common.{◌∙◌, ◌++◌, List, length, take, drop, ap, arith, length-drop}
use Rattle.std.proofs.lemmas.List.{length-take}
use Rattle.waits.specs.declared.stamped.Stamped.{Stamped}
use Rattle.waits.proofs.Rising.{drop_next}
use Rattle.waits.proofs.stamped.pick.Goals as goal

pub cut-rest-requires : goal.cut-rest-requires
cut-rest-requires c = omega (arith, c.requires.within, ap (λ (xs : List Stamped). length xs) c.cut-node.ensures.rest, length-drop c.args.at c.args.nodes.now)

pub join-requires : goal.join-requires
join-requires c =
    omega (arith, c.requires.few, ap (λ (xs : List Stamped). length xs) c.cut-node.ensures.front, length-take c.args.at c.args.nodes.now, ap (λ (xs : List Stamped). length xs) c.cut-rest.ensures.rest, length-drop 1 c.cut-node.result, ap (λ (xs : List Stamped). length xs) c.cut-node.ensures.rest, length-drop c.args.at c.args.nodes.now)

pub returns : goal.returns
returns c =
    let xs = c.args.nodes.now in
    record {
      node = c.cut-rest.ensures.front ∙ ap (λ (ys : List Stamped). take 1 ys) c.cut-node.ensures.rest;
      left = c.join.ensures ∙ (ap (λ (ys : List Stamped). ys ++ c.cut-rest.result) c.cut-node.ensures.front
          ∙ ap (λ (ys : List Stamped). take c.args.at xs ++ ys) (c.cut-rest.ensures.rest ∙ (ap (λ (ys : List Stamped). drop 1 ys) c.cut-node.ensures.rest ∙ drop_next c.args.at xs)));
    }
