use Rattle.std.proofs.Common.{drop, arith, ◌∙◌}
use Rattle.std.proofs.lemmas.List.{take_all, length-drop}
use Rattle.cipher_modes.proofs.ige.halves.Goals as goal

pub returns-clause-last : goal.returns-clause-last
returns-clause-last c =
    c.block_at-2.ensures ∙ take_all 16 (drop 16 c.args.iv.now) (omega (arith, c.told-iv, length-drop 16 c.args.iv.now))
