use Rattle.std.proofs.Common.{◌≡◌, ◌++◌, ◌∙◌, ap, sym, append_assoc, take, drop, arith, length-drop}
use Rattle.std.proofs.lemmas.List.{take_all, drop-drop}
use Rattle.msg_key.proofs.derivation.three_parts.Goals as goal

pub returns : goal.returns
returns c =
    let ends = c.args.ends.now in
    let middle = take 16 (drop 8 c.args.middle.now) in
    let last : drop 16 (drop 8 ends) ≡ take 8 (drop 24 ends) =
    drop-drop 16 8 ends ∙ sym (take_all 8 (drop 24 ends) (omega (arith, length-drop 24 ends, c.told-ends))) in
    ap (λ l. take 8 ends ++ (l ++ drop 16 (drop 8 ends))) c.copy_from_slice.ensures.after
    ∙ ap (λ l. take 8 ends ++ (middle ++ l)) last
    ∙ sym (append_assoc (take 8 ends) middle (take 8 (drop 24 ends)))
