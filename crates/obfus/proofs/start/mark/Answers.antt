use Rattle.std.proofs.Common.{◌++◌, ◌∙◌, ap₂, List, ℕ, arith, take, drop}
use Rattle.std.specs.Int.{w16, to_le_bytes}
use Rattle.obfus.specs.Starts.{tag_bytes}
use Rattle.obfus.proofs.Parts.{two_parts}
use Rattle.obfus.proofs.Undone.{length-tag_bytes}
use Rattle.obfus.proofs.start.mark.Goals as goal

pub returns : goal.returns
returns c =
    let start : List ℕ = c.args.start.now in
    let tag : List ℕ = tag_bytes c.args.tag in
    let dc : List ℕ = to_le_bytes w16 c.args.dc in
    ap₂ (λ (a b : List ℕ). take 60 (take 56 start ++ (a ++ drop 4 (drop 56 start)))
    ++ (b ++ drop 2 (drop 60 (take 56 start ++ (a ++ drop 4 (drop 56 start))))))
    (c.copy_from_slice.ensures.after ∙ c.bytes.ensures) (c.copy_from_slice-2.ensures.after ∙ c.to_le_bytes.ensures)
    ∙ two_parts 56 4 2 tag dc start (length-tag_bytes c.args.tag) (omega (arith, c.told-start))
