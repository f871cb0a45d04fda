use Rattle.std.proofs.Common.{◌≡◌, ◌∙◌, ℕ, List, IfOk, ap, subst}
use Rattle.hex.specs.Hex.{encode_lower}
use Rattle.cmd_sim.specs.KeysOfSim.{ascending, descending, file_of, key_file}
use Rattle.cmd_sim.proofs.key_ring.key_text.Goals as goal

pub returns : goal.returns
unfolding key_file
returns c =
    let first : c.as_str.result.now ≡ encode_lower ascending = c.as_str.ensures.value ∙ (c.in_ok-permanent.ensures ∙ ap encode_lower (c.as_slice.ensures ∙ c.ascending_bytes.ensures)) in
    let second : c.as_str-2.result.now ≡ encode_lower descending = c.as_str-2.ensures.value ∙ (c.in_ok-temporary.ensures ∙ ap encode_lower (c.as_slice-2.ensures ∙ c.descending_bytes.ensures)) in
    subst (λ (due : List ℕ). IfOk c.text_of.result (λ text. text ≡ due)) (ap (λ (digits : List ℕ). file_of digits c.as_str-2.result.now) first ∙ ap (file_of (encode_lower ascending)) second) c.text_of.ensures
