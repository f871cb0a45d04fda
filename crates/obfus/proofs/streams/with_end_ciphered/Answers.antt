use Rattle.std.proofs.Common.{◌≡◌, ◌++◌, ◌∙◌, ap, ap₂, List, [], ℕ, arith, take, drop, length-drop, append-nil}
use Rattle.std.proofs.lemmas.List.{take_all, drop_all}
use Rattle.cipher_modes.specs.CounterMode.{applied}
use Rattle.obfus.proofs.Parts.{length-applied}
use Rattle.obfus.proofs.streams.with_end_ciphered.Goals as goal

pub returns-clause-wire : goal.returns-clause-wire
returns-clause-wire c =
    let start : List ℕ = c.args.start.now in
    let text : List ℕ = applied c.args.up.now start in
    let rest : drop 8 (drop 56 start) ≡ [] = drop_all 8 (drop 56 start) (omega (arith, length-drop 56 start, c.told-start)) in
    let part : c.copy_from_slice.new.self ≡ take 8 (drop 56 text) = c.copy_from_slice.ensures.after ∙ ap (λ (l : List ℕ). take 8 (drop 56 l)) c.apply.ensures.applied in
    let all : take 8 (drop 56 text) ≡ drop 56 text = take_all 8 (drop 56 text) (omega (arith, length-drop 56 text, length-applied c.args.up.now start, c.told-start)) in
    ap₂ (λ (p r : List ℕ). take 56 start ++ (p ++ r)) (part ∙ all) rest
    ∙ ap (λ (l : List ℕ). take 56 start ++ l) (append-nil (drop 56 text))
