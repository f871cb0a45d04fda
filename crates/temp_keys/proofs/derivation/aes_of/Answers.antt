use Rattle.std.proofs.Common.{arith, drop, length-drop, length-take-le}
use Rattle.temp_keys.proofs.derivation.aes_of.Goals as goal

pub joined-aes_key-requires : goal.joined-aes_key-requires
joined-aes_key-requires c =
    let a = c.digest_of_two-a in
    let b = c.digest_of_three-b in
    let d = c.digest_of_two-c in
    omega (arith, length-take-le 8 a.result (omega (arith, a.ensures.size)), length-take-le 12 (drop 8 b.result) (omega (arith, length-drop 8 b.result, b.ensures.size)), length-take-le 12 (drop 4 d.result) (omega (arith, length-drop 4 d.result, d.ensures.size)))
