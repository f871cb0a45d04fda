-- Keys.
use Rattle.std.proofs.Common.{◌≡◌, ◌∙◌, ℕ, ◌*◌, List, length, sym, arith}
use Rattle.octets.specs.Bytes.{HasBytes}
use Rattle.hex.proofs.HexLemmas.{decode_of-ok}
use Rattle.auth_keys.specs.Keys.{IsKey}
use Rattle.auth_keys.specs.KeyFile.{AreDigitsOf}

-- what 512 digits spell is a key
pub digits-key : (digits key : List ℕ) → AreDigitsOf digits key → IsKey key
digits-key digits key h =
    let r = decode_of-ok digits key h.decoded in
    record { count = omega (arith, h.count, r.2); in_range = r.3 }
