-- The line of a report on all packets, over their bytes.
use Rattle.std.specs.Prelude.{ℕ, List, ◌++◌, codes, decimal, length}
use Rattle.std.specs.List.{flat_map}
use Rattle.sha2.specs.Sha256.{sha256}
use Rattle.hex.specs.Hex.{encode_lower}

-- all packets, one behind the other
abbrev pub joined : List (List ℕ) → List ℕ
joined packets = flat_map (λ packet. packet) packets

-- how many there are, their bytes, and the SHA-256 of all
abbrev pub packets_line : List (List ℕ) → List ℕ
packets_line packets =
    codes "packets " ++ decimal (length packets) ++ codes " " ++ decimal (length (joined packets)) ++ codes " "
    ++ encode_lower (sha256 (joined packets)) ++ codes "\n"
