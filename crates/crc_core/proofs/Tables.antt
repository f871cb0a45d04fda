-- The code's tables: one computed test over the entries of a row, and the rule at each of them.
use Rattle.std.proofs.Common.{◌≡◌, ℕ, ◌+◌, ◌<◌, List, true, slice_index}
use Rattle.std.specs.Prelude.{◌==◌}
use Rattle.std.proofs.lemmas.Bool.{eqb-true}
use Rattle.crc_core.specs.Crc32.{fed_bits}
use Rattle.crc_core.proofs.TableTests.{passes_below, passes_at}

-- in the first row
pub entry_at : (table : List ℕ) (n : ℕ) → passes_below (λ b. slice_index table b == fed_bits n b 0) 256 ≡ true
    → (b : ℕ) → b < 256 → slice_index table b ≡ fed_bits n b 0
entry_at table n test b h = eqb-true _ _ (passes_at _ 256 test b h)

-- in a row behind so many entries
pub entry_behind : (table : List ℕ) (place n : ℕ) → passes_below (λ b. slice_index table (b + place) == fed_bits n b 0) 256 ≡ true
    → (b : ℕ) → b < 256 → slice_index table (b + place) ≡ fed_bits n b 0
entry_behind table place n test b h = eqb-true _ _ (passes_at _ 256 test b h)
