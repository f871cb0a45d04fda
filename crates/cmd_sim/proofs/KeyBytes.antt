-- The bytes 0 to 255, one after the other.
use Rattle.std.proofs.Common.{◌≡◌, ◌∙◌, ℕ, zero, suc, ◌+◌, ◌<◌, List, [], ◌∷◌, ◌++◌, take, length, set, ap, sym, arith, get_or, refl}
use Rattle.std.proofs.lemmas.List.{take_all, take_more, take_more_set}
use Rattle.cmd_sim.specs.KeysOfSim.{numbers_from, ascending}

pub numbers-length : (first count : ℕ) → length (numbers_from first count) ≡ count
numbers-length first zero = refl
numbers-length first (suc count) = ap suc (numbers-length (suc first) count)

pub numbers-at : (first count i : ℕ) → i < count → get_or (numbers_from first count) i 0 ≡ first + i
numbers-at first zero i h = absurd (omega (arith, h))
numbers-at first (suc count) zero h = omega arith
numbers-at first (suc count) (suc i) h = numbers-at (suc first) count i (omega (arith, h)) ∙ omega arith

-- a byte more is written
pub written-on : (bytes : List ℕ) (place : ℕ) → place < 256 → length bytes ≡ 256 → take place bytes ≡ take place (numbers_from 0 256)
    → take (place + 1) (set bytes place place) ≡ take (place + 1) (numbers_from 0 256)
written-on bytes place h size e =
    take_more_set bytes place place (omega (arith, h, size))
    ∙ (ap (λ front. front ++ place ∷ []) e
    ∙ (ap (λ byte. take place (numbers_from 0 256) ++ byte ∷ []) (sym (numbers-at 0 256 place h ∙ omega arith))
    ∙ sym (take_more (numbers_from 0 256) place 0 (omega (arith, h, numbers-length 0 256)))))

-- all are written
pub all-written : (bytes : List ℕ) → length bytes ≡ 256 → take 256 bytes ≡ take 256 (numbers_from 0 256) → bytes ≡ ascending
unfolding ascending
all-written bytes size e = sym (take_all 256 bytes (omega (arith, size))) ∙ (e ∙ take_all 256 (numbers_from 0 256) (omega (arith, numbers-length 0 256)))
