-- What is written is read, and a padded frame's length tells its packet.
use Rattle.std.proofs.Common.{◌≡◌, ℕ, ◌+◌, ◌-◌, Bool, true, false, List, [], ◌++◌, length, take, drop, refl, sym, ap₂, ◌∙◌, arith, append-nil}
use Rattle.std.proofs.lemmas.Bool.{OnTrue_at}
use Rattle.byteorder.specs.Endian.{little_bytes}
use Rattle.frame_len.specs.Lengths.{IsWritten, LenFrame, frame_of, PaddedFrame, padded_payload}
use Rattle.frame_len.specs.Heads.{parts_of, long, says, packet_is}

pub written : (padded : Bool) (i : ℕ) (packet : List ℕ) → IsWritten padded packet → LenFrame padded packet (frame_of packet)
written false i packet fits = record { payload = fits.fits; whole = refl }
written true i packet fits =
    let none : length packet ≡ length packet + 0 = omega arith in
    record {
      payload = fits.fits;
      size = OnTrue_at refl fits.size;
      padding = [];
      few = grind arith;
      whole = ap₂ (λ (n : ℕ) (xs : List ℕ). little_bytes 4 n ++ xs) none (sym (append-nil packet));
    }

pub told : (i : ℕ) (packet bytes : List ℕ) → PaddedFrame packet bytes → packet ≡ take (padded_payload (length bytes - 4)) (drop 4 bytes)
told i packet bytes f =
    let p = parts_of true packet bytes f in
    let len : length bytes - 4 ≡ length packet + length p.padding = omega (arith, long true packet bytes p) in
    sym (packet_is true packet bytes p (length bytes - 4) (len ∙ says true packet bytes p))
