-- The answer to a run that was cut off: a reply of a service, of bytes, and not a good one.
use Rattle.std.proofs.Common.{◌≡◌, ◌<◌, ℕ, zero, suc, true, false, List, [], ◌∷◌, length, refl, arith, ltb-true}
use Rattle.std.specs.Prelude.{nat_lt, slice_index, ◌&&◌, Bool}
use Rattle.std.specs.List.{list_all}
use Rattle.tl_codec.specs.Spelling.{spelling}
use Rattle.octets.specs.Bytes.{IsBytes}
use Rattle.regs_service.specs.Served.{IsReply}
use Rattle.service_tl.specs.Results.{is_good}
use Rattle.sess_journal.specs.Replay.{run_interrupted}

both : (one other : Bool) → (one && other) ≡ true → (one ≡ true) × (other ≡ true)
both true other is = (refl, is)
both false other is = absurd (let e : false ≡ true = is in cc)

pub byte_at : (bytes : List ℕ) (i : ℕ) → list_all (λ byte. nat_lt byte 256) bytes ≡ true → slice_index bytes i < 256
byte_at [] i h = omega arith
byte_at (byte ∷ bytes) zero h = ltb-true byte 256 (both (nat_lt byte 256) (list_all (λ byte. nat_lt byte 256) bytes) h).0
byte_at (byte ∷ bytes) (suc i) h = byte_at bytes i (both (nat_lt byte 256) (list_all (λ byte. nat_lt byte 256) bytes) h).1

its_length : length run_interrupted ≡ 24
unfolding spelling
its_length = refl

its_bytes : list_all (λ byte. nat_lt byte 256) run_interrupted ≡ true
unfolding spelling
its_bytes = refl

pub is_reply : IsReply run_interrupted
is_reply = record { words = rw its_length refl; short = rw its_length (omega arith) }

pub is_bytes : IsBytes run_interrupted
is_bytes = λ i. byte_at run_interrupted i its_bytes

pub is_bad : is_good run_interrupted ≡ false
unfolding spelling
is_bad = refl
