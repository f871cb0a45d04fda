-- There are no more packets than bytes.
use Rattle.std.proofs.Common.{◌≡◌, ◌≤◌, ◌<◌, ◌+◌, ℕ, List, [], ◌∷◌, length, length-append, None, Some, Option, refl, ap, arith}
use Rattle.cipher_modes.specs.CounterMode.{CtrState, xor_stream}
use Rattle.framing.specs.Streams.{Begins, Frames}
use Rattle.transport.specs.Directions.{through}
use Rattle.transport.specs.Forms.{framing_of}
use Rattle.transport.specs.Lawful.{lawful}
use Rattle.transport.specs.declared.form.Form.{Form}

same_length : (stream : ℕ → ℕ) (k : ℕ) (text : List ℕ) → length (xor_stream stream k text) ≡ length text
same_length stream k [] = refl
same_length stream k (byte ∷ text) = let rest = same_length stream (k + 1) text in omega (arith, rest)

long_through : (from : Option CtrState) (bytes : List ℕ) → length (through from bytes) ≡ length bytes
long_through None bytes = refl
long_through (Some stream) bytes = same_length _ _ bytes

frames_long : (form : Form) (count : ℕ) (packets : List (List ℕ)) (bytes : List ℕ) → Frames (framing_of form) count packets bytes → length packets ≤ length bytes
frames_long form count [] bytes frames = omega arith
frames_long form count (packet ∷ packets) bytes (front, back, frame, frames, whole) =
    let some : 0 < length front = (lawful form).some (length front) front ((lawful form).outlined _ packet front frame) in
    let rest = frames_long form (count + 1) packets back frames in
    omega (arith, some, rest, ap (λ (bytes : List ℕ). length bytes) whole, length-append front back)

pub packets_fit : (form : Form) (from : Option CtrState) (packets : List (List ℕ)) (bytes : List ℕ) → Begins (framing_of form) packets (through from bytes)
    → length packets ≤ length bytes
packets_fit form from packets bytes begins =
    omega (arith, frames_long form 0 packets begins.frames begins.each, ap (λ (bytes : List ℕ). length bytes) begins.whole, length-append begins.frames begins.rest, long_through from bytes)
