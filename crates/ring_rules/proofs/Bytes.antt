-- What the tests of bytes and numbers tell.
use Rattle.std.proofs.Common.{◌≡◌, ℕ, zero, suc, true, List, [], ◌∷◌, length, bytes_eq, refl, lit<}
use Rattle.std.proofs.lemmas.Bool.{and_from, and_parts, ltb-true, lt-ltb, eqb-true, eq-eqb}
use Rattle.std.proofs.lemmas.Slice.Eq.{bytes_eq-Decides}
use Rattle.octets.specs.Bytes.{HasBytes, IsBytes}
use Rattle.ring_rules.specs.Bytes.{are_bytes}
use Rattle.ring_rules.specs.Binding.{has_bytes}

pub are-bytes : (bytes : List ℕ) → are_bytes bytes ≡ true → IsBytes bytes
are-bytes [] e i = lit< tt
are-bytes (byte ∷ bytes) e zero = ltb-true byte 256 (and_parts _ _ e).0
are-bytes (byte ∷ bytes) e (suc i) = are-bytes bytes (and_parts _ _ e).1 i

pub bytes-are : (bytes : List ℕ) → IsBytes bytes → are_bytes bytes ≡ true
bytes-are [] is = refl
bytes-are (byte ∷ bytes) is = and_from _ _ (lt-ltb byte 256 (is zero)) (bytes-are bytes (λ i. is (suc i)))

pub has-bytes : (count : ℕ) (bytes : List ℕ) → has_bytes count bytes ≡ true → HasBytes count bytes
has-bytes count bytes e =
    record { count = eqb-true (length bytes) count (and_parts _ _ e).0; in_range = are-bytes bytes (and_parts _ _ e).1 }

pub bytes-has : (count : ℕ) (bytes : List ℕ) → HasBytes count bytes → has_bytes count bytes ≡ true
bytes-has count bytes has = and_from _ _ (eq-eqb (length bytes) count has.count) (bytes-are bytes has.in_range)

pub same-bytes : (one other : List ℕ) → bytes_eq one other ≡ true → one ≡ other
same-bytes one other e = (bytes_eq-Decides one other).0 e

pub bytes-same : (one other : List ℕ) → one ≡ other → bytes_eq one other ≡ true
bytes-same one other e = (bytes_eq-Decides one other).1 e
