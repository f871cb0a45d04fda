-- What is less than an abridged frame goes on as one.
use Rattle.std.proofs.Common.{◌≡◌, ℕ, zero, suc, ◌+◌, ◌-◌, ◌*◌, ◌<◌, ◌≤◌, List, [], ◌∷◌, ◌++◌, length, get_or, refl, sym, subst, arith, inl, inr, length-append}
use Rattle.std.specs.Prelude.{replicate, slice_range}
use Rattle.std.proofs.lemmas.List.{length-replicate}
use Rattle.octets.specs.Bytes.{IsBytes}
use Rattle.framing.specs.Payload.{payload_max}
use Rattle.framing.specs.Streams.{IsBegun}
use Rattle.frame_short.specs.Abridged.{AbridgedFrame, AbridgedSize, abridged}
use Rattle.frame_short.specs.Heads.{head_on}
use Rattle.frame_short.proofs.Parts.{frame_at}

cons_bytes : (x : ℕ) (xs : List ℕ) → x < 256 → IsBytes xs → IsBytes (x ∷ xs)
cons_bytes x xs h fits zero = h
cons_bytes x xs h fits (suc i) = fits i

zero_bytes : (n : ℕ) → IsBytes (replicate n 0)
zero_bytes zero i = omega arith
zero_bytes (suc n) zero = omega arith
zero_bytes (suc n) (suc i) = zero_bytes n i

with_zeros : (bytes : List ℕ) (n : ℕ) → IsBytes bytes → IsBytes (bytes ++ replicate n 0)
with_zeros [] n fits = zero_bytes n
with_zeros (b ∷ bytes) n fits = cons_bytes b (bytes ++ replicate n 0) (fits 0) (with_zeros bytes n (λ i. fits (suc i)))

-- the bytes go on as a frame
pub record GoesOn (bytes : List ℕ) : Type 0 where
  pub packet : List ℕ
  pub more : List ℕ
  pub some : 0 < length more
  pub frame : AbridgedFrame packet (bytes ++ more)

outline_goes_on : (bytes more : List ℕ) → IsBytes (bytes ++ more) → 0 < length more → AbridgedSize (length (bytes ++ more)) (bytes ++ more) → GoesOn bytes
outline_goes_on bytes more fits some f = record {
  packet = slice_range (bytes ++ more) f.head (length (bytes ++ more));
  more = more;
  some = some;
  frame = (frame_at (bytes ++ more) fits f).frame;
}

short_goes_on : (bytes : List ℕ) (size n : ℕ) → IsBytes bytes → AbridgedSize size bytes → length bytes < size → n ≡ size - length bytes → GoesOn bytes
short_goes_on bytes size n fits f short e =
    let zeros : length {A = ℕ} (replicate n 0) ≡ n = length-replicate n 0 in
    let long : size ≡ length (bytes ++ replicate n 0) = omega (arith, length-append bytes (replicate n 0)) in
    let sized : AbridgedSize size (bytes ++ replicate n 0) =
    record { head = f.head; words = f.words; says = head_on f.head f.words bytes (replicate n 0) f.says; some = f.some; most = f.most; whole = f.whole } in
    outline_goes_on bytes (replicate n 0) (with_zeros bytes n fits) (omega arith)
    (subst (λ (k : ℕ). AbridgedSize k (bytes ++ replicate n 0)) long sized)

-- zeros behind a whole length field make a frame
zeros_finish : (a b c d words n : ℕ) → a ≡ 127 → words ≡ b + 256 * (c + 256 * (d + 256 * 0)) → 0 < words → 4 * words ≤ payload_max → n ≡ 4 * words
    → AbridgedSize (length (a ∷ b ∷ c ∷ d ∷ replicate n 0)) (a ∷ b ∷ c ∷ d ∷ replicate n 0)
zeros_finish a b c d words n first is some most count =
    let zeros : length {A = ℕ} (replicate n 0) ≡ n = length-replicate n 0 in
    record {
      head = 4;
      words = words;
      says = inr (refl, first, omega arith, sym is);
      some = some;
      most = most;
      whole = omega (arith, zeros, count);
    }

head_bytes : (a b c d n : ℕ) → a < 256 → b < 256 → c < 256 → d < 256 → IsBytes (a ∷ b ∷ c ∷ d ∷ replicate n 0)
head_bytes a b c d n p q r s =
    let zeros : List ℕ = replicate n 0 in
    cons_bytes a (b ∷ c ∷ d ∷ zeros) p (cons_bytes b (c ∷ d ∷ zeros) q (cons_bytes c (d ∷ zeros) r (cons_bytes d zeros s (zero_bytes n))))

one_goes_on : (a words n : ℕ) → a ≡ 127 → words ≡ 65536 → n ≡ 4 * words → GoesOn (a ∷ [])
one_goes_on a words n e w count =
    outline_goes_on (a ∷ []) (0 ∷ 0 ∷ 1 ∷ replicate n 0) (head_bytes a 0 0 1 n (omega arith) (omega arith) (omega arith) (omega arith)) (omega arith)
    (zeros_finish a 0 0 1 words n e (omega arith) (omega arith) (omega arith) count)

two_go_on : (a b words n : ℕ) → a ≡ 127 → b < 256 → words ≡ b + 65536 → n ≡ 4 * words → GoesOn (a ∷ b ∷ [])
two_go_on a b words n e small w count =
    outline_goes_on (a ∷ b ∷ []) (0 ∷ 1 ∷ replicate n 0) (head_bytes a b 0 1 n (omega arith) small (omega arith) (omega arith)) (omega arith)
    (zeros_finish a b 0 1 words n e (omega arith) (omega arith) (omega arith) count)

three_go_on : (a b c words n : ℕ) → a ≡ 127 → b < 256 → c < 256 → words ≡ b + 256 * c + 65536 → n ≡ 4 * words → GoesOn (a ∷ b ∷ c ∷ [])
three_go_on a b c words n e small few w count =
    outline_goes_on (a ∷ b ∷ c ∷ []) (1 ∷ replicate n 0) (head_bytes a b c 1 n (omega arith) small few (omega arith)) (omega arith)
    (zeros_finish a b c 1 words n e (omega arith) (omega arith) (omega arith) count)

empty_goes_on : GoesOn []
empty_goes_on = record {
  packet = 0 ∷ 0 ∷ 0 ∷ 0 ∷ [];
  more = 1 ∷ 0 ∷ 0 ∷ 0 ∷ 0 ∷ [];
  some = omega arith;
  frame = record {
    payload = record { some = omega arith; most = omega arith; words = refl };
    head = 1 ∷ [];
    says = inl (omega arith, refl);
    whole = refl;
  };
}

cut_goes_on : (bytes : List ℕ) → IsBytes bytes → get_or bytes 0 0 ≡ 127 → length bytes < 4 → GoesOn bytes
cut_goes_on [] fits e k = empty_goes_on
cut_goes_on (a ∷ []) fits e k = one_goes_on a 65536 (4 * 65536) e refl refl
cut_goes_on (a ∷ b ∷ []) fits e k = two_go_on a b (b + 65536) (4 * (b + 65536)) e (fits 1) refl refl
cut_goes_on (a ∷ b ∷ c ∷ []) fits e k = three_go_on a b c (b + 256 * c + 65536) (4 * (b + 256 * c + 65536)) e (fits 1) (fits 2) refl refl
cut_goes_on (a ∷ b ∷ c ∷ d ∷ bytes) fits e k = absurd (omega arith)

pub begun_goes_on : (bytes : List ℕ) → IsBytes bytes → IsBegun abridged bytes → GoesOn bytes
begun_goes_on [] fits begun = empty_goes_on
begun_goes_on (a ∷ bytes) fits (inl (inl none)) = absurd (omega arith)
begun_goes_on (a ∷ bytes) fits (inl (inr cut)) = cut_goes_on (a ∷ bytes) fits cut.0 cut.1
begun_goes_on (a ∷ bytes) fits (inr short) =
    short_goes_on (a ∷ bytes) short.size (short.size - length (a ∷ bytes)) fits short.sized short.short refl
