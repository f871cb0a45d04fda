-- How many bytes a binding message has, whatever the numbers in it.
use Rattle.std.proofs.Common.{◌≡◌, ◌∙◌, ℕ, zero, suc, ◌<◌, ◌^◌, List, [], ◌∷◌, ◌++◌, length, ap, refl, arith}
use Rattle.std.specs.Prelude.{◌%◌}
use Rattle.std.specs.Int.{byte_at, bytes_low_first}
use Rattle.octets.specs.Bytes.{IsBytes, HasBytes}
use Rattle.draws.specs.Draws.{next_bytes}
use Rattle.temp_keys.specs.declared.binding.Inner.{Inner}
use Rattle.temp_keys.specs.Messages.{IsInner, Says, binding_message, inner_bytes, inner_constructor, inner_text, int, long, message_bytes, plain_text, sealed}

bytes_cons : (x : ℕ) (xs : List ℕ) → x < 256 → IsBytes xs → IsBytes (x ∷ xs)
bytes_cons x xs small h zero = small
bytes_cons x xs small h (suc i) = h i

bytes_append : (xs ys : List ℕ) → IsBytes xs → IsBytes ys → IsBytes (xs ++ ys)
bytes_append [] ys h g = g
bytes_append (x ∷ xs) ys h g = bytes_cons x (xs ++ ys) (h 0) (bytes_append xs ys (λ i. h (suc i)) g)

byte_small : (i n : ℕ) → byte_at i n < 256
byte_small zero n = omega arith
byte_small (suc i) n = omega arith

no_bytes : IsBytes []
no_bytes i = grind arith

low_bytes : (i k n : ℕ) → IsBytes (bytes_low_first i k n)
low_bytes i zero n = no_bytes
low_bytes i (suc k) n = bytes_cons (byte_at i n) (bytes_low_first (suc i) k n) (byte_small i n) (low_bytes (suc i) k n)

pub sixteen : {S : Type 0} (step : S → ℕ × S) (draw : S) → HasBytes 16 (next_bytes step 16 draw)
sixteen step draw =
    record {
      count = refl;
      in_range = bytes_append (long (step draw).0) (long (step (step draw).1).0 ++ []) (low_bytes 0 8 (step draw).0)
          (bytes_append (long (step (step draw).1).0) [] (low_bytes 0 8 (step (step draw).1).0) no_bytes);
    }

pub eight : {S : Type 0} (step : S → ℕ × S) (draw : S) → HasBytes 8 (next_bytes step 8 draw)
eight step draw =
    record { count = refl; in_range = bytes_append (long (step draw).0) [] (low_bytes 0 8 (step draw).0) no_bytes }

cons_both : (x y : ℕ) (xs ys : List ℕ) → x ≡ y → xs ≡ ys → x ∷ xs ≡ y ∷ ys
cons_both x y xs ys same rest = ap (λ one. one ∷ xs) same ∙ ap (λ others. y ∷ others) rest

-- a number of more bits is written by its last bits
long_cut : (n : ℕ) → long n ≡ long (n % 2 ^ 64)
long_cut n =
    cons_both _ _ _ _ (omega arith) (cons_both _ _ _ _ (omega arith) (cons_both _ _ _ _ (omega arith) (cons_both _ _ _ _ (omega arith)
    (cons_both _ _ _ _ (omega arith) (cons_both _ _ _ _ (omega arith) (cons_both _ _ _ _ (omega arith) (cons_both _ _ _ _ (omega arith) refl)))))))

int_cut : (n : ℕ) → int n ≡ int (n % 2 ^ 32)
int_cut n =
    cons_both _ _ _ _ (omega arith) (cons_both _ _ _ _ (omega arith) (cons_both _ _ _ _ (omega arith) (cons_both _ _ _ _ (omega arith) refl)))

abbrev cut_inner : Inner → Inner
cut_inner inner =
    record {
      nonce = inner.nonce % 2 ^ 64;
      temp = inner.temp % 2 ^ 64;
      perm = inner.perm % 2 ^ 64;
      session = inner.session % 2 ^ 64;
      expires = inner.expires % 2 ^ 32;
    }

below_word : (n : ℕ) → n % 2 ^ 64 < 2 ^ 64
below_word n = omega arith

below_half : (n : ℕ) → n % 2 ^ 32 < 2 ^ 32
below_half n = omega arith

cut_fits : (inner : Inner) → IsInner (cut_inner inner)
cut_fits inner =
    record {
      nonce = below_word inner.nonce;
      temp = below_word inner.temp;
      perm = below_word inner.perm;
      session = below_word inner.session;
      expires = below_half inner.expires;
    }

abbrev parts : List ℕ → List ℕ → List ℕ → List ℕ → List ℕ → List ℕ
parts nonce temp perm session expires = int inner_constructor ++ nonce ++ temp ++ perm ++ session ++ expires

inner_cut : (inner : Inner) → inner_text inner ≡ inner_text (cut_inner inner)
unfolding inner_text
inner_cut inner =
    ap (λ own. parts own (long inner.temp) (long inner.perm) (long inner.session) (int inner.expires)) (long_cut inner.nonce)
    ∙ (ap (λ own. parts (long (inner.nonce % 2 ^ 64)) own (long inner.perm) (long inner.session) (int inner.expires)) (long_cut inner.temp)
    ∙ (ap (λ own. parts (long (inner.nonce % 2 ^ 64)) (long (inner.temp % 2 ^ 64)) own (long inner.session) (int inner.expires)) (long_cut inner.perm)
    ∙ (ap (λ own. parts (long (inner.nonce % 2 ^ 64)) (long (inner.temp % 2 ^ 64)) (long (inner.perm % 2 ^ 64)) own (int inner.expires)) (long_cut inner.session)
    ∙ ap (λ own. parts (long (inner.nonce % 2 ^ 64)) (long (inner.temp % 2 ^ 64)) (long (inner.perm % 2 ^ 64)) (long (inner.session % 2 ^ 64)) own) (int_cut inner.expires))))

plain_cut : (random : List ℕ) (number : ℕ) (inner : Inner) (padding : List ℕ)
    → plain_text random number inner padding ≡ plain_text random (number % 2 ^ 64) (cut_inner inner) padding
unfolding plain_text
plain_cut random number inner padding =
    ap (λ own. random ++ own ++ int 0 ++ int inner_bytes ++ inner_text inner ++ padding) (long_cut number)
    ∙ ap (λ own. random ++ long (number % 2 ^ 64) ++ int 0 ++ int inner_bytes ++ own ++ padding) (inner_cut inner)

-- it has 104 bytes
pub bind_size : ((key message : List ℕ) (number : ℕ) (inner : Inner) → Says key message number inner → length message ≡ message_bytes)
    → (key random : List ℕ) (number : ℕ) (inner : Inner) (padding : List ℕ) → HasBytes 16 random → HasBytes 8 padding
    → length (binding_message key random number inner padding) ≡ 104
bind_size sizes key random number inner padding sixteen eight =
    sizes key (binding_message key random number inner padding) (number % 2 ^ 64) (cut_inner inner) (record {
      random = random;
      padding = padding;
      random_bytes = sixteen;
      padding_bytes = eight;
      number_fits = below_word number;
      inner_fits = cut_fits inner;
      sealed = ap (sealed key) (plain_cut random number inner padding);
    })
