-- A digest is a list of bytes, and so is what is made of its parts.
use Rattle.std.proofs.Common.{◌≡◌, ◌<◌, ◌≤◌, ◌+◌, ◌*◌, ℕ, zero, suc, List, [], ◌∷◌, ◌++◌, length, take, drop, arith, lit≤}
use Rattle.std.specs.Prelude.{slice_index}
use Rattle.std.specs.Int.{w32, to_be_bytes}
use Rattle.octets.specs.Bytes.{IsBytes, HasBytes}
use Rattle.sha2.specs.Sha256.{sha256, digest_bytes}
use Rattle.auth_keys.specs.Keys.{substr}
use Rattle.msg_key.specs.Keys.{message_key, aes_key, aes_iv}

-- what the crate below promises of lists of bytes
pub record CountsOfBytes : Type 0 where
  pub nil : HasBytes 0 []
  pub cons : (n x : ℕ) (xs : List ℕ) → x < 256 → HasBytes n xs → HasBytes (suc n) (x ∷ xs)
  pub append : (m n : ℕ) (xs ys : List ℕ) → HasBytes m xs → HasBytes n ys → HasBytes (m + n) (xs ++ ys)
  pub part : (i n : ℕ) (xs : List ℕ) → i + n ≤ length xs → IsBytes xs → HasBytes n (take n (drop i xs))

HasBytes-word : CountsOfBytes → (w : ℕ) → HasBytes 4 (to_be_bytes w32 w)
HasBytes-word laws w =
    laws.cons 3 _ _ (omega arith) (laws.cons 2 _ _ (omega arith) (laws.cons 1 _ _ (omega arith)
    (laws.cons 0 _ _ (omega arith) laws.nil)))

HasBytes-digest_bytes : CountsOfBytes → (h : List ℕ) (n : ℕ) → HasBytes (n * 4) (digest_bytes h n)
unfolding digest_bytes
HasBytes-digest_bytes laws h zero = laws.nil
HasBytes-digest_bytes laws h (suc n) =
    let total : suc n * 4 ≡ n * 4 + 4 = omega arith in
    rw total (laws.append (n * 4) 4 _ _ (HasBytes-digest_bytes laws h n) (HasBytes-word laws (slice_index h n)))

pub HasBytes-sha256 : CountsOfBytes → (m : List ℕ) → HasBytes 32 (sha256 m)
unfolding sha256
HasBytes-sha256 laws m = HasBytes-digest_bytes laws _ 8

HasBytes-substr : CountsOfBytes → (m : List ℕ) (i n : ℕ) → i + n ≤ 32 → HasBytes n (substr (sha256 m) i n)
HasBytes-substr laws m i n within =
    let whole = HasBytes-sha256 laws m in
    laws.part i n (sha256 m) (omega (arith, whole.count)) whole.in_range

three_parts : CountsOfBytes → (a b : List ℕ) → HasBytes 32 (substr (sha256 a) 0 8 ++ substr (sha256 b) 8 16 ++ substr (sha256 a) 24 8)
three_parts laws a b =
    laws.append 24 8 _ _ (laws.append 8 16 _ _ (HasBytes-substr laws a 0 8 (lit≤ tt)) (HasBytes-substr laws b 8 16 (lit≤ tt)))
    (HasBytes-substr laws a 24 8 (lit≤ tt))

pub HasBytes-message_key : CountsOfBytes → (key plain : List ℕ) (x : ℕ) → HasBytes 16 (message_key key x plain)
unfolding message_key
HasBytes-message_key laws key plain x = HasBytes-substr laws _ 8 16 (lit≤ tt)

pub HasBytes-aes_key : CountsOfBytes → (key msg_key : List ℕ) (x : ℕ) → HasBytes 32 (aes_key key x msg_key)
unfolding aes_key
HasBytes-aes_key laws key msg_key x = three_parts laws _ _

pub HasBytes-aes_iv : CountsOfBytes → (key msg_key : List ℕ) (x : ℕ) → HasBytes 32 (aes_iv key x msg_key)
unfolding aes_iv
HasBytes-aes_iv laws key msg_key x = three_parts laws _ _
