-- The spellings of what a client says are bytes and whole words.
use Rattle.std.proofs.Common.{inl, inr, zero, suc, ltb, ◌/◌, ◌≡◌, ℕ, ◌+◌, ◌%◌, ◌<◌, ◌^◌, true, false, List, [], ◌∷◌, ◌++◌, length, replicate, ap, refl, arith}
use Rattle.std.specs.Int.{byte_at, bytes_low_first}
use Rattle.std.specs.List.{AllByRecursion, flat_map}
use Rattle.std.proofs.Math.Nat.{mod-lt}
use Rattle.std.proofs.lemmas.Bool.{cases_lt, lt-ltb, le-ltb}
use Rattle.std.proofs.lemmas.List.{length-append, length-replicate}
use Rattle.byteorder.specs.Endian.{little_bytes}
use Rattle.byteorder.specs.Numbers.{length-bytes_low_first}
use Rattle.octets.specs.Bytes.{IsBytes}
use Rattle.tl_codec.specs.Standard.{vector}
use Rattle.tl_codec.specs.Spelling.{Int, Long, Bytes, Longs, spelling, head, padding_of}
use Rattle.service_tl.specs.declared.item.Item.TheVariants.{AuthBindTempAuthKey, DestroySession, GetFutureSalts, InvokeAfterMsg, MsgResendReq, MsgsAck, MsgsStateInfo, MsgsStateReq, Ping, RpcDropAnswer}
use Rattle.service_tl.specs.declared.lists.Message.{Message}
use Rattle.service_tl.specs.Items.{spelling_of}
use Rattle.service_tl.specs.Words.{IsWords}
use Rattle.containers.specs.Container.{constructor, container_of, head_of, row}

-- ---- bytes

pub bytes-cons : (x : ℕ) (xs : List ℕ) → x < 256 → IsBytes xs → IsBytes (x ∷ xs)
bytes-cons x xs low h zero = low
bytes-cons x xs low h (suc i) = h i

pub bytes-nil : IsBytes []
bytes-nil i = omega arith

pub bytes-append : (xs ys : List ℕ) → IsBytes xs → IsBytes ys → IsBytes (xs ++ ys)
bytes-append [] ys h k = k
bytes-append (x ∷ xs) ys h k = bytes-cons x (xs ++ ys) (h 0) (bytes-append xs ys (λ i. h (suc i)) k)

byte-low : (i x : ℕ) → byte_at i x < 256
byte-low zero x = mod-lt x (omega arith)
byte-low (suc i) x = mod-lt (x / 256 ^ suc i) (omega arith)

low-bytes : (i n x : ℕ) → IsBytes (bytes_low_first i n x)
low-bytes i zero x = bytes-nil
low-bytes i (suc n) x = bytes-cons (byte_at i x) (bytes_low_first (suc i) n x) (byte-low i x) (low-bytes (suc i) n x)

pub little-bytes : (n x : ℕ) → IsBytes (little_bytes n x)
little-bytes n x = low-bytes 0 n x

pub copies-bytes : (n x : ℕ) → x < 256 → IsBytes (replicate n x)
copies-bytes zero x low = bytes-nil
copies-bytes (suc n) x low = bytes-cons x (replicate n x) low (copies-bytes n x low)

-- ---- bytes that are whole words

pub record IsText (text : List ℕ) : Type 0 where
  pub bytes : IsBytes text
  pub words : IsWords text

joined : (x y : List ℕ) → IsText x → IsText y → IsText (x ++ y)
joined x y a b =
    let first = a.words in
    let second = b.words in
    record { bytes = bytes-append x y a.bytes b.bytes; words = omega (arith, length-append x y, first, second) }

nil : IsText []
nil = record { bytes = bytes-nil; words = refl }

int : (n : ℕ) → IsText (spelling Int n)
unfolding spelling
int n = record { bytes = little-bytes 4 n; words = ap (λ (l : ℕ). l % 4) (length-bytes_low_first 0 4 n) }

long : (n : ℕ) → IsText (spelling Long n)
unfolding spelling
long n = record { bytes = little-bytes 8 n; words = ap (λ (l : ℕ). l % 4) (length-bytes_low_first 0 8 n) }

head-bytes : (size : ℕ) → IsBytes (head size)
head-bytes size =
    elim (cases_lt size 254) [
      | inl lt ↦ let test : ltb size 254 ≡ true = lt-ltb _ _ lt in rw test (bytes-cons size [] (omega (arith, lt)) bytes-nil)
      | inr le ↦ let test : ltb size 254 ≡ false = le-ltb _ _ le in rw test (bytes-cons 254 (little_bytes 3 size) (omega arith) (little-bytes 3 size))
    ]

string : (content : List ℕ) → IsBytes content → IsText (spelling Bytes content)
unfolding spelling
string content bytes =
    let front = head (length content) in
    let padding : List ℕ = replicate (padding_of (length front + length content)) 0 in
    record {
      bytes = bytes-append (front ++ content) padding (bytes-append front content (head-bytes (length content)) bytes)
          (copies-bytes (padding_of (length front + length content)) 0 (omega arith));
      words = omega (arith, length-append (front ++ content) padding, length-append front content, length-replicate {A = ℕ} (padding_of (length front + length content)) 0);
    }

numbers : (list : List ℕ) → IsText (flat_map (little_bytes 8) list)
numbers [] = nil
numbers (number ∷ list) =
    joined (little_bytes 8 number) (flat_map (little_bytes 8) list)
    (record { bytes = little-bytes 8 number; words = ap (λ (l : ℕ). l % 4) (length-bytes_low_first 0 8 number) }) (numbers list)

longs : (list : List ℕ) → IsText (spelling Longs list)
unfolding spelling
longs list =
    let tag = little_bytes 4 vector in
    let count = little_bytes 4 (length list) in
    joined (tag ++ count) (flat_map (little_bytes 8) list)
    (joined tag count (record { bytes = little-bytes 4 vector; words = ap (λ (l : ℕ). l % 4) (length-bytes_low_first 0 4 vector) })
    (record { bytes = little-bytes 4 (length list); words = ap (λ (l : ℕ). l % 4) (length-bytes_low_first 0 4 (length list)) })) (numbers list)

-- ---- items

pub acks : (list : List ℕ) → IsText (spelling_of (MsgsAck list))
acks list = joined _ _ (int _) (joined _ _ (longs list) nil)

pub resent : (list : List ℕ) → IsText (spelling_of (MsgResendReq list))
resent list = joined _ _ (int _) (joined _ _ (longs list) nil)

pub states_asked : (list : List ℕ) → IsText (spelling_of (MsgsStateReq list))
states_asked list = joined _ _ (int _) (joined _ _ (longs list) nil)

pub states_told : (request : ℕ) (info : List ℕ) → IsBytes info → IsText (spelling_of (MsgsStateInfo request info))
states_told request info bytes = joined _ _ (int _) (joined _ _ (long request) (joined _ _ (string info bytes) nil))

pub ping : (id : ℕ) → IsText (spelling_of (Ping id))
ping id = joined _ _ (int _) (joined _ _ (long id) nil)

pub salts : (count : ℕ) → IsText (spelling_of (GetFutureSalts count))
salts count = joined _ _ (int _) (joined _ _ (int count) nil)

pub destroyed : (session : ℕ) → IsText (spelling_of (DestroySession session))
destroyed session = joined _ _ (int _) (joined _ _ (long session) nil)

pub dropped : (number : ℕ) → IsText (spelling_of (RpcDropAnswer number))
dropped number = joined _ _ (int _) (joined _ _ (long number) nil)

pub binding : (perm nonce expires : ℕ) (message : List ℕ) → IsBytes message → IsText (spelling_of (AuthBindTempAuthKey perm nonce expires message))
binding perm nonce expires message bytes =
    joined _ _ (int _) (joined _ _ (long perm) (joined _ _ (long nonce) (joined _ _ (int expires) (joined _ _ (string message bytes) nil))))

pub behind : (number : ℕ) (body : List ℕ) → IsText body → IsText (spelling_of (InvokeAfterMsg number body))
behind number body text = joined _ _ (int _) (joined _ _ (long number) (joined body [] text nil))

int-length : (n : ℕ) → length (spelling Int n) ≡ 4
unfolding spelling
int-length n = length-bytes_low_first 0 4 n

long-length : (n : ℕ) → length (spelling Long n) ≡ 8
unfolding spelling
long-length n = length-bytes_low_first 0 8 n

after-length : (tag number : ℕ) (body : List ℕ) → length (spelling Int tag ++ (spelling Long number ++ (body ++ []))) ≡ length body + 12
after-length tag number body =
    omega (arith, length-append (spelling Int tag) (spelling Long number ++ (body ++ [])), length-append (spelling Long number) (body ++ []), length-append body [], int-length tag, long-length number)

pub behind-length : (number : ℕ) (body : List ℕ) → length (spelling_of (InvokeAfterMsg number body)) ≡ length body + 12
behind-length number body = after-length _ number body

-- ---- a container

abbrev pub IsBody : Message → Type 0
IsBody message = IsText message.body

row-text : (message : Message) → IsText message.body → IsText (row message)
unfolding row
row-text message text =
    let number = little_bytes 8 message.number in
    let seq = little_bytes 4 message.seq in
    let size = little_bytes 4 (length message.body) in
    joined number (seq ++ (size ++ message.body)) (record { bytes = little-bytes 8 message.number; words = ap (λ (l : ℕ). l % 4) (length-bytes_low_first 0 8 message.number) })
    (joined seq (size ++ message.body) (record { bytes = little-bytes 4 message.seq; words = ap (λ (l : ℕ). l % 4) (length-bytes_low_first 0 4 message.seq) })
    (joined size message.body (record { bytes = little-bytes 4 (length message.body); words = ap (λ (l : ℕ). l % 4) (length-bytes_low_first 0 4 (length message.body)) }) text))

rows-text : (messages : List Message) → AllByRecursion IsBody messages → IsText (flat_map row messages)
rows-text [] all = nil
rows-text (message ∷ messages) all = joined (row message) (flat_map row messages) (row-text message all.0) (rows-text messages all.1)

pub container-text : (messages : List Message) → AllByRecursion IsBody messages → IsText (container_of messages)
unfolding container_of head_of
container-text messages all =
    let tag = little_bytes 4 constructor in
    let count = little_bytes 4 (length messages) in
    joined (tag ++ count) (flat_map row messages)
    (joined tag count (record { bytes = little-bytes 4 constructor; words = ap (λ (l : ℕ). l % 4) (length-bytes_low_first 0 4 constructor) })
    (record { bytes = little-bytes 4 (length messages); words = ap (λ (l : ℕ). l % 4) (length-bytes_low_first 0 4 (length messages)) })) (rows-text messages all)
