-- The spelling of what a server says is whole words, and is no container.
use Rattle.std.proofs.Common.{inl, inr, zero, suc, ltb, ◌*◌, ◌/◌, ◌≡◌, ℕ, ◌+◌, ◌%◌, ◌<◌, ◌≤◌, ◌^◌, ◌==◌, ◌&&◌, Bool, true, false, List, [], ◌∷◌, ◌++◌, length, replicate, ap, refl, arith}
use Rattle.std.specs.Prelude.{map, nat_le}
use Rattle.std.specs.Int.{byte_at, bytes_low_first}
use Rattle.std.proofs.Math.Nat.{mod-lt}
use Rattle.octets.specs.Bytes.{IsBytes}
use Rattle.std.proofs.lemmas.Bool.{cases_lt, lt-ltb, le-ltb}
use Rattle.std.specs.List.{flat_map}
use Rattle.std.proofs.lemmas.List.{length-append, length-replicate}
use Rattle.byteorder.specs.Endian.{little_bytes, little_number}
use Rattle.byteorder.specs.Numbers.{length-bytes_low_first, little_number-reads_back}
use Rattle.tl_codec.specs.Standard.{vector}
use Rattle.tl_codec.specs.Spelling.{Int, Long, Bytes, Longs, spelling, head, padding_of}
use Rattle.service_tl.specs.declared.item.Item.{Item}
use Rattle.service_tl.specs.declared.item.Item.TheVariants.{RpcAnswerDropped, RpcResult, FutureSalts, Pong, DestroySessionOk, DestroySessionNone, NewSessionCreated, MsgsAck, MsgsStateInfo, BadMsgNotification, BadServerSalt}
use Rattle.service_tl.specs.declared.lists.FutureSalt.{FutureSalt}
use Rattle.service_tl.specs.Fields.{salt_row}
use Rattle.service_tl.specs.Items.{spelling_of}
use Rattle.service_tl.specs.Schema.{rpc_result, new_session_created, bad_msg_notification, bad_server_salt, msgs_ack, pong, future_salts, msgs_state_info, destroy_session_ok, destroy_session_none}
use Rattle.service_tl.specs.Words.{IsWords}
use Rattle.containers.specs.Container.{begins_container, constructor}
use Rattle.packing.specs.Numbering.{addition}
use Rattle.law_server_bounds.specs.Small.{IsSmallItem}

joined : (x y : List ℕ) → IsWords x → IsWords y → IsWords (x ++ y)
joined x y a b = omega (arith, length-append x y, a, b)

int-words : (n : ℕ) → IsWords (spelling Int n)
unfolding spelling
int-words n = ap (λ (l : ℕ). l % 4) (length-bytes_low_first 0 4 n)

long-words : (n : ℕ) → IsWords (spelling Long n)
unfolding spelling
long-words n = ap (λ (l : ℕ). l % 4) (length-bytes_low_first 0 8 n)

bytes-words : (content : List ℕ) → IsWords (spelling Bytes content)
unfolding spelling
bytes-words content =
    let front = head (length content) in
    let padding : List ℕ = replicate (padding_of (length front + length content)) 0 in
    omega (arith, length-append (front ++ content) padding, length-append front content, length-replicate {A = ℕ} (padding_of (length front + length content)) 0)

numbers-words : (numbers : List ℕ) → IsWords (flat_map (little_bytes 8) numbers)
numbers-words [] = refl
numbers-words (number ∷ numbers) =
    joined (little_bytes 8 number) (flat_map (little_bytes 8) numbers) (ap (λ (l : ℕ). l % 4) (length-bytes_low_first 0 8 number)) (numbers-words numbers)

longs-words : (numbers : List ℕ) → IsWords (spelling Longs numbers)
unfolding spelling
longs-words numbers =
    let tag = little_bytes 4 vector in
    let count = little_bytes 4 (length numbers) in
    let items = flat_map (little_bytes 8) numbers in
    let all = numbers-words numbers in
    omega (arith, all, length-append (tag ++ count) items, length-append tag count, length-bytes_low_first 0 4 vector, length-bytes_low_first 0 4 (length numbers))

rows-words : (rows : List FutureSalt) → IsWords (flat_map salt_row rows)
rows-words [] = refl
rows-words (row ∷ rows) =
    joined (salt_row row) (flat_map salt_row rows)
    (joined _ _ (int-words row.valid_since) (joined _ _ (int-words row.valid_until) (long-words row.salt))) (rows-words rows)

-- a field behind others
nil-words : IsWords []
nil-words = refl

pub item-words : (item : Item) → IsSmallItem item → IsWords (spelling_of item)
item-words (RpcResult call content) small = joined _ _ (int-words _) (joined _ _ (long-words call) (joined content [] small.1.0.words nil-words))
item-words (NewSessionCreated first unique salt) small =
    joined _ _ (int-words _) (joined _ _ (long-words first) (joined _ _ (long-words unique) (joined _ _ (long-words salt) nil-words)))
item-words (BadMsgNotification number seq code) small =
    joined _ _ (int-words _) (joined _ _ (long-words number) (joined _ _ (int-words seq) (joined _ _ (int-words code) nil-words)))
item-words (BadServerSalt number seq code salt) small =
    joined _ _ (int-words _) (joined _ _ (long-words number) (joined _ _ (int-words seq) (joined _ _ (int-words code) (joined _ _ (long-words salt) nil-words))))
item-words (MsgsAck numbers) small = joined _ _ (int-words _) (joined _ _ (longs-words numbers) nil-words)
item-words (Pong number ping) small = joined _ _ (int-words _) (joined _ _ (long-words number) (joined _ _ (long-words ping) nil-words))
item-words (FutureSalts number now salts) small =
    joined _ _ (int-words _) (joined _ _ (long-words number) (joined _ _ (int-words now)
    (joined _ _ (joined _ _ (int-words (length salts)) (rows-words salts)) nil-words)))
item-words (MsgsStateInfo number info) small = joined _ _ (int-words _) (joined _ _ (long-words number) (joined _ _ (bytes-words info) nil-words))
item-words (DestroySessionOk number) small = joined _ _ (int-words _) (joined _ _ (long-words number) nil-words)
item-words (DestroySessionNone number) small = joined _ _ (int-words _) (joined _ _ (long-words number) nil-words)
item-words _ small = absurd small

and-false : (b : Bool) → (b && false) ≡ false
and-false true = refl
and-false false = refl

-- a body behind another number is no container
other-unnested : (number : ℕ) (text : List ℕ) → number < 2 ^ 32 → (number == constructor) ≡ false → begins_container (spelling Int number ++ text) ≡ false
unfolding spelling begins_container
other-unnested number text small other =
    let same : little_number 4 (little_bytes 4 number ++ text) ≡ number = little_number-reads_back 4 number text small in
    rw (same, other) (and-false (nat_le 4 (length (little_bytes 4 number ++ text))))

pub item-unnested : (item : Item) → IsSmallItem item → begins_container (spelling_of item) ≡ false
item-unnested (RpcResult call content) small = other-unnested rpc_result.number _ (omega arith) refl
item-unnested (NewSessionCreated first unique salt) small = other-unnested new_session_created.number _ (omega arith) refl
item-unnested (BadMsgNotification number seq code) small = other-unnested bad_msg_notification.number _ (omega arith) refl
item-unnested (BadServerSalt number seq code salt) small = other-unnested bad_server_salt.number _ (omega arith) refl
item-unnested (MsgsAck numbers) small = other-unnested msgs_ack.number _ (omega arith) refl
item-unnested (Pong number ping) small = other-unnested pong.number _ (omega arith) refl
item-unnested (FutureSalts number now salts) small = other-unnested future_salts.number _ (omega arith) refl
item-unnested (MsgsStateInfo number info) small = other-unnested msgs_state_info.number _ (omega arith) refl
item-unnested (DestroySessionOk number) small = other-unnested destroy_session_ok.number _ (omega arith) refl
item-unnested (DestroySessionNone number) small = other-unnested destroy_session_none.number _ (omega arith) refl
item-unnested _ small = absurd small

pub addition-low : (item : Item) → addition item ≤ 3
addition-low (RpcResult call content) = omega arith
addition-low (Pong number ping) = omega arith
addition-low (FutureSalts number now salts) = omega arith
addition-low (MsgsStateInfo number info) = omega arith
addition-low (DestroySessionOk number) = omega arith
addition-low (DestroySessionNone number) = omega arith
addition-low (BadMsgNotification number seq code) = omega arith
addition-low (BadServerSalt number seq code salt) = omega arith
addition-low _ = omega arith

-- ---- bytes

pub bytes-cons : (x : ℕ) (xs : List ℕ) → x < 256 → IsBytes xs → IsBytes (x ∷ xs)
bytes-cons x xs low h zero = low
bytes-cons x xs low h (suc i) = h i

pub bytes-nil : IsBytes []
bytes-nil i = omega arith

pub bytes-append : (xs ys : List ℕ) → IsBytes xs → IsBytes ys → IsBytes (xs ++ ys)
bytes-append [] ys h k = k
bytes-append (x ∷ xs) ys h k = bytes-cons x (xs ++ ys) (h 0) (bytes-append xs ys (λ i. h (suc i)) k)

pub bytes-back : (xs ys : List ℕ) → IsBytes (xs ++ ys) → IsBytes ys
bytes-back [] ys h = h
bytes-back (x ∷ xs) ys h = bytes-back xs ys (λ i. h (suc i))

pub bytes-front : (xs ys : List ℕ) → IsBytes (xs ++ ys) → IsBytes xs
bytes-front [] ys h = bytes-nil
bytes-front (x ∷ xs) ys h = bytes-cons x xs (h 0) (bytes-front xs ys (λ i. h (suc i)))

pub bytes-map : {X : Type 0} (byte : X → ℕ) (xs : List X) → ((x : X) → byte x < 256) → IsBytes (map byte xs)
bytes-map byte [] low = bytes-nil
bytes-map byte (x ∷ xs) low = bytes-cons (byte x) (map byte xs) (low x) (bytes-map byte xs low)

byte-low : (i x : ℕ) → byte_at i x < 256
byte-low zero x = mod-lt x (omega arith)
byte-low (suc i) x = mod-lt (x / 256 ^ suc i) (omega arith)

low-bytes : (i n x : ℕ) → IsBytes (bytes_low_first i n x)
low-bytes i zero x = bytes-nil
low-bytes i (suc n) x = bytes-cons (byte_at i x) (bytes_low_first (suc i) n x) (byte-low i x) (low-bytes (suc i) n x)

pub little-bytes : (n x : ℕ) → IsBytes (little_bytes n x)
little-bytes n x = low-bytes 0 n x

int-bytes : (n : ℕ) → IsBytes (spelling Int n)
unfolding spelling
int-bytes n = little-bytes 4 n

long-bytes : (n : ℕ) → IsBytes (spelling Long n)
unfolding spelling
long-bytes n = little-bytes 8 n

copies-bytes : (n : ℕ) → IsBytes (replicate n 0)
copies-bytes zero = bytes-nil
copies-bytes (suc n) = bytes-cons 0 (replicate n 0) (omega arith) (copies-bytes n)

head-bytes : (size : ℕ) → size ≤ 8192 → IsBytes (head size)
head-bytes size few =
    elim (cases_lt size 254) [
      | inl lt ↦ let test : ltb size 254 ≡ true = lt-ltb _ _ lt in rw test (bytes-cons size [] (omega (arith, lt)) bytes-nil)
      | inr le ↦ let test : ltb size 254 ≡ false = le-ltb _ _ le in rw test (bytes-cons 254 (little_bytes 3 size) (omega arith) (little-bytes 3 size))
    ]

text-bytes : (content : List ℕ) → length content ≤ 8192 → IsBytes content → IsBytes (spelling Bytes content)
unfolding spelling
text-bytes content few bytes =
    let front = head (length content) in
    bytes-append (front ++ content) (replicate (padding_of (length front + length content)) 0)
    (bytes-append front content (head-bytes (length content) few) bytes) (copies-bytes (padding_of (length front + length content)))

numbers-bytes : (numbers : List ℕ) → IsBytes (flat_map (little_bytes 8) numbers)
numbers-bytes [] = bytes-nil
numbers-bytes (number ∷ numbers) = bytes-append (little_bytes 8 number) (flat_map (little_bytes 8) numbers) (little-bytes 8 number) (numbers-bytes numbers)

longs-bytes : (numbers : List ℕ) → IsBytes (spelling Longs numbers)
unfolding spelling
longs-bytes numbers =
    let tag = little_bytes 4 vector in
    let count = little_bytes 4 (length numbers) in
    bytes-append (tag ++ count) (flat_map (little_bytes 8) numbers) (bytes-append tag count (little-bytes 4 vector) (little-bytes 4 (length numbers))) (numbers-bytes numbers)

rows-bytes : (rows : List FutureSalt) → IsBytes (flat_map salt_row rows)
rows-bytes [] = bytes-nil
rows-bytes (row ∷ rows) =
    bytes-append (salt_row row) (flat_map salt_row rows)
    (bytes-append _ _ (int-bytes row.valid_since) (bytes-append _ _ (int-bytes row.valid_until) (long-bytes row.salt))) (rows-bytes rows)

pub item-bytes : (item : Item) → IsSmallItem item → IsBytes (spelling_of item)
item-bytes (RpcResult call content) small = bytes-append _ _ (int-bytes _) (bytes-append _ _ (long-bytes call) (bytes-append content [] small.1.1 bytes-nil))
item-bytes (NewSessionCreated first unique salt) small =
    bytes-append _ _ (int-bytes _) (bytes-append _ _ (long-bytes first) (bytes-append _ _ (long-bytes unique) (bytes-append _ _ (long-bytes salt) bytes-nil)))
item-bytes (BadMsgNotification number seq code) small =
    bytes-append _ _ (int-bytes _) (bytes-append _ _ (long-bytes number) (bytes-append _ _ (int-bytes seq) (bytes-append _ _ (int-bytes code) bytes-nil)))
item-bytes (BadServerSalt number seq code salt) small =
    bytes-append _ _ (int-bytes _) (bytes-append _ _ (long-bytes number) (bytes-append _ _ (int-bytes seq) (bytes-append _ _ (int-bytes code) (bytes-append _ _ (long-bytes salt) bytes-nil))))
item-bytes (MsgsAck numbers) small = bytes-append _ _ (int-bytes _) (bytes-append _ _ (longs-bytes numbers) bytes-nil)
item-bytes (Pong number ping) small = bytes-append _ _ (int-bytes _) (bytes-append _ _ (long-bytes number) (bytes-append _ _ (long-bytes ping) bytes-nil))
item-bytes (FutureSalts number now salts) small =
    bytes-append _ _ (int-bytes _) (bytes-append _ _ (long-bytes number) (bytes-append _ _ (int-bytes now)
    (bytes-append _ _ (bytes-append _ _ (int-bytes (length salts)) (rows-bytes salts)) bytes-nil)))
item-bytes (MsgsStateInfo number info) small =
    bytes-append _ _ (int-bytes _) (bytes-append _ _ (long-bytes number) (bytes-append _ _ (text-bytes info small.0 small.1) bytes-nil))
item-bytes (DestroySessionOk number) small = bytes-append _ _ (int-bytes _) (bytes-append _ _ (long-bytes number) bytes-nil)
item-bytes (DestroySessionNone number) small = bytes-append _ _ (int-bytes _) (bytes-append _ _ (long-bytes number) bytes-nil)
item-bytes _ small = absurd small

pub dropped-bytes : (number seq bytes : ℕ) → IsBytes (spelling_of (RpcAnswerDropped number seq bytes))
dropped-bytes number seq bytes =
    bytes-append _ _ (int-bytes _) (bytes-append _ _ (long-bytes number) (bytes-append _ _ (int-bytes seq) (bytes-append _ _ (int-bytes bytes) bytes-nil)))

-- ---- lengths

both-short : (x y : List ℕ) (a b : ℕ) → length x ≤ a → length y ≤ b → length (x ++ y) ≤ a + b
both-short x y a b h k = omega (arith, length-append x y, h, k)

int-short : (n : ℕ) → length (spelling Int n) ≤ 4
unfolding spelling
int-short n = omega (arith, length-bytes_low_first 0 4 n)

long-short : (n : ℕ) → length (spelling Long n) ≤ 8
unfolding spelling
long-short n = omega (arith, length-bytes_low_first 0 8 n)

head-short : (size : ℕ) → length (head size) ≤ 4
head-short size =
    elim (cases_lt size 254) [
      | inl lt ↦ let test : ltb size 254 ≡ true = lt-ltb _ _ lt in rw test (omega arith)
      | inr le ↦ let test : ltb size 254 ≡ false = le-ltb _ _ le in rw test (omega arith)
    ]

text-short : (content : List ℕ) → length content ≤ 8192 → length (spelling Bytes content) ≤ 8200
unfolding spelling
text-short content few =
    let front = head (length content) in
    let padding : List ℕ = replicate (padding_of (length front + length content)) 0 in
    let at_most : padding_of (length front + length content) ≤ 3 = omega arith in
    omega (arith, few, at_most, head-short (length content), length-append (front ++ content) padding, length-append front content, length-replicate {A = ℕ} (padding_of (length front + length content)) 0)

numbers-length : (numbers : List ℕ) → length (flat_map (little_bytes 8) numbers) ≡ 8 * length numbers
numbers-length [] = refl
numbers-length (number ∷ numbers) =
    let rest = numbers-length numbers in
    omega (arith, rest, length-append (little_bytes 8 number) (flat_map (little_bytes 8) numbers), length-bytes_low_first 0 8 number)

longs-short : (numbers : List ℕ) → length numbers ≤ 8192 → length (spelling Longs numbers) ≤ 65544
unfolding spelling
longs-short numbers few =
    let tag = little_bytes 4 vector in
    let count = little_bytes 4 (length numbers) in
    let items = flat_map (little_bytes 8) numbers in
    let all = numbers-length numbers in
    omega (arith, all, few, length-append (tag ++ count) items, length-append tag count, length-bytes_low_first 0 4 vector, length-bytes_low_first 0 4 (length numbers))

rows-short : (rows : List FutureSalt) → length (flat_map salt_row rows) ≤ 16 * length rows
rows-short [] = omega arith
rows-short (row ∷ rows) =
    let rest = rows-short rows in
    let since = int-short row.valid_since in
    let until = int-short row.valid_until in
    let salt = long-short row.salt in
    let last = both-short (spelling Int row.valid_until) (spelling Long row.salt) 4 8 until salt in
    let first = both-short (spelling Int row.valid_since) (spelling Int row.valid_until ++ spelling Long row.salt) 4 12 since (omega (arith, last)) in
    omega (arith, rest, first, length-append (salt_row row) (flat_map salt_row rows))

-- fields behind a constructor
one-field : (number : ℕ) (one : List ℕ) (most : ℕ) → length one ≤ most → length (spelling Int number ++ (one ++ [])) ≤ 4 + (most + 0)
one-field number one most few = both-short _ _ 4 (most + 0) (int-short number) (both-short one [] most 0 few (omega arith))

pub item-short : (item : Item) → IsSmallItem item → length (spelling_of item) ≤ 1044480
item-short (RpcResult call content) small =
    let content_short = small.1.0.short in
    let rest = both-short (spelling Long call) (content ++ []) 8 262144 (long-short call) (both-short content [] 262144 0 content_short (omega arith)) in
    let all = both-short (spelling Int rpc_result.number) (spelling Long call ++ (content ++ [])) 4 262152 (int-short rpc_result.number) rest in
    omega (arith, all)
item-short (NewSessionCreated first unique salt) small =
    let a = both-short (spelling Long salt) [] 8 0 (long-short salt) (omega arith) in
    let b = both-short (spelling Long unique) (spelling Long salt ++ []) 8 8 (long-short unique) a in
    let d = both-short (spelling Long first) (spelling Long unique ++ (spelling Long salt ++ [])) 8 16 (long-short first) b in
    let all = both-short (spelling Int new_session_created.number) (spelling Long first ++ (spelling Long unique ++ (spelling Long salt ++ []))) 4 24 (int-short new_session_created.number) d in
    omega (arith, all)
item-short (BadMsgNotification number seq code) small =
    let a = both-short (spelling Int code) [] 4 0 (int-short code) (omega arith) in
    let b = both-short (spelling Int seq) (spelling Int code ++ []) 4 4 (int-short seq) a in
    let d = both-short (spelling Long number) (spelling Int seq ++ (spelling Int code ++ [])) 8 8 (long-short number) b in
    let all = both-short (spelling Int bad_msg_notification.number) (spelling Long number ++ (spelling Int seq ++ (spelling Int code ++ []))) 4 16 (int-short bad_msg_notification.number) d in
    omega (arith, all)
item-short (BadServerSalt number seq code salt) small =
    let z = both-short (spelling Long salt) [] 8 0 (long-short salt) (omega arith) in
    let a = both-short (spelling Int code) (spelling Long salt ++ []) 4 8 (int-short code) z in
    let b = both-short (spelling Int seq) (spelling Int code ++ (spelling Long salt ++ [])) 4 12 (int-short seq) a in
    let d = both-short (spelling Long number) (spelling Int seq ++ (spelling Int code ++ (spelling Long salt ++ []))) 8 16 (long-short number) b in
    let all = both-short (spelling Int bad_server_salt.number) (spelling Long number ++ (spelling Int seq ++ (spelling Int code ++ (spelling Long salt ++ [])))) 4 24 (int-short bad_server_salt.number) d in
    omega (arith, all)
item-short (MsgsAck numbers) small = let all = one-field msgs_ack.number (spelling Longs numbers) 65544 (longs-short numbers small) in omega (arith, all)
item-short (Pong number ping) small =
    let a = both-short (spelling Long ping) [] 8 0 (long-short ping) (omega arith) in
    let b = both-short (spelling Long number) (spelling Long ping ++ []) 8 8 (long-short number) a in
    let all = both-short (spelling Int pong.number) (spelling Long number ++ (spelling Long ping ++ [])) 4 16 (int-short pong.number) b in
    omega (arith, all)
item-short (FutureSalts number now salts) small =
    let rows = rows-short salts in
    let rows_few : length (flat_map salt_row salts) ≤ 1024 = omega (arith, rows, small) in
    let z = both-short (spelling Int (length salts)) (flat_map salt_row salts) 4 1024 (int-short (length salts)) rows_few in
    let a = both-short (spelling Int (length salts) ++ flat_map salt_row salts) [] 1028 0 z (omega arith) in
    let b = both-short (spelling Int now) ((spelling Int (length salts) ++ flat_map salt_row salts) ++ []) 4 1028 (int-short now) a in
    let d = both-short (spelling Long number) (spelling Int now ++ ((spelling Int (length salts) ++ flat_map salt_row salts) ++ [])) 8 1032 (long-short number) b in
    let all = both-short (spelling Int future_salts.number) (spelling Long number ++ (spelling Int now ++ ((spelling Int (length salts) ++ flat_map salt_row salts) ++ []))) 4 1040 (int-short future_salts.number) d in
    omega (arith, all)
item-short (MsgsStateInfo number info) small =
    let a = both-short (spelling Bytes info) [] 8200 0 (text-short info small.0) (omega arith) in
    let b = both-short (spelling Long number) (spelling Bytes info ++ []) 8 8200 (long-short number) a in
    let all = both-short (spelling Int msgs_state_info.number) (spelling Long number ++ (spelling Bytes info ++ [])) 4 8208 (int-short msgs_state_info.number) b in
    omega (arith, all)
item-short (DestroySessionOk number) small = let all = one-field destroy_session_ok.number (spelling Long number) 8 (long-short number) in omega (arith, all)
item-short (DestroySessionNone number) small = let all = one-field destroy_session_none.number (spelling Long number) 8 (long-short number) in omega (arith, all)
item-short _ small = absurd small
