-- What the bytes of records and files tell.
use Rattle.std.proofs.Common.{◌≡◌, ◌<◌, ◌+◌, ◌^◌, ◌∙◌, ℕ, List, [], ◌∷◌, ◌++◌, length, take, drop, get_or, arith, sym, ap, ap₂, refl, append_assoc}
use Rattle.std.proofs.lemmas.List.{take_at, drop_at, length-append}
use Rattle.std.proofs.lemmas.List.Elements.{All-head, All-tail}
use Rattle.std.proofs.lemmas.Nat.{from_le_bytes-to_le_bytes_4, from_le_bytes-to_le_bytes_8}
use Rattle.std.specs.Int.{w32, w64, from_le_bytes, to_le_bytes}
use Rattle.std.specs.List.{All}
use Rattle.sess_records.specs.declared.heads.Head.{Head}
use Rattle.sess_records.specs.declared.records.Record.{Record}
use Rattle.sess_records.specs.declared.records.Event.{Event}
use Rattle.sess_records.specs.declared.records.Event.TheVariants.{Packet, Tick, Attach, Begin, Ran, Interrupted}
use Rattle.sess_records.specs.Format.{HasRecord, IsEvent, IsRecord, body_of, kind_of, open_gate, rest_of, size_of, spelt, written}
use Rattle.sess_records.specs.Steps.{head_bytes}
use Rattle.sess_records.proofs.KindLemmas.{size_rest}

-- ---- lists

pub append_split : (a b x y : List ℕ) → length a ≡ length b → a ++ x ≡ b ++ y → (a ≡ b) × (x ≡ y)
append_split a b x y same e =
    let n = length a in
    let front : a ≡ b = sym (take_at a x n refl) ∙ ap (take n) e ∙ take_at b y n (sym same) in
    let back : x ≡ y = sym (drop_at a x n refl) ∙ ap (drop n) e ∙ drop_at b y n (sym same) in
    (front, back)

-- ---- the front of a record

abbrev pub head_for : Record → Head
head_for entry = record { size = length (body_of entry); kind = kind_of entry.event; moment = entry.moment; place = entry.place }

pub length-head_bytes : (head : Head) → length (head_bytes head) ≡ 21
unfolding head_bytes
length-head_bytes head = refl

pub length-body_of : (entry : Record) → length (body_of entry) ≡ 17 + length (rest_of entry.event)
unfolding body_of
length-body_of entry = omega arith

pub spelt_head : (entry : Record) → spelt entry ≡ head_bytes (head_for entry) ++ rest_of entry.event
unfolding spelt body_of head_bytes
spelt_head entry = refl

pub length-spelt : (entry : Record) → length (spelt entry) ≡ 21 + length (rest_of entry.event)
length-spelt entry = ap length (spelt_head entry) ∙ length-append (head_bytes (head_for entry)) (rest_of entry.event) ∙ ap (λ (n : ℕ). n + length (rest_of entry.event)) (length-head_bytes (head_for entry))

pub spelt_size : (entry : Record) → length (spelt entry) + 1 ≡ size_of entry.event
spelt_size entry = omega (arith, length-spelt entry, size_rest entry.event)

-- what makes a record lawful, beside its event
pub lawful_by : (entry : Record) → entry.moment < 2 ^ 64 → entry.place < 2 ^ 64 → IsEvent entry.event → size_of entry.event < 2 ^ 32 → IsRecord entry
lawful_by entry moment place event short = record {
  moment = moment;
  place = place;
  event = event;
  short = omega (arith, short, length-body_of entry, size_rest entry.event);
}

-- the numbers of a front
pub record IsHead (head : Head) : Type 0 where
  pub size : head.size < 2 ^ 32
  pub moment : head.moment < 2 ^ 64
  pub place : head.place < 2 ^ 64

pub record SameHead (one other : Head) : Type 0 where
  pub size : one.size ≡ other.size
  pub kind : one.kind ≡ other.kind
  pub moment : one.moment ≡ other.moment
  pub place : one.place ≡ other.place

same_word : (a b : ℕ) → a < 2 ^ 32 → b < 2 ^ 32 → to_le_bytes w32 a ≡ to_le_bytes w32 b → a ≡ b
same_word a b ha hb e = sym (from_le_bytes-to_le_bytes_4 a ha) ∙ ap (from_le_bytes w32) e ∙ from_le_bytes-to_le_bytes_4 b hb

pub same_long : (a b : ℕ) → a < 2 ^ 64 → b < 2 ^ 64 → to_le_bytes w64 a ≡ to_le_bytes w64 b → a ≡ b
same_long a b ha hb e = sym (from_le_bytes-to_le_bytes_8 a ha) ∙ ap (from_le_bytes w64) e ∙ from_le_bytes-to_le_bytes_8 b hb

pub same_head : (one other : Head) → IsHead one → IsHead other → head_bytes one ≡ head_bytes other → SameHead one other
unfolding head_bytes
same_head one other h k e = record {
  size = same_word one.size other.size h.size k.size (ap (take 4) e);
  kind = ap (λ (l : List ℕ). get_or l 4 0) e;
  moment = same_long one.moment other.moment h.moment k.moment (ap (λ (l : List ℕ). take 8 (drop 5 l)) e);
  place = same_long one.place other.place h.place k.place (ap (λ (l : List ℕ). drop 13 l) e);
}

pub is_head : (entry : Record) → IsRecord entry → IsHead (head_for entry)
is_head entry r = record { size = r.short; moment = r.moment; place = r.place }

-- ---- events

same_event : (a b : Event (List ℕ)) → IsEvent a → IsEvent b → kind_of a ≡ kind_of b → rest_of a ≡ rest_of b → a ≡ b
same_event (Packet a) (Packet b) h k kinds e = ap Packet e
same_event Tick Tick h k kinds e = refl
same_event (Attach a s) (Attach b t) h k kinds e =
    let both = append_split (to_le_bytes w64 a) (to_le_bytes w64 b) (to_le_bytes w64 s) (to_le_bytes w64 t) refl e in
    ap₂ Attach (same_long a b h.0 k.0 both.0) (same_long s t h.1 k.1 both.1)
same_event (Begin a) (Begin b) h k kinds e = ap Begin (same_long a b h k e)
same_event (Ran a) (Ran b) h k kinds e = ap Ran e
same_event Interrupted Interrupted h k kinds e = refl
same_event a b h k kinds e = absurd (omega (arith, kinds))

pub record SameRecord (a b : Record) (x y : List ℕ) : Type 0 where
  pub entry : a ≡ b
  pub rest : x ≡ y

pub same_record : (a b : Record) (x y : List ℕ) → IsRecord a → IsRecord b → spelt a ++ x ≡ spelt b ++ y → SameRecord a b x y
same_record a b x y h k e =
    let one = head_bytes (head_for a) in
    let other = head_bytes (head_for b) in
    let ra = rest_of a.event in
    let rb = rest_of b.event in
    let split : one ++ (ra ++ x) ≡ other ++ (rb ++ y) =
    sym (ap (λ (l : List ℕ). l ++ x) (spelt_head a) ∙ append_assoc one ra x) ∙ e ∙ ap (λ (l : List ℕ). l ++ y) (spelt_head b) ∙ append_assoc other rb y in
    let parts = append_split one other (ra ++ x) (rb ++ y) (length-head_bytes (head_for a) ∙ sym (length-head_bytes (head_for b))) split in
    let head : SameHead (head_for a) (head_for b) = same_head (head_for a) (head_for b) (is_head a h) (is_head b k) parts.0 in
    let long : length ra ≡ length rb = omega (arith, head.size, length-body_of a, length-body_of b) in
    let rests = append_split ra rb x y long parts.1 in
    let event : a.event ≡ b.event = same_event a.event b.event h.event k.event head.kind rests.0 in
    let moment : a.moment ≡ b.moment = head.moment in
    let place : a.place ≡ b.place = head.place in
    record { entry = (λ i. record { moment = moment i; place = place i; event = event i }); rest = rests.1 }

-- ---- lists of records

pub written-append : (entries : List Record) (entry : Record) (rest : List ℕ) → written (entries ++ entry ∷ []) ++ rest ≡ written entries ++ open_gate ∷ (spelt entry ++ rest)
written-append [] entry rest = ap (λ (l : List ℕ). open_gate ∷ l) (append_assoc (spelt entry) [] rest)
written-append (e ∷ entries) entry rest =
    ap (λ (l : List ℕ). open_gate ∷ l)
    (append_assoc (spelt e) (written (entries ++ entry ∷ [])) rest ∙ ap (λ (l : List ℕ). spelt e ++ l) (written-append entries entry rest)
    ∙ sym (append_assoc (spelt e) (written entries) (open_gate ∷ (spelt entry ++ rest))))

pub length-written : (entries : List Record) (entry : Record) → length (written (entries ++ entry ∷ [])) ≡ length (written entries) + (length (spelt entry) + 1)
length-written [] entry = omega (arith, length-append (spelt entry) [])
length-written (e ∷ entries) entry = omega (arith, length-append (spelt e) (written (entries ++ entry ∷ [])), length-append (spelt e) (written entries), length-written entries entry)

-- the records stop here: the gate isn't open, or no record stands behind it
abbrev pub Stops : ℕ → List ℕ → Type 0
Stops gate rest = gate ≡ open_gate → HasRecord rest → ⊥

-- what stands behind a record begins with a gate
pub follows : (entries : List Record) (gate : ℕ) (rest : List ℕ) → (next : ℕ) × (more : List ℕ) × (written entries ++ gate ∷ rest ≡ next ∷ more)
follows [] gate rest = (gate, rest, refl)
follows (e ∷ entries) gate rest = (open_gate, (spelt e ++ written entries) ++ gate ∷ rest, refl)

has_record : (entry : Record) (entries : List Record) (gate : ℕ) (rest bytes : List ℕ) → IsRecord entry → bytes ≡ (spelt entry ++ written entries) ++ gate ∷ rest → HasRecord bytes
has_record entry entries gate rest bytes h e =
    let next = follows entries gate rest in
    record {
      entry = entry;
      gate = next.0;
      rest = next.1;
      lawful = h;
      split = e ∙ append_assoc (spelt entry) (written entries) (gate ∷ rest) ∙ ap (λ (l : List ℕ). spelt entry ++ l) next.2;
    }

pub record SameFile (es bs : List Record) (g h : ℕ) (x y : List ℕ) : Type 0 where
  pub entries : es ≡ bs
  pub gate : g ≡ h
  pub rest : x ≡ y

pub same_file : (es bs : List Record) (g h : ℕ) (x y : List ℕ) → All IsRecord es → All IsRecord bs → Stops g x → Stops h y
    → written es ++ g ∷ x ≡ written bs ++ h ∷ y → SameFile es bs g h x y
same_file [] [] g h x y la lb sg sh e = record { entries = refl; gate = cc e; rest = cc e }
same_file [] (b ∷ bs) g h x y la lb sg sh e =
    let gate : g ≡ open_gate = cc e in
    let rest : x ≡ (spelt b ++ written bs) ++ h ∷ y = cc e in
    absurd (sg gate (has_record b bs h y x (All-head IsRecord b bs lb) rest))
same_file (a ∷ es) [] g h x y la lb sg sh e =
    let gate : h ≡ open_gate = cc e in
    let rest : y ≡ (spelt a ++ written es) ++ g ∷ x = cc e in
    absurd (sh gate (has_record a es g x y (All-head IsRecord a es la) rest))
same_file (a ∷ es) (b ∷ bs) g h x y la lb sg sh e =
    let bodies : (spelt a ++ written es) ++ g ∷ x ≡ (spelt b ++ written bs) ++ h ∷ y = cc e in
    let split : spelt a ++ (written es ++ g ∷ x) ≡ spelt b ++ (written bs ++ h ∷ y) =
    sym (append_assoc (spelt a) (written es) (g ∷ x)) ∙ bodies ∙ append_assoc (spelt b) (written bs) (h ∷ y) in
    let one = same_record a b (written es ++ g ∷ x) (written bs ++ h ∷ y) (All-head IsRecord a es la) (All-head IsRecord b bs lb) split in
    let more = same_file es bs g h x y (All-tail IsRecord a es la) (All-tail IsRecord b bs lb) sg sh one.rest in
    record { entries = ap₂ (λ (z : Record) (l : List Record). z ∷ l) one.entry more.entries; gate = more.gate; rest = more.rest }

-- a list that is followed by a gate stands in front of the whole list
pub in_front : (es bs : List Record) (g h : ℕ) (x y : List ℕ) → All IsRecord es → All IsRecord bs → (h ≡ open_gate → ⊥)
    → written es ++ g ∷ x ≡ written bs ++ h ∷ y → (more : List Record) × (bs ≡ es ++ more)
in_front [] bs g h x y la lb shut e = (bs, refl)
in_front (a ∷ es) [] g h x y la lb shut e = absurd (shut (cc e))
in_front (a ∷ es) (b ∷ bs) g h x y la lb shut e =
    let bodies : (spelt a ++ written es) ++ g ∷ x ≡ (spelt b ++ written bs) ++ h ∷ y = cc e in
    let split : spelt a ++ (written es ++ g ∷ x) ≡ spelt b ++ (written bs ++ h ∷ y) =
    sym (append_assoc (spelt a) (written es) (g ∷ x)) ∙ bodies ∙ append_assoc (spelt b) (written bs) (h ∷ y) in
    let one = same_record a b (written es ++ g ∷ x) (written bs ++ h ∷ y) (All-head IsRecord a es la) (All-head IsRecord b bs lb) split in
    let more = in_front es bs g h x y (All-tail IsRecord a es la) (All-tail IsRecord b bs lb) shut one.rest in
    (more.0, ap₂ (λ (z : Record) (l : List Record). z ∷ l) (sym one.entry) more.1)
