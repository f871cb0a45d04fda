-- What files spell, and what an opening reads of them.
use Rattle.std.proofs.Common.{◌≡◌, ◌≢◌, ◌≤◌, ◌<◌, ◌+◌, ◌-◌, ◌∙◌, ℕ, List, [], ◌∷◌, ◌++◌, length, take, drop, ◌⊎◌, inl, inr, arith, sym, ap, ap₂, refl, append_assoc}
use Rattle.std.proofs.lemmas.Bool.{cases_eq}
use Rattle.std.proofs.lemmas.List.{take_at, drop_at, drop-drop, take-append-drop, length-append, length-drop, nil_from_length}
use Rattle.std.proofs.lemmas.List.Elements.{All-push}
use Rattle.std.specs.List.{All}
use Rattle.disks.specs.Crash.{synced_at}
use Rattle.disks.specs.Told.{DiskTold}
use Rattle.sess_records.specs.declared.heads.Head.{Head}
use Rattle.sess_records.specs.declared.records.Record.{Record}
use Rattle.sess_records.specs.Format.{HasRecord, IsRecord, Reached, Spells, body_of, kind_of, magic, open_gate, closed_gate, rest_of, spelt, written}
use Rattle.sess_records.specs.Steps.{HasGate, HasNoEvent, StartsWith, head_bytes}
use Rattle.sess_records.specs.Standing.{IsSure, Settled, SpellsOneOf}
use Rattle.sess_records.proofs.FormLemmas.{IsHead, SameHead, head_for, is_head, length-body_of, length-head_bytes, length-written, same_head, spelt_head, written-append}

pub length-magic : length magic ≡ 8
unfolding magic
length-magic = refl

-- what stands before the next gate
abbrev pub front : List ℕ → List Record → List ℕ
front seed entries = magic ++ (seed ++ written entries)

pub length-front : (seed : List ℕ) (entries : List Record) → length seed ≡ 32 → length (front seed entries) ≡ 40 + length (written entries)
length-front seed entries h = omega (arith, length-append magic (seed ++ written entries), length-append seed (written entries), length-magic, h)

pub front_split : (seed : List ℕ) (entries : List Record) (rest : List ℕ) → magic ++ (seed ++ (written entries ++ rest)) ≡ front seed entries ++ rest
front_split seed entries rest =
    sym (append_assoc magic (seed ++ written entries) rest ∙ ap (λ (l : List ℕ). magic ++ l) (append_assoc seed (written entries) rest))

-- a file that was reached, as two parts and the gate between them
pub reached_parts : (seed : List ℕ) (entries : List Record) (gate at : ℕ) (file : List ℕ) → (r : Reached seed entries gate at file) → file ≡ front seed entries ++ gate ∷ r.rest
reached_parts seed entries gate at file r = r.split ∙ front_split seed entries (gate ∷ r.rest)

pub reached_by : (seed : List ℕ) (entries : List Record) (gate at : ℕ) (file rest : List ℕ) → length seed ≡ 32 → All IsRecord entries
    → at ≡ 41 + length (written entries) → file ≡ front seed entries ++ gate ∷ rest → Reached seed entries gate at file
reached_by seed entries gate at file rest h each place e = record {
  seeded = h;
  lawful = each;
  rest = rest;
  split = e ∙ sym (front_split seed entries (gate ∷ rest));
  place = place;
}

-- what is behind the gate
pub reached_rest : (seed : List ℕ) (entries : List Record) (gate at : ℕ) (file : List ℕ) → (r : Reached seed entries gate at file) → drop at file ≡ r.rest
reached_rest seed entries gate at file r =
    let whole : file ≡ (front seed entries ++ gate ∷ []) ++ r.rest = reached_parts seed entries gate at file r ∙ sym (append_assoc (front seed entries) (gate ∷ []) r.rest) in
    let long : length (front seed entries ++ gate ∷ []) ≡ at =
    omega (arith, length-append (front seed entries) (gate ∷ []), length-front seed entries r.seeded, r.place) in
    ap (drop at) whole ∙ drop_at (front seed entries ++ gate ∷ []) r.rest at long

-- ---- one more record

pub reached_more : (seed : List ℕ) (entries : List Record) (at : ℕ) (file : List ℕ) (entry : Record) (gate : ℕ) (rest : List ℕ) (next : ℕ) → IsRecord entry
    → Reached seed entries open_gate at file → drop at file ≡ spelt entry ++ gate ∷ rest → next ≡ at + (length (spelt entry) + 1)
    → Reached seed (entries ++ entry ∷ []) gate next file
reached_more seed entries at file entry gate rest next h r e place = record {
  seeded = r.seeded;
  lawful = All-push IsRecord entries entry r.lawful h;
  rest = rest;
  split =
      let behind : r.rest ≡ spelt entry ++ gate ∷ rest = sym (reached_rest seed entries open_gate at file r) ∙ e in
      let more : written entries ++ open_gate ∷ r.rest ≡ written (entries ++ entry ∷ []) ++ gate ∷ rest =
      ap (λ (l : List ℕ). written entries ++ open_gate ∷ l) behind ∙ sym (written-append entries entry (gate ∷ rest)) in
      r.split ∙ ap (λ (l : List ℕ). magic ++ (seed ++ l)) more;
  place = omega (arith, place, r.place, length-written entries entry);
}

-- ---- what is read of a record

-- two pieces that were read one behind the other
pub pieces : (file head rest : List ℕ) (at count gate : ℕ) → length head ≡ 21 → length rest ≡ count
    → take 21 (drop at file) ≡ head → take (count + 1) (drop (at + 21) file) ≡ rest ++ gate ∷ []
    → drop at file ≡ head ++ (rest ++ gate ∷ drop (at + 21 + (count + 1)) file)
pieces file head rest at count gate hl rl h r =
    let behind : drop 21 (drop at file) ≡ drop (at + 21) file = drop-drop 21 at file in
    let last : drop (count + 1) (drop (at + 21) file) ≡ drop (at + 21 + (count + 1)) file = drop-drop (count + 1) (at + 21) file in
    let tail : drop (at + 21) file ≡ (rest ++ gate ∷ []) ++ drop (at + 21 + (count + 1)) file =
    sym (take-append-drop (count + 1) (drop (at + 21) file)) ∙ ap₂ (λ (a b : List ℕ). a ++ b) r last in
    sym (take-append-drop 21 (drop at file)) ∙ ap₂ (λ (a b : List ℕ). a ++ b) h (behind ∙ tail)
    ∙ ap (λ (l : List ℕ). head ++ l) (append_assoc rest (gate ∷ []) (drop (at + 21 + (count + 1)) file))

-- the record that two pieces are
pub spelt_pieces : (head : Head) (entry : Record) → head.size ≡ 17 + length (rest_of entry.event) → kind_of entry.event ≡ head.kind → entry.moment ≡ head.moment → entry.place ≡ head.place
    → spelt entry ≡ head_bytes head ++ rest_of entry.event
spelt_pieces head entry size kind moment place =
    let same : head_for entry ≡ head =
    let s : length (body_of entry) ≡ head.size = length-body_of entry ∙ sym size in
    (λ i. record { size = s i; kind = kind i; moment = moment i; place = place i }) in
    spelt_head entry ∙ ap (λ (h : Head). head_bytes h ++ rest_of entry.event) same

pub spelt_by : (head : Head) (entry : Record) (rest : List ℕ) → rest_of entry.event ≡ rest → head.size ≡ length rest + 17 → kind_of entry.event ≡ head.kind
    → entry.moment ≡ head.moment → entry.place ≡ head.place → spelt entry ≡ head_bytes head ++ rest
spelt_by head entry rest is size kind moment place =
    spelt_pieces head entry (omega (arith, size, ap length is)) kind moment place ∙ ap (λ (l : List ℕ). head_bytes head ++ l) is

-- the front of a record that stands at the front of a text
pub has_head : (bytes : List ℕ) → (r : HasRecord bytes) → bytes ≡ head_bytes (head_for r.entry) ++ (rest_of r.entry.event ++ r.gate ∷ r.rest)
has_head bytes r = r.split ∙ ap (λ (l : List ℕ). l ++ r.gate ∷ r.rest) (spelt_head r.entry) ∙ append_assoc (head_bytes (head_for r.entry)) (rest_of r.entry.event) (r.gate ∷ r.rest)

-- a record has 22 bytes at least
pub has_length : (bytes : List ℕ) → (r : HasRecord bytes) → 22 + length (rest_of r.entry.event) ≤ length bytes
has_length bytes r =
    omega (
      arith,
      ap length (has_head bytes r),
      length-append (head_bytes (head_for r.entry)) (rest_of r.entry.event ++ r.gate ∷ r.rest),
      length-append (rest_of r.entry.event) (r.gate ∷ r.rest),
      length-head_bytes (head_for r.entry),
    )

-- its front is the one that was read
pub the_head : (bytes : List ℕ) (head : Head) → (r : HasRecord bytes) → IsHead head → take 21 bytes ≡ head_bytes head → SameHead head (head_for r.entry)
the_head bytes head r h e =
    let front : take 21 bytes ≡ head_bytes (head_for r.entry) =
    ap (take 21) (has_head bytes r) ∙ take_at (head_bytes (head_for r.entry)) (rest_of r.entry.event ++ r.gate ∷ r.rest) 21 (length-head_bytes (head_for r.entry)) in
    same_head head (head_for r.entry) h (is_head r.entry r.lawful) (sym e ∙ front)

-- no record is that short
pub too_short : (file : List ℕ) (at len : ℕ) → len ≡ length file → at ≤ len → len - at ≤ 21 → HasRecord (drop at file) → ⊥
too_short file at len whole inside short r = omega (arith, has_length (drop at file) r, length-drop at file, whole, inside, short)

-- nor is one whose length field says less, or more than there is
pub unfit : (file : List ℕ) (at len : ℕ) (head : Head) → len ≡ length file → at ≤ len → IsHead head → take 21 (drop at file) ≡ head_bytes head
    → (head.size < 17) ⊎ (len - at ≤ head.size + 4) → HasRecord (drop at file) → ⊥
unfit file at len head whole inside h e (inl low) r =
    let same = the_head (drop at file) head r h e in
    omega (arith, same.size, length-body_of r.entry, low)
unfit file at len head whole inside h e (inr high) r =
    let same = the_head (drop at file) head r h e in
    omega (arith, same.size, length-body_of r.entry, high, has_length (drop at file) r, length-drop at file, whole, inside)

-- nor is one whose kind has no event of so many bytes
pub unfit_kind : (bytes : List ℕ) (head : Head) (count : ℕ) → IsHead head → head.size ≡ 17 + count → take 21 bytes ≡ head_bytes head → HasNoEvent head.kind count
    → HasRecord bytes → ⊥
unfit_kind bytes head count h size e none r =
    let same = the_head bytes head r h e in
    none (rest_of r.entry.event) (omega (arith, size, same.size, length-body_of r.entry)) r.entry.event r.lawful.event same.kind refl

-- ---- crashes

-- a closed gate behind the records, whatever is behind it
pub spells_by : (seed : List ℕ) (entries : List Record) (gate : ℕ) (rest left : List ℕ) → length seed ≡ 32 → All IsRecord entries → gate ≢ open_gate
    → left ≡ front seed entries ++ gate ∷ rest → Spells seed entries left
spells_by seed entries gate rest left h each shut e = record {
  gate = gate;
  at = 41 + length (written entries);
  reached = reached_by seed entries gate (41 + length (written entries)) left rest h each refl e;
  closed = shut;
}

-- the front of a file with its closed gate
pub spells_front : (seed : List ℕ) (entries : List Record) (gate : ℕ) (left : List ℕ) → length seed ≡ 32 → All IsRecord entries → gate ≢ open_gate
    → StartsWith (front seed entries ++ gate ∷ []) left → Spells seed entries left
spells_front seed entries gate left h each shut s = spells_by seed entries gate s.0 left h each shut (s.1 ∙ append_assoc (front seed entries) (gate ∷ []) s.0)

-- the file behind one more record
pub front_more : (seed : List ℕ) (entries : List Record) (entry : Record) (gate : ℕ) (rest : List ℕ)
    → front seed entries ++ open_gate ∷ (spelt entry ++ gate ∷ rest) ≡ front seed (entries ++ entry ∷ []) ++ gate ∷ rest
front_more seed entries entry gate rest =
    sym (front_split seed entries (open_gate ∷ (spelt entry ++ gate ∷ rest)))
    ∙ ap (λ (l : List ℕ). magic ++ (seed ++ l)) (sym (written-append entries entry (gate ∷ rest)))
    ∙ front_split seed (entries ++ entry ∷ []) (gate ∷ rest)

-- a record behind any gate counts or it doesn't
pub spells_gate : (seed : List ℕ) (entries : List Record) (entry : Record) (left : List ℕ) → length seed ≡ 32 → All IsRecord entries → IsRecord entry
    → HasGate (front seed entries) (spelt entry ++ closed_gate ∷ []) left → SpellsOneOf seed entries entry left
spells_gate seed entries entry left h each lawful g = elim (cases_eq g.0 open_gate) [
  | inl is ↦ inr (spells_by seed (entries ++ entry ∷ []) closed_gate [] left h (All-push IsRecord entries entry each lawful) (λ e. omega (arith, e))
      (g.1 ∙ ap (λ (x : ℕ). front seed entries ++ x ∷ (spelt entry ++ closed_gate ∷ [])) is ∙ front_more seed entries entry closed_gate []))
  | inr shut ↦ inl (spells_by seed entries g.0 (spelt entry ++ closed_gate ∷ []) left h each shut g.1)
]

-- nothing stands behind the gate of a settled file
pub settled_parts : (seed : List ℕ) (entries : List Record) (len : ℕ) (told : DiskTold) → (s : Settled seed entries len told) → told.contents ≡ front seed entries ++ s.gate ∷ []
settled_parts seed entries len told s =
    let parts = reached_parts seed entries s.gate len told.contents s.reached in
    let none : s.reached.rest ≡ [] = nil_from_length s.reached.rest
    (omega (arith, ap length parts, length-append (front seed entries) (s.gate ∷ s.reached.rest), length-front seed entries s.reached.seeded, s.reached.place, s.whole)) in
    parts ∙ ap (λ (l : List ℕ). front seed entries ++ s.gate ∷ l) none

pub settled_sure : (seed : List ℕ) (entries : List Record) (len : ℕ) (told : DiskTold) → (s : Settled seed entries len told) → IsSure (front seed entries ++ s.gate ∷ []) told
settled_sure seed entries len told s = record {
  contents = settled_parts seed entries len told s;
  sure = s.sure ∙ ap synced_at (settled_parts seed entries len told s);
}

-- a file of records and a closed gate, of which a disk is sure
pub settled_by : (seed : List ℕ) (entries : List Record) (gate len : ℕ) (told : DiskTold) → length seed ≡ 32 → All IsRecord entries → gate ≢ open_gate
    → len ≡ 41 + length (written entries) → IsSure (front seed entries ++ gate ∷ []) told → Settled seed entries len told
settled_by seed entries gate len told h each shut place s = record {
  gate = gate;
  reached = reached_by seed entries gate len told.contents [] h each place s.contents;
  closed = shut;
  whole = omega (arith, ap length s.contents, length-append (front seed entries) (gate ∷ []), length-front seed entries h, place);
  sure = s.sure ∙ ap synced_at (sym s.contents);
}
