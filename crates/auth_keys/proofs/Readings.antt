-- A text has one reading.
use Rattle.std.proofs.Common.{◌≡◌, ◌≢◌, ◌∙◌, ℕ, zero, suc, ◌+◌, ◌<◌, ◌≤◌, List, [], ◌∷◌, ◌++◌, ◌⊎◌, length, get_or, AllPairs, inl, inr, ap, sym, refl, subst, arith, append_assoc, length-append}
use Rattle.std.proofs.Math.Seq.{get_or-append_seam}
use Rattle.std.proofs.lemmas.List.{get_or-append-add}
use Rattle.std.proofs.lemmas.Bool.{cases_order}
use Rattle.auth_keys.specs.Keys.{identifier}
use Rattle.auth_keys.specs.Rings.{IsRing, HaveOtherIdentifiers, ring_keys_max}
use Rattle.auth_keys.specs.KeyFile.{AreKeys, HasBadLine, HasSameId, HasTooMany, IsBad, IsFaultOf, IsLeftOut, IsLine, IsRingOf, Reaches, Says, lines_of}
use Rattle.auth_keys.specs.declared.fault.KeyFault.{KeyFault}
use Rattle.auth_keys.specs.declared.fault.KeyFault.TheVariants.{BadLine, TooMany, SameId, Memory}
use Rattle.auth_keys.specs.declared.ring.RingKey.{RingKey}
use Rattle.auth_keys.proofs.WordLemmas.{said-not_left_out, says-one}

-- ---- the keys of lines

-- lines say one list of keys
pub keys-one : (lines : List (List ℕ)) (ring other : List RingKey) → AreKeys lines ring → AreKeys lines other → ring ≡ other
keys-one [] ring other h k = h ∙ sym k
keys-one (line ∷ lines) ring other (inl h) (inl k) = keys-one lines ring other h.1 k.1
keys-one (line ∷ lines) ring other (inl h) (inr k) = absurd (said-not_left_out line k.0 k.2 h.0)
keys-one (line ∷ lines) ring other (inr h) (inl k) = absurd (said-not_left_out line h.0 h.2 k.0)
keys-one (line ∷ lines) ring other (inr h) (inr k) =
    h.3 ∙ (ap (λ (entry : RingKey). entry ∷ h.1) (says-one line h.0 k.0 h.2 k.2) ∙ (ap (λ (rest : List RingKey). k.0 ∷ rest) (keys-one lines h.1 k.1 h.4 k.4) ∙ sym k.3))

-- the keys of lines before others, and those of the others
record Parted (front back : List (List ℕ)) (ring : List RingKey) : Type 0 where
  first : List RingKey
  last : List RingKey
  split : ring ≡ first ++ last
  said_first : AreKeys front first
  said_last : AreKeys back last

keys-parted : (front back : List (List ℕ)) (ring : List RingKey) → AreKeys (front ++ back) ring → Parted front back ring
keys-parted [] back ring h = record { first = []; last = ring; split = refl; said_first = refl; said_last = h }
keys-parted (line ∷ front) back ring (inl h) =
    let more = keys-parted front back ring h.1 in
    record { first = more.first; last = more.last; split = more.split; said_first = inl (h.0, more.said_first); said_last = more.said_last }
keys-parted (line ∷ front) back ring (inr h) =
    let more = keys-parted front back h.1 h.4 in
    record {
      first = h.0 ∷ more.first;
      last = more.last;
      split = h.3 ∙ ap (λ (r : List RingKey). h.0 ∷ r) more.split;
      said_first = inr (h.0, more.first, h.2, refl, more.said_first);
      said_last = more.said_last;
    }

-- the keys before that of a line, and those after it
record Round (front after : List (List ℕ)) (entry : RingKey) (ring : List RingKey) : Type 0 where
  first : List RingKey
  last : List RingKey
  split : ring ≡ first ++ entry ∷ last
  said_first : AreKeys front first
  said_last : AreKeys after last

first_said : (line : List ℕ) (after : List (List ℕ)) (entry : RingKey) (last : List RingKey) → AreKeys (line ∷ after) last → Says line entry → (rest : List RingKey) × (last ≡ entry ∷ rest) × AreKeys after rest
first_said line after entry last (inl h) says = absurd (said-not_left_out line entry says h.0)
first_said line after entry last (inr h) says = (h.1, h.3 ∙ ap (λ (e : RingKey). e ∷ h.1) (says-one line h.0 entry h.2 says), h.4)

keys-round : (front : List (List ℕ)) (line : List ℕ) (after : List (List ℕ)) (entry : RingKey) (ring : List RingKey) → AreKeys (front ++ line ∷ after) ring → Says line entry → Round front after entry ring
keys-round front line after entry ring h says =
    let parts = keys-parted front (line ∷ after) ring h in
    let rest = first_said line after entry parts.last parts.said_last says in
    record { first = parts.first; last = rest.0; split = parts.split ∙ ap (λ (r : List RingKey). parts.first ++ r) rest.1; said_first = parts.said_first; said_last = rest.2 }

-- two keys of a list whose members have different identifiers
apart-at : (first middle last : List RingKey) (a b : RingKey) → AllPairs HaveOtherIdentifiers (first ++ a ∷ (middle ++ b ∷ last)) → HaveOtherIdentifiers a b
apart-at first middle last a b h =
    let ring : List RingKey = first ++ a ∷ (middle ++ b ∷ last) in
    let at : get_or ring (length first) a ≡ a = get_or-append_seam first a (middle ++ b ∷ last) a in
    let behind : get_or ring (length first + suc (length middle)) a ≡ b =
    get_or-append-add first (a ∷ (middle ++ b ∷ last)) (suc (length middle)) a ∙ get_or-append_seam middle b last a in
    let within : length first + suc (length middle) < length ring =
    omega (arith, length-append first (a ∷ (middle ++ b ∷ last)), length-append middle (b ∷ last)) in
    λ same. h (length first) (length first + suc (length middle)) a (omega arith) within
    (ap (λ (e : RingKey). identifier e.key) at ∙ (same ∙ ap (λ (e : RingKey). identifier e.key) (sym behind)))

-- ---- a line with a fault is the last that is read

-- a line before says a key with the same identifier
abbrev SaidBefore : List (List ℕ) → RingKey → Type 0
SaidBefore before entry = (number : ℕ) × (line : List ℕ) × (other : RingKey) × IsLine before number line × Says line other × (identifier other.key ≡ identifier entry.key)

abbrev IsFaulty : List (List ℕ) → List RingKey → List ℕ → Type 0
IsFaulty before ring line =
    IsBad line ⊎ ((entry : RingKey) × Says line entry × ((length ring ≡ ring_keys_max) ⊎ SaidBefore before entry))

bad-not_said : (line : List ℕ) (after : List (List ℕ)) (last : List RingKey) → IsBad line → AreKeys (line ∷ after) last → ⊥
bad-not_said line after last bad (inl h) = bad.0 h.0
bad-not_said line after last bad (inr h) = bad.1 h.0 h.2

full-not_passed : (before after : List (List ℕ)) (line : List ℕ) (ring whole : List RingKey) (entry : RingKey) → AreKeys before ring → Says line entry → length ring ≡ ring_keys_max → AreKeys (before ++ line ∷ after) whole → IsRing whole → ⊥
full-not_passed before after line ring whole entry h says full said lawful =
    let round = keys-round before line after entry whole said says in
    let same : length round.first ≡ length ring = ap length (keys-one before round.first ring round.said_first h) in
    let total : length whole ≡ length round.first + length (entry ∷ round.last) = ap length round.split ∙ length-append round.first (entry ∷ round.last) in
    omega (arith, total, same, full, lawful.count)

-- two lines say no keys with the same identifier
same-not_passed : (front middle after : List (List ℕ)) (earlier line : List ℕ) (whole : List RingKey) (other entry : RingKey) → Says earlier other → Says line entry → identifier other.key ≡ identifier entry.key
    → AreKeys ((front ++ earlier ∷ middle) ++ line ∷ after) whole → IsRing whole → ⊥
same-not_passed front middle after earlier line whole other entry says_first says same said lawful =
    let first = keys-round front earlier (middle ++ line ∷ after) other whole (subst (λ (lines : List (List ℕ)). AreKeys lines whole) (append_assoc front (earlier ∷ middle) (line ∷ after)) said) says_first in
    let second = keys-round middle line after entry first.last first.said_last says in
    let split : whole ≡ first.first ++ other ∷ (second.first ++ entry ∷ second.last) = first.split ∙ ap (λ (r : List RingKey). first.first ++ other ∷ r) second.split in
    apart-at first.first second.first second.last other entry (subst (λ (r : List RingKey). AllPairs HaveOtherIdentifiers r) split lawful.apart) same

-- lines that say a ring have no line with a fault
not_passed : (before after : List (List ℕ)) (line : List ℕ) (ring whole : List RingKey) → AreKeys before ring → IsFaulty before ring line → AreKeys (before ++ line ∷ after) whole → IsRing whole → ⊥
not_passed before after line ring whole h (inl bad) said lawful =
    let parts = keys-parted before (line ∷ after) whole said in bad-not_said line after parts.last bad parts.said_last
not_passed before after line ring whole h (inr f) said lawful = elim f.2 [
  | inl full ↦ full-not_passed before after line ring whole f.0 h f.1 full said lawful
  | inr e ↦ same-not_passed e.3.before e.3.after after e.1 line whole e.2 f.0 e.4 f.1 e.5 (subst (λ (b : List (List ℕ)). AreKeys (b ++ line ∷ after) whole) e.3.split said) lawful
]

-- ---- places of lines

-- of two lines of a text the one with the smaller number stands before the other
stands_before : (p q : List (List ℕ)) (x y : List ℕ) (s t : List (List ℕ)) → p ++ x ∷ s ≡ q ++ y ∷ t → length p < length q → (g : List (List ℕ)) × (q ≡ p ++ x ∷ g)
stands_before [] [] x y s t e less = absurd (omega (arith, less))
stands_before [] (z ∷ q) x y s t e less = let same : z ≡ x = cc in (q, ap (λ (n : List ℕ). n ∷ q) same)
stands_before (w ∷ p) [] x y s t e less = absurd (omega (arith, less))
stands_before (w ∷ p) (z ∷ q) x y s t e less =
    let rest : p ++ x ∷ s ≡ q ++ y ∷ t = cc in
    let first : z ≡ w = cc in
    let more = stands_before p q x y s t rest (omega (arith, less)) in
    (more.0, ap (λ (l : List (List ℕ)). z ∷ l) more.1 ∙ ap (λ (n : List ℕ). n ∷ (p ++ x ∷ more.0)) first)

-- two lines of the same number are one, and the same lines stand before it
same_place : (p q : List (List ℕ)) (x y : List ℕ) (s t : List (List ℕ)) → p ++ x ∷ s ≡ q ++ y ∷ t → length p ≡ length q → (p ≡ q) × (x ≡ y)
same_place [] [] x y s t e same = (refl, cc)
same_place [] (z ∷ q) x y s t e same = absurd (omega (arith, same))
same_place (w ∷ p) [] x y s t e same = absurd (omega (arith, same))
same_place (w ∷ p) (z ∷ q) x y s t e same =
    let rest : p ++ x ∷ s ≡ q ++ y ∷ t = cc in
    let first : w ≡ z = cc in
    let more = same_place p q x y s t rest (omega (arith, same)) in
    (ap (λ (n : List ℕ). n ∷ p) first ∙ ap (λ (l : List (List ℕ)). z ∷ l) more.0, more.1)

-- ---- where a text stops

-- a text has a fault on the line of this number
record Stops (text : List ℕ) (number : ℕ) : Type 0 where
  line : List ℕ
  ring : List RingKey
  reached : Reaches text number line ring
  faulty : IsFaulty reached.at.before ring line

stops-bad : (text : List ℕ) (number : ℕ) → HasBadLine text number → Stops text number
stops-bad text number h = record { line = h.line; ring = h.ring; reached = h.reached; faulty = inl h.bad }

stops-full : (text : List ℕ) (number : ℕ) → HasTooMany text number → Stops text number
stops-full text number h = record { line = h.line; ring = h.ring; reached = h.reached; faulty = inr (h.entry, h.says, inl h.full) }

stops-same : (text : List ℕ) (number first : ℕ) → HasSameId text number first → Stops text number
stops-same text number first h = record {
  line = h.line;
  ring = h.ring;
  reached = h.reached;
  faulty = inr (h.entry, h.says, inr (first, h.first_line, h.first_entry, h.at_first, h.first_says, h.same));
}

-- no line with a fault stands before another that is reached
not_reached : (text : List ℕ) (m n : ℕ) (line : List ℕ) (ring : List RingKey) → Stops text m → Reaches text n line ring → m < n → ⊥
not_reached text m n line ring h k less =
    let one = h.reached.at in
    let other = k.at in
    let before = stands_before one.before other.before h.line line one.after other.after (sym one.split ∙ other.split) (omega (arith, one.counted, other.counted, less)) in
    not_passed one.before before.0 h.line h.ring ring h.reached.said h.faulty (subst (λ (lines : List (List ℕ)). AreKeys lines ring) before.1 k.said) k.lawful

-- a text stops on one line
one_stop : (text : List ℕ) (m n : ℕ) → Stops text m → Stops text n → m ≡ n
one_stop text m n h k = elim (cases_order m n) [
  | inl same ↦ same
  | inr other ↦ elim other [
    | inl less ↦ absurd (not_reached text m n k.line k.ring h k.reached less)
    | inr less ↦ absurd (not_reached text n m h.line h.ring k h.reached less)
  ]
]

-- what is reached at a number is one line after the same lines, and the same keys
record Same {text : List ℕ} {m n : ℕ} {line other : List ℕ} {ring rest : List RingKey} (h : Reaches text m line ring) (k : Reaches text n other rest) : Type 0 where
  same_before : h.at.before ≡ k.at.before
  same_line : line ≡ other
  same_ring : ring ≡ rest

same_reach : (text : List ℕ) (m n : ℕ) (line other : List ℕ) (ring rest : List RingKey) (h : Reaches text m line ring) (k : Reaches text n other rest) → m ≡ n → Same h k
same_reach text m n line other ring rest h k e =
    let place = same_place h.at.before k.at.before line other h.at.after k.at.after (sym h.at.split ∙ k.at.split) (omega (arith, h.at.counted, k.at.counted, e)) in
    record {
      same_before = place.0;
      same_line = place.1;
      same_ring = keys-one k.at.before ring rest (subst (λ (lines : List (List ℕ)). AreKeys lines ring) place.0 h.said) k.said;
    }

-- ---- one fault

bad-or-said : (text : List ℕ) (m n : ℕ) (line : List ℕ) (ring : List RingKey) (entry : RingKey) → HasBadLine text m → Reaches text n line ring → Says line entry → m ≡ n → ⊥
bad-or-said text m n line ring entry h k says e =
    let same = same_reach text m n h.line line h.ring ring h.reached k e in
    h.bad.1 entry (subst (λ (l : List ℕ). Says l entry) (sym same.same_line) says)

full-or-room : (text : List ℕ) (m n first : ℕ) → HasTooMany text m → HasSameId text n first → m ≡ n → ⊥
full-or-room text m n first h k e =
    let same = same_reach text m n h.line k.line h.ring k.ring h.reached k.reached e in
    omega (arith, h.full, k.room, ap length same.same_ring)

-- the earlier of two lines with the same identifier as a later one isn't another
not_earlier : (before : List (List ℕ)) (ring : List RingKey) (m n : ℕ) (line other : List ℕ) (one two : RingKey) → AreKeys before ring → IsRing ring → IsLine before m line → IsLine before n other
    → Says line one → Says other two → identifier one.key ≡ identifier two.key → m < n → ⊥
not_earlier before ring m n line other one two said lawful h k says_one says_two same less =
    let g = stands_before h.before k.before line other h.after k.after (sym h.split ∙ k.split) (omega (arith, h.counted, k.counted, less)) in
    same-not_passed h.before g.0 k.after line other ring one two says_one says_two same
    (subst (λ (b : List (List ℕ)). AreKeys (b ++ other ∷ k.after) ring) g.1 (subst (λ (lines : List (List ℕ)). AreKeys lines ring) k.split said)) lawful

first-one : (text : List ℕ) (m n first second : ℕ) → HasSameId text m first → HasSameId text n second → m ≡ n → first ≡ second
first-one text m n first second h k e =
    let same = same_reach text m n h.line k.line h.ring k.ring h.reached k.reached e in
    let entry = says-one k.line h.entry k.entry (subst (λ (l : List ℕ). Says l h.entry) same.same_line h.says) k.says in
    let at : IsLine k.reached.at.before first h.first_line = subst (λ (b : List (List ℕ)). IsLine b first h.first_line) same.same_before h.at_first in
    let ids : identifier h.first_entry.key ≡ identifier k.first_entry.key = h.same ∙ (ap (λ (x : RingKey). identifier x.key) entry ∙ sym k.same) in
    elim (cases_order first second) [
      | inl one ↦ one
      | inr other ↦ elim other [
        | inl less ↦ absurd (not_earlier k.reached.at.before k.ring first second h.first_line k.first_line h.first_entry k.first_entry k.reached.said k.reached.lawful at k.at_first h.first_says k.first_says ids less)
        | inr less ↦ absurd (not_earlier k.reached.at.before k.ring second first k.first_line h.first_line k.first_entry h.first_entry k.reached.said k.reached.lawful k.at_first at k.first_says h.first_says (sym ids) less)
      ]
    ]

pub fault-one : (text : List ℕ) (fault other : KeyFault) → fault ≢ Memory → other ≢ Memory → IsFaultOf text fault → IsFaultOf text other → fault ≡ other
fault-one text (BadLine m) (BadLine n) f g h k = ap BadLine (one_stop text m n (stops-bad text m h) (stops-bad text n k))
fault-one text (BadLine m) (TooMany n) f g h k = absurd (bad-or-said text m n k.line k.ring k.entry h k.reached k.says (one_stop text m n (stops-bad text m h) (stops-full text n k)))
fault-one text (BadLine m) (SameId n first) f g h k = absurd (bad-or-said text m n k.line k.ring k.entry h k.reached k.says (one_stop text m n (stops-bad text m h) (stops-same text n first k)))
fault-one text (TooMany m) (BadLine n) f g h k = absurd (bad-or-said text n m h.line h.ring h.entry k h.reached h.says (one_stop text n m (stops-bad text n k) (stops-full text m h)))
fault-one text (TooMany m) (TooMany n) f g h k = ap TooMany (one_stop text m n (stops-full text m h) (stops-full text n k))
fault-one text (TooMany m) (SameId n first) f g h k = absurd (full-or-room text m n first h k (one_stop text m n (stops-full text m h) (stops-same text n first k)))
fault-one text (SameId m first) (BadLine n) f g h k = absurd (bad-or-said text n m h.line h.ring h.entry k h.reached h.says (one_stop text n m (stops-bad text n k) (stops-same text m first h)))
fault-one text (SameId m first) (TooMany n) f g h k = absurd (full-or-room text n m first k h (one_stop text n m (stops-full text n k) (stops-same text m first h)))
fault-one text (SameId m first) (SameId n second) f g h k =
    let line = one_stop text m n (stops-same text m first h) (stops-same text n second k) in
    ap (λ (l : ℕ). SameId l first) line ∙ ap (SameId n) (first-one text m n first second h k line)
fault-one text Memory other f g h k = absurd (f refl)
fault-one text fault Memory f g h k = absurd (g refl)

-- ---- a ring or a fault

ring-no_stop : (text : List ℕ) (ring : List RingKey) (number : ℕ) → IsRingOf text ring → Stops text number → ⊥
ring-no_stop text ring number h k =
    let at = k.reached.at in
    not_passed at.before at.after k.line k.ring ring k.reached.said k.faulty (subst (λ (lines : List (List ℕ)). AreKeys lines ring) at.split h.0) h.1

pub ring-no_fault : (text : List ℕ) (ring : List RingKey) (fault : KeyFault) → IsRingOf text ring → IsFaultOf text fault → fault ≡ Memory
ring-no_fault text ring (BadLine n) h k = absurd (ring-no_stop text ring n h (stops-bad text n k))
ring-no_fault text ring (TooMany n) h k = absurd (ring-no_stop text ring n h (stops-full text n k))
ring-no_fault text ring (SameId n first) h k = absurd (ring-no_stop text ring n h (stops-same text n first k))
ring-no_fault text ring Memory h k = refl
