-- Rings, and the keys that lines say.
use Rattle.std.proofs.Common.{◌≡◌, ◌≢◌, ◌∙◌, ℕ, suc, ◌+◌, ◌<◌, ◌≤◌, ◌==◌, List, [], ◌∷◌, ◌++◌, ◌⊎◌, Option, Some, None, length, get_or, All, AllPairs, Contains, inl, inr, ap, sym, refl, subst, arith, append_assoc, append-nil, cond, zero, length-append, set, get_or-set_same, get_or-set_other}
use Rattle.std.proofs.lemmas.List.Elements.{All-cons, All-nil, All-append, All-head, All-tail}
use Rattle.std.proofs.lemmas.List.Quantifiers.{all_pairs_push}
use Rattle.std.proofs.lemmas.List.{get_or_default, get_or_append_left}
use Rattle.std.proofs.Math.Seq.{get_or-append_seam}
use Rattle.std.proofs.lemmas.Bool.{cases_order, cond-true, cond-false, eq-eqb, ne_eqb}
use Rattle.std.proofs.lemmas.Bool.Decides.{eqb_tells}
use Rattle.std.proofs.lemmas.Option.{none-some}
use Rattle.auth_keys.specs.Keys.{IsKey, identifier}
use Rattle.auth_keys.specs.Rings.{IsRing, HaveOtherIdentifiers, entry_of, ring_keys_max}
use Rattle.auth_keys.specs.KeyFile.{AreKeys, IsLeftOut, IsLine, Reaches, Says, lines_of}
use Rattle.auth_keys.specs.declared.ring.RingKey.{RingKey}

-- ---- the keys of lines

-- a line that is left out, after others
pub keys-left_out : (front : List (List ℕ)) (line : List ℕ) (ring : List RingKey) → AreKeys front ring → IsLeftOut line → AreKeys (front ++ line ∷ []) ring
keys-left_out [] line ring h left = inl (left, h)
keys-left_out (first ∷ front) line ring (inl h) left = inl (h.0, keys-left_out front line ring h.1 left)
keys-left_out (first ∷ front) line ring (inr h) left = inr (h.0, h.1, h.2, h.3, keys-left_out front line h.1 h.4 left)

-- a line that says a key, after others
pub keys-said : (front : List (List ℕ)) (line : List ℕ) (ring : List RingKey) (entry : RingKey) → AreKeys front ring → Says line entry → AreKeys (front ++ line ∷ []) (ring ++ entry ∷ [])
keys-said [] line ring entry h says = inr (entry, [], says, ap (λ (r : List RingKey). r ++ entry ∷ []) h, refl)
keys-said (first ∷ front) line ring entry (inl h) says = inl (h.0, keys-said front line ring entry h.1 says)
keys-said (first ∷ front) line ring entry (inr h) says =
    inr (h.0, h.1 ++ entry ∷ [], h.2, ap (λ (r : List RingKey). r ++ entry ∷ []) h.3, keys-said front line h.1 entry h.4 says)

-- ---- lawful rings

-- no two keys of a ring have the same identifier after one more
pub ring-push : (ring : List RingKey) (entry : RingKey) → IsRing ring → length ring < ring_keys_max → IsKey entry.key
    → All (λ other. identifier other.key ≢ identifier entry.key) ring → IsRing (ring ++ entry ∷ [])
ring-push ring entry h room key apart = record {
  count = omega (arith, length-append ring (entry ∷ []), room);
  keys = All-append (λ (e : RingKey). IsKey e.key) ring (entry ∷ []) h.keys (All-cons (λ (e : RingKey). IsKey e.key) entry [] key (All-nil (λ (e : RingKey). IsKey e.key)));
  apart = all_pairs_push HaveOtherIdentifiers ring entry h.apart (λ k d less. apart k d less);
}

-- ---- the key of an identifier

-- the first key with the identifier, where those before it have others
pub entry_of-at : (id : ℕ) (ring : List RingKey) (place : ℕ) (d : RingKey) → place < length ring → identifier (get_or ring place d).key ≡ id
    → ((k : ℕ) → k < place → (e : RingKey) → identifier (get_or ring k e).key ≢ id) → entry_of id ring ≡ Some (get_or ring place d)
entry_of-at id [] place d within same before = absurd (omega arith)
entry_of-at id (entry ∷ ring) zero d within same before = cond-true _ _ _ (eq-eqb _ _ same)
entry_of-at id (entry ∷ ring) (suc place) d within same before =
    cond-false _ _ _ (ne_eqb _ _ (before 0 (omega arith) d)) ∙ entry_of-at id ring place d (omega (arith, within)) same (λ k less e. before (suc k) (omega (arith, less)) e)

-- no key has the identifier
pub entry_of-none : (id : ℕ) (ring : List RingKey) → All (λ entry. identifier entry.key ≢ id) ring → entry_of id ring ≡ None
entry_of-none id [] h = refl
entry_of-none id (entry ∷ ring) h =
    cond-false _ _ _ (ne_eqb _ _ (All-head (λ (e : RingKey). identifier e.key ≢ id) entry ring h)) ∙ entry_of-none id ring (All-tail (λ (e : RingKey). identifier e.key ≢ id) entry ring h)

-- what is found has the identifier, and is in the ring
pub entry_of-found : (id : ℕ) (ring : List RingKey) (entry : RingKey) → entry_of id ring ≡ Some entry → Contains ring entry × (identifier entry.key ≡ id)
entry_of-found id [] entry e = absurd (none-some entry e)
entry_of-found id (first ∷ ring) entry e = elim (eqb_tells (identifier first.key) id) [
  | inl h ↦
      let found : Some first ≡ Some entry = sym (cond-true _ _ _ h.0) ∙ e in
      let same : first ≡ entry = cc in
      ((0, omega arith, same), ap (λ (x : RingKey). identifier x.key) (sym same) ∙ h.1)
  | inr h ↦
      let more = entry_of-found id ring entry (sym (cond-false _ _ _ h.0) ∙ e) in
      ((suc more.0.0, omega (arith, more.0.1), more.0.2), more.1)
]

-- where none is found, no key has the identifier
pub entry_of-absent : (id : ℕ) (ring : List RingKey) → entry_of id ring ≡ None → All (λ entry. identifier entry.key ≢ id) ring
entry_of-absent id [] e = All-nil (λ (x : RingKey). identifier x.key ≢ id)
entry_of-absent id (first ∷ ring) e = elim (eqb_tells (identifier first.key) id) [
  | inl h ↦ absurd (none-some first (sym e ∙ cond-true _ _ _ h.0))
  | inr h ↦ All-cons (λ (x : RingKey). identifier x.key ≢ id) first ring h.1 (entry_of-absent id ring (sym (cond-false _ _ _ h.0) ∙ e))
]

-- a key of a lawful ring is found by its identifier
pub entry_of-only : (ring : List RingKey) (entry : RingKey) → IsRing ring → Contains ring entry → entry_of (identifier entry.key) ring ≡ Some entry
entry_of-only ring entry h within =
    let at = within.2 in
    entry_of-at (identifier entry.key) ring within.0 entry within.1 (ap (λ (x : RingKey). identifier x.key) at)
    (λ k less e same. h.apart k within.0 e less within.1 (same ∙ ap (λ (x : RingKey). identifier x.key) (sym (get_or_default ring within.0 e entry within.1 ∙ at))))
    ∙ ap (λ (x : RingKey). Some x) at

-- ---- the numbers of the keys' lines

-- the line of this number says the key
pub record IsSaidOn (lines : List (List ℕ)) (number : ℕ) (entry : RingKey) : Type 0 where
  pub line : List ℕ
  pub at : IsLine lines number line
  pub says : Says line entry

-- each key is said on the line of its number
abbrev pub AreSaidOn : List (List ℕ) → List ℕ → List RingKey → Type 0
AreSaidOn lines numbers ring = (k : ℕ) (d : RingKey) → k < length ring → IsSaidOn lines (get_or numbers k 0) (get_or ring k d)

-- a line stays where it is when one more follows
said-more : (lines : List (List ℕ)) (number : ℕ) (entry : RingKey) (last : List ℕ) → IsSaidOn lines number entry → IsSaidOn (lines ++ last ∷ []) number entry
said-more lines number entry last h = record {
  line = h.line;
  at = record {
    before = h.at.before;
    after = h.at.after ++ last ∷ [];
    split = ap (λ (l : List (List ℕ)). l ++ last ∷ []) h.at.split ∙ append_assoc h.at.before (h.line ∷ h.at.after) (last ∷ []);
    counted = h.at.counted;
  };
  says = h.says;
}

pub are_said-left_out : (lines : List (List ℕ)) (numbers : List ℕ) (ring : List RingKey) (last : List ℕ) → AreSaidOn lines numbers ring → AreSaidOn (lines ++ last ∷ []) numbers ring
are_said-left_out lines numbers ring last h k d less = said-more lines (get_or numbers k 0) (get_or ring k d) last (h k d less)

-- one more key, said on the last line
pub are_said-more : (lines : List (List ℕ)) (numbers : List ℕ) (ring : List RingKey) (last : List ℕ) (entry : RingKey) (place number : ℕ) → AreSaidOn lines numbers ring → place ≡ length ring → place < length numbers
    → number ≡ length lines + 1 → Says last entry → AreSaidOn (lines ++ last ∷ []) (set numbers place number) (ring ++ entry ∷ [])
are_said-more lines numbers ring last entry place number h end room e says k d less = elim (cases_order k place) [
  | inl at ↦
      let here : IsSaidOn (lines ++ last ∷ []) number entry = record { line = last; at = record { before = lines; after = []; split = refl; counted = e }; says = says } in
      let key : entry ≡ get_or (ring ++ entry ∷ []) k d = sym (ap (λ (n : ℕ). get_or (ring ++ entry ∷ []) n d) (at ∙ end) ∙ get_or-append_seam ring entry [] d) in
      let noted : number ≡ get_or (set numbers place number) k 0 = sym (ap (λ (n : ℕ). get_or (set numbers place number) n 0) at ∙ get_or-set_same numbers place number 0 room) in
      subst (λ (n : ℕ). IsSaidOn (lines ++ last ∷ []) n (get_or (ring ++ entry ∷ []) k d)) noted (subst (λ (x : RingKey). IsSaidOn (lines ++ last ∷ []) number x) key here)
  | inr other ↦ elim other [
    | inl below ↦
        let within : k < length ring = omega (arith, below, end) in
        let before = said-more lines (get_or numbers k 0) (get_or ring k d) last (h k d within) in
        let key : get_or ring k d ≡ get_or (ring ++ entry ∷ []) k d = sym (get_or_append_left ring (entry ∷ []) d k within) in
        let noted : get_or numbers k 0 ≡ get_or (set numbers place number) k 0 = sym (get_or-set_other numbers place k number 0 (λ same. omega (arith, same, below))) in
        subst (λ (n : ℕ). IsSaidOn (lines ++ last ∷ []) n (get_or (ring ++ entry ∷ []) k d)) noted (subst (λ (x : RingKey). IsSaidOn (lines ++ last ∷ []) (get_or numbers k 0) x) key before)
    | inr above ↦ absurd (omega (arith, above, end, less, length-append ring (entry ∷ [])))
  ]
]

-- ---- where the reader stands

-- without a fault the lines of a text are read as far as the first line of what is left
abbrev pub reaches : (text : List ℕ) (front : List (List ℕ)) (line left rest : List ℕ) (number : ℕ) (ring : List RingKey) → lines_of text ≡ front ++ lines_of left → lines_of left ≡ line ∷ lines_of rest
    → number ≡ length front → AreKeys front ring → IsRing ring → Reaches text (number + 1) line ring
reaches text front line left rest number ring split first counted said lawful = record {
  at = record {
    before = front;
    after = lines_of rest;
    split = split ∙ ap (λ (l : List (List ℕ)). front ++ l) first;
    counted = ap (λ (n : ℕ). n + 1) counted;
  };
  said = said;
  lawful = lawful;
}
