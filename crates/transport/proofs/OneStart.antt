-- The first bytes tell one thing.
use Rattle.std.proofs.Common.{◌≡◌, ℕ, Bool, true, false, List, ◌++◌, length, length-append, take, drop, Option, None, inl, inr, refl, sym, ap, subst, ◌∙◌, arith}
use Rattle.std.specs.Prelude.{◌||◌, nat_eq, if◌then◌else◌}
use Rattle.std.specs.List.{starts_with}
use Rattle.std.proofs.lemmas.List.{take_at, drop_at}
use Rattle.obfus.specs.Starts.{abridged_start, intermediate_start, padded_start, begins_full, begins_plain}
use Rattle.obfus.specs.Reads.{Reads, IsFaultOf}
use Rattle.obfus.specs.declared.fault.ObfusFault.{ObfusFault}
use Rattle.obfus.specs.declared.init.Pair.{Pair}
use Rattle.transport.specs.Starts.{Opening, Starts, StartsPlain, IsAwaited, IsRefused, IsTold, start_of, plain, obfuscated}
use Rattle.transport.specs.declared.form.Form.{Form}
use Rattle.transport.specs.declared.form.Form.TheVariants as forms

-- what the crate below promises
abbrev pub OneRead : Type 0
OneRead = (secret : Option (List ℕ)) (wire : List ℕ) (pair other : Pair) → Reads secret wire pair → Reads secret wire other → pair ≡ other

abbrev pub NotBoth : Type 0
NotBoth = (secret : Option (List ℕ)) (wire : List ℕ) (pair : Pair) (fault : ObfusFault) → Reads secret wire pair → IsFaultOf secret wire fault → ⊥

or_last : (a b : Bool) → b ≡ true → (a || b) ≡ true
or_last true b is = refl
or_last false b is = is

looks : (form : Form) (rest : List ℕ) → IsTold form (start_of form ++ rest) → begins_plain (start_of form ++ rest) ≡ true
looks forms.Abridged rest told = refl
looks forms.Intermediate rest told = refl
looks forms.Padded rest told = refl
looks forms.Full rest told =
    let s : List ℕ → Bool = λ (word : List ℕ). starts_with nat_eq rest word in
    or_last (s abridged_start || s intermediate_start || s padded_start) (begins_full rest) told.numbered

pub plain_looks : (bytes : List ℕ) (opening : Opening) (rest : List ℕ) → StartsPlain bytes opening rest → begins_plain bytes ≡ true
plain_looks bytes opening rest s =
    ap (λ (l : List ℕ). begins_plain l) s.whole ∙ looks s.form rest (subst (λ (l : List ℕ). IsTold s.form l) s.whole s.told)

-- the form that the first bytes name
seen : List ℕ → Form
seen bytes = if starts_with nat_eq bytes abridged_start then forms.Abridged else if starts_with nat_eq bytes intermediate_start then forms.Intermediate else if starts_with nat_eq bytes padded_start then forms.Padded else forms.Full

named : (form : Form) (bytes rest : List ℕ) → bytes ≡ start_of form ++ rest → IsTold form bytes → seen bytes ≡ form
unfolding seen
named forms.Abridged bytes rest whole told = ap seen whole
named forms.Intermediate bytes rest whole told = ap seen whole
named forms.Padded bytes rest whole told = ap seen whole
named forms.Full bytes rest whole told = rw (told.not_abridged, told.not_intermediate, told.not_padded) refl

behind_start : (start rest bytes : List ℕ) → bytes ≡ start ++ rest → drop (length start) bytes ≡ rest
behind_start start rest bytes whole = ap (λ (l : List ℕ). drop (length start) l) whole ∙ drop_at start rest (length start) refl

first_64 : (wire rest bytes : List ℕ) → length wire ≡ 64 → bytes ≡ wire ++ rest → take 64 bytes ≡ wire
first_64 wire rest bytes size whole = ap (λ (l : List ℕ). take 64 l) whole ∙ take_at wire rest 64 size

after_64 : (wire rest bytes : List ℕ) → length wire ≡ 64 → bytes ≡ wire ++ rest → drop 64 bytes ≡ rest
after_64 wire rest bytes size whole = ap (λ (l : List ℕ). drop 64 l) whole ∙ drop_at wire rest 64 size

module _ (read : OneRead) (both : NotBoth) (bytes : List ℕ) where
  pub one_start : (rest more : List ℕ) (one other : Opening) → Starts bytes one rest → Starts bytes other more → (one ≡ other) × (rest ≡ more)
  one_start rest more one other (inl s) (inl t) =
      let form : s.form ≡ t.form = sym (named s.form bytes rest s.whole s.told) ∙ named t.form bytes more t.whole t.told in (
        s.opens ∙ ap plain form ∙ sym t.opens,
        sym (behind_start (start_of s.form) rest bytes s.whole) ∙ ap (λ (f : Form). drop (length (start_of f)) bytes) form
            ∙ behind_start (start_of t.form) more bytes t.whole,
      )
  one_start rest more one other (inl s) (inr t) =
      let no : true ≡ false = sym (plain_looks bytes one rest s) ∙ t.not_plain in
      absurd (cc)
  one_start rest more one other (inr s) (inl t) =
      let no : true ≡ false = sym (plain_looks bytes other more t) ∙ s.not_plain in
      absurd (cc)
  one_start rest more one other (inr s) (inr t) =
      let wire : s.wire ≡ t.wire = sym (first_64 s.wire rest bytes s.size s.whole) ∙ first_64 t.wire more bytes t.size t.whole in
      let pair : s.pair ≡ t.pair = read None t.wire s.pair t.pair (subst (λ (w : List ℕ). Reads None w s.pair) wire s.reads) t.reads in (
        s.opens ∙ ap obfuscated pair ∙ sym t.opens,
        sym (after_64 s.wire rest bytes s.size s.whole) ∙ after_64 t.wire more bytes t.size t.whole,
      )

  pub not_awaited : (rest : List ℕ) (opening : Opening) → Starts bytes opening rest → IsAwaited bytes → ⊥
  not_awaited rest opening (inl s) a =
      let no : true ≡ false = sym (plain_looks bytes opening rest s) ∙ a.not_plain in
      absurd (cc)
  not_awaited rest opening (inr s) a = omega (arith, a.few, ap length s.whole, length-append s.wire rest, s.size)

  pub not_refused : (rest wire : List ℕ) (opening : Opening) → Starts bytes opening rest → IsRefused bytes wire → ⊥
  not_refused rest wire opening (inl s) r =
      let no : true ≡ false = sym (plain_looks bytes opening rest s) ∙ r.not_plain in
      absurd (cc)
  not_refused rest wire opening (inr s) r =
      let same : s.wire ≡ wire = sym (first_64 s.wire rest bytes s.size s.whole) ∙ sym r.first in
      both None wire s.pair r.fault (subst (λ (w : List ℕ). Reads None w s.pair) same s.reads) r.none
