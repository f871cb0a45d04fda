-- What the first bytes tell, and what they tell with more behind them.
use Rattle.std.proofs.Common.{◌≡◌, ℕ, ◌≤◌, ◌+◌, Bool, true, false, List, ◌++◌, length, take, drop, append_assoc, length-append, length-drop, inl, inr, None, Some, Option, refl, sym, ap, ap₂, subst, ◌∙◌, arith, append-nil}
use Rattle.std.specs.Prelude.{◌||◌, nat_eq}
use Rattle.std.specs.List.{starts_with}
use Rattle.std.proofs.lemmas.List.{drop_all, take_all, take-append-drop, take_at, drop-append-le, take-append-le}
use Rattle.cipher_modes.specs.CounterMode.{CtrState, advanced}
use Rattle.obfus.specs.Streams.{up_stream, down_stream}
use Rattle.transport.specs.Directions.{behind}
use lib.Pointwise.{pointwise, pointwise_long}
use Rattle.std.specs.Prelude.{replicate}
use Rattle.transport.specs.Starts.{Opening, Starts, IsTold, IsRefused, start_of}
use Rattle.transport.specs.declared.form.Form.{Form}
use Rattle.transport.specs.declared.form.Form.TheVariants as forms
use Rattle.obfus.specs.Starts.{abridged_start, intermediate_start, padded_start, begins_full, begins_plain}

or_none : (a b : Bool) → a ≡ false → b ≡ false → (a || b) ≡ false
or_none true b first last = first
or_none false b first last = last

pub unplain : (bytes : List ℕ) → starts_with nat_eq bytes abridged_start ≡ false → starts_with nat_eq bytes intermediate_start ≡ false
    → starts_with nat_eq bytes padded_start ≡ false → begins_full bytes ≡ false → begins_plain bytes ≡ false
unplain bytes a i p f =
    let s : List ℕ → Bool = λ (word : List ℕ). starts_with nat_eq bytes word in
    or_none (s abridged_start || s intermediate_start || s padded_start) (begins_full bytes)
    (or_none (s abridged_start || s intermediate_start) (s padded_start) (or_none (s abridged_start) (s intermediate_start) a i) p) f

-- nothing is behind 64 bytes
pub all_of : (bytes : List ℕ) → length bytes ≤ 64 → bytes ≡ bytes ++ drop 64 bytes
all_of bytes most = sym (ap (λ (r : List ℕ). bytes ++ r) (drop_all 64 bytes most) ∙ append-nil bytes)

-- what is told of 8 bytes is told of those with more behind them
same_word : (n : ℕ) (word bytes more : List ℕ) → n ≡ length word → n ≤ length bytes
    → starts_with nat_eq (bytes ++ more) word ≡ starts_with nat_eq bytes word
same_word n word bytes more is long =
    ap (λ (l : List ℕ). pointwise nat_eq word l) (take-append-le (length word) bytes more (omega (arith, is, long)))

same_full : (bytes more : List ℕ) → 8 ≤ length bytes → begins_full (bytes ++ more) ≡ begins_full bytes
same_full bytes more long =
    ap (λ (l : List ℕ). starts_with nat_eq l (replicate 4 0)) (drop-append-le 4 bytes more (omega arith))
    ∙ same_word 4 (replicate 4 0) (drop 4 bytes) more refl (omega (arith, length-drop 4 bytes))

pub same_plain : (bytes more : List ℕ) → 8 ≤ length bytes → begins_plain (bytes ++ more) ≡ begins_plain bytes
same_plain bytes more long =
    ap₂ (λ (x y : Bool). x || y)
    (ap₂ (λ (x y : Bool). x || y)
    (ap₂ (λ (x y : Bool). x || y) (same_word 1 abridged_start bytes more refl (omega arith)) (same_word 4 intermediate_start bytes more refl (omega arith)))
    (same_word 4 padded_start bytes more refl (omega arith)))
    (same_full bytes more long)

pub refused_on : (bytes wire more : List ℕ) → length bytes ≤ 64 → IsRefused bytes wire → IsRefused (bytes ++ more) wire
refused_on bytes wire more most r =
    let size : length bytes ≡ 64 = omega (arith, r.enough) in
    record {
      enough = omega (arith, r.enough, length-append bytes more);
      first = r.first ∙ take_all 64 bytes most ∙ sym (take_at bytes more 64 size);
      not_plain = same_plain bytes more (omega arith) ∙ r.not_plain;
      fault = r.fault;
      none = r.none;
    }

full_long : (bytes : List ℕ) → begins_full bytes ≡ true → 8 ≤ length bytes
full_long bytes is =
    let tail : List ℕ = drop 4 bytes in
    let four = pointwise_long nat_eq (replicate 4 0) (take 4 tail) is in
    let whole : length tail ≡ length (take 4 tail) + length (drop 4 tail) =
    sym (ap length (take-append-drop 4 tail)) ∙ length-append (take 4 tail) (drop 4 tail) in
    omega (arith, four, whole, length-drop 4 bytes)

told_on : (form : Form) (bytes more : List ℕ) → IsTold form bytes → IsTold form (bytes ++ more)
told_on forms.Abridged bytes more told = tt
told_on forms.Intermediate bytes more told = tt
told_on forms.Padded bytes more told = tt
told_on forms.Full bytes more told =
    let long = full_long bytes told.numbered in
    record {
      numbered = same_full bytes more long ∙ told.numbered;
      not_abridged = same_word 1 abridged_start bytes more refl (omega arith) ∙ told.not_abridged;
      not_intermediate = same_word 4 intermediate_start bytes more refl (omega arith) ∙ told.not_intermediate;
      not_padded = same_word 4 padded_start bytes more refl (omega arith) ∙ told.not_padded;
    }

-- what is behind a start may be more
pub starts_on : (bytes : List ℕ) (opening : Opening) (rest more : List ℕ) → Starts bytes opening rest → Starts (bytes ++ more) opening (rest ++ more)
starts_on bytes opening rest more (inl s) =
    inl (record {
      form = s.form;
      whole = ap (λ (l : List ℕ). l ++ more) s.whole ∙ append_assoc (start_of s.form) rest more;
      told = told_on s.form bytes more s.told;
      opens = s.opens;
    })
starts_on bytes opening rest more (inr s) =
    inr (record {
      wire = s.wire;
      pair = s.pair;
      size = s.size;
      whole = ap (λ (l : List ℕ). l ++ more) s.whole ∙ append_assoc s.wire rest more;
      not_plain = same_plain bytes more (omega (arith, ap length s.whole, length-append s.wire rest, s.size)) ∙ s.not_plain;
      reads = s.reads;
      opens = s.opens;
    })

pub up_stands : (wire : List ℕ) → advanced (up_stream None wire 64) 0 ≡ up_stream None wire 64
unfolding up_stream
up_stands wire = refl

pub down_stands : (wire : List ℕ) → advanced (down_stream None wire 0) 0 ≡ down_stream None wire 0
unfolding up_stream
down_stands wire = refl

-- no byte went through the streams yet
pub streams_stand : (bytes : List ℕ) (opening : Opening) (rest : List ℕ) → Starts bytes opening rest
    → (behind opening.up 0 ≡ opening.up) × (behind opening.down 0 ≡ opening.down)
streams_stand bytes opening rest (inl s) =
    subst (λ (o : Opening). (behind o.up 0 ≡ o.up) × (behind o.down 0 ≡ o.down)) (sym s.opens) (refl, refl)
streams_stand bytes opening rest (inr s) =
    let stands : CtrState → Type 0 = λ (t : CtrState). advanced t 0 ≡ t in
    let up : advanced s.pair.up 0 ≡ s.pair.up = subst stands (sym s.reads.up) (up_stands s.wire) in
    let down : advanced s.pair.down 0 ≡ s.pair.down = subst stands (sym s.reads.down) (down_stands s.wire) in
    let some : CtrState → Option CtrState = λ (t : CtrState). Some t in
    subst (λ (o : Opening). (behind o.up 0 ≡ o.up) × (behind o.down 0 ≡ o.down)) (sym s.opens) (ap some up, ap some down)
