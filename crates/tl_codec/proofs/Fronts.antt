-- What stands at the front of a text is what `Reads` allows there.
use Rattle.std.proofs.Common.{◌≡◌, ◌≢◌, ℕ, ◌≤◌, inl, inr, Bool, true, false, eqb, cond, List, ◌++◌, length, take, drop, Result, Ok, Err, refl, sym, ap, subst, ◌∙◌, arith}
use Rattle.std.specs.Prelude.{IfErr, OnErr}
use Rattle.std.proofs.lemmas.Bool.{cases_eq, eq-eqb, ne_eqb}
use Rattle.std.proofs.lemmas.List.{take-append-drop, length-take, append_cancel_right}
use Rattle.byteorder.specs.Endian.{little_bytes}
use Rattle.tl_codec.specs.Standard.{bool_true, bool_false}
use Rattle.tl_codec.specs.declared.fault.TlFault.{TlFault}
use Rattle.tl_codec.specs.declared.fault.TlFault.TheVariants.{Short, BadTag, TooMany, Extra, Memory}
use Rattle.octets.specs.Bytes.{IsBytes}
use Rattle.tl_codec.specs.Spelling.{Form, Int, Long, Raw, Bytes, Longs, Truth, Tag, Of, Spells, Reads, ReadsBytes, spelling}
use Rattle.std.specs.Borrow.{Bor}
use Rattle.tl_codec.specs.Reading.{Takes, NoFront, UnlessMemory, with_rest, lent, number_at, truth_at, read_at}
use Rattle.tl_codec.proofs.Steps.{bind_ok, same_parts, same_value}
use Rattle.tl_codec.proofs.Numbers.{raw_takes, raw_again, number_takes, number_again}
use Rattle.tl_codec.proofs.Strings.{bytes_take, bytes_again, spelling_reads}
use Rattle.tl_codec.proofs.Vectors.{tag_takes, tag_again, longs_take, longs_again}

raw_stands : (size : ℕ) (text : List ℕ) → size ≤ length text → Takes (Raw size) (take size text) text (drop size text)
unfolding spelling
raw_stands size text enough = (take size text, (omega (arith, length-take size text), refl), sym (take-append-drop size text))

truth_front : (value : Bool) (text left : List ℕ) → text ≡ little_bytes 4 (cond value bool_true bool_false) ++ left → Takes Truth value text left
unfolding spelling
truth_front value text left spelt = (little_bytes 4 (cond value bool_true bool_false), (tt, refl), spelt)

truth_stands : (found : ℕ) (text left rest : List ℕ) (value : Bool) → text ≡ little_bytes 4 found ++ left
    → cond {A = Result (Bool × List ℕ) TlFault} (eqb found bool_true) (Ok (true, left)) (cond (eqb found bool_false) (Ok (false, left)) (Err (BadTag found))) ≡ Ok (value, rest)
    → Takes Truth value text rest
truth_stands found text left rest value spelt e =
    elim (cases_eq found bool_true) [
      | inl is ↦
          let test : eqb found bool_true ≡ true = eq-eqb _ _ is in
          let same : ◌≡◌ {A = Bool × List ℕ} (true, left) (value, rest) = same_value _ _ _ refl (rw test at e) in
          subst (λ (p : Bool × List ℕ). Takes Truth p.0 text p.1) same (truth_front true text left (subst (λ (n : ℕ). text ≡ little_bytes 4 n ++ left) is spelt))
      | inr other ↦ elim (cases_eq found bool_false) [
        | inl is ↦
            let first : eqb found bool_true ≡ false = ne_eqb _ _ other in
            let test : eqb found bool_false ≡ true = eq-eqb _ _ is in
            let same : ◌≡◌ {A = Bool × List ℕ} (false, left) (value, rest) = same_value _ _ _ refl (rw (first, test) at e) in
            subst (λ (p : Bool × List ℕ). Takes Truth p.0 text p.1) same (truth_front false text left (subst (λ (n : ℕ). text ≡ little_bytes 4 n ++ left) is spelt))
        | inr neither ↦
            let first : eqb found bool_true ≡ false = ne_eqb _ _ other in
            let second : eqb found bool_false ≡ false = ne_eqb _ _ neither in
            let none = rw (first, second) at e in
            absurd cc
      ]
    ]

truth_takes : (text : List ℕ) (value : Bool) (rest : List ℕ) → IsBytes text → truth_at text ≡ Ok (value, rest) → Takes Truth value text rest
unfolding truth_at
truth_takes text value rest fits e =
    let a = bind_ok (number_at 4 text) (λ found. cond (eqb found.0 bool_true) (Ok (true, found.1)) (cond (eqb found.0 bool_false) (Ok (false, found.1)) (Err (BadTag found.0)))) (value, rest) e in
    truth_stands a.0.0 text a.0.1 rest value (number_takes 4 text a.0.0 a.0.1 fits a.1).1 a.2

truth_again : (value : Bool) (rest : List ℕ) → truth_at (little_bytes 4 (cond value bool_true bool_false) ++ rest) ≡ Ok (value, rest)
unfolding truth_at
truth_again true rest = rw (number_again 4 bool_true rest (omega arith)) refl
truth_again false rest = rw (number_again 4 bool_false rest (omega arith)) refl

-- what is read is a front
pub takes : (form : Form) (text : List ℕ) (value : Of form) (rest : List ℕ) → IsBytes text → read_at form text ≡ Ok (value, rest) → Takes form value text rest
unfolding spelling
takes Int text value rest fits e = let t = number_takes 4 text value rest fits e in (little_bytes 4 value, (t.0, refl), t.1)
takes Long text value rest fits e = let t = number_takes 8 text value rest fits e in (little_bytes 8 value, (t.0, refl), t.1)
takes (Raw size) text value rest fits e =
    let t = raw_takes size text value rest e in
    subst (λ (v : List ℕ). Takes (Raw size) v text rest) t.1 (subst (λ (r : List ℕ). Takes (Raw size) (take size text) text r) t.2 (raw_stands size text t.0))
takes Bytes text value rest fits e = bytes_take text value rest fits e
takes Longs text value rest fits e = longs_take text value rest fits e
takes Truth text value rest fits e = truth_takes text value rest fits e
takes (Tag number) text value rest fits e = let t = tag_takes number text value rest fits e in (little_bytes 4 number, (t.0, refl), t.1)

-- a front is read
pub again : (form : Form) (value : Of form) (front rest : List ℕ) → Reads form value front → read_at form (front ++ rest) ≡ Ok (value, rest)
unfolding spelling
again Int value front rest reads = rw reads.1 (number_again 4 value rest (omega (arith, reads.0)))
again Long value front rest reads = rw reads.1 (number_again 8 value rest (omega (arith, reads.0)))
again (Raw size) value front rest reads = rw reads.1 (raw_again size value rest reads.0)
again Bytes value front rest reads = bytes_again value front rest reads
again Longs value front rest reads = longs_again value front rest reads
again Truth value front rest reads = rw reads.1 (truth_again value rest)
again (Tag number) value front rest reads = rw reads.1 (tag_again number rest reads.0)

pub taken_again : (form : Form) (text : List ℕ) (value : Of form) (rest : List ℕ) → Takes form value text rest → read_at form text ≡ Ok (value, rest)
taken_again form text value rest t = ap (read_at form) t.2 ∙ again form value t.0 rest t.1

-- no front reads as two values
pub one_reading : (form : Form) (v w : Of form) (x y r s : List ℕ) → Reads form v x → Reads form w y → x ++ r ≡ y ++ s → (v ≡ w) × (x ≡ y)
one_reading form v w x y r s first second e =
    let same = same_parts (read_at form (x ++ r)) v w r s (again form v x r first) (ap (read_at form) e ∙ again form w y s second) in
    (same.0, append_cancel_right x y r (e ∙ ap (λ (z : List ℕ). y ++ z) (sym same.1)))

-- a fault says that no front is a value
pub refuses : (form : Form) (text : List ℕ) (fault : TlFault) → read_at form text ≡ Err fault → NoFront form text
refuses form text fault e value rest t = let read = taken_again form text value rest t in absurd cc

-- what a read that failed says of the text
pub call_refuses : (form : Form) (result : Result (Of form) TlFault) (old new : List ℕ)
    → read_at form old ≡ with_rest result new → OnErr result (NoFront form old)
call_refuses form (Ok value) old new exact = tt
call_refuses form (Err fault) old new exact = refuses form old fault exact

pub bytes_refuse : (result : Result (Bor (List ℕ)) TlFault) (old new : List ℕ)
    → read_at Bytes old ≡ with_rest (lent result) new → OnErr result (NoFront Bytes old)
bytes_refuse (Ok bytes) old new exact = tt
bytes_refuse (Err fault) old new exact = refuses Bytes old fault exact

pub longs_refuse : (result : Result (List ℕ) TlFault) (old new : List ℕ)
    → UnlessMemory result (read_at Longs old ≡ with_rest result new) → IfErr result (λ fault. fault ≢ Memory → NoFront Longs old)
longs_refuse (Ok numbers) old new exact = tt
longs_refuse (Err Memory) old new exact = λ other. absurd (other refl)
longs_refuse (Err (Short need have)) old new exact = λ other. refuses Longs old (Short need have) exact
longs_refuse (Err (BadTag found)) old new exact = λ other. refuses Longs old (BadTag found) exact
longs_refuse (Err (TooMany count)) old new exact = λ other. refuses Longs old (TooMany count) exact
longs_refuse (Err (Extra bytes)) old new exact = λ other. refuses Longs old (Extra bytes) exact

-- a spelling is a reading
pub spelt_reads : (form : Form) (value : Of form) (text : List ℕ) → Spells form value text → Reads form value text
spelt_reads Int value text spelt = spelt
spelt_reads Long value text spelt = spelt
spelt_reads (Raw size) value text spelt = spelt
spelt_reads Bytes value text spelt = subst (ReadsBytes value) (sym spelt.1) (spelling_reads value spelt.0)
spelt_reads Longs value text spelt = spelt
spelt_reads Truth value text spelt = spelt
spelt_reads (Tag number) value text spelt = spelt
