-- Scaffolding of proofs, and no promise: the abridged form is one that can be read.
use Rattle.std.proofs.Common.{◌≡◌, ℕ, ◌+◌, ◌*◌, ◌/◌, ◌<◌, ◌≤◌, List, ◌++◌, length, take, drop, refl, sym, ap, subst, ◌∙◌, arith, inl, inr, length-append}
use Rattle.std.proofs.lemmas.List.{drop_at}
use Rattle.tl_codec.specs.declared.fault.FrameFault.{FrameFault}
use Rattle.tl_codec.specs.declared.fault.FrameFault.TheVariants.{TooLong, BadLength, Sum, Count}
use Rattle.framing.specs.Laws.{IsForm}
use Rattle.frame_short.specs.Abridged.{AbridgedFrame, SaysWords, AbridgedCut, AbridgedSize, abridged_wrong, abridged}
use Rattle.frame_short.specs.Heads.{one_head, first_of, first_on, head_on, head_within, head_says}

unsaid : (head words : ℕ) (bytes : List ℕ) → AbridgedCut bytes → SaysWords head words bytes → ⊥
unsaid head words bytes (inl e) (inl f) = omega (arith, e, f.2)
unsaid head words bytes (inl e) (inr f) = omega (arith, e, f.2)
unsaid head words bytes (inr e) (inl f) = omega (arith, e.0, f.1, f.3)
unsaid head words bytes (inr e) (inr f) = omega (arith, e.1, f.2)

unfaulted : (fault : FrameFault) (bytes : List ℕ) → AbridgedCut bytes → abridged_wrong fault bytes → ⊥
unfaulted (TooLong len) bytes cut f = unsaid f.head f.words bytes cut f.says
unfaulted (BadLength len) bytes cut (inl f) = unsaid f.head 0 bytes cut f.says
unfaulted (BadLength len) bytes (inl e) (inr f) = omega (arith, e, f.there)
unfaulted (BadLength len) bytes (inr e) (inr f) = omega (arith, e.0, f.first)
unfaulted (Sum said found) bytes cut f = f
unfaulted (Count said want) bytes cut f = f

some : (size : ℕ) (bytes : List ℕ) → AbridgedSize size bytes → 0 < size
some size bytes f = omega (arith, f.whole, f.some)

one_size : (size other : ℕ) (bytes : List ℕ) → AbridgedSize size bytes → AbridgedSize other bytes → size ≡ other
one_size size other bytes f g =
    let same = one_head f.head f.words g.head g.words bytes f.says g.says in
    omega (arith, f.whole, g.whole, same.0, same.1)

one_wrong : (one other : FrameFault) (bytes : List ℕ) → abridged_wrong one bytes → abridged_wrong other bytes → one ≡ other
one_wrong (TooLong len) (TooLong more) bytes f g =
    let same = one_head f.head f.words g.head g.words bytes f.says g.says in
    let e : len ≡ more = omega (arith, f.told, g.told, same.1) in
    ap TooLong e
one_wrong (TooLong len) (BadLength more) bytes f (inl g) =
    let same = one_head f.head f.words g.head 0 bytes f.says g.says in
    absurd (omega (arith, f.past, same.1))
one_wrong (TooLong len) (BadLength more) bytes f (inr g) =
    let first = first_of f.head f.words bytes f.says in
    absurd (omega (arith, first.1, g.first))
one_wrong (TooLong len) (Sum said found) bytes f g = absurd g
one_wrong (TooLong len) (Count said want) bytes f g = absurd g
one_wrong (BadLength len) (TooLong more) bytes (inl f) g =
    let same = one_head g.head g.words f.head 0 bytes g.says f.says in
    absurd (omega (arith, g.past, same.1))
one_wrong (BadLength len) (TooLong more) bytes (inr f) g =
    let first = first_of g.head g.words bytes g.says in
    absurd (omega (arith, first.1, f.first))
one_wrong (BadLength len) (BadLength more) bytes (inl f) (inl g) =
    let e : len ≡ more = omega (arith, f.told, g.told) in
    ap BadLength e
one_wrong (BadLength len) (BadLength more) bytes (inl f) (inr g) =
    let first = first_of f.head 0 bytes f.says in
    absurd (omega (arith, first.1, g.first))
one_wrong (BadLength len) (BadLength more) bytes (inr f) (inl g) =
    let first = first_of g.head 0 bytes g.says in
    absurd (omega (arith, first.1, f.first))
one_wrong (BadLength len) (BadLength more) bytes (inr f) (inr g) =
    let e : len ≡ more = omega (arith, f.told, g.told) in
    ap BadLength e
one_wrong (BadLength len) (Sum said found) bytes f g = absurd g
one_wrong (BadLength len) (Count said want) bytes f g = absurd g
one_wrong (Sum said found) other bytes f g = absurd f
one_wrong (Count said want) other bytes f g = absurd f

apart : (size : ℕ) (fault : FrameFault) (bytes : List ℕ) → AbridgedSize size bytes → abridged_wrong fault bytes → ⊥
apart size (TooLong len) bytes f g =
    let same = one_head f.head f.words g.head g.words bytes f.says g.says in
    omega (arith, f.most, g.past, same.1)
apart size (BadLength len) bytes f (inl g) =
    let same = one_head f.head f.words g.head 0 bytes f.says g.says in
    omega (arith, f.some, same.1)
apart size (BadLength len) bytes f (inr g) =
    let first = first_of f.head f.words bytes f.says in
    omega (arith, first.1, g.first)
apart size (Sum said found) bytes f g = g
apart size (Count said want) bytes f g = g

sized_on : (size : ℕ) (bytes rest : List ℕ) → AbridgedSize size bytes → AbridgedSize size (bytes ++ rest)
sized_on size bytes rest f =
    record { head = f.head; words = f.words; says = head_on f.head f.words bytes rest f.says; some = f.some; most = f.most; whole = f.whole }

wrong_on : (fault : FrameFault) (bytes rest : List ℕ) → abridged_wrong fault bytes → abridged_wrong fault (bytes ++ rest)
wrong_on (TooLong len) bytes rest f =
    record { head = f.head; words = f.words; says = head_on f.head f.words bytes rest f.says; past = f.past; told = f.told }
wrong_on (BadLength len) bytes rest (inl f) =
    inl (record { head = f.head; says = head_on f.head 0 bytes rest f.says; told = f.told })
wrong_on (BadLength len) bytes rest (inr f) =
    let same = first_on bytes rest f.there in
    inr (record {
      there = omega (arith, f.there, length-append bytes rest);
      first = omega (arith, f.first, same);
      told = omega (arith, f.told, same);
    })
wrong_on (Sum said found) bytes rest f = absurd f
wrong_on (Count said want) bytes rest f = absurd f

within : (size : ℕ) (bytes : List ℕ) → AbridgedSize size bytes → size ≤ length bytes → AbridgedSize size (take size bytes)
within size bytes f there =
    let fits : f.head ≤ size = omega (arith, f.whole) in
    record { head = f.head; words = f.words; says = head_within f.head f.words size bytes f.says fits there; some = f.some; most = f.most; whole = f.whole }

-- a frame says the words of its packet
frame_says : (packet bytes : List ℕ) (f : AbridgedFrame packet bytes) → SaysWords (length f.head) (length packet / 4) bytes
frame_says packet bytes f =
    let fits : length packet / 4 < 16777216 = omega (arith, f.payload.most) in
    subst (λ (xs : List ℕ). SaysWords (length f.head) (length packet / 4) xs) (sym f.whole) (head_says (length packet / 4) f.head packet f.says fits)

outlined : (i : ℕ) (packet bytes : List ℕ) → AbridgedFrame packet bytes → AbridgedSize (length bytes) bytes
outlined i packet bytes f =
    let words : 4 * (length packet / 4) ≡ length packet = omega (arith, f.payload.words) in
    let long : length bytes ≡ length f.head + length packet = ap length f.whole ∙ length-append f.head packet in
    record {
      head = length f.head;
      words = length packet / 4;
      says = frame_says packet bytes f;
      some = omega (arith, f.payload.some);
      most = omega (arith, words, f.payload.most);
      whole = omega (arith, words, long);
    }

one_packet : (i : ℕ) (one other bytes : List ℕ) → AbridgedFrame one bytes → AbridgedFrame other bytes → one ≡ other
one_packet i one other bytes f g =
    let same = one_head (length f.head) (length one / 4) (length g.head) (length other / 4) bytes (frame_says one bytes f) (frame_says other bytes g) in
    let first : drop (length f.head) bytes ≡ one = ap (drop (length f.head)) f.whole ∙ drop_at f.head one (length f.head) refl in
    let second : drop (length f.head) bytes ≡ other = ap (drop (length f.head)) g.whole ∙ drop_at g.head other (length f.head) (sym same.0) in
    sym first ∙ second

pub abridged_lawful : IsForm abridged
abridged_lawful = record {
  empty = inl refl;
  unsized = λ size bytes cut f. unsaid f.head f.words bytes cut f.says;
  unfaulted = unfaulted;
  some = some;
  one_size = one_size;
  one_wrong = one_wrong;
  apart = apart;
  sized_on = sized_on;
  wrong_on = wrong_on;
  within = within;
  outlined = outlined;
  one_packet = one_packet;
  sound = λ i packet bytes fault f g. g;
  one_spoilt = λ i one other bytes f g. absurd f;
}
