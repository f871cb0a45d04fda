-- Scaffolding of proofs, and no promise: the full form is one that can be read.
use Rattle.std.proofs.Common.{◌≡◌, ℕ, ◌%◌, ◌<◌, ◌≤◌, List, ◌++◌, length, take, refl, sym, ap, ap₂, ◌∙◌, arith, inl, inr, length-append}
use Rattle.std.specs.Prelude.{◌⊎◌}
use Rattle.std.proofs.lemmas.List.{length-take-le}
use Rattle.byteorder.specs.Numbers.{little_from-append, little_from-take}
use Rattle.tl_codec.specs.declared.fault.FrameFault.{FrameFault}
use Rattle.tl_codec.specs.declared.fault.FrameFault.TheVariants.{TooLong, BadLength, Sum, Count}
use Rattle.framing.specs.Laws.{IsForm}
use Rattle.frame_full.specs.Full.{FullFrame, FullSize, full_wrong, full_spoilt, sum_in, sum_due, full}
use Rattle.frame_full.specs.Heads as parts

not_bad : (size len : ℕ) → size ≡ len → 16 ≤ size → size % 4 ≡ 0 → (len < 16) ⊎ (0 < len % 4) → ⊥
not_bad size len e least words (inl bad) = omega arith
not_bad size len e least words (inr bad) =
    let same : len % 4 ≡ 0 = ap (λ (n : ℕ). n % 4) (sym e) ∙ words in
    omega arith

unfaulted : (fault : FrameFault) (bytes : List ℕ) → length bytes < 4 → full_wrong fault bytes → ⊥
unfaulted (TooLong len) bytes cut f = omega (arith, f.there)
unfaulted (BadLength len) bytes cut f = omega (arith, f.there)
unfaulted (Sum said found) bytes cut f = f
unfaulted (Count said want) bytes cut f = f

one_wrong : (one other : FrameFault) (bytes : List ℕ) → full_wrong one bytes → full_wrong other bytes → one ≡ other
one_wrong (TooLong len) (TooLong more) bytes f g = ap TooLong (f.says ∙ sym g.says)
one_wrong (TooLong len) (BadLength more) bytes f g = absurd (omega (arith, f.says, f.past, g.says, g.most))
one_wrong (TooLong len) (Sum said found) bytes f g = absurd g
one_wrong (TooLong len) (Count said want) bytes f g = absurd g
one_wrong (BadLength len) (TooLong more) bytes f g = absurd (omega (arith, g.says, g.past, f.says, f.most))
one_wrong (BadLength len) (BadLength more) bytes f g = ap BadLength (f.says ∙ sym g.says)
one_wrong (BadLength len) (Sum said found) bytes f g = absurd g
one_wrong (BadLength len) (Count said want) bytes f g = absurd g
one_wrong (Sum said found) other bytes f g = absurd f
one_wrong (Count said want) other bytes f g = absurd f

apart : (size : ℕ) (fault : FrameFault) (bytes : List ℕ) → FullSize size bytes → full_wrong fault bytes → ⊥
apart size (TooLong len) bytes f g = omega (arith, f.says, f.most, g.says, g.past)
apart size (BadLength len) bytes f g = not_bad size len (f.says ∙ sym g.says) f.least f.words g.bad
apart size (Sum said found) bytes f g = g
apart size (Count said want) bytes f g = g

sized_on : (size : ℕ) (bytes rest : List ℕ) → FullSize size bytes → FullSize size (bytes ++ rest)
sized_on size bytes rest f = record {
  there = omega (arith, f.there, length-append bytes rest);
  says = f.says ∙ sym (little_from-append 4 bytes rest f.there);
  least = f.least;
  most = f.most;
  words = f.words;
}

wrong_on : (fault : FrameFault) (bytes rest : List ℕ) → full_wrong fault bytes → full_wrong fault (bytes ++ rest)
wrong_on (TooLong len) bytes rest f = record {
  there = omega (arith, f.there, length-append bytes rest);
  says = f.says ∙ sym (little_from-append 4 bytes rest f.there);
  past = f.past;
}
wrong_on (BadLength len) bytes rest f = record {
  there = omega (arith, f.there, length-append bytes rest);
  says = f.says ∙ sym (little_from-append 4 bytes rest f.there);
  most = f.most;
  bad = f.bad;
}
wrong_on (Sum said found) bytes rest f = f
wrong_on (Count said want) bytes rest f = f

within : (size : ℕ) (bytes : List ℕ) → FullSize size bytes → size ≤ length bytes → FullSize size (take size bytes)
within size bytes f there = record {
  there = omega (arith, f.least, length-take-le size bytes there);
  says = f.says ∙ sym (little_from-take 0 4 size bytes (omega (arith, f.least)));
  least = f.least;
  most = f.most;
  words = f.words;
}

outlined : (i : ℕ) (packet bytes : List ℕ) → FullFrame i packet bytes → FullSize (length bytes) bytes
outlined i packet bytes f =
    let long = parts.long i packet bytes f in
    record {
      there = omega (arith, long);
      says = long ∙ parts.says i packet bytes f;
      least = omega (arith, long, f.payload.some);
      most = omega (arith, long, f.payload.most);
      words = omega (arith, long, f.payload.words);
    }

one_packet : (i : ℕ) (one other bytes : List ℕ) → FullFrame i one bytes → FullFrame i other bytes → one ≡ other
one_packet i one other bytes f g =
    let same : length one ≡ length other = omega (arith, parts.long i one bytes f, parts.long i other bytes g) in
    sym (parts.packet_is i one bytes f (length one) refl) ∙ parts.packet_is i other bytes g (length one) same

sum_right : (i : ℕ) (packet bytes : List ℕ) → FullFrame i packet bytes → sum_in bytes ≡ sum_due bytes
sum_right i packet bytes f = parts.summed i packet bytes f ∙ f.checked ∙ sym (parts.due i packet bytes f)

sound : (i : ℕ) (packet bytes : List ℕ) (fault : FrameFault) → FullFrame i packet bytes → full_spoilt i fault bytes → ⊥
sound i packet bytes (TooLong len) f g = g
sound i packet bytes (BadLength len) f g = g
sound i packet bytes (Sum said found) f g = g.apart (g.carries ∙ sum_right i packet bytes f ∙ sym g.has)
sound i packet bytes (Count said want) f g = g.apart (g.carries ∙ parts.numbered i packet bytes f ∙ sym g.next)

one_spoilt : (i : ℕ) (one other : FrameFault) (bytes : List ℕ) → full_spoilt i one bytes → full_spoilt i other bytes → one ≡ other
one_spoilt i (TooLong len) other bytes f g = absurd f
one_spoilt i (BadLength len) other bytes f g = absurd f
one_spoilt i (Sum said found) (TooLong len) bytes f g = absurd g
one_spoilt i (Sum said found) (BadLength len) bytes f g = absurd g
one_spoilt i (Sum said found) (Sum other more) bytes f g = ap₂ Sum (f.carries ∙ sym g.carries) (f.has ∙ sym g.has)
one_spoilt i (Sum said found) (Count other want) bytes f g = absurd (f.apart (f.carries ∙ g.checked ∙ sym f.has))
one_spoilt i (Count said want) (TooLong len) bytes f g = absurd g
one_spoilt i (Count said want) (BadLength len) bytes f g = absurd g
one_spoilt i (Count said want) (Sum other found) bytes f g = absurd (g.apart (g.carries ∙ f.checked ∙ sym g.has))
one_spoilt i (Count said want) (Count other more) bytes f g = ap₂ Count (f.carries ∙ sym g.carries) (f.next ∙ sym g.next)

pub full_lawful : IsForm full
full_lawful = record {
  empty = omega arith;
  unsized = λ size bytes cut f. omega (arith, cut, f.there);
  unfaulted = unfaulted;
  some = λ size bytes f. omega (arith, f.least);
  one_size = λ size other bytes f g. f.says ∙ sym g.says;
  one_wrong = one_wrong;
  apart = apart;
  sized_on = sized_on;
  wrong_on = wrong_on;
  within = within;
  outlined = outlined;
  one_packet = one_packet;
  sound = sound;
  one_spoilt = one_spoilt;
}
