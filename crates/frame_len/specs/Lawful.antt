-- Scaffolding of proofs, and no promise: both forms are such that can be read.
use Rattle.std.proofs.Common.{◌≡◌, ℕ, ◌+◌, ◌<◌, ◌≤◌, Bool, List, ◌++◌, length, take, sym, ap, subst, ◌∙◌, arith, length-append}
use Rattle.std.proofs.lemmas.List.{length-take-le}
use Rattle.byteorder.specs.Numbers.{little_from-append, little_from-take}
use Rattle.tl_codec.specs.declared.fault.FrameFault.{FrameFault}
use Rattle.tl_codec.specs.declared.fault.FrameFault.TheVariants.{TooLong, BadLength, Sum, Count}
use Rattle.framing.specs.Laws.{IsForm}
use Rattle.frame_len.specs.Lengths.{LenFrame, Says, LenSize, len_wrong, IsBad, form_of}
use Rattle.frame_len.specs.Heads as parts

one_length : (one other : ℕ) (bytes : List ℕ) → Says one bytes → Says other bytes → one ≡ other
one_length one other bytes f g = f.is ∙ sym g.is

says_on : (len : ℕ) (bytes rest : List ℕ) → Says len bytes → Says len (bytes ++ rest)
says_on len bytes rest f = record {
  there = omega (arith, f.there, length-append bytes rest);
  is = f.is ∙ sym (little_from-append 4 bytes rest f.there);
}

bad_as : (padded : Bool) (one other : ℕ) → one ≡ other → IsBad padded one → IsBad padded other
bad_as padded one other e = subst (IsBad padded) e

module _ (padded : Bool) where
  unfaulted : (fault : FrameFault) (bytes : List ℕ) → length bytes < 4 → len_wrong padded fault bytes → ⊥
  unfaulted (TooLong len) bytes cut f = omega (arith, f.says.there)
  unfaulted (BadLength len) bytes cut f = omega (arith, f.says.there)
  unfaulted (Sum said found) bytes cut f = f
  unfaulted (Count said want) bytes cut f = f

  one_size : (size other : ℕ) (bytes : List ℕ) → LenSize padded size bytes → LenSize padded other bytes → size ≡ other
  one_size size other bytes f g = omega (arith, f.whole, g.whole, one_length f.len g.len bytes f.says g.says)

  one_wrong : (one other : FrameFault) (bytes : List ℕ) → len_wrong padded one bytes → len_wrong padded other bytes → one ≡ other
  one_wrong (TooLong len) (TooLong more) bytes f g = ap TooLong (one_length len more bytes f.says g.says)
  one_wrong (TooLong len) (BadLength more) bytes f g = absurd (omega (arith, one_length len more bytes f.says g.says, f.past, g.most))
  one_wrong (TooLong len) (Sum said found) bytes f g = absurd g
  one_wrong (TooLong len) (Count said want) bytes f g = absurd g
  one_wrong (BadLength len) (TooLong more) bytes f g = absurd (omega (arith, one_length len more bytes f.says g.says, g.past, f.most))
  one_wrong (BadLength len) (BadLength more) bytes f g = ap BadLength (one_length len more bytes f.says g.says)
  one_wrong (BadLength len) (Sum said found) bytes f g = absurd g
  one_wrong (BadLength len) (Count said want) bytes f g = absurd g
  one_wrong (Sum said found) other bytes f g = absurd f
  one_wrong (Count said want) other bytes f g = absurd f

  apart : (size : ℕ) (fault : FrameFault) (bytes : List ℕ) → LenSize padded size bytes → len_wrong padded fault bytes → ⊥
  apart size (TooLong len) bytes f g = omega (arith, one_length f.len len bytes f.says g.says, f.most, g.past)
  apart size (BadLength len) bytes f g = f.good (bad_as padded len f.len (one_length len f.len bytes g.says f.says) g.bad)
  apart size (Sum said found) bytes f g = g
  apart size (Count said want) bytes f g = g

  sized_on : (size : ℕ) (bytes rest : List ℕ) → LenSize padded size bytes → LenSize padded size (bytes ++ rest)
  sized_on size bytes rest f = record { len = f.len; says = says_on f.len bytes rest f.says; most = f.most; good = f.good; whole = f.whole }

  wrong_on : (fault : FrameFault) (bytes rest : List ℕ) → len_wrong padded fault bytes → len_wrong padded fault (bytes ++ rest)
  wrong_on (TooLong len) bytes rest f = record { says = says_on len bytes rest f.says; past = f.past }
  wrong_on (BadLength len) bytes rest f = record { says = says_on len bytes rest f.says; most = f.most; bad = f.bad }
  wrong_on (Sum said found) bytes rest f = f
  wrong_on (Count said want) bytes rest f = f

  within : (size : ℕ) (bytes : List ℕ) → LenSize padded size bytes → size ≤ length bytes → LenSize padded size (take size bytes)
  within size bytes f there = record {
    len = f.len;
    says = record {
      there = omega (arith, f.whole, length-take-le size bytes there);
      is = f.says.is ∙ sym (little_from-take 0 4 size bytes (omega (arith, f.whole)));
    };
    most = f.most;
    good = f.good;
    whole = f.whole;
  }

  outlined : (i : ℕ) (packet bytes : List ℕ) → LenFrame padded packet bytes → LenSize padded (length bytes) bytes
  outlined i packet bytes f =
      let p = parts.parts_of padded packet bytes f in
      let long = parts.long padded packet bytes p in
      record {
        len = length packet + length p.padding;
        says = record { there = omega (arith, long); is = parts.says padded packet bytes p };
        most = p.most;
        good = p.good;
        whole = long;
      }

  one_packet : (i : ℕ) (one other bytes : List ℕ) → LenFrame padded one bytes → LenFrame padded other bytes → one ≡ other
  one_packet i one other bytes f g =
      let p = parts.parts_of padded one bytes f in
      let q = parts.parts_of padded other bytes g in
      let len = length one + length p.padding in
      let is = parts.says padded one bytes p in
      sym (parts.packet_is padded one bytes p len is) ∙ parts.packet_is padded other bytes q len is

  pub lawful : IsForm (form_of padded)
  lawful = record {
    empty = omega arith;
    unsized = λ size bytes cut f. omega (arith, cut, f.says.there);
    unfaulted = unfaulted;
    some = λ size bytes f. omega (arith, f.whole);
    one_size = one_size;
    one_wrong = one_wrong;
    apart = apart;
    sized_on = sized_on;
    wrong_on = wrong_on;
    within = within;
    outlined = outlined;
    one_packet = one_packet;
    sound = λ i packet bytes fault f g. g;
    one_spoilt = λ i one other bytes f g. absurd f;
  }
