-- Scaffolding of proofs, and no promise: the parts of a frame, by their places.
use Rattle.std.proofs.Common.{◌≡◌, ℕ, ◌+◌, ◌<◌, ◌≤◌, ◌^◌, Bool, true, false, List, [], ◌++◌, length, take, drop, sym, ap, ◌∙◌, arith, inl, inr, length-append, append-nil}
use Rattle.std.proofs.lemmas.List.{take_at, drop_at}
use Rattle.byteorder.specs.Endian.{little_bytes, little_number}
use Rattle.byteorder.specs.Numbers.{length-bytes_low_first, little_number-reads_back}
use Rattle.framing.specs.Payload.{payload_max, IsPayload}
use Rattle.frame_len.specs.Lengths.{IsPaddedSize, LenFrame, padding_max, payload_of, length_max, IsBad}

-- the parts of a frame of either form: the length, the payload, and the padding, which may be none
pub record Parts (padded : Bool) (packet bytes : List ℕ) : Type 0 where
  pub padding : List ℕ
  pub most : length packet + length padding ≤ length_max padded
  pub good : IsBad padded (length packet + length padding) → ⊥
  pub fits : payload_of padded (length packet + length padding) ≡ length packet
  pub whole : bytes ≡ little_bytes 4 (length packet + length padding) ++ (packet ++ padding)

no_bad : (packet : List ℕ) → IsPayload packet → IsBad false (length packet + 0) → ⊥
no_bad packet f (inl e) = omega (arith, f.some)
no_bad packet f (inr e) = omega (arith, f.words, e)

few_behind : (n m : ℕ) → IsPaddedSize n → n ≤ payload_max → m ≤ padding_max n → (n + m ≤ 1048583) × (payload_of true (n + m) ≡ n)
few_behind n m (inl e) most few = grind arith
few_behind n m (inr e) most few = grind arith

pub parts_of : (padded : Bool) (packet bytes : List ℕ) → LenFrame padded packet bytes → Parts padded packet bytes
parts_of false packet bytes f = record {
  padding = [];
  most = omega (arith, f.payload.most);
  good = no_bad packet f.payload;
  fits = omega arith;
  whole = grind (arith, f.whole, append-nil packet);
}
parts_of true packet bytes f =
    let both = few_behind (length packet) (length f.padding) f.size f.payload.most f.few in
    record {
      padding = f.padding;
      most = both.0;
      good = λ bad. omega (arith, bad, f.payload.some);
      fits = both.1;
      whole = f.whole;
    }

pub below : (padded : Bool) (len : ℕ) → len ≤ length_max padded → len < 256 ^ 4
below false len h = omega (arith, h)
below true len h = omega (arith, h)

module _ (padded : Bool) (packet bytes : List ℕ) (f : Parts padded packet bytes) where
  pub long : length bytes ≡ 4 + (length packet + length f.padding)
  long =
      let n = length packet + length f.padding in
      let a = length-append (little_bytes 4 n) (packet ++ f.padding) in
      let b = length-append packet f.padding in
      let c = length-bytes_low_first 0 4 n in
      ap length f.whole ∙ omega (arith, a, b, c)

  pub says : length packet + length f.padding ≡ little_number 4 bytes
  says =
      let n = length packet + length f.padding in
      sym (ap (little_number 4) f.whole ∙ little_number-reads_back 4 n (packet ++ f.padding) (below padded n f.most))

  pub behind : drop 4 bytes ≡ packet ++ f.padding
  behind =
      let n = length packet + length f.padding in
      ap (drop 4) f.whole ∙ drop_at (little_bytes 4 n) (packet ++ f.padding) 4 (length-bytes_low_first 0 4 n)

  -- the packet is what its length says
  pub packet_is : (len : ℕ) → len ≡ little_number 4 bytes → take (payload_of padded len) (drop 4 bytes) ≡ packet
  packet_is len e =
      let n = length packet + length f.padding in
      let same : len ≡ n = e ∙ sym says in
      let count : length packet ≡ payload_of padded len = sym (ap (payload_of padded) same ∙ f.fits) in
      ap (take (payload_of padded len)) behind ∙ take_at packet f.padding (payload_of padded len) count
