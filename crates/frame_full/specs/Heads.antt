-- Scaffolding of proofs, and no promise: the parts of a full frame, by their places.
use Rattle.std.proofs.Common.{◌≡◌, ℕ, ◌+◌, ◌-◌, ◌<◌, ◌^◌, List, ◌++◌, length, take, drop, sym, ap, ◌∙◌, arith, append_assoc, length-append}
use Rattle.std.proofs.lemmas.List.{take_at, drop_at}
use Rattle.byteorder.specs.Endian.{little_bytes, little_number}
use Rattle.byteorder.specs.Numbers.{length-bytes_low_first, little_number-reads_back}
use Rattle.frame_full.specs.Full.{overhead, body_of, FullFrame, sum_in, sum_due, number_in}
use Rattle.crc_core.specs.Crc32.{crc32}

length_body : (i : ℕ) (packet : List ℕ) → length (body_of i packet) ≡ 8 + length packet
length_body i packet =
    let a = length-append (little_bytes 4 (length packet + overhead)) (little_bytes 4 i ++ packet) in
    let b = length-append (little_bytes 4 i) packet in
    let c = length-bytes_low_first 0 4 (length packet + overhead) in
    let d = length-bytes_low_first 0 4 i in
    omega arith

module _ (i : ℕ) (packet bytes : List ℕ) (f : FullFrame i packet bytes) where
  behind_length : List ℕ
  behind_length = (little_bytes 4 i ++ packet) ++ f.sum

  by_length : bytes ≡ little_bytes 4 (length packet + overhead) ++ ((little_bytes 4 i ++ packet) ++ f.sum)
  by_length = f.whole ∙ append_assoc (little_bytes 4 (length packet + overhead)) (little_bytes 4 i ++ packet) f.sum

  pub long : length bytes ≡ length packet + overhead
  long =
      let a = length_body i packet in
      let b : length bytes ≡ length (body_of i packet) + length f.sum = ap length f.whole ∙ length-append (body_of i packet) f.sum in
      omega (arith, a, b, f.four)

  pub says : length packet + overhead ≡ little_number 4 bytes
  says =
      let fits : length packet + overhead < 256 ^ 4 = omega (arith, f.payload.most) in
      sym (ap (little_number 4) by_length ∙ little_number-reads_back 4 (length packet + overhead) ((little_bytes 4 i ++ packet) ++ f.sum) fits)

  behind : drop 4 bytes ≡ little_bytes 4 i ++ (packet ++ f.sum)
  behind =
      ap (drop 4) by_length
      ∙ drop_at (little_bytes 4 (length packet + overhead)) ((little_bytes 4 i ++ packet) ++ f.sum) 4 (length-bytes_low_first 0 4 (length packet + overhead))
      ∙ append_assoc (little_bytes 4 i) packet f.sum

  pub numbered : number_in bytes ≡ i
  numbered =
      let fits : i < 256 ^ 4 = omega (arith, f.number) in
      ap (little_number 4) behind ∙ little_number-reads_back 4 i (packet ++ f.sum) fits

  at_sum : length (body_of i packet) ≡ length bytes - 4
  at_sum = omega (arith, length_body i packet, long)

  pub summed : sum_in bytes ≡ little_number 4 f.sum
  summed =
      let e : drop (length bytes - 4) bytes ≡ f.sum = ap (drop (length bytes - 4)) f.whole ∙ drop_at (body_of i packet) f.sum (length bytes - 4) at_sum in
      ap (little_number 4) e

  pub due : sum_due bytes ≡ crc32 (body_of i packet)
  due =
      let e : take (length bytes - 4) bytes ≡ body_of i packet = ap (take (length bytes - 4)) f.whole ∙ take_at (body_of i packet) f.sum (length bytes - 4) at_sum in
      ap crc32 e

  pub packet_is : (n : ℕ) → n ≡ length packet → take n (drop 4 (drop 4 bytes)) ≡ packet
  packet_is n e =
      ap (λ (xs : List ℕ). take n (drop 4 xs)) behind
      ∙ ap (take n) (drop_at (little_bytes 4 i) (packet ++ f.sum) 4 (length-bytes_low_first 0 4 i))
      ∙ take_at packet f.sum n (sym e)
