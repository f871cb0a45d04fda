use Rattle.std.proofs.Common.{[], refl, sym, ap, ◌∙◌, append-nil, arith}
use Rattle.byteorder.specs.Endian.{little_bytes, little_number}
use Rattle.byteorder.specs.Numbers.{length-bytes_low_first, little_number-reads_back}
use Rattle.crc_core.specs.Crc32.{crc32}
use Rattle.frame_full.specs.Full.{body_of}
use Rattle.frame_full.proofs.laws.written_frames.Goals as goal

pub returns : goal.returns
returns c = λ i packet small payload.
    let check = crc32 (body_of i packet) in
    record {
      payload = payload;
      number = small;
      sum = little_bytes 4 check;
      four = length-bytes_low_first 0 4 check;
      checked = ap (little_number 4) (sym (append-nil (little_bytes 4 check)))
          ∙ little_number-reads_back 4 check [] (omega (arith, c.checks_have_32_bits.ensures (body_of i packet)));
      whole = refl;
    }
