use Rattle.std.proofs.Common.{◌≡◌, ◌∙◌, ◌++◌, ◌<◌, ◌^◌, List, ℕ, [], length, append-nil, ap, sym, arith}
use Rattle.framing.specs.Streams.{number_after}
use Rattle.frame_full.specs.Full.{frame_of}
use Rattle.frame_full.proofs.laws.written_frames_are_read.Goals as goal

pub returns-clause-behind : goal.returns-clause-behind
returns-clause-behind c = λ i packets packet frames text each fits number is.
    let n = number_after (length packets) in
    let small : n < 2 ^ 32 = omega arith in
    let same : text ≡ frame_of n packet = is ∙ ap (λ (k : ℕ). frame_of k packet) number in
    record {
      frames = frames ++ frame_of n packet;
      rest = [];
      each = c.streams_go_on.ensures.frame (record {}) packets packet frames (frame_of n packet) each (c.written_frames.ensures n packet small fits);
      whole = ap (λ (xs : List ℕ). frames ++ xs) same ∙ sym (append-nil (frames ++ frame_of n packet));
    }

pub returns-clause-whatever_follows : goal.returns-clause-whatever_follows
returns-clause-whatever_follows c = λ packets packet frames rest each fits.
    let i = number_after (length packets) in
    let small : i < 2 ^ 32 = omega arith in
    c.streams_go_on.ensures.read_again (record {}) packets packet frames (frame_of i packet) rest each (c.written_frames.ensures i packet small fits)
