use Rattle.std.proofs.Common.{◌∙◌, ◌++◌, List, ℕ, [], append-nil, ap, sym}
use Rattle.frame_len.specs.Lengths.{frame_of}
use Rattle.frame_len.proofs.Written.{written}
use Rattle.frame_len.proofs.laws.written_frames_are_read.Goals as goal

pub returns-clause-behind : goal.returns-clause-behind
returns-clause-behind c = λ padded packets packet frames text each fits is. record {
  frames = frames ++ frame_of packet;
  rest = [];
  each = c.streams_go_on.ensures.frame (record { padded = padded }) packets packet frames (frame_of packet) each (written padded 0 packet fits);
  whole = ap (λ (xs : List ℕ). frames ++ xs) is ∙ sym (append-nil (frames ++ frame_of packet));
}

pub returns-clause-whatever_follows : goal.returns-clause-whatever_follows
returns-clause-whatever_follows c = λ padded packets packet frames rest each fits.
    c.streams_go_on.ensures.read_again (record { padded = padded }) packets packet frames (frame_of packet) rest each (written padded 0 packet fits)
