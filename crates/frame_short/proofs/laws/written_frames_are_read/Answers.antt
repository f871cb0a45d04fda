use Rattle.std.proofs.Common.{◌∙◌, ◌++◌, List, ℕ, [], length, append-nil, ap, sym}
use Rattle.framing.specs.Streams.{number_after}
use Rattle.frame_short.specs.Abridged.{frame_of}
use Rattle.frame_short.proofs.laws.written_frames_are_read.Goals as goal

pub returns-clause-behind : goal.returns-clause-behind
returns-clause-behind c = λ packets packet frames text each fits is. record {
  frames = frames ++ frame_of packet;
  rest = [];
  each = c.streams_go_on.ensures.frame (record {}) packets packet frames (frame_of packet) each (c.written_frames.ensures (number_after (length packets)) packet fits);
  whole = ap (λ (xs : List ℕ). frames ++ xs) is ∙ sym (append-nil (frames ++ frame_of packet));
}

pub returns-clause-whatever_follows : goal.returns-clause-whatever_follows
returns-clause-whatever_follows c = λ packets packet frames rest each fits.
    c.streams_go_on.ensures.read_again (record {}) packets packet frames (frame_of packet) rest each (c.written_frames.ensures (number_after (length packets)) packet fits)
