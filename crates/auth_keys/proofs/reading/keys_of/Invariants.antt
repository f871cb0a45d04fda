use Rattle.std.proofs.Common.{◌≡◌, ◌≤◌, ◌<◌, ◌+◌, ℕ, List, ◌++◌, length, get_or, slice_index}
use Rattle.auth_keys.specs.Rings.{IsRing}
use Rattle.auth_keys.specs.KeyFile.{AreKeys, lines_of}
use Rattle.auth_keys.specs.declared.ring.RingKey.{RingKey}
use Rattle.auth_keys.proofs.RingLemmas.{AreSaidOn}
use Rattle.auth_keys.proofs.reading.keys_of.Given as goal

-- the lines so far say the keys so far without a fault, each on the line that was noted
abbrev pub invariant-loop-rest : goal.invariant-loop-rest
invariant-loop-rest l = record {
  front : List (List ℕ);
  split : lines_of l.text ≡ front ++ lines_of l.rest;
  counted : l.line ≡ length front;
  short : l.line + length l.rest ≤ length l.text;
  sized : length l.lines ≡ 64;
  said : AreKeys front l.keys.items;
  lawful : IsRing l.keys.items;
  places : AreSaidOn front l.lines l.keys.items;
}

abbrev pub decreases-loop-rest : goal.decreases-loop-rest
decreases-loop-rest l = length l.rest
