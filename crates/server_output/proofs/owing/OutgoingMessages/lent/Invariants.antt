use Rattle.std.proofs.Common.{◌≡◌, ◌≤◌, map, take, vec_len, vec_capacity}
use Rattle.containers.specs.Lent.{message_of}
use Rattle.server_output.proofs.owing.OutgoingMessages.lent.Given as goal

abbrev pub invariant-loop-place : goal.invariant-loop-place
invariant-loop-place l = record {
  lent : map message_of l.parts.items ≡ take l.place l.self.messages;
  count : vec_len l.parts ≡ l.place;
  room : l.self.places_taken ≤ vec_capacity l.parts;
}
