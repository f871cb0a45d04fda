use Rattle.std.proofs.Common.{◌≡◌, List, [], ◌∷◌, length, suc, ap, refl}
use Rattle.auth_keys.specs.declared.ring.RingKey.{RingKey}
use Rattle.envelope.specs.Packet.{Lock}
use Rattle.server_rules.specs.Event.{Sent}
use Rattle.server_output.specs.declared.outs.Out.{Out}
use Rattle.server_output.specs.Outs.{AreSent}
use Rattle.server_output.proofs.laws.sent_one_for_one.Goals as goal

as_many : (lock : Lock) (ring : List RingKey) (sent : List Sent) (outs : List Out) → AreSent lock ring sent outs → length sent ≡ length outs
as_many lock ring [] [] are = refl
as_many lock ring (one ∷ sent) (out ∷ outs) are = ap suc (as_many lock ring sent outs are.1)
as_many lock ring [] (out ∷ outs) are = absurd are
as_many lock ring (one ∷ sent) [] are = absurd are

pub returns : goal.returns
returns c lock ring sent outs are = as_many lock ring sent outs are
