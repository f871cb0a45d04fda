-- What is told of a packet, by why it doesn't open.
use Rattle.std.proofs.Common.{◌≡◌, ℕ, Option, Some, None, List}
use Rattle.std.specs.Prelude.{Result, Ok, Err, IfErr, IfOk, OnErr}
use Rattle.auth_keys.specs.declared.ring.RingKey.{RingKey}
use Rattle.client_core.specs.Holding.{Became, kept_of}
use Rattle.client_core.specs.Kept.{Stands}
use Rattle.client_core.specs.Took.{IsWhy}
use Rattle.client_core.specs.declared.holder.Holder.{Holder}
use Rattle.client_rules.specs.Client.{Client}
use Rattle.envelope.specs.declared.refusal.Refusal.{Refusal}
use Rattle.envelope.specs.Packet.{Lock}
use Rattle.octets.specs.declared.memory.Memory.{Memory}
use Rattle.kifzaro.specs.Clients.{Comes, TellsHeard}
use Rattle.kifzaro.specs.Holding.{told_of}
use Rattle.kifzaro.specs.declared.error.Error.TheVariants as errors

-- it is heard, or refused for that
pub heard_told : (lock : Lock) (ring : List RingKey) (at : ℕ) (packet : List ℕ) (heard : Result (Option Refusal) Memory)
    → IfOk heard (IsWhy lock ring at packet) → TellsHeard lock ring at packet (told_of heard)
heard_told lock ring at packet (Ok None) is = is
heard_told lock ring at packet (Ok (Some why)) is = is
heard_told lock ring at packet (Err memory) is = tt

-- and it was taken
pub comes_told : (before after : Client) (held kept : Holder) (heard : Result (Option Refusal) Memory)
    → Became held before after kept heard → Comes before after kept (told_of heard)
comes_told before after held kept (Ok None) became = became.1
comes_told before after held kept (Ok (Some why)) became = became.1
comes_told before after held kept (Err memory) became = became.1

-- where memory ran out it is the client that it was
pub stays_told : (before : Client) (kept : Holder) (heard : Result (Option Refusal) Memory) → OnErr heard (Stands (kept_of kept) before)
    → IfErr (told_of heard) (λ error. error ≡ errors.Memory → Stands (kept_of kept) before)
stays_told before kept (Ok None) stays = tt
stays_told before kept (Ok (Some why)) stays = λ is. absurd cc
stays_told before kept (Err memory) stays = λ is. stays
