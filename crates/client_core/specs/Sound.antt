-- What a client keeps sound beside its calls, so that what it has can be sent.
use Rattle.std.specs.Prelude.{◌≡◌, ◌≤◌, ◌%◌, Option, IfSome, length}
use Rattle.envelope.specs.Packet.{body_max}
use Rattle.tl_codec.specs.Standard.{longs_max}
use Rattle.service_tl.specs.declared.lists.Message.{Message}
use Rattle.client_core.specs.declared.binding.Binding.{Binding}
use Rattle.client_core.specs.declared.binding.Binding.TheVariants.{Asked}
use Rattle.client_core.specs.declared.binding.Temporary.{Temporary}
use Rattle.client_core.specs.declared.waiting.Waiting.{Waiting}

-- a message can be sent: its body is whole words, and not too long
abbrev pub IsSendable : Message → Type 0
IsSendable message = (length message.body % 4 ≡ 0) × (length message.body ≤ body_max)

-- the message that asked for a binding can be sent again
abbrev pub CanGoAgain : Binding → Type 0
CanGoAgain (Asked number seq body) = IsSendable (record { number = number; seq = seq; body = body })
CanGoAgain _ = Unit {0}

abbrev pub CanBind : Option Temporary → Type 0
CanBind temporary = IfSome temporary (λ one. CanGoAgain one.binding)

-- a list of numbers, and one of states, can be sent: each has as many members as a list may have
abbrev pub CanWait : Waiting → Type 0
CanWait waiting = (length waiting.resent.numbers ≤ longs_max) × IfSome waiting.told (λ states. length states.info ≤ longs_max)
