-- A result in a packet.
use Rattle.std.specs.Prelude.{◌≡◌, ℕ, true, false, Some, List, ◌∷◌, ◌++◌, fold, ⊤}
use Rattle.service_tl.specs.declared.lists.Message.{Message}
use Rattle.service_tl.specs.declared.item.Item.TheVariants.{RpcResult}
use Rattle.service_tl.specs.ItemOf.{item_of}
use Rattle.envelope.specs.declared.parts.Envelope.{Envelope}
use Rattle.call_table.specs.declared.call.CallNo.{CallNo}
use Rattle.call_table.specs.Table.{Done, owner}
use Rattle.call_table.specs.Kept.{state_in}
use Rattle.client_rules.specs.Client.{Client, at_moment, calls_of}
use Rattle.client_rules.specs.Taking.{is_for, message_in, messages_of, takes_message}
use Rattle.client_core.specs.declared.step.OpenStep.{OpenStep}
use Rattle.client_core.specs.declared.step.OpenStep.TheVariants as open_step
use Rattle.client_core.specs.declared.step.OpeningStep.{OpeningStep}
use Rattle.client_core.specs.declared.step.OpeningStep.TheVariants as opening_step

-- the client when those messages of a packet are taken
abbrev pub taken_of : ℕ → Envelope → Client → List Message → Client
taken_of now envelope client messages = fold (takes_message envelope.number) (at_moment now client) messages

-- A packet that is looked at has a result for a number under which a call is outstanding when this message is taken.
pub record BringsResult (now : ℕ) (envelope : Envelope) (client : Client) (call : CallNo) (answer : List ℕ) : Type 0 where
  pub looked_at : is_for client envelope ≡ true
  -- the message, and those before and after it
  pub before : List Message
  pub message : Message
  pub after : List Message
  pub split : messages_of (message_in envelope) ≡ before ++ message ∷ after
  -- it is a result for a number
  pub about : ℕ
  pub said : item_of message.body ≡ RpcResult about answer
  -- the client hasn't ended before it, and the call is outstanding under this number
  pub goes_on : (taken_of now envelope client before).has_ended ≡ false
  pub outstanding : owner about (calls_of (taken_of now envelope client before)) ≡ Some call

-- the call is `Done` with this answer, unless memory ran out
abbrev pub HasDone : CallNo → List ℕ → OpenStep → Type 0
HasDone call answer (open_step.Still now) = state_in call now.calls.rows ≡ Some (Done answer)
HasDone call answer (open_step.Ended now) = state_in call now.calls.rows ≡ Some (Done answer)
HasDone call answer (open_step.Memory now) = ⊤

abbrev pub HasDoneOpening : CallNo → List ℕ → OpeningStep → Type 0
HasDoneOpening call answer (opening_step.Still now) = state_in call now.calls.rows ≡ Some (Done answer)
HasDoneOpening call answer (opening_step.Opened now) = state_in call now.calls.rows ≡ Some (Done answer)
HasDoneOpening call answer (opening_step.Memory now) = ⊤
