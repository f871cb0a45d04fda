-- How much a client keeps, event by event.
use Rattle.std.proofs.Common.{◌≤◌, ◌<◌, ℕ, List, [], ◌∷◌, ◌++◌, fold, length, Option, None, Some, refl, subst, sym, arith, inl, inr}
use Rattle.std.specs.Prelude.{is_none}
use Rattle.std.proofs.lemmas.List.{length-append}
use Rattle.envelope.specs.declared.parts.Envelope.{Envelope}
use Rattle.service_tl.specs.declared.item.Item.{Item}
use Rattle.service_tl.specs.ItemOf.{item_of}
use Rattle.service_tl.specs.declared.lists.Message.{Message}
use Rattle.call_table.specs.declared.call.CallNo.{CallNo}
use Rattle.call_table.specs.declared.packet.Packet.{Packet}
use Rattle.client_rules.specs.Asking.{can_drop, dropped, drops, submit_fault, submitted}
use Rattle.client_rules.specs.Client.{Client, at_moment, with_call}
use Rattle.client_rules.specs.Events.{AskSalts, Attach, Drop, End, Event, Flush, Ping, Renew, Run, Submit, Take, Tick, run_of, step, unless_fault}
use Rattle.client_rules.specs.Flush.{flush}
use Rattle.client_rules.specs.Sending.{Setting}
use Rattle.client_rules.specs.Taking.{is_for, message_in, messages_of, take, takes_message, without_idle_wish}
use Rattle.law_client.specs.Bounds.{IsBounded}
use Rattle.law_client.proofs.Keeping.{Keeps, if-so}
use Rattle.law_client.proofs.BoundedSending.{Flows, flows-so, flush-flows}
use Rattle.law_client.proofs.BoundedTaking.{Moves, message-moves}

-- ---- events that aren't a packet or another session

pub submit-keeps : (body : List ℕ) (after : Option CallNo) (client : Client) → Keeps client (unless_fault body after client)
submit-keeps body after client =
    if-so (Keeps client) (is_none (submit_fault body after client)) (submitted body after client) client
    (record { learnt = refl; salt = refl; packets = refl }) (record { learnt = refl; salt = refl; packets = refl })

pub drop-keeps : (call : CallNo) (client : Client) → Keeps client (dropped call client)
drop-keeps call client =
    if-so (Keeps client) (can_drop call client) (with_call call drops client) client
    (record { learnt = refl; salt = refl; packets = refl }) (record { learnt = refl; salt = refl; packets = refl })

-- ---- what stays bounded

flows-bounded : (one other : Client) → Flows one other → IsBounded one → IsBounded other
flows-bounded one other h b = record {
  learnt = subst (λ (l : List ℕ). length l ≤ 1024) (sym h.learnt) b.learnt;
  packets = h.packets b.packets;
}

keeps-bounded : (one other : Client) → Keeps one other → IsBounded one → IsBounded other
keeps-bounded one other h = flows-bounded one other (flows-so one other h)

one-more : (xs : List ℕ) (x : ℕ) → length xs < 1024 → length (xs ++ x ∷ []) ≤ 1024
one-more xs x few = let is = length-append xs (x ∷ []) in omega (arith, is, few)

moves-bounded : (item : Item) (one other : Client) → Moves item one other → IsBounded one → IsBounded other
moves-bounded item one other (inl k) b = keeps-bounded one other k b
moves-bounded item one other (inr (inl l)) b = record {
  learnt = subst (λ (xs : List ℕ). length xs ≤ 1024) (sym l.learnt) (one-more one.learnt l.unique l.few);
  packets = subst (λ (xs : List Packet). length xs ≤ 64) (sym l.packets) (omega arith);
}
moves-bounded item one other (inr (inr n)) b = record {
  learnt = subst (λ (xs : List ℕ). length xs ≤ 1024) (sym n.learnt) b.learnt;
  packets = subst (λ (xs : List Packet). length xs ≤ 64) (sym n.packets) b.packets;
}

fold-bounded : (outer : ℕ) (client : Client) (messages : List Message) → IsBounded client → IsBounded (fold (takes_message outer) client messages)
fold-bounded outer client [] b = b
fold-bounded outer client (message ∷ messages) b =
    fold-bounded outer (takes_message outer client message) messages
    (moves-bounded (item_of message.body) client (takes_message outer client message) (message-moves outer client message) b)

take-bounded : (now : ℕ) (envelope : Envelope) (client : Client) → IsBounded client → IsBounded (take now envelope client)
take-bounded now envelope client b =
    let ready : Client = at_moment now client in
    let taken : Client = fold (takes_message envelope.number) ready (messages_of (message_in envelope)) in
    let first : IsBounded ready = record { learnt = b.learnt; packets = b.packets } in
    let last = fold-bounded envelope.number ready (messages_of (message_in envelope)) first in
    if-so IsBounded (is_for client envelope) (without_idle_wish taken) ready (record { learnt = last.learnt; packets = last.packets }) first

module _ {S : Type 0} (setting : Setting S) where
  step-bounded : (run : Run S) (event : Event) → IsBounded run.client → IsBounded (step setting run event).client
  step-bounded run (Submit body after) b = keeps-bounded run.client (unless_fault body after run.client) (submit-keeps body after run.client) b
  step-bounded run Attach b = record { learnt = b.learnt; packets = b.packets }
  step-bounded run Tick b = record { learnt = b.learnt; packets = b.packets }
  step-bounded run (Ping id) b = record { learnt = b.learnt; packets = b.packets }
  step-bounded run (AskSalts count) b = record { learnt = b.learnt; packets = b.packets }
  step-bounded run (Drop call) b = keeps-bounded run.client (dropped call run.client) (drop-keeps call run.client) b
  step-bounded run (Flush now) b =
      flows-bounded run.client (flush setting now run.client run.draw).client (flush-flows setting now run.client run.draw) b
  step-bounded run (Take now None) b = record { learnt = b.learnt; packets = b.packets }
  step-bounded run (Take now (Some envelope)) b = take-bounded now envelope run.client b
  step-bounded run Renew b = record { learnt = omega arith; packets = omega arith }
  step-bounded run End b = record { learnt = b.learnt; packets = b.packets }

  pub all-bounded : (run : Run S) (events : List Event) → IsBounded run.client → IsBounded (run_of setting run events).client
  all-bounded run [] b = b
  all-bounded run (event ∷ events) b = all-bounded (step setting run event) events (step-bounded run event b)
