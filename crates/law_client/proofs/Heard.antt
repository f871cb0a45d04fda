-- A whole packet that a client hears.
use Rattle.std.proofs.Common.{◌≡◌, ℕ, ◌-◌, ◌++◌, length, arith, Bool, true, false, List, [], ◌∷◌, fold, inl, inr, refl, sym, ap, subst, ◌∙◌, if◌then◌else◌}
use Rattle.std.specs.Prelude.{◌⊎◌}
use Rattle.std.specs.List.{Contains}
use Rattle.std.proofs.lemmas.List.{length-drop}
use Rattle.service_tl.specs.declared.lists.Message.{Message}
use Rattle.service_tl.specs.ItemOf.{item_of}
use Rattle.envelope.specs.declared.parts.Envelope.{Envelope}
use Rattle.law_moves.specs.Table as moves
use Rattle.law_moves.specs.World.{World}
use Rattle.law_moves.specs.Move.Move.{Hear}
use Rattle.law_moves.specs.After.{after, after_heard, after_item, after_items}
use Rattle.law_moves.specs.Reached.{Reached}
use Rattle.call_table.specs.Table.{acknowledged, acks_max}
use Rattle.client_rules.specs.Client.{Client, at_moment}
use Rattle.client_rules.specs.Taking.{acknowledges, is_for, message_in, messages_of, row, take, takes_message, without_idle_wish}
use Rattle.msg_ids.specs.Counters.{is_odd}
use Rattle.law_client.specs.Clients.{StandsAs}
use Rattle.law_client.specs.Leading.{Leads}
use Rattle.law_client.specs.Packets.{item_there, items_there, packet_items}
use Rattle.law_client.proofs.Basics.{Apart}
use Rattle.law_client.proofs.Leading.{moves_once, stays}
use Rattle.law_client.proofs.Flushing.{SameParts, calm}
use Rattle.law_client.proofs.Hearing.{NoItem, OneItem, StandsSo, row_so}
use Rattle.law_client.proofs.Settling.{OneName}

-- a message brings an item, or none
pub record Brings (v : World) (number : ℕ) (items : List moves.Item) (client : Client) : Type 0 where
  pub there : moves.Item
  pub takes : Bool
  pub is : items ≡ there ∷ []
  pub so : StandsSo (after_heard v number there takes) number client

pub record BringsNone (v : World) (number : ℕ) (items : List moves.Item) (client : Client) : Type 0 where
  pub is : items ≡ []
  pub so : StandsSo v number client

-- what an end leaves
left_by : (v : World) (number : ℕ) (there : moves.Item) (takes : Bool) → (v.clients number).ended ≡ true → after_heard v number there takes ≡ v
left_by v number there takes is = rw is refl

taken_by : (v : World) (number : ℕ) (there : moves.Item) (takes : Bool) → (v.clients number).ended ≡ false
    → after_heard v number there takes ≡ after_item v number there takes
taken_by v number there takes is = rw is refl

same_acks : (message : Message) (is : Bool) (client : Client)
    → SameParts client (if is then record client { table = record client.table { acks = acknowledged message.number client.table.acks } } else client)
same_acks message true client = record {
  session = refl;
  former = refl;
  salt = refl;
  learnt = refl;
  ended = refl;
  counters = refl;
  calls = refl;
  temporary = refl;
  short = λ h.
      record {
        acks = (let list : List ℕ = client.table.acks ++ message.number ∷ [] in let is = length-drop (length list - acks_max) list in omega (arith, is));
        resent = h.resent;
      };
}
same_acks message false client = record { session = refl; former = refl; salt = refl; learnt = refl; ended = refl; counters = refl; calls = refl; temporary = refl; short = λ h. record { acks = h.acks; resent = h.resent } }

module _ (number outer : ℕ) where
  abbrev MessageSo : World → Message → Client → Type 0
  MessageSo v message client =
      BringsNone v number (item_there (item_of message.body)) client ⊎ Brings v number (item_there (item_of message.body)) client

  -- of a client that has ended
  ended_so : (v : World) (client other : Client) (message : Message) → StandsSo v number client → (v.clients number).ended ≡ true
      → NoItem v number (item_of message.body) other ⊎ OneItem v number (item_of message.body) other → MessageSo v message client
  ended_so v client other message s over (inl none) = inl (record { is = none.is; so = s })
  ended_so v client other message s over (inr one) =
      inr (record {
        there = one.there;
        takes = one.takes;
        is = one.is;
        so = subst (λ (u : World). StandsSo u number client) (sym (left_by v number one.there one.takes over)) s;
      })

  -- and of one that hasn't
  open_so : (v : World) (other : Client) (message : Message) → OneName v → (v.clients number).ended ≡ false
      → NoItem v number (item_of message.body) other ⊎ OneItem v number (item_of message.body) other → MessageSo v message other
  open_so v other message named goes_on (inl none) = inl (record { is = none.is; so = record { stands = none.so; one = named } })
  open_so v other message named goes_on (inr one) =
      inr (record {
        there = one.there;
        takes = one.takes;
        is = one.is;
        so = subst (λ (u : World). StandsSo u number other) (sym (taken_by v number one.there one.takes goes_on)) one.so;
      })

  message_by : (over : Bool) (v : World) (client : Client) (message : Message) → client.has_ended ≡ over → StandsSo v number client
      → MessageSo v message (if over then client else row outer message.number (item_of message.body) (acknowledges message client))
  message_by true v client message is s =
      ended_so v client (row outer message.number (item_of message.body) client) message s (ap (λ (c : moves.Client). c.ended) s.stands.parts ∙ is)
      (row_so v number outer message.number client s (item_of message.body))
  message_by false v client message is s =
      let next : Client = acknowledges message client in
      let so : StandsSo v number next =
      record { stands = calm v number client next (same_acks message (is_odd message.seq) client) s.stands; one = s.one } in
      open_so v (row outer message.number (item_of message.body) next) message s.one (ap (λ (c : moves.Client). c.ended) s.stands.parts ∙ is)
      (row_so v number outer message.number next so (item_of message.body))

  message_so : (v : World) (client : Client) (message : Message) → StandsSo v number client → MessageSo v message (takes_message outer client message)
  message_so v client message s = message_by client.has_ended v client message refl s

  rest_so : (message : Message) (messages : List Message) (v : World) (next : Client)
      → ((u : World) → StandsSo u number next → (takes : List Bool) × StandsSo (after_items u number (items_there messages) takes) number (fold (takes_message outer) next messages))
      → MessageSo v message next
      → (takes : List Bool) × StandsSo (after_items v number (items_there (message ∷ messages)) takes) number (fold (takes_message outer) next messages)
  rest_so message messages v next further (inl none) =
      let rest = further v none.so in (
        rest.0,
        subst (λ (items : List moves.Item). StandsSo (after_items v number (items ++ items_there messages) rest.0) number (fold (takes_message outer) next messages))
            (sym none.is) rest.1,
      )
  rest_so message messages v next further (inr one) =
      let rest = further (after_heard v number one.there one.takes) one.so in (
        one.takes ∷ rest.0,
        subst (λ (items : List moves.Item). StandsSo (after_items v number (items ++ items_there messages) (one.takes ∷ rest.0)) number (fold (takes_message outer) next messages))
            (sym one.is) rest.1,
      )

  pub messages_so : (messages : List Message) (v : World) (client : Client) → StandsSo v number client
      → (takes : List Bool) × StandsSo (after_items v number (items_there messages) takes) number (fold (takes_message outer) client messages)
  messages_so [] v client s = ([], s)
  messages_so (message ∷ messages) v client s =
      rest_so message messages v (takes_message outer client message) (λ u. messages_so messages u (takes_message outer client message)) (message_so v client message s)

timed : (v : World) (time number : ℕ) (client : Client) → StandsAs v number client → StandsAs (record v { time = time }) number client
timed v time number client s = record { made = s.made; parts = s.parts; submitted = s.submitted; calls = s.calls; given = s.given; asked = s.asked; short = s.short }

moment_same : (now : ℕ) (client : Client) → SameParts client (at_moment now client)
moment_same now client = record { session = refl; former = refl; salt = refl; learnt = refl; ended = refl; counters = refl; calls = refl; temporary = refl; short = λ h. record { acks = h.acks; resent = h.resent } }

idle_same : (client : Client) → SameParts client (without_idle_wish client)
idle_same client = record { session = refl; former = refl; salt = refl; learnt = refl; ended = refl; counters = refl; calls = refl; temporary = refl; short = λ h. record { acks = h.acks; resent = h.resent } }

module _ (apart : Apart) (w : World) (number now : ℕ) (client : Client) (envelope : Envelope) (packet : moves.Packet) (reached : Reached w)
    (s : StandsAs w number client) (made : Contains w.downs packet) (session : (w.servers packet.server).session ≡ client.session)
    (items : packet.items ≡ packet_items envelope) where
  abbrev ready : Client
  ready = at_moment now client

  ready_so : StandsSo w number ready
  ready_so = record { stands = calm w number client ready (moment_same now client) s; one = λ one other name same. apart.of_one w one other name same reached }

  heard : (takes : List Bool) × StandsSo (after_items w number (items_there (messages_of (message_in envelope))) takes) number
      (fold (takes_message envelope.number) ready (messages_of (message_in envelope)))
  heard = messages_so number envelope.number (messages_of (message_in envelope)) w ready ready_so

  abbrev taught : Client
  taught = fold (takes_message envelope.number) ready (messages_of (message_in envelope))

  hears_it : Leads number w (λ later. StandsAs later number (without_idle_wish taught))
  hears_it =
      moves_once number w (λ later. StandsAs later number (without_idle_wish taught)) (Hear number packet heard.0)
      (made, session ∙ sym (ap (λ (c : moves.Client). c.present) s.parts)) refl
      (calm (after w (Hear number packet heard.0)) number taught (without_idle_wish taught) (idle_same taught)
      (timed (after_items w number packet.items heard.0) _ number taught
      (subst (λ (l : List moves.Item). StandsAs (after_items w number l heard.0) number taught) (sym items) heard.1.stands)))

  takes_by : (is : Bool) → Leads number w (λ later. StandsAs later number (if is then without_idle_wish taught else ready))
  takes_by true = hears_it
  takes_by false = stays number w (λ later. StandsAs later number ready) ready_so.stands

  takes_it : Leads number w (λ later. StandsAs later number (take now envelope client))
  takes_it = takes_by (is_for client envelope)

pub hears : Apart → (w : World) (number now : ℕ) (client : Client) (envelope : Envelope) (packet : moves.Packet) → Reached w → StandsAs w number client
    → Contains w.downs packet → (w.servers packet.server).session ≡ client.session → packet.items ≡ packet_items envelope
    → Leads number w (λ later. StandsAs later number (take now envelope client))
hears apart w number now client envelope packet reached s made session items =
    takes_it apart w number now client envelope packet reached s made session items

pub unopened : (w : World) (number now : ℕ) (client : Client) → StandsAs w number client → StandsAs w number (at_moment now client)
unopened w number now client s = calm w number client (at_moment now client) (moment_same now client) s

-- a packet that isn't looked at
pub passes_over : (w : World) (number now : ℕ) (client : Client) (envelope : Envelope) → is_for client envelope ≡ false
    → StandsAs w number client → StandsAs w number (take now envelope client)
passes_over w number now client envelope isnt s = rw isnt (unopened w number now client s)
