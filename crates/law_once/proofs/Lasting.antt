-- What stays of a world where its clients and servers move.
use Rattle.std.proofs.Common.{◌≡◌, ◌≢◌, ℕ, List, Option, Some, None, inl, inr, refl, sym, ap, subst, ◌∙◌}
use Rattle.std.specs.Prelude.{slice_get, option_map}
use Rattle.std.specs.List.{AllByRecursion, Contains}
use Rattle.service_tl.specs.declared.lists.Message.{Message}
use Rattle.envelope.specs.declared.parts.Dir.{Dir}
use Rattle.envelope.specs.declared.parts.Dir.TheVariants.{Up, Down}
use Rattle.envelope.specs.declared.parts.Envelope.{Envelope}
use Rattle.law_moves.specs.Table as moves
use Rattle.law_moves.specs.World.{Owns, World}
use Rattle.law_moves.specs.Extends.{Extends}
use Rattle.law_client.specs.Clients.{StandsAs}
use Rattle.law_client.specs.Sent.{IsPacketSent, IsSent, WasSent}
use Rattle.client_rules.specs.Taking.{message_in}
use Rattle.world_rules.specs.World.{Packet, Seat}
use Rattle.law_once.specs.Standing.{AreSeated, IsBagged, IsDown, IsKeyOf, IsSeated, IsThere, key_at}
use Rattle.law_once.proofs.Lists.{map_all}

-- ---- packets

module _ (ups more : List moves.Message) (grow : (message : moves.Message) → Contains ups message → Contains more message) where
  was_still : (session salt number : ℕ) (call : Option moves.Text) → WasSent ups session salt number call → WasSent more session salt number call
  was_still session salt number call h = record { up = h.up; there = grow h.up h.there; under = h.under; salted = h.salted; numbered = h.numbered; is = h.is }

  sent_still : (session salt : ℕ) (message : Message) → IsSent ups session salt message → IsSent more session salt message
  sent_still session salt message h = (h.0, h.1, was_still session salt message.number h.0 h.2)

  pub packet_still : (envelope : Envelope) → IsPacketSent ups envelope → IsPacketSent more envelope
  packet_still envelope (inl h) = inl (sent_still envelope.session envelope.salt (message_in envelope) h)
  packet_still envelope (inr h) = inr (record {
    messages = h.messages;
    body = h.body;
    inner = map_all (IsSent ups envelope.session envelope.salt) (IsSent more envelope.session envelope.salt) h.messages (λ message is sent. sent_still envelope.session envelope.salt message sent) h.inner;
    outer = was_still envelope.session envelope.salt envelope.number None h.outer;
    below = h.below;
  })

-- ---- keys

-- the same clients by their keys, and maybe more
abbrev pub KeepKeys : List Seat → List Seat → Type 0
KeepKeys seats later = (place key : ℕ) → key_at place seats ≡ Some key → key_at place later ≡ Some key

pub keys_same : (seats : List Seat) → KeepKeys seats seats
keys_same seats place key is = is

some_seat : (found : Option Seat) (key : ℕ) → option_map (λ (seat : Seat). seat.client.key) found ≡ Some key → (seat : Seat) × (found ≡ Some seat)
some_seat None key is = absurd (cc)
some_seat (Some seat) key is = (seat, refl)

module _ (w v : World) (seats later : List Seat) (extends : Extends w v) (keep : KeepKeys seats later) (seated : AreSeated w seats)
    (owned : (client session : ℕ) → (w.clients client).present ≢ 0 → Owns (w.clients client) session → Owns (v.clients client) session) where
  pub key_still : (session key : ℕ) → IsKeyOf w seats session key → IsKeyOf v later session key
  key_still session key h =
      let found = some_seat (slice_get seats h.place) key h.holds in
      let stands : StandsAs w h.place found.0.client = subst (λ (f : Option Seat). IsSeated w h.place f) found.1 (seated h.place) in
      record {
        place = h.place;
        owned = owned h.place session (λ none. stands.made (sym (ap (λ (c : moves.Client). c.present) stands.parts) ∙ none)) h.owned;
        holds = keep h.place key h.holds;
      }

  pub down_still : (envelope : Envelope) → IsDown w envelope → IsDown v envelope
  down_still envelope h = record {
    unique = h.unique;
    made = extends.servers.made h.unique h.made;
    session = extends.servers.session h.unique h.made ∙ h.session;
    there = extends.packets _ h.there;
  }

  there_still : (dir : Dir) (envelope : Envelope) → IsThere w seats dir envelope → IsThere v later dir envelope
  there_still Up envelope h = (packet_still w.ups v.ups extends.messages envelope h.0, key_still envelope.session envelope.key h.1)
  there_still Down envelope h = down_still envelope h

  pub bag_still : (bag : List Packet) → AllByRecursion (IsBagged w seats) bag → AllByRecursion (IsBagged v later) bag
  bag_still bag h = map_all (IsBagged w seats) (IsBagged v later) bag (λ packet is there. there_still packet.dir packet.envelope there) h
