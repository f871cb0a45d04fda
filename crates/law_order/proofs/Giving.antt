-- Each event of a world keeps the numbers of its packets.
use Rattle.std.proofs.Common.{◌≡◌, ◌≢◌, ◌∙◌, zero, suc, ℕ, Option, Some, List, [], ◌∷◌, ◌++◌, length, map, inl, inr, refl, sym, ap, subst, arith}
use Rattle.std.specs.Prelude.{slice_get}
use Rattle.std.specs.List.{AllByRecursion, Contains, flat_map}
use Rattle.std.proofs.lemmas.Bool.{cases_eq}
use Rattle.std.proofs.lemmas.List.{append-nil}
use Rattle.std.proofs.lemmas.List.Elements.{Contains-append_left, Contains-append_right, Contains-push}
use Rattle.draws.specs.Draws.{word_after}
use Rattle.service_tl.specs.declared.lists.Message.{Message}
use Rattle.envelope.specs.declared.parts.Dir.TheVariants.{Up, Down}
use Rattle.client_rules.specs.Client.{Client, Temporary, at_moment}
use Rattle.client_rules.specs.Events.{Run, made, renewed, step}
use Rattle.client_rules.specs.Events as wishes
use Rattle.client_rules.specs.Flush.{Answer, Nothing, Sends, Spent, filled, flush}
use Rattle.client_rules.specs.Taking.{message_in}
use Rattle.client_rules.specs.Sending.{Setting as ClientSetting}
use Rattle.law_order.specs.Given.{Given, HasGiven, IsAnswerOf, IsRenewal, given_after, given_by}
use Rattle.server_rules.specs.Event.{Sent}
use Rattle.world_rules.specs.World.{Packet, Seat, World, changed_at, changed_from_0, counted}
use Rattle.world_rules.specs.Premises.{Fresh, drawn_for_session, names_drawn, sessions_drawn}
use Rattle.world_rules.specs.Ends.{sent_down, sent_up}
use Rattle.world_rules.specs.Run.{set}
use Rattle.world_rules.specs.World as rules
use Rattle.law_order.specs.Numbers.{AreGivenOnce, IsGiven, IsGivenUnder}
use Rattle.law_order.proofs.Lists.{all-append, all-made, all-members, all-weaker, here, some-same}
use Rattle.law_order.proofs.Places.{changed-other, changed-there, get-append, get-below, get-changed, get-end, get-map, get-more, map-get}
use Rattle.law_order.proofs.Distinct.{Distinct, across, disjoint, from-pairs, front, own}
use Rattle.law_order.proofs.Walking.{IsIdle, IsWish}

-- what is known of a client
pub record Numbers (S : Type 0) (setting : ClientSetting S) : Type 0 where
  pub made : (key : ℕ) (temporary : Option Temporary) (draw : S) → IsIdle temporary → HasGiven [] (made setting key temporary draw).client
  pub event : (run : Run S) (event : wishes.Event) (given : Given) → HasGiven given.present run.client
      → HasGiven (given_after setting run event given).present (step setting run event).client
  pub session : (run : Run S) (event : wishes.Event) (given : List Message) → (IsRenewal event → ⊥) → HasGiven given run.client
      → ((step setting run event).client.session ≡ run.client.session) × ((step setting run event).client.former ≡ run.client.former)
  pub packet : (now : ℕ) (client : Client) (draw : S) (given : List Message) → HasGiven given client
      → IsAnswerOf client.session (filled setting (at_moment now client) draw).messages (flush setting now client draw).answer

-- what a client gave under its present session number
pub record SeatHas (bag : List Packet) (seat : Seat) : Type 0 where
  pub given : List Message
  pub packets : AllByRecursion (IsGivenUnder seat.client.session given) bag
  pub has : HasGiven given seat.client

-- a client has or had the session number
pub record IsOwned (seats : List Seat) (session : ℕ) : Type 0 where
  pub place : ℕ
  pub seat : Seat
  pub there : slice_get seats place ≡ Some seat
  pub drawn : Contains (sessions_drawn seat) session

abbrev pub IsUpOwned : List Seat → Packet → Type 0
IsUpOwned seats packet = packet.dir ≡ Up → IsOwned seats packet.envelope.session

-- what is kept
pub record Keeps (all : List Seat) (bag : List Packet) : Type 0 where
  pub seats : (place : ℕ) (seat : Seat) → slice_get all place ≡ Some seat → SeatHas bag seat
  pub owned : AllByRecursion (IsUpOwned all) bag
  pub once : (session : ℕ) → AreGivenOnce bag session

abbrev pub AreApart : List Seat → Type 0
AreApart seats = Distinct (flat_map sessions_drawn seats)

pub fresh-apart : {S V : Type 0} (world : World S V) → Fresh world → AreApart world.seats
fresh-apart world fresh =
    front (flat_map sessions_drawn world.seats) (flat_map drawn_for_session (rules.lives world)) (from-pairs (names_drawn world) fresh.apart)

-- ---- seats that have or had the same session numbers

-- each seat stands in its place, with the session numbers that it had
abbrev Stay : List Seat → List Seat → Type 0
Stay seats laters = (place : ℕ) (seat : Seat) → slice_get seats place ≡ Some seat
    → (later : Seat) × (slice_get laters place ≡ Some later) × ((session : ℕ) → Contains (sessions_drawn seat) session → Contains (sessions_drawn later) session)

owned-later : (seats laters : List Seat) (bag : List Packet) → Stay seats laters → AllByRecursion (IsUpOwned seats) bag → AllByRecursion (IsUpOwned laters) bag
owned-later seats laters bag stay all =
    all-weaker (IsUpOwned seats) (IsUpOwned laters) bag
    (λ packet owned up.
    let was = owned up in
    let now = stay was.place was.seat was.there in
    record { place = was.place; seat = now.0; there = now.1; drawn = now.2 packet.envelope.session was.drawn }) all

-- the same clients, with other clocks
clocked : (bag : List Packet) (moment : ℕ) (seat : Seat) → SeatHas bag seat → SeatHas bag (set moment seat)
clocked bag moment seat has = record { given = has.given; packets = has.packets; has = has.has }

pub all_set-keeps : (seats : List Seat) (bag : List Packet) (moment : ℕ) → Keeps seats bag → Keeps (map (set moment) seats) bag
all_set-keeps seats bag moment k =
    record {
      seats = λ place later is.
          let was = get-map (set moment) seats place later is in
          subst (SeatHas bag) was.2 (clocked bag moment was.0 (k.seats place was.0 was.1));
      owned = owned-later seats (map (set moment) seats) bag (λ place seat is. (set moment seat, map-get (set moment) seats place seat is, λ session drawn. drawn)) k.owned;
      once = k.once;
    }

-- one changes, and has or had all session numbers that it had
stay-changed : (seats : List Seat) (k : ℕ) (change : Seat → Seat)
    → ((seat : Seat) → slice_get seats k ≡ Some seat → (session : ℕ) → Contains (sessions_drawn seat) session → Contains (sessions_drawn (change seat)) session)
    → Stay seats (changed_from_0 k change seats)
stay-changed seats k change more place seat is =
    elim (cases_eq place k) [
      | inl same ↦
          let at : slice_get seats k ≡ Some seat = ap (slice_get seats) (sym same) ∙ is in
          (change seat, ap (slice_get (changed_from_0 k change seats)) same ∙ changed-there k change seats seat at, more seat at)
      | inr differs ↦ (seat, changed-other k change seats place seat differs is, λ session drawn. drawn)
    ]

pub one_set-keeps : (seats : List Seat) (bag : List Packet) (number moment : ℕ) → Keeps seats bag → Keeps (changed_at number (set moment) seats) bag
one_set-keeps seats bag zero moment k = k
one_set-keeps seats bag (suc place) moment k =
    record {
      seats = λ q later is.
          elim (get-changed place (set moment) seats q later is) [
            | inl other ↦ k.seats q later other.1
            | inr its ↦ let was = its.1 in subst (SeatHas bag) was.2 (clocked bag moment was.0 (k.seats q was.0 was.1))
          ];
      owned = owned-later seats (changed_from_0 place (set moment) seats) bag (stay-changed seats place (set moment) (λ seat at session drawn. drawn)) k.owned;
      once = k.once;
    }

-- ---- a client joins

pub joined-keeps : (seats : List Seat) (bag : List Packet) (new : Seat) → new.client.former ≡ [] → HasGiven [] new.client → AreApart (seats ++ new ∷ []) → Keeps seats bag
    → Keeps (seats ++ new ∷ []) bag
joined-keeps seats bag new none has apart k =
    record {
      seats = λ place later is.
          elim (get-more seats new place later is) [
            | inl old ↦ k.seats place later old
            | inr last ↦ subst (SeatHas bag) last (record { given = []; packets = nothing; has = has })
          ];
      owned = owned-later seats (seats ++ new ∷ []) bag (λ place seat is. (seat, get-append seats (new ∷ []) place seat is, λ session drawn. drawn)) k.owned;
      once = k.once;
    } where
      nothing : AllByRecursion (IsGivenUnder new.client.session []) bag
      nothing =
          all-weaker (IsUpOwned seats) (IsGivenUnder new.client.session []) bag
          (λ packet owned up same.
          let was = owned up in
          let below = get-below seats was.seat was.place was.there in
          absurd
          (disjoint sessions_drawn (seats ++ new ∷ []) was.place (length seats) was.seat new packet.envelope.session (λ same. omega (arith, same, below))
          (get-append seats (new ∷ []) was.place was.seat was.there) (get-end seats new) apart was.drawn
          (subst (Contains (sessions_drawn new)) (sym same) (Contains-push new.client.former new.client.session))))
          k.owned

-- ---- a client does something

module _ {S : Type 0} (setting : ClientSetting S) (numbers : Numbers S setting) (seats : List Seat) (bag : List Packet) (k : Keeps seats bag) (place : ℕ) (seat : Seat) (at : slice_get seats place ≡ Some seat) (draw : S) where
  abbrev run : Run S
  run = record { client = seat.client; draw = draw }

  abbrev As : Client → Seat → Seat
  As client seat = record seat { client = client }

  abbrev Laters : Client → List Seat
  Laters client = changed_from_0 place (As client) seats

  own_seat : SeatHas bag seat
  own_seat = k.seats place seat at

  -- a change of what it gave under its present session number
  changed-keeps : (client : Client) → SeatHas bag (record seat { client = client })
      → ((session : ℕ) → Contains (sessions_drawn seat) session → Contains (sessions_drawn (record seat { client = client })) session) → Keeps (Laters client) bag
  changed-keeps client has more =
      record {
        seats = λ q later is.
            elim (get-changed place (As client) seats q later is) [
              | inl other ↦ k.seats q later other.1
              | inr its ↦
                  let was = its.1 in
                  let same : was.0 ≡ seat =
                  some-same was.0 seat (sym was.1 ∙ (ap (slice_get seats) its.0 ∙ at)) in
                  subst (SeatHas bag) (ap (As client) (sym same) ∙ was.2) has
            ];
        owned =
            owned-later seats (Laters client) bag
            (stay-changed seats place (As client)
            (λ one there session drawn.
            let same : one ≡ seat = some-same one seat (sym there ∙ at) in
            subst (λ (one : Seat). Contains (sessions_drawn (As client one)) session) (sym same) (more session (subst (λ (one : Seat). Contains (sessions_drawn one) session) same drawn))))
            k.owned;
        once = k.once;
      }

  -- in the same session
  same-keeps : (client : Client) → client.session ≡ seat.client.session → client.former ≡ seat.client.former → HasGiven own_seat.given client → Keeps (Laters client) bag
  same-keeps client session former has =
      changed-keeps client
      (record {
        given = own_seat.given;
        packets = subst (λ (number : ℕ). AllByRecursion (IsGivenUnder number own_seat.given) bag) (sym session) own_seat.packets;
        has = has;
      })
      (λ number drawn.
      subst (λ (former : List ℕ). Contains (former ++ client.session ∷ []) number) (sym former)
      (subst (λ (present : ℕ). Contains (seat.client.former ++ present ∷ []) number) (sym session) drawn))

  -- in another session
  renewed-keeps : (word : ℕ) → HasGiven [] (renewed word seat.client) → AreApart (Laters (renewed word seat.client)) → Keeps (Laters (renewed word seat.client)) bag
  renewed-keeps word has apart =
      changed-keeps (renewed word seat.client) (record { given = []; packets = nothing; has = has })
      (λ session drawn. Contains-append_left (seat.client.former ++ seat.client.session ∷ []) (word ∷ []) session drawn) where
        client : Client
        client = renewed word seat.client

        nothing : AllByRecursion (IsGivenUnder word []) bag
        nothing =
            all-weaker (IsUpOwned seats) (IsGivenUnder word []) bag
            (λ packet owned up same.
            let was = owned up in
            let there : slice_get (Laters (renewed word seat.client)) place ≡ Some (As (renewed word seat.client) seat) = changed-there place (As (renewed word seat.client)) seats seat at in
            let mine : Contains (sessions_drawn (As (renewed word seat.client) seat)) word = Contains-push (seat.client.former ++ seat.client.session ∷ []) word in
            elim (cases_eq was.place place) [
              | inl here_ ↦
                  let its : was.seat ≡ seat = some-same was.seat seat (sym was.there ∙ (ap (slice_get seats) here_ ∙ at)) in
                  let drawn : Contains (sessions_drawn seat) word =
                  subst (Contains (sessions_drawn seat)) same (subst (λ (one : Seat). Contains (sessions_drawn one) packet.envelope.session) its was.drawn) in
                  absurd
                  (across (seat.client.former ++ seat.client.session ∷ []) (word ∷ []) word
                  (own sessions_drawn (Laters (renewed word seat.client)) place (As (renewed word seat.client) seat) there apart) drawn (here word []))
              | inr differs ↦
                  absurd
                  (disjoint sessions_drawn (Laters (renewed word seat.client)) was.place place was.seat (As (renewed word seat.client) seat) word differs
                  (changed-other place (As (renewed word seat.client)) seats was.place was.seat differs was.there) there apart
                  (subst (Contains (sessions_drawn was.seat)) same was.drawn) mine)
            ])
            k.owned

  quiet : (wish : wishes.Event) → IsWish wish → (IsRenewal wish → ⊥) → (given : Given) → given_after setting run wish given ≡ given
  quiet (wishes.Submit body after) is on given = refl
  quiet wishes.Attach is on given = refl
  quiet wishes.Tick is on given = refl
  quiet (wishes.Ping id) is on given = refl
  quiet (wishes.AskSalts count) is on given = refl
  quiet (wishes.Drop call) is on given = refl
  quiet (wishes.Flush now) is on given = absurd is
  quiet (wishes.Take now opened) is on given = refl
  quiet wishes.Renew is on given = absurd (on tt)
  quiet wishes.End is on given = refl

  on-keeps : (wish : wishes.Event) → IsWish wish → (IsRenewal wish → ⊥) → Keeps (Laters (step setting run wish).client) bag
  on-keeps wish is on =
      let given : Given = record { present = own_seat.given; former = [] } in
      let same = numbers.session run wish own_seat.given on own_seat.has in
      same-keeps (step setting run wish).client same.0 same.1
      (subst (λ (given : Given). HasGiven given.present (step setting run wish).client) (quiet wish is on given) (numbers.event run wish given own_seat.has))

  pub acted-keeps : (wish : wishes.Event) → IsWish wish → AreApart (Laters (step setting run wish).client) → Keeps (Laters (step setting run wish).client) bag
  acted-keeps (wishes.Submit body after) is apart = on-keeps (wishes.Submit body after) is (λ no. no)
  acted-keeps wishes.Attach is apart = on-keeps wishes.Attach is (λ no. no)
  acted-keeps wishes.Tick is apart = on-keeps wishes.Tick is (λ no. no)
  acted-keeps (wishes.Ping id) is apart = on-keeps (wishes.Ping id) is (λ no. no)
  acted-keeps (wishes.AskSalts count) is apart = on-keeps (wishes.AskSalts count) is (λ no. no)
  acted-keeps (wishes.Drop call) is apart = on-keeps (wishes.Drop call) is (λ no. no)
  acted-keeps (wishes.Flush now) is apart = absurd is
  acted-keeps (wishes.Take now opened) is apart = on-keeps (wishes.Take now opened) is (λ no. no)
  acted-keeps wishes.Renew is apart =
      renewed-keeps (word_after setting.step 0 draw) (numbers.event run wishes.Renew (record { present = own_seat.given; former = [] }) own_seat.has) apart
  acted-keeps wishes.End is apart = on-keeps wishes.End is (λ no. no)

  -- ---- a flush

  given-more : (given more : List Message) (session : ℕ) (packet : Packet) → IsGivenUnder session given packet → IsGivenUnder session (given ++ more) packet
  given-more given more session packet is up same =
      let was = is up same in
      record {
        messages = was.messages;
        made = was.made;
        among = all-weaker (Contains given) (Contains (given ++ more)) was.messages (λ message among. Contains-append_left given more message among) was.among;
        outer = Contains-append_left given more (message_in packet.envelope) was.outer;
      }

  -- the packet of a flush, and what its client has then
  went-keeps : (client : Client) (answer : Answer) (messages : List Message) → client.session ≡ seat.client.session → client.former ≡ seat.client.former
      → HasGiven (own_seat.given ++ given_by messages answer) client → IsAnswerOf seat.client.session messages answer → AreApart seats
      → Keeps (Laters client) (bag ++ sent_up answer)
  went-keeps client Nothing messages session former has of apart =
      let none : own_seat.given ++ [] ≡ own_seat.given = append-nil own_seat.given in
      subst (Keeps (Laters client)) (sym (append-nil bag)) (same-keeps client session former (subst (λ (given : List Message). HasGiven given client) none has))
  went-keeps client Spent messages session former has of apart =
      let none : own_seat.given ++ [] ≡ own_seat.given = append-nil own_seat.given in
      subst (Keeps (Laters client)) (sym (append-nil bag)) (same-keeps client session former (subst (λ (given : List Message). HasGiven given client) none has))
  went-keeps client (Sends sent) messages session former has of apart =
      let packet : Packet = record { dir = Up; envelope = sent.envelope; padding = sent.padding } in
      let more : List Message = messages ++ message_in sent.envelope ∷ [] in
      let all : List Message = own_seat.given ++ more in
      let new : IsGiven all sent.envelope =
      record {
        messages = messages;
        made = of.1;
        among =
            all-members (Contains all) messages
            (λ message among. Contains-append_right own_seat.given more message (Contains-append_left messages (message_in sent.envelope ∷ []) message among));
        outer = Contains-append_right own_seat.given more (message_in sent.envelope) (Contains-push messages (message_in sent.envelope));
      } in
      let mine : AllByRecursion (IsGivenUnder seat.client.session all) (bag ++ packet ∷ []) =
      all-append (IsGivenUnder seat.client.session all) bag (packet ∷ [])
      (all-weaker (IsGivenUnder seat.client.session own_seat.given) (IsGivenUnder seat.client.session all) bag
      (λ one is. given-more own_seat.given more seat.client.session one is) own_seat.packets) ((λ up same. new), tt) in
      let others : (number : ℕ) (given : List Message) → number ≢ seat.client.session → AllByRecursion (IsGivenUnder number given) bag → AllByRecursion (IsGivenUnder number given) (bag ++ packet ∷ []) =
      λ number given differs are.
      all-append (IsGivenUnder number given) bag (packet ∷ []) are ((λ up same. absurd (differs (sym same ∙ of.0))), tt) in
      let there : slice_get (Laters client) place ≡ Some (As client seat) = changed-there place (As client) seats seat at in
      let stays : Keeps (Laters client) bag =
      changed-keeps client
      (record {
        given = all;
        packets =
            subst (λ (number : ℕ). AllByRecursion (IsGivenUnder number all) bag) (sym session)
            (all-weaker (IsGivenUnder seat.client.session own_seat.given) (IsGivenUnder seat.client.session all) bag
            (λ one is. given-more own_seat.given more seat.client.session one is) own_seat.packets);
        has = has;
      })
      (λ number drawn.
      subst (λ (former : List ℕ). Contains (former ++ client.session ∷ []) number) (sym former)
      (subst (λ (present : ℕ). Contains (seat.client.former ++ present ∷ []) number) (sym session) drawn)) in
      record {
        seats = λ q later is.
            elim (get-changed place (As client) seats q later is) [
              | inl other ↦
                  let was = k.seats q later other.1 in
                  record {
                    given = was.given;
                    packets =
                        others later.client.session was.given
                        (λ same.
                        disjoint sessions_drawn seats q place later seat later.client.session other.0 other.1 at apart
                        (Contains-push later.client.former later.client.session)
                        (subst (Contains (sessions_drawn seat)) (sym same) (Contains-push seat.client.former seat.client.session)))
                        was.packets;
                    has = was.has;
                  }
              | inr its ↦
                  let was = its.1 in
                  let same : was.0 ≡ seat = some-same was.0 seat (sym was.1 ∙ (ap (slice_get seats) its.0 ∙ at)) in
                  subst (SeatHas (bag ++ packet ∷ [])) (ap (As client) (sym same) ∙ was.2)
                  (record {
                    given = all;
                    packets = subst (λ (number : ℕ). AllByRecursion (IsGivenUnder number all) (bag ++ packet ∷ [])) (sym session) mine;
                    has = has;
                  })
            ];
        owned =
            all-append (IsUpOwned (Laters client)) bag (packet ∷ []) stays.owned (
              (λ up. record {
                place = place;
                seat = As client seat;
                there = there;
                drawn =
                    subst (Contains (client.former ++ client.session ∷ [])) (session ∙ sym of.0) (Contains-push client.former client.session);
              }),
              tt,
            );
        once = λ number.
            elim (cases_eq number seat.client.session) [
              | inl same ↦ record {
                given = all;
                once = has.once;
                packets = subst (λ (number : ℕ). AllByRecursion (IsGivenUnder number all) (bag ++ packet ∷ [])) (sym same) mine;
              }
              | inr differs ↦
                  let was = k.once number in
                  record { given = was.given; once = was.once; packets = others number was.given differs was.packets }
            ];
      }

  pub flushed-keeps : (moment : ℕ) → AreApart seats
      → Keeps (Laters (flush setting moment seat.client draw).client) (bag ++ sent_up (flush setting moment seat.client draw).answer)
  flushed-keeps moment apart =
      let given : Given = record { present = own_seat.given; former = [] } in
      let done = flush setting moment seat.client draw in
      let same = numbers.session run (wishes.Flush moment) own_seat.given (λ no. no) own_seat.has in
      went-keeps done.client done.answer (filled setting (at_moment moment seat.client) draw).messages same.0 same.1
      (numbers.event run (wishes.Flush moment) given own_seat.has) (numbers.packet moment seat.client draw own_seat.given own_seat.has) apart

-- ---- the server does something

no-up : Down ≡ Up → ⊥
no-up is = cc

pub served-keeps : (seats : List Seat) (bag : List Packet) (sent : List Sent) → Keeps seats bag → Keeps seats (bag ++ map sent_down sent)
served-keeps seats bag sent k =
    let down : (number : ℕ) (given : List Message) → AllByRecursion (IsGivenUnder number given) (map sent_down sent) =
    λ number given. all-made (IsGivenUnder number given) sent_down sent (λ one up. absurd (no-up up)) in
    record {
      seats = λ place seat is.
          let was = k.seats place seat is in
          record {
            given = was.given;
            packets = all-append (IsGivenUnder seat.client.session was.given) bag (map sent_down sent) was.packets (down seat.client.session was.given);
            has = was.has;
          };
      owned = all-append (IsUpOwned seats) bag (map sent_down sent) k.owned (all-made (IsUpOwned seats) sent_down sent (λ one up. absurd (no-up up)));
      once = λ number.
          let was = k.once number in
          record { given = was.given; once = was.once; packets = all-append (IsGivenUnder number was.given) bag (map sent_down sent) was.packets (down number was.given) };
    }
