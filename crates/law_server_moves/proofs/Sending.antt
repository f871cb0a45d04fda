-- A session's messages go out.
use Rattle.std.proofs.Common.{◌≡◌, ℕ, true, List, [], ◌∷◌, ◌++◌, fold, inl, inr, refl, sym, subst}
use Rattle.std.specs.Prelude.{⊤, ◌⊎◌}
use Rattle.std.specs.List.{AllByRecursion, flat_map}
use Rattle.salt_line.specs.Line.{Line, current_salt}
use Rattle.service_tl.specs.declared.item.Item.{Item}
use Rattle.service_tl.specs.declared.item.Item.TheVariants.{NewSessionCreated}
use Rattle.service_tl.specs.declared.lists.Message.{Message}
use Rattle.packing.specs.Packing.{after_packets, groups, packets_of}
use Rattle.waits.specs.Jobs.{Queue}
use Rattle.server_rules.specs.Server.{Session, has_accepted, with_session}
use Rattle.server_rules.specs.Event.{Owed, Setting, Speaker}
use Rattle.server_rules.specs.Speaking.{needs_salts}
use Rattle.server_rules.specs.Sending.{seals, sends}
use Rattle.law_moves.specs.Lawful.{BeginsNew}
use Rattle.law_moves.specs.World.{World}
use Rattle.law_moves.specs.Reached.{Reached, after_all}
use Rattle.law_client.specs.Packets.{item_there}
use Rattle.law_server_moves.specs.Leading.{Leads}
use Rattle.law_server_moves.specs.Servers.{CanSay, IsMade, IsStanding, Past, with_entries}
use Rattle.law_server_moves.specs.Speaking.{IsSaid, SpeaksThere, StandsSpeaking, with_line}
use Rattle.law_server_moves.specs.Sending.{AreSpelt, IsFit, IsSmall, IsSpoken, MayGo}
use Rattle.law_server_moves.proofs.Lists.{all_append, each_of, map_all}
use Rattle.law_server_moves.proofs.Fits.{can_small}
use Rattle.law_server_moves.proofs.Leading.{GoOn, goes_on, leads_so, stays}
use Rattle.law_server_moves.proofs.Kept.{same_jobs}
use Rattle.law_server_moves.proofs.Speaking.{AnySaid, speaks}
use Rattle.law_server_moves.proofs.Speech.{Adds, go_same, owed_still, quietly, said_still}

-- ---- the messages of each packet

split_all : {X : Type 0} (P : X → Type 0) (xs ys : List X) → AllByRecursion P (xs ++ ys) → AllByRecursion P xs × AllByRecursion P ys
split_all P [] ys h = (tt, h)
split_all P (x ∷ xs) ys h = let rest = split_all P xs ys h.1 in ((h.0, rest.0), rest.1)

pub all_groups : {X : Type 0} (P : X → Type 0) (lists : List (List X)) → AllByRecursion P (flat_map (λ list. list) lists) → AllByRecursion (AllByRecursion P) lists
all_groups P [] h = tt
all_groups P (list ∷ lists) h = let parts = split_all P list (flat_map (λ list. list) lists) h in (parts.0, all_groups P lists parts.1)

-- ---- what they say

-- the items that messages spell, all of which the session can say
pub record AreItems (w : World) (y : Session) (messages : List Message) : Type 0 where
  pub items : List Item
  pub spelt : AreSpelt messages items
  pub can : AllByRecursion (CanSay w y) (flat_map item_there items)

items_of : (w : World) (y : Session) (messages : List Message) → AllByRecursion (IsSaid w y) messages → AreItems w y messages
items_of w y [] h = record { items = []; spelt = tt; can = tt }
items_of w y (message ∷ messages) h =
    let rest = items_of w y messages h.1 in
    record {
      items = h.0.item ∷ rest.items;
      spelt = (h.0.body, h.0.plain, rest.spelt);
      can = all_append (CanSay w y) (item_there h.0.item) (flat_map item_there rest.items) h.0.can rest.can;
    }

-- a packet's items that the session may say now
pub record AreNewItems (w : World) (y : Session) (messages : List Message) : Type 0 where
  pub all : AreItems w y messages
  pub begins : (has_accepted y ≡ true) ⊎ BeginsNew (flat_map item_there all.items)

new_items : (w : World) (y : Session) (group : List Message) → AllByRecursion (IsSaid w y) group → MayGo y group → AreNewItems w y group
new_items w y group h (inl accepted) = record { all = items_of w y group h; begins = inl accepted }
new_items w y [] h (inr first) = absurd first
new_items w y (message ∷ messages) h (inr first) =
    let rest = items_of w y messages h.1 in
    record {
      all = record {
        items = NewSessionCreated first.0 y.unique first.1 ∷ rest.items;
        spelt = (first.2, tt, rest.spelt);
        can = ((refl, first.3), rest.can);
      };
      begins = inr tt;
    }

-- ---- the packets

module _ (adds : Adds) (on : GoOn) (any : AnySaid) (gone : Past) (sessions : List Session) (y : Session) (jobs : Queue) (owed : List Owed) (fit : IsFit y) where
  abbrev At : World → Type 0
  At w = StandsSpeaking w gone sessions y jobs owed

  stands_made : (w : World) → At w → IsMade w y
  stands_made w h = (each_of (IsStanding w) (with_session y sessions) h.stands.standing y h.among).made

  speaks_one : (w : World) → Reached w → At w → (group : List Message) → AllByRecursion (IsSaid w y) group → MayGo y group → Leads w (λ later. At later × IsSpoken later y.unique group)
  speaks_one w reached h group said may =
      let new = new_items w y group said may in
      let l = speaks any w gone (with_session y sessions) jobs reached h.stands y h.among (flat_map item_there new.all.items) new.all.can new.begins in
      let v : World = after_all w l.moves in
      record {
        moves = l.moves;
        lawful = l.lawful;
        own = l.own;
        gives = (
          record {
            stands = l.gives.0;
            among = h.among;
            owed = owed_still w v y y.counters y.replies (λ reply same. same) (λ n has. adds.forgotten w l.moves l.lawful y.unique n has) (λ m has. adds.messages w l.moves l.lawful m has) owed h.owed;
          },
          record {
            items = new.all.items;
            spelt = new.all.spelt;
            there = l.gives.1;
            small = map_all (CanSay w y) IsSmall (flat_map item_there new.all.items) (λ item is can. can_small w y fit (stands_made w h) item can) new.all.can;
          },
        );
      }

  speaks_all : (w : World) → Reached w → At w → (lists : List (List Message)) → AllByRecursion (AllByRecursion (IsSaid w y)) lists → AllByRecursion (MayGo y) lists
      → Leads w (λ later. At later × AllByRecursion (IsSpoken later y.unique) lists)
  speaks_all w reached h [] said may = stays w (λ later. At later × ⊤) (h, tt)
  speaks_all w reached h (group ∷ lists) said may =
      goes_on on w (λ later. (At later × IsSpoken later y.unique group) × AllByRecursion (AllByRecursion (IsSaid later y)) lists)
      (λ later. At later × AllByRecursion (IsSpoken later y.unique) (group ∷ lists)) reached
      (let l = speaks_one w reached h group said.0 may.0 in
      record {
        moves = l.moves;
        lawful = l.lawful;
        own = l.own;
        gives = (
          l.gives,
          map_all (AllByRecursion (IsSaid w y)) (AllByRecursion (IsSaid (after_all w l.moves) y)) lists
              (λ list is s. map_all (IsSaid w y) (IsSaid (after_all w l.moves) y) list
              (λ message there one. said_still w (after_all w l.moves) y y.counters y.replies (λ reply same. same) (λ n has. adds.forgotten w l.moves l.lawful y.unique n has) (λ m has. adds.messages w l.moves l.lawful m has) message one) s) said.1,
        );
      })
      (λ later reached k.
      let rest = speaks_all later reached k.0.0 lists k.1 may.1 in
      record {
        moves = rest.moves;
        lawful = rest.lawful;
        own = rest.own;
        gives = (
          rest.gives.0,
          (record { items = k.0.1.items; spelt = k.0.1.spelt; there = adds.packets later rest.moves rest.lawful (record { server = y.unique; items = flat_map item_there k.0.1.items }) k.0.1.there; small = k.0.1.small }, rest.gives.1),
        );
      })

-- ---- sealing

module _ {S : Type 0} (setting : Setting S) (gone : Past) (sessions : List Session) (line : Line) where
  sealed : (w : World) (salt : ℕ) (packets : List Message) (speaker : Speaker S) → SpeaksThere w gone sessions line speaker
      → SpeaksThere w gone sessions line (fold (seals setting salt) speaker packets)
  sealed w salt [] speaker h = h
  sealed w salt (packet ∷ packets) speaker h = sealed w salt packets (seals setting salt speaker packet) h

  pub sends_on : Adds → GoOn → AnySaid → ((messages : List Message) → flat_map (λ group. group) (groups messages) ≡ messages)
      → (w : World) (messages : List Message) (speaker : Speaker S) → Reached w → SpeaksThere w gone sessions line speaker
      → AllByRecursion (IsSaid w (with_line line speaker.session)) messages
      → AllByRecursion (MayGo (with_line line speaker.session)) (groups messages) → IsFit (with_line line speaker.session)
      → Leads w (λ later. SpeaksThere later gone sessions line (sends setting messages speaker) × AllByRecursion (IsSpoken later speaker.session.unique) (groups messages))
  sends_on adds on any whole w messages speaker reached h said may fit =
      let y : Session = with_line line speaker.session in
      let ready : Speaker S = needs_salts setting 1 speaker in
      let counters = after_packets setting.now ready.session.counters messages in
      let numbered : Speaker S = record ready { session = record ready.session { counters = counters } } in
      leads_so w (λ later. StandsSpeaking later (with_entries speaker.entries gone) sessions y speaker.jobs speaker.owed × AllByRecursion (IsSpoken later y.unique) (groups messages))
      (λ later. SpeaksThere later gone sessions line (sends setting messages speaker) × AllByRecursion (IsSpoken later speaker.session.unique) (groups messages))
      (λ later k. (
        sealed later (current_salt ready.session.salts setting.now) (packets_of setting.now ready.session.counters messages) numbered
            (quietly later (with_entries speaker.entries gone) sessions y speaker.jobs speaker.owed k.0 counters y.replies speaker.jobs (go_same y.replies) (same_jobs speaker.jobs)),
        k.1,
      ))
      (speaks_all adds on any (with_entries speaker.entries gone) sessions y speaker.jobs speaker.owed fit w reached h (groups messages)
      (all_groups (IsSaid w y) (groups messages) (subst (λ (l : List Message). AllByRecursion (IsSaid w y) l) (sym (whole messages)) said)) may)
