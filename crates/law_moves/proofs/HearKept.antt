-- Each item of a packet that is heard keeps all, and so does the packet.
use Rattle.std.proofs.Common.{◌≡◌, ℕ, ◌==◌, nat_lt, Bool, true, false, List, [], ◌∷◌, length, ◌⊎◌, inl, inr, sym, refl, ap, ◌∙◌, subst}
use Rattle.std.specs.List.{Contains, list_any}
use Rattle.law_moves.specs.Table.{Item, ServerSession, Packet}
use Rattle.law_moves.specs.Table.Item.{NewSession, Result, Notice, WrongSalt}
use Rattle.law_moves.specs.World.{World, HasAccepted}
use Rattle.law_moves.specs.After.{end_client, after_settled, state_noticed, after_learnt, learn, after_item, after_heard, after_items, LEARNT_MAX}
use Rattle.law_moves.specs.Lawful.{IsMadeClient, BeginsNew, MaySay}
use Rattle.law_moves.proofs.Kept.{Kept}
use Rattle.law_moves.proofs.Basics.{contains_first, contains_rest, contains_cases, contains_none, chosen}
use Rattle.std.proofs.lemmas.Bool.{both_ways, cond_both, or_parts, eqb-false, ltb-true}
use Rattle.law_moves.proofs.OwnKept.{kept_after_end}
use Rattle.law_moves.proofs.Taker.{accepted_knows}
use Rattle.law_moves.proofs.Heard.{Takes, among_if, resulted, noticed, salt_taken}
use Rattle.law_moves.proofs.Learnt.{kept_after_learnt}

-- the client has learnt the packet's server session, or leaves the rest of the packet
abbrev pub IsKnown : World → ℕ → ℕ → Type 0
IsKnown w client unique = Contains (w.clients client).learnt unique ⊎ ((w.clients client).ended ≡ true)

-- what stays while a packet is heard
pub record Hears (now : ℕ) (w later : World) (client unique : ℕ) : Type 0 where
  pub kept : Kept now later
  pub downs : later.downs ≡ w.downs
  pub servers : later.servers ≡ w.servers
  pub present : (later.clients client).present ≡ (w.clients client).present
  pub known : IsKnown later client unique

abbrev IsNewItem : Item → Type 0
IsNewItem (NewSession unique salt) = Unit {0}
IsNewItem (Result number reply) = ⊥
IsNewItem (Notice number code) = ⊥
IsNewItem (WrongSalt number salt) = ⊥

pub not_among : (n : ℕ) (list : List ℕ) → list_any (λ m. m == n) list ≡ false → Contains list n → ⊥
not_among n [] h among = contains_none n among
not_among n (m ∷ list) h among =
    let parts = or_parts (m == n) (list_any (λ m. m == n) list) h in
    elim (contains_cases n m list among) [
      | inl same ↦ eqb-false m n parts.0 (sym same)
      | inr later ↦ not_among n list parts.1 later
    ]

-- a client under whose session number a packet was made was made itself
client_made : (now : ℕ) (w : World) (client unique : ℕ) → Takes now w client unique → IsMadeClient w client
client_made now w client unique t none = t.kept.servers.session_nonzero unique t.made (t.session ∙ none)

learnt_by : (now : ℕ) (w : World) (client unique salt : ℕ)
    → Takes now w client unique
    → Contains (w.servers unique).salts salt
    → Hears now w (learn w client unique salt) client unique
learnt_by now w client unique salt t of =
    let Holds : World → Type 0 = λ later. Hears now w later client unique in
    cond_both (list_any (λ known. known == unique) (w.clients client).learnt) w _ Holds
    (
    λ already.
    record { kept = t.kept; downs = refl; servers = refl; present = refl; known = inl (among_if unique (w.clients client).learnt already) }
    )
    (
    λ not_yet.
    cond_both (nat_lt (length (w.clients client).learnt) LEARNT_MAX) (after_learnt w client unique salt) (end_client w client) Holds
    (
    λ room.
    record {
      kept = kept_after_learnt now w client unique salt t of (λ among. not_among unique (w.clients client).learnt not_yet among) (ltb-true (length (w.clients client).learnt) LEARNT_MAX room);
      downs = refl;
      servers = refl;
      present = refl;
      known = inl (subst (λ list. Contains list unique) (sym (chosen client client (unique ∷ (w.clients client).learnt) (w.clients client).learnt refl)) (contains_first unique (w.clients client).learnt));
    }
    )
    (
    λ full.
    record {
      kept = kept_after_end now w client t.kept (client_made now w client unique t);
      downs = refl;
      servers = refl;
      present = refl;
      known = inr (chosen client client true (w.clients client).ended refl);
    }
    )
    )

-- an item that is taken by a client that has learnt the packet's server session, or is about to
item_heard : (now : ℕ) (w : World) (client unique : ℕ) (item : Item) (takes : Bool)
    → Takes now w client unique
    → MaySay w unique item
    → Contains (w.clients client).learnt unique ⊎ IsNewItem item
    → Hears now w (after_item w client item takes) client unique
item_heard now w client unique (NewSession named salt) takes t says known =
    subst (λ u. Hears now w (learn w client u salt) client unique) (sym says.0) (learnt_by now w client unique salt t says.1)
item_heard now w client unique (Result number reply) takes t says (inr never) = absurd never
item_heard now w client unique (Result number reply) takes t says (inl known) =
    record { kept = resulted now w client unique number reply t says; downs = refl; servers = refl; present = refl; known = inl known }
item_heard now w client unique (Notice number code) takes t says (inr never) = absurd never
item_heard now w client unique (Notice number code) takes t says (inl known) =
    record { kept = noticed now w client unique number code t known says; downs = refl; servers = refl; present = refl; known = inl known }
item_heard now w client unique (WrongSalt number salt) takes t says (inr never) = absurd never
item_heard now w client unique (WrongSalt number salt) takes t says (inl known) =
    record {
      kept =
          salt_taken now (after_settled w client number (state_noticed 48)) client unique salt takes
          (noticed now w client unique number 48 t known (inl says.0)) known says.1;
      downs = refl;
      servers = refl;
      present = refl;
      known = inl known;
    }

heard : (now : ℕ) (w : World) (client unique : ℕ) (item : Item) (takes : Bool)
    → Takes now w client unique
    → MaySay w unique item
    → IsKnown w client unique ⊎ IsNewItem item
    → Hears now w (after_heard w client item takes) client unique
heard now w client unique item takes t says known =
    cond_both (w.clients client).ended w (after_item w client item takes) (λ later. Hears now w later client unique)
    (λ ended. record { kept = t.kept; downs = refl; servers = refl; present = refl; known = inr ended })
    (
    λ open_still.
    item_heard now w client unique item takes t says (
    elim known [
      | inl is ↦ elim is [ inl among ↦ inl among | inr ended ↦ absurd (both_ways (w.clients client).ended open_still ended) ]
      | inr new ↦ inr new
    ]
    )
    )

onward : (now : ℕ) (w mid later : World) (client unique : ℕ)
    → Hears now w mid client unique → Hears now mid later client unique → Hears now w later client unique
onward now w mid later client unique one two =
    record {
      kept = two.kept;
      downs = two.downs ∙ one.downs;
      servers = two.servers ∙ one.servers;
      present = two.present ∙ one.present;
      known = two.known;
    }

-- a packet and the items of it that are heard
pub record Hearing (now : ℕ) (w : World) (client : ℕ) (packet : Packet) (items : List Item) : Type 0 where
  pub kept : Kept now w
  pub made : Contains w.downs packet
  pub session : (w.servers packet.server).session ≡ (w.clients client).present
  pub within : (item : Item) → Contains items item → Contains packet.items item

takes_of : (now : ℕ) (w : World) (client : ℕ) (packet : Packet) (items : List Item)
    → Hearing now w client packet items → Takes now w client packet.server
takes_of now w client packet items h =
    record { kept = h.kept; session = h.session; made = h.kept.packets.made packet h.made }

-- the rest of the packet after one item
rest_of : (now : ℕ) (w later : World) (client : ℕ) (packet : Packet) (item : Item) (items : List Item)
    → Hearing now w client packet (item ∷ items)
    → Hears now w later client packet.server
    → Hearing now later client packet items
rest_of now w later client packet item items h one =
    record {
      kept = one.kept;
      made = subst (λ list. Contains list packet) (sym one.downs) h.made;
      session = ap (λ (s : ℕ → ServerSession). (s packet.server).session) one.servers ∙ h.session ∙ sym one.present;
      within = λ some among. h.within some (contains_rest some item items among);
    }

first_heard : (now : ℕ) (w : World) (client : ℕ) (packet : Packet) (item : Item) (items : List Item) (takes : Bool)
    → Hearing now w client packet (item ∷ items)
    → IsKnown w client packet.server ⊎ IsNewItem item
    → Hears now w (after_heard w client item takes) client packet.server
first_heard now w client packet item items takes h known =
    heard now w client packet.server item takes (takes_of now w client packet (item ∷ items) h)
    (h.kept.packets.says packet item h.made (h.within item (contains_first item items))) known

items_heard : (now : ℕ) (w : World) (client : ℕ) (packet : Packet) (items : List Item) (takes : List Bool)
    → Hearing now w client packet items
    → IsKnown w client packet.server
    → Hears now w (after_items w client items takes) client packet.server
items_heard now w client packet [] takes h known =
    record { kept = h.kept; downs = refl; servers = refl; present = refl; known = known }
items_heard now w client packet (item ∷ items) [] h known =
    let one = first_heard now w client packet item items false h (inl known) in
    let mid : World = after_heard w client item false in
    onward now w mid (after_items mid client items []) client packet.server one (
    items_heard now mid client packet items [] (rest_of now w mid client packet item items h one) one.known
    )
items_heard now w client packet (item ∷ items) (take ∷ takes) h known =
    let one = first_heard now w client packet item items take h (inl known) in
    let mid : World = after_heard w client item take in
    onward now w mid (after_items mid client items takes) client packet.server one (
    items_heard now mid client packet items takes (rest_of now w mid client packet item items h one) one.known
    )

-- the same for items that begin with a `new_session_created`
new_heard : (now : ℕ) (w : World) (client : ℕ) (packet : Packet) (items : List Item) (takes : List Bool)
    → Hearing now w client packet items
    → BeginsNew items
    → Hears now w (after_items w client items takes) client packet.server
new_heard now w client packet [] takes h begins = absurd begins
new_heard now w client packet (Result number reply ∷ items) takes h begins = absurd begins
new_heard now w client packet (Notice number code ∷ items) takes h begins = absurd begins
new_heard now w client packet (WrongSalt number salt ∷ items) takes h begins = absurd begins
new_heard now w client packet (NewSession named salt ∷ items) [] h begins =
    let item : Item = NewSession named salt in
    let one = first_heard now w client packet item items false h (inr tt) in
    let mid : World = after_heard w client item false in
    onward now w mid (after_items mid client items []) client packet.server one (
    items_heard now mid client packet items [] (rest_of now w mid client packet item items h one) one.known
    )
new_heard now w client packet (NewSession named salt ∷ items) (take ∷ takes) h begins =
    let item : Item = NewSession named salt in
    let one = first_heard now w client packet item items take h (inr tt) in
    let mid : World = after_heard w client item take in
    onward now w mid (after_items mid client items takes) client packet.server one (
    items_heard now mid client packet items takes (rest_of now w mid client packet item items h one) one.known
    )

-- a server session that has accepted something is learnt
pub known_if_accepted : (now : ℕ) (w : World) (client unique : ℕ)
    → Kept now w
    → (w.servers unique).session ≡ (w.clients client).present
    → HasAccepted (w.servers unique)
    → Contains (w.clients client).learnt unique
known_if_accepted now w client unique k session has =
    let back = accepted_knows now w unique has.0 k has.1 has.2 in
    k.clients.knows back.0 client unique back.1 (back.2 ∙ session) back.5

-- a front of a packet's items
pub front_heard : (now : ℕ) (w : World) (client : ℕ) (packet : Packet) (items : List Item) (takes : List Bool)
    → Hearing now w client packet items
    → HasAccepted (w.servers packet.server) ⊎ BeginsNew items
    → Hears now w (after_items w client items takes) client packet.server
front_heard now w client packet items takes h (inl has) =
    items_heard now w client packet items takes h (inl (known_if_accepted now w client packet.server h.kept h.session has))
front_heard now w client packet items takes h (inr begins) = new_heard now w client packet items takes h begins

pub kept_after_hear : (now : ℕ) (w : World) (client : ℕ) (packet : Packet) (takes : List Bool)
    → Kept now w
    → Contains w.downs packet
    → (w.servers packet.server).session ≡ (w.clients client).present
    → Kept now (after_items w client packet.items takes)
kept_after_hear now w client packet takes k made session =
    (front_heard now w client packet packet.items takes
    (record { kept = k; made = made; session = session; within = λ item among. among }) (k.packets.begins packet made)).kept
