-- Each event of a world keeps calls in order.
use Rattle.std.proofs.Common.{◌≡◌, ◌∙◌, ◌<◌, ◌-◌, ◌==◌, zero, suc, ℕ, Bool, true, cond, Option, Some, None, List, [], ◌∷◌, ◌++◌, map, refl, sym, ap, subst, arith, inl, inr}
use Rattle.std.specs.Prelude.{◌⊎◌, ◌&&◌, slice_get}
use Rattle.std.specs.List.{AllByRecursion, Contains, list_any, filter}
use Rattle.std.proofs.lemmas.Bool.{cases_Bool}
use Rattle.envelope.specs.declared.parts.Dir.{Dir}
use Rattle.envelope.specs.declared.parts.Dir.TheVariants.{Up}
use Rattle.server_rules.specs.Server.{Name as SessionName}
use Rattle.call_table.specs.declared.call.CallNo.{CallNo}
use Rattle.call_table.specs.declared.call.Living.{Living}
use Rattle.call_table.specs.Table.{Call, Name, at}
use Rattle.client_rules.specs.Client.{Client, calls_of}
use Rattle.service_tl.specs.Results.{is_good}
use Rattle.law_moves.specs.World.{World as Moved}
use Rattle.law_order.specs.After.{IsHonest, IsPacketFor, Pair}
use Rattle.law_order.specs.Behind.{GoesBehind, IsBehind, IsDoneWell, IsInTurn, IsStill, KeepsTurn, WentBehind}
use Rattle.world_rules.specs.Setting.{Setting, as_heard}
use Rattle.world_rules.specs.World.{Entered, Packet, Seat, World, counted}
use Rattle.world_rules.specs.Once.{InOrder, IsCallOf, IsEarlierCall, Once, RanWell, earlier_of, entries_of, is_entry_under}
use Rattle.law_once.specs.Made.{IsShort}
use Rattle.law_once.specs.Standing.{IsBagged, IsThere, WorldStands}
use Rattle.law_order.specs.Keeping.{AreTurning, ArePacketsFor, KeepsOrder, WaitingInOrder}
use Rattle.law_order.proofs.Lists.{all-weaker, each_of, first_or, here, later, none-some, some-same}
use Rattle.law_order.proofs.Places.{all-at}
use Rattle.law_order.proofs.Reading.{true-false}
use Rattle.law_order.proofs.Seats.{GoOn, IsLater}
use Rattle.law_order.proofs.Waiting.{any-at, ran-well, split-there}

-- ---- lists

any-in : {X : Type 0} (test : X → Bool) (xs : List X) → list_any test xs ≡ true → (x : X) × Contains xs x × (test x ≡ true)
any-in test [] is = absurd (true-false (sym is))
any-in test (first ∷ xs) is =
    elim (cases_Bool (test first)) [
      | inl holds ↦ (first, here first xs, holds)
      | inr fails ↦ let rest = any-in test xs (rw fails at is) in (rest.0, later rest.0 first xs rest.1, rest.2)
    ]

in-front : {X : Type 0} (xs ys : List X) (x : X) → Contains xs x → Contains (xs ++ ys) x
in-front [] ys x among = let below : among.0 < 0 = among.1 in absurd (omega (arith, below))
in-front (first ∷ xs) ys x among =
    elim (first_or x first xs among) [
      | inl is ↦ subst (λ (z : _). Contains (z ∷ (xs ++ ys)) x) (sym is) (here x (xs ++ ys))
      | inr other ↦ later x first (xs ++ ys) (in-front xs ys x other)
    ]

from-filter : {X : Type 0} (test : X → Bool) (xs : List X) (x : X) → Contains (filter test xs) x → Contains xs x × (test x ≡ true)
from-filter test [] x among = let below : among.0 < 0 = among.1 in absurd (omega (arith, below))
from-filter test (y ∷ xs) x among =
    elim (cases_Bool (test y)) [
      | inl holds ↦
          let there : Contains (y ∷ filter test xs) x = subst (λ (b : Bool). Contains (cond b (y ∷ filter test xs) (filter test xs)) x) holds among in
          elim (first_or x y (filter test xs) there) [
            | inl same ↦ (subst (λ (z : _). Contains (z ∷ xs) x) (sym same) (here x xs), ap test (sym same) ∙ holds)
            | inr other ↦ let rest = from-filter test xs x other in (later x y xs rest.0, rest.1)
          ]
      | inr fails ↦
          let there : Contains (filter test xs) x = subst (λ (b : Bool). Contains (cond b (y ∷ filter test xs) (filter test xs)) x) fails among in
          let rest = from-filter test xs x there in
          (later x y xs rest.0, rest.1)
    ]

-- a member of two lists stands behind the first one, or in it
split-append : {X : Type 0} (xs ys before behind : List X) (x : X) → xs ++ ys ≡ before ++ x ∷ behind
    → ((front : List X) × (before ≡ xs ++ front)) ⊎ ((rest : List X) × (xs ≡ before ++ x ∷ rest))
split-append [] ys before behind x is = inl (before, refl)
split-append (y ∷ xs) ys [] behind x is = inr (xs, cc)
split-append (y ∷ xs) ys (first ∷ before) behind x is =
    let head : y ≡ first = cc in
    let tail : xs ++ ys ≡ before ++ x ∷ behind = cc in
    elim (split-append xs ys before behind x tail) [
      | inl front ↦ let its = front.1 in inl (front.0, cc)
      | inr inside ↦ let there = inside.1 in inr (inside.0, cc)
    ]

-- ---- names and entries

kept-named : (client later : Client) (call other : Call) (entered : Entered) → later.key ≡ client.key → IsStill call other
    → list_any (λ name. is_entry_under client name entered) call.names ≡ true → list_any (λ name. is_entry_under later name entered) other.names ≡ true
kept-named client later call other entered key still is =
    let name = any-in (λ (name : Name). is_entry_under client name entered) call.names is in
    let has = still.names name.0 name.1 in
    let number : has.name.message.number ≡ name.0.message.number = ap (λ (message : Living). message.number) has.same in
    let same : is_entry_under later has.name entered ≡ is_entry_under client name.0 entered =
    ap (λ (k : ℕ). (entered.entry.key == k) && ((entered.entry.session == has.name.session) && (entered.entry.number == has.name.message.number))) key
    ∙ (ap (λ (s : ℕ). (entered.entry.key == client.key) && ((entered.entry.session == s) && (entered.entry.number == has.name.message.number))) has.of_session
    ∙ ap (λ (n : ℕ). (entered.entry.key == client.key) && ((entered.entry.session == name.0.session) && (entered.entry.number == n))) number) in
    any-at (λ (name : Name). is_entry_under later name entered) other.names has.name has.among (same ∙ name.2)

earlier-is : (client : Client) (call earlier : Call) (after : Option CallNo) → call.after ≡ after → earlier_of client after ≡ Some earlier
    → (no : CallNo) × (call.after ≡ Some no) × (at no (calls_of client) ≡ Some earlier)
earlier-is client call earlier None is there = absurd (none-some earlier there)
earlier-is client call earlier (Some one) is there = (one, is, there)

later-seat : (seats laters : List Seat) → GoOn seats laters → (number : ℕ) (seat : Seat) → counted number seats ≡ Some seat
    → (later : Seat) × (counted number laters ≡ Some later) × IsLater seat later
later-seat seats laters go zero seat is = absurd (none-some seat is)
later-seat seats laters go (suc place) seat is = go place seat is

turn-at : (seats : List Seat) (number : ℕ) (seat : Seat) → counted number seats ≡ Some seat → AreTurning seats → KeepsTurn seat.client
turn-at seats zero seat is are = absurd (none-some seat is)
turn-at seats (suc place) seat is are = all-at (λ (seat : Seat). KeepsTurn seat.client) seats place seat is are

-- ---- clients act

module _ {S V : Type 0} (setting : Setting S V) (world behind : World S V) (go : GoOn world.seats behind.seats) (same : behind.entries ≡ world.entries)
    (once : Once setting world) (once_on : Once setting behind) (turning : AreTurning world.seats) (order : InOrder world) where
  pub clients-order : InOrder behind
  clients-order number place client call earlier before rest entered of is_earlier is named ran =
      let entries : world.entries ≡ before ++ entered ∷ rest = sym same ∙ is in
      let asked = once.as_sent entered (split-there world.entries before rest entered entries) in
      let asked_on = once_on.as_sent entered (split-there behind.entries before rest entered is) in
      let seat : Seat = record { client = asked.client; clock = asked.submitted.clock } in
      let l = later-seat world.seats behind.seats go asked.number seat asked.submitted.seated in
      let c = l.2.last asked.place asked.call asked.submitted.submitted in
      let of_on : IsCallOf behind asked.number asked.place l.0.client c.0 = record { clock = l.0.clock; seated = l.1; submitted = c.1 } in
      let one = asked_on.only asked.number asked.place l.0.client c.0 of_on (kept-named asked.client l.0.client asked.call c.0 entered l.2.key c.2 asked.named) in
      let two = asked_on.only number place client call of named in
      let numbers : asked.number ≡ number = one.0 ∙ sym two.0 in
      let places : asked.place ≡ place = one.1 ∙ sym two.1 in
      let own : Seat = record { client = client; clock = of.clock } in
      let seats : l.0 ≡ own = some-same l.0 own (sym l.1 ∙ (ap (λ (k : ℕ). counted k behind.seats) numbers ∙ of.seated)) in
      let clients : l.0.client ≡ client = ap (λ (seat : Seat). seat.client) seats in
      let calls : c.0 ≡ call =
      some-same c.0 call (sym c.1 ∙ (ap (λ (client : Client). slice_get (calls_of client) asked.place) clients ∙ (ap (slice_get (calls_of client)) places ∙ of.submitted))) in
      let e = earlier-is client call earlier call.after refl is_earlier in
      let after : asked.call.after ≡ Some e.0 = sym c.2.after ∙ (ap (λ (call : Call). call.after) calls ∙ e.1) in
      let turn = turn-at world.seats asked.number seat asked.submitted.seated turning in
      let goes : GoesBehind (calls_of asked.client) asked.call e.0 =
      all-at (IsInTurn (calls_of asked.client)) (calls_of asked.client) asked.place asked.call asked.submitted.submitted turn.behind e.0 after in
      let then_ = l.2.last (e.0.n - 1) goes.earlier goes.there in
      let earliers : then_.0 ≡ earlier =
      some-same then_.0 earlier (sym then_.1 ∙ (ap (λ (client : Client). slice_get (calls_of client) (e.0.n - 1)) clients ∙ e.2)) in
      let first =
      order asked.number asked.place asked.client asked.call goes.earlier before rest entered asked.submitted (ap (earlier_of asked.client) after ∙ goes.there) entries asked.named ran in
      let named_on = kept-named asked.client l.0.client goes.earlier then_.0 first.0 l.2.key then_.2 first.2 in (
        first.0,
        first.1,
        subst (λ (client : Client). list_any (λ (name : Name). is_entry_under client name first.0) earlier.names ≡ true) clients
            (subst (λ (call : Call). list_any (λ (name : Name). is_entry_under l.0.client name first.0) call.names ≡ true) earliers named_on),
        first.3,
      )

-- a pair of a session that no client has
abbrev nobody : Pair
nobody = record { name = record { key = 0; session = 0 }; call = 0; earlier = 0 }

nobody-for : {S V : Type 0} (m : Moved) (world : World S V) → WorldStands m world → ArePacketsFor nobody world.bag
nobody-for m world h =
    all-weaker (IsBagged m world.seats) (λ (packet : Packet). packet.dir ≡ Up → IsShort packet.envelope → IsPacketFor nobody (as_heard packet.envelope)) world.bag
    (λ packet bagged is_up short is way session.
    let there : IsThere m world.seats Up packet.envelope = subst (λ (dir : Dir). IsThere m world.seats dir packet.envelope) is_up bagged in
    absurd (there.1.owned.0 (ap (λ (name : SessionName). name.session) is)))
    h.bag

honest-in : (entries : List Entered) → AllByRecursion IsHonest (map (λ (entered : Entered). entered.entry) entries) → (entered : Entered) → Contains entries entered → IsHonest entered.entry
honest-in [] all entered among = let below : among.0 < 0 = among.1 in absurd (omega (arith, below))
honest-in (first ∷ entries) all entered among =
    elim (first_or entered first entries among) [
      | inl is ↦ subst (λ (entered : Entered). IsHonest entered.entry) is all.0
      | inr other ↦ honest-in entries all.1 entered other
    ]

-- ---- the server acts

module _ {S V : Type 0} (setting : Setting S V) (m : Moved) (world behind : World S V) (h : WorldStands m world) (seats : behind.seats ≡ world.seats) (more : List Entered)
    (entries : behind.entries ≡ world.entries ++ more) (once : Once setting world) (kept : KeepsOrder world) (waiting : WaitingInOrder behind) (order : InOrder world) where
  before-it : (number place : ℕ) (client : Client) (call : Call) → IsCallOf behind number place client call → IsCallOf world number place client call
  before-it number place client call of =
      record { clock = of.clock; seated = ap (counted number) (sym seats) ∙ of.seated; submitted = of.submitted }

  -- the earlier call was done well
  done-before : (number : ℕ) (client : Client) (earlier : Call) (its : CallNo) (clock : ℕ) → counted number world.seats ≡ Some (record { client = client; clock = clock })
      → at its (calls_of client) ≡ Some earlier → IsDoneWell earlier
      → (first : Entered) × Contains world.entries first × (list_any (λ name. is_entry_under client name first) earlier.names ≡ true) × RanWell first
  done-before number client earlier its clock seated there well =
      let of : IsCallOf world number (its.n - 1) client earlier = record { clock = clock; seated = seated; submitted = there } in
      let ran = once.done number (its.n - 1) client earlier well.result of well.done in
      let test : Entered → Bool = λ entered. list_any (λ name. is_entry_under client name entered) earlier.names in
      let among : Contains (entries_of world client earlier) ran.entered = subst (λ (all : List Entered). Contains all ran.entered) (sym ran.only) (here ran.entered []) in
      let found = from-filter test world.entries ran.entered among in
      let good : is_good ran.entered.entry.reply ≡ true = ap is_good ran.replied ∙ well.good in
      let honest = honest-in world.entries (kept.served nobody (nobody-for m world h)).honest ran.entered found.0 in
      elim (cases_Bool ran.entered.entry.ran) [
        | inl did ↦ (ran.entered, found.0, found.1, ran-well ran.entered did good)
        | inr none ↦ absurd (true-false (sym good ∙ honest none))
      ]

  by-wrap : (number place : ℕ) (client : Client) (call earlier : Call) (before rest : List Entered) (entered : Entered) (name : Name) (front : List Entered)
      → before ≡ world.entries ++ front → IsCallOf behind number place client call → IsEarlierCall client call earlier → behind.entries ≡ before ++ entered ∷ rest
      → Contains call.names name → is_entry_under client name entered ≡ true → entered.entry.ran ≡ true → (wrap : Option ℕ) → name.message.wrap ≡ wrap
      → (first : Entered) × Contains before first × (list_any (λ name. is_entry_under client name first) earlier.names ≡ true) × RanWell first
  by-wrap number place client call earlier before rest entered name front is of is_earlier split named under ran (Some wrap) wrapped =
      waiting number place client call earlier before rest entered name wrap of is_earlier split named wrapped under ran
  by-wrap number place client call earlier before rest entered name front is of is_earlier split named under ran None plain =
      let was = before-it number place client call of in
      let e = earlier-is client call earlier call.after refl is_earlier in
      let turn = turn-at world.seats number (record { client = client; clock = was.clock }) was.seated kept.clients in
      let goes : GoesBehind (calls_of client) call e.0 = all-at (IsInTurn (calls_of client)) (calls_of client) place call was.submitted turn.behind e.0 e.1 in
      let same : goes.earlier ≡ earlier = some-same goes.earlier earlier (sym goes.there ∙ e.2) in
      let behind_it : IsBehind goes.earlier name = each_of (IsBehind goes.earlier) call.names goes.names name named in
      let well : IsDoneWell goes.earlier = subst (WentBehind goes.earlier name.session name.message.number) plain behind_it in
      let first = done-before number client earlier e.0 was.clock was.seated e.2 (subst IsDoneWell same well) in
      (first.0, subst (λ (before : List Entered). Contains before first.0) (sym is) (in-front world.entries front first.0 first.1), first.2, first.3)

  pub server-order : InOrder behind
  server-order number place client call earlier before rest entered of is_earlier is named ran =
      elim (split-append world.entries more before rest entered (sym entries ∙ is)) [
        | inr inside ↦ order number place client call earlier before inside.0 entered (before-it number place client call of) is_earlier inside.1 named ran
        | inl front ↦
            let name = any-in (λ (name : Name). is_entry_under client name entered) call.names named in
            by-wrap number place client call earlier before rest entered name.0 front.0 front.1 of is_earlier is name.1 name.2 ran name.0.message.wrap refl
      ]
