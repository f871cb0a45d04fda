-- The names of calls in a world of the law on moves.
use Rattle.std.proofs.Common.{◌≡◌, ◌∙◌, ◌<◌, ℕ, Option, Some, None, List, [], ◌∷◌, refl, sym, ap, subst, arith, inl, inr}
use Rattle.std.specs.Prelude.{slice_get}
use Rattle.std.specs.List.{Contains}
use Rattle.law_moves.specs.Table as moves
use Rattle.law_moves.specs.World.{World as Moved, IsName}
use Rattle.law_moves.specs.Reached.{Reached}
use Rattle.call_table.specs.Table.{Call, Name}
use Rattle.client_rules.specs.Client.{Client, calls_of}
use Rattle.law_client.specs.Clients.{AreNamesThere, IsCallThere, StandsAs, StandsThere}
use Rattle.world_rules.specs.World.{Seat, World}
use Rattle.law_once.specs.Standing.{IsSeated, WorldStands}
use Rattle.law_order.proofs.Lists.{first_or, here, later, none-some, some-same}

-- what a name is there
pub record IsThere (names : List moves.Name) (name : Name) : Type 0 where
  pub there : moves.Name
  pub among : Contains names there
  pub session : there.session ≡ name.session
  pub number : there.number ≡ name.message.number

pub name-there : (ups : List moves.Message) (names : List Name) (theres : List moves.Name) → AreNamesThere ups names theres → (name : Name) → Contains names name → IsThere theres name
name-there ups [] theres are name among = let below : among.0 < 0 = among.1 in absurd (omega (arith, below))
name-there ups (first ∷ names) [] are name among = absurd are
name-there ups (first ∷ names) (there ∷ theres) are name among =
    elim (first_or name first names among) [
      | inl is ↦ record {
        there = there;
        among = here there theres;
        session = are.0.session ∙ ap (λ (name : Name). name.session) is;
        number = are.0.number ∙ ap (λ (name : Name). name.message.number) is;
      }
      | inr other ↦
          let rest = name-there ups names theres are.1 name other in
          record { there = rest.there; among = later rest.there there theres rest.among; session = rest.session; number = rest.number }
    ]

-- what a call is there
seated-as : (m : Moved) (place : ℕ) (found : Option Seat) (seat : Seat) → found ≡ Some seat → IsSeated m place found → StandsAs m place seat.client
seated-as m place None seat is stands = absurd (none-some seat is)
seated-as m place (Some one) seat is stands = subst (λ (seat : Seat). StandsAs m place seat.client) (some-same one seat is) stands

stands-as : (client : Client) (ups : List moves.Message) (found : Option Call) (call : Call) (there : moves.Call) → found ≡ Some call → StandsThere client ups found there → IsCallThere client ups call there
stands-as client ups None call there is stands = absurd (none-some call is)
stands-as client ups (Some one) call there is stands = subst (λ (call : Call). IsCallThere client ups call there) (some-same one call is) stands

module _ {S V : Type 0} (m : Moved) (world : World S V) (h : WorldStands m world) where
  pub call-there : (place at : ℕ) (seat : Seat) (call : Call) → slice_get world.seats place ≡ Some seat → slice_get (calls_of seat.client) at ≡ Some call
      → IsCallThere seat.client m.ups call (m.calls (moves.call_at place at))
  call-there place at seat call seated called =
      let s = seated-as m place (slice_get world.seats place) seat seated (h.seats place) in
      stands-as seat.client m.ups (slice_get (calls_of seat.client) at) call (m.calls (moves.call_at place at)) called (s.calls at)

-- what the law says of names
pub record Apart : Type 0 where
  pub of_one : (m : Moved) (one other : moves.CallId) (name same : moves.Name) → Reached m → Contains (m.calls one).names name → Contains (m.calls other).names same
      → name.session ≡ same.session → name.number ≡ same.number → one ≡ other
  pub newest : (m : Moved) (call : moves.CallId) (name same : moves.Name) (older : List moves.Name) → Reached m → (m.calls call).names ≡ name ∷ older → Contains older same
      → name.session ≡ same.session → name.number ≡ same.number → ⊥
  pub once : (m : Moved) (one other : moves.Message) → Reached m → Contains m.ups one → Contains m.ups other → one.session ≡ other.session → one.number ≡ other.number
      → one.call ≡ other.call
  pub no_name : (m : Moved) (message : moves.Message) → Reached m → Contains m.ups message → message.call ≡ None → IsName m.calls message.session message.number → ⊥

-- the newest name, and another one that is the same
same-name : (ups : List moves.Message) (names : List Name) (theres : List moves.Name) → AreNamesThere ups names theres → (name same : Name) (older : List Name) → names ≡ name ∷ older
    → Contains names same → ((there other : moves.Name) (olds : List moves.Name) → theres ≡ there ∷ olds → Contains olds other → there.session ≡ other.session → there.number ≡ other.number → ⊥)
    → same.session ≡ name.session → same.message.number ≡ name.message.number → name ≡ same
same-name ups [] theres are name same older is among apart of_session of_number = let below : among.0 < 0 = among.1 in absurd (omega (arith, below))
same-name ups (first ∷ names) [] are name same older is among apart of_session of_number = absurd are
same-name ups (first ∷ names) (there ∷ theres) are name same older is among apart of_session of_number =
    let head : first ≡ name = cc in
    elim (first_or same first names among) [
      | inl its ↦ sym head ∙ its
      | inr other ↦
          let t = name-there ups names theres are.1 same other in
          absurd
          (apart there t.there theres refl t.among
          (are.0.session ∙ (ap (λ (name : Name). name.session) head ∙ (sym of_session ∙ sym t.session)))
          (are.0.number ∙ (ap (λ (name : Name). name.message.number) head ∙ (sym of_number ∙ sym t.number))))
    ]

module _ {S V : Type 0} (apart : Apart) (m : Moved) (world : World S V) (h : WorldStands m world) where
  -- a name of the same numbers as the newest name of a call is that name of that call
  pub one-name : (place at : ℕ) (seat : Seat) (call : Call) (name : Name) (older : List Name) → slice_get world.seats place ≡ Some seat → slice_get (calls_of seat.client) at ≡ Some call
      → call.names ≡ name ∷ older
      → (place' at' : ℕ) (seat' : Seat) (call' : Call) (name' : Name) → slice_get world.seats place' ≡ Some seat' → slice_get (calls_of seat'.client) at' ≡ Some call' → Contains call'.names name'
      → name'.session ≡ name.session → name'.message.number ≡ name.message.number → (call ≡ call') × (name ≡ name')
  one-name place at seat call name older seated called names place' at' seat' call' name' seated' called' among of_session of_number =
      let c = call-there m world h place at seat call seated called in
      let c' = call-there m world h place' at' seat' call' seated' called' in
      let mine = name-there m.ups call.names (m.calls (moves.call_at place at)).names c.names name (subst (λ (names : List Name). Contains names name) (sym names) (here name older)) in
      let other = name-there m.ups call'.names (m.calls (moves.call_at place' at')).names c'.names name' among in
      let same =
      apart.of_one m (moves.call_at place at) (moves.call_at place' at') mine.there other.there h.reached mine.among other.among
      (mine.session ∙ (sym of_session ∙ sym other.session)) (mine.number ∙ (sym of_number ∙ sym other.number)) in
      let places : place ≡ place' = ap (λ (id : moves.CallId). id.client) same in
      let ats : at ≡ at' = ap (λ (id : moves.CallId). id.place) same in
      let seats : seat ≡ seat' = some-same seat seat' (sym seated ∙ (ap (slice_get world.seats) places ∙ seated')) in
      let calls : call ≡ call' =
      some-same call call' (sym called ∙ (ap (λ (seat : Seat). slice_get (calls_of seat.client) at) seats ∙ (ap (slice_get (calls_of seat'.client)) ats ∙ called'))) in
      let among_own : Contains call.names name' = subst (λ (call : Call). Contains call.names name') (sym calls) among in (
        calls,
        same-name m.ups call.names (m.calls (moves.call_at place at)).names c.names name name' older names among_own
            (λ there other olds is old. apart.newest m (moves.call_at place at) there other olds h.reached is old) of_session of_number,
      )

  -- a name of a call is one there
  pub is-name : (place at : ℕ) (seat : Seat) (call : Call) (name : Name) → slice_get world.seats place ≡ Some seat → slice_get (calls_of seat.client) at ≡ Some call → Contains call.names name
      → IsName m.calls name.session name.message.number
  is-name place at seat call name seated called among =
      let c = call-there m world h place at seat call seated called in
      let mine = name-there m.ups call.names (m.calls (moves.call_at place at)).names c.names name among in
      (moves.call_at place at, mine.there, mine.among, mine.session, mine.number)
