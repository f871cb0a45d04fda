-- A client joins, and clocks are set.
use Rattle.std.proofs.Common.{◌≡◌, ℕ, zero, suc, List, [], ◌∷◌, length, map, Option, Some, None, inl, inr, refl, sym, ap, subst, ◌∙◌, arith, eq-eqb}
use Rattle.std.specs.Prelude.{◌⊎◌, option_map, slice_get}
use Rattle.std.specs.List.{All, flat_map}
use Rattle.std.proofs.lemmas.Bool.{cases_eq}
use Rattle.draws.specs.Draws.{word_after}
use Rattle.law_moves.specs.World.{World as Moved}
use Rattle.law_moves.specs.Move.{Move}
use Rattle.law_moves.specs.Move.Move.{Own}
use Rattle.law_moves.specs.Move.OwnAct.{NewClient}
use Rattle.law_moves.specs.After.{after}
use Rattle.law_moves.specs.Extends.{Extends, IsOfClient}
use Rattle.law_moves.specs.Lawful.{IsNewSession}
use Rattle.law_moves.specs.Reached.{AreLawful, after_all}
use Rattle.server_rules.specs.Server.{Session}
use Rattle.client_rules.specs.Client.{Client, Temporary, fresh_client, temporary_of}
use Rattle.law_client.specs.Clients.{IsNobody, StandsAs}
use Rattle.world_rules.specs.Setting.{Setting}
use Rattle.world_rules.specs.World.{Seat, World, changed_at, changed_from_0, lives}
use Rattle.world_rules.specs.Premises.{drawn_for_session, names_drawn, sessions_drawn}
use Rattle.world_rules.specs.Run.{joins, set}
use Rattle.law_once.specs.Standing.{AreSeated, MovesOn, IsKeyOf, IsSeated, WorldStands}
use Rattle.law_once.proofs.Lists.{map_all}
use Rattle.law_once.proofs.Places.{changed_other, changed_there, get_map, get_past, get_pushed}
use Rattle.law_once.proofs.Counting.{AreFresh, count, count_append}
use Rattle.law_once.proofs.Known.{Moving, Still}
use Rattle.law_once.proofs.Lasting.{KeepKeys, bag_still, key_still}
use Rattle.law_once.proofs.Drawn.{flat_more, new_session}
use Rattle.law_once.proofs.Clients.{Acts, ServersStill, goes_on, one_own, still_seated}

module _ {S V : Type 0} (known : Moving) (still : Still) (servers : ServersStill S V) (acts_so : Acts) (setting : Setting S V) (w : Moved) (world : World S V) (h : WorldStands w world) where
  abbrev place : ℕ
  place = length world.seats

  abbrev word : ℕ
  word = word_after setting.step 0 world.draw

  nobody : IsNobody w place
  nobody = subst (λ (f : Option Seat). IsSeated w place f) (get_past world.seats place (omega arith)) (h.seats place)

  module _ (key : ℕ) (temporary : Option Temporary) (fresh : AreFresh (names_drawn (joins setting key temporary world))) where
    abbrev behind : World S V
    behind = joins setting key temporary world

    abbrev new : Client
    new = fresh_client key temporary word

    is_new : IsNewSession w word
    is_new =
        let rest : List ℕ = flat_map drawn_for_session (lives world) in
        let own = flat_more sessions_drawn world.seats (record { client = new; clock = 0 } ∷ []) word in
        let one : count word (word ∷ []) ≡ 1 = rw (eq-eqb word word refl) refl in
        new_session w world behind word h.seats fresh
        (omega (arith, own, one, count_append word (flat_map sessions_drawn behind.seats) rest, count_append word (flat_map sessions_drawn world.seats) rest))

    keep : KeepKeys world.seats behind.seats
    keep i k is =
        elim (get_pushed world.seats (record { client = new; clock = 0 }) i) [
          | inl last ↦
              let none : None ≡ Some k =
              sym (ap (λ (f : Option Seat). option_map (λ (s : Seat). s.client.key) f) (get_past world.seats i (omega (arith, last.0)))) ∙ is in
              absurd (cc)
          | inr other ↦ ap (λ (f : Option Seat). option_map (λ (s : Seat). s.client.key) f) other.1 ∙ is
        ]

    joined : StandsAs (after w (Own (NewClient place word))) place new → MovesOn w behind
    joined stands =
        let list : List Move = Own (NewClient place word) ∷ [] in
        let lawful : AreLawful w list = (acts_so.joins_lawfully w place key word nobody is_new, tt) in
        let own : All (IsOfClient place) list = one_own (IsOfClient place) (Own (NewClient place word)) refl in
        let seated : AreSeated (after_all w list) behind.seats =
        λ i. elim (get_pushed world.seats (record { client = new; clock = 0 }) i) [
          | inl last ↦
              subst (λ (j : ℕ). IsSeated (after_all w list) j (slice_get behind.seats i)) (sym last.0)
              (subst (λ (f : Option Seat). IsSeated (after_all w list) place f) (sym last.1) stands)
          | inr other ↦
              subst (λ (f : Option Seat). IsSeated (after_all w list) i f) (sym other.1)
              (still_seated known still servers w world h place list lawful own i other.0 (slice_get world.seats i) (h.seats i))
        ] in (
          list,
          lawful,
          goes_on known still servers w world h place list lawful own behind.seats keep behind.draw world.bag seated
              (bag_still w (after_all w list) world.seats behind.seats (known.extends w list lawful) keep h.seats (λ c s. known.owned w list c s lawful) world.bag h.bag),
        )

  pub joined_so : (key : ℕ) → AreFresh (names_drawn (joins setting key None world)) → MovesOn w (joins setting key None world)
  joined_so key fresh = joined key None fresh (acts_so.joins w place key word h.reached nobody (is_new key None fresh))

  pub joined_temporary : (key perm expires : ℕ) → AreFresh (names_drawn (joins setting key (Some (temporary_of perm expires)) world))
      → MovesOn w (joins setting key (Some (temporary_of perm expires)) world)
  joined_temporary key perm expires fresh =
      joined key (Some (temporary_of perm expires)) fresh
      (acts_so.joins_so w place key word perm expires h.reached nobody (is_new key (Some (temporary_of perm expires)) fresh))

-- ---- clocks

seat_set : (w : Moved) (i moment : ℕ) (found : Option Seat) → IsSeated w i found → IsSeated w i (option_map (set moment) found)
seat_set w i moment None h = h
seat_set w i moment (Some seat) h = h

key_set : (moment : ℕ) (found : Option Seat) → option_map (λ (s : Seat). s.client.key) (option_map (set moment) found) ≡ option_map (λ (s : Seat). s.client.key) found
key_set moment None = refl
key_set moment (Some seat) = refl

-- the clocks of some are set
record IsSet (moment : ℕ) (seats later : List Seat) : Type 0 where
  pub each : (i : ℕ) → (slice_get later i ≡ slice_get seats i) ⊎ (slice_get later i ≡ option_map (set moment) (slice_get seats i))

module _ (w : Moved) (moment : ℕ) (seats later : List Seat) (so : IsSet moment seats later) where
  set_seated : AreSeated w seats → AreSeated w later
  set_seated h i =
      elim (so.each i) [
        | inl same ↦ subst (λ (f : Option Seat). IsSeated w i f) (sym same) (h i)
        | inr changed ↦ subst (λ (f : Option Seat). IsSeated w i f) (sym changed) (seat_set w i moment (slice_get seats i) (h i))
      ]

  set_keys : KeepKeys seats later
  set_keys i k is =
      elim (so.each i) [
        | inl same ↦ ap (λ (f : Option Seat). option_map (λ (s : Seat). s.client.key) f) same ∙ is
        | inr changed ↦ ap (λ (f : Option Seat). option_map (λ (s : Seat). s.client.key) f) changed ∙ key_set moment (slice_get seats i) ∙ is
      ]

same_there : {S V : Type 0} (known : Moving) (w : Moved) (world : World S V) (h : WorldStands w world) (moment clock : ℕ) (later : List Seat) → IsSet moment world.seats later
    → WorldStands w (record world { clock = clock; seats = later })
same_there known w world h moment clock later so =
    let itself : Extends w w = known.extends w [] tt in
    let keep : KeepKeys world.seats later = set_keys w moment world.seats later so in
    record {
      reached = h.reached;
      seats = set_seated w moment world.seats later so h.seats;
      server = h.server;
      ordered = h.ordered;
      keys = map_all (λ (session : Session). IsKeyOf w world.seats session.number session.key) (λ (session : Session). IsKeyOf w later session.number session.key) (lives world)
          (λ session is its. key_still w w world.seats later itself keep h.seats (λ c s made owns. owns) session.number session.key its) h.keys;
      bag = bag_still w w world.seats later itself keep h.seats (λ c s made owns. owns) world.bag h.bag;
      kept = h.kept;
    }

none_set : (moment : ℕ) (seats : List Seat) → IsSet moment seats seats
none_set moment seats = record { each = λ i. inl refl }

all_set : (moment : ℕ) (seats : List Seat) → IsSet moment seats (map (set moment) seats)
all_set moment seats = record { each = λ i. inr (get_map (set moment) seats i) }

one_set : (moment client : ℕ) (seats : List Seat) → IsSet moment seats (changed_at client (set moment) seats)
one_set moment zero seats = none_set moment seats
one_set moment (suc place) seats = record {
  each = λ i. elim (cases_eq i place) [
    | inl same ↦
        inr (subst (λ (j : ℕ). slice_get (changed_from_0 place (set moment) seats) j ≡ option_map (set moment) (slice_get seats j)) (sym same)
        (changed_there (set moment) seats place))
    | inr differs ↦ inl (changed_other (set moment) seats place i differs)
  ];
}

pub all_clocks : {S V : Type 0} (known : Moving) (w : Moved) (world : World S V) → WorldStands w world → (moment : ℕ) → MovesOn w (record world { clock = moment; seats = map (set moment) world.seats })
all_clocks known w world h moment = ([], tt, same_there known w world h moment moment (map (set moment) world.seats) (all_set moment world.seats))

pub server_clock : {S V : Type 0} (known : Moving) (w : Moved) (world : World S V) → WorldStands w world → (moment : ℕ) → MovesOn w (record world { clock = moment })
server_clock known w world h moment = ([], tt, same_there known w world h moment moment world.seats (none_set moment world.seats))

pub client_clock : {S V : Type 0} (known : Moving) (w : Moved) (world : World S V) → WorldStands w world → (client moment : ℕ) → MovesOn w (record world { seats = changed_at client (set moment) world.seats })
client_clock known w world h client moment = ([], tt, same_there known w world h moment world.clock (changed_at client (set moment) world.seats) (one_set moment client world.seats))
