-- What was decided or done stays so, and lists of lawful moves go on.
use Rattle.std.proofs.Common.{◌≡◌, ℕ, ◌<◌, ◌≤◌, ◌==◌, nat_lt, Bool, false, List, [], ◌∷◌, length, sym, refl, ap, ◌∙◌, subst, arith}
use Rattle.std.specs.List.{list_any}
use Rattle.law_moves.specs.Table.{CallId, State, Item, call_at}
use Rattle.law_moves.specs.Table.State.{Queued, Sent, Held, Done, Refused, Unknown}
use Rattle.law_moves.specs.Table.Item.{NewSession, Result, Notice, WrongSalt}
use Rattle.law_moves.specs.World.{World}
use Rattle.law_moves.specs.Move.{OwnAct, Part, Move}
use Rattle.law_moves.specs.Move.OwnAct.{NewClient, Renew, Submit, GiveUp, End}
use Rattle.law_moves.specs.Move.Part.{First, Again, Other, OtherAgain}
use Rattle.law_moves.specs.After.{after_own, after_part, after_parts, end_client, state_renewed, state_ended, is_sent, after_settled, state_noticed, after_learnt, learn, after_item, after_heard, after_items, LEARNT_MAX}
use Rattle.law_moves.specs.Lawful.{IsOwnLawful, IsPartLawful, ArePartsLawful}
use Rattle.law_moves.proofs.Basics.{choice, call_unchosen}
use Rattle.law_moves.proofs.Extended.{effect_extends}
use Rattle.std.specs.Prelude.{◌++◌}
use Rattle.std.proofs.lemmas.Bool.{cond_both}
use Rattle.law_moves.specs.World.{start}
use Rattle.law_moves.specs.Move.Move.{Own, Send, Make, Draw, Judge, Forget, Answer, Speak, Hear, Lose}
use Rattle.law_moves.specs.After.{after}
use Rattle.law_moves.specs.Lawful.{IsLawful}
use Rattle.law_moves.specs.Reached.{after_all, AreLawful, Reached}
use Rattle.law_moves.specs.Once.{IsDecided}

-- Decided calls

renewed_decided : (state : State) → IsDecided state → state_renewed state ≡ state
renewed_decided Queued h = absurd h
renewed_decided Sent h = absurd h
renewed_decided Held h = absurd h
renewed_decided (Done reply) h = refl
renewed_decided (Refused code) h = refl
renewed_decided (Unknown cause) h = refl

ended_decided : (state : State) → IsDecided state → state_ended state ≡ state
ended_decided Queued h = absurd h
ended_decided Sent h = absurd h
ended_decided Held h = absurd h
ended_decided (Done reply) h = refl
ended_decided (Refused code) h = refl
ended_decided (Unknown cause) h = refl

not_sent : (state : State) → IsDecided state → is_sent state ≡ false
not_sent Queued h = absurd h
not_sent Sent h = absurd h
not_sent Held h = absurd h
not_sent (Done reply) h = refl
not_sent (Refused code) h = refl
not_sent (Unknown cause) h = refl

-- the call has the state that it had
Same : World → World → CallId → Type 0
Same w later call = (later.calls call).state ≡ (w.calls call).state

own_decided : (w : World) (act : OwnAct) (call : CallId)
    → IsOwnLawful w act → call.place < w.submitted call.client → IsDecided (w.calls call).state → Same w (after_own w act) call
unfolding Same
own_decided w (NewClient client session) call lawful submitted decided = refl
own_decided w (Renew client session) call lawful submitted decided =
    choice (λ (s : State). s ≡ (w.calls call).state) call.client client (state_renewed (w.calls call).state) (w.calls call).state
    (λ same. renewed_decided (w.calls call).state decided) (λ differs. refl)
own_decided w (Submit client body) call lawful submitted decided =
    call_unchosen call (call_at client (w.submitted client)) Queued (w.calls call).state (
    λ same.
    let place : call.place ≡ w.submitted client = ap (λ (c : CallId). c.place) same in
    let is : w.submitted call.client ≡ w.submitted client = ap (λ (c : CallId). w.submitted c.client) same in
    omega arith
    )
own_decided w (GiveUp given_up) call lawful submitted decided =
    call_unchosen call given_up (Refused 0) (w.calls call).state (
    λ same. subst IsDecided (ap (λ c. (w.calls c).state) same ∙ lawful) decided
    )
own_decided w (End client) call lawful submitted decided =
    choice (λ (s : State). s ≡ (w.calls call).state) call.client client (state_ended (w.calls call).state) (w.calls call).state
    (λ same. ended_decided (w.calls call).state decided) (λ differs. refl)

part_decided : (w : World) (client : ℕ) (each : Part) (call : CallId)
    → IsPartLawful w client each → IsDecided (w.calls call).state → Same w (after_part w client each) call
unfolding Same
part_decided w client (First place number) call lawful decided =
    call_unchosen call (call_at client place) Sent (w.calls call).state (λ same. subst IsDecided (ap (λ c. (w.calls c).state) same ∙ lawful.0) decided)
part_decided w client (Again place number) call lawful decided = refl
part_decided w client (Other number) call lawful decided = refl
part_decided w client (OtherAgain number) call lawful decided = refl

parts_decided : (w : World) (client : ℕ) (parts : List Part) (call : CallId)
    → ArePartsLawful w client parts → IsDecided (w.calls call).state → Same w (after_parts w client parts) call
unfolding Same
parts_decided w client [] call lawful decided = refl
parts_decided w client (each ∷ parts) call lawful decided =
    let one = part_decided w client each call lawful.0 decided in
    parts_decided (after_part w client each) client parts call lawful.1 (subst IsDecided (sym one) decided) ∙ one

settled_decided : (w : World) (client number : ℕ) (state : State) (call : CallId)
    → IsDecided (w.calls call).state → Same w (after_settled w client number state) call
unfolding Same
settled_decided w client number state call decided =
    choice (λ (s : State). s ≡ (w.calls call).state) call.client client _ (w.calls call).state
    (λ same. rw (not_sent (w.calls call).state decided) refl) (λ differs. refl)

learn_decided : (w : World) (client unique salt : ℕ) (call : CallId)
    → IsDecided (w.calls call).state → Same w (learn w client unique salt) call
unfolding Same
learn_decided w client unique salt call decided =
    let Holds : World → Type 0 = λ later. (later.calls call).state ≡ (w.calls call).state in
    cond_both (list_any (λ known. known == unique) (w.clients client).learnt) w _ Holds (λ already. refl) (
    λ fresh.
    cond_both (nat_lt (length (w.clients client).learnt) LEARNT_MAX) (after_learnt w client unique salt) (end_client w client) Holds
    (
    λ room.
    choice (λ (s : State). s ≡ (w.calls call).state) call.client client _ (w.calls call).state
    (λ same. rw (not_sent (w.calls call).state decided) refl) (λ differs. refl)
    )
    (
    λ full.
    choice (λ (s : State). s ≡ (w.calls call).state) call.client client (state_ended (w.calls call).state) (w.calls call).state
    (λ same. ended_decided (w.calls call).state decided) (λ differs. refl)
    )
    )

item_decided : (w : World) (client : ℕ) (item : Item) (takes : Bool) (call : CallId)
    → IsDecided (w.calls call).state → Same w (after_item w client item takes) call
unfolding Same
item_decided w client (NewSession unique salt) takes call decided = learn_decided w client unique salt call decided
item_decided w client (Result number reply) takes call decided = settled_decided w client number (Done reply) call decided
item_decided w client (Notice number code) takes call decided = settled_decided w client number (state_noticed code) call decided
item_decided w client (WrongSalt number salt) takes call decided = settled_decided w client number (state_noticed 48) call decided

heard_decided : (w : World) (client : ℕ) (item : Item) (takes : Bool) (call : CallId)
    → IsDecided (w.calls call).state → Same w (after_heard w client item takes) call
unfolding Same
heard_decided w client item takes call decided =
    cond_both (w.clients client).ended w (after_item w client item takes) (λ (later : World). (later.calls call).state ≡ (w.calls call).state)
    (λ ended. refl) (λ still. item_decided w client item takes call decided)

items_decided : (w : World) (client : ℕ) (items : List Item) (takes : List Bool) (call : CallId)
    → IsDecided (w.calls call).state → Same w (after_items w client items takes) call
unfolding Same
items_decided w client [] takes call decided = refl
items_decided w client (item ∷ items) [] call decided =
    let one = heard_decided w client item false call decided in
    items_decided (after_heard w client item false) client items [] call (subst IsDecided (sym one) decided) ∙ one
items_decided w client (item ∷ items) (take ∷ takes) call decided =
    let one = heard_decided w client item take call decided in
    items_decided (after_heard w client item take) client items takes call (subst IsDecided (sym one) decided) ∙ one

move_decided : (w : World) (move : Move) (call : CallId)
    → IsLawful w move → call.place < w.submitted call.client → IsDecided (w.calls call).state → Same w (after w move) call
unfolding Same
move_decided w (Own act) call lawful submitted decided = own_decided w act call lawful submitted decided
move_decided w (Send client parts) call lawful submitted decided = parts_decided w client parts call lawful.1 decided
move_decided w (Make unique session) call lawful submitted decided = refl
move_decided w (Draw unique salt) call lawful submitted decided = refl
move_decided w (Judge unique message outcome) call lawful submitted decided = refl
move_decided w (Forget unique number) call lawful submitted decided = refl
move_decided w (Answer unique number body reply) call lawful submitted decided = refl
move_decided w (Speak unique items) call lawful submitted decided = refl
move_decided w (Hear client packet takes) call lawful submitted decided = items_decided w client packet.items takes call decided
move_decided w (Lose unique) call lawful submitted decided = refl

-- Lists of moves

pub decided_stays : (w : World) (moves : List Move) (call : CallId)
    → AreLawful w moves
    → call.place < w.submitted call.client
    → IsDecided (w.calls call).state
    → ((after_all w moves).calls call).state ≡ (w.calls call).state
unfolding Same
decided_stays w [] call lawful submitted decided = refl
decided_stays w (move ∷ moves) call lawful submitted decided =
    let one = move_decided w move call lawful.0 submitted decided in
    let more : w.submitted call.client ≤ (after w move).submitted call.client = (effect_extends w move lawful.0).submitted call.client in
    decided_stays (after w move) moves call lawful.1 (omega arith) (subst IsDecided (sym one) decided) ∙ one

pub lawful_on : (w : World) (before moves : List Move)
    → AreLawful w before → AreLawful (after_all w before) moves → AreLawful w (before ++ moves)
lawful_on w [] moves one two = two
lawful_on w (move ∷ before) moves one two = (one.0, lawful_on (after w move) before moves one.1 two)

pub after_on : (w : World) (before moves : List Move) → after_all w (before ++ moves) ≡ after_all (after_all w before) moves
after_on w [] moves = refl
after_on w (move ∷ before) moves = after_on (after w move) before moves

pub reached_on : (w : World) (moves : List Move) → Reached w → AreLawful w moves → Reached (after_all w moves)
reached_on w moves reached lawful = (
  reached.0 ++ moves,
  lawful_on start reached.0 moves reached.1 (subst (λ (v : World). AreLawful v moves) (sym reached.2) lawful),
  after_on start reached.0 moves ∙ ap (λ (v : World). after_all v moves) reached.2,
)
