-- What lasts for good of clients and calls, whatever moves come.
use Rattle.std.proofs.Common.{◌≡◌, ◌≢◌, ℕ, ◌<◌, ◌≤◌, ◌==◌, nat_lt, Bool, true, false, List, [], ◌∷◌, length, inl, inr, sym, refl, ap, ◌∙◌, subst, arith}
use Rattle.std.proofs.lemmas.Bool.{cond_both}
use Rattle.std.specs.List.{Contains, list_any}
use Rattle.law_moves.specs.Table.{CallId, Client, Item, call_at}
use Rattle.law_moves.specs.Table.Item.{NewSession, Result, Notice, WrongSalt}
use Rattle.law_moves.specs.World.{World, Owns}
use Rattle.law_moves.specs.Move.{OwnAct, Part, Move}
use Rattle.law_moves.specs.Move.OwnAct.{NewClient, Renew, Submit, GiveUp, End}
use Rattle.law_moves.specs.Move.Part.{First, Again, Other, OtherAgain}
use Rattle.law_moves.specs.Move.Move.{Own, Send, Make, Draw, Judge, Forget, Answer, Speak, Hear, Lose}
use Rattle.law_moves.specs.After.{after_own, after_part, after_parts, end_client, after_learnt, learn, after_item, after_heard, after_items, after, LEARNT_MAX}
use Rattle.law_moves.specs.Lawful.{IsOwnLawful, IsLawful}
use Rattle.law_moves.specs.Reached.{after_all, AreLawful}
use Rattle.law_moves.proofs.Basics.{choice, call_unchosen, contains_first, contains_rest}
use Rattle.law_moves.proofs.Extended.{effect_extends}
use Rattle.law_moves.proofs.Left.{leaves_clients}

-- Clients

-- a client that was made is made later, keeps its session numbers, and has ended if it had
pub record Lasts (old new : Client) : Type 0 where
  pub made : new.present ≢ 0
  pub owned : (session : ℕ) → Owns old session → Owns new session
  pub ended : old.ended ≡ true → new.ended ≡ true

abbrev LastsIfMade : Client → Client → Type 0
LastsIfMade old new = old.present ≢ 0 → Lasts old new

itself : (client : Client) → LastsIfMade client client
itself client made = record { made = made; owned = λ session owns. owns; ended = λ ended. ended }

joined : (old mid new : Client) → LastsIfMade old mid → LastsIfMade mid new → LastsIfMade old new
joined old mid new one two made =
    let first = one made in
    let second = two first.made in
    record {
      made = second.made;
      owned = λ session owns. second.owned session (first.owned session owns);
      ended = λ ended. second.ended (first.ended ended);
    }

ends : (w : World) (client other : ℕ) → LastsIfMade (w.clients other) ((end_client w client).clients other)
ends w client other made =
    record {
      made = made;
      owned = λ session owns. owns;
      ended = λ ended. choice (λ b. b ≡ true) other client true (w.clients other).ended (λ same. refl) (λ differs. ended);
    }

own_lasts : (w : World) (act : OwnAct) (other : ℕ)
    → IsOwnLawful w act → LastsIfMade (w.clients other) ((after_own w act).clients other)
own_lasts w (NewClient client session) other lawful =
    choice (LastsIfMade (w.clients other)) other client _ (w.clients other)
    (λ same made. absurd (made (ap (λ n. (w.clients n).present) same ∙ lawful.0))) (λ differs. itself (w.clients other))
own_lasts w (Renew client session) other lawful =
    let old : Client = w.clients other in
    choice (LastsIfMade old) other client _ old (
    λ same made.
    record {
      made = lawful.1.0;
      owned = λ number owns. (
        owns.0,
        elim owns.1 [
          | inl is ↦ inr (subst (λ n. Contains (old.present ∷ old.former) n) (sym is) (contains_first old.present old.former))
          | inr former ↦ inr (contains_rest number old.present old.former former)
        ],
      );
      ended = λ ended. ended;
    }
    ) (λ differs. itself old)
own_lasts w (Submit client body) other lawful = itself (w.clients other)
own_lasts w (GiveUp call) other lawful = itself (w.clients other)
own_lasts w (End client) other lawful = ends w client other

learn_lasts : (w : World) (client unique salt other : ℕ) → LastsIfMade (w.clients other) ((learn w client unique salt).clients other)
learn_lasts w client unique salt other =
    let Holds : World → Type 0 = λ later. LastsIfMade (w.clients other) (later.clients other) in
    cond_both (list_any (λ known. known == unique) (w.clients client).learnt) w _ Holds (λ already. itself (w.clients other)) (
    λ fresh.
    cond_both (nat_lt (length (w.clients client).learnt) LEARNT_MAX) (after_learnt w client unique salt) (end_client w client) Holds
    (λ room made. record { made = made; owned = λ session owns. owns; ended = λ ended. ended })
    (λ full. ends w client other)
    )

item_lasts : (w : World) (client : ℕ) (item : Item) (takes : Bool) (other : ℕ)
    → LastsIfMade (w.clients other) ((after_item w client item takes).clients other)
item_lasts w client (NewSession unique salt) takes other = learn_lasts w client unique salt other
item_lasts w client (Result number reply) takes other = itself (w.clients other)
item_lasts w client (Notice number code) takes other = itself (w.clients other)
item_lasts w client (WrongSalt number salt) takes other =
    λ made. record { made = made; owned = λ session owns. owns; ended = λ ended. ended }

heard_lasts : (w : World) (client : ℕ) (item : Item) (takes : Bool) (other : ℕ)
    → LastsIfMade (w.clients other) ((after_heard w client item takes).clients other)
heard_lasts w client item takes other =
    cond_both (w.clients client).ended w (after_item w client item takes) (λ (later : World). LastsIfMade (w.clients other) (later.clients other))
    (λ ended. itself (w.clients other)) (λ still. item_lasts w client item takes other)

items_last : (w : World) (client : ℕ) (items : List Item) (takes : List Bool) (other : ℕ)
    → LastsIfMade (w.clients other) ((after_items w client items takes).clients other)
items_last w client [] takes other = itself (w.clients other)
items_last w client (item ∷ items) [] other =
    let mid : World = after_heard w client item false in
    joined (w.clients other) (mid.clients other) ((after_items mid client items []).clients other) (heard_lasts w client item false other)
    (items_last mid client items [] other)
items_last w client (item ∷ items) (take ∷ takes) other =
    let mid : World = after_heard w client item take in
    joined (w.clients other) (mid.clients other) ((after_items mid client items takes).clients other) (heard_lasts w client item take other)
    (items_last mid client items takes other)

move_lasts : (w : World) (move : Move) (other : ℕ)
    → IsLawful w move → LastsIfMade (w.clients other) ((after w move).clients other)
move_lasts w (Own act) other lawful = own_lasts w act other lawful
move_lasts w (Send client parts) other lawful =
    subst (λ (clients : ℕ → Client). LastsIfMade (w.clients other) (clients other)) (sym (leaves_clients w (Send client parts) tt)) (itself (w.clients other))
move_lasts w (Make unique session) other lawful = itself (w.clients other)
move_lasts w (Draw unique salt) other lawful = itself (w.clients other)
move_lasts w (Judge unique message outcome) other lawful = itself (w.clients other)
move_lasts w (Forget unique number) other lawful = itself (w.clients other)
move_lasts w (Answer unique number body reply) other lawful = itself (w.clients other)
move_lasts w (Speak unique items) other lawful = itself (w.clients other)
move_lasts w (Hear client packet takes) other lawful = items_last w client packet.items takes other
move_lasts w (Lose unique) other lawful = itself (w.clients other)

pub clients_last : (w : World) (moves : List Move) (other : ℕ)
    → AreLawful w moves → (w.clients other).present ≢ 0 → Lasts (w.clients other) ((after_all w moves).clients other)
clients_last w [] other lawful = itself (w.clients other)
clients_last w (move ∷ moves) other lawful =
    joined (w.clients other) ((after w move).clients other) ((after_all (after w move) moves).clients other) (move_lasts w move other lawful.0)
    (clients_last (after w move) moves other lawful.1)

-- Bodies

Same : World → World → CallId → Type 0
Same w later call = (later.calls call).body ≡ (w.calls call).body

parts_stay : (w : World) (client : ℕ) (parts : List Part) (call : CallId) → Same w (after_parts w client parts) call
unfolding Same
parts_stay w client [] call = refl
parts_stay w client (First place number ∷ parts) call = parts_stay (after_part w client (First place number)) client parts call
parts_stay w client (Again place number ∷ parts) call = parts_stay (after_part w client (Again place number)) client parts call
parts_stay w client (Other number ∷ parts) call = parts_stay (after_part w client (Other number)) client parts call
parts_stay w client (OtherAgain number ∷ parts) call = parts_stay (after_part w client (OtherAgain number)) client parts call

item_stays : (w : World) (client : ℕ) (item : Item) (takes : Bool) (call : CallId) → Same w (after_item w client item takes) call
unfolding Same
item_stays w client (NewSession unique salt) takes call =
    let Holds : World → Type 0 = λ later. (later.calls call).body ≡ (w.calls call).body in
    cond_both (list_any (λ known. known == unique) (w.clients client).learnt) w _ Holds (λ already. refl) (
    λ fresh.
    cond_both (nat_lt (length (w.clients client).learnt) LEARNT_MAX) (after_learnt w client unique salt) (end_client w client) Holds
    (λ room. refl) (λ full. refl)
    )
item_stays w client (Result number reply) takes call = refl
item_stays w client (Notice number code) takes call = refl
item_stays w client (WrongSalt number salt) takes call = refl

heard_stays : (w : World) (client : ℕ) (item : Item) (takes : Bool) (call : CallId) → Same w (after_heard w client item takes) call
unfolding Same
heard_stays w client item takes call =
    cond_both (w.clients client).ended w (after_item w client item takes) (λ (later : World). (later.calls call).body ≡ (w.calls call).body)
    (λ ended. refl) (λ still. item_stays w client item takes call)

items_stay : (w : World) (client : ℕ) (items : List Item) (takes : List Bool) (call : CallId) → Same w (after_items w client items takes) call
unfolding Same
items_stay w client [] takes call = refl
items_stay w client (item ∷ items) [] call =
    items_stay (after_heard w client item false) client items [] call ∙ heard_stays w client item false call
items_stay w client (item ∷ items) (take ∷ takes) call =
    items_stay (after_heard w client item take) client items takes call ∙ heard_stays w client item take call

own_stays : (w : World) (act : OwnAct) (call : CallId) → call.place < w.submitted call.client → Same w (after_own w act) call
unfolding Same
own_stays w (NewClient client session) call submitted = refl
own_stays w (Renew client session) call submitted = refl
own_stays w (Submit client body) call submitted =
    call_unchosen call (call_at client (w.submitted client)) body (w.calls call).body (
    λ same.
    let place : call.place ≡ w.submitted client = ap (λ (c : CallId). c.place) same in
    let is : w.submitted call.client ≡ w.submitted client = ap (λ (c : CallId). w.submitted c.client) same in
    omega arith
    )
own_stays w (GiveUp given_up) call submitted = refl
own_stays w (End client) call submitted = refl

move_stays : (w : World) (move : Move) (call : CallId) → call.place < w.submitted call.client → Same w (after w move) call
unfolding Same
move_stays w (Own act) call submitted = own_stays w act call submitted
move_stays w (Send client parts) call submitted = parts_stay w client parts call
move_stays w (Make unique session) call submitted = refl
move_stays w (Draw unique salt) call submitted = refl
move_stays w (Judge unique message outcome) call submitted = refl
move_stays w (Forget unique number) call submitted = refl
move_stays w (Answer unique number body reply) call submitted = refl
move_stays w (Speak unique items) call submitted = refl
move_stays w (Hear client packet takes) call submitted = items_stay w client packet.items takes call
move_stays w (Lose unique) call submitted = refl

pub bodies_last : (w : World) (moves : List Move) (call : CallId)
    → AreLawful w moves → call.place < w.submitted call.client → ((after_all w moves).calls call).body ≡ (w.calls call).body
unfolding Same
bodies_last w [] call lawful submitted = refl
bodies_last w (move ∷ moves) call lawful submitted =
    let more : w.submitted call.client ≤ (after w move).submitted call.client = (effect_extends w move lawful.0).submitted call.client in
    bodies_last (after w move) moves call lawful.1 (omega arith) ∙ move_stays w move call submitted
