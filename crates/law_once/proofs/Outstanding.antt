-- A call that is sent, or of which it isn't known what became, has a name.
use Rattle.std.proofs.Common.{◌≡◌, ℕ, ◌==◌, ◌&&◌, Bool, true, false, List, [], ◌∷◌, length, if◌then◌else◌, inl, inr, subst}
use Rattle.std.specs.Prelude.{⊤, nat_lt}
use Rattle.std.specs.List.{list_any}
use Rattle.std.proofs.lemmas.Bool.{and_parts, cases_Bool, cond_both}
use Rattle.law_moves.specs.Table as moves
use Rattle.law_moves.specs.Table.{Call, CallId, Item, Name, State, same_call}
use Rattle.law_moves.specs.Table.State.{Queued, Sent, Held, Done, Refused, Unknown}
use Rattle.law_moves.specs.Table.Cause.{ServerSessionLost, Renewed, Ended, Forgotten}
use Rattle.law_moves.specs.Table.Item.{NewSession, Result, Notice, WrongSalt}
use Rattle.law_moves.specs.World.{World, start}
use Rattle.law_moves.specs.Move.{Move, Part}
use Rattle.law_moves.specs.Move.Part.{First, Again, Other, OtherAgain}
use Rattle.law_moves.specs.Move.OwnAct.{NewClient, Renew, Submit, GiveUp, End}
use Rattle.law_moves.specs.Move.Move.{Own, Send, Make, Draw, Judge, Forget, Answer, Speak, Hear, Lose}
use Rattle.law_moves.specs.After.{LEARNT_MAX, after, after_heard, after_item, after_items, after_learnt, after_part, after_parts, after_settled, end_client, is_newest, is_sent, learn, newest_salts, state_ended, state_learnt, state_noticed, state_renewed, with_states}
use Rattle.law_moves.specs.Reached.{Reached, after_all}

-- where the state wants a name, there is one
abbrev pub HasName : State → List Name → Type 0
HasName Queued names = ⊤
HasName Sent names = names ≡ [] → ⊥
HasName Held names = ⊤
HasName (Done reply) names = ⊤
HasName (Refused code) names = ⊤
HasName (Unknown cause) names = names ≡ [] → ⊥

abbrev pub AllNamed : (CallId → Call) → Type 0
AllNamed calls = (call : CallId) → HasName (calls call).state (calls call).names

-- one that has a name may have any state
any_state : (state : State) (names : List Name) → (names ≡ [] → ⊥) → HasName state names
any_state Queued names some = tt
any_state Sent names some = some
any_state Held names some = tt
any_state (Done reply) names some = tt
any_state (Refused code) names some = tt
any_state (Unknown cause) names some = some

sent_named : (state : State) (names : List Name) → HasName state names → is_sent state ≡ true → names ≡ [] → ⊥
sent_named Queued names h is = absurd (cc)
sent_named Sent names h is = h
sent_named Held names h is = absurd (cc)
sent_named (Done reply) names h is = absurd (cc)
sent_named (Refused code) names h is = absurd (cc)
sent_named (Unknown cause) names h is = absurd (cc)

renewed_named : (state : State) (names : List Name) → HasName state names → HasName (state_renewed state) names
renewed_named Queued names h = tt
renewed_named Sent names h = h
renewed_named Held names h = tt
renewed_named (Done reply) names h = tt
renewed_named (Refused code) names h = tt
renewed_named (Unknown cause) names h = h

ended_named : (state : State) (names : List Name) → HasName state names → HasName (state_ended state) names
ended_named Queued names h = tt
ended_named Sent names h = h
ended_named Held names h = tt
ended_named (Done reply) names h = tt
ended_named (Refused code) names h = tt
ended_named (Unknown cause) names h = h

-- each call of a client gets a state
states_named : (client : ℕ) (state : Call → State) (calls : CallId → Call) → AllNamed calls → ((call : Call) → HasName call.state call.names → HasName (state call) call.names)
    → AllNamed (with_states client state calls)
states_named client state calls h so call =
    cond_both (call.client == client) (state (calls call)) (calls call).state (λ (s : State). HasName s (calls call).names) (λ is. so (calls call) (h call)) (λ is. h call)

if_sent : (test : Bool) (state : State) (call : Call) → HasName call.state call.names → (test ≡ true → is_sent call.state ≡ true) → HasName (if test then state else call.state) call.names
if_sent test state call h so =
    cond_both test state call.state (λ (s : State). HasName s call.names) (λ is. any_state state call.names (sent_named call.state call.names h (so is))) (λ is. h)

-- ---- what a client hears

settled_named : (w : World) (client number : ℕ) (state : State) → AllNamed w.calls → AllNamed (after_settled w client number state).calls
settled_named w client number state h =
    states_named client (λ (call : Call). if is_sent call.state && is_newest call.names (w.clients client).present number then state else call.state) w.calls h
    (λ call its. if_sent (is_sent call.state && is_newest call.names (w.clients client).present number) state call its
    (λ is. (and_parts (is_sent call.state) (is_newest call.names (w.clients client).present number) is).0))

learnt_named : (w : World) (client unique salt : ℕ) → AllNamed w.calls → AllNamed (after_learnt w client unique salt).calls
learnt_named w client unique salt h =
    states_named client (λ (call : Call). if is_sent call.state then state_learnt (w.clients client).learnt salt (newest_salts w.ups call.names) else call.state) w.calls h
    (λ call its. if_sent (is_sent call.state) (state_learnt (w.clients client).learnt salt (newest_salts w.ups call.names)) call its (λ is. is))

over_named : (w : World) (client : ℕ) → AllNamed w.calls → AllNamed (end_client w client).calls
over_named w client h = states_named client (λ (call : Call). state_ended call.state) w.calls h (λ call its. ended_named call.state call.names its)

learns_named : (w : World) (client unique salt : ℕ) → AllNamed w.calls → AllNamed (learn w client unique salt).calls
learns_named w client unique salt h =
    cond_both (list_any (λ known. known == unique) (w.clients client).learnt) w _ (λ (v : World). AllNamed v.calls) (λ is. h)
    (λ is. cond_both (nat_lt (length (w.clients client).learnt) LEARNT_MAX) (after_learnt w client unique salt) (end_client w client) (λ (v : World). AllNamed v.calls)
    (λ room. learnt_named w client unique salt h) (λ full. over_named w client h))

item_named : (w : World) (client : ℕ) (item : Item) (takes : Bool) → AllNamed w.calls → AllNamed (after_item w client item takes).calls
item_named w client (NewSession unique salt) takes h = learns_named w client unique salt h
item_named w client (Result number reply) takes h = settled_named w client number (Done reply) h
item_named w client (Notice number code) takes h = settled_named w client number (state_noticed code) h
item_named w client (WrongSalt number salt) takes h = settled_named w client number (state_noticed 48) h

heard_named : (w : World) (client : ℕ) (item : Item) (takes : Bool) → AllNamed w.calls → AllNamed (after_heard w client item takes).calls
heard_named w client item takes h =
    cond_both (w.clients client).ended w (after_item w client item takes) (λ (v : World). AllNamed v.calls) (λ is. h) (λ is. item_named w client item takes h)

items_named : (w : World) (client : ℕ) (items : List Item) (takes : List Bool) → AllNamed w.calls → AllNamed (after_items w client items takes).calls
items_named w client [] takes h = h
items_named w client (item ∷ items) [] h = items_named (after_heard w client item false) client items [] (heard_named w client item false h)
items_named w client (item ∷ items) (take ∷ takes) h = items_named (after_heard w client item take) client items takes (heard_named w client item take h)

-- ---- what it sends

part_named : (w : World) (client : ℕ) (part : Part) → AllNamed w.calls → AllNamed (after_part w client part).calls
part_named w client (First place number) h call =
    elim (cases_Bool (same_call call (moves.call_at client place))) [
      | inl is ↦ rw is (λ none. absurd (cc))
      | inr differs ↦ rw differs (h call)
    ]
part_named w client (Again place number) h call = h call
part_named w client (Other number) h call = h call
part_named w client (OtherAgain number) h call = h call

parts_named : (w : World) (client : ℕ) (parts : List Part) → AllNamed w.calls → AllNamed (after_parts w client parts).calls
parts_named w client [] h = h
parts_named w client (part ∷ parts) h = parts_named (after_part w client part) client parts (part_named w client part h)

-- ---- any move

own_named : (w : World) (act : _) → AllNamed w.calls → AllNamed (after w (Own act)).calls
own_named w (NewClient client session) h = h
own_named w (Renew client session) h = states_named client (λ (call : Call). state_renewed call.state) w.calls h (λ call its. renewed_named call.state call.names its)
own_named w (Submit client body) h = λ call.
    cond_both (same_call call (moves.call_at client (w.submitted client))) Queued (w.calls call).state (λ (s : State). HasName s (w.calls call).names) (λ is. tt) (λ is. h call)
own_named w (GiveUp given_up) h = λ call.
    cond_both (same_call call given_up) (Refused 0) (w.calls call).state (λ (s : State). HasName s (w.calls call).names) (λ is. tt) (λ is. h call)
own_named w (End client) h = over_named w client h

moved : (w : World) (move : Move) → AllNamed w.calls → AllNamed (after w move).calls
moved w (Own act) h = own_named w act h
moved w (Send client parts) h = parts_named w client parts h
moved w (Make unique session) h = h
moved w (Draw unique salt) h = h
moved w (Judge unique message outcome) h = h
moved w (Forget unique number) h = h
moved w (Answer unique number body reply) h = h
moved w (Speak unique items) h = h
moved w (Hear client packet takes) h = items_named w client packet.items takes h
moved w (Lose unique) h = h

all_moved : (w : World) (list : List Move) → AllNamed w.calls → AllNamed (after_all w list).calls
all_moved w [] h = h
all_moved w (move ∷ list) h = all_moved (after w move) list (moved w move h)

pub all_named : (w : World) → Reached w → AllNamed w.calls
all_named w reached = subst (λ (v : World). AllNamed v.calls) reached.2 (all_moved start reached.0 (λ call. tt))
