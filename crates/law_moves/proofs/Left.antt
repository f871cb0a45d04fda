-- What a move leaves as it was.
use Rattle.std.proofs.Common.{◌≡◌, ◌≢◌, ℕ, ◌==◌, nat_lt, Bool, false, List, [], ◌∷◌, length, refl, ap, ◌∙◌, ne_eqb}
use Rattle.std.proofs.lemmas.Bool.{cond_both}
use Rattle.std.proofs.lemmas.List.Elements.{All-head, All-tail}
use Rattle.std.specs.List.{All, list_any}
use Rattle.law_moves.specs.Table.{CallId, State, Client, Item}
use Rattle.law_moves.specs.Table.State.{Done}
use Rattle.law_moves.specs.Table.Item.{NewSession, Result, Notice, WrongSalt}
use Rattle.law_moves.specs.World.{World}
use Rattle.law_moves.specs.Move.{OwnAct, Part, Move}
use Rattle.law_moves.specs.Move.OwnAct.{NewClient, Renew, Submit, GiveUp, End}
use Rattle.law_moves.specs.Move.Part.{First, Again, Other, OtherAgain}
use Rattle.law_moves.specs.Move.Move.{Own, Send, Make, Draw, Judge, Forget, Answer, Speak, Hear, Lose}
use Rattle.law_moves.specs.After.{after_own, after_part, after_parts, end_client, after_settled, state_noticed, after_salt, after_learnt, learn, after_item, after_heard, after_items, after, LEARNT_MAX}
use Rattle.law_moves.specs.Reached.{after_all}
use Rattle.law_moves.specs.Extends.{LeavesServers, LeavesClients, LeavesCalls, LeavesSubmitted, LeavesMessages, LeavesPackets, LeavesEntries, IsOfServer, IsOfClient}

-- A part of the world that each item leaves, a packet leaves

learn_leaves : {A : Type 0} (part : World → A) (w : World) (client unique salt : ℕ)
    → part (after_learnt w client unique salt) ≡ part w
    → part (end_client w client) ≡ part w
    → part (learn w client unique salt) ≡ part w
learn_leaves part w client unique salt learnt ended =
    cond_both (list_any (λ known. known == unique) (w.clients client).learnt) w _ (λ later. part later ≡ part w) (λ already. refl) (
    λ fresh.
    cond_both (nat_lt (length (w.clients client).learnt) LEARNT_MAX) (after_learnt w client unique salt) (end_client w client) (λ later. part later ≡ part w)
    (λ room. learnt) (λ full. ended)
    )

items_leave : {A : Type 0} (part : World → A) (client : ℕ)
    → ((w : World) (item : Item) (takes : Bool) → part (after_item w client item takes) ≡ part w)
    → (w : World) (items : List Item) (takes : List Bool)
    → part (after_items w client items takes) ≡ part w
items_leave {A = A} part client each w items takes = go w items takes
  where
    heard : (w : World) (item : Item) (takes : Bool) → part (after_heard w client item takes) ≡ part w
    heard w item takes =
        cond_both (w.clients client).ended w (after_item w client item takes) (λ later. part later ≡ part w) (λ ended. refl) (λ still. each w item takes)

    go : (w : World) (items : List Item) (takes : List Bool) → part (after_items w client items takes) ≡ part w
    go w [] takes = refl
    go w (item ∷ items) [] = go (after_heard w client item false) items [] ∙ heard w item false
    go w (item ∷ items) (take ∷ takes) = go (after_heard w client item take) items takes ∙ heard w item take

parts_leave : {A : Type 0} (part : World → A) (client : ℕ)
    → ((w : World) (each : Part) → part (after_part w client each) ≡ part w)
    → (w : World) (parts : List Part)
    → part (after_parts w client parts) ≡ part w
parts_leave part client each w [] = refl
parts_leave part client each w (one ∷ parts) = parts_leave part client each (after_part w client one) parts ∙ each w one

-- What one server session's moves leave

pub other_server : (w : World) (unique other : ℕ) (move : Move)
    → IsOfServer unique move → other ≢ unique → (after w move).servers other ≡ w.servers other
other_server w unique other (Own act) is differs = absurd is
other_server w unique other (Send client parts) is differs = absurd is
other_server w unique other (Make one session) is differs = rw (ne_eqb other one (λ same. differs (same ∙ is))) refl
other_server w unique other (Draw one salt) is differs = rw (ne_eqb other one (λ same. differs (same ∙ is))) refl
other_server w unique other (Judge one message outcome) is differs = rw (ne_eqb other one (λ same. differs (same ∙ is))) refl
other_server w unique other (Forget one number) is differs = rw (ne_eqb other one (λ same. differs (same ∙ is))) refl
other_server w unique other (Answer one number body reply) is differs = refl
other_server w unique other (Speak one items) is differs = refl
other_server w unique other (Hear client packet takes) is differs = absurd is
other_server w unique other (Lose one) is differs = rw (ne_eqb other one (λ same. differs (same ∙ is))) refl

-- What one client's moves leave

item_other_client : (client other : ℕ) → other ≢ client → (w : World) (item : Item) (takes : Bool)
    → (after_item w client item takes).clients other ≡ w.clients other
item_other_client client other differs w (NewSession unique salt) takes =
    learn_leaves (λ v. v.clients other) w client unique salt (rw (ne_eqb other client differs) refl) (rw (ne_eqb other client differs) refl)
item_other_client client other differs w (Result number reply) takes = refl
item_other_client client other differs w (Notice number code) takes = refl
item_other_client client other differs w (WrongSalt number salt) takes = rw (ne_eqb other client differs) refl

item_other_call : (client : ℕ) (call : CallId) → call.client ≢ client → (w : World) (item : Item) (takes : Bool)
    → (after_item w client item takes).calls call ≡ w.calls call
item_other_call client call differs w (NewSession unique salt) takes =
    learn_leaves (λ v. v.calls call) w client unique salt (rw (ne_eqb call.client client differs) refl) (rw (ne_eqb call.client client differs) refl)
item_other_call client call differs w (Result number reply) takes = rw (ne_eqb call.client client differs) refl
item_other_call client call differs w (Notice number code) takes = rw (ne_eqb call.client client differs) refl
item_other_call client call differs w (WrongSalt number salt) takes = rw (ne_eqb call.client client differs) refl

own_other_client : (w : World) (client other : ℕ) (act : OwnAct)
    → IsOfClient client (Own act) → other ≢ client → (after_own w act).clients other ≡ w.clients other
own_other_client w client other (NewClient one session) is differs = rw (ne_eqb other one (λ same. differs (same ∙ is))) refl
own_other_client w client other (Renew one session) is differs = rw (ne_eqb other one (λ same. differs (same ∙ is))) refl
own_other_client w client other (Submit one body) is differs = refl
own_other_client w client other (GiveUp call) is differs = refl
own_other_client w client other (End one) is differs = rw (ne_eqb other one (λ same. differs (same ∙ is))) refl

own_other_call : (w : World) (client : ℕ) (call : CallId) (act : OwnAct)
    → IsOfClient client (Own act) → call.client ≢ client → (after_own w act).calls call ≡ w.calls call
own_other_call w client call (NewClient one session) is differs = refl
own_other_call w client call (Renew one session) is differs = rw (ne_eqb call.client one (λ same. differs (same ∙ is))) refl
own_other_call w client call (Submit one body) is differs = rw (ne_eqb call.client one (λ same. differs (same ∙ is))) refl
own_other_call w client call (GiveUp given_up) is differs = rw (ne_eqb call.client given_up.client (λ same. differs (same ∙ is))) refl
own_other_call w client call (End one) is differs = rw (ne_eqb call.client one (λ same. differs (same ∙ is))) refl

part_other_call : (client : ℕ) (call : CallId) → call.client ≢ client → (w : World) (part : Part)
    → (after_part w client part).calls call ≡ w.calls call
part_other_call client call differs w (First place number) = rw (ne_eqb call.client client differs) refl
part_other_call client call differs w (Again place number) = refl
part_other_call client call differs w (Other number) = refl
part_other_call client call differs w (OtherAgain number) = refl

-- Parts

part_leaves_servers : (w : World) (client : ℕ) (part : Part) → (after_part w client part).servers ≡ w.servers
part_leaves_servers w client (First place number) = refl
part_leaves_servers w client (Again place number) = refl
part_leaves_servers w client (Other number) = refl
part_leaves_servers w client (OtherAgain number) = refl

part_leaves_downs : (w : World) (client : ℕ) (part : Part) → (after_part w client part).downs ≡ w.downs
part_leaves_downs w client (First place number) = refl
part_leaves_downs w client (Again place number) = refl
part_leaves_downs w client (Other number) = refl
part_leaves_downs w client (OtherAgain number) = refl

part_leaves_entries : (w : World) (client : ℕ) (part : Part) → (after_part w client part).entries ≡ w.entries
part_leaves_entries w client (First place number) = refl
part_leaves_entries w client (Again place number) = refl
part_leaves_entries w client (Other number) = refl
part_leaves_entries w client (OtherAgain number) = refl

part_leaves_submitted : (w : World) (client : ℕ) (part : Part) → (after_part w client part).submitted ≡ w.submitted
part_leaves_submitted w client (First place number) = refl
part_leaves_submitted w client (Again place number) = refl
part_leaves_submitted w client (Other number) = refl
part_leaves_submitted w client (OtherAgain number) = refl

part_leaves_clients : (w : World) (client : ℕ) (part : Part) → (after_part w client part).clients ≡ w.clients
part_leaves_clients w client (First place number) = refl
part_leaves_clients w client (Again place number) = refl
part_leaves_clients w client (Other number) = refl
part_leaves_clients w client (OtherAgain number) = refl

item_part : {A : Type 0} (part : World → A) (client : ℕ) (w : World) (item : Item) (takes : Bool)
    → ((unique salt : ℕ) → part (after_learnt w client unique salt) ≡ part w)
    → part (end_client w client) ≡ part w
    → ((number : ℕ) (state : State) → part (after_settled w client number state) ≡ part w)
    → ((number salt : ℕ) → part (after_salt (after_settled w client number (state_noticed 48)) client salt takes) ≡ part w)
    → part (after_item w client item takes) ≡ part w
item_part part client w (NewSession unique salt) takes learnt ended settled salted = learn_leaves part w client unique salt (learnt unique salt) ended
item_part part client w (Result number reply) takes learnt ended settled salted = settled number (Done reply)
item_part part client w (Notice number code) takes learnt ended settled salted = settled number (state_noticed code)
item_part part client w (WrongSalt number salt) takes learnt ended settled salted = salted number salt

pub leaves_servers : (w : World) (move : Move) → LeavesServers move → (after w move).servers ≡ w.servers
leaves_servers w (Own (NewClient client session)) leaves = refl
leaves_servers w (Own (Renew client session)) leaves = refl
leaves_servers w (Own (Submit client body)) leaves = refl
leaves_servers w (Own (GiveUp call)) leaves = refl
leaves_servers w (Own (End client)) leaves = refl
leaves_servers w (Send client parts) leaves = parts_leave (λ v. v.servers) client (λ v part. part_leaves_servers v client part) w parts
leaves_servers w (Make unique session) leaves = absurd leaves
leaves_servers w (Draw unique salt) leaves = absurd leaves
leaves_servers w (Judge unique message outcome) leaves = absurd leaves
leaves_servers w (Forget unique number) leaves = absurd leaves
leaves_servers w (Answer unique number body reply) leaves = refl
leaves_servers w (Speak unique items) leaves = refl
leaves_servers w (Hear client packet takes) leaves =
    items_leave (λ v. v.servers) client (λ v item take. item_part (λ u. u.servers) client v item take (λ unique salt. refl) refl (λ number state. refl) (λ number salt. refl)) w packet.items takes
leaves_servers w (Lose unique) leaves = absurd leaves

leaves_messages : (w : World) (move : Move) → LeavesMessages move → (after w move).ups ≡ w.ups
leaves_messages w (Own (NewClient client session)) leaves = refl
leaves_messages w (Own (Renew client session)) leaves = refl
leaves_messages w (Own (Submit client body)) leaves = refl
leaves_messages w (Own (GiveUp call)) leaves = refl
leaves_messages w (Own (End client)) leaves = refl
leaves_messages w (Send client parts) leaves = absurd leaves
leaves_messages w (Make unique session) leaves = refl
leaves_messages w (Draw unique salt) leaves = refl
leaves_messages w (Judge unique message outcome) leaves = refl
leaves_messages w (Forget unique number) leaves = refl
leaves_messages w (Answer unique number body reply) leaves = refl
leaves_messages w (Speak unique items) leaves = refl
leaves_messages w (Hear client packet takes) leaves =
    items_leave (λ v. v.ups) client (λ v item take. item_part (λ u. u.ups) client v item take (λ unique salt. refl) refl (λ number state. refl) (λ number salt. refl)) w packet.items takes
leaves_messages w (Lose unique) leaves = refl

leaves_packets : (w : World) (move : Move) → LeavesPackets move → (after w move).downs ≡ w.downs
leaves_packets w (Own (NewClient client session)) leaves = refl
leaves_packets w (Own (Renew client session)) leaves = refl
leaves_packets w (Own (Submit client body)) leaves = refl
leaves_packets w (Own (GiveUp call)) leaves = refl
leaves_packets w (Own (End client)) leaves = refl
leaves_packets w (Send client parts) leaves = parts_leave (λ v. v.downs) client (λ v part. part_leaves_downs v client part) w parts
leaves_packets w (Make unique session) leaves = refl
leaves_packets w (Draw unique salt) leaves = refl
leaves_packets w (Judge unique message outcome) leaves = refl
leaves_packets w (Forget unique number) leaves = refl
leaves_packets w (Answer unique number body reply) leaves = refl
leaves_packets w (Speak unique items) leaves = absurd leaves
leaves_packets w (Hear client packet takes) leaves =
    items_leave (λ v. v.downs) client (λ v item take. item_part (λ u. u.downs) client v item take (λ unique salt. refl) refl (λ number state. refl) (λ number salt. refl)) w packet.items takes
leaves_packets w (Lose unique) leaves = refl

leaves_entries : (w : World) (move : Move) → LeavesEntries move → (after w move).entries ≡ w.entries
leaves_entries w (Own (NewClient client session)) leaves = refl
leaves_entries w (Own (Renew client session)) leaves = refl
leaves_entries w (Own (Submit client body)) leaves = refl
leaves_entries w (Own (GiveUp call)) leaves = refl
leaves_entries w (Own (End client)) leaves = refl
leaves_entries w (Send client parts) leaves = parts_leave (λ v. v.entries) client (λ v part. part_leaves_entries v client part) w parts
leaves_entries w (Make unique session) leaves = refl
leaves_entries w (Draw unique salt) leaves = refl
leaves_entries w (Judge unique message outcome) leaves = refl
leaves_entries w (Forget unique number) leaves = refl
leaves_entries w (Answer unique number body reply) leaves = absurd leaves
leaves_entries w (Speak unique items) leaves = refl
leaves_entries w (Hear client packet takes) leaves =
    items_leave (λ v. v.entries) client (λ v item take. item_part (λ u. u.entries) client v item take (λ unique salt. refl) refl (λ number state. refl) (λ number salt. refl)) w packet.items takes
leaves_entries w (Lose unique) leaves = refl

leaves_submitted : (w : World) (move : Move) → LeavesSubmitted move → (after w move).submitted ≡ w.submitted
leaves_submitted w (Own (NewClient client session)) leaves = refl
leaves_submitted w (Own (Renew client session)) leaves = refl
leaves_submitted w (Own (Submit client body)) leaves = absurd leaves
leaves_submitted w (Own (GiveUp call)) leaves = refl
leaves_submitted w (Own (End client)) leaves = refl
leaves_submitted w (Send client parts) leaves = parts_leave (λ v. v.submitted) client (λ v part. part_leaves_submitted v client part) w parts
leaves_submitted w (Make unique session) leaves = refl
leaves_submitted w (Draw unique salt) leaves = refl
leaves_submitted w (Judge unique message outcome) leaves = refl
leaves_submitted w (Forget unique number) leaves = refl
leaves_submitted w (Answer unique number body reply) leaves = refl
leaves_submitted w (Speak unique items) leaves = refl
leaves_submitted w (Hear client packet takes) leaves =
    items_leave (λ v. v.submitted) client (λ v item take. item_part (λ u. u.submitted) client v item take (λ unique salt. refl) refl (λ number state. refl) (λ number salt. refl)) w packet.items takes
leaves_submitted w (Lose unique) leaves = refl

pub leaves_clients : (w : World) (move : Move) → LeavesClients move → (after w move).clients ≡ w.clients
leaves_clients w (Own act) leaves = absurd leaves
leaves_clients w (Send client parts) leaves = parts_leave (λ v. v.clients) client (λ v part. part_leaves_clients v client part) w parts
leaves_clients w (Make unique session) leaves = refl
leaves_clients w (Draw unique salt) leaves = refl
leaves_clients w (Judge unique message outcome) leaves = refl
leaves_clients w (Forget unique number) leaves = refl
leaves_clients w (Answer unique number body reply) leaves = refl
leaves_clients w (Speak unique items) leaves = refl
leaves_clients w (Hear client packet takes) leaves = absurd leaves
leaves_clients w (Lose unique) leaves = refl

leaves_calls : (w : World) (move : Move) → LeavesCalls move → (after w move).calls ≡ w.calls
leaves_calls w (Own act) leaves = absurd leaves
leaves_calls w (Send client parts) leaves = absurd leaves
leaves_calls w (Make unique session) leaves = refl
leaves_calls w (Draw unique salt) leaves = refl
leaves_calls w (Judge unique message outcome) leaves = refl
leaves_calls w (Forget unique number) leaves = refl
leaves_calls w (Answer unique number body reply) leaves = refl
leaves_calls w (Speak unique items) leaves = refl
leaves_calls w (Hear client packet takes) leaves = absurd leaves
leaves_calls w (Lose unique) leaves = refl

-- a move of one client leaves every other one and its calls
pub other_client : (w : World) (client other : ℕ) (move : Move)
    → IsOfClient client move → other ≢ client → (after w move).clients other ≡ w.clients other
other_client w client other (Own act) is differs = own_other_client w client other act is differs
other_client w client other (Send one parts) is differs =
    parts_leave (λ v. v.clients other) one (λ v part. ap (λ (c : ℕ → Client). c other) (part_leaves_clients v one part)) w parts
other_client w client other (Hear one packet takes) is differs =
    items_leave (λ v. v.clients other) one (item_other_client one other (λ same. differs (same ∙ is))) w packet.items takes
other_client w client other (Make unique session) is differs = refl
other_client w client other (Draw unique salt) is differs = refl
other_client w client other (Judge unique message outcome) is differs = refl
other_client w client other (Forget unique number) is differs = refl
other_client w client other (Answer unique number body reply) is differs = refl
other_client w client other (Speak unique items) is differs = refl
other_client w client other (Lose unique) is differs = refl

other_call : (w : World) (client : ℕ) (call : CallId) (move : Move)
    → IsOfClient client move → call.client ≢ client → (after w move).calls call ≡ w.calls call
other_call w client call (Own act) is differs = own_other_call w client call act is differs
other_call w client call (Send one parts) is differs =
    parts_leave (λ v. v.calls call) one (part_other_call one call (λ same. differs (same ∙ is))) w parts
other_call w client call (Hear one packet takes) is differs =
    items_leave (λ v. v.calls call) one (item_other_call one call (λ same. differs (same ∙ is))) w packet.items takes
other_call w client call (Make unique session) is differs = refl
other_call w client call (Draw unique salt) is differs = refl
other_call w client call (Judge unique message outcome) is differs = refl
other_call w client call (Forget unique number) is differs = refl
other_call w client call (Answer unique number body reply) is differs = refl
other_call w client call (Speak unique items) is differs = refl
other_call w client call (Lose unique) is differs = refl

-- Lists of moves

all_leave : {A : Type 0} (part : World → A) (Leaves : Move → Type 0)
    → ((w : World) (move : Move) → Leaves move → part (after w move) ≡ part w)
    → (w : World) (moves : List Move)
    → All Leaves moves
    → part (after_all w moves) ≡ part w
all_leave part Leaves each w [] leave = refl
all_leave part Leaves each w (move ∷ moves) leave =
    all_leave part Leaves each (after w move) moves (All-tail Leaves move moves leave) ∙ each w move (All-head Leaves move moves leave)

pub servers_left : (w : World) (moves : List Move) → All LeavesServers moves → (after_all w moves).servers ≡ w.servers
servers_left = all_leave (λ v. v.servers) LeavesServers leaves_servers

pub clients_left : (w : World) (moves : List Move) → All LeavesClients moves → (after_all w moves).clients ≡ w.clients
clients_left = all_leave (λ v. v.clients) LeavesClients leaves_clients

pub calls_left : (w : World) (moves : List Move) → All LeavesCalls moves → (after_all w moves).calls ≡ w.calls
calls_left = all_leave (λ v. v.calls) LeavesCalls leaves_calls

pub submitted_left : (w : World) (moves : List Move) → All LeavesSubmitted moves → (after_all w moves).submitted ≡ w.submitted
submitted_left = all_leave (λ v. v.submitted) LeavesSubmitted leaves_submitted

pub messages_left : (w : World) (moves : List Move) → All LeavesMessages moves → (after_all w moves).ups ≡ w.ups
messages_left = all_leave (λ v. v.ups) LeavesMessages leaves_messages

pub packets_left : (w : World) (moves : List Move) → All LeavesPackets moves → (after_all w moves).downs ≡ w.downs
packets_left = all_leave (λ v. v.downs) LeavesPackets leaves_packets

pub entries_left : (w : World) (moves : List Move) → All LeavesEntries moves → (after_all w moves).entries ≡ w.entries
entries_left = all_leave (λ v. v.entries) LeavesEntries leaves_entries

pub other_server_left : (w : World) (unique other : ℕ) (moves : List Move)
    → All (IsOfServer unique) moves → other ≢ unique → (after_all w moves).servers other ≡ w.servers other
other_server_left w unique other moves are differs =
    all_leave (λ v. v.servers other) (IsOfServer unique) (λ v move is. other_server v unique other move is differs) w moves are

pub other_client_left : (w : World) (client other : ℕ) (moves : List Move)
    → All (IsOfClient client) moves → other ≢ client → (after_all w moves).clients other ≡ w.clients other
other_client_left w client other moves are differs =
    all_leave (λ v. v.clients other) (IsOfClient client) (λ v move is. other_client v client other move is differs) w moves are

pub other_calls_left : (w : World) (client : ℕ) (call : CallId) (moves : List Move)
    → All (IsOfClient client) moves → call.client ≢ client → (after_all w moves).calls call ≡ w.calls call
other_calls_left w client call moves are differs =
    all_leave (λ v. v.calls call) (IsOfClient client) (λ v move is. other_call v client call move is differs) w moves are
