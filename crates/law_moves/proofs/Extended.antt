-- What was made is there later.
use Rattle.std.proofs.Common.{ℕ, suc, ◌≤◌, ◌==◌, nat_lt, Bool, false, List, [], ◌∷◌, Some, None, length, arith, ◌∙◌}
use Rattle.std.proofs.lemmas.Bool.{cond_both}
use Rattle.std.specs.List.{list_any}
use Rattle.law_moves.specs.Table.{CallId, State, Client, Message, Item, ServerSession, call_at}
use Rattle.law_moves.specs.Table.Item.{NewSession, Result, Notice, WrongSalt}
use Rattle.law_moves.specs.World.{World}
use Rattle.law_moves.specs.Move.{OwnAct, Part, Move}
use Rattle.law_moves.specs.Move.OwnAct.{NewClient, Renew, Submit, GiveUp, End}
use Rattle.law_moves.specs.Move.Part.{First, Again, Other, OtherAgain}
use Rattle.law_moves.specs.Move.Move.{Own, Send, Make, Draw, Judge, Forget, Answer, Speak, Hear, Lose}
use Rattle.law_moves.specs.After.{after_own, after_part, after_parts, end_client, after_learnt, after_item, after_heard, after_items, effect, after, message_of, name_of, LEARNT_MAX}
use Rattle.law_moves.specs.Lawful.{IsLawful}
use Rattle.law_moves.specs.Reached.{after_all, AreLawful}
use Rattle.law_moves.specs.Extends.{Grows, Extends}
use Rattle.law_moves.proofs.Basics.{contains_rest, call_added_still, choice}
use Rattle.law_moves.proofs.Grows.{unchanged}
use Rattle.law_moves.proofs.Restated.{restate}
use Rattle.law_moves.proofs.MakeKept.{make_grows}
use Rattle.law_moves.proofs.DrawKept.{draw_grows}
use Rattle.law_moves.proofs.JudgeKept.{judge_grows}
use Rattle.law_moves.proofs.ForgetKept.{forget_grows}
use Rattle.law_moves.proofs.LoseKept.{lose_grows}

-- one world after another

grown : {old mid new : ℕ → ServerSession} (one : Grows old mid) (two : Grows mid new) → Grows old new
grown one two =
    record {
      session = λ unique made. two.session unique (one.made unique made) ∙ one.session unique made;
      made = λ unique made. two.made unique (one.made unique made);
      since = λ unique made. two.since unique (one.made unique made) ∙ one.since unique made;
      lost = λ unique at lost. two.lost unique at (one.lost unique at lost);
      salts = λ unique salt h. two.salts unique salt (one.salts unique salt h);
      judged = λ unique judged h. two.judged unique judged (one.judged unique judged h);
      forgotten = λ unique number h. two.forgotten unique number (one.forgotten unique number h);
    }

pub join : (w mid later : World) → Extends w mid → Extends mid later → Extends w later
join w mid later one two =
    record {
      servers = grown one.servers two.servers;
      messages = λ message h. two.messages message (one.messages message h);
      packets = λ packet h. two.packets packet (one.packets packet h);
      entries = λ entry h. two.entries entry (one.entries entry h);
      names = λ call name h. two.names call name (one.names call name h);
      submitted = λ client.
          let early : w.submitted client ≤ mid.submitted client = one.submitted client in
          let late : mid.submitted client ≤ later.submitted client = two.submitted client in
          omega arith;
    }

-- where server sessions grew alone
with_servers : (w : World) (new : ℕ → ServerSession) → Grows w.servers new → Extends w (record w { servers = new })
with_servers w new g =
    record {
      servers = g;
      messages = λ message h. h;
      packets = λ packet h. h;
      entries = λ entry h. h;
      names = λ call name h. h;
      submitted = λ client. omega arith;
    }

pub itself : (w : World) → Extends w w
itself w = with_servers w w.servers (unchanged w.servers)

-- where clients and the states of calls change
restated : (w : World) (clients : ℕ → Client) (state : CallId → State) → Extends w (restate w clients state)
restated w clients state =
    record {
      servers = unchanged w.servers;
      messages = λ message h. h;
      packets = λ packet h. h;
      entries = λ entry h. h;
      names = λ call name h. h;
      submitted = λ client. omega arith;
    }

-- Moves of a client

own_extends : (w : World) (act : OwnAct) → Extends w (after_own w act)
own_extends w (NewClient client session) = restated w (after_own w (NewClient client session)).clients (λ call. (w.calls call).state)
own_extends w (Renew client session) =
    let later : World = after_own w (Renew client session) in restated w later.clients (λ call. (later.calls call).state)
own_extends w (Submit client body) =
    record {
      servers = unchanged w.servers;
      messages = λ message h. h;
      packets = λ packet h. h;
      entries = λ entry h. h;
      names = λ call name h. h;
      submitted = λ other.
          choice (λ n. w.submitted other ≤ n) other client (suc (w.submitted other)) (w.submitted other) (λ same. omega arith) (λ differs. omega arith);
    }
own_extends w (GiveUp given_up) =
    let later : World = after_own w (GiveUp given_up) in restated w w.clients (λ call. (later.calls call).state)
own_extends w (End client) =
    let later : World = end_client w client in restated w later.clients (λ call. (later.calls call).state)

-- one more message
with_message : (w : World) (new : Message) → Extends w (record w { ups = new ∷ w.ups })
with_message w new =
    record {
      servers = unchanged w.servers;
      messages = λ message. contains_rest message new w.ups;
      packets = λ packet h. h;
      entries = λ entry h. h;
      names = λ call name h. h;
      submitted = λ client. omega arith;
    }

part_extends : (w : World) (client : ℕ) (part : Part) → Extends w (after_part w client part)
part_extends w client (First place number) =
    let call : CallId = call_at client place in
    let new : Message = message_of (w.clients client) number (Some (w.calls call).body) in
    record {
      servers = unchanged w.servers;
      messages = λ message. contains_rest message new w.ups;
      packets = λ packet h. h;
      entries = λ entry h. h;
      names = λ other name h. call_added_still name (name_of w (w.clients client) number) (w.calls other).names other call h;
      submitted = λ other. omega arith;
    }
part_extends w client (Again place number) =
    with_message w (message_of (w.clients client) number (Some (w.calls (call_at client place)).body))
part_extends w client (Other number) = with_message w (message_of (w.clients client) number None)
part_extends w client (OtherAgain number) = with_message w (message_of (w.clients client) number None)

parts_extend : (w : World) (client : ℕ) (parts : List Part) → Extends w (after_parts w client parts)
parts_extend w client [] = itself w
parts_extend w client (part ∷ parts) =
    join w (after_part w client part) _ (part_extends w client part) (parts_extend (after_part w client part) client parts)

item_extends : (w : World) (client : ℕ) (item : Item) (takes : Bool) → Extends w (after_item w client item takes)
item_extends w client (NewSession unique salt) takes =
    cond_both (list_any (λ known. known == unique) (w.clients client).learnt) w _ (Extends w) (λ already. itself w) (
    λ fresh.
    cond_both (nat_lt (length (w.clients client).learnt) LEARNT_MAX) (after_learnt w client unique salt) (end_client w client) (Extends w)
    (λ room. let later : World = after_learnt w client unique salt in restated w later.clients (λ call. (later.calls call).state))
    (λ full. own_extends w (End client))
    )
item_extends w client (Result number reply) takes =
    let later : World = after_item w client (Result number reply) takes in restated w w.clients (λ call. (later.calls call).state)
item_extends w client (Notice number code) takes =
    let later : World = after_item w client (Notice number code) takes in restated w w.clients (λ call. (later.calls call).state)
item_extends w client (WrongSalt number salt) takes =
    let later : World = after_item w client (WrongSalt number salt) takes in
    restated w later.clients (λ call. (later.calls call).state)

heard_extends : (w : World) (client : ℕ) (item : Item) (takes : Bool) → Extends w (after_heard w client item takes)
heard_extends w client item takes =
    cond_both (w.clients client).ended w (after_item w client item takes) (Extends w) (λ ended. itself w) (λ still. item_extends w client item takes)

items_extend : (w : World) (client : ℕ) (items : List Item) (takes : List Bool) → Extends w (after_items w client items takes)
items_extend w client [] takes = itself w
items_extend w client (item ∷ items) [] =
    join w (after_heard w client item false) _ (heard_extends w client item false) (items_extend (after_heard w client item false) client items [])
items_extend w client (item ∷ items) (take ∷ takes) =
    join w (after_heard w client item take) _ (heard_extends w client item take) (items_extend (after_heard w client item take) client items takes)

-- All moves

pub effect_extends : (w : World) (move : Move) → IsLawful w move → Extends w (effect w move)
effect_extends w (Own act) lawful = own_extends w act
effect_extends w (Send client parts) lawful = parts_extend w client parts
effect_extends w (Make unique session) lawful = with_servers w (effect w (Make unique session)).servers (make_grows w unique session lawful)
effect_extends w (Draw unique salt) lawful = with_servers w (effect w (Draw unique salt)).servers (draw_grows w unique salt)
effect_extends w (Judge unique message outcome) lawful =
    with_servers w (effect w (Judge unique message outcome)).servers (judge_grows w unique message outcome)
effect_extends w (Forget unique number) lawful = with_servers w (effect w (Forget unique number)).servers (forget_grows w unique number)
effect_extends w (Answer unique number body reply) lawful =
    record {
      servers = unchanged w.servers;
      messages = λ message h. h;
      packets = λ packet h. h;
      entries = λ entry. contains_rest entry (record { server = unique; number = number; request = body; reply = reply }) w.entries;
      names = λ call name h. h;
      submitted = λ client. omega arith;
    }
effect_extends w (Speak unique items) lawful =
    record {
      servers = unchanged w.servers;
      messages = λ message h. h;
      packets = λ packet. contains_rest packet (record { server = unique; items = items }) w.downs;
      entries = λ entry h. h;
      names = λ call name h. h;
      submitted = λ client. omega arith;
    }
effect_extends w (Hear client packet takes) lawful = items_extend w client packet.items takes
effect_extends w (Lose unique) lawful = with_servers w (effect w (Lose unique)).servers (lose_grows w unique lawful)

-- the time is in no part that grows
ticked : (w later : World) (time : ℕ) → Extends w later → Extends w (record later { time = time })
ticked w later time e =
    record {
      servers = e.servers;
      messages = e.messages;
      packets = e.packets;
      entries = e.entries;
      names = e.names;
      submitted = e.submitted;
    }

pub all_extend : (w : World) (moves : List Move) → AreLawful w moves → Extends w (after_all w moves)
all_extend w [] lawful = itself w
all_extend w (move ∷ moves) lawful =
    join w (after w move) _ (ticked w (effect w move) (suc w.time) (effect_extends w move lawful.0)) (all_extend (after w move) moves lawful.1)
