-- A lawful move is lawful but for any condition, and one that is lawful but for none is lawful.
use Rattle.std.proofs.Common.{ℕ, ◌==◌, List, [], ◌∷◌}
use Rattle.std.proofs.lemmas.Bool.{OnFalse_from}
use Rattle.std.proofs.lemmas.List.Elements.{All-weaker}
use Rattle.law_moves.specs.Table.{Message, Item, ServerSession, Outcome}
use Rattle.law_moves.specs.Table.Outcome.{AcceptedCall, AcceptedOther, Noticed}
use Rattle.law_moves.specs.Table.Item.{NewSession, Result, Notice, WrongSalt}
use Rattle.law_moves.specs.World.{World}
use Rattle.law_moves.specs.Move.{OwnAct, Part, Move}
use Rattle.law_moves.specs.Move.OwnAct.{NewClient, Renew, Submit, GiveUp, End}
use Rattle.law_moves.specs.Move.Part.{First, Again, Other, OtherAgain}
use Rattle.law_moves.specs.Move.Move.{Own, Send, Make, Draw, Judge, Forget, Answer, Speak, Hear, Lose}
use Rattle.law_moves.specs.After.{after_part}
use Rattle.law_moves.specs.Lawful.{IsOwnLawful, IsPartLawful, ArePartsLawful, MayDecide, MaySay, IsLawful}
use Rattle.law_moves.specs.LawfulBut.{At, IsOwnLawfulBut, IsPartLawfulBut, ArePartsLawfulBut, MayDecideBut, MaySayBut, IsLawfulBut, NO_PLACE}

at : (place out : ℕ) {Condition : Type 0} → Condition → At place out Condition
at place out {Condition = Condition} holds = OnFalse_from (place == out) Condition (λ kept. holds)

own_but : (out : ℕ) (w : World) (act : OwnAct) → IsOwnLawful w act → IsOwnLawfulBut out w act
own_but out w (NewClient client session) h = (at 0 out h.0, at 1 out h.1.0, at 2 out h.1.1)
own_but out w (Renew client session) h = (at 0 out h.0, at 1 out h.1.0, at 2 out h.1.1)
own_but out w (Submit client body) h = at 0 out h
own_but out w (GiveUp call) h = at 0 out h
own_but out w (End client) h = at 0 out h

part_but : (out : ℕ) (w : World) (client : ℕ) (part : Part) → IsPartLawful w client part → IsPartLawfulBut out w client part
part_but out w client (First place number) h = (at 1 out h.0, at 2 out h.1)
part_but out w client (Again place number) h = (at 1 out h.0, at 2 out h.1)
part_but out w client (Other number) h = at 2 out h
part_but out w client (OtherAgain number) h = at 2 out h

parts_but : (out : ℕ) (w : World) (client : ℕ) (parts : List Part) → ArePartsLawful w client parts → ArePartsLawfulBut out w client parts
parts_but out w client [] h = tt
parts_but out w client (part ∷ parts) h = (part_but out w client part h.0, parts_but out (after_part w client part) client parts h.1)

decide_but : (out : ℕ) (server : ServerSession) (message : Message) (outcome : Outcome)
    → MayDecide server message outcome → MayDecideBut out server message outcome
decide_but out server message (AcceptedCall body) h = (at 4 out h.0, at 5 out h.1)
decide_but out server message AcceptedOther h = at 5 out h
decide_but out server message (Noticed code) h = at 6 out h

say_but : (out : ℕ) (w : World) (unique : ℕ) (item : Item) → MaySay w unique item → MaySayBut out w unique item
say_but out w unique (NewSession named salt) h = (at 1 out h.0, at 2 out h.1)
say_but out w unique (Result number reply) h = at 3 out h
say_but out w unique (Notice number code) h = at 4 out h
say_but out w unique (WrongSalt number salt) h = (at 5 out h.0, at 6 out h.1)

pub lawful_but : (out : ℕ) (w : World) (move : Move) → IsLawful w move → IsLawfulBut out w move
lawful_but out w (Own act) h = own_but out w act h
lawful_but out w (Send client parts) h = (at 0 out h.0, parts_but out w client parts h.1)
lawful_but out w (Make unique session) h = (at 0 out h.0, at 1 out h.1, at 2 out h.2, at 3 out h.3)
lawful_but out w (Draw unique salt) h = (at 0 out h.0, at 1 out h.1, at 2 out h.2)
lawful_but out w (Judge unique message outcome) h =
    (at 0 out h.0, at 1 out h.1, at 2 out h.2, at 3 out h.3, decide_but out (w.servers unique) message outcome h.4)
lawful_but out w (Forget unique number) h = (at 0 out h.0, at 1 out h.1)
lawful_but out w (Answer unique number body reply) h = (at 0 out h.0, at 1 out h.1, at 2 out h.2)
lawful_but out w (Speak unique items) h =
    (at 0 out h.0, All-weaker (MaySay w unique) (MaySayBut out w unique) (say_but out w unique) items h.1, at 7 out h.2)
lawful_but out w (Hear client packet takes) h = (at 0 out h.0, at 1 out h.1)
lawful_but out w (Lose unique) h = at 0 out h

-- Where nothing is left out

own_whole : (w : World) (act : OwnAct) → IsOwnLawfulBut NO_PLACE w act → IsOwnLawful w act
own_whole w (NewClient client session) h = (h.0, (h.1, h.2))
own_whole w (Renew client session) h = (h.0, (h.1, h.2))
own_whole w (Submit client body) h = h
own_whole w (GiveUp call) h = h
own_whole w (End client) h = h

part_whole : (w : World) (client : ℕ) (part : Part) → IsPartLawfulBut NO_PLACE w client part → IsPartLawful w client part
part_whole w client (First place number) h = h
part_whole w client (Again place number) h = h
part_whole w client (Other number) h = h
part_whole w client (OtherAgain number) h = h

parts_whole : (w : World) (client : ℕ) (parts : List Part) → ArePartsLawfulBut NO_PLACE w client parts → ArePartsLawful w client parts
parts_whole w client [] h = tt
parts_whole w client (part ∷ parts) h = (part_whole w client part h.0, parts_whole (after_part w client part) client parts h.1)

decide_whole : (server : ServerSession) (message : Message) (outcome : Outcome)
    → MayDecideBut NO_PLACE server message outcome → MayDecide server message outcome
decide_whole server message (AcceptedCall body) h = h
decide_whole server message AcceptedOther h = h
decide_whole server message (Noticed code) h = h

say_whole : (w : World) (unique : ℕ) (item : Item) → MaySayBut NO_PLACE w unique item → MaySay w unique item
say_whole w unique (NewSession named salt) h = h
say_whole w unique (Result number reply) h = h
say_whole w unique (Notice number code) h = h
say_whole w unique (WrongSalt number salt) h = h

pub lawful_whole : (w : World) (move : Move) → IsLawfulBut NO_PLACE w move → IsLawful w move
lawful_whole w (Own act) h = own_whole w act h
lawful_whole w (Send client parts) h = (h.0, parts_whole w client parts h.1)
lawful_whole w (Make unique session) h = h
lawful_whole w (Draw unique salt) h = h
lawful_whole w (Judge unique message outcome) h = (h.0, h.1, h.2, h.3, decide_whole (w.servers unique) message outcome h.4)
lawful_whole w (Forget unique number) h = h
lawful_whole w (Answer unique number body reply) h = h
lawful_whole w (Speak unique items) h = (h.0, All-weaker (MaySayBut NO_PLACE w unique) (MaySay w unique) (say_whole w unique) items h.1, h.2)
lawful_whole w (Hear client packet takes) h = h
lawful_whole w (Lose unique) h = h
