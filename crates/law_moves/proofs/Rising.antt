-- Each number that a client gives is above all that were given under its session number before.
use Rattle.std.proofs.Common.{◌≡◌, ℕ, ◌<◌, List, [], ◌∷◌, ◌++◌, Option, Some, None, arith}
use Rattle.std.proofs.lemmas.List.Elements.{All-contains_itself, All-weaker}
use Rattle.std.proofs.lemmas.List.Kept.{AllPairs-cons}
use Rattle.std.specs.List.{Contains, AllPairs}
use Rattle.law_moves.specs.Table.{Message, call_at}
use Rattle.law_moves.specs.World.{World}
use Rattle.law_moves.specs.Move.{Part, Move}
use Rattle.law_moves.specs.Move.Part.{First, Again, Other, OtherAgain}
use Rattle.law_moves.specs.Move.Move.{Own, Send, Make, Draw, Judge, Forget, Answer, Speak, Hear, Lose}
use Rattle.law_moves.specs.After.{after, after_part, after_parts, message_of}
use Rattle.law_moves.specs.Lawful.{IsNewNumber, IsLawful, ArePartsLawful}
use Rattle.law_moves.specs.Reached.{AreLawful}
use Rattle.law_moves.specs.Given.{Given, numbers_of, given, Rises}
use Rattle.law_moves.proofs.Basics.{contains_first, contains_rest, contains_none, each_of}
use Rattle.law_moves.proofs.Sends.{below_new}
use Rattle.law_moves.proofs.Extended.{effect_extends}

-- the numbers rise, and each is above those of these messages
record Rising (ups : List Message) (numbers : List Given) : Type 0 where
  pairs : AllPairs Rises numbers
  above : (one : Given) → Contains numbers one → (message : Message) → Contains ups message → message.session ≡ one.session → message.number < one.number

-- numbers that are above those of more messages
fewer : (ups : List Message) (new : Message) (numbers : List Given) → Rising (new ∷ ups) numbers → Rising ups numbers
fewer ups new numbers r =
    record { pairs = r.pairs; above = λ one among message sent. r.above one among message (contains_rest message new ups sent) }

-- one more number, which is above all before it
more : (w : World) (client number : ℕ) (body : Option (List ℕ)) (numbers : List Given)
    → IsNewNumber w client number
    → Rising (message_of (w.clients client) number body ∷ w.ups) numbers
    → Rising w.ups (record { session = (w.clients client).present; number = number } ∷ numbers)
more w client number body numbers new r =
    let first : Given = record { session = (w.clients client).present; number = number } in
    let message : Message = message_of (w.clients client) number body in
    record {
      pairs =
          AllPairs-cons Rises first numbers
          (
          All-weaker (Contains numbers) (Rises first) (λ one among same. r.above one among message (contains_first message w.ups) same) numbers
          (All-contains_itself numbers)
          )
          r.pairs;
      above =
          each_of (λ (one : Given). (sent : Message) → Contains w.ups sent → sent.session ≡ one.session → sent.number < one.number) first numbers
          (λ sent among same. below_new w client number sent new among same)
          (λ one among sent old. r.above one among sent (contains_rest sent message w.ups old));
    }

parts_rise : (w : World) (client : ℕ) (parts : List Part) (rest : List Given)
    → ArePartsLawful w client parts
    → Rising (after_parts w client parts).ups rest
    → Rising w.ups (numbers_of (w.clients client).present parts ++ rest)
parts_rise w client [] rest lawful r = r
parts_rise w client (First place number ∷ parts) rest lawful r =
    more w client number (Some (w.calls (call_at client place)).body) (numbers_of (w.clients client).present parts ++ rest) lawful.0.1 (
    parts_rise (after_part w client (First place number)) client parts rest lawful.1 r
    )
parts_rise w client (Again place number ∷ parts) rest lawful r =
    fewer w.ups (message_of (w.clients client) number (Some (w.calls (call_at client place)).body)) (numbers_of (w.clients client).present parts ++ rest) (
    parts_rise (after_part w client (Again place number)) client parts rest lawful.1 r
    )
parts_rise w client (Other number ∷ parts) rest lawful r =
    more w client number None (numbers_of (w.clients client).present parts ++ rest) lawful.0 (
    parts_rise (after_part w client (Other number)) client parts rest lawful.1 r
    )
parts_rise w client (OtherAgain number ∷ parts) rest lawful r =
    fewer w.ups (message_of (w.clients client) number None) (numbers_of (w.clients client).present parts ++ rest) (
    parts_rise (after_part w client (OtherAgain number)) client parts rest lawful.1 r
    )

-- a move that gives no number
passes : (w : World) (move : Move) (numbers : List Given) → IsLawful w move → Rising (after w move).ups numbers → Rising w.ups numbers
passes w move numbers lawful r =
    let e = effect_extends w move lawful in
    record { pairs = r.pairs; above = λ one among message sent. r.above one among message (e.messages message sent) }

rising : (w : World) (moves : List Move) → AreLawful w moves → Rising w.ups (given w moves)
rising w [] lawful =
    record {
      pairs = λ i j d less below. let never : j < 0 = below in absurd (omega arith);
      above = λ one among. absurd (contains_none one among);
    }
rising w (Send client parts ∷ moves) lawful =
    parts_rise w client parts (given (after w (Send client parts)) moves) lawful.0.1 (rising (after w (Send client parts)) moves lawful.1)
rising w (Own act ∷ moves) lawful =
    passes w (Own act) (given (after w (Own act)) moves) lawful.0 (rising (after w (Own act)) moves lawful.1)
rising w (Make unique session ∷ moves) lawful =
    passes w (Make unique session) (given (after w (Make unique session)) moves) lawful.0 (rising (after w (Make unique session)) moves lawful.1)
rising w (Draw unique salt ∷ moves) lawful =
    passes w (Draw unique salt) (given (after w (Draw unique salt)) moves) lawful.0 (rising (after w (Draw unique salt)) moves lawful.1)
rising w (Judge unique message outcome ∷ moves) lawful =
    passes w (Judge unique message outcome) (given (after w (Judge unique message outcome)) moves) lawful.0 (rising (after w (Judge unique message outcome)) moves lawful.1)
rising w (Forget unique number ∷ moves) lawful =
    passes w (Forget unique number) (given (after w (Forget unique number)) moves) lawful.0 (rising (after w (Forget unique number)) moves lawful.1)
rising w (Answer unique number body reply ∷ moves) lawful =
    passes w (Answer unique number body reply) (given (after w (Answer unique number body reply)) moves) lawful.0 (rising (after w (Answer unique number body reply)) moves lawful.1)
rising w (Speak unique items ∷ moves) lawful =
    passes w (Speak unique items) (given (after w (Speak unique items)) moves) lawful.0 (rising (after w (Speak unique items)) moves lawful.1)
rising w (Hear client packet takes ∷ moves) lawful =
    passes w (Hear client packet takes) (given (after w (Hear client packet takes)) moves) lawful.0 (rising (after w (Hear client packet takes)) moves lawful.1)
rising w (Lose unique ∷ moves) lawful =
    passes w (Lose unique) (given (after w (Lose unique)) moves) lawful.0 (rising (after w (Lose unique)) moves lawful.1)

pub numbers_rise : (w : World) (moves : List Move) → AreLawful w moves → AllPairs Rises (given w moves)
numbers_rise w moves lawful = (rising w moves lawful).pairs
