-- A packet down keeps all: it says what its server session may say.
use Rattle.std.proofs.Common.{◌≢◌, ℕ, List, ◌⊎◌}
use Rattle.std.proofs.lemmas.List.Elements.{All-contains}
use Rattle.std.specs.List.{Contains}
use Rattle.law_moves.specs.Table.{Item, Packet}
use Rattle.law_moves.specs.Table.Status.{Unmade}
use Rattle.law_moves.specs.World.{World, HasAccepted}
use Rattle.law_moves.specs.Move.Move.{Speak}
use Rattle.law_moves.specs.After.{effect}
use Rattle.law_moves.specs.Lawful.{IsLawful, BeginsNew, MaySay}
use Rattle.law_moves.proofs.Kept.{Kept}
use Rattle.law_moves.proofs.Basics.{each_of}
use Rattle.law_moves.proofs.Grows.{unchanged, says_grows, made_if_standing}

pub kept_after_speak : (now : ℕ) (w : World) (unique : ℕ) (items : List Item)
    → Kept now w → IsLawful w (Speak unique items) → Kept now (effect w (Speak unique items))
kept_after_speak now w unique items k lawful =
    let later : World = effect w (Speak unique items) in
    let new : Packet = record { server = unique; items = items } in
    let still : (other : ℕ) → (w.servers other).status ≢ Unmade → (item : Item) → MaySay w other item → MaySay later other item =
    λ other made item. says_grows w later other (unchanged w.servers) made (λ entry h. h) (λ session given h. h) (λ session some given h. h) item in
    let made : (w.servers unique).status ≢ Unmade = made_if_standing (w.servers unique) lawful.0 in
    record {
      servers = k.servers;
      outcomes = k.outcomes;
      messages = k.messages;
      owners = k.owners;
      clients = k.clients;
      names = k.names;
      bodies = k.bodies;
      takers = k.takers;
      calls = k.calls;
      packets =
          record {
            says = λ packet item among.
                each_of (λ (p : Packet). Contains p.items item → MaySay later p.server item) new w.downs
                (λ within. still unique made item (All-contains (MaySay w unique) items item lawful.1 within))
                (λ old among_old within. still old.server (k.packets.made old among_old) item (k.packets.says old item among_old within)) packet among;
            made = each_of (λ (p : Packet). (w.servers p.server).status ≢ Unmade) new w.downs made k.packets.made;
            begins = each_of (λ (p : Packet). HasAccepted (w.servers p.server) ⊎ BeginsNew p.items) new w.downs lawful.2 k.packets.begins;
          };
    }
