-- An entry keeps all: it is the first of its accepted call.
use Rattle.std.proofs.Common.{◌≡◌, ◌≢◌, ℕ, ◌∷◌, sym, refl, ◌∙◌}
use Rattle.std.proofs.lemmas.List.Elements.{All-contains}
use Rattle.std.specs.List.{Contains}
use Rattle.law_moves.specs.Table.{Text, Entry}
use Rattle.law_moves.specs.Table.Outcome.{AcceptedCall}
use Rattle.law_moves.specs.World.{World}
use Rattle.law_moves.specs.Move.Move.{Answer}
use Rattle.law_moves.specs.After.{effect}
use Rattle.law_moves.specs.Lawful.{IsLawful}
use Rattle.law_moves.proofs.Kept.{Kept}
use Rattle.law_moves.proofs.Basics.{contains_rest, each_of}
use Rattle.law_moves.proofs.Grows.{unchanged, calls_grow, packets_stay}

pub kept_after_answer : (now : ℕ) (w : World) (unique number : ℕ) (body reply : Text)
    → Kept now w → IsLawful w (Answer unique number body reply) → Kept now (effect w (Answer unique number body reply))
kept_after_answer now w unique number body reply k lawful =
    let new : Entry = record { server = unique; number = number; request = body; reply = reply } in
    let more : (entry : Entry) → Contains w.entries entry → Contains (new ∷ w.entries) entry = λ entry. contains_rest entry new w.entries in
    record {
      servers = k.servers;
      outcomes =
          record {
            backed = k.outcomes.backed;
            judged_once = k.outcomes.judged_once;
            forgotten_given = k.outcomes.forgotten_given;
            entry_judged = each_of (λ (e : Entry). Contains (w.servers e.server).judged (record { number = e.number; outcome = AcceptedCall e.request })) new w.entries lawful.1 k.outcomes.entry_judged;
            entry_once = λ other some. (
              λ is old among so.
                  All-contains (λ (e : Entry). e.server ≡ unique → e.number ≢ number) w.entries old lawful.2 among (so.0 ∙ sym is.0) (so.1 ∙ sym is.1),
              k.outcomes.entry_once other some,
            );
          };
      messages = k.messages;
      owners = k.owners;
      clients = k.clients;
      names = k.names;
      bodies = k.bodies;
      takers = k.takers;
      calls = calls_grow k (unchanged w.servers) (new ∷ w.entries) more (λ name h. h);
      packets =
          packets_stay k (effect w (Answer unique number body reply)) (unchanged w.servers) refl more (λ session given h. h) (λ session some given h. h);
    }
