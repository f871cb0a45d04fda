-- What stays where clients and the states of calls change, and no name, message, packet, entry or server session does.
use Rattle.std.proofs.Common.{◌≡◌, ℕ, refl}
use Rattle.law_moves.specs.Table.{CallId, State, Client}
use Rattle.law_moves.specs.Table.State.{Refused}
use Rattle.law_moves.specs.World.{World, Owns}
use Rattle.law_moves.proofs.Kept.{Kept, Owners, Clients, Fits}
use Rattle.law_moves.proofs.Grows.{unchanged, packets_stay}

-- the world with these clients and states
abbrev pub restate : World → (ℕ → Client) → (CallId → State) → World
restate w clients state = record w { clients = clients; calls = λ call. record (w.calls call) { state = state call } }

pub kept_restated : (now : ℕ) (w : World) (clients : ℕ → Client) (state : CallId → State)
    → Kept now w
    → Owners (λ client session. Owns (clients client) session) w.ups (λ call. (w.calls call).names)
    → Clients clients w.servers w.ups
    → ((call : CallId) → (w.calls call).state ≡ Refused 0 → state call ≡ Refused 0)
    → ((call : CallId) → Fits (clients call.client) w.servers w.ups w.entries (w.calls call).names (state call))
    → Kept now (restate w clients state)
kept_restated now w clients state k owners known refused fits =
    record {
      servers = k.servers;
      outcomes = k.outcomes;
      messages = k.messages;
      owners = owners;
      clients = known;
      names = k.names;
      bodies = k.bodies;
      takers = k.takers;
      calls =
          record {
            unsubmitted = λ call not_yet. let old = k.calls.unsubmitted call not_yet in (old.0, refused call old.1);
            fits = fits;
          };
      packets =
          packets_stay k (restate w clients state) (unchanged w.servers) refl (λ entry h. h) (λ session number h. h) (λ session number given name. name);
    }
