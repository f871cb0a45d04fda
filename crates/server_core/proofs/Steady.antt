-- The invariant of a server: its sessions can speak, and there is a server of the definitions that it stands for.
use Rattle.std.proofs.Common.{false, None, List}
use Rattle.auth_keys.specs.declared.ring.RingKey.{RingKey}
use Rattle.server_rules.specs.Server.{Server}
use Rattle.server_session.specs.Says.{Keys}
use Rattle.server_core.specs.Server.{IsBetweenEvents, IsSound, IsSteady, Kept, Stands}

pub sound-of : {S : Type 0} (keys : List RingKey) (kept : Kept S) → IsSteady keys kept → IsSound keys kept.moment kept.sessions
sound-of keys kept steady = record { few = steady.few; speaking = steady.speaking }

-- keys of which none is temporary, and by which nothing is bound
pub no_keys : Keys
no_keys = record { is_temporary = λ _. false; bound_by = λ _ _ _. None }

-- it holds where the sessions can speak, and this server is stood for and is between events
pub steady-by : {S : Type 0} (keys : List RingKey) (kept : Kept S) (server : Server) → IsSound keys kept.moment kept.sessions → Stands kept server → IsBetweenEvents server → IsSteady keys kept
steady-by keys kept server sound stands between =
    record { few = sound.few; speaking = sound.speaking; server = server; stands_for = record { stands = stands; between = between } }
