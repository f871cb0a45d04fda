-- What a client keeps, and the client that it stands for.
use Rattle.std.specs.Prelude.{◌≡◌, ℕ, ◌<◌, true, List, option_map}
use Rattle.std.specs.List.{list_any}
use Rattle.call_table.specs.Table.{no_calls}
use Rattle.call_table.specs.Kept.{Contents as Calls, Stands as StandsFor}
use Rattle.client_rules.specs.Client.{Client, Temporary, Waiting, States, StateRequest, Binding, Needed, Asked, Held, Bound, Refused}
use Rattle.client_core.specs.declared.binding.Binding.{Binding as KeptBinding}
use Rattle.client_core.specs.declared.binding.Binding.TheVariants as kept
use Rattle.client_core.specs.declared.binding.Temporary.{Temporary as KeptTemporary}
use Rattle.client_core.specs.declared.waiting.Waiting.{Waiting as KeptWaiting}
use Rattle.client_core.specs.declared.waiting.States.{States as KeptStates}
use Rattle.client_core.specs.declared.waiting.Asked.{Asked as KeptAsked}

-- ---- what the parts tell

abbrev pub binding_in : KeptBinding → Binding
binding_in kept.Needed = Needed
binding_in (kept.Asked number seq body) = Asked (record { number = number; seq = seq; body = body })
binding_in kept.Held = Held
binding_in kept.Bound = Bound
binding_in (kept.Refused code) = Refused code

abbrev pub temporary_in : KeptTemporary → Temporary
temporary_in temporary =
    record {
      perm = temporary.perm;
      expires = temporary.expires;
      binding = binding_in temporary.binding;
      is_alone = temporary.is_alone;
    }

abbrev pub states_in : KeptStates → States
states_in states = record { request = states.request; info = states.info }

abbrev pub waiting_in : KeptWaiting → Waiting
waiting_in waiting =
    record {
      told = option_map states_in waiting.told;
      resent = waiting.resent.numbers;
      states = waiting.states;
      ping = waiting.ping;
      salts = waiting.salts;
      destroyed = waiting.destroyed;
    }

abbrev pub asked_in : KeptAsked → StateRequest
asked_in asked = record { number = asked.number; numbers = asked.numbers }

-- ---- the whole

-- for how many more numbers of each kind there is room: former sessions, unique numbers, answers to be sent again
pub record Room : Type 0 where
  pub sessions : ℕ
  pub learnt : ℕ
  pub resent : ℕ

-- an open client has room for what a renewal puts with the former sessions
abbrev pub CanRenew : List ℕ → ℕ → Type 0
CanRenew learnt sessions = list_any (λ unique. true) learnt ≡ true → 0 < sessions

-- what contracts see: the client but for its table, what is kept of the table, and the room beside it
pub record Contents : Type 0 where
  pub rest : Client
  pub calls : Calls
  pub room : Room

-- what is seen at the end
abbrev pub at_end : Contents → Contents
at_end contents = record contents { rest = record contents.rest { has_ended = true } }

-- What is kept stands for a client: it is the client's own, and of the calls what a table keeps.
pub record Stands (contents : Contents) (client : Client) : Type 0 where
  pub rest : contents.rest ≡ record client { table = no_calls }
  pub calls : StandsFor contents.calls client.table
