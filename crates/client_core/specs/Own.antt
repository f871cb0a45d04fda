-- What no event of a client changes but a renewal and a call that is submitted: scaffolding of private functions, and no
-- promise.
use Rattle.std.specs.Prelude.{◌≡◌, ℕ, Bool, Result, length}
use Rattle.octets.specs.declared.memory.Memory.{Memory}
use Rattle.client_rules.specs.Client.{Client, calls_of}
use Rattle.client_core.specs.Keys.{Keys, keys_in, keys_of}
use Rattle.client_core.specs.Kept.{Contents}
use Rattle.client_core.specs.Took.{TookBy}

-- its keys, its session, and how many calls there are
pub record Own : Type 0 where
  pub keys : Keys
  pub session : ℕ
  pub count : ℕ

abbrev pub own_of : Client → Own
own_of client = record { keys = keys_of client; session = client.session; count = length (calls_of client) }

abbrev pub own_in : Contents → Own
own_in contents = record { keys = keys_in contents; session = contents.rest.session; count = length contents.calls.rows }

-- a packet was received by this client, and left one that has the same
pub record Came (result : Result Bool Memory) (now : Contents) (before : Client) : Type 0 where
  pub after : Client
  pub took : TookBy result now before after
  pub own : own_of after ≡ own_of before
