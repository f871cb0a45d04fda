-- What is kept is a client's: scaffolding of a client's own facts, and no promise.
use Rattle.client_rules.specs.Client.{Client}
use Rattle.client_core.specs.Kept.{Contents, Stands}

-- there is a client that this stands for
pub record StandsForOne (contents : Contents) : Type 0 where
  pub client : Client
  pub stands : Stands contents client
