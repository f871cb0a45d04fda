-- Premises: words that are drawn and replies of the service fit their places.
use Rattle.law_server_bounds.specs.Small.{DrawsWords, GivesReplies}
use Rattle.world_rules.specs.Setting.{Setting, at_server}

-- words that are drawn have 64 bits, and replies of the service are whole words and short
pub record Fits {S V : Type 0} (setting : Setting S V) : Type 0 where
  pub words : DrawsWords (at_server setting)
  pub replies : GivesReplies setting.serve
