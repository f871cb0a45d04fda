-- A session that speaks does so for itself alone.
use Rattle.std.specs.Prelude.{◌≡◌, List, ◌++◌, All}
use Rattle.server_rules.specs.Server.{name_of}
use Rattle.server_rules.specs.Event.{Speaker, Owed, Entry}

-- What was said between these two: the session is the same one with the same history, and what is owed further, and what
-- is entered further, is its own. No packet is made by that.
pub record SaidFor (S : Type 0) (before after : Speaker S) : Type 0 where
  pub key : after.session.key ≡ before.session.key
  pub number : after.session.number ≡ before.session.number
  pub first : after.session.first ≡ before.session.first
  pub unique : after.session.unique ≡ before.session.unique
  pub history : after.session.history ≡ before.session.history
  pub owed : (later : List Owed) × (after.owed ≡ before.owed ++ later) × All (λ one. one.name ≡ name_of before.session) later
  pub entries : (later : List Entry) × (after.entries ≡ before.entries ++ later)
      × All (λ one. (one.key ≡ before.session.key) × (one.session ≡ before.session.number)) later
  pub sent : after.sent ≡ before.sent
