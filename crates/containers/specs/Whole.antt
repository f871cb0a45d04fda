-- Scaffolding: what a place in a container that was found lawful knows of the bytes behind it.
use Rattle.std.specs.Prelude.{◌≤◌, ℕ, zero, suc, ◌+◌, List, length, ⊤}
use Rattle.containers.specs.Container.{message_head, messages_max}
use Rattle.containers.specs.Parts.{said_length, after}

-- so many messages stand there whole
abbrev pub AreWhole : ℕ → List ℕ → Type 0
AreWhole zero text = ⊤
AreWhole (suc count) text = (message_head + said_length text ≤ length text) × AreWhole count (after text)

pub record IsPlace (count : ℕ) (text : List ℕ) : Type 0 where
  pub few : count ≤ messages_max
  pub whole : AreWhole count text
