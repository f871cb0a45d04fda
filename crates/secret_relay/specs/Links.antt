-- Scaffolding of proofs, and no promise: what a piece changes of a connection behind its start.
use Rattle.std.specs.Prelude.{◌≡◌, ℕ, List, ◌++◌, length, Option}
use Rattle.cipher_modes.specs.CounterMode.{applied, advanced}
use Rattle.transport.specs.declared.form.Form.{Form}
use Rattle.secret_relay.specs.declared.fault.RelayFault.{RelayFault}
use Rattle.secret_relay.specs.declared.link.Link.{Link}
use Rattle.secret_relay.specs.Written.{frames_of}
use Rattle.secret_relay.specs.Going.{IsLeft, PassesOn, Takes}

-- a piece of what the client has sent
pub record PassesUp (form : Form) (old new : Link) (piece before after : List ℕ) (fault : Option RelayFault) : Type 0 where
  pub passed : PassesOn old.form form fault (old.client ++ applied old.up piece) new.client before after
  pub same_form : new.form ≡ old.form
  pub up : new.up ≡ advanced old.up (length piece)
  pub down : new.down ≡ old.down
  pub server : new.server ≡ old.server

-- a piece of what the server has sent
pub record PassesDown (form : Form) (old new : Link) (piece before after : List ℕ) (fault : Option RelayFault) : Type 0 where
  pub packets : List (List ℕ)
  pub takes : Takes form old.form packets (old.server ++ piece) new.server
  pub ends : IsLeft form old.form fault new.server
  pub written : after ≡ before ++ applied old.down (frames_of old.form packets)
  pub same_form : new.form ≡ old.form
  pub up : new.up ≡ old.up
  pub down : new.down ≡ advanced old.down (length (frames_of old.form packets))
  pub client : new.client ≡ old.client
