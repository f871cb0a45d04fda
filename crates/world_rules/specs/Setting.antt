-- In what a world runs: how words are drawn, how packets are sealed and opened, which keys there are, and which service.
use Rattle.std.specs.Prelude.{ℕ, Bool, Option, List}
use Rattle.envelope.specs.declared.parts.Dir.{Dir}
use Rattle.envelope.specs.declared.parts.Envelope.{Envelope}
use Rattle.temp_keys.specs.declared.binding.Inner.{Inner}
use Rattle.regs_service.specs.Served.{Step}
use Rattle.server_rules.specs.Server.{Binding, Name}
use Rattle.server_rules.specs.Event.{BindingCall}
use Rattle.server_rules.specs.Event as server
use Rattle.client_rules.specs.Sending as client

-- the keys that clients are made with, by their identifiers: a permanent one, and a temporary one that is bound to it and
-- expires
pub record Keys : Type 0 where
  pub permanent : ℕ
  pub temporary : ℕ
  pub expires : ℕ

-- How words are drawn; the bytes of an envelope in a direction with its padding, and the envelope that bytes open to at a
-- moment in a direction; the keys; the binding message that a client makes, and what a server takes one for; and the
-- service, with its fresh state.
pub record Setting (S V : Type 0) : Type 0 where
  pub step : S → ℕ × S
  pub sealed : Dir → Envelope → List ℕ → List ℕ
  pub opens : ℕ → Dir → List ℕ → Option Envelope
  pub keys : Keys
  pub is_temporary : ℕ → Bool
  pub binding_message : ℕ → List ℕ → ℕ → Inner → List ℕ → List ℕ
  pub bound_by : ℕ → Name → BindingCall → Option Binding
  pub serve : Step V
  pub fresh : V

-- what the servers and the clients of a world see of it
abbrev pub at_server : {S V : Type 0} → Setting S V → server.Setting S
at_server setting =
    record { now = 0; step = setting.step; is_temporary = setting.is_temporary; bound_by = setting.bound_by }

abbrev pub at_client : {S V : Type 0} → Setting S V → client.Setting S
at_client setting = record { step = setting.step; binding_message = setting.binding_message }

-- an envelope as a server sees it, and back
abbrev pub as_heard : Envelope → server.Envelope
as_heard envelope =
    record {
      key = envelope.key;
      salt = envelope.salt;
      session = envelope.session;
      number = envelope.number;
      seq = envelope.seq;
      body = envelope.body;
    }

abbrev pub as_sealed : server.Envelope → Envelope
as_sealed envelope =
    record {
      key = envelope.key;
      salt = envelope.salt;
      session = envelope.session;
      number = envelope.number;
      seq = envelope.seq;
      body = envelope.body;
    }
