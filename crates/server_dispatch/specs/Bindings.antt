-- The bindings of temporary keys, as contracts see them.
use Rattle.std.specs.Prelude.{ℕ, List}
use Rattle.temp_keys.specs.declared.binding.Bound.{Bound}
use Rattle.server_rules.specs.Server.{Binding}

-- a binding as the rules have it
abbrev pub binding_told : Bound → Binding
binding_told bound = record { temp = bound.temp; perm = bound.perm; expires = bound.expires }

-- the bindings in order, and for how many more there is room
pub record Held : Type 0 where
  pub bindings : List Binding
  pub room : ℕ
