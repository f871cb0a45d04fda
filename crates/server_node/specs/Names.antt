-- The names of the sessions that were heard on a connection.
use Rattle.std.specs.Prelude.{◌==◌, ◌&&◌, Bool, if◌then◌else◌, List, [], ◌∷◌, ◌++◌}
use Rattle.std.specs.List.{list_any}
use Rattle.server_core.specs.declared.session_name.SessionName.{SessionName}

abbrev pub is_name : SessionName → SessionName → Bool
is_name one other = (one.key == other.key) && (one.session == other.session)

abbrev pub was_heard : List SessionName → SessionName → Bool
was_heard heard name = list_any (λ one. is_name one name) heard

abbrev pub with_name : List SessionName → SessionName → List SessionName
with_name heard name = if was_heard heard name then heard else heard ++ name ∷ []
