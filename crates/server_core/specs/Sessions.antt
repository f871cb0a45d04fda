-- The sessions that a server keeps.
use Rattle.std.specs.Prelude.{◌≢◌, ℕ, Bool, not, Option, List, [], ◌∷◌, ⊤, AllPairs}
use Rattle.std.specs.List.{filter, find}
use Rattle.server_rules.specs.Server.{Name, Session, is_same}
use Rattle.server_session.specs.declared.session.SessionState.{SessionState}
use Rattle.server_session.specs.SessionState.{Stands}
use Rattle.server_session.specs.Names.{name_kept}

-- it is kept under this name
abbrev pub is_kept_as : Name → SessionState → Bool
is_kept_as name standing = is_same name (name_kept standing)

-- the session of this name
abbrev pub kept_as : Name → List SessionState → Option SessionState
kept_as name standings = find (is_kept_as name) standings

-- the others
abbrev pub without_kept : Name → List SessionState → List SessionState
without_kept name standings = filter (λ standing. not (is_kept_as name standing)) standings

abbrev pub HaveOtherNames : SessionState → SessionState → Type 0
HaveOtherNames one other = name_kept one ≢ name_kept other

-- no two are of one name
abbrev pub AreApart : List SessionState → Type 0
AreApart standings = AllPairs HaveOtherNames standings

-- what is kept stands for these sessions, one for one and in order, at this moment
abbrev pub AreKept : ℕ → List SessionState → List Session → Type 0
AreKept moment [] [] = ⊤
AreKept moment (standing ∷ standings) (session ∷ sessions) = Stands moment standing session × AreKept moment standings sessions
AreKept moment [] (session ∷ sessions) = ⊥
AreKept moment (standing ∷ standings) [] = ⊥
