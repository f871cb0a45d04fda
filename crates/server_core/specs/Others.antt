-- The sessions that a server keeps beside one that speaks.
use Rattle.std.specs.Prelude.{◌≡◌, nat_lt, Bool, if◌then◌else◌, Option, Some, None, List, [], ◌∷◌, ◌++◌, length}
use Rattle.std.specs.List.{filter}
use Rattle.server_rules.specs.Server.{sessions_max}
use Rattle.server_session.specs.declared.session.SessionState.{SessionState}
use Rattle.server_session.specs.SessionState.{key_of, number_of}
use Rattle.waits.specs.Jobs.{Queue, without_session}

-- where all places are taken, the one heard least recently

abbrev pub first_of : List SessionState → Option SessionState
first_of [] = None
first_of (standing ∷ standings) = Some standing

abbrev pub rest_of : List SessionState → List SessionState
rest_of [] = []
rest_of (standing ∷ standings) = standings

abbrev pub first_lost : List SessionState → Option SessionState
first_lost standings = if nat_lt (length standings) sessions_max then None else first_of standings

-- the others then
abbrev pub with_place : List SessionState → List SessionState
with_place standings = if nat_lt (length standings) sessions_max then standings else rest_of standings

-- the jobs without those of a session that is lost
abbrev pub without_lost : Option SessionState → Queue → Queue
without_lost None jobs = jobs
without_lost (Some standing) jobs = without_session (key_of standing) (number_of standing) jobs

-- the others, and last the one that spoke, unless it is lost
abbrev pub with_last_where : Bool → SessionState → List SessionState → List SessionState
with_last_where lost standing standings = if lost then standings else standings ++ standing ∷ []

-- of those that were there, the ones that pass some test are left, in order
pub record AreLeft (before after : List SessionState) : Type 0 where
  pub stays : SessionState → Bool
  pub left : after ≡ filter stays before
