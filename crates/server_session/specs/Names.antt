-- Which session is kept.
use Rattle.server_rules.specs.Server.{Name}
use Rattle.server_session.specs.declared.session.SessionState.{SessionState}
use Rattle.server_session.specs.SessionState.{key_of, number_of}

abbrev pub name_kept : SessionState → Name
name_kept standing = record { key = key_of standing; session = number_of standing }
