-- The room that a session has for further replies.
use Rattle.std.specs.Prelude.{ℕ}
use Rattle.server_session.specs.declared.session.SessionState.{SessionState}

-- it, with room for so many replies and else as it is
abbrev pub with_replies_left : ℕ → SessionState → SessionState
with_replies_left replies standing = record standing { outbox = record standing.outbox { room = replies } }
