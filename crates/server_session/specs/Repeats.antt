-- The replies that a session keeps, to be said once more.
use Rattle.std.specs.Prelude.{ℕ, fold, length}
use Rattle.std.specs.List.{filter}
use Rattle.outbox.specs.Replies.{bytes_of}
use Rattle.server_rules.specs.Server.{is_kept}
use Rattle.server_rules.specs.Event.{Speaker}
use Rattle.server_rules.specs.Speaking.{says_again}
use Rattle.server_session.specs.declared.session.SessionState.{SessionState}

-- how many replies it keeps, and how many bytes their bodies have together
abbrev pub kept_count : SessionState → ℕ
kept_count standing = length standing.outbox.replies

abbrev pub kept_bytes : SessionState → ℕ
kept_bytes standing = bytes_of standing.outbox.replies

-- it says all kept replies in order of making, each unless it said so in this event
abbrev pub says_all_again : {S : Type 0} → Speaker S → Speaker S
says_all_again speaker = fold (λ so_far reply. says_again reply so_far) speaker (filter is_kept speaker.session.replies)
