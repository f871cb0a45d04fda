use Rattle.std.proofs.Common.{◌≡◌, ℕ, map, take}
use Rattle.server_rules.specs.Rows.{acked_by}
use Rattle.server_rules.specs.Server.{Session}
use Rattle.server_session.specs.Fates.{AreApart}
use Rattle.server_session.specs.SessionState.{IsAt, Stands, key_of, number_of, numbers_left, replies_left}
use Rattle.server_session.specs.Unsaid.{FewerKept}
use Rattle.server_session.proofs.session.SessionState.takes_acks.Given as goal

-- the numbers so far are acknowledged
abbrev pub invariant-loop-place : goal.invariant-loop-place
invariant-loop-place g l =
    ((now : ℕ) (session : Session) → Stands now l.initial.self session → AreApart session.replies
    → Stands now l.self (record session { replies = map (acked_by (take l.place l.ids)) session.replies }))
    × (numbers_left l.self ≡ numbers_left l.initial.self) × (key_of l.self ≡ key_of l.initial.self)
    × (replies_left l.self ≡ replies_left l.initial.self)
    × ((now : ℕ) → IsAt now l.initial.self → IsAt now l.self) × (number_of l.self ≡ number_of l.initial.self)
    × FewerKept l.initial.self l.self
