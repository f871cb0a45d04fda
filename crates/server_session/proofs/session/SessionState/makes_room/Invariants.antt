use Rattle.std.proofs.Common.{◌≡◌, ℕ, List, length}
use Rattle.server_rules.specs.Server.{Reply, Session}
use Rattle.server_rules.specs.Speaking.{made_room}
use Rattle.server_session.specs.SessionState.{Stands, key_of, number_of, replies_left}
use Rattle.server_session.specs.Unsaid.{FewerKept}
use Rattle.server_session.proofs.session.SessionState.makes_room.Given as goal

-- the replies so far give the same, where room is made from there on
abbrev pub invariant-drops : goal.invariant-drops
invariant-drops g l = record {
  stands : (now : ℕ) (session : Session) → Stands now l.fn.self session
      → (replies : List Reply) × Stands now l.self (record session { replies = replies })
      × (made_room l.bytes replies ≡ made_room l.bytes session.replies);
  fewer : FewerKept l.fn.self l.self;
  same_room : replies_left l.self ≡ replies_left l.fn.self;
  same_numbers : l.self.numbers ≡ l.fn.self.numbers;
  same_key : key_of l.self ≡ key_of l.fn.self;
  same_number : number_of l.self ≡ number_of l.fn.self;
  same_salts : l.self.salts ≡ l.fn.self.salts;
}

abbrev pub decreases-drops : goal.decreases-drops
decreases-drops g l = length l.self.outbox.replies
