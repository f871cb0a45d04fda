-- Room that was taken for replies and is given back.
use Rattle.std.proofs.Common.{◌≡◌, ◌∙◌, ℕ, max, ap, arith}
use Rattle.std.specs.Prelude.{min}
use Rattle.server_session.specs.declared.session.SessionState.{SessionState}
use Rattle.server_session.specs.SessionState.{Stands, replies_left}
use Rattle.server_rules.specs.Server.{Session}
use Rattle.server_session.specs.Rooms.{with_replies_left}

min-max : (room more : ℕ) → min (max room more) room ≡ room
min-max room more = omega arith

pub given-back : (standing reserved last : SessionState) (before answers : ℕ) → before ≡ replies_left standing
    → reserved ≡ with_replies_left (max (replies_left standing) answers) standing
    → last ≡ with_replies_left (min (replies_left reserved) before) reserved → last ≡ standing
given-back standing reserved last before answers is more back =
    back
    ∙ (ap (λ (one : SessionState). with_replies_left (min (replies_left one) before) one) more
    ∙ (ap (λ (room : ℕ). with_replies_left (min (max (replies_left standing) answers) room) standing) is
    ∙ ap (λ (room : ℕ). with_replies_left room standing) (min-max (replies_left standing) answers)))

-- with other room it stands for the same session
pub stands-with : (room now : ℕ) (standing : SessionState) (session : Session) → Stands now standing session → Stands now (with_replies_left room standing) session
stands-with room now standing session is =
    record {
      key = is.key;
      number = is.number;
      first = is.first;
      unique = is.unique;
      salts = is.salts;
      latest = is.latest;
      inbox = is.inbox;
      outbox = is.outbox;
      counters = is.counters;
    }
