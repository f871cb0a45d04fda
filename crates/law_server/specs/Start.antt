-- What a session says while it has accepted nothing: "the server has begun a new session"
-- (core.telegram.org/mtproto/service_messages, "New Session Creation Notification").
use Rattle.std.specs.Prelude.{◌≡◌, ℕ, List, ◌∷◌}
use Rattle.service_tl.specs.declared.item.Item.TheVariants.{NewSessionCreated}
use Rattle.service_tl.specs.declared.lists.Message.{Message}
use Rattle.service_tl.specs.Items.{spelling_of}
use Rattle.salt_line.specs.Line.{current_salt}
use Rattle.packing.specs.Numbering.{numbered}
use Rattle.packing.specs.Packing.{packed}
use Rattle.server_rules.specs.Server.{Session, name_of}
use Rattle.server_rules.specs.Event.{Setting, Speaker, Owed}
use Rattle.server_rules.specs.Speaking.{needs_salts}

-- the body is a `new_session_created` with the session's own first and unique numbers
abbrev pub SaysItIsNew : Session → List ℕ → Type 0
SaysItIsNew session body = (salt : ℕ) × (body ≡ spelling_of (NewSessionCreated session.first session.unique salt))

-- a packet begins with this message: its body is the message's, or that of a container whose first message it is
abbrev pub BeginsWith : Message → List ℕ → Type 0
BeginsWith message body = (others : List Message) × (body ≡ packed (message ∷ others))

-- the message by which a session says that it is new, with its current salt
abbrev pub new_owed : {S : Type 0} → Setting S → Speaker S → Owed
new_owed setting speaker =
    record {
      name = name_of speaker.session;
      message =
          numbered setting.now speaker.session.counters
          (NewSessionCreated speaker.session.first speaker.session.unique (current_salt (needs_salts setting 1 speaker).session.salts setting.now));
    }
