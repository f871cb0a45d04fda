-- The answers that an event records, as contracts see them.
use Rattle.std.specs.Prelude.{ℕ, List}
use Rattle.server_rules.specs.Event.{Entry as Rule}
use Rattle.server_dispatch.specs.declared.entries.Entry.{Entry}

-- an answer as the rules record it
abbrev pub entry_told : Entry → Rule
entry_told entry =
    record {
      key = entry.key;
      session = entry.session;
      number = entry.number;
      request = entry.request;
      reply = entry.reply;
      ran = entry.ran;
    }

-- the answers in order, and for how many more there is room
pub record Held : Type 0 where
  pub entries : List Rule
  pub room : ℕ
