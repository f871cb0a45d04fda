-- The body of a call as it goes: scaffolding of private functions, and no promise.
use Rattle.std.specs.Prelude.{ℕ, true, List, Option, Some, None}
use Rattle.msg_ids.specs.Counters.{Counters, next_number, seq_of}
use Rattle.service_tl.specs.declared.lists.Message.{Message}
use Rattle.client_rules.specs.Filling.{Turn, Goes, Waits, Never, body_behind}
use Rattle.client_core.specs.declared.turns.Turn.{Turn as KeptTurn}
use Rattle.client_core.specs.declared.turns.Turn.TheVariants as kept
use Rattle.call_table.specs.declared.call.Living.{Living}
use Rattle.client_rules.specs.Flush.{Marked}
use Rattle.client_core.specs.declared.calling.Marked.{Marked as KeptMarked}

-- how many bytes stand in front of a call's body: the constructor of `invokeAfterMsg` and a number, where it goes so
abbrev pub wrap_bytes : {X : Type 0} → Option X → ℕ
wrap_bytes None = 0
wrap_bytes (Some earlier) = 12

-- a call that is to go again, alone, and its message
abbrev pub marked_in : KeptMarked → Marked
marked_in marked = record { call = marked.call; message = marked.message }

-- the message of a call under a sender's next number
abbrev pub call_message : ℕ → Counters → Option ℕ → List ℕ → Message
call_message now counters wrap body =
    record {
      number = next_number counters.last now;
      seq = seq_of counters.content_messages true;
      body = body_behind wrap body;
    }

-- the living message of a call that goes as this message
abbrev pub living_of : Message → Option ℕ → Living
living_of message wrap = record { number = message.number; seq = message.seq; wrap = wrap }

-- what a queued call does when its turn comes
abbrev pub turn_in : KeptTurn → Turn
turn_in (kept.Goes wrap) = Goes wrap
turn_in kept.Waits = Waits
turn_in kept.Never = Never
