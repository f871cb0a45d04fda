-- Bodies of kept replies: each that of an `rpc_result` (core.telegram.org/mtproto/service_messages, "Response to an RPC
-- query").
use Rattle.std.specs.Prelude.{ℕ, List}
use Rattle.outbox.specs.declared.body.Rest.{Rest}
use Rattle.outbox.specs.declared.body.Rest.TheVariants.{Shared, Short}

-- the constructor and the call's number
abbrev pub head_bytes : ℕ
head_bytes = 12

-- an `rpc_answer_dropped`: its constructor, a number, a sequence number and a length
abbrev pub short_bytes : ℕ
short_bytes = 20

-- the bytes behind the head
abbrev pub rest_of : Rest → List ℕ
rest_of (Shared bytes) = bytes
rest_of (Short bytes) = bytes
