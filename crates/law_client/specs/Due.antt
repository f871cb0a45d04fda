-- How much waits at a client to be sent: each thing that a packet may have in it counts 1.
use Rattle.std.specs.Prelude.{ℕ, ◌+◌, Bool, true, false, if◌then◌else◌, is_some, Option, None, Some, List, [], ◌∷◌}
use Rattle.call_table.specs.Table.{Call, is_queued}
use Rattle.client_rules.specs.Client.{Client, Temporary, Waiting, calls_of}
use Rattle.client_rules.specs.Filling.{is_needed}

abbrev pub one_where : Bool → ℕ
one_where holds = if holds then 1 else 0

abbrev pub has_numbers : List ℕ → Bool
has_numbers [] = false
has_numbers (number ∷ numbers) = true

-- a call is to be sent again, alone, or its answer is to be dropped, or it is to be sent
abbrev pub due_of_call : Call → ℕ
due_of_call call = one_where call.flags.alone + one_where call.flags.dropping + one_where (is_queued call.state)

abbrev pub due_of_calls : List Call → ℕ
due_of_calls [] = 0
due_of_calls (call ∷ calls) = due_of_call call + due_of_calls calls

-- a binding is to be asked for, or the message that asks for it is to be sent again, alone
abbrev pub due_of_binding : Option Temporary → ℕ
due_of_binding None = 0
due_of_binding (Some temporary) = one_where temporary.is_alone + one_where (is_needed temporary.binding)

abbrev pub due_of_waiting : Waiting → ℕ
due_of_waiting waiting =
    one_where (is_some waiting.told) + one_where (has_numbers waiting.resent) + one_where waiting.states + one_where (is_some waiting.ping)
    + one_where (is_some waiting.salts) + one_where (is_some waiting.destroyed)

abbrev pub due_of : Client → ℕ
due_of client =
    one_where (has_numbers client.table.acks) + due_of_waiting client.waiting + due_of_binding client.temporary + due_of_calls (calls_of client)
