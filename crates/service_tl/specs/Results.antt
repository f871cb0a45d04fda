-- What is told of a body, or of the content of a result, by its constructor alone.
use Rattle.std.specs.Prelude.{ℕ, ◌==◌, nat_lt, Bool, true, not, ◌&&◌, if◌then◌else◌, List, length, Option, Some, None}
use Rattle.byteorder.specs.Endian.{little_number}
use Rattle.service_tl.specs.Schema.{rpc_error, rpc_answer_dropped_running}

-- the constructor that begins a body; none where it has fewer than 4 bytes
abbrev pub constructor_of : List ℕ → Option ℕ
constructor_of body = if nat_lt (length body) 4 then None else Some (little_number 4 body)

-- A content is good where it begins with neither `rpc_error` nor `rpc_answer_dropped_running`: a call that is answered so
-- counts as answered well, so that one that is to be executed after it goes.
abbrev pub is_good_beginning : Option ℕ → Bool
is_good_beginning None = true
is_good_beginning (Some number) = not (number == rpc_error.number) && not (number == rpc_answer_dropped_running.number)

abbrev pub is_good : List ℕ → Bool
is_good content = is_good_beginning (constructor_of content)
