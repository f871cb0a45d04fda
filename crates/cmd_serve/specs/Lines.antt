-- What a run writes.
use Rattle.std.specs.Prelude.{ℕ, codes, decimal, List, [], ◌++◌}
use Rattle.cmd_serve.specs.declared.ending.Ending.{Ending}
use Rattle.cmd_serve.specs.declared.ending.Ending.TheVariants.{Served, Stopped, NotTaken, Journal, Full, Memory}

-- a number with words in front of it, as a line
abbrev pub numbered : List ℕ → ℕ → List ℕ
numbered words number = words ++ decimal number ++ codes "\n"

-- connections are taken on a port
abbrev pub listening : ℕ → List ℕ
listening port = numbered (codes "listening ") port

-- none can be taken
abbrev pub not_listening : List ℕ
not_listening = codes "not listening\n"

-- there is no journal to go on with
abbrev pub journal_fault : List ℕ
journal_fault = codes "journal fault\n"

-- the last line, by how the connections ended, so many of which there should be
abbrev pub last_line : ℕ → Ending → List ℕ
last_line conns Served = numbered (codes "served ") conns
last_line conns Stopped = codes "stopped\n"
last_line conns NotTaken = not_listening
last_line conns Journal = journal_fault
last_line conns Full = journal_fault
last_line conns Memory = []
