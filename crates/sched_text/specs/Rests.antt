-- Scaffolding, and no promise: what is left of a line.
use Rattle.std.specs.Prelude.{ℕ, List, [], Option, Some, None}
use Rattle.std.specs.Borrow.{Bor}
use Rattle.sched_text.specs.Lines.{words_of}

-- the words of what stands behind the last blank, or none where there was no further one
abbrev pub words_in : Option (Bor (List ℕ)) → List (List ℕ)
words_in None = []
words_in (Some rest) = words_of rest.now
