-- The packets of a bag, by their bytes.
use Rattle.std.specs.Prelude.{ℕ, List}
use Rattle.sim_server.specs.Made.{Made, GoesUp, GoesDown}

abbrev pub bytes_in : Made → List ℕ
bytes_in (GoesUp bytes) = bytes
bytes_in (GoesDown session bytes) = bytes
