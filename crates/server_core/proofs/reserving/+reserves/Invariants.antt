use Rattle.std.proofs.Common.{◌-◌, length}
use Rattle.server_core.proofs.reserving.+reserves.Given as goal

abbrev pub decreases-reserves : goal.decreases-reserves
decreases-reserves a = length a.voices.now - a.place
