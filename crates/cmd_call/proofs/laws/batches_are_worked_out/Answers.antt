use Rattle.cmd_call.specs.Reading.{reading_under}
use Rattle.cmd_call.proofs.BatchLemmas.{reads_ring}
use Rattle.cmd_call.proofs.laws.batches_are_worked_out.Goals as goal

pub returns : goal.returns
returns g c = λ ring plan course end calls calls_then given given_then kept drawn trace.
    trace (reading_under ring) (reads_ring c.packets_open_as_worked_out.ensures.of_the_protocol ring)
