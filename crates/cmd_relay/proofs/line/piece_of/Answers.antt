use Rattle.std.proofs.Common.{ℕ, List}
use Rattle.sched_text.specs.Lines.{words_of}
use Rattle.cmd_relay.specs.Captures.{IsHex}
use Rattle.cmd_relay.proofs.Readings.{no_bytes}
use Rattle.cmd_relay.proofs.line.piece_of.Goals as goal

pub returns-in-None-clause-nothing : goal.returns-in-None-clause-nothing
returns-in-None-clause-nothing c = λ way bytes says.
    let none : (one : List ℕ) → IsHex one c.in-Some.word.now → ⊥ = rw c.in-None.is at c.in_ok-bytes.ensures.none in
    no_bytes c.in-Some.first.now c.in-Some.word.now way bytes (words_of c.args.line.now) c.in-Some.ensures.two none says
