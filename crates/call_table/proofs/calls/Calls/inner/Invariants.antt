use Rattle.std.proofs.Common.{◌≡◌, Some, fold}
use Rattle.std.specs.Prelude.{◌==◌, if◌then◌else◌, option_map}
use Rattle.call_table.specs.Table.{inner_of}
use Rattle.call_table.proofs.calls.Calls.inner.Given as goal

-- what is found so far, and what is left, give what is found in all
abbrev pub invariant-loop-packet : goal.invariant-loop-packet
invariant-loop-packet l =
    fold (λ found packet. if packet.outer == l.outer then Some packet.inner else found) (option_map (λ inner. inner.now) l.found) l.packet-iterator
    ≡ inner_of l.outer l.fn.self.packets
