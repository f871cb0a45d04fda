use Rattle.std.proofs.Common.{[], sym, subst}
use Rattle.framing.specs.Held.{Held, nothing}
use Rattle.frame_len.specs.Reading.{StandsFor}
use Rattle.frame_len.proofs.Standing.{stands_for}
use Rattle.frame_len.proofs.deframer.Deframer.new.Goals as goal

pub returns-clause-stands : goal.returns-clause-stands
returns-clause-stands c =
    let padded = c.args.padded in
    subst (λ (held : Held). StandsFor (record { padded = padded; stream = held }) [] []) (sym c.new.ensures)
    (stands_for padded nothing [] [] (c.buffers_stand.ensures.fresh (record { padded = padded })))
