use Rattle.std.proofs.Common.{arith}
use Rattle.envelope.specs.Lock.{mt_lock}
use Rattle.kifzaro.proofs.FittingLemmas.{blocks_sealed, least_sealed}
use Rattle.kifzaro.proofs.fitting.fits.Goals as goal

pub returns-then-len-lt-PACKET_BYTES_MIN-clause-sealed : goal.returns-then-len-lt-PACKET_BYTES_MIN-clause-sealed
returns-then-len-lt-PACKET_BYTES_MIN-clause-sealed c ring dir envelope padding sealed =
    let short = c.if-len-lt-PACKET_BYTES_MIN.true in
    let least = least_sealed mt_lock ring dir envelope padding c.args.packet.now c.opens_what_it_sealed.ensures sealed in
    absurd (omega (arith, short, least))

pub returns-clause-sealed : goal.returns-clause-sealed
returns-clause-sealed c ring dir envelope padding sealed = blocks_sealed mt_lock ring dir envelope padding c.args.packet.now c.opens_what_it_sealed.ensures sealed
