use Rattle.law_packets.proofs.Bodies.{body-bytes}
use Rattle.law_packets.proofs.bytes.bodies_are_bytes.Goals as goal

pub returns : goal.returns
returns c =
    let bytes = c.bytes_stay_bytes.ensures in body-bytes bytes.nil bytes.cons bytes.copies bytes.append
