use Rattle.law_packets.proofs.Bindings.{binding-bytes}
use Rattle.law_packets.proofs.bytes.bindings_are_bytes.Goals as goal

pub returns : goal.returns
returns c =
    let bytes = c.counts_of_bytes.ensures in
    binding-bytes bytes.append bytes.nil bytes.take bytes.drop bytes.part bytes.xor c.blocks_are_bytes.ensures.enciphered c.digests_are_bytes.ensures
