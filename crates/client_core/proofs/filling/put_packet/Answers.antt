use Rattle.std.proofs.Common.{◌∙◌, drop, sym, append_assoc, arith}
use Rattle.std.proofs.lemmas.List.{length-drop, take_all}
use Rattle.containers.specs.Container.{head_of}
use Rattle.client_core.proofs.PacketLemmas.{packed_one, packed_other}
use Rattle.client_core.proofs.filling.put_packet.Goals as goal

pub returns-then-count-eq1-clause-packet : goal.returns-then-count-eq1-clause-packet
returns-then-count-eq1-clause-packet c messages is count =
    rw (c.push_all-then-count-eq1.ensures.written, c.push_all.ensures.written, c.requires.empty) (take_all _ (drop 16 c.args.rows.now) (omega (arith, length-drop 16 c.args.rows.now)) ∙ packed_one c.args.rows.now messages is (sym count ∙ c.if-count-eq1.true))

pub returns-clause-packet : goal.returns-clause-packet
unfolding head_of
returns-clause-packet c messages is count =
    rw (c.push_all-4.ensures.written, c.push_all-3.ensures.written, c.push_all-2.ensures.written, c.push_all.ensures.written, c.to_le_bytes.ensures, c.to_le_bytes-2.ensures, c.requires.empty, is, packed_other messages (λ one. c.if-count-eq1.false (count ∙ one)), count) (simp append_assoc)
