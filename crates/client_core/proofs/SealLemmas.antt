-- A packet that a flush told is sealed.
use Rattle.std.proofs.Common.{ℕ, List}
use Rattle.auth_keys.specs.declared.ring.RingKey.{RingKey}
use Rattle.envelope.specs.Packet.{Lock}
use Rattle.client_rules.specs.Flush.{Answer, Nothing, Spent, Sends}
use Rattle.client_core.specs.Flushed.{TellsFlush}
use Rattle.client_core.specs.Sealing.{TellsSealed}
use Rattle.client_core.specs.declared.flush.Flush.{Flush}
use Rattle.client_core.specs.declared.flush.Flush.TheVariants as told

packet_sealed : (lock : Lock) (keys : List RingKey) (answer : Answer) (bytes : List ℕ) → TellsFlush lock keys answer (told.Packet bytes) → TellsSealed lock keys (told.Packet bytes)
packet_sealed lock keys Nothing bytes tells = absurd tells
packet_sealed lock keys Spent bytes tells = absurd tells
packet_sealed lock keys (Sends packet) bytes tells = (packet, tells)

pub told_sealed : (lock : Lock) (keys : List RingKey) (answer : Answer) (flush : Flush) → TellsFlush lock keys answer flush → TellsSealed lock keys flush
told_sealed lock keys answer (told.Packet bytes) tells = packet_sealed lock keys answer bytes tells
told_sealed lock keys answer told.Nothing tells = tt
told_sealed lock keys answer told.Spent tells = tt
told_sealed lock keys answer told.Memory tells = tt
