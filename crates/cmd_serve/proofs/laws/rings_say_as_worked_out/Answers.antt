use Rattle.msg_key.specs.Keys as keys
use Rattle.envelope.specs.declared.parts.Dir.TheVariants.{Up}
use Rattle.envelope.specs.Lock.{mt_lock, x_of}
use Rattle.cmd_serve.proofs.Opening.{deciphered-bytes}
use Rattle.cmd_serve.proofs.Outsides.{outside-is}
use Rattle.cmd_serve.proofs.laws.rings_say_as_worked_out.Goals as goal

pub returns : goal.returns
returns c =
    let of = c.keys_are_bytes.ensures in
    let counts = c.counts_of_bytes.ensures in
    let stay = c.bytes_stay_bytes.ensures in
    let parts = c.parts_are_bytes.ensures in
    λ ring. outside-is
    (record {
      unlocked = λ key dir message_key text n whole. deciphered-bytes counts.append counts.nil counts.take counts.drop counts.xor c.blocks_are_bytes.ensures.deciphered
          (keys.aes_key key (x_of dir) message_key) (keys.aes_iv key (x_of dir) message_key) text n (of.aes_key key message_key (x_of dir)) (of.aes_iv key message_key (x_of dir)) whole;
      opens = λ ring now dir packet plain. c.whole_plain_texts_open.ensures mt_lock ring now dir packet plain
          (λ key dir message_key text n whole. c.ige_enciphering_undoes_deciphering.ensures (keys.aes_key key (x_of dir) message_key)
          (keys.aes_iv key (x_of dir) message_key) text n (of.aes_key key message_key (x_of dir)) (of.aes_iv key message_key (x_of dir)) whole);
    })
    (record { nil = stay.nil; cons = stay.cons; append = stay.append; take = parts.take; drop = parts.drop })
    ring (λ now packet envelope. c.packets_open_as_worked_out.ensures.of_the_protocol ring now Up packet envelope) (c.rings_have_keys.ensures ring)
