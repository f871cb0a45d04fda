use Rattle.std.proofs.Common.{refl}
use Rattle.msg_key.specs.Keys as keys
use Rattle.envelope.specs.Lock.{x_of}
use Rattle.envelope.proofs.laws.locks_keep_sizes.Goals as goal

pub returns-clause-protocol : goal.returns-clause-protocol
returns-clause-protocol c =
    let of = c.keys_are_bytes.ensures in
    record {
      message_key = λ key dir plain. (of.message_key key plain (x_of dir)).count;
      text = λ key dir message_key plain n whole. (c.ige_meets_its_equations.ensures (keys.aes_key key (x_of dir) message_key)
          (keys.aes_iv key (x_of dir) message_key) plain n (of.aes_key key message_key (x_of dir)) (of.aes_iv key message_key (x_of dir)) whole).same_length;
    }

pub returns-clause-clear : goal.returns-clause-clear
returns-clause-clear c = record { message_key = λ key dir plain. refl; text = λ key dir message_key plain n whole. refl }
