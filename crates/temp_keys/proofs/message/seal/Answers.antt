use Rattle.std.proofs.Common.{◌≡◌, ◌∙◌, ap, arith, length}
use Rattle.temp_keys.specs.Derivation.{message_key, aes_key, aes_iv}
use Rattle.temp_keys.specs.Messages.{long}
use Rattle.temp_keys.proofs.SealLemmas.{enciphered-same, seal-written}
use Rattle.temp_keys.proofs.TextLemmas.{take-front}
use Rattle.temp_keys.proofs.message.seal.Goals as goal

pub returns : goal.returns
returns c =
    let key = c.args.key.now in
    let plain = c.args.plain.bytes in
    let owned : c.into_vec-text.result.items ≡ plain = c.into_vec-text.ensures.value ∙ c.into_octets.ensures in
    let read : c.deref.result.now ≡ plain = c.deref.ensures.value ∙ owned in
    let lent : c.deref_mut.result.now ≡ plain = c.deref_mut.ensures.value ∙ owned in
    let msg_key : c.message_key-message_key.result ≡ message_key plain = c.message_key-message_key.ensures ∙ ap message_key read in
    let text = enciphered-same key (message_key plain) plain c.aes_of-aes_key.result.0 c.aes_of-aes_key.result.1 c.ige_encrypt.new.text c.deref_mut.result.now
    c.ige_encrypt.ensures.enciphered (c.aes_of-aes_key.ensures.key ∙ ap (aes_key key) msg_key) (c.aes_of-aes_key.ensures.iv ∙ ap (aes_iv key) msg_key) lent in
    let len : c.into_vec-text.result.len ≡ length c.ige_encrypt.new.text = omega (arith, c.into_vec-text.result.ok.0, ap length c.deref_mut.ensures.value, c.ige_encrypt.ensures.meets_equations.same_length) in
    record {
      written = seal-written c.args.message.now.bytes c.push_all.new.self.bytes c.push_all-2.new.self.bytes c.push_all-3.new.self.bytes c.to_le_bytes.result c.message_key-message_key.result c.deref-2.result.now key plain
          c.push_all.ensures.written c.push_all-2.ensures.written c.push_all-3.ensures.written (c.to_le_bytes.ensures ∙ ap long c.id.ensures.value) msg_key (c.deref-2.ensures.value ∙ (take-front c.into_vec-text.result.len c.ige_encrypt.new.text _ len ∙ text));
    }
