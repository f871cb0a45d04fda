use Rattle.std.proofs.Common.{◌≡◌, ◌∙◌, ℕ, List, take, drop, length, ap, arith, length-drop, sym, refl, take_all}
use Rattle.temp_keys.specs.Derivation.{message_key, aes_key, aes_iv}
use Rattle.temp_keys.specs.Messages.{long}
use Rattle.temp_keys.proofs.SealLemmas.{deciphered-same, enciphered-same, identifier-part, length-sealed, plain_of, plain_of-sealed, said-part, sealed-from_parts}
use Rattle.temp_keys.proofs.TextLemmas.{not_other, not_same}
use Rattle.temp_keys.proofs.message.plain_of.Goals as goal
use Rattle.temp_keys.proofs.message.plain_of.Goals.{then-message-ne-MESSAGE_BYTES-via-then-message-ne-MESSAGE_BYTES, then-message-ne-MESSAGE_BYTES-via-else-message-ne-MESSAGE_BYTES+then-ne}

-- a message of another length, or with another identifier
pub returns-then-message-ne-MESSAGE_BYTES-clause-none : goal.returns-then-message-ne-MESSAGE_BYTES-clause-none
returns-then-message-ne-MESSAGE_BYTES-clause-none c = λ plain h e. elim c.then-message-ne-MESSAGE_BYTES.branch [
  | then-message-ne-MESSAGE_BYTES-via-then-message-ne-MESSAGE_BYTES w ↦
      w.if-message-ne-MESSAGE_BYTES.true (ap length e ∙ length-sealed c.seal_laws.ensures c.args.key.now plain h)
  | then-message-ne-MESSAGE_BYTES-via-else-message-ne-MESSAGE_BYTES+then-ne w ↦
      not_same (take 8 c.args.message.now) w.as_slice.result.now w.if-ne.ensures
      (ap (take 8) e ∙ (identifier-part c.seal_laws.ensures c.args.key.now plain ∙ sym (w.as_slice.ensures ∙ (c.to_le_bytes-id.ensures ∙ ap long c.id.ensures.value))))
]

pub returns-then-ne-2-clause-none : goal.returns-then-ne-2-clause-none
returns-then-ne-2-clause-none c = λ plain h e.
    let key = c.args.key.now in
    let said = c.copy_from_slice.new.self in
    let part : said ≡ take 16 (drop 8 c.args.message.now) = c.copy_from_slice.ensures.after in
    let text : c.copy_from_slice-2.new.self ≡ drop 24 c.args.message.now = c.copy_from_slice-2.ensures.after ∙ take_all 80 (drop 24 c.args.message.now) (omega (arith, length-drop 24 c.args.message.now, c.if-message-ne-MESSAGE_BYTES.false)) in
    let deciphered = deciphered-same key (take 16 (drop 8 c.args.message.now)) (drop 24 c.args.message.now) c.aes_of-aes_key.result.0 c.aes_of-aes_key.result.1 c.ige_decrypt.new.text c.copy_from_slice-2.new.self
    c.ige_decrypt.ensures.deciphered (c.aes_of-aes_key.ensures.key ∙ ap (aes_key key) part) (c.aes_of-aes_key.ensures.iv ∙ ap (aes_iv key) part) text in
    let back : c.ige_decrypt.new.text ≡ plain = deciphered ∙ (ap (λ (m : List ℕ). plain_of key m) e ∙ plain_of-sealed c.seal_laws.ensures key plain h) in
    let same : c.message_key.result ≡ said = c.message_key.ensures ∙ (ap message_key back ∙ (sym (said-part c.seal_laws.ensures key plain) ∙ (ap (λ (m : List ℕ). take 16 (drop 8 m)) (sym e) ∙ sym part))) in
    not_same c.message_key.result said c.if-ne-2.ensures same

pub returns-clause-found : goal.returns-clause-found
returns-clause-found c =
    let key = c.args.key.now in
    let said = c.copy_from_slice.new.self in
    let part : said ≡ take 16 (drop 8 c.args.message.now) = c.copy_from_slice.ensures.after in
    let text : c.copy_from_slice-2.new.self ≡ drop 24 c.args.message.now = c.copy_from_slice-2.ensures.after ∙ take_all 80 (drop 24 c.args.message.now) (omega (arith, length-drop 24 c.args.message.now, c.if-message-ne-MESSAGE_BYTES.false)) in
    let same : c.message_key.result ≡ said = not_other c.message_key.result said c.if-ne-2.ensures in
    let id = not_other (take 8 c.args.message.now) c.as_slice.result.now c.if-ne.ensures ∙ (c.as_slice.ensures ∙ (c.to_le_bytes-id.ensures ∙ ap long c.id.ensures.value)) in
    let msg_key : said ≡ message_key c.ige_decrypt.new.text = sym same ∙ c.message_key.ensures in
    sealed-from_parts key c.args.message.now c.ige_decrypt.new.text id (sym part ∙ msg_key)
    (sym (enciphered-same key (message_key c.ige_decrypt.new.text) c.ige_decrypt.new.text c.aes_of-aes_key.result.0 c.aes_of-aes_key.result.1 (drop 24 c.args.message.now) c.ige_decrypt.new.text
    (sym (c.ige_decrypt.ensures.undone_by_encrypting ∙ text)) (c.aes_of-aes_key.ensures.key ∙ ap (aes_key key) msg_key) (c.aes_of-aes_key.ensures.iv ∙ ap (aes_iv key) msg_key) refl))
