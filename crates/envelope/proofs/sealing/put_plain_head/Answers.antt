use Rattle.std.proofs.Common.{◌≡◌, ◌∙◌, ◌++◌, ap, refl, drop, drop-drop}
use Rattle.byteorder.specs.Endian.{little_bytes}
use Rattle.envelope.proofs.sealing.put_plain_head.Goals as goal

pub returns-clause-written : goal.returns-clause-written
returns-clause-written c =
    let head = c.args.head.now in
    let text = c.args.text.now in
    let salt : c.copy_from_slice.new.self ≡ little_bytes 8 head.salt = c.copy_from_slice.ensures.after ∙ c.to_le_bytes.ensures in
    let session : c.copy_from_slice-2.new.self ≡ little_bytes 8 head.session = c.copy_from_slice-2.ensures.after ∙ c.to_le_bytes-2.ensures in
    let number : c.copy_from_slice-3.new.self ≡ little_bytes 8 head.number = c.copy_from_slice-3.ensures.after ∙ c.to_le_bytes-3.ensures in
    let seq : c.copy_from_slice-4.new.self ≡ little_bytes 4 head.seq = c.copy_from_slice-4.ensures.after ∙ c.to_le_bytes-4.ensures in
    let count : c.copy_from_slice-5.new.self ≡ little_bytes 4 c.args.body = c.copy_from_slice-5.ensures.after ∙ c.to_le_bytes-5.ensures in
    let behind_salt : c.split_at_mut-salt.result.1.now ≡ drop 8 text = c.split_at_mut-salt.ensures.back in
    let behind_session : c.split_at_mut-session.result.1.now ≡ drop 16 text =
    c.split_at_mut-session.ensures.back ∙ (ap (λ l. drop 8 l) behind_salt ∙ drop-drop 8 8 text) in
    let behind_number : c.split_at_mut-number.result.1.now ≡ drop 24 text =
    c.split_at_mut-number.ensures.back ∙ (ap (λ l. drop 8 l) behind_session ∙ drop-drop 8 16 text) in
    let behind_seq : c.split_at_mut-seq.result.1.now ≡ drop 28 text =
    c.split_at_mut-seq.ensures.back ∙ (ap (λ l. drop 4 l) behind_number ∙ drop-drop 4 24 text) in
    let body : c.split_at_mut-length.result.1.now ≡ drop 32 text =
    c.split_at_mut-length.ensures.back ∙ (ap (λ l. drop 4 l) behind_seq ∙ drop-drop 4 28 text) in
    rw (salt, session, number, seq, count, body) refl
