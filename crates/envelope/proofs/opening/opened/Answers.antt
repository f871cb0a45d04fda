use Rattle.std.proofs.Common.{◌≡◌, ◌-◌, ◌∙◌, List, ℕ, true, false, ap, sym, length, length-drop, arith}
use Rattle.envelope.proofs.Openings.{has_key, has_plain, has_mismatch, envelope_answered, refusal_answered}
use Rattle.envelope.proofs.opening.opened.Goals as goal

pub returns-then-not-is_same-clause-refused : goal.returns-then-not-is_same-clause-refused
returns-then-not-is_same-clause-refused g c =
    let found = c.in-Some.ensures.found in
    let ring = c.args.ring.now in
    let packet = c.args.packet.now in
    let said = c.message_key_said-said.result in
    let size = c.is_packet_size.ensures.0 c.if-not-is_packet_size.false in
    let under = has_key ring c.args.now packet c.long_at-id.result found.0 size c.long_at-id.ensures found.1 in
    has_mismatch g.C.Cipher.lock ring c.args.now c.args.dir packet c.as_slice-plain.result.now said
    c.message_key-found.result c.in-Some.key.now found.0 under found.2 c.message_key_said-said.ensures
    (c.as_slice-plain.ensures.value ∙ c.in-Ok.ensures.plain ∙ ap (λ (t : List ℕ). g.C.Cipher.lock.unlocked c.in-Some.key.now c.args.dir said t) c.text_of.ensures)
    c.message_key-found.ensures
    (λ same. let t : true ≡ false = sym (c.is_same.ensures.1 same) ∙ c.if-not-is_same.true in cc)

pub returns-clause-envelope : goal.returns-clause-envelope
returns-clause-envelope g c =
    let found = c.in-Some.ensures.found in
    let ring = c.args.ring.now in
    let packet = c.args.packet.now in
    let plain = c.in-Ok.text in
    let said = c.message_key_said-said.result in
    let size = c.is_packet_size.ensures.0 c.if-not-is_packet_size.false in
    let under = has_key ring c.args.now packet c.long_at-id.result found.0 size c.long_at-id.ensures found.1 in
    let read = has_plain g.C.Cipher.lock ring c.args.now c.args.dir packet plain said
    c.message_key-found.result c.in-Some.key.now found.0 under found.2 c.message_key_said-said.ensures
    (c.in-Ok.ensures.plain ∙ ap (λ (t : List ℕ). g.C.Cipher.lock.unlocked c.in-Some.key.now c.args.dir said t) c.text_of.ensures)
    (c.message_key-found.ensures ∙ ap (g.C.Cipher.lock.message_key c.in-Some.key.now c.args.dir) c.as_slice-plain.ensures.value) (c.is_same.ensures.0 c.if-not-is_same.false) in
    let long : length plain ≡ length packet - 24 =
    c.in-Ok.ensures.same_length ∙ ap length c.text_of.ensures ∙ length-drop 24 packet in
    envelope_answered g.C.Cipher.lock c.lawful.ensures c.byte_laws.ensures ring c.args.now c.args.dir packet plain
    (λ k. omega (arith, c.type_inv.packet k)) c.as_slice-plain.ensures.bytes
    long read c.long_at-id.result c.long_at-id.ensures c.read_plain.result c.read_plain.ensures.envelope

pub returns-clause-refused : goal.returns-clause-refused
returns-clause-refused g c =
    let found = c.in-Some.ensures.found in
    let ring = c.args.ring.now in
    let packet = c.args.packet.now in
    let plain = c.in-Ok.text in
    let said = c.message_key_said-said.result in
    let size = c.is_packet_size.ensures.0 c.if-not-is_packet_size.false in
    let under = has_key ring c.args.now packet c.long_at-id.result found.0 size c.long_at-id.ensures found.1 in
    let read = has_plain g.C.Cipher.lock ring c.args.now c.args.dir packet plain said
    c.message_key-found.result c.in-Some.key.now found.0 under found.2 c.message_key_said-said.ensures
    (c.in-Ok.ensures.plain ∙ ap (λ (t : List ℕ). g.C.Cipher.lock.unlocked c.in-Some.key.now c.args.dir said t) c.text_of.ensures)
    (c.message_key-found.ensures ∙ ap (g.C.Cipher.lock.message_key c.in-Some.key.now c.args.dir) c.as_slice-plain.ensures.value) (c.is_same.ensures.0 c.if-not-is_same.false) in
    refusal_answered g.C.Cipher.lock ring c.args.now c.args.dir packet plain read c.read_plain.result c.read_plain.ensures.refused
