use Rattle.std.proofs.Common.{◌≡◌, ◌∙◌, ℕ, List, ◌++◌, length, ap}
use Rattle.temp_keys.specs.Messages.{plain_text, sealed}
use Rattle.temp_keys.proofs.SealLemmas.{length-sealed, plain-bytes}
use Rattle.temp_keys.proofs.TextLemmas.{length-plain}
use Rattle.temp_keys.proofs.message.bind_message_in.Goals as goal

pub seal-requires-clause-plain : goal.seal-requires-clause-plain
seal-requires-clause-plain g c =
    let random = c.draw_bytes.new.into in
    let padding = c.draw_bytes-2.new.into in
    let text = plain_text random c.args.number c.args.inner.now padding in
    let plain : c.fill.new.plain.bytes ≡ text = c.fill.ensures.written ∙ ap (λ (bytes : List ℕ). bytes ++ text) c.requires.plain.0 in
    ap length plain ∙ length-plain random c.args.number c.args.inner.now padding c.fill.ensures.random_bytes.count c.fill.ensures.padding_bytes.count

pub returns-clause-says : goal.returns-clause-says
returns-clause-says g c =
    let random = c.draw_bytes.new.into in
    let padding = c.draw_bytes-2.new.into in
    let text = plain_text random c.args.number c.args.inner.now padding in
    let plain : c.fill.new.plain.bytes ≡ text = c.fill.ensures.written ∙ ap (λ (bytes : List ℕ). bytes ++ text) c.requires.plain.0 in
    let written = c.seal.ensures.written ∙ ap (λ (bytes : List ℕ). bytes ++ sealed c.args.perm.now c.fill.new.plain.bytes) c.requires.message.0 in
    record {
      random = random;
      padding = padding;
      random_bytes = c.fill.ensures.random_bytes;
      padding_bytes = c.fill.ensures.padding_bytes;
      number_fits = c.fill.ensures.fits.0;
      inner_fits = c.fill.ensures.fits.1;
      sealed = c.into_octets.ensures ∙ (written ∙ ap (sealed c.args.perm.now) plain);
    }

pub returns-clause-size : goal.returns-clause-size
returns-clause-size g c =
    let random = c.draw_bytes.new.into in
    let padding = c.draw_bytes-2.new.into in
    let text = plain_text random c.args.number c.args.inner.now padding in
    let plain : c.fill.new.plain.bytes ≡ text = c.fill.ensures.written ∙ ap (λ (bytes : List ℕ). bytes ++ text) c.requires.plain.0 in
    let written = c.seal.ensures.written ∙ ap (λ (bytes : List ℕ). bytes ++ sealed c.args.perm.now c.fill.new.plain.bytes) c.requires.message.0 in
    let bytes = plain-bytes c.seal_laws.ensures random c.args.number c.args.inner.now padding c.fill.ensures.random_bytes c.fill.ensures.padding_bytes in
    ap length (c.into_octets.ensures ∙ (written ∙ ap (sealed c.args.perm.now) plain)) ∙ length-sealed c.seal_laws.ensures c.args.perm.now text bytes
