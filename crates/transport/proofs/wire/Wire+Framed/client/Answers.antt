use Rattle.std.proofs.Common.{◌≡◌, ◌++◌, List, ℕ, length, ap, ◌∙◌, arith}
use Rattle.draws.specs.Draws.{next_bytes}
use Rattle.octets.specs.Draft.{Draft}
use Rattle.obfus.specs.Starts as obfus
use Rattle.transport.proofs.Begun.{plain_begun, obfuscated_begun}
use Rattle.transport.proofs.wire.Wire+Framed.client.Goals as goal

pub returns-then-not-obfuscate-clause-begun : goal.returns-then-not-obfuscate-clause-begun
returns-then-not-obfuscate-clause-begun g c =
    plain_begun c.buffers_stand.ensures.fresh c.args.form c.new-wire.result c.in_ok-start.start c.new-wire.ensures
    (c.in_ok-start.ensures ∙ c.start_of.ensures)

pub returns-clause-begun : goal.returns-clause-begun
returns-clause-begun g c =
    let wire : List ℕ = c.make-up.result.wire in
    let plain : List ℕ = obfus.start_of c.tag_of.result 2 (next_bytes g.D.Draw.step 64 c.args.draw.now) in
    let size : length wire ≡ 64 = omega arith in
    obfuscated_begun c.buffers_stand.ensures.fresh c.args.form c.tag_of.result c.new-wire-2.result wire c.into_octets.result plain 2
    c.make-up.result.up c.make-up.result.down c.new-wire-2.ensures c.tag_of.ensures
    (c.into_octets.ensures ∙ c.push_all.ensures.written ∙ ap (λ (d : Draft). d.bytes ++ wire) c.in_ok-start-2.ensures)
    size c.make-up.ensures.not_plain c.make-up.ensures.up c.make-up.ensures.down c.make-up.ensures.read_back
