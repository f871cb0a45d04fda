use Rattle.std.proofs.Common.{◌≡◌, ◌∙◌, ◌+◌, ◌-◌, ◌≤◌, ◌++◌, ◌∷◌, [], ℕ, List, length, map, ap, length-append, arith}
use Rattle.service_tl.specs.declared.lists.Message.{Message}
use Rattle.service_tl.specs.Items.{spelling_of}
use Rattle.packing.specs.Numbering.{numbered}
use Rattle.server_output.specs.Dues.{message_at}
use Rattle.server_output.specs.Items.{item_of}
use Rattle.server_output.proofs.Rows.{rows-more, rows-hold, rows-bytes-more}
use Rattle.server_output.proofs.owing.OutgoingMessages.say.Goals as goal

pub returns-clause-owed : goal.returns-clause-owed
returns-clause-owed c =
    let text = c.self.inside.texts.bytes in
    let spelt = spelling_of (item_of c.args.said.now) in
    let begins : length c.as_slice-start.result.now ≡ length text = ap (λ (text : List ℕ). length text) c.as_slice-start.ensures.value in
    let grown : length c.as_slice.result.now ≡ length text + length spelt =
    ap (λ (text : List ℕ). length text) c.as_slice.ensures.value ∙ (ap (λ (text : List ℕ). length text) c.spell.ensures.written ∙ length-append text spelt) in
    let whole : length c.as_slice.result.now - length c.as_slice-start.result.now ≡ length spelt = omega arith in
    let before = map (message_at text) c.self.inside.rows.items in
    let one : ℕ → ℕ → Message = λ number seq. record { number = number; seq = seq; body = spelt } in
    let own = numbered c.args.now c.args.numbers.now (item_of c.args.said.now) in
    rw (c.push_reserved.ensures.items, c.spell.ensures.written, ← c.self.view_is)
    (rows-more text spelt c.self.inside.rows.items _ c.self.invariant.0 begins whole
    ∙ (ap (λ (number : ℕ). before ++ one number c.number_of-number.result.1 ∷ []) c.number_of-number.ensures.number
    ∙ ap (λ (seq : ℕ). before ++ one own.number seq ∷ []) c.number_of-number.ensures.seq))

pub invariant_of-self : goal.invariant_of-self
invariant_of-self c =
    let text = c.self.inside.texts.bytes in
    let spelt = spelling_of (item_of c.args.said.now) in
    let begins : length c.as_slice-start.result.now ≡ length text = ap (λ (text : List ℕ). length text) c.as_slice-start.ensures.value in
    let grown : length c.as_slice.result.now ≡ length text + length spelt =
    ap (λ (text : List ℕ). length text) c.as_slice.ensures.value ∙ (ap (λ (text : List ℕ). length text) c.spell.ensures.written ∙ length-append text spelt) in
    let whole : length c.as_slice.result.now - length c.as_slice-start.result.now ≡ length spelt = omega arith in
    let rows = c.self.inside.rows.items in
    let short : length spelt ≤ 1044480 = omega (arith, c.sizes_of_said.ensures.size c.args.said.now c.spell.ensures.fits, c.sizes_of_said.ensures.short c.args.said.now c.requires.lawful) in (
      rw (c.push_reserved.ensures.items, c.spell.ensures.written)
          (rows-hold text spelt rows _ c.self.invariant.0 begins whole (c.sizes_of_said.ensures.words c.args.said.now c.requires.lawful c.spell.ensures.fits) short),
      omega (arith, c.push_reserved.ensures.len, c.push_reserved.ensures.capacity, c.self.invariant.1, c.requires.place),
      rw (c.push_reserved.ensures.items, c.spell.ensures.written) (rows-bytes-more text spelt rows _ c.self.invariant.2 whole),
    )
