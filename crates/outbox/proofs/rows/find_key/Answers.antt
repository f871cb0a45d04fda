use Rattle.std.proofs.Common.{◌≡◌, ◌≢◌, ◌∙◌, sym, ap, arith, get_or}
use Rattle.outbox.proofs.PlaceLemmas.{place_of_key, no_key_past, no_key_at}
use Rattle.outbox.proofs.rows.find_key.Goals.{else-place-len-via-then-place-len+else-key, else-place-len-via-else-place-len}
use Rattle.outbox.proofs.rows.find_key.Goals as goal

pub returns-then-key : goal.returns-then-key
returns-then-key g c =
    let key = g.T.Keyed.key_of in
    let entries = c.args.entries.now in
    let same : key (get_or entries.items c.place_of-place.result c.index.result.now) ≡ c.args.key = ap key (sym c.index.ensures) ∙ (sym c.key.ensures ∙ c.if-key.true) in
    place_of_key key c.args.key entries.items c.place_of-place.result c.index.result.now c.place_of-place.ensures.place (omega (arith, entries.ok.0)) same

pub returns-else-place-len : goal.returns-else-place-len
returns-else-place-len g c =
    let key = g.T.Keyed.key_of in
    let entries = c.args.entries.now in
    c.len-else-place-len.ensures ∙ (entries.ok.0 ∙ (elim c.else-place-len.branch [
      | else-place-len-via-then-place-len+else-key w ↦
          let other : key (get_or entries.items c.place_of-place.result w.index.result.now) ≢ c.args.key = λ same. w.if-key.false (w.key.ensures ∙ (ap key w.index.ensures ∙ same)) in
          no_key_at key c.args.key entries.items c.place_of-place.result w.index.result.now c.place_of-place.ensures.place (omega (arith, entries.ok.0)) other c.requires
      | else-place-len-via-else-place-len w ↦ no_key_past key c.args.key entries.items (omega (arith, entries.ok.0, c.place_of-place.ensures.place))
    ]))
