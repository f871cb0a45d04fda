use Rattle.draws.specs.Draws.{draw_after, next_bytes, word_after}
use Rattle.msg_ids.specs.Counters.{next_number}
use Rattle.temp_keys.specs.Messages.{binding_message}
use Rattle.client_core.specs.Asked.{asked_inner}
use Rattle.client_core.proofs.BindSizes.{bind_size, eight, sixteen}
use Rattle.client_core.proofs.SizeLemmas.{bind-size}
use Rattle.client_core.proofs.asking.sizes_of_bindings.Goals as goal

pub returns : goal.returns
returns g c = λ key at client needed draw.
    let step = g.D.Draw.step in
    let nonce = word_after step 0 draw in
    let behind = draw_after step 1 draw in
    let number = next_number client.counters.last at in
    bind-size c.sizes_of_spellings.ensures needed.perm nonce needed.expires
    (binding_message key (next_bytes step 16 behind) number (asked_inner client needed nonce) (next_bytes step 8 (draw_after step 2 behind)))
    (bind_size c.sizes_of_messages.ensures key _ number (asked_inner client needed nonce) _ (sixteen step behind) (eight step (draw_after step 2 behind)))
