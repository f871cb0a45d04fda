use Rattle.std.proofs.Common.{◌≡◌, ◌∙◌, ℕ, List, [], ◌∷◌, ◌++◌, fold, ap, sym, append_assoc, append-nil}
use Rattle.service_tl.specs.declared.lists.Message.{Message}
use Rattle.server_rules.specs.Event.{Setting, Speaker, Sent}
use Rattle.server_rules.specs.Sending.{seals}
use Rattle.server_output.specs.declared.outs.Header.{Header}
use Rattle.server_output.specs.Outs.{one_sent, sent_of, draw_after_sent}
use Rattle.server_output.proofs.laws.sent_as_the_rules_say.Goals as goal

abbrev header_of : {S : Type 0} → ℕ → Speaker S → Header
header_of salt speaker = record { key = speaker.session.key; session = speaker.session.number; salt = salt }

abbrev with_sent : {S : Type 0} → Speaker S → S → List Sent → Speaker S
with_sent speaker draw sent = record speaker { draw = draw; sent = sent }

sealed : {S : Type 0} (setting : Setting S) (salt : ℕ) (speaker : Speaker S) (messages : List Message) → fold (seals setting salt) speaker messages
    ≡ with_sent speaker (draw_after_sent setting.step messages speaker.draw) (speaker.sent ++ sent_of setting.step (header_of salt speaker) messages speaker.draw)
sealed setting salt speaker [] = ap (λ (sent : List Sent). with_sent speaker speaker.draw sent) (sym (append-nil speaker.sent))
sealed setting salt speaker (message ∷ messages) =
    let next = seals setting salt speaker message in
    let one = one_sent setting.step (header_of salt speaker) message speaker.draw in
    sealed setting salt next messages
    ∙ ap (λ (sent : List Sent). with_sent speaker (draw_after_sent setting.step messages next.draw) sent)
    (append_assoc speaker.sent (one ∷ []) (sent_of setting.step (header_of salt speaker) messages next.draw))

pub returns-clause-sealed : goal.returns-clause-sealed
returns-clause-sealed g c setting salt speaker messages = sealed setting salt speaker messages
