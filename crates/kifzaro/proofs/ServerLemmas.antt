-- What an event leaves of a server with its draw and its packets.
use Rattle.std.proofs.Common.{◌≡◌, ℕ, None, List, ◌++◌, zero, suc, ap, refl, sym, subst, ◌∙◌}
use Rattle.draws.specs.ChaChaWords.{ChaChaPlace}
use Rattle.draws.specs.Draws.{draw_after}
use Rattle.envelope.specs.Lock.{mt_lock}
use Rattle.server_core.specs.Desks.{Does}
use Rattle.server_core.specs.Server as core
use Rattle.server_core.specs.declared.effects.Effects.{Effects}
use Rattle.server_rules.specs.Answer.{Answer}
use Rattle.kifzaro.specs.Drawing.{drawing}
use Rattle.kifzaro.specs.Servers.{Did, Kept}

-- ---- words

keeps_key : (words : ℕ) (draw : ChaChaPlace) → (draw_after drawing words draw).key ≡ draw.key
keeps_key zero draw = refl
keeps_key (suc n) draw = keeps_key n (drawing draw).1

same_draw : (one other : ChaChaPlace) → one.key ≡ other.key → one.place ≡ other.place → one ≡ other
same_draw one other key place =
    subst (λ (k : List ℕ). record { key = k; place = one.place } ≡ other) (sym key)
    (subst (λ (at : ℕ). record { key = other.key; place = at } ≡ other) (sym place) refl)

-- the draw stands where some of its words bring it
reaches : (words : ℕ) (before left due : ChaChaPlace) → due ≡ draw_after drawing words before → left ≡ due
    → record before { place = left.place } ≡ due
reaches words before left due is same =
    same_draw (record before { place = left.place }) due (sym (ap (λ (draw : ChaChaPlace). draw.key) is ∙ keeps_key words before))
    (ap (λ (draw : ChaChaPlace). draw.place) same)

-- ---- events

did : (before after : Kept) (effects : Effects) (answer : Answer ChaChaPlace)
    → Does (core.StandsFor after.server) mt_lock before.server.seal after.draw effects answer
    → after.waiting ≡ before.waiting ++ effects.out.outs → after.asked ≡ None → Did before after answer
did before after effects answer does waits none = record {
  is = does.stands;
  drawn = does.drawn;
  outs = effects.out.outs;
  sent = does.sent;
  waits = waits;
  asked = none;
}

-- an event that drew from where the server's draw stood, gives what the rules say, and leaves its draw where they do
pub event_did : (before after : Kept) (drawn left : ChaChaPlace) (effects : Effects) (answer : ChaChaPlace → Answer ChaChaPlace)
    → ((draw : ChaChaPlace) → (words : ℕ) × ((answer draw).draw ≡ draw_after drawing words draw))
    → drawn ≡ before.draw
    → Does (core.StandsFor after.server) mt_lock before.server.seal left effects (answer drawn)
    → after.draw ≡ record before.draw { place = left.place }
    → after.waiting ≡ before.waiting ++ effects.out.outs → after.asked ≡ None
    → Did before after (answer before.draw)
event_did before after drawn left effects answer draws from does moves waits none =
    let due = answer before.draw in
    let done = subst (λ (draw : ChaChaPlace). Does (core.StandsFor after.server) mt_lock before.server.seal left effects (answer draw)) from does in
    let words = draws before.draw in
    did before after effects due
    (record {
      stands = done.stands;
      drawn = moves ∙ reaches words.0 before.draw left due.draw words.1 done.drawn;
      sent = done.sent;
      entered = done.entered;
    })
    waits none
