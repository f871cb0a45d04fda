-- What a client that is there is, and what it sends.
use Rattle.std.proofs.Common.{◌≡◌, ℕ, Option, Some, List, sym, ap, ◌∙◌}
use Rattle.auth_keys.specs.declared.ring.RingKey.{RingKey}
use Rattle.client_core.specs.declared.holder.Holder.{Holder}
use Rattle.draws.specs.ChaChaWords.{ChaChaPlace}
use Rattle.kifzaro.specs.Clients.{Kept, held}

-- the client, while it is there
pub held_now : (kept : Kept) (inside : Option Holder) (ring : List RingKey) (draw : ChaChaPlace) (waiting : Option (List ℕ)) (holder : Holder)
    → record { holder = held inside; ring = ring; draw = draw; waiting = waiting } ≡ kept → inside ≡ Some holder → holder ≡ kept.holder
held_now kept inside ring draw waiting holder view is = sym (ap held is) ∙ ap (λ (k : Kept). k.holder) view
