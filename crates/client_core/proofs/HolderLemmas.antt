-- A client in its state, by what is kept of it.
use Rattle.std.proofs.Common.{◌≡◌, if◌then◌else◌, true, false, ap, sym, subst, ◌∙◌}
use Rattle.client_rules.specs.Client.{Client, is_open}
use Rattle.client_core.specs.Holding.{Phase, Opening, Open, Ended, phase_after, unless_ended}
use Rattle.client_core.specs.Kept.{Contents, Stands}

-- what is kept tells of each client that it stands for whether it ended
pub ended_as_told : (kept : Contents) (client : Client) → Stands kept client → kept.rest.has_ended ≡ client.has_ended
ended_as_told kept client stands = ap (λ (one : Client). one.has_ended) stands.rest

-- one that hasn't ended does what it does
pub living_does : (does : Client → Client) (kept left : Contents) (client : Client) → Stands kept client → kept.rest.has_ended ≡ false
    → Stands left (does client) → Stands left (unless_ended does client)
living_does does kept left client stands living after =
    subst (λ ended. Stands left (if ended then client else does client)) (sym (sym (ended_as_told kept client stands) ∙ living)) after

-- and one that has does nothing
pub ended_does : (does : Client → Client) (kept : Contents) (client : Client) → Stands kept client → kept.rest.has_ended ≡ true
    → Stands kept (unless_ended does client)
ended_does does kept client stands ended =
    subst (λ is. Stands kept (if is then client else does client)) (sym (sym (ended_as_told kept client stands) ∙ ended)) stands

-- ---- the state after a packet

pub still_opening : (after : Client) → is_open after ≡ false → Opening ≡ phase_after Opening after
still_opening after closed = ap (λ is. if is then Open else Opening) (sym closed)

pub now_open : (after : Client) → is_open after ≡ true → Open ≡ phase_after Opening after
now_open after opened = ap (λ is. if is then Open else Opening) (sym opened)

pub still_open : (after : Client) → after.has_ended ≡ false → Open ≡ phase_after Open after
still_open after living = ap (λ is. if is then Ended else Open) (sym living)

pub now_ended : (after : Client) → after.has_ended ≡ true → Ended ≡ phase_after Open after
now_ended after ended = ap (λ is. if is then Ended else Open) (sym ended)
