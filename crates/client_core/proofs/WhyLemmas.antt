-- Why a packet doesn't open, of one that was taken.
use Rattle.std.proofs.Common.{ℕ, List, Option}
use Rattle.auth_keys.specs.declared.ring.RingKey.{RingKey}
use Rattle.client_rules.specs.Client.{Client}
use Rattle.client_core.specs.Took.{IsDoneOpen, IsDoneOpening, IsWhy, StaysOpen, StaysOpening, TellsWhyOpen, TellsWhyOpening}
use Rattle.client_core.specs.declared.step.OpenStep.{OpenStep}
use Rattle.client_core.specs.declared.step.OpenStep.TheVariants as open_step
use Rattle.client_core.specs.declared.step.OpeningStep.{OpeningStep}
use Rattle.client_core.specs.declared.step.OpeningStep.TheVariants as opening_step
use Rattle.envelope.specs.declared.refusal.Refusal.{Refusal}
use Rattle.envelope.specs.Packet.{Lock}

pub opening_why : (lock : Lock) (ring : List RingKey) (at : ℕ) (packet : List ℕ) (step : OpeningStep) (why : Option Refusal)
    → IsDoneOpening step → IsWhy lock ring at packet why → TellsWhyOpening lock ring at packet step why
opening_why lock ring at packet (opening_step.Still now) why done is = is
opening_why lock ring at packet (opening_step.Opened now) why done is = is
opening_why lock ring at packet (opening_step.Memory now) why done is = absurd done

pub open_why : (lock : Lock) (ring : List RingKey) (at : ℕ) (packet : List ℕ) (step : OpenStep) (why : Option Refusal)
    → IsDoneOpen step → IsWhy lock ring at packet why → TellsWhyOpen lock ring at packet step why
open_why lock ring at packet (open_step.Still now) why done is = is
open_why lock ring at packet (open_step.Ended now) why done is = is
open_why lock ring at packet (open_step.Memory now) why done is = absurd done

pub opening_stays : (client : Client) (step : OpeningStep) → IsDoneOpening step → StaysOpening client step
opening_stays client (opening_step.Still now) done = tt
opening_stays client (opening_step.Opened now) done = tt
opening_stays client (opening_step.Memory now) done = absurd done

pub open_stays : (client : Client) (step : OpenStep) → IsDoneOpen step → StaysOpen client step
open_stays client (open_step.Still now) done = tt
open_stays client (open_step.Ended now) done = tt
open_stays client (open_step.Memory now) done = absurd done
