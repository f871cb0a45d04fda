use Rattle.std.proofs.Common.{◌≡◌, Bool, Option, Some, None, if◌then◌else◌, refl, ap}
use Rattle.std.specs.Prelude.{is_some}
use Rattle.world_rules.specs.Refusals.{ForeignOpens, NoClient, NoJob, NoPacket, NotSent, NumbersSpent, Refusal, Submit, WrongState, refusal}
use Rattle.world_rules.specs.Run.{after, is_in_the_way}
use Rattle.world_rules.proofs.laws.schedules_refuse_foreign_bytes.Goals as goal

same : (found : Option Refusal) → (found ≡ Some ForeignOpens → ⊥) → is_in_the_way found ≡ is_some found
same None other = refl
same (Some NoClient) other = refl
same (Some WrongState) other = refl
same (Some (NoPacket k)) other = refl
same (Some (NoJob k)) other = refl
same (Some ForeignOpens) other = absurd (other refl)
same (Some (Submit fault)) other = refl
same (Some NumbersSpent) other = refl
same (Some NotSent) other = refl

pub returns : goal.returns
returns g c = λ setting world event other.
    ap (λ (is : Bool). if is then world else after setting world event) (same (refusal setting world event) other)
