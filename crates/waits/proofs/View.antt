-- What contracts see of the jobs of a server.
use Rattle.std.proofs.Common.{◌≡◌, ℕ, List, ap, sym, subst}
use Rattle.waits.specs.declared.stamped.Stamped.{Stamped}
use Rattle.waits.specs.Jobs.{Queue}
use Rattle.waits.specs.Held.{Held}
use Rattle.waits.specs.Parts.{Part}

abbrev pub holding : Queue → ℕ → Held
holding queue room = record { jobs = queue; room = room }

pub viewed : {A : Type 0} (f : Queue → A) (queue : Queue) (room : ℕ) (held : Held) → holding queue room ≡ held → f held.jobs ≡ f queue
viewed f queue room held view = sym (ap (λ (seen : Held). f seen.jobs) view)

-- the jobs change, and the room stays
pub changed : (f : Queue → Queue) (queue new : Queue) (room : ℕ) (held : Held) → holding queue room ≡ held → new ≡ f queue → holding new room ≡ record held { jobs = f held.jobs }
changed f queue new room held view is = subst (λ (seen : Held). holding new room ≡ record seen { jobs = f seen.jobs }) view (ap (λ (jobs : Queue). holding jobs room) is)

-- ---- of the jobs of a session

abbrev pub owning : ℕ → ℕ → List Stamped → Part
owning key session jobs = record { key = key; session = session; jobs = jobs }

pub part_changed : (f : List Stamped → List Stamped) (key session : ℕ) (jobs new : List Stamped) (part : Part) → owning key session jobs ≡ part → new ≡ f jobs → owning key session new ≡ record part { jobs = f part.jobs }
part_changed f key session jobs new part view is = subst (λ (seen : Part). owning key session new ≡ record seen { jobs = f seen.jobs }) view (ap (owning key session) is)
