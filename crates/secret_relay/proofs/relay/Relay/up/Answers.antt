use Rattle.std.proofs.Common.{◌≡◌, List, ℕ, subst}
use Rattle.std.specs.Prelude.{◌⊎◌, Ok, Err}
use Rattle.secret_relay.specs.Kept.{Kept, IsSound}
use Rattle.secret_relay.specs.Stories.{Story, Relayed, UpEnds, with_up}
use Rattle.secret_relay.specs.Standing.{Stands}
use Rattle.secret_relay.specs.declared.fault.RelayFault.{RelayFault}
use Rattle.secret_relay.specs.declared.fault.RelayFault.TheVariants as faults
use Rattle.secret_relay.proofs.Phases.{kept_is, kept_of, sound_is, up_goes_alone, up_ends_alone, up_goes_at, up_ends_at}
use Rattle.secret_relay.proofs.relay.Relay.up.Goals as goal

pub returns-clause-goes_on : goal.returns-clause-goes_on
returns-clause-goes_on c =
    let is : kept_of c.self.inside.form c.self.inside.secret c.replace-phase.result ≡ c.args.self.now =
    kept_is c.self.inside.form c.self.inside.secret c.replace-phase.result c.self.inside.phase c.args.self.now c.replace-phase.ensures.value c.self.view_is in
    up_goes_at c.self.inside.form c.self.inside.secret c.replace-phase.result c.up-phase.result.0 c.args.piece.now c.args.out.now c.up-phase.new.out
    c.up-phase.result.1 c.args.self.now is c.up-phase.ensures.goes_on

pub returns-clause-ends : goal.returns-clause-ends
returns-clause-ends c =
    let is : kept_of c.self.inside.form c.self.inside.secret c.replace-phase.result ≡ c.args.self.now =
    kept_is c.self.inside.form c.self.inside.secret c.replace-phase.result c.self.inside.phase c.args.self.now c.replace-phase.ensures.value c.self.view_is in
    up_ends_at c.self.inside.form c.self.inside.secret c.replace-phase.result c.up-phase.result.0 c.args.piece.now c.args.out.now c.up-phase.new.out
    c.up-phase.result.1 c.args.self.now is c.up-phase.ensures.ends

pub returns-clause-only_goes_on : goal.returns-clause-only_goes_on
returns-clause-only_goes_on c =
    let is : kept_of c.self.inside.form c.self.inside.secret c.replace-phase.result ≡ c.args.self.now =
    kept_is c.self.inside.form c.self.inside.secret c.replace-phase.result c.self.inside.phase c.args.self.now c.replace-phase.ensures.value c.self.view_is in
    let sound : IsSound c.self.inside.form c.replace-phase.result =
    sound_is c.self.inside.form c.replace-phase.result c.self.inside.phase c.replace-phase.ensures.value c.self.invariant in
    subst (λ (k : Kept). (story : Story) (more : List ℕ) → Stands k story → Relayed k.form k.secret (with_up c.args.piece.now more story)
    → (c.up-phase.result.1 ≡ Ok tt) ⊎ (c.up-phase.result.1 ≡ Err faults.Memory)) is
    (up_goes_alone c.self.inside.form c.self.inside.secret c.replace-phase.result c.up-phase.result.0 sound c.args.piece.now c.args.out.now c.up-phase.new.out
    c.up-phase.result.1 c.one_outcome.ensures.up_apart c.up-phase.ensures.never_early c.up-phase.ensures.ends)

pub returns-clause-only_ends : goal.returns-clause-only_ends
returns-clause-only_ends c =
    let is : kept_of c.self.inside.form c.self.inside.secret c.replace-phase.result ≡ c.args.self.now =
    kept_is c.self.inside.form c.self.inside.secret c.replace-phase.result c.self.inside.phase c.args.self.now c.replace-phase.ensures.value c.self.view_is in
    let sound : IsSound c.self.inside.form c.replace-phase.result =
    sound_is c.self.inside.form c.replace-phase.result c.self.inside.phase c.replace-phase.ensures.value c.self.invariant in
    subst (λ (k : Kept). (story : Story) (more : List ℕ) (fault : RelayFault) → Stands k story → UpEnds k.form k.secret fault (with_up c.args.piece.now more story)
    → (c.up-phase.result.1 ≡ Err fault) ⊎ (c.up-phase.result.1 ≡ Err faults.Memory)) is
    (up_ends_alone c.self.inside.form c.self.inside.secret c.replace-phase.result c.up-phase.result.0 sound c.args.piece.now c.args.out.now c.up-phase.new.out
    c.up-phase.result.1 c.one_outcome.ensures.up_apart c.one_outcome.ensures.up_end c.up-phase.ensures.never_early c.up-phase.ensures.ends c.up-phase.ensures.goes_on)
