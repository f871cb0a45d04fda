use Rattle.std.proofs.Common.{◌≡◌, List, ℕ, subst}
use Rattle.std.specs.Prelude.{◌⊎◌, Ok, Err}
use Rattle.secret_relay.specs.Kept.{Kept, IsSound}
use Rattle.secret_relay.specs.Stories.{Story, GoesOn, DownEnds, with_down}
use Rattle.secret_relay.specs.Standing.{Stands}
use Rattle.secret_relay.specs.declared.fault.RelayFault.{RelayFault}
use Rattle.secret_relay.specs.declared.fault.RelayFault.TheVariants as faults
use Rattle.secret_relay.proofs.Phases.{kept_is, kept_of, sound_is, down_goes_alone, down_ends_alone, down_early_at, down_goes_at, down_ends_at}
use Rattle.secret_relay.proofs.relay.Relay.down.Goals as goal

pub returns-clause-goes_on : goal.returns-clause-goes_on
returns-clause-goes_on c =
    let is : kept_of c.self.inside.form c.self.inside.secret c.replace-phase.result ≡ c.args.self.now =
    kept_is c.self.inside.form c.self.inside.secret c.replace-phase.result c.self.inside.phase c.args.self.now c.replace-phase.ensures.value c.self.view_is in
    down_goes_at c.self.inside.form c.self.inside.secret c.replace-phase.result c.down-phase.result.0 c.args.piece.now c.args.out.now c.down-phase.new.out
    c.down-phase.result.1 c.args.self.now is c.down-phase.ensures.goes_on

pub returns-clause-ends : goal.returns-clause-ends
returns-clause-ends c =
    let is : kept_of c.self.inside.form c.self.inside.secret c.replace-phase.result ≡ c.args.self.now =
    kept_is c.self.inside.form c.self.inside.secret c.replace-phase.result c.self.inside.phase c.args.self.now c.replace-phase.ensures.value c.self.view_is in
    down_ends_at c.self.inside.form c.self.inside.secret c.replace-phase.result c.down-phase.result.0 c.args.piece.now c.args.out.now c.down-phase.new.out
    c.down-phase.result.1 c.args.self.now is c.down-phase.ensures.ends

pub returns-clause-only_goes_on : goal.returns-clause-only_goes_on
returns-clause-only_goes_on c =
    let is : kept_of c.self.inside.form c.self.inside.secret c.replace-phase.result ≡ c.args.self.now =
    kept_is c.self.inside.form c.self.inside.secret c.replace-phase.result c.self.inside.phase c.args.self.now c.replace-phase.ensures.value c.self.view_is in
    let sound : IsSound c.self.inside.form c.replace-phase.result =
    sound_is c.self.inside.form c.replace-phase.result c.self.inside.phase c.replace-phase.ensures.value c.self.invariant in
    subst (λ (k : Kept). (story : Story) (more : List ℕ) → Stands k story → GoesOn k.form k.secret (with_down c.args.piece.now more story)
    → (c.down-phase.result.1 ≡ Ok tt) ⊎ (c.down-phase.result.1 ≡ Err faults.Memory)) is
    (down_goes_alone c.self.inside.form c.self.inside.secret c.replace-phase.result c.down-phase.result.0 sound c.args.piece.now c.args.out.now c.down-phase.new.out
    c.down-phase.result.1 c.one_outcome.ensures.down_apart c.down-phase.ensures.early c.down-phase.ensures.ends)

pub returns-clause-only_ends : goal.returns-clause-only_ends
returns-clause-only_ends c =
    let is : kept_of c.self.inside.form c.self.inside.secret c.replace-phase.result ≡ c.args.self.now =
    kept_is c.self.inside.form c.self.inside.secret c.replace-phase.result c.self.inside.phase c.args.self.now c.replace-phase.ensures.value c.self.view_is in
    let sound : IsSound c.self.inside.form c.replace-phase.result =
    sound_is c.self.inside.form c.replace-phase.result c.self.inside.phase c.replace-phase.ensures.value c.self.invariant in
    subst (λ (k : Kept). (story : Story) (more : List ℕ) (fault : RelayFault) → Stands k story → DownEnds k.form k.secret fault (with_down c.args.piece.now more story)
    → (c.down-phase.result.1 ≡ Err fault) ⊎ (c.down-phase.result.1 ≡ Err faults.Memory)) is
    (down_ends_alone c.self.inside.form c.self.inside.secret c.replace-phase.result c.down-phase.result.0 sound c.args.piece.now c.args.out.now c.down-phase.new.out
    c.down-phase.result.1 c.one_outcome.ensures.down_apart c.one_outcome.ensures.down_end c.down-phase.ensures.early c.down-phase.ensures.ends c.down-phase.ensures.goes_on)

pub returns-clause-early : goal.returns-clause-early
returns-clause-early c =
    let is : kept_of c.self.inside.form c.self.inside.secret c.replace-phase.result ≡ c.args.self.now =
    kept_is c.self.inside.form c.self.inside.secret c.replace-phase.result c.self.inside.phase c.args.self.now c.replace-phase.ensures.value c.self.view_is in
    down_early_at c.self.inside.form c.self.inside.secret c.replace-phase.result c.down-phase.result.0 c.args.piece.now c.args.out.now c.down-phase.new.out
    c.down-phase.result.1 c.args.self.now is c.down-phase.ensures.early
