use Rattle.std.proofs.Common.{◌∙◌, ap, length}
use Rattle.client_core.specs.Keys.{keys_in}
use Rattle.client_core.specs.Kept.{Contents}
use Rattle.client_core.specs.Own.{Own}
use Rattle.client_core.proofs.WhyLemmas.{open_stays, open_why}
use Rattle.client_core.proofs.OwnLemmas.{came_own}
use Rattle.client_core.proofs.open.OpenClient.receive.Goals as goal

pub returns-in-Ok-clause-opened : goal.returns-in-Ok-clause-opened
returns-in-Ok-clause-opened g c client envelope stands opens =
    c.open_or_ended.ensures.taken client _ (rw c.in-Ok.is at (c.receive-taken.ensures.opened client envelope (rw (c.deref_mut.ensures.value, c.self.view_is) stands) opens))

pub returns-in-Ok-clause-other : goal.returns-in-Ok-clause-other
returns-in-Ok-clause-other g c client stands none =
    c.open_or_ended.ensures.taken client _ (rw c.in-Ok.is at (c.receive-taken.ensures.other client (rw (c.deref_mut.ensures.value, c.self.view_is) stands) none))

pub returns-in-Ok-clause-results : goal.returns-in-Ok-clause-results
returns-in-Ok-clause-results g c client envelope call answer stands opens brings =
    c.open_or_ended.ensures.done call answer (rw c.in-Ok.is at (c.receive-taken.ensures.results client envelope call answer (rw (c.deref_mut.ensures.value, c.self.view_is) stands) opens brings))

pub returns-in-Err-clause-opened : goal.returns-in-Err-clause-opened
returns-in-Err-clause-opened g c client envelope stands opens = rw c.in-Err.is at (c.receive-taken.ensures.opened client envelope (rw (c.deref_mut.ensures.value, c.self.view_is) stands) opens)

pub returns-in-Ok-clause-count : goal.returns-in-Ok-clause-count
returns-in-Ok-clause-count g c =
    c.open_or_ended.ensures.count
    ∙ (ap (λ (own : Own). own.count) (came_own _ _ _ _ c.self.invariant.1.stands ((rw c.deref_mut.ensures.value at c.receive-taken.ensures.came) c.self.invariant.1.client c.self.invariant.1.stands)) ∙ ap (λ (contents : Contents). length contents.calls.rows) c.self.view_is)

pub returns-in-Err-clause-count : goal.returns-in-Err-clause-count
returns-in-Err-clause-count g c =
    ap (λ (own : Own). own.count) (came_own _ _ _ _ c.self.invariant.1.stands ((rw c.deref_mut.ensures.value at c.receive-taken.ensures.came) c.self.invariant.1.client c.self.invariant.1.stands)) ∙ ap (λ (contents : Contents). length contents.calls.rows) c.self.view_is

pub returns-in-Ok-clause-why : goal.returns-in-Ok-clause-why
returns-in-Ok-clause-why g c = λ client stands.
    open_why g.S.Seal.lock (g.S.Seal.keys c.args.seal.now) _ c.args.packet.now c.open_or_ended.result c.receive-taken.result.1 c.open_or_ended.ensures.not_memory
    (rw c.in-Ok.is at (c.receive-taken.ensures.why client (rw (c.deref_mut.ensures.value, c.self.view_is) stands)))

pub returns-in-Ok-clause-unchanged_on_memory : goal.returns-in-Ok-clause-unchanged_on_memory
returns-in-Ok-clause-unchanged_on_memory g c = λ client stands. open_stays client c.open_or_ended.result c.open_or_ended.ensures.not_memory

pub returns-in-Err-clause-other : goal.returns-in-Err-clause-other
returns-in-Err-clause-other g c client stands none = rw c.in-Err.is at (c.receive-taken.ensures.other client (rw (c.deref_mut.ensures.value, c.self.view_is) stands) none)

pub returns-in-Ok-clause-keys : goal.returns-in-Ok-clause-keys
returns-in-Ok-clause-keys g c =
    c.open_or_ended.ensures.keys
    ∙ (ap (λ (own : Own). own.keys) (came_own _ _ _ _ c.self.invariant.1.stands ((rw c.deref_mut.ensures.value at c.receive-taken.ensures.came) c.self.invariant.1.client c.self.invariant.1.stands)) ∙ ap keys_in c.self.view_is)

pub returns-in-Err-clause-keys : goal.returns-in-Err-clause-keys
returns-in-Err-clause-keys g c =
    ap (λ (own : Own). own.keys) (came_own _ _ _ _ c.self.invariant.1.stands ((rw c.deref_mut.ensures.value at c.receive-taken.ensures.came) c.self.invariant.1.client c.self.invariant.1.stands)) ∙ ap keys_in c.self.view_is

pub returns-in-Ok-clause-session : goal.returns-in-Ok-clause-session
returns-in-Ok-clause-session g c =
    c.open_or_ended.ensures.session
    ∙ (ap (λ (own : Own). own.session) (came_own _ _ _ _ c.self.invariant.1.stands ((rw c.deref_mut.ensures.value at c.receive-taken.ensures.came) c.self.invariant.1.client c.self.invariant.1.stands)) ∙ ap (λ (contents : Contents). contents.rest.session) c.self.view_is)

pub returns-in-Err-clause-session : goal.returns-in-Err-clause-session
returns-in-Err-clause-session g c =
    ap (λ (own : Own). own.session) (came_own _ _ _ _ c.self.invariant.1.stands ((rw c.deref_mut.ensures.value at c.receive-taken.ensures.came) c.self.invariant.1.client c.self.invariant.1.stands)) ∙ ap (λ (contents : Contents). contents.rest.session) c.self.view_is
