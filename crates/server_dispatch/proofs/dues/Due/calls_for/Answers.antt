use Rattle.std.proofs.Common.{ℕ, Bool, List, subst}
use Rattle.std.specs.Prelude.{◌||◌}
use Rattle.outbox.specs.declared.kept.Kept.{Kept}
use Rattle.server_session.specs.Unsaid.{IsCalled, is_among, is_to}
use Rattle.server_dispatch.proofs.dues.Due.calls_for.Goals as goal

pub returns : goal.returns
returns c = λ which is.
    let own : Kept → Bool = λ kept. is_to c.args.self.now.number kept || which kept in
    subst (λ (numbers : List ℕ). IsCalled (λ kept. is_among numbers kept || own kept) c.args.standing.now c.calls_for_numbers.result) c.asked.ensures
    (c.calls_for_numbers.ensures own (c.calls_for-called.ensures which is))
