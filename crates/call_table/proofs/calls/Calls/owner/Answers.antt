use Rattle.std.proofs.Common.{◌≡◌, ◌∙◌, None, Some, ap, subst}
use Rattle.std.specs.Prelude.{option_map}
use Rattle.call_table.specs.Table.{Sent, IsGiven, call_no}
use Rattle.call_table.specs.Kept.{Contents, state_in, owner_in}
use Rattle.call_table.proofs.IndexLemmas.{found_is_first}
use Rattle.call_table.proofs.StandsLemmas.{first_stands}
use Rattle.call_table.proofs.HeldLemmas.{owner_told}
use Rattle.call_table.proofs.calls.Calls.owner.Goals as goal

pub returns-in_err-place-clause-kept : goal.returns-in_err-place-clause-kept
returns-in_err-place-clause-kept c =
    c.from_residual.ensures
    ∙ (ap (option_map call_no) (found_is_first c.self.inside.rows.items c.self.inside.names.items c.args.number None c.self.invariant.0.indexed c.in_err-place.ensures)
    ∙ ap (λ (kept : Contents). owner_in c.args.number kept.rows) c.self.view_is)

pub returns-in_err-place-clause-owner : goal.returns-in_err-place-clause-owner
returns-in_err-place-clause-owner c = λ table stands. returns-in_err-place-clause-kept c ∙ ap (option_map call_no) (first_stands c.args.number c.args.self.now table stands)

pub returns-clause-kept : goal.returns-clause-kept
returns-clause-kept c =
    ap (option_map call_no) (found_is_first c.self.inside.rows.items c.self.inside.names.items c.args.number (Some c.in_ok-place.place) c.self.invariant.0.indexed c.in_ok-place.ensures)
    ∙ ap (λ (kept : Contents). owner_in c.args.number kept.rows) c.self.view_is

pub returns-clause-owner : goal.returns-clause-owner
returns-clause-owner c = λ table stands. returns-clause-kept c ∙ ap (option_map call_no) (first_stands c.args.number c.args.self.now table stands)

pub returns-in_err-place-clause-given : goal.returns-in_err-place-clause-given
returns-in_err-place-clause-given c = rw c.from_residual.ensures tt

pub returns-in_err-place-clause-sent : goal.returns-in_err-place-clause-sent
returns-in_err-place-clause-sent c = rw c.from_residual.ensures tt

pub returns-clause-given : goal.returns-clause-given
returns-clause-given c = subst (λ (kept : Contents). IsGiven (call_no c.in_ok-place.place) kept.rows) c.self.view_is (owner_told c.self.inside.rows.items c.self.inside.names.items c.args.number c.in_ok-place.place c.self.invariant.0.indexed c.in_ok-place.ensures).given

pub returns-clause-sent : goal.returns-clause-sent
returns-clause-sent c = subst (λ (kept : Contents). state_in (call_no c.in_ok-place.place) kept.rows ≡ Some Sent) c.self.view_is (owner_told c.self.inside.rows.items c.self.inside.names.items c.args.number c.in_ok-place.place c.self.invariant.0.indexed c.in_ok-place.ensures).one
