use Rattle.std.proofs.Common.{subst}
use Rattle.waits.specs.declared.stamped.Stamped.{Stamped}
use Rattle.waits.specs.Jobs.{is_call}
use Rattle.waits.specs.Parts.{all_of}
use Rattle.waits.specs.Kept.{Kept, IsFirstOf}
use Rattle.waits.proofs.Lent.{first_out}
use Rattle.waits.proofs.owners.Owners.take_call.Goals as goal

pub returns-clause-found : goal.returns-clause-found
returns-clause-found c =
    let test = λ (x : Stamped). is_call c.args.key c.args.session c.args.number x.one in
    let out = first_out test c.self.inside.list.items c.take_out.new.list.items c.in_ok-place.place c.take_out.result c.in_ok-place.ensures.found c.take_out.ensures.out in
    (out.0, out.1, subst (λ (kept : Kept). IsFirstOf test out.0 (all_of c.take_out.new.list.items) kept.jobs) c.self.view_is out.2)
