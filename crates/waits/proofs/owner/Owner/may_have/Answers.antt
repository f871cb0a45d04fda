use Rattle.std.proofs.Common.{◌≡◌, subst}
use Rattle.std.proofs.lemmas.Bool.{not-false}
use Rattle.waits.specs.Stamps.{tally}
use Rattle.waits.specs.Wanted.{is_wanted}
use Rattle.waits.specs.Parts.{Part}
use Rattle.waits.proofs.Asked.{none_from}
use Rattle.waits.proofs.owner.Owner.may_have.Goals as goal

pub returns-then-may_have : goal.returns-then-may_have
returns-then-may_have c = λ none.
    subst (λ (part : Part). tally (is_wanted c.args.wanted.now) part.jobs ≡ 0) c.self.view_is
    (none_from (is_wanted c.args.wanted.now) c.least_stamp.result c.self.inside.jobs c.least_stamp.ensures (c.are_before.ensures (not-false c.are_before.result none)))
