use Rattle.std.proofs.Common.{◌∙◌, sym}
use Rattle.std.specs.List.{list_any}
use Rattle.waits.specs.Jobs.{is_call}
use Rattle.waits.specs.Stamps.{queue_of}
use Rattle.waits.proofs.Order.{any_queue}
use Rattle.waits.proofs.View.{viewed}
use Rattle.waits.proofs.jobs.Jobs.has.Goals as goal

pub returns : goal.returns
returns c =
    let xs = c.self.inside.owners.jobs in
    let test = is_call c.args.key c.args.session c.args.number in
    c.has.ensures ∙ (sym (any_queue test xs) ∙ sym (viewed (list_any test) (queue_of xs) c.self.inside.room c.args.self.now c.self.view_is))
