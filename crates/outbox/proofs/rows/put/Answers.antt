use Rattle.std.proofs.Common.{◌≡◌, ◌∙◌, insert, ap}
use Rattle.outbox.proofs.PlaceLemmas.{insert_at_place}
use Rattle.outbox.proofs.OrderLemmas.{answered_call}
use Rattle.outbox.proofs.rows.put.Goals as goal

pub returns-clause-put : goal.returns-clause-put
returns-clause-put c =
    let items = c.args.calls.now.items in
    let done : c.insert-placed.new.self.items ≡ insert items c.place_of-place.result c.args.entry = rw c.unwrap.ensures at c.insert-placed.ensures.items in
    done ∙ (ap (λ k. insert items k c.args.entry) c.place_of-place.ensures.place ∙ insert_at_place answered_call c.args.entry items)
