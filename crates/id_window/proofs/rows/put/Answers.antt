use Rattle.std.proofs.Common.{◌≡◌, ◌∙◌, insert, map, ap}
use Rattle.id_window.specs.Places.{place}
use Rattle.id_window.proofs.PlaceLemmas.{insert_at_place}
use Rattle.id_window.proofs.rows.put.Goals as goal

pub returns-clause-put : goal.returns-clause-put
returns-clause-put g c =
    let items = c.args.entries.now.items in
    let done : c.insert-placed.new.self.items ≡ insert items c.place_of-place.result c.args.entry = rw c.unwrap.ensures at c.insert-placed.ensures.items in
    let at : c.place_of-place.result ≡ place (g.T.Numbered.number_of c.args.entry) (map g.T.Numbered.number_of items) = c.place_of-place.ensures.place ∙ ap (λ n. place n (map g.T.Numbered.number_of items)) c.number.ensures in
    done ∙ (ap (λ k. insert items k c.args.entry) at ∙ insert_at_place g.T.Numbered.number_of c.args.entry items)
