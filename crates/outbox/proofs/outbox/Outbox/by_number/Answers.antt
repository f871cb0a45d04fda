use Rattle.std.proofs.Common.{◌≡◌, ◌∙◌, sym, ap, eqb}
use Rattle.std.specs.List.{slice_get}
use Rattle.std.specs.Option.{option_copied}
use Rattle.std.proofs.lemmas.List.Folds.{find_at}
use Rattle.outbox.specs.declared.kept.Kept.{Kept}
use Rattle.outbox.proofs.outbox.Outbox.by_number.Goals as goal

pub returns : goal.returns
returns c =
    let replies = c.self.inside.replies.items in
    let test = λ (kept : Kept). eqb kept.number c.args.number in
    let got : option_copied c.at.result ≡ slice_get replies c.place_of_number.result = rw (← c.self.view_is) at c.at.ensures in
    rw (← c.self.view_is) (got ∙ (ap (λ k. slice_get replies k) c.place_of_number.ensures ∙ sym (find_at test replies)))
