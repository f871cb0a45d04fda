use Rattle.std.proofs.Common.{◌∙◌, ap, eqb, unwrap_or}
use Rattle.std.specs.List.{position}
use Rattle.outbox.specs.declared.kept.Kept.{Kept}
use Rattle.outbox.proofs.RemoveLemmas.{unwrapped_position}
use Rattle.outbox.proofs.rows.place_of_number.Goals as goal

pub returns-else-rises : goal.returns-else-rises
returns-else-rises c =
    let replies = c.args.replies.now in
    let test = λ (kept : Kept). eqb kept.number c.args.number in
    c.unwrap_or.ensures ∙ (ap (λ place. unwrap_or place c.len.result) c.looked_for.ensures ∙ (ap (λ count. unwrap_or (position test replies.items) count) (c.len.ensures ∙ replies.ok.0) ∙ unwrapped_position test replies.items))
