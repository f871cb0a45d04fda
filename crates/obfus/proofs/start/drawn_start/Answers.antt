use Rattle.std.proofs.Common.{List, ℕ, ap, ◌∙◌}
use Rattle.obfus.specs.Starts.{first_mended, marked, next_mended, start_of}
use Rattle.obfus.proofs.start.drawn_start.Goals as goal

pub returns-clause-start : goal.returns-clause-start
unfolding start_of
returns-clause-start g c =
    c.mark.ensures
    ∙ ap (λ (l : List ℕ). marked c.args.tag c.args.dc l)
    (c.mend.ensures ∙ ap (λ (l : List ℕ). next_mended (first_mended l)) c.draw_bytes.ensures.bytes)
