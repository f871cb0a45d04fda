use Rattle.std.proofs.Common.{ℕ, ap, ◌∙◌}
use Rattle.crc_core.specs.Crc32.{fed, start}
use Rattle.crc_core.proofs.TextLaws.{fed-append}
use Rattle.crc_core.proofs.Crc.push.Goals as goal

pub returns-clause-behind : goal.returns-clause-behind
returns-clause-behind c = λ before same.
    c.fed-self-inside.ensures
    ∙ ap (λ (r : ℕ). fed r c.args.bytes.now) (c.self.view_is ∙ same)
    ∙ fed-append start before c.args.bytes.now
