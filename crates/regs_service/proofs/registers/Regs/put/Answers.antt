use Rattle.std.proofs.Common.{◌∙◌, ap, length}
use Rattle.regs_service.specs.Kept.{sums_of}
use Rattle.regs_service.specs.Registers as registers
use Rattle.regs_service.proofs.MapLemmas.{inserted, still_few}
use Rattle.regs_service.proofs.registers.Regs.put.Goals as goal

pub returns-clause-put : goal.returns-clause-put
returns-clause-put c =
    ap sums_of c.in_ok-insert.ensures.entries ∙ inserted c.in_ok-key.key c.args.sum c.self.inside.sums.entries
    ∙ ap (λ sums. registers.with_sum sums c.in_ok-key.key.items c.args.sum) c.self.view_is
    ∙ ap (λ name. registers.with_sum c.args.self.now name c.args.sum) c.in_ok-key.ensures.items

pub invariant_of-self-2 : goal.invariant_of-self-2
invariant_of-self-2 c =
    still_few c.args.name.now c.in_ok-key.key c.self.inside.sums.entries (length c.insert.new.self.entries) c.in_ok-insert.field-0 c.in_ok-key.ensures.items c.self.invariant
    (ap (λ sums. registers.has_place sums c.args.name.now) c.self.view_is ∙ c.requires) c.in_ok-insert.ensures.old c.in_ok-insert.ensures.len
