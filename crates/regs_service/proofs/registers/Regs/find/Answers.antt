use Rattle.std.proofs.Common.{◌∙◌, sym, ap}
use Rattle.regs_service.specs.Registers as registers
use Rattle.regs_service.proofs.MapLemmas.{found}
use Rattle.regs_service.proofs.registers.Regs.find.Goals as goal

pub returns : goal.returns
returns c = c.copied.ensures ∙ c.get.ensures.value ∙ sym (found c.args.name.now c.self.inside.sums.entries) ∙ ap (λ sums. registers.find sums c.args.name.now) c.self.view_is
