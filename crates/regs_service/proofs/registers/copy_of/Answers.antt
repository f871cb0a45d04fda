use Rattle.std.proofs.lemmas.Slice.Zip.{AllZip-long}
use Rattle.std.proofs.lemmas.List.Elements.{same_from_all_zip}
use Rattle.regs_service.proofs.MapLemmas.{copied}
use Rattle.regs_service.proofs.registers.copy_of.Goals as goal

pub returns-clause-same : goal.returns-clause-same
returns-clause-same c = copied _ _ (λ x y h. same_from_all_zip _ _ _ h.0 (λ _ _ e. e)) (λ _ _ e. e) c.args.sums.now.entries c.in_ok-clone.field-0.entries c.in_ok-clone.ensures.cases

pub returns-clause-count : goal.returns-clause-count
returns-clause-count c = AllZip-long _ c.args.sums.now.entries c.in_ok-clone.field-0.entries c.in_ok-clone.ensures.cases
