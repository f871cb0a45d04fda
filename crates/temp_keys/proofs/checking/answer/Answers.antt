use Rattle.std.proofs.Common.{ℕ, List, sym, subst}
use Rattle.temp_keys.specs.Messages.{Says}
use Rattle.temp_keys.proofs.checking.answer.Goals as goal

pub returns-in_default-opened-clause-fault : goal.returns-in_default-opened-clause-fault
returns-in_default-opened-clause-fault c = record {
  key = c.in-Some.key.now;
  permanent = c.in-Some.ensures.found;
  none = λ number inner says. c.in_default-opened.ensures.none number inner (subst (λ (message : List ℕ). Says c.in-Some.key.now message number inner) (sym c.as_slice.ensures.value) says);
}
