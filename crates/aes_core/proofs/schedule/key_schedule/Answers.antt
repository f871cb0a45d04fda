use Rattle.std.proofs.Common.{ℕ, ◌+◌, ap, arith, ◌∙◌}
use Rattle.std.proofs.lemmas.List.{take_at, length-append, length-set}
use Rattle.aes_core.specs.KeySchedule.{expanded}
use Rattle.aes_core.specs.Words.{bytes_of}
use Rattle.aes_core.proofs.ScheduleLaws.{one_more_word, whole_schedule}
use Rattle.aes_core.proofs.schedule.key_schedule.Goals as goal

pub words-init : goal.words-init
unfolding expanded
words-init c = (
  length-append c.copy_from_slice.new.self _ ∙ ap (λ (n : ℕ). n + 52) c.copy_from_slice.ensures.len,
  ap bytes_of (take_at c.copy_from_slice.new.self _ 8 c.copy_from_slice.ensures.len ∙ c.copy_from_slice.ensures.after)
      ∙ c.key_words.ensures,
)

pub words-preserved : goal.words-preserved
words-preserved c = (
  length-set c.words.schedule c.words.i _ ∙ c.words.invariant.0,
  one_more_word c.args.key.now c.words.schedule c.words.i _ (omega arith) (omega arith) c.words.invariant.1 c.change.ensures,
)

pub returns : goal.returns
returns c = whole_schedule c.args.key.now c.words.schedule c.words.i (omega arith) c.words.invariant.0 c.words.invariant.1
