use Rattle.std.proofs.Common.{refl, arith, sym, ap, ◌∙◌}
use Rattle.std.proofs.lemmas.List.{length-set, take_all}
use Rattle.aes_core.specs.Words.{bytes_of}
use Rattle.aes_core.proofs.ScheduleLaws.{one_more_key_word}
use Rattle.aes_core.proofs.schedule.key_words.Goals as goal

pub words-init : goal.words-init
words-init c = (refl, refl)

pub words-preserved : goal.words-preserved
words-preserved c = (
  length-set c.words.words c.words.i _ ∙ c.words.invariant.0,
  one_more_key_word c.args.key.now c.words.words c.words.i _ (omega arith) c.words.invariant.1 c.word_at.ensures,
)

pub returns : goal.returns
returns c =
    ap bytes_of (sym (take_all c.words.i c.words.words (omega arith))) ∙ c.words.invariant.1
    ∙ take_all _ c.args.key.now (omega (arith, c.told-key))
