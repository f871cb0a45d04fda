use Rattle.cmd_relay.proofs.Words.{three_words}
use Rattle.cmd_relay.proofs.line.two_words.Goals as goal

pub returns-in-Some-more-clause-others : goal.returns-in-Some-more-clause-others
returns-in-Some-more-clause-others c = λ first word h.
    three_words c.args.line.now _ _ _ _ c.in-Some.rest c.in-Some-more.field-0 c.first_word.ensures c.in-Some.is c.first_word-2.ensures c.in-Some-more.is
    first word h
