use Rattle.std.proofs.lemmas.Bool.{iff_false}
use Rattle.std.specs.Fmt.{decimal}
use Rattle.auth_keys.proofs.WordLemmas.{says-blank, temp-only, temp-words, not_cut}
use Rattle.auth_keys.proofs.reading.key_of.Goals as goal

pub returns-in_err-word-clause-none : goal.returns-in_err-word-clause-none
returns-in_err-word-clause-none c = rw c.from_residual.ensures (λ entry says. says-blank c.args.line.now entry c.in_err-word.ensures.none says)

pub returns-then-not-is_word-clause-none : goal.returns-then-not-is_word-clause-none
returns-then-not-is_word-clause-none c = λ entry says.
    let temp = temp-only c.args.line.now c.in_ok-word.word.now c.in_ok-word.rest.now entry c.in_ok-word.ensures.found (λ perm. iff_false c.is_word.ensures c.if-is_word.false perm) says in
    iff_false c.is_word-2.ensures c.if-not-is_word.true temp.0

pub returns-in_err-expires-clause-none : goal.returns-in_err-expires-clause-none
returns-in_err-expires-clause-none c = rw c.from_residual-in_err-expires.ensures (λ entry says.
    let temp = temp-only c.args.line.now c.in_ok-word.word.now c.in_ok-word.rest.now entry c.in_ok-word.ensures.found (λ perm. iff_false c.is_word.ensures c.if-is_word.false perm) says in
    not_cut c.in_ok-word.rest.now (decimal temp.1.expires) temp.1.digits c.in_err-expires.ensures.none temp.1.cut)

pub returns-in_err-expires-2-clause-none : goal.returns-in_err-expires-2-clause-none
returns-in_err-expires-2-clause-none c = rw c.from_residual-in_err-expires-2.ensures (λ entry says.
    let temp = temp-only c.args.line.now c.in_ok-word.word.now c.in_ok-word.rest.now entry c.in_ok-word.ensures.found (λ perm. iff_false c.is_word.ensures c.if-is_word.false perm) says in
    let words = temp-words c.in_ok-word.rest.now c.in_ok-expires.expires.now c.in_ok-expires.digits.now entry.key c.in_ok-expires.ensures.found temp.1 in
    c.in_err-expires-2.ensures.none temp.1.expires temp.1.from_one temp.1.to_latest words.0)

pub returns-in_err-key-2-clause-none : goal.returns-in_err-key-2-clause-none
returns-in_err-key-2-clause-none c = rw c.from_residual-in_err-key-2.ensures (λ entry says.
    let temp = temp-only c.args.line.now c.in_ok-word.word.now c.in_ok-word.rest.now entry c.in_ok-word.ensures.found (λ perm. iff_false c.is_word.ensures c.if-is_word.false perm) says in
    let words = temp-words c.in_ok-word.rest.now c.in_ok-expires.expires.now c.in_ok-expires.digits.now entry.key c.in_ok-expires.ensures.found temp.1 in
    c.in_err-key-2.ensures.none entry.key words.1)
