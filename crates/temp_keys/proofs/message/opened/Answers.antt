use Rattle.temp_keys.specs.Messages.{plain_text}
use Rattle.temp_keys.proofs.SealLemmas.{opened-found, opened-none, said-plain}
use Rattle.temp_keys.proofs.message.opened.Goals as goal

pub returns-in_err-plain_of-clause-none : goal.returns-in_err-plain_of-clause-none
returns-in_err-plain_of-clause-none c = rw c.from_residual.ensures (λ number inner said.
    c.in_err-plain_of.ensures.none (plain_text said.random number inner said.padding) (said-plain c.seal_laws.ensures c.args.key.now c.args.message.now number inner said) said.sealed)

pub returns-clause-found : goal.returns-clause-found
returns-clause-found c =
    opened-found c.seal_laws.ensures c.args.key.now c.args.message.now c.in_ok-plain_of.field-0 c.read.result c.in_ok-plain_of.ensures.found c.read.ensures.bytes c.read.ensures.found c.read.ensures.fits

pub returns-clause-none : goal.returns-clause-none
returns-clause-none c =
    opened-none c.seal_laws.ensures c.args.key.now c.args.message.now c.in_ok-plain_of.field-0 c.read.result c.in_ok-plain_of.ensures.found c.read.ensures.bytes c.read.ensures.none
