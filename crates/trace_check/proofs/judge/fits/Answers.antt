use Rattle.std.proofs.Common.{sym}
use Rattle.trace_check.proofs.Judging.{yes}
use Rattle.trace_check.proofs.Tests.{fits_at}
use Rattle.trace_check.proofs.judge.fits.Goals as goal

pub returns-in-Some : goal.returns-in-Some
returns-in-Some c = fits_at c.args.book.now.facts.items c.args.place c.in-Some.fact.now (sym c.in-Some.ensures) c.may_stand.ensures

pub returns-in-None : goal.returns-in-None
returns-in-None c = yes (λ fact at. let none = c.in-None.ensures in absurd cc)
