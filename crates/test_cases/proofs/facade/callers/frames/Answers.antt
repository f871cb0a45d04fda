use Rattle.test_cases.proofs.facade.callers.frames.Goals as goal

pub put-requires : goal.put-requires
put-requires c = c.fits.ensures.fits c.if-not-fits.false c.args.wire.now.form
