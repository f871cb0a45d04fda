use Rattle.service_tl.proofs.Found.{body_fits, fits_writable}
use Rattle.service_tl.proofs.laws.items_fit.Goals as goal

pub returns-clause-fits : goal.returns-clause-fits
returns-clause-fits c = body_fits c.written_again.ensures.read c.exact_reading.ensures.taken

pub returns-clause-writable : goal.returns-clause-writable
returns-clause-writable c = fits_writable
