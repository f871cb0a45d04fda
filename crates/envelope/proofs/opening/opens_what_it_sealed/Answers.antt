use Rattle.envelope.proofs.Openings as openings
use Rattle.envelope.proofs.opening.opens_what_it_sealed.Goals as goal

pub returns : goal.returns
returns g c = openings.opens_what_it_sealed g.C.Cipher.lock c.lawful.ensures c.byte_laws.ensures
