use Rattle.auth_keys.proofs.ring.Ring.find.Goals as goal

pub returns-clause-found : goal.returns-clause-found
returns-clause-found c = (c.in_ok-entry.field-0.now.kind, c.in_ok-entry.ensures.found)
