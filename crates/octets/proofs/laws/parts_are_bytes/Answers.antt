use Rattle.octets.proofs.Members.{bytes_front, bytes_back}
use Rattle.octets.proofs.laws.parts_are_bytes.Goals as goal

pub returns-clause-front : goal.returns-clause-front
returns-clause-front c = bytes_front

pub returns-clause-back : goal.returns-clause-back
returns-clause-back c = bytes_back
