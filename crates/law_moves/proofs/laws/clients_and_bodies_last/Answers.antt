use Rattle.law_moves.proofs.Lasts.{clients_last, bodies_last}
use Rattle.law_moves.proofs.laws.clients_and_bodies_last.Goals as goal

pub returns : goal.returns
returns c =
    record {
      made = λ w moves client lawful made. (clients_last w moves client lawful made).made;
      owned = λ w moves client session lawful made. (clients_last w moves client lawful made).owned session;
      ended = λ w moves client lawful made. (clients_last w moves client lawful made).ended;
      bodies = λ w moves call lawful. bodies_last w moves call lawful;
    }
