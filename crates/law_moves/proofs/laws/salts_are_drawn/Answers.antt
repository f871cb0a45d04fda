use Rattle.law_moves.proofs.AfterAll.{kept_if_reached}
use Rattle.law_moves.proofs.Given.{message_salt, new_salt}
use Rattle.law_moves.proofs.laws.salts_are_drawn.Goals as goal

pub returns : goal.returns
returns c =
    record {
      of_message = λ w message reached. message_salt (kept_if_reached w reached) message;
      new = λ w salt reached. new_salt (kept_if_reached w reached) salt;
    }
