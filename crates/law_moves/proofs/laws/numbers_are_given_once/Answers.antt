use Rattle.law_moves.proofs.AfterAll.{kept_if_reached}
use Rattle.law_moves.proofs.Rising.{numbers_rise}
use Rattle.law_moves.proofs.Given.{one_call, never_a_name, any_notice, any_result}
use Rattle.law_moves.proofs.laws.numbers_are_given_once.Goals as goal

pub returns : goal.returns
returns c =
    record {
      rising = numbers_rise;
      once = λ w one other reached. one_call (kept_if_reached w reached) one other;
      no_name = λ w message reached. never_a_name (kept_if_reached w reached) message;
      any_result = λ w unique message reply reached. any_result (kept_if_reached w reached) unique message reply;
      any_notice = λ w unique message code reached. any_notice (kept_if_reached w reached) unique message code;
    }
