use Rattle.law_moves.proofs.AfterAll.{kept_if_reached}
use Rattle.law_moves.proofs.Apart.{never_again}
use Rattle.law_moves.proofs.laws.names_are_apart.Goals as goal

pub returns : goal.returns
returns c =
    record {
      of_one = λ w one other name same reached among also session number.
          (kept_if_reached w reached).names.of_one one other name same among also (session, number);
      newest = λ w call name same older reached is among session number.
          never_again name same older (w.calls call).names is ((kept_if_reached w reached).names.apart call) among (session, number);
      sent = λ w call name reached. (kept_if_reached w reached).names.sent call name;
      of_name = λ w call name reached. (kept_if_reached w reached).owners.of_name call name;
      of_message = λ w message reached. (kept_if_reached w reached).owners.of_message message;
      one_owner = λ w one other session reached. (kept_if_reached w reached).owners.once one other session;
    }
