use Rattle.law_moves.proofs.AfterAll.{kept_if_reached}
use Rattle.law_moves.proofs.laws.what_was_not_made_is_blank.Goals as goal

pub returns : goal.returns
returns c =
    record {
      calls = λ w call reached. (kept_if_reached w reached).calls.unsubmitted call;
      servers = λ w unique reached. (kept_if_reached w reached).servers.unmade unique;
      clients = λ w client reached. (kept_if_reached w reached).clients.unmade client;
    }
