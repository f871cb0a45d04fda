use Rattle.cmd_relay.proofs.Ends.{one_refused, one_relayed, relayed_not_refused}
use Rattle.cmd_relay.proofs.laws.one_answer.Goals as goal

pub returns-clause-relayed : goal.returns-clause-relayed
returns-clause-relayed c = λ form secret text due other plain.
    one_relayed (record {
      text = c.one_outcome.ensures.text;
      up_apart = c.one_outcome.ensures.up_apart;
      down_apart = c.one_outcome.ensures.down_apart;
      up_end = c.one_outcome.ensures.up_end;
      down_end = c.one_outcome.ensures.down_end;
    }) c.one_reading.ensures.pieces form plain secret text due other

pub returns-clause-refused : goal.returns-clause-refused
returns-clause-refused c = λ form secret text due other plain.
    one_refused (record {
      text = c.one_outcome.ensures.text;
      up_apart = c.one_outcome.ensures.up_apart;
      down_apart = c.one_outcome.ensures.down_apart;
      up_end = c.one_outcome.ensures.up_end;
      down_end = c.one_outcome.ensures.down_end;
    }) c.one_reading.ensures.pieces c.one_reading.ensures.not_both c.one_reading.ensures.bad_line form plain secret text due other

pub returns-clause-not_both : goal.returns-clause-not_both
returns-clause-not_both c = λ form secret text due other plain.
    relayed_not_refused (record {
      text = c.one_outcome.ensures.text;
      up_apart = c.one_outcome.ensures.up_apart;
      down_apart = c.one_outcome.ensures.down_apart;
      up_end = c.one_outcome.ensures.up_end;
      down_end = c.one_outcome.ensures.down_end;
    }) c.one_reading.ensures.pieces c.one_reading.ensures.not_both form plain secret text due other
