use Rattle.secret_relay.proofs.Outcomes.{told, up_goes_or_ends, one_up_end, down_goes_or_ends, one_down_end}
use Rattle.secret_relay.proofs.laws.one_outcome.Goals as goal

pub returns-clause-text : goal.returns-clause-text
returns-clause-text c = λ form secret upwards downwards story plain.
    told (record {
      stream = c.one_reading.ensures.stream;
      apart = c.one_reading.ensures.apart;
      fault = c.one_reading.ensures.fault;
      pair = c.one_answer.ensures.pair;
      not_both = c.one_answer.ensures.not_both;
      one_tag = c.one_answer.ensures.fault;
    }) form plain secret story upwards downwards

pub returns-clause-up_apart : goal.returns-clause-up_apart
returns-clause-up_apart c = λ form secret upwards downwards story fault plain.
    up_goes_or_ends (record {
      stream = c.one_reading.ensures.stream;
      apart = c.one_reading.ensures.apart;
      fault = c.one_reading.ensures.fault;
      pair = c.one_answer.ensures.pair;
      not_both = c.one_answer.ensures.not_both;
      one_tag = c.one_answer.ensures.fault;
    }) form plain secret story upwards downwards fault

pub returns-clause-up_end : goal.returns-clause-up_end
returns-clause-up_end c = λ form secret upwards downwards story fault other plain.
    one_up_end (record {
      stream = c.one_reading.ensures.stream;
      apart = c.one_reading.ensures.apart;
      fault = c.one_reading.ensures.fault;
      pair = c.one_answer.ensures.pair;
      not_both = c.one_answer.ensures.not_both;
      one_tag = c.one_answer.ensures.fault;
    }) form plain secret story upwards downwards fault other

pub returns-clause-down_apart : goal.returns-clause-down_apart
returns-clause-down_apart c = λ form secret upwards downwards story fault plain.
    down_goes_or_ends (record {
      stream = c.one_reading.ensures.stream;
      apart = c.one_reading.ensures.apart;
      fault = c.one_reading.ensures.fault;
      pair = c.one_answer.ensures.pair;
      not_both = c.one_answer.ensures.not_both;
      one_tag = c.one_answer.ensures.fault;
    }) form plain secret story upwards downwards fault

pub returns-clause-down_end : goal.returns-clause-down_end
returns-clause-down_end c = λ form secret upwards downwards story fault other plain.
    one_down_end (record {
      stream = c.one_reading.ensures.stream;
      apart = c.one_reading.ensures.apart;
      fault = c.one_reading.ensures.fault;
      pair = c.one_answer.ensures.pair;
      not_both = c.one_answer.ensures.not_both;
      one_tag = c.one_answer.ensures.fault;
    }) form plain secret story upwards downwards fault other
