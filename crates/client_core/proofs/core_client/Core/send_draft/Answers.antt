use Rattle.std.proofs.Common.{◌∙◌}
use Rattle.client_core.proofs.core_client.Core.send_draft.Goals as goal

pub returns-clause-sent : goal.returns-clause-sent
returns-clause-sent g c filling is drawn any =
    c.send_filled.ensures.sent filling is.client (record {
      count = c.finish-filled.ensures.count ∙ is.messages.count;
      last = λ one alone. (c.finish-filled.ensures.number ∙ (is.messages.last one alone).0, c.finish-filled.ensures.seq ∙ (is.messages.last one alone).1);
      body = c.finish-filled.ensures.body filling.messages is.messages;
      inner = c.finish-filled.ensures.inner ∙ is.inner;
    }) drawn any
