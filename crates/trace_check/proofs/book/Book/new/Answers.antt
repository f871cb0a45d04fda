use Rattle.trace_check.proofs.Lookups.{is_book}
use Rattle.trace_check.proofs.book.Book.new.Goals as goal

pub returns-clause-tables : goal.returns-clause-tables
returns-clause-tables c =
    is_book
    (record {
      facts = c.args.facts;
      bodies = c.in_ok-bodies.bodies;
      states = c.in_ok-states.states;
      names = c.in_ok-names.names;
      calls = c.in_ok-calls.calls;
      made = c.in_ok-made.made;
      left = c.in_ok-left.left;
      closed = c.in_ok-closed.closed;
      gone = c.in_ok-gone.gone;
    })
    c.as_slice-said.result.now c.as_slice-said.ensures.value c.in_ok-bodies.ensures c.in_ok-states.ensures c.in_ok-names.ensures c.in_ok-calls.ensures c.in_ok-made.ensures c.in_ok-left.ensures c.in_ok-closed.ensures c.in_ok-gone.ensures
