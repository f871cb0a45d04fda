use Rattle.std.proofs.Common.{◌++◌, refl, sym, subst, List}
use Rattle.std.proofs.lemmas.Result.{err_from_is_err_and}
use Rattle.service_tl.specs.Schema.{Row, schema, calls, sessions, lists, notices, wrappers, item_in}
use Rattle.service_tl.specs.Parts.{Answers}
use Rattle.service_tl.proofs.Rows.{goes_past, finds_here, ends_here}
use Rattle.service_tl.proofs.reading.item.Goals as goal

-- the rows after each family
after_lists : List Row
after_lists = notices ++ wrappers

after_sessions : List Row
after_sessions = lists ++ after_lists

after_calls : List Row
after_calls = sessions ++ after_sessions

pub returns-in_err-item : goal.returns-in_err-item
unfolding schema after_calls after_sessions after_lists
returns-in_err-item c =
    let n = c.args.number in
    let start = c.args.reader.now in
    let all = item_in schema n start in
    let p = err_from_is_err_and c.from_residual.result c.from_residual.ensures.1 in
    rw (p.1, p.2) (ends_here all calls after_calls n start refl c.in_err-item.field-0.0 c.call_item.new.reader c.in_err-item.ensures)

pub returns-in-Some : goal.returns-in-Some
unfolding schema after_calls after_sessions after_lists
returns-in-Some c =
    let n = c.args.number in
    let start = c.args.reader.now in
    let all = item_in schema n start in
    finds_here all calls after_calls n start refl c.in_ok-item.field-0 c.in-Some.item c.call_item.new.reader c.in_ok-item.ensures c.in-Some.is

pub returns-in_err-item-2 : goal.returns-in_err-item-2
unfolding schema after_calls after_sessions after_lists
returns-in_err-item-2 c =
    let n = c.args.number in
    let start = c.args.reader.now in
    let all = item_in schema n start in
    let past1 = goes_past all calls after_calls n start refl c.in_ok-item.field-0 c.call_item.new.reader c.in_ok-item.ensures c.in_default.is in
    let p = err_from_is_err_and c.from_residual-in_err-item-2.result c.from_residual-in_err-item-2.ensures.1 in
    rw (p.1, p.2) (ends_here all sessions after_sessions n c.call_item.new.reader past1 c.in_err-item-2.field-0.0 c.session_item.new.reader c.in_err-item-2.ensures)

pub returns-in-Some-2 : goal.returns-in-Some-2
unfolding schema after_calls after_sessions after_lists
returns-in-Some-2 c =
    let n = c.args.number in
    let start = c.args.reader.now in
    let all = item_in schema n start in
    let past1 = goes_past all calls after_calls n start refl c.in_ok-item.field-0 c.call_item.new.reader c.in_ok-item.ensures c.in_default.is in
    finds_here all sessions after_sessions n c.call_item.new.reader past1 c.in_ok-item-2.field-0 c.in-Some-2.item c.session_item.new.reader c.in_ok-item-2.ensures c.in-Some-2.is

pub returns-in_err-item-3 : goal.returns-in_err-item-3
unfolding schema after_calls after_sessions after_lists
returns-in_err-item-3 c =
    let n = c.args.number in
    let start = c.args.reader.now in
    let all = item_in schema n start in
    let past1 = goes_past all calls after_calls n start refl c.in_ok-item.field-0 c.call_item.new.reader c.in_ok-item.ensures c.in_default.is in
    let past2 = goes_past all sessions after_sessions n c.call_item.new.reader past1 c.in_ok-item-2.field-0 c.session_item.new.reader c.in_ok-item-2.ensures c.in_default-2.is in
    let p = err_from_is_err_and c.from_residual-in_err-item-3.result c.from_residual-in_err-item-3.ensures.1 in
    rw (p.1, p.2) (ends_here all lists after_lists n c.session_item.new.reader past2 c.in_err-item-3.field-0.0 c.list_item.new.reader c.in_err-item-3.ensures)

pub returns-in-Some-3 : goal.returns-in-Some-3
unfolding schema after_calls after_sessions after_lists
returns-in-Some-3 c =
    let n = c.args.number in
    let start = c.args.reader.now in
    let all = item_in schema n start in
    let past1 = goes_past all calls after_calls n start refl c.in_ok-item.field-0 c.call_item.new.reader c.in_ok-item.ensures c.in_default.is in
    let past2 = goes_past all sessions after_sessions n c.call_item.new.reader past1 c.in_ok-item-2.field-0 c.session_item.new.reader c.in_ok-item-2.ensures c.in_default-2.is in
    finds_here all lists after_lists n c.session_item.new.reader past2 c.in_ok-item-3.field-0 c.in-Some-3.item c.list_item.new.reader c.in_ok-item-3.ensures c.in-Some-3.is

pub returns-in_err-item-4 : goal.returns-in_err-item-4
unfolding schema after_calls after_sessions after_lists
returns-in_err-item-4 c =
    let n = c.args.number in
    let start = c.args.reader.now in
    let all = item_in schema n start in
    let past1 = goes_past all calls after_calls n start refl c.in_ok-item.field-0 c.call_item.new.reader c.in_ok-item.ensures c.in_default.is in
    let past2 = goes_past all sessions after_sessions n c.call_item.new.reader past1 c.in_ok-item-2.field-0 c.session_item.new.reader c.in_ok-item-2.ensures c.in_default-2.is in
    let past3 = goes_past all lists after_lists n c.session_item.new.reader past2 c.in_ok-item-3.field-0 c.list_item.new.reader c.in_ok-item-3.ensures c.in_default-3.is in
    let p = err_from_is_err_and c.from_residual-in_err-item-4.result c.from_residual-in_err-item-4.ensures.1 in
    rw (p.1, p.2) (ends_here all notices wrappers n c.list_item.new.reader past3 c.in_err-item-4.field-0.0 c.notice_item.new.reader c.in_err-item-4.ensures)

pub returns-in-Some-4 : goal.returns-in-Some-4
unfolding schema after_calls after_sessions after_lists
returns-in-Some-4 c =
    let n = c.args.number in
    let start = c.args.reader.now in
    let all = item_in schema n start in
    let past1 = goes_past all calls after_calls n start refl c.in_ok-item.field-0 c.call_item.new.reader c.in_ok-item.ensures c.in_default.is in
    let past2 = goes_past all sessions after_sessions n c.call_item.new.reader past1 c.in_ok-item-2.field-0 c.session_item.new.reader c.in_ok-item-2.ensures c.in_default-2.is in
    let past3 = goes_past all lists after_lists n c.session_item.new.reader past2 c.in_ok-item-3.field-0 c.list_item.new.reader c.in_ok-item-3.ensures c.in_default-3.is in
    finds_here all notices wrappers n c.list_item.new.reader past3 c.in_ok-item-4.field-0 c.in-Some-4.item c.notice_item.new.reader c.in_ok-item-4.ensures c.in-Some-4.is

pub returns : goal.returns
unfolding schema after_calls after_sessions after_lists
returns c =
    let n = c.args.number in
    let start = c.args.reader.now in
    let all = item_in schema n start in
    let past1 = goes_past all calls after_calls n start refl c.in_ok-item.field-0 c.call_item.new.reader c.in_ok-item.ensures c.in_default.is in
    let past2 = goes_past all sessions after_sessions n c.call_item.new.reader past1 c.in_ok-item-2.field-0 c.session_item.new.reader c.in_ok-item-2.ensures c.in_default-2.is in
    let past3 = goes_past all lists after_lists n c.session_item.new.reader past2 c.in_ok-item-3.field-0 c.list_item.new.reader c.in_ok-item-3.ensures c.in_default-3.is in
    let past4 = goes_past all notices wrappers n c.list_item.new.reader past3 c.in_ok-item-4.field-0 c.notice_item.new.reader c.in_ok-item-4.ensures c.in_default-4.is in
    subst (Answers c.wrapper_item.result c.wrapper_item.new.reader) (sym past4) c.wrapper_item.ensures
