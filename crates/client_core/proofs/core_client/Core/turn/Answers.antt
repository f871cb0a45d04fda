use Rattle.std.proofs.Common.{◌∙◌, ap, sym}
use Rattle.std.specs.Prelude.{option_map}
use Rattle.call_table.specs.Table.{at}
use Rattle.client_rules.specs.Filling.{turn_under}
use Rattle.client_core.specs.Kept.{Contents, temporary_in}
use Rattle.client_core.specs.Owed.{has_unbound}
use Rattle.client_core.proofs.OwedLemmas.{bound_where_free, first_after, free_closed, free_none, under_free, under_first, under_wrap, wrap_first}
use Rattle.client_core.proofs.core_client.Core.turn.Goals as goal

pub returns-then-not-is_open-clause-first : goal.returns-then-not-is_open-clause-first
returns-then-not-is_open-clause-first c still first =
    let kept = ap (λ (core : Contents). option_map (λ row. row.after) (at c.args.call core.calls.rows)) (sym c.self.view_is) ∙ c.after.ensures.kept in
    c.turn_after-turn.ensures.first (first_after (at c.args.call c.args.self.now.calls.rows) c.after.result kept first)

pub returns-in-None-clause-first : goal.returns-in-None-clause-first
returns-in-None-clause-first c still first =
    let kept = ap (λ (core : Contents). option_map (λ row. row.after) (at c.args.call core.calls.rows)) (sym c.self.view_is) ∙ c.after.ensures.kept in
    c.turn_after-turn.ensures.first (first_after (at c.args.call c.args.self.now.calls.rows) c.after.result kept first)

pub returns-in-Some-clause-first : goal.returns-in-Some-clause-first
returns-in-Some-clause-first c still first =
    let kept = ap (λ (core : Contents). option_map (λ row. row.after) (at c.args.call core.calls.rows)) (sym c.self.view_is) ∙ c.after.ensures.kept in
    let turn = c.turn_after-turn.ensures.first (first_after (at c.args.call c.args.self.now.calls.rows) c.after.result kept first) in
    let bound = sym (ap (λ own. has_unbound (option_map temporary_in own)) c.in-Some.is)
    ∙ (ap (λ (core : Contents). has_unbound core.rest.temporary) c.self.view_is ∙ bound_where_free c.args.self.now.rest (sym c.is_open.ensures.open ∙ c.if-not-is_open.false) still) in
    c.turn_under.ensures ∙ (under_first _ _ bound ∙ turn)

pub returns-then-not-is_open-clause-wrap : goal.returns-then-not-is_open-clause-wrap
returns-then-not-is_open-clause-wrap c wrap is first =
    let kept = ap (λ (core : Contents). option_map (λ row. row.after) (at c.args.call core.calls.rows)) (sym c.self.view_is) ∙ c.after.ensures.kept in
    let turn = c.turn_after-turn.ensures.first (first_after (at c.args.call c.args.self.now.calls.rows) c.after.result kept first) in
    wrap_first wrap (sym turn ∙ is)

pub returns-in-None-clause-wrap : goal.returns-in-None-clause-wrap
returns-in-None-clause-wrap c wrap is first =
    let kept = ap (λ (core : Contents). option_map (λ row. row.after) (at c.args.call core.calls.rows)) (sym c.self.view_is) ∙ c.after.ensures.kept in
    let turn = c.turn_after-turn.ensures.first (first_after (at c.args.call c.args.self.now.calls.rows) c.after.result kept first) in
    wrap_first wrap (sym turn ∙ is)

pub returns-in-Some-clause-wrap : goal.returns-in-Some-clause-wrap
returns-in-Some-clause-wrap c wrap is first =
    let kept = ap (λ (core : Contents). option_map (λ row. row.after) (at c.args.call core.calls.rows)) (sym c.self.view_is) ∙ c.after.ensures.kept in
    let turn = c.turn_after-turn.ensures.first (first_after (at c.args.call c.args.self.now.calls.rows) c.after.result kept first) in
    under_wrap _ wrap (ap (turn_under _) (sym turn) ∙ (sym c.turn_under.ensures ∙ is))

pub returns-then-not-is_open-clause-held : goal.returns-then-not-is_open-clause-held
returns-then-not-is_open-clause-held c wrap is = free_closed c.args.self.now.rest (sym c.is_open.ensures.open ∙ c.if-not-is_open.true)

pub returns-in-None-clause-held : goal.returns-in-None-clause-held
returns-in-None-clause-held c wrap is =
    free_none c.args.self.now.rest (ap (λ (core : Contents). has_unbound core.rest.temporary) (sym c.self.view_is) ∙ ap (λ own. has_unbound (option_map temporary_in own)) c.in-None.is)

pub returns-in-Some-clause-held : goal.returns-in-Some-clause-held
returns-in-Some-clause-held c wrap is =
    let bound = under_free _ _ wrap (sym c.turn_under.ensures ∙ is) in
    free_none c.args.self.now.rest (ap (λ (core : Contents). has_unbound core.rest.temporary) (sym c.self.view_is) ∙ (ap (λ own. has_unbound (option_map temporary_in own)) c.in-Some.is ∙ bound))
