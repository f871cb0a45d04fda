use Rattle.std.proofs.Common.{◌∙◌, Err, List, ap, inl, subst, sym, ℕ}
use Rattle.mt_edge.specs.declared.whole.ReadFault.{ReadFault}
use Rattle.cmd_call.specs.Owed.{IsRead}
use Rattle.statuses.specs.Outside.{Outside}
use Rattle.cmd_pair.proofs.Checking.{halts-at-script, script-by}
use Rattle.cmd_pair.proofs.checks.script_of.Goals as goal

pub returns-in-Ok-clause-script : goal.returns-in-Ok-clause-script
returns-in-Ok-clause-script g c =
    let input : Outside g.row.S.Denot = record { told = g.S.Source.left; faults = g.S.Source.faults; before = c.args.input.now; after = c.read_all.new.source } in
    let read : IsRead input c.in-Ok.text = record { whole = c.in-Ok.ensures.whole; to_the_end = record { bytes = c.in-Ok.ensures.to_the_end; no_fault = c.in-Ok.ensures.no_fault }; short = c.in-Ok.ensures.short } in
    script-by input c.as_slice.result.now (subst (λ (text : List ℕ). IsRead input text) (sym c.as_slice.ensures.value) read) c.spelt.result c.spelt.ensures.script

pub returns-in-Ok-clause-halts : goal.returns-in-Ok-clause-halts
returns-in-Ok-clause-halts g c =
    let input : Outside g.row.S.Denot = record { told = g.S.Source.left; faults = g.S.Source.faults; before = c.args.input.now; after = c.read_all.new.source } in
    let read : IsRead input c.in-Ok.text = record { whole = c.in-Ok.ensures.whole; to_the_end = record { bytes = c.in-Ok.ensures.to_the_end; no_fault = c.in-Ok.ensures.no_fault }; short = c.in-Ok.ensures.short } in
    halts-at-script input c.as_slice.result.now (subst (λ (text : List ℕ). IsRead input text) (sym c.as_slice.ensures.value) read) c.spelt.result c.spelt.ensures.halts

pub returns-in_ok-too_long-in-Err-TooLong-clause-halts : goal.returns-in_ok-too_long-in-Err-TooLong-clause-halts
returns-in_ok-too_long-in-Err-TooLong-clause-halts g c =
    inl (c.read_all.ensures.too_long (c.in-Err-TooLong.is ∙ ap (λ (fault : ReadFault). Err fault) c.in-Err-TooLong.field-0-is), (c.in_ok-too_long-in-Err-TooLong.ensures.status, c.in_ok-too_long-in-Err-TooLong.ensures.text))

pub returns-in-Err-Failed-clause-halts : goal.returns-in-Err-Failed-clause-halts
returns-in-Err-Failed-clause-halts g c = c.read_all.ensures.failed (c.in-Err-Failed.is ∙ ap (λ (fault : ReadFault). Err fault) c.in-Err-Failed.field-0-is)
