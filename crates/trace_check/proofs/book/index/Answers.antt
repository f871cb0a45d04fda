use Rattle.std.proofs.Common.{◌≡◌, ◌∙◌, Option, List, length, map, take, ap, subst, arith}
use Rattle.std.proofs.Math.Seq.{take-length}
use Rattle.std.proofs.lemmas.List.{length-map}
use Rattle.trace_check.specs.declared.numbered.Numbered.{Numbered}
use Rattle.trace_check.specs.Indexes.{Indexes}
use Rattle.trace_check.specs.Keys.{key_of}
use Rattle.trace_check.proofs.Lookups.{index_more}
use Rattle.trace_check.proofs.book.index.Goals as goal

pub loop-place-preserved : goal.loop-place-preserved
loop-place-preserved c =
    index_more c.args.by c.args.facts.now c.loop-place.table.rows c.note.new.self.rows c.loop-place.place c.key_at-key.result (omega arith) c.key_at-key.ensures c.loop-place.invariant c.in_ok-note.ensures

pub returns : goal.returns
returns c =
    let keys = map (key_of c.args.by) c.args.facts.now in
    let end : c.loop-place.place ≡ length keys = omega (arith, length-map c.args.facts.now (key_of c.args.by)) in
    subst (λ (ks : List (Option Numbered)). Indexes c.loop-place.table.rows ks) (ap (λ n. take n keys) end ∙ take-length keys) c.loop-place.invariant
