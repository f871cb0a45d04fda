use Rattle.std.proofs.Common.{length, ap, arith}
use Rattle.waits.specs.Parts.{all_of}
use Rattle.waits.specs.Kept.{Kept}
use Rattle.waits.proofs.Counted.{are_below, among_length}
use Rattle.waits.proofs.owners.Owners.put.Goals as goal

pub with-self-inside-requires : goal.with-self-inside-requires
with-self-inside-requires c = are_below (all_of c.self.inside.list.items) c.self.inside.totals (omega (arith, c.requires.few, ap (λ (kept : Kept). length kept.jobs) c.self.view_is)) c.self.invariant.counted

pub invariant_of-self : goal.invariant_of-self
invariant_of-self c =
    let old = all_of c.self.inside.list.items in
    let new = all_of c.put_in.new.list.items in
    record {
      apart = c.put_in.ensures.parts;
      counted = c.with-self-inside.ensures old new c.put_in.ensures.put c.self.invariant.counted;
      few = omega (arith, c.requires.few, ap (λ (kept : Kept). length kept.jobs) c.self.view_is, among_length c.args.job old new c.put_in.ensures.put);
    }
