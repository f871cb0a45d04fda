use Rattle.std.proofs.Common.{inl, inr, refl, sym, ◌∙◌}
use Rattle.client_node.specs.Talks.{rules_of}
use Rattle.client_node.specs.Trace.{after_all}
use Rattle.client_node.specs.declared.plan.Batch.TheVariants as batch
use Rattle.client_node.proofs.Connecting.{used}
use Rattle.client_node.proofs.Conversing.{untraced}
use Rattle.client_node.proofs.Counting.{none_counted}
use Rattle.client_node.proofs.KindLemmas.{leaves_undecided}
use Rattle.client_node.proofs.batch.run_batch.Goals as goal

pub returns-in-Ok-clause-uses : goal.returns-in-Ok-clause-uses
returns-in-Ok-clause-uses g c =
    used c.args.plan.now c.connect_all.result.1 (g.N.Net.calls c.args.net.now) (g.N.Net.calls c.connect_all.new.net) c.connect_all.ensures.connects

pub returns-then-is_decided-clause-faults : goal.returns-then-is_decided-clause-faults
returns-then-is_decided-clause-faults g c = none_counted (g.N.Net.calls c.args.net.now) (g.N.Net.faults c.args.net.now)

pub returns-in-Err-clause-faults : goal.returns-in-Err-clause-faults
returns-in-Err-clause-faults g c = none_counted (g.N.Net.calls c.args.net.now) (g.N.Net.faults c.args.net.now)

pub returns-then-is_decided-clause-trace : goal.returns-then-is_decided-clause-trace
returns-then-is_decided-clause-trace g c course reading read_so stands =
    untraced (rules_of g.D.Draw.step g.S.Seal.lock (g.S.Seal.keys c.args.seal.now) reading) c.args.plan.now course (g.N.Net.calls c.args.net.now) (g.C.Clock.given c.args.clock.now) c.args.client c.args.draw.now batch.Decided
    stands tt (inl (refl, sym (c.is_decided.ensures.stands course.client stands.client) ∙ c.if-is_decided.true))

pub returns-in-Err-clause-trace : goal.returns-in-Err-clause-trace
returns-in-Err-clause-trace g c course reading read_so stands =
    untraced (rules_of g.D.Draw.step g.S.Seal.lock (g.S.Seal.keys c.args.seal.now) reading) c.args.plan.now course (g.N.Net.calls c.args.net.now) (g.C.Clock.given c.args.clock.now) c.args.client c.args.draw.now batch.Memory
    stands tt (inr refl)

pub returns-in-Ok-clause-trace : goal.returns-in-Ok-clause-trace
returns-in-Ok-clause-trace g c course reading read_so stands =
    c.connect_all.ensures.trace course reading read_so stands (sym (c.is_decided.ensures.stands course.client stands.client) ∙ c.if-is_decided.false)

pub returns-in-Ok-clause-undecided : goal.returns-in-Ok-clause-undecided
returns-in-Ok-clause-undecided g c course reading read_so stands =
    let rules = rules_of g.D.Draw.step g.S.Seal.lock (g.S.Seal.keys c.args.seal.now) reading in
    let trace = c.connect_all.ensures.trace course reading read_so stands (sym (c.is_decided.ensures.stands course.client stands.client) ∙ c.if-is_decided.false) in
    leaves_undecided c.connect_all.result.1 c.connect_all.result.0 c.connect_all.new.draw (after_all rules c.args.plan.now course trace.attempts) trace.stands trace.undecided
