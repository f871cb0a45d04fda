use Rattle.std.proofs.Common.{ℕ, length, Option, IfSome, ap, sym, subst, ◌≡◌, ◌∙◌}
use Rattle.mt_edge.specs.Links.{Standing, Told}
use Rattle.client_node.specs.Runs.{Conversed}
use Rattle.client_node.specs.Talks.{rules_of}
use Rattle.client_node.specs.Writes.{seen}
use Rattle.client_node.proofs.Conversing.{tried}
use Rattle.client_node.proofs.Counting.{gave_counted}
use Rattle.client_node.proofs.connection.connect.Goals as goal

pub returns-in-Link-clause-faults : goal.returns-in-Link-clause-faults
returns-in-Link-clause-faults g c =
    gave_counted (g.N.Net.calls c.args.net.now) (g.N.Net.calls c.connect.new.self) (g.N.Net.calls c.done.new.self) c.args.plan.now.port
    (g.N.L.Link.standing c.close.new.self).place (g.N.L.Link.told c.close.new.self) (g.N.L.Link.faults c.close.new.self) (g.N.Net.faults c.args.net.now) (g.N.Net.faults c.done.new.self)
    c.in-Link.ensures.told
    (subst (λ (place : ℕ). IfSome (g.N.Net.calls c.args.net.now) (λ before. place ≡ length before)) (sym (c.close.ensures.same_place ∙ ap (λ (one : Standing). one.place) c.talk-client.ensures.same_standing)) c.in-Link.ensures.place)
    (c.done.ensures.counted ∙ c.in-Link.ensures.counted)
    c.done.ensures.told

pub returns-in-Link-clause-tried : goal.returns-in-Link-clause-tried
returns-in-Link-clause-tried g c course reading read_so stands some =
    let rules = rules_of g.D.Draw.step g.S.Seal.lock (g.S.Seal.keys c.args.seal.now) reading in
    let first = seen (g.N.L.Link.told c.in-Link.link) (g.N.L.Link.faults c.in-Link.link) in
    let conversed = c.talk-client.ensures.conversed course reading read_so stands some in
    tried rules c.args.plan.now course (g.N.Net.calls c.args.net.now) (g.N.Net.calls c.connect.new.self) (g.N.Net.calls c.done.new.self)
    (g.N.L.Link.standing c.close.new.self).place (g.N.L.Link.told c.in-Link.link) (g.N.L.Link.told c.close.new.self) (g.N.L.Link.faults c.in-Link.link) (g.N.L.Link.faults c.close.new.self)
    (g.C.Clock.given c.args.clock.now) (g.C.Clock.given c.talk-client.new.clock) c.talk-client.result.1 c.talk-client.result.0 c.talk-client.new.draw
    c.in-Link.ensures.told
    (subst (λ (place : ℕ). IfSome (g.N.Net.calls c.args.net.now) (λ before. place ≡ length before)) (sym (c.close.ensures.same_place ∙ ap (λ (one : Standing). one.place) c.talk-client.ensures.same_standing)) c.in-Link.ensures.place)
    c.in-Link.ensures.fresh c.in-Link.ensures.no_fault_yet
    (subst (λ (told : Option Told). Conversed rules c.args.plan.now course first (g.C.Clock.given c.args.clock.now) c.talk-client.result.1 c.talk-client.result.0 c.talk-client.new.draw (seen told (g.N.L.Link.faults c.close.new.self)) (g.C.Clock.given c.talk-client.new.clock)) (sym c.close.ensures.told)
    (subst (λ (faults : ℕ). Conversed rules c.args.plan.now course first (g.C.Clock.given c.args.clock.now) c.talk-client.result.1 c.talk-client.result.0 c.talk-client.new.draw (seen (g.N.L.Link.told c.talk-client.new.link) faults) (g.C.Clock.given c.talk-client.new.clock)) (sym c.close.ensures.counted) conversed))
    c.done.ensures.told
