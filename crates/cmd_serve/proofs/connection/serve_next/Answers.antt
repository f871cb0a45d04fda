use Rattle.std.proofs.Common.{ℕ, IsSome, IsSomeAnd, Some, ap, sym, subst, ◌∙◌}
use Rattle.mt_edge.specs.Links.{IsFresh, Standing}
use Rattle.server_node.specs.Trace.{rules_of}
use Rattle.server_node.specs.Writes.{CountsBy}
use Rattle.cmd_serve.proofs.Connecting.{desk-end}
use Rattle.cmd_serve.proofs.Taking.{closed-as, some-of, took-one}
use Rattle.cmd_serve.proofs.connection.serve_next.Goals as goal

pub returns-in-Link-clause-took : goal.returns-in-Link-clause-took
returns-in-Link-clause-took g c outside before is stands =
    took-one (rules_of g.K.D.Draw.step g.V.Service.step outside) before
    (g.K.Desk.StandsFor c.args.desk.now) (g.K.Desk.drawn c.args.desk.now) c.args.service.now (g.C.Clock.given c.args.clock.now) c.args.left.now stands
    (g.N.L.Link.told c.new.result) (g.N.L.Link.told c.serve_one-link.result.0) c.serve_one-link.result.1
    (record { desk = g.K.Desk.StandsFor c.serve_one-link.new.desk; behind = g.K.Desk.Behind c.serve_one-link.new.desk; drawn = g.K.Desk.drawn c.serve_one-link.new.desk; service = c.serve_one-link.new.service; given = g.C.Clock.given c.serve_one-link.new.clock; left = c.serve_one-link.new.left; calls = g.N.Net.calls c.done.new.self })
    (g.N.L.Link.standing c.in-Link.link).place (g.N.L.Link.faults c.serve_one-link.result.0) (g.N.Net.calls c.args.net.now) (g.N.Net.calls c.accept.new.self)
    (λ talk begins. c.serve_one-link.ensures.trace outside talk is begins)
    c.serve_one-link.ensures.record
    (subst (λ (n : ℕ). CountsBy (Some c.serve_one-link.result.1) n (g.N.L.Link.faults c.serve_one-link.result.0)) (ap g.N.L.Link.faults c.new.ensures ∙ c.in-Link.ensures.no_fault_yet) c.serve_one-link.ensures.counted)
    c.serve_one-link.ensures.left
    c.in-Link.ensures.told
    (λ told. subst (λ link. IsSomeAnd (g.N.L.Link.told link) IsFresh) (sym c.new.ensures) (c.in-Link.ensures.fresh told))
    c.in-Link.ensures.place
    (closed-as (g.N.Net.calls c.done.new.self) (g.N.Net.calls c.accept.new.self) (g.N.L.Link.told c.serve_one-link.result.0) (g.N.L.Link.told c.close.new.self) (g.N.L.Link.standing c.in-Link.link).place (g.N.L.Link.standing c.close.new.self).place (g.N.L.Link.faults c.serve_one-link.result.0) (g.N.L.Link.faults c.close.new.self)
    c.close.ensures.told (c.close.ensures.same_place ∙ ap (λ (one : Standing). one.place) (c.serve_one-link.ensures.same_standing ∙ ap g.N.L.Link.standing c.new.ensures)) c.close.ensures.counted c.done.ensures.told)

pub returns-in-Failed-clause-took : goal.returns-in-Failed-clause-took
returns-in-Failed-clause-took g c outside before is stands = record { stands = stands; noted = c.in-Failed.ensures.told }

pub returns-in-Link-clause-first_fault : goal.returns-in-Link-clause-first_fault
returns-in-Link-clause-first_fault g c is none =
    let told = c.in-Link.ensures.first_fault is none in
    let begun = some-of (g.N.L.Link.told c.in-Link.link) IsFresh (c.in-Link.ensures.fresh told) in
    let ended = c.serve_one-link.ensures.first_fault (subst (λ link. IsSome (g.N.L.Link.told link)) (sym c.new.ensures) begun) (ap g.N.L.Link.faults c.new.ensures ∙ c.in-Link.ensures.no_fault_yet) in
    c.done.ensures.goes_on told (subst (λ some. IsSome some) (sym c.close.ensures.told) ended)

pub returns-in-Link-clause-journal : goal.returns-in-Link-clause-journal
returns-in-Link-clause-journal g c = desk-end g.K.Desk.MayAnswer c.serve_one-link.result.1 c.serve_one-link.ensures.journal
