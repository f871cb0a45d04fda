use Rattle.std.proofs.Common.{ℕ, List, [], Option, IfSome, IsSomeAnd, Err, sym, subst}
use Rattle.mt_edge.specs.Links.{Told}
use Rattle.client_node.specs.Course.{attaches, renews}
use Rattle.client_node.specs.Standing.{StandsAs}
use Rattle.client_node.specs.Talks.{drawn, rules_of}
use Rattle.client_node.specs.Writes.{CountsBy, Writes, WroteBy, WroteFront, seen}
use Rattle.client_node.specs.declared.end.End.{End}
use Rattle.client_node.proofs.Conversing.{opened, refused, stands_attached, stands_drawn, talked_through, unstarted}
use Rattle.client_node.proofs.Undecided.{attached_undecided, renews_undecided}
use Rattle.client_node.proofs.talk.talk.Goals as goal

abbrev WritesSo : List ℕ → Option Told → Option Told → End → Type 0
WritesSo bytes first last end = IfSome last (λ after. IsSomeAnd first (λ before. WroteBy {X = Unit} (Err end) bytes before after))

pub take_turns-requires-clause-keys : goal.take_turns-requires-clause-keys
take_turns-requires-clause-keys g c =
    c.renew-client.ensures.keys (g.S.Seal.keys c.args.seal.now) (c.attach.ensures.keys (g.S.Seal.keys c.args.seal.now) c.requires.keys)

pub returns-in-Err-clause-conversed : goal.returns-in-Err-clause-conversed
returns-in-Err-clause-conversed g c course reading read_so stands some =
    refused (rules_of g.D.Draw.step g.S.Seal.lock (g.S.Seal.keys c.args.seal.now) reading) c.args.plan.now course (seen (g.L.Link.told c.args.link.now) (g.L.Link.faults c.args.link.now))
    (g.C.Clock.given c.args.clock.now) (g.C.Clock.given c.now-now.new.self) c.now-now.result c.args.client c.client.new.draw
    (subst (λ drawn. StandsAs c.args.client drawn course) (sym c.in-Err.ensures.unchanged_on_memory) stands) (record { told = c.now-now.ensures.told; goes_on = c.now-now.ensures.goes_on })

pub returns-in-Err-send-clause-conversed : goal.returns-in-Err-send-clause-conversed
returns-in-Err-send-clause-conversed g c course reading read_so stands some =
    unstarted g.D.Draw.step g.S.Seal.lock (g.S.Seal.keys c.args.seal.now) reading c.args.plan.now course (seen (g.L.Link.told c.args.link.now) (g.L.Link.faults c.args.link.now)) (seen (g.L.Link.told c.send.new.link) (g.L.Link.faults c.send.new.link))
    (g.C.Clock.given c.args.clock.now) (g.C.Clock.given c.now-now.new.self) c.now-now.result c.in-Ok.begun.1
    c.in-Err-send.end c.args.client c.args.draw.now c.client.new.draw stands c.in-Ok.ensures.drawn c.in-Ok.ensures.sent c.in-Err-send.ensures.fails
    (subst (λ (bytes : List ℕ). IfSome (g.L.Link.told c.send.new.link) (λ last. IsSomeAnd (g.L.Link.told c.args.link.now) (λ first. WroteFront [] bytes first last))) c.as_slice.ensures.value
    (subst (λ (end : End). WritesSo c.as_slice.result.now (g.L.Link.told c.args.link.now) (g.L.Link.told c.send.new.link) end) c.in-Err-send.ensures.fails c.in-Err-send.ensures.told))
    (subst (λ (end : End). CountsBy {X = Unit} (Err end) (g.L.Link.faults c.args.link.now) (g.L.Link.faults c.send.new.link)) c.in-Err-send.ensures.fails c.in-Err-send.ensures.counted)
    (record { told = c.now-now.ensures.told; goes_on = c.now-now.ensures.goes_on })

pub returns-clause-conversed : goal.returns-clause-conversed
returns-clause-conversed g c course reading read_so stands some =
    let rules = rules_of g.D.Draw.step g.S.Seal.lock (g.S.Seal.keys c.args.seal.now) reading in
    let begun_now = stands_drawn g.D.Draw.step g.S.Seal.lock (g.S.Seal.keys c.args.seal.now) reading c.args.plan.now course c.args.client c.args.draw.now c.client.new.draw stands c.in-Ok.ensures.drawn in
    let attached = stands_attached c.args.client c.attach.new.client c.client.new.draw (drawn rules c.args.plan.now course) begun_now c.attach.ensures.stands c.attach.ensures.phase in
    let renewed = c.renew-client.ensures.renews (attaches (drawn rules c.args.plan.now course)) attached in
    let undecided = renews_undecided g.D.Draw.step (attaches (drawn rules c.args.plan.now course)) (attached_undecided course.phase course.client some) in
    let its = c.in-Ok.ensures.begun in
    talked_through g.D.Draw.step g.S.Seal.lock (g.S.Seal.keys c.args.seal.now) reading c.args.plan.now course (seen (g.L.Link.told c.args.link.now) (g.L.Link.faults c.args.link.now))
    (seen (g.L.Link.told c.send.new.link) (g.L.Link.faults c.send.new.link)) (seen (g.L.Link.told c.take_turns.new.link) (g.L.Link.faults c.take_turns.new.link))
    (g.C.Clock.given c.args.clock.now) (g.C.Clock.given c.now-now.new.self) (g.C.Clock.given c.take_turns.new.clock) c.now-now.result c.in-Ok.begun.1 c.in-Ok.begun.0
    c.take_turns.result.1 c.args.draw.now c.take_turns.result.0 c.take_turns.new.draw stands.draw its c.in-Ok.ensures.sent
    (subst (λ (bytes : List ℕ). Writes bytes (seen (g.L.Link.told c.args.link.now) (g.L.Link.faults c.args.link.now)) (seen (g.L.Link.told c.send.new.link) (g.L.Link.faults c.send.new.link))) c.as_slice.ensures.value
    (record { told = c.in_default.ensures.told; faults = c.in_default.ensures.counted }))
    (record { told = c.now-now.ensures.told; goes_on = c.now-now.ensures.goes_on })
    (c.take_turns.ensures.talked (renews g.D.Draw.step (attaches (drawn rules c.args.plan.now course))) reading its.opening read_so renewed undecided (opened c.in-Ok.begun.0 c.args.plan.now.form c.in-Ok.begun.1 its))
