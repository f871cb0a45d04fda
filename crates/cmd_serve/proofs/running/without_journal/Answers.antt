use Rattle.std.proofs.Common.{◌≡◌, List, refl, rules, sym, subst, ◌∙◌}
use Rattle.auth_keys.specs.declared.ring.RingKey.{RingKey}
use Rattle.envelope.specs.Lock.{mt_lock}
use Rattle.server_node.specs.Trace.{IsOutside}
use Rattle.cmd_serve.specs.Packets.{outside_of}
use Rattle.cmd_serve.specs.Runs.{first_of}
use Rattle.cmd_serve.proofs.ServingLemmas.{alone-not, alone-serves, never-full}
use Rattle.cmd_serve.proofs.running.without_journal.Goals as goal

joined : {X : Type 0} (one two three : X) → one ≡ two → two ≡ three → one ≡ three
joined one two three first second = first ∙ second

pub returns-in-Err : goal.returns-in-Err
returns-in-Err g c = record {
  run = alone-not g.D.Draw.step c.args.options.now c.args.ring
      (record { told = g.N.Net.calls; faults = g.N.Net.faults; before = c.args.net.now; after = c.listen.new.net })
      (record { told = g.O.Sink.written; faults = g.O.Sink.faults; before = c.args.out.now; after = c.listen.new.out })
      (g.C.Clock.given c.args.clock.now) c.args.draw.now c.in-Err.status c.in-Err.ensures.not;
}

pub returns : goal.returns
returns g c = record {
  run = alone-serves g.D.Draw.step c.args.options.now c.args.ring g.N.Net.calls g.N.Net.faults c.args.net.now c.listen.new.net c.serve-ending.new.net
      g.O.Sink.written g.O.Sink.faults c.args.out.now c.listen.new.out c.last.new.out
      (g.C.Clock.given c.args.clock.now) (g.C.Clock.given c.serve-ending.new.clock) c.args.draw.now _ c.serve-ending.new.desk.draw.now _ _ c.serve-ending.result c.args.lines.now.last c.last.result
      c.in_default.ensures.hears
      (c.serve-ending.ensures.serves (outside_of c.args.ring)
      (first_of c.args.options.now (record { before = g.C.Clock.given c.args.clock.now; after = g.C.Clock.given c.serve-ending.new.clock }) c.args.draw.now)
      (subst (λ (ring : List RingKey). IsOutside mt_lock ring (outside_of c.args.ring)) (sym (c.new-server.ensures.seal ∙ c.new.ensures)) (c.rings_say_as_worked_out.ensures c.args.ring))
      (record { server = c.new-server.ensures.stands; draw = refl; served = refl; gave = refl; count = refl }))
      (joined _ c.serve-ending.new.desk.draw.now _ (search rules) refl)
      (c.serve-ending.ensures.desk_counted (outside_of c.args.ring)
      (first_of c.args.options.now (record { before = g.C.Clock.given c.args.clock.now; after = g.C.Clock.given c.serve-ending.new.clock }) c.args.draw.now)
      (subst (λ (ring : List RingKey). IsOutside mt_lock ring (outside_of c.args.ring)) (sym (c.new-server.ensures.seal ∙ c.new.ensures)) (c.rings_say_as_worked_out.ensures c.args.ring))
      (record { server = c.new-server.ensures.stands; draw = refl; served = refl; gave = refl; count = refl }))
      (λ full. never-full (c.serve-ending.ensures.full full)) c.requires.last c.last.ensures;
}
