use Rattle.std.proofs.Common.{◌<◌, length, arith, refl, subst}
use Rattle.kifzaro.specs.Queues.{IsFirst, Line, all_in}
use Rattle.kifzaro.proofs.QueueLemmas.{first_in_front}
use Rattle.kifzaro.proofs.queue.Queue.first.Goals as goal

pub returns-in-Some : goal.returns-in-Some
returns-in-Some c =
    let some : 0 < length c.self.inside.front.items = omega (arith, c.in-Some.ensures.variant.0 refl, c.self.inside.front.ok.0) in
    subst (λ (line : Line). IsFirst c.in-Some.out.now (all_in line)) c.self.view_is
    (first_in_front c.self.inside.front.items c.self.inside.behind.items c.in-Some.out.now some c.in-Some.ensures.lookup)
