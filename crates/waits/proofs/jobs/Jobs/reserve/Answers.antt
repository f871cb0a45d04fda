use Rattle.std.proofs.Common.{◌∙◌, ℕ, max, ap, subst, sym, arith}
use Rattle.waits.specs.Jobs.{Queue}
use Rattle.waits.specs.Held.{Held}
use Rattle.waits.specs.Stamps.{AreStamped, queue_of}
use Rattle.waits.proofs.View.{holding}
use Rattle.waits.proofs.jobs.Jobs.reserve.Goals as goal

pub invariant_of-self : goal.invariant_of-self
invariant_of-self c =
    record {
      stamped = subst (AreStamped c.self.inside.stamp) (sym c.reserve.ensures.jobs) c.self.invariant.stamped;
      stamps = c.self.invariant.stamps;
      room = omega (arith, c.self.invariant.room, c.in_err-reserve.ensures.kept);
    }

pub invariant_of-self-2 : goal.invariant_of-self-2
invariant_of-self-2 c =
    record {
      stamped = subst (AreStamped c.self.inside.stamp) (sym c.reserve.ensures.jobs) c.self.invariant.stamped;
      stamps = omega arith;
      room = c.in_ok-reserve.ensures.reserved;
    }

pub returns : goal.returns
returns c =
    let with_room : ℕ → Held = λ room. record { jobs = c.args.self.now.jobs; room = room } in
    let jobs = ap queue_of c.reserve.ensures.jobs ∙ ap (λ (held : Held). held.jobs) c.self.view_is in
    let room = c.max-room.ensures ∙ ap (λ (held : Held). max held.room c.args.count) c.self.view_is in
    record { reserved = ap (λ (queue : Queue). holding queue c.max-room.result) jobs ∙ ap with_room room; unchanged_on_memory = tt }
