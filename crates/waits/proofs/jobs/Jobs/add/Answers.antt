use Rattle.std.proofs.Common.{◌∙◌, false, ap, refl, arith}
use Rattle.waits.specs.Jobs.{job_count, job_bytes, load_of, accepted}
use Rattle.waits.specs.Stamps.{queue_of}
use Rattle.waits.specs.Held.{Held}
use Rattle.waits.proofs.Asked.{own_length, own_sum}
use Rattle.waits.proofs.Taken.{stamped_more, queue_more}
use Rattle.waits.proofs.View.{viewed}
use Rattle.waits.proofs.jobs.Jobs.add.Goals as goal

pub put-requires : goal.put-requires
put-requires c =
    let xs = c.self.inside.owners.jobs in
    let job = c.args.job in
    let room = ap (λ (held : Held). held.room) c.self.view_is in
    record {
      room = omega (arith, c.self.invariant.room, c.requires.room, room);
      few = omega (arith, c.self.invariant.stamped.few, c.self.invariant.stamps, c.requires.room, room);
      fits = omega (arith, c.requires.fits, own_length job.key job.session xs, viewed (job_count job.key job.session) (queue_of xs) c.self.inside.room c.args.self.now c.self.view_is);
      bytes_fit = omega (arith, c.requires.bytes_fit, own_sum (λ one. load_of one.job) job.key job.session xs, viewed (job_bytes job.key job.session) (queue_of xs) c.self.inside.room c.args.self.now c.self.view_is);
      later = c.self.invariant.stamped.below;
    }

pub overflow_add-self : goal.overflow_add-self
overflow_add-self c =
    let room = ap (λ (held : Held). held.room) c.self.view_is in
    omega (arith, c.self.invariant.stamps, c.requires.room, room)

pub overflow_sub-self : goal.overflow_sub-self
overflow_sub-self c =
    let room = ap (λ (held : Held). held.room) c.self.view_is in
    omega (arith, c.requires.room, room)

pub invariant_of-self : goal.invariant_of-self
invariant_of-self c =
    let room = ap (λ (held : Held). held.room) c.self.view_is in
    record {
      stamped = stamped_more c.self.inside.stamp (record { stamp = c.self.inside.stamp; one = record { job = c.args.job; failed = false } }) c.self.inside.owners.jobs c.put.new.self.jobs c.put.ensures.put refl c.self.invariant.stamped;
      stamps = omega (arith, c.self.invariant.stamps, c.requires.room, room);
      room = omega (arith, c.self.invariant.room, c.put.ensures.room, c.requires.room, room);
    }

pub returns : goal.returns
returns c =
    let xs = c.self.inside.owners.jobs in
    let room = ap (λ (held : Held). held.room) c.self.view_is in
    let more = queue_more c.self.inside.stamp (record { stamp = c.self.inside.stamp; one = record { job = c.args.job; failed = false } }) xs c.put.new.self.jobs c.put.ensures.put refl c.self.invariant.stamped in
    record {
      added = more ∙ ap (accepted c.args.job) (ap (λ (held : Held). held.jobs) c.self.view_is);
      room = omega (arith, c.requires.room, room);
    }
