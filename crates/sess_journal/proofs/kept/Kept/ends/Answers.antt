use Rattle.std.proofs.Common.{◌≡◌, ◌≤◌, ◌+◌, ℕ, List, Ok, Err, max, refl, sym, ap, subst, ◌∙◌}
use Rattle.std.specs.Borrow.{Bor}
use Rattle.std.specs.Option.{option_copied}
use Rattle.std.specs.Prelude.{IsSomeAnd, Option}
use Rattle.server_core.specs.Desks.{request_at}
use Rattle.waits.specs.Jobs.{ready_job}
use Rattle.ring_rules.specs.Binding.{keys_of}
use Rattle.sess_records.specs.declared.records.Event.TheVariants.{Ran}
use Rattle.sess_records.specs.declared.records.Record.{Record}
use Rattle.server_core.specs.declared.desk.DeskFault.TheVariants as faults
use Rattle.server_rules.specs.Answer.{Answer, after_work}
use Rattle.server_session.specs.Says.{Keys, setting_of}
use Rattle.sess_journal.specs.Keeping.{HasBegun, Seen, entry_at, reply_at}
use Rattle.sess_journal.specs.Staging.{RunStage}
use Rattle.sess_journal.specs.Replay.{Bases, bases_of}
use Rattle.sess_journal.proofs.DeskLemmas.{Occurs, added_by, added_in, basis, does_recorded, draw_back, err_is, failed_by, gives_now, its, left_in, none_journals}
use Rattle.sess_journal.proofs.EventLemmas.{run_occurs}
use Rattle.sess_journal.proofs.RunLemmas.{EndJournals, reply_is, same_ran}
use Rattle.sess_journal.proofs.kept.Kept.ends.Goals as goal

pub returns-in_default-clause-journal : goal.returns-in_default-clause-journal
returns-in_default-clause-journal g c = λ entries server has.
    let staged = c.events_begin.ensures.begun entries c.args.k c.args.self.now server c.args.now has c.is_early.ensures in
    none_journals staged.stage c.args.self.now faults.Memory (Err faults.Memory) refl refl

pub returns-in_default-work-clause-journal : goal.returns-in_default-work-clause-journal
returns-in_default-work-clause-journal g c = λ entries server has.
    let bases : Bases g.row.S.Denot g.row.D.Denot = bases_of g.S.Seal.lock g.S.Seal.keys g.D.Draw.step g.D.Seeded.standing_at g.D.Seeded.place_of in
    let inside : Seen g.row.K.Denot g.row.S.Denot g.row.D.Denot = record { server = c.self.inside.server; latest = c.self.inside.latest; draw = c.self.inside.draw; book = c.self.inside.book } in
    let staged : RunStage bases g.K.Disk.told entries c.args.k inside server c.args.now =
    c.events_begin.ensures.begun entries c.args.k inside server c.args.now (subst (λ (d : Seen g.row.K.Denot g.row.S.Denot g.row.D.Denot). HasBegun bases g.K.Disk.told entries c.args.k d server) (sym c.self.view_is) has) c.is_early.ensures in
    let stage = staged.stage in
    let reply : List ℕ = reply_at g.V.Service.step c.args.service.now c.args.k server.jobs in
    let answer : g.row.D.Denot → Keys → Answer g.row.D.Denot = λ draw ring. (after_work (setting_of (max server.now c.args.now) g.D.Draw.step ring) c.args.k g.V.Service.step c.args.service.now server draw).0 in
    let service : g.row.D.Denot → Keys → g.row.V.Denot = λ draw ring. (after_work (setting_of (max server.now c.args.now) g.D.Draw.step ring) c.args.k g.V.Service.step c.args.service.now server draw).1 in
    let draw_is : c.at.result ≡ inside.draw = draw_back stage (λ file. file.len + 262166 ≤ 268435456) c.at.result c.args.seed.now c.place-place.result c.at.ensures.standing
    (subst (λ (d : Seen g.row.K.Denot g.row.S.Denot g.row.D.Denot). IsSomeAnd d.book.journal (λ file. (c.args.seed.now ≡ file.seed) × (file.len + 262166 ≤ 268435456))) (sym c.self.view_is) c.requires.open) c.place-place.ensures in
    let new : Seen g.row.K.Denot g.row.S.Denot g.row.D.Denot = record { server = c.work.new.self; latest = c.self.inside.latest; draw = c.at.result; book = c.self.inside.book } in
    let same : new ≡ inside = λ i. record { server = c.in_default-work.ensures.unchanged_on_memory i; latest = c.self.inside.latest; draw = draw_is i; book = c.self.inside.book } in
    subst (λ (d : Seen g.row.K.Denot g.row.S.Denot g.row.D.Denot). EndJournals bases g.K.Disk.told g.D.Seeded.place_of g.S.Seal.lock g.S.Seal.keys answer service reply entries server c.args.now c.work.new.service new (Err faults.Memory) d) c.self.view_is
    (none_journals stage new faults.Memory (Err faults.Memory) refl same)

pub returns-in_err-add-clause-journal : goal.returns-in_err-add-clause-journal
returns-in_err-add-clause-journal g c = λ entries server has.
    let bases : Bases g.row.S.Denot g.row.D.Denot = bases_of g.S.Seal.lock g.S.Seal.keys g.D.Draw.step g.D.Seeded.standing_at g.D.Seeded.place_of in
    let inside : Seen g.row.K.Denot g.row.S.Denot g.row.D.Denot = record { server = c.self.inside.server; latest = c.self.inside.latest; draw = c.self.inside.draw; book = c.self.inside.book } in
    let staged : RunStage bases g.K.Disk.told entries c.args.k inside server c.args.now =
    c.events_begin.ensures.begun entries c.args.k inside server c.args.now (subst (λ (d : Seen g.row.K.Denot g.row.S.Denot g.row.D.Denot). HasBegun bases g.K.Disk.told entries c.args.k d server) (sym c.self.view_is) has) c.is_early.ensures in
    let stage = staged.stage in
    let reply : List ℕ = reply_at g.V.Service.step c.args.service.now c.args.k server.jobs in
    let answer : g.row.D.Denot → Keys → Answer g.row.D.Denot = λ draw ring. (after_work (setting_of (max server.now c.args.now) g.D.Draw.step ring) c.args.k g.V.Service.step c.args.service.now server draw).0 in
    let service : g.row.D.Denot → Keys → g.row.V.Denot = λ draw ring. (after_work (setting_of (max server.now c.args.now) g.D.Draw.step ring) c.args.k g.V.Service.step c.args.service.now server draw).1 in
    let occurs : (ring : Keys) → Occurs stage (Ran reply) (answer inside.draw ring) =
    λ ring.
    run_occurs stage c.args.k g.V.Service.step c.args.service.now ring staged.begun c.keys_are_asked_by_packets_alone.ensures.work c.events_draw_words.ensures.work in
    let due : Record = entry_at g.D.Seeded.place_of inside c.args.now (Ran reply) in
    let entry : Record = record { moment = c.seconds.result; place = c.place-place.result; event = Ran c.as_slice-reply.result.now } in
    let asked : c.as_slice-reply.result.now ≡ reply =
    c.as_slice-reply.ensures.value ∙ c.in-Ok.ensures.reply ∙ reply_is g.V.Service.step c.args.service.now (ready_job c.args.k server.jobs) c.unwrap-request.result.now
    (subst (λ (o : Option (Bor (List ℕ))). option_copied o ≡ request_at c.args.k server.jobs) c.unwrap-request.ensures (c.ready_request.ensures.stands server stage.keeps.stands)) in
    let due_is : entry ≡ due =
    same_ran c.seconds.result (max inside.latest c.args.now) c.place-place.result (g.D.Seeded.place_of inside.draw) c.as_slice-reply.result.now reply (c.seconds.ensures.value ∙ c.later-moment.ensures) c.place-place.ensures asked in
    let new : Seen g.row.K.Denot g.row.S.Denot g.row.D.Denot = record { server = c.work.new.self; latest = c.later-moment.result; draw = c.work.new.draw; book = c.add.new.self } in
    let disk : c.from_residual.result ≡ Err faults.Disk =
    err_is c.from_residual.result c.in_err-add.field-0.0 _ c.from_residual.ensures (λ e h. cc) ∙ ap Err c.in_err-add.ensures.disk in
    subst (λ (d : Seen g.row.K.Denot g.row.S.Denot g.row.D.Denot). EndJournals bases g.K.Disk.told g.D.Seeded.place_of g.S.Seal.lock g.S.Seal.keys answer service reply entries server c.args.now c.work.new.service new (c.from_residual.result) d) c.self.view_is
    (failed_by (occurs (keys_of (basis stage).keys)) new c.from_residual.result disk
    (left_in g.K.Disk.told entries entry due (its stage).file inside.book.journal c.add.new.self (its stage).opened due_is (its stage).holds c.in_err-add.ensures.any_moment))

pub returns-clause-journal : goal.returns-clause-journal
returns-clause-journal g c = λ entries server has.
    let bases : Bases g.row.S.Denot g.row.D.Denot = bases_of g.S.Seal.lock g.S.Seal.keys g.D.Draw.step g.D.Seeded.standing_at g.D.Seeded.place_of in
    let inside : Seen g.row.K.Denot g.row.S.Denot g.row.D.Denot = record { server = c.self.inside.server; latest = c.self.inside.latest; draw = c.self.inside.draw; book = c.self.inside.book } in
    let staged : RunStage bases g.K.Disk.told entries c.args.k inside server c.args.now =
    c.events_begin.ensures.begun entries c.args.k inside server c.args.now (subst (λ (d : Seen g.row.K.Denot g.row.S.Denot g.row.D.Denot). HasBegun bases g.K.Disk.told entries c.args.k d server) (sym c.self.view_is) has) c.is_early.ensures in
    let stage = staged.stage in
    let reply : List ℕ = reply_at g.V.Service.step c.args.service.now c.args.k server.jobs in
    let answer : g.row.D.Denot → Keys → Answer g.row.D.Denot = λ draw ring. (after_work (setting_of (max server.now c.args.now) g.D.Draw.step ring) c.args.k g.V.Service.step c.args.service.now server draw).0 in
    let service : g.row.D.Denot → Keys → g.row.V.Denot = λ draw ring. (after_work (setting_of (max server.now c.args.now) g.D.Draw.step ring) c.args.k g.V.Service.step c.args.service.now server draw).1 in
    let occurs : (ring : Keys) → Occurs stage (Ran reply) (answer inside.draw ring) =
    λ ring.
    run_occurs stage c.args.k g.V.Service.step c.args.service.now ring staged.begun c.keys_are_asked_by_packets_alone.ensures.work c.events_draw_words.ensures.work in
    let due : Record = entry_at g.D.Seeded.place_of inside c.args.now (Ran reply) in
    let entry : Record = record { moment = c.seconds.result; place = c.place-place.result; event = Ran c.as_slice-reply.result.now } in
    let asked : c.as_slice-reply.result.now ≡ reply =
    c.as_slice-reply.ensures.value ∙ c.in-Ok.ensures.reply ∙ reply_is g.V.Service.step c.args.service.now (ready_job c.args.k server.jobs) c.unwrap-request.result.now
    (subst (λ (o : Option (Bor (List ℕ))). option_copied o ≡ request_at c.args.k server.jobs) c.unwrap-request.ensures (c.ready_request.ensures.stands server stage.keeps.stands)) in
    let due_is : entry ≡ due =
    same_ran c.seconds.result (max inside.latest c.args.now) c.place-place.result (g.D.Seeded.place_of inside.draw) c.as_slice-reply.result.now reply (c.seconds.ensures.value ∙ c.later-moment.ensures) c.place-place.ensures asked in
    let new : Seen g.row.K.Denot g.row.S.Denot g.row.D.Denot = record { server = c.work.new.self; latest = c.later-moment.result; draw = c.work.new.draw; book = c.add.new.self } in
    let added = added_in g.K.Disk.told entry due (its stage).file inside.book.journal c.add.new.self.journal (its stage).opened due_is c.in_ok-add.ensures.added in
    subst (λ (d : Seen g.row.K.Denot g.row.S.Denot g.row.D.Denot). EndJournals bases g.K.Disk.told g.D.Seeded.place_of g.S.Seal.lock g.S.Seal.keys answer service reply entries server c.args.now c.work.new.service new (Ok c.in-Ok-work.effects) d) c.self.view_is
    (added_by (occurs (keys_of (basis stage).keys)) new c.in-Ok-work.effects
    (left_in g.K.Disk.told entries entry due (its stage).file inside.book.journal c.add.new.self (its stage).opened due_is (its stage).holds c.in_ok-add.ensures.any_moment) (
      refl,
      λ ring. (
        does_recorded stage (Ran reply) (answer inside.draw ring) (occurs ring) g.S.Seal.lock (g.S.Seal.keys inside.server.seal) new c.in-Ok-work.effects added.0
            (gives_now stage g.S.Seal.lock (g.S.Seal.keys inside.server.seal) new.server new.draw c.in-Ok-work.effects (λ n. (after_work (setting_of n g.D.Draw.step ring) c.args.k g.V.Service.step c.args.service.now server inside.draw).0)
            (c.in-Ok-work.ensures.given ring server stage.keeps.stands)) c.in-Ok-work.ensures.same_seal c.later-moment.ensures added.1 added.2,
        subst (λ (n : ℕ). c.work.new.service ≡ (after_work (setting_of (max n c.args.now) g.D.Draw.step ring) c.args.k g.V.Service.step c.args.service.now server inside.draw).1) stage.keeps.stands.stands.moment
            (c.in-Ok-work.ensures.served ring server stage.keeps.stands),
      ),
    ))
