use Rattle.std.proofs.Common.{◌≡◌, ◌<◌, ℕ, List, Ok, Err, max, refl, sym, ap, subst, ◌∙◌}
use Rattle.sess_records.specs.declared.records.Event.{Event}
use Rattle.sess_records.specs.declared.records.Event.TheVariants.{Begin}
use Rattle.sess_records.specs.declared.records.Record.{Record}
use Rattle.server_core.specs.declared.desk.DeskFault.TheVariants as faults
use Rattle.waits.specs.Jobs.{Queue, ready_count}
use Rattle.sess_journal.specs.Keeping.{KeepsFor, Seen, entry_at}
use Rattle.sess_journal.specs.Staging.{Stage}
use Rattle.sess_journal.specs.Replay.{Bases, bases_of}
use Rattle.sess_journal.proofs.DeskLemmas.{added_in, added_journals, err_is, failed_journals, its, left_in, none_journals, same_record}
use Rattle.sess_journal.proofs.RunLemmas.{BeginJournals, begin_leads, begins_at, begun}
use Rattle.sess_journal.proofs.kept.Kept.begins.Goals as goal

pub returns-in_err-seed-clause-journal : goal.returns-in_err-seed-clause-journal
returns-in_err-seed-clause-journal g c = λ entries server keeps.
    let failed : c.from_residual.result ≡ Err c.in_err-seed.field-0.0 = err_is c.from_residual.result c.in_err-seed.field-0.0 _ c.from_residual.ensures (λ e h. cc) in
    none_journals (c.events_begin.ensures.at entries c.args.self.now server c.args.now keeps c.is_early.ensures) c.args.self.now c.in_err-seed.field-0.0 c.from_residual.result failed refl

pub returns-in_err-add-clause-journal : goal.returns-in_err-add-clause-journal
returns-in_err-add-clause-journal g c = λ entries server keeps.
    let bases : Bases g.row.S.Denot g.row.D.Denot = bases_of g.S.Seal.lock g.S.Seal.keys g.D.Draw.step g.D.Seeded.standing_at g.D.Seeded.place_of in
    let inside : Seen g.row.K.Denot g.row.S.Denot g.row.D.Denot = record { server = c.self.inside.server; latest = c.self.inside.latest; draw = c.self.inside.draw; book = c.self.inside.book } in
    let stage : Stage bases g.K.Disk.told entries inside server c.args.now =
    c.events_begin.ensures.at entries inside server c.args.now (subst (λ (d : Seen g.row.K.Denot g.row.S.Denot g.row.D.Denot). KeepsFor bases g.K.Disk.told entries d server) (sym c.self.view_is) keeps) c.is_early.ensures in
    let below : c.args.k < ready_count server.jobs =
    subst (λ (q : Queue). c.args.k < ready_count q) stage.keeps.stands.stands.jobs (subst (λ (d : Seen g.row.K.Denot g.row.S.Denot g.row.D.Denot). c.args.k < ready_count d.server.jobs) (sym c.self.view_is) c.requires.ready) in
    let event : Event (List ℕ) = Begin c.args.k in
    let due : Record = entry_at g.D.Seeded.place_of inside c.args.now event in
    let entry : Record = record { moment = c.seconds.result; place = c.place-place.result; event = event } in
    let due_is : entry ≡ due =
    same_record c.seconds.result (max inside.latest c.args.now) c.place-place.result (g.D.Seeded.place_of inside.draw) event (c.seconds.ensures.value ∙ c.later-moment.ensures) c.place-place.ensures in
    let new : Seen g.row.K.Denot g.row.S.Denot g.row.D.Denot = record { server = c.self.inside.server; latest = c.self.inside.latest; draw = c.self.inside.draw; book = c.add.new.self } in
    let disk : c.from_residual-in_err-add.result ≡ Err faults.Disk =
    err_is c.from_residual-in_err-add.result c.in_err-add.field-0.0 _ c.from_residual-in_err-add.ensures (λ e h. cc) ∙ ap Err c.in_err-add.ensures.disk in
    subst (λ (d : Seen g.row.K.Denot g.row.S.Denot g.row.D.Denot). BeginJournals bases g.K.Disk.told g.D.Seeded.place_of c.args.k entries server c.args.now new (c.from_residual-in_err-add.result) d) c.self.view_is
    (failed_journals stage event (begun stage c.args.k below) (begin_leads stage c.args.k below) new c.from_residual-in_err-add.result disk
    (left_in g.K.Disk.told entries entry due (its stage).file inside.book.journal c.add.new.self (its stage).opened due_is (its stage).holds c.in_err-add.ensures.any_moment))

pub returns-clause-journal : goal.returns-clause-journal
returns-clause-journal g c = λ entries server keeps.
    let bases : Bases g.row.S.Denot g.row.D.Denot = bases_of g.S.Seal.lock g.S.Seal.keys g.D.Draw.step g.D.Seeded.standing_at g.D.Seeded.place_of in
    let inside : Seen g.row.K.Denot g.row.S.Denot g.row.D.Denot = record { server = c.self.inside.server; latest = c.self.inside.latest; draw = c.self.inside.draw; book = c.self.inside.book } in
    let stage : Stage bases g.K.Disk.told entries inside server c.args.now =
    c.events_begin.ensures.at entries inside server c.args.now (subst (λ (d : Seen g.row.K.Denot g.row.S.Denot g.row.D.Denot). KeepsFor bases g.K.Disk.told entries d server) (sym c.self.view_is) keeps) c.is_early.ensures in
    let below : c.args.k < ready_count server.jobs =
    subst (λ (q : Queue). c.args.k < ready_count q) stage.keeps.stands.stands.jobs (subst (λ (d : Seen g.row.K.Denot g.row.S.Denot g.row.D.Denot). c.args.k < ready_count d.server.jobs) (sym c.self.view_is) c.requires.ready) in
    let event : Event (List ℕ) = Begin c.args.k in
    let due : Record = entry_at g.D.Seeded.place_of inside c.args.now event in
    let entry : Record = record { moment = c.seconds.result; place = c.place-place.result; event = event } in
    let due_is : entry ≡ due =
    same_record c.seconds.result (max inside.latest c.args.now) c.place-place.result (g.D.Seeded.place_of inside.draw) event (c.seconds.ensures.value ∙ c.later-moment.ensures) c.place-place.ensures in
    let new : Seen g.row.K.Denot g.row.S.Denot g.row.D.Denot = record { server = c.self.inside.server; latest = c.self.inside.latest; draw = c.self.inside.draw; book = c.add.new.self } in
    let added = added_in g.K.Disk.told entry due (its stage).file inside.book.journal c.add.new.self.journal (its stage).opened due_is c.in_ok-add.ensures.added in
    subst (λ (d : Seen g.row.K.Denot g.row.S.Denot g.row.D.Denot). BeginJournals bases g.K.Disk.told g.D.Seeded.place_of c.args.k entries server c.args.now new (Ok c.in_ok-seed.seed) d) c.self.view_is
    (added_journals stage event (begun stage c.args.k below) (begin_leads stage c.args.k below) new c.in_ok-seed.seed
    (left_in g.K.Disk.told entries entry due (its stage).file inside.book.journal c.add.new.self (its stage).opened due_is (its stage).holds c.in_ok-add.ensures.any_moment) (refl, begins_at stage c.args.k below c.add.new.self added.0 added.1 added.2))
