use Rattle.std.proofs.Common.{◌≡◌, ℕ, List, Ok, Err, max, refl, sym, ap, subst, ◌∙◌}
use Rattle.ring_rules.specs.Binding.{keys_of}
use Rattle.sess_records.specs.declared.records.Event.{Event}
use Rattle.sess_records.specs.declared.records.Event.TheVariants.{Tick}
use Rattle.sess_records.specs.declared.records.Record.{Record}
use Rattle.server_core.specs.declared.desk.DeskFault.TheVariants as faults
use Rattle.server_core.specs.Desks.{Does}
use Rattle.server_core.specs.Server.{StandsFor as IsServer}
use Rattle.server_rules.specs.Answer.{Answer, after_tick}
use Rattle.server_session.specs.Says.{Keys, setting_of}
use Rattle.sess_journal.specs.Keeping.{GivesNothing, KeepsFor, Seen, entry_at}
use Rattle.sess_journal.specs.Staging.{Stage}
use Rattle.sess_journal.specs.Replay.{Bases, bases_of}
use Rattle.sess_journal.proofs.DeskLemmas.{LeaveRoom, MayJournals, Occurs, added_by, added_in, basis, does_quiet, does_recorded, draw_back, err_is, failed_by, gives_now, iff_no, its, keeps_room, left_in, none_journals, quiet_journals, same_record}
use Rattle.sess_journal.proofs.EventLemmas.{tick_occurs}
use Rattle.sess_journal.proofs.kept.Kept.tick.Goals as goal

pub returns-in_err-seed-clause-journal : goal.returns-in_err-seed-clause-journal
returns-in_err-seed-clause-journal g c = λ entries server keeps.
    let failed : c.from_residual.result ≡ Err c.in_err-seed.field-0.0 = err_is c.from_residual.result c.in_err-seed.field-0.0 _ c.from_residual.ensures (λ e h. cc) in
    none_journals (c.events_begin.ensures.at entries c.args.self.now server c.args.now keeps c.is_early.ensures) c.args.self.now c.in_err-seed.field-0.0 c.from_residual.result failed refl

pub returns-in_default-clause-journal : goal.returns-in_default-clause-journal
returns-in_default-clause-journal g c = λ entries server keeps.
    let bases : Bases g.row.S.Denot g.row.D.Denot = bases_of g.S.Seal.lock g.S.Seal.keys g.D.Draw.step g.D.Seeded.standing_at g.D.Seeded.place_of in
    let inside : Seen g.row.K.Denot g.row.S.Denot g.row.D.Denot = record { server = c.self.inside.server; latest = c.self.inside.latest; draw = c.self.inside.draw; book = c.self.inside.book } in
    let stage : Stage bases g.K.Disk.told entries inside server c.args.now =
    c.events_begin.ensures.at entries inside server c.args.now (subst (λ (d : Seen g.row.K.Denot g.row.S.Denot g.row.D.Denot). KeepsFor bases g.K.Disk.told entries d server) (sym c.self.view_is) keeps) c.is_early.ensures in
    let answer : g.row.D.Denot → Keys → Answer g.row.D.Denot = λ draw ring. after_tick (setting_of (max server.now c.args.now) g.D.Draw.step ring) server draw in
    let draw_is : c.at.result ≡ inside.draw =
    draw_back stage _ c.at.result c.in_ok-seed.seed c.place-place.result c.at.ensures.standing c.in_ok-seed.ensures.open c.place-place.ensures in
    let new : Seen g.row.K.Denot g.row.S.Denot g.row.D.Denot = record { server = c.tick.new.self; latest = c.self.inside.latest; draw = c.at.result; book = c.self.inside.book } in
    let same : new ≡ inside = λ i. record { server = c.in_default.ensures.unchanged_on_memory i; latest = c.self.inside.latest; draw = draw_is i; book = c.self.inside.book } in
    subst (λ (d : Seen g.row.K.Denot g.row.S.Denot g.row.D.Denot). MayJournals bases g.K.Disk.told g.D.Seeded.place_of g.S.Seal.lock g.S.Seal.keys answer entries server c.args.now (Tick) new (Err faults.Memory) d) c.self.view_is
    (none_journals stage new faults.Memory (Err faults.Memory) refl same)

pub returns-then-not-gives_something-clause-journal : goal.returns-then-not-gives_something-clause-journal
returns-then-not-gives_something-clause-journal g c = λ entries server keeps.
    let bases : Bases g.row.S.Denot g.row.D.Denot = bases_of g.S.Seal.lock g.S.Seal.keys g.D.Draw.step g.D.Seeded.standing_at g.D.Seeded.place_of in
    let inside : Seen g.row.K.Denot g.row.S.Denot g.row.D.Denot = record { server = c.self.inside.server; latest = c.self.inside.latest; draw = c.self.inside.draw; book = c.self.inside.book } in
    let stage : Stage bases g.K.Disk.told entries inside server c.args.now =
    c.events_begin.ensures.at entries inside server c.args.now (subst (λ (d : Seen g.row.K.Denot g.row.S.Denot g.row.D.Denot). KeepsFor bases g.K.Disk.told entries d server) (sym c.self.view_is) keeps) c.is_early.ensures in
    let answer : g.row.D.Denot → Keys → Answer g.row.D.Denot = λ draw ring. after_tick (setting_of (max server.now c.args.now) g.D.Draw.step ring) server draw in
    let new : Seen g.row.K.Denot g.row.S.Denot g.row.D.Denot = record { server = c.tick.new.self; latest = c.later-moment.result; draw = c.tick.new.draw; book = c.self.inside.book } in
    let gives : (ring : Keys) → Does (IsServer new.server) g.S.Seal.lock (g.S.Seal.keys inside.server.seal) new.draw c.in-Ok.effects (answer inside.draw ring) =
    λ ring. gives_now stage g.S.Seal.lock (g.S.Seal.keys inside.server.seal) new.server new.draw c.in-Ok.effects (λ n. after_tick (setting_of n g.D.Draw.step ring) server inside.draw) (c.in-Ok.ensures.given ring server stage.keeps.stands) in
    let nothing : GivesNothing c.in-Ok.effects = c.gives_something.ensures.0 c.if-not-gives_something.true in
    let room : LeaveRoom g.row.D.Denot = record {
      packet = c.events_leave_room.ensures.packet;
      tick = c.events_leave_room.ensures.tick;
      attach = c.events_leave_room.ensures.attach;
      work = c.events_leave_room.ensures.work;
    } in
    subst (λ (d : Seen g.row.K.Denot g.row.S.Denot g.row.D.Denot). MayJournals bases g.K.Disk.told g.D.Seeded.place_of g.S.Seal.lock g.S.Seal.keys answer entries server c.args.now (Tick) new (Ok c.in-Ok.effects) d) c.self.view_is
    (quiet_journals stage new c.in-Ok.effects refl (
      record { none = λ _. refl; one = λ some. absurd (some nothing) },
      λ ring.
          does_quiet stage g.S.Seal.lock (g.S.Seal.keys inside.server.seal) new c.in-Ok.effects (answer inside.draw ring) (gives ring)
          (c.quiet_events_change_nothing.ensures.tick (setting_of (max server.now c.args.now) g.D.Draw.step ring) server inside.draw stage.keeps.stands.between.order (keeps_room stage room) (sym (gives ring).entered ∙ nothing.1))
          c.in-Ok.ensures.same_seal c.later-moment.ensures refl,
    ))

pub returns-in_err-add-clause-journal : goal.returns-in_err-add-clause-journal
returns-in_err-add-clause-journal g c = λ entries server keeps.
    let bases : Bases g.row.S.Denot g.row.D.Denot = bases_of g.S.Seal.lock g.S.Seal.keys g.D.Draw.step g.D.Seeded.standing_at g.D.Seeded.place_of in
    let inside : Seen g.row.K.Denot g.row.S.Denot g.row.D.Denot = record { server = c.self.inside.server; latest = c.self.inside.latest; draw = c.self.inside.draw; book = c.self.inside.book } in
    let stage : Stage bases g.K.Disk.told entries inside server c.args.now =
    c.events_begin.ensures.at entries inside server c.args.now (subst (λ (d : Seen g.row.K.Denot g.row.S.Denot g.row.D.Denot). KeepsFor bases g.K.Disk.told entries d server) (sym c.self.view_is) keeps) c.is_early.ensures in
    let answer : g.row.D.Denot → Keys → Answer g.row.D.Denot = λ draw ring. after_tick (setting_of (max server.now c.args.now) g.D.Draw.step ring) server draw in
    let new : Seen g.row.K.Denot g.row.S.Denot g.row.D.Denot = record { server = c.tick.new.self; latest = c.later-moment.result; draw = c.tick.new.draw; book = c.add.new.self } in
    let occurs : (ring : Keys) → Occurs stage (Tick) (answer inside.draw ring) =
    λ ring. tick_occurs stage ring c.keys_are_asked_by_packets_alone.ensures.tick c.events_draw_words.ensures.tick in
    let event : Event (List ℕ) = Tick in
    let due : Record = entry_at g.D.Seeded.place_of inside c.args.now event in
    let entry : Record = record { moment = c.seconds.result; place = c.place-place.result; event = event } in
    let due_is : entry ≡ due =
    same_record c.seconds.result (max inside.latest c.args.now) c.place-place.result (g.D.Seeded.place_of inside.draw) event (c.seconds.ensures.value ∙ c.later-moment.ensures) c.place-place.ensures in
    let own : Keys = keys_of (basis stage).keys in
    let disk : c.from_residual-in_err-add.result ≡ Err faults.Disk =
    err_is c.from_residual-in_err-add.result c.in_err-add.field-0.0 _ c.from_residual-in_err-add.ensures (λ e h. cc) ∙ ap Err c.in_err-add.ensures.disk in
    subst (λ (d : Seen g.row.K.Denot g.row.S.Denot g.row.D.Denot). MayJournals bases g.K.Disk.told g.D.Seeded.place_of g.S.Seal.lock g.S.Seal.keys answer entries server c.args.now (Tick) new (c.from_residual-in_err-add.result) d) c.self.view_is
    (failed_by (occurs own) new c.from_residual-in_err-add.result disk
    (left_in g.K.Disk.told entries entry due (its stage).file inside.book.journal c.add.new.self (its stage).opened due_is (its stage).holds c.in_err-add.ensures.any_moment))

pub returns-clause-journal : goal.returns-clause-journal
returns-clause-journal g c = λ entries server keeps.
    let bases : Bases g.row.S.Denot g.row.D.Denot = bases_of g.S.Seal.lock g.S.Seal.keys g.D.Draw.step g.D.Seeded.standing_at g.D.Seeded.place_of in
    let inside : Seen g.row.K.Denot g.row.S.Denot g.row.D.Denot = record { server = c.self.inside.server; latest = c.self.inside.latest; draw = c.self.inside.draw; book = c.self.inside.book } in
    let stage : Stage bases g.K.Disk.told entries inside server c.args.now =
    c.events_begin.ensures.at entries inside server c.args.now (subst (λ (d : Seen g.row.K.Denot g.row.S.Denot g.row.D.Denot). KeepsFor bases g.K.Disk.told entries d server) (sym c.self.view_is) keeps) c.is_early.ensures in
    let answer : g.row.D.Denot → Keys → Answer g.row.D.Denot = λ draw ring. after_tick (setting_of (max server.now c.args.now) g.D.Draw.step ring) server draw in
    let new : Seen g.row.K.Denot g.row.S.Denot g.row.D.Denot = record { server = c.tick.new.self; latest = c.later-moment.result; draw = c.tick.new.draw; book = c.add.new.self } in
    let occurs : (ring : Keys) → Occurs stage (Tick) (answer inside.draw ring) =
    λ ring. tick_occurs stage ring c.keys_are_asked_by_packets_alone.ensures.tick c.events_draw_words.ensures.tick in
    let gives : (ring : Keys) → Does (IsServer new.server) g.S.Seal.lock (g.S.Seal.keys inside.server.seal) new.draw c.in-Ok.effects (answer inside.draw ring) =
    λ ring. gives_now stage g.S.Seal.lock (g.S.Seal.keys inside.server.seal) new.server new.draw c.in-Ok.effects (λ n. after_tick (setting_of n g.D.Draw.step ring) server inside.draw) (c.in-Ok.ensures.given ring server stage.keeps.stands) in
    let event : Event (List ℕ) = Tick in
    let due : Record = entry_at g.D.Seeded.place_of inside c.args.now event in
    let entry : Record = record { moment = c.seconds.result; place = c.place-place.result; event = event } in
    let due_is : entry ≡ due =
    same_record c.seconds.result (max inside.latest c.args.now) c.place-place.result (g.D.Seeded.place_of inside.draw) event (c.seconds.ensures.value ∙ c.later-moment.ensures) c.place-place.ensures in
    let own : Keys = keys_of (basis stage).keys in
    let added = added_in g.K.Disk.told entry due (its stage).file inside.book.journal c.add.new.self.journal (its stage).opened due_is c.in_ok-add.ensures.added in
    let some : GivesNothing c.in-Ok.effects → ⊥ = λ nothing. iff_no c.gives_something.result (GivesNothing c.in-Ok.effects) c.gives_something.ensures.1 c.if-not-gives_something.false nothing in
    subst (λ (d : Seen g.row.K.Denot g.row.S.Denot g.row.D.Denot). MayJournals bases g.K.Disk.told g.D.Seeded.place_of g.S.Seal.lock g.S.Seal.keys answer entries server c.args.now (Tick) new (Ok c.in-Ok.effects) d) c.self.view_is
    (added_by (occurs own) new c.in-Ok.effects
    (left_in g.K.Disk.told entries entry due (its stage).file inside.book.journal c.add.new.self (its stage).opened due_is (its stage).holds c.in_ok-add.ensures.any_moment) (
      record { none = λ nothing. absurd (some nothing); one = λ _. refl },
      λ ring.
          does_recorded stage event (answer inside.draw ring) (occurs ring) g.S.Seal.lock (g.S.Seal.keys inside.server.seal) new c.in-Ok.effects added.0 (gives ring) c.in-Ok.ensures.same_seal
          c.later-moment.ensures added.1 added.2,
    ))
