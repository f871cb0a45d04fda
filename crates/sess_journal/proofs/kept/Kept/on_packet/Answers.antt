use Rattle.std.proofs.Common.{◌≡◌, ℕ, [], ◌∷◌, ◌++◌, Ok, Err, max, refl, sym, ap, subst, ◌∙◌}
use Rattle.envelope.specs.declared.parts.Dir.TheVariants.{Up}
use Rattle.envelope.specs.declared.parts.Envelope.{Envelope as Sealed}
use Rattle.envelope.specs.Opening.{IsRefused, Opens}
use Rattle.ring_rules.specs.Binding.{keys_of}
use Rattle.sess_records.specs.declared.records.Event.TheVariants.{Packet}
use Rattle.sess_records.specs.declared.records.Record.{Record}
use Rattle.server_core.specs.declared.desk.DeskFault.TheVariants as faults
use Rattle.server_core.specs.declared.desk.Heard.{Heard}
use Rattle.server_core.specs.Desks.{Does}
use Rattle.server_core.specs.Packets.{IsHeardOf, brought_in, effects_in}
use Rattle.server_dispatch.specs.Rings.{AreOf}
use Rattle.server_rules.specs.Answer.{Answer, after_packet}
use Rattle.server_session.specs.Says.{Keys, setting_of}
use Rattle.sess_journal.specs.Keeping.{KeepsFor, Seen, entry_at}
use Rattle.sess_journal.specs.Staging.{Stage}
use Rattle.sess_journal.specs.Replay.{Bases, bases_of}
use Rattle.sess_journal.proofs.DeskLemmas.{Occurs, added_by, added_in, does_recorded, draw_back, err_is, failed_by, gives_now, its, left_in, none_journals, quiet_journals, same_record}
use Rattle.sess_journal.proofs.EventLemmas.{packet_occurs}
use Rattle.sess_journal.proofs.HearLemmas.{HearJournals, by_judged, by_not_opened, hears_nothing}
use Rattle.sess_journal.proofs.kept.Kept.on_packet.Goals as goal

pub returns-in_err-seed-clause-journal : goal.returns-in_err-seed-clause-journal
returns-in_err-seed-clause-journal g c = λ entries server keeps.
    let failed : c.from_residual.result ≡ Err c.in_err-seed.field-0.0 = err_is c.from_residual.result c.in_err-seed.field-0.0 _ c.from_residual.ensures (λ e h. cc) in
    none_journals (c.events_begin.ensures.at entries c.args.self.now server c.args.now keeps c.is_early.ensures) c.args.self.now c.in_err-seed.field-0.0 c.from_residual.result failed refl

pub returns-in_default-clause-journal : goal.returns-in_default-clause-journal
returns-in_default-clause-journal g c = λ entries server keeps.
    let bases : Bases g.row.S.Denot g.row.D.Denot = bases_of g.S.Seal.lock g.S.Seal.keys g.D.Draw.step g.D.Seeded.standing_at g.D.Seeded.place_of in
    let inside : Seen g.row.K.Denot g.row.S.Denot g.row.D.Denot = record { server = c.self.inside.server; latest = c.self.inside.latest; draw = c.self.inside.draw; book = c.self.inside.book } in
    let stage : Stage bases g.K.Disk.told entries inside server c.args.now =
    c.events_begin.ensures.at entries inside server c.args.now (subst (λ (d : Seen g.row.K.Denot g.row.S.Denot g.row.D.Denot). KeepsFor bases g.K.Disk.told entries d server) (sym c.self.view_is) keeps) c.is_early.ensures in
    let answer : g.row.D.Denot → Keys → Sealed → Answer g.row.D.Denot = λ draw ring envelope. after_packet (setting_of (max server.now c.args.now) g.D.Draw.step ring) (brought_in envelope) server draw in
    let draw_is : c.at.result ≡ inside.draw =
    draw_back stage _ c.at.result c.in_ok-seed.seed c.place-place.result c.at.ensures.standing c.in_ok-seed.ensures.open c.place-place.ensures in
    let new : Seen g.row.K.Denot g.row.S.Denot g.row.D.Denot = record { server = c.on_packet.new.self; latest = c.self.inside.latest; draw = c.at.result; book = c.self.inside.book } in
    let same : new ≡ inside = λ i. record { server = c.in_default.ensures.unchanged_on_memory i; latest = c.self.inside.latest; draw = draw_is i; book = c.self.inside.book } in
    subst (λ (d : Seen g.row.K.Denot g.row.S.Denot g.row.D.Denot). HearJournals bases g.K.Disk.told g.D.Seeded.place_of g.S.Seal.lock g.S.Seal.keys answer entries server c.args.now c.args.packet.now new (Err faults.Memory) d) c.self.view_is
    (none_journals stage new faults.Memory (Err faults.Memory) refl same)

pub returns-in-NotOpened-clause-journal : goal.returns-in-NotOpened-clause-journal
returns-in-NotOpened-clause-journal g c = λ entries server keeps.
    let bases : Bases g.row.S.Denot g.row.D.Denot = bases_of g.S.Seal.lock g.S.Seal.keys g.D.Draw.step g.D.Seeded.standing_at g.D.Seeded.place_of in
    let inside : Seen g.row.K.Denot g.row.S.Denot g.row.D.Denot = record { server = c.self.inside.server; latest = c.self.inside.latest; draw = c.self.inside.draw; book = c.self.inside.book } in
    let stage : Stage bases g.K.Disk.told entries inside server c.args.now =
    c.events_begin.ensures.at entries inside server c.args.now (subst (λ (d : Seen g.row.K.Denot g.row.S.Denot g.row.D.Denot). KeepsFor bases g.K.Disk.told entries d server) (sym c.self.view_is) keeps) c.is_early.ensures in
    let answer : g.row.D.Denot → Keys → Sealed → Answer g.row.D.Denot = λ draw ring envelope. after_packet (setting_of (max server.now c.args.now) g.D.Draw.step ring) (brought_in envelope) server draw in
    let lock = g.S.Seal.lock in
    let keys = g.S.Seal.keys inside.server.seal in
    let heard : IsHeardOf lock keys (max inside.server.moment c.args.now) c.args.packet.now c.in-Ok.reply.heard = c.in-Ok.ensures.heard in
    let heard_now : IsHeardOf lock keys (max server.now c.args.now) c.args.packet.now c.in-Ok.reply.heard =
    subst (λ (n : ℕ). IsHeardOf lock keys (max n c.args.now) c.args.packet.now c.in-Ok.reply.heard) stage.keeps.stands.stands.moment heard in
    let refusal = c.in-NotOpened.field-0 in
    let refused : IsRefused lock keys (max inside.server.moment c.args.now) Up c.args.packet.now refusal =
    subst (λ (h : Heard). IsHeardOf lock keys (max inside.server.moment c.args.now) c.args.packet.now h) c.in-NotOpened.is heard in
    let nothing = c.in-Ok.ensures.refused refusal refused in
    let new : Seen g.row.K.Denot g.row.S.Denot g.row.D.Denot = record { server = c.on_packet.new.self; latest = c.later-moment.result; draw = c.on_packet.new.draw; book = c.self.inside.book } in
    subst (λ (d : Seen g.row.K.Denot g.row.S.Denot g.row.D.Denot). HearJournals bases g.K.Disk.told g.D.Seeded.place_of g.S.Seal.lock g.S.Seal.keys answer entries server c.args.now c.args.packet.now new (Ok c.in-Ok.reply) d) c.self.view_is
    (quiet_journals stage new c.in-Ok.reply refl (
      heard_now,
      by_not_opened _ _ c.in-Ok.reply.heard refusal c.in-NotOpened.is (refl, hears_nothing stage new c.in-Ok.reply nothing (c.in-Ok.ensures.stays server refusal stage.keeps.stands refused) c.later-moment.ensures refl),
    ))

pub returns-in_err-add-in-Judged-clause-journal : goal.returns-in_err-add-in-Judged-clause-journal
returns-in_err-add-in-Judged-clause-journal g c = λ entries server keeps.
    let bases : Bases g.row.S.Denot g.row.D.Denot = bases_of g.S.Seal.lock g.S.Seal.keys g.D.Draw.step g.D.Seeded.standing_at g.D.Seeded.place_of in
    let inside : Seen g.row.K.Denot g.row.S.Denot g.row.D.Denot = record { server = c.self.inside.server; latest = c.self.inside.latest; draw = c.self.inside.draw; book = c.self.inside.book } in
    let stage : Stage bases g.K.Disk.told entries inside server c.args.now =
    c.events_begin.ensures.at entries inside server c.args.now (subst (λ (d : Seen g.row.K.Denot g.row.S.Denot g.row.D.Denot). KeepsFor bases g.K.Disk.told entries d server) (sym c.self.view_is) keeps) c.is_early.ensures in
    let answer : g.row.D.Denot → Keys → Sealed → Answer g.row.D.Denot = λ draw ring envelope. after_packet (setting_of (max server.now c.args.now) g.D.Draw.step ring) (brought_in envelope) server draw in
    let lock = g.S.Seal.lock in
    let keys = g.S.Seal.keys inside.server.seal in
    let heard_now : IsHeardOf lock keys (max server.now c.args.now) c.args.packet.now c.in-Ok.reply.heard =
    subst (λ (n : ℕ). IsHeardOf lock keys (max n c.args.now) c.args.packet.now c.in-Ok.reply.heard) stage.keeps.stands.stands.moment c.in-Ok.ensures.heard in
    let judged = subst (λ (h : Heard). IsHeardOf lock keys (max server.now c.args.now) c.args.packet.now h) c.in-Judged.is heard_now in
    let occurs : (ring : Keys) (envelope : Sealed) → AreOf keys ring → Opens lock keys (max server.now c.args.now) Up c.args.packet.now envelope → Occurs stage (Packet c.args.packet.now) (answer inside.draw ring envelope) =
    λ ring envelope of opens.
    packet_occurs stage c.args.packet.now ring envelope (c.rings_say_one_thing.ensures keys ring (keys_of keys) of (c.rings_have_keys.ensures keys)) opens c.events_draw_words.ensures.packet in
    let first = occurs (keys_of keys) judged.0 (c.rings_have_keys.ensures keys) judged.1 in
    let due : Record = entry_at g.D.Seeded.place_of inside c.args.now (Packet c.args.packet.now) in
    let entry : Record = record { moment = c.seconds.result; place = c.place-place.result; event = Packet c.args.packet.now } in
    let due_is : entry ≡ due =
    same_record c.seconds.result (max inside.latest c.args.now) c.place-place.result (g.D.Seeded.place_of inside.draw) (Packet c.args.packet.now) (c.seconds.ensures.value ∙ c.later-moment.ensures) c.place-place.ensures in
    let new : Seen g.row.K.Denot g.row.S.Denot g.row.D.Denot = record { server = c.on_packet.new.self; latest = c.later-moment.result; draw = c.on_packet.new.draw; book = c.add.new.self } in
    let disk : c.from_residual-in_err-add-in-Judged.result ≡ Err faults.Disk =
    err_is c.from_residual-in_err-add-in-Judged.result c.in_err-add-in-Judged.field-0.0 _ c.from_residual-in_err-add-in-Judged.ensures (λ e h. cc) ∙ ap Err c.in_err-add-in-Judged.ensures.disk in
    subst (λ (d : Seen g.row.K.Denot g.row.S.Denot g.row.D.Denot). HearJournals bases g.K.Disk.told g.D.Seeded.place_of g.S.Seal.lock g.S.Seal.keys answer entries server c.args.now c.args.packet.now new (c.from_residual-in_err-add-in-Judged.result) d) c.self.view_is
    (failed_by first new c.from_residual-in_err-add-in-Judged.result disk
    (left_in g.K.Disk.told entries entry due (its stage).file inside.book.journal c.add.new.self (its stage).opened due_is (its stage).holds c.in_err-add-in-Judged.ensures.any_moment))

pub returns-in_ok-add-in-Judged-clause-journal : goal.returns-in_ok-add-in-Judged-clause-journal
returns-in_ok-add-in-Judged-clause-journal g c = λ entries server keeps.
    let bases : Bases g.row.S.Denot g.row.D.Denot = bases_of g.S.Seal.lock g.S.Seal.keys g.D.Draw.step g.D.Seeded.standing_at g.D.Seeded.place_of in
    let inside : Seen g.row.K.Denot g.row.S.Denot g.row.D.Denot = record { server = c.self.inside.server; latest = c.self.inside.latest; draw = c.self.inside.draw; book = c.self.inside.book } in
    let stage : Stage bases g.K.Disk.told entries inside server c.args.now =
    c.events_begin.ensures.at entries inside server c.args.now (subst (λ (d : Seen g.row.K.Denot g.row.S.Denot g.row.D.Denot). KeepsFor bases g.K.Disk.told entries d server) (sym c.self.view_is) keeps) c.is_early.ensures in
    let answer : g.row.D.Denot → Keys → Sealed → Answer g.row.D.Denot = λ draw ring envelope. after_packet (setting_of (max server.now c.args.now) g.D.Draw.step ring) (brought_in envelope) server draw in
    let lock = g.S.Seal.lock in
    let keys = g.S.Seal.keys inside.server.seal in
    let heard_now : IsHeardOf lock keys (max server.now c.args.now) c.args.packet.now c.in-Ok.reply.heard =
    subst (λ (n : ℕ). IsHeardOf lock keys (max n c.args.now) c.args.packet.now c.in-Ok.reply.heard) stage.keeps.stands.stands.moment c.in-Ok.ensures.heard in
    let judged = subst (λ (h : Heard). IsHeardOf lock keys (max server.now c.args.now) c.args.packet.now h) c.in-Judged.is heard_now in
    let occurs : (ring : Keys) (envelope : Sealed) → AreOf keys ring → Opens lock keys (max server.now c.args.now) Up c.args.packet.now envelope → Occurs stage (Packet c.args.packet.now) (answer inside.draw ring envelope) =
    λ ring envelope of opens.
    packet_occurs stage c.args.packet.now ring envelope (c.rings_say_one_thing.ensures keys ring (keys_of keys) of (c.rings_have_keys.ensures keys)) opens c.events_draw_words.ensures.packet in
    let first = occurs (keys_of keys) judged.0 (c.rings_have_keys.ensures keys) judged.1 in
    let due : Record = entry_at g.D.Seeded.place_of inside c.args.now (Packet c.args.packet.now) in
    let entry : Record = record { moment = c.seconds.result; place = c.place-place.result; event = Packet c.args.packet.now } in
    let due_is : entry ≡ due =
    same_record c.seconds.result (max inside.latest c.args.now) c.place-place.result (g.D.Seeded.place_of inside.draw) (Packet c.args.packet.now) (c.seconds.ensures.value ∙ c.later-moment.ensures) c.place-place.ensures in
    let new : Seen g.row.K.Denot g.row.S.Denot g.row.D.Denot = record { server = c.on_packet.new.self; latest = c.later-moment.result; draw = c.on_packet.new.draw; book = c.add.new.self } in
    let added = added_in g.K.Disk.told entry due (its stage).file inside.book.journal c.add.new.self.journal (its stage).opened due_is c.in_ok-add-in-Judged.ensures.added in
    let does : (ring : Keys) (envelope : Sealed) → AreOf keys ring → Opens lock keys (max server.now c.args.now) Up c.args.packet.now envelope
    → Does (KeepsFor bases g.K.Disk.told (entries ++ due ∷ []) new) lock keys new.draw (effects_in c.in-Ok.reply) (answer inside.draw ring envelope) =
    λ ring envelope of opens.
    let opens_then : Opens lock keys (max inside.server.moment c.args.now) Up c.args.packet.now envelope =
    subst (λ (n : ℕ). Opens lock keys (max n c.args.now) Up c.args.packet.now envelope) (sym stage.keeps.stands.stands.moment) opens in
    does_recorded stage (Packet c.args.packet.now) (answer inside.draw ring envelope) (occurs ring envelope of opens) lock keys new (effects_in c.in-Ok.reply) added.0
    (gives_now stage lock keys new.server new.draw (effects_in c.in-Ok.reply) (λ n. after_packet (setting_of n g.D.Draw.step ring) (brought_in envelope) server inside.draw)
    (c.in-Ok.ensures.given ring server envelope of stage.keeps.stands opens_then)) c.in-Ok.ensures.same_seal c.later-moment.ensures added.1 added.2 in
    subst (λ (d : Seen g.row.K.Denot g.row.S.Denot g.row.D.Denot). HearJournals bases g.K.Disk.told g.D.Seeded.place_of g.S.Seal.lock g.S.Seal.keys answer entries server c.args.now c.args.packet.now new (Ok c.in-Ok.reply) d) c.self.view_is
    (added_by first new c.in-Ok.reply
    (left_in g.K.Disk.told entries entry due (its stage).file inside.book.journal c.add.new.self (its stage).opened due_is (its stage).holds c.in_ok-add-in-Judged.ensures.any_moment)
    (heard_now, by_judged _ _ c.in-Ok.reply.heard c.in-Judged.key c.in-Judged.session c.in-Judged.is (refl, does)))
