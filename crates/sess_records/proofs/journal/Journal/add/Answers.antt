use Rattle.std.proofs.Common.{◌≡◌, ◌+◌, ◌++◌, length, arith, refl, sym, rules}
use Rattle.mt_edge.specs.declared.act.Act.TheVariants.{Ready, Failed}
use Rattle.sess_records.specs.declared.heads.Head.{Head}
use Rattle.sess_records.specs.declared.records.Record.{Record}
use Rattle.sess_records.specs.Calls.{event_in}
use Rattle.sess_records.specs.Format.{IsRecord, size_of, spelt}
use Rattle.sess_records.specs.Steps.{head_bytes}
use Rattle.sess_records.proofs.FormLemmas.{lawful_by}
use Rattle.sess_records.proofs.FileLemmas.{spelt_by}
use Rattle.sess_records.proofs.JournalLemmas.{added_journal, added_told, any_moment_told, held_seen, journal_whole, left_seen, len_seen, rose, rose_seen}
use Rattle.sess_records.proofs.journal.Journal.add.Goals as goal

pub put_behind-requires-clause-headed : goal.put_behind-requires-clause-headed
put_behind-requires-clause-headed g c = c.self.invariant.headed

pub put_behind-requires-clause-whole : goal.put_behind-requires-clause-whole
put_behind-requires-clause-whole g c = journal_whole c.self.inside.seed c.self.inside.len (g.K.Disk.told c.self.inside.disk) c.self.invariant

pub put_behind-requires-clause-room : goal.put_behind-requires-clause-room
put_behind-requires-clause-room g c = omega (arith, c.requires.room, c.rest_in-rest.ensures.size, len_seen _ _ c.self.view_is)

pub invariant_of-result : goal.invariant_of-result
invariant_of-result g c =
    let inside = c.self.inside in
    let rest = c.rest_in-rest.result.now in
    let entry : Record = record { moment = c.args.moment; place = c.args.place; event = event_in c.args.event } in
    let head : Head = record { size = length rest + 17; kind = c.kind_byte.result; moment = c.args.moment; place = c.args.place } in
    let lawful : IsRecord entry = lawful_by entry (search rules) (search rules) c.requires.lawful c.requires.short in
    let same : spelt entry ≡ head_bytes head ++ rest = spelt_by head entry rest (sym c.rest_in-rest.ensures.rest) refl (sym c.kind_byte.ensures) refl refl in
    let old = g.K.Disk.told inside.disk in
    let new = g.K.Disk.told c.put_behind.new.disk in
    let next = inside.len + (21 + length rest) + 1 in
    let more : next ≡ inside.len + size_of entry.event = omega (arith, c.rest_in-rest.ensures.size) in
    added_journal Ready inside.seed (head_bytes head ++ rest) entry inside.len next old new c.put_behind.ensures.tells lawful same more c.in-Ready.ensures.added refl c.self.invariant

pub returns-clause-added : goal.returns-clause-added
returns-clause-added g c = λ entries holds.
    let inside = c.self.inside in
    let rest = c.rest_in-rest.result.now in
    let entry : Record = record { moment = c.args.moment; place = c.args.place; event = event_in c.args.event } in
    let head : Head = record { size = length rest + 17; kind = c.kind_byte.result; moment = c.args.moment; place = c.args.place } in
    let lawful : IsRecord entry = lawful_by entry (search rules) (search rules) c.requires.lawful c.requires.short in
    let same : spelt entry ≡ head_bytes head ++ rest = spelt_by head entry rest (sym c.rest_in-rest.ensures.rest) refl (sym c.kind_byte.ensures) refl refl in
    let old = g.K.Disk.told inside.disk in
    let new = g.K.Disk.told c.put_behind.new.disk in
    let next = inside.len + (21 + length rest) + 1 in
    let more : next ≡ inside.len + size_of entry.event = omega (arith, c.rest_in-rest.ensures.size) in
    added_told Ready inside.seed (head_bytes head ++ rest) entry inside.len next old new c.put_behind.ensures.tells lawful same more c.in-Ready.ensures.added refl entries
    (held_seen g.K.Disk.told entries _ _ c.self.view_is holds)

pub returns-clause-any_moment : goal.returns-clause-any_moment
returns-clause-any_moment g c = λ entries holds.
    let inside = c.self.inside in
    let rest = c.rest_in-rest.result.now in
    let entry : Record = record { moment = c.args.moment; place = c.args.place; event = event_in c.args.event } in
    let head : Head = record { size = length rest + 17; kind = c.kind_byte.result; moment = c.args.moment; place = c.args.place } in
    let lawful : IsRecord entry = lawful_by entry (search rules) (search rules) c.requires.lawful c.requires.short in
    let same : spelt entry ≡ head_bytes head ++ rest = spelt_by head entry rest (sym c.rest_in-rest.ensures.rest) refl (sym c.kind_byte.ensures) refl refl in
    let old = g.K.Disk.told inside.disk in
    let new = g.K.Disk.told c.put_behind.new.disk in
    left_seen g.K.Disk.told entries entry _ _ c.put_behind.new.disk c.self.view_is
    (any_moment_told c.crashes_by_acts.ensures.at_once c.crashes_after_a_sync.ensures.synced Ready inside.seed (head_bytes head ++ rest) entry inside.len old new lawful same
    c.in-Ready.ensures.added entries (held_seen g.K.Disk.told entries _ _ c.self.view_is holds))

pub returns-in_default-clause-any_moment : goal.returns-in_default-clause-any_moment
returns-in_default-clause-any_moment g c = λ entries holds.
    let inside = c.self.inside in
    let rest = c.rest_in-rest.result.now in
    let entry : Record = record { moment = c.args.moment; place = c.args.place; event = event_in c.args.event } in
    let head : Head = record { size = length rest + 17; kind = c.kind_byte.result; moment = c.args.moment; place = c.args.place } in
    let lawful : IsRecord entry = lawful_by entry (search rules) (search rules) c.requires.lawful c.requires.short in
    let same : spelt entry ≡ head_bytes head ++ rest = spelt_by head entry rest (sym c.rest_in-rest.ensures.rest) refl (sym c.kind_byte.ensures) refl refl in
    let old = g.K.Disk.told inside.disk in
    let new = g.K.Disk.told c.put_behind.new.disk in
    left_seen g.K.Disk.told entries entry _ _ c.put_behind.new.disk c.self.view_is
    (any_moment_told c.crashes_by_acts.ensures.at_once c.crashes_after_a_sync.ensures.synced Failed inside.seed (head_bytes head ++ rest) entry inside.len old new lawful same
    c.in_default.ensures.added entries (held_seen g.K.Disk.told entries _ _ c.self.view_is holds))

pub returns-in_default-clause-cause : goal.returns-in_default-clause-cause
returns-in_default-clause-cause g c = rose_seen g.K.Disk.faults _ _ c.put_behind.new.disk c.self.view_is (rose _ _ c.in_default.ensures.counted)
