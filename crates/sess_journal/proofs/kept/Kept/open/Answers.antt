use Rattle.std.proofs.Common.{◌∙◌, ℕ, Some, List, arith, subst, sym}
use Rattle.std.specs.Prelude.{IfSome}
use Rattle.sess_records.specs.Calls.{IfNotJournal}
use Rattle.sess_journal.specs.Opening.{IsLawfulFile, disk_left}
use Rattle.sess_journal.specs.Files.{IsNoJournalAt}
use Rattle.sess_journal.specs.Replay.{Bases, bases_of}
use Rattle.sess_journal.proofs.OpenLemmas.{never_refused, no_journal_at_once, no_journal_when_read, played_finished, played_lawful, resumed, under_seal}
use Rattle.sess_journal.proofs.kept.Kept.open.Goals as goal

-- ---- a file of lawful records

pub returns-in-Err-clause-journals_are_opened : goal.returns-in-Err-clause-journals_are_opened
returns-in-Err-clause-journals_are_opened g c = λ seed entries reached.
    let bases : Bases g.row.S.Denot g.row.D.Denot = bases_of g.S.Seal.lock g.S.Seal.keys g.D.Draw.step g.D.Seeded.standing_at g.D.Seeded.place_of in
    never_refused (bases c.args.seal) seed entries reached c.in-Err.back.1 (g.K.Disk.told c.args.disk) (λ file at spells replays none. c.lawful_files_are_opened.ensures (bases c.args.seal) seed entries reached file at c.opens_what_it_sealed.ensures spells replays none)
    (no_journal_at_once (bases c.args.seal) c.in-Err.back.1 (g.K.Disk.told c.args.disk) c.in-Err.ensures.refused)

pub returns-in-Err-play_all-clause-journals_are_opened : goal.returns-in-Err-play_all-clause-journals_are_opened
returns-in-Err-play_all-clause-journals_are_opened g c = λ seed entries reached.
    let bases : Bases g.row.S.Denot g.row.D.Denot = bases_of g.S.Seal.lock g.S.Seal.keys g.D.Draw.step g.D.Seeded.standing_at g.D.Seeded.place_of in
    let there = subst (λ (s : g.row.S.Denot). IfNotJournal c.in-Err-play_all.fault (λ at. IfSome (g.K.Disk.told c.in-Ok.opening.disk) (λ file. IsNoJournalAt (bases s) at file.contents)))
    c.new-played.ensures.seal c.in-Err-play_all.ensures.refused in
    never_refused (bases c.args.seal) seed entries reached c.in-Err-play_all.fault (g.K.Disk.told c.args.disk) (λ file at spells replays none. c.lawful_files_are_opened.ensures (bases c.args.seal) seed entries reached file at c.opens_what_it_sealed.ensures spells replays none)
    (no_journal_when_read (bases c.args.seal) c.in-Err-play_all.fault (g.K.Disk.told c.args.disk) (g.K.Disk.told c.in-Ok.opening.disk) c.in-Ok.ensures.same there)

-- ---- the end of the records

pub resume-requires-clause-short : goal.resume-requires-clause-short
resume-requires-clause-short g c = omega (arith, c.in-Ok-finish.ensures.len, c.in_default.ensures.inside, c.in_default.ensures.same.1, c.in-Ok.ensures.short)

pub returns-in-Ok-finish-clause-any_moment : goal.returns-in-Ok-finish-clause-any_moment
returns-in-Ok-finish-clause-any_moment g c =
    let bases : Bases g.row.S.Denot g.row.D.Denot = bases_of g.S.Seal.lock g.S.Seal.keys g.D.Draw.step g.D.Seeded.standing_at g.D.Seeded.place_of in
    let told = g.K.Disk.told in
    let opening = c.play_all.new.opening in
    let player = c.play_all.new.played in
    let f = c.in_default.ensures.follows in
    let old = told c.args.disk in
    let first = told c.in-Ok.opening.disk in
    let seal = c.in_default.ensures.same_seal ∙ c.new-played.ensures.seal in
    let lawful = played_lawful bases told c.calls_in_a_row.ensures.read opening player f c.in_default.ensures.all old first c.in_default.ensures.told c.in-Ok.ensures.same in
    let cut = played_finished bases told c.calls_in_a_row.ensures.read opening player f c.in_default.ensures.all old first c.in_default.ensures.told c.in-Ok.ensures.same
    c.args.now (told c.in-Ok-finish.journal.disk) c.in-Ok.ensures.any_moment (c.in-Ok-finish.ensures.any_moment f.entries f.taken) in
    under_seal bases told c.args.now player.server.seal c.args.seal old (disk_left c.resume.result) seal
    (resumed (bases player.server.seal) c.args.now opening.seed f.entries f.reached told (disk_left c.resume.result) old (told c.in-Ok-finish.journal.disk) cut lawful
    (λ start spelt. c.resume.ensures.any_moment start f.entries f.reached (c.in-Ok-finish.ensures.holds f.entries f.taken) (f.seed_is ∙ sym c.in-Ok-finish.ensures.seed)
    (subst (λ (s : List ℕ). IsLawfulFile (bases player.server.seal) s f.entries f.reached start.contents) (sym c.in-Ok-finish.ensures.seed) spelt) f.stands))

pub returns-in-Err-finish-clause-any_moment : goal.returns-in-Err-finish-clause-any_moment
returns-in-Err-finish-clause-any_moment g c =
    let bases : Bases g.row.S.Denot g.row.D.Denot = bases_of g.S.Seal.lock g.S.Seal.keys g.D.Draw.step g.D.Seeded.standing_at g.D.Seeded.place_of in
    let told = g.K.Disk.told in
    let opening = c.play_all.new.opening in
    let player = c.play_all.new.played in
    let f = c.in_default.ensures.follows in
    let old = told c.args.disk in
    let first = told c.in-Ok.opening.disk in
    let seal = c.in_default.ensures.same_seal ∙ c.new-played.ensures.seal in
    under_seal bases told c.args.now player.server.seal c.args.seal old (Some c.in-Err-finish.disk) seal
    (played_finished bases told c.calls_in_a_row.ensures.read opening player f c.in_default.ensures.all old first c.in_default.ensures.told c.in-Ok.ensures.same
    c.args.now (told c.in-Err-finish.disk) c.in-Ok.ensures.any_moment (c.in-Err-finish.ensures.any_moment f.entries f.taken))
