use Rattle.std.proofs.Common.{◌≡◌, ℕ, Some, max, sym, ap, arith, refl, ◌∙◌}
use Rattle.sess_records.specs.declared.records.Event.TheVariants.{Interrupted}
use Rattle.sess_journal.specs.Keeping.{IsSameDisk, disk_in}
use Rattle.sess_journal.specs.Opening.{MayBecome}
use Rattle.sess_journal.specs.Playing.{Player}
use Rattle.sess_journal.specs.Replay.{Bases, bases_of}
use Rattle.sess_journal.proofs.OpenLemmas.{ended_at, nothing_done_at}
use Rattle.sess_journal.proofs.ResumeLemmas.{at_disk, disk_is, ending_is, resumed_none, resumed_some}
use Rattle.sess_journal.proofs.kept.resume.Goals as goal

pub returns-in_default-clause-resumed : goal.returns-in_default-clause-resumed
returns-in_default-clause-resumed g c = λ entries reached holds seed replays stands.
    let bases : Bases g.row.S.Denot g.row.D.Denot = bases_of g.S.Seal.lock g.S.Seal.keys g.D.Draw.step g.D.Seeded.standing_at g.D.Seeded.place_of in
    resumed_none bases g.K.Disk.told c.args.now c.kept_by.result c.args.played c.args.journal entries reached
    (ap (λ (p : Player g.row.S.Denot g.row.D.Denot). p.begun) (sym c.played.view_is) ∙ c.in_default.is)
    c.kept_by.ensures.server c.kept_by.ensures.latest c.kept_by.ensures.draw c.kept_by.ensures.book holds seed replays stands

pub returns-in-Ok-add-clause-resumed : goal.returns-in-Ok-add-clause-resumed
returns-in-Ok-add-clause-resumed g c = λ entries reached holds seed replays stands.
    let bases : Bases g.row.S.Denot g.row.D.Denot = bases_of g.S.Seal.lock g.S.Seal.keys g.D.Draw.step g.D.Seeded.standing_at g.D.Seeded.place_of in
    let seeded_places = g.met.D.Seeded.places in
    let is_moment = c.seconds-moment.ensures.value ∙ c.later.ensures
    ∙ ap (λ (n : ℕ). max n c.args.now) (ap (λ (p : Player g.row.S.Denot g.row.D.Denot). p.latest) c.played-2.view_is ∙ stands.latest_is) in
    let is_place = c.place-place.ensures
    ∙ ap g.D.Seeded.place_of (ap (λ (p : Player g.row.S.Denot g.row.D.Denot). p.draw) c.played-2.view_is ∙ stands.drawn) ∙ seeded_places c.args.played.seed reached.place stands.place in
    resumed_some bases g.K.Disk.told c.args.now c.in-Some._job c.kept_by-in-Ok-add.result c.args.played c.interrupted.new.self c.args.journal c.in-Ok-add.journal entries reached
    c.seconds-moment.result c.place-place.result
    (ap (λ (p : Player g.row.S.Denot g.row.D.Denot). p.begun) (sym c.played.view_is) ∙ c.in-Some.is)
    c.kept_by-in-Ok-add.ensures.server c.kept_by-in-Ok-add.ensures.latest c.kept_by-in-Ok-add.ensures.draw c.kept_by-in-Ok-add.ensures.book c.in-Ok-add.ensures.seed
    c.interrupted.ensures.same_seal c.interrupted.ensures.same_seed is_moment is_place (c.in-Ok-add.ensures.added entries holds) seed replays stands
    (c.in-Ok.ensures.led reached stands (omega (arith, is_moment)))

-- ---- the disk

pub returns-in_default-clause-counted : goal.returns-in_default-clause-counted
returns-in_default-clause-counted g c =
    at_disk (disk_in c.kept_by.result.book) c.args.journal.disk (λ other. g.K.Disk.faults other ≡ g.K.Disk.faults c.args.journal.disk) (disk_is c.kept_by.result.book c.args.journal c.kept_by.ensures.book) refl

pub returns-in_default-clause-same_disk : goal.returns-in_default-clause-same_disk
returns-in_default-clause-same_disk g c =
    at_disk (disk_in c.kept_by.result.book) c.args.journal.disk (IsSameDisk g.K.Disk.told g.K.Disk.place c.args.journal.disk) (disk_is c.kept_by.result.book c.args.journal c.kept_by.ensures.book)
    (record { tells = refl; place_is = refl })

pub returns-in_default-clause-any_moment : goal.returns-in_default-clause-any_moment
returns-in_default-clause-any_moment g c = λ first entries reached holds seed lawful stands.
    let bases : Bases g.row.S.Denot g.row.D.Denot = bases_of g.S.Seal.lock g.S.Seal.keys g.D.Draw.step g.D.Seeded.standing_at g.D.Seeded.place_of in
    nothing_done_at g.K.Disk.told (disk_in c.kept_by.result.book) c.args.journal.disk first (MayBecome (bases c.args.played.server.seal) c.args.now first.contents)
    (disk_is c.kept_by.result.book c.args.journal c.kept_by.ensures.book)

pub returns-in-Ok-add-clause-counted : goal.returns-in-Ok-add-clause-counted
returns-in-Ok-add-clause-counted g c =
    at_disk (disk_in c.kept_by-in-Ok-add.result.book) c.in-Ok-add.journal.disk (λ other. g.K.Disk.faults other ≡ g.K.Disk.faults c.args.journal.disk)
    (disk_is c.kept_by-in-Ok-add.result.book c.in-Ok-add.journal c.kept_by-in-Ok-add.ensures.book) c.in-Ok-add.ensures.counted

pub returns-in-Ok-add-clause-same_disk : goal.returns-in-Ok-add-clause-same_disk
returns-in-Ok-add-clause-same_disk g c =
    at_disk (disk_in c.kept_by-in-Ok-add.result.book) c.in-Ok-add.journal.disk (IsSameDisk g.K.Disk.told g.K.Disk.place c.args.journal.disk)
    (disk_is c.kept_by-in-Ok-add.result.book c.in-Ok-add.journal c.kept_by-in-Ok-add.ensures.book)
    (record { tells = c.in-Ok-add.ensures.tells; place_is = c.in-Ok-add.ensures.same_place })

pub returns-in-Ok-add-clause-any_moment : goal.returns-in-Ok-add-clause-any_moment
returns-in-Ok-add-clause-any_moment g c = λ first entries reached holds seed lawful stands.
    let bases : Bases g.row.S.Denot g.row.D.Denot = bases_of g.S.Seal.lock g.S.Seal.keys g.D.Draw.step g.D.Seeded.standing_at g.D.Seeded.place_of in
    let seeded_places = g.met.D.Seeded.places in
    let is_moment = c.seconds-moment.ensures.value ∙ c.later.ensures
    ∙ ap (λ (n : ℕ). max n c.args.now) (ap (λ (p : Player g.row.S.Denot g.row.D.Denot). p.latest) c.played-2.view_is ∙ stands.latest_is) in
    let is_place = c.place-place.ensures
    ∙ ap g.D.Seeded.place_of (ap (λ (p : Player g.row.S.Denot g.row.D.Denot). p.draw) c.played-2.view_is ∙ stands.drawn) ∙ seeded_places c.args.played.seed reached.place stands.place in
    let begun : reached.begun ≡ Some c.in-Some._job = sym stands.begun_is ∙ ap (λ (p : Player g.row.S.Denot g.row.D.Denot). p.begun) (sym c.played.view_is) ∙ c.in-Some.is in
    ended_at g.K.Disk.told (bases c.args.played.server.seal) c.args.now c.args.journal.seed entries reached first (record { moment = c.seconds-moment.result; place = c.place-place.result; event = Interrupted })
    (g.K.Disk.told c.args.journal.disk) (disk_in c.kept_by-in-Ok-add.result.book) c.in-Ok-add.journal.disk (disk_is c.kept_by-in-Ok-add.result.book c.in-Ok-add.journal c.kept_by-in-Ok-add.ensures.book)
    (ending_is c.args.now c.in-Some._job reached c.seconds-moment.result c.place-place.result begun is_moment is_place) lawful (c.in-Ok-add.ensures.any_moment entries holds)

pub returns-in-Err-clause-any_moment : goal.returns-in-Err-clause-any_moment
returns-in-Err-clause-any_moment g c = λ first entries reached holds seed lawful stands.
    let bases : Bases g.row.S.Denot g.row.D.Denot = bases_of g.S.Seal.lock g.S.Seal.keys g.D.Draw.step g.D.Seeded.standing_at g.D.Seeded.place_of in
    let seeded_places = g.met.D.Seeded.places in
    let is_moment = c.seconds-moment.ensures.value ∙ c.later.ensures
    ∙ ap (λ (n : ℕ). max n c.args.now) (ap (λ (p : Player g.row.S.Denot g.row.D.Denot). p.latest) c.played-2.view_is ∙ stands.latest_is) in
    let is_place = c.place-place.ensures
    ∙ ap g.D.Seeded.place_of (ap (λ (p : Player g.row.S.Denot g.row.D.Denot). p.draw) c.played-2.view_is ∙ stands.drawn) ∙ seeded_places c.args.played.seed reached.place stands.place in
    let begun : reached.begun ≡ Some c.in-Some._job = sym stands.begun_is ∙ ap (λ (p : Player g.row.S.Denot g.row.D.Denot). p.begun) (sym c.played.view_is) ∙ c.in-Some.is in
    ended_at g.K.Disk.told (bases c.args.played.server.seal) c.args.now c.args.journal.seed entries reached first (record { moment = c.seconds-moment.result; place = c.place-place.result; event = Interrupted })
    (g.K.Disk.told c.args.journal.disk) (Some c.in-Err.disk) c.in-Err.disk refl
    (ending_is c.args.now c.in-Some._job reached c.seconds-moment.result c.place-place.result begun is_moment is_place) lawful (c.in-Err.ensures.any_moment entries holds)
