use Rattle.std.proofs.Common.{◌≡◌, ◌≤◌, ◌+◌, ℕ, List, [], ◌∷◌, ◌++◌, Result, Err, max, sym, subst, ◌∙◌}
use Rattle.sess_records.specs.declared.records.Event.TheVariants.{Begin, Ran}
use Rattle.sess_records.specs.declared.records.Record.{Record}
use Rattle.server_core.specs.declared.desk.DeskFault.{DeskFault}
use Rattle.server_core.specs.declared.effects.Effects.{Effects}
use Rattle.server_rules.specs.Answer.{Answer, after_work}
use Rattle.server_session.specs.Says.{Keys, setting_of}
use Rattle.sess_journal.specs.Keeping.{Adds, Seen, entry_at, reply_at}
use Rattle.sess_journal.specs.Replay.{Bases, bases_of}
use Rattle.sess_journal.proofs.DeskLemmas.{err_is}
use Rattle.sess_journal.proofs.RunLemmas.{EndJournals, RunJournals, begin_refused, run_up, seed_in}
use Rattle.sess_journal.proofs.kept.Kept.work.Goals as goal

pub returns-in_err-seed-clause-journal : goal.returns-in_err-seed-clause-journal
returns-in_err-seed-clause-journal g c = λ entries server keeps.
    let bases : Bases g.row.S.Denot g.row.D.Denot = bases_of g.S.Seal.lock g.S.Seal.keys g.D.Draw.step g.D.Seeded.standing_at g.D.Seeded.place_of in
    let reply : List ℕ = reply_at g.V.Service.step c.args.service.now c.args.k server.jobs in
    let answer : g.row.D.Denot → Keys → Answer g.row.D.Denot = λ draw ring. (after_work (setting_of (max server.now c.args.now) g.D.Draw.step ring) c.args.k g.V.Service.step c.args.service.now server draw).0 in
    let service : g.row.D.Denot → Keys → g.row.V.Denot = λ draw ring. (after_work (setting_of (max server.now c.args.now) g.D.Draw.step ring) c.args.k g.V.Service.step c.args.service.now server draw).1 in
    let failed : c.from_residual.result ≡ Err c.in_err-seed.field-0.0 = err_is c.from_residual.result c.in_err-seed.field-0.0 _ c.from_residual.ensures (λ e h. cc) in
    subst (λ (r : Result Effects DeskFault). RunJournals bases g.K.Disk.told g.D.Seeded.place_of g.S.Seal.lock g.S.Seal.keys answer service c.args.k reply entries server c.args.now c.args.service.now c.begins.new.self r c.args.self.now)
    (sym failed)
    (begin_refused bases g.K.Disk.told entries c.args.self.now c.begins.new.self (entry_at g.D.Seeded.place_of c.args.self.now c.args.now (Begin c.args.k))
    (entry_at g.D.Seeded.place_of c.args.self.now c.args.now (Ran reply)) server c.in_err-seed.field-0.0 c.in_err-seed.ensures.not_memory (c.in_err-seed.ensures.journal entries server keeps))

pub returns-clause-journal : goal.returns-clause-journal
returns-clause-journal g c = λ entries server keeps.
    let bases : Bases g.row.S.Denot g.row.D.Denot = bases_of g.S.Seal.lock g.S.Seal.keys g.D.Draw.step g.D.Seeded.standing_at g.D.Seeded.place_of in
    let old : Seen g.row.K.Denot g.row.S.Denot g.row.D.Denot = c.args.self.now in
    let mid : Seen g.row.K.Denot g.row.S.Denot g.row.D.Denot = c.begins.new.self in
    let reply : List ℕ = reply_at g.V.Service.step c.args.service.now c.args.k server.jobs in
    let answer : g.row.D.Denot → Keys → Answer g.row.D.Denot = λ draw ring. (after_work (setting_of (max server.now c.args.now) g.D.Draw.step ring) c.args.k g.V.Service.step c.args.service.now server draw).0 in
    let after : g.row.D.Denot → Keys → g.row.V.Denot = λ draw ring. (after_work (setting_of (max server.now c.args.now) g.D.Draw.step ring) c.args.k g.V.Service.step c.args.service.now server draw).1 in
    let begin : Record = entry_at g.D.Seeded.place_of old c.args.now (Begin c.args.k) in
    let journal = c.in_ok-seed.ensures.journal entries server keeps in
    let first = journal.answers in
    let a : Adds bases g.K.Disk.told entries (begin ∷ []) old (record old { book = mid.book }) =
    subst (λ (d : Seen g.row.K.Denot g.row.S.Denot g.row.D.Denot). Adds bases g.K.Disk.told entries (begin ∷ []) old d) c.in_ok-seed.ensures.same
    (subst (λ (l : List Record). Adds bases g.K.Disk.told entries l old mid) first.0 journal.adds) in
    let j : EndJournals bases g.K.Disk.told g.D.Seeded.place_of g.S.Seal.lock g.S.Seal.keys answer after reply (entries ++ begin ∷ []) server c.args.now c.ends.new.service c.ends.new.self c.ends.result (record old { book = mid.book }) =
    subst (λ (d : Seen g.row.K.Denot g.row.S.Denot g.row.D.Denot).
    EndJournals bases g.K.Disk.told g.D.Seeded.place_of g.S.Seal.lock g.S.Seal.keys answer after reply (entries ++ begin ∷ []) server c.args.now c.ends.new.service c.ends.new.self c.ends.result d) c.in_ok-seed.ensures.same
    (c.ends.ensures.journal (entries ++ begin ∷ []) server first.1) in
    run_up bases g.K.Disk.told g.D.Seeded.place_of g.S.Seal.lock g.S.Seal.keys answer after c.args.k reply entries server c.args.now c.ends.new.service old c.ends.new.self mid.book c.ends.result a j
    (sym (seed_in (λ file. file.len + 262166 ≤ 268435456) mid.book.journal j.adds.file c.in_ok-seed.seed j.adds.opened c.in_ok-seed.ensures.open)
    ∙ seed_in (λ file. file.len + 262196 ≤ 268435456) old.book.journal a.file c.in_ok-seed.seed a.opened c.in_ok-seed.ensures.seed)
