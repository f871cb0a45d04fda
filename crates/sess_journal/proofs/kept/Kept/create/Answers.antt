use Rattle.std.proofs.Common.{[], refl, sym, ◌∙◌}
use Rattle.sess_journal.specs.Replay.{Bases, at_first, bases_of}
use Rattle.sess_journal.proofs.ResumeLemmas.{keeps_by}
use Rattle.sess_journal.proofs.kept.Kept.create.Goals as goal

pub returns-clause-stands : goal.returns-clause-stands
returns-clause-stands g c =
    let bases : Bases g.row.S.Denot g.row.D.Denot = bases_of g.S.Seal.lock g.S.Seal.keys g.D.Draw.step g.D.Seeded.standing_at g.D.Seeded.place_of in
    keeps_by bases g.K.Disk.told c.kept_by.result c.new-played.result c.in-Ok.journal [] at_first
    c.kept_by.ensures.server c.kept_by.ensures.latest c.kept_by.ensures.draw c.kept_by.ensures.book
    (c.new-played.ensures.seed ∙ sym c.in-Ok.ensures.seed) c.in-Ok.ensures.empty refl c.new-played.ensures.stands
