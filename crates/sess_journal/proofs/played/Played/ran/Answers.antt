use Rattle.sess_journal.specs.Replay.{Bases, bases_of}
use Rattle.sess_journal.proofs.PlayLemmas.{ran_leads, on_ok}
use Rattle.sess_journal.proofs.played.Played.ran.Goals as goal

pub returns-clause-led : goal.returns-clause-led
returns-clause-led g c = λ reached stands le.
    let bases : Bases g.row.S.Denot g.row.D.Denot = bases_of g.S.Seal.lock g.S.Seal.keys g.D.Draw.step g.D.Seeded.standing_at g.D.Seeded.place_of in
    on_ok c.ends.result
    (λ its. ran_leads bases c.ends.new.self reached c.args.moment c.args.place c.in_ok-recorded.recorded c.args.reply.now c.in_ok-recorded.ensures its)
    (c.ends.ensures.ended reached stands le)
