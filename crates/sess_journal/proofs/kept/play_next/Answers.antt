use Rattle.sess_journal.specs.Replay.{Bases, bases_of}
use Rattle.sess_journal.proofs.NextLemmas.{follows_next, stops_at}
use Rattle.sess_journal.proofs.kept.play_next.Goals as goal

pub returns-in-Ok-clause-follows : goal.returns-in-Ok-clause-follows
returns-in-Ok-clause-follows g c =
    let bases : Bases g.row.S.Denot g.row.D.Denot = bases_of g.S.Seal.lock g.S.Seal.keys g.D.Draw.step g.D.Seeded.standing_at g.D.Seeded.place_of in
    let f = c.requires.follows in
    follows_next bases g.K.Disk.told c.args.opening.now c.next.new.self c.args.played.now c.play.new.self f c.in_ok-entry.entry
    (c.in_ok-entry.ensures.taken f.entries f.taken) c.next.ensures.same.0 c.play.ensures.same_seed c.play.ensures.same_seal
    (c.in-Ok.ensures.played f.reached f.stands)

pub returns-clause-refused : goal.returns-clause-refused
returns-clause-refused g c =
    let bases : Bases g.row.S.Denot g.row.D.Denot = bases_of g.S.Seal.lock g.S.Seal.keys g.D.Draw.step g.D.Seeded.standing_at g.D.Seeded.place_of in
    let f = c.requires.follows in
    stops_at bases g.K.Disk.told c.args.opening.now c.args.played.now f c.next.new.self c.in_ok-entry.entry c.place-at.result c.place-at.ensures c.requires.next c.next.ensures.told c.next.ensures.same.0
    (c.in_ok-entry.ensures.taken f.entries f.taken) (c.in-Err-Unlawful.ensures.unlawful f.reached f.stands c.in-Err-Unlawful.field-0-is)
