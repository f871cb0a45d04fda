use Rattle.std.proofs.Common.{◌++◌, max, arith}
use Rattle.server_rules.specs.Answer.{after_attach}
use Rattle.server_rules.specs.Server.{Name}
use Rattle.server_session.specs.Says.{setting_of}
use Rattle.sess_journal.specs.Replay.{Bases, bases_of}
use Rattle.sess_journal.proofs.TraitLemmas.{behind_by, counts_so, does_so, full_stands, ok_map, stays_in_place, still_stands}
use Rattle.sess_journal.specs.Keeping.{disk_in}
use Rattle.sess_journal.proofs.as_desk.KeptDesk.attach.Goals as goal

pub returns-clause-given : goal.returns-clause-given
returns-clause-given g c = λ ring server stands.
    let bases : Bases g.row.S.Denot g.row.D.Denot = bases_of g.S.Seal.lock g.S.Seal.keys g.D.Draw.step g.D.Seeded.standing_at g.D.Seeded.place_of in
    let name : Name = record { key = c.args.key; session = c.args.session } in
    let journal = c.attach.ensures.journal stands.0 server stands.1 in
    ok_map c.attach.result
    (λ effects h. does_so bases g.K.Disk.told c.attach.new.self (stands.0 ++ journal.more) g.S.Seal.lock (g.S.Seal.keys c.args.self.now.server.seal) c.attach.new.self.draw effects
    (after_attach (setting_of (max server.now c.args.now) g.D.Draw.step ring) name server c.args.self.now.draw) (h.1 ring)) journal.answers

pub returns-clause-unchanged_on_memory : goal.returns-clause-unchanged_on_memory
returns-clause-unchanged_on_memory g c = λ server stands.
    let bases : Bases g.row.S.Denot g.row.D.Denot = bases_of g.S.Seal.lock g.S.Seal.keys g.D.Draw.step g.D.Seeded.standing_at g.D.Seeded.place_of in
    still_stands bases g.K.Disk.told c.attach.new.self stands.0 _ _ server c.args.self.now c.attach.result _ (c.attach.ensures.journal stands.0 server stands.1)

pub returns-clause-unchanged_on_full : goal.returns-clause-unchanged_on_full
returns-clause-unchanged_on_full g c = λ server len stands.
    let bases : Bases g.row.S.Denot g.row.D.Denot = bases_of g.S.Seal.lock g.S.Seal.keys g.D.Draw.step g.D.Seeded.standing_at g.D.Seeded.place_of in
    full_stands bases g.K.Disk.told c.args.self.now c.attach.new.self server len c.attach.result c.attach.ensures.unchanged stands

pub returns-clause-behind : goal.returns-clause-behind
returns-clause-behind g c = λ server stands.
    let bases : Bases g.row.S.Denot g.row.D.Denot = bases_of g.S.Seal.lock g.S.Seal.keys g.D.Draw.step g.D.Seeded.standing_at g.D.Seeded.place_of in
    behind_by bases g.K.Disk.told g.K.Disk.place stands.0 server c.args.self.now c.attach.new.self stands.1 38 _ _ c.attach.result _
    c.attach.ensures.refuses (c.attach.ensures.journal stands.0 server stands.1) c.attach.ensures.unchanged c.attach.ensures.same_disk c.attach.ensures.same_seal (omega arith) (omega arith)

pub returns-clause-counted : goal.returns-clause-counted
returns-clause-counted g c = counts_so g.K.Disk.faults c.attach.result c.args.self.now.book c.attach.new.self.book c.has_disk.ensures c.attach.ensures.counted

pub returns-clause-same_binding : goal.returns-clause-same_binding
returns-clause-same_binding g c = stays_in_place g.K.Disk.told g.K.Disk.place (disk_in c.args.self.now.book) (disk_in c.attach.new.self.book) c.has_disk.ensures c.attach.ensures.same_disk
