use Rattle.std.proofs.Common.{◌+◌, ◌++◌, length, max, arith}
use Rattle.server_rules.specs.Answer.{after_packet}
use Rattle.server_core.specs.Packets.{brought_in, effects_in}
use Rattle.server_session.specs.Says.{setting_of}
use Rattle.sess_journal.specs.Replay.{Bases, bases_of}
use Rattle.sess_journal.proofs.TraitLemmas.{behind_by, by_opened, by_refused, counts_so, does_nothing_so, does_so, full_stands, ok_map, stays_in_place, still_stands}
use Rattle.sess_journal.specs.Keeping.{disk_in}
use Rattle.sess_journal.proofs.as_desk.KeptDesk.on_packet.Goals as goal

pub returns-clause-heard : goal.returns-clause-heard
returns-clause-heard g c = λ server stands. ok_map c.on_packet.result (λ reply h. h.0) (c.on_packet.ensures.journal stands.0 server stands.1).answers

pub returns-clause-refused : goal.returns-clause-refused
returns-clause-refused g c = λ server refusal stands refused.
    let bases : Bases g.row.S.Denot g.row.D.Denot = bases_of g.S.Seal.lock g.S.Seal.keys g.D.Draw.step g.D.Seeded.standing_at g.D.Seeded.place_of in
    let old = c.args.self.now in
    let journal = c.on_packet.ensures.journal stands.0 server stands.1 in
    ok_map c.on_packet.result
    (λ reply h.
    let nothing = by_refused _ _ g.S.Seal.lock (g.S.Seal.keys old.server.seal) (max server.now c.args.now) c.args.packet.now reply.heard refusal c.opens_what_it_sealed.ensures h.0 h.1 refused in
    does_nothing_so bases g.K.Disk.told c.on_packet.new.self stands.0 old.draw c.on_packet.new.self.draw reply _ nothing.1) journal.answers

pub returns-clause-given : goal.returns-clause-given
returns-clause-given g c = λ ring server envelope of stands opens.
    let bases : Bases g.row.S.Denot g.row.D.Denot = bases_of g.S.Seal.lock g.S.Seal.keys g.D.Draw.step g.D.Seeded.standing_at g.D.Seeded.place_of in
    let old = c.args.self.now in
    let lock = g.S.Seal.lock in
    let keys = g.S.Seal.keys old.server.seal in
    let journal = c.on_packet.ensures.journal stands.0 server stands.1 in
    ok_map c.on_packet.result
    (λ reply h.
    let judged = by_opened _ _ lock keys (max server.now c.args.now) c.args.packet.now reply.heard envelope c.opens_what_it_sealed.ensures h.0 h.1 opens in
    does_so bases g.K.Disk.told c.on_packet.new.self (stands.0 ++ journal.more) lock keys c.on_packet.new.self.draw (effects_in reply)
    (after_packet (setting_of (max server.now c.args.now) g.D.Draw.step ring) (brought_in envelope) server old.draw) (judged.1 ring envelope of opens)) journal.answers

pub returns-clause-unchanged_on_memory : goal.returns-clause-unchanged_on_memory
returns-clause-unchanged_on_memory g c = λ server stands.
    let bases : Bases g.row.S.Denot g.row.D.Denot = bases_of g.S.Seal.lock g.S.Seal.keys g.D.Draw.step g.D.Seeded.standing_at g.D.Seeded.place_of in
    still_stands bases g.K.Disk.told c.on_packet.new.self stands.0 _ _ server c.args.self.now c.on_packet.result _ (c.on_packet.ensures.journal stands.0 server stands.1)

pub returns-clause-unchanged_on_full : goal.returns-clause-unchanged_on_full
returns-clause-unchanged_on_full g c = λ server len stands.
    let bases : Bases g.row.S.Denot g.row.D.Denot = bases_of g.S.Seal.lock g.S.Seal.keys g.D.Draw.step g.D.Seeded.standing_at g.D.Seeded.place_of in
    full_stands bases g.K.Disk.told c.args.self.now c.on_packet.new.self server len c.on_packet.result c.on_packet.ensures.unchanged stands

pub returns-clause-behind : goal.returns-clause-behind
returns-clause-behind g c = λ server stands short.
    let bases : Bases g.row.S.Denot g.row.D.Denot = bases_of g.S.Seal.lock g.S.Seal.keys g.D.Draw.step g.D.Seeded.standing_at g.D.Seeded.place_of in
    behind_by bases g.K.Disk.told g.K.Disk.place stands.0 server c.args.self.now c.on_packet.new.self stands.1 (22 + length c.args.packet.now) _ _ c.on_packet.result _
    c.on_packet.ensures.refuses (c.on_packet.ensures.journal stands.0 server stands.1) c.on_packet.ensures.unchanged c.on_packet.ensures.same_disk c.on_packet.ensures.same_seal (omega (arith, short)) (omega arith)

pub returns-clause-counted : goal.returns-clause-counted
returns-clause-counted g c = counts_so g.K.Disk.faults c.on_packet.result c.args.self.now.book c.on_packet.new.self.book c.has_disk.ensures c.on_packet.ensures.counted

pub returns-clause-same_binding : goal.returns-clause-same_binding
returns-clause-same_binding g c = stays_in_place g.K.Disk.told g.K.Disk.place (disk_in c.args.self.now.book) (disk_in c.on_packet.new.self.book) c.has_disk.ensures c.on_packet.ensures.same_disk
