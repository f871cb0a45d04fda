use Rattle.std.proofs.Common.{List, [], ap}
use Rattle.auth_keys.specs.declared.ring.RingKey.{RingKey}
use Rattle.server_rules.specs.Server.{fresh_server}
use Rattle.sess_journal.specs.Replay.{Bases, Basis, bases_of}
use Rattle.sess_journal.proofs.BackLemmas.{FileLaws}
use Rattle.sess_journal.proofs.HistoryLemmas.{never_refused}
use Rattle.sess_journal.proofs.laws.journals_stay_journals.Goals as goal

pub returns : goal.returns
returns g c = λ seal desk first last disks at keeps is tells keys come.
    let bases : Bases g.row.S.Denot g.row.D.Denot = bases_of g.S.Seal.lock g.S.Seal.keys g.D.Draw.step g.D.Seeded.standing_at g.D.Seeded.place_of in
    let laws : FileLaws g.row.D.Denot = record {
      seed = c.files_spell_one_list.ensures.seed;
      entries = c.files_spell_one_list.ensures.entries;
      parts = c.records_lead_to_one_server.ensures.parts;
      opened = c.lawful_files_are_opened.ensures;
    } in
    never_refused laws c.crashes_by_acts.ensures.at_once c.crashes_after_a_sync.ensures.synced bases g.K.Disk.told seal c.calls_in_a_row.ensures.spells desk fresh_server [] first disks last at
    (λ seed. c.opens_what_it_sealed.ensures) keeps is tells
    (λ seed. ap (λ (k : List RingKey). let b : Basis g.row.D.Denot = record { lock = g.S.Seal.lock; keys = k; step = g.D.Draw.step; at = g.D.Seeded.standing_at seed; place_of = g.D.Seeded.place_of } in b) keys)
    come
