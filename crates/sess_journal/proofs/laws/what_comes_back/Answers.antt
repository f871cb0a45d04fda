use Rattle.std.proofs.Common.{List, ap}
use Rattle.auth_keys.specs.declared.ring.RingKey.{RingKey}
use Rattle.sess_journal.specs.Replay.{Bases, Basis, bases_of}
use Rattle.sess_journal.proofs.BackLemmas.{FileLaws, comes_back, comes_back_whole, not_refused, returns_after}
use Rattle.sess_journal.proofs.laws.what_comes_back.Goals as goal

pub returns-clause-back : goal.returns-clause-back
returns-clause-back g c = λ entries more before after desk left disk now adds holds bytes keys opened.
    let bases : Bases g.row.S.Denot g.row.D.Denot = bases_of g.S.Seal.lock g.S.Seal.keys g.D.Draw.step g.D.Seeded.standing_at g.D.Seeded.place_of in
    let laws : FileLaws g.row.D.Denot = record {
      seed = c.files_spell_one_list.ensures.seed;
      entries = c.files_spell_one_list.ensures.entries;
      parts = c.records_lead_to_one_server.ensures.parts;
      opened = c.lawful_files_are_opened.ensures;
    } in
    comes_back laws bases g.K.Disk.told entries more before after adds left holds disk now desk bytes
    (λ seed. ap (λ (k : List RingKey). let b : Basis g.row.D.Denot = record { lock = g.S.Seal.lock; keys = k; step = g.D.Draw.step; at = g.D.Seeded.standing_at seed; place_of = g.D.Seeded.place_of } in b) keys)
    opened

pub returns-clause-is_journal : goal.returns-clause-is_journal
returns-clause-is_journal g c = λ entries more before after left seal at adds holds keys.
    let bases : Bases g.row.S.Denot g.row.D.Denot = bases_of g.S.Seal.lock g.S.Seal.keys g.D.Draw.step g.D.Seeded.standing_at g.D.Seeded.place_of in
    let laws : FileLaws g.row.D.Denot = record {
      seed = c.files_spell_one_list.ensures.seed;
      entries = c.files_spell_one_list.ensures.entries;
      parts = c.records_lead_to_one_server.ensures.parts;
      opened = c.lawful_files_are_opened.ensures;
    } in
    not_refused laws bases g.K.Disk.told entries more before after adds left holds seal at
    (λ seed. ap (λ (k : List RingKey). let b : Basis g.row.D.Denot = record { lock = g.S.Seal.lock; keys = k; step = g.D.Draw.step; at = g.D.Seeded.standing_at seed; place_of = g.D.Seeded.place_of } in b) keys)
    c.opens_what_it_sealed.ensures

pub returns-clause-at_rest : goal.returns-clause-at_rest
returns-clause-at_rest g c = λ entries server before desk left disk now keeps holds bytes keys opened.
    let bases : Bases g.row.S.Denot g.row.D.Denot = bases_of g.S.Seal.lock g.S.Seal.keys g.D.Draw.step g.D.Seeded.standing_at g.D.Seeded.place_of in
    let laws : FileLaws g.row.D.Denot = record {
      seed = c.files_spell_one_list.ensures.seed;
      entries = c.files_spell_one_list.ensures.entries;
      parts = c.records_lead_to_one_server.ensures.parts;
      opened = c.lawful_files_are_opened.ensures;
    } in
    comes_back_whole laws bases g.K.Disk.told entries server before keeps left holds c.crashes_by_acts.ensures.at_once c.crashes_after_a_sync.ensures.synced c.calls_in_a_row.ensures.spells disk now desk bytes
    (λ seed. ap (λ (k : List RingKey). let b : Basis g.row.D.Denot = record { lock = g.S.Seal.lock; keys = k; step = g.D.Draw.step; at = g.D.Seeded.standing_at seed; place_of = g.D.Seeded.place_of } in b) keys)
    opened

pub returns-clause-in_open : goal.returns-clause-in_open
returns-clause-in_open g c = λ seal seed entries more reached before after earlier now desk left disk replays holds leaves may bytes keys opened.
    let bases : Bases g.row.S.Denot g.row.D.Denot = bases_of g.S.Seal.lock g.S.Seal.keys g.D.Draw.step g.D.Seeded.standing_at g.D.Seeded.place_of in
    let laws : FileLaws g.row.D.Denot = record {
      seed = c.files_spell_one_list.ensures.seed;
      entries = c.files_spell_one_list.ensures.entries;
      parts = c.records_lead_to_one_server.ensures.parts;
      opened = c.lawful_files_are_opened.ensures;
    } in
    returns_after laws bases g.K.Disk.told seal left disk now desk bytes
    (λ seed. ap (λ (k : List RingKey). let b : Basis g.row.D.Denot = record { lock = g.S.Seal.lock; keys = k; step = g.D.Draw.step; at = g.D.Seeded.standing_at seed; place_of = g.D.Seeded.place_of } in b) keys)
    opened c.crashes_by_acts.ensures.at_once seed entries more reached earlier before after replays holds leaves may
