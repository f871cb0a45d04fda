use Rattle.std.proofs.Common.{refl}
use Rattle.mt_edge.specs.declared.act.Act.TheVariants.{Ready, Failed}
use Rattle.sess_records.proofs.WriteLemmas.{end_inside}
use Rattle.sess_records.proofs.JournalLemmas.{finish_leaves, finished_journal, finished_told, no_next_seen, opening_whole, rose, rose_taken, taken_left_seen, taken_seen}
use Rattle.sess_records.proofs.opening.Opening.finish.Goals as goal

pub trim-requires : goal.trim-requires
trim-requires g c =
    let inside = c.self.inside in
    let old = g.K.Disk.told inside.disk in
    end_inside inside.at inside.len old (opening_whole inside.seed inside.gate inside.at inside.len old c.self.invariant) c.self.invariant.inside

pub invariant_of-result : goal.invariant_of-result
invariant_of-result g c =
    let inside = c.self.inside in
    let shut = no_next_seen _ _ c.self.view_is c.requires.no_next in
    let old = g.K.Disk.told inside.disk in
    let new = g.K.Disk.told c.trim.new.disk in
    finished_journal Ready inside.seed inside.gate inside.at inside.len old new shut c.trim.ensures.tells c.in-Ready.ensures.trimmed refl c.self.invariant

pub returns-clause-holds : goal.returns-clause-holds
returns-clause-holds g c = λ entries taken.
    let inside = c.self.inside in
    let shut = no_next_seen _ _ c.self.view_is c.requires.no_next in
    let old = g.K.Disk.told inside.disk in
    let new = g.K.Disk.told c.trim.new.disk in
    finished_told Ready inside.seed inside.gate inside.at inside.len old new shut c.trim.ensures.tells c.in-Ready.ensures.trimmed refl entries
    (taken_seen g.K.Disk.told entries _ _ c.self.view_is taken)

pub returns-clause-any_moment : goal.returns-clause-any_moment
returns-clause-any_moment g c = λ entries taken.
    let inside = c.self.inside in
    let shut = no_next_seen _ _ c.self.view_is c.requires.no_next in
    let old = g.K.Disk.told inside.disk in
    let new = g.K.Disk.told c.trim.new.disk in
    taken_left_seen g.K.Disk.told entries _ _ c.trim.new.disk c.self.view_is
    (finish_leaves c.crashes_by_acts.ensures.at_once c.crashes_after_a_sync.ensures.synced Ready inside.seed inside.gate inside.at inside.len old new shut c.in-Ready.ensures.trimmed
    entries (taken_seen g.K.Disk.told entries _ _ c.self.view_is taken))

pub returns-in_default-clause-any_moment : goal.returns-in_default-clause-any_moment
returns-in_default-clause-any_moment g c = λ entries taken.
    let inside = c.self.inside in
    let shut = no_next_seen _ _ c.self.view_is c.requires.no_next in
    let old = g.K.Disk.told inside.disk in
    let new = g.K.Disk.told c.trim.new.disk in
    taken_left_seen g.K.Disk.told entries _ _ c.trim.new.disk c.self.view_is
    (finish_leaves c.crashes_by_acts.ensures.at_once c.crashes_after_a_sync.ensures.synced Failed inside.seed inside.gate inside.at inside.len old new shut c.in_default.ensures.trimmed
    entries (taken_seen g.K.Disk.told entries _ _ c.self.view_is taken))

pub returns-in_default-clause-cause : goal.returns-in_default-clause-cause
returns-in_default-clause-cause g c = rose_taken g.K.Disk.faults _ _ c.trim.new.disk c.self.view_is (rose _ _ c.in_default.ensures.counted)
