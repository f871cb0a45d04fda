use Rattle.std.proofs.lemmas.Result.{err_from_is_err_and}
use Rattle.sess_records.proofs.JournalLemmas.{next_seen, refused_next, same_opening, taken_opening, taken_seen, taken_told}
use Rattle.sess_records.proofs.opening.Opening.next.Goals as goal

pub invariant_of-self : goal.invariant_of-self
invariant_of-self g c =
    let inside = c.self.inside in
    same_opening inside.seed inside.gate inside.at inside.len (g.K.Disk.told inside.disk) (g.K.Disk.told c.record_at.new.disk) c.record_at.ensures.told c.self.invariant

pub invariant_of-self-2 : goal.invariant_of-self-2
invariant_of-self-2 g c =
    let inside = c.self.inside in
    let found = c.in_ok-found.found in
    let facts = c.in_ok-found.ensures in
    let open_ = next_seen _ _ c.self.view_is c.requires.next in
    let old = g.K.Disk.told inside.disk in
    let new = g.K.Disk.told c.record_at.new.disk in
    taken_opening inside.seed inside.gate inside.at inside.len old new found.entry found.gate found.next c.record_at.ensures.told open_ facts.lawful facts.next facts.inside.1 facts.found
    c.self.invariant

pub returns-in_err-found-clause-refused : goal.returns-in_err-found-clause-refused
returns-in_err-found-clause-refused g c =
    let p = err_from_is_err_and c.from_residual.result c.from_residual.ensures.1 in
    let refused = refused_next g.K.Disk.told _ _ _ c.self.view_is (next_seen _ _ c.self.view_is c.requires.next) c.in_err-found.ensures.refused in
    rw (p.1, p.2) refused

pub returns-clause-taken : goal.returns-clause-taken
returns-clause-taken g c = λ entries taken.
    let inside = c.self.inside in
    let found = c.in_ok-found.found in
    let facts = c.in_ok-found.ensures in
    let open_ = next_seen _ _ c.self.view_is c.requires.next in
    let old = g.K.Disk.told inside.disk in
    let new = g.K.Disk.told c.record_at.new.disk in
    taken_told inside.seed inside.gate inside.at inside.len old new found.entry found.gate found.next c.record_at.ensures.told open_ facts.lawful facts.next facts.found entries
    (taken_seen g.K.Disk.told entries _ _ c.self.view_is taken)
