use Rattle.std.proofs.Common.{◌++◌, ◌∷◌, []}
use Rattle.mt_edge.specs.declared.act.Act.TheVariants.{Ready, Failed}
use Rattle.sess_records.proofs.WriteLemmas.{appended_settled, not_appended, two_appended}
use Rattle.sess_records.proofs.writes.stage.Goals as goal

pub returns-in_default-clause-staged : goal.returns-in_default-clause-staged
returns-in_default-clause-staged g c =
    let head = c.args.head.now in
    let rest = c.args.rest.now in
    not_appended head ((head ++ rest) ++ 0 ∷ []) (g.K.Disk.told c.args.disk.now) (g.K.Disk.told c.append.new.disk) c.in_default.ensures.appended

pub returns-in_default-append-clause-staged : goal.returns-in_default-append-clause-staged
returns-in_default-append-clause-staged g c =
    let head = c.args.head.now in
    let rest = c.args.rest.now in
    let old = g.K.Disk.told c.args.disk.now in
    let one = g.K.Disk.told c.append.new.disk in
    let two = g.K.Disk.told c.append-2.new.disk in
    not_appended (head ++ rest) ((head ++ rest) ++ 0 ∷ []) old two
    (two_appended Failed head rest old one two c.in-Ready.ensures.appended c.in_default-append.ensures.appended)

pub returns-in_default-append-2-clause-staged : goal.returns-in_default-append-2-clause-staged
returns-in_default-append-2-clause-staged g c =
    let head = c.args.head.now in
    let rest = c.args.rest.now in
    let old = g.K.Disk.told c.args.disk.now in
    let one = g.K.Disk.told c.append.new.disk in
    let two = g.K.Disk.told c.append-2.new.disk in
    let three = g.K.Disk.told c.append-3.new.disk in
    not_appended ((head ++ rest) ++ 0 ∷ []) ((head ++ rest) ++ 0 ∷ []) old three
    (two_appended Failed (head ++ rest) (0 ∷ []) old two three (two_appended Ready head rest old one two c.in-Ready.ensures.appended c.in-Ready-append.ensures.appended)
    c.in_default-append-2.ensures.appended)

pub returns-clause-staged : goal.returns-clause-staged
returns-clause-staged g c =
    let head = c.args.head.now in
    let rest = c.args.rest.now in
    let old = g.K.Disk.told c.args.disk.now in
    let one = g.K.Disk.told c.append.new.disk in
    let two = g.K.Disk.told c.append-2.new.disk in
    let three = g.K.Disk.told c.append-3.new.disk in
    appended_settled c.settle.result ((head ++ rest) ++ 0 ∷ []) old three (g.K.Disk.told c.settle.new.disk)
    (two_appended Ready (head ++ rest) (0 ∷ []) old two three (two_appended Ready head rest old one two c.in-Ready.ensures.appended c.in-Ready-append.ensures.appended)
    c.in-Ready-append-2.ensures.appended)
    c.settle.ensures.settled
