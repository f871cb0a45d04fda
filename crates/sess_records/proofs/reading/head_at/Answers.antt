use Rattle.std.proofs.Common.{◌-◌, inl, inr, arith, refl, rules}
use Rattle.sess_records.proofs.FormLemmas.{IsHead}
use Rattle.sess_records.proofs.JournalLemmas.{head_told, too_short_told, unfit_kind_told, unfit_told}
use Rattle.sess_records.proofs.reading.head_at.Goals as goal

pub returns-then-left-clause-none : goal.returns-then-left-clause-none
returns-then-left-clause-none g c = too_short_told c.args.at c.args.len (g.K.Disk.told c.args.disk.now) c.requires.inside c.if-left.true c.requires.whole

pub returns-then-head-lt-COUNTED_BYTES-clause-none : goal.returns-then-head-lt-COUNTED_BYTES-clause-none
returns-then-head-lt-COUNTED_BYTES-clause-none g c =
    let head = c.head_of-head.result in
    let ranges : IsHead head = record { size = search rules; moment = search rules; place = search rules } in
    let old = g.K.Disk.told c.args.disk.now in
    unfit_told c.args.at c.args.len head old c.requires.inside ranges (inl c.if-head-lt-COUNTED_BYTES.true) c.requires.whole
    (head_told c.args.at 21 c.read.new.into head old refl c.head_of-head.ensures (c.in-Ready.ensures.bytes refl))

pub returns-then-left-head-clause-none : goal.returns-then-left-head-clause-none
returns-then-left-head-clause-none g c =
    let head = c.head_of-head.result in
    let ranges : IsHead head = record { size = search rules; moment = search rules; place = search rules } in
    let old = g.K.Disk.told c.args.disk.now in
    unfit_told c.args.at c.args.len head old c.requires.inside ranges (inr c.if-left-head.true) c.requires.whole
    (head_told c.args.at 21 c.read.new.into head old refl c.head_of-head.ensures (c.in-Ready.ensures.bytes refl))

pub returns-then-not-may_have-clause-none : goal.returns-then-not-may_have-clause-none
returns-then-not-may_have-clause-none g c =
    let head = c.head_of-head.result in
    let ranges : IsHead head = record { size = search rules; moment = search rules; place = search rules } in
    let old = g.K.Disk.told c.args.disk.now in
    unfit_kind_told c.args.at (head.size - 17) head old ranges (omega (arith, c.if-head-lt-COUNTED_BYTES.false)) (c.if-not-may_have.ensures.no refl)
    (head_told c.args.at 21 c.read.new.into head old refl c.head_of-head.ensures (c.in-Ready.ensures.bytes refl))
