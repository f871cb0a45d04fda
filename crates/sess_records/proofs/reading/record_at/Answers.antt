use Rattle.std.proofs.Common.{ℕ, ◌-◌, length, ap, arith, refl, subst, sym}
use Rattle.sess_records.specs.declared.records.Record.{Record}
use Rattle.sess_records.specs.Steps.{MayHave}
use Rattle.sess_records.proofs.FormLemmas.{IsHead}
use Rattle.sess_records.proofs.KindLemmas.{size_rest}
use Rattle.sess_records.proofs.JournalLemmas.{Read, read_lawful, read_told}
use Rattle.sess_records.proofs.reading.record_at.Goals as goal

pub event_of-event-requires : goal.event_of-event-requires
event_of-event-requires g c =
    let head = c.in-Some.head in
    subst (λ (n : ℕ). MayHave head.kind n) (sym c.in_ok-rest.ensures.count) (rw c.in-Some.is at c.in_ok-head.ensures.kind)

pub returns-in_default-clause-refused : goal.returns-in_default-clause-refused
returns-in_default-clause-refused g c = (refl, rw c.in_default.is at c.in_ok-head.ensures.none)

pub returns-clause-found : goal.returns-clause-found
returns-clause-found g c =
    let head = c.in-Some.head in
    let fits = rw c.in-Some.is at c.in_ok-head.ensures.fits in
    let rest = c.in_ok-rest.rest in
    let event = c.event_of-event.result in
    let entry : Record = record { moment = head.moment; place = head.place; event = event } in
    let is : Read head rest entry =
    record { event = c.event_of-event.ensures.0; kind = c.event_of-event.ensures.1; rest_is = c.event_of-event.ensures.2; moment = refl; place = refl } in
    let read = rw c.in-Some.is at c.in_ok-head.ensures.head in
    read_told head rest entry c.args.at (head.size - 17) c.in_ok-rest.gate (g.K.Disk.told c.args.disk.now) (g.K.Disk.told c.head_at.new.disk) c.head_at.ensures.told
    (omega (arith, fits.0)) c.in_ok-rest.ensures.count is read c.in_ok-rest.ensures.rest

pub returns-clause-lawful : goal.returns-clause-lawful
returns-clause-lawful g c =
    let head = c.in-Some.head in
    let fits = rw c.in-Some.is at c.in_ok-head.ensures.fits in
    let rest = c.in_ok-rest.rest in
    let event = c.event_of-event.result in
    let entry : Record = record { moment = head.moment; place = head.place; event = event } in
    let is : Read head rest entry =
    record { event = c.event_of-event.ensures.0; kind = c.event_of-event.ensures.1; rest_is = c.event_of-event.ensures.2; moment = refl; place = refl } in
    let in_range = rw c.in-Some.is at c.in_ok-head.ensures.ranges in
    let ranges : IsHead head = record { size = in_range.0; moment = in_range.1; place = in_range.2 } in
    read_lawful head rest entry (head.size - 17) ranges (omega (arith, fits.0)) c.in_ok-rest.ensures.count is

pub returns-clause-next : goal.returns-clause-next
returns-clause-next g c =
    let event = c.event_of-event.result in
    omega (arith, size_rest event, ap length c.event_of-event.ensures.2, c.in_ok-rest.ensures.count)

pub returns-clause-inside : goal.returns-clause-inside
returns-clause-inside g c =
    let fits = rw c.in-Some.is at c.in_ok-head.ensures.fits in
    (omega arith, omega (arith, fits.0, fits.1))
