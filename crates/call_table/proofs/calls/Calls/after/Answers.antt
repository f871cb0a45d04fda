use Rattle.std.proofs.Common.{◌-◌, ◌<◌, length, ap, subst, sym, IfSome, arith}
use Rattle.call_table.specs.declared.row.Row.{Row}
use Rattle.call_table.specs.Table.{Call, IsGiven}
use Rattle.call_table.specs.Kept.{Contents}
use Rattle.call_table.proofs.StandsLemmas.{told_stands}
use Rattle.call_table.proofs.HeldLemmas.{earlier_at, earlier_given, earlier_below}
use Rattle.call_table.proofs.calls.Calls.after.Goals as goal

pub returns-clause-after : goal.returns-clause-after
returns-clause-after c = λ table stands.
    let within : c.place_of.result < length c.self.inside.rows.items = omega (arith, c.place_of.ensures, c.requires.given.0, c.requires.given.1, ap (λ (kept : Contents). length kept.rows) c.self.view_is) in
    told_stands (λ (row : Row). row.after) (λ (call : Call). call.after) (λ row call h. h.after) c.args.self.now table c.self.inside.rows.items (c.args.call.n - 1) c.place_of.result c.index.result.now _ (ap (λ (kept : Contents). kept.rows) c.self.view_is) c.place_of.ensures within c.index.ensures (sym c.after.ensures) stands

pub returns-clause-given : goal.returns-clause-given
returns-clause-given c =
    let within : c.place_of.result < length c.self.inside.rows.items = omega (arith, c.place_of.ensures, c.requires.given.0, c.requires.given.1, ap (λ (kept : Contents). length kept.rows) c.self.view_is) in
    let told = earlier_at 0 c.self.inside.rows.items c.place_of.result c.place_of.result c.index.result.now (omega arith) within c.index.ensures c.self.invariant.0.earlier in
    let given = subst (λ (kept : Contents). IfSome c.index.result.now.after (λ one. IsGiven one kept.rows)) c.self.view_is (earlier_given c.index.result.now.after c.place_of.result c.self.inside.rows.items within told) in
    rw c.after.ensures given

pub returns-clause-earlier : goal.returns-clause-earlier
returns-clause-earlier c =
    let within : c.place_of.result < length c.self.inside.rows.items = omega (arith, c.place_of.ensures, c.requires.given.0, c.requires.given.1, ap (λ (kept : Contents). length kept.rows) c.self.view_is) in
    let told = earlier_at 0 c.self.inside.rows.items c.place_of.result c.place_of.result c.index.result.now (omega arith) within c.index.ensures c.self.invariant.0.earlier in
    rw c.after.ensures (earlier_below c.index.result.now.after c.place_of.result c.args.call.n (omega (arith, c.place_of.ensures, c.requires.given.0)) told)
