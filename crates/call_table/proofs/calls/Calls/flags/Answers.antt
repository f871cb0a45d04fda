use Rattle.std.proofs.Common.{◌≡◌, ◌∙◌, ◌-◌, ◌<◌, false, length, ap, sym, arith}
use Rattle.call_table.specs.declared.row.Row.{Row}
use Rattle.call_table.specs.Table.{Call, Sent, is_sent}
use Rattle.call_table.specs.Kept.{Contents, state_of}
use Rattle.call_table.specs.Held.{IsUnmarked}
use Rattle.call_table.proofs.StandsLemmas.{told_stands}
use Rattle.call_table.proofs.HeldLemmas.{told_kept, not_sent, all_at}
use Rattle.call_table.proofs.calls.Calls.flags.Goals as goal

pub returns-clause-flags : goal.returns-clause-flags
returns-clause-flags c = λ table stands.
    let within : c.place_of.result < length c.self.inside.rows.items = omega (arith, c.place_of.ensures, c.requires.given.0, c.requires.given.1, ap (λ (kept : Contents). length kept.rows) c.self.view_is) in
    told_stands (λ (row : Row). row.flags) (λ (call : Call). call.flags) (λ row call h. h.flags) c.args.self.now table c.self.inside.rows.items (c.args.call.n - 1) c.place_of.result c.index.result.now _ (ap (λ (kept : Contents). kept.rows) c.self.view_is) c.place_of.ensures within c.index.ensures (sym c.flags.ensures) stands

pub returns-clause-unmarked : goal.returns-clause-unmarked
returns-clause-unmarked c = λ isnt.
    let rows = c.self.inside.rows.items in
    let k = c.place_of.result in
    let row = c.index.result.now in
    let within : c.place_of.result < length c.self.inside.rows.items = omega (arith, c.place_of.ensures, c.requires.given.0, c.requires.given.1, ap (λ (kept : Contents). length kept.rows) c.self.view_is) in
    let other : is_sent (state_of row.progress) ≡ false = not_sent (state_of row.progress) (λ is. isnt (told_kept (λ (r : Row). state_of r.progress) Sent c.args.self.now rows (c.args.call.n - 1) k row (ap (λ (kept : Contents). kept.rows) c.self.view_is) c.place_of.ensures within c.index.ensures is)) in
    c.flags.ensures ∙ all_at IsUnmarked rows k row within c.index.ensures c.self.invariant.0.unmarked other
