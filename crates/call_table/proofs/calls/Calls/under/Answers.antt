use Rattle.std.proofs.Common.{◌≡◌, ◌∙◌, ◌-◌, ◌<◌, length, ap, sym, arith}
use Rattle.std.specs.Prelude.{option_map}
use Rattle.call_table.specs.declared.row.Row.{Row}
use Rattle.call_table.specs.Table.{Call, Sent, under_of, living_name}
use Rattle.call_table.specs.Kept.{Contents, state_of, under_in}
use Rattle.call_table.proofs.StandsLemmas.{row_under, told_stands}
use Rattle.call_table.proofs.HeldLemmas.{row_told, sent_under}
use Rattle.call_table.proofs.calls.Calls.under.Goals as goal

pub returns-clause-under : goal.returns-clause-under
returns-clause-under c = λ table stands.
    let within : c.place_of.result < length c.self.inside.rows.items = omega (arith, c.place_of.ensures, c.requires.given.0, c.requires.given.1, ap (λ (kept : Contents). length kept.rows) c.self.view_is) in
    told_stands (λ (row : Row). under_in row.progress) (λ (call : Call). option_map (λ name. under_of name.salts) (living_name call)) (row_under) c.args.self.now table c.self.inside.rows.items (c.args.call.n - 1) c.place_of.result c.index.result.now _ (ap (λ (kept : Contents). kept.rows) c.self.view_is) c.place_of.ensures within c.index.ensures (sym c.under.ensures ∙ c.unwrap.ensures) stands

pub unwrap-requires : goal.unwrap-requires
unwrap-requires c =
    let within : c.place_of.result < length c.self.inside.rows.items = omega (arith, c.place_of.ensures, c.requires.given.0, c.requires.given.1, ap (λ (kept : Contents). length kept.rows) c.self.view_is) in
    let sent : state_of c.index.result.now.progress ≡ Sent = row_told (λ (r : Row). state_of r.progress) Sent c.args.self.now c.self.inside.rows.items (c.args.call.n - 1) c.place_of.result c.index.result.now (ap (λ (kept : Contents). kept.rows) c.self.view_is) c.place_of.ensures within c.index.ensures c.requires.sent in
    rw c.under.ensures (sent_under c.index.result.now.progress sent)
