use Rattle.std.proofs.Common.{◌≡◌, ℕ, min, true, MatchOption, subst}
use Rattle.client_node.specs.Kinds.{NoneBetween, has_row}
use Rattle.client_node.specs.Standing.{kept_of}
use Rattle.client_node.proofs.KindLemmas.{found_or_none}
use Rattle.client_node.proofs.calls.find.Goals as goal

pub returns-in-None : goal.returns-in-None
returns-in-None c =
    let rows = (kept_of c.args.client.now).calls.rows in
    let kind = c.args.kind in
    let found = c.first_between-in-None.result in
    found_or_none kind rows c.args.first found
    (subst (λ (count : ℕ). NoneBetween kind rows c.args.first count) c.calls-count.ensures.kept c.in-None.ensures)
    (subst (λ (count : ℕ). MatchOption found (NoneBetween kind rows 0 (min c.args.first count)) (λ place. has_row kind rows ≡ true)) c.calls-count.ensures.kept
    (subst (λ (end : ℕ). MatchOption found (NoneBetween kind rows 0 end) (λ place. has_row kind rows ≡ true)) c.min.ensures c.first_between-in-None.ensures))
