use Rattle.std.proofs.Common.{◌≡◌, ◌≤◌, ◌+◌, ℕ, List, ◌++◌, length, take, drop, arith}
use Rattle.std.proofs.lemmas.Grind.{common_steps}
use Rattle.std.proofs.lemmas.List.{take-append-drop, drop-drop, take_at}
use Rattle.mt_edge.proofs.mem.MemSourceSource.read.Goals as goal

-- what was copied from the place on, and what is left behind it
handed : (xs copied behind : List ℕ) (place count : ℕ) → copied ≡ take count (drop place xs) → count ≤ length (drop place xs) → drop place xs ≡ take count (copied ++ behind) ++ drop (place + count) xs
handed xs copied behind place count e h =
    grind (arith, common_steps, take-append-drop count (drop place xs), drop-drop count place xs, take_at copied behind count)

-- the copied bytes are the next that are left
pub returns-clause-told : goal.returns-clause-told
returns-clause-told c =
    handed c.args.self.now.contents c.copy_from_slice.new.self (drop c.min-count.result c.args.into.now) c.args.self.now.place c.min-count.result (grind (arith, common_steps)) (grind (arith, common_steps))
