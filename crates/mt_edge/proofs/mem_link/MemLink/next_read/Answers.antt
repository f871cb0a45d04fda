use Rattle.std.proofs.Common.{arith}
use Rattle.std.proofs.lemmas.Grind.{common_steps}
use Rattle.mt_edge.proofs.HandLemmas.{next_told}
use Rattle.mt_edge.proofs.mem_link.MemLink.next_read.Goals as goal

-- the copied bytes are the next that are left
pub returns-clause-told : goal.returns-clause-told
returns-clause-told c =
    next_told c.args.self.now.is_untold c.args.self.now.contents c.copy_front-count.new.into c.args.self.now.written.items c.args.self.now.reads.items
    c.push-2.new.self.items c.args.self.now.came_bytes c.copy_front-count.result (grind (arith, common_steps)) (grind (arith, common_steps))
