use Rattle.std.proofs.Common.{◌+◌, ◌-◌, ◌++◌, ◌∷◌, [], List, ℕ, length, arith, refl, subst}
use Rattle.mt_edge.specs.declared.act.Act.TheVariants.{Ready}
use Rattle.sess_records.specs.Steps.{head_bytes}
use Rattle.sess_records.proofs.WriteLemmas.{Staging, grown_inside}
use Rattle.sess_records.proofs.JournalLemmas.{not_staged, staged_turned}
use Rattle.sess_records.proofs.journal.put_behind.Goals as goal

pub turn-requires : goal.turn-requires
turn-requires g c =
    let total = c.args.len + length c.bytes_of-front.result + length c.args.rest.now + 1 in
    grown_inside (c.args.len - 1) total (g.K.Disk.told c.args.disk.now) (g.K.Disk.told c.stage.new.disk) c.stage.ensures.tells (c.in-Ready.ensures.longer refl) (omega arith)

pub returns-in_default-clause-added : goal.returns-in_default-clause-added
returns-in_default-clause-added g c =
    let rest = c.args.rest.now in
    not_staged c.args.len ((c.bytes_of-front.result ++ rest) ++ 0 ∷ []) (head_bytes c.args.head ++ rest) (g.K.Disk.told c.args.disk.now) (g.K.Disk.told c.stage.new.disk)
    c.in_default.ensures.staged

pub returns-clause-added : goal.returns-clause-added
returns-clause-added g c =
    let rest = c.args.rest.now in
    let old = g.K.Disk.told c.args.disk.now in
    let mid = g.K.Disk.told c.stage.new.disk in
    let staged : Staging Ready ((head_bytes c.args.head ++ rest) ++ 0 ∷ []) old mid =
    subst (λ (l : List ℕ). Staging Ready ((l ++ rest) ++ 0 ∷ []) old mid) c.bytes_of-front.ensures c.in-Ready.ensures.staged in
    staged_turned c.turn.result c.args.len (c.args.len - 1) (head_bytes c.args.head ++ rest) old mid (g.K.Disk.told c.turn.new.disk) (omega (arith, c.requires.headed)) staged
    c.turn.ensures.turned
