use Rattle.std.proofs.Common.{sym, subst, not, arith}
use Rattle.server_rules.specs.Server.{Name}
use Rattle.server_core.specs.Sessions.{AreApart, HaveOtherNames, is_kept_as}
use Rattle.server_core.proofs.Pairs.{pairs-filter}
use Rattle.server_core.proofs.others.Others.take_out.Goals as goal

pub invariant_of-self : goal.invariant_of-self
invariant_of-self c =
    let name : Name = record { key = c.args.key; session = c.args.number } in (
      subst AreApart (sym c.out_of.ensures.others)
          (pairs-filter HaveOtherNames (λ standing. not (is_kept_as name standing)) c.self.inside.list.items c.self.invariant.0),
      omega (arith, c.out_of.ensures.fewer, c.out_of.ensures.capacity, c.self.invariant.1),
    )
