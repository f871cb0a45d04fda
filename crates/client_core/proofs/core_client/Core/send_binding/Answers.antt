use Rattle.std.proofs.Common.{◌∙◌, ap, sym, Option, option_map}
use Rattle.client_rules.specs.Client.{Client, Temporary, Asked, at_moment, with_binding}
use Rattle.client_rules.specs.Flush.{binding_alone}
use Rattle.call_table.specs.Table.{no_calls}
use Rattle.client_core.specs.Kept.{Contents, Stands, temporary_in}
use Rattle.client_core.proofs.core_client.Core.send_binding.Goals as goal

pub returns-clause-stands : goal.returns-clause-stands
returns-clause-stands g c client stands =
    let now = at_moment c.args.now client in
    let inside : Stands (Rattle.client_core.specs.contracts.core_client.Core.the_view c.self.inside) now = rw c.self.view_is (c.at.ensures.stands client stands) in
    let bound = c.unmark_binding.ensures.bound now c.args.lone.message (sym (ap (λ (rest : Client). rest.temporary) inside.rest))
    (ap binding_alone (sym (ap (λ (rest : Client). rest.temporary) stands.rest)) ∙ c.requires.alone) in
    rw (sym c.requires.inner) (c.remember_lone.ensures.stands (with_binding (Asked c.args.lone.message) now) (record {
      rest = ap (λ (rest : Client). record rest { temporary = option_map temporary_in c.unmark_binding.new.temporary }) inside.rest
          ∙ ap (λ (temporary : Option Temporary). record now { temporary = temporary; table = no_calls }) (sym bound);
      calls = inside.calls;
    }))

pub returns-clause-learnt : goal.returns-clause-learnt
returns-clause-learnt g c =
    ap (λ (rest : Client). rest.learnt) c.remember_lone.ensures.rest ∙ (ap (λ (core : Contents). core.rest.learnt) c.self.view_is ∙ c.at.ensures.learnt)
