use Rattle.std.proofs.Common.{◌≡◌, ◌∙◌, sym, ap}
use Rattle.std.specs.Prelude.{ℕ, List, drop, length, ◌++◌}
use Rattle.outbox.specs.declared.body.Rest.{Rest}
use Rattle.outbox.specs.Bodies.{head_bytes, rest_of}
use Rattle.outbox.proofs.Halves.{second_of}
use Rattle.outbox.proofs.body.Body.rest.Goals as goal

behind : (head : List ℕ) (rest : Rest) (bytes body : List ℕ) → length head ≡ head_bytes → rest_of rest ≡ bytes → head ++ rest_of rest ≡ body → bytes ≡ drop head_bytes body
behind head rest bytes body count is view =
    sym is ∙ (second_of head_bytes head (rest_of rest) count ∙ ap (λ whole. drop head_bytes whole) view)

pub returns-in-Shared-clause-value : goal.returns-in-Shared-clause-value
returns-in-Shared-clause-value c =
    c.as_slice.ensures
    ∙ behind c.self.inside.head c.self.inside.rest c.in-Shared.bytes c.args.self.now c.self.invariant (ap rest_of c.in-Shared.is) c.self.view_is

pub returns-in-Short-clause-value : goal.returns-in-Short-clause-value
returns-in-Short-clause-value c =
    behind c.self.inside.head c.self.inside.rest c.in-Short.bytes c.args.self.now c.self.invariant (ap rest_of c.in-Short.is) c.self.view_is
