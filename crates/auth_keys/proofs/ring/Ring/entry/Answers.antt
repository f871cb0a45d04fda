use Rattle.std.proofs.Common.{◌≡◌, ◌≢◌, ◌∙◌, ℕ, List, All, Some, ap, sym, subst, get_or}
use Rattle.auth_keys.specs.Keys.{identifier}
use Rattle.auth_keys.specs.Rings.{entry_of}
use Rattle.auth_keys.specs.declared.ring.RingKey.{RingKey}
use Rattle.auth_keys.proofs.RingLemmas.{entry_of-at, entry_of-none}
use Rattle.auth_keys.proofs.ring.Ring.entry.Goals as goal

pub returns-in_err-place-clause-none : goal.returns-in_err-place-clause-none
returns-in_err-place-clause-none c =
    let kept = c.deref.ensures.value in
    let seen = c.self.view_is in
    let same : c.deref.result.now ≡ c.args.self.now = cc in
    rw c.from_residual.ensures (entry_of-none c.args.id c.args.self.now (subst (λ (ring : List RingKey). All (λ (x : RingKey). identifier x.key ≢ c.args.id) ring) same c.in_err-place.ensures.none))

pub returns-clause-found : goal.returns-clause-found
returns-clause-found c =
    let found = c.in_ok-place.ensures.found in
    let place = c.in_ok-place.place in
    let entry = c.index.result.now in
    let kept : c.deref.result.now ≡ c.self.inside.keys.items = c.deref.ensures.value in
    let seen = c.self.view_is in
    let same : c.deref.result.now ≡ c.args.self.now = cc in
    let at = entry_of-at c.args.id c.deref.result.now place entry found.0 (found.1 entry) c.in_ok-place.ensures.first in
    ap (λ (ring : List RingKey). entry_of c.args.id ring) (sym same) ∙ (at ∙ ap (λ (x : RingKey). Some x) (ap (λ (ring : List RingKey). get_or ring place entry) kept ∙ sym c.index.ensures))
