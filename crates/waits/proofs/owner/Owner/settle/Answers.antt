use Rattle.std.proofs.Common.{◌≡◌, ◌∙◌, ℕ, ◌≤◌, List, ◌++◌, take, drop, map, ap, sym, subst, arith}
use Rattle.waits.specs.declared.stamped.Stamped.{Stamped}
use Rattle.waits.specs.declared.owner.Owner.TheInside.{Inside}
use Rattle.waits.specs.Jobs.{waits_for}
use Rattle.waits.specs.Stamps.{after}
use Rattle.waits.specs.Parts.{Part}
use Rattle.waits.proofs.Asked.{waiter_waits}
use Rattle.waits.proofs.Owned.{waiters}
use Rattle.waits.proofs.Parts.{not_found, same_part}
use Rattle.waits.proofs.Settled.{idle_part, first_in_front, IsSettled, settled_rest, settled_alone, settled_owned}
use Rattle.waits.proofs.View.{owning, part_changed}
use Rattle.waits.proofs.owner.Owner.settle.Goals as goal
use Rattle.waits.proofs.owner.Owner.settle.Goals.{then-self-eq0-via-then-self-eq0, then-self-eq0-via-else-self-eq0+then-self-answer, then-not-self, else-not-self}

pub returns-then-self-eq0 : goal.returns-then-self-eq0
returns-then-self-eq0 c =
    let answer = c.args.answer in
    let owner = c.self.inside in
    let same = same_part answer.key answer.session c.args.self.now c.requires in
    let key : owner.key ≡ answer.key = ap (λ (part : Part). part.key) c.self.view_is ∙ same.0 in
    let session : owner.session ≡ answer.session = ap (λ (part : Part). part.session) c.self.view_is ∙ same.1 in
    let none : waiters answer.key answer.session answer.number owner.jobs ≡ 0 = elim c.then-self-eq0.branch [
      | then-self-eq0-via-then-self-eq0 w ↦ omega (arith, w.if-self-eq0.true, c.self.invariant.totals.waiting, waiter_waits answer.key answer.session answer.number owner.jobs)
      | then-self-eq0-via-else-self-eq0+then-self-answer w ↦ subst (λ (k : ℕ). waiters k answer.session answer.number owner.jobs ≡ 0) key (subst (λ (s : ℕ). waiters owner.key s answer.number owner.jobs ≡ 0) session (c.self.invariant.greatest answer.number w.if-self-answer.true))
    ] in
    idle_part answer.key answer.session answer.number answer.ok c.args.self.now (subst (λ (part : Part). waiters answer.key answer.session answer.number part.jobs ≡ 0) c.self.view_is none)

pub returns-in_default : goal.returns-in_default
returns-in_default c =
    let answer = c.args.answer in
    let none = not_found (λ (x : Stamped). waits_for answer.key answer.session answer.number x.one) c.self.inside.jobs (sym c.in_default.ensures) in
    idle_part answer.key answer.session answer.number answer.ok c.args.self.now (subst (λ (part : Part). waiters answer.key answer.session answer.number part.jobs ≡ 0) c.self.view_is none)

-- where another may wait all that are left are told, and else the first one alone
settling : (c : goal.After-join) → IsSettled c.args.answer.key c.args.answer.session c.args.answer.number c.args.answer.ok c.self.inside c.if-not-self.self-inside c.if-not-self.rest
settling c =
    let answer = c.args.answer in
    let owner = c.self.inside in
    let at = c.in-Some.at in
    let f = after answer.key answer.session answer.number answer.ok in
    let same = same_part answer.key answer.session c.args.self.now c.requires in
    let key : owner.key ≡ answer.key = ap (λ (part : Part). part.key) c.self.view_is ∙ same.0 in
    let session : owner.session ≡ answer.session = ap (λ (part : Part). part.session) c.self.view_is ∙ same.1 in
    let first = first_in_front (λ (x : Stamped). waits_for answer.key answer.session answer.number x.one) owner.jobs at c.in-Some.ensures in
    let e = c.tell_next.ensures in
    let told : c.tell_next.new.told ≡ take at owner.jobs ++ map f (take 1 (drop at owner.jobs)) =
    e.told ∙ (ap (λ (xs : List Stamped). xs ++ map f (take 1 c.cut-rest.result)) c.cut-rest.ensures.front ∙ ap (λ (xs : List Stamped). take at owner.jobs ++ map f (take 1 xs)) c.cut-rest.ensures.rest) in
    let left : c.tell_next.new.left ≡ drop 1 (drop at owner.jobs) = e.left ∙ ap (λ (xs : List Stamped). drop 1 xs) c.cut-rest.ensures.rest in
    elim c.if-not-self.branch [
      | then-not-self w ↦ rw (w.self-inside-is, w.rest-is)
          (settled_rest answer.key answer.session answer.number answer.ok owner at w.tell_all.new.told w.tell_all.new.left w.tell_all.new.totals w.tell_all.new.bytes first
          (w.tell_all.ensures.told ∙ (ap (λ (xs : List Stamped). xs ++ map f c.tell_next.new.left) told ∙ ap (λ (xs : List Stamped). (take at owner.jobs ++ map f (take 1 (drop at owner.jobs))) ++ map f xs) left))
          w.tell_all.ensures.left w.tell_all.ensures.totals w.tell_all.ensures.bytes)
      | else-not-self w ↦
          let few = subst (λ (k : ℕ). waiters k answer.session answer.number owner.jobs ≤ 1) key (subst (λ (s : ℕ). waiters owner.key s answer.number owner.jobs ≤ 1) session (c.self.invariant.single w.if-not-self.false answer.number)) in
          rw (w.self-inside-is, w.rest-is) (settled_alone answer.key answer.session answer.number answer.ok owner at c.tell_next.new.told c.tell_next.new.left c.tell_next.new.totals c.tell_next.new.bytes first few told left e.totals e.bytes)
    ]

pub invariant_of-self : goal.invariant_of-self
invariant_of-self c =
    let answer = c.args.answer in
    let owner = c.self.inside in
    let same = same_part answer.key answer.session c.args.self.now c.requires in
    let key : owner.key ≡ answer.key = ap (λ (part : Part). part.key) c.self.view_is ∙ same.0 in
    let session : owner.session ≡ answer.session = ap (λ (part : Part). part.session) c.self.view_is ∙ same.1 in
    settled_owned answer.key answer.session answer.number answer.ok owner c.if-not-self.self-inside c.if-not-self.rest c.join.new.nodes c.self.invariant (settling c) c.join.ensures key session

pub returns : goal.returns
returns c =
    let answer = c.args.answer in
    let owner = c.self.inside in
    let settled = settling c in
    ap (λ (o : Inside). owning o.key o.session c.join.new.nodes) settled.others
    ∙ part_changed (map (after answer.key answer.session answer.number answer.ok)) owner.key owner.session owner.jobs c.join.new.nodes c.args.self.now c.self.view_is (c.join.ensures ∙ settled.jobs)
