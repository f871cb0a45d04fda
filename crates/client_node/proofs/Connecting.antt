-- What a net tells of a batch's connections.
use Rattle.std.proofs.Common.{◌≡◌, ◌≤◌, ◌+◌, ◌⊎◌, inl, inr, ℕ, List, [], ◌∷◌, ◌++◌, length, All, Option, Some, None, IfSome, IsSome, IsSomeAnd, refl, sym, ap, subst, ◌∙◌, append_assoc, append-nil, length-append, arith}
use Rattle.std.proofs.lemmas.List.Elements.{All-append, All-nil, All-cons}
use Rattle.mt_edge.specs.Faults.{one_more}
use Rattle.mt_edge.specs.Links.{Told}
use Rattle.mt_edge.specs.Nets.{closed_at}
use Rattle.mt_edge.specs.declared.net_call.NetCall.{NetCall}
use Rattle.mt_edge.specs.declared.net_call.NetCall.TheVariants.{Connect}
use Rattle.mt_edge.specs.declared.net_call.Outcome.TheVariants.{Failed, Open, Done}
use Rattle.client_core.specs.declared.holder.Holder.{Holder}
use Rattle.client_node.specs.Connects.{Connects, IsLast, IsLost, Uses}
use Rattle.client_node.specs.Ends.{AllLost, Connected, CountsLink, batch_by}
use Rattle.client_node.specs.Standing.{AllDecided, DecidedIn}
use Rattle.client_node.specs.declared.end.End.{End}
use Rattle.client_node.specs.declared.end.End.TheVariants as ends
use Rattle.client_node.specs.declared.plan.Batch.{Batch}
use Rattle.client_node.specs.declared.plan.Batch.TheVariants as batch
use Rattle.client_node.specs.declared.plan.Plan.{Plan}

-- ---- one connection

-- it is the last of the record when it's given back
pub closes_last : (calls : List NetCall) (port : ℕ) (told : Told) (faults : ℕ) → closed_at (length calls) told faults (calls ++ Connect port Open ∷ []) ≡ calls ++ Connect port (Done told faults) ∷ []
closes_last [] port told faults = refl
closes_last (call ∷ calls) port told faults = ap (λ (rest : List NetCall). call ∷ rest) (closes_last calls port told faults)

few_same : (after : ℕ) → after ≡ 0 → after ≤ 1
few_same after none = omega (arith, none)

few_more : (after : ℕ) → after ≡ one_more 0 → after ≤ 1
few_more after one = grind (arith, one)

few_either : (after : ℕ) → (after ≡ 0) ⊎ (after ≡ one_more 0) → after ≤ 1
few_either after (inl none) = few_same after none
few_either after (inr one) = few_more after one

its_end : (end : End) (port : ℕ) (told : Told) (faults : ℕ) → CountsLink end 0 faults → IsLast port (batch_by end) (Connect port (Done told faults))
its_end ends.Lost port told faults counted = (refl, few_either faults counted)
its_end ends.Decided port told faults counted = (refl, few_either faults counted)
its_end ends.TurnsSpent port told faults counted = (refl, omega (arith, counted))
its_end ends.Spent port told faults counted = (refl, omega (arith, counted))
its_end ends.Memory port told faults counted = (refl, omega (arith, counted))

given_at : (first between last : List NetCall) (port place : ℕ) (told : Told) (faults : ℕ) (end : End)
    → between ≡ first ++ Connect port Open ∷ [] → place ≡ length first → CountsLink end 0 faults
    → last ≡ closed_at place told faults between
    → Connected port end first last
given_at first between last port place told faults end opened at counted closed =
    record {
      call = Connect port (Done told faults);
      whole = closed ∙ ap (λ (n : ℕ). closed_at n told faults between) at ∙ ap (λ (calls : List NetCall). closed_at (length first) told faults calls) opened ∙ closes_last first port told faults;
      its = its_end end port told faults counted;
    }

pub gave_back : (first between last : Option (List NetCall)) (port place : ℕ) (told : Option Told) (faults : ℕ) (end : End)
    → IfSome between (λ after. IsSomeAnd first (λ before. after ≡ before ++ Connect port Open ∷ []))
    → IfSome first (λ before. place ≡ length before)
    → CountsLink end 0 faults
    → IfSome last (λ after. IsSomeAnd between (λ before. IsSomeAnd told (λ said. after ≡ closed_at place said faults before)))
    → IfSome last (λ after. IsSomeAnd first (λ before. Connected port end before after))
gave_back first between None port place told faults end opened at counted closed = tt
gave_back first None (Some last) port place told faults end opened at counted closed = absurd closed
gave_back first (Some between) (Some last) port place None faults end opened at counted closed = absurd closed
gave_back None (Some between) (Some last) port place (Some told) faults end opened at counted closed = absurd opened
gave_back (Some first) (Some between) (Some last) port place (Some told) faults end opened at counted closed =
    given_at first between last port place told faults end opened at counted closed

pub attempt_failed : (first last : Option (List NetCall)) (port : ℕ)
    → IfSome last (λ after. IsSomeAnd first (λ before. after ≡ before ++ Connect port Failed ∷ []))
    → IfSome last (λ after. IsSomeAnd first (λ before. Connected port ends.Lost before after))
attempt_failed first None port told = tt
attempt_failed None (Some last) port told = absurd told
attempt_failed (Some first) (Some last) port told = record { call = Connect port Failed; whole = told; its = refl }

-- ---- all of them

abbrev pub SomeLost : ℕ → ℕ → Option (List NetCall) → Option (List NetCall) → Type 0
SomeLost port times first last = IfSome last (λ after. IsSomeAnd first (λ before. AllLost port times before after))

one_lost : (port : ℕ) (call : NetCall) → IsLost port call → All (IsLost port) (call ∷ [])
one_lost port call its = All-cons (IsLost port) call [] its (All-nil (IsLost port))

pub none_lost : (port : ℕ) (calls : Option (List NetCall)) → SomeLost port 0 calls calls
none_lost port None = tt
none_lost port (Some calls) = record { lost = []; whole = sym (append-nil calls); all_lost = All-nil (IsLost port); count = refl }

more_lost : (port times : ℕ) (first between last : List NetCall) → AllLost port times first between → Connected port ends.Lost between last → AllLost port (times + 1) first last
more_lost port times first between last before one =
    record {
      lost = before.lost ++ one.call ∷ [];
      whole = one.whole ∙ ap (λ (calls : List NetCall). calls ++ one.call ∷ []) before.whole ∙ append_assoc first before.lost (one.call ∷ []);
      all_lost = All-append (IsLost port) before.lost (one.call ∷ []) before.all_lost (one_lost port one.call one.its);
      count = length-append before.lost (one.call ∷ []) ∙ ap (λ (n : ℕ). n + 1) before.count;
    }

pub one_more_lost : (port times : ℕ) (first between last : Option (List NetCall)) (end : End) → end ≡ ends.Lost → SomeLost port times first between
    → IfSome last (λ after. IsSomeAnd between (λ before. Connected port end before after))
    → SomeLost port (times + 1) first last
one_more_lost port times first between None end lost before one = tt
one_more_lost port times first None (Some last) end lost before one = absurd one
one_more_lost port times None (Some between) (Some last) end lost before one = absurd before
one_more_lost port times (Some first) (Some between) (Some last) end lost before one =
    more_lost port times first between last before (subst (λ (which : End). Connected port which between last) lost one)

ended : (plan : Plan) (times : ℕ) (first between last : List NetCall) (end : End)
    → AllLost plan.port times first between → Connected plan.port end between last
    → times ≤ plan.retries → (batch_by end ≡ batch.LinkLost → times ≡ plan.retries)
    → Connects plan (batch_by end) first last
ended plan times first between last end before one most many =
    record {
      lost = before.lost;
      last = one.call;
      whole = one.whole ∙ ap (λ (calls : List NetCall). calls ++ one.call ∷ []) before.whole;
      all_lost = before.all_lost;
      most = subst (λ (n : ℕ). n ≤ plan.retries) (sym before.count) most;
      its = one.its;
      too_many = λ lost. before.count ∙ many lost;
    }

pub ends_so : (plan : Plan) (times : ℕ) (first between last : Option (List NetCall)) (end : End)
    → SomeLost plan.port times first between
    → IfSome last (λ after. IsSomeAnd between (λ before. Connected plan.port end before after))
    → times ≤ plan.retries → (batch_by end ≡ batch.LinkLost → times ≡ plan.retries)
    → IfSome last (λ after. IsSomeAnd first (λ before. Connects plan (batch_by end) before after))
ends_so plan times first between None end before one most many = tt
ends_so plan times first None (Some last) end before one most many = absurd one
ends_so plan times None (Some between) (Some last) end before one most many = absurd before
ends_so plan times (Some first) (Some between) (Some last) end before one most many = ended plan times first between last end before one most many

abbrev IsLinkLost : Batch → Type 0
IsLinkLost batch.LinkLost = Unit {0}
IsLinkLost batch.Decided = ⊥
IsLinkLost batch.TurnsSpent = ⊥
IsLinkLost batch.Spent = ⊥
IsLinkLost batch.Memory = ⊥

abbrev IsDecidedEnd : Batch → Type 0
IsDecidedEnd batch.Decided = Unit {0}
IsDecidedEnd batch.LinkLost = ⊥
IsDecidedEnd batch.TurnsSpent = ⊥
IsDecidedEnd batch.Spent = ⊥
IsDecidedEnd batch.Memory = ⊥

pub not_link_lost : (end : End) → (end ≡ ends.Lost → ⊥) → (X : Type 0) → batch_by end ≡ batch.LinkLost → X
not_link_lost ends.Lost other X same = absurd (other refl)
not_link_lost ends.Decided other X same = absurd (subst IsLinkLost (sym same) tt)
not_link_lost ends.TurnsSpent other X same = absurd (subst IsLinkLost (sym same) tt)
not_link_lost ends.Spent other X same = absurd (subst IsLinkLost (sym same) tt)
not_link_lost ends.Memory other X same = absurd (subst IsLinkLost (sym same) tt)

pub ends_here : (plan : Plan) (times : ℕ) (first between last : Option (List NetCall)) (end : End)
    → SomeLost plan.port times first between
    → IfSome last (λ after. IsSomeAnd between (λ before. Connected plan.port end before after))
    → times ≤ plan.retries → (end ≡ ends.Lost → ⊥)
    → IfSome last (λ after. IsSomeAnd first (λ before. Connects plan (batch_by end) before after))
ends_here plan times first between last end before one most other =
    ends_so plan times first between last end before one most (not_link_lost end other (times ≡ plan.retries))

pub too_many_lost : (plan : Plan) (times : ℕ) (first between last : Option (List NetCall)) (end : End)
    → SomeLost plan.port times first between
    → IfSome last (λ after. IsSomeAnd between (λ before. Connected plan.port end before after))
    → times ≡ plan.retries
    → IfSome last (λ after. IsSomeAnd first (λ before. Connects plan (batch_by end) before after))
too_many_lost plan times first between last end before one many =
    ends_so plan times first between last end before one (omega (arith, many)) (λ lost. many)

-- a batch that made connections
pub used : (plan : Plan) (end : Batch) (first last : Option (List NetCall))
    → IfSome last (λ after. IsSomeAnd first (λ before. Connects plan end before after))
    → IfSome last (λ after. IsSomeAnd first (λ before. Uses plan end before after))
used plan end first None made = tt
used plan end None (Some last) made = absurd made
used plan end (Some first) (Some last) made = inr made

-- ---- decided calls

pub decided_batch : (end : End) (kept : Holder) → DecidedIn end kept → batch_by end ≡ batch.Decided → AllDecided kept
decided_batch ends.Decided kept all same = all
decided_batch ends.Lost kept all same = absurd (subst IsDecidedEnd (sym same) tt)
decided_batch ends.TurnsSpent kept all same = absurd (subst IsDecidedEnd (sym same) tt)
decided_batch ends.Spent kept all same = absurd (subst IsDecidedEnd (sym same) tt)
decided_batch ends.Memory kept all same = absurd (subst IsDecidedEnd (sym same) tt)

-- ---- whether the net still tells

one_more_some : (faults : ℕ) → one_more faults ≤ 1 → faults ≡ 0
one_more_some faults few = grind (arith, few)

-- it does where no more than one attempt failed since it told
pub still_tells : (first between last : Option (List NetCall)) (began before after : ℕ)
    → (IsSome first → began ≡ 0 → before ≤ 1 → IsSome between)
    → (IsSome between → before ≡ 0 → IsSome last)
    → ((after ≡ before) × (IsSome between → IsSome last)) ⊎ (after ≡ one_more before)
    → IsSome first → began ≡ 0 → after ≤ 1 → IsSome last
still_tells first between last began before after so_far fault (inl same) is none few = same.1 (so_far is none (omega (arith, same.0, few)))
still_tells first between last began before after so_far fault (inr more) is none few =
    let unfailed = one_more_some before (omega (arith, more, few)) in
    fault (so_far is none (omega (arith, unfailed))) unfailed
