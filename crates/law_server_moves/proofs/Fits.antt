-- What a session may say has numbers that fit their places.
use Rattle.std.proofs.Common.{◌≡◌, ℕ, zero, suc, ◌==◌, ◌&&◌, ◌||◌, Bool, true, List, [], ◌∷◌, ◌<◌, ◌^◌, ◌-◌, fold, take, length, inl, inr, sym, subst, arith}
use Rattle.std.specs.Prelude.{nat_lt}
use Rattle.std.specs.List.{AllByRecursion}
use Rattle.std.proofs.lemmas.Bool.{cases_Bool}
use Rattle.id_window.specs.History.{FirstJudgement, History, Outcome, ascending, floor, forgotten, greatest_among, inserted}
use Rattle.server_rules.specs.Server.{Reply, Session}
use Rattle.law_server_bounds.specs.Small.{IsSmallJudgement, IsSmallOutcome, IsSmallRow}
use Rattle.law_moves.specs.Table.Item.{NewSession, Result, Notice, WrongSalt}
use Rattle.law_moves.specs.Table as moves
use Rattle.law_moves.specs.World.{World}
use Rattle.law_server_moves.specs.Servers.{CanSay, HasForgotten, HasNoticed, HasSalt, IsMade, has_dropped, is_dropped}
use Rattle.law_server_moves.specs.Sending.{IsFit, IsSmall}
use Rattle.law_server_moves.proofs.Lists.{each_of}
use Rattle.law_server_moves.proofs.Losing.{eq_true}
use Rattle.law_server_moves.proofs.Events.{and_first}

-- ---- the floor

inserted_all : (j : FirstJudgement) (js : History) → IsSmallJudgement j → AllByRecursion IsSmallJudgement js → AllByRecursion IsSmallJudgement (inserted (λ (one : FirstJudgement). one.number) j js)
inserted_all j [] one h = (one, tt)
inserted_all j (first ∷ js) one h =
    elim (cases_Bool (nat_lt first.number j.number)) [
      | inl is ↦ rw is (h.0, inserted_all j js one h.1)
      | inr not_so ↦ rw not_so (one, h)
    ]

ascending_all : (sorted js : History) → AllByRecursion IsSmallJudgement sorted → AllByRecursion IsSmallJudgement js
    → AllByRecursion IsSmallJudgement (fold (λ so_far judgement. inserted (λ (judged : FirstJudgement). judged.number) judgement so_far) sorted js)
ascending_all sorted [] s h = s
ascending_all sorted (j ∷ js) s h = ascending_all (inserted (λ (judged : FirstJudgement). judged.number) j sorted) js (inserted_all j sorted h.0 s) h.1

take_all : (n : ℕ) (js : History) → AllByRecursion IsSmallJudgement js → AllByRecursion IsSmallJudgement (take n js)
take_all zero [] h = tt
take_all zero (j ∷ js) h = tt
take_all (suc n) [] h = tt
take_all (suc n) (j ∷ js) h = (h.0, take_all n js h.1)

greatest_small : (js : History) → AllByRecursion IsSmallJudgement js → greatest_among js < 2 ^ 64
greatest_small [] h = omega arith
greatest_small (j ∷ js) h = omega (arith, h.0.0, greatest_small js h.1)

floor_small : (history : History) → AllByRecursion IsSmallJudgement history → floor history < 2 ^ 64
unfolding forgotten
floor_small history h = greatest_small (forgotten history) (take_all (length history - 16384) (ascending history) (ascending_all [] history tt h))

-- ---- what was forgotten

dropped_small : (number : ℕ) (replies : List Reply) → AllByRecursion (λ (reply : Reply). reply.call < 2 ^ 64) replies → has_dropped number replies ≡ true → number < 2 ^ 64
dropped_small number [] h is = absurd (cc)
dropped_small number (reply ∷ replies) h is =
    elim (cases_Bool ((reply.call == number) && is_dropped reply.fate)) [
      | inl holds ↦ subst (λ (n : ℕ). n < 2 ^ 64) (eq_true reply.call number (and_first (reply.call == number) (is_dropped reply.fate) holds)) h.0
      | inr fails ↦ dropped_small number replies h.1 (subst (λ (b : Bool). (b || has_dropped number replies) ≡ true) fails is)
    ]

forgotten_small : (y : Session) (number : ℕ) → IsFit y → HasForgotten number y → number < 2 ^ 64
forgotten_small y number fit (inl low) = let top = floor_small y.history fit.history in omega (arith, low, top)
forgotten_small y number fit (inr dropped) = dropped_small number y.replies fit.replies dropped

-- ---- what it may say

noticed_small : (y : Session) (number code : ℕ) → IsFit y → HasNoticed y number code → (number < 2 ^ 64) × (code < 2 ^ 32)
noticed_small y number code fit h =
    let its = each_of IsSmallJudgement y.history fit.history h.0 h.1 in
    (subst (λ (n : ℕ). n < 2 ^ 64) h.2 its.0, subst (λ (o : Outcome). IsSmallOutcome o) h.3 its.1)

salt_small : (y : Session) (salt : ℕ) → IsFit y → HasSalt y salt → salt < 2 ^ 64
salt_small y salt fit h = subst (λ (n : ℕ). n < 2 ^ 64) h.2 (each_of IsSmallRow y.salts.rows fit.salts h.0 h.1)

pub can_small : (w : World) (y : Session) → IsFit y → IsMade w y → (item : moves.Item) → CanSay w y item → IsSmall item
can_small w y fit made (NewSession unique salt) h = (subst (λ (n : ℕ). n < 2 ^ 64) (sym h.0) fit.unique, salt_small y salt fit h.1)
can_small w y fit made (Result call content) h = subst (λ (n : ℕ). n < 2 ^ 64) h.2 (each_of (λ (reply : Reply). reply.call < 2 ^ 64) y.replies fit.replies h.0 h.1)
can_small w y fit made (Notice number code) (inl h) = noticed_small y number code fit h
can_small w y fit made (Notice number code) (inr (inl h)) =
    let code_is : code ≡ 20 = h.0 in
    (forgotten_small y number fit (each_of (λ (n : ℕ). HasForgotten n y) (w.servers y.unique).forgotten made.forgotten number h.1), omega (arith, code_is))
can_small w y fit made (Notice number code) (inr (inr h)) = (h.1.fits, h.0)
can_small w y fit made (WrongSalt number salt) h = ((noticed_small y number 48 fit h.0).0, salt_small y salt fit h.1)
