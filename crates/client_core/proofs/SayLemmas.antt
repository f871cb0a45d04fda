-- What is kept of a client can be said.
use Rattle.std.proofs.Common.{◌≡◌, ℕ, zero, suc, ◌≤◌, Bool, true, false, List, [], ◌∷◌, Option, Some, None, length, drop, ap, refl, sym, subst, arith}
use Rattle.std.specs.Prelude.{◌≢◌, ◌||◌, IfSome, option_map, slice_get}
use Rattle.std.specs.List.{AllZip, list_any}
use Rattle.call_table.specs.declared.call.CallNo.{CallNo}
use Rattle.call_table.specs.declared.row.Row.{Row}
use Rattle.call_table.specs.Table.{Call}
use Rattle.call_table.specs.Kept.{IsRowOf}
use Rattle.client_rules.specs.Client.{Client, States}
use Rattle.client_rules.specs.Filling.{Turn, turn_of}
use Rattle.client_core.specs.Due.{any_of, goes_now, goes_of}
use Rattle.client_core.specs.Kept.{states_in}
use Rattle.client_calls.specs.Sound.{AreSound}
use Rattle.client_core.specs.declared.waiting.States.{States as KeptStates}

told_in : (own : Option KeptStates) → IfSome own (λ states. length states.info ≤ 8192) → IfSome (option_map states_in own) (λ states. length states.info ≤ 8192)
told_in None few = tt
told_in (Some states) few = few

pub told_few : (own : Option KeptStates) (other : Option States) → option_map states_in own ≡ other → IfSome own (λ states. length states.info ≤ 8192)
    → IfSome other (λ states. length states.info ≤ 8192)
told_few own other is few = subst (λ it. IfSome it (λ states. length states.info ≤ 8192)) is (told_in own few)

pub bodies_few : (last : ℕ) (rows : List Row) (calls : List Call) (k : ℕ) → AllZip IsRowOf rows calls → AreSound last rows
    → IfSome (option_map (λ one. one.body) (slice_get calls k)) (λ body. length body ≤ 262144)
bodies_few last rows [] k same sound = tt
bodies_few last [] (call ∷ calls) k same sound = absurd same
bodies_few last (row ∷ rows) (call ∷ calls) zero same sound = subst (λ (body : List ℕ). length body ≤ 262144) same.0.body sound.0.short
bodies_few last (row ∷ rows) (call ∷ calls) (suc k) same sound = bodies_few last rows calls k same.1 sound.1

-- ---- the queued calls

pub goes_told : (client : Client) (own : Option Call) (turn : Turn) → IfSome own (λ one. turn ≡ turn_of client one) → own ≢ None → goes_now turn ≡ goes_of client own
goes_told client None turn is some = absurd (some refl)
goes_told client (Some one) turn is some = ap goes_now is

-- what is left gives what all give
pub any_step : (test : CallNo → Bool) (calls : List CallNo) (k : ℕ) → any_of test (slice_get calls k) ≡ false → list_any test (drop (suc k) calls) ≡ list_any test (drop k calls)
any_step test [] zero not_now = refl
any_step test [] (suc k) not_now = refl
any_step test (call ∷ calls) zero not_now = sym (ap (λ b. b || list_any test calls) not_now)
any_step test (call ∷ calls) (suc k) not_now = any_step test calls k not_now

pub any_hit : (test : CallNo → Bool) (calls : List CallNo) (k : ℕ) → any_of test (slice_get calls k) ≡ true → list_any test (drop k calls) ≡ true
any_hit test [] k is = grind (arith, is)
any_hit test (call ∷ calls) zero is = ap (λ b. b || list_any test calls) is
any_hit test (call ∷ calls) (suc k) is = any_hit test calls k is

pub any_end : (test : CallNo → Bool) (calls : List CallNo) (k : ℕ) → length calls ≤ k → list_any test (drop k calls) ≡ false
any_end test [] zero all = refl
any_end test [] (suc k) all = refl
any_end test (call ∷ calls) zero all = absurd (omega (arith, all))
any_end test (call ∷ calls) (suc k) all = any_end test calls k (omega (arith, all))
