-- Calls up to a place are decided.
use Rattle.std.proofs.Common.{◌≡◌, ◌≤◌, ◌<◌, ◌+◌, ◌⊎◌, ◌&&◌, inl, inr, ℕ, Bool, true, false, if◌then◌else◌, Option, Some, None, List, length, refl, sym, ap, subst, ◌∙◌, arith}
use Rattle.std.specs.Prelude.{IfSome, Err}
use Rattle.std.proofs.Math.Nat.{eq-or-lt_of_le}
use Rattle.std.proofs.lemmas.Bool.{lt-ltb, le-leb, true≢false}
use Rattle.call_table.specs.declared.call.CallNo.{CallNo}
use Rattle.client_rules.specs.Asking.{has_call}
use Rattle.client_rules.specs.Client.{Client, calls_of}
use Rattle.kifzaro.specs.declared.error.Error.{Error}
use Rattle.call_table.specs.Table.{Call, State, call_no, is_open, state_at}
use Rattle.kifzaro.specs.Clients.{IsDecidedAt, TellsNoCall, TellsReply, state_of}

-- the calls before a place are decided
abbrev pub AreDecidedBelow : List Call → ℕ → Type 0
AreDecidedBelow calls end = (place : ℕ) → place < end → IsDecidedAt calls place

one_here : (calls : List Call) (end place : ℕ) (state : State) → AreDecidedBelow calls end → state_at (call_no end) calls ≡ Some state → is_open state ≡ false
    → (place ≡ end) ⊎ (place < end) → IsDecidedAt calls place
one_here calls end place state before at decided (inl same) =
    subst (λ (one : ℕ). IsDecidedAt calls one) (sym same) (subst (λ (found : Option State). IfSome found (λ one. is_open one ≡ false)) (sym at) decided)
one_here calls end place state before at decided (inr less) = before place less

-- and so is the next one
pub one_more : (calls : List Call) (end : ℕ) (state : State) → AreDecidedBelow calls end → state_at (call_no end) calls ≡ Some state → is_open state ≡ false
    → AreDecidedBelow calls (end + 1)
one_more calls end state before at decided place less = one_here calls end place state before at decided (eq-or-lt_of_le (omega (arith, less)))

-- ---- a call of a number

both_true : (one other : Bool) → one ≡ true → other ≡ true → (one && other) ≡ true
both_true true other is so = so
both_true false other is so = absurd (true≢false (sym is))

there_if : {X : Type 0} (test : Bool) (one other : X) → test ≡ true → (if test then one else other) ≡ one
there_if true one other is = refl
there_if false one other is = absurd (true≢false (sym is))

none_if : {X : Type 0} (test : Bool) (one other : X) → test ≡ false → (if test then one else other) ≡ other
none_if false one other is = refl
none_if true one other is = absurd (true≢false is)

-- a call that is there is in its state
pub state_there : (call : CallNo) (client : Client) (state : State) → 0 < call.n → call.n ≤ length (calls_of client)
    → state_at call (calls_of client) ≡ Some state → state_of call client ≡ Some state
state_there call client state some few at =
    there_if (has_call (length (calls_of client)) call) (state_at call (calls_of client)) None (both_true _ _ (lt-ltb 0 call.n some) (le-leb call.n (length (calls_of client)) few)) ∙ at

-- one that isn't is told as none
pub none_told : (call : CallNo) (client : Client) (room : List ℕ) (error : Error) → TellsNoCall call client error → TellsReply (state_of call client) room room (Err error)
none_told call client room error told =
    subst (λ (found : Option State). TellsReply found room room (Err error)) (sym (none_if (has_call (length (calls_of client)) call) (state_at call (calls_of client)) None told.1))
    (ap (λ (one : Error). Err one) told.0, refl)
