-- What keeps a client plain.
use Rattle.std.proofs.Common.{◌≡◌, ◌∙◌, ℕ, zero, suc, Bool, true, false, if◌then◌else◌, Option, Some, None, List, [], ◌∷◌, ◌++◌, map, refl, ap}
use Rattle.std.specs.Prelude.{fold, option_map}
use Rattle.std.specs.List.{AllByRecursion}
use Rattle.call_table.specs.declared.call.CallNo.{CallNo}
use Rattle.call_table.specs.declared.call.Fate.{Fate}
use Rattle.call_table.specs.Table.{Call, changed_at}
use Rattle.client_rules.specs.Client.{Binding, Client, bound_so, calls_of, with_binding, with_call, with_calls}
use Rattle.client_rules.specs.Learning.{each_becomes, settled_if}
use Rattle.client_rules.specs.Taking.{becomes}
use Rattle.sim_load.specs.Plain.{FollowsNone, IsPlain}

-- ---- lists

pub all_changed : {X : Type 0} (P : X → Type 0) (change : X → X) → ((x : X) → P x → P (change x)) → (place : ℕ) (xs : List X)
    → AllByRecursion P xs → AllByRecursion P (changed_at place change xs)
all_changed P change keeps place [] all = tt
all_changed P change keeps zero (x ∷ xs) all = (keeps x all.0, all.1)
all_changed P change keeps (suc place) (x ∷ xs) all = (all.0, all_changed P change keeps place xs all.1)

pub all_mapped : {X : Type 0} (P : X → Type 0) (change : X → X) → ((x : X) → P x → P (change x)) → (xs : List X)
    → AllByRecursion P xs → AllByRecursion P (map change xs)
all_mapped P change keeps [] all = tt
all_mapped P change keeps (x ∷ xs) all = (keeps x all.0, all_mapped P change keeps xs all.1)

pub all_joined : {X : Type 0} (P : X → Type 0) (xs : List X) (x : X) → AllByRecursion P xs → P x → AllByRecursion P (xs ++ x ∷ [])
all_joined P [] x all one = (one, tt)
all_joined P (y ∷ ys) x all one = (all.0, all_joined P ys x all.1 one)

-- what each step keeps, all of them keep
pub folded : {X Y : Type 0} (P : Y → Type 0) (step : Y → X → Y) → ((y : Y) (x : X) → P y → P (step y x)) → (y : Y) (xs : List X) → P y → P (fold step y xs)
folded P step keeps y [] holds = holds
folded P step keeps y (x ∷ xs) holds = folded P step keeps (step y x) xs (keeps y x holds)

pub either : {X : Type 0} (P : X → Type 0) (b : Bool) (x y : X) → P x → P y → P (if b then x else y)
either P true x y one other = one
either P false x y one other = other

-- ---- a client

-- the calls of the one are plain, so are those of the other, where keys and calls are the same
pub call_changed : (call : CallNo) (change : Call → Call) → ((one : Call) → FollowsNone one → FollowsNone (change one)) → (client : Client)
    → IsPlain client → IsPlain (with_call call change client)
call_changed call change keeps client plain =
    record { key = plain.key; calls = all_changed FollowsNone change keeps _ (calls_of client) plain.calls }

pub fate_set : (call : CallNo) (fate : Fate) (client : Client) → IsPlain client → IsPlain (becomes call fate client)
fate_set call fate client plain = call_changed call _ (λ one none. none) client plain

pub settled_plain : (due : Option Fate) (call : Call) → FollowsNone call → FollowsNone (settled_if due call)
settled_plain None call none = none
settled_plain (Some fate) call none = none

pub each_plain : (fate : Call → Option Fate) (client : Client) → IsPlain client → IsPlain (each_becomes fate client)
each_plain fate client plain = record {
  key = plain.key;
  calls = all_mapped FollowsNone (λ call. settled_if (fate call) call) (λ call none. settled_plain (fate call) call none) (calls_of client) plain.calls;
}

pub bound_plain : (binding : Binding) (client : Client) → IsPlain client → IsPlain (with_binding binding client)
bound_plain binding client plain = record { key = ap (option_map (bound_so binding)) plain.key; calls = plain.calls }
