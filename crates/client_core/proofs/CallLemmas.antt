-- Changes of one call.
use Rattle.std.proofs.Common.{◌≡◌, ℕ, zero, suc, ◌-◌, true, List, [], ◌∷◌, Option, Some, None, ap, refl, sym, ◌∙◌}
use Rattle.std.specs.Prelude.{◌&&◌, length, option_map, slice_get}
use Rattle.call_table.specs.declared.call.CallNo.{CallNo}
use Rattle.call_table.specs.declared.call.Flags.{Flags}
use Rattle.call_table.specs.Table.{Call, at, changed, changed_at, flagged, with_call}
use Rattle.call_table.specs.Kept.{Stands as StandsFor}
use Rattle.client_rules.specs.Client.{Client}
use Rattle.client_rules.specs.Asking.{dropped, drops, has_call, is_call_sent}
use Rattle.client_core.specs.Kept.{Contents, Stands}

abbrev pub value : {X : Type 0} → X → Option X → X
value x None = x
value x (Some y) = y

-- changes that agree on the changed element give the same list
pub same_at : {X : Type 0} (f g : X → X) (k : ℕ) (xs : List X) → option_map f (slice_get xs k) ≡ option_map g (slice_get xs k) → changed_at k f xs ≡ changed_at k g xs
same_at f g k [] same = refl
same_at f g zero (x ∷ xs) same = ap (λ y. y ∷ xs) (ap (value x) same)
same_at f g (suc k) (x ∷ xs) same = ap (λ ys. x ∷ ys) (same_at f g k xs same)

drops_of : (own : Option Call) (flags : Flags) → option_map (λ one. one.flags) own ≡ Some flags → option_map (flagged (record flags { dropping = true })) own ≡ option_map drops own
drops_of None flags told = refl
drops_of (Some call) flags told = ap (λ now. Some (flagged (record now { dropping = true }) call)) (sym (ap (value call.flags) told))

-- the flag alone is put in
pub drops_told : (call : CallNo) (calls : List Call) (flags : Flags) → option_map (λ one. one.flags) (at call calls) ≡ Some flags → changed call (flagged (record flags { dropping = true })) calls ≡ changed call drops calls
drops_told call calls flags told = same_at (flagged (record flags { dropping = true })) drops (call.n - 1) calls (drops_of (at call calls) flags told)

-- what stands for a client, with the flag put in, stands for it with the answer dropped
pub dropped_stands : (old new : Contents) (client : Client) (call : CallNo) (flags : Flags) → Stands old client → new.rest ≡ old.rest
    → StandsFor new.calls (with_call call (flagged (record flags { dropping = true })) client.table)
    → (has_call (length client.table.calls) call && is_call_sent (at call client.table.calls)) ≡ true → option_map (λ one. one.flags) (at call client.table.calls) ≡ Some flags
    → Stands new (dropped call client)
dropped_stands old new client call flags stands rest calls sent told =
    rw sent (record {
      rest = rest ∙ stands.rest;
      calls = rw (sym (drops_told call client.table.calls flags told)) calls;
    })
