-- The keys that are found in a ring are its own.
use Rattle.std.proofs.Common.{◌≡◌, ℕ, Option, Some, None, subst, sym, refl}
use Rattle.std.specs.Prelude.{IsSome}
use Rattle.auth_keys.specs.Rings.{entry_of, kind_in}
use Rattle.auth_keys.specs.declared.key.KeyKind.{KeyKind}
use Rattle.auth_keys.specs.declared.key.KeyKind.TheVariants.{Perm, Temp}
use Rattle.auth_keys.specs.declared.ring.RingKey.{RingKey}
use Rattle.std.proofs.Common.{List}
use Rattle.client_core.specs.Keys.{HasKeys, Keys}
use Rattle.cmd_call.specs.Keys.{bound_to, keys_for, under_key, under_temporary}

there : (id : ℕ) (ring : List RingKey) (entry : RingKey) → entry_of id ring ≡ Some entry → IsSome (entry_of id ring)
there id ring entry is = subst (λ (o : Option RingKey). IsSome o) (sym is) refl

same-keys : (ring : List RingKey) (one keys : Keys) → Some one ≡ Some keys → HasKeys ring one → HasKeys ring keys
same-keys ring one keys is has = let e : one ≡ keys = cc in subst (λ (k : Keys). HasKeys ring k) e has

bound-has : (ring : List RingKey) (key expires perm : ℕ) (kind : Option KeyKind) (keys : Keys) → IsSome (entry_of key ring) → (kind ≡ Some Perm → IsSome (entry_of perm ring))
    → bound_to key expires perm kind ≡ Some keys → HasKeys ring keys
bound-has ring key expires perm None keys own its is = absurd cc
bound-has ring key expires perm (Some (Temp other)) keys own its is = absurd cc
bound-has ring key expires perm (Some Perm) keys own its is =
    same-keys ring (record { key = key; bound_to = Some (record { perm = perm; expires = expires }) }) keys is (record { key = own; perm = its refl })

kind-there : (id : ℕ) (ring : List RingKey) (entry : Option RingKey) (kind : KeyKind) → entry_of id ring ≡ entry → kind_in entry ≡ Some kind → IsSome (entry_of id ring)
kind-there id ring None kind at is = absurd cc
kind-there id ring (Some entry) kind at is = there id ring entry at

temporary-has : (ring : List RingKey) (key expires : ℕ) (perm : Option ℕ) (keys : Keys) → IsSome (entry_of key ring)
    → under_temporary ring key expires perm ≡ Some keys → HasKeys ring keys
temporary-has ring key expires None keys own is = absurd cc
temporary-has ring key expires (Some perm) keys own is =
    bound-has ring key expires perm (kind_in (entry_of perm ring)) keys own (λ e. kind-there perm ring (entry_of perm ring) Perm refl e) is

key-has : (ring : List RingKey) (key : ℕ) (perm : Option ℕ) (kind : Option KeyKind) (keys : Keys) → ((k : KeyKind) → kind ≡ Some k → IsSome (entry_of key ring))
    → under_key ring key perm kind ≡ Some keys → HasKeys ring keys
key-has ring key perm None keys own is = absurd cc
key-has ring key perm (Some Perm) keys own is = same-keys ring (record { key = key; bound_to = None }) keys is (record { key = own Perm refl; perm = tt })
key-has ring key perm (Some (Temp expires)) keys own is = temporary-has ring key expires perm keys (own (Temp expires) refl) is

pub keys_are_there : (ring : List RingKey) (key : ℕ) (perm : Option ℕ) (keys : Keys) → keys_for ring key perm ≡ Some keys → HasKeys ring keys
keys_are_there ring key perm keys is =
    key-has ring key perm (kind_in (entry_of key ring)) keys (λ k e. kind-there key ring (entry_of key ring) k refl e) is
