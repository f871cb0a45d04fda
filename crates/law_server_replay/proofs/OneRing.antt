-- What a ring says of keys and bindings is one thing: each binding call binds, or is refused.
use Rattle.std.proofs.Common.{◌≡◌, ℕ, Option, Some, None, List, inl, inr, refl, sym, ap, ◌∙◌}
use Rattle.std.proofs.lemmas.Bool.{cases_eq, cases_lt}
use Rattle.auth_keys.specs.declared.ring.RingKey.{RingKey}
use Rattle.temp_keys.specs.Checking.{Agrees, Binds, Call, HasNoPerm, IsFaultOf, Opens, bound_of, first_difference}
use Rattle.temp_keys.specs.declared.binding.Bound.{Bound}
use Rattle.temp_keys.specs.declared.binding.Inner.{Inner}
use Rattle.temp_keys.specs.declared.fault.BindFault.{BindFault}
use Rattle.temp_keys.specs.declared.fault.BindFault.TheVariants as faults
use Rattle.temp_keys.specs.declared.fault.InnerField.{InnerField}
use Rattle.server_dispatch.specs.Rings.{AreOf, checked}
use Rattle.server_rules.specs.Event.{BindingCall}
use Rattle.server_rules.specs.Server.{Binding, Name}
use Rattle.server_session.specs.Says.{Keys}

-- ---- equal where they can't differ

number_stable : (a b : ℕ) → ((a ≡ b → ⊥) → ⊥) → a ≡ b
number_stable a b h =
    elim (cases_eq a b) [
      | inl is ↦ is
      | inr differs ↦ absurd (h differs)
    ]

binding_by : (a b : Binding) → a.temp ≡ b.temp → a.perm ≡ b.perm → a.expires ≡ b.expires → a ≡ b
binding_by a b temp perm expires = λ i. record { temp = temp i; perm = perm i; expires = expires i }

abbrev some_binding : (d : Binding) → Option Binding → Binding
some_binding d None = d
some_binding d (Some binding) = binding

binding_stable : (a b : Option Binding) → ((a ≡ b → ⊥) → ⊥) → a ≡ b
binding_stable None None h = refl
binding_stable None (Some b) h = absurd (h (λ e. absurd (cc)))
binding_stable (Some a) None h = absurd (h (λ e. absurd (cc)))
binding_stable (Some a) (Some b) h =
    let temp = number_stable a.temp b.temp (λ d. h (λ e. d (ap (λ (o : Option Binding). (some_binding a o).temp) e))) in
    let perm = number_stable a.perm b.perm (λ d. h (λ e. d (ap (λ (o : Option Binding). (some_binding a o).perm) e))) in
    let expires = number_stable a.expires b.expires (λ d. h (λ e. d (ap (λ (o : Option Binding). (some_binding a o).expires) e))) in
    ap Some (binding_by a b temp perm expires)

-- ---- each call binds or is refused, so far as nothing can be neither

module _ (call : Call) (no_bind : (bound : Bound) → Binds call bound → ⊥) (no_fault : (fault : BindFault) → IsFaultOf call fault → ⊥) where
  agrees_none : Agrees call → ⊥
  agrees_none agrees =
      elim (cases_lt call.now call.binding.expires) [
        | inl before ↦ no_bind (bound_of call) (record { agrees = agrees; lasts = before; told = refl })
        | inr behind ↦ no_fault faults.Expired (agrees, behind)
      ]

  opened_none : (number : ℕ) (inner : Inner) → Opens call number inner → (which : Option InnerField) → first_difference call number inner ≡ which → ⊥
  opened_none number inner opens None same = agrees_none (record { number = number; inner = inner; opens = opens; same = same })
  opened_none number inner opens (Some which) first = no_fault (faults.Field which) (record { number = number; inner = inner; opens = opens; first = first })

  no_perm : HasNoPerm call
  no_perm key permanent =
      no_fault faults.Seal (record {
        key = key;
        permanent = permanent;
        none = λ number inner says.
            opened_none number inner (record { key = key; permanent = permanent; says = says }) (first_difference call number inner) refl;
      })

  neither : ⊥
  neither = no_fault faults.NoPerm no_perm

module _ (ring : List RingKey) (keys other : Keys) (one : AreOf ring keys) (two : AreOf ring other) where
  same_bound : (now : ℕ) (name : Name) (call : BindingCall) → keys.bound_by now name call ≡ other.bound_by now name call
  same_bound now name call =
      let binds = one.binds in
      let binds_too = two.binds in
      let refuses = one.refuses in
      let refuses_too = two.refuses in
      binding_stable (keys.bound_by now name call) (other.bound_by now name call)
      (λ differ. neither (checked ring now name call)
      (λ bound b. differ (binds now name call bound b ∙ sym (binds_too now name call bound b)))
      (λ fault f. differ (refuses now name call fault f ∙ sym (refuses_too now name call fault f))))

  pub one_ring : keys ≡ other
  one_ring =
      let temporary = one.temporary in
      let temporary_too = two.temporary in
      λ i. record {
        is_temporary = λ key. (temporary key ∙ sym (temporary_too key)) i;
        bound_by = λ now name call. same_bound now name call i;
      }
