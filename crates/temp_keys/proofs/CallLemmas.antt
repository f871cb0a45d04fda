-- A call has one answer.
use Rattle.std.proofs.Common.{◌≡◌, ◌∙◌, ℕ, ◌<◌, List, true, Some, None, Result, Ok, Err, IfOk, IfErr, sym, ap, refl, subst, arith}
use Rattle.std.proofs.lemmas.Bool.{eq-eqb}
use Rattle.std.proofs.lemmas.Option.{none-some}
use Rattle.auth_keys.specs.declared.key.KeyKind.TheVariants.{Perm}
use Rattle.auth_keys.specs.declared.ring.RingKey.{RingKey}
use Rattle.temp_keys.specs.Below.{SealLaws}
use Rattle.temp_keys.specs.Checking.{Agrees, Binds, Call, Differs, IsFaultOf, IsNoMessage, IsPermanent, Opens, bound_of, first_difference, inner_of, is_temporary}
use Rattle.temp_keys.specs.Messages.{Says}
use Rattle.temp_keys.specs.declared.binding.Bound.{Bound}
use Rattle.temp_keys.specs.declared.binding.Inner.{Inner}
use Rattle.temp_keys.specs.declared.fault.BindFault.{BindFault}
use Rattle.temp_keys.specs.declared.fault.BindFault.TheVariants.{NoPerm, Seal, Field, Expired}
use Rattle.temp_keys.specs.declared.fault.InnerField.{InnerField}
use Rattle.temp_keys.proofs.SealLemmas.{number-one, inner-one}

abbrev permanent_entry : List ℕ → RingKey
permanent_entry key = record { key = key; kind = Perm }

-- a permanent key of an identifier is one
permanent-one : (ring : List RingKey) (id : ℕ) (key other : List ℕ) → IsPermanent ring id key → IsPermanent ring id other → key ≡ other
permanent-one ring id key other h k =
    let e : Some (permanent_entry key) ≡ Some (permanent_entry other) = sym h ∙ k in
    let same : permanent_entry key ≡ permanent_entry other = cc in
    ap (λ (entry : RingKey). entry.key) same

module _ (laws : SealLaws) where
  -- a message opens to one number and one inner object
  opens-says : (call : Call) (number other : ℕ) (inner rest : Inner) → (h : Opens call number inner) → (k : Opens call other rest) → Says h.key call.binding.message other rest
  opens-says call number other inner rest h k =
      subst (λ (key : List ℕ). Says key call.binding.message other rest) (permanent-one call.ring call.binding.perm k.key h.key k.permanent h.permanent) k.says

  opens-number : (call : Call) (number other : ℕ) (inner rest : Inner) → Opens call number inner → Opens call other rest → number ≡ other
  opens-number call number other inner rest h k =
      number-one laws h.key call.binding.message number other inner rest h.says (opens-says call number other inner rest h k)

  opens-inner : (call : Call) (number other : ℕ) (inner rest : Inner) → Opens call number inner → Opens call other rest → inner ≡ rest
  opens-inner call number other inner rest h k =
      inner-one laws h.key call.binding.message number other inner rest h.says (opens-says call number other inner rest h k)

  -- what a message says differs in one way from its call
  same-difference : (call : Call) (number other : ℕ) (inner rest : Inner) → Opens call number inner → Opens call other rest → first_difference call number inner ≡ first_difference call other rest
  same-difference call number other inner rest h k =
      ap (λ (n : ℕ). first_difference call n inner) (opens-number call number other inner rest h k)
      ∙ ap (λ (i : Inner). first_difference call other i) (opens-inner call number other inner rest h k)

  differs-or-agrees : (call : Call) (which : InnerField) → Differs call which → Agrees call → ⊥
  differs-or-agrees call which h k =
      none-some which (sym k.same ∙ (same-difference call k.number h.number k.inner h.inner k.opens h.opens ∙ h.first))

  differs-one : (call : Call) (which other : InnerField) → Differs call which → Differs call other → which ≡ other
  differs-one call which other h k =
      let e : Some which ≡ Some other = sym h.first ∙ (same-difference call h.number k.number h.inner k.inner h.opens k.opens ∙ k.first) in cc

  opens-or-none : (call : Call) (number : ℕ) (inner : Inner) → IsNoMessage call → Opens call number inner → ⊥
  opens-or-none call number inner h k =
      h.none number inner (subst (λ (key : List ℕ). Says key call.binding.message number inner) (permanent-one call.ring call.binding.perm k.key h.key k.permanent h.permanent) k.says)

  pub binds-no_fault : (call : Call) (bound : Bound) (fault : BindFault) → Binds call bound → IsFaultOf call fault → ⊥
  binds-no_fault call bound NoPerm h k = k h.agrees.opens.key h.agrees.opens.permanent
  binds-no_fault call bound Seal h k = opens-or-none call h.agrees.number h.agrees.inner k h.agrees.opens
  binds-no_fault call bound (Field which) h k = differs-or-agrees call which k h.agrees
  binds-no_fault call bound Expired h k = omega (arith, h.lasts, k.1)

  pub fault-one : (call : Call) (fault other : BindFault) → IsFaultOf call fault → IsFaultOf call other → fault ≡ other
  fault-one call NoPerm NoPerm h k = refl
  fault-one call NoPerm Seal h k = absurd (h k.key k.permanent)
  fault-one call NoPerm (Field which) h k = absurd (h k.opens.key k.opens.permanent)
  fault-one call NoPerm Expired h k = absurd (h k.0.opens.key k.0.opens.permanent)
  fault-one call Seal NoPerm h k = absurd (k h.key h.permanent)
  fault-one call Seal Seal h k = refl
  fault-one call Seal (Field which) h k = absurd (opens-or-none call k.number k.inner h k.opens)
  fault-one call Seal Expired h k = absurd (opens-or-none call k.0.number k.0.inner h k.0.opens)
  fault-one call (Field which) NoPerm h k = absurd (k h.opens.key h.opens.permanent)
  fault-one call (Field which) Seal h k = absurd (opens-or-none call h.number h.inner k h.opens)
  fault-one call (Field which) (Field other) h k = ap Field (differs-one call which other h k)
  fault-one call (Field which) Expired h k = absurd (differs-or-agrees call which h k.0)
  fault-one call Expired NoPerm h k = absurd (k h.0.opens.key h.0.opens.permanent)
  fault-one call Expired Seal h k = absurd (opens-or-none call h.0.number h.0.inner k h.0.opens)
  fault-one call Expired (Field which) h k = absurd (differs-or-agrees call which k h.0)
  fault-one call Expired Expired h k = refl

pub binds-one : (call : Call) (bound other : Bound) → Binds call bound → Binds call other → bound ≡ other
binds-one call bound other h k = h.told ∙ sym k.told

-- an answer is the only one
module _ (laws : SealLaws) where
  pub answer-bound : (call : Call) (answer : Result Bound BindFault) → IfOk answer (Binds call) → IfErr answer (IsFaultOf call) → (bound : Bound) → Binds call bound → answer ≡ Ok bound
  answer-bound call (Ok other) h k bound binds = ap Ok (binds-one call other bound h binds)
  answer-bound call (Err fault) h k bound binds = absurd (binds-no_fault laws call bound fault binds k)

  pub answer-fault : (call : Call) (answer : Result Bound BindFault) → IfOk answer (Binds call) → IfErr answer (IsFaultOf call) → (fault : BindFault) → IsFaultOf call fault → answer ≡ Err fault
  answer-fault call (Ok bound) h k fault faulty = absurd (binds-no_fault laws call bound fault h faulty)
  answer-fault call (Err other) h k fault faulty = ap Err (fault-one laws call other fault k faulty)

-- ---- what was made binds

no_difference : (call : Call) → is_temporary call.ring call.temp ≡ true → first_difference call call.number (inner_of call) ≡ None
unfolding first_difference
no_difference call temporary =
    rw (eq-eqb call.number call.number refl, eq-eqb call.binding.nonce call.binding.nonce refl, eq-eqb call.temp call.temp refl, temporary, eq-eqb call.binding.perm call.binding.perm refl, eq-eqb call.session call.session refl, eq-eqb call.binding.expires call.binding.expires refl) refl

pub made-binds : (call : Call) (key : List ℕ) → IsPermanent call.ring call.binding.perm key → Says key call.binding.message call.number (inner_of call)
    → is_temporary call.ring call.temp ≡ true → call.now < call.binding.expires → Binds call (bound_of call)
made-binds call key permanent says temporary lasts = record {
  agrees = record {
    number = call.number;
    inner = inner_of call;
    opens = record { key = key; permanent = permanent; says = says };
    same = no_difference call temporary;
  };
  lasts = lasts;
  told = refl;
}
