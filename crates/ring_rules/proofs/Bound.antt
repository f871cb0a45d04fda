-- What is worked out of a binding call is what it binds.
use Rattle.std.proofs.Common.{◌≡◌, ◌∙◌, ℕ, ◌<◌, Bool, true, false, if◌then◌else◌, not, ◌&&◌, ◌==◌, Option, Some, None, List, take, drop, refl, sym, ap, subst}
use Rattle.std.specs.Prelude.{IsTrue}
use Rattle.std.proofs.lemmas.Bool.{and_from, and_parts, ltb-true, lt-ltb, eqb-true}
use Rattle.auth_keys.specs.Rings.{entry_of}
use Rattle.auth_keys.specs.declared.key.KeyKind.{KeyKind}
use Rattle.auth_keys.specs.declared.key.KeyKind.TheVariants.{Perm, Temp}
use Rattle.auth_keys.specs.declared.ring.RingKey.{RingKey}
use Rattle.temp_keys.specs.Below.{SealLaws}
use Rattle.temp_keys.specs.Checking.{Binds, Call, IsFaultOf, IsPermanent, bound_of, first_difference, inner_of, is_temporary}
use Rattle.temp_keys.specs.Messages.{IsInner, Says, binding_message, plain_text}
use Rattle.temp_keys.specs.declared.binding.Bound.{Bound}
use Rattle.temp_keys.specs.declared.binding.Inner.{Inner}
use Rattle.temp_keys.specs.declared.fault.BindFault.{BindFault}
use Rattle.temp_keys.specs.declared.fault.InnerField.{InnerField}
use Rattle.server_rules.specs.Server.{Binding}
use Rattle.server_dispatch.specs.Bindings.{binding_told}
use Rattle.server_dispatch.specs.Rings.{AreOf, checked}
use Rattle.ring_rules.specs.Binding.{binds, is_inner, is_said_by, is_said_under, is_said_with, keys_of, plain_under}
use Rattle.ring_rules.proofs.BindingTexts.{padding-part, plain-bytes, plain_under-sealed, random-part}
use Rattle.ring_rules.proofs.Bytes.{bytes-has, bytes-same, has-bytes, same-bytes}

-- ---- tests

inner-is : (inner : Inner) → is_inner inner ≡ true → IsInner inner
inner-is inner e =
    let a = and_parts _ _ e in
    let b = and_parts _ _ a.1 in
    let c = and_parts _ _ b.1 in
    let d = and_parts _ _ c.1 in
    record {
      nonce = ltb-true inner.nonce 18446744073709551616 a.0;
      temp = ltb-true inner.temp 18446744073709551616 b.0;
      perm = ltb-true inner.perm 18446744073709551616 c.0;
      session = ltb-true inner.session 18446744073709551616 d.0;
      expires = ltb-true inner.expires 4294967296 d.1;
    }

is-inner : (inner : Inner) → IsInner inner → is_inner inner ≡ true
is-inner inner is =
    and_from _ _ (lt-ltb inner.nonce 18446744073709551616 is.nonce)
    (and_from _ _ (lt-ltb inner.temp 18446744073709551616 is.temp)
    (and_from _ _ (lt-ltb inner.perm 18446744073709551616 is.perm)
    (and_from _ _ (lt-ltb inner.session 18446744073709551616 is.session) (lt-ltb inner.expires 4294967296 is.expires))))

-- ---- what is worked out binds

said-with : (key random padding : List ℕ) (call : Call) → is_said_with key random padding call ≡ true → Says key call.binding.message call.number (inner_of call)
said-with key random padding call e =
    let a = and_parts _ _ e in
    let b = and_parts _ _ a.1 in
    let c = and_parts _ _ b.1 in
    let d = and_parts _ _ c.1 in
    record {
      random = random;
      padding = padding;
      random_bytes = has-bytes 16 random a.0;
      padding_bytes = has-bytes 8 padding b.0;
      number_fits = ltb-true call.number 18446744073709551616 c.0;
      inner_fits = inner-is (inner_of call) d.0;
      sealed = same-bytes call.binding.message (binding_message key random call.number (inner_of call) padding) d.1;
    }

-- the call's message says what it says under a permanent key of the ring
record IsSaid (call : Call) : Type 0 where
  key : List ℕ
  permanent : IsPermanent call.ring call.binding.perm key
  says : Says key call.binding.message call.number (inner_of call)

said-by : (call : Call) (entry : RingKey) (kind : KeyKind) → entry.kind ≡ kind → entry_of call.binding.perm call.ring ≡ Some entry
    → is_said_by kind entry.key call ≡ true → IsSaid call
said-by call entry (Temp expires) same found e = cc
said-by call entry Perm same found e =
    let key = entry.key in
    let permanent : IsPermanent call.ring call.binding.perm key =
    subst (λ (kind : KeyKind). entry_of call.binding.perm call.ring ≡ Some (record { key = key; kind = kind })) same found in
    record { key = key; permanent = permanent; says = said-with key (take 16 (plain_under key call.binding.message)) (drop 72 (plain_under key call.binding.message)) call e }

said-under : (call : Call) (entry : Option RingKey) → entry_of call.binding.perm call.ring ≡ entry → is_said_under entry call ≡ true → IsSaid call
said-under call None found e = cc
said-under call (Some entry) found e = said-by call entry entry.kind refl found e

-- calls bind where their messages are made so
abbrev pub MadeBind : Type 0
MadeBind = (call : Call) (key : List ℕ) → IsPermanent call.ring call.binding.perm key → Says key call.binding.message call.number (inner_of call)
    → IsTrue (is_temporary call.ring call.temp) → call.now < call.binding.expires → Binds call (bound_of call)

pub binds-so : MadeBind → (call : Call) → binds call ≡ true → Binds call (bound_of call)
unfolding binds
binds-so made call e =
    let a = and_parts _ _ e in
    let b = and_parts _ _ a.1 in
    let said = said-under call (entry_of call.binding.perm call.ring) refl a.0 in
    made call said.key said.permanent said.says b.0 (ltb-true call.now call.binding.expires b.1)

-- ---- and what binds is worked out

none-of : (so : Bool) (field : InnerField) (rest : Option InnerField) → (if not so then Some field else rest) ≡ None → (so ≡ true) × (rest ≡ None)
none-of true field rest e = (refl, e)
none-of false field rest e = cc

-- what a message says that differs in no field
record Same (call : Call) (number : ℕ) (inner : Inner) : Type 0 where
  number_same : number ≡ call.number
  inner_same : inner ≡ inner_of call
  temporary : is_temporary call.ring call.temp ≡ true

abbrev inner_with : ℕ → ℕ → ℕ → ℕ → ℕ → Inner
inner_with nonce temp perm session expires =
    record { nonce = nonce; temp = temp; perm = perm; session = session; expires = expires }

inner-same : (a b : Inner) → a.nonce ≡ b.nonce → a.temp ≡ b.temp → a.perm ≡ b.perm → a.session ≡ b.session → a.expires ≡ b.expires → a ≡ b
inner-same a b nonce temp perm session expires =
    ap (λ (n : ℕ). inner_with n a.temp a.perm a.session a.expires) nonce
    ∙ (ap (λ (n : ℕ). inner_with b.nonce n a.perm a.session a.expires) temp
    ∙ (ap (λ (n : ℕ). inner_with b.nonce b.temp n a.session a.expires) perm
    ∙ (ap (λ (n : ℕ). inner_with b.nonce b.temp b.perm n a.expires) session
    ∙ ap (λ (n : ℕ). inner_with b.nonce b.temp b.perm b.session n) expires)))

same-so : (call : Call) (number : ℕ) (inner : Inner) → first_difference call number inner ≡ None → Same call number inner
unfolding first_difference
same-so call number inner e =
    let a = none-of (number == call.number) _ _ e in
    let b = none-of (inner.nonce == call.binding.nonce) _ _ a.1 in
    let c = none-of (inner.temp == call.temp && is_temporary call.ring call.temp) _ _ b.1 in
    let d = none-of (inner.perm == call.binding.perm) _ _ c.1 in
    let f = none-of (inner.session == call.session) _ _ d.1 in
    let g = none-of (inner.expires == call.binding.expires) _ _ f.1 in
    let temp = and_parts _ _ c.0 in
    record {
      number_same = eqb-true number call.number a.0;
      inner_same =
          inner-same inner (inner_of call) (eqb-true inner.nonce call.binding.nonce b.0) (eqb-true inner.temp call.temp temp.0)
          (eqb-true inner.perm call.binding.perm d.0) (eqb-true inner.session call.session f.0) (eqb-true inner.expires call.binding.expires g.0);
      temporary = temp.1;
    }

with-said : (key random padding : List ℕ) (call : Call) → (says : Says key call.binding.message call.number (inner_of call))
    → random ≡ says.random → padding ≡ says.padding → is_said_with key random padding call ≡ true
with-said key random padding call says same same_padding =
    rw (same, same_padding)
    (and_from _ _ (bytes-has 16 says.random says.random_bytes)
    (and_from _ _ (bytes-has 8 says.padding says.padding_bytes)
    (and_from _ _ (lt-ltb call.number 18446744073709551616 says.number_fits)
    (and_from _ _ (is-inner (inner_of call) says.inner_fits)
    (bytes-same call.binding.message (binding_message key says.random call.number (inner_of call) says.padding) says.sealed)))))

under-said : SealLaws → (call : Call) (key : List ℕ) → IsPermanent call.ring call.binding.perm key → (says : Says key call.binding.message call.number (inner_of call))
    → is_said_under (entry_of call.binding.perm call.ring) call ≡ true
under-said laws call key permanent says =
    let inner = inner_of call in
    let plain = plain_text says.random call.number inner says.padding in
    let bytes = plain-bytes laws says.random call.number inner says.padding says.random_bytes says.padding_bytes in
    let read : plain_under key call.binding.message ≡ plain = ap (plain_under key) says.sealed ∙ plain_under-sealed laws key plain bytes in
    ap (λ (entry : Option RingKey). is_said_under entry call) permanent
    ∙ with-said key (take 16 (plain_under key call.binding.message)) (drop 72 (plain_under key call.binding.message)) call says
    (ap (take 16) read ∙ random-part says.random call.number inner says.padding says.random_bytes.count)
    (ap (drop 72) read ∙ padding-part says.random call.number inner says.padding says.random_bytes.count)

pub so-binds : SealLaws → (call : Call) (bound : Bound) → Binds call bound → binds call ≡ true
unfolding binds
so-binds laws call bound is =
    let agrees = is.agrees in
    let same = same-so call agrees.number agrees.inner agrees.same in
    let key = agrees.opens.key in
    let message = call.binding.message in
    let says : Says key message call.number (inner_of call) =
    subst (λ (inner : Inner). Says key message call.number inner) same.inner_same
    (subst (λ (number : ℕ). Says key message number agrees.inner) same.number_same agrees.opens.says) in
    and_from _ _ (under-said laws call key agrees.opens.permanent says) (and_from _ _ same.temporary (lt-ltb call.now call.binding.expires is.lasts))

-- ---- the keys of a ring

if-true : (so : Bool) (bound : Binding) → so ≡ true → (if so then Some bound else None) ≡ Some bound
if-true true bound e = refl
if-true false bound e = cc

if-none : (so : Bool) (bound : Binding) → (so ≡ true → ⊥) → (if so then Some bound else None) ≡ None
if-none true bound none = absurd (none refl)
if-none false bound none = refl

abbrev pub NotBoth : Type 0
NotBoth = (call : Call) (bound : Bound) (fault : BindFault) → Binds call bound → IsFaultOf call fault → ⊥

pub are-of : SealLaws → MadeBind → NotBoth → (ring : List RingKey) → AreOf ring (keys_of ring)
are-of laws made not_both ring =
    record {
      temporary = λ key. refl;
      binds = λ now name call bound is.
          let one = checked ring now name call in
          if-true (binds one) (binding_told (bound_of one)) (so-binds laws one bound is) ∙ ap (λ (told : Bound). Some (binding_told told)) (sym is.told);
      refuses = λ now name call fault is.
          let one = checked ring now name call in
          if-none (binds one) (binding_told (bound_of one)) (λ so. not_both one (bound_of one) fault (binds-so made one so) is);
    }
