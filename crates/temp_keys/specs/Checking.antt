-- What a binding binds, and why one is refused (core.telegram.org/method/auth.bindTempAuthKey).
use Rattle.std.specs.Prelude.{◌≡◌, ℕ, ◌<◌, ◌≤◌, ◌==◌, ◌&&◌, not, Bool, true, false, List, Option, Some, None, if◌then◌else◌}
use Rattle.auth_keys.specs.Rings.{entry_of, kind_in}
use Rattle.auth_keys.specs.declared.key.KeyKind.{KeyKind}
use Rattle.auth_keys.specs.declared.key.KeyKind.TheVariants.{Perm, Temp}
use Rattle.auth_keys.specs.declared.ring.RingKey.{RingKey}
use Rattle.temp_keys.specs.Messages.{Says}
use Rattle.temp_keys.specs.declared.binding.Inner.{Inner}
use Rattle.temp_keys.specs.declared.binding.Binding.{Binding}
use Rattle.temp_keys.specs.declared.binding.Bound.{Bound}
use Rattle.temp_keys.specs.declared.fault.BindFault.{BindFault}
use Rattle.temp_keys.specs.declared.fault.BindFault.TheVariants as faults
use Rattle.temp_keys.specs.declared.fault.InnerField.{InnerField}
use Rattle.temp_keys.specs.declared.fault.InnerField.TheVariants as fields

-- A binding call as it came: the ring and the moment of the server, the key and session of the packet that it came in,
-- its number, and what it says.
pub record Call : Type 0 where
  pub ring : List RingKey
  pub now : ℕ
  pub temp : ℕ
  pub session : ℕ
  pub number : ℕ
  pub binding : Binding

abbrev pub call_of : List RingKey → ℕ → ℕ → ℕ → ℕ → Binding → Call
call_of ring now temp session number binding =
    record { ring = ring; now = now; temp = temp; session = session; number = number; binding = binding }

-- the key of this identifier is a permanent key of the ring
abbrev pub IsPermanent : List RingKey → ℕ → List ℕ → Type 0
IsPermanent ring id key = entry_of id ring ≡ Some (record { key = key; kind = Perm })

-- a temporary key of the ring has this identifier
abbrev pub is_temp : Option KeyKind → Bool
is_temp None = false
is_temp (Some Perm) = false
is_temp (Some (Temp expires)) = true

abbrev pub is_temporary : List RingKey → ℕ → Bool
is_temporary ring id = is_temp (kind_in (entry_of id ring))

-- Where the text of a message differs from its call, the first such field. The field of the temporary key also stands
-- for a key that is no temporary key of the ring.
unfoldable pub first_difference : Call → ℕ → Inner → Option InnerField
first_difference call number inner =
    if not (number == call.number) then Some fields.Number
    else if not (inner.nonce == call.binding.nonce) then Some fields.Nonce
    else if not (inner.temp == call.temp && is_temporary call.ring call.temp) then Some fields.Temp
    else if not (inner.perm == call.binding.perm) then Some fields.Perm
    else if not (inner.session == call.session) then Some fields.Session
    else if not (inner.expires == call.binding.expires) then Some fields.Expires
    else None

-- The call names a permanent key of the ring, and its message is a binding message under that key, with this number and
-- inner object.
pub record Opens (call : Call) (number : ℕ) (inner : Inner) : Type 0 where
  pub key : List ℕ
  pub permanent : IsPermanent call.ring call.binding.perm key
  pub says : Says key call.binding.message number inner

-- the inner object that a message of this call has to say
abbrev pub inner_of : Call → Inner
inner_of call = record {
  nonce = call.binding.nonce;
  temp = call.temp;
  perm = call.binding.perm;
  session = call.session;
  expires = call.binding.expires;
}

-- ---- The four causes of a refusal, each with what the causes before it leave

-- the call names no permanent key of the ring
abbrev pub HasNoPerm : Call → Type 0
HasNoPerm call = (key : List ℕ) → IsPermanent call.ring call.binding.perm key → ⊥

-- it names one, and the message is no binding message under that key
pub record IsNoMessage (call : Call) : Type 0 where
  pub key : List ℕ
  pub permanent : IsPermanent call.ring call.binding.perm key
  pub none : (number : ℕ) (inner : Inner) → Says key call.binding.message number inner → ⊥

-- the text of the message first differs from the call in this field
pub record Differs (call : Call) (which : InnerField) : Type 0 where
  pub number : ℕ
  pub inner : Inner
  pub opens : Opens call number inner
  pub first : first_difference call number inner ≡ Some which

-- the text of the message says what the call says
pub record Agrees (call : Call) : Type 0 where
  pub number : ℕ
  pub inner : Inner
  pub opens : Opens call number inner
  pub same : first_difference call number inner ≡ None

abbrev pub IsFaultOf : Call → BindFault → Type 0
IsFaultOf call faults.NoPerm = HasNoPerm call
IsFaultOf call faults.Seal = IsNoMessage call
IsFaultOf call (faults.Field which) = Differs call which
IsFaultOf call faults.Expired = Agrees call × (call.binding.expires ≤ call.now)

-- ---- what a call binds

abbrev pub bound_of : Call → Bound
bound_of call = record { temp = call.temp; perm = call.binding.perm; expires = call.binding.expires }

-- it binds the key of the packet to the permanent key, up to the moment that it says, which is above now
pub record Binds (call : Call) (bound : Bound) : Type 0 where
  pub agrees : Agrees call
  pub lasts : call.now < call.binding.expires
  pub told : bound ≡ bound_of call
