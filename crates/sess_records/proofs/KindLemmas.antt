-- Kinds, and how many bytes their events have.
use Rattle.std.proofs.Common.{◌≡◌, ◌≢◌, ◌≤◌, ◌+◌, ◌%◌, ◌∙◌, ℕ, List, [], length, arith, sym, ap, refl}
use Rattle.std.proofs.lemmas.List.{nil_from_length}
use Rattle.sess_records.specs.declared.records.Event.{Event}
use Rattle.sess_records.specs.declared.records.Event.TheVariants.{Packet, Tick, Attach, Begin, Ran, Interrupted}
use Rattle.sess_records.specs.Format.{IsEvent, IsReply, kind_of, rest_of, size_of}
use Rattle.sess_records.specs.Steps.{MayHave}

-- no event has a count that doesn't fit its kind
pub no_event_of : (kind count : ℕ) → kind ≢ 1 → (kind ≡ 2 → count ≢ 0) → (kind ≡ 3 → count ≢ 16) → (kind ≡ 4 → count ≢ 8)
    → (kind ≡ 5 → (count ≤ 262144) × (count % 4 ≡ 0) → ⊥) → (kind ≡ 6 → count ≢ 0)
    → (rest : List ℕ) → length rest ≡ count → (event : Event (List ℕ)) → IsEvent event → kind ≡ kind_of event → rest ≡ rest_of event → ⊥
no_event_of kind count packet tick attach begin ran interrupted rest long (Packet bytes) h k e = packet k
no_event_of kind count packet tick attach begin ran interrupted rest long Tick h k e = tick k (sym long ∙ ap length e)
no_event_of kind count packet tick attach begin ran interrupted rest long (Attach key session) h k e = attach k (sym long ∙ ap length e)
no_event_of kind count packet tick attach begin ran interrupted rest long (Begin job) h k e = begin k (sym long ∙ ap length e)
no_event_of kind count packet tick attach begin ran interrupted rest long (Ran reply) h k e =
    let same : count ≡ length reply = sym long ∙ ap length e in
    ran k (omega (arith, same, h.short), ap (λ (n : ℕ). n % 4) same ∙ h.words)
no_event_of kind count packet tick attach begin ran interrupted rest long Interrupted h k e = interrupted k (sym long ∙ ap length e)

-- what a count that fits its kind shows
pub may_by : (kind count : ℕ) → 1 ≤ kind → kind ≤ 6 → (kind ≡ 2 → count ≡ 0) → (kind ≡ 3 → count ≡ 16) → (kind ≡ 4 → count ≡ 8) → (kind ≡ 5 → count ≤ 262144)
    → (kind ≡ 5 → count % 4 ≡ 0) → (kind ≡ 6 → count ≡ 0) → MayHave kind count
may_by kind count low high tick attach begin short words interrupted = record {
  known = (low, high);
  tick = tick;
  attach = attach;
  begin = begin;
  short = short;
  words = words;
  interrupted = interrupted;
}

pub tick_bytes : (kind : ℕ) (rest : List ℕ) → MayHave kind (length rest) → kind ≡ 2 → [] ≡ rest
tick_bytes kind rest may is = sym (nil_from_length rest (may.tick is))

pub last_kind : (kind count : ℕ) → MayHave kind count → kind ≢ 1 → kind ≢ 2 → kind ≢ 3 → kind ≢ 4 → kind ≢ 5 → 6 ≡ kind
last_kind kind count may one two three four five = omega (arith, may.known.0, may.known.1, one, two, three, four, five)

pub last_bytes : (kind : ℕ) (rest : List ℕ) → MayHave kind (length rest) → kind ≢ 1 → kind ≢ 2 → kind ≢ 3 → kind ≢ 4 → kind ≢ 5 → [] ≡ rest
last_bytes kind rest may one two three four five =
    sym (nil_from_length rest (may.interrupted (sym (last_kind kind (length rest) may one two three four five))))

pub attach_count : (kind count : ℕ) → MayHave kind count → kind ≡ 3 → count ≡ 16
attach_count kind count may is = may.attach is

pub begin_count : (kind count : ℕ) → MayHave kind count → kind ≡ 4 → count ≡ 8
begin_count kind count may is = may.begin is

pub reply_of : (kind : ℕ) (rest : List ℕ) → MayHave kind (length rest) → kind ≡ 5 → IsReply rest
reply_of kind rest may is = record { short = may.short is; words = may.words is }

-- how many bytes the record of an event adds
pub size_rest : (event : Event (List ℕ)) → size_of event ≡ 22 + length (rest_of event)
size_rest (Packet packet) = refl
size_rest Tick = refl
size_rest (Attach key session) = refl
size_rest (Begin job) = refl
size_rest (Ran reply) = refl
size_rest Interrupted = refl
