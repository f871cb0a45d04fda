-- The setting of the run that is shown is one of the law's: its seal, its keys, its service, and the keys and bodies of its steps.
use Rattle.std.proofs.Common.{◌≡◌, ◌∙◌, ◌==◌, ◌<◌, ◌*◌, ◌+◌, if◌then◌else◌, ℕ, zero, suc, Bool, true, false, Option, Some, None, List, [], ◌∷◌, refl, sym, ap, subst, arith}
use Rattle.std.specs.Prelude.{IfSome, is_none, is_some, nat_lt, slice_index, ◌&&◌, ◌↔◌}
use Rattle.std.specs.List.{list_all}
use Rattle.std.proofs.Math.Nat.{mod-lt}
use Rattle.std.proofs.lemmas.Bool.{eqb-true, ltb-true}
use Rattle.sha1.specs.Sha1.{first_words, schedule, rounds, compress, hash_after, digest_bytes, sha1}
use Rattle.octets.specs.Bytes.{IsBytes}
use Rattle.auth_keys.specs.Keys.{identifier}
use Rattle.auth_keys.specs.Rings.{entry_of}
use Rattle.auth_keys.specs.declared.ring.RingKey.{RingKey}
use Rattle.client_core.specs.Keys.{BoundTo, Keys}
use Rattle.envelope.specs.declared.parts.Dir.{Dir}
use Rattle.envelope.specs.declared.parts.Envelope.{Envelope}
use Rattle.envelope.specs.Lock.{clear_lock}
use Rattle.envelope.specs.Opening.{Opens, key_named}
use Rattle.regs_service.specs.Registers as registers
use Rattle.regs_service.specs.Served.{IsReply}
use Rattle.ring_rules.specs.Opening.{opened, opened_under}
use Rattle.world_rules.specs.Premises.{IsSealed, IsSound}
use Rattle.world_rules.specs.Setting.{Setting}
use Rattle.world_rules.specs.World.{counted}
use Rattle.law_packets.specs.Lawful.{is_held}
use Rattle.law_connections.specs.Joint.{Deed, Joint, Attaches, Begins, Does, Draws, Flushes, Hears, Renews, Serves, Starts, Submits, steps_on}
use Rattle.law_connections.specs.Premises.{AreHeld, AreOf, IsOfBytes, IsStepOf}
use Rattle.law_connections.specs.Witness.{Down, Goes, Turn, Up, entry, entry_named, key, key_number, ring, setting, step_in, steps_in}
use Rattle.law_connections.proofs.Shown.{both}

-- ---- its key

pub key-is : identifier key ≡ key_number
unfolding first_words schedule rounds compress hash_after digest_bytes sha1 key
key-is = refl

entry-is : (id : ℕ) → entry_of id ring ≡ entry_named id
entry-is id = ap (λ (n : ℕ). if n == id then Some entry else None) key-is

has-key : is_held ring key_number ≡ true
has-key = ap is_some (entry-is key_number)

-- ---- its seal

opens-so : (now : ℕ) (dir : Dir) (packet : List ℕ) → setting.opens now dir packet ≡ opened clear_lock ring now dir packet
unfolding opened
opens-so now dir packet = ap (λ (one : Option RingKey). opened_under clear_lock now dir packet one) (sym (entry-is (key_named packet)))

pub is-sealed : ((ring : List RingKey) (now : ℕ) (dir : Dir) (packet : List ℕ) (envelope : Envelope) → (opened clear_lock ring now dir packet ≡ Some envelope ↔ Opens clear_lock ring now dir packet envelope))
    → IsSealed clear_lock ring setting
is-sealed opens = record {
  sealed = λ dir envelope padding entry found. refl;
  opens = λ now dir bytes envelope. subst (λ (one : Option Envelope). (one ≡ Some envelope ↔ Opens clear_lock ring now dir bytes envelope)) (sym (opens-so now dir bytes)) (opens ring now dir bytes envelope);
}

pub is-sound : ((sums : registers.Sums) (request : List ℕ) → IsReply (registers.step sums request).0 × IsBytes (registers.step sums request).0) → IsBytes [] → IsSound ring setting
is-sound replies none = record {
  permanent = has-key;
  temporary = has-key;
  words = λ given. mod-lt (6364136223846793005 * (given + 1)) (omega arith);
  replies = replies;
  bindings = λ perm number random padding inner drawn padded. none;
}

-- ---- keys and bodies

tested-at : (bytes : List ℕ) (i : ℕ) → list_all (λ byte. nat_lt byte 256) bytes ≡ true → slice_index bytes i < 256
tested-at [] i h = omega arith
tested-at (byte ∷ bytes) zero h = ltb-true byte 256 (both (nat_lt byte 256) (list_all (λ byte. nat_lt byte 256) bytes) h).0
tested-at (byte ∷ bytes) (suc i) h = tested-at bytes i (both (nat_lt byte 256) (list_all (λ byte. nat_lt byte 256) bytes) h).1

-- a call of bytes; keys that are those of the ring
abbrev pub is_of_bytes : Deed → Bool
is_of_bytes (Submits body earlier) = list_all (λ byte. nat_lt byte 256) body
is_of_bytes deed = true

abbrev pub is_own : Keys → Bool
is_own keys = (keys.key == key_number) && is_none keys.bound_to

abbrev pub is_turn_of : Turn → Bool
is_turn_of (Goes (Begins keys draw)) = is_own keys
is_turn_of (Goes (Does number deed)) = is_of_bytes deed
is_turn_of turn = true

of-bytes : (deed : Deed) → is_of_bytes deed ≡ true → IsOfBytes deed
of-bytes (Submits body earlier) is = λ i. tested-at body i is
of-bytes (Draws words) is = tt
of-bytes Attaches is = tt
of-bytes Renews is = tt
of-bytes (Flushes now) is = tt
of-bytes (Hears now packet) is = tt

unbound : (bound : Option BoundTo) → is_none bound ≡ true → IfSome bound (λ one. is_held ring one.perm ≡ true)
unbound None is = tt
unbound (Some one) is = absurd (let e : false ≡ true = is in cc)

own-held : (keys : Keys) → is_own keys ≡ true → AreHeld ring keys
own-held keys is =
    let parts = both (keys.key == key_number) (is_none keys.bound_to) is in
    record { key = ap (λ (id : ℕ). is_held ring id) (eqb-true keys.key key_number parts.0) ∙ has-key; perm = unbound keys.bound_to parts.1 }

if-there : {X : Type 0} (found : Option X) (P : Type 0) → P → IfSome found (λ x. P)
if-there None P p = tt
if-there (Some x) P p = p

module _ {V : Type 0} (setting : Setting ℕ V) where
  turn-of : (joint : Joint ℕ V) (turn : Turn) → is_turn_of turn ≡ true → IsStepOf ring joint (step_in setting joint turn)
  turn-of joint (Goes (Begins keys draw)) is = own-held keys is
  turn-of joint (Goes (Does number deed)) is = if-there (counted number joint.draws) (IsOfBytes deed) (of-bytes deed is)
  turn-of joint (Goes (Serves act)) is = tt
  turn-of joint (Goes (Starts draw)) is = tt
  turn-of joint (Up number) is = tt
  turn-of joint (Down number) is = if-there (counted 1 joint.draws) (Unit {0}) tt

  pub turns-of : (turns : List Turn) (joint : Joint ℕ V) → list_all is_turn_of turns ≡ true → AreOf ring setting joint (steps_in setting joint turns)
  turns-of [] joint is = tt
  turns-of (turn ∷ turns) joint is =
      let parts = both (is_turn_of turn) (list_all is_turn_of turns) is in
      (turn-of joint turn parts.0, turns-of turns (steps_on setting joint (step_in setting joint turn)) parts.1)
