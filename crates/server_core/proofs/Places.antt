-- The sessions of a server, where one of them is set at its place.
use Rattle.std.proofs.Common.{◌≡◌, ◌∙◌, ℕ, suc, ◌<◌, ◌≤◌, Bool, true, false, List, [], ◌∷◌, length, get_or, set, ap, sym, subst, refl, not, arith, inl, inr, one-add}
use Rattle.std.specs.Prelude.{IsSome, ◌==◌}
use Rattle.std.specs.List.{All, position_or_len}
use Rattle.std.proofs.lemmas.Bool.{cases_Bool, eqb-true, eq-eqb, false≢true}
use Rattle.std.proofs.lemmas.List.{length-set, get_or-set_same, get_or-set_other}
use Rattle.std.proofs.lemmas.List.Elements.{All-cons, All-filter, All-head, All-set, All-tail, All-weaker}
use Rattle.std.proofs.lemmas.List.Filters.{length-filter_both}
use Rattle.auth_keys.specs.declared.ring.RingKey.{RingKey}
use Rattle.auth_keys.specs.Rings.{entry_of}
use Rattle.server_rules.specs.Server.{Name}
use Rattle.server_rules.specs.Answer.{room_min}
use Rattle.server_session.specs.declared.session.SessionState.{SessionState}
use Rattle.server_session.specs.SessionState.{IsAt, numbers_left}
use Rattle.server_session.specs.Names.{name_kept}
use Rattle.server_core.specs.Sessions.{is_kept_as, without_kept}
use Rattle.server_core.specs.Server.{CanSpeak, IsSound, without_kept_where}

-- some session, where there is a place
pub one-of : (standings : List SessionState) (n : ℕ) → n < length standings → SessionState
one-of [] n within = absurd (omega arith)
one-of (standing ∷ standings) n within = standing

-- ---- names

pub names-set : (standings : List SessionState) (n : ℕ) (standing : SessionState) (i : ℕ) (d : SessionState) → n < length standings
    → name_kept standing ≡ name_kept (get_or standings n d) → name_kept (get_or (set standings n standing) i d) ≡ name_kept (get_or standings i d)
names-set standings n standing i d within same =
    elim (cases_Bool (i == n)) [
      | inl is ↦
          let at : i ≡ n = eqb-true i n is in
          ap (λ (k : ℕ). name_kept (get_or (set standings n standing) k d)) at
          ∙ (ap name_kept (get_or-set_same standings n standing d within)
          ∙ (same ∙ ap (λ (k : ℕ). name_kept (get_or standings k d)) (sym at)))
      | inr other ↦
          ap name_kept (get_or-set_other standings n i standing d (λ at. false≢true (sym other ∙ eq-eqb i n at)))
    ]

-- ---- what holds of each server

-- what the crate below says of later moments
abbrev pub StaysAt : Type 0
StaysAt = (moment later : ℕ) (standing : SessionState) → moment ≤ later → IsAt moment standing → IsAt later standing

pub speaking-later : StaysAt → (keys : List RingKey) (moment later : ℕ) (standings : List SessionState) → moment ≤ later → All (CanSpeak keys moment) standings
    → All (CanSpeak keys later) standings
speaking-later stay keys moment later standings lt all =
    All-weaker (CanSpeak keys moment) (CanSpeak keys later)
    (λ standing can. record { key = can.key; numbers = can.numbers; at = stay moment later standing lt can.at }) standings all

out-set : (P : SessionState → Type 0) (name : Name) (standings : List SessionState) (standing : SessionState) → All P standings
    → position_or_len (is_kept_as name) standings < length standings → is_kept_as name standing ≡ true
    → All P (without_kept name (set standings (position_or_len (is_kept_as name) standings) standing))
out-set P name [] standing all within is = absurd (omega arith)
out-set P name (first ∷ standings) standing all within is =
    let test = is_kept_as name in
    let rest = All-tail P first standings all in
    elim (cases_Bool (test first)) [
      | inl holds ↦
          let at : position_or_len test (first ∷ standings) ≡ 0 = rw holds refl in
          rw (at, is) (All-filter (λ standing. not (test standing)) P standings rest)
      | inr fails ↦
          let later : position_or_len test (first ∷ standings) ≡ suc (position_or_len test standings) = rw (fails, one-add) refl in
          let others = set standings (position_or_len test standings) standing in
          rw (later, fails)
          (All-cons P first (without_kept name others) (All-head P first standings all) (out-set P name standings standing rest (omega arith) is))
    ]

pub sound-set : StaysAt → (keys : List RingKey) (moment later : ℕ) (name : Name) (standings : List SessionState) (standing : SessionState) (so : Bool) → moment ≤ later
    → IsSound keys moment standings → position_or_len (is_kept_as name) standings < length standings → is_kept_as name standing ≡ true
    → (so ≡ false → CanSpeak keys later standing)
    → IsSound keys later (without_kept_where so name (set standings (position_or_len (is_kept_as name) standings) standing))
sound-set stay keys moment later name standings standing true lt sound within is can =
    let at = position_or_len (is_kept_as name) standings in
    let now = set standings at standing in
    let long : length now ≡ length standings = length-set standings at standing in
    let fewer = length-filter_both (λ (standing : SessionState). not (is_kept_as name standing)) (λ (standing : SessionState). not (not (is_kept_as name standing))) (λ standing. refl) now in
    record {
      few = omega (arith, sound.few);
      speaking = out-set (CanSpeak keys later) name standings standing (speaking-later stay keys moment later standings lt sound.speaking) within is;
    }
sound-set stay keys moment later name standings standing false lt sound within is can =
    let at = position_or_len (is_kept_as name) standings in
    let long : length (set standings at standing) ≡ length standings = length-set standings at standing in
    record {
      few = omega (arith, sound.few);
      speaking = All-set (CanSpeak keys later) standings at standing (can refl) (speaking-later stay keys moment later standings lt sound.speaking);
    }

-- a session of this name can speak with as many numbers as it has left
pub can-still : (keys : List RingKey) (moment later : ℕ) (before after : SessionState) → CanSpeak keys moment before → name_kept after ≡ name_kept before → IsAt later after
    → room_min ≤ numbers_left after → CanSpeak keys later after
can-still keys moment later before after can same at left =
    let K : ℕ → Type 0 = λ key. IsSome (entry_of key keys) in
    record { key = subst K (sym (ap (λ (name : Name). name.key) same)) can.key; numbers = left; at = at }
