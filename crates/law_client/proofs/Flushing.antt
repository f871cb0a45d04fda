-- A client's flush, message by message.
use Rattle.std.proofs.Common.{◌≡◌, ◌≢◌, ℕ, suc, ◌+◌, ◌-◌, ◌<◌, Bool, true, not, List, [], ◌∷◌, length, map, Option, Some, inl, inr, refl, sym, ap, subst, ◌∙◌, arith}
use Rattle.std.specs.Prelude.{⊤, slice_get, option_map, IfSome}
use Rattle.std.specs.List.{AllByRecursion}
use Rattle.std.proofs.lemmas.Bool.{cases_Bool, cases_eq}
use Rattle.law_moves.specs.Table as moves
use Rattle.law_moves.specs.World.{World}
use Rattle.call_table.specs.declared.call.CallNo.{CallNo}
use Rattle.call_table.specs.declared.call.Group.TheVariants as group
use Rattle.call_table.specs.Table.{Call, Name, State, at, call_no, changed_at, flagged, group_of, is_in, is_queued, living_name, living_name_in, places_from, sent, settled}
use Rattle.call_table.specs.Table as table
use Rattle.client_rules.specs.Client.{Client, Temporary, calls_of}
use Rattle.law_client.specs.Clients.{StandsAs, IsShort, IsAskedThere, StandsThere}
use Rattle.law_client.proofs.Basics.{Alike, all_given_alike}
use Rattle.law_client.proofs.Quiet.{OnlyFlags, asked_alike, same_there}
use Rattle.law_client.proofs.Sending.{get_changed, get_unchanged}

-- ---- a client that differs in what the law doesn't see

pub record SameParts (one other : Client) : Type 0 where
  pub session : other.session ≡ one.session
  pub former : other.former ≡ one.former
  pub salt : other.salt ≡ one.salt
  pub learnt : other.learnt ≡ one.learnt
  pub ended : other.has_ended ≡ one.has_ended
  pub counters : other.counters ≡ one.counters
  pub calls : calls_of other ≡ calls_of one
  pub temporary : other.temporary ≡ one.temporary
  pub short : IsShort one → IsShort other

pub calm : (w : World) (number : ℕ) (one other : Client) → SameParts one other → StandsAs w number one → StandsAs w number other
calm w number one other same s =
    let alike : Alike one other = record { session = same.session; last = omega (arith, ap (λ (c : Rattle.msg_ids.specs.Counters.Counters). c.last) same.counters) } in
    record {
      made = λ none. s.made (sym same.session ∙ none);
      parts = s.parts ∙ rw (same.session, same.former, same.salt, same.learnt, same.ended) refl;
      submitted = s.submitted ∙ ap (λ (l : List Call). length l) (sym same.calls);
      calls = λ place. subst (λ (l : List Call). StandsThere other w.ups (slice_get l place) (w.calls (moves.call_at number place))) (sym same.calls)
          (same_there one other alike w.ups (slice_get (calls_of one) place) (w.calls (moves.call_at number place)) (s.calls place));
      given = all_given_alike one other alike w.ups s.given;
      short = same.short s.short;
      asked = subst (λ (t : Option Temporary). IfSome t (λ (t : Temporary). IsAskedThere w.ups other t.binding)) (sym same.temporary)
          (asked_alike one other same.session w.ups one.temporary s.asked);
    }

-- ---- calls that are queued

pub record QueuedAt (calls : List Call) (k : CallNo) : Type 0 where
  pub call : Call
  pub found : slice_get calls (k.n - 1) ≡ Some call
  pub queued : call.state ≡ table.Queued

abbrev pub AreQueued : List Call → List CallNo → Type 0
AreQueued calls ks = AllByRecursion (QueuedAt calls) ks

abbrev pub AreApart : List CallNo → Type 0
AreApart [] = ⊤
AreApart (k ∷ ks) = AllByRecursion (λ (j : CallNo). j.n - 1 ≢ k.n - 1) ks × AreApart ks

pub map_queued : (calls changed : List Call) (ks : List CallNo) → ((k : CallNo) → QueuedAt calls k → QueuedAt changed k) → AreQueued calls ks → AreQueued changed ks
map_queued calls changed [] keep h = tt
map_queued calls changed (k ∷ ks) keep h = (keep k h.0, map_queued calls changed ks keep h.1)

-- a change of flags leaves them queued
pub flags_queued : (calls : List Call) (place : ℕ) (change : Call → Call) → OnlyFlags change → (k : CallNo) → QueuedAt calls k → QueuedAt (changed_at place change calls) k
flags_queued calls place change only k h =
    elim (cases_eq (k.n - 1) place) [
      | inl is ↦ record {
        call = change h.call;
        found = get_changed place change calls (k.n - 1) is ∙ ap (λ (f : Option Call). option_map change f) h.found;
        queued = ap (λ (c : Call). c.state) (only h.call).1 ∙ h.queued;
      }
      | inr differs ↦ record { call = h.call; found = get_unchanged place change calls (k.n - 1) differs ∙ h.found; queued = h.queued }
    ]

-- a change of another call leaves them
pub other_queued : (calls : List Call) (k : CallNo) (change : Call → Call) (ks : List CallNo) → AllByRecursion (λ (j : CallNo). j.n - 1 ≢ k.n - 1) ks
    → AreQueued calls ks → AreQueued (changed_at (k.n - 1) change calls) ks
other_queued calls k change [] differs h = tt
other_queued calls k change (j ∷ ks) differs h = (
  record { call = h.0.call; found = get_unchanged (k.n - 1) change calls (j.n - 1) differs.0 ∙ h.0.found; queued = h.0.queued },
  other_queued calls k change ks differs.1 h.1,
)

-- ---- the group of those

above_all : (k : ℕ) (test : Call → Bool) (place : ℕ) (xs : List Call) → k < place
    → AllByRecursion (λ (j : CallNo). j.n - 1 ≢ k) (map call_no (places_from test place xs))
above_all k test place [] below = tt
above_all k test place (x ∷ xs) below =
    elim (cases_Bool (test x)) [
      | inl is ↦ rw is (λ same. omega (arith, same, below), above_all k test (place + 1) xs (omega arith))
      | inr not ↦ rw not (above_all k test (place + 1) xs (omega arith))
    ]

differs_from : (k j : ℕ) → k ≡ j → (ks : List CallNo) → AllByRecursion (λ (c : CallNo). c.n - 1 ≢ k) ks → AllByRecursion (λ (c : CallNo). c.n - 1 ≢ j) ks
differs_from k j is ks h = subst (λ (n : ℕ). AllByRecursion (λ (c : CallNo). c.n - 1 ≢ n) ks) is h

pub group_apart : (test : Call → Bool) (place : ℕ) (xs : List Call) → AreApart (map call_no (places_from test place xs))
group_apart test place [] = tt
group_apart test place (x ∷ xs) =
    elim (cases_Bool (test x)) [
      | inl is ↦
          rw is (
            differs_from place ((call_no place).n - 1) (omega arith) (map call_no (places_from test (place + 1) xs)) (above_all place test (place + 1) xs (omega arith)),
            group_apart test (place + 1) xs,
          )
      | inr not ↦ rw not (group_apart test (place + 1) xs)
    ]

is_queued_so : (state : State) → is_queued state ≡ true → state ≡ table.Queued
is_queued_so table.Queued is = refl
is_queued_so table.Sent is = absurd (cc)
is_queued_so table.Held is = absurd (cc)
is_queued_so (table.Done reply) is = absurd (cc)
is_queued_so (table.Refused code) is = absurd (cc)
is_queued_so (table.Unknown cause) is = absurd (cc)

pub group_queued : (all : List Call) (place : ℕ) (xs : List Call) → ((i : ℕ) → slice_get xs i ≡ slice_get all (place + i))
    → AreQueued all (map call_no (places_from (is_in group.Queued) place xs))
group_queued all place [] at_all = tt
group_queued all place (x ∷ xs) at_all =
    let rest : (i : ℕ) → slice_get xs i ≡ slice_get all (place + 1 + i) =
    λ i. at_all (suc i) ∙ ap (λ (n : ℕ). slice_get all n) (omega arith) in
    elim (cases_Bool (is_in group.Queued x)) [
      | inl is ↦
          rw is (
            record {
              call = x;
              found = ap (λ (n : ℕ). slice_get all n) (omega arith) ∙ sym (at_all 0);
              queued = is_queued_so x.state is;
            },
            group_queued all (place + 1) xs rest,
          )
      | inr not ↦ rw not (group_queued all (place + 1) xs rest)
    ]
