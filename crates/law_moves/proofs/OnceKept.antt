-- What is kept says that each call is executed at most once.
use Rattle.std.proofs.Common.{◌≡◌, ℕ, List, [], ◌∷◌, inl, inr, sym, refl, ap, ◌∙◌, subst}
use Rattle.std.specs.List.{Contains}
use Rattle.law_moves.specs.Once.{AtMostOne}
use Rattle.law_moves.specs.Table.{CallId, State, Name, Judged, Entry}
use Rattle.law_moves.specs.Table.Cause.{ServerSessionLost, Renewed, Ended, Forgotten}
use Rattle.law_moves.specs.Table.State.{Queued, Held, Done, Refused, Unknown}
use Rattle.law_moves.specs.Table.Outcome.{AcceptedCall}
use Rattle.law_moves.specs.World.{World, Owns}
use Rattle.law_moves.specs.Once.{older_names}
use Rattle.law_moves.proofs.Kept.{Kept, Dead, AllDead, Fits}
use Rattle.law_moves.specs.World.{StoodAt}
use Rattle.law_moves.specs.Once.{IsOfName, IsOfCall, HasNoEntry, Once}
use Rattle.law_moves.proofs.Basics.{contains_first, contains_rest, contains_cases, contains_none}
use Rattle.law_moves.proofs.Taker.{one_taker, accepted_stood}

-- an entry of a name was accepted, so the name isn't dead
entry_not_dead : (now : ℕ) (w : World) (name : Name) (entry : Entry)
    → Kept now w → Dead w.servers w.ups name → Contains w.entries entry → IsOfName w name entry → ⊥
entry_not_dead now w name entry k dead among of =
    (dead entry.server of.0).0 (record { number = entry.number; outcome = AcceptedCall entry.request }) (k.outcomes.entry_judged entry among) of.1 tt

no_entry : (now : ℕ) (w : World) (call : CallId) → Kept now w → AllDead w.servers w.ups (w.calls call).names → HasNoEntry w call
no_entry now w call k dead entry among of = entry_not_dead now w of.0 entry k (dead of.0 of.1) among of.2

-- a name with an entry is the call's last
last_of : (names : List Name) (name : Name) → Contains names name → (Contains (older_names names) name → ⊥) → (other : Name) → Contains names other
    → (Contains (older_names names) other → ⊥) → name ≡ other
last_of [] name among last other there too = absurd (contains_none name among)
last_of (newest ∷ older) name among last other there too =
    elim (contains_cases name newest older among) [
      | inl is ↦ elim (contains_cases other newest older there) [ inl same ↦ is ∙ sym same | inr old ↦ absurd (too old) ]
      | inr old ↦ absurd (last old)
    ]

-- two entries of one call are of one server session and one number
same_place : (now : ℕ) (w : World) (call : CallId) (one other : Entry)
    → Kept now w
    → Contains w.entries one
    → Contains w.entries other
    → IsOfCall w call one
    → IsOfCall w call other
    → (other.server ≡ one.server) × (other.number ≡ one.number)
same_place now w call one other k at_one at_other of_one of_other =
    let same : of_one.0 ≡ of_other.0 =
    last_of (w.calls call).names of_one.0 of_one.1
    (λ old. entry_not_dead now w of_one.0 one k (k.takers.replaced call of_one.0 old) at_one of_one.2)
    of_other.0 of_other.1
    (λ old. entry_not_dead now w of_other.0 other k (k.takers.replaced call of_other.0 old) at_other of_other.2) in
    let stood_one = accepted_stood now w call of_one.0 one.server (record { number = one.number; outcome = AcceptedCall one.request }) k of_one.1 of_one.2.0
    (k.outcomes.entry_judged one at_one) of_one.2.1 tt in
    let stood_other = accepted_stood now w call of_other.0 other.server (record { number = other.number; outcome = AcceptedCall other.request }) k of_other.1 of_other.2.0
    (k.outcomes.entry_judged other at_other) of_other.2.1 tt in (
      one_taker now w of_one.0.first other.server one.server k (of_other.2.0 ∙ ap (λ (n : Name). n.session) (sym same) ∙ sym of_one.2.0)
          (subst (λ (n : Name). StoodAt (w.servers other.server) n.first) (sym same) stood_other) stood_one,
      of_other.2.1 ∙ ap (λ (n : Name). n.number) (sym same) ∙ sym of_one.2.1,
    )

-- at most one thing of a list is so, if any two of it are of one place, of which the list has one at most
at_most_one : {A : Type 0} (IsSo : A → Type 0) (AtPlace : A → A → Type 0) (list : List A)
    → ((one other : A) → Contains list one → Contains list other → IsSo one → IsSo other → AtPlace one other)
    → ((one : A) → AtPlace one one)
    → ((one : A) → AtMostOne (AtPlace one) list)
    → AtMostOne IsSo list
at_most_one IsSo AtPlace [] same itself places = tt
at_most_one IsSo AtPlace (x ∷ list) same itself places = (
  λ so y among so_too. (places x).0 (itself x) y among (same x y (contains_first x list) (contains_rest y x list among) so so_too),
  at_most_one IsSo AtPlace list (λ one other at_one at_other. same one other (contains_rest one x list at_one) (contains_rest other x list at_other)) itself (λ one. (places one).1),
)

state_fits : (now : ℕ) (w : World) (call : CallId) (state : State)
    → Kept now w
    → (w.calls call).state ≡ state
    → Fits (w.clients call.client) w.servers w.ups w.entries (w.calls call).names state
state_fits now w call state k is =
    subst (Fits (w.clients call.client) w.servers w.ups w.entries (w.calls call).names) is (k.calls.fits call)

-- two things of a list that are so are one, if at most one is
same_if_so : {A : Type 0} (IsSo : A → Type 0) (list : List A)
    → AtMostOne IsSo list → (one other : A) → Contains list one → Contains list other → IsSo one → IsSo other → one ≡ other
same_if_so IsSo [] most one other at_one at_other so_one so_other = absurd (contains_none one at_one)
same_if_so IsSo (x ∷ list) most one other at_one at_other so_one so_other =
    elim (contains_cases one x list at_one) [
      | inl here ↦
          elim (contains_cases other x list at_other) [
            | inl there ↦ here ∙ sym there
            | inr later ↦ absurd (most.0 (subst IsSo here so_one) other later so_other)
          ]
      | inr first ↦
          elim (contains_cases other x list at_other) [
            | inl there ↦ absurd (most.0 (subst IsSo there so_other) one first so_one)
            | inr later ↦ same_if_so IsSo list most.1 one other first later so_one so_other
          ]
    ]

-- over all names of a call there is at most one entry
at_most_one_of : (now : ℕ) (w : World) (call : CallId) → Kept now w → AtMostOne (IsOfCall w call) w.entries
at_most_one_of now w call k =
    at_most_one (IsOfCall w call) (λ (one other : Entry). (other.server ≡ one.server) × (other.number ≡ one.number)) w.entries
    (λ one other at_one at_other. same_place now w call one other k at_one at_other)
    (λ one. (refl, refl))
    (λ one. k.outcomes.entry_once one.server one.number)

pub once_if_kept : (now : ℕ) (w : World) → Kept now w → Once w
once_if_kept now w k =
    record {
      once = λ call. at_most_one_of now w call k;
      as_sent = λ entry among.
          let judged : Judged = record { number = entry.number; outcome = AcceptedCall entry.request } in
          let back = k.outcomes.backed entry.server judged (k.outcomes.entry_judged entry among) in
          let named = k.bodies.of_message back.0 entry.request back.1 back.4.0 in
          let of : IsOfName w named.1 entry = (sym back.2 ∙ named.3.0, sym back.3 ∙ named.3.1) in (
            named.0,
            (named.1, named.2, of),
            named.4,
            subst (Owns (w.clients named.0.client)) (sym of.0) (k.owners.of_name named.0 named.1 named.2),
            λ other other_of.
                k.names.of_one other named.0 other_of.0 named.1 other_of.1 named.2 (sym other_of.2.0 ∙ of.0, sym other_of.2.1 ∙ of.1),
          );
      done = λ call reply is.
          let of = state_fits now w call (Done reply) k is in (
            of.0,
            of.1,
            of.2,
            of.3,
            λ other among of_call. same_if_so (IsOfCall w call) w.entries (at_most_one_of now w call k) other of.0 among of.1 of_call of.2,
          );
      replaced = λ call name entry old among of. entry_not_dead now w name entry k (k.takers.replaced call name old) among of;
      queued = λ call is. no_entry now w call k (state_fits now w call Queued k is);
      held = λ call is. no_entry now w call k (state_fits now w call Held k is);
      refused = λ call code is. no_entry now w call k (state_fits now w call (Refused code) k is);
      session_lost = λ call is. state_fits now w call (Unknown ServerSessionLost) k is;
      renewed = λ call is. state_fits now w call (Unknown Renewed) k is;
      ended = λ call is. state_fits now w call (Unknown Ended) k is;
      forgotten = λ call is. state_fits now w call (Unknown Forgotten) k is;
    }
