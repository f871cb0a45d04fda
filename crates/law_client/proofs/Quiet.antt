-- Wishes and attaches.
use Rattle.tl_codec.specs.Standard.{longs_max}
use Rattle.std.proofs.Common.{◌≡◌, ◌≤◌, ℕ, zero, suc, ◌-◌, true, List, [], ◌∷◌, length, Option, None, Some, inl, inr, refl, sym, ap, subst, ◌∙◌, arith}
use Rattle.std.specs.Prelude.{slice_get, option_map, IfSome}
use Rattle.std.proofs.lemmas.Bool.{cases_Bool}
use Rattle.std.proofs.lemmas.List.{length-map}
use Rattle.law_moves.specs.Table as moves
use Rattle.law_moves.specs.World.{World}
use Rattle.law_moves.specs.Lawful.{WasNoCall}
use Rattle.call_table.specs.declared.call.CallNo.{CallNo}
use Rattle.call_table.specs.declared.call.Flags.{Flags}
use Rattle.call_table.specs.Table.{Call, flagged, is_sent, changed_at}
use Rattle.client_rules.specs.Client.{Client, Binding, Asked, Needed, Held, Bound, Refused, Temporary, Waiting, calls_of, with_call}
use Rattle.client_rules.specs.Asking.{alone_if_sent, alone_if_asked, attached, can_drop, dropped, drops, is_asked, pinged, salts_asked, ticked}
use Rattle.law_client.specs.Clients.{StandsAs, IsCallThere, StandsThere, IsAskedThere}
use Rattle.law_client.proofs.Basics.{Alike, get_map, living_alike, all_given_alike}

-- calls are changed in their flags alone
abbrev pub OnlyFlags : (Call → Call) → Type 0
OnlyFlags change = (call : Call) → (flags : Flags) × (change call ≡ flagged flags call)

module _ (one other : Client) (alike : Alike one other) (ups : List moves.Message) where
  flagged_there : (call : Call) (flags : Flags) (there : moves.Call) → IsCallThere one ups call there → IsCallThere other ups (flagged flags call) there
  flagged_there call flags there h = record {
    body = h.body;
    state = h.state;
    names = h.names;
    living = living_alike one other alike.session call h.living;
    asks = h.asks;
  }

  pub changed_there : (change : Call → Call) → OnlyFlags change → (found : Option Call) (there : moves.Call)
      → StandsThere one ups found there → StandsThere other ups (option_map change found) there
  changed_there change only None there h = h
  changed_there change only (Some call) there h =
      subst (λ (c : Call). IsCallThere other ups c there) (sym (only call).1) (flagged_there call (only call).0 there h)

  pub same_there : (found : Option Call) (there : moves.Call) → StandsThere one ups found there → StandsThere other ups found there
  same_there None there h = h
  same_there (Some call) there h = flagged_there call call.flags there h

  pub one_changed_there : (change : Call → Call) → OnlyFlags change → (calls : List Call) (place : ℕ) (theres : ℕ → moves.Call)
      → ((i : ℕ) → StandsThere one ups (slice_get calls i) (theres i))
      → (i : ℕ) → StandsThere other ups (slice_get (changed_at place change calls) i) (theres i)
  one_changed_there change only [] place theres h i = h i
  one_changed_there change only (call ∷ calls) zero theres h zero = changed_there change only (Some call) (theres 0) (h 0)
  one_changed_there change only (call ∷ calls) zero theres h (suc i) = same_there (slice_get calls i) (theres (suc i)) (h (suc i))
  one_changed_there change only (call ∷ calls) (suc place) theres h zero = same_there (Some call) (theres 0) (h 0)
  one_changed_there change only (call ∷ calls) (suc place) theres h (suc i) =
      one_changed_there change only calls place (λ j. theres (suc j)) (λ j. h (suc j)) i

pub length_changed : {X : Type 0} (place : ℕ) (change : X → X) (xs : List X) → length (changed_at place change xs) ≡ length xs
length_changed place change [] = refl
length_changed zero change (x ∷ xs) = refl
length_changed (suc place) change (x ∷ xs) = ap suc (length_changed place change xs)

-- ---- what was asked for the binding

same_binding : (temporary : Temporary) → temporary.binding ≡ (alone_if_asked temporary).binding
same_binding temporary =
    elim (cases_Bool (is_asked temporary.binding)) [ inl is ↦ rw is refl | inr not ↦ rw not refl ]

pub binding_alike : (one other : Client) → other.session ≡ one.session → (ups : List moves.Message) (binding : Binding)
    → IsAskedThere ups one binding → IsAskedThere ups other binding
binding_alike one other session ups Needed h = tt
binding_alike one other session ups (Asked message) h =
    (subst (λ (s : ℕ). WasNoCall ups s message.number) (sym session) h.0, h.1)
binding_alike one other session ups Held h = tt
binding_alike one other session ups Bound h = tt
binding_alike one other session ups (Refused code) h = tt

pub asked_alike : (one other : Client) → other.session ≡ one.session → (ups : List moves.Message) (temporary : Option Temporary)
    → IfSome temporary (λ (t : Temporary). IsAskedThere ups one t.binding) → IfSome temporary (λ (t : Temporary). IsAskedThere ups other t.binding)
asked_alike one other session ups None h = tt
asked_alike one other session ups (Some temporary) h = binding_alike one other session ups temporary.binding h

-- ---- what leaves the calls

module _ (w : World) (number : ℕ) (client : Client) (s : StandsAs w number client) where
  -- a client with other waiting items stands too
  waits_so : (waiting : Waiting) → waiting.resent ≡ client.waiting.resent → StandsAs w number (record client { waiting = waiting })
  waits_so waiting same =
      let other : Client = record client { waiting = waiting } in
      let alike : Alike client other = record { session = refl; last = omega arith } in
      record {
        made = s.made;
        parts = s.parts;
        submitted = s.submitted;
        calls = λ place. same_there client other alike w.ups (slice_get (calls_of client) place) (w.calls (moves.call_at number place)) (s.calls place);
        given = all_given_alike client other alike w.ups s.given;
        short = record { acks = s.short.acks; resent = subst (λ (l : List ℕ). length l ≤ longs_max) (sym same) s.short.resent };
        asked = asked_alike client other refl w.ups client.temporary s.asked;
      }

  pub ticks : StandsAs w number (ticked client)
  ticks = waits_so (ticked client).waiting refl

  pub pings : (id : ℕ) → StandsAs w number (pinged id client)
  pings id = waits_so (pinged id client).waiting refl

  pub asks_salts : (count : ℕ) → StandsAs w number (salts_asked count client)
  asks_salts count = waits_so (salts_asked count client).waiting refl

  -- ---- flags

  alone_only : OnlyFlags alone_if_sent
  alone_only call =
      elim (cases_Bool (is_sent call.state)) [
        | inl is ↦ (record call.flags { alone = true }, rw is refl)
        | inr not ↦ (call.flags, rw not refl)
      ]

  marked_binding : (ups : List moves.Message) (other : Client) → other.session ≡ client.session → (temporary : Temporary) (binding : Binding)
      → temporary.binding ≡ binding → IsAskedThere ups client temporary.binding → IsAskedThere ups other (alone_if_asked temporary).binding
  marked_binding ups other session temporary binding is h =
      subst (λ (b : Binding). IsAskedThere ups other b) (same_binding temporary) (binding_alike client other session ups temporary.binding h)

  asked_marked : (ups : List moves.Message) (other : Client) → other.session ≡ client.session → (temporary : Option Temporary)
      → IfSome temporary (λ (t : Temporary). IsAskedThere ups client t.binding)
      → IfSome (option_map alone_if_asked temporary) (λ (t : Temporary). IsAskedThere ups other t.binding)
  asked_marked ups other session None h = tt
  asked_marked ups other session (Some temporary) h = marked_binding ups other session temporary temporary.binding refl h

  pub attaches : StandsAs w number (attached client)
  attaches =
      let other : Client = attached client in
      let alike : Alike client other = record { session = refl; last = omega arith } in
      record {
        made = s.made;
        parts = s.parts;
        submitted = s.submitted ∙ sym (length-map (calls_of client) alone_if_sent);
        calls = λ place. subst (λ (found : Option Call). StandsThere other w.ups found (w.calls (moves.call_at number place)))
            (sym (get_map alone_if_sent (calls_of client) place))
            (changed_there client other alike w.ups alone_if_sent alone_only (slice_get (calls_of client) place) (w.calls (moves.call_at number place)) (s.calls place));
        given = all_given_alike client other alike w.ups s.given;
        short = record { acks = s.short.acks; resent = s.short.resent };
        asked = asked_marked w.ups other refl client.temporary s.asked;
      }

  drops_so : (call : CallNo) → StandsAs w number (with_call call drops client)
  drops_so call =
      let other : Client = with_call call drops client in
      let alike : Alike client other = record { session = refl; last = omega arith } in
      record {
        made = s.made;
        parts = s.parts;
        submitted = s.submitted ∙ sym (length_changed (call.n - 1) drops (calls_of client));
        calls = one_changed_there client other alike w.ups drops (λ one. (record one.flags { dropping = true }, refl)) (calls_of client) (call.n - 1)
            (λ place. w.calls (moves.call_at number place)) s.calls;
        given = all_given_alike client other alike w.ups s.given;
        short = record { acks = s.short.acks; resent = s.short.resent };
        asked = asked_alike client other refl w.ups client.temporary s.asked;
      }

  pub drops_answer : (call : CallNo) → StandsAs w number (dropped call client)
  drops_answer call =
      elim (cases_Bool (can_drop call client)) [
        | inl can ↦ rw can (drops_so call)
        | inr cannot ↦ rw cannot s
      ]
