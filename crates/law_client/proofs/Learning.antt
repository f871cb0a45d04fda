-- What a new unique number makes of a client.
use Rattle.std.proofs.Common.{◌≡◌, ℕ, ◌==◌, ◌&&◌, ◌||◌, not, Bool, true, false, List, [], ◌∷◌, ◌++◌, reverse, filter, Option, None, Some, if◌then◌else◌, inl, inr, refl, sym, ap, subst, ◌∙◌, arith, eq-eqb, ne_eqb}
use Rattle.std.specs.Prelude.{slice_get, option_map, IfSome}
use Rattle.std.specs.List.{list_all, list_any}
use Rattle.std.proofs.lemmas.Bool.{cases_Bool, cases_eq}
use Rattle.std.proofs.lemmas.List.{length-map, reverse-append}
use Rattle.std.proofs.lemmas.List.Folds.{list_any-append}
use Rattle.law_moves.specs.Table as moves
use Rattle.law_moves.specs.World.{World}
use Rattle.law_moves.specs.After.{after_learnt, is_nil, is_sent, newest_salts, state_learnt}
use Rattle.call_table.specs.declared.call.Fate.{Fate}
use Rattle.call_table.specs.declared.call.Fate.TheVariants as fate
use Rattle.call_table.specs.declared.call.Cause.TheVariants as cause
use Rattle.call_table.specs.declared.call.Under.TheVariants.{One}
use Rattle.call_table.specs.Table.{Call, Name, State, living_name, living_name_in, settled, state_after, under_of, under_others}
use Rattle.call_table.specs.Table as table
use Rattle.client_rules.specs.Asking.{begins_service}
use Rattle.client_rules.specs.Client.{Client, Needed, Temporary, bound_so, calls_of, is_open}
use Rattle.client_rules.specs.Learning.{fate_learning, fate_under, learns, settled_if, with_clock}
use Rattle.law_client.specs.Clients.{StandsAs, AreNamesThere, IsAskedThere, IsCallThere, LivesIn, StandsThere, state_there}
use Rattle.law_client.proofs.Basics.{Alike, all_given_alike, get_map}
use Rattle.law_client.proofs.Quiet.{same_there}

-- ---- salts

all_zero : (salts : List ℕ) → list_all (λ (under : ℕ). under == 0) salts ≡ is_nil (filter (λ (salt : ℕ). not (salt == 0)) salts)
all_zero [] = refl
all_zero (salt ∷ salts) =
    elim (cases_Bool (salt == 0)) [
      | inl is ↦ rw is (all_zero salts)
      | inr isnt ↦ rw isnt refl
    ]

all_one : (new : ℕ) (salts : List ℕ) → list_all (λ (under : ℕ). (under == 0) || (under == new)) salts
    ≡ list_all (λ (under : ℕ). under == new) (filter (λ (salt : ℕ). not (salt == 0)) salts)
all_one new [] = refl
all_one new (salt ∷ salts) =
    elim (cases_Bool (salt == 0)) [
      | inl is ↦ rw is (all_one new salts)
      | inr isnt ↦ rw isnt (ap (λ (b : Bool). (salt == new) && b) (all_one new salts))
    ]

-- what the law makes of a call is what becomes of it
abbrev state_so : Option Fate → moves.State
state_so None = moves.State.Sent
state_so (Some fate) = state_there (state_after fate)

abbrev learnt_by : Bool → Bool → Bool → moves.State
learnt_by unsalted first same = if unsalted then moves.State.Queued else if first && same then moves.State.Sent else moves.State.Unknown moves.Cause.ServerSessionLost

more_than_one : (first : Bool) (new one : ℕ) (others : List ℕ) → list_all (λ (other : ℕ). other == one) others ≡ false
    → ((one == new) && list_all (λ (under : ℕ). under == new) others) ≡ false
more_than_one first new one others differs =
    elim (cases_eq one new) [
      | inl is ↦ rw (eq-eqb one new is) (subst (λ (n : ℕ). list_all (λ (under : ℕ). under == n) others ≡ false) is differs)
      | inr isnt ↦ rw (ne_eqb one new isnt) refl
    ]

just_one : (new one : ℕ) (others : List ℕ) → list_all (λ (other : ℕ). other == one) others ≡ true
    → ((one == new) && list_all (λ (under : ℕ). under == new) others) ≡ (one == new)
just_one new one others same =
    elim (cases_eq one new) [
      | inl is ↦ rw (eq-eqb one new is) (subst (λ (n : ℕ). list_all (λ (under : ℕ). under == n) others ≡ true) is same)
      | inr isnt ↦ rw (ne_eqb one new isnt) refl
    ]

under_one : (first : Bool) (new one : ℕ) → learnt_by false first (one == new) ≡ state_so (fate_under first new (One one))
under_one first new one =
    elim (cases_Bool (first && (one == new))) [
      | inl is ↦ rw is refl
      | inr isnt ↦ rw isnt refl
    ]

and_false : (b : Bool) → (b && false) ≡ false
and_false true = refl
and_false false = refl

no_more : (first : Bool) → learnt_by false first false ≡ state_so (Some (fate.Unknown cause.Session))
no_more first = rw (and_false first) refl

under_so : (first : Bool) (new : ℕ) (salts : List ℕ)
    → learnt_by (is_nil salts) first (list_all (λ (under : ℕ). under == new) salts) ≡ state_so (fate_under first new (under_others salts))
under_so first new [] = refl
under_so first new (one ∷ others) =
    elim (cases_Bool (list_all (λ (other : ℕ). other == one) others)) [
      | inl same ↦ rw (same, just_one new one others same) (under_one first new one)
      | inr differs ↦ rw (differs, more_than_one first new one others differs) (no_more first)
    ]

learnt_so : (learnt : List ℕ) (first : Bool) (new : ℕ) (salts : List ℕ) → is_nil learnt ≡ first
    → state_learnt learnt new salts ≡ state_so (fate_under first new (under_of salts))
learnt_so learnt first new salts is =
    rw (all_zero salts, all_one new salts, is) (under_so first new (filter (λ (salt : ℕ). not (salt == 0)) salts))

-- ---- lists the other way round

turned : (a b : Bool) → (a || (b || false)) ≡ (b || a)
turned true true = refl
turned true false = refl
turned false true = refl
turned false false = refl

nil_pushed : (xs : List ℕ) (x : ℕ) → is_nil (xs ++ x ∷ []) ≡ false
nil_pushed [] x = refl
nil_pushed (y ∷ xs) x = refl

pub any_reverse : (test : ℕ → Bool) (xs : List ℕ) → list_any test (reverse xs) ≡ list_any test xs
any_reverse test [] = refl
any_reverse test (x ∷ xs) =
    ap (λ (l : List ℕ). list_any test l) (reverse-append (x ∷ []) xs) ∙ list_any-append test (reverse xs) (x ∷ []) ∙ rw (any_reverse test xs) (turned (list_any test xs) (test x))

nil_reverse : (xs : List ℕ) → is_nil (reverse xs) ≡ not (list_any (λ (x : ℕ). true) xs)
nil_reverse [] = refl
nil_reverse (x ∷ xs) = ap is_nil (reverse-append (x ∷ []) xs) ∙ nil_pushed (reverse xs) x

-- ---- calls

abbrev state_of : Option Fate → State → moves.State
state_of None state = state_there state
state_of (Some fate) state = state_there (state_after fate)

sent_or : (fate : Option Fate) → state_so fate ≡ state_of fate table.Sent
sent_or None = refl
sent_or (Some fate) = refl

learnt_call : (learnt : List ℕ) (first : Bool) (new : ℕ) (ups : List moves.Message) (session : ℕ) (state : State) (names : List Name) (theres : List moves.Name)
    → is_nil learnt ≡ first → AreNamesThere ups names theres → LivesIn session state names
    → (if is_sent (state_there state) then state_learnt learnt new (newest_salts ups theres) else state_there state)
    ≡ state_of (fate_learning first new (living_name_in state names)) state
learnt_call learnt first new ups session table.Queued names theres is h lives = refl
learnt_call learnt first new ups session table.Held names theres is h lives = refl
learnt_call learnt first new ups session (table.Done reply) names theres is h lives = refl
learnt_call learnt first new ups session (table.Refused code) names theres is h lives = refl
learnt_call learnt first new ups session (table.Unknown cause) names theres is h lives = refl
learnt_call learnt first new ups session table.Sent [] theres is h lives = absurd lives
learnt_call learnt first new ups session table.Sent (name ∷ names) [] is h lives = absurd h
learnt_call learnt first new ups session table.Sent (name ∷ names) (there ∷ theres) is h lives =
    rw h.0.salts (learnt_so learnt first new name.salts is ∙ sent_or (fate_under first new (under_of name.salts)))

-- a call that becomes so, or stays
lives_still : (session : ℕ) (fate : Option Fate) (call : Call) → LivesIn session call.state call.names
    → LivesIn session (settled_if fate call).state (settled_if fate call).names
lives_still session None call h = h
lives_still session (Some fate.Queue) call h = tt
lives_still session (Some fate.Hold) call h = tt
lives_still session (Some (fate.Done bytes)) call h = tt
lives_still session (Some (fate.Refused code)) call h = tt
lives_still session (Some (fate.Unknown cause)) call h = tt

settled_state : (fate : Option Fate) (call : Call) → state_of fate call.state ≡ state_there (settled_if fate call).state
settled_state None call = refl
settled_state (Some fate) call = refl

settled_names : (fate : Option Fate) (call : Call) → (settled_if fate call).names ≡ call.names
settled_names None call = refl
settled_names (Some fate) call = refl

settled_body : (fate : Option Fate) (call : Call) → (settled_if fate call).body ≡ call.body
settled_body None call = refl
settled_body (Some fate) call = refl

module _ (v : World) (number outer unique salt : ℕ) (client : Client) (s : StandsAs v number client) where
  abbrev first : Bool
  first = not (is_open client)

  abbrev becomes : Call → Option Fate
  becomes call = fate_learning first salt (living_name call)

  abbrev taught : Client
  taught = with_clock outer (learns unique salt client)

  abbrev taught_v : World
  taught_v = after_learnt v number unique salt

  learnt_is : (v.clients number).learnt ≡ reverse client.learnt
  learnt_is = ap (λ (c : moves.Client). c.learnt) s.parts

  first_is : is_nil (v.clients number).learnt ≡ first
  first_is = ap is_nil learnt_is ∙ nil_reverse client.learnt

  alike_taught : Alike client taught
  alike_taught = record { session = refl; last = omega arith }

  call_taught : (call : Call) (there : moves.Call) → IsCallThere client v.ups call there
      → IsCallThere client v.ups (settled_if (becomes call) call)
      (record there { state = if is_sent there.state then state_learnt (v.clients number).learnt salt (newest_salts v.ups there.names) else there.state })
  call_taught call there h = record {
    body = h.body ∙ sym (settled_body (becomes call) call);
    state = rw h.state (learnt_call (v.clients number).learnt first salt v.ups client.session call.state call.names there.names first_is h.names h.living)
        ∙ settled_state (becomes call) call;
    names = subst (λ (names : List Name). AreNamesThere v.ups names there.names) (sym (settled_names (becomes call) call)) h.names;
    living = lives_still client.session (becomes call) call h.living;
    asks = subst (λ (body : List ℕ). begins_service body ≡ false) (sym (settled_body (becomes call) call)) h.asks;
  }

  place_taught : (found : Option Call) (there : moves.Call) → StandsThere client v.ups found there
      → StandsThere client v.ups (option_map (λ (call : Call). settled_if (becomes call) call) found)
      (record there { state = if is_sent there.state then state_learnt (v.clients number).learnt salt (newest_salts v.ups there.names) else there.state })
  place_taught None there h = rw h refl
  place_taught (Some call) there h = call_taught call there h

  calls_taught : (q : ℕ) → StandsThere taught v.ups (slice_get (calls_of taught) q) (taught_v.calls (moves.call_at number q))
  calls_taught q =
      same_there client taught alike_taught v.ups (slice_get (calls_of taught) q) (taught_v.calls (moves.call_at number q))
      (rw (eq-eqb number number refl, get_map (λ (call : Call). settled_if (becomes call) call) (calls_of client) q)
      (place_taught (slice_get (calls_of client) q) (v.calls (moves.call_at number q)) (s.calls q)))

  needed_now : (temporary : Option Temporary) → IfSome (option_map (bound_so Needed) temporary) (λ (t : Temporary). IsAskedThere v.ups taught t.binding)
  needed_now None = tt
  needed_now (Some temporary) = tt

  pub teaches : StandsAs taught_v number taught
  teaches = record {
    made = s.made;
    parts = rw (eq-eqb number number refl, reverse-append client.learnt (unique ∷ []), s.parts) refl;
    submitted = s.submitted ∙ sym (length-map (calls_of client) (λ (call : Call). settled_if (becomes call) call));
    calls = calls_taught;
    given = all_given_alike client taught alike_taught v.ups s.given;
    short = record { acks = s.short.acks; resent = s.short.resent };
    asked = needed_now client.temporary;
  }
