-- What an item makes of a call.
use Rattle.std.proofs.Common.{◌≡◌, ◌≢◌, ℕ, zero, suc, ◌+◌, ◌-◌, ◌&&◌, Bool, true, false, List, [], ◌∷◌, Option, None, Some, if◌then◌else◌, inl, inr, refl, sym, ap, subst, ◌∙◌, arith, eq-eqb}
use Rattle.std.specs.Prelude.{slice_get, option_map}
use Rattle.std.specs.List.{Contains}
use Rattle.std.proofs.lemmas.Bool.{cases_Bool, cases_eq, eqb-true}
use Rattle.law_moves.specs.Table as moves
use Rattle.law_moves.specs.World.{World}
use Rattle.law_moves.specs.After.{after_settled, is_newest, is_sent}
use Rattle.call_table.specs.declared.call.CallNo.{CallNo}
use Rattle.call_table.specs.declared.call.Fate.{Fate}
use Rattle.call_table.specs.declared.call.Fate.TheVariants as fate
use Rattle.call_table.specs.Table.{Call, Name, State, call_no, changed_at, first_from, is_number_of, living_name, living_name_in, owner, settled, state_after}
use Rattle.call_table.specs.Table as table
use Rattle.client_rules.specs.Client.{Client, calls_of}
use Rattle.client_rules.specs.Taking.{becomes}
use Rattle.law_client.specs.Clients.{StandsAs, AreNamesThere, IsCallThere, LivesIn, StandsThere, state_there}
use Rattle.law_client.proofs.Basics.{Alike, all_given_alike, here}
use Rattle.law_client.proofs.Quiet.{asked_alike, length_changed, same_there}
use Rattle.law_client.proofs.Sending.{get_changed, get_unchanged}

-- a name is of one call
abbrev pub OneName : World → Type 0
OneName w =
    (one other : moves.CallId) (name same : moves.Name) → Contains (w.calls one).names name → Contains (w.calls other).names same
    → name.session ≡ same.session → name.number ≡ same.number → one ≡ other

-- ---- the tests agree

agree : (session about : ℕ) (ups : List moves.Message) (state : State) (names : List Name) (theres : List moves.Name)
    → AreNamesThere ups names theres → LivesIn session state names
    → (is_sent (state_there state) && is_newest theres session about) ≡ is_number_of about (living_name_in state names)
agree session about ups table.Queued names theres h lives = refl
agree session about ups table.Held names theres h lives = refl
agree session about ups (table.Done reply) names theres h lives = refl
agree session about ups (table.Refused code) names theres h lives = refl
agree session about ups (table.Unknown cause) names theres h lives = refl
agree session about ups table.Sent [] theres h lives = absurd lives
agree session about ups table.Sent (name ∷ names) [] h lives = absurd h
agree session about ups table.Sent (name ∷ names) (there ∷ theres) h lives =
    rw (eq-eqb there.session session (h.0.session ∙ lives), h.0.number) refl

-- a call whose living name has this number
pub record HasNumber (session about : ℕ) (theres : List moves.Name) : Type 0 where
  pub name : moves.Name
  pub among : Contains theres name
  pub session_is : name.session ≡ session
  pub number_is : name.number ≡ about

numbered_so : (session about : ℕ) (ups : List moves.Message) (state : State) (names : List Name) (theres : List moves.Name)
    → AreNamesThere ups names theres → LivesIn session state names → is_number_of about (living_name_in state names) ≡ true → HasNumber session about theres
numbered_so session about ups table.Queued names theres h lives is = absurd (cc)
numbered_so session about ups table.Held names theres h lives is = absurd (cc)
numbered_so session about ups (table.Done reply) names theres h lives is = absurd (cc)
numbered_so session about ups (table.Refused code) names theres h lives is = absurd (cc)
numbered_so session about ups (table.Unknown cause) names theres h lives is = absurd (cc)
numbered_so session about ups table.Sent [] theres h lives is = absurd lives
numbered_so session about ups table.Sent (name ∷ names) [] h lives is = absurd h
numbered_so session about ups table.Sent (name ∷ names) (there ∷ theres) h lives is = record {
  name = there;
  among = here there theres;
  session_is = h.0.session ∙ lives;
  number_is = h.0.number ∙ eqb-true name.message.number about is;
}

-- ---- the call of a number

abbrev or_this : {X : Type 0} → Option X → X → X
or_this None x = x
or_this (Some y) x = y

abbrev or_zero : Option ℕ → ℕ
or_zero None = 0
or_zero (Some n) = n

first_here : {X : Type 0} (test : X → Bool) (place : ℕ) (x : X) (xs : List X) → test x ≡ true → first_from test place (x ∷ xs) ≡ Some place
first_here test place x xs holds = rw holds refl

first_later : {X : Type 0} (test : X → Bool) (place : ℕ) (x : X) (xs : List X) → test x ≡ false
    → first_from test place (x ∷ xs) ≡ first_from test (place + 1) xs
first_later test place x xs fails = rw fails refl

first_is : {X : Type 0} (test : X → Bool) (place : ℕ) (xs : List X) (found : ℕ) → first_from test place xs ≡ Some found
    → (i : ℕ) × (found ≡ place + i) × ((x : X) × (slice_get xs i ≡ Some x) × (test x ≡ true))
first_is test place [] found is = absurd (cc)
first_is test place (x ∷ xs) found is =
    elim (cases_Bool (test x)) [
      | inl holds ↦
          let same : place ≡ found = ap (λ (o : Option ℕ). or_zero o) (sym (first_here test place x xs holds) ∙ is) in
          (0, omega (arith, same), (x, refl, holds))
      | inr fails ↦
          let rest = first_is test (place + 1) xs found (sym (first_later test place x xs fails) ∙ is) in
          (suc rest.0, omega (arith, rest.1), rest.2)
    ]

the_same : {X : Type 0} (y x : X) → Some y ≡ Some x → y ≡ x
the_same y x is = ap (λ (o : Option _). or_this o y) is

none_is : {X : Type 0} (test : X → Bool) (place : ℕ) (xs : List X) → first_from test place xs ≡ None
    → (i : ℕ) (x : X) → slice_get xs i ≡ Some x → test x ≡ false
none_is test place [] is i x found = absurd (cc)
none_is test place (y ∷ xs) is zero x found =
    elim (cases_Bool (test y)) [
      | inl holds ↦ let e : Some place ≡ None = sym (first_here test place y xs holds) ∙ is in absurd (cc)
      | inr fails ↦ ap test (sym (the_same y x found)) ∙ fails
    ]
none_is test place (y ∷ xs) is (suc i) x found =
    elim (cases_Bool (test y)) [
      | inl holds ↦ let e : Some place ≡ None = sym (first_here test place y xs holds) ∙ is in absurd (cc)
      | inr fails ↦ none_is test (place + 1) xs (sym (first_later test place y xs fails) ∙ is) i x found
    ]

-- ---- a call becomes so

at_zero : (place i : ℕ) → place ≡ 0 + i → place ≡ i
at_zero place i is = omega (arith, is)

-- the owner of a number becomes so, where there is one
abbrev pub becomes_if : Option CallNo → Fate → Client → Client
becomes_if None fate client = client
becomes_if (Some call) fate client = becomes call fate client

never_sent : (session : ℕ) (fate : Fate) (names : List Name) → LivesIn session (state_after fate) names
never_sent session fate.Queue names = tt
never_sent session fate.Hold names = tt
never_sent session (fate.Done bytes) names = tt
never_sent session (fate.Refused code) names = tt
never_sent session (fate.Unknown cause) names = tt

module _ (v : World) (number about : ℕ) (client : Client) (s : StandsAs v number client) (one : OneName v) where
  present : (v.clients number).present ≡ client.session
  present = ap (λ (c : moves.Client). c.present) s.parts

  abbrev test : Call → Bool
  test call = is_number_of about (living_name call)

  tests : (call : Call) (there : moves.Call) → IsCallThere client v.ups call there
      → (is_sent there.state && is_newest there.names (v.clients number).present about) ≡ test call
  tests call there h =
      rw (h.state, present) (agree client.session about v.ups call.state call.names there.names h.names h.living)

  -- what isn't about the call leaves it
  left_place : (state : moves.State) (found : Option Call) (there : moves.Call) → ((call : Call) → found ≡ Some call → test call ≡ false)
      → StandsThere client v.ups found there
      → StandsThere client v.ups found (record there { state = if is_sent there.state && is_newest there.names (v.clients number).present about then state else there.state })
  left_place state None there other h = rw h refl
  left_place state (Some call) there other h = rw (tests call there h ∙ other call refl) h

  settled_place : (fate : Fate) (state : moves.State) → state_there (state_after fate) ≡ state → (call : Call) (there : moves.Call) → test call ≡ true
      → IsCallThere client v.ups call there
      → IsCallThere client v.ups (settled fate call) (record there { state = if is_sent there.state && is_newest there.names (v.clients number).present about then state else there.state })
  settled_place fate state same call there is h = record {
    body = h.body;
    state = rw (tests call there h ∙ is) (sym same);
    names = h.names;
    living = never_sent client.session fate call.names;
    asks = h.asks;
  }

  module _ (fate : Fate) (state : moves.State) (same : state_there (state_after fate) ≡ state) (place : ℕ)
      (call : Call) (found : slice_get (calls_of client) place ≡ Some call) (is : test call ≡ true) where
    abbrev k : CallNo
    k = call_no place

    abbrev gone : Client
    gone = becomes k fate client

    abbrev at_place : ℕ
    at_place = k.n - 1

    place_is : at_place ≡ place
    place_is = omega arith

    alike_gone : Alike client gone
    alike_gone = record { session = refl; last = omega arith }

    there_now : IsCallThere client v.ups call (v.calls (moves.call_at number place))
    there_now = subst (λ (f : Option Call). StandsThere client v.ups f (v.calls (moves.call_at number place))) found (s.calls place)

    key : HasNumber client.session about (v.calls (moves.call_at number place)).names
    key = numbered_so client.session about v.ups call.state call.names (v.calls (moves.call_at number place)).names there_now.names there_now.living is

    other_fails : (q : ℕ) → q ≢ place → (other : Call) → slice_get (calls_of client) q ≡ Some other → test other ≡ false
    other_fails q differs other at_q =
        elim (cases_Bool (test other)) [
          | inl holds ↦
              let now : IsCallThere client v.ups other (v.calls (moves.call_at number q)) =
              subst (λ (f : Option Call). StandsThere client v.ups f (v.calls (moves.call_at number q))) at_q (s.calls q) in
              let its = numbered_so client.session about v.ups other.state other.names (v.calls (moves.call_at number q)).names now.names now.living holds in
              absurd (differs (ap (λ (c : moves.CallId). c.place)
              (one (moves.call_at number q) (moves.call_at number place) its.name key.name its.among key.among
              (its.session_is ∙ sym key.session_is) (its.number_is ∙ sym key.number_is))))
          | inr fails ↦ fails
        ]

    calls_gone : (q : ℕ) → StandsThere gone v.ups (slice_get (calls_of gone) q) ((after_settled v number about state).calls (moves.call_at number q))
    calls_gone q =
        same_there client gone alike_gone v.ups (slice_get (calls_of gone) q) ((after_settled v number about state).calls (moves.call_at number q))
        (elim (cases_eq q place) [
          | inl at_q ↦
              rw (eq-eqb number number refl, get_changed at_place (settled fate) (calls_of client) q (at_q ∙ sym place_is), at_q, found)
              (settled_place fate state same call (v.calls (moves.call_at number place)) is there_now)
          | inr differs ↦
              rw (eq-eqb number number refl, get_unchanged at_place (settled fate) (calls_of client) q (λ e. differs (e ∙ place_is)))
              (left_place state (slice_get (calls_of client) q) (v.calls (moves.call_at number q)) (other_fails q differs) (s.calls q))
        ])

    pub settles : StandsAs (after_settled v number about state) number gone
    settles = record {
      made = s.made;
      parts = s.parts;
      submitted = s.submitted ∙ sym (length_changed at_place (settled fate) (calls_of client));
      calls = calls_gone;
      given = all_given_alike client gone alike_gone v.ups s.given;
      short = record { acks = s.short.acks; resent = s.short.resent };
      asked = asked_alike client gone refl v.ups client.temporary s.asked;
    }

  -- about no call
  pub settles_none : (state : moves.State) → ((i : ℕ) (call : Call) → slice_get (calls_of client) i ≡ Some call → test call ≡ false)
      → StandsAs (after_settled v number about state) number client
  settles_none state none = record {
    made = s.made;
    parts = s.parts;
    submitted = s.submitted;
    calls = λ q. rw (eq-eqb number number refl) (left_place state (slice_get (calls_of client) q) (v.calls (moves.call_at number q)) (none q) (s.calls q));
    given = s.given;
    short = record { acks = s.short.acks; resent = s.short.resent };
    asked = s.asked;
  }

  -- by the owner of the number
  pub settled_by : (fate : Fate) (state : moves.State) → state_there (state_after fate) ≡ state → (found : Option ℕ)
      → first_from test 0 (calls_of client) ≡ found
      → StandsAs (after_settled v number about state) number (becomes_if (option_map call_no found) fate client)
  settled_by fate state same None is = settles_none state (none_is test 0 (calls_of client) is)
  settled_by fate state same (Some place) is =
      let at = first_is test 0 (calls_of client) place is in
      let found : slice_get (calls_of client) place ≡ Some at.2.0 = subst (λ (n : ℕ). slice_get (calls_of client) n ≡ Some at.2.0) (sym (at_zero place at.0 at.1)) at.2.1 in
      settles fate state same place at.2.0 found at.2.2
