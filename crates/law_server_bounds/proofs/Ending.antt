-- Each event leaves a server steady, and its packets may be sealed.
use Rattle.std.proofs.Common.{◌≡◌, ◌∙◌, ℕ, ◌<◌, ◌≤◌, Bool, true, Option, Some, None, List, [], ◌∷◌, sym, subst, refl, arith, inl, inr}
use Rattle.std.specs.Prelude.{fold, not}
use Rattle.std.specs.List.{AllByRecursion, filter}
use Rattle.std.proofs.lemmas.Bool.{cases_Bool, cond-true, cond-false}
use Rattle.msg_ids.specs.Moments.{latest_moment}
use Rattle.msg_ids.specs.Counters.{room}
use Rattle.server_rules.specs.Server.{Name, Session, is_named, is_same, name_of, session_named}
use Rattle.server_rules.specs.Event.{Owed, Sent, Setting, State, lost}
use Rattle.server_rules.specs.Sending.{all_sent, messages_by}
use Rattle.server_rules.specs.Answer.{Answer, ended, is_spent}
use Rattle.law_server_bounds.specs.Small.{AreGivenTo, IsSmallState}
use Rattle.law_server_bounds.specs.Steady.{IsKnown}
use Rattle.law_server_bounds.proofs.Counts.{FallsByOne, count, messages-count}
use Rattle.law_server_bounds.proofs.Lists.{find-of, rec-filter}
use Rattle.law_server_bounds.proofs.Names.{found-named, names-same, same-names}
use Rattle.law_server_bounds.proofs.Owing.{G, HasLeft, Speak}
use Rattle.law_server_bounds.proofs.Sending.{ArePackets, ArePadded, CanSend, HasNumbers, HaveAll, IsFit, IsNumbered, all-sent}

-- ---- what is owed fits

module _ (has : HasNumbers) where
  fit-all : (name : Name) (session : Session) (owed : List Owed) → name_of session ≡ name → 0 < room session.counters → AreGivenTo owed session
      → AllByRecursion IsFit (messages_by name owed)
  fit-all name session [] named left given = tt
  fit-all name session (one ∷ owed) named left given =
      let rest = fit-all name session owed named left given.1 in
      elim (cases_Bool (is_same name one.name)) [
        | inl own ↦
            let own_given = given.0 (sym (same-names name one.name own) ∙ sym named) in
            let number = own_given.0 in
            let seq = own_given.1 in
            let next = has session.counters 0 (omega arith) left in
            let least = next.0 in
            let content = next.1 in
            rw own ((omega (arith, number, least), omega (arith, seq, content)), rest)
        | inr other ↦ rw other rest
      ]

-- ---- the keys of sessions

keys-of : (known : ℕ → Bool) (sessions : List Session) → ((name : Name) (session : Session) → session_named name sessions ≡ Some session → known name.key ≡ true)
    → AllByRecursion (IsKnown known) sessions
keys-of known [] so = tt
keys-of known (first ∷ sessions) so = (
  so (name_of first) first (cond-true (is_named (name_of first) first) (Some first) (session_named (name_of first) sessions) (names-same (name_of first) (name_of first) refl)),
  keys-of known sessions later,
)
  where
    later : (name : Name) (session : Session) → session_named name sessions ≡ Some session → known name.key ≡ true
    later name session is =
        elim (cases_Bool (is_named name first)) [
          | inl own ↦ so name first (cond-true (is_named name first) (Some first) (session_named name sessions) own)
          | inr other ↦ so name session (cond-false (is_named name first) (Some first) (session_named name sessions) other ∙ is)
        ]

-- what an event gives
pub record Gives {S : Type 0} (known : ℕ → Bool) (answer : Answer S) : Type 0 where
  pub packets : AllByRecursion (IsNumbered known) answer.packets
  pub keys : AllByRecursion (IsKnown known) answer.server.sessions

-- the laws of the crates below
pub record Laws (S : Type 0) : Type 0 where
  pub speak : Speak S
  pub falls : FallsByOne
  pub has : HasNumbers
  pub have : HaveAll
  pub packets : ArePackets
  pub padded : ArePadded S

module _ {S : Type 0} (laws : Laws S) (setting : Setting S) (timely : setting.now ≤ latest_moment) (known : ℕ → Bool) where
  can-send : (name : Name) (found : Option Session) (state : State S) → session_named name state.sessions ≡ found → IsSmallState state
      → G laws.speak laws.falls setting timely known name 10236 state → CanSend known state.owed name found
  can-send name None state is small g = tt
  can-send name (Some session) state is small g =
      let Left : Option Session → Type 0 = λ found. HasLeft known name (count name state.owed) found in
      let left = subst Left is g.left in
      let enough = left.0 in
      let total = g.total in
      let named = found-named name state.sessions session is in
      let same = messages-count name state.owed in
      let K : Name → Type 0 = λ name. known name.key ≡ true in
      let given = find-of (AreGivenTo state.owed) (is_named name) state.sessions session small.given is in
      (subst K (sym named) left.1, fit-all laws.has name session state.owed named (omega (arith, enough, total)) given, omega (arith, enough, total, same))

  known-at : (name : Name) (session : Session) (state : State S) → session_named name state.sessions ≡ Some session → G laws.speak laws.falls setting timely known name 10236 state
      → known name.key ≡ true
  known-at name session state is g =
      let Left : Option Session → Type 0 = λ found. HasLeft known name (count name state.owed) found in
      (subst Left is g.left).1

  -- sessions that are lost in the end
  record Lost (before after : State S) : Type 0 where
    sent : after.sent ≡ before.sent
    keys : AllByRecursion (IsKnown known) after.sessions

  spent-lost : (spent : List Session) (state : State S) → AllByRecursion (IsKnown known) state.sessions
      → Lost state (fold (λ so_far session. lost (name_of session) so_far) state spent)
  spent-lost [] state keys = record { sent = refl; keys = keys }
  spent-lost (session ∷ spent) state keys =
      let rest = spent-lost spent (lost (name_of session) state)
      (rec-filter (IsKnown known) (λ other. not (is_named (name_of session) other)) state.sessions keys) in
      record { sent = rest.sent; keys = rest.keys }

  pub gives : (state : State S) → ((name : Name) → G laws.speak laws.falls setting timely known name 10236 state) → IsSmallState state → Gives known (ended setting state)
  gives state all small =
      let own = all (record { key = 0; session = 0 }) in
      let N : List Sent → Type 0 = λ sent. AllByRecursion (IsNumbered known) sent in
      let sent = all-sent laws.speak laws.falls laws.has laws.have laws.packets laws.padded setting timely known state
      (λ name. can-send name (session_named name state.sessions) state refl small (all name)) (subst N (sym own.unsent) tt)
      (keys-of known state.sessions (λ name session is. known-at name session state is (all name))) in
      let done = all_sent setting state in
      let end = spent-lost (filter is_spent done.sessions) done sent.keys in
      record { packets = subst N (sym end.sent) sent.all; keys = end.keys }
