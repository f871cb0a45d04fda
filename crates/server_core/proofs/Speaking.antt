-- What is kept of the sessions of a server, where one of them speaks.
use Rattle.std.proofs.Common.{◌≡◌, ◌≢◌, ◌∙◌, ℕ, suc, ◌<◌, ◌≤◌, Some, None, List, [], ◌∷◌, length, get_or, set, ap, sym, subst, refl, arith, inl, inr, one-add}
use Rattle.std.specs.List.{All, AllPairs, position_or_len}
use Rattle.std.proofs.lemmas.Bool.{cases_Bool, le-ltb}
use Rattle.std.proofs.lemmas.List.Elements.{All-nil, All-cons, All-head, All-tail}
use Rattle.auth_keys.specs.declared.ring.RingKey.{RingKey}
use Rattle.msg_ids.specs.Counters.{room}
use Rattle.server_rules.specs.Server.{Name, Session, is_named, is_same, name_of, session_named, with_session}
use Rattle.server_rules.specs.Answer.{room_min}
use Rattle.server_session.specs.declared.session.SessionState.{SessionState}
use Rattle.server_session.specs.SessionState.{Stands, numbers_left}
use Rattle.server_session.specs.Names.{name_kept}
use Rattle.server_core.specs.Sessions.{AreApart, AreKept, HaveOtherNames, is_kept_as}
use Rattle.server_core.specs.Server.{CanSpeak}
use Rattle.server_core.proofs.Lists.{pairs-cons, pairs-head, pairs-nil, pairs-tail}
use Rattle.server_core.proofs.Names.{find-first, find-other, same-names}
use Rattle.server_core.proofs.Spent.{AreOthers, HasRoom, no-other}
use Rattle.server_core.proofs.SessionState.{HasItsName}

-- what the crate below says of the room of sessions, and of later moments
abbrev pub HasItsRoom : Type 0
HasItsRoom = (moment : ℕ) (standing : SessionState) (session : Session) → Stands moment standing session → numbers_left standing ≡ room session.counters

abbrev pub StandsLater : Type 0
StandsLater = (moment later : ℕ) (standing : SessionState) (session : Session) → moment ≤ later → Stands moment standing session → Stands later standing session

pub kept-later : StandsLater → (moment later : ℕ) (standings : List SessionState) (sessions : List Session) → moment ≤ later → AreKept moment standings sessions
    → AreKept later standings sessions
kept-later stay moment later [] [] lt are = are
kept-later stay moment later [] (session ∷ sessions) lt are = are
kept-later stay moment later (standing ∷ standings) [] lt are = are
kept-later stay moment later (standing ∷ standings) (session ∷ sessions) lt are =
    (stay moment later standing session lt are.0, kept-later stay moment later standings sessions lt are.1)

-- a session that is found is kept at its place
pub record IsAtPlace (moment : ℕ) (name : Name) (standing : SessionState) (sessions : List Session) : Type 0 where
  pub session : Session
  pub found : session_named name sessions ≡ Some session
  pub stands : Stands moment standing session

pub found-at : HasItsName → (moment : ℕ) (name : Name) (standings : List SessionState) (sessions : List Session) (d : SessionState) → AreKept moment standings sessions
    → position_or_len (is_kept_as name) standings < length standings
    → IsAtPlace moment name (get_or standings (position_or_len (is_kept_as name) standings) d) sessions
found-at names moment name [] sessions d are within = absurd (omega arith)
found-at names moment name (standing ∷ standings) [] d are within = absurd are
found-at names moment name (standing ∷ standings) (session ∷ sessions) d are within =
    let test = is_kept_as name in
    let same : test standing ≡ is_named name session = ap (is_same name) (names moment standing session are.0) in
    elim (cases_Bool (test standing)) [
      | inl is ↦
          let first : position_or_len test (standing ∷ standings) ≡ 0 = rw is refl in
          rw first (record { session = session; found = find-first (is_named name) session sessions (sym same ∙ is); stands = are.0 })
      | inr not_so ↦
          let later : position_or_len test (standing ∷ standings) ≡ suc (position_or_len test standings) = rw (not_so, one-add) refl in
          let rest = found-at names moment name standings sessions d are.1 (omega arith) in
          rw later (record { session = rest.session; found = find-other (is_named name) session sessions (sym same ∙ not_so) ∙ rest.found; stands = rest.stands })
    ]

pub none-at : HasItsName → (moment : ℕ) (name : Name) (standings : List SessionState) (sessions : List Session) → AreKept moment standings sessions
    → length standings ≤ position_or_len (is_kept_as name) standings → session_named name sessions ≡ None
none-at names moment name [] [] are outside = refl
none-at names moment name [] (session ∷ sessions) are outside = absurd are
none-at names moment name (standing ∷ standings) [] are outside = absurd are
none-at names moment name (standing ∷ standings) (session ∷ sessions) are outside =
    let test = is_kept_as name in
    let same : test standing ≡ is_named name session = ap (is_same name) (names moment standing session are.0) in
    elim (cases_Bool (test standing)) [
      | inl is ↦ let first : position_or_len test (standing ∷ standings) ≡ 0 = rw is refl in absurd (omega arith)
      | inr not_so ↦
          let later : position_or_len test (standing ∷ standings) ≡ suc (position_or_len test standings) = rw (not_so, one-add) refl in
          find-other (is_named name) session sessions (sym same ∙ not_so) ∙ none-at names moment name standings sessions are.1 (omega arith)
    ]

-- sessions have other names where what is kept of them has

others-named : HasItsName → (moment : ℕ) (name : Name) (standings : List SessionState) (sessions : List Session) → AreKept moment standings sessions
    → All (λ other. name ≢ name_kept other) standings → All (λ other. name ≢ name_of other) sessions
others-named names moment name [] [] are apart = All-nil (λ (other : Session). name ≢ name_of other)
others-named names moment name [] (session ∷ sessions) are apart = absurd are
others-named names moment name (standing ∷ standings) [] are apart = absurd are
others-named names moment name (standing ∷ standings) (session ∷ sessions) are apart =
    let P : SessionState → Type 0 = λ other. name ≢ name_kept other in
    let N : Name → Type 0 = λ other. name ≢ other in
    All-cons (λ (other : Session). name ≢ name_of other) session sessions
    (subst N (names moment standing session are.0) (All-head P standing standings apart))
    (others-named names moment name standings sessions are.1 (All-tail P standing standings apart))

pub sessions-apart : HasItsName → (moment : ℕ) (standings : List SessionState) (sessions : List Session) → AreKept moment standings sessions
    → AreApart standings → AllPairs AreOthers sessions
sessions-apart names moment [] [] are apart = pairs-nil AreOthers
sessions-apart names moment [] (session ∷ sessions) are apart = absurd are
sessions-apart names moment (standing ∷ standings) [] are apart = absurd are
sessions-apart names moment (standing ∷ standings) (session ∷ sessions) are apart =
    let N : Name → Type 0 = λ name. All (λ (other : Session). name ≢ name_of other) sessions in
    pairs-cons AreOthers session sessions
    (subst N (names moment standing session are.0)
    (others-named names moment (name_kept standing) standings sessions are.1 (pairs-head HaveOtherNames standing standings apart)))
    (sessions-apart names moment standings sessions are.1 (pairs-tail HaveOtherNames standing standings apart))

-- sessions that can speak have room

pub sessions-have_room : HasItsRoom → (keys : List RingKey) (moment at : ℕ) (standings : List SessionState) (sessions : List Session) → AreKept at standings sessions
    → All (CanSpeak keys moment) standings → All HasRoom sessions
sessions-have_room rooms keys moment at [] [] are all = All-nil HasRoom
sessions-have_room rooms keys moment at [] (session ∷ sessions) are all = absurd are
sessions-have_room rooms keys moment at (standing ∷ standings) [] are all = absurd are
sessions-have_room rooms keys moment at (standing ∷ standings) (session ∷ sessions) are all =
    let can = All-head (CanSpeak keys moment) standing standings all in
    let left : room_min ≤ room session.counters = subst (λ (left : ℕ). room_min ≤ left) (rooms at standing session are.0) can.numbers in
    All-cons HasRoom session sessions (le-ltb (room session.counters) room_min left)
    (sessions-have_room rooms keys moment at standings sessions are.1 (All-tail (CanSpeak keys moment) standing standings all))

-- one takes its own place

pub kept-set : HasItsName → (moment : ℕ) (name : Name) (standings : List SessionState) (sessions : List Session) (standing : SessionState) (session : Session)
    → AreKept moment standings sessions → AreApart standings → position_or_len (is_kept_as name) standings < length standings
    → Stands moment standing session → name_of session ≡ name
    → AreKept moment (set standings (position_or_len (is_kept_as name) standings) standing) (with_session session sessions)
kept-set names moment name [] sessions standing session are apart within stands is = absurd (omega arith)
kept-set names moment name (first ∷ standings) [] standing session are apart within stands is = absurd are
kept-set names moment name (first ∷ standings) (before ∷ sessions) standing session are apart within stands is =
    let test = is_kept_as name in
    let own = name_of session in
    let same : test first ≡ is_named own before = ap (is_same name) (names moment first before are.0) ∙ ap (λ (name : Name). is_named name before) (sym is) in
    elim (cases_Bool (test first)) [
      | inl holds ↦
          let at : position_or_len test (first ∷ standings) ≡ 0 = rw holds refl in
          let N : Name → Type 0 = λ other. All (λ (other_one : SessionState). other ≢ name_kept other_one) standings in
          let others : All (λ (other : Session). own ≢ name_of other) sessions =
          others-named names moment own standings sessions are.1
          (subst N (sym (same-names name (name_kept first) holds) ∙ sym is) (pairs-head HaveOtherNames first standings apart)) in
          let rest : with_session session sessions ≡ sessions = no-other session sessions others in
          rw (at, sym same ∙ holds, rest) (stands, are.1)
      | inr fails ↦
          let later : position_or_len test (first ∷ standings) ≡ suc (position_or_len test standings) = rw (fails, one-add) refl in
          rw (later, sym same ∙ fails)
          (are.0, kept-set names moment name standings sessions standing session are.1 (pairs-tail HaveOtherNames first standings apart) (omega arith) stands is)
    ]
