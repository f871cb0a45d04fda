-- The session of a name, as others and it speak.
use Rattle.std.proofs.Common.{◌≡◌, ◌≢◌, ℕ, zero, suc, true, false, Option, None, Some, List, [], ◌∷◌, length, if◌then◌else◌, inl, inr, refl, sym, ap, subst, ◌∙◌, arith}
use Rattle.std.specs.Prelude.{◌⊎◌}
use Rattle.std.specs.List.{All, Contains}
use Rattle.std.proofs.lemmas.Bool.{cases_Bool}
use Rattle.salt_line.specs.Line.{Line}
use Rattle.service_tl.specs.declared.item.Item.{Item}
use Rattle.waits.specs.declared.job.Job.{Job}
use Rattle.waits.specs.Jobs.{Queue, first_job, has_failed, without_first}
use Rattle.server_rules.specs.Server.{Name, Session, is_named, is_same, name_of, session_named, without_session}
use Rattle.server_rules.specs.Event.{Entry, Owed, Setting, Speaker, State, lost, speaker_in, speaks, spoken_by}
use Rattle.server_rules.specs.Speaking.{msg_wait_failed, says}
use Rattle.server_rules.specs.Waiting.{after_failures, all_given_up, first_given_up, given_up, gives_up, tells_of}
use Rattle.law_server.specs.Speech.{SaidFor}
use Rattle.law_server_moves.specs.Speaking.{IsWithin}
use Rattle.law_server_moves.proofs.Lists.{all_of, each_of}
use Rattle.law_server_moves.proofs.Losing.{append_nothing}
use Rattle.law_server_moves.proofs.Found.{found_in, some_same}
use Rattle.law_server_moves.proofs.Events.{name_is}
use Rattle.law_server_moves.proofs.Ending.{same_name}
use Rattle.law_server_moves.proofs.WorksEnd.{same_itself}
use Rattle.law_server_moves.proofs.Growing.{Grown, grown_itself, grown_within}
use Rattle.law_server_moves.proofs.Jobs.{GivesUpAlone}

-- ---- names

pub cases_names : (one other : Name) → (one ≡ other) ⊎ (one ≢ other)
cases_names one other =
    elim (cases_Bool (is_same one other)) [
      | inl is ↦ inl (sym (same_name one other is))
      | inr fails ↦ inr (λ same. let e : false ≡ true = sym fails ∙ subst (λ (n : Name). is_same one n ≡ true) same (same_itself one) in absurd (cc))
    ]

abbrev named : ℕ → ℕ → Name
named key session = record { key = key; session = session }

not_named : (name other : Name) (o : Session) → name ≢ other → is_named other o ≡ true → is_named name o ≡ false
not_named name other o differs is =
    elim (cases_Bool (is_named name o)) [
      | inl holds ↦ absurd (differs (name_is name o holds ∙ sym (name_is other o is)))
      | inr fails ↦ fails
    ]

pub found_without : (name other : Name) → name ≢ other → (sessions : List Session) → session_named name (without_session other sessions) ≡ session_named name sessions
found_without name other differs [] = refl
found_without name other differs (o ∷ sessions) =
    elim (cases_Bool (is_named other o)) [
      | inl is ↦ rw (is, not_named name other o differs is) (found_without name other differs sessions)
      | inr fails ↦ rw fails (ap (λ (found : Option Session). if is_named name o then Some o else found) (found_without name other differs sessions))
    ]

-- ---- speeches

pub none_all : {X : Type 0} (P : X → Type 0) → All P []
none_all P = λ k d below. absurd (omega arith)

pub one_all : {X : Type 0} (P : X → Type 0) (x : X) → P x → All P (x ∷ [])
one_all P x holds zero d below = holds
one_all P x holds (suc k) d below = absurd (omega arith)

pub said_item : {S : Type 0} (setting : Setting S) (item : Item) (speaker : Speaker S) → SaidFor S speaker (says setting item speaker)
said_item setting item speaker = record {
  key = refl;
  number = refl;
  first = refl;
  unique = refl;
  history = refl;
  owed = (_, refl, one_all (λ (one : Owed). one.name ≡ name_of speaker.session) _ refl);
  entries = ([], sym (append_nothing speaker.entries), none_all (λ (one : Entry). (one.key ≡ speaker.session.key) × (one.session ≡ speaker.session.number)));
  sent = refl;
}

pub said_told : {S : Type 0} (number : ℕ) (speaker : Speaker S) → SaidFor S speaker (tells_of number speaker)
said_told number speaker = record {
  key = refl;
  number = refl;
  first = refl;
  unique = refl;
  history = refl;
  owed = ([], sym (append_nothing speaker.owed), none_all (λ (one : Owed). one.name ≡ name_of speaker.session));
  entries = ([], sym (append_nothing speaker.entries), none_all (λ (one : Entry). (one.key ≡ speaker.session.key) × (one.session ≡ speaker.session.number)));
  sent = refl;
}

pub name_said : {S : Type 0} (at : Name) (state : State S) (y : Session) (b : Speaker S) → session_named at state.sessions ≡ Some y → SaidFor S (speaker_in state y) b → name_of b.session ≡ at
name_said at state y b is said =
    ap (λ (key : ℕ). named key b.session.number) said.key
    ∙ ap (λ (number : ℕ). named y.key number) said.number
    ∙ sym (name_is at y (found_in (is_named at) state.sessions y is).1)

-- what laws say of the session of a name
pub record Speaks (S : Type 0) : Type 0 where
  pub own : (name : Name) (speak : Speaker S → Speaker S) (state : State S) (session : Session) → session_named name state.sessions ≡ Some session
      → name_of (speak (speaker_in state session)).session ≡ name
      → session_named name (speaks name speak state).sessions ≡ Some (speak (speaker_in state session)).session
  pub others : (name other : Name) (speak : Speaker S → Speaker S) (state : State S) (session : Session) → session_named name state.sessions ≡ Some session
      → name_of (speak (speaker_in state session)).session ≡ name → other ≢ name
      → session_named other (speaks name speak state).sessions ≡ session_named other state.sessions

abbrev pub Said : {S : Type 0} → State S → Name → (Speaker S → Speaker S) → Type 0
Said {S} state at speak = (y : Session) → session_named at state.sessions ≡ Some y → SaidFor S (speaker_in state y) (speak (speaker_in state y))

module _ {S : Type 0} (k : Speaks S) (name : Name) (unique : ℕ) where
  -- it is there, and nothing was sent so far
  pub record IsThere (state : State S) : Type 0 where
    pub x : Session
    pub found : session_named name state.sessions ≡ Some x
    pub same : x.unique ≡ unique
    pub sent : state.sent ≡ []

  there_by : (at : Name) (speak : Speaker S → Speaker S) (state : State S) → Said state at speak → IsThere state → (found : Option Session) → session_named at state.sessions ≡ found
      → IsThere (speaks at speak state)
  there_by at speak state said h None is = subst (λ (f : Option Session). IsThere (spoken_by f speak state)) (sym is) h
  there_by at speak state said h (Some y) is =
      let b : Speaker S = speak (speaker_in state y) in
      let its = said y is in
      let name_b = name_said at state y b is its in
      let sent : (speaks at speak state).sent ≡ [] = ap (λ (f : Option Session). (spoken_by f speak state).sent) is ∙ its.sent ∙ h.sent in
      elim (cases_names name at) [
        | inl own ↦
            let one : y ≡ h.x = some_same y h.x (sym is ∙ ap (λ (n : Name). session_named n state.sessions) (sym own) ∙ h.found) in
            record {
              x = b.session;
              found = ap (λ (n : Name). session_named n (speaks at speak state).sessions) own ∙ k.own at speak state y is name_b;
              same = its.unique ∙ ap (λ (s : Session). s.unique) one ∙ h.same;
              sent = sent;
            }
        | inr differs ↦ record { x = h.x; found = k.others at name speak state y is name_b differs ∙ h.found; same = h.same; sent = sent }
      ]

  pub there_speaks : (at : Name) (speak : Speaker S → Speaker S) (state : State S) → Said state at speak → IsThere state → IsThere (speaks at speak state)
  there_speaks at speak state said h = there_by at speak state said h (session_named at state.sessions) refl

  pub there_lost : (other : Name) (state : State S) → name ≢ other → IsThere state → IsThere (lost other state)
  there_lost other state differs h = record { x = h.x; found = found_without name other differs state.sessions ∙ h.found; same = h.same; sent = h.sent }

  -- ---- jobs that have failed

  abbrev failed : Queue → Option Job × Queue
  failed queue = (first_job has_failed queue, without_first has_failed queue)

  module _ (alone : GivesUpAlone S) (setting : Setting S) (content : List ℕ) where
    given_there : (found : Option Job) (state : State S) → IsThere state → IsThere (given_up setting content found state)
    given_there None state h = h
    given_there (Some job) state h =
        there_speaks (record { key = job.key; session = job.session }) (gives_up setting content job) state (λ y is. alone setting (speaker_in state y) content job) h

    pub all_there : (n : ℕ) (state : State S) → IsThere state → IsThere (all_given_up setting content failed n state)
    all_there zero state h = h
    all_there (suc n) state h =
        all_there n (first_given_up setting content failed state)
        (given_there (first_job has_failed state.jobs) (record state { jobs = without_first has_failed state.jobs }) (record { x = h.x; found = h.found; same = h.same; sent = h.sent }))

  pub failures_there : GivesUpAlone S → (setting : Setting S) (state : State S) → IsThere state → IsThere (after_failures setting state)
  failures_there alone setting state h = all_there alone setting msg_wait_failed (length state.jobs) state h

  -- ---- its salts are within a line, before where they are after

  module _ (line : Line) where
    abbrev pub Within : State S → Type 0
    Within state = (x : Session) → session_named name state.sessions ≡ Some x → IsWithin line x

    within_grown : (x y : Session) → Grown x y → IsWithin line y → IsWithin line x
    within_grown x y grown h = all_of (λ row. Contains line.rows row) x.salts.rows
        (λ row there. each_of (λ row. Contains line.rows row) y.salts.rows h row (each_of (λ row. Contains y.salts.rows row) x.salts.rows (grown_within x y grown) row there))

    abbrev Grows : State S → Name → (Speaker S → Speaker S) → Type 0
    Grows state at speak = (y : Session) → session_named at state.sessions ≡ Some y → Grown y (speak (speaker_in state y)).session

    before_by : (at : Name) (speak : Speaker S → Speaker S) (state : State S) → Said state at speak → Grows state at speak → (found : Option Session) → session_named at state.sessions ≡ found
        → Within (speaks at speak state) → Within state
    before_by at speak state said grows None is h = subst (λ (f : Option Session). Within (spoken_by f speak state)) is h
    before_by at speak state said grows (Some y) is h = λ x found.
        let b : Speaker S = speak (speaker_in state y) in
        let name_b = name_said at state y b is (said y is) in
        elim (cases_names name at) [
          | inl own ↦
              let one : y ≡ x = some_same y x (sym is ∙ ap (λ (n : Name). session_named n state.sessions) (sym own) ∙ found) in
              subst (λ (s : Session). IsWithin line s) one
              (within_grown y b.session (grows y is) (h b.session (ap (λ (n : Name). session_named n (speaks at speak state).sessions) own ∙ k.own at speak state y is name_b)))
          | inr differs ↦ h x (k.others at name speak state y is name_b differs ∙ found)
        ]

    pub before_speaks : (at : Name) (speak : Speaker S → Speaker S) (state : State S) → Said state at speak → Grows state at speak → Within (speaks at speak state) → Within state
    before_speaks at speak state said grows h = before_by at speak state said grows (session_named at state.sessions) refl h

    pub before_lost : (other : Name) (state : State S) → name ≢ other → Within (lost other state) → Within state
    before_lost other state differs h = λ x found. h x (found_without name other differs state.sessions ∙ found)

    module _ (alone : GivesUpAlone S) (setting : Setting S) (content : List ℕ) where
      given_before : (found : Option Job) (state : State S) → Within (given_up setting content found state) → Within state
      given_before None state h = h
      given_before (Some job) state h =
          before_speaks (record { key = job.key; session = job.session }) (gives_up setting content job) state
          (λ y is. alone setting (speaker_in state y) content job) (λ y is. grown_itself y) h

      all_before : (n : ℕ) (state : State S) → Within (all_given_up setting content failed n state) → Within state
      all_before zero state h = h
      all_before (suc n) state h =
          given_before (first_job has_failed state.jobs) (record state { jobs = without_first has_failed state.jobs }) (all_before n (first_given_up setting content failed state) h)

    pub failures_before : GivesUpAlone S → (setting : Setting S) (state : State S) → Within (after_failures setting state) → Within state
    failures_before alone setting state h = all_before alone setting msg_wait_failed (length state.jobs) state h
