-- What an event is once the session of its packet was heard.
use Rattle.std.proofs.Common.{◌≡◌, ◌||◌, not, Bool, false, Option, None, Some, List, [], ◌∷◌, filter, length, if◌then◌else◌, inl, inr, refl, sym, ap, subst}
use Rattle.std.specs.Prelude.{◌⊎◌, nat_lt}
use Rattle.std.specs.List.{AllByRecursion, Contains}
use Rattle.std.proofs.lemmas.Bool.{cases_Bool, cond_both}
use Rattle.std.proofs.lemmas.List.Elements.{Contains-append_cases, Contains-append_left, Contains-append_right}
use Rattle.waits.specs.declared.job.Unfinished.{Unfinished}
use Rattle.waits.specs.Jobs.{Queue, is_of, without_session as without_jobs_of}
use Rattle.server_rules.specs.Server.{Name, Session, is_named, name_of, session_named, sessions_max, without_session}
use Rattle.server_rules.specs.Event.{Envelope, Setting, State, lost}
use Rattle.server_rules.specs.Answer.{hears, hears_by, name_in, session_for, with_place, without_first}
use Rattle.law_server_moves.proofs.Lists.{all_of, each_of, first_or, from_filter, here, kept_in}
use Rattle.law_server_moves.proofs.Found.{found_in}
use Rattle.law_server_moves.proofs.Events.{name_is}
use Rattle.world_rules.specs.World.{has_named}
use Rattle.law_server_moves.proofs.Others.{empty_has}
use Rattle.law_server_moves.proofs.Gone.{AreNamedApart}

abbrev pub AreUnfailed : Queue → Type 0
AreUnfailed jobs = AllByRecursion (λ (one : Unfinished). one.failed ≡ false) jobs

-- with fewer sessions and jobs
pub record IsFewer {S : Type 0} (before now : State S) : Type 0 where
  pub sessions : (o : Session) → Contains now.sessions o → Contains before.sessions o
  pub jobs : AreUnfailed before.jobs → AreUnfailed now.jobs
  pub owed : now.owed ≡ before.owed
  pub sent : now.sent ≡ before.sent
  pub entries : now.entries ≡ before.entries
  pub draw : now.draw ≡ before.draw

same_all : {S : Type 0} (state : State S) → IsFewer state state
same_all state = record { sessions = λ o there. there; jobs = λ h. h; owed = refl; sent = refl; entries = refl; draw = refl }

one_fewer : {S : Type 0} (name : Name) (state : State S) → IsFewer state (lost name state)
one_fewer name state = record {
  sessions = λ o there. (from_filter (λ (o : Session). not (is_named name o)) state.sessions o there).0;
  jobs = λ h. all_of (λ (one : Unfinished). one.failed ≡ false) (without_jobs_of name.key name.session state.jobs)
      (λ one there. each_of (λ (one : Unfinished). one.failed ≡ false) state.jobs h one (from_filter (λ (one : Unfinished). not (is_of name.key name.session one)) state.jobs one there).0);
  owed = refl;
  sent = refl;
  entries = refl;
  draw = refl;
}

first_fewer : {S : Type 0} (sessions : List Session) (state : State S) → IsFewer state (without_first sessions state)
first_fewer [] state = same_all state
first_fewer (session ∷ sessions) state = one_fewer (name_of session) state

place_fewer : {S : Type 0} (state : State S) → IsFewer state (with_place state)
place_fewer {S} state =
    cond_both (nat_lt (length state.sessions) sessions_max) state (without_first state.sessions state) (λ (s : State S). IsFewer state s) (λ is. same_all state) (λ is. first_fewer state.sessions state)

module _ {S : Type 0} (setting : Setting S) (envelope : Envelope) (state : State S) where
  -- the session that heard it, and what is there beside it
  pub record IsHeard (heard : State S) : Type 0 where
    pub x : Session
    pub there : Contains heard.sessions x
    pub name : name_in envelope ≡ name_of x
    pub from : (o : Session) → Contains heard.sessions o → Contains state.sessions o ⊎ (name_of o ≡ name_in envelope)
    pub jobs : AreUnfailed state.jobs → AreUnfailed heard.jobs
    pub owed : heard.owed ≡ state.owed
    pub sent : heard.sent ≡ state.sent
    pub entries : heard.entries ≡ state.entries

  heard_by : (found : Option Session) → session_named (name_in envelope) state.sessions ≡ found → IsHeard (hears_by setting envelope found state)
  heard_by None is =
      let place : State S = with_place state in
      let z : Session = session_for setting envelope place.draw in
      let fewer = place_fewer state in
      record {
        x = z;
        there = Contains-append_right place.sessions (z ∷ []) z (here z []);
        name = refl;
        from = λ o there.
            elim (Contains-append_cases place.sessions (z ∷ []) o there) [
              | inl old ↦ inl (fewer.sessions o old)
              | inr last ↦
                  elim (first_or o z [] last) [
                    | inl same ↦ inr (ap (λ (s : Session). name_of s) (sym same))
                    | inr none ↦ absurd (empty_has o none)
                  ]
            ];
        jobs = fewer.jobs;
        owed = fewer.owed;
        sent = fewer.sent;
        entries = fewer.entries;
      }
  heard_by (Some x) is =
      let f = found_in (is_named (name_in envelope)) state.sessions x is in
      let others : List Session = without_session (name_of x) state.sessions in
      record {
        x = x;
        there = Contains-append_right others (x ∷ []) x (here x []);
        name = name_is (name_in envelope) x f.1;
        from = λ o there.
            elim (Contains-append_cases others (x ∷ []) o there) [
              | inl old ↦ inl (from_filter (λ (o : Session). not (is_named (name_of x) o)) state.sessions o old).0
              | inr last ↦
                  elim (first_or o x [] last) [
                    | inl same ↦ inl (subst (λ (s : Session). Contains state.sessions s) same f.0)
                    | inr none ↦ absurd (empty_has o none)
                  ]
            ];
        jobs = λ h. h;
        owed = refl;
        sent = refl;
        entries = refl;
      }

  pub is_heard : IsHeard (hears setting envelope state)
  is_heard = heard_by (session_named (name_in envelope) state.sessions) refl

  -- a session that is made is there
  pub made_there : session_named (name_in envelope) state.sessions ≡ None → Contains (hears setting envelope state).sessions (session_for setting envelope state.draw)
  made_there none =
      let place : State S = with_place state in
      let z : Session = session_for setting envelope place.draw in
      subst (λ (draw : S). Contains (hears setting envelope state).sessions (session_for setting envelope draw)) (place_fewer state).draw
      (subst (λ (found : Option Session). Contains (hears_by setting envelope found state).sessions z) (sym none)
      (Contains-append_right place.sessions (z ∷ []) z (here z [])))

  -- a session before it is there, where the packet's was there too
  pub before_there : (x : Session) → session_named (name_in envelope) state.sessions ≡ Some x → AreNamedApart state.sessions → (o : Session) → Contains state.sessions o → Contains (hears setting envelope state).sessions o
  before_there x is apart o there =
      let others : List Session = without_session (name_of x) state.sessions in
      let f = found_in (is_named (name_in envelope)) state.sessions x is in
      subst (λ (found : Option Session). Contains (hears_by setting envelope found state).sessions o) (sym is)
      (elim (cases_Bool (is_named (name_of x) o)) [
        | inl named ↦
            let one : x ≡ o = apart x o f.0 there (name_is (name_of x) o named) in
            Contains-append_right others (x ∷ []) o (subst (λ (s : Session). Contains (x ∷ []) s) one (here x []))
        | inr not_so ↦ Contains-append_left others (x ∷ []) o (kept_in (λ (o : Session). not (is_named (name_of x) o)) state.sessions o there (ap not not_so))
      ])

-- no session of a name is there
pub none_found : (name : Name) (sessions : List Session) → session_named name sessions ≡ None → has_named name sessions ≡ false
none_found name [] is = refl
none_found name (o ∷ sessions) is =
    elim (cases_Bool (is_named name o)) [
      | inl holds ↦ let e : Some o ≡ None = subst (λ (b : Bool). (if b then Some o else session_named name sessions) ≡ None) holds is in absurd (cc)
      | inr fails ↦
          subst (λ (b : Bool). (b || has_named name sessions) ≡ false) (sym fails)
          (none_found name sessions (subst (λ (b : Bool). (if b then Some o else session_named name sessions) ≡ None) fails is))
    ]

pub none_kept : {X : Type 0} (test : X → Bool) (xs : List X) → filter test xs ≡ [] → AllByRecursion (λ (x : X). test x ≡ false) xs
none_kept test [] is = tt
none_kept test (x ∷ xs) is =
    elim (cases_Bool (test x)) [
      | inl holds ↦ let e : x ∷ filter test xs ≡ [] = subst (λ (b : Bool). (if b then x ∷ filter test xs else filter test xs) ≡ []) holds is in absurd (cc)
      | inr fails ↦ (fails, none_kept test xs (subst (λ (b : Bool). (if b then x ∷ filter test xs else filter test xs) ≡ []) fails is))
    ]
