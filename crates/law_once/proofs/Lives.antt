-- What a world's sessions drew is still there behind an event of the server.
use Rattle.std.proofs.Common.{◌≡◌, ◌≢◌, ℕ, suc, ◌+◌, ◌<◌, ◌≤◌, not, Bool, true, false, Option, None, Some, List, [], ◌∷◌, ◌++◌, map, filter, fold, length, if◌then◌else◌, inl, inr, refl, sym, ap, subst, ◌∙◌, arith}
use Rattle.std.specs.Prelude.{◌⊎◌, ◌||◌}
use Rattle.std.specs.List.{AllPairs, Contains, flat_map, list_any}
use Rattle.std.proofs.lemmas.Bool.{cases_Bool}
use Rattle.waits.specs.declared.job.Job.{Job}
use Rattle.waits.specs.Jobs.{ready_job}
use Rattle.server_rules.specs.Server.{Name, Session, is_named, is_same, name_of, session_named, without_session}
use Rattle.server_rules.specs.Event.{Envelope, Setting, State, lost, speaks}
use Rattle.server_rules.specs.Answer.{after_run, attaches, begun, is_spent, runs, takes, ticks, without_spent}
use Rattle.server_rules.specs.Sending.{all_sent}
use Rattle.server_rules.specs.Events.{Attach, Course, Loss, Packet as Comes, Restart, Tick, Work, setting_at, worked}
use Rattle.world_rules.specs.Setting.{Setting as WorldSetting, at_server}
use Rattle.world_rules.specs.World.{World, has_named, lives, lost_in, missing}
use Rattle.world_rules.specs.Ends.{course_in, said, said_by_work, serves}
use Rattle.world_rules.specs.Premises.{drawn_for_session}
use Rattle.law_once.proofs.Lists.{first_or, here, kept_in, later}
use Rattle.law_once.proofs.Counting.{count, count_append}
use Rattle.law_once.proofs.Named.{Themselves, found_in}
use Rattle.law_once.proofs.Grown.{drawn}
use Rattle.law_once.proofs.Growing.{Grows, Holds, Speaks, attached_holds, found_is, found_without, names_same, runs_hold, same_names, sent_holds, takes_hold, ticks_hold}

abbrev AreNamedApart : List Session → Type 0
AreNamedApart sessions = AllPairs (λ one other. name_of one ≢ name_of other) sessions

apart_tail : (o : Session) (sessions : List Session) → AreNamedApart (o ∷ sessions) → AreNamedApart sessions
apart_tail o sessions h = λ i j d below within. h (suc i) (suc j) d (omega arith) (omega arith)

apart_first : (o : Session) (sessions : List Session) → AreNamedApart (o ∷ sessions) → (other : Session) → Contains sessions other → name_of o ≢ name_of other
apart_first o sessions h other among =
    let below : among.0 < length sessions = among.1 in
    λ same. h 0 (suc among.0) other (omega arith) (omega arith) (same ∙ ap name_of (sym among.2))

-- the session of a name is the one that has it
one_named : (sessions : List Session) → AreNamedApart sessions → (b o : Session) → Contains sessions b → session_named (name_of b) sessions ≡ Some o → b ≡ o
one_named [] apart b o among is = let below : among.0 < 0 = among.1 in absurd (omega (arith, below))
one_named (y ∷ sessions) apart b o among is =
    elim (cases_Bool (is_named (name_of b) y)) [
      | inl holds ↦
          let same : Some y ≡ Some o = subst (λ (t : Bool). (if t then Some y else session_named (name_of b) sessions) ≡ Some o) holds is in
          let e : y ≡ o = cc in
          elim (first_or b y sessions among) [
            | inl first ↦ sym first ∙ e
            | inr other ↦ absurd (apart_first y sessions apart b other (sym (same_names (name_of b) (name_of y) holds)))
          ]
      | inr fails ↦
          elim (first_or b y sessions among) [
            | inl first ↦
                let e : false ≡ true = sym fails ∙ ap (λ (s : Session). is_named (name_of b) s) first ∙ names_same (name_of b) in absurd (cc)
            | inr other ↦ one_named sessions (apart_tail y sessions apart) b o other (subst (λ (t : Bool). (if t then Some y else session_named (name_of b) sessions) ≡ Some o) fails is)
          ]
    ]

module _ (x : ℕ) where
  abbrev pub all_drawn : List Session → ℕ
  all_drawn sessions = count x (flat_map drawn_for_session sessions)

  pub first_drawn : (o : Session) (sessions : List Session) → all_drawn (o ∷ sessions) ≡ drawn x o + all_drawn sessions
  first_drawn o sessions = count_append x (drawn_for_session o) (flat_map drawn_for_session sessions)

  pub more_drawn : (xs ys : List Session) → all_drawn (xs ++ ys) ≡ all_drawn xs + all_drawn ys
  more_drawn [] ys = omega arith
  more_drawn (o ∷ xs) ys =
      omega (arith, first_drawn o (xs ++ ys), first_drawn o xs, more_drawn xs ys)

  -- ---- some of a list

  part_drawn : (test : Session → Bool) (xs : List Session) → all_drawn (filter test xs) ≤ all_drawn xs
  part_drawn test [] = omega arith
  part_drawn test (o ∷ xs) =
      let rest = part_drawn test xs in
      elim (cases_Bool (test o)) [
        | inl is ↦ rw is (omega (arith, rest, first_drawn o xs, first_drawn o (filter test xs)))
        | inr fails ↦ rw fails (omega (arith, rest, first_drawn o xs))
      ]

  both_drawn : (test : Session → Bool) (xs : List Session) → all_drawn xs ≡ all_drawn (filter (λ (o : Session). not (test o)) xs) + all_drawn (filter test xs)
  both_drawn test [] = omega arith
  both_drawn test (o ∷ xs) =
      let rest = both_drawn test xs in
      elim (cases_Bool (test o)) [
        | inl is ↦ rw (is) (omega (arith, rest, first_drawn o xs, first_drawn o (filter test xs)))
        | inr fails ↦ rw (fails) (omega (arith, rest, first_drawn o xs, first_drawn o (filter (λ (o : Session). not (test o)) xs)))
      ]

  -- one of a name and those of other names
  pub one_drawn : (name : Name) (xs : List Session) (o : Session) → session_named name xs ≡ Some o → drawn x o + all_drawn (without_session name xs) ≤ all_drawn xs
  one_drawn name [] o is = absurd (cc)
  one_drawn name (y ∷ xs) o is =
      elim (cases_Bool (is_named name y)) [
        | inl holds ↦
            let same : Some y ≡ Some o = subst (λ (b : Bool). (if b then Some y else session_named name xs) ≡ Some o) holds is in
            let e : y ≡ o = cc in
            let part = part_drawn (λ (s : Session). not (is_named name s)) xs in
            rw holds (omega (arith, part, first_drawn y xs, ap (λ (s : Session). drawn x s) e))
        | inr fails ↦
            let rest = one_drawn name xs o (subst (λ (b : Bool). (if b then Some y else session_named name xs) ≡ Some o) fails is) in
            rw fails (omega (arith, rest, first_drawn y xs, first_drawn y (without_session name xs)))
      ]

  -- ---- names that are there

  pub has_found : (name : Name) (xs : List Session) → ((o : Session) × (session_named name xs ≡ Some o) × (has_named name xs ≡ true)) ⊎ (has_named name xs ≡ false)
  has_found name [] = inr refl
  has_found name (y ∷ xs) =
      elim (cases_Bool (is_named name y)) [
        | inl holds ↦ inl (y, rw holds refl, rw holds refl)
        | inr fails ↦
            elim (has_found name xs) [
              | inl found ↦ inl (found.0, rw fails found.1, rw fails found.2)
              | inr none ↦ inr (rw fails none)
            ]
      ]

  pub has_without : (name other : Name) → name ≢ other → (xs : List Session) → has_named name (without_session other xs) ≡ has_named name xs
  has_without name other differs [] = refl
  has_without name other differs (y ∷ xs) =
      elim (cases_Bool (is_named other y)) [
        | inl is ↦
            let fails : is_named name y ≡ false =
            elim (cases_Bool (is_named name y)) [
              | inl holds ↦ absurd (differs (same_names name (name_of y) holds ∙ sym (same_names other (name_of y) is)))
              | inr no_so ↦ no_so
            ] in
            rw (is, fails) (has_without name other differs xs)
        | inr fails ↦ rw fails (ap (λ (b : Bool). is_named name y || b) (has_without name other differs xs))
      ]

  pub missing_alike : (before ys zs : List Session) → ((b : Session) → Contains before b → has_named (name_of b) zs ≡ has_named (name_of b) ys) → missing before zs ≡ missing before ys
  missing_alike [] ys zs alike = refl
  missing_alike (b ∷ before) ys zs alike =
      let rest = missing_alike before ys zs (λ o among. alike o (later o b before among)) in
      elim (cases_Bool (has_named (name_of b) ys)) [
        | inl is ↦ rw (alike b (here b before) ∙ is, is) rest
        | inr fails ↦ rw (alike b (here b before) ∙ fails, fails) (ap (λ (l : List Session). b ∷ l) rest)
      ]

  -- what was drawn before is among what is missing, and what is there
  drawn_on : (before ys : List Session) → AreNamedApart before → Holds x before ys → all_drawn before ≤ all_drawn (missing before ys) + all_drawn ys
  drawn_on [] ys apart h = omega arith
  drawn_on (b ∷ before) ys apart h =
      elim (has_found (name_of b) ys) [
        | inl found ↦
            let o : Session = found.0 in
            let grown : drawn x b ≤ drawn x o = subst (λ (f : Option Session). Grows x before b f) found.1 (h b (here b before)) in
            let zs : List Session = without_session (name_of b) ys in
            let alike : missing before zs ≡ missing before ys =
            missing_alike before ys zs (λ other among. has_without (name_of other) (name_of b) (λ same. apart_first b before apart other among (sym same)) ys) in
            let rest : all_drawn before ≤ all_drawn (missing before zs) + all_drawn zs =
            drawn_on before zs (apart_tail b before apart)
            (λ other among. subst (λ (f : Option Session). Grows x before other f)
            (sym (found_without (name_of other) (name_of b) (λ same. apart_first b before apart other among (sym same)) ys)) (h other (later other b before among))) in
            let one = one_drawn (name_of b) ys o found.1 in
            rw found.2 (omega (arith, grown, rest, one, first_drawn b before, ap all_drawn alike))
        | inr none ↦
            let rest = drawn_on before ys (apart_tail b before apart) (λ other among. h other (later other b before among)) in
            rw none (omega (arith, rest, first_drawn b before, first_drawn b (missing before ys)))
      ]

  -- ---- those that are lost by their names

  pub has_member : (name : Name) (xs : List Session) (o : Session) → Contains xs o → is_named name o ≡ true → has_named name xs ≡ true
  has_member name [] o among is = let below : among.0 < 0 = among.1 in absurd (omega (arith, below))
  has_member name (y ∷ xs) o among is =
      elim (first_or o y xs among) [
        | inl same ↦ rw (ap (λ (s : Session). is_named name s) same ∙ is) refl
        | inr other ↦
            elim (cases_Bool (is_named name y)) [
              | inl holds ↦ rw holds refl
              | inr fails ↦ rw fails (has_member name xs o other is)
            ]
      ]

  from_filter : (test : Session → Bool) (xs : List Session) (o : Session) → Contains (filter test xs) o → Contains xs o × (test o ≡ true)
  from_filter test [] o among = let below : among.0 < 0 = among.1 in absurd (omega (arith, below))
  from_filter test (y ∷ xs) o among =
      elim (cases_Bool (test y)) [
        | inl holds ↦
            let there : Contains (y ∷ filter test xs) o = subst (λ (b : Bool). Contains (if b then y ∷ filter test xs else filter test xs) o) holds among in
            elim (first_or o y (filter test xs) there) [
              | inl same ↦ (subst (λ (z : Session). Contains (z ∷ xs) o) (sym same) (here o xs), ap test (sym same) ∙ holds)
              | inr other ↦ let rest = from_filter test xs o other in (later o y xs rest.0, rest.1)
            ]
        | inr fails ↦
            let there : Contains (filter test xs) o = subst (λ (b : Bool). Contains (if b then y ∷ filter test xs else filter test xs) o) fails among in
            let rest = from_filter test xs o there in
            (later o y xs rest.0, rest.1)
      ]

  filter_alike : (test other : Session → Bool) (xs : List Session) → ((o : Session) → Contains xs o → test o ≡ other o) → filter test xs ≡ filter other xs
  filter_alike test other [] alike = refl
  filter_alike test other (o ∷ xs) alike =
      let rest = filter_alike test other xs (λ z among. alike z (later z o xs among)) in
      elim (cases_Bool (other o)) [
        | inl holds ↦ rw (alike o (here o xs) ∙ holds, holds) (ap (λ (l : List Session). o ∷ l) rest)
        | inr fails ↦ rw (alike o (here o xs) ∙ fails, fails) rest
      ]

  module _ (out : Session → Bool) (by_name : (one other : Session) → name_of one ≡ name_of other → out one ≡ out other) (all : List Session) where
    abbrev left : List Session
    left = filter (λ (o : Session). not (out o)) all

    out_missing : (o : Session) → Contains all o → not (has_named (name_of o) left) ≡ out o
    out_missing o among =
        elim (cases_Bool (out o)) [
          | inl is_out ↦
              elim (has_found (name_of o) left) [
                | inl found ↦
                    let there = from_filter (λ (s : Session). not (out s)) all found.0 (found_in (is_named (name_of o)) left found.0 found.1) in
                    let same : name_of o ≡ name_of found.0 = same_names (name_of o) (name_of found.0) (found_is (is_named (name_of o)) left found.0 found.1) in
                    let fails : out found.0 ≡ true = sym (by_name o found.0 same) ∙ is_out in
                    let e : false ≡ true = sym (ap not fails) ∙ there.1 in
                    absurd (cc)
                | inr none ↦ ap not none ∙ sym is_out
              ]
          | inr stays ↦
              elim (has_found (name_of o) left) [
                | inl found ↦ ap not found.2 ∙ sym stays
                | inr none ↦
                    let member : Contains left o = kept_in (λ (s : Session). not (out s)) all o among (ap not stays) in
                    let e : false ≡ true = sym none ∙ has_member (name_of o) left o member (names_same (name_of o)) in
                    absurd (cc)
              ]
        ]

    pub left_all : all_drawn all ≡ all_drawn (missing all left) + all_drawn left
    left_all =
        let same : missing all left ≡ filter out all = filter_alike (λ (o : Session). not (has_named (name_of o) left)) out all out_missing in
        omega (arith, both_drawn out all, ap all_drawn same)

    left_drawn : all_drawn all ≤ all_drawn (missing all left) + all_drawn left
    left_drawn = omega (arith, left_all)

  -- ---- those without numbers are lost in the end

  -- some names are out
  abbrev is_out : List Name → Session → Bool
  is_out names session = list_any (λ name. is_named name session) names

  out_twice : (name : Name) (names : List Name) (xs : List Session)
      → filter (λ (o : Session). not (is_out names o)) (filter (λ (o : Session). not (is_named name o)) xs) ≡ filter (λ (o : Session). not (is_out (name ∷ names) o)) xs
  out_twice name names [] = refl
  out_twice name names (o ∷ xs) =
      elim (cases_Bool (is_named name o)) [
        | inl is ↦ rw is (out_twice name names xs)
        | inr fails ↦
            elim (cases_Bool (is_out names o)) [
              | inl out ↦ rw (fails, out) (out_twice name names xs)
              | inr stays ↦ rw (fails, stays) (ap (λ (l : List Session). o ∷ l) (out_twice name names xs))
            ]
      ]

  none_out : (xs : List Session) → xs ≡ filter (λ (o : Session). not (is_out [] o)) xs
  none_out [] = refl
  none_out (o ∷ xs) = ap (λ (l : List Session). o ∷ l) (none_out xs)

  all_out : {S : Type 0} (spent : List Session) (state : State S)
      → (fold (λ so_far session. lost (name_of session) so_far) state spent).sessions ≡ filter (λ (o : Session). not (is_out (map name_of spent) o)) state.sessions
  all_out [] state = none_out state.sessions
  all_out (session ∷ spent) state =
      all_out spent (lost (name_of session) state) ∙ out_twice (name_of session) (map name_of spent) state.sessions

  pub spent_all : {S : Type 0} (state : State S) → all_drawn state.sessions ≡ all_drawn (missing state.sessions (without_spent state).sessions) + all_drawn (without_spent state).sessions
  spent_all state =
      let names : List Name = map name_of (filter is_spent state.sessions) in
      subst (λ (after : List Session). all_drawn state.sessions ≡ all_drawn (missing state.sessions after) + all_drawn after)
      (sym (all_out (filter is_spent state.sessions) state))
      (left_all (is_out names) (λ one other same. ap (λ (n : Name). list_any (λ name. is_same name n) names) same) state.sessions)

  spent_drawn : {S : Type 0} (state : State S) → all_drawn state.sessions ≤ all_drawn (missing state.sessions (without_spent state).sessions) + all_drawn (without_spent state).sessions
  spent_drawn state = omega (arith, spent_all state)

  -- ---- a world

  module _ {S V : Type 0} (k : Speaks S) (alone : Themselves S) (setting : WorldSetting S V) (world : World S V) (apart : AreNamedApart world.server.sessions) where
    abbrev before : List Session
    before = world.server.sessions

    gathered : (all_said after : List Session) → all_drawn before ≤ all_drawn (missing before all_said) + all_drawn all_said
        → all_drawn all_said ≤ all_drawn (missing all_said after) + all_drawn after
        → all_drawn (lives world) ≤ all_drawn ((world.lost ++ lost_in before all_said after) ++ after)
    gathered all_said after one two =
        omega (
          arith,
          one,
          two,
          more_drawn world.lost before,
          more_drawn (world.lost ++ lost_in before all_said after) after,
          more_drawn world.lost (lost_in before all_said after),
          more_drawn (missing before all_said) (missing all_said after),
        )

    abbrev now : ℕ → Setting S
    now moment = setting_at (at_server setting) moment world.server

    abbrev state : State S
    state = begun world.server world.draw

    itself_by : (b : Session) → Contains before b → (found : Option Session) → session_named (name_of b) before ≡ found → Grows x before b found
    itself_by b among None is = tt
    itself_by b among (Some o) is = let e = ap (λ (s : Session). drawn x s) (one_named before apart b o among is) in omega (arith, e)

    pub itself : Holds x before before
    itself b among = itself_by b among (session_named (name_of b) before) refl

    by_state : (moment : ℕ) (done : State S) → Holds x before done.sessions
        → all_drawn (lives world) ≤ all_drawn ((world.lost ++ lost_in before (said (now moment) done) (without_spent (all_sent (now moment) done)).sessions) ++ (without_spent (all_sent (now moment) done)).sessions)
    by_state moment done h =
        let sent : State S = all_sent (now moment) done in
        gathered sent.sessions (without_spent sent).sessions (drawn_on before sent.sessions apart (sent_holds x before k alone (now moment) done h)) (spent_drawn sent)

    same_said : all_drawn before ≤ all_drawn (missing before before) + all_drawn before
    same_said = omega arith

    pub packet_drawn : (moment : ℕ) (envelope : Envelope) → all_drawn (lives world) ≤ all_drawn (lives (serves setting (Comes moment (Some envelope)) world))
    packet_drawn moment envelope = by_state moment (takes (now moment) envelope state) (takes_hold x before k alone (now moment) envelope state refl itself)

    pub unopened_drawn : (moment : ℕ) → all_drawn (lives world) ≤ all_drawn (lives (serves setting (Comes moment None) world))
    unopened_drawn moment = gathered before before same_said same_said

    pub tick_drawn : (moment : ℕ) → all_drawn (lives world) ≤ all_drawn (lives (serves setting (Tick moment) world))
    tick_drawn moment = by_state moment (ticks (now moment) state) (ticks_hold x before k alone (now moment) state itself)

    pub attach_drawn : (moment : ℕ) (name : Name) → all_drawn (lives world) ≤ all_drawn (lives (serves setting (Attach moment name) world))
    attach_drawn moment name = by_state moment (speaks name (attaches (now moment)) state) (attached_holds x before k alone (now moment) name state itself)

    abbrev worked_by : ℕ → ℕ → Option Job → Course S V
    worked_by moment place found = worked (course_in world) (after_run (now moment) place found setting.serve world.service world.server world.draw)

    work_by : (moment place : ℕ) (found : Option Job)
        → all_drawn (lives world) ≤ all_drawn ((world.lost ++ lost_in before (said_by_work (now moment) place found setting.serve (course_in world)) (worked_by moment place found).server.sessions)
        ++ (worked_by moment place found).server.sessions)
    work_by moment place None = gathered before (without_spent (all_sent (now moment) state)).sessions same_said (spent_drawn state)
    work_by moment place (Some job) =
        let reply = (setting.serve world.service job.request).0 in
        by_state moment (runs (now moment) place job reply state) (runs_hold x before k alone (now moment) place job reply state itself)

    pub work_drawn : (moment place : ℕ) → all_drawn (lives world) ≤ all_drawn (lives (serves setting (Work moment place) world))
    work_drawn moment place = work_by moment place (ready_job place world.server.jobs)

    pub loss_drawn : (name : Name) → all_drawn (lives world) ≤ all_drawn (lives (serves setting (Loss name) world))
    loss_drawn name =
        gathered before (without_session name before) same_said
        (left_drawn (is_named name) (λ one other same. ap (λ (n : Name). is_same name n) same) before)

    pub all_missing : (xs : List Session) → missing xs [] ≡ xs
    all_missing [] = refl
    all_missing (o ∷ xs) = ap (λ (l : List Session). o ∷ l) (all_missing xs)

    pub restart_drawn : all_drawn (lives world) ≤ all_drawn (lives (serves setting Restart world))
    restart_drawn = gathered before [] same_said (omega (arith, ap all_drawn (all_missing before)))
