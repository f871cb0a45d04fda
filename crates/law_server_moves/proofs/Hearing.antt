-- The session of a packet is heard, or made.
use Rattle.std.proofs.Common.{◌≡◌, ◌≢◌, ℕ, not, Bool, true, false, Option, None, Some, List, [], ◌∷◌, ◌++◌, filter, length, reverse, inl, inr, refl, sym, ap, subst, ◌∙◌}
use Rattle.std.specs.Prelude.{◌⊎◌, nat_lt}
use Rattle.std.specs.List.{AllByRecursion, Contains}
use Rattle.std.proofs.lemmas.Bool.{cases_Bool, cond_both}
use Rattle.std.proofs.lemmas.List.Elements.{Contains-append_cases, Contains-append_left, Contains-append_right}
use Rattle.draws.specs.Draws.{word_after}
use Rattle.salt_line.specs.Rows.{Row}
use Rattle.waits.specs.declared.job.Unfinished.{Unfinished}
use Rattle.waits.specs.Jobs.{Queue, is_of, without_session as without_jobs_of}
use Rattle.server_rules.specs.Server.{Name, Session, is_named, name_of, session_named, sessions_max, without_session}
use Rattle.server_rules.specs.Event.{Envelope, Setting, State, lost}
use Rattle.server_rules.specs.Answer.{hears, hears_by, makes, name_in, session_for, without_first}
use Rattle.world_rules.specs.World.{has_named}
use Rattle.law_moves.specs.Table.Status.{Unmade}
use Rattle.law_moves.specs.World.{Owns, World}
use Rattle.law_moves.specs.Reached.{Reached}
use Rattle.law_server_moves.specs.Leading.{Leads}
use Rattle.law_server_moves.specs.Servers.{AreApart, IsJobThere, IsNewSalt, IsStanding, Past, ServerStands, with_lost}
use Rattle.law_server_moves.specs.Events.{AreLost}
use Rattle.law_server_moves.proofs.Lists.{all_of, each_of, first_or, from_filter, here, kept_in, later as one_later}
use Rattle.law_server_moves.proofs.Entered.{AllLiveOn, entered_on, itself_on, one_on}
use Rattle.law_server_moves.proofs.Gone.{named_among, none_has, nothing_lost}
use Rattle.law_server_moves.proofs.Leading.{GoOn, goes_on, leads_so}
use Rattle.law_server_moves.proofs.Losing.{loses, named_itself, named_no_other, not_true}
use Rattle.law_server_moves.proofs.Making.{makes_with}
use Rattle.law_server_moves.proofs.Others.{empty_has, one_of_number}
use Rattle.law_server_moves.proofs.Events.{name_is}
use Rattle.law_server_moves.proofs.Found.{found_in}

-- ---- sessions in another order

stands_so : (w : World) (gone : Past) (xs ys : List Session) (jobs : Queue) → ServerStands w gone xs jobs → ((o : Session) → Contains ys o → Contains xs o) → ((o : Session) → Contains xs o → Contains ys o)
    → AreApart ys → ServerStands w gone ys jobs
stands_so w gone xs ys jobs h from to apart =
    let on : AllLiveOn (gone.lost ++ xs) (gone.lost ++ ys) = λ one there.
    itself_on (gone.lost ++ ys) one
    (elim (Contains-append_cases gone.lost xs one there) [
      | inl was ↦ Contains-append_left gone.lost ys one was
      | inr among ↦ Contains-append_right gone.lost ys one (to one among)
    ]) in
    record {
      standing = all_of (IsStanding w) ys (λ o there. each_of (IsStanding w) xs h.standing o (from o there));
      working = all_of (λ (o : Session). AllByRecursion (IsJobThere w o) jobs) ys (λ o there. each_of (λ (o : Session). AllByRecursion (IsJobThere w o) jobs) xs h.working o (from o there));
      gone = h.gone;
      apart = apart;
      only = λ u is. one_on (gone.lost ++ xs) (gone.lost ++ ys) on u (h.only u is);
      entered = entered_on (gone.lost ++ xs) (gone.lost ++ ys) on (reverse gone.entries) w.entries h.entered;
    }

apart_filtered : (test : Session → Bool) (xs : List Session) → AreApart xs → AreApart (filter test xs)
apart_filtered test [] h = tt
apart_filtered test (x ∷ xs) h =
    elim (cases_Bool (test x)) [
      | inl is ↦
          rw is (
            all_of (λ (o : Session). o.number ≢ x.number) (filter test xs) (λ o there. each_of (λ (o : Session). o.number ≢ x.number) xs h.0 o (from_filter test xs o there).0),
            apart_filtered test xs h.1,
          )
      | inr fails ↦ rw fails (apart_filtered test xs h.1)
    ]

apart_last : (xs : List Session) (x : Session) → AreApart xs → ((o : Session) → Contains xs o → x.number ≢ o.number) → AreApart (xs ++ x ∷ [])
apart_last [] x h differs = (tt, tt)
apart_last (o ∷ xs) x h differs = (
  all_of (λ (z : Session). z.number ≢ o.number) (xs ++ x ∷ [])
      (λ z there.
      elim (Contains-append_cases xs (x ∷ []) z there) [
        | inl old ↦ each_of (λ (z : Session). z.number ≢ o.number) xs h.0 z old
        | inr last ↦
            elim (first_or z x [] last) [
              | inl same ↦ subst (λ (s : Session). s.number ≢ o.number) same (differs o (here o xs))
              | inr none ↦ absurd (empty_has z none)
            ]
      ]),
  apart_last xs x h.1 (λ z there. differs z (one_later z o xs there)),
)

-- the session that is heard stands last
heard_last : (w : World) (gone : Past) (xs : List Session) (jobs : Queue) (x : Session) → ServerStands w gone xs jobs → Contains xs x → ServerStands w gone (without_session (name_of x) xs ++ x ∷ []) jobs
heard_last w gone xs jobs x h there =
    let test : Session → Bool = λ o. not (is_named (name_of x) o) in
    let others : List Session = without_session (name_of x) xs in
    let is_x : (o : Session) → Contains xs o → is_named (name_of x) o ≡ true → o ≡ x = λ o among is.
    one_of_number xs h.apart o x among there (sym (ap (λ (n : Name). n.session) (name_is (name_of x) o is))) in
    stands_so w gone xs (others ++ x ∷ []) jobs h
    (λ o among.
    elim (Contains-append_cases others (x ∷ []) o among) [
      | inl old ↦ (from_filter test xs o old).0
      | inr last ↦
          elim (first_or o x [] last) [
            | inl same ↦ subst (λ (s : Session). Contains xs s) same there
            | inr none ↦ absurd (empty_has o none)
          ]
    ])
    (λ o among.
    elim (cases_Bool (is_named (name_of x) o)) [
      | inl is ↦ Contains-append_right others (x ∷ []) o (subst (λ (s : Session). Contains (x ∷ []) s) (sym (is_x o among is)) (here x []))
      | inr not_so ↦ Contains-append_left others (x ∷ []) o (kept_in test xs o among (ap not not_so))
    ])
    (apart_last others x (apart_filtered test xs h.apart)
    (λ o among same.
    let old = from_filter test xs o among in
    let one : o ≡ x = one_of_number xs h.apart o x old.0 there (sym same) in
    let e : false ≡ true = sym (ap not (ap (λ (s : Session). is_named (name_of x) s) one ∙ named_itself x)) ∙ old.1 in absurd (cc)))

pub known_heard : {S : Type 0} (w : World) (gone : Past) (setting : Setting S) (envelope : Envelope) (state : State S) (x : Session) → ServerStands w gone state.sessions state.jobs
    → session_named (name_in envelope) state.sessions ≡ Some x → ServerStands w gone (hears setting envelope state).sessions (hears setting envelope state).jobs
known_heard {S} w gone setting envelope state x h found =
    let there = (found_in (is_named (name_in envelope)) state.sessions x found).0 in
    subst (λ (f : Option Session). ServerStands w gone (hears_by setting envelope f state).sessions (hears_by setting envelope f state).jobs) (sym found)
    (heard_last w gone state.sessions state.jobs x h there)

-- ---- a session is made

filtered_last : (test : Session → Bool) (xs : List Session) (z : Session) → test z ≡ true → filter test (xs ++ z ∷ []) ≡ filter test xs ++ z ∷ []
filtered_last test [] z is = rw is refl
filtered_last test (x ∷ xs) z is =
    elim (cases_Bool (test x)) [
      | inl holds ↦ rw holds (ap (λ (l : List Session). x ∷ l) (filtered_last test xs z is))
      | inr fails ↦ rw fails (filtered_last test xs z is)
    ]

module _ {S : Type 0} (on : GoOn) (blank : (w : World) (unique : ℕ) → Reached w → (w.servers unique).status ≡ Unmade
    → ((w.servers unique).salts ≡ []) × ((w.servers unique).judged ≡ []) × ((w.servers unique).forgotten ≡ []))
    (w : World) (gone : Past) (setting : Setting S) (envelope : Envelope) (state : State S) (reached : Reached w) (h : ServerStands w gone state.sessions state.jobs) where
  abbrev z : Session
  z = session_for setting envelope state.draw

  abbrev first_row : Row
  first_row = record { period = 0; word = word_after setting.step 1 state.draw }

  abbrev bare : Session
  bare = record z { salts = record { start = setting.now; rows = [] } }

  module _ (some : z.unique ≢ 0) (unmade : (w.servers z.unique).status ≡ Unmade) (fresh : IsNewSalt w first_row.word) (owner : (client : ℕ) × Owns (w.clients client) envelope.session)
      (differ : AllByRecursion (λ (o : Session). o.number ≢ envelope.session) state.sessions) (no_jobs : AllByRecursion (λ (one : Unfinished). is_of envelope.key envelope.session one ≡ false) state.jobs) where
    made : Leads w (λ later. ServerStands later gone (state.sessions ++ z ∷ []) state.jobs)
    made =
        let none = blank w z.unique reached unmade in
        makes_with w gone state.sessions state.jobs h bare refl refl refl some unmade (record { salts = none.0; judged = none.1; forgotten = none.2 }) owner differ no_jobs on reached first_row fresh

    abbrev AreThereOr : List Session → List Session → List Session → Type 0
    AreThereOr before now more = AllByRecursion (λ (o : Session). Contains now o ⊎ Contains more o) before

    -- it stands there, where some sessions were lost
    abbrev Stands : State S → World → Type 0
    Stands s later = (more : List Session) × ServerStands later (with_lost more gone) s.sessions s.jobs × AreLost (λ o. o) state.sessions s.sessions more × AreThereOr state.sessions s.sessions more

    all_there : (rest : List Session) → ((o : Session) → Contains state.sessions o → Contains rest o) → AreLost (λ o. o) state.sessions rest []
    all_there rest there = record {
      each = tt;
      others = all_of (λ (o : Session). (has_named (name_of o) rest ≡ true) ⊎ Contains [] o) state.sessions (λ o among. inl (named_among rest o (there o among)));
    }

    none_lost : Leads w (Stands (makes setting envelope state))
    none_lost =
        leads_so w (λ later. ServerStands later gone (state.sessions ++ z ∷ []) state.jobs) (Stands (makes setting envelope state))
        (λ later k. (
          [],
          nothing_lost later gone (state.sessions ++ z ∷ []) state.jobs k,
          all_there (state.sessions ++ z ∷ []) (λ o among. Contains-append_left state.sessions (z ∷ []) o among),
          all_of (λ (o : Session). Contains (state.sessions ++ z ∷ []) o ⊎ Contains [] o) state.sessions (λ o among. inl (Contains-append_left state.sessions (z ∷ []) o among)),
        )) made

    -- the one heard least recently is lost
    module _ (first : Session) (rest : List Session) (is : state.sessions ≡ first ∷ rest) where
      abbrev n : Name
      n = name_of first

      first_there : Contains state.sessions first
      first_there = subst (λ (l : List Session). Contains l first) (sym is) (here first rest)

      not_z : is_named n z ≡ false
      not_z = named_no_other first z (λ same. each_of (λ (o : Session). o.number ≢ envelope.session) state.sessions differ first first_there (sym same))

      abbrev left : List Session
      left = without_session n state.sessions ++ z ∷ []

      abbrev more : List Session
      more = filter (is_named n) (state.sessions ++ z ∷ [])

      none_named : has_named n left ≡ false
      none_named =
          none_has n left
          (λ o among.
          elim (Contains-append_cases (without_session n state.sessions) (z ∷ []) o among) [
            | inl old ↦ not_true (is_named n o) (from_filter (λ (o : Session). not (is_named n o)) state.sessions o old).1
            | inr last ↦
                elim (first_or o z [] last) [
                  | inl same ↦ subst (λ (s : Session). is_named n s ≡ false) same not_z
                  | inr none ↦ absurd (empty_has o none)
                ]
          ])

      one_lost : (o : Session) → Contains more o → (session : Session) × Contains state.sessions session × (o ≡ session) × (has_named (name_of session) left ≡ false)
      one_lost o among =
          let f = from_filter (is_named n) (state.sessions ++ z ∷ []) o among in
          elim (Contains-append_cases state.sessions (z ∷ []) o f.0) [
            | inl old ↦ (o, old, refl, subst (λ (m : Name). has_named m left ≡ false) (name_is n o f.1) none_named)
            | inr last ↦
                elim (first_or o z [] last) [
                  | inl same ↦ let e : false ≡ true = sym not_z ∙ ap (λ (s : Session). is_named n s) same ∙ f.1 in absurd (cc)
                  | inr none ↦ absurd (empty_has o none)
                ]
          ]

      are_lost : AreLost (λ o. o) state.sessions left more
      are_lost = record {
        each = all_of (λ (one : Session). (session : Session) × Contains state.sessions session × (one ≡ session) × (has_named (name_of session) left ≡ false)) more one_lost;
        others = all_of (λ (o : Session). (has_named (name_of o) left ≡ true) ⊎ Contains more o) state.sessions
            (λ o among.
            elim (cases_Bool (is_named n o)) [
              | inl named ↦ inr (kept_in (is_named n) (state.sessions ++ z ∷ []) o (Contains-append_left state.sessions (z ∷ []) o among) named)
              | inr not_so ↦
                  inl (named_among left o (Contains-append_left (without_session n state.sessions) (z ∷ []) o (kept_in (λ (o : Session). not (is_named n o)) state.sessions o among (ap not not_so))))
            ]);
      }

      there_or : AreThereOr state.sessions left more
      there_or =
          all_of (λ (o : Session). Contains left o ⊎ Contains more o) state.sessions
          (λ o among.
          elim (cases_Bool (is_named n o)) [
            | inl named ↦ inr (kept_in (is_named n) (state.sessions ++ z ∷ []) o (Contains-append_left state.sessions (z ∷ []) o among) named)
            | inr not_so ↦ inl (Contains-append_left (without_session n state.sessions) (z ∷ []) o (kept_in (λ (o : Session). not (is_named n o)) state.sessions o among (ap not not_so)))
          ])

      lost_first : Leads w (Stands (makes setting envelope (lost n state)))
      lost_first =
          goes_on on w (λ later. ServerStands later gone (state.sessions ++ z ∷ []) state.jobs) (Stands (makes setting envelope (lost n state))) reached made
          (λ later reached k.
          leads_so later (λ last. ServerStands last (with_lost more gone) (without_session n (state.sessions ++ z ∷ [])) (without_jobs_of n.key n.session state.jobs)) (Stands (makes setting envelope (lost n state)))
          (λ last m. (
            more,
            subst (λ (l : List Session). ServerStands last (with_lost more gone) l (without_jobs_of n.key n.session state.jobs)) (filtered_last (λ o. not (is_named n o)) state.sessions z (ap not not_z)) m,
            are_lost,
            there_or,
          ))
          (loses later gone (state.sessions ++ z ∷ []) state.jobs n k))

    full : (sessions : List Session) → state.sessions ≡ sessions → Leads w (Stands (makes setting envelope (without_first sessions state)))
    full [] is = none_lost
    full (first ∷ rest) is = lost_first first rest is

    pub made_heard : session_named (name_in envelope) state.sessions ≡ None → Leads w (Stands (hears setting envelope state))
    made_heard none =
        subst (λ (f : Option Session). Leads w (Stands (hears_by setting envelope f state))) (sym none)
        (cond_both (nat_lt (length state.sessions) sessions_max) state (without_first state.sessions state) (λ (s : State S). Leads w (Stands (makes setting envelope s)))
        (λ room. none_lost) (λ is. full state.sessions refl))
