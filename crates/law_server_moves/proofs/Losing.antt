-- A session is lost.
use Rattle.std.proofs.Common.{◌≡◌, ◌≢◌, ℕ, ◌==◌, ◌&&◌, not, Bool, true, false, List, [], ◌∷◌, ◌++◌, filter, reverse, inl, inr, refl, sym, ap, subst, ◌∙◌, eq-eqb, ne_eqb}
use Rattle.std.specs.Prelude.{◌⊎◌}
use Rattle.std.specs.List.{AllByRecursion, Contains}
use Rattle.std.proofs.lemmas.Bool.{cases_Bool, cases_eq}
use Rattle.std.proofs.lemmas.List.Elements.{Contains-append_cases, Contains-append_left, Contains-append_right}
use Rattle.waits.specs.Jobs.{Queue, without_session as without_jobs_of}
use Rattle.server_rules.specs.Server.{Name, Session, is_named, name_of, without_session}
use Rattle.law_moves.specs.Table as moves
use Rattle.law_moves.specs.Table.Status.{Unmade, Standing, Lost}
use Rattle.law_moves.specs.World.{World}
use Rattle.law_moves.specs.Move.Move.{Lose}
use Rattle.law_moves.specs.After.{after}
use Rattle.law_moves.specs.Reached.{Reached}
use Rattle.law_server_moves.specs.Leading.{Leads}
use Rattle.law_server_moves.specs.Servers.{AreApart, AreEntered, IsJobThere, IsLost, IsReplyThere, IsStanding, Past, ServerStands, WasAnswered, with_lost}
use Rattle.law_server_moves.proofs.Lists.{all_append, all_of, each_of, filtered_in, filtered_out, from_filter, here, kept_in, later, map_all}
use Rattle.law_server_moves.proofs.Entered.{AllLiveOn, entered_on, itself_on, one_on}
use Rattle.law_server_moves.proofs.Leading.{GoOn, goes_on, leads_so, moves_once, stays}
use Rattle.law_server_moves.proofs.Others.{job_left, lost_left, one_of_number, standing_left, two_uniques}

pub append_nothing : {X : Type 0} (xs : List X) → xs ++ [] ≡ xs
append_nothing [] = refl
append_nothing (x ∷ xs) = ap (λ (l : List _). x ∷ l) (append_nothing xs)

pub append_one : {X : Type 0} (xs : List X) (x : X) (ys : List X) → (xs ++ x ∷ []) ++ ys ≡ xs ++ x ∷ ys
append_one [] x ys = refl
append_one (y ∷ xs) x ys = ap (λ (l : List _). y ∷ l) (append_one xs x ys)

-- ---- names

pub and_right : (a b : Bool) → (a && b) ≡ true → b ≡ true
and_right true b is = is
and_right false b is = absurd (cc)

pub eq_true : (a b : ℕ) → (a == b) ≡ true → a ≡ b
eq_true a b is =
    elim (cases_eq a b) [
      | inl same ↦ same
      | inr differs ↦ let e : false ≡ true = sym (ne_eqb a b differs) ∙ is in absurd (cc)
    ]

pub number_of_named : (name : Name) (session : Session) → is_named name session ≡ true → name.session ≡ session.number
number_of_named name session is = eq_true name.session session.number (and_right (name.key == session.key) (name.session == session.number) is)

pub not_true : (b : Bool) → not b ≡ true → b ≡ false
not_true true is = absurd (cc)
not_true false is = refl

-- one of these has the name, or none
find_named : (name : Name) (sessions : List Session)
    → AllByRecursion (λ (s : Session). is_named name s ≡ false) sessions ⊎ ((x : Session) × Contains sessions x × (is_named name x ≡ true))
find_named name [] = inl tt
find_named name (s ∷ sessions) =
    elim (cases_Bool (is_named name s)) [
      | inl is ↦ inr (s, here s sessions, is)
      | inr not ↦
          elim (find_named name sessions) [
            | inl none ↦ inl (not, none)
            | inr some ↦ inr (some.0, later some.0 s sessions some.1, some.2)
          ]
    ]

filter_apart : (test : Session → Bool) (sessions : List Session) → AreApart sessions → AreApart (filter test sessions)
filter_apart test [] h = tt
filter_apart test (s ∷ sessions) h =
    elim (cases_Bool (test s)) [
      | inl is ↦
          rw is (
            all_of (λ (o : Session). o.number ≢ s.number) (filter test sessions)
                (λ o among. each_of (λ (o : Session). o.number ≢ s.number) sessions h.0 o (from_filter test sessions o among).0),
            filter_apart test sessions h.1,
          )
      | inr not ↦ rw not (filter_apart test sessions h.1)
    ]

pub standing_is_not_lost : (at : ℕ) → Lost at ≡ Standing → ⊥
standing_is_not_lost at is = cc

module _ (w : World) (past : Past) (sessions : List Session) (jobs : Queue) (name : Name) (s : ServerStands w past sessions jobs) where
  abbrev pub WithoutIt : World → Type 0
  WithoutIt later =
      ServerStands later (with_lost (filter (is_named name) sessions) past) (without_session name sessions) (without_jobs_of name.key name.session jobs)

  -- all others are left
  module _ (v : World) (same : (x : Session) → Contains sessions x → is_named name x ≡ false → v.servers x.unique ≡ w.servers x.unique)
      (entries : v.entries ≡ w.entries) (ups : v.ups ≡ w.ups)
      (gone : AllByRecursion (IsLost v) past.lost) (now : (x : Session) → Contains sessions x → is_named name x ≡ true → IsLost v x)
      (made : (unique : ℕ) → (v.servers unique).status ≢ Unmade → (w.servers unique).status ≢ Unmade) where
    replies_left : (x : Session) → IsStanding w x → AllByRecursion (IsReplyThere v x) x.replies
    replies_left x h = map_all (IsReplyThere w x) (IsReplyThere v x) x.replies (λ reply among r. rw (entries, ups) r) h.replies

    stands_left : (x : Session) → Contains sessions x → is_named name x ≡ false → IsStanding v x
    stands_left x among not =
        let h : IsStanding w x = each_of (IsStanding w) sessions s.standing x among in
        standing_left w v x (same x among not) (replies_left x h)
        (subst (λ (l : List moves.Entry). AllByRecursion (λ (entry : moves.Entry). entry.server ≡ x.unique → WasAnswered entry.number x.replies) l) (sym entries) h.entries) h

    works_left : (x : Session) → Contains sessions x → is_named name x ≡ false → AllByRecursion (IsJobThere v x) (without_jobs_of name.key name.session jobs)
    works_left x among not =
        let its : AllByRecursion (IsJobThere w x) jobs = each_of (λ (x : Session). AllByRecursion (IsJobThere w x) jobs) sessions s.working x among in
        all_of (IsJobThere v x) (without_jobs_of name.key name.session jobs)
        (λ one is. job_left w v x (same x among not) one
        (each_of (IsJobThere w x) jobs its one (from_filter _ jobs one is).0))

    stay : (x : Session) → Contains (without_session name sessions) x → Contains sessions x × (is_named name x ≡ false)
    stay x among = let f = from_filter (λ (x : Session). not (is_named name x)) sessions x among in (f.0, not_true (is_named name x) f.1)

    abbrev lives_now : List Session
    lives_now = (past.lost ++ filter (is_named name) sessions) ++ without_session name sessions

    all_on : AllLiveOn (past.lost ++ sessions) lives_now
    all_on one there =
        itself_on lives_now one
        (elim (Contains-append_cases past.lost sessions one there) [
          | inl was ↦
              Contains-append_left (past.lost ++ filter (is_named name) sessions) (without_session name sessions) one
              (Contains-append_left past.lost (filter (is_named name) sessions) one was)
          | inr among ↦
              elim (cases_Bool (is_named name one)) [
                | inl is ↦
                    Contains-append_left (past.lost ++ filter (is_named name) sessions) (without_session name sessions) one
                    (Contains-append_right past.lost (filter (is_named name) sessions) one (kept_in (is_named name) sessions one among is))
                | inr not_so ↦
                    Contains-append_right (past.lost ++ filter (is_named name) sessions) (without_session name sessions) one
                    (kept_in (λ (x : Session). not (is_named name x)) sessions one among (ap not not_so))
              ]
        ])

    without_it : WithoutIt v
    without_it = record {
      standing = all_of (IsStanding v) (without_session name sessions) (λ x among. let f = stay x among in stands_left x f.0 f.1);
      working = all_of (λ (x : Session). AllByRecursion (IsJobThere v x) (without_jobs_of name.key name.session jobs)) (without_session name sessions)
          (λ x among. let f = stay x among in works_left x f.0 f.1);
      gone = all_append (IsLost v) past.lost (filter (is_named name) sessions) gone
          (all_of (IsLost v) (filter (is_named name) sessions) (λ x among. let f = from_filter (is_named name) sessions x among in now x f.0 f.1));
      apart = filter_apart (λ (x : Session). not (is_named name x)) sessions s.apart;
      only = λ unique is. one_on (past.lost ++ sessions) lives_now all_on unique (s.only unique (made unique is));
      entered = subst (λ (l : List moves.Entry). AreEntered lives_now (reverse past.entries) l) (sym entries)
          (entered_on (past.lost ++ sessions) lives_now all_on (reverse past.entries) w.entries s.entered);
    }

  -- one has the name
  module _ (x : Session) (among : Contains sessions x) (is : is_named name x ≡ true) where
    abbrev v : World
    v = after w (Lose x.unique)

    its : IsStanding w x
    its = each_of (IsStanding w) sessions s.standing x among

    other_left : (other : ℕ) → other ≢ x.unique → v.servers other ≡ w.servers other
    other_left other differs = rw (ne_eqb other x.unique differs) refl

    others_differ : (o : Session) → Contains sessions o → is_named name o ≡ false → o.unique ≢ x.unique
    others_differ o among_too not_so =
        two_uniques w o x (each_of (IsStanding w) sessions s.standing o among_too).made its.made
        (λ same. let one : o ≡ x = one_of_number sessions s.apart o x among_too among same in
        let e : false ≡ true = sym not_so ∙ ap (λ (z : Session). is_named name z) one ∙ is in absurd (cc))

    lost_differ : (o : Session) → IsLost w o → o.unique ≢ x.unique
    lost_differ o h same = standing_is_not_lost h.at (sym h.lost ∙ ap (λ (unique : ℕ). (w.servers unique).status) same ∙ its.stands)

    is_lost : IsLost v x
    is_lost = record {
      made = record { number = its.made.number; salts = its.made.salts; forgotten = its.made.forgotten };
      at = w.time;
      lost = rw (eq-eqb x.unique x.unique refl) refl;
    }

    lost_now : (o : Session) → Contains sessions o → is_named name o ≡ true → IsLost v o
    lost_now o among_too also =
        subst (λ (z : Session). IsLost v z)
        (sym (one_of_number sessions s.apart o x among_too among (sym (number_of_named name o also) ∙ number_of_named name x is))) is_lost

    was_made : (unique : ℕ) → (v.servers unique).status ≢ Unmade → (w.servers unique).status ≢ Unmade
    was_made unique h none =
        elim (cases_eq unique x.unique) [
          | inl same ↦
              let e : Unmade ≡ Standing = sym none ∙ ap (λ (unique : ℕ). (w.servers unique).status) same ∙ its.stands in absurd (cc)
          | inr differs ↦ h (ap (λ (one : moves.ServerSession). one.status) (other_left unique differs) ∙ none)
        ]

    loses_it : Leads w WithoutIt
    loses_it =
        moves_once w WithoutIt x.unique (Lose x.unique) its.stands refl
        (without_it v (λ o among_too not_so. other_left o.unique (others_differ o among_too not_so)) refl refl
        (map_all (IsLost w) (IsLost v) past.lost (λ o among_too h. lost_left w v o (other_left o.unique (lost_differ o h)) h) s.gone)
        lost_now was_made)

  -- none has
  loses_none : AllByRecursion (λ (x : Session). is_named name x ≡ false) sessions → Leads w WithoutIt
  loses_none none =
      stays w WithoutIt (without_it w (λ x among not_so. refl) refl refl s.gone
      (λ x among is. let e : false ≡ true = sym (each_of (λ (x : Session). is_named name x ≡ false) sessions none x among) ∙ is in absurd (cc))
      (λ unique h. h))

  pub loses : Leads w WithoutIt
  loses =
      elim (find_named name sessions) [
        | inl none ↦ loses_none none
        | inr some ↦ loses_it some.0 some.1 some.2
      ]

-- ---- all are lost

pub named_itself : (x : Session) → is_named (name_of x) x ≡ true
named_itself x = rw (eq-eqb x.key x.key refl, eq-eqb x.number x.number refl) refl

pub named_no_other : (x o : Session) → o.number ≢ x.number → is_named (name_of x) o ≡ false
named_no_other x o differs =
    elim (cases_Bool (is_named (name_of x) o)) [
      | inl is ↦ absurd (differs (sym (number_of_named (name_of x) o is)))
      | inr not_so ↦ not_so
    ]

first_named : (x : Session) (sessions : List Session) → AllByRecursion (λ (o : Session). o.number ≢ x.number) sessions
    → filter (is_named (name_of x)) (x ∷ sessions) ≡ x ∷ []
first_named x sessions h =
    rw (named_itself x)
    (ap (λ (l : List Session). x ∷ l) (filtered_out (is_named (name_of x)) sessions
    (map_all (λ (o : Session). o.number ≢ x.number) (λ (o : Session). is_named (name_of x) o ≡ false) sessions (λ o among differs. named_no_other x o differs) h)))

others_named : (x : Session) (sessions : List Session) → AllByRecursion (λ (o : Session). o.number ≢ x.number) sessions
    → without_session (name_of x) (x ∷ sessions) ≡ sessions
others_named x sessions h =
    rw (named_itself x)
    (filtered_in (λ (o : Session). not (is_named (name_of x) o)) sessions
    (map_all (λ (o : Session). o.number ≢ x.number) (λ (o : Session). not (is_named (name_of x) o) ≡ true) sessions
    (λ o among differs. ap not (named_no_other x o differs)) h))

same_stands : (w : World) (past : Past) (some : List Session) (jobs : Queue) → some ≡ past.lost → ServerStands w past [] jobs → ServerStands w (record past { lost = some }) [] jobs
same_stands w past some jobs is s = subst (λ (l : List Session). ServerStands w (record past { lost = l }) [] jobs) (sym is) s

pub loses_all : GoOn → (w : World) (past : Past) (sessions : List Session) (jobs : Queue) → Reached w → ServerStands w past sessions jobs
    → Leads w (λ later. ServerStands later (with_lost sessions past) [] [])
loses_all on w past [] jobs reached s =
    stays w (λ later. ServerStands later (with_lost [] past) [] [])
    (same_stands w past (past.lost ++ []) [] (append_nothing past.lost)
    (record { standing = tt; working = tt; gone = s.gone; apart = tt; only = s.only; entered = s.entered }))
loses_all on w past (x ∷ sessions) jobs reached s =
    let jobs_left : Queue = without_jobs_of x.key x.number jobs in
    goes_on on w (λ later. ServerStands later (with_lost (filter (is_named (name_of x)) (x ∷ sessions)) past) (without_session (name_of x) (x ∷ sessions)) jobs_left)
    (λ later. ServerStands later (with_lost (x ∷ sessions) past) [] []) reached
    (loses w past (x ∷ sessions) jobs (name_of x) s)
    (λ later reached h.
    let one : ServerStands later (with_lost (x ∷ []) past) (without_session (name_of x) (x ∷ sessions)) jobs_left =
    subst (λ (l : List Session). ServerStands later (with_lost l past) (without_session (name_of x) (x ∷ sessions)) jobs_left) (first_named x sessions s.apart.0) h in
    let other : ServerStands later (with_lost (x ∷ []) past) sessions jobs_left =
    subst (λ (l : List Session). ServerStands later (with_lost (x ∷ []) past) l jobs_left) (others_named x sessions s.apart.0) one in
    leads_so later (λ last. ServerStands last (with_lost sessions (with_lost (x ∷ []) past)) [] []) (λ last. ServerStands last (with_lost (x ∷ sessions) past) [] [])
    (λ last h. subst (λ (l : List Session). ServerStands last (record past { lost = l }) [] []) (append_one past.lost x sessions) h)
    (loses_all on later (with_lost (x ∷ []) past) sessions jobs_left reached other))
