-- One session changes.
use Rattle.std.proofs.Common.{◌≡◌, ◌≢◌, ℕ, List, [], ◌∷◌, ◌++◌, map, reverse, if◌then◌else◌, inl, inr, refl, sym, ap, subst, ◌∙◌, eq-eqb}
use Rattle.std.specs.Prelude.{◌⊎◌}
use Rattle.std.specs.List.{AllByRecursion, Contains}
use Rattle.std.proofs.lemmas.Bool.{cases_Bool, cases_eq}
use Rattle.std.proofs.lemmas.List.Elements.{Contains-append_cases, Contains-append_left, Contains-append_right}
use Rattle.waits.specs.Jobs.{Queue}
use Rattle.server_rules.specs.Server.{Reply, Session, is_named, name_of, with_session}
use Rattle.law_moves.specs.Table as moves
use Rattle.law_moves.specs.Table.Status.{Unmade, Standing, Lost}
use Rattle.law_moves.specs.World.{World}
use Rattle.law_server_moves.specs.Servers.{AreApart, AreEntered, IsJobThere, IsLost, IsReplyThere, Past, IsStanding, ServerStands, WasAnswered}
use Rattle.law_server_moves.proofs.Lists.{all_append, each_of, first_or, here, later, map_all}
use Rattle.law_server_moves.proofs.Entered.{AllLiveOn, LivesOn, entered_on, itself_on, one_on}
use Rattle.law_server_moves.proofs.Losing.{named_no_other, number_of_named, standing_is_not_lost}
use Rattle.law_server_moves.proofs.Others.{empty_has, job_left, lost_left, one_of_number, standing_left, two_uniques}

-- the list of entries grew by entries of one server session
abbrev pub EntriesGrow : ℕ → List moves.Entry → List moves.Entry → Type 0
EntriesGrow unique before after =
    (more : List moves.Entry) × (after ≡ more ++ before) × AllByRecursion (λ (entry : moves.Entry). entry.server ≡ unique) more

pub none_grow : (unique : ℕ) (entries : List moves.Entry) → EntriesGrow unique entries entries
none_grow unique entries = ([], refl, tt)

-- entries of other server sessions say nothing of this one
foreign : (unique other : ℕ) → other ≢ unique → (P : ℕ → Type 0) (more : List moves.Entry) → AllByRecursion (λ (entry : moves.Entry). entry.server ≡ unique) more
    → AllByRecursion (λ (entry : moves.Entry). entry.server ≡ other → P entry.number) more
foreign unique other differs P [] h = tt
foreign unique other differs P (entry ∷ more) h = (λ is. absurd (differs (sym is ∙ h.0)), foreign unique other differs P more h.1)

-- the sessions where one is another now
abbrev pub put : Session → Session → Session
put new other = if is_named (name_of new) other then new else other

pub put_itself : (new x : Session) → new.key ≡ x.key → new.number ≡ x.number → put new x ≡ new
put_itself new x key number = rw (eq-eqb new.key x.key key, eq-eqb new.number x.number number) refl

pub put_other : (new o : Session) → o.number ≢ new.number → put new o ≡ o
put_other new o differs = rw (named_no_other new o differs) refl

module _ (w : World) (past : Past) (sessions : List Session) (jobs jobs' : Queue) (s : ServerStands w past sessions jobs) (x new : Session) (among : Contains sessions x)
    (key : new.key ≡ x.key) (number : new.number ≡ x.number) (unique : new.unique ≡ x.unique)
    (v : World) (servers : (other : ℕ) → other ≢ x.unique → v.servers other ≡ w.servers other) (entries : EntriesGrow x.unique w.entries v.entries)
    (after : Past) (same_lost : after.lost ≡ past.lost)
    (entered : (lives : List Session) → LivesOn lives x → AreEntered lives (reverse past.entries) w.entries → AreEntered lives (reverse after.entries) v.entries)
    (ups : (message : moves.Message) → Contains w.ups message → Contains v.ups message)
    (same_entries : (reply : Reply) (o : Session) → o.unique ≢ x.unique → IsReplyThere w o reply → IsReplyThere v o reply)
    (now : IsStanding v new) (now_jobs : AllByRecursion (IsJobThere v new) jobs')
    (fewer : (o : Session) → o.number ≢ x.number → AllByRecursion (IsJobThere v o) jobs → AllByRecursion (IsJobThere v o) jobs') where
  its : IsStanding w x
  its = each_of (IsStanding w) sessions s.standing x among

  -- a session that stands is that one, or has another session number
  which : (o : Session) → Contains sessions o → (o ≡ x) ⊎ (o.number ≢ x.number)
  which o among_too =
      elim (cases_eq o.number x.number) [
        | inl same ↦ inl (one_of_number sessions s.apart o x among_too among same)
        | inr differs ↦ inr differs
      ]

  other_unique : (o : Session) → Contains sessions o → o.number ≢ x.number → o.unique ≢ x.unique
  other_unique o among_too differs = two_uniques w o x (each_of (IsStanding w) sessions s.standing o among_too).made its.made differs

  other_stands : (o : Session) → Contains sessions o → o.number ≢ x.number → IsStanding v o
  other_stands o among_too differs =
      let h : IsStanding w o = each_of (IsStanding w) sessions s.standing o among_too in
      let apart : o.unique ≢ x.unique = other_unique o among_too differs in
      standing_left w v o (servers o.unique apart)
      (map_all (IsReplyThere w o) (IsReplyThere v o) o.replies (λ reply is r. same_entries reply o apart r) h.replies)
      (subst (λ (l : List moves.Entry). AllByRecursion (λ (entry : moves.Entry). entry.server ≡ o.unique → WasAnswered entry.number o.replies) l) (sym entries.1)
      (all_append (λ (entry : moves.Entry). entry.server ≡ o.unique → WasAnswered entry.number o.replies) entries.0 w.entries
      (foreign x.unique o.unique apart (λ n. WasAnswered n o.replies) entries.0 entries.2) h.entries)) h

  other_works : (o : Session) → Contains sessions o → o.number ≢ x.number → AllByRecursion (IsJobThere v o) jobs'
  other_works o among_too differs =
      fewer o differs
      (map_all (IsJobThere w o) (IsJobThere v o) jobs (λ one is j. job_left w v o (servers o.unique (other_unique o among_too differs)) one j)
      (each_of (λ (o : Session). AllByRecursion (IsJobThere w o) jobs) sessions s.working o among_too))

  each_put : (P : Session → Type 0) → P new → ((o : Session) → Contains sessions o → o.number ≢ x.number → P o) → (o : Session) → Contains sessions o → P (put new o)
  each_put P is others o among_too =
      elim (which o among_too) [
        | inl same ↦ subst P (sym (put_itself new o (key ∙ ap (λ (z : Session). z.key) (sym same)) (number ∙ ap (λ (z : Session). z.number) (sym same)))) is
        | inr differs ↦ subst P (sym (put_other new o (λ same. differs (same ∙ number)))) (others o among_too differs)
      ]

  all_put : (P : Session → Type 0) (list : List Session) → ((o : Session) → Contains list o → P (put new o)) → AllByRecursion P (map (put new) list)
  all_put P [] each = tt
  all_put P (o ∷ list) each = (each o (here o list), all_put P list (λ z among_too. each z (later z o list among_too)))

  put_number : (o : Session) → (put new o).number ≡ o.number
  put_number o =
      elim (cases_Bool (is_named (name_of new) o)) [
        | inl is ↦ rw is (number_of_named (name_of new) o is)
        | inr not ↦ rw not refl
      ]

  still_differ : (first : Session) (list : List Session) → AllByRecursion (λ (o : Session). o.number ≢ first.number) list
      → AllByRecursion (λ (o : Session). o.number ≢ (put new first).number) (map (put new) list)
  still_differ first [] h = tt
  still_differ first (o ∷ list) h = (λ same. h.0 (sym (put_number o) ∙ same ∙ put_number first), still_differ first list h.1)

  still_apart : (list : List Session) → AreApart list → AreApart (map (put new) list)
  still_apart [] h = tt
  still_apart (o ∷ list) h = (still_differ o list h.0, still_apart list h.1)

  put_among : (list : List Session) (o : Session) → Contains list o → Contains (map (put new) list) (put new o)
  put_among [] o h = absurd (empty_has o h)
  put_among (first ∷ list) o h =
      elim (first_or o first list h) [
        | inl same ↦ subst (λ (z : Session). Contains (put new z ∷ map (put new) list) (put new o)) (sym same) (here (put new o) (map (put new) list))
        | inr other ↦ later (put new o) (put new first) (map (put new) list) (put_among list o other)
      ]

  put_unique : (o : Session) → Contains sessions o → (put new o).unique ≡ o.unique
  put_unique o among_too =
      elim (which o among_too) [
        | inl same ↦ ap (λ (z : Session). z.unique) (put_itself new o (key ∙ ap (λ (z : Session). z.key) (sym same)) (number ∙ ap (λ (z : Session). z.number) (sym same))) ∙ unique ∙ ap (λ (z : Session). z.unique) (sym same)
        | inr differs ↦ ap (λ (z : Session). z.unique) (put_other new o (λ same. differs (same ∙ number)))
      ]

  put_key : (o : Session) → Contains sessions o → (put new o).key ≡ o.key
  put_key o among_too =
      elim (which o among_too) [
        | inl same ↦ ap (λ (z : Session). z.key) (put_itself new o (key ∙ ap (λ (z : Session). z.key) (sym same)) (number ∙ ap (λ (z : Session). z.number) (sym same))) ∙ key ∙ ap (λ (z : Session). z.key) (sym same)
        | inr differs ↦ ap (λ (z : Session). z.key) (put_other new o (λ same. differs (same ∙ number)))
      ]

  abbrev lives_now : List Session
  lives_now = after.lost ++ map (put new) sessions

  put_lives : (o : Session) → Contains sessions o → LivesOn lives_now o
  put_lives o among_too = record {
    life = put new o;
    among = Contains-append_right after.lost (map (put new) sessions) (put new o) (put_among sessions o among_too);
    unique = put_unique o among_too;
    key = put_key o among_too;
    number = put_number o;
  }

  all_on : AllLiveOn (past.lost ++ sessions) lives_now
  all_on one there =
      elim (Contains-append_cases past.lost sessions one there) [
        | inl was ↦ itself_on lives_now one (Contains-append_left after.lost (map (put new) sessions) one (subst (λ (l : List Session). Contains l one) (sym same_lost) was))
        | inr among_too ↦ put_lives one among_too
      ]

  was_made : (u : ℕ) → (v.servers u).status ≢ Unmade → (w.servers u).status ≢ Unmade
  was_made u h none =
      elim (cases_eq u x.unique) [
        | inl same ↦ let e : Unmade ≡ Standing = sym none ∙ ap (λ (u : ℕ). (w.servers u).status) same ∙ its.stands in absurd (cc)
        | inr differs ↦ h (ap (λ (one : moves.ServerSession). one.status) (servers u differs) ∙ none)
      ]

  lost_differ : (o : Session) → IsLost w o → o.unique ≢ x.unique
  lost_differ o h same = standing_is_not_lost h.at (sym h.lost ∙ ap (λ (u : ℕ). (w.servers u).status) same ∙ its.stands)

  pub changes : ServerStands v after (with_session new sessions) jobs'
  changes = record {
    standing = all_put (IsStanding v) sessions (each_put (IsStanding v) now other_stands);
    working = all_put (λ (o : Session). AllByRecursion (IsJobThere v o) jobs') sessions (each_put (λ (o : Session). AllByRecursion (IsJobThere v o) jobs') now_jobs other_works);
    gone = subst (λ (l : List Session). AllByRecursion (IsLost v) l) (sym same_lost)
        (map_all (IsLost w) (IsLost v) past.lost (λ o is h. lost_left w v o (servers o.unique (lost_differ o h)) h) s.gone);
    apart = still_apart sessions s.apart;
    only = λ u is. one_on (past.lost ++ sessions) lives_now all_on u (s.only u (was_made u is));
    entered = entered lives_now (put_lives x among) (entered_on (past.lost ++ sessions) lives_now all_on (reverse past.entries) w.entries s.entered);
  }

-- ---- put in its own place

same_map : (x : Session) (list : List Session) → ((o : Session) → Contains list o → put x o ≡ o) → map (put x) list ≡ list
same_map x [] each = refl
same_map x (o ∷ list) each =
    ap (λ (z : Session). z ∷ map (put x) list) (each o (here o list))
    ∙ ap (λ (l : List Session). o ∷ l) (same_map x list (λ z among. each z (later z o list among)))

put_same : (sessions : List Session) → AreApart sessions → (x : Session) → Contains sessions x → (o : Session) → Contains sessions o → put x o ≡ o
put_same sessions apart x among o among_too =
    elim (cases_eq o.number x.number) [
      | inl same ↦
          let one : o ≡ x = one_of_number sessions apart o x among_too among same in
          subst (λ (z : Session). put x z ≡ z) (sym one) (put_itself x x refl refl)
      | inr differs ↦ put_other x o differs
    ]

pub with_itself : (sessions : List Session) → AreApart sessions → (x : Session) → Contains sessions x → with_session x sessions ≡ sessions
with_itself sessions apart x among = same_map x sessions (put_same sessions apart x among)
