-- A session is made.
use Rattle.std.proofs.Common.{◌≡◌, ◌≢◌, ℕ, true, false, List, [], ◌∷◌, ◌++◌, reverse, inl, inr, refl, sym, ap, subst, ◌∙◌, eq-eqb, ne_eqb}
use Rattle.std.specs.List.{AllByRecursion, Contains}
use Rattle.std.proofs.lemmas.Bool.{cases_eq}
use Rattle.std.proofs.lemmas.List.Elements.{Contains-append_cases, Contains-append_left, Contains-append_right}
use Rattle.salt_line.specs.Rows.{Row}
use Rattle.id_window.specs.History.{FirstJudgement}
use Rattle.waits.specs.declared.job.Unfinished.{Unfinished}
use Rattle.waits.specs.Jobs.{Queue, is_of}
use Rattle.server_rules.specs.Server.{Reply, Session, with_session}
use Rattle.law_moves.specs.Table as moves
use Rattle.law_moves.specs.Table.Status.{Unmade, Standing, Lost}
use Rattle.law_moves.specs.World.{World, Owns}
use Rattle.law_moves.specs.Move.Move.{Make}
use Rattle.law_moves.specs.After.{after}
use Rattle.law_moves.specs.Reached.{Reached}
use Rattle.law_server_moves.specs.Leading.{Leads}
use Rattle.law_server_moves.specs.Servers.{AreApart, HasForgotten, IsJobThere, IsLost, IsNewSalt, IsOneOf, IsOutcomeThere, IsReplyThere, IsStanding, Past, ServerStands, WasAnswered, WasJudged, with_row}
use Rattle.law_server_moves.proofs.Lists.{all_append, all_of, each_of, here, map_all}
use Rattle.law_server_moves.proofs.Entered.{AllLiveOn, entered_lives, entered_on, itself_on, one_on}
use Rattle.law_server_moves.proofs.Leading.{GoOn, goes_on, leads_so, moves_once}
use Rattle.law_server_moves.proofs.Losing.{standing_is_not_lost}
use Rattle.law_server_moves.proofs.Others.{job_left, lost_left, standing_left}
use Rattle.law_server_moves.proofs.One.{put_itself, put_other}
use Rattle.law_server_moves.proofs.Judging.{draws}

lost_is_made : (at : ℕ) → Lost at ≡ Unmade → ⊥
lost_is_made at is = cc

standing_is_made : Standing ≡ Unmade → ⊥
standing_is_made is = cc

-- each of the sessions was made there
made_there : (w : World) (past : Past) (sessions : List Session) (jobs : Queue) → ServerStands w past sessions jobs → (u : ℕ) → IsOneOf u (past.lost ++ sessions) → (w.servers u).status ≢ Unmade
made_there w past sessions jobs s u one unmade =
    elim (Contains-append_cases past.lost sessions one.0 one.1) [
      | inl was ↦
          let h : IsLost w one.0 = each_of (IsLost w) past.lost s.gone one.0 was in
          lost_is_made h.at (sym h.lost ∙ ap (λ (u : ℕ). (w.servers u).status) one.2 ∙ unmade)
      | inr stands ↦
          let h : IsStanding w one.0 = each_of (IsStanding w) sessions s.standing one.0 stands in
          standing_is_made (sym h.stands ∙ ap (λ (u : ℕ). (w.servers u).status) one.2 ∙ unmade)
    ]

-- what a server session has that wasn't made
pub record IsBlank (there : moves.ServerSession) : Type 0 where
  pub salts : there.salts ≡ []
  pub judged : there.judged ≡ []
  pub forgotten : there.forgotten ≡ []

apart_more : (sessions : List Session) (new : Session) → AllByRecursion (λ (o : Session). o.number ≢ new.number) sessions → AreApart sessions → AreApart (sessions ++ new ∷ [])
apart_more [] new differ h = (tt, tt)
apart_more (o ∷ sessions) new differ h =
    (all_append (λ (z : Session). z.number ≢ o.number) sessions (new ∷ []) h.0 (λ same. differ.0 (sym same), tt), apart_more sessions new differ.1 h.1)

put_behind : (sessions : List Session) (old new : Session) → new.key ≡ old.key → new.number ≡ old.number → AllByRecursion (λ (o : Session). o.number ≢ new.number) sessions
    → with_session new (sessions ++ old ∷ []) ≡ sessions ++ new ∷ []
put_behind [] old new key number differ = ap (λ (s : Session). s ∷ []) (put_itself new old key number)
put_behind (o ∷ sessions) old new key number differ =
    ap (λ (s : Session). s ∷ with_session new (sessions ++ old ∷ [])) (put_other new o differ.0)
    ∙ ap (λ (l : List Session). o ∷ l) (put_behind sessions old new key number differ.1)

module _ (w : World) (past : Past) (sessions : List Session) (jobs : Queue) (s : ServerStands w past sessions jobs) (new : Session)
    (rows : new.salts.rows ≡ []) (history : new.history ≡ []) (replies : new.replies ≡ [])
    (some : new.unique ≢ 0) (unmade : (w.servers new.unique).status ≡ Unmade) (blank : IsBlank (w.servers new.unique))
    (owner : (client : ℕ) × Owns (w.clients client) new.number) (differ : AllByRecursion (λ (o : Session). o.number ≢ new.number) sessions)
    (no_jobs : AllByRecursion (λ (one : Unfinished). is_of new.key new.number one ≡ false) jobs) where
  abbrev v : World
  v = after w (Make new.unique new.number)

  servers_left : (other : ℕ) → other ≢ new.unique → v.servers other ≡ w.servers other
  servers_left other differs = rw (ne_eqb other new.unique differs) refl

  made_differs : (u : ℕ) → (w.servers u).status ≢ Unmade → u ≢ new.unique
  made_differs u made same = made (ap (λ (u : ℕ). (w.servers u).status) same ∙ unmade)

  standing_differs : (o : Session) → IsStanding w o → o.unique ≢ new.unique
  standing_differs o h = made_differs o.unique (λ none. standing_is_made (sym h.stands ∙ none))

  lost_differs : (o : Session) → IsLost w o → o.unique ≢ new.unique
  lost_differs o h = made_differs o.unique (λ none. lost_is_made h.at (sym h.lost ∙ none))

  stands_left : (o : Session) → Contains sessions o → IsStanding w o → IsStanding v o
  stands_left o among h =
      standing_left w v o (servers_left o.unique (standing_differs o h)) h.replies h.entries h

  no_entries : AllByRecursion (λ (entry : moves.Entry). entry.server ≡ new.unique → WasAnswered entry.number new.replies) w.entries
  no_entries =
      map_all (λ (entry : moves.Entry). IsOneOf entry.server (past.lost ++ sessions)) (λ (entry : moves.Entry). entry.server ≡ new.unique → WasAnswered entry.number new.replies) w.entries
      (λ entry among one same. absurd (made_differs entry.server (made_there w past sessions jobs s entry.server one) same))
      (entered_lives (past.lost ++ sessions) (reverse past.entries) w.entries s.entered)

  now : IsStanding v new
  now = record {
    made = record {
      number = rw (eq-eqb new.unique new.unique refl) refl;
      salts = rw rows blank.salts;
      forgotten = subst (λ (l : List ℕ). AllByRecursion (λ (n : ℕ). HasForgotten n new) l) (sym blank.forgotten) tt;
    };
    stands = rw (eq-eqb new.unique new.unique refl) refl;
    judged = subst (λ (l : List FirstJudgement). AllByRecursion (λ (j : FirstJudgement). IsOutcomeThere (v.servers new.unique) j.number j.outcome) l) (sym history) tt;
    known = subst (λ (l : List moves.Judged). AllByRecursion (λ (one : moves.Judged). WasJudged one.number new.history) l) (sym blank.judged) tt;
    replies = subst (λ (l : List Reply). AllByRecursion (IsReplyThere v new) l) (sym replies) tt;
    entries = no_entries;
  }

  none_stands : (other : ℕ) → (w.servers other).session ≡ new.number → (w.servers other).status ≡ Standing → ⊥
  none_stands other number stands =
      let one = s.only other (λ none. standing_is_made (sym stands ∙ none)) in
      elim (Contains-append_cases past.lost sessions one.0 one.1) [
        | inl was ↦
            let h : IsLost w one.0 = each_of (IsLost w) past.lost s.gone one.0 was in
            standing_is_not_lost h.at (sym h.lost ∙ ap (λ (u : ℕ). (w.servers u).status) one.2 ∙ stands)
        | inr among ↦
            let h : IsStanding w one.0 = each_of (IsStanding w) sessions s.standing one.0 among in
            each_of (λ (o : Session). o.number ≢ new.number) sessions differ one.0 among
            (sym h.made.number ∙ ap (λ (u : ℕ). (w.servers u).session) one.2 ∙ number)
      ]

  abbrev lives_now : List Session
  lives_now = past.lost ++ (sessions ++ new ∷ [])

  all_on : AllLiveOn (past.lost ++ sessions) lives_now
  all_on one there =
      itself_on lives_now one
      (elim (Contains-append_cases past.lost sessions one there) [
        | inl was ↦ Contains-append_left past.lost (sessions ++ new ∷ []) one was
        | inr among ↦ Contains-append_right past.lost (sessions ++ new ∷ []) one (Contains-append_left sessions (new ∷ []) one among)
      ])

  behind : (u : ℕ) → IsOneOf u (past.lost ++ sessions) → IsOneOf u (past.lost ++ (sessions ++ new ∷ []))
  behind u one = one_on (past.lost ++ sessions) lives_now all_on u one

  only_now : (u : ℕ) → (v.servers u).status ≢ Unmade → IsOneOf u (past.lost ++ (sessions ++ new ∷ []))
  only_now u h =
      elim (cases_eq u new.unique) [
        | inl same ↦ (new, Contains-append_right past.lost (sessions ++ new ∷ []) new (Contains-append_right sessions (new ∷ []) new (here new [])), sym same)
        | inr differs ↦ behind u (s.only u (λ none. h (ap (λ (one : moves.ServerSession). one.status) (servers_left u differs) ∙ none)))
      ]

  no_job : (one : Unfinished) → is_of new.key new.number one ≡ false → IsJobThere v new one
  no_job one not_so of = let e : false ≡ true = sym not_so ∙ of in absurd (cc)

  abbrev pub Behind : World → Type 0
  Behind later = ServerStands later past (sessions ++ new ∷ []) jobs

  makes : (word : ℕ) → IsNewSalt w word → Leads w (λ later. Behind later × IsNewSalt later word)
  makes word fresh =
      moves_once w (λ later. Behind later × IsNewSalt later word) new.unique (Make new.unique new.number) (some, unmade, owner, none_stands) refl (
        record {
          standing = all_append (IsStanding v) sessions (new ∷ []) (map_all (IsStanding w) (IsStanding v) sessions stands_left s.standing) (now, tt);
          working = all_append (λ (o : Session). AllByRecursion (IsJobThere v o) jobs) sessions (new ∷ [])
              (all_of (λ (o : Session). AllByRecursion (IsJobThere v o) jobs) sessions
              (λ o among. map_all (IsJobThere w o) (IsJobThere v o) jobs
              (λ one is j. job_left w v o (servers_left o.unique (standing_differs o (each_of (IsStanding w) sessions s.standing o among))) one j)
              (each_of (λ (o : Session). AllByRecursion (IsJobThere w o) jobs) sessions s.working o among)))
              (map_all (λ (one : Unfinished). is_of new.key new.number one ≡ false) (IsJobThere v new) jobs (λ one is not_so. no_job one not_so) no_jobs, tt);
          gone = map_all (IsLost w) (IsLost v) past.lost (λ o among h. lost_left w v o (servers_left o.unique (lost_differs o h)) h) s.gone;
          apart = apart_more sessions new differ s.apart;
          only = only_now;
          entered = entered_on (past.lost ++ sessions) lives_now all_on (reverse past.entries) w.entries s.entered;
        },
        fresh,
      )

  -- and draws its first salt
  pub makes_with : GoOn → Reached w → (row : Row) → IsNewSalt w row.word → Leads w (λ later. ServerStands later past (sessions ++ with_row row new ∷ []) jobs)
  makes_with on reached row fresh =
      goes_on on w (λ later. Behind later × IsNewSalt later row.word) (λ later. ServerStands later past (sessions ++ with_row row new ∷ []) jobs) reached (makes row.word fresh)
      (λ later reached h.
      leads_so later (λ last. ServerStands last past (with_session (with_row row new) (sessions ++ new ∷ [])) jobs) (λ last. ServerStands last past (sessions ++ with_row row new ∷ []) jobs)
      (λ last h. subst (λ (l : List Session). ServerStands last past l jobs) (put_behind sessions new (with_row row new) refl refl differ) h)
      (draws later past (sessions ++ new ∷ []) jobs h.0 new (Contains-append_right sessions (new ∷ []) new (here new [])) row h.1))
