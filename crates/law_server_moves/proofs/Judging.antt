-- A salt is drawn, and a message is judged.
use Rattle.std.proofs.Common.{◌≡◌, ◌≢◌, ℕ, zero, suc, ◌≤◌, List, [], ◌∷◌, ◌++◌, map, reverse, inl, inr, refl, sym, ap, subst, ◌∙◌, arith, eq-eqb, ne_eqb}
use Rattle.std.specs.List.{All, AllByRecursion, Contains}
use Rattle.std.proofs.lemmas.Bool.{cases_eq}
use Rattle.std.proofs.lemmas.List.{reverse-append}
use Rattle.std.proofs.lemmas.List.Elements.{Contains-append_left, Contains-append_right}
use Rattle.salt_line.specs.Rows.{Row}
use Rattle.id_window.specs.History.{History, FirstJudgement, Outcome, Refused, AcceptedContainer, AcceptedCall, AcceptedOther, floor, noted}
use Rattle.waits.specs.Jobs.{Queue}
use Rattle.server_rules.specs.Server.{Session, with_session}
use Rattle.law_moves.specs.Table as moves
use Rattle.law_moves.specs.Table.Status.{Standing}
use Rattle.law_moves.specs.World.{World}
use Rattle.law_moves.specs.Move.Move.{Draw, Judge}
use Rattle.law_moves.specs.After.{after}
use Rattle.law_moves.specs.Lawful.{MayDecide}
use Rattle.law_server_moves.specs.Leading.{Leads}
use Rattle.law_server_moves.specs.Servers.{HasForgotten, IsJobThere, IsNewSalt, IsOutcomeThere, IsStanding, IsSuch, Past, ServerStands, WasJudged, with_history, with_row}
use Rattle.law_server_moves.proofs.Lists.{all_append, each_of, first_or, here, later, map_all}
use Rattle.law_server_moves.proofs.Leading.{leads_so, moves_once}
use Rattle.law_server_moves.proofs.One.{changes, none_grow}

map_more : (rows : List Row) (row : Row) → map (λ (r : Row). r.word) (rows ++ row ∷ []) ≡ map (λ (r : Row). r.word) rows ++ row.word ∷ []
map_more [] row = refl
map_more (first ∷ rows) row = ap (λ (l : List ℕ). first.word ∷ l) (map_more rows row)

pub at_all : {X : Type 0} (P : X → Type 0) (xs : List X) → AllByRecursion P xs → All P xs
at_all P [] h k d below = absurd (omega (arith, below))
at_all P (x ∷ xs) h zero d below = h.0
at_all P (x ∷ xs) h (suc k) d below = at_all P xs h.1 k d (omega (arith, below))

module _ (w : World) (past : Past) (sessions : List Session) (jobs : Queue) (s : ServerStands w past sessions jobs) (x : Session) (among : Contains sessions x) where
  its : IsStanding w x
  its = each_of (IsStanding w) sessions s.standing x among

  its_jobs : AllByRecursion (IsJobThere w x) jobs
  its_jobs = each_of (λ (o : Session). AllByRecursion (IsJobThere w o) jobs) sessions s.working x among

  -- ---- a salt is drawn

  module _ (row : Row) (new : IsNewSalt w row.word) where
    abbrev drawn : Session
    drawn = with_row row x

    abbrev drawn_w : World
    drawn_w = after w (Draw x.unique row.word)

    other_left : (other : ℕ) → other ≢ x.unique → drawn_w.servers other ≡ w.servers other
    other_left other differs = rw (ne_eqb other x.unique differs) refl

    drawn_stands : IsStanding drawn_w drawn
    drawn_stands = record {
      made = record {
        number = its.made.number;
        salts = rw (eq-eqb x.unique x.unique refl)
            (ap (λ (l : List ℕ). row.word ∷ l) its.made.salts
            ∙ sym (ap (λ (l : List ℕ). reverse l) (map_more x.salts.rows row) ∙ reverse-append (map (λ (r : Row). r.word) x.salts.rows) (row.word ∷ [])));
        forgotten = its.made.forgotten;
      };
      stands = its.stands;
      judged = its.judged;
      known = its.known;
      replies = its.replies;
      entries = its.entries;
    }

    -- what was new, but for the word, still is
    still_new : (b : ℕ) → IsNewSalt w b → b ≢ row.word → IsNewSalt drawn_w b
    still_new b h differs = (
      h.0,
      λ u has.
          elim (cases_eq u x.unique) [
            | inl same ↦
                let list : (drawn_w.servers u).salts ≡ row.word ∷ (w.servers u).salts = rw (eq-eqb u x.unique same) refl in
                elim (first_or b row.word (w.servers u).salts (subst (λ (l : List ℕ). Contains l b) list has)) [
                  | inl is ↦ absurd (differs (sym is))
                  | inr old ↦ h.1 u old
                ]
            | inr other ↦ h.1 u (subst (λ (one : moves.ServerSession). Contains one.salts b) (other_left u other) has)
          ],
    )

    pub draws_on : Leads w (λ later. ServerStands later past (with_session drawn sessions) jobs × ((b : ℕ) → IsNewSalt w b → b ≢ row.word → IsNewSalt later b))
    draws_on =
        moves_once w (λ later. ServerStands later past (with_session drawn sessions) jobs × ((b : ℕ) → IsNewSalt w b → b ≢ row.word → IsNewSalt later b))
        x.unique (Draw x.unique row.word) (its.stands, new.0, new.1) refl (
          changes w past sessions jobs jobs s x drawn among refl refl refl drawn_w other_left (none_grow x.unique w.entries) past refl (λ lives on h. h) (λ m is. is)
              (λ reply o differs r. r) drawn_stands its_jobs (λ o differs h. h),
          still_new,
        )

    pub draws : Leads w (λ later. ServerStands later past (with_session drawn sessions) jobs)
    draws =
        leads_so w (λ later. ServerStands later past (with_session drawn sessions) jobs × ((b : ℕ) → IsNewSalt w b → b ≢ row.word → IsNewSalt later b))
        (λ later. ServerStands later past (with_session drawn sessions) jobs) (λ later h. h.0) draws_on

  -- ---- a message is judged

  module _ (rises : (history later : History) → floor history ≤ floor (history ++ later)) (number seq : ℕ) (outcome : Outcome) (m : moves.Message) (decided : moves.Outcome)
      (sent : Contains w.ups m) (under : m.session ≡ x.number) (numbered : m.number ≡ number) (unjudged : WasJudged number x.history → ⊥)
      (such : IsSuch outcome decided) (may : MayDecide (w.servers x.unique) m decided) where
    abbrev told : Session
    told = with_history (noted number seq outcome x.history) x

    abbrev told_w : World
    told_w = after w (Judge x.unique m decided)

    abbrev judgement : FirstJudgement
    judgement = record { number = number; seq = seq; outcome = outcome }

    told_other : (other : ℕ) → other ≢ x.unique → told_w.servers other ≡ w.servers other
    told_other other differs = rw (ne_eqb other x.unique differs) refl

    told_judged : (told_w.servers x.unique).judged ≡ record { number = m.number; outcome = decided } ∷ (w.servers x.unique).judged
    told_judged = rw (eq-eqb x.unique x.unique refl) refl

    more_judged : (one : moves.Judged) → Contains (w.servers x.unique).judged one → Contains (told_w.servers x.unique).judged one
    more_judged one is = subst (λ (l : List moves.Judged). Contains l one) (sym told_judged) (later one (record { number = m.number; outcome = decided }) (w.servers x.unique).judged is)

    pub now_judged : Contains (told_w.servers x.unique).judged (record { number = number; outcome = decided })
    now_judged =
        subst (λ (l : List moves.Judged). Contains l (record { number = number; outcome = decided })) (sym told_judged)
        (subst (λ (n : ℕ). Contains (record { number = n; outcome = decided } ∷ (w.servers x.unique).judged) (record { number = number; outcome = decided })) (sym numbered)
        (here (record { number = number; outcome = decided }) (w.servers x.unique).judged))

    more_outcome : (n : ℕ) (o : Outcome) → IsOutcomeThere (w.servers x.unique) n o → IsOutcomeThere (told_w.servers x.unique) n o
    more_outcome n (Refused code) h = more_judged _ h
    more_outcome n AcceptedContainer h = (h.0, more_judged _ h.1, h.2)
    more_outcome n AcceptedCall h = (h.0, more_judged _ h.1, h.2)
    more_outcome n AcceptedOther h = (h.0, more_judged _ h.1, h.2)

    now_outcome : (o : Outcome) → IsSuch o decided → IsOutcomeThere (told_w.servers x.unique) number o
    now_outcome (Refused code) is = subst (λ (d : moves.Outcome). Contains (told_w.servers x.unique).judged (record { number = number; outcome = d })) is now_judged
    now_outcome AcceptedContainer is = (decided, now_judged, is)
    now_outcome AcceptedCall is = (decided, now_judged, is)
    now_outcome AcceptedOther is = (decided, now_judged, is)

    still_judged : (n : ℕ) → WasJudged n x.history → WasJudged n told.history
    still_judged n h = (h.0, Contains-append_left x.history (judgement ∷ []) h.0 h.1, h.2)

    is_judged : WasJudged m.number told.history
    is_judged = (judgement, Contains-append_right x.history (judgement ∷ []) judgement (here judgement []), sym numbered)

    still_forgotten : (n : ℕ) → HasForgotten n x → HasForgotten n told
    still_forgotten n (inl low) = let more : floor x.history ≤ floor told.history = rises x.history (judgement ∷ []) in inl (omega (arith, low, more))
    still_forgotten n (inr dropped) = inr dropped

    told_stands : IsStanding told_w told
    told_stands = record {
      made = record {
        number = its.made.number;
        salts = its.made.salts;
        forgotten = map_all (λ (n : ℕ). HasForgotten n x) (λ (n : ℕ). HasForgotten n told) (w.servers x.unique).forgotten (λ n is h. still_forgotten n h) its.made.forgotten;
      };
      stands = its.stands;
      judged = all_append (λ (j : FirstJudgement). IsOutcomeThere (told_w.servers x.unique) j.number j.outcome) x.history (judgement ∷ [])
          (map_all (λ (j : FirstJudgement). IsOutcomeThere (w.servers x.unique) j.number j.outcome) (λ (j : FirstJudgement). IsOutcomeThere (told_w.servers x.unique) j.number j.outcome) x.history
          (λ j is h. more_outcome j.number j.outcome h) its.judged)
          (now_outcome outcome such, tt);
      known = subst (λ (l : List moves.Judged). AllByRecursion (λ (one : moves.Judged). WasJudged one.number told.history) l) (sym told_judged)
          (is_judged, map_all (λ (one : moves.Judged). WasJudged one.number x.history) (λ (one : moves.Judged). WasJudged one.number told.history) (w.servers x.unique).judged (λ one is h. still_judged one.number h) its.known);
      replies = its.replies;
      entries = its.entries;
    }

    told_jobs : AllByRecursion (IsJobThere told_w told) jobs
    told_jobs = map_all (IsJobThere w x) (IsJobThere told_w told) jobs (λ one is j of. more_judged _ (j of)) its_jobs

    is_lawful : All (λ (one : moves.Judged). one.number ≢ m.number) (w.servers x.unique).judged
    is_lawful = at_all (λ (one : moves.Judged). one.number ≢ m.number) (w.servers x.unique).judged
        (map_all (λ (one : moves.Judged). WasJudged one.number x.history) (λ (one : moves.Judged). one.number ≢ m.number) (w.servers x.unique).judged
        (λ one is h same. unjudged (h.0, h.1, h.2 ∙ same ∙ numbered)) its.known)

    pub judges : Leads w (λ later. ServerStands later past (with_session told sessions) jobs × Contains (later.servers x.unique).judged (record { number = number; outcome = decided }))
    judges =
        moves_once w (λ later. ServerStands later past (with_session told sessions) jobs × Contains (later.servers x.unique).judged (record { number = number; outcome = decided })) x.unique (Judge x.unique m decided)
        (its.stands, sent, under ∙ sym its.made.number, is_lawful, may) refl (
          changes w past sessions jobs jobs s x told among refl refl refl told_w told_other (none_grow x.unique w.entries) past refl (λ lives on h. h) (λ m is. is)
              (λ reply o differs r. r) told_stands told_jobs (λ o differs h. h),
          now_judged,
        )
