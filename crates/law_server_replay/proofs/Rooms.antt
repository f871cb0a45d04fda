-- What an event leaves: each session that stays has room for another event.
use Rattle.std.proofs.Common.{◌≡◌, zero, suc, Bool, true, false, ◌&&◌, not, Option, Some, None, List, [], ◌∷◌, if◌then◌else◌, filter, fold, inl, inr, refl, sym, ap, subst, ◌∙◌, arith, ℕ, length, ◌<◌}
use Rattle.std.specs.List.{All}
use Rattle.std.proofs.lemmas.Bool.{cases_Bool}
use Rattle.regs_service.specs.Served.{Step}
use Rattle.waits.specs.declared.job.Job.{Job}
use Rattle.server_rules.specs.Answer.{after_run, begun, ended, is_spent, runs}
use Rattle.server_rules.specs.Event.{Setting, State, lost}
use Rattle.server_rules.specs.Sending.{all_sent}
use Rattle.server_rules.specs.Server.{Server, Session, is_named, name_of, without_session}
use Rattle.law_server_replay.proofs.Lists.{names_same}

abbrev pub HaveRoom : List Session → Type 0
HaveRoom sessions = All (λ session. is_spent session ≡ false) sessions

-- ---- lists that are filtered twice

filter_filter : (p q : Session → Bool) (l : List Session) → filter q (filter p l) ≡ filter (λ s. p s && q s) l
filter_filter p q [] = refl
filter_filter p q (x ∷ l) =
    elim (cases_Bool (p x)) [
      | inl is ↦
          elim (cases_Bool (q x)) [
            | inl too ↦ rw is (rw too (ap (λ (t : List Session). x ∷ t) (filter_filter p q l)))
            | inr not_too ↦ rw is (rw not_too (filter_filter p q l))
          ]
      | inr fails ↦ rw fails (filter_filter p q l)
    ]

filter_swap : (p q : Session → Bool) (l : List Session) → filter q (filter p l) ≡ filter p (filter q l)
filter_swap p q [] = refl
filter_swap p q (x ∷ l) =
    elim (cases_Bool (p x)) [
      | inl is ↦
          elim (cases_Bool (q x)) [
            | inl too ↦ rw is (rw too (rw is (ap (λ (t : List Session). x ∷ t) (filter_swap p q l))))
            | inr not_too ↦ rw is (rw not_too (filter_swap p q l))
          ]
      | inr fails ↦
          elim (cases_Bool (q x)) [
            | inl too ↦ rw fails (rw too (rw fails (filter_swap p q l)))
            | inr not_too ↦ rw fails (rw not_too (filter_swap p q l))
          ]
    ]

filter_again : (p : Session → Bool) (l : List Session) → filter p (filter p l) ≡ filter p l
filter_again p [] = refl
filter_again p (x ∷ l) =
    elim (cases_Bool (p x)) [
      | inl is ↦ rw is (rw is (ap (λ (t : List Session). x ∷ t) (filter_again p l)))
      | inr fails ↦ rw fails (filter_again p l)
    ]

-- ---- sessions that are lost, one after the other

abbrev out : List Session → Session → List Session
out sessions session = without_session (name_of session) sessions

out_first : (r : Session) (rs : List Session) (p : Session → Bool) → out (filter p (r ∷ rs)) r ≡ filter (λ s. p s && not (is_named (name_of r) s)) rs
out_first r rs p =
    elim (cases_Bool (p r)) [
      | inl is ↦ rw is (rw (names_same (name_of r)) (filter_filter p (λ s. not (is_named (name_of r) s)) rs))
      | inr fails ↦ rw fails (filter_filter p (λ s. not (is_named (name_of r) s)) rs)
    ]

all_gone : (rs : List Session) (p : Session → Bool) → fold out (filter p rs) rs ≡ []
all_gone [] p = refl
all_gone (r ∷ rs) p = ap (λ (l : List Session). fold out l rs) (out_first r rs p) ∙ all_gone rs (λ s. p s && not (is_named (name_of r) s))

more_there : (x : Session) (l : List Session) → is_spent x ≡ false → HaveRoom l → HaveRoom (x ∷ l)
more_there x l one rest zero d below = one
more_there x l one rest (suc k) d below = rest k d (omega (arith, below))

none_there : (l : List Session) → filter is_spent l ≡ [] → HaveRoom l
none_there [] none = λ k d below. absurd (omega (arith, below))
none_there (x ∷ l) none =
    elim (cases_Bool (is_spent x)) [
      | inl is ↦ let e : x ∷ filter is_spent l ≡ [] = subst (λ (b : Bool). (if b then x ∷ filter is_spent l else filter is_spent l) ≡ []) is none in absurd (cc)
      | inr fails ↦ more_there x l fails (none_there l (subst (λ (b : Bool). (if b then x ∷ filter is_spent l else filter is_spent l) ≡ []) fails none))
    ]

module _ {S : Type 0} where
  still_spent : (rs : List Session) (state : State S)
      → filter is_spent (fold (λ so_far session. lost (name_of session) so_far) state rs).sessions ≡ fold out (filter is_spent state.sessions) rs
  still_spent [] state = refl
  still_spent (r ∷ rs) state =
      still_spent rs (lost (name_of r) state)
      ∙ ap (λ (l : List Session). fold out l rs) (filter_swap (λ s. not (is_named (name_of r) s)) is_spent state.sessions)

  pub ended_room : (setting : Setting S) (state : State S) → HaveRoom (ended setting state).server.sessions
  ended_room setting state =
      let sent : State S = all_sent setting state in
      let spent : List Session = filter is_spent sent.sessions in
      none_there (fold (λ so_far session. lost (name_of session) so_far) sent spent).sessions
      (still_spent spent sent ∙ ap (λ (l : List Session). fold out l spent) (sym (filter_again is_spent sent.sessions)) ∙ all_gone spent is_spent)

  pub run_room : {V : Type 0} (setting : Setting S) (place : ℕ) (found : Option Job) (serve : Step V) (service : V) (server : Server) (draw : S)
      → HaveRoom (after_run setting place found serve service server draw).0.server.sessions
  run_room setting place None serve service server draw = ended_room setting (begun server draw)
  run_room setting place (Some job) serve service server draw = ended_room setting (runs setting place job (serve service job.request).0 (begun server draw))
