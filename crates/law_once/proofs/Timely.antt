-- A server session isn't lost before it was made.
use Rattle.std.proofs.Common.{◌≡◌, ℕ, zero, suc, ◌≤◌, Bool, List, [], ◌∷◌, if◌then◌else◌, inl, inr, sym, subst, arith, eq-eqb, ne_eqb}
use Rattle.std.specs.List.{All}
use Rattle.std.proofs.lemmas.Bool.{cases_eq}
use Rattle.law_moves.specs.Table as moves
use Rattle.law_moves.specs.Table.Status.{Unmade, Standing, Lost}
use Rattle.law_moves.specs.World.{World, start}
use Rattle.law_moves.specs.Move.{Move}
use Rattle.law_moves.specs.Move.Move.{Own, Send, Make, Draw, Judge, Forget, Answer, Speak, Hear, Lose}
use Rattle.law_moves.specs.After.{after}
use Rattle.law_moves.specs.Extends.{LeavesServers}
use Rattle.law_moves.specs.Reached.{Reached, after_all}

-- by the time so far
record IsTimely (time : ℕ) (servers : ℕ → moves.ServerSession) : Type 0 where
  pub made : (unique : ℕ) → (servers unique).made ≤ time
  pub lost : (unique at : ℕ) → (servers unique).status ≡ Lost at → (servers unique).made ≤ at

later : (time : ℕ) (servers : ℕ → moves.ServerSession) → IsTimely time servers → IsTimely (suc time) servers
later time servers h = record { made = λ unique. let le = h.made unique in omega (arith, le); lost = h.lost }

just : (P : Move → Type 0) (move : Move) → P move → All P (move ∷ [])
just P move holds zero d below = holds
just P move holds (suc k) d below = absurd (omega arith)

module _ (leaves : (w : World) (list : List Move) → All LeavesServers list → (after_all w list).servers ≡ w.servers) where
  left : (w : World) (move : Move) → LeavesServers move → IsTimely w.time w.servers → IsTimely (suc w.time) (after w move).servers
  left w move none h = subst (λ (s : ℕ → moves.ServerSession). IsTimely (suc w.time) s) (sym (leaves w (move ∷ []) (just LeavesServers move none))) (later w.time w.servers h)

  made_at : (w : World) (unique session other : ℕ) → IsTimely w.time w.servers → ((after w (Make unique session)).servers other).made ≤ suc w.time
  made_at w unique session other h =
      elim (cases_eq other unique) [
        | inl same ↦ rw (eq-eqb other unique same) (omega arith)
        | inr differs ↦ rw (ne_eqb other unique differs) (let le = h.made other in omega (arith, le))
      ]

  made_lost : (w : World) (unique session other at : ℕ) → IsTimely w.time w.servers → ((after w (Make unique session)).servers other).status ≡ Lost at
      → ((after w (Make unique session)).servers other).made ≤ at
  made_lost w unique session other at h is =
      elim (cases_eq other unique) [
        | inl same ↦
            let e : Standing ≡ Lost at = subst (λ (b : Bool). (if b then Standing else (w.servers other).status) ≡ Lost at) (eq-eqb other unique same) is in absurd (cc)
        | inr differs ↦
            rw (ne_eqb other unique differs)
            (h.lost other at (subst (λ (b : Bool). (if b then Standing else (w.servers other).status) ≡ Lost at) (ne_eqb other unique differs) is))
      ]

  lost_at : (w : World) (unique other at : ℕ) → IsTimely w.time w.servers → ((after w (Lose unique)).servers other).status ≡ Lost at → (w.servers other).made ≤ at
  lost_at w unique other at h is =
      elim (cases_eq other unique) [
        | inl same ↦
            let e : Lost w.time ≡ Lost at = subst (λ (b : Bool). (if b then Lost w.time else (w.servers other).status) ≡ Lost at) (eq-eqb other unique same) is in
            let same_time : w.time ≡ at = cc in let le = h.made other in omega (arith, same_time, le)
        | inr differs ↦ h.lost other at (subst (λ (b : Bool). (if b then Lost w.time else (w.servers other).status) ≡ Lost at) (ne_eqb other unique differs) is)
      ]

  moved : (w : World) (move : Move) → IsTimely w.time w.servers → IsTimely (suc w.time) (after w move).servers
  moved w (Own act) h = left w (Own act) tt h
  moved w (Send client parts) h = left w (Send client parts) tt h
  moved w (Make unique session) h = record { made = λ other. made_at w unique session other h; lost = λ other at. made_lost w unique session other at h }
  moved w (Draw unique salt) h = record { made = (later w.time w.servers h).made; lost = h.lost }
  moved w (Judge unique message outcome) h = record { made = (later w.time w.servers h).made; lost = h.lost }
  moved w (Forget unique number) h = record { made = (later w.time w.servers h).made; lost = h.lost }
  moved w (Answer unique number body reply) h = left w (Answer unique number body reply) tt h
  moved w (Speak unique items) h = left w (Speak unique items) tt h
  moved w (Hear client packet takes) h = left w (Hear client packet takes) tt h
  moved w (Lose unique) h = record { made = (later w.time w.servers h).made; lost = λ other at. lost_at w unique other at h }

  all_moved : (w : World) (list : List Move) → IsTimely w.time w.servers → IsTimely (after_all w list).time (after_all w list).servers
  all_moved w [] h = h
  all_moved w (move ∷ list) h = all_moved (after w move) list (moved w move h)

  pub lost_later : (w : World) → Reached w → (unique at : ℕ) → (w.servers unique).status ≡ Lost at → (w.servers unique).made ≤ at
  lost_later w reached =
      subst (λ (v : World). (unique at : ℕ) → (v.servers unique).status ≡ Lost at → (v.servers unique).made ≤ at) reached.2
      (all_moved start reached.0 (record { made = λ unique. omega arith; lost = λ unique at is. absurd (cc) })).lost
