-- One voice after the other is made.
use Rattle.std.proofs.Common.{◌≡◌, ℕ, ◌<◌, ◌≤◌, ◌+◌, List, [], ◌∷◌, ◌++◌, length, get_or, ap, sym, subst, refl, arith, inl, inr}
use Rattle.std.specs.Prelude.{nat_lt, sum_by}
use Rattle.std.proofs.lemmas.Bool.{cases_Bool, ltb-true, ltb-false}
use Rattle.std.proofs.lemmas.List.{get_or_append_left, get_or_push, length_push}
use Rattle.std.proofs.lemmas.List.Sums.{sum_by_push}
use Rattle.waits.specs.Jobs.{Queue}
use Rattle.server_session.specs.declared.session.SessionState.{SessionState}
use Rattle.server_session.specs.Names.{name_kept}
use Rattle.server_core.specs.declared.tick_turns.TickTurn.{TickTurn}
use Rattle.server_core.specs.Answering.{answers_left}
use Rattle.server_core.specs.Reserving.{IsFresh}

-- what holds of the place of each voice holds with one more
each-push : (P : ℕ → TickTurn → Type 0) (list : List TickTurn) (voice : TickTurn) → P (length list) voice → ((i : ℕ) (e : TickTurn) → i < length list → P i (get_or list i e))
    → (i : ℕ) (e : TickTurn) → i < length (list ++ voice ∷ []) → P i (get_or (list ++ voice ∷ []) i e)
each-push P list voice last each i e lt =
    let long : length (list ++ voice ∷ []) ≡ length list + 1 = length_push list voice in
    elim (cases_Bool (nat_lt i (length list))) [
      | inl less ↦
          let within : i < length list = ltb-true i (length list) less in
          subst (P i) (sym (get_or_append_left list (voice ∷ []) e i within)) (each i e within)
      | inr not_less ↦
          let most : length list ≤ i = ltb-false i (length list) not_less in
          let at : i ≡ length list = omega arith in
          subst (λ (n : ℕ). P n (get_or (list ++ voice ∷ []) n e)) (sym at) (subst (P (length list)) (sym (get_or_push list voice e (length list) refl)) last)
    ]

pub fresh-push : (list : List TickTurn) (voice : TickTurn) (items : List TickTurn) → items ≡ list ++ voice ∷ [] → IsFresh voice.left voice
    → ((i : ℕ) (e : TickTurn) → i < length list → IsFresh (get_or list i e).left (get_or list i e))
    → (i : ℕ) (e : TickTurn) → i < length items → IsFresh (get_or items i e).left (get_or items i e)
fresh-push list voice items is last each =
    subst (λ (items : List TickTurn). (i : ℕ) (e : TickTurn) → i < length items → IsFresh (get_or items i e).left (get_or items i e)) (sym is)
    (each-push (λ (i : ℕ) (voice : TickTurn). IsFresh voice.left voice) list voice last each)

pub few-push : (list : List TickTurn) (voice : TickTurn) (items : List TickTurn) → items ≡ list ++ voice ∷ [] → voice.left ≤ 4096
    → ((i : ℕ) (e : TickTurn) → i < length list → (get_or list i e).left ≤ 4096)
    → (i : ℕ) (e : TickTurn) → i < length items → (get_or items i e).left ≤ 4096
few-push list voice items is last each =
    subst (λ (items : List TickTurn). (i : ℕ) (e : TickTurn) → i < length items → (get_or items i e).left ≤ 4096) (sym is)
    (each-push (λ (i : ℕ) (voice : TickTurn). voice.left ≤ 4096) list voice last each)

pub enough-push : (now : ℕ) (jobs : Queue) (standings : List SessionState) (list : List TickTurn) (voice : TickTurn) (items : List TickTurn) → items ≡ list ++ voice ∷ []
    → ((d : SessionState) → answers_left now jobs (name_kept (get_or standings (length list) d)) ≤ voice.left)
    → ((i : ℕ) (d : SessionState) (e : TickTurn) → i < length list → answers_left now jobs (name_kept (get_or standings i d)) ≤ (get_or list i e).left)
    → (i : ℕ) (d : SessionState) (e : TickTurn) → i < length items → answers_left now jobs (name_kept (get_or standings i d)) ≤ (get_or items i e).left
enough-push now jobs standings list voice items is last each =
    subst (λ (items : List TickTurn). (i : ℕ) (d : SessionState) (e : TickTurn) → i < length items → answers_left now jobs (name_kept (get_or standings i d)) ≤ (get_or items i e).left) (sym is)
    (λ i d e lt. each-push (λ (i : ℕ) (voice : TickTurn). answers_left now jobs (name_kept (get_or standings i d)) ≤ voice.left) list voice (last d) (λ i e within. each i d e within) i e lt)

pub sum-push : (list : List TickTurn) (voice : TickTurn) (items : List TickTurn) (total most : ℕ) → items ≡ list ++ voice ∷ [] → total ≡ sum_by (λ voice. voice.left) list → voice.left ≡ most
    → total + most ≡ sum_by (λ voice. voice.left) items
sum-push list voice items total most is so left =
    let sum = sum_by_push (λ (voice : TickTurn). voice.left) list voice in
    let same : sum_by (λ voice. voice.left) items ≡ sum_by (λ voice. voice.left) (list ++ voice ∷ []) = ap (λ (items : List TickTurn). sum_by (λ voice. voice.left) items) is in
    omega arith
