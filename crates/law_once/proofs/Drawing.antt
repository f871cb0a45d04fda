-- The words that a schedule draws, and the names among them; and the words of a `StepDraw`.
use Rattle.std.proofs.Common.{◌≡◌, ◌≢◌, ℕ, zero, suc, ◌+◌, ◌^◌, ◌<◌, ◌≤◌, ◌==◌, List, [], ◌∷◌, fold, inl, inr, refl, sym, ap, subst, ◌∙◌, arith, ne_eqb}
use Rattle.std.proofs.lemmas.Bool.{cases_Bool, cond_both, eqb-true}
use Rattle.std.specs.Prelude.{is_some}
use Rattle.draws.specs.Draws.{draw_after, next_words}
use Rattle.draws.specs.Steps.{step_word}
use Rattle.sched_text.specs.declared.event.Event.{Event}
use Rattle.law_server.specs.Order.{AreOrdered}
use Rattle.server_rules.specs.Events.{Course, Event as ServerEvent, after_event}
use Rattle.world_rules.specs.Setting.{Setting, at_server}
use Rattle.world_rules.specs.World.{World, begins}
use Rattle.world_rules.specs.Premises.{Fresh, names_drawn}
use Rattle.world_rules.specs.Refusals.{refusal}
use Rattle.world_rules.specs.Run.{after, is_in_the_way, step, step_any}
use Rattle.law_once.specs.Words.{AreDrawn, HavePlaces, given_step, times}
use Rattle.law_once.proofs.Counting.{AreFresh, count, fewer_fresh, none_some, once_apart}
use Rattle.law_once.proofs.Named.{Themselves}
use Rattle.law_once.proofs.Growing.{Speaks}
use Rattle.law_once.specs.Served.{IsServed}
use Rattle.law_once.proofs.Served.{stepped, stepped_any}
use Rattle.law_once.proofs.Later.{IsLater, later_itself, later_then}
use Rattle.law_once.proofs.Chosen.{have_places}
use Rattle.law_once.proofs.Words.{event_drew, names_of}

times_count : (word : ℕ) (words : List ℕ) → times word words ≡ count word words
times_count word [] = refl
times_count word (other ∷ words) =
    elim (cases_Bool (other == word)) [
      | inl is ↦ rw is (ap suc (times_count word words))
      | inr not_so ↦ rw not_so (times_count word words)
    ]

module _ {S V : Type 0} (setting : Setting S V) where
  abbrev pub Between : World S V → World S V → Type 0
  Between before behind = IsLater setting.step before.draw (names_of before) behind.draw (names_of behind)

  pub as_drawn : (before behind : World S V) → Between before behind → (n : ℕ) × AreDrawn setting before n behind
  as_drawn before behind h =
      let within = h.within in (
        h.many,
        record {
          draw = h.later;
          names = λ word.
              let le = within word in
              omega (
                arith,
                le,
                times_count word (names_drawn behind),
                times_count word (names_drawn before),
                times_count word (next_words setting.step h.many before.draw),
              );
        },
      )

  module _ (k : Speaks S) (alone : Themselves S) (keeps : (course : Course S V) (event : ServerEvent) → AreOrdered course.server.sessions course.server.jobs
      → AreOrdered (after_event (at_server setting) setting.serve setting.fresh course event).server.sessions (after_event (at_server setting) setting.serve setting.fresh course event).server.jobs) where
    pub event_between : (world : World S V) (event : Event) → AreOrdered world.server.sessions world.server.jobs → Between world (after setting world event)
    event_between world event ordered = event_drew k alone setting world ordered.names event

    nothing : (world : World S V) → Between world world
    nothing world = later_itself setting.step world.draw (names_of world)

    and_then : (a b c : World S V) → Between a b → Between b c → Between a c
    and_then a b c one two = later_then setting.step a.draw b.draw c.draw (names_of a) (names_of b) (names_of c) one two

    pub run_between : (world : World S V) (events : List Event) → IsServed setting world → Between world (fold (step setting) world events)
    run_between world [] h = nothing world
    run_between world (event ∷ events) h =
        let next : World S V = step setting world event in
        and_then world next (fold (step setting) next events)
        (cond_both (is_some (refusal setting world event)) world (after setting world event) (Between world) (λ is. nothing world) (λ is. event_between world event h.ordered))
        (run_between next events (stepped setting keeps world event h))

    pub any_between : (world : World S V) (events : List Event) → IsServed setting world → Between world (fold (step_any setting) world events)
    any_between world [] h = nothing world
    any_between world (event ∷ events) h =
        let next : World S V = step_any setting world event in
        and_then world next (fold (step_any setting) next events)
        (cond_both (is_in_the_way (refusal setting world event)) world (after setting world event) (Between world) (λ is. nothing world) (λ is. event_between world event h.ordered))
        (any_between next events (stepped_any setting keeps world event h))

  -- ---- words that aren't 0 and differ

  pub drawn_fresh : (draw : S) (n : ℕ) (world : World S V) → AreDrawn setting (begins setting draw) n world → AreFresh (next_words setting.step n draw) → Fresh world
  drawn_fresh draw n world h fresh =
      let names = h.names in
      let back = fewer_fresh (names_drawn world) (next_words setting.step n draw)
      (λ x. let le = names x in omega (arith, le, times_count x (names_drawn world), times_count x (next_words setting.step n draw))) fresh in
      record { some = back.0; apart = back.1 }

  pub drawn_places : (draw : S) (n : ℕ) (world : World S V) → AreDrawn setting (begins setting draw) n world → HavePlaces setting.step draw n (names_drawn world)
  drawn_places draw n world h =
      let names = h.names in
      have_places setting.step draw (names_drawn world) n
      (λ x. let le = names x in omega (arith, le, times_count x (names_drawn world), times_count x (next_words setting.step n draw)))

-- ---- a `StepDraw`

-- what is known of its words
pub record Steps : Type 0 where
  pub not_zero : (i : ℕ) → 0 < i → i < 2 ^ 64 → step_word i ≢ 0
  pub apart : (i j : ℕ) → i < 2 ^ 64 → j < 2 ^ 64 → i ≢ j → step_word i ≢ step_word j

module _ (known : Steps) where
  -- a word that none of these is
  none_of : (x n given : ℕ) → given + n < 2 ^ 64 → ((i : ℕ) → given < i → i ≤ given + n → step_word i ≢ x) → count x (next_words given_step n given) ≡ 0
  none_of x zero given below other = refl
  none_of x (suc n) given below other =
      let rest = none_of x n (given + 1) (omega (arith, below)) (λ i above within. other i (omega (arith, above)) (omega (arith, within))) in
      let here : step_word (given + 1) ≢ x = other (given + 1) (omega arith) (omega arith) in
      rw (ne_eqb (step_word (given + 1)) x here) rest

  each_once : (x n given : ℕ) → given + n < 2 ^ 64 → count x (next_words given_step n given) ≤ 1
  each_once x zero given below = omega arith
  each_once x (suc n) given below =
      elim (cases_Bool (step_word (given + 1) == x)) [
        | inl is ↦
            let same : step_word (given + 1) ≡ x = eqb-true (step_word (given + 1)) x is in
            let none = none_of x n (given + 1) (omega (arith, below)) (λ i above within.
            let differ = known.apart in
            λ its. differ i (given + 1) (omega (arith, below, within)) (omega (arith, below)) (omega (arith, above)) (its ∙ sym same)) in
            rw is (omega (arith, none))
        | inr not_so ↦ let rest = each_once x n (given + 1) (omega (arith, below)) in rw not_so rest
      ]

  pub step_words_fresh : (n given : ℕ) → given + n < 2 ^ 64 → AreFresh (next_words given_step n given)
  step_words_fresh n given below = (
    none_some (next_words given_step n given) (none_of 0 n given below (λ i above within. let some = known.not_zero in some i (omega (arith, above)) (omega (arith, below, within)))),
    once_apart (next_words given_step n given) (λ x. each_once x n given below),
  )

  pub steps_fresh : {V : Type 0} (setting : Setting ℕ V) (given n : ℕ) (world : World ℕ V) → setting.step ≡ given_step → AreDrawn setting (begins setting given) n world → given + n < 2 ^ 64 → Fresh world
  steps_fresh setting given n world same h below =
      drawn_fresh setting given n world h (subst (λ (s : ℕ → ℕ × ℕ). AreFresh (next_words s n given)) (sym same) (step_words_fresh n given below))

  after_steps : (n given : ℕ) → draw_after given_step n given ≡ given + n
  after_steps zero given = omega arith
  after_steps (suc n) given = let rest = after_steps n (given + 1) in omega (arith, rest)

  -- by the place where the draw stands then
  pub steps_fresh_at : {V : Type 0} (setting : Setting ℕ V) (given n : ℕ) (world : World ℕ V) → setting.step ≡ given_step
      → AreDrawn setting (begins setting given) n world → world.draw < 2 ^ 64 → Fresh world
  steps_fresh_at setting given n world same h below =
      let at : world.draw ≡ given + n = h.draw ∙ (ap (λ (s : ℕ → ℕ × ℕ). draw_after s n given) same ∙ after_steps n given) in
      steps_fresh setting given n world same h (subst (λ (place : ℕ). place < 2 ^ 64) at below)
