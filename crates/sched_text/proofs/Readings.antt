-- Texts and what they spell: one list of events, or one bad line.
use Rattle.std.proofs.Common.{◌≡◌, ◌∙◌, ℕ, List, [], ◌∷◌, Option, Some, None, IfSome, IfNone, IfOk, Result, Ok, Err, ◌⊎◌, inl, inr, refl, sym, ap}
use Rattle.sched_text.specs.declared.event.Event.{Event}
use Rattle.sched_text.specs.declared.schedule.Placed.{Placed}
use Rattle.sched_text.specs.Lines.{Line, words_of, Say, SaysNothing, IsFirstBad}
use Rattle.sched_text.specs.Events.{IsEvent}
use Rattle.sched_text.specs.Schedule.{SaysEvent}
use Rattle.sched_text.specs.declared.body.CallLine.{CallLine}
use Rattle.sched_text.specs.Bodies.{SaysCall}
use Rattle.sched_text.specs.Reading.{event_at, call_at}
use Rattle.sched_text.proofs.Meanings.{event_at-is, event_at-of, call_at-is, call_at-of}

pub same_some : {A : Type 0} (x y : A) (o : Option A) → o ≡ Some x → o ≡ Some y → x ≡ y
same_some x y o p q = cc

-- words say one event
pub one_event : (event other : Event) (words : List (List ℕ)) → IsEvent event words → IsEvent other words → event ≡ other
one_event event other words h g = same_some event other (event_at words) (event_at-of event words h) (event_at-of other words g)

-- a line whose words are read as nothing says nothing
pub nothing : (line : Line) → event_at (words_of line.text) ≡ None → SaysNothing SaysEvent line
nothing line e placed says = let read = event_at-of placed.event (words_of line.text) says.1 in cc

same_placed : (p q : Placed) → p.event ≡ q.event → p.line ≡ q.line → p ≡ q
same_placed p q e f i = record { event = e i; line = f i }

pub one_list : (lines : List Line) (events others : List Placed) → Say SaysEvent lines events → Say SaysEvent lines others → events ≡ others
one_list [] [] [] h g = refl
one_list [] [] (q ∷ others) h g = absurd g
one_list [] (p ∷ events) others h g = absurd h
one_list (line ∷ lines) [] others h g = absurd h
one_list (line ∷ lines) (p ∷ events) [] h g = absurd g
one_list (line ∷ lines) (p ∷ events) (q ∷ others) h g =
    let head : p ≡ q = same_placed p q (one_event p.event q.event (words_of line.text) h.0.1 g.0.1) (h.0.0 ∙ sym g.0.0) in
    let tail = one_list lines events others h.1 g.1 in
    λ i. head i ∷ tail i

pub not_both : (lines : List Line) (events : List Placed) (bad : ℕ) → Say SaysEvent lines events → IsFirstBad SaysEvent lines bad → ⊥
not_both [] events bad h g = g
not_both (line ∷ lines) [] bad h g = absurd h
not_both (line ∷ lines) (p ∷ events) bad h g = elim g [ inl first ↦ first.0 p h.0 | inr later ↦ not_both lines events bad h.1 later.1 ]

pub one_bad : (lines : List Line) (a b : ℕ) → IsFirstBad SaysEvent lines a → IsFirstBad SaysEvent lines b → a ≡ b
one_bad [] a b h g = absurd h
one_bad (line ∷ lines) a b h g =
    elim h [
      | inl first ↦ elim g [ inl second ↦ first.1 ∙ sym second.1 | inr later ↦ absurd (first.0 later.0.0 later.0.1) ]
      | inr later ↦ elim g [ inl second ↦ absurd (second.0 later.0.0 later.0.1) | inr last ↦ one_bad lines a b later.1 last.1 ]
    ]

-- a line says an event or nothing
decided : (line : Line) (o : Option Event) → event_at (words_of line.text) ≡ o → ((p : Placed) × SaysEvent line p) ⊎ SaysNothing SaysEvent line
decided line None e = inr (nothing line e)
decided line (Some event) e = let p : Placed = record { event = event; line = line.number } in inl (p, (refl, event_at-is (words_of line.text) event e))

pub either : (lines : List Line) → ((events : List Placed) × Say SaysEvent lines events) ⊎ ((bad : ℕ) × IsFirstBad SaysEvent lines bad)
either [] = inl ([], tt)
either (line ∷ lines) =
    elim (decided line (event_at (words_of line.text)) refl) [
      | inr none ↦ inr (line.number, inl (none, refl))
      | inl said ↦ elim (either lines) [
        | inl more ↦ inl (said.0 ∷ more.0, (said.1, more.1))
        | inr bad ↦ inr (bad.0, inr (said, bad.1))
      ]
    ]

-- words say one call
pub one_call : (words : List (List ℕ)) (body other : List ℕ) (after next : Option ℕ) → SaysCall body after words → SaysCall other next words → (body ≡ other) × (after ≡ next)
one_call words body other after next h g =
    let call : CallLine = record { body = body; after = after } in
    let twin : CallLine = record { body = other; after = next } in
    let same : call ≡ twin = same_some call twin (call_at words) (call_at-of body after words h) (call_at-of other next words g) in
    (ap (λ (c : CallLine). c.body) same, ap (λ (c : CallLine). c.after) same)

-- ---- what readers of a line answer

pub if_said : {E : Type 0} (words : List (List ℕ)) (r : Result (Option CallLine) E) → IfOk r (λ call. call ≡ call_at words)
    → IfOk r (λ call. IfSome call (λ call. SaysCall call.body call.after words))
if_said words (Ok (Some call)) h = call_at-is words call (sym h)
if_said words (Ok None) h = tt
if_said words (Err fault) h = tt

pub if_nothing : {E : Type 0} (words : List (List ℕ)) (r : Result (Option CallLine) E) → IfOk r (λ call. call ≡ call_at words)
    → IfOk r (λ call. IfNone call ((body : List ℕ) (after : Option ℕ) → SaysCall body after words → ⊥))
if_nothing words (Ok (Some call)) h = tt
if_nothing words (Ok None) h = λ body after says. let read = call_at-of body after words says in cc
if_nothing words (Err fault) h = tt
