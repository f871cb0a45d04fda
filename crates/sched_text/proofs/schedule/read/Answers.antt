use Rattle.std.proofs.Common.{◌∙◌, List, [], ◌∷◌, ◌++◌, inl, inr, refl, sym, ap, subst, append_assoc, append-nil}
use Rattle.sched_text.specs.declared.schedule.Placed.{Placed}
use Rattle.sched_text.specs.Lines.{Line, Say, IsFirstBad, words_of, lines_in}
use Rattle.sched_text.specs.Schedule.{SaysEvent}
use Rattle.sched_text.proofs.Meanings.{event_at-is}
use Rattle.sched_text.proofs.Readings.{nothing}
use Rattle.sched_text.proofs.schedule.read.Goals as goal

-- a line that says an event: it and what the lines that are left say are what the lines so far leave
pub loop-line-preserved : goal.loop-line-preserved
loop-line-preserved c =
    let line : Line = record { number = c.in-Some.line; text = c.in-Some.words.now } in
    let placed : Placed = record { event = c.in-Some-2.event; line = c.in-Some.line } in
    let says : SaysEvent line placed = (refl, event_at-is (words_of c.in-Some.words.now) c.in-Some-2.event (sym c.in_ok-event.ensures ∙ c.in-Some-2.is)) in
    record {
      said = λ tail h.
          subst (λ (events : List Placed). Say SaysEvent (lines_in c.args.text.now) events)
          (sym (ap (λ (l : List Placed). l ++ tail) c.in_ok-append-in-Some-2.ensures ∙ append_assoc _ _ tail))
          (c.loop-line.invariant.said (placed ∷ tail) (subst (λ lines. Say SaysEvent lines (placed ∷ tail)) (sym c.in-Some.ensures.line) (says, h)));
      good = λ bad h. c.loop-line.invariant.good bad (subst (λ lines. IsFirstBad SaysEvent lines bad) (sym c.in-Some.ensures.line) (inr ((placed, says), h)));
    }

-- where no line is left, none says anything more
pub returns-clause-events : goal.returns-clause-events
returns-clause-events c =
    subst (λ (events : List Placed). Say SaysEvent (lines_in c.args.text.now) events) (append-nil c.loop-line.placed.items)
    (c.loop-line.invariant.said [] (subst (λ lines. Say SaysEvent lines []) (sym c.in_default.ensures.none) tt))

-- a line that says nothing is the first one, where those before it said something
pub returns-in-None-clause-bad_line : goal.returns-in-None-clause-bad_line
returns-in-None-clause-bad_line c =
    let line : Line = record { number = c.in-Some.line; text = c.in-Some.words.now } in
    c.loop-line.invariant.good c.in-Some.line
    (subst (λ lines. IsFirstBad SaysEvent lines c.in-Some.line) (sym c.in-Some.ensures.line) (inl (nothing line (sym c.in_ok-event.ensures ∙ c.in-None.is), refl)))
