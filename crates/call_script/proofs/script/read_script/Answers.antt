use Rattle.std.proofs.Common.{◌∙◌, ℕ, List, [], ◌∷◌, ◌++◌, Option, inl, inr, refl, sym, ap, subst, append_assoc, append-nil}
use Rattle.sched_text.specs.Lines.{Line, Say, IsFirstBad, words_of, lines_in}
use Rattle.sched_text.specs.Bodies.{SaysCall}
use Rattle.call_script.specs.declared.script.ScriptCall.{ScriptCall}
use Rattle.call_script.specs.Scripts.{SaysScriptCall}
use Rattle.call_script.proofs.script.read_script.Goals as goal

-- a line that says nothing is the first one, where those before it said something
pub returns-in_default-2-clause-bad_line : goal.returns-in_default-2-clause-bad_line
returns-in_default-2-clause-bad_line c =
    let line : Line = record { number = c.in-Some.line; text = c.in-Some.words.now } in
    let none : (body : List ℕ) (after : Option ℕ) → SaysCall body after (words_of c.in-Some.words.now) → ⊥ = rw c.in_default-2.is at c.in_ok-call.ensures.nothing in
    c.loop-line.invariant.good c.in-Some.line
    (subst (λ lines. IsFirstBad SaysScriptCall lines c.in-Some.line) (sym c.in-Some.ensures.line) (inl ((λ call says. none call.body call.after says.1), refl)))

-- a line that says a call: it and what the lines that are left say are what the lines so far leave
pub loop-line-preserved : goal.loop-line-preserved
loop-line-preserved c =
    let line : Line = record { number = c.in-Some.line; text = c.in-Some.words.now } in
    let call : ScriptCall = record { body = c.in-Some-2.call.body; after = c.in-Some-2.call.after; line = c.in-Some.line } in
    let said : SaysCall call.body call.after (words_of c.in-Some.words.now) = rw c.in-Some-2.is at c.in_ok-call.ensures.said in
    let says : SaysScriptCall line call = (refl, said) in
    record {
      said = λ tail h.
          subst (λ (calls : List ScriptCall). Say SaysScriptCall (lines_in c.args.text.now) calls)
          (sym (ap (λ (l : List ScriptCall). l ++ tail) (c.in_ok-append.ensures ∙ ap (λ (row : ScriptCall). c.loop-line.calls.items ++ row ∷ []) c.new-row.ensures) ∙ append_assoc _ _ tail))
          (c.loop-line.invariant.said (call ∷ tail) (subst (λ lines. Say SaysScriptCall lines (call ∷ tail)) (sym c.in-Some.ensures.line) (says, h)));
      good = λ bad h. c.loop-line.invariant.good bad (subst (λ lines. IsFirstBad SaysScriptCall lines bad) (sym c.in-Some.ensures.line) (inr ((call, says), h)));
    }

-- where no line is left, none says anything more
pub returns-clause-calls : goal.returns-clause-calls
returns-clause-calls c =
    subst (λ (calls : List ScriptCall). Say SaysScriptCall (lines_in c.args.text.now) calls) (append-nil c.loop-line.calls.items)
    (c.loop-line.invariant.said [] (subst (λ lines. Say SaysScriptCall lines []) (sym c.in_default.ensures.none) tt))
