-- Texts and what they spell: one list of calls, or one bad line.
use Rattle.std.proofs.Common.{◌≡◌, ◌∙◌, ℕ, List, [], ◌∷◌, Option, inl, inr, refl, sym}
use Rattle.sched_text.specs.Lines.{Line, words_of, Say, IsFirstBad}
use Rattle.sched_text.specs.Bodies.{SaysCall}
use Rattle.call_script.specs.declared.script.ScriptCall.{ScriptCall}
use Rattle.call_script.specs.Scripts.{SaysScriptCall}

-- words say one call
abbrev pub OneCall : Type 0
OneCall = (words : List (List ℕ)) (body other : List ℕ) (after next : Option ℕ) → SaysCall body after words → SaysCall other next words → (body ≡ other) × (after ≡ next)

same_call : (p q : ScriptCall) → p.body ≡ q.body → p.after ≡ q.after → p.line ≡ q.line → p ≡ q
same_call p q b a l i = record { body = b i; after = a i; line = l i }

pub one_list : OneCall → (lines : List Line) (calls others : List ScriptCall) → Say SaysScriptCall lines calls → Say SaysScriptCall lines others → calls ≡ others
one_list one [] [] [] h g = refl
one_list one [] [] (q ∷ others) h g = absurd g
one_list one [] (p ∷ calls) others h g = absurd h
one_list one (line ∷ lines) [] others h g = absurd h
one_list one (line ∷ lines) (p ∷ calls) [] h g = absurd g
one_list one (line ∷ lines) (p ∷ calls) (q ∷ others) h g =
    let same = one (words_of line.text) p.body q.body p.after q.after h.0.1 g.0.1 in
    let head : p ≡ q = same_call p q same.0 same.1 (h.0.0 ∙ sym g.0.0) in
    let tail = one_list one lines calls others h.1 g.1 in
    λ i. head i ∷ tail i

pub not_both : (lines : List Line) (calls : List ScriptCall) (bad : ℕ) → Say SaysScriptCall lines calls → IsFirstBad SaysScriptCall lines bad → ⊥
not_both [] calls bad h g = g
not_both (line ∷ lines) [] bad h g = absurd h
not_both (line ∷ lines) (p ∷ calls) bad h g = elim g [ inl first ↦ first.0 p h.0 | inr later ↦ not_both lines calls bad h.1 later.1 ]

pub one_bad : (lines : List Line) (a b : ℕ) → IsFirstBad SaysScriptCall lines a → IsFirstBad SaysScriptCall lines b → a ≡ b
one_bad [] a b h g = absurd h
one_bad (line ∷ lines) a b h g =
    elim h [
      | inl first ↦ elim g [ inl second ↦ first.1 ∙ sym second.1 | inr later ↦ absurd (first.0 later.0.0 later.0.1) ]
      | inr later ↦ elim g [ inl second ↦ absurd (second.0 later.0.0 later.0.1) | inr last ↦ one_bad lines a b later.1 last.1 ]
    ]
