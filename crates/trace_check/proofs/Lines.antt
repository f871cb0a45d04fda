-- The numbers of lines rise.
use Rattle.std.proofs.Common.{◌≡◌, ◌∙◌, ℕ, zero, suc, ◌+◌, ◌≤◌, Bool, true, false, cond, List, [], ◌∷◌, length, Some, inl, inr, sym, subst, arith}
use Rattle.std.specs.List.{slice_get}
use Rattle.std.proofs.lemmas.List.{length-map}
use Rattle.std.proofs.lemmas.Bool.{cases_lt}
use Rattle.sched_text.specs.Lines.{Line, is_left_out, numbered, lines_in, lines_of, words_of}
use Rattle.trace_check.specs.Reading.{facts_of, said_by}
use Rattle.trace_check.specs.Facts.{numbers_of}
use Rattle.trace_check.specs.Books.{Rise}

abbrev Within : ℕ → List Line → Type 0
Within n lines = (p a : ℕ) → slice_get (numbers_of lines) p ≡ Some a → n ≤ a

within_with : (b : Bool) (n : ℕ) (line : List ℕ) (lines : List Line) → Within (n + 1) lines → Within n (cond b lines (record { number = n; text = line } ∷ lines))
within_with true n line lines h p a e = let t = h p a e in omega (arith, t)
within_with false n line lines h zero a e = let same : n ≡ a = cc in omega (arith, same)
within_with false n line lines h (suc p) a e = let t = h p a e in omega (arith, t)

within : (n : ℕ) (lines : List (List ℕ)) → Within n (numbered n lines)
within n [] p a e = absurd cc
within n (line ∷ lines) p a e = within_with (is_left_out line) n line (numbered (n + 1) lines) (within (n + 1) lines) p a e

rise_with : (c : Bool) (n : ℕ) (line : List ℕ) (lines : List Line) → Within (n + 1) lines → Rise (numbers_of lines) → Rise (numbers_of (cond c lines (record { number = n; text = line } ∷ lines)))
rise_with true n line lines w h p q a b d e less = h p q a b d e less
rise_with false n line lines w h zero zero a b d e less = absurd (omega arith)
rise_with false n line lines w h zero (suc q) a b d e less = let same : n ≡ a = cc in let t = w q b e in omega (arith, same, t)
rise_with false n line lines w h (suc p) zero a b d e less = absurd (omega arith)
rise_with false n line lines w h (suc p) (suc q) a b d e less = h p q a b d e (omega (arith, less))

rise : (n : ℕ) (lines : List (List ℕ)) → Rise (numbers_of (numbered n lines))
rise n [] p q a b d e less = absurd cc
rise n (line ∷ lines) p q a b d e less = rise_with (is_left_out line) n line (numbered (n + 1) lines) (within (n + 1) lines) (rise (n + 1) lines) p q a b d e less

pub lines_rise : (text : List ℕ) → Rise (numbers_of (lines_in text))
lines_rise text = rise 1 (lines_of text)

-- the line of the first place is the least
pub least_line : (numbers : List ℕ) → Rise numbers → (p q a b : ℕ) → slice_get numbers p ≡ Some a → slice_get numbers q ≡ Some b → p ≤ q → a ≤ b
least_line numbers rises p q a b d e h = elim (cases_lt p q) [
  | inl less ↦ let t = rises p q a b d e less in omega (arith, t)
  | inr more ↦
      let same : p ≡ q = omega (arith, h, more) in
      let g : slice_get numbers p ≡ Some b = subst (λ (n : ℕ). slice_get numbers n ≡ Some b) (sym same) e in
      let k : a ≡ b = cc in omega (arith, k)
]

-- as many numbers as facts
pub as_many : (lines : List Line) → length (numbers_of lines) ≡ length (facts_of lines)
as_many lines = length-map lines (λ line. line.number) ∙ sym (length-map lines (λ line. said_by (words_of line.text)))
