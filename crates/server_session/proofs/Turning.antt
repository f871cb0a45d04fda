-- Marks of which that of one number becomes another.
use Rattle.std.proofs.Common.{◌≡◌, ◌∙◌, ℕ, eqb, cond, Bool, true, false, Option, Some, None, [], ◌∷◌, ◌++◌, fold, ap, sym, refl, inl, inr}
use Rattle.std.specs.Prelude.{option_map}
use Rattle.std.proofs.lemmas.Bool.{cases_Bool, cond-true, cond-false, eqb-true, eq-eqb, false≢true}
use Rattle.std.proofs.lemmas.Option.{none-some}
use Rattle.id_window.specs.declared.mark.Mark.{Mark}
use Rattle.id_window.specs.Marks.{Marks, mark_of, given}
use Rattle.id_window.specs.History.{History, found, is_kept}
use Rattle.id_window.specs.Window.{Contents, Stands as WindowStands}
use Rattle.inbox.specs.Inbox.{Kept, Stands}
use Rattle.server_session.specs.Marking.{turned}

-- the mark found from one on
abbrev pub from_mark : ℕ → Option Mark → Marks → Option Mark
from_mark number last marks = fold (λ so_far given. cond (eqb given.0 number) (Some given.1) so_far) last marks

-- what one mark is found then
found-own : (test : Bool) (turn : Mark → Mark) (mark : Mark) (last : Option Mark)
    → cond test (Some (cond test (turn mark) mark)) (option_map turn last) ≡ option_map turn (cond test (Some mark) last)
found-own true turn mark last = refl
found-own false turn mark last = refl

from-own : (number : ℕ) (turn : Mark → Mark) (last : Option Mark) (marks : Marks)
    → from_mark number (option_map turn last) (turned number turn marks) ≡ option_map turn (from_mark number last marks)
from-own number turn last [] = refl
from-own number turn last (one ∷ marks) =
    ap (λ (so_far : Option Mark). from_mark number so_far (turned number turn marks)) (found-own (eqb one.0 number) turn one.1 last)
    ∙ from-own number turn (cond (eqb one.0 number) (Some one.1) last) marks

apart : (one number call : ℕ) → eqb number call ≡ false → eqb one call ≡ true → eqb one number ≡ false
apart one number call other is =
    elim (cases_Bool (eqb one number)) [
      | inl same ↦ absurd (false≢true (sym other ∙ eq-eqb number call (sym (eqb-true one number same) ∙ eqb-true one call is)))
      | inr not_same ↦ not_same
    ]

found-others : (here there : Bool) (turn : Mark → Mark) (mark : Mark) (last : Option Mark) → (here ≡ true → there ≡ false)
    → cond there (Some (cond here (turn mark) mark)) last ≡ cond there (Some mark) last
found-others true there turn mark last apart = rw (apart refl) refl
found-others false there turn mark last apart = refl

from-others : (number call : ℕ) (turn : Mark → Mark) (last : Option Mark) (marks : Marks) → eqb number call ≡ false
    → from_mark number last (turned call turn marks) ≡ from_mark number last marks
from-others number call turn last [] other = refl
from-others number call turn last (one ∷ marks) other =
    ap (λ (so_far : Option Mark). from_mark number so_far (turned call turn marks))
    (found-others (eqb one.0 call) (eqb one.0 number) turn one.1 last (apart one.0 number call other))
    ∙ from-others number call turn (cond (eqb one.0 number) (Some one.1) last) marks other

from-given : (number call : ℕ) (mark : Mark) (last : Option Mark) (marks : Marks)
    → from_mark number last (marks ++ (call, mark) ∷ []) ≡ cond (eqb call number) (Some mark) (from_mark number last marks)
from-given number call mark last [] = refl
from-given number call mark last (one ∷ marks) = from-given number call mark (cond (eqb one.0 number) (Some one.1) last) marks

-- a mark that is given is that of its number
pub given-own : (number : ℕ) (mark : Mark) (marks : Marks) → mark_of number (given number mark marks) ≡ Some mark
given-own number mark marks = from-given number number mark None marks ∙ rw (eq-eqb number number refl) refl

pub given-others : (number call : ℕ) (mark : Mark) (marks : Marks) → eqb call number ≡ false → mark_of number (given call mark marks) ≡ mark_of number marks
given-others number call mark marks other = from-given number call mark None marks ∙ rw other refl

pub turned-own : (number : ℕ) (turn : Mark → Mark) (marks : Marks) → mark_of number (turned number turn marks) ≡ option_map turn (mark_of number marks)
turned-own number turn marks = from-own number turn None marks

pub turned-others : (number call : ℕ) (turn : Mark → Mark) (marks : Marks) → eqb number call ≡ false → mark_of number (turned call turn marks) ≡ mark_of number marks
turned-others number call turn marks other = from-others number call turn None marks other

-- ---- an inbox that stands for a history and marks, after that of one number was turned

flip : (a b : ℕ) → eqb a b ≡ false → eqb b a ≡ false
flip a b other =
    elim (cases_Bool (eqb b a)) [
      | inl is ↦ absurd (false≢true (sym other ∙ eq-eqb a b (sym (eqb-true b a is))))
      | inr not_is ↦ not_is
    ]

-- a mark that was found is that of its number
pub found-is : (number : ℕ) (history : History) (marks : Marks) (mark : Mark) → found number history marks ≡ Some mark → mark_of number marks ≡ Some mark
found-is number history marks mark is =
    elim (cases_Bool (is_kept number history)) [
      | inl kept ↦ sym (cond-true (is_kept number history) (mark_of number marks) None kept) ∙ is
      | inr lost ↦ absurd (none-some mark (sym (cond-false (is_kept number history) (mark_of number marks) None lost) ∙ is))
    ]

pub found-kept : (number : ℕ) (history : History) (marks : Marks) → is_kept number history ≡ true → found number history marks ≡ mark_of number marks
found-kept number history marks kept = cond-true (is_kept number history) (mark_of number marks) None kept

-- that the law on other marks says of windows
abbrev pub OthersCountNothing : Type 0
OthersCountNothing =
    (window : Contents) (history : History) (marks others : Marks) → WindowStands window history marks
    → ((number : ℕ) → is_kept number history ≡ true → mark_of number others ≡ mark_of number marks) → WindowStands window history others

module _ (law : OthersCountNothing) (inbox : Kept) (history : History) (marks : Marks) (call : ℕ) (turn : Mark → Mark) where
  -- its mark was found, and another one given
  agree-set : (before after : Mark) → mark_of call marks ≡ Some before → turn before ≡ after → (number : ℕ)
      → mark_of number (turned call turn marks) ≡ mark_of number (given call after marks)
  agree-set before after was is number =
      elim (cases_Bool (eqb call number)) [
        | inl same ↦
            let own : mark_of call (turned call turn marks) ≡ mark_of call (given call after marks) =
            turned-own call turn marks ∙ (ap (option_map turn) was ∙ (ap (λ (mark : Mark). Some mark) is ∙ sym (given-own call after marks))) in
            rw (← eqb-true call number same) own
        | inr other ↦ turned-others number call turn marks (flip call number other) ∙ sym (given-others number call after marks other)
      ]

  pub stands-set : (before after : Mark) → found call history marks ≡ Some before → turn before ≡ after
      → Stands inbox history (given call after marks) → Stands inbox history (turned call turn marks)
  stands-set before after was is stands = record {
    window = law inbox.window history (given call after marks) (turned call turn marks) stands.window
        (λ number kept. agree-set before after (found-is call history marks before was) is number);
    heard = stands.heard;
  }

  -- nothing was found, or a mark that stays
  option-stays : (mark : Option Mark) → ((one : Mark) → mark ≡ Some one → turn one ≡ one) → option_map turn mark ≡ mark
  option-stays None stays = refl
  option-stays (Some one) stays = ap (λ (mark : Mark). Some mark) (stays one refl)

  agree-stays : ((mark : Mark) → found call history marks ≡ Some mark → turn mark ≡ mark) → (number : ℕ) → is_kept number history ≡ true
      → mark_of number (turned call turn marks) ≡ mark_of number marks
  agree-stays stays number kept =
      elim (cases_Bool (eqb call number)) [
        | inl same ↦
            let call_kept : is_kept call history ≡ true = rw (eqb-true call number same) kept in
            let own : mark_of call (turned call turn marks) ≡ mark_of call marks =
            turned-own call turn marks ∙ option-stays (mark_of call marks) (λ one is. stays one (found-kept call history marks call_kept ∙ is)) in
            rw (← eqb-true call number same) own
        | inr other ↦ turned-others number call turn marks (flip call number other)
      ]

  pub stands-stays : ((mark : Mark) → found call history marks ≡ Some mark → turn mark ≡ mark) → Stands inbox history marks
      → Stands inbox history (turned call turn marks)
  stands-stays stays stands = record {
    window = law inbox.window history marks (turned call turn marks) stands.window (agree-stays stays);
    heard = stands.heard;
  }
