-- How far an accepted message is, and the marks that were given to numbers.
use Rattle.std.specs.Prelude.{ℕ, Bool, true, false, ◌==◌, if◌then◌else◌, Option, Some, None, List, [], ◌∷◌, ◌++◌, fold}
use Rattle.id_window.specs.declared.mark.Mark.{Mark}
use Rattle.id_window.specs.declared.mark.Mark.TheVariants.{Noticed}

-- a mark is that of an accepted message, or the notice that the message got
abbrev pub is_accepted : Mark → Bool
is_accepted (Noticed code) = false
is_accepted _ = true

-- the marks that numbers were given, in order: each a number with its mark
abbrev pub Marks : Type 0
Marks = List (ℕ × Mark)

-- the mark that a number was given last, where it was given one
abbrev pub mark_of : ℕ → Marks → Option Mark
mark_of number marks = fold (λ last given. if given.0 == number then Some given.1 else last) None marks

-- a further mark is given
abbrev pub given : ℕ → Mark → Marks → Marks
given number mark marks = marks ++ (number, mark) ∷ []
