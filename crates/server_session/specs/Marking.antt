-- Scaffolding, and no promise: marks of which that of one number becomes another.
use Rattle.std.specs.Prelude.{ℕ, ◌==◌, Bool, if◌then◌else◌, map}
use Rattle.id_window.specs.declared.mark.Mark.{Mark}
use Rattle.id_window.specs.declared.mark.Mark.TheVariants.{Service, Waiting, Replied, Dropped}
use Rattle.id_window.specs.Marks.{Marks}

-- each mark that was given to this number is turned so
abbrev pub turned : ℕ → (Mark → Mark) → Marks → Marks
turned number turn marks = map (λ given. (given.0, if given.0 == number then turn given.1 else given.1)) marks

-- the reply was dropped, where it is kept
abbrev pub dropped_mark : Mark → Mark
dropped_mark (Replied good) = Dropped good
dropped_mark mark = mark

-- a reply is kept now, where there was none
abbrev pub replied_mark : Bool → Mark → Mark
replied_mark good Service = Replied good
replied_mark good Waiting = Replied good
replied_mark good mark = mark
