-- How lives go on over a course.
use Rattle.std.specs.Prelude.{◌≡◌, ◌≤◌, false, List, [], ◌∷◌, ◌++◌}
use Rattle.std.specs.List.{All}
use Rattle.id_window.specs.History.{History, is_kept, floor}
use Rattle.server_rules.specs.Event.{Entry, Sent}
use Rattle.law_server.specs.Lives.{Acceptance, Life}

-- A life at an earlier moment and at a later one.
pub record GoesOn (earlier later : Life) : Type 0 where
  -- it is the same session
  pub name : later.name ≡ earlier.name
  pub first : later.first ≡ earlier.first
  pub unique : later.unique ≡ earlier.unique
  -- what it judged, accepted, entered and sent is only added to
  pub history : (more : History) × (later.history ≡ earlier.history ++ more)
  pub accepted : (more : List Acceptance) × (later.accepted ≡ earlier.accepted ++ more)
  pub entries : (more : List Entry) × (later.entries ≡ earlier.entries ++ more)
  pub packets : (more : List Sent) × (later.packets ≡ earlier.packets ++ more)
  -- once it has ended it stays as it was
  pub ended : earlier.stands ≡ false → later ≡ earlier
  -- a number that was judged and isn't kept any more is at most the floor from then on
  pub dropped : All (λ judgement. is_kept judgement.number earlier.history ≡ false → judgement.number ≤ floor later.history) earlier.history

-- each life of the earlier list goes on in its place of the later one, behind which stand those that began since
abbrev pub GoOn : List Life → List Life → Type 0
GoOn [] later = Unit {0}
GoOn (life ∷ lives) [] = ⊥
GoOn (life ∷ lives) (later ∷ laters) = GoesOn life later × GoOn lives laters
