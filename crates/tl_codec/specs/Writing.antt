-- What a writer puts at the end of a text.
use Rattle.std.specs.Prelude.{◌≡◌, List, ℕ, ◌++◌}
use Rattle.std.specs.Borrow.{MutBor}
use Rattle.tl_codec.specs.Spelling.{Form, Of, Fits, spelling}

-- contracts see a writer as the octets that it was made for, lent to it
abbrev pub Writer : Type 0
Writer = MutBor (List ℕ)

-- the text that a writer has written so far, what stood there before it included
abbrev pub text_of : Writer → List ℕ
text_of writer = writer.now

-- the writer writes into these octets
abbrev pub WritesInto : MutBor (List ℕ) → Writer → Type 0
WritesInto octets writer = writer.ghost_name ≡ octets.ghost_name

-- both write into the same octets
abbrev pub IsSameText : Writer → Writer → Type 0
IsSameText old new = new.ghost_name ≡ old.ghost_name

-- the new text is the old one and then the value, which has a spelling
abbrev pub Appends : (form : Form) → Of form → List ℕ → List ℕ → Type 0
Appends form value old new = Fits form value × (new ≡ old ++ spelling form value)
