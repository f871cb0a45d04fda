-- What leaves a client's salt, the unique numbers that it learnt and the packets that it remembers.
use Rattle.std.proofs.Common.{◌≡◌, ◌∙◌, Bool, true, false, List, [], ◌∷◌, fold, if◌then◌else◌, refl}
use Rattle.client_rules.specs.Client.{Client}

pub record Keeps (one other : Client) : Type 0 where
  pub learnt : other.learnt ≡ one.learnt
  pub salt : other.salt ≡ one.salt
  pub packets : other.table.packets ≡ one.table.packets

pub stays : (one : Client) → Keeps one one
stays one = record { learnt = refl; salt = refl; packets = refl }

pub both : (one two three : Client) → Keeps one two → Keeps two three → Keeps one three
both one two three h k = record { learnt = k.learnt ∙ h.learnt; salt = k.salt ∙ h.salt; packets = k.packets ∙ h.packets }

pub if-so : {X : Type 0} (P : X → Type 0) (b : Bool) (one other : X) → P one → P other → P (if b then one else other)
if-so P true one other h k = h
if-so P false one other h k = k

pub fold-keeps : {X : Type 0} (change : Client → X → Client) → ((client : Client) (x : X) → Keeps client (change client x)) → (client : Client) (xs : List X)
    → Keeps client (fold change client xs)
fold-keeps change so client [] = stays client
fold-keeps change so client (x ∷ xs) = both client (change client x) (fold change (change client x) xs) (so client x) (fold-keeps change so (change client x) xs)
