-- Parts of a text are texts.
use Rattle.std.proofs.Common.{◌≡◌, ℕ, suc, ◌+◌, List, [], ◌∷◌, ◌++◌, length, drop, refl, ap, subst, ◌∙◌}
use Rattle.std.proofs.lemmas.List.{drop_at, get_or-drop}
use Rattle.octets.specs.Bytes.{IsBytes}

pub IsBytes-tail : (x : ℕ) (xs : List ℕ) → IsBytes (x ∷ xs) → IsBytes xs
IsBytes-tail x xs fits i = fits (suc i)

pub IsBytes-drop : (n : ℕ) (bytes : List ℕ) → IsBytes bytes → IsBytes (drop n bytes)
IsBytes-drop n bytes fits i = rw get_or-drop (fits (n + i))

-- what follows a front
pub IsBytes-after : (text front rest : List ℕ) → text ≡ front ++ rest → IsBytes text → IsBytes rest
IsBytes-after text front rest e fits =
    subst IsBytes (ap (drop (length front)) e ∙ drop_at front rest (length front) refl) (IsBytes-drop (length front) text fits)
