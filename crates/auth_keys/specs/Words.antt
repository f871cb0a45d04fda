-- Scaffolding, and no promise: a text cut at its first blank.
use Rattle.std.specs.Prelude.{◌≡◌, ℕ, true, List, ◌∷◌, ◌++◌}
use Rattle.auth_keys.specs.KeyFile.{HasNoBlank, is_blank}

-- the text is a front with no blank, a blank, and a rest
pub record IsCut (text front rest : List ℕ) : Type 0 where
  pub no_blank : HasNoBlank front
  pub blank : ℕ
  pub is : is_blank blank ≡ true
  pub whole : text ≡ front ++ blank ∷ rest
