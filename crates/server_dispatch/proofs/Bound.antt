-- What is looked for among bindings, and what is kept of them, as the rules have them.
use Rattle.std.proofs.Common.{◌≡◌, ◌∙◌, ℕ, Bool, List, [], ◌∷◌, ◌++◌, ap, refl, inl, inr}
use Rattle.std.specs.Prelude.{map, not, ◌==◌, ◌&&◌, ◌||◌, nat_lt}
use Rattle.std.specs.List.{filter, list_any}
use Rattle.std.proofs.lemmas.Bool.{cases_Bool}
use Rattle.std.proofs.lemmas.List.{map-append}
use Rattle.temp_keys.specs.declared.binding.Bound.{Bound}
use Rattle.server_rules.specs.Server.{Binding}
use Rattle.server_rules.specs.Calls.{is_bound, with_binding}
use Rattle.server_dispatch.specs.Bindings.{binding_told}

pub bound-told : (now key : ℕ) (bindings : List Bound)
    → list_any (λ bound. (bound.temp == key) && nat_lt now bound.expires) bindings
    ≡ list_any (λ (binding : Binding). (binding.temp == key) && nat_lt now binding.expires) (map binding_told bindings)
bound-told now key [] = refl
bound-told now key (one ∷ bindings) = ap (λ (rest : Bool). ((one.temp == key) && nat_lt now one.expires) || rest) (bound-told now key bindings)

pub found-told : (found : Bool) (now seconds key : ℕ) (looked items : List Bound) → seconds ≡ now → looked ≡ items
    → found ≡ list_any (λ bound. (bound.temp == key) && nat_lt seconds bound.expires) looked
    → found ≡ is_bound now key (map binding_told items)
found-told found now seconds key looked items at same is =
    is ∙ (ap (λ (second : ℕ). list_any (λ (bound : Bound). (bound.temp == key) && nat_lt second bound.expires) looked) at
    ∙ (ap (list_any (λ (bound : Bound). (bound.temp == key) && nat_lt now bound.expires)) same
    ∙ bound-told now key items))

pub others-told : (temp : ℕ) (bindings : List Bound)
    → map binding_told (filter (λ other. not (other.temp == temp)) bindings)
    ≡ filter (λ (other : Binding). not (other.temp == temp)) (map binding_told bindings)
others-told temp [] = refl
others-told temp (one ∷ bindings) =
    elim (cases_Bool (not (one.temp == temp))) [
      | inl kept ↦ rw kept (ap (λ (others : List Binding). binding_told one ∷ others) (others-told temp bindings))
      | inr gone ↦ rw gone (others-told temp bindings)
    ]

pub put-told : (bound : Bound) (bindings kept put : List Bound)
    → kept ≡ filter (λ other. not (other.temp == bound.temp)) bindings → put ≡ kept ++ bound ∷ []
    → map binding_told put ≡ with_binding (binding_told bound) (map binding_told bindings)
put-told bound bindings kept put is_kept is_put =
    ap (map binding_told) (is_put ∙ ap (λ (others : List Bound). others ++ bound ∷ []) is_kept)
    ∙ (map-append binding_told (filter (λ other. not (other.temp == bound.temp)) bindings) (bound ∷ [])
    ∙ ap (λ (others : List Binding). others ++ binding_told bound ∷ []) (others-told bound.temp bindings))
