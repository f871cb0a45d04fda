-- What holds of all pairs of a list holds of those that are left of it, and with one more.
use Rattle.std.proofs.Common.{Bool, List, [], ◌∷◌, ◌++◌}
use Rattle.std.specs.List.{All, AllPairs, filter}
use Rattle.std.proofs.lemmas.Bool.{cond_both}
use Rattle.std.proofs.lemmas.List.Elements.{All-filter, All-head, All-nil, All-push, All-tail}
use Rattle.server_core.proofs.Lists.{pairs-cons, pairs-head, pairs-nil, pairs-tail}

pub pairs-filter : {X : Type 0} (R : X → X → Type 0) (p : X → Bool) (xs : List X) → AllPairs R xs → AllPairs R (filter p xs)
pairs-filter R p [] all = pairs-nil R
pairs-filter {X} R p (x ∷ xs) all =
    let rest = pairs-filter R p xs (pairs-tail R x xs all) in
    cond_both (p x) (x ∷ filter p xs) (filter p xs) (λ (ys : List X). AllPairs R ys)
    (λ is. pairs-cons R x (filter p xs) (All-filter p (R x) xs (pairs-head R x xs all)) rest) (λ is. rest)

pub pairs-push : {X : Type 0} (R : X → X → Type 0) (x : X) (xs : List X) → AllPairs R xs → All (λ other. R other x) xs → AllPairs R (xs ++ x ∷ [])
pairs-push R x [] all others = pairs-cons R x [] (All-nil (R x)) (pairs-nil R)
pairs-push {X} R x (y ∷ xs) all others =
    let P : X → Type 0 = λ other. R other x in
    pairs-cons R y (xs ++ x ∷ []) (All-push (R y) xs x (pairs-head R y xs all) (All-head P y xs others))
    (pairs-push R x xs (pairs-tail R y xs all) (All-tail P y xs others))
