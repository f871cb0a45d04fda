-- Lines that stand behind a text, as far as they were gone through.
use Rattle.std.proofs.Common.{◌≡◌, ◌∙◌, ℕ, ◌+◌, List, [], ◌∷◌, ◌++◌, Some, length, min, take, drop, slice_get, add-one, ap, sym, subst, refl, arith, append_assoc, append-nil, ◌≤◌}
use Rattle.std.specs.List.{flat_map}
use Rattle.std.proofs.Math.Seq.{take-suc}
use Rattle.std.proofs.lemmas.List.{length-take, take-append-drop, take-append-le, take_all}
use Rattle.std.proofs.lemmas.Option.{get_or_from_slice_get, slice_get_within}
use Rattle.std.proofs.lemmas.Grind.{flat_map-append}

-- with one more
pub take_more : {X : Type 0} (xs : List X) (place : ℕ) (x : X) → slice_get xs place ≡ Some x → take (place + 1) xs ≡ take place xs ++ x ∷ []
take_more xs place x here =
    ap (λ n. take n xs) (add-one place)
    ∙ (take-suc xs place x (slice_get_within xs place x here) ∙ ap (λ one. take place xs ++ one ∷ []) (get_or_from_slice_get xs place x x here))

-- with the lines of one more, the lines so far are those of one more
pub lines_on : {X Y : Type 0} (lines : X → List Y) (old text : List Y) (xs : List X) (place : ℕ) (x : X) → slice_get xs place ≡ Some x
    → text ≡ old ++ flat_map lines (take place xs) → text ++ lines x ≡ old ++ flat_map lines (take (place + 1) xs)
lines_on lines old text xs place x here so_far =
    ap (λ front. front ++ lines x) so_far
    ∙ (append_assoc old (flat_map lines (take place xs)) (lines x)
    ∙ ap (λ more. old ++ more) (sym (ap (flat_map lines) (take_more xs place x here)
    ∙ (flat_map-append lines (take place xs) (x ∷ []) ∙ ap (λ last. flat_map lines (take place xs) ++ last) (append-nil (lines x))))))

-- in the end all were gone through
pub lines_end : {X Y : Type 0} (lines : X → List Y) (old text : List Y) (xs : List X) (place : ℕ) → length xs ≤ place
    → text ≡ old ++ flat_map lines (take place xs) → text ≡ old ++ flat_map lines xs
lines_end lines old text xs place all so_far = so_far ∙ ap (λ some. old ++ flat_map lines some) (take_all place xs all)

-- lines of lists, one list behind the other
pub flat_twice : {X Y Z : Type 0} (inner : X → List Y) (lines : Y → List Z) (xs : List X)
    → flat_map lines (flat_map inner xs) ≡ flat_map (λ x. flat_map lines (inner x)) xs
flat_twice inner lines [] = refl
flat_twice inner lines (x ∷ xs) =
    flat_map-append lines (inner x) (flat_map inner xs) ∙ ap (λ more. flat_map lines (inner x) ++ more) (flat_twice inner lines xs)

-- what stands in front stays there
front_stays : {X : Type 0} (front text more : List X) → take (length front) text ≡ front → take (length front) (text ++ more) ≡ front
front_stays front text more before =
    let count : min (length front) (length text) ≡ length front = sym (length-take (length front) text) ∙ ap length before in
    take-append-le (length front) text more (omega arith) ∙ before

pub fronts_stay : {X : Type 0} (front text whole : List X) → take (length front) text ≡ front → take (length text) whole ≡ text → take (length front) whole ≡ front
fronts_stay {X = X} front text whole before after =
    let rest = drop (length text) whole in
    let all : text ++ rest ≡ whole = ap (λ (start : List X). start ++ rest) (sym after) ∙ take-append-drop (length text) whole in
    subst (λ (some : List X). take (length front) some ≡ front) all (front_stays front text rest before)
