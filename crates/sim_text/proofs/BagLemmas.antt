-- All packets, one behind the other, as far as they were gone through.
use Rattle.std.proofs.Common.{◌≡◌, ◌∙◌, ℕ, ◌+◌, List, [], ◌∷◌, ◌++◌, Some, length, min, take, drop, slice_get, add-one, ap, sym, subst, arith, append-nil, length-append}
use Rattle.std.proofs.Math.Seq.{take-suc}
use Rattle.std.proofs.lemmas.List.{length-take, take-append-drop, take-append-le}
use Rattle.std.proofs.lemmas.Option.{get_or_from_slice_get, slice_get_within}
use Rattle.std.proofs.lemmas.Grind.{flat_map-append}
use Rattle.sim_text.specs.Bag.{joined}

pub take_more : {X : Type 0} (xs : List X) (place : ℕ) (x : X) → slice_get xs place ≡ Some x → take (place + 1) xs ≡ take place xs ++ x ∷ []
take_more xs place x here =
    ap (λ n. take n xs) (add-one place)
    ∙ (take-suc xs place x (slice_get_within xs place x here) ∙ ap (λ one. take place xs ++ one ∷ []) (get_or_from_slice_get xs place x x here))

-- with one more packet
pub joined_more : (packets : List (List ℕ)) (place : ℕ) (packet : List ℕ) → slice_get packets place ≡ Some packet → joined (take (place + 1) packets) ≡ joined (take place packets) ++ packet
joined_more packets place packet here =
    ap joined (take_more packets place packet here)
    ∙ (flat_map-append (λ one. one) (take place packets) (packet ∷ []) ∙ ap (λ last. joined (take place packets) ++ last) (append-nil packet))

pub bytes_more : (packets : List (List ℕ)) (place bytes : ℕ) (packet : List ℕ) → slice_get packets place ≡ Some packet
    → bytes ≡ length (joined (take place packets)) → bytes + length packet ≡ length (joined (take (place + 1) packets))
bytes_more packets place bytes packet here so_far =
    ap (λ n. n + length packet) so_far
    ∙ sym (ap length (joined_more packets place packet here) ∙ length-append (joined (take place packets)) packet)

-- what stands in front stays there
pub front_stays : {X : Type 0} (front text more : List X) → take (length front) text ≡ front → take (length front) (text ++ more) ≡ front
front_stays front text more before =
    let count : min (length front) (length text) ≡ length front = sym (length-take (length front) text) ∙ ap length before in
    take-append-le (length front) text more (omega arith) ∙ before

pub fronts_stay : {X : Type 0} (front text whole : List X) → take (length front) text ≡ front → take (length text) whole ≡ text → take (length front) whole ≡ front
fronts_stay {X = X} front text whole before after =
    let rest = drop (length text) whole in
    let all : text ++ rest ≡ whole = ap (λ (start : List X). start ++ rest) (sym after) ∙ take-append-drop (length text) whole in
    subst (λ (some : List X). take (length front) some ≡ front) all (front_stays front text rest before)
