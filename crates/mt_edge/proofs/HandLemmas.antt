-- Lemmas on what is handed over from the front of what is left.
use Rattle.std.proofs.Common.{◌≡◌, ◌+◌, ℕ, Bool, true, false, List, [], ◌∷◌, ◌++◌, length, take, drop, if◌then◌else◌, Option, None, Some, IfSome, IsSomeAnd, arith, refl}
use Rattle.std.proofs.lemmas.Grind.{common_steps}
use Rattle.std.proofs.lemmas.List.{take-append-drop, drop-drop}
use Rattle.mt_edge.specs.declared.source.Got.TheVariants.{Bytes}
use Rattle.mt_edge.specs.declared.link_read.LinkRead.{LinkRead}
use Rattle.mt_edge.specs.Links.{ReadsOver}
use Rattle.mt_edge.proofs.TakeLemmas.{take_more}

-- where nothing was read, what is left stays
pub none_handed : (left : Option (List ℕ)) → IfSome left (λ before. IsSomeAnd left (λ after. after ≡ before))
none_handed None = tt
none_handed (Some bytes) = refl

-- what came grows by what is copied
pub came_more : (xs copied : List ℕ) (place count : ℕ) → take count copied ≡ take count (drop place xs) → take (place + count) xs ≡ take place xs ++ take count copied
came_more xs copied place count e = rw e (take_more xs place count)

-- what is left begins with what is copied
pub left_less : (xs copied : List ℕ) (place count : ℕ) → take count copied ≡ take count (drop place xs) → drop place xs ≡ take count copied ++ drop (place + count) xs
left_less xs copied place count e = rw e (grind (arith, common_steps, take-append-drop count (drop place xs), drop-drop count place xs))

-- what a link tells before and after a read that hands over what is copied
pub next_told : (untold : Bool) (xs buffer written : List ℕ) (reads noted : List LinkRead) (place count : ℕ)
    → take count buffer ≡ take count (drop place xs) → noted ≡ reads ++ record { room = length buffer; answer = Bytes count } ∷ []
    → IfSome (if untold then None else Some (record { came = take (place + count) xs; left = drop (place + count) xs; written = written; reads = noted }))
    (λ after. IsSomeAnd (if untold then None else Some (record { came = take place xs; left = drop place xs; written = written; reads = reads }))
    (λ before. ReadsOver (Bytes count) buffer before after))
next_told true xs buffer written reads noted place count e n = tt
next_told false xs buffer written reads noted place count e n = record {
  came = came_more xs buffer place count e;
  left = left_less xs buffer place count e;
  end = tt;
  reads = n;
  written = refl;
}
