-- Reading the items of a vector one after the other, as a loop does.
use Rattle.std.proofs.Common.{◌≡◌, ℕ, suc, ◌+◌, ◌-◌, ◌<◌, ◌≤◌, List, [], ◌∷◌, ◌++◌, Result, Ok, Err, refl, sym, ap, ◌∙◌, append_assoc, arith}
use Rattle.std.proofs.lemmas.List.{append-nil}
use Rattle.tl_codec.specs.declared.fault.TlFault.{TlFault}
use Rattle.tl_codec.specs.declared.fault.TlFault.TheVariants.{Short, BadTag, TooMany, Extra, Memory}
use Rattle.tl_codec.specs.Reading.{◌>>=◌}
use Rattle.service_tl.specs.Fields.{items_at}
use Rattle.service_tl.specs.Parts.{Answers}

-- what was read before, and what is still read
abbrev pub with_front : {A : Type 0} → List A → Result (List A × List ℕ) TlFault → Result (List A × List ℕ) TlFault
with_front front read = read >>= λ x. Ok (front ++ x.0, x.1)

regroup : {A : Type 0} (front : List A) (x : A) (read : Result (List A × List ℕ) TlFault) → with_front front (read >>= λ others. Ok (x ∷ others.0, others.1)) ≡ with_front (front ++ x ∷ []) read
regroup {A = A} front x (Ok others) = ap (λ (items : List A). Ok (items, others.1)) (simp append_assoc)
regroup front x (Err fault) = refl

module _ {A : Type 0} (item_at : List ℕ → Result (A × List ℕ) TlFault) (front : List A) (count i : ℕ) (text : List ℕ) (total : Result (List A × List ℕ) TlFault) where
  pub goes_on : (x : A) (after : List ℕ) → i < count → item_at text ≡ Ok (x, after)
      → with_front front (items_at item_at (count - i) text) ≡ total → with_front (front ++ x ∷ []) (items_at item_at (count - (i + 1)) after) ≡ total
  unfolding items_at
  goes_on x after lt h so_far =
      let more : count - i ≡ suc (count - (i + 1)) = omega arith in
      let one : with_front front (items_at item_at (count - i) text) ≡ with_front (front ++ x ∷ []) (items_at item_at (count - (i + 1)) after) = rw (more, h) (regroup front x (items_at item_at (count - (i + 1)) after)) in
      sym one ∙ so_far

  fails : (fault : TlFault) → i < count → item_at text ≡ Err fault → with_front front (items_at item_at (count - i) text) ≡ total → total ≡ Err fault
  unfolding items_at
  fails fault lt h so_far =
      let more : count - i ≡ suc (count - (i + 1)) = omega arith in
      let one : with_front front (items_at item_at (count - i) text) ≡ Err fault = rw (more, h) refl in
      sym so_far ∙ one

  pub ends : (fault : TlFault) (left new : List ℕ) → i < count → Answers {X = A} (Err fault) left (item_at text)
      → with_front front (items_at item_at (count - i) text) ≡ total → Answers {X = List A} (Err fault) new total
  ends Memory left new lt h so_far = tt
  ends (Short need have) left new lt h so_far = fails (Short need have) lt h so_far
  ends (BadTag found) left new lt h so_far = fails (BadTag found) lt h so_far
  ends (TooMany many) left new lt h so_far = fails (TooMany many) lt h so_far
  ends (Extra bytes) left new lt h so_far = fails (Extra bytes) lt h so_far

  pub is_done : count ≤ i → with_front front (items_at item_at (count - i) text) ≡ total → total ≡ Ok (front, text)
  unfolding items_at
  is_done le so_far =
      let none : count - i ≡ 0 = omega arith in
      let one : with_front front (items_at item_at (count - i) text) ≡ Ok (front, text) = rw none (ap (λ (items : List A). Ok (items, text)) (append-nil front)) in
      sym so_far ∙ one
