-- Jobs are told of an answer one after the other.
use Rattle.std.proofs.Common.{◌≡◌, ◌∙◌, ℕ, ◌≤◌, List, [], ◌∷◌, ◌++◌, take, drop, map, ap, sym, refl, arith, append_assoc}
use Rattle.std.proofs.lemmas.List.{map-append}
use Rattle.waits.specs.declared.stamped.Stamped.{Stamped}
use Rattle.waits.specs.declared.totals.Totals.{Totals}
use Rattle.waits.specs.Stamps.{bytes_of}
use Rattle.waits.specs.Totals.{AreTotals}

-- the job that was told is the first one, after the answer
pub told_one : (f : Stamped → Stamped) (left : List Stamped) (x y : Stamped) → take 1 left ≡ x ∷ [] → map f (take 1 left) ≡ y ∷ [] → y ≡ f x
told_one f left x y before behind =
    let both : y ∷ [] ≡ f x ∷ [] = sym behind ∙ ap (map f) before in
    cc

-- so many of those that were left are told
pub record IsTelling (f : Stamped → Stamped) (told_first left_first told left : List Stamped) (totals : Totals) (bytes most : ℕ) : Type 0 where
  pub done : List Stamped
  pub split : left_first ≡ done ++ left
  pub all_told : told ≡ told_first ++ map f done
  pub counted : AreTotals (told ++ left) totals
  pub sum : bytes ≡ bytes_of (told ++ left)
  pub less : bytes ≤ most

pub front_back : (xs : List Stamped) → xs ≡ take 1 xs ++ drop 1 xs
front_back [] = refl
front_back (x ∷ xs) = refl

pub telling_on : (f : Stamped → Stamped) (told_first left_first told left : List Stamped) (totals : Totals) (bytes most : ℕ) → IsTelling f told_first left_first told left totals bytes most → (new_told new_left : List Stamped) (new_totals : Totals) (new_bytes : ℕ) → new_left ≡ drop 1 left → new_told ≡ told ++ map f (take 1 left) → AreTotals (new_told ++ new_left) new_totals → new_bytes ≡ bytes_of (new_told ++ new_left) → new_bytes ≤ bytes → IsTelling f told_first left_first new_told new_left new_totals new_bytes most
telling_on f told_first left_first told left totals bytes most telling new_told new_left new_totals new_bytes rest next counted sum lighter =
    record {
      done = telling.done ++ take 1 left;
      split = telling.split ∙ (ap (λ (xs : List Stamped). telling.done ++ xs) (front_back left ∙ ap (λ (xs : List Stamped). take 1 left ++ xs) (sym rest)) ∙ sym (append_assoc telling.done (take 1 left) new_left));
      all_told = next ∙ (ap (λ (xs : List Stamped). xs ++ map f (take 1 left)) telling.all_told ∙ (append_assoc told_first (map f telling.done) (map f (take 1 left)) ∙ ap (λ (xs : List Stamped). told_first ++ xs) (sym (map-append f telling.done (take 1 left)))));
      counted = counted;
      sum = sum;
      less = omega (arith, lighter, telling.less);
    }

-- the one that was told is put behind those before
pub joined_with : (told rest : List Stamped) (y : Stamped) (node joined later : List Stamped) → joined ≡ told ++ node → node ≡ y ∷ [] → later ≡ rest → joined ++ later ≡ (told ++ y ∷ []) ++ rest
joined_with told rest y node joined later is one same =
    ap (λ (xs : List Stamped). xs ++ later) (is ∙ ap (λ (xs : List Stamped). told ++ xs) one) ∙ ap (λ (xs : List Stamped). (told ++ y ∷ []) ++ xs) same
