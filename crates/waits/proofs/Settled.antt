-- The jobs of a session after a call was answered.
use Rattle.std.proofs.Common.{◌≡◌, ◌∙◌, ℕ, zero, suc, ◌+◌, ◌<◌, ◌≤◌, Bool, true, false, Option, Some, None, List, [], ◌∷◌, ◌++◌, length, take, drop, map, get_or, ap, sym, refl, subst, arith, append_assoc}
use Rattle.std.specs.List.{position}
use Rattle.std.proofs.lemmas.List.{append-nil, map-append, take-append-drop}
use Rattle.std.proofs.lemmas.List.Quantifiers.{position-Some}
use Rattle.waits.specs.declared.stamped.Stamped.{Stamped}
use Rattle.waits.specs.declared.owner.Owner.TheInside.{Inside}
use Rattle.waits.specs.declared.totals.Totals.{Totals}
use Rattle.waits.specs.Jobs.{one_if, waits_for}
use Rattle.waits.specs.Stamps.{tally, after, bytes_of}
use Rattle.waits.specs.Totals.{AreTotals}
use Rattle.waits.specs.Owned.{IsOwned}
use Rattle.waits.specs.Parts.{Part}
use Rattle.waits.proofs.Sums.{weigh_append}
use Rattle.waits.proofs.Parts.{map_rest}
use Rattle.waits.proofs.Owning.{owned_told}
use Rattle.waits.proofs.Rising.{element}
use Rattle.waits.proofs.ToldJobs.{front_back}

-- a session none of whose jobs waits for a call stays as it is
pub idle_part : (key session number : ℕ) (ok : Bool) (part : Part) → tally (λ x. waits_for key session number x.one) part.jobs ≡ 0 → part ≡ record part { jobs = map (after key session number ok) part.jobs }
idle_part key session number ok part none = ap (λ (xs : List Stamped). record part { jobs = xs }) (sym (map_rest key session number ok part.jobs none))

-- none in front of the first one passes
upto : {X : Type 0} (test : X → Bool) (xs : List X) (i : ℕ) (d : X) → i < length xs → ((k : ℕ) → k < i → test (get_or xs k d) ≡ false) → tally test (take i xs) ≡ 0
upto test [] i d within fails = absurd (omega arith)
upto test (x ∷ xs) zero d within fails = refl
upto test (x ∷ xs) (suc i) d within fails =
    let first : test x ≡ false = fails zero (omega arith) in
    let nought : one_if (test x) ≡ 0 = rw first refl in
    let rest = upto test xs i d (omega arith) (λ k less. fails (suc k) (omega arith)) in
    omega arith

-- the first one that passes
pub record IsFirstIn {X : Type 0} (test : X → Bool) (xs : List X) (at : ℕ) : Type 0 where
  pub before : tally test (take at xs) ≡ 0
  pub here : tally test (take 1 (drop at xs)) ≡ 1

pub first_in_front : {X : Type 0} (test : X → Bool) (xs : List X) (at : ℕ) → Some at ≡ position test xs → IsFirstIn test xs at
first_in_front test [] at is = let clash : ◌≡◌ {A = Option ℕ} (Some at) None = is in cc
first_in_front {X} test (x ∷ xs) at is =
    let there = position-Some test (x ∷ xs) at x (sym is) in
    let one = element (x ∷ xs) at there.0 in
    let passes : test one.0 ≡ true = subst (λ (y : X). test y ≡ true) (one.1.there x) there.1 in
    let counts : one_if (test one.0) ≡ 1 = rw passes refl in
    record {
      before = upto test (x ∷ xs) at x there.0 there.2;
      here = ap (tally test) one.1.alone ∙ omega (arith, counts);
    }

-- those in front are told nothing
told_parts : (key session number : ℕ) (ok : Bool) (xs : List Stamped) (at : ℕ) → tally (λ x. waits_for key session number x.one) (take at xs) ≡ 0 → map (after key session number ok) xs ≡ take at xs ++ (map (after key session number ok) (take 1 (drop at xs)) ++ map (after key session number ok) (drop 1 (drop at xs)))
told_parts key session number ok xs at none =
    let f = after key session number ok in
    ap (map f) (sym (take-append-drop at xs))
    ∙ (map-append f (take at xs) (drop at xs)
    ∙ (ap (λ (ys : List Stamped). ys ++ map f (drop at xs)) (map_rest key session number ok (take at xs) none)
    ∙ ap (λ (ys : List Stamped). take at xs ++ ys) (ap (map f) (front_back (drop at xs)) ∙ map-append f (take 1 (drop at xs)) (drop 1 (drop at xs)))))

-- all from there on are told
pub told_rest : (key session number : ℕ) (ok : Bool) (xs : List Stamped) (at : ℕ) (told left : List Stamped) → IsFirstIn (λ (x : Stamped). waits_for key session number x.one) xs at → told ≡ (take at xs ++ map (after key session number ok) (take 1 (drop at xs))) ++ map (after key session number ok) (drop 1 (drop at xs)) → left ≡ [] → told ++ left ≡ map (after key session number ok) xs
told_rest key session number ok xs at told left first is none =
    let f = after key session number ok in
    ap (λ (ys : List Stamped). told ++ ys) none
    ∙ (append-nil told
    ∙ (is
    ∙ (append_assoc (take at xs) (map f (take 1 (drop at xs))) (map f (drop 1 (drop at xs)))
    ∙ sym (told_parts key session number ok xs at first.before))))

-- or that one alone, where no other waits
pub told_alone : (key session number : ℕ) (ok : Bool) (xs : List Stamped) (at : ℕ) (told left : List Stamped) → IsFirstIn (λ (x : Stamped). waits_for key session number x.one) xs at → tally (λ x. waits_for key session number x.one) xs ≤ 1 → told ≡ take at xs ++ map (after key session number ok) (take 1 (drop at xs)) → left ≡ drop 1 (drop at xs) → told ++ left ≡ map (after key session number ok) xs
told_alone key session number ok xs at told left first few is rest =
    let f = after key session number ok in
    let count = tally {X = Stamped} (λ x. waits_for key session number x.one) in
    let parts : count xs ≡ count (take at xs) + (count (take 1 (drop at xs)) + count (drop 1 (drop at xs))) =
    ap count (sym (take-append-drop at xs))
    ∙ (weigh_append (λ x. one_if (waits_for key session number x.one)) (take at xs) (drop at xs)
    ∙ ap (λ (n : ℕ). count (take at xs) + n) (ap count (front_back (drop at xs)) ∙ weigh_append (λ x. one_if (waits_for key session number x.one)) (take 1 (drop at xs)) (drop 1 (drop at xs)))) in
    let none : count (drop 1 (drop at xs)) ≡ 0 = omega (arith, parts, few, first.here) in
    ap (λ (ys : List Stamped). ys ++ left) is
    ∙ (append_assoc (take at xs) (map f (take 1 (drop at xs))) left
    ∙ (ap (λ (ys : List Stamped). take at xs ++ (map f (take 1 (drop at xs)) ++ ys)) (rest ∙ sym (map_rest key session number ok (drop 1 (drop at xs)) none))
    ∙ sym (told_parts key session number ok xs at first.before)))

-- ---- a session's jobs are told, in two lists that are joined then

pub record IsSettled (key session number : ℕ) (ok : Bool) (owner inside : Inside) (rest : List Stamped) : Type 0 where
  pub jobs : inside.jobs ++ rest ≡ map (after key session number ok) owner.jobs
  pub totals : AreTotals (inside.jobs ++ rest) inside.totals
  pub bytes : inside.bytes ≡ bytes_of (inside.jobs ++ rest)
  pub others : record inside { jobs = owner.jobs; totals = owner.totals; bytes = owner.bytes } ≡ owner

-- all that are left were told
pub settled_rest : (key session number : ℕ) (ok : Bool) (owner : Inside) (at : ℕ) (told left : List Stamped) (totals : Totals) (bytes : ℕ) → IsFirstIn (λ (x : Stamped). waits_for key session number x.one) owner.jobs at → told ≡ (take at owner.jobs ++ map (after key session number ok) (take 1 (drop at owner.jobs))) ++ map (after key session number ok) (drop 1 (drop at owner.jobs)) → left ≡ [] → AreTotals told totals → bytes ≡ bytes_of told → IsSettled key session number ok owner (record owner { jobs = told; totals = totals; bytes = bytes }) left
settled_rest key session number ok owner at told left totals bytes first is none counted sum =
    let same : told ≡ told ++ left = sym (ap (λ (ys : List Stamped). told ++ ys) none ∙ append-nil told) in
    record {
      jobs = told_rest key session number ok owner.jobs at told left first is none;
      totals = subst (λ (ys : List Stamped). AreTotals ys totals) same counted;
      bytes = sum ∙ ap bytes_of same;
      others = refl;
    }

-- or one alone
pub settled_alone : (key session number : ℕ) (ok : Bool) (owner : Inside) (at : ℕ) (told left : List Stamped) (totals : Totals) (bytes : ℕ) → IsFirstIn (λ (x : Stamped). waits_for key session number x.one) owner.jobs at → tally (λ x. waits_for key session number x.one) owner.jobs ≤ 1 → told ≡ take at owner.jobs ++ map (after key session number ok) (take 1 (drop at owner.jobs)) → left ≡ drop 1 (drop at owner.jobs) → AreTotals (told ++ left) totals → bytes ≡ bytes_of (told ++ left) → IsSettled key session number ok owner (record owner { jobs = told; totals = totals; bytes = bytes }) left
settled_alone key session number ok owner at told left totals bytes first few is rest counted sum =
    record {
      jobs = told_alone key session number ok owner.jobs at told left first few is rest;
      totals = counted;
      bytes = sum;
      others = refl;
    }

pub settled_owned : (key session number : ℕ) (ok : Bool) (owner inside : Inside) (rest joined : List Stamped) → IsOwned owner → IsSettled key session number ok owner inside rest → joined ≡ inside.jobs ++ rest → owner.key ≡ key → owner.session ≡ session → IsOwned (record inside { jobs = joined })
settled_owned key session number ok owner inside rest joined owned settled is one two =
    let told = owned_told owner key session number ok joined inside.totals inside.bytes owned (is ∙ settled.jobs) (subst (λ (ys : List Stamped). AreTotals ys inside.totals) (sym is) settled.totals) (settled.bytes ∙ ap bytes_of (sym is)) one two in
    subst IsOwned (ap (λ (o : Inside). record o { jobs = joined; totals = inside.totals; bytes = inside.bytes }) (sym settled.others)) told
