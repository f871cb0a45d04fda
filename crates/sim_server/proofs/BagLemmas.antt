-- Batches that stand one after the other, and the packet of a place in all of them.
use Rattle.std.proofs.Common.{◌≡◌, ◌≢◌, ◌∙◌, ℕ, zero, suc, ◌+◌, ◌-◌, ◌<◌, ◌≤◌, None, List, [], ◌∷◌, ◌++◌, length, get_or, ap, refl, sym, inl, inr, arith, length-append}
use Rattle.std.specs.List.{flat_map, slice_get}
use Rattle.std.specs.List.Sorted.{IsNonDecreasingBy}
use Rattle.std.proofs.lemmas.Option.{slice_get_past}
use Rattle.std.proofs.lemmas.Bool.{cases_lt}
use Rattle.sim_server.specs.declared.bag.Batch.{Batch}
use Rattle.std.proofs.lemmas.List.Concat.{flat_map-append}
use Rattle.sim_server.specs.Bags.{AreCounted, IsBag}
use Rattle.world_rules.specs.World.{counted}
use Rattle.sim_server.specs.Made.{packets_in}

-- one more batch
pub counted-more : (n : ℕ) (batches : List Batch) (batch : Batch) → AreCounted n batches → batch.before ≡ n + length (flat_map packets_in batches)
    → AreCounted n (batches ++ batch ∷ [])
counted-more n [] batch counted is = (omega (arith, is), tt)
counted-more n (first ∷ batches) batch counted is =
    let parts : length (packets_in first ++ flat_map packets_in batches) ≡ length (packets_in first) + length (flat_map packets_in batches) =
    length-append (packets_in first) (flat_map packets_in batches)
    in (
      counted.0,
      counted-more (n + length (packets_in first)) batches batch counted.1 (omega (arith, is, parts)),
    )

-- no batch begins before the first
pub at-least : (n i : ℕ) (batches : List Batch) (d : Batch) → AreCounted n batches → i < length batches → n ≤ (get_or batches i d).before
at-least n i [] d counted below = absurd (let no : i < 0 = below in omega (arith, no))
at-least n zero (first ∷ batches) d counted below = omega (arith, counted.0)
at-least n (suc i) (first ∷ batches) d counted below =
    let rest = at-least (n + length (packets_in first)) i batches d counted.1 (omega (arith, below)) in omega (arith, rest)

pub rises : (n : ℕ) (batches : List Batch) → AreCounted n batches → IsNonDecreasingBy (λ batch. batch.before) batches
rises n [] counted i j d le below = absurd (let no : j < 0 = below in omega (arith, no))
rises n (first ∷ batches) counted zero zero d le below = omega arith
rises n (first ∷ batches) counted zero (suc j) d le below =
    let rest = at-least (n + length (packets_in first)) j batches d counted.1 (omega (arith, below)) in omega (arith, rest, counted.0)
rises n (first ∷ batches) counted (suc i) zero d le below = absurd (omega (arith, le))
rises n (first ∷ batches) counted (suc i) (suc j) d le below =
    rises (n + length (packets_in first)) batches counted.1 i j d (omega (arith, le)) (omega (arith, below))

-- batches before the last that begins by a place begin by it too, and those behind the next one don't where that one doesn't
pub begun-all : (batches : List Batch) (begun place : ℕ) → AreCounted 0 batches → 0 < begun → begun ≤ length batches
    → ((d : Batch) → (get_or batches (begun - 1) d).before ≤ place) → (k : ℕ) (d : Batch) → k < begun → (get_or batches k d).before ≤ place
begun-all batches begun place counted some there last k d below =
    let up : (get_or batches k d).before ≤ (get_or batches (begun - 1) d).before = rises 0 batches counted k (begun - 1) d (omega (arith, below)) (omega (arith, some, there)) in
    omega (arith, up, last d)

pub later-all : (batches : List Batch) (begun place : ℕ) → AreCounted 0 batches
    → ((d : Batch) → begun < length batches → place < (get_or batches begun d).before) → (k : ℕ) (d : Batch) → begun ≤ k → k < length batches
    → place < (get_or batches k d).before
later-all batches begun place counted next k d least below =
    let up : (get_or batches begun d).before ≤ (get_or batches k d).before = rises 0 batches counted begun k d least below in
    omega (arith, up, next d (omega (arith, least, below)))

-- a place in one list behind another
get-front : {X : Type 0} (xs ys : List X) (k : ℕ) → k < length xs → slice_get (xs ++ ys) k ≡ slice_get xs k
get-front [] ys k below = absurd (let no : k < 0 = below in omega (arith, no))
get-front (x ∷ xs) ys zero below = refl
get-front (x ∷ xs) ys (suc k) below = get-front xs ys k (omega (arith, below))

get-behind : {X : Type 0} (xs ys : List X) (k j : ℕ) → j ≡ length xs + k → slice_get (xs ++ ys) j ≡ slice_get ys k
get-behind [] ys k j is = ap (slice_get ys) (let same : j ≡ 0 + k = is in omega (arith, same))
get-behind (x ∷ xs) ys k zero is = absurd (omega (arith, is))
get-behind (x ∷ xs) ys k (suc j) is = get-behind xs ys k j (omega (arith, is))

-- behind the first batch, where nothing follows that begins by then
behind-first : (n place k : ℕ) (first d : Batch) (batches : List Batch) → AreCounted n (first ∷ batches) → n + k ≡ place
    → (1 < length (first ∷ batches) → place < (get_or batches 0 d).before) → length (packets_in first) ≤ k
    → slice_get (packets_in first ++ flat_map packets_in batches) k ≡ slice_get (packets_in first) k
behind-first n place k first d [] counted at next past =
    let whole : length (packets_in first ++ []) ≡ length (packets_in first) + 0 = length-append (packets_in first) [] in
    slice_get_past (packets_in first ++ []) k (omega (arith, whole, past)) ∙ sym (slice_get_past (packets_in first) k past)
behind-first n place k first d (second ∷ batches) counted at next past =
    let below : place < second.before = next (omega arith) in
    absurd (omega (arith, below, counted.1.0, at, past))

-- The packet of a place: it is in the last batch that begins by then.
pub found : (n place i : ℕ) (batches : List Batch) (d : Batch) (j k : ℕ) → AreCounted n batches → i < length batches
    → (suc i < length batches → place < (get_or batches (suc i) d).before) → n + j ≡ place → (get_or batches i d).before + k ≡ place
    → slice_get (flat_map packets_in batches) j ≡ slice_get (packets_in (get_or batches i d)) k
found n place i [] d j k counted below next all here = absurd (let no : i < 0 = below in omega (arith, no))
found n place zero (first ∷ batches) d j k counted below next all here =
    let same : j ≡ k = omega (arith, all, here, counted.0) in
    elim (cases_lt k (length (packets_in first))) [
      | inl within ↦ ap (slice_get (packets_in first ++ flat_map packets_in batches)) same ∙ get-front (packets_in first) (flat_map packets_in batches) k within
      | inr past ↦
          ap (slice_get (packets_in first ++ flat_map packets_in batches)) same
          ∙ behind-first n place k first d batches counted (omega (arith, all, same)) next past
    ]
found n place (suc i) (first ∷ batches) d j k counted below next all here =
    let more = n + length (packets_in first) in
    let least : more ≤ (get_or batches i d).before = at-least more i batches d counted.1 (omega (arith, below)) in
    let left = j - length (packets_in first) in
    get-behind (packets_in first) (flat_map packets_in batches) left j (omega (arith, least, all, here))
    ∙ found more place i batches d left k counted.1 (omega (arith, below)) (λ lt. next (omega (arith, lt))) (omega (arith, least, all, here)) here

-- ---- a bag

pub one-more : (batches : List Batch) (batch : Batch) (len capacity count room more : ℕ) → IsBag batches len capacity count room → 0 < room
    → batch.before ≡ count → length (packets_in batch) ≡ more → IsBag (batches ++ batch ∷ []) (len + 1) capacity (count + more) 0
one-more batches batch len capacity count room more is there before size =
    let parts : length (flat_map packets_in batches ++ (packets_in batch ++ [])) ≡ length (flat_map packets_in batches) + length (packets_in batch ++ []) =
    length-append (flat_map packets_in batches) (packets_in batch ++ []) in
    let last : length (packets_in batch ++ []) ≡ length (packets_in batch) + 0 = length-append (packets_in batch) [] in
    let whole : length (flat_map packets_in (batches ++ batch ∷ [])) ≡ length (flat_map packets_in batches ++ (packets_in batch ++ [])) =
    ap length (flat_map-append packets_in batches (batch ∷ [])) in
    record {
      each = counted-more 0 batches batch is.each (omega (arith, before, is.all));
      all = omega (arith, whole, parts, last, size, is.all);
      places = omega (arith, is.places, there);
      few = λ no. absurd (omega (arith, no));
    }

-- no room any more
pub no-room : (batches : List Batch) (len capacity count room : ℕ) → IsBag batches len capacity count room → IsBag batches len capacity count 0
no-room batches len capacity count room is = record {
  each = is.each;
  all = is.all;
  places = omega (arith, is.places);
  few = λ no. absurd (omega (arith, no));
}

-- a number from 1 on
counted-behind : {X : Type 0} (number : ℕ) (xs : List X) → number ≢ 0 → counted number xs ≡ slice_get xs (number - 1)
counted-behind zero xs some = absurd (some refl)
counted-behind (suc place) xs some = ap (slice_get xs) (omega arith)

-- where no batch begins by a place, there is no packet
none-begun : (place : ℕ) (batches : List Batch) → AreCounted 0 batches
    → ((k : ℕ) (d : Batch) → 0 ≤ k → k < length batches → place < (get_or batches k d).before) → flat_map packets_in batches ≡ []
none-begun place [] counted later = refl
none-begun place (first ∷ batches) counted later =
    let below : place < first.before = later 0 first (omega arith) (omega arith) in
    absurd (omega (arith, below, counted.0))

pub no-packet : (number begun : ℕ) (batches : List Batch) → AreCounted 0 batches → number ≢ 0 → begun ≡ 0
    → ((k : ℕ) (d : Batch) → begun ≤ k → k < length batches → number - 1 < (get_or batches k d).before)
    → None ≡ counted number (flat_map packets_in batches)
no-packet number begun batches counted some none later =
    let nothing = none-begun (number - 1) batches counted (λ k d least below. later k d (omega (arith, none)) below) in
    sym (counted-behind number (flat_map packets_in batches) some ∙ ap (λ xs. slice_get xs (number - 1)) nothing)

pub packet-found : (number begun : ℕ) (batches : List Batch) (d : Batch) → AreCounted 0 batches → number ≢ 0 → begun ≢ 0 → begun ≤ length batches
    → ((k : ℕ) (d : Batch) → k < begun → (get_or batches k d).before ≤ number - 1)
    → ((k : ℕ) (d : Batch) → begun ≤ k → k < length batches → number - 1 < (get_or batches k d).before)
    → slice_get (packets_in (get_or batches (begun - 1) d)) (number - 1 - (get_or batches (begun - 1) d).before) ≡ counted number (flat_map packets_in batches)
packet-found number begun batches d counted some behind within begins later =
    let here : (get_or batches (begun - 1) d).before ≤ number - 1 = begins (begun - 1) d (omega (arith, behind)) in
    sym (counted-behind number (flat_map packets_in batches) some
    ∙ found 0 (number - 1) (begun - 1) batches d (number - 1) (number - 1 - (get_or batches (begun - 1) d).before) counted
    (omega (arith, behind, within)) (λ lt. later (suc (begun - 1)) d (omega (arith, behind)) lt) (omega arith) (omega (arith, here)))
