-- Jobs by their stamps, in whichever order they stand: words of private contracts, which are no promise of this crate.
use Rattle.std.specs.Prelude.{◌≡◌, ℕ, ◌+◌, ◌≤◌, Bool, ◌==◌, ◌&&◌, nat_lt, nat_le, if◌then◌else◌, List, [], ◌∷◌, ◌++◌, length, map}
use Rattle.std.specs.List.{filter}
use Rattle.waits.specs.declared.stamped.Stamped.{Stamped}
use Rattle.waits.specs.Jobs.{Queue, is_of, load_of, one_if, after_answer}

-- the sum of this over a list
abbrev pub weigh : {X : Type 0} → (X → ℕ) → List X → ℕ
weigh measure [] = 0
weigh measure (x ∷ xs) = measure x + weigh measure xs

-- how many pass a test
abbrev pub tally : {X : Type 0} → (X → Bool) → List X → ℕ
tally test xs = weigh (λ x. one_if (test x)) xs

-- ---- order

abbrev pub put_in : Stamped → List Stamped → List Stamped
put_in x [] = x ∷ []
put_in x (y ∷ ys) = if nat_le x.stamp y.stamp then x ∷ y ∷ ys else y ∷ put_in x ys

-- the jobs in order of their stamps
abbrev pub in_order : List Stamped → List Stamped
in_order [] = []
in_order (x ∷ xs) = put_in x (in_order xs)

-- which is the order of acceptance
abbrev pub queue_of : List Stamped → Queue
queue_of xs = map (λ x. x.one) (in_order xs)

-- each has a stamp above those in front of it
abbrev pub IsRising : List Stamped → Type 0
IsRising [] = Unit {0}
IsRising (x ∷ xs) = (tally (λ y. nat_le y.stamp x.stamp) xs ≡ 0) × IsRising xs

-- how many pass a test and have a stamp below this one
abbrev pub count_before : (Stamped → Bool) → ℕ → List Stamped → ℕ
count_before test limit xs = tally (λ x. test x && nat_lt x.stamp limit) xs

-- no two jobs have one stamp, and all stamps are below the next one
pub record AreStamped (next : ℕ) (xs : List Stamped) : Type 0 where
  pub apart : (stamp : ℕ) → tally (λ x. x.stamp == stamp) xs ≤ 1
  pub below : tally (λ x. nat_le next x.stamp) xs ≡ 0
  pub few : length xs ≤ next

-- ---- a session's jobs

abbrev pub own : ℕ → ℕ → List Stamped → List Stamped
own key session xs = filter (λ x. is_of key session x.one) xs

-- a job, with its stamp, after the call of this number in this session was answered
abbrev pub after : ℕ → ℕ → ℕ → Bool → Stamped → Stamped
after key session number ok x = record x { one = after_answer key session number ok x.one }

-- the bytes of their loads
abbrev pub bytes_of : List Stamped → ℕ
bytes_of xs = weigh (λ x. load_of x.one.job) xs

-- ---- one job more or less

-- a job stands somewhere among others
pub record IsWith (x : Stamped) (others all : List Stamped) : Type 0 where
  pub front : List Stamped
  pub back : List Stamped
  pub less : others ≡ front ++ back
  pub more : all ≡ front ++ x ∷ back
