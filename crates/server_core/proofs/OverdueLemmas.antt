-- Sessions of different names have together no more overdue jobs than there are.
use Rattle.std.proofs.Common.{◌≡◌, ◌∙◌, ℕ, ◌<◌, ◌≤◌, ◌+◌, Bool, true, List, [], ◌∷◌, length, get_or, take, ap, sym, refl, arith, inl, inr}
use Rattle.std.specs.Prelude.{◌&&◌, sum_by}
use Rattle.std.specs.List.{All}
use Rattle.std.proofs.lemmas.Bool.{cases_Bool}
use Rattle.std.proofs.lemmas.List.Elements.{All-head, All-tail}
use Rattle.std.proofs.lemmas.List.Sums.{sum_by-cons, sum_by_more, sum_by_more_le}
use Rattle.waits.specs.declared.job.Unfinished.{Unfinished}
use Rattle.waits.specs.Jobs.{Queue, is_of, is_overdue, one_if, overdue_count, overdue_count_of}
use Rattle.server_session.specs.declared.session.SessionState.{SessionState}
use Rattle.server_session.specs.SessionState.{key_of, number_of}
use Rattle.server_session.specs.Names.{name_kept}
use Rattle.server_core.specs.Sessions.{AreApart, HaveOtherNames}
use Rattle.server_core.proofs.Lists.{pairs-head, pairs-tail}
use Rattle.server_core.proofs.Names.{named, same-names}

-- it is one of the session's, and overdue
abbrev one_of : ℕ → Unfinished → SessionState → ℕ
one_of now one standing = one_if (is_of (key_of standing) (number_of standing) one && is_overdue now one)

-- how many jobs of the session are
abbrev pub overdue_at : ℕ → Queue → SessionState → ℕ
overdue_at now jobs standing = overdue_count_of (key_of standing) (number_of standing) now jobs

none-at_all : (now : ℕ) (standings : List SessionState) → sum_by (overdue_at now []) standings ≡ 0
none-at_all now [] = refl
none-at_all now (standing ∷ standings) =
    let rest = none-at_all now standings in
    let sum = sum_by-cons (overdue_at now []) standing standings in
    omega arith

-- it is of no session of another name
none-other : (now : ℕ) (one : Unfinished) (first : SessionState) (standings : List SessionState) → is_of (key_of first) (number_of first) one ≡ true
    → All (HaveOtherNames first) standings → sum_by (one_of now one) standings ≡ 0
none-other now one first [] is apart = refl
none-other now one first (standing ∷ standings) is apart =
    let rest = none-other now one first standings is (All-tail (HaveOtherNames first) standing standings apart) in
    let sum = sum_by-cons (one_of now one) standing standings in
    elim (cases_Bool (is_of (key_of standing) (number_of standing) one)) [
      | inl also ↦
          (let owner = named one.job.key one.job.session in
          absurd (All-head (HaveOtherNames first) standing standings apart
          (sym (same-names owner (name_kept first) is) ∙ same-names owner (name_kept standing) also)))
      | inr off ↦
          (let here : one_of now one standing ≡ 0 = ap (λ (b : Bool). one_if (b && is_overdue now one)) off in
          omega arith)
    ]

one-at_most : (now : ℕ) (one : Unfinished) (standings : List SessionState) → AreApart standings → sum_by (one_of now one) standings ≤ one_if (is_overdue now one)
one-at_most now one [] apart = omega arith
one-at_most now one (standing ∷ standings) apart =
    let sum = sum_by-cons (one_of now one) standing standings in
    elim (cases_Bool (is_of (key_of standing) (number_of standing) one)) [
      | inl is ↦
          (let here : one_of now one standing ≡ one_if (is_overdue now one) = ap (λ (b : Bool). one_if (b && is_overdue now one)) is in
          let rest = none-other now one standing standings is (pairs-head HaveOtherNames standing standings apart) in
          omega arith)
      | inr off ↦
          (let here : one_of now one standing ≡ 0 = ap (λ (b : Bool). one_if (b && is_overdue now one)) off in
          let rest = one-at_most now one standings (pairs-tail HaveOtherNames standing standings apart) in
          omega arith)
    ]

-- the first job, and the others
sum-first : (now : ℕ) (one : Unfinished) (jobs : Queue) (standings : List SessionState)
    → sum_by (overdue_at now (one ∷ jobs)) standings ≡ sum_by (one_of now one) standings + sum_by (overdue_at now jobs) standings
sum-first now one jobs [] = refl
sum-first now one jobs (standing ∷ standings) =
    let rest = sum-first now one jobs standings in
    let all = sum_by-cons (overdue_at now (one ∷ jobs)) standing standings in
    let firsts = sum_by-cons (one_of now one) standing standings in
    let others = sum_by-cons (overdue_at now jobs) standing standings in
    let here : overdue_at now (one ∷ jobs) standing ≡ one_of now one standing + overdue_at now jobs standing = refl in
    omega arith

pub overdue-sum : (now : ℕ) (jobs : Queue) (standings : List SessionState) → AreApart standings → sum_by (overdue_at now jobs) standings ≤ overdue_count now jobs
overdue-sum now [] standings apart =
    let none = none-at_all now standings in
    omega arith
overdue-sum now (one ∷ jobs) standings apart =
    let first = one-at_most now one standings apart in
    let rest = overdue-sum now jobs standings apart in
    let sum = sum-first now one jobs standings in
    omega arith

-- where all that are overdue were counted in front, the session at this place has none
pub none-behind : (now : ℕ) (jobs : Queue) (standings : List SessionState) (place : ℕ) (d : SessionState) → AreApart standings → place < length standings
    → overdue_count now jobs ≤ sum_by (overdue_at now jobs) (take place standings) → overdue_at now jobs (get_or standings place d) ≡ 0
none-behind now jobs standings place d apart within counted =
    let all = overdue-sum now jobs standings apart in
    let more = sum_by_more_le (overdue_at now jobs) standings place d within in
    omega arith

pub counted-more : (now : ℕ) (jobs : Queue) (standings : List SessionState) (place : ℕ) (d : SessionState) (due left overdue : ℕ) → place < length standings
    → overdue_count now jobs ≤ due + sum_by (overdue_at now jobs) (take place standings) → overdue ≤ overdue_at now jobs (get_or standings place d) → due ≤ left + overdue
    → overdue_count now jobs ≤ left + sum_by (overdue_at now jobs) (take (place + 1) standings)
counted-more now jobs standings place d due left overdue within counted few fewer =
    let more = sum_by_more (overdue_at now jobs) standings place d within in
    omega arith
