-- A job that is ready after answers was named by a good one for each number that it waited for.
use Rattle.std.proofs.Common.{◌≡◌, ◌∙◌, ℕ, zero, suc, Bool, true, false, not, ◌&&◌, ◌||◌, ◌==◌, cond, if◌then◌else◌, List, [], ◌∷◌, map, ap, sym, refl, subst}
use Rattle.std.specs.List.{filter, list_any}
use Rattle.std.proofs.lemmas.Bool.{eqb-true, and_parts}
use Rattle.waits.specs.declared.job.Unfinished.{Unfinished}
use Rattle.waits.specs.Jobs.{Queue, is_of, is_empty, is_ready, told, waits_for, after_answer, settled, without_first, without_ready, without_session}
use Rattle.waits.specs.Answers.{Answer, after_answers, all_settled, awaits, is_well}

-- ---- all jobs are told the same

map_twice : (f g : Unfinished → Unfinished) (xs : Queue) → map g (map f xs) ≡ map (λ x. g (f x)) xs
map_twice f g [] = refl
map_twice f g (x ∷ xs) = ap (λ (ys : Queue). g (f x) ∷ ys) (map_twice f g xs)

map_same : (xs : Queue) → map (λ x. x) xs ≡ xs
map_same [] = refl
map_same (x ∷ xs) = ap (λ (ys : Queue). x ∷ ys) (map_same xs)

pub each_told : (answers : List Answer) (xs : Queue) → all_settled answers xs ≡ map (after_answers answers) xs
each_told [] xs = sym (map_same xs)
each_told (answer ∷ answers) xs =
    each_told answers (settled answer.key answer.session answer.number answer.ok xs)
    ∙ map_twice (after_answer answer.key answer.session answer.number answer.ok) (after_answers answers) xs

-- ---- one that has failed is never ready

failed_by : (key session number : ℕ) (ok waits : Bool) (one : Unfinished) → one.failed ≡ true → (if waits then told number ok one else one).failed ≡ true
failed_by key session number true true one failed = failed
failed_by key session number false true one failed = refl
failed_by key session number ok false one failed = failed

not_ready : (failed empty : Bool) → failed ≡ true → (not failed && empty) ≡ false
not_ready true empty is = refl
not_ready false empty is = let clash : false ≡ true = is in cc

failed_stays : (answers : List Answer) (one : Unfinished) → one.failed ≡ true → is_ready (after_answers answers one) ≡ false
failed_stays [] one failed = not_ready one.failed (is_empty one.job.after) failed
failed_stays (answer ∷ answers) one failed =
    failed_stays answers (after_answer answer.key answer.session answer.number answer.ok one)
    (failed_by answer.key answer.session answer.number answer.ok (waits_for answer.key answer.session answer.number one) one failed)

-- ---- the numbers that are left

left_or : (here any kept : Bool) → (any ≡ true → kept ≡ true) → (here || any) ≡ true → (here || kept) ≡ true
left_or true any kept later some = refl
left_or false any kept later some = later some

left_by : (named number awaited : ℕ) (same : Bool) (kept : List ℕ) (any : Bool) → (awaited == named) ≡ same → (named == number) ≡ false → (any ≡ true → list_any (λ other. other == number) kept ≡ true) → ((awaited == number) || any) ≡ true → list_any (λ other. other == number) (cond (not same) (awaited ∷ kept) kept) ≡ true
left_by named number awaited true kept any is other later some =
    let same : awaited ≡ named = eqb-true awaited named is in
    let none : (awaited == number) ≡ false = rw same other in
    later (subst (λ (b : Bool). (b || any) ≡ true) none some)
left_by named number awaited false kept any is other later some = left_or (awaited == number) any _ later some

still_awaits : (named number : ℕ) (after : List ℕ) → (named == number) ≡ false → list_any (λ other. other == number) after ≡ true → list_any (λ other. other == number) (filter (λ awaited. not (awaited == named)) after) ≡ true
still_awaits named number [] other some = some
still_awaits named number (awaited ∷ after) other some =
    left_by named number awaited (awaited == named) (filter (λ one. not (one == named)) after) (list_any (λ one. one == number) after) refl other (still_awaits named number after other) some

awaits_no_more : (after : List ℕ) (number : ℕ) → is_empty after ≡ true → list_any (λ awaited. awaited == number) after ≡ true → false ≡ true
awaits_no_more [] number empty some = some
awaits_no_more (awaited ∷ after) number empty some = empty

or_right : (a b : Bool) → b ≡ true → (a || b) ≡ true
or_right true b is = refl
or_right false b is = is

or_left : (a b : Bool) → a ≡ true → (a || b) ≡ true
or_left true b is = refl
or_left false b is = let clash : false ≡ true = is in cc

-- ---- each was named

abbrev pub Named : List Answer → Type 0
Named answers = (one : Unfinished) (number : ℕ) → is_ready (after_answers answers one) ≡ true → awaits number one ≡ true → list_any (is_well one.job.key one.job.session number) answers ≡ true

named_here : (answer : Answer) (one : Unfinished) (number : ℕ) (ok : Bool) → answer.ok ≡ ok → ok ≡ true → is_of answer.key answer.session one ≡ true → (answer.number == number) ≡ true → is_well one.job.key one.job.session number answer ≡ true
named_here answer one number ok is well own same = rw (is, well, own, same) refl

named_told : (answer : Answer) (answers : List Answer) (one : Unfinished) (number : ℕ) (ok same : Bool) → answer.ok ≡ ok → (answer.number == number) ≡ same → is_of answer.key answer.session one ≡ true → Named answers → is_ready (after_answers answers (told answer.number ok one)) ≡ true → awaits number one ≡ true → list_any (is_well one.job.key one.job.session number) (answer ∷ answers) ≡ true
named_told answer answers one number false same is at own later ready some =
    let clash : true ≡ false = sym ready ∙ failed_stays answers (told answer.number false one) refl in
    cc
named_told answer answers one number true true is at own later ready some =
    or_left _ _ (named_here answer one number true is refl own at)
named_told answer answers one number true false is at own later ready some =
    or_right _ _ (later (told answer.number true one) number ready (still_awaits answer.number number one.job.after at some))

named_by : (answer : Answer) (answers : List Answer) (one : Unfinished) (number : ℕ) (waits : Bool) → waits_for answer.key answer.session answer.number one ≡ waits → Named answers → is_ready (after_answers answers (if waits then told answer.number answer.ok one else one)) ≡ true → awaits number one ≡ true → list_any (is_well one.job.key one.job.session number) (answer ∷ answers) ≡ true
named_by answer answers one number true is later ready some =
    named_told answer answers one number answer.ok (answer.number == number) refl refl ((and_parts (is_of answer.key answer.session one) _ is).0) later ready some
named_by answer answers one number false is later ready some = or_right _ _ (later one number ready some)

pub each_named : (answers : List Answer) → Named answers
each_named [] one number ready some =
    let empty = (and_parts (not one.failed) (is_empty one.job.after) ready).1 in
    let clash : false ≡ true = awaits_no_more one.job.after number empty some in
    cc
each_named (answer ∷ answers) one number ready some =
    named_by answer answers one number (waits_for answer.key answer.session answer.number one) refl (each_named answers) ready some

-- ---- a job that is taken out leaves the others as they are

others_by : (out : Bool) (p : Unfinished → Bool) (x : Unfinished) (xs ys : Queue) → (list_any p ys ≡ true → list_any p xs ≡ true) → list_any p (if out then xs else x ∷ ys) ≡ true → list_any p (x ∷ xs) ≡ true
others_by true p x xs ys later some = or_right (p x) (list_any p xs) some
others_by false p x xs ys later some = left_or (p x) (list_any p ys) (list_any p xs) later some

pub others_of_first : (test p : Unfinished → Bool) (xs : Queue) → list_any p (without_first test xs) ≡ true → list_any p xs ≡ true
others_of_first test p [] some = some
others_of_first test p (x ∷ xs) some = others_by (test x) p x xs (without_first test xs) (others_of_first test p xs) some

pub others_of_ready : (place : ℕ) (p : Unfinished → Bool) (xs : Queue) → list_any p (without_ready place xs) ≡ true → list_any p xs ≡ true
others_of_ready zero p [] some = some
others_of_ready (suc place) p [] some = some
others_of_ready zero p (x ∷ xs) some = others_by (is_ready x) p x xs (without_ready zero xs) (others_of_ready zero p xs) some
others_of_ready (suc place) p (x ∷ xs) some =
    let next = if is_ready x then place else suc place in
    left_or (p x) (list_any p (without_ready next xs)) (list_any p xs) (others_of_ready next p xs) some

others_kept : (keeps : Bool) (p : Unfinished → Bool) (x : Unfinished) (xs ys : Queue) → (list_any p ys ≡ true → list_any p xs ≡ true) → list_any p (cond keeps (x ∷ ys) ys) ≡ true → list_any p (x ∷ xs) ≡ true
others_kept true p x xs ys later some = left_or (p x) (list_any p ys) (list_any p xs) later some
others_kept false p x xs ys later some = or_right (p x) (list_any p xs) (later some)

pub others_of_session : (key session : ℕ) (p : Unfinished → Bool) (xs : Queue) → list_any p (without_session key session xs) ≡ true → list_any p xs ≡ true
others_of_session key session p [] some = some
others_of_session key session p (x ∷ xs) some = others_kept (not (is_of key session x)) p x xs (without_session key session xs) (others_of_session key session p xs) some
