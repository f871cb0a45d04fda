-- All jobs are kept right where those of one session change.
use Rattle.std.proofs.Common.{◌≡◌, ◌∙◌, ℕ, suc, ◌≤◌, Bool, true, false, not, ◌&&◌, ◌||◌, ◌==◌, nat_lt, List, [], ◌∷◌, ◌++◌, take, drop, map, ap, sym, refl, subst, arith, append_assoc}
use Rattle.std.specs.List.{filter, list_any, remove}
use Rattle.std.proofs.lemmas.List.Folds.{list_any-append}
use Rattle.std.proofs.lemmas.Bool.{eqb-true, and_parts}
use Rattle.std.proofs.lemmas.List.{map-append, append-nil}
use Rattle.std.proofs.lemmas.List.Elements.{filter-append}
use Rattle.waits.specs.declared.stamped.Stamped.{Stamped}
use Rattle.waits.specs.Jobs.{is_of, is_call, one_if, waits_for}
use Rattle.waits.specs.Stamps.{weigh, tally, after, count_before, IsWith}
use Rattle.waits.specs.Parts.{Part, is_part_of, all_of}
use Rattle.waits.specs.Kept.{strangers, AreParts}
use Rattle.waits.proofs.Sums.{weigh_append, weigh_with, tally_less, one_if_true}
use Rattle.waits.proofs.Parts.{all_append, all_around, filter_none, filter_rest, map_rest, IsPart}
use Rattle.waits.proofs.Rising.{IsAt}
use Rattle.waits.proofs.Searching.{few_before}
use Rattle.waits.proofs.Counted.{among_sum}
use Rattle.waits.proofs.Owned.{among_at, own_told}

same_key : (p q : Part) → q.key ≡ p.key → q.session ≡ p.session → (key session : ℕ) → is_part_of key session q ≡ is_part_of key session p
same_key p q one two key session = ap (λ (k : ℕ). (k == key) && (q.session == session)) one ∙ ap (λ (s : ℕ). (p.key == key) && (s == session)) two

pub parts_changed : (front : List Part) (p q : Part) (back : List Part) → AreParts (front ++ p ∷ back) → q.key ≡ p.key → q.session ≡ p.session → strangers q ≡ 0 → AreParts (front ++ q ∷ back)
parts_changed front p q back kept one two none =
    record {
      own = omega (arith, kept.own, weigh_with strangers p front back, weigh_with strangers q front back, none);
      apart = λ key session. omega (arith, kept.apart key session, weigh_with (λ r. one_if (is_part_of key session r)) p front back, weigh_with (λ r. one_if (is_part_of key session r)) q front back, ap one_if (same_key p q one two key session));
    }

pub parts_less : (front : List Part) (p : Part) (back : List Part) → AreParts (front ++ p ∷ back) → AreParts (front ++ back)
parts_less front p back kept =
    record {
      own = omega (arith, kept.own, weigh_with strangers p front back);
      apart = λ key session. omega (arith, kept.apart key session, weigh_with (λ r. one_if (is_part_of key session r)) p front back);
    }

-- a session that has none gets one
more_by : (key session : ℕ) (q : Part) (parts : List Part) (here : Bool) → is_part_of key session q ≡ here → (here ≡ true → tally (is_part_of key session) parts ≡ 0) → tally (is_part_of key session) parts ≤ 1 → tally (is_part_of key session) (parts ++ q ∷ []) ≤ 1
more_by key session q parts true is none few = let nought = none refl in let one : one_if (is_part_of key session q) ≡ 1 = rw is refl in omega (arith, weigh_append (λ r. one_if (is_part_of key session r)) parts (q ∷ []))
more_by key session q parts false is none few = let nought : one_if (is_part_of key session q) ≡ 0 = rw is refl in omega (arith, weigh_append (λ r. one_if (is_part_of key session r)) parts (q ∷ []))

none_of : (parts : List Part) (q : Part) (key session : ℕ) → tally (is_part_of q.key q.session) parts ≡ 0 → is_part_of key session q ≡ true → tally (is_part_of key session) parts ≡ 0
none_of parts q key session none is =
    let both = and_parts (q.key == key) (q.session == session) is in
    subst (λ (k : ℕ). tally (is_part_of k session) parts ≡ 0) (eqb-true q.key key both.0) (subst (λ (s : ℕ). tally (is_part_of q.key s) parts ≡ 0) (eqb-true q.session session both.1) none)

pub parts_more : (parts : List Part) (q : Part) → AreParts parts → tally (is_part_of q.key q.session) parts ≡ 0 → strangers q ≡ 0 → AreParts (parts ++ q ∷ [])
parts_more parts q kept none own =
    record {
      own = omega (arith, kept.own, weigh_append strangers parts (q ∷ []), own);
      apart = λ key session. more_by key session q parts (is_part_of key session q) refl (none_of parts q key session none) (kept.apart key session);
    }

-- ---- what becomes of all jobs

-- one is put behind its session's others
pub put_behind : (front : List Part) (p q : Part) (back : List Part) (x : Stamped) → q.jobs ≡ p.jobs ++ x ∷ [] → IsWith x (all_of (front ++ p ∷ back)) (all_of (front ++ q ∷ back))
put_behind front p q back x jobs =
    record {
      front = all_of front ++ p.jobs;
      back = all_of back;
      less = all_around front p back ∙ sym (append_assoc (all_of front) p.jobs (all_of back));
      more = all_around front q back ∙ (ap (λ (xs : List Stamped). all_of front ++ (xs ++ all_of back)) jobs
          ∙ (ap (λ (xs : List Stamped). all_of front ++ xs) (append_assoc p.jobs (x ∷ []) (all_of back)) ∙ sym (append_assoc (all_of front) p.jobs (x ∷ all_of back))));
    }

-- or is the first of a session
pub put_first : (parts : List Part) (q : Part) (x : Stamped) → q.jobs ≡ x ∷ [] → IsWith x (all_of parts) (all_of (parts ++ q ∷ []))
put_first parts q x jobs =
    record {
      front = all_of parts;
      back = [];
      less = sym (append-nil (all_of parts));
      more = all_append parts (q ∷ []) ∙ ap (λ (xs : List Stamped). all_of parts ++ (xs ++ [])) jobs;
    }

-- one of a session is taken out
pub taken_from : (front : List Part) (p q : Part) (back : List Part) (at : ℕ) (x : Stamped) → IsAt p.jobs at x → q.jobs ≡ remove p.jobs at → IsWith x (all_of (front ++ q ∷ back)) (all_of (front ++ p ∷ back))
taken_from front p q back at x one jobs =
    let before = take at p.jobs in
    let behind = drop (suc at) p.jobs in
    record {
      front = all_of front ++ before;
      back = behind ++ all_of back;
      less = all_around front q back ∙ (ap (λ (xs : List Stamped). all_of front ++ (xs ++ all_of back)) jobs
          ∙ (ap (λ (xs : List Stamped). all_of front ++ xs) (append_assoc before behind (all_of back)) ∙ sym (append_assoc (all_of front) before (behind ++ all_of back))));
      more = all_around front p back ∙ (ap (λ (xs : List Stamped). all_of front ++ (xs ++ all_of back)) one.parts
          ∙ (ap (λ (xs : List Stamped). all_of front ++ xs) (append_assoc before (x ∷ behind) (all_of back)) ∙ sym (append_assoc (all_of front) before (x ∷ (behind ++ all_of back)))));
    }

-- a session with no job counts for nothing
pub without_none : (front : List Part) (p : Part) (back : List Part) → p.jobs ≡ [] → all_of (front ++ p ∷ back) ≡ all_of (front ++ back)
without_none front p back none = all_around front p back ∙ (ap (λ (xs : List Stamped). all_of front ++ (xs ++ all_of back)) none ∙ sym (all_append front back))

-- a session's jobs are told
idle : (key session number : ℕ) (xs : List Stamped) → tally (λ x. is_of key session x.one) xs ≡ 0 → tally (λ x. waits_for key session number x.one) xs ≡ 0
idle key session number xs none =
    let less = tally_less (λ x. waits_for key session number x.one) (λ x. is_of key session x.one) (λ x both. (and_parts (is_of key session x.one) _ both).0) xs in
    omega arith

pub all_told : (key session number : ℕ) (ok : Bool) (front : List Part) (p q : Part) (back : List Part) → IsPart key session front p back → q.jobs ≡ map (after key session number ok) p.jobs → all_of (front ++ q ∷ back) ≡ map (after key session number ok) (all_of (front ++ p ∷ back))
all_told key session number ok front p q back part jobs =
    let tell = after key session number ok in
    all_around front q back
    ∙ (ap (λ (xs : List Stamped). all_of front ++ (xs ++ all_of back)) jobs
    ∙ sym (ap (map tell) (all_around front p back)
    ∙ (map-append tell (all_of front) (p.jobs ++ all_of back)
    ∙ (ap (λ (xs : List Stamped). map tell (all_of front) ++ xs) (map-append tell p.jobs (all_of back))
    ∙ (ap (λ (xs : List Stamped). xs ++ (map tell p.jobs ++ map tell (all_of back))) (map_rest key session number ok (all_of front) (idle key session number (all_of front) part.before))
    ∙ ap (λ (xs : List Stamped). all_of front ++ (map tell p.jobs ++ xs)) (map_rest key session number ok (all_of back) (idle key session number (all_of back) part.behind)))))))

-- where none is of the session none is told
pub none_told : (key session number : ℕ) (ok : Bool) (xs : List Stamped) → tally (λ x. is_of key session x.one) xs ≡ 0 → map (after key session number ok) xs ≡ xs
none_told key session number ok xs none = map_rest key session number ok xs (idle key session number xs none)

-- a session is forgotten
pub all_forgotten : (key session : ℕ) (front : List Part) (p : Part) (back : List Part) → IsPart key session front p back → all_of (front ++ back) ≡ filter (λ x. not (is_of key session x.one)) (all_of (front ++ p ∷ back))
all_forgotten key session front p back part =
    let others = λ (x : Stamped). not (is_of key session x.one) in
    let mine = λ (x : Stamped). is_of key session x.one in
    all_append front back
    ∙ sym (ap (filter others) (all_around front p back)
    ∙ (filter-append others (all_of front) (p.jobs ++ all_of back)
    ∙ (ap (λ (xs : List Stamped). filter others (all_of front) ++ xs) (filter-append others p.jobs (all_of back))
    ∙ (ap (λ (xs : List Stamped). filter others (all_of front) ++ (xs ++ filter others (all_of back))) (filter_none others p.jobs part.own)
    ∙ (ap (λ (xs : List Stamped). xs ++ filter others (all_of back)) (filter_rest mine (all_of front) part.before)
    ∙ ap (λ (xs : List Stamped). all_of front ++ xs) (filter_rest mine (all_of back) part.behind))))))

-- whether a session has a call
any_none : (test : Stamped → Bool) (xs : List Stamped) → tally test xs ≡ 0 → list_any test xs ≡ false
any_none test [] none = refl
any_none test (x ∷ xs) none =
    let fails : test x ≡ false = one_if_true (test x) (omega arith) in
    rw fails (any_none test xs (omega arith))

no_call : (key session number : ℕ) (xs : List Stamped) → tally (λ x. is_of key session x.one) xs ≡ 0 → tally (λ x. is_call key session number x.one) xs ≡ 0
no_call key session number xs none =
    let less = tally_less (λ x. is_call key session number x.one) (λ x. is_of key session x.one) (λ x both. (and_parts (is_of key session x.one) _ both).0) xs in
    omega arith

pub no_call_at_all : (key session number : ℕ) (xs : List Stamped) → tally (λ x. is_of key session x.one) xs ≡ 0 → list_any (λ x. is_call key session number x.one) xs ≡ false
no_call_at_all key session number xs none = any_none (λ x. is_call key session number x.one) xs (no_call key session number xs none)

or_false : (a : Bool) → (a || false) ≡ a
or_false true = refl
or_false false = refl

pub own_call : (key session number : ℕ) (front : List Part) (p : Part) (back : List Part) → IsPart key session front p back → list_any (λ x. is_call key session number x.one) (all_of (front ++ p ∷ back)) ≡ list_any (λ x. is_call key session number x.one) p.jobs
own_call key session number front p back part =
    let test = λ (x : Stamped). is_call key session number x.one in
    ap (λ (xs : List Stamped). list_any test xs) (all_around front p back)
    ∙ (list_any-append test (all_of front) (p.jobs ++ all_of back)
    ∙ (ap (λ (b : Bool). b || list_any test (p.jobs ++ all_of back)) (no_call_at_all key session number (all_of front) part.before)
    ∙ (list_any-append test p.jobs (all_of back)
    ∙ (ap (λ (b : Bool). list_any test p.jobs || b) (no_call_at_all key session number (all_of back) part.behind) ∙ or_false (list_any test p.jobs)))))

-- those with a stamp below a limit are the session's
pub own_calls : (key session number limit : ℕ) (front : List Part) (p : Part) (back : List Part) → IsPart key session front p back → count_before (λ x. is_call key session number x.one) limit (all_of (front ++ p ∷ back)) ≡ count_before (λ x. is_call key session number x.one) limit p.jobs
own_calls key session number limit front p back part =
    let test = λ (x : Stamped). is_call key session number x.one in
    let m = λ (x : Stamped). one_if (is_call key session number x.one && nat_lt x.stamp limit) in
    omega (
      arith,
      ap (weigh m) (all_around front p back),
      weigh_append m (all_of front) (p.jobs ++ all_of back),
      weigh_append m p.jobs (all_of back),
      few_before test limit (all_of front) (no_call key session number (all_of front) part.before),
      few_before test limit (all_of back) (no_call key session number (all_of back) part.behind),
    )

pub none_called : (key session number limit : ℕ) (xs : List Stamped) → tally (λ x. is_of key session x.one) xs ≡ 0 → count_before (λ x. is_call key session number x.one) limit xs ≡ 0
none_called key session number limit xs none = few_before (λ x. is_call key session number x.one) limit xs (no_call key session number xs none)

-- ---- a session has its own jobs alone, still

pub strangers_more : (p : Part) (x : Stamped) → is_of p.key p.session x.one ≡ true → strangers p ≡ 0 → strangers (record p { jobs = p.jobs ++ x ∷ [] }) ≡ 0
strangers_more p x mine none =
    let nought : one_if (not (is_of p.key p.session x.one)) ≡ 0 = rw mine refl in
    omega (arith, none, nought, weigh_append (λ y. one_if (not (is_of p.key p.session y.one))) p.jobs (x ∷ []))

pub strangers_less : (p : Part) (at : ℕ) (x : Stamped) → IsAt p.jobs at x → strangers p ≡ 0 → strangers (record p { jobs = remove p.jobs at }) ≡ 0
strangers_less p at x one none = omega (arith, none, among_sum (λ y. one_if (not (is_of p.key p.session y.one))) x (remove p.jobs at) p.jobs (among_at p.jobs at x one))

pub strangers_told : (p : Part) (key session number : ℕ) (ok : Bool) → strangers p ≡ 0 → strangers (record p { jobs = map (after key session number ok) p.jobs }) ≡ 0
strangers_told p key session number ok none = own_told p.key p.session key session number ok p.jobs ∙ none
