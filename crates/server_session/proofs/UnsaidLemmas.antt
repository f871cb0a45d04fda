-- Kept replies that weren't said, where further messages are owed.
use Rattle.std.proofs.Common.{◌≡◌, ◌∙◌, ◌≤◌, ◌<◌, ◌+◌, ℕ, zero, suc, eqb, cond, Bool, true, false, Option, Some, None, List, [], ◌∷◌, ◌++◌, drop, fold, get_or, length, take, ap, sym, subst, refl, arith, inl, inr}
use Rattle.std.specs.Prelude.{◌||◌, is_some, option_map, sum_by}
use Rattle.std.specs.List.{find, list_all}
use Rattle.std.proofs.lemmas.List.{take_more}
use Rattle.std.proofs.lemmas.Grind.{fold-append}
use Rattle.std.proofs.lemmas.Bool.{cases_Bool, cond-true, cond-false, eq-eqb, eqb-true, or_left, or_right}
use Rattle.std.proofs.lemmas.Option.{none-some, same_Some}
use Rattle.std.proofs.lemmas.List.Folds.{list_any-append}
use Rattle.std.proofs.lemmas.List.Sums.{sum_by-append, sum_by-cons}
use Rattle.service_tl.specs.declared.lists.Message.{Message}
use Rattle.outbox.specs.declared.kept.Kept.{Kept}
use Rattle.outbox.specs.Replies.{Contents, EachOnce, Replies, by_number, bytes_of, fits, with_room_for, without_number}
use Rattle.server_output.specs.Dues.{Dues, has_number}
use Rattle.server_rules.specs.Event.{Speaker}
use Rattle.server_rules.specs.Rows.{kept_numbered, says_reply}
use Rattle.server_rules.specs.Server.{Reply, kept_of, kept_replies}
use Rattle.server_session.proofs.FateLemmas.{found-kept}
use Rattle.server_session.specs.declared.calling.Called.{Called}
use Rattle.server_session.specs.declared.session.SessionState.{SessionState}
use Rattle.server_session.specs.Unsaid.{CallsFor, FewerKept, IsCalled, NoMoreUnsaid, PassesOnce, StaySaid, called_weight, is_among, unsaid_bytes, unsaid_count, unsaid_weight}

abbrev one_weight : (Kept → ℕ) → List Message → Kept → ℕ
one_weight weight messages kept = cond (has_number kept.number messages) 0 (weight kept)

at-most : (test : Bool) (n : ℕ) → cond test 0 n ≤ n
at-most true n = omega arith
at-most false n = omega arith

one-fewer : (weight : Kept → ℕ) (before after : List Message) (kept : Kept) → StaySaid before after → one_weight weight after kept ≤ one_weight weight before kept
one-fewer weight before after kept stays =
    elim (cases_Bool (has_number kept.number before)) [
      | inl said ↦ let none : one_weight weight after kept ≡ 0 = cond-true _ 0 (weight kept) (stays kept.number said) in omega arith
      | inr unsaid ↦
          let all : one_weight weight before kept ≡ weight kept = cond-false _ 0 (weight kept) unsaid in
          let most = at-most (has_number kept.number after) (weight kept) in
          omega arith
    ]

pub unsaid-fewer : (weight : Kept → ℕ) (before after : List Message) (replies : Replies) → StaySaid before after
    → unsaid_weight weight after replies ≤ unsaid_weight weight before replies
unsaid-fewer weight before after [] stays = omega arith
unsaid-fewer weight before after (kept ∷ replies) stays =
    omega (
      arith,
      one-fewer weight before after kept stays,
      unsaid-fewer weight before after replies stays,
      sum_by-cons (one_weight weight before) kept replies,
      sum_by-cons (one_weight weight after) kept replies,
    )

pub more-said : (messages : List Message) (message : Message) → StaySaid messages (messages ++ message ∷ [])
more-said messages message number said =
    list_any-append (λ (one : Message). eqb one.number number) messages (message ∷ []) ∙ or_left (has_number number messages) _ said

now-said : (messages : List Message) (message : Message) → has_number message.number (messages ++ message ∷ []) ≡ true
now-said messages message =
    list_any-append (λ (one : Message). eqb one.number message.number) messages (message ∷ [])
    ∙ or_right (has_number message.number messages) _ (or_left (eqb message.number message.number) false (eq-eqb message.number message.number refl))

-- a kept reply that is said weighs nothing from then on, however it was found
pub unsaid-said : (weight : Kept → ℕ) (messages : List Message) (message : Message) (replies : Replies) (kept : Kept) (test : Kept → Bool) → find test replies ≡ Some kept
    → message.number ≡ kept.number → has_number kept.number messages ≡ false
    → unsaid_weight weight (messages ++ message ∷ []) replies + weight kept ≤ unsaid_weight weight messages replies
unsaid-said weight messages message [] kept test found number unsaid = absurd (none-some kept found)
unsaid-said weight messages message (first ∷ replies) kept test found number unsaid =
    let after = messages ++ message ∷ [] in
    let stays = more-said messages message in
    let before_cons = sum_by-cons (one_weight weight messages) first replies in
    let after_cons = sum_by-cons (one_weight weight after) first replies in
    elim (cases_Bool (test first)) [
      | inl here ↦
          let same : first ≡ kept = same_Some first kept (sym (cond-true _ (Some first) (find test replies) here) ∙ found) in
          let weighs : weight first ≡ weight kept = ap weight same in
          let own : first.number ≡ kept.number = ap (λ (one : Kept). one.number) same in
          let all : one_weight weight messages first ≡ weight first = cond-false _ 0 (weight first) (ap (λ (n : ℕ). has_number n messages) own ∙ unsaid) in
          let none : one_weight weight after first ≡ 0 = cond-true _ 0 (weight first) (ap (λ (n : ℕ). has_number n after) (own ∙ sym number) ∙ now-said messages message) in
          let rest = unsaid-fewer weight messages after replies stays in
          omega arith
      | inr later ↦
          let rest = unsaid-said weight messages message replies kept test (sym (cond-false _ (Some first) (find test replies) later) ∙ found) number unsaid in
          let one = one-fewer weight messages after first stays in
          omega arith
    ]

-- a kept reply that wasn't said is among them
pub unsaid-one : (weight : Kept → ℕ) (messages : List Message) (replies : Replies) (kept : Kept) (test : Kept → Bool) → find test replies ≡ Some kept
    → has_number kept.number messages ≡ false → weight kept ≤ unsaid_weight weight messages replies
unsaid-one weight messages replies kept test found unsaid =
    let spent = unsaid-said weight messages (record { number = kept.number; seq = 0; body = [] }) replies kept test found refl unsaid in
    omega arith

-- what a kept reply takes is what the others need less
pub unsaid-spent : (weight : Kept → ℕ) (before after : List Message) (message : Message) (replies : Replies) (kept : Kept) (room left : ℕ) (test : Kept → Bool)
    → message.number ≡ kept.number → find test replies ≡ Some kept
    → (has_number kept.number before ≡ false → after ≡ before ++ message ∷ [])
    → (has_number kept.number before ≡ true → (after ≡ before) × (left ≡ room))
    → room ≤ left + weight kept → room + unsaid_weight weight after replies ≤ left + unsaid_weight weight before replies
unsaid-spent weight before after message replies kept room left test number found said stays takes =
    elim (cases_Bool (has_number kept.number before)) [
      | inl was ↦
          let same = stays was in
          let weighs : unsaid_weight weight after replies ≡ unsaid_weight weight before replies = ap (λ (messages : List Message). unsaid_weight weight messages replies) same.0 in
          let room_same = same.1 in
          omega arith
      | inr unsaid ↦
          let fewer = unsaid-said weight before message replies kept test found number unsaid in
          let weighs : unsaid_weight weight after replies ≡ unsaid_weight weight (before ++ message ∷ []) replies = ap (λ (messages : List Message). unsaid_weight weight messages replies) (said unsaid) in
          omega arith
    ]

-- ---- the replies of numbers, one after the other

abbrev pub said_numbered : {S : Type 0} → Speaker S → List ℕ → Speaker S
said_numbered speaker numbers = fold (λ so_far number. says_reply (kept_numbered so_far.session.replies number) so_far) speaker numbers

pub numbered-more : {S : Type 0} (speaker : Speaker S) (numbers : List ℕ) (place : ℕ) → place < length numbers
    → said_numbered speaker (take (place + 1) numbers)
    ≡ says_reply (kept_numbered (said_numbered speaker (take place numbers)).session.replies (get_or numbers place 0)) (said_numbered speaker (take place numbers))
numbered-more {S} speaker numbers place within =
    ap (λ (more : List ℕ). said_numbered speaker more) (take_more numbers place 0 within)
    ∙ fold-append (λ (so_far : Speaker S) (number : ℕ). says_reply (kept_numbered so_far.session.replies number) so_far) speaker (take place numbers) (get_or numbers place 0 ∷ [])

some-mapped : {A B : Type 0} (f : A → B) (one : Option A) → is_some (option_map f one) ≡ is_some one
some-mapped f None = refl
some-mapped f (Some one) = refl

-- whether all are kept, by what the session keeps
pub all-kept : (kept : Replies) (replies : List Reply) (numbers : List ℕ) → kept ≡ kept_replies replies
    → list_all (λ number. is_some (by_number number kept)) numbers ≡ list_all (λ number. is_some (kept_numbered replies number)) numbers
all-kept kept replies [] same = refl
all-kept kept replies (number ∷ numbers) same =
    let first : is_some (by_number number kept) ≡ is_some (kept_numbered replies number) =
    ap (λ (one : Option Kept). is_some one) (ap (by_number number) same ∙ found-kept (λ (one : Kept). eqb one.number number) replies)
    ∙ some-mapped kept_of (kept_numbered replies number) in
    rw (first, all-kept kept replies numbers same) refl

-- ---- replies that are called for

-- one that is called for weighs what it weighs, and else nothing
pub weighs-called : (called : Kept → Bool) (weight : Kept → ℕ) (kept : Kept) → called kept ≡ true → called_weight called weight kept ≡ weight kept
weighs-called called weight kept is = cond-true (called kept) (weight kept) 0 is

weighs-less : (called more : Kept → Bool) (weight : Kept → ℕ) (kept : Kept) → CallsFor called more → called_weight called weight kept ≤ called_weight more weight kept
weighs-less called more weight kept calls =
    elim (cases_Bool (called kept)) [
      | inl is ↦
          let one = weighs-called called weight kept is in
          let other = weighs-called more weight kept (calls kept is) in
          omega arith
      | inr none ↦ let nothing : called_weight called weight kept ≡ 0 = cond-false (called kept) (weight kept) 0 none in omega arith
    ]

pub sums-less : (called more : Kept → Bool) (weight : Kept → ℕ) (replies : Replies) → CallsFor called more
    → sum_by (called_weight called weight) replies ≤ sum_by (called_weight more weight) replies
sums-less called more weight [] calls = omega arith
sums-less called more weight (kept ∷ replies) calls =
    omega (
      arith,
      weighs-less called more weight kept calls,
      sums-less called more weight replies calls,
      sum_by-cons (called_weight called weight) kept replies,
      sum_by-cons (called_weight more weight) kept replies,
    )

pub unsaid-less : (called more : Kept → Bool) (weight : Kept → ℕ) (messages : List Message) (replies : Replies) → CallsFor called more
    → unsaid_weight (called_weight called weight) messages replies ≤ unsaid_weight (called_weight more weight) messages replies
unsaid-less called more weight messages [] calls = omega arith
unsaid-less called more weight messages (kept ∷ replies) calls =
    let one = sum_by-cons (one_weight (called_weight called weight) messages) kept replies in
    let other = sum_by-cons (one_weight (called_weight more weight) messages) kept replies in
    let rest = unsaid-less called more weight messages replies calls in
    let less = weighs-less called more weight kept calls in
    elim (cases_Bool (has_number kept.number messages)) [
      | inl said ↦
          let none : one_weight (called_weight called weight) messages kept ≡ 0 = cond-true _ 0 (called_weight called weight kept) said in
          omega arith
      | inr unsaid ↦
          let all : one_weight (called_weight called weight) messages kept ≡ called_weight called weight kept = cond-false _ 0 (called_weight called weight kept) unsaid in
          let more_all : one_weight (called_weight more weight) messages kept ≡ called_weight more weight kept = cond-false _ 0 (called_weight more weight kept) unsaid in
          omega arith
    ]

-- what is found passes
pub passes-found : (test : Kept → Bool) (replies : Replies) (kept : Kept) → find test replies ≡ Some kept → test kept ≡ true
passes-found test [] kept found = absurd (none-some kept found)
passes-found test (first ∷ replies) kept found =
    elim (cases_Bool (test first)) [
      | inl here ↦ ap test (sym (same_Some first kept (sym (cond-true _ (Some first) (find test replies) here) ∙ found))) ∙ here
      | inr later ↦ passes-found test replies kept (sym (cond-false _ (Some first) (find test replies) later) ∙ found)
    ]

-- the one of a number is among those of many
pub one-among : (numbers : List ℕ) (place : ℕ) → place < length numbers → CallsFor (λ kept. eqb kept.number (get_or numbers place 0)) (is_among numbers)
one-among [] place within kept is = absurd (omega arith)
one-among (number ∷ numbers) zero within kept is = or_left (eqb kept.number number) (is_among numbers kept) is
one-among (number ∷ numbers) (suc place) within kept is = or_right (eqb kept.number number) (is_among numbers kept) (one-among numbers place (omega arith) kept is)

-- ---- at most all kept replies are left to be said

all-unsaid : (weight : Kept → ℕ) (messages : List Message) (replies : Replies) → unsaid_weight weight messages replies ≤ sum_by weight replies
all-unsaid weight messages [] = omega arith
all-unsaid weight messages (kept ∷ replies) =
    let one = at-most (has_number kept.number messages) (weight kept) in
    let rest = all-unsaid weight messages replies in
    let before = sum_by-cons weight kept replies in
    let after = sum_by-cons (one_weight weight messages) kept replies in
    omega arith

counted : (replies : Replies) → sum_by (λ (kept : Kept). 1) replies ≡ length replies
counted [] = refl
counted (kept ∷ replies) = omega (arith, sum_by-cons (λ (one : Kept). 1) kept replies, counted replies)

called-few : (called : Kept → Bool) (weight : Kept → ℕ) (replies : Replies) → sum_by (called_weight called weight) replies ≤ sum_by weight replies
called-few called weight replies = sums-less called (λ kept. true) weight replies (λ kept is. refl)

pub count-few : (called : Kept → Bool) (replies : Replies) → sum_by (called_weight called (λ kept. 1)) replies ≤ length replies
count-few called replies = omega (arith, called-few called (λ kept. 1) replies, counted replies)

pub bytes-few : (called : Kept → Bool) (replies : Replies) → sum_by (called_weight called (λ kept. length kept.body)) replies ≤ bytes_of replies
bytes-few called replies = called-few called (λ kept. length kept.body) replies

pub unsaid-few : (called : Kept → Bool) (messages : List Message) (replies : Replies) → unsaid_weight (called_weight called (λ kept. 1)) messages replies ≤ length replies
unsaid-few called messages replies = omega (arith, all-unsaid (called_weight called (λ kept. 1)) messages replies, count-few called replies)

pub unsaid-short : (called : Kept → Bool) (messages : List Message) (replies : Replies) → unsaid_weight (called_weight called (λ kept. length kept.body)) messages replies ≤ bytes_of replies
unsaid-short called messages replies = omega (arith, all-unsaid (called_weight called (λ kept. length kept.body)) messages replies, bytes-few called replies)

-- ---- no more is left to be said

pub said-more : (before after : List Message) (message : Message) → after ≡ before ++ message ∷ [] → StaySaid before after
said-more before after message owed = subst (λ (messages : List Message). StaySaid before messages) (sym owed) (more-said before message)

-- where a further message is owed and the same replies are kept
pub none-more : (standing after : SessionState) (owing left : Dues) → after.outbox ≡ standing.outbox → StaySaid owing.messages left.messages → NoMoreUnsaid standing owing after left
none-more standing after owing left same stays =
    let weighs : (weight : Kept → ℕ) → unsaid_weight weight left.messages after.outbox.replies ≤ unsaid_weight weight owing.messages standing.outbox.replies =
    λ weight. subst (λ (outbox : Contents). unsaid_weight weight left.messages outbox.replies ≤ unsaid_weight weight owing.messages standing.outbox.replies) (sym same)
    (unsaid-fewer weight owing.messages left.messages standing.outbox.replies stays) in
    record { count = λ called. weighs (called_weight called (λ kept. 1)); bytes = λ called. weighs (called_weight called (λ kept. length kept.body)) }

pub no-more-kept : (standing after : SessionState) (owing : Dues) → FewerKept standing after → NoMoreUnsaid standing owing after owing
no-more-kept standing after owing fewer = record { count = λ called. fewer (called_weight called (λ kept. 1)) owing.messages; bytes = λ called. fewer (called_weight called (λ kept. length kept.body)) owing.messages }

-- of some replies some stay
abbrev FewerReplies : Replies → Replies → Type 0
FewerReplies before after = (weight : Kept → ℕ) (messages : List Message) → unsaid_weight weight messages after ≤ unsaid_weight weight messages before

fewer-as-before : (before after : Replies) → after ≡ before → FewerReplies before after
fewer-as-before before after same weight messages =
    let weighs : unsaid_weight weight messages after ≡ unsaid_weight weight messages before = ap (unsaid_weight weight messages) same in
    omega arith

fewer-dropped : (weight : Kept → ℕ) (messages : List Message) (replies : Replies) → unsaid_weight weight messages (drop 1 replies) ≤ unsaid_weight weight messages replies
fewer-dropped weight messages [] = omega arith
fewer-dropped weight messages (kept ∷ replies) = omega (arith, sum_by-cons (one_weight weight messages) kept replies)

-- where room was made
pub fewer-with-room : (len : ℕ) (before after : Replies) → after ≡ with_room_for len before → FewerReplies before after
fewer-with-room len before after made weight messages =
    elim (cases_Bool (fits len before)) [
      | inl fit ↦ fewer-as-before before after (made ∙ cond-true (fits len before) before (drop 1 before) fit) weight messages
      | inr full ↦
          let weighs : unsaid_weight weight messages after ≡ unsaid_weight weight messages (drop 1 before) =
          ap (unsaid_weight weight messages) (made ∙ cond-false (fits len before) before (drop 1 before) full) in
          let fewer = fewer-dropped weight messages before in
          omega arith
    ]

fewer-without : (weight : Kept → ℕ) (messages : List Message) (number : ℕ) (replies : Replies)
    → unsaid_weight weight messages (without_number number replies) ≤ unsaid_weight weight messages replies
fewer-without weight messages number [] = omega arith
fewer-without weight messages number (kept ∷ replies) =
    let all = sum_by-cons (one_weight weight messages) kept replies in
    elim (cases_Bool (eqb kept.number number)) [
      | inl here ↦
          let weighs : unsaid_weight weight messages (without_number number (kept ∷ replies)) ≡ unsaid_weight weight messages replies =
          ap (unsaid_weight weight messages) (cond-true (eqb kept.number number) replies (kept ∷ without_number number replies) here) in
          omega arith
      | inr other ↦
          let weighs : unsaid_weight weight messages (without_number number (kept ∷ replies)) ≡ unsaid_weight weight messages (kept ∷ without_number number replies) =
          ap (unsaid_weight weight messages) (cond-false (eqb kept.number number) replies (kept ∷ without_number number replies) other) in
          let left = sum_by-cons (one_weight weight messages) kept (without_number number replies) in
          let rest = fewer-without weight messages number replies in
          omega arith
    ]

-- where one was taken out
pub fewer-taken : (number : ℕ) (before after : Replies) → after ≡ without_number number before → FewerReplies before after
fewer-taken number before after left weight messages =
    let weighs : unsaid_weight weight messages after ≡ unsaid_weight weight messages (without_number number before) = ap (unsaid_weight weight messages) left in
    let fewer = fewer-without weight messages number before in
    omega arith

-- a further kept reply that was said weighs nothing
further-said : (weight : Kept → ℕ) (messages : List Message) (replies : Replies) (kept : Kept) → has_number kept.number messages ≡ true
    → unsaid_weight weight messages (replies ++ kept ∷ []) ≡ unsaid_weight weight messages replies
further-said weight messages replies kept said =
    let parts = sum_by-append (one_weight weight messages) replies (kept ∷ []) in
    let own : one_weight weight messages kept ≡ 0 = cond-true _ 0 (weight kept) said in
    let last = sum_by-cons (one_weight weight messages) kept [] in
    omega arith

-- where an answer is owed, room is made, and it is kept
pub none-more-answered : (standing told roomy after : SessionState) (owing left : Dues) (kept : Kept) → told.outbox ≡ standing.outbox → StaySaid owing.messages left.messages
    → has_number kept.number left.messages ≡ true → FewerKept told roomy → after.outbox.replies ≡ roomy.outbox.replies ++ kept ∷ [] → NoMoreUnsaid standing owing after left
none-more-answered standing told roomy after owing left kept same stays said fewer further =
    let weighs : (weight : Kept → ℕ) → unsaid_weight weight left.messages after.outbox.replies ≤ unsaid_weight weight owing.messages standing.outbox.replies =
    λ weight.
    let own : unsaid_weight weight left.messages after.outbox.replies ≡ unsaid_weight weight left.messages roomy.outbox.replies =
    ap (unsaid_weight weight left.messages) further ∙ further-said weight left.messages roomy.outbox.replies kept said in
    let before : unsaid_weight weight left.messages told.outbox.replies ≡ unsaid_weight weight left.messages standing.outbox.replies =
    ap (λ (outbox : Contents). unsaid_weight weight left.messages outbox.replies) same in
    let room = fewer weight left.messages in
    let told = unsaid-fewer weight owing.messages left.messages standing.outbox.replies stays in
    omega arith in
    record { count = λ called. weighs (called_weight called (λ kept. 1)); bytes = λ called. weighs (called_weight called (λ kept. length kept.body)) }

-- ---- how many are called for at most

one-more : (test which : Kept → Bool) (weight : Kept → ℕ) (kept : Kept)
    → called_weight (λ one. test one || which one) weight kept ≤ called_weight test weight kept + called_weight which weight kept
one-more test which weight kept =
    elim (cases_Bool (test kept)) [
      | inl is ↦
          let all : called_weight (λ one. test one || which one) weight kept ≡ weight kept = weighs-called (λ one. test one || which one) weight kept (or_left (test kept) (which kept) is) in
          let own = weighs-called test weight kept is in
          omega arith
      | inr other ↦
          let same : called_weight (λ one. test one || which one) weight kept ≡ called_weight which weight kept = ap (λ (so : Bool). cond (so || which kept) (weight kept) 0) other in
          omega arith
    ]

sums-more : (test which : Kept → Bool) (weight : Kept → ℕ) (replies : Replies)
    → sum_by (called_weight (λ one. test one || which one) weight) replies ≤ sum_by (called_weight test weight) replies + sum_by (called_weight which weight) replies
sums-more test which weight [] = omega arith
sums-more test which weight (kept ∷ replies) =
    omega (
      arith,
      one-more test which weight kept,
      sums-more test which weight replies,
      sum_by-cons (called_weight (λ one. test one || which one) weight) kept replies,
      sum_by-cons (called_weight test weight) kept replies,
      sum_by-cons (called_weight which weight) kept replies,
    )

-- where none passes nothing is called for
sum-none : (test : Kept → Bool) (weight : Kept → ℕ) (replies : Replies) → find test replies ≡ None → sum_by (called_weight test weight) replies ≡ 0
sum-none test weight [] none = refl
sum-none test weight (kept ∷ replies) none =
    elim (cases_Bool (test kept)) [
      | inl is ↦ absurd (none-some kept (sym none ∙ cond-true (test kept) (Some kept) (find test replies) is))
      | inr fails ↦
          let rest = sum-none test weight replies (sym (cond-false (test kept) (Some kept) (find test replies) fails) ∙ none) in
          let nothing : called_weight test weight kept ≡ 0 = cond-false (test kept) (weight kept) 0 fails in
          omega (arith, sum_by-cons (called_weight test weight) kept replies)
    ]

-- where one passes at most, it is what is found
sum-one : (test : Kept → Bool) (weight : Kept → ℕ) (replies : Replies) (kept : Kept) → PassesOnce test replies → find test replies ≡ Some kept
    → sum_by (called_weight test weight) replies ≤ weight kept
sum-one test weight [] kept once found = absurd (none-some kept found)
sum-one test weight (first ∷ replies) kept once found =
    let all = sum_by-cons (called_weight test weight) first replies in
    elim (cases_Bool (test first)) [
      | inl here ↦
          let same : first ≡ kept = same_Some first kept (sym (cond-true _ (Some first) (find test replies) here) ∙ found) in
          let weighs : weight first ≡ weight kept = ap weight same in
          let own = weighs-called test weight first here in
          let rest = sum-none test weight replies (once.0 here) in
          omega arith
      | inr later ↦
          let rest = sum-one test weight replies kept once.1 (sym (cond-false _ (Some first) (find test replies) later) ∙ found) in
          let nothing : called_weight test weight first ≡ 0 = cond-false (test first) (weight first) 0 later in
          omega arith
    ]

-- what is found is called for too
pub called-found : (test which : Kept → Bool) (weight : Kept → ℕ) (replies : Replies) (kept : Kept) (most : ℕ) → PassesOnce test replies → find test replies ≡ Some kept
    → sum_by (called_weight which weight) replies ≤ most → sum_by (called_weight (λ one. test one || which one) weight) replies ≤ most + weight kept
called-found test which weight replies kept most once found is = omega (arith, is, sums-more test which weight replies, sum-one test weight replies kept once found)

pub called-none : (test which : Kept → Bool) (weight : Kept → ℕ) (replies : Replies) (most : ℕ) → find test replies ≡ None
    → sum_by (called_weight which weight) replies ≤ most → sum_by (called_weight (λ one. test one || which one) weight) replies ≤ most
called-none test which weight replies most none is = omega (arith, is, sums-more test which weight replies, sum-none test weight replies none)

-- each key stands once, so what is looked for by one passes once
pub once-by-key : (key : Kept → ℕ) (n : ℕ) (replies : Replies) → EachOnce key replies → PassesOnce (λ kept. eqb (key kept) n) replies
once-by-key key n [] once = tt
once-by-key key n (kept ∷ replies) once = (
  λ is. subst (λ (number : ℕ). find (λ (other : Kept). eqb (key other) number) replies ≡ None) (eqb-true (key kept) n is) once.0,
  once-by-key key n replies once.1,
)

-- fewer are called for
pub fewer-called : (called more : Kept → Bool) (standing : SessionState) (most : Called) → CallsFor called more → IsCalled more standing most → IsCalled called standing most
fewer-called called more standing most calls is =
    let replies = standing.outbox.replies in
    record {
      count = omega (arith, is.count, sums-less called more (λ kept. 1) replies calls);
      bytes = omega (arith, is.bytes, sums-less called more (λ kept. length kept.body) replies calls);
      few = is.few;
      short = is.short;
    }

-- what of them wasn't said is no more than they are
pub unsaid-called : (called : Kept → Bool) (standing : SessionState) (owing : Dues) (most : Called) → IsCalled called standing most
    → (unsaid_count called standing owing ≤ most.count) × (unsaid_bytes called standing owing ≤ most.bytes)
unsaid-called called standing owing most is =
    let replies = standing.outbox.replies in (
      omega (arith, is.count, all-unsaid (called_weight called (λ kept. 1)) owing.messages replies),
      omega (arith, is.bytes, all-unsaid (called_weight called (λ kept. length kept.body)) owing.messages replies),
    )
