-- How many kept replies of a session an event hasn't said yet.
use Rattle.std.proofs.Common.{◌≡◌, ◌∙◌, ℕ, zero, suc, ◌+◌, ◌≤◌, ◌<◌, ◌==◌, ◌&&◌, Bool, true, false, cond, List, [], ◌∷◌, ◌++◌, length, get_or, ap, sym, subst, refl, arith, inl, inr}
use Rattle.std.specs.Prelude.{map, not, ◌⊎◌, ◌||◌}
use Rattle.std.specs.List.{Contains, list_any}
use Rattle.std.proofs.lemmas.Bool.{cases_Bool, cond-true, cond-false, cond_both, and_parts, and_from, eq-eqb, false≢true}
use Rattle.std.proofs.lemmas.List.Folds.{list_any-append}
use Rattle.outbox.specs.Replies.{fits}
use Rattle.waits.specs.Jobs.{one_if}
use Rattle.server_rules.specs.Server.{Name, Reply, is_kept, kept_of, kept_replies, is_same}
use Rattle.server_rules.specs.Event.{Owed}
use Rattle.server_rules.specs.Speaking.{dropped, made_room, message_of}
use Rattle.law_server_bounds.proofs.Kept.{OnlyDrops, kept-first, kept-other}
use Rattle.law_server_bounds.proofs.Names.{names-same}

-- the session of this name has said the message of this number
abbrev pub has : Name → List Owed → ℕ → Bool
has name owed number = list_any (λ one. is_same one.name name && (one.message.number == number)) owed

abbrev pub is_unsaid : Name → List Owed → Reply → Bool
is_unsaid name owed reply = is_kept reply && not (has name owed reply.number)

abbrev pub unsaid : Name → List Owed → List Reply → ℕ
unsaid name owed [] = 0
unsaid name owed (reply ∷ replies) = one_if (is_unsaid name owed reply) + unsaid name owed replies

one_if-le : (one other : Bool) → (one ≡ true → other ≡ true) → one_if one ≤ one_if other
one_if-le true true then = omega arith
one_if-le true false then = absurd (false≢true (then refl))
one_if-le false other then = omega arith

pub not-true : (one : Bool) → not one ≡ true → one ≡ false
not-true true is = absurd (false≢true is)
not-true false is = refl

false-not : (one : Bool) → one ≡ false → not one ≡ true
false-not one is = ap not is

or-parts : (one other : Bool) → (one || other) ≡ false → one ≡ false
or-parts true other is = absurd (false≢true (sym is))
or-parts false other is = refl

off-zero : (one : Bool) → one ≡ false → one_if one ≡ 0
off-zero one is = cond-false one 1 0 is

-- ---- more is owed

further : (name : Name) (owed later : List Owed) (reply : Reply) → is_unsaid name (owed ++ later) reply ≡ true → is_unsaid name owed reply ≡ true
further name owed later reply is =
    let parts = and_parts (is_kept reply) (not (has name (owed ++ later) reply.number)) is in
    let none = not-true (has name (owed ++ later) reply.number) parts.1 in
    let both = list_any-append (λ (one : Owed). is_same one.name name && (one.message.number == reply.number)) owed later in
    and_from (is_kept reply) (not (has name owed reply.number)) parts.0
    (false-not (has name owed reply.number) (or-parts (has name owed reply.number) (has name later reply.number) (sym both ∙ none)))

pub unsaid-further : (name : Name) (owed later : List Owed) (replies : List Reply) → unsaid name (owed ++ later) replies ≤ unsaid name owed replies
unsaid-further name owed later [] = omega arith
unsaid-further name owed later (reply ∷ replies) =
    let rest = unsaid-further name owed later replies in
    let first = one_if-le (is_unsaid name (owed ++ later) reply) (is_unsaid name owed reply) (further name owed later reply) in
    omega (arith, rest, first)

has-last : (name : Name) (owed : List Owed) (one : Owed) → is_same one.name name ≡ true → has name (owed ++ one ∷ []) one.message.number ≡ true
has-last name [] one own =
    let test = and_from (is_same one.name name) (one.message.number == one.message.number) own (eq-eqb one.message.number one.message.number refl) in
    rw test refl
has-last name (first ∷ owed) one own =
    let rest = has-last name owed one own in
    let test = is_same first.name name && (first.message.number == one.message.number) in
    elim (cases_Bool test) [ inl is ↦ rw is refl | inr is ↦ rw is rest ]

-- what is said is unsaid no more
said-off : (name : Name) (owed : List Owed) (one : Owed) (reply : Reply) → is_same one.name name ≡ true → one.message.number ≡ reply.number
    → is_unsaid name (owed ++ one ∷ []) reply ≡ false
said-off name owed one reply own same =
    let N : ℕ → Type 0 = λ number. has name (owed ++ one ∷ []) number ≡ true in
    let there : has name (owed ++ one ∷ []) reply.number ≡ true = subst N same (has-last name owed one own) in
    elim (cases_Bool (is_unsaid name (owed ++ one ∷ []) reply)) [
      | inl is ↦
          let parts = and_parts (is_kept reply) (not (has name (owed ++ one ∷ []) reply.number)) is in
          absurd (false≢true (sym (not-true (has name (owed ++ one ∷ []) reply.number) parts.1) ∙ there))
      | inr is ↦ is
    ]

-- ---- replies that change

changed : (name : Name) (owed : List Owed) (reply after : Reply) → (after ≡ reply) ⊎ (is_kept after ≡ false) → one_if (is_unsaid name owed after) ≤ one_if (is_unsaid name owed reply)
changed name owed reply after (inl same) =
    let P : Reply → Type 0 = λ after. one_if (is_unsaid name owed after) ≤ one_if (is_unsaid name owed reply) in
    subst P (sym same) (omega arith)
changed name owed reply after (inr fails) =
    one_if-le (is_unsaid name owed after) (is_unsaid name owed reply)
    (λ is. absurd (false≢true (sym fails ∙ (and_parts (is_kept after) (not (has name owed after.number)) is).0)))

pub unsaid-changed : (change : Reply → Reply) → OnlyDrops change → (name : Name) (owed : List Owed) (replies : List Reply)
    → unsaid name owed (map change replies) ≤ unsaid name owed replies
unsaid-changed change only name owed [] = omega arith
unsaid-changed change only name owed (reply ∷ replies) =
    let rest = unsaid-changed change only name owed replies in
    let first = changed name owed reply (change reply) (only reply).1 in
    omega (arith, rest, first)

abbrev Same : Reply → Reply → Type 0
Same reply after = (after ≡ reply) ⊎ (is_kept after ≡ false)

dropped-kept : (reply : Reply) → Same reply (dropped reply)
dropped-kept reply = cond_both (is_kept reply) _ reply (Same reply) (λ is. inr refl) (λ is. inl refl)

room-unsaid : (bytes : ℕ) (name : Name) (owed : List Owed) (replies : List Reply) → unsaid name owed (made_room bytes replies) ≤ unsaid name owed replies
room-unsaid bytes name owed [] = omega arith
room-unsaid bytes name owed (reply ∷ replies) =
    let rest = room-unsaid bytes name owed replies in
    let after = cond (fits bytes (kept_replies (reply ∷ replies))) reply (dropped reply) in
    let same : Same reply after = cond_both (fits bytes (kept_replies (reply ∷ replies))) reply (dropped reply) (Same reply) (λ is. inl refl) (λ is. dropped-kept reply) in
    let first = changed name owed reply after same in
    omega (arith, rest, first)

unsaid-push : (name : Name) (owed : List Owed) (replies : List Reply) (reply : Reply)
    → unsaid name owed (replies ++ reply ∷ []) ≡ unsaid name owed replies + one_if (is_unsaid name owed reply)
unsaid-push name owed [] reply = omega arith
unsaid-push name owed (first ∷ replies) reply = let rest = unsaid-push name owed replies reply in omega (arith, rest)

-- an answer is said as it is kept
pub unsaid-answered : (bytes : ℕ) (name : Name) (owed : List Owed) (one : Owed) (replies : List Reply) (reply : Reply) → is_same one.name name ≡ true
    → one.message.number ≡ reply.number → unsaid name (owed ++ one ∷ []) (made_room bytes replies ++ reply ∷ []) ≤ unsaid name owed replies
unsaid-answered bytes name owed one replies reply own same =
    let off = off-zero (is_unsaid name (owed ++ one ∷ []) reply) (said-off name owed one reply own same) in
    let pushed = unsaid-push name (owed ++ one ∷ []) (made_room bytes replies) reply in
    let room = room-unsaid bytes name (owed ++ one ∷ []) replies in
    let more = unsaid-further name owed (one ∷ []) replies in
    omega (arith, off, pushed, room, more)

-- a kept reply that is said was unsaid before
said-at : (name : Name) (owed : List Owed) (one : Owed) (reply : Reply) (replies : List Reply) (k : ℕ) → k < length replies → get_or replies k reply ≡ reply
    → is_kept reply ≡ true → has name owed reply.number ≡ false → is_same one.name name ≡ true → one.message.number ≡ reply.number
    → unsaid name (owed ++ one ∷ []) replies + 1 ≤ unsaid name owed replies
said-at name owed one reply [] k within is kept none own same = absurd (omega (arith, within))
said-at name owed one reply (first ∷ replies) zero within is kept none own same =
    let P : Reply → Type 0 = λ first. unsaid name (owed ++ one ∷ []) (first ∷ replies) + 1 ≤ unsaid name owed (first ∷ replies) in
    let off = off-zero (is_unsaid name (owed ++ one ∷ []) reply) (said-off name owed one reply own same) in
    let was : is_unsaid name owed reply ≡ true = and_from (is_kept reply) (not (has name owed reply.number)) kept (false-not (has name owed reply.number) none) in
    let on : one_if (is_unsaid name owed reply) ≡ 1 = cond-true (is_unsaid name owed reply) 1 0 was in
    let more = unsaid-further name owed (one ∷ []) replies in
    subst P (sym is) (omega (arith, off, on, more))
said-at name owed one reply (first ∷ replies) (suc k) within is kept none own same =
    let rest = said-at name owed one reply replies k (omega (arith, within)) is kept none own same in
    let more = one_if-le (is_unsaid name (owed ++ one ∷ []) first) (is_unsaid name owed first) (further name owed (one ∷ []) first) in
    omega (arith, rest, more)

pub unsaid-said : (name : Name) (owed : List Owed) (one : Owed) (reply : Reply) (replies : List Reply) → Contains replies reply
    → is_kept reply ≡ true → has name owed reply.number ≡ false → is_same one.name name ≡ true → one.message.number ≡ reply.number
    → unsaid name (owed ++ one ∷ []) replies + 1 ≤ unsaid name owed replies
unsaid-said name owed one reply replies there kept none own same = said-at name owed one reply replies there.0 there.1 there.2 kept none own same

-- there are as many as kept replies at most
pub unsaid-kept : (name : Name) (replies : List Reply) → unsaid name [] replies ≤ length (kept_replies replies)
unsaid-kept name [] = omega arith
unsaid-kept name (reply ∷ replies) =
    let rest = unsaid-kept name replies in
    elim (cases_Bool (is_kept reply)) [
      | inl is ↦
          let first = ap (λ kept. length kept) (kept-first reply replies is) in
          let one : one_if (is_unsaid name [] reply) ≤ 1 = cond_both (is_unsaid name [] reply) 1 0 (λ (n : ℕ). n ≤ 1) (λ is. omega arith) (λ is. omega arith) in
          omega (arith, rest, first, one)
      | inr is ↦
          let first = ap (λ kept. length kept) (kept-other reply replies is) in
          let none = off-zero (is_unsaid name [] reply) (ap (λ (kept : Bool). kept && not (has name [] reply.number)) is) in
          omega (arith, rest, first, none)
    ]
