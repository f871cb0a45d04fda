-- Kept replies of which some are kept no more stay within the limits.
use Rattle.std.proofs.Common.{◌≡◌, ◌∙◌, ℕ, ◌+◌, ◌≤◌, eqb, Bool, true, false, cond, List, [], ◌∷◌, length, ap, sym, subst, refl, arith, inl, inr}
use Rattle.std.specs.Prelude.{map, ◌⊎◌, ◌&&◌, ◌==◌}
use Rattle.std.specs.List.{list_any}
use Rattle.std.proofs.lemmas.Bool.{cases_Bool, cond-true, cond-false, cond_both}
use Rattle.std.proofs.lemmas.List.Sums.{sum_by-cons}
use Rattle.outbox.specs.declared.kept.Kept.{Kept}
use Rattle.outbox.specs.Replies.{Replies, IsWithin, bytes_of, kept_replies_max, kept_bytes_max}
use Rattle.server_rules.specs.Server.{Reply, WasAcked, is_kept, kept_of, kept_replies}
use Rattle.server_rules.specs.Speaking.{dropped}
use Rattle.server_rules.specs.Rows.{acked_by}

pub kept-first : (reply : Reply) (replies : List Reply) → is_kept reply ≡ true → kept_replies (reply ∷ replies) ≡ kept_of reply ∷ kept_replies replies
kept-first reply replies is = rw is refl

pub kept-other : (reply : Reply) (replies : List Reply) → is_kept reply ≡ false → kept_replies (reply ∷ replies) ≡ kept_replies replies
kept-other reply replies is = rw is refl

-- a reply stays as it is, or is kept no more, and stays that to its call
abbrev pub OnlyDrops : (Reply → Reply) → Type 0
OnlyDrops change = (reply : Reply) → ((change reply).call ≡ reply.call) × ((change reply ≡ reply) ⊎ (is_kept (change reply) ≡ false))

abbrev IsLess : Replies → Replies → Type 0
IsLess one other = (length one ≤ length other) × (bytes_of one ≤ bytes_of other)

less-cons : (kept : Kept) (one other : Replies) → IsLess one other → IsLess one (kept ∷ other)
less-cons kept one other less =
    let cons = sum_by-cons (λ (one : Kept). length one.body) kept other in
    (omega (arith, less.0), omega (arith, less.1, cons))

less-both : (kept : Kept) (one other : Replies) → IsLess one other → IsLess (kept ∷ one) (kept ∷ other)
less-both kept one other less =
    let cons = sum_by-cons (λ (one : Kept). length one.body) kept other in
    let cons_one = sum_by-cons (λ (one : Kept). length one.body) kept one in
    (omega (arith, less.0), omega (arith, less.1, cons, cons_one))

first-less : (reply : Reply) (replies : List Reply) (one : Replies) → IsLess one (kept_replies replies) → IsLess one (kept_replies (reply ∷ replies))
first-less reply replies one less =
    let P : Replies → Type 0 = λ other. IsLess one other in
    elim (cases_Bool (is_kept reply)) [
      | inl is ↦ subst P (sym (kept-first reply replies is)) (less-cons (kept_of reply) one (kept_replies replies) less)
      | inr is ↦ subst P (sym (kept-other reply replies is)) less
    ]

same-less : (reply : Reply) (replies others : List Reply) → IsLess (kept_replies replies) (kept_replies others) → IsLess (kept_replies (reply ∷ replies)) (kept_replies (reply ∷ others))
same-less reply replies others less =
    let P : Replies → Type 0 = λ one. IsLess one (kept_replies (reply ∷ others)) in
    let Q : Replies → Type 0 = λ other. IsLess (kept_of reply ∷ kept_replies replies) other in
    elim (cases_Bool (is_kept reply)) [
      | inl is ↦
          subst P (sym (kept-first reply replies is)) (subst Q (sym (kept-first reply others is)) (less-both (kept_of reply) (kept_replies replies) (kept_replies others) less))
      | inr is ↦ subst P (sym (kept-other reply replies is)) (first-less reply others (kept_replies replies) less)
    ]

drops-less : (change : Reply → Reply) → OnlyDrops change → (replies : List Reply) → IsLess (kept_replies (map change replies)) (kept_replies replies)
drops-less change only [] = (omega arith, omega arith)
drops-less change only (reply ∷ replies) =
    let rest = drops-less change only replies in
    let P : Reply → Type 0 = λ first. IsLess (kept_replies (first ∷ map change replies)) (kept_replies (reply ∷ replies)) in
    elim (only reply).1 [
      | inl same ↦ subst P (sym same) (same-less reply (map change replies) replies rest)
      | inr fails ↦
          let Q : Replies → Type 0 = λ one. IsLess one (kept_replies (reply ∷ replies)) in
          subst Q (sym (kept-other (change reply) (map change replies) fails)) (first-less reply replies (kept_replies (map change replies)) rest)
    ]

pub drops-within : (change : Reply → Reply) → OnlyDrops change → (replies : List Reply) → IsWithin (kept_replies replies) → IsWithin (kept_replies (map change replies))
drops-within change only replies within =
    let less = drops-less change only replies in
    let count = within.count in
    let bytes = within.bytes in
    record { count = omega (arith, less.0, count); bytes = omega (arith, less.1, bytes) }

-- ---- the changes that are

abbrev Same : Reply → Reply → Type 0
Same reply changed = (changed.call ≡ reply.call) × ((changed ≡ reply) ⊎ (is_kept changed ≡ false))

dropped-only : (reply : Reply) → Same reply (dropped reply)
dropped-only reply = cond_both (is_kept reply) _ reply (Same reply) (λ is. (refl, inr refl)) (λ is. (refl, inl refl))

pub dropped_at-only : (number : ℕ) → OnlyDrops (λ other. cond (eqb other.number number) (dropped other) other)
dropped_at-only number = λ reply.
    cond_both (eqb reply.number number) (dropped reply) reply (Same reply) (λ is. dropped-only reply) (λ is. (refl, inl refl))

pub acked-only : (numbers : List ℕ) → OnlyDrops (acked_by numbers)
acked-only numbers = λ reply.
    cond_both (is_kept reply && list_any (λ number. number == reply.number) numbers) (record reply { fate = WasAcked }) reply (Same reply) (λ is. (refl, inr refl)) (λ is. (refl, inl refl))
