-- Room for one more reply.
use Rattle.std.proofs.Common.{◌≡◌, ◌∙◌, ℕ, ◌+◌, ◌≤◌, true, false, cond, List, [], ◌∷◌, ◌++◌, length, drop, ap, subst, sym, refl, arith, inl, inr}
use Rattle.std.proofs.lemmas.Bool.{and_from, and_parts, cases_Bool, cond-true, cond-false, ltb-true, leb-true, lt-ltb, le-leb}
use Rattle.std.proofs.lemmas.List.{length_push}
use Rattle.std.proofs.lemmas.List.Sums.{sum_by-cons, sum_by-append}
use Rattle.outbox.specs.declared.kept.Kept.{Kept}
use Rattle.outbox.specs.Replies.{Replies, IsWithin, fits, bytes_of, kept_replies_max, kept_bytes_max}
use Rattle.server_rules.specs.Server.{Reply, is_kept, kept_of, kept_replies}
use Rattle.server_rules.specs.Speaking.{dropped, made_room, without_oldest}

-- ---- kept replies, one reply after the other

kept-first : (reply : Reply) (replies : List Reply) → is_kept reply ≡ true → kept_replies (reply ∷ replies) ≡ kept_of reply ∷ kept_replies replies
kept-first reply replies is = rw is refl

kept-other : (reply : Reply) (replies : List Reply) → is_kept reply ≡ false → kept_replies (reply ∷ replies) ≡ kept_replies replies
kept-other reply replies is = rw is refl

dropped-other : (reply : Reply) → is_kept reply ≡ false → dropped reply ≡ reply
dropped-other reply is = rw is refl

dropped-is_kept : (reply : Reply) → is_kept (dropped reply) ≡ false
dropped-is_kept reply = elim (cases_Bool (is_kept reply)) [ inl is ↦ rw is refl | inr is ↦ rw is is ]

dropped-twice : (reply : Reply) → dropped (dropped reply) ≡ dropped reply
dropped-twice reply = dropped-other (dropped reply) (dropped-is_kept reply)

kept-dropped : (reply : Reply) (replies : List Reply) → kept_replies (dropped reply ∷ replies) ≡ kept_replies replies
kept-dropped reply replies = kept-other (dropped reply) replies (dropped-is_kept reply)

-- ---- what fits beside more fits beside fewer

fits-fewer : (bytes : ℕ) (kept : Kept) (others : Replies) → fits bytes (kept ∷ others) ≡ true → fits bytes others ≡ true
fits-fewer bytes kept others is =
    let parts = and_parts _ _ is in
    let count = ltb-true (length (kept ∷ others)) kept_replies_max parts.0 in
    let size = leb-true (bytes_of (kept ∷ others) + bytes) kept_bytes_max parts.1 in
    let cons = sum_by-cons (λ (one : Kept). length one.body) kept others in
    and_from _ _ (lt-ltb (length others) kept_replies_max (omega arith)) (le-leb (bytes_of others + bytes) kept_bytes_max (omega arith))

fits-rest : (bytes : ℕ) (reply : Reply) (replies : List Reply) → fits bytes (kept_replies (reply ∷ replies)) ≡ true → fits bytes (kept_replies replies) ≡ true
fits-rest bytes reply replies is =
    elim (cases_Bool (is_kept reply)) [
      | inl kept ↦ fits-fewer bytes (kept_of reply) (kept_replies replies) (ap (fits bytes) (sym (kept-first reply replies kept)) ∙ is)
      | inr other ↦ ap (fits bytes) (sym (kept-other reply replies other)) ∙ is
    ]

-- ---- making room

-- the first reply after room was made
abbrev first_of : ℕ → Reply → List Reply → Reply
first_of bytes reply replies = cond (fits bytes (kept_replies (reply ∷ replies))) reply (dropped reply)

first_dropped : (bytes : ℕ) (reply : Reply) (replies : List Reply) → first_of bytes (dropped reply) replies ≡ dropped reply
first_dropped bytes reply replies =
    elim (cases_Bool (fits bytes (kept_replies (dropped reply ∷ replies)))) [
      | inl is ↦ cond-true _ (dropped reply) (dropped (dropped reply)) is
      | inr is ↦ cond-false _ (dropped reply) (dropped (dropped reply)) is ∙ dropped-twice reply
    ]

first_stays : (bytes : ℕ) (reply : Reply) (replies : List Reply) → is_kept reply ≡ false → first_of bytes reply replies ≡ reply
first_stays bytes reply replies other =
    elim (cases_Bool (fits bytes (kept_replies (reply ∷ replies)))) [
      | inl is ↦ cond-true _ reply (dropped reply) is
      | inr is ↦ cond-false _ reply (dropped reply) is ∙ dropped-other reply other
    ]

pub room-there : (bytes : ℕ) (replies : List Reply) → fits bytes (kept_replies replies) ≡ true → made_room bytes replies ≡ replies
room-there bytes [] is = refl
room-there bytes (reply ∷ replies) is =
    ap (λ (first : Reply). first ∷ made_room bytes replies) (cond-true _ reply (dropped reply) is)
    ∙ ap (λ (rest : List Reply). reply ∷ rest) (room-there bytes replies (fits-rest bytes reply replies is))

pub room-more : (bytes : ℕ) (replies : List Reply) → fits bytes (kept_replies replies) ≡ false → made_room bytes replies ≡ made_room bytes (without_oldest replies)
room-more bytes [] is = refl
room-more bytes (reply ∷ replies) is =
    let others = made_room bytes replies in
    elim (cases_Bool (is_kept reply)) [
      | inl kept ↦
          ap (λ (first : Reply). first ∷ others) (cond-false _ reply (dropped reply) is ∙ sym (first_dropped bytes reply replies))
          ∙ ap (made_room bytes) (sym (cond-true (is_kept reply) (dropped reply ∷ replies) (reply ∷ without_oldest replies) kept))
      | inr other ↦
          let rest : fits bytes (kept_replies replies) ≡ false = ap (fits bytes) (sym (kept-other reply replies other)) ∙ is in
          let stays : first_of bytes reply replies ≡ reply = cond-false _ reply (dropped reply) is ∙ dropped-other reply other in
          (ap (λ (first : Reply). first ∷ others) (stays ∙ sym (first_stays bytes reply (without_oldest replies) other))
          ∙ ap (λ (more : List Reply). first_of bytes reply (without_oldest replies) ∷ more) (room-more bytes replies rest))
          ∙ ap (made_room bytes) (sym (cond-false (is_kept reply) (dropped reply ∷ replies) (reply ∷ without_oldest replies) other))
    ]

pub oldest-dropped : (replies : List Reply) → kept_replies (without_oldest replies) ≡ drop 1 (kept_replies replies)
oldest-dropped [] = refl
oldest-dropped (reply ∷ replies) =
    elim (cases_Bool (is_kept reply)) [
      | inl kept ↦
          ap kept_replies (cond-true (is_kept reply) (dropped reply ∷ replies) (reply ∷ without_oldest replies) kept)
          ∙ (kept-dropped reply replies ∙ ap (drop 1) (sym (kept-first reply replies kept)))
      | inr other ↦
          ap kept_replies (cond-false (is_kept reply) (dropped reply ∷ replies) (reply ∷ without_oldest replies) other)
          ∙ (kept-other reply (without_oldest replies) other ∙ (oldest-dropped replies ∙ ap (drop 1) (sym (kept-other reply replies other))))
    ]

-- ---- what is kept afterwards

pub room-fits : (bytes : ℕ) (replies : List Reply) → bytes ≤ kept_bytes_max → fits bytes (kept_replies (made_room bytes replies)) ≡ true
room-fits bytes [] small = and_from _ _ (lt-ltb 0 kept_replies_max (omega arith)) (le-leb (0 + bytes) kept_bytes_max (omega arith))
room-fits bytes (reply ∷ replies) small =
    elim (cases_Bool (fits bytes (kept_replies (reply ∷ replies)))) [
      | inl is ↦ ap (λ (rest : List Reply). fits bytes (kept_replies rest)) (room-there bytes (reply ∷ replies) is) ∙ is
      | inr is ↦
          ap (λ (first : Reply). fits bytes (kept_replies (first ∷ made_room bytes replies))) (cond-false _ reply (dropped reply) is)
          ∙ (ap (fits bytes) (kept-dropped reply (made_room bytes replies)) ∙ room-fits bytes replies small)
    ]

kept-append : (replies : List Reply) (reply : Reply) → is_kept reply ≡ true → kept_replies (replies ++ reply ∷ []) ≡ kept_replies replies ++ kept_of reply ∷ []
kept-append [] reply is = kept-first reply [] is
kept-append (first ∷ replies) reply is =
    elim (cases_Bool (is_kept first)) [
      | inl kept ↦
          kept-first first (replies ++ reply ∷ []) kept
          ∙ (ap (λ (rest : Replies). kept_of first ∷ rest) (kept-append replies reply is)
          ∙ ap (λ (rest : Replies). rest ++ kept_of reply ∷ []) (sym (kept-first first replies kept)))
      | inr other ↦
          kept-other first (replies ++ reply ∷ []) other
          ∙ (kept-append replies reply is ∙ ap (λ (rest : Replies). rest ++ kept_of reply ∷ []) (sym (kept-other first replies other)))
    ]

pub reply-within : (replies : List Reply) (reply : Reply) → is_kept reply ≡ true → length (kept_of reply).body ≤ kept_bytes_max
    → IsWithin (kept_replies (made_room (length (kept_of reply).body) replies ++ reply ∷ []))
reply-within replies reply is small =
    let bytes = length (kept_of reply).body in
    let made = made_room bytes replies in
    let parts = and_parts _ _ (room-fits bytes replies small) in
    let count = ltb-true (length (kept_replies made)) kept_replies_max parts.0 in
    let size = leb-true (bytes_of (kept_replies made) + bytes) kept_bytes_max parts.1 in
    let longer = length_push (kept_replies made) (kept_of reply) in
    let heavier = sum_by-append (λ (one : Kept). length one.body) (kept_replies made) (kept_of reply ∷ []) in
    let single = sum_by-cons (λ (one : Kept). length one.body) (kept_of reply) [] in
    let P : Replies → Type 0 = IsWithin in
    subst P (sym (kept-append made reply is)) (record { count = omega arith; bytes = omega arith })
