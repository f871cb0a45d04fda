-- Kept replies that are said once more, one after the other.
use Rattle.std.proofs.Common.{◌≡◌, ◌∙◌, ◌+◌, ◌≤◌, ◌<◌, ◌∷◌, ℕ, [], List, Some, ap, sym, subst, arith, fold, get_or, length, take}
use Rattle.std.specs.List.{filter, slice_get}
use Rattle.std.proofs.lemmas.List.{take_more, take_all, length-map, get_or-map}
use Rattle.std.proofs.lemmas.List.Sums.{sum_by_more, sum_by-take-le}
use Rattle.std.proofs.lemmas.Grind.{fold-append}
use Rattle.std.proofs.lemmas.Option.{get_or_from_slice_get, slice_get_within}
use Rattle.outbox.specs.declared.kept.Kept.{Kept}
use Rattle.outbox.specs.Replies.{Replies, bytes_of}
use Rattle.server_output.specs.Dues.{Dues}
use Rattle.server_rules.specs.Server.{IsKept, Reply, is_kept, kept_of, kept_replies}
use Rattle.server_rules.specs.Event.{Speaker}
use Rattle.server_rules.specs.Speaking.{says_again}
use Rattle.server_session.specs.declared.session.SessionState.{SessionState}
use Rattle.server_session.specs.Says.{Says}

abbrev pub said_again : {S : Type 0} → Speaker S → List Reply → Speaker S
said_again speaker replies = fold (λ so_far reply. says_again reply so_far) speaker replies

-- the kept replies up to this place are said once more, in no more room than they need
pub record SaidSoFar (S : Type 0) (standing : SessionState) (before : Dues) (place : ℕ) (after : Dues) : Type 0 where
  pub says : (now : ℕ) (draw : S) (speaker : Speaker S) → Says now standing before draw speaker
      → Says now standing after draw (said_again speaker (take place (filter is_kept speaker.session.replies)))
  pub places : before.places ≤ after.places + place
  pub room : before.room ≤ after.room + bytes_of (take place standing.outbox.replies)
  pub places_taken : after.places_taken ≡ before.places_taken
  pub bytes_taken : after.bytes_taken ≡ before.bytes_taken

abbrev no-reply : Reply
no-reply = record { call = 0; number = 0; seq = 0; content = []; fate = IsKept }

abbrev pub no-kept : Kept
no-kept = record { call = 0; number = 0; seq = 0; body = [] }

-- the reply at a place of those that are kept
kept-at : (replies : List Reply) (all : Replies) (place : ℕ) (kept : Kept) → all ≡ kept_replies replies → slice_get all place ≡ Some kept
    → place < length (filter is_kept replies) → kept_of (get_or (filter is_kept replies) place no-reply) ≡ kept
kept-at replies all place kept same at within =
    sym (get_or-map kept_of (filter is_kept replies) place no-reply no-kept within)
    ∙ get_or_from_slice_get (kept_replies replies) place kept no-kept (ap (λ (xs : Replies). slice_get xs place) (sym same) ∙ at)

pub bytes-more : (all : Replies) (place : ℕ) (kept : Kept) → slice_get all place ≡ Some kept → bytes_of (take (place + 1) all) ≡ bytes_of (take place all) + length kept.body
bytes-more all place kept at =
    sum_by_more (λ (k : Kept). length k.body) all place kept (slice_get_within all place kept at)
    ∙ ap (λ (k : Kept). bytes_of (take place all) + length k.body) (get_or_from_slice_get all place kept kept at)

pub bytes-within : (all : Replies) (place : ℕ) → bytes_of (take place all) ≤ bytes_of all
bytes-within all place = sum_by-take-le (λ (k : Kept). length k.body) all place

pub said-more : {S : Type 0} (standing : SessionState) (before so_far after : Dues) (place : ℕ) (kept : Kept) → slice_get standing.outbox.replies place ≡ Some kept
    → ((now : ℕ) (draw : S) (speaker : Speaker S) (reply : Reply) → kept_of reply ≡ kept → Says now standing so_far draw speaker → Says now standing after draw (says_again reply speaker))
    → so_far.places ≤ after.places + 1 → so_far.room ≤ after.room + length kept.body
    → (after.places_taken ≡ so_far.places_taken) × (after.bytes_taken ≡ so_far.bytes_taken)
    → SaidSoFar S standing before place so_far → SaidSoFar S standing before (place + 1) after
said-more {S} standing before so_far after place kept at says places room taken said =
    let more = bytes-more standing.outbox.replies place kept at in
    let first_places = said.places in
    let first_room = said.room in
    record {
      says = λ now draw speaker is.
          let replies = filter is_kept speaker.session.replies in
          let within : place < length replies = subst (λ (n : ℕ). place < n)
          (ap (λ (xs : Replies). length xs) is.stands.outbox ∙ length-map replies kept_of) (slice_get_within standing.outbox.replies place kept at) in
          let same = kept-at speaker.session.replies standing.outbox.replies place kept is.stands.outbox at within in
          let all = said_again speaker (take place replies) in
          let step : said_again speaker (take (place + 1) replies) ≡ says_again (get_or replies place no-reply) all =
          ap (said_again speaker) (take_more replies place no-reply within) ∙ fold-append (λ (so_far : Speaker S) (reply : Reply). says_again reply so_far) speaker (take place replies) (get_or replies place no-reply ∷ []) in
          subst (λ (speaker : Speaker S). Says now standing after draw speaker) (sym step) (says now draw all (get_or replies place no-reply) same (said.says now draw speaker is));
      places = omega arith;
      room = omega arith;
      places_taken = taken.0 ∙ said.places_taken;
      bytes_taken = taken.1 ∙ said.bytes_taken;
    }

pub said-all : {S : Type 0} (standing : SessionState) (before after : Dues) (place : ℕ) → length standing.outbox.replies ≤ place → SaidSoFar S standing before place after
    → (now : ℕ) (draw : S) (speaker : Speaker S) → Says now standing before draw speaker → Says now standing after draw (said_again speaker (filter is_kept speaker.session.replies))
said-all {S} standing before after place past said now draw speaker is =
    let replies = filter is_kept speaker.session.replies in
    let end : length replies ≤ place = subst (λ (n : ℕ). n ≤ place) (ap (λ (xs : Replies). length xs) is.stands.outbox ∙ length-map replies kept_of) past in
    subst (λ (xs : List Reply). Says now standing after draw (said_again speaker xs)) (take_all place replies end) (said.says now draw speaker is)
