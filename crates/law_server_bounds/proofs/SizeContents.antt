-- Contents of answers that aren't the service's are whole words.
use Rattle.std.proofs.Common.{◌≡◌, ◌∙◌, ℕ, ◌%◌, ◌≤◌, ◌==◌, eqb, ltb, Bool, true, false, cond, Option, Some, None, List, [], ◌∷◌, length, ap, refl, arith}
use Rattle.std.specs.List.{list_all, list_any}
use Rattle.std.specs.Option.{option_or}
use Rattle.std.proofs.lemmas.Bool.{and_parts, cond_both, ltb-true}
use Rattle.tl_codec.specs.Spelling.{spelling}
use Rattle.service_tl.specs.declared.item.Item.TheVariants.{RpcAnswerUnknown, RpcAnswerDropped}
use Rattle.service_tl.specs.Items.{spelling_of}
use Rattle.service_tl.specs.Schema.{service_numbers, gzip_packed}
use Rattle.octets.specs.Bytes.{IsBytes}
use Rattle.law_server_bounds.specs.Small.{IsContent}
use Rattle.law_server_bounds.proofs.Items.{bytes-cons, bytes-nil, dropped-bytes}
use Rattle.server_rules.specs.Speaking.{auth_key_perm_empty, packed_body_refused, bad_body, jobs_full, msg_wait_failed, msg_wait_timeout, encrypted_message_invalid}
use Rattle.server_rules.specs.Calls.{query_refusal, if_so, dropped_running, bool_true_content}

tested : (xs : List ℕ) → list_all (λ x. ltb x 256) xs ≡ true → IsBytes xs
tested [] is = bytes-nil
tested (x ∷ xs) is = let both = and_parts _ _ is in bytes-cons x xs (ltb-true _ _ both.0) (tested xs both.1)

such : (content : List ℕ) (size : ℕ) → length content ≡ size → size % 4 ≡ 0 → size ≤ 1000 → list_all (λ x. ltb x 256) content ≡ true → IsContent content
such content size is words few bytes = (record { words = ap (λ (n : ℕ). n % 4) is ∙ words; short = omega (arith, is, few) }, tested content bytes)

pub packed-content : IsContent packed_body_refused
unfolding spelling
packed-content = such packed_body_refused 28 refl refl (omega arith) refl

pub bad-content : IsContent bad_body
unfolding spelling
bad-content = such bad_body 20 refl refl (omega arith) refl

pub invalid-content : IsContent encrypted_message_invalid
unfolding spelling
invalid-content = such encrypted_message_invalid 36 refl refl (omega arith) refl

unbound-content : IsContent auth_key_perm_empty
unfolding spelling
unbound-content = such auth_key_perm_empty 28 refl refl (omega arith) refl

full-content : IsContent jobs_full
unfolding spelling
full-content = such jobs_full 20 refl refl (omega arith) refl

pub failed-content : IsContent msg_wait_failed
unfolding spelling
failed-content = such msg_wait_failed 24 refl refl (omega arith) refl

pub timeout-content : IsContent msg_wait_timeout
unfolding spelling
timeout-content = such msg_wait_timeout 28 refl refl (omega arith) refl

pub running-content : IsContent dropped_running
unfolding spelling
running-content = such dropped_running 4 refl refl (omega arith) refl

pub true-content : IsContent bool_true_content
unfolding spelling
true-content = such bool_true_content 4 refl refl (omega arith) refl

pub unknown-content : IsContent (spelling_of RpcAnswerUnknown)
unfolding spelling
unknown-content = such (spelling_of RpcAnswerUnknown) 4 refl refl (omega arith) refl

pub dropped-content : (number seq bytes : ℕ) → IsContent (spelling_of (RpcAnswerDropped number seq bytes))
unfolding spelling
dropped-content number seq bytes =
    let size : length (spelling_of (RpcAnswerDropped number seq bytes)) ≡ 20 = refl in (
      record { words = ap (λ (n : ℕ). n % 4) size; short = omega (arith, size) },
      dropped-bytes number seq bytes,
    )

-- ---- what is answered in place of a job

abbrev AreWords : Option (List ℕ) → Type 0
AreWords None = Unit {0}
AreWords (Some content) = IsContent content

either-content : (one other : Option (List ℕ)) → AreWords one → AreWords other → AreWords (option_or one other)
either-content None other a b = b
either-content (Some content) other a b = a

if-content : (test : Bool) (content : List ℕ) → IsContent content → AreWords (if_so test content)
if-content true content words = words
if-content false content words = tt

query-content : (found : Option ℕ) → AreWords (query_refusal found)
query-content None = tt
query-content (Some number) =
    let rest : AreWords (cond (list_any (λ service. number == service) service_numbers) (Some bad_body) None) =
    cond_both (list_any (λ service. number == service) service_numbers) (Some bad_body) None AreWords (λ is. bad-content) (λ is. tt) in
    cond_both (eqb number gzip_packed) (Some packed_body_refused) (cond (list_any (λ service. number == service) service_numbers) (Some bad_body) None) AreWords
    (λ is. packed-content) (λ is. rest)

-- by the answer that is due, where there is one
pub refused-by : (R : Option (List ℕ) → Type 0) (unbound full failed : Bool) (found : Option ℕ) → ((content : List ℕ) → IsContent content → R (Some content)) → R None
    → R (option_or (if_so unbound auth_key_perm_empty) (option_or (query_refusal found) (option_or (if_so full jobs_full) (if_so failed msg_wait_failed))))
refused-by R unbound full failed found some none =
    by _ (either-content (if_so unbound auth_key_perm_empty) _ (if-content unbound auth_key_perm_empty unbound-content)
    (either-content (query_refusal found) _ (query-content found)
    (either-content (if_so full jobs_full) (if_so failed msg_wait_failed) (if-content full jobs_full full-content) (if-content failed msg_wait_failed failed-content))))
  where
    by : (refusal : Option (List ℕ)) → AreWords refusal → R refusal
    by None words = none
    by (Some content) words = some content words
