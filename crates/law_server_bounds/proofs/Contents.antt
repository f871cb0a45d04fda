-- Contents that are kept: all but the service's own are short.
use Rattle.std.proofs.Common.{◌≡◌, ◌∙◌, ℕ, ◌+◌, ◌≤◌, ◌==◌, eqb, Bool, true, false, cond, Option, Some, None, List, [], ◌∷◌, ◌++◌, length, ap, sym, subst, refl, arith}
use Rattle.std.specs.Prelude.{if◌then◌else◌}
use Rattle.std.specs.List.{list_any}
use Rattle.std.specs.Option.{option_or}
use Rattle.std.proofs.lemmas.Bool.{cond_both}
use Rattle.std.proofs.lemmas.List.{length-append}
use Rattle.tl_codec.specs.Spelling.{Int, Long, spelling}
use Rattle.service_tl.specs.declared.item.Item.TheVariants.{RpcResult, RpcAnswerUnknown, RpcAnswerDropped}
use Rattle.service_tl.specs.Items.{spelling_of}
use Rattle.service_tl.specs.Schema.{service_numbers, gzip_packed, rpc_result}
use Rattle.outbox.specs.Replies.{kept_bytes_max}
use Rattle.regs_service.specs.Served.{reply_bytes_max}
use Rattle.server_rules.specs.Speaking.{auth_key_perm_empty, packed_body_refused, bad_body, jobs_full, msg_wait_failed, msg_wait_timeout, encrypted_message_invalid}
use Rattle.server_rules.specs.Calls.{query_refusal, if_so, dropped_running, bool_true_content}
use Rattle.law_server_bounds.proofs.Lists.{some-same, none-some}

-- as the reply to any call it has at most as many bytes as all kept replies may have
abbrev pub Fits : List ℕ → Type 0
Fits content = (call : ℕ) → length (spelling_of (RpcResult call content)) ≤ kept_bytes_max

int-four : (n : ℕ) → length (spelling Int n) ≡ 4
unfolding spelling
int-four n = refl

long-eight : (n : ℕ) → length (spelling Long n) ≡ 8
unfolding spelling
long-eight n = refl

pub length-result : (call : ℕ) (content : List ℕ) → length (spelling_of (RpcResult call content)) ≡ 12 + length content
length-result call content =
    let tag = int-four rpc_result.number in
    let number = long-eight call in
    let first = length-append (spelling Int rpc_result.number) (spelling Long call ++ (content ++ [])) in
    let second = length-append (spelling Long call) (content ++ []) in
    let third = length-append content [] in
    omega (arith, tag, number, first, second, third)

pub short-fits : (content : List ℕ) → length content ≤ reply_bytes_max → Fits content
short-fits content short = λ call. let all = length-result call content in omega (arith, short, all)

length-fits : (content : List ℕ) (bytes : ℕ) → length content ≡ bytes → bytes ≤ 1000 → Fits content
length-fits content bytes is few = short-fits content (omega (arith, is, few))

pub packed-fits : Fits packed_body_refused
unfolding spelling
packed-fits = length-fits packed_body_refused 28 refl (omega arith)

pub bad_body-fits : Fits bad_body
unfolding spelling
bad_body-fits = length-fits bad_body 20 refl (omega arith)

pub invalid-fits : Fits encrypted_message_invalid
unfolding spelling
invalid-fits = length-fits encrypted_message_invalid 36 refl (omega arith)

pub unbound-fits : Fits auth_key_perm_empty
unfolding spelling
unbound-fits = length-fits auth_key_perm_empty 28 refl (omega arith)

pub full-fits : Fits jobs_full
unfolding spelling
full-fits = length-fits jobs_full 20 refl (omega arith)

pub failed-fits : Fits msg_wait_failed
unfolding spelling
failed-fits = length-fits msg_wait_failed 24 refl (omega arith)

pub timeout-fits : Fits msg_wait_timeout
unfolding spelling
timeout-fits = length-fits msg_wait_timeout 28 refl (omega arith)

pub running-fits : Fits dropped_running
unfolding spelling
running-fits = length-fits dropped_running 4 refl (omega arith)

pub true-fits : Fits bool_true_content
unfolding spelling
true-fits = length-fits bool_true_content 4 refl (omega arith)

pub unknown-fits : Fits (spelling_of RpcAnswerUnknown)
unfolding spelling
unknown-fits = length-fits (spelling_of RpcAnswerUnknown) 4 refl (omega arith)

pub dropped-fits : (number seq bytes : ℕ) → Fits (spelling_of (RpcAnswerDropped number seq bytes))
unfolding spelling
dropped-fits number seq bytes = length-fits (spelling_of (RpcAnswerDropped number seq bytes)) 20 refl (omega arith)

-- ---- what is answered in place of a job

abbrev AllFit : Option (List ℕ) → Type 0
AllFit refused = (content : List ℕ) → refused ≡ Some content → Fits content

that-fits : (content : List ℕ) → Fits content → AllFit (Some content)
that-fits content fits = λ other is. subst Fits (some-same content other is) fits

none-fits : AllFit None
none-fits = λ content is. absurd (none-some content is)

pub query-fits : (found : Option ℕ) → AllFit (query_refusal found)
query-fits None = none-fits
query-fits (Some number) =
    let rest : AllFit (cond (list_any (λ service. number == service) service_numbers) (Some bad_body) None) =
    cond_both (list_any (λ service. number == service) service_numbers) (Some bad_body) None AllFit (λ is. that-fits bad_body bad_body-fits) (λ is. none-fits) in
    cond_both (eqb number gzip_packed) (Some packed_body_refused) (cond (list_any (λ service. number == service) service_numbers) (Some bad_body) None) AllFit
    (λ is. that-fits packed_body_refused packed-fits) (λ is. rest)

-- by the first answer that is due: each fits, and there is none only where the session isn't full
pub refusal-by : (R : Option (List ℕ) → Type 0) (unbound full failed : Bool) (query : Option (List ℕ)) → AllFit query
    → ((content : List ℕ) → Fits content → R (Some content)) → (full ≡ false → R None)
    → R (option_or (if_so unbound auth_key_perm_empty) (option_or query (option_or (if_so full jobs_full) (if_so failed msg_wait_failed))))
refusal-by R true full failed query fits some none = some auth_key_perm_empty unbound-fits
refusal-by R false full failed (Some content) fits some none = some content (fits content refl)
refusal-by R false true failed None fits some none = some jobs_full full-fits
refusal-by R false false true None fits some none = some msg_wait_failed failed-fits
refusal-by R false false false None fits some none = none refl
