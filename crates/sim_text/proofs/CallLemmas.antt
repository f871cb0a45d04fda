-- The calls of a client, as far as they were gone through.
use Rattle.std.proofs.Common.{◌≡◌, ◌∙◌, ℕ, ◌+◌, ◌-◌, Bool, true, false, if◌then◌else◌, List, [], ◌∷◌, ◌++◌, Option, Some, None, length, take, slice_get, refl, ap, sym, subst, append-nil, append_assoc, length-append, arith}
use Rattle.std.specs.Prelude.{option_map}
use Rattle.std.specs.List.{filter}
use Rattle.std.proofs.lemmas.List.{length-take-le}
use Rattle.std.proofs.lemmas.List.Elements.{filter-append}
use Rattle.std.proofs.lemmas.Option.{slice_get_within}
use Rattle.call_table.specs.Table.{Call, State, state_at}
use Rattle.world_rules.specs.Report.{call_line, call_lines, count_of, is_done, is_refused, is_unknown}
use Rattle.sim_text.specs.Counts.{Tally, counted, more_if, tally_of}
use Rattle.sim_text.proofs.BagLemmas.{take_more}

-- a call in this state
pub record IsAt (calls : List Call) (place : ℕ) (state : State) : Type 0 where
  pub call : Call
  pub here : slice_get calls place ≡ Some call
  pub told : call.state ≡ state

found : (calls : List Call) (place : ℕ) (state : State) (one : Option Call) → slice_get calls place ≡ one
    → option_map (λ call. call.state) one ≡ Some state → IsAt calls place state
found calls place state None here told = cc
found calls place state (Some call) here told = record { call = call; here = here; told = cc }

pub call_at : (calls : List Call) (place : ℕ) (state : State) → state_at (record { n = place + 1 }) calls ≡ Some state → IsAt calls place state
call_at calls place state told =
    let same : place + 1 - 1 ≡ place = omega arith in
    found calls place state (slice_get calls place) refl (subst (λ n. option_map (λ (call : Call). call.state) (slice_get calls n) ≡ Some state) same told)

-- the line of one more call
pub lines_append : (client number : ℕ) (calls : List Call) (call : Call)
    → call_lines client number (calls ++ call ∷ []) ≡ call_lines client number calls ++ call_line client (number + length calls) call
lines_append client number [] call =
    let same : number ≡ number + 0 = omega arith in
    append-nil (call_line client number call) ∙ ap (λ n. call_line client n call) same
lines_append client number (first ∷ calls) call =
    let same : number + 1 + length calls ≡ number + length (first ∷ calls) = omega arith in
    ap (λ lines. call_line client number first ++ lines) (lines_append client (number + 1) calls call)
    ∙ (ap (λ n. call_line client number first ++ (call_lines client (number + 1) calls ++ call_line client n call)) same
    ∙ sym (append_assoc (call_line client number first) (call_lines client (number + 1) calls) (call_line client (number + length (first ∷ calls)) call)))

pub lines_more : (client : ℕ) (calls : List Call) (place : ℕ) (call : Call) → slice_get calls place ≡ Some call
    → call_lines client 1 (take (place + 1) calls) ≡ call_lines client 1 (take place calls) ++ call_line client (place + 1) call
lines_more client calls place call here =
    let less = slice_get_within calls place call here in
    let count : length (take place calls) ≡ place = length-take-le place calls (omega arith) in
    let same : 1 + length (take place calls) ≡ place + 1 = omega arith in
    ap (call_lines client 1) (take_more calls place call here)
    ∙ (lines_append client 1 (take place calls) call ∙ ap (λ n. call_lines client 1 (take place calls) ++ call_line client n call) same)

-- one more call is counted
more_by : (n : ℕ) (b : Bool) (rest : List Call) (call : Call) → rest ≡ [] → n + length (if b then call ∷ rest else rest) ≡ more_if b n
more_by n true rest call none = rw none refl
more_by n false rest call none = let same : n + 0 ≡ n = omega arith in rw none same

count_more : (is : State → Bool) (calls : List Call) (call : Call) → count_of is (calls ++ call ∷ []) ≡ more_if (is call.state) (count_of is calls)
count_more is calls call =
    ap length (filter-append (λ (one : Call). is one.state) calls (call ∷ []))
    ∙ (length-append (filter (λ (one : Call). is one.state) calls) (filter (λ (one : Call). is one.state) (call ∷ []))
    ∙ more_by (count_of is calls) (is call.state) [] call refl)

pub tally_more : (calls : List Call) (call : Call) → tally_of (calls ++ call ∷ []) ≡ counted call.state (tally_of calls)
tally_more calls call =
    let all : length (calls ++ call ∷ []) ≡ length calls + 1 = length-append calls (call ∷ []) in
    rw (all, count_more is_done calls call, count_more is_refused calls call, count_more is_unknown calls call) refl

-- with one more line the lines so far are those of one more call
pub lines_on : (old text : List ℕ) (client : ℕ) (calls : List Call) (place : ℕ) (call : Call) → slice_get calls place ≡ Some call
    → text ≡ old ++ call_lines client 1 (take place calls)
    → text ++ call_line client (place + 1) call ≡ old ++ call_lines client 1 (take (place + 1) calls)
lines_on old text client calls place call here so_far =
    ap (λ front. front ++ call_line client (place + 1) call) so_far
    ∙ (append_assoc old (call_lines client 1 (take place calls)) (call_line client (place + 1) call)
    ∙ ap (λ lines. old ++ lines) (sym (lines_more client calls place call here)))

-- and with one more call counted, so is the count
pub tally_on : (before calls : List Call) (place : ℕ) (call : Call) (tally : Tally) → slice_get calls place ≡ Some call
    → tally ≡ tally_of (before ++ take place calls) → counted call.state tally ≡ tally_of (before ++ take (place + 1) calls)
tally_on before calls place call tally here so_far =
    ap (counted call.state) so_far
    ∙ (sym (tally_more (before ++ take place calls) call)
    ∙ ap tally_of (append_assoc before (take place calls) (call ∷ []) ∙ ap (λ more. before ++ more) (sym (take_more calls place call here))))
