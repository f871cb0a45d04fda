-- The table of a client's calls, as far as they were gone through, and whether they are done.
use Rattle.std.proofs.Common.{◌≡◌, ◌∙◌, ℕ, ◌+◌, ◌-◌, ◌&&◌, Bool, true, false, List, [], ◌∷◌, ◌++◌, Option, Some, None, length, take, slice_get, get_or, refl, ap, sym, subst, append-nil, append_assoc, add-one, arith}
use Rattle.std.specs.Prelude.{option_map}
use Rattle.std.specs.List.{list_any}
use Rattle.std.proofs.Math.Seq.{take-suc}
use Rattle.std.proofs.lemmas.List.{length-take-le}
use Rattle.std.proofs.lemmas.List.Folds.{list_all_at, list_all_more}
use Rattle.std.proofs.lemmas.Option.{get_or_from_slice_get, slice_get_within}
use Rattle.call_table.specs.Table.{Call, State, is_open, state_at}
use Rattle.call_table.specs.Table as table
use Rattle.client_node.specs.Course.{is_undecided}
use Rattle.world_rules.specs.Report.{is_done}
use Rattle.cmd_call.specs.Table.{are_done, lines_from, table_line}

-- a call in this state
pub record IsAt (calls : List Call) (place : ℕ) (state : State) : Type 0 where
  pub call : Call
  pub here : slice_get calls place ≡ Some call
  pub told : call.state ≡ state

found : (calls : List Call) (place : ℕ) (state : State) (one : Option Call) → slice_get calls place ≡ one
    → option_map (λ call. call.state) one ≡ Some state → IsAt calls place state
found calls place state None here told = cc
found calls place state (Some call) here told = record { call = call; here = here; told = cc }

pub call_at : (calls : List Call) (place : ℕ) (state : State) → state_at (record { n = place + 1 }) calls ≡ Some state → IsAt calls place state
call_at calls place state told =
    let same : place + 1 - 1 ≡ place = omega arith in
    found calls place state (slice_get calls place) refl (subst (λ n. option_map (λ (call : Call). call.state) (slice_get calls n) ≡ Some state) same told)

take-one : (calls : List Call) (place : ℕ) (call : Call) → slice_get calls place ≡ Some call → take (place + 1) calls ≡ take place calls ++ call ∷ []
take-one calls place call here =
    ap (λ n. take n calls) (add-one place)
    ∙ (take-suc calls place call (slice_get_within calls place call here) ∙ ap (λ one. take place calls ++ one ∷ []) (get_or_from_slice_get calls place call call here))

-- ---- lines

lines-append : (number : ℕ) (calls : List Call) (call : Call) → lines_from number (calls ++ call ∷ []) ≡ lines_from number calls ++ table_line (number + length calls) call
lines-append number [] call =
    let same : number ≡ number + 0 = omega arith in
    append-nil (table_line number call) ∙ ap (λ n. table_line n call) same
lines-append number (first ∷ calls) call =
    let same : number + 1 + length calls ≡ number + length (first ∷ calls) = omega arith in
    ap (λ lines. table_line number first ++ lines) (lines-append (number + 1) calls call)
    ∙ (ap (λ n. table_line number first ++ (lines_from (number + 1) calls ++ table_line n call)) same
    ∙ sym (append_assoc (table_line number first) (lines_from (number + 1) calls) (table_line (number + length (first ∷ calls)) call)))

-- with one more line they are those of one more call
pub lines_on : (text : List ℕ) (calls : List Call) (place : ℕ) (call : Call) → slice_get calls place ≡ Some call
    → text ≡ lines_from 1 (take place calls) → text ++ table_line (place + 1) call ≡ lines_from 1 (take (place + 1) calls)
lines_on text calls place call here so_far =
    let less = slice_get_within calls place call here in
    let count : length (take place calls) ≡ place = length-take-le place calls (omega arith) in
    let same : place + 1 ≡ 1 + length (take place calls) = omega arith in
    ap (λ front. front ++ table_line (place + 1) call) so_far
    ∙ (ap (λ n. lines_from 1 (take place calls) ++ table_line n call) same
    ∙ sym (ap (lines_from 1) (take-one calls place call here) ∙ lines-append 1 (take place calls) call))

-- ---- whether each is done

at-place : (calls : List Call) (place : ℕ) (call : Call) → slice_get calls place ≡ Some call → is_done (get_or calls place call).state ≡ is_done call.state
at-place calls place call here = ap (λ (one : Call). is_done one.state) (get_or_from_slice_get calls place call call here)

pub done_on : (calls : List Call) (place : ℕ) (call : Call) → slice_get calls place ≡ Some call → is_done call.state ≡ true
    → are_done (take place calls) ≡ true → are_done (take (place + 1) calls) ≡ true
done_on calls place call here done so_far =
    let one = at-place calls place call here ∙ done in
    list_all_more (λ (each : Call). is_done each.state) calls place call (slice_get_within calls place call here) ∙ rw (so_far, one) refl

pub not_done : (calls : List Call) (place : ℕ) (call : Call) → slice_get calls place ≡ Some call → is_done call.state ≡ false → are_done calls ≡ false
not_done calls place call here undone =
    list_all_at (λ (each : Call). is_done each.state) calls place call (slice_get_within calls place call here) (at-place calls place call here ∙ undone)

-- ---- a call that is done is decided

done-closed : (state : State) → is_done state ≡ true → is_open state ≡ false
done-closed table.Queued done = cc
done-closed table.Sent done = cc
done-closed table.Held done = cc
done-closed (table.Done reply) done = refl
done-closed (table.Refused code) done = refl
done-closed (table.Unknown cause) done = refl

first-done : (one rest : Bool) → (one && rest) ≡ true → (one ≡ true) × (rest ≡ true)
first-done true rest all = (refl, all)
first-done false rest all = absurd cc

pub done_decided : (calls : List Call) → are_done calls ≡ true → list_any is_undecided calls ≡ false
done_decided [] done = refl
done_decided (call ∷ calls) done =
    let both = first-done (is_done call.state) (are_done calls) done in
    rw (done-closed call.state both.0, done_decided calls both.1) refl
