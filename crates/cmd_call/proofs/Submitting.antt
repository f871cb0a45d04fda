-- A client that is given the calls of a script, one after the other.
use Rattle.std.proofs.Common.{◌≡◌, ◌∙◌, ℕ, ◌+◌, ◌<◌, ◌≤◌, List, [], ◌∷◌, ◌++◌, length, get_or, take, drop, Option, Some, None, IfSome, Err, slice_get, ap, sym, subst, add-one, drop-cons, length-append, arith}
use Rattle.std.proofs.lemmas.List.{length-take-le, take_more, take_all}
use Rattle.std.proofs.lemmas.List.Sums.{fold-append}
use Rattle.std.proofs.Math.ListN.{drop_of_length-le}
use Rattle.std.proofs.lemmas.Option.{slice_get-get_or}
use Rattle.call_script.specs.declared.script.ScriptCall.{ScriptCall}
use Rattle.call_table.specs.declared.call.CallNo.{CallNo}
use Rattle.call_table.specs.Table.{new_call}
use Rattle.client_core.specs.Told.{TellsFault}
use Rattle.client_core.specs.declared.fault.SubmitFault.{SubmitFault}
use Rattle.client_core.specs.declared.fault.SubmitFault.TheVariants as submit
use Rattle.client_rules.specs.Asking.{Fault, fault_at, submit_fault, submitted}
use Rattle.client_rules.specs.Client.{Client, calls_of}
use Rattle.sim_text.specs.Faults.{fault_of}
use Rattle.cmd_call.specs.Inner.{IsAt}
use Rattle.cmd_call.specs.Script.{earlier_of, first_of, given, given_all, untaken, untaken_from}
use Rattle.cmd_call.specs.Script as script

-- how many calls it has then
given-count : (calls : List ScriptCall) (whole : Client) → length (calls_of (given_all calls whole)) ≡ length (calls_of whole) + length calls
given-count [] whole = omega arith
given-count (call ∷ calls) whole =
    let more = given-count calls (given whole call) in
    let one : length (calls_of whole ++ new_call call.body (earlier_of call.after) ∷ []) ≡ length (calls_of whole) + 1 = length-append (calls_of whole) (new_call call.body (earlier_of call.after) ∷ []) in
    more ∙ omega (arith, one)

pub one_given : (calls : List ScriptCall) (k : ℕ) (whole : Client) → k ≤ length calls → calls_of whole ≡ [] → length (calls_of (given_all (take k calls) whole)) ≡ k
one_given calls k whole within none =
    let zero : length (calls_of whole) ≡ 0 = ap length none in
    let taken : length (take k calls) ≡ k = length-take-le k calls within in
    given-count (take k calls) whole ∙ omega (arith, zero, taken)

-- a refusal of the next call is that of the script
at-line : (due : Option Fault) (later all : Option (ℕ × Fault)) (line : ℕ) (fault : SubmitFault) → all ≡ first_of line due later
    → TellsFault {X = CallNo} due (Err fault) → IsAt all line (fault_of fault)
at-line due later all line (submit.TooLong len) is told = is ∙ ap (λ (d : Option Fault). first_of line d later) told
at-line due later all line (submit.NotWords len) is told = is ∙ ap (λ (d : Option Fault). first_of line d later) told
at-line due later all line (submit.ServiceTag tag) is told = is ∙ ap (λ (d : Option Fault). first_of line d later) told
at-line due later all line submit.NoSuchCall is told = is ∙ ap (λ (d : Option Fault). first_of line d later) told
at-line due later all line submit.TooMany is told = is ∙ ap (λ (d : Option Fault). first_of line d later) told
at-line due later all line submit.Memory is told = tt

after-at : (one : Option ScriptCall) (told : Option ℕ) (after : Option CallNo) → after ≡ earlier_of told → IfSome one (λ call. told ≡ call.after)
    → IfSome one (λ call. after ≡ earlier_of call.after)
after-at None told after is here = tt
after-at (Some call) told after is here = is ∙ ap earlier_of here

-- the earlier call of a line
pub after_of : (calls : List ScriptCall) (k : ℕ) (told : Option ℕ) (after : Option CallNo) → after ≡ earlier_of told → IfSome (slice_get calls k) (λ call. told ≡ call.after)
    → IfSome (slice_get calls k) (λ call. after ≡ earlier_of call.after)
after_of calls k told after is here = after-at (slice_get calls k) told after is here

module _ (calls : List ScriptCall) (k : ℕ) (body : List ℕ) (after : Option CallNo) (within : k < length calls) (own_body : IfSome (slice_get calls k) (λ call. body ≡ call.body)) (own_after : IfSome (slice_get calls k) (λ call. after ≡ earlier_of call.after)) where
  abbrev any : ScriptCall
  any = record { body = body; after = None; line = 0 }

  abbrev next : ScriptCall
  next = get_or calls k any

  found : slice_get calls k ≡ Some next
  found = slice_get-get_or calls k any within

  its-body : body ≡ next.body
  its-body = subst (λ (o : Option ScriptCall). IfSome o (λ call. body ≡ call.body)) found own_body

  its-after : after ≡ earlier_of next.after
  its-after = subst (λ (o : Option ScriptCall). IfSome o (λ call. after ≡ earlier_of call.after)) found own_after

  rest : drop k calls ≡ next ∷ drop (k + 1) calls
  rest = drop-cons calls k any within ∙ ap (λ n. next ∷ drop n calls) (sym (add-one k))

  its-fault : (whole : Client) → calls_of whole ≡ [] → submit_fault body after (given_all (take k calls) whole) ≡ script.fault_of k next
  its-fault whole none =
      let less : k ≤ length calls = omega arith in
      ap (λ n. fault_at n body after) (one_given calls k whole less none)
      ∙ (ap (λ (b : List ℕ). fault_at k b after) its-body ∙ ap (λ (a : Option CallNo). fault_at k next.body a) its-after)

  -- the client behind it
  pub gives_on : (whole : Client) → submitted body after (given_all (take k calls) whole) ≡ given_all (take (k + 1) calls) whole
  gives_on whole =
      ap (λ (b : List ℕ). submitted b after (given_all (take k calls) whole)) its-body
      ∙ (ap (λ (a : Option CallNo). submitted next.body a (given_all (take k calls) whole)) its-after
      ∙ (sym (fold-append given whole (take k calls) (next ∷ []))
      ∙ ap (λ (all : List ScriptCall). given_all all whole) (sym (take_more calls k any within))))

  -- it is taken, so what isn't comes later
  pub taken_on : (whole : Client) → calls_of whole ≡ [] → submit_fault body after (given_all (take k calls) whole) ≡ None
      → untaken_from (k + 1) (drop (k + 1) calls) ≡ untaken_from k (drop k calls)
  taken_on whole none taken =
      sym (ap (untaken_from k) rest ∙ ap (λ (due : Option Fault). first_of next.line due (untaken_from (k + 1) (drop (k + 1) calls))) (sym (its-fault whole none) ∙ taken))

  -- it isn't, and is the first one
  pub untaken_here : (whole : Client) (line : ℕ) (fault : SubmitFault) → calls_of whole ≡ [] → IfSome (slice_get calls k) (λ call. line ≡ call.line)
      → untaken_from k (drop k calls) ≡ untaken calls → TellsFault {X = CallNo} (submit_fault body after (given_all (take k calls) whole)) (Err fault)
      → IsAt (untaken calls) line (fault_of fault)
  untaken_here whole line fault none here so_far told =
      let own_line : line ≡ next.line = subst (λ (o : Option ScriptCall). IfSome o (λ call. line ≡ call.line)) found here in
      at-line (script.fault_of k next) (untaken_from (k + 1) (drop (k + 1) calls)) (untaken calls) line fault
      (sym so_far ∙ (ap (untaken_from k) rest ∙ ap (λ n. first_of n (script.fault_of k next) (untaken_from (k + 1) (drop (k + 1) calls))) (sym own_line)))
      (subst (λ (due : Option Fault). TellsFault {X = CallNo} due (Err fault)) (its-fault whole none) told)

-- ---- its end

pub none_untaken : (calls : List ScriptCall) (k : ℕ) → length calls ≤ k → untaken_from k (drop k calls) ≡ untaken calls → untaken calls ≡ None
none_untaken calls k h so_far = sym so_far ∙ ap (untaken_from k) (drop_of_length-le calls h)

pub all_given : (calls : List ScriptCall) (k : ℕ) (whole : Client) → length calls ≤ k → given_all (take k calls) whole ≡ given_all calls whole
all_given calls k whole h = ap (λ (some : List ScriptCall). given_all some whole) (take_all k calls h)
