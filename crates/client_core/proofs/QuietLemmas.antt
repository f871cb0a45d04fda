-- The turns of queued calls come, and none goes.
use Rattle.std.proofs.Common.{◌≡◌, ◌∙◌, ℕ, zero, suc, ◌≤◌, ◌+◌, ◌-◌, Bool, true, false, List, [], ◌∷◌, ◌++◌, Option, Some, None, length, map, ap, refl, sym, subst, arith}
use Rattle.std.specs.Prelude.{◌||◌, if◌then◌else◌, IfSome, fold, option_map, slice_get}
use Rattle.std.specs.List.{AllByRecursion, list_any}
use Rattle.std.proofs.lemmas.Bool.{true≢false}
use Rattle.tl_codec.specs.Spelling.{Form, Of, Fits, spelling, size_of as size_of_form}
use Rattle.service_tl.specs.declared.lists.Message.{Message}
use Rattle.packing.specs.Packing.{is_within}
use Rattle.call_table.specs.declared.call.CallNo.{CallNo}
use Rattle.call_table.specs.declared.call.Fate.TheVariants as fate
use Rattle.call_table.specs.declared.call.Group.TheVariants as group
use Rattle.call_table.specs.Table.{State, Call, at, call_no, changed_at, group_of, is_in, is_queued, places_from, settled}
use Rattle.call_table.specs.Table as table
use Rattle.client_rules.specs.Client.{Client, Binding, Needed, Asked, Held, Bound, Refused, Temporary, calls_of, is_open, numbered, with_call}
use Rattle.client_rules.specs.Filling.{Filling, Turn, Goes as Going, Waits, Never, body_behind, empty, living_number, says_call, says_call_at, sends_call, takes_turn, turn_after, turn_behind, turn_by, turn_of, turn_under, turn_with}
use Rattle.client_rules.specs.Flush.{has_any}
use Rattle.client_core.specs.Calling.{wrap_bytes}
use Rattle.client_core.specs.Due.{goes_at, goes_now, goes_of}
use Rattle.client_core.proofs.SizeLemmas.{call-size}

-- a call would go behind this one
abbrev pub waits_at : Client → CallNo → Bool
waits_at client call = goes_now (turn_behind (at call (calls_of client)))

abbrev pub refused : CallNo → Client → Client
refused call client = with_call call (settled (fate.Refused 0)) client

-- ---- a call is refused

-- what a test tells of each stays where it stays for the changed one
changed_test : {X Y : Type 0} (test : Option X → Y) (f : X → X) (j k : ℕ) (xs : List X) → test (option_map f (slice_get xs k)) ≡ test (slice_get xs k)
    → test (slice_get (changed_at k f xs) j) ≡ test (slice_get xs j)
changed_test test f j k [] same = refl
changed_test test f zero zero (x ∷ xs) same = same
changed_test test f (suc j) zero (x ∷ xs) same = refl
changed_test test f zero (suc k) (x ∷ xs) same = refl
changed_test test f (suc j) (suc k) (x ∷ xs) same = changed_test test f j k xs same

refused_waits : (own : Option Call) → goes_now (turn_behind own) ≡ false → goes_now (turn_behind (option_map (settled (fate.Refused 0)) own)) ≡ goes_now (turn_behind own)
refused_waits None still = refl
refused_waits (Some call) still = sym still

waits_next : (call : CallNo) (now : Client) → waits_at now call ≡ false → (j : CallNo) → waits_at (refused call now) j ≡ waits_at now j
waits_next call now still j =
    changed_test (λ own. goes_now (turn_behind own)) (settled (fate.Refused 0)) (j.n - 1) (call.n - 1) (calls_of now) (refused_waits (at call (calls_of now)) still)

after_next : (call : CallNo) (now : Client) → waits_at now call ≡ false → (after : Option CallNo)
    → goes_now (turn_after (calls_of (refused call now)) after) ≡ goes_now (turn_after (calls_of now) after)
after_next call now still None = refl
after_next call now still (Some earlier) = waits_next call now still earlier

under_same : (binding : Binding) (one other : Turn) → goes_now one ≡ goes_now other → goes_now (turn_under binding one) ≡ goes_now (turn_under binding other)
under_same Needed one other same = refl
under_same (Asked message) one other same = refl
under_same Held one other same = refl
under_same Bound one other same = same
under_same (Refused code) one other same = refl

with_same : (own : Option Temporary) (one other : Turn) → goes_now one ≡ goes_now other → goes_now (turn_with own one) ≡ goes_now (turn_with own other)
with_same None one other same = same
with_same (Some temporary) one other same = under_same temporary.binding one other same

if_same : (opened : Bool) (own : Option Temporary) (one other : Turn) → goes_now one ≡ goes_now other
    → goes_now (if opened then turn_with own one else one) ≡ goes_now (if opened then turn_with own other else other)
if_same true own one other same = with_same own one other same
if_same false own one other same = same

of_next : (call : CallNo) (now : Client) → waits_at now call ≡ false → (own : Option Call) → goes_of (refused call now) own ≡ goes_of now own
of_next call now still None = refl
of_next call now still (Some one) =
    if_same (is_open now) now.temporary (turn_after (calls_of (refused call now)) one.after) (turn_after (calls_of now) one.after) (after_next call now still one.after)

refused_goes : (now : Client) (own : Option Call) → goes_of now (option_map (settled (fate.Refused 0)) own) ≡ goes_of now own
refused_goes now None = refl
refused_goes now (Some one) = refl

pub goes_next : (call : CallNo) (now : Client) → waits_at now call ≡ false → (j : CallNo) → goes_at (refused call now) j ≡ goes_at now j
goes_next call now still j =
    of_next call now still (at j (calls_of (refused call now)))
    ∙ changed_test (goes_of now) (settled (fate.Refused 0)) (j.n - 1) (call.n - 1) (calls_of now) (refused_goes now (at call (calls_of now)))

refused_body : (own : Option Call) → option_map (λ one. one.body) (option_map (settled (fate.Refused 0)) own) ≡ option_map (λ one. one.body) own
refused_body None = refl
refused_body (Some one) = refl

body_next : (call : CallNo) (now : Client) (j : CallNo) → option_map (λ one. one.body) (at j (calls_of (refused call now))) ≡ option_map (λ one. one.body) (at j (calls_of now))
body_next call now j =
    changed_test (option_map (λ one. one.body)) (settled (fate.Refused 0)) (j.n - 1) (call.n - 1) (calls_of now) (refused_body (at call (calls_of now)))

pub any_same : (one other : CallNo → Bool) → ((call : CallNo) → one call ≡ other call) → (calls : List CallNo) → list_any one calls ≡ list_any other calls
any_same one other same [] = refl
any_same one other same (call ∷ calls) = ap (λ b. b || list_any one calls) (same call) ∙ ap (λ b. other call || b) (any_same one other same calls)

-- ---- a queue

queued_waits : (state : State) (number : Option ℕ) → is_queued state ≡ true → goes_now (turn_by state number) ≡ false
queued_waits table.Queued number is = refl
queued_waits table.Sent number is = absurd (true≢false (sym is))
queued_waits table.Held number is = absurd (true≢false (sym is))
queued_waits (table.Done bytes) number is = absurd (true≢false (sym is))
queued_waits (table.Refused code) number is = absurd (true≢false (sym is))
queued_waits (table.Unknown cause) number is = absurd (true≢false (sym is))

all_places_in : {X : Type 0} (test : X → Bool) (P : ℕ → Type 0) (place : ℕ) (x : X) (xs : List X) (is : Bool) → test x ≡ is
    → ((i : ℕ) (y : X) → slice_get (x ∷ xs) i ≡ Some y → test y ≡ true → P (place + i)) → AllByRecursion P (places_from test (place + 1) xs)
    → AllByRecursion P (if is then place ∷ places_from test (place + 1) xs else places_from test (place + 1) xs)
all_places_in test P place x xs true is holds later = (subst P (omega arith) (holds 0 x refl is), later)
all_places_in test P place x xs false is holds later = later

-- each place is that of one that passes
all_places : {X : Type 0} (test : X → Bool) (P : ℕ → Type 0) (place : ℕ) (xs : List X)
    → ((i : ℕ) (x : X) → slice_get xs i ≡ Some x → test x ≡ true → P (place + i)) → AllByRecursion P (places_from test place xs)
all_places test P place [] holds = tt
all_places test P place (x ∷ xs) holds =
    all_places_in test P place x xs (test x) refl holds
    (all_places test P (place + 1) xs (λ i y there passes. subst P (omega arith) (holds (suc i) y there passes)))

all_named : (P : CallNo → Type 0) (places : List ℕ) → AllByRecursion (λ place. P (call_no place)) places → AllByRecursion P (map call_no places)
all_named P [] all = tt
all_named P (place ∷ places) all = (all.0, all_named P places all.1)

queue_waits : (client : Client) → AllByRecursion (λ call. waits_at client call ≡ false) (group_of group.Queued (calls_of client))
queue_waits client =
    all_named (λ call. waits_at client call ≡ false) (places_from (is_in group.Queued) 0 (calls_of client))
    (all_places (is_in group.Queued) (λ place. waits_at client (call_no place) ≡ false) 0 (calls_of client)
    (λ i call there queued.
    let same : (call_no (0 + i)).n - 1 ≡ i = omega arith in
    ap (λ (k : ℕ). goes_now (turn_behind (slice_get (calls_of client) k))) same ∙ (ap (λ own. goes_now (turn_behind own)) there ∙ queued_waits call.state (living_number call) queued)))

-- ---- a packet that has a message keeps it

any_more : (messages : List Message) (message : Message) → has_any (messages ++ message ∷ []) ≡ true
any_more [] message = refl
any_more (first ∷ others) message = refl

any_picked : {S : Type 0} (full within : Bool) (stays gone : Filling S) → has_any stays.messages ≡ true → has_any gone.messages ≡ true
    → has_any (if full then stays else if within then gone else record stays { is_full = true }).messages ≡ true
any_picked true within stays gone any new = any
any_picked false true stays gone any new = new
any_picked false false stays gone any new = any

turn_any : {S : Type 0} (call : CallNo) (body : List ℕ) (turn : Turn) (filling : Filling S) → has_any filling.messages ≡ true → has_any (takes_turn call body turn filling).messages ≡ true
turn_any call body (Going wrap) filling any =
    let message = numbered true (body_behind wrap body) filling.client in
    any_picked filling.is_full (is_within (filling.messages ++ message ∷ [])) filling
    (sends_call call wrap message (record filling { messages = filling.messages ++ message ∷ [] })) any (any_more filling.messages message)
turn_any call body Waits filling any = any
turn_any call body Never filling any = any

call_at_any : {S : Type 0} (call : CallNo) (own : Option Call) (filling : Filling S) → has_any filling.messages ≡ true → has_any (says_call_at call own filling).messages ≡ true
call_at_any call None filling any = any
call_at_any call (Some one) filling any = turn_any call one.body (turn_of filling.client one) filling any

if_any : {S : Type 0} (full : Bool) (stays gone : Filling S) → has_any stays.messages ≡ true → has_any gone.messages ≡ true → has_any (if full then stays else gone).messages ≡ true
if_any true stays gone one other = one
if_any false stays gone one other = other

call_any : {S : Type 0} (filling : Filling S) (call : CallNo) → has_any filling.messages ≡ true → has_any (says_call filling call).messages ≡ true
call_any filling call any =
    if_any filling.is_full filling (says_call_at call (at call (calls_of filling.client)) filling) any (call_at_any call (at call (calls_of filling.client)) filling any)

pub calls_any : {S : Type 0} (filling : Filling S) (calls : List CallNo) → has_any filling.messages ≡ true → has_any (fold says_call filling calls).messages ≡ true
calls_any filling [] any = any
calls_any filling (call ∷ calls) any = calls_any (says_call filling call) calls (call_any filling call any)

-- ---- the first call that goes

-- of a client whose calls were refused so far
record Follows (client now : Client) : Type 0 where
  goes : (call : CallNo) → goes_at now call ≡ goes_at client call
  waits : (call : CallNo) → waits_at now call ≡ waits_at client call
  bodies : (call : CallNo) → IfSome (option_map (λ one. one.body) (at call (calls_of now))) (λ body. length body ≤ 262144)

follows_next : (client now : Client) (call : CallNo) → Follows client now → waits_at client call ≡ false → Follows client (refused call now)
follows_next client now call so still =
    let here = so.waits call ∙ still in
    record {
      goes = λ j. goes_next call now here j ∙ so.goes j;
      waits = λ j. waits_next call now here j ∙ so.waits j;
      bodies = λ j. subst (λ own. IfSome own (λ body. length body ≤ 262144)) (sym (body_next call now j)) (so.bodies j);
    }

abbrev GoesOf : {S : Type 0} → Client → S → List CallNo → Client → Type 0
GoesOf client draw calls now = has_any (fold says_call (empty now draw) calls).messages ≡ list_any (goes_at client) calls

wrap_few : (wrap : Option ℕ) → wrap_bytes wrap ≤ 12
wrap_few None = omega arith
wrap_few (Some number) = omega arith

alone_within : (message : Message) → length message.body ≤ 1000000 → is_within (message ∷ []) ≡ true
alone_within message short = grind (arith, short)

module _ (sizes : (form : Form) (value : Of form) → Fits form value → length (spelling form value) ≡ size_of_form form value) where
  turn_due : {S : Type 0} (client now : Client) (draw : S) (call : CallNo) (calls : List CallNo) (body : List ℕ) (turn : Turn) → length body ≤ 262144
      → GoesOf client draw calls now → GoesOf client draw calls (refused call now)
      → has_any (fold says_call (takes_turn call body turn (empty now draw)) calls).messages ≡ (goes_now turn || list_any (goes_at client) calls)
  turn_due client now draw call calls body (Going wrap) short later gone =
      let message = numbered true (body_behind wrap body) now in
      let sent = sends_call call wrap message (record (empty now draw) { messages = message ∷ [] }) in
      ap (λ within. has_any (fold says_call (if within then sent else record (empty now draw) { is_full = true }) calls).messages)
      (alone_within message (omega (arith, short, wrap_few wrap, call-size sizes wrap body)))
      ∙ calls_any sent calls refl
  turn_due client now draw call calls body Waits short later gone = later
  turn_due client now draw call calls body Never short later gone = gone

  call_due : {S : Type 0} (client now : Client) (draw : S) (call : CallNo) (calls : List CallNo) (own : Option Call) → IfSome (option_map (λ one. one.body) own) (λ body. length body ≤ 262144)
      → GoesOf client draw calls now → GoesOf client draw calls (refused call now)
      → has_any (fold says_call (says_call_at call own (empty now draw)) calls).messages ≡ (goes_of now own || list_any (goes_at client) calls)
  call_due client now draw call calls None short later gone = later
  call_due client now draw call calls (Some one) short later gone = turn_due client now draw call calls one.body (turn_of now one) short later gone

  calls_due_of : {S : Type 0} (client : Client) (draw : S) (calls : List CallNo) → AllByRecursion (λ call. waits_at client call ≡ false) calls
      → (now : Client) → Follows client now → GoesOf client draw calls now
  calls_due_of client draw [] still now so = refl
  calls_due_of client draw (call ∷ calls) still now so =
      call_due client now draw call calls (at call (calls_of now)) (so.bodies call)
      (calls_due_of client draw calls still.1 now so)
      (calls_due_of client draw calls still.1 (refused call now) (follows_next client now call so still.0))
      ∙ ap (λ b. b || list_any (goes_at client) calls) (so.goes call)

  pub calls_due : {S : Type 0} (client : Client) (draw : S) → ((call : CallNo) → IfSome (option_map (λ one. one.body) (at call (calls_of client))) (λ body. length body ≤ 262144))
      → GoesOf client draw (group_of group.Queued (calls_of client)) client
  calls_due client draw bodies =
      calls_due_of client draw (group_of group.Queued (calls_of client)) (queue_waits client) client
      (record { goes = λ call. refl; waits = λ call. refl; bodies = bodies })
