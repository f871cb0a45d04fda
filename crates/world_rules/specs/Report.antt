-- The report of a world, as text, and its summary.
use Rattle.std.specs.Prelude.{ℕ, ◌+◌, ◌==◌, ◌&&◌, not, nat_le, Bool, true, false, if◌then◌else◌, Option, Some, None, List, [], ◌∷◌, ◌++◌, codes, decimal, drop, fold, length, unwrap_or}
use Rattle.std.specs.List.{filter, flat_map, list_all}
use Rattle.byteorder.specs.Endian.{little_number}
use Rattle.sha2.specs.Sha256.{sha256}
use Rattle.hex.specs.Hex.{encode_lower}
use Rattle.service_tl.specs.declared.item.Item.{Item}
use Rattle.service_tl.specs.declared.item.Item.TheVariants as item
use Rattle.service_tl.specs.ItemOf.{item_of}
use Rattle.service_tl.specs.Results.{constructor_of}
use Rattle.regs_service.specs.Replies.{value_number}
use Rattle.call_table.specs.declared.call.Cause.{Cause}
use Rattle.call_table.specs.declared.call.Cause.TheVariants as cause
use Rattle.call_table.specs.Table.{Call, State}
use Rattle.call_table.specs.Table as table
use Rattle.client_rules.specs.Client.{calls_of}
use Rattle.client_rules.specs.Asking.{Fault, TooLong, NotWords, ServiceTag, NoSuchCall, TooMany}
use Rattle.world_rules.specs.Setting.{Setting}
use Rattle.world_rules.specs.World.{World, Seat, Entered, bytes_of, owner}
use Rattle.world_rules.specs.Refusals.{Refusal, NoClient, WrongState, NoPacket, NoJob, ForeignOpens, Submit, NumbersSpent, NotSent}

-- ---- a reply

-- 0a1b2c03 value:long, a value of the register service
abbrev pub is_value : List ℕ → Bool
is_value reply = (length reply == 12) && (little_number 4 reply == value_number)

-- the bytes 32 to 126 alone
abbrev pub is_plain : List ℕ → Bool
is_plain text = list_all (λ byte. nat_le 32 byte && nat_le byte 126) text

abbrev pub raw : List ℕ → List ℕ
raw reply = codes "raw " ++ decimal (length reply)

-- an error whose text is plain; an answer that was dropped while its call ran
abbrev pub item_text : List ℕ → Item → List ℕ
item_text reply (item.RpcError code text) =
    if is_plain text then codes "error " ++ decimal code ++ codes " " ++ text else raw reply
item_text reply item.RpcAnswerDroppedRunning = codes "dropped"
item_text reply _ = raw reply

abbrev pub reply_text : List ℕ → List ℕ
reply_text reply = if is_value reply then decimal (little_number 8 (drop 4 reply)) else item_text reply (item_of reply)

-- ---- calls

abbrev pub cause_text : Cause → List ℕ
cause_text cause.Session = codes "session"
cause_text cause.Renewed = codes "renewed"
cause_text cause.Ended = codes "ended"
cause_text cause.Forgotten = codes "forgotten"

abbrev pub state_text : State → List ℕ
state_text table.Queued = codes "queued"
state_text table.Sent = codes "sent"
state_text table.Held = codes "held"
state_text (table.Done reply) = codes "done " ++ reply_text reply
state_text (table.Refused code) = codes "refused " ++ decimal code
state_text (table.Unknown cause) = codes "unknown " ++ cause_text cause

abbrev pub call_line : ℕ → ℕ → Call → List ℕ
call_line client number call =
    codes "call " ++ decimal client ++ codes " " ++ decimal number ++ codes " " ++ state_text call.state ++ codes "\n"

-- a client's calls, numbered from this number on
abbrev pub call_lines : ℕ → ℕ → List Call → List ℕ
call_lines client number [] = []
call_lines client number (call ∷ calls) = call_line client number call ++ call_lines client (number + 1) calls

-- the calls of clients that are numbered from this number on
abbrev pub client_lines : ℕ → List Seat → List ℕ
client_lines number [] = []
client_lines number (seat ∷ seats) = call_lines number 1 (calls_of seat.client) ++ client_lines (number + 1) seats

-- ---- entries

abbrev pub run_word : Bool → List ℕ
run_word true = codes "run "
run_word false = codes "answer "

-- with the client whose session number it has, or 0 where it is nobody's
abbrev pub entry_line : List Seat → Entered → List ℕ
entry_line seats entered =
    run_word entered.entry.ran ++ decimal entered.start ++ codes " " ++ decimal (unwrap_or (owner entered.entry.session seats) 0)
    ++ codes " " ++ decimal entered.entry.number ++ codes " " ++ reply_text entered.entry.reply ++ codes "\n"

-- ---- the whole

-- a line for each call, and then a line for each entry
abbrev pub report : {S V : Type 0} → World S V → List ℕ
report world = client_lines 1 world.seats ++ flat_map (entry_line world.seats) world.entries

-- all packets, one behind the other
abbrev pub wire : {S V : Type 0} → Setting S V → World S V → List ℕ
wire setting world = flat_map (bytes_of setting) world.bag

-- and, with `--wire`, how many packets there are, their bytes, and the SHA-256 of all
abbrev pub wire_line : {S V : Type 0} → Setting S V → World S V → List ℕ
wire_line setting world =
    codes "packets " ++ decimal (length world.bag) ++ codes " " ++ decimal (length (wire setting world)) ++ codes " "
    ++ encode_lower (sha256 (wire setting world)) ++ codes "\n"

abbrev pub whole_report : {S V : Type 0} → Setting S V → Bool → World S V → List ℕ
whole_report setting false world = report world
whole_report setting true world = report world ++ wire_line setting world

-- ---- the summary

abbrev pub all_calls : {S V : Type 0} → World S V → List Call
all_calls world = flat_map (λ seat. calls_of seat.client) world.seats

abbrev pub is_done : State → Bool
is_done (table.Done reply) = true
is_done _ = false

abbrev pub is_refused : State → Bool
is_refused (table.Refused code) = true
is_refused _ = false

abbrev pub is_unknown : State → Bool
is_unknown (table.Unknown cause) = true
is_unknown _ = false

abbrev pub count_of : (State → Bool) → List Call → ℕ
count_of is calls = length (filter (λ call. is call.state) calls)

abbrev pub summary : {S V : Type 0} → Setting S V → World S V → List ℕ
summary setting world =
    codes "calls " ++ decimal (length (all_calls world))
    ++ codes " done " ++ decimal (count_of is_done (all_calls world))
    ++ codes " refused " ++ decimal (count_of is_refused (all_calls world))
    ++ codes " unknown " ++ decimal (count_of is_unknown (all_calls world))
    ++ codes " runs " ++ decimal (length (filter (λ entered. entered.entry.ran) world.entries))
    ++ codes " packets " ++ decimal (length world.bag)
    ++ codes " bytes " ++ decimal (length (wire setting world)) ++ codes "\n"

-- ---- refusals

abbrev pub fault_text : Fault → List ℕ
fault_text (TooLong len) = codes "too long"
fault_text (NotWords len) = codes "not words"
fault_text (ServiceTag tag) = codes "service body"
fault_text NoSuchCall = codes "no such call"
fault_text TooMany = codes "too many calls"

-- the cause of a refusal, as it is told
abbrev pub refusal_text : Refusal → List ℕ
refusal_text NoClient = codes "no client"
refusal_text WrongState = codes "wrong state"
refusal_text (NoPacket k) = codes "no packet"
refusal_text (NoJob k) = codes "no job"
refusal_text ForeignOpens = codes "foreign bytes open"
refusal_text (Submit fault) = fault_text fault
refusal_text NumbersSpent = codes "numbers spent"
refusal_text NotSent = codes "not sent"
