-- Bytes come to an end: what is given, and to whom.
use Rattle.std.proofs.Common.{◌≡◌, ◌∙◌, ℕ, zero, suc, Bool, true, false, List, [], ◌∷◌, Option, Some, None, Err, ap, sym, subst, refl}
use Rattle.std.specs.Prelude.{if◌then◌else◌, is_some, map, not, option_map, slice_get}
use Rattle.envelope.specs.declared.parts.Dir.{Dir}
use Rattle.envelope.specs.declared.parts.Dir.TheVariants.{Up, Down}
use Rattle.envelope.specs.declared.parts.Envelope.{Envelope}
use Rattle.msg_ids.specs.Moments.{moment_of}
use Rattle.client_core.specs.declared.fault.SubmitFault.TheVariants as submit
use Rattle.client_rules.specs.Asking as asking
use Rattle.client_rules.specs.Events.{takes}
use Rattle.sched_text.specs.declared.event.Event.TheVariants as line
use Rattle.sim_clients.specs.Standing.{Kept, Stand, taken_at}
use Rattle.sim_clients.specs.Told.{TellsRefusal}
use Rattle.sim_clients.specs.declared.fault.SeatFault.{SeatFault}
use Rattle.sim_clients.specs.declared.fault.SeatFault.TheVariants as seat
use Rattle.world_rules.specs.Ends.{arrives, comes_down, comes_to_owner, comes_up, seat_changed, seated, with_seat}
use Rattle.world_rules.specs.Refusals.{ForeignOpens, NoClient, NoPacket, NotSent, NumbersSpent, Refusal, Submit, WrongState, at_client, nothing_more, opened, refusal, unless}
use Rattle.world_rules.specs.Setting.{Setting}
use Rattle.world_rules.specs.World.{Packet, Seat, World as Rules, counted, owner, seat_now}
use Rattle.sim_server.specs.Hosts.{Host, Stands as HostStands, kept_of}
use Rattle.sim_server.specs.Made.{GoesDown, GoesUp, Made}
use Rattle.sim_world.specs.Told.{Tells, step_fault}
use Rattle.sim_world.specs.Worlds.{Stands, World}
use Rattle.sim_world.proofs.Steps.{reseated, tells-as}

-- ---- packets

get-mapped : {X Y : Type 0} (f : X → Y) (place : ℕ) (xs : List X) → slice_get (map f xs) place ≡ option_map f (slice_get xs place)
get-mapped f zero [] = refl
get-mapped f (suc place) [] = refl
get-mapped f zero (x ∷ xs) = refl
get-mapped f (suc place) (x ∷ xs) = get-mapped f place xs

counted-mapped : {X Y : Type 0} (f : X → Y) (number : ℕ) (xs : List X) → counted number (map f xs) ≡ option_map f (counted number xs)
counted-mapped f zero xs = refl
counted-mapped f (suc place) xs = get-mapped f place xs

-- the packet of a number as it is kept
pub kept-packet : {S V D : Type 0} (setting : Setting D V) (host : Host S V) (draw : D) (world : Rules D V) (number : ℕ) → HostStands setting host draw world
    → counted number host.bag ≡ option_map (kept_of setting) (counted number world.bag)
kept-packet setting host draw world number stands = ap (λ (bag : List Made). counted number bag) stands.bag ∙ counted-mapped (kept_of setting) number world.bag

-- what comes of it, by what is kept of it
up-is : (one other : List ℕ) → GoesUp one ≡ GoesUp other → one ≡ other
up-is one other same = cc

down-bytes : (from to : ℕ) (one other : List ℕ) → GoesDown from one ≡ GoesDown to other → one ≡ other
down-bytes from to one other same = cc

down-session : (from to : ℕ) (one other : List ℕ) → GoesDown from one ≡ GoesDown to other → from ≡ to
down-session from to one other same = cc

none-kept : {D V : Type 0} (setting : Setting D V) (number : ℕ) (found : Option Packet) → option_map (kept_of setting) found ≡ None
    → unless (is_some found) (NoPacket number) ≡ Some (NoPacket number)
none-kept setting number None is = refl
none-kept setting number (Some packet) is = absurd (let no : Some (kept_of setting packet) ≡ None = is in cc)

some-kept : {D V : Type 0} (setting : Setting D V) (number : ℕ) (made : Made) (found : Option Packet) → option_map (kept_of setting) found ≡ Some made
    → unless (is_some found) (NoPacket number) ≡ None
some-kept setting number made None is = absurd (let no : None ≡ Some made = is in cc)
some-kept setting number made (Some packet) is = refl

some-is : (one other : Made) → Some one ≡ Some other → one ≡ other
some-is one other same = cc

goes-up : {D V : Type 0} (setting : Setting D V) (world : Rules D V) (bytes : List ℕ) (dir : Dir) (envelope : Envelope) (padding : List ℕ)
    → kept_of setting (record { dir = dir; envelope = envelope; padding = padding }) ≡ GoesUp bytes
    → arrives setting (Some (record { dir = dir; envelope = envelope; padding = padding })) world ≡ comes_up setting bytes world
goes-up setting world bytes Up envelope padding is =
    let same = up-is (setting.sealed Up envelope padding) bytes is in
    ap (λ (sent : List ℕ). comes_up setting sent world) same
goes-up setting world bytes Down envelope padding is =
    absurd (let no : GoesDown envelope.session (setting.sealed Down envelope padding) ≡ GoesUp bytes = is in cc)

goes-down : {D V : Type 0} (setting : Setting D V) (world : Rules D V) (session : ℕ) (bytes : List ℕ) (dir : Dir) (envelope : Envelope) (padding : List ℕ)
    → kept_of setting (record { dir = dir; envelope = envelope; padding = padding }) ≡ GoesDown session bytes
    → arrives setting (Some (record { dir = dir; envelope = envelope; padding = padding })) world ≡ comes_to_owner setting bytes (owner session world.seats) world
goes-down setting world session bytes Up envelope padding is =
    absurd (let no : GoesUp (setting.sealed Up envelope padding) ≡ GoesDown session bytes = is in cc)
goes-down setting world session bytes Down envelope padding is =
    let same = down-bytes envelope.session session (setting.sealed Down envelope padding) bytes is in
    let to = down-session envelope.session session (setting.sealed Down envelope padding) bytes is in
    ap (λ (sent : List ℕ). comes_to_owner setting sent (owner envelope.session world.seats) world) same
    ∙ ap (λ (n : ℕ). comes_to_owner setting bytes (owner n world.seats) world) to

pub came-up : {D V : Type 0} (setting : Setting D V) (world : Rules D V) (bytes : List ℕ) (found : Option Packet)
    → option_map (kept_of setting) found ≡ Some (GoesUp bytes) → arrives setting found world ≡ comes_up setting bytes world
came-up setting world bytes None is = absurd (let no : None ≡ Some (GoesUp bytes) = is in cc)
came-up setting world bytes (Some packet) is =
    goes-up setting world bytes packet.dir packet.envelope packet.padding (some-is (kept_of setting packet) (GoesUp bytes) is)

pub came-down : {D V : Type 0} (setting : Setting D V) (world : Rules D V) (session : ℕ) (bytes : List ℕ) (found : Option Packet)
    → option_map (kept_of setting) found ≡ Some (GoesDown session bytes)
    → arrives setting found world ≡ comes_to_owner setting bytes (owner session world.seats) world
came-down setting world session bytes None is = absurd (let no : None ≡ Some (GoesDown session bytes) = is in cc)
came-down setting world session bytes (Some packet) is =
    goes-down setting world session bytes packet.dir packet.envelope packet.padding (some-is (kept_of setting packet) (GoesDown session bytes) is)

-- the event is refused exactly where there is no such packet
pub no-packet : {S V D : Type 0} (setting : Setting D V) (host : Host S V) (draw : D) (world : Rules D V) (number : ℕ) → HostStands setting host draw world
    → None ≡ counted number host.bag → refusal setting world (line.Give number) ≡ Some (NoPacket number)
no-packet setting host draw world number stands is =
    none-kept setting number (counted number world.bag) (sym (kept-packet setting host draw world number stands) ∙ sym is)

pub packet-free : {S V D : Type 0} (setting : Setting D V) (host : Host S V) (draw : D) (world : Rules D V) (number : ℕ) (made : Made)
    → HostStands setting host draw world → Some made ≡ counted number host.bag → refusal setting world (line.Give number) ≡ None
packet-free setting host draw world number made stands is =
    some-kept setting number made (counted number world.bag) (sym (kept-packet setting host draw world number stands) ∙ sym is)

-- ---- bytes come to a client

taken-if : {S V D : Type 0} (setting : Setting D V) (host : Host S V) (draw : D) (after : List Kept) (world : Rules D V) (changed : List Seat) (ended : Bool)
    → HostStands setting host draw world → Stand after (if ended then world.seats else changed)
    → Stands setting (record { host = host; seats = after; draw = draw }) (if ended then world else record world { seats = changed })
taken-if setting host draw after world changed true stands stand = record { host = stands; seats = stand }
taken-if setting host draw after world changed false stands stand = record { host = reseated setting host draw changed world stands; seats = stand }

taken-by : {S V D : Type 0} (setting : Setting D V) (host : Host S V) (draw : D) (number : ℕ) (bytes : List ℕ) (one : Seat) (after : List Kept) (world : Rules D V)
    → HostStands setting host draw world → Stand after (taken_at setting.opens number bytes one world.seats)
    → Stands setting (record { host = host; seats = after; draw = draw }) (comes_down setting number bytes one world)
taken-by setting host draw number bytes one after world stands stand =
    taken-if setting host draw after world
    (seat_changed number (takes (moment_of one.clock) (setting.opens (seat_now one) Down bytes) one.client) world.seats) one.client.has_ended stands stand

-- where there is this client
pub taken : {S V D : Type 0} (setting : Setting D V) (host : Host S V) (draw : D) (number : ℕ) (bytes : List ℕ) (one : Seat) (after : List Kept) (world : Rules D V)
    → counted number world.seats ≡ Some one → HostStands setting host draw world → Stand after (taken_at setting.opens number bytes one world.seats)
    → Stands setting (record { host = host; seats = after; draw = draw }) (with_seat number (comes_down setting number bytes) world)
taken {S} {V} {D} setting host draw number bytes one after world there stands stand =
    let kept : World S V D = record { host = host; seats = after; draw = draw } in
    subst (λ (found : Option Seat). Stands setting kept (seated found (comes_down setting number bytes) world)) (sym there)
    (taken-by setting host draw number bytes one after world stands stand)

-- ---- whether foreign bytes open

-- where nothing refuses it, memory alone does
memory-only : (X Y : Type 0) (due : Option Refusal) (fault : SeatFault) → TellsRefusal {X = X} None (Err fault) → Tells {X = Y} due (Err (step_fault fault))
memory-only X Y due seat.NoClient told = absurd (let no : None ≡ Some NoClient = told in cc)
memory-only X Y due seat.WrongState told = absurd (let no : None ≡ Some WrongState = told in cc)
memory-only X Y due (seat.Submit (submit.TooLong len)) told = absurd (let no : None ≡ Some (Submit (asking.TooLong len)) = told in cc)
memory-only X Y due (seat.Submit (submit.NotWords len)) told = absurd (let no : None ≡ Some (Submit (asking.NotWords len)) = told in cc)
memory-only X Y due (seat.Submit (submit.ServiceTag tag)) told = absurd (let no : None ≡ Some (Submit (asking.ServiceTag tag)) = told in cc)
memory-only X Y due (seat.Submit submit.NoSuchCall) told = absurd (let no : None ≡ Some (Submit asking.NoSuchCall) = told in cc)
memory-only X Y due (seat.Submit submit.TooMany) told = absurd (let no : None ≡ Some (Submit asking.TooMany) = told in cc)
memory-only X Y due (seat.Submit submit.Memory) told = absurd told
memory-only X Y due seat.Spent told = absurd (let no : None ≡ Some NumbersSpent = told in cc)
memory-only X Y due seat.NotSent told = absurd (let no : None ≡ Some NotSent = told in cc)
memory-only X Y due seat.Memory told = tt

-- whether they do can't be told for want of the client, or of memory
pub untold : (X Y : Type 0) (there : Option Seat) (rest : Seat → Option Refusal) (fault : SeatFault)
    → TellsRefusal {X = X} (at_client there nothing_more) (Err fault) → Tells {X = Y} (at_client there rest) (Err (step_fault fault))
untold X Y None rest fault told = tells-as X Y (Some NoClient) fault told
untold X Y (Some one) rest fault told = memory-only X Y (rest one) fault told

pub is-there : (there : Option Seat) → at_client there nothing_more ≡ None → (one : Seat) × (there ≡ Some one)
is-there None free = absurd (let no : Some NoClient ≡ None = free in cc)
is-there (Some one) free = (one, refl)

-- they open, or don't
pub opens-down : {D V : Type 0} (setting : Setting D V) (world : Rules D V) (number : ℕ) (bytes : List ℕ) (one : Seat) → counted number world.seats ≡ Some one
    → true ≡ is_some (setting.opens (seat_now one) Down bytes) → refusal setting world (line.ForeignClient number bytes) ≡ Some ForeignOpens
opens-down setting world number bytes one there is =
    ap (λ (found : Option Seat). at_client found (opened setting number bytes)) there
    ∙ ap (λ (opens : Bool). unless (not opens) ForeignOpens) (sym is)

pub opens-not : {D V : Type 0} (setting : Setting D V) (world : Rules D V) (number : ℕ) (bytes : List ℕ) (one : Seat) → counted number world.seats ≡ Some one
    → false ≡ is_some (setting.opens (seat_now one) Down bytes) → refusal setting world (line.ForeignClient number bytes) ≡ None
opens-not setting world number bytes one there is =
    ap (λ (found : Option Seat). at_client found (opened setting number bytes)) there
    ∙ ap (λ (opens : Bool). unless (not opens) ForeignOpens) (sym is)
