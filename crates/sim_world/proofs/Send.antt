-- A client sends what is due.
use Rattle.std.proofs.Common.{◌≡◌, ◌∙◌, ℕ, List, [], ◌∷◌, ◌++◌, Option, Some, None, Ok, ap, map, refl, subst, sym, append-nil}
use Rattle.std.proofs.lemmas.List.{map-append}
use Rattle.auth_keys.specs.declared.ring.RingKey.{RingKey}
use Rattle.envelope.specs.declared.parts.Dir.TheVariants.{Up}
use Rattle.envelope.specs.Packet.{Lock}
use Rattle.client_rules.specs.Flush.{Answer, Nothing, Spent, Sends}
use Rattle.sim_server.specs.Hosts.{Host, Stays, Stands as HostStands, kept_of}
use Rattle.sim_server.specs.Made.{Made, GoesUp}
use Rattle.sim_clients.specs.Standing.{Becomes, Kept, Stand, flushed_by}
use Rattle.sim_clients.specs.Told.{TellsSent, TellsUnsent}
use Rattle.sim_clients.specs.declared.sent.Sent.{Sent}
use Rattle.world_rules.specs.Ends.{flushed_at, flushes, seat_changed, seated, sent_up, with_seat}
use Rattle.world_rules.specs.Premises.{IsSealed}
use Rattle.client_rules.specs.Sending as client
use Rattle.world_rules.specs.Refusals.{NoClient, Refusal, at_client, goes_on, nothing_more, refusal, unsent}
use Rattle.sched_text.specs.declared.event.Event.TheVariants as line
use Rattle.world_rules.specs.Setting as ends
use Rattle.world_rules.specs.Setting.{Setting}
use Rattle.world_rules.specs.World.{Seat, World as Rules, counted}
use Rattle.sim_world.specs.Told.{Steps}
use Rattle.sim_world.specs.Worlds.{Stands}
use Rattle.sim_world.proofs.Steps.{does, stays-stands}

-- what joins the bag
abbrev pub made-of : Option Sent → List Made
made-of None = []
made-of (Some sent) = GoesUp sent.bytes ∷ []

-- the packet's bytes are those of the setting
sent-bag : {V D : Type 0} (setting : Setting D V) (lock : Lock) (ring : List RingKey) (answer : Answer) (sent : Option Sent) → IsSealed lock ring setting
    → TellsSent lock ring answer sent → map (kept_of setting) (sent_up answer) ≡ made-of sent
sent-bag setting lock ring Nothing None sealed told = refl
sent-bag setting lock ring Nothing (Some sent) sealed told = absurd told
sent-bag setting lock ring Spent None sealed told = absurd told
sent-bag setting lock ring Spent (Some sent) sealed told = absurd told
sent-bag setting lock ring (Sends packet) None sealed told = absurd told
sent-bag setting lock ring (Sends packet) (Some sent) sealed told =
    let seal = told.1 in
    ap (λ bytes. GoesUp bytes ∷ []) (sealed.sealed Up packet.envelope packet.padding seal.entry seal.found ∙ sym seal.spelled)

-- the server's side with one more packet
bagged : {S V D : Type 0} (setting : Setting D V) (host after : Host S V) (old draw : D) (seats : List Seat) (world : Rules D V) (answer : Answer) (made : List Made)
    → HostStands setting host old world → after ≡ record host { bag = host.bag ++ made; room = after.room } → map (kept_of setting) (sent_up answer) ≡ made
    → HostStands setting after draw (record world { seats = seats; draw = draw; bag = world.bag ++ sent_up answer })
bagged {S} {V} {D} setting host after old draw seats world answer made stands is same =
    let next = record world { seats = seats; draw = draw; bag = world.bag ++ sent_up answer } in
    let more : Host S V = record host { bag = host.bag ++ made; room = after.room } in
    let there : HostStands setting more draw next = record {
      server = stands.server;
      moment = stands.moment;
      service = stands.service;
      clock = stands.clock;
      drawn = refl;
      start = stands.start;
      bag = ap (λ bag. bag ++ made) stands.bag ∙ ap (λ more. map (kept_of setting) world.bag ++ more) (sym same)
          ∙ sym (map-append (kept_of setting) world.bag (sent_up answer));
      entries = stands.entries;
    } in
    subst (λ (kept : Host S V). HostStands setting kept draw next) (sym is) there

-- why it isn't sent, by what is drawn from
pub due-as : {V D : Type 0} (setting : Setting D V) (number : ℕ) (old : D) (world : Rules D V) → old ≡ world.draw
    → at_client (counted number world.seats) (λ seat. goes_on seat (λ seat. unsent (flushed_by (ends.at_client setting) old seat).answer))
    ≡ refusal setting world (line.Flush number)
due-as {V} {D} setting number old world drawn =
    ap (λ (d : D). at_client (counted number world.seats) (λ seat. goes_on seat (λ seat. unsent (flushed_by (ends.at_client setting) d seat).answer))) drawn

sent-at : {S V D : Type 0} (setting : Setting D V) (lock : Lock) (ring : List RingKey) (number : ℕ) (host after : Host S V) (old draw : D) (before left : List Kept)
    (world : Rules D V) (sent : Option Sent) (rest : Seat → Option Refusal) (there : Option Seat) → counted number world.seats ≡ there
    → at_client there rest ≡ None → IsSealed lock ring setting → Stands setting (record { host = host; seats = before; draw = old }) world
    → ((seats : List Seat) (seat : Seat) → Stand before seats → counted number seats ≡ Some seat
    → TellsSent lock ring (flushed_by (ends.at_client setting) old seat).answer sent)
    → Becomes number (λ seat. (flushed_by (ends.at_client setting) old seat).client) before left
    → ((seats : List Seat) (seat : Seat) → Stand before seats → counted number seats ≡ Some seat
    → draw ≡ (flushed_by (ends.at_client setting) old seat).draw)
    → after ≡ record host { bag = host.bag ++ made-of sent; room = after.room }
    → Stands setting (record { host = after; seats = left; draw = draw }) (seated there (flushes setting number) world)
sent-at setting lock ring number host after old draw before left world sent rest None at free sealed stands tells becomes draws is =
    absurd (let no : Some NoClient ≡ None = free in cc)
sent-at {S} {V} {D} setting lock ring number host after old draw before left world sent rest (Some one) at free sealed stands tells becomes draws is =
    let with : D → Rules D V = λ (d : D). let done = flushed_by (ends.at_client setting) d one in
    record world { seats = seat_changed number done.client world.seats; draw = done.draw; bag = world.bag ++ sent_up done.answer } in
    let done = flushed_by (ends.at_client setting) old one in
    let seats = seat_changed number done.client world.seats in
    let same = sent-bag setting lock ring done.answer sent sealed (tells world.seats one stands.seats at) in
    let here : Stands setting (record { host = after; seats = left; draw = done.draw }) (with old) = record {
      host = bagged setting host after old done.draw seats world done.answer (made-of sent) stands.host is same;
      seats = becomes world.seats one stands.seats at;
    } in
    let there : Stands setting (record { host = after; seats = left; draw = draw }) (with old) =
    subst (λ (d : D). Stands setting (record { host = after; seats = left; draw = d }) (with old)) (sym (draws world.seats one stands.seats at)) here in
    subst (λ (d : D). Stands setting (record { host = after; seats = left; draw = draw }) (with d)) stands.host.drawn there

-- where nothing refuses it, the packet is in the bag
pub sends : {S V D : Type 0} (setting : Setting D V) (lock : Lock) (ring : List RingKey) (number : ℕ) (host after : Host S V) (old draw : D) (before left : List Kept)
    (world : Rules D V) (sent : Option Sent) → refusal setting world (line.Flush number) ≡ None
    → IsSealed lock ring setting → Stands setting (record { host = host; seats = before; draw = old }) world
    → ((seats : List Seat) (seat : Seat) → Stand before seats → counted number seats ≡ Some seat
    → TellsSent lock ring (flushed_by (ends.at_client setting) old seat).answer sent)
    → Becomes number (λ seat. (flushed_by (ends.at_client setting) old seat).client) before left
    → ((seats : List Seat) (seat : Seat) → Stand before seats → counted number seats ≡ Some seat
    → draw ≡ (flushed_by (ends.at_client setting) old seat).draw)
    → after ≡ record host { bag = host.bag ++ made-of sent; room = after.room }
    → Stands setting (record { host = after; seats = left; draw = draw }) (with_seat number (flushes setting number) world)
sends setting lock ring number host after old draw before left world sent free sealed stands tells becomes draws is =
    sent-at setting lock ring number host after old draw before left world sent
    (λ seat. goes_on seat (λ seat. unsent (flushed_at setting seat world).answer)) (counted number world.seats) refl
    free sealed stands tells becomes draws is

-- room alone is other where nothing is sent
pub with_nothing : {S V : Type 0} (host : Host S V) → host ≡ record host { bag = host.bag ++ made-of None; room = host.room }
with_nothing {S} {V} host = ap (λ bag. record host { bag = bag; room = host.room }) (sym (append-nil host.bag))

-- the whole event, where a client's flush gives this
pub flush-does : {S V D : Type 0} (setting : Setting D V) (lock : Lock) (ring keys : List RingKey) (acting : client.Setting D) (number : ℕ)
    (first host after : Host S V) (old draw : D) (before left : List Kept) (world : Rules D V) (sent : Option Sent)
    → keys ≡ ring → acting ≡ ends.at_client setting → IsSealed lock ring setting
    → Stands setting (record { host = first; seats = before; draw = old }) world → Stays first host
    → ((seats : List Seat) → Stand before seats
    → TellsUnsent (at_client (counted number seats) (λ seat. goes_on seat nothing_more))
    (at_client (counted number seats) (λ seat. goes_on seat (λ seat. unsent (flushed_by acting old seat).answer))) (Ok sent))
    → ((seats : List Seat) (seat : Seat) → Stand before seats → counted number seats ≡ Some seat
    → TellsSent lock keys (flushed_by acting old seat).answer sent)
    → Becomes number (λ seat. (flushed_by acting old seat).client) before left
    → ((seats : List Seat) (seat : Seat) → Stand before seats → counted number seats ≡ Some seat
    → draw ≡ (flushed_by acting old seat).draw)
    → after ≡ record host { bag = host.bag ++ made-of sent; room = after.room }
    → Steps setting world (line.Flush number) (Ok (tt {0})) (record { host = after; seats = left; draw = draw })
flush-does {S} {V} {D} setting lock ring keys acting number first host after old draw before left world sent same acting_is sealed stands stays free tells becomes draws is =
    let stood : Stands setting (record { host = host; seats = before; draw = old }) world =
    record { host = stays-stands setting first host old world stays stands.host; seats = stands.seats } in
    let told : at_client (counted number world.seats) (λ seat. goes_on seat (λ seat. unsent (flushed_by acting old seat).answer)) ≡ None =
    free world.seats stands.seats in
    let due = subst (λ (s : client.Setting D). at_client (counted number world.seats) (λ seat. goes_on seat (λ seat. unsent (flushed_by s old seat).answer)) ≡ None)
    acting_is told in
    let none : refusal setting world (line.Flush number) ≡ None = sym (due-as setting number old world stands.host.drawn) ∙ due in
    does setting world (line.Flush number) tt (record { host = after; seats = left; draw = draw }) none
    (sends setting lock ring number host after old draw before left world sent none sealed stood
    (subst (λ (s : client.Setting D). (seats : List Seat) (seat : Seat) → Stand before seats → counted number seats ≡ Some seat
    → TellsSent lock ring (flushed_by s old seat).answer sent) acting_is
    (subst (λ (k : List RingKey). (seats : List Seat) (seat : Seat) → Stand before seats → counted number seats ≡ Some seat
    → TellsSent lock k (flushed_by acting old seat).answer sent) same tells))
    (subst (λ (s : client.Setting D). Becomes number (λ seat. (flushed_by s old seat).client) before left) acting_is becomes)
    (subst (λ (s : client.Setting D). (seats : List Seat) (seat : Seat) → Stand before seats → counted number seats ≡ Some seat
    → draw ≡ (flushed_by s old seat).draw) acting_is draws)
    is)
