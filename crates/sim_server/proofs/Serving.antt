-- What an event of the server does to a world.
use Rattle.std.proofs.Common.{◌≡◌, ◌∙◌, ℕ, max, List, [], ◌∷◌, ◌++◌, map, ap, refl, sym, subst}
use Rattle.std.proofs.lemmas.List.{map-append, append-nil}
use Rattle.auth_keys.specs.declared.ring.RingKey.{RingKey}
use Rattle.envelope.specs.Packet.{Lock}
use Rattle.envelope.specs.declared.parts.Dir.TheVariants.{Down}
use Rattle.msg_ids.specs.Moments.{moment_of}
use Rattle.server_output.specs.Outs.{AreSent}
use Rattle.server_output.specs.declared.outs.Out.{Out}
use Rattle.server_core.specs.Desks.{Does}
use Rattle.server_core.specs.Server.{Kept, StandsFor}
use Rattle.server_core.specs.declared.effects.Effects.{Effects}
use Rattle.server_rules.specs.Answer.{Answer}
use Rattle.server_rules.specs.Event.{Entry, Sent}
use Rattle.server_rules.specs.Events.{Course, Event, after_event, gone_on}
use Rattle.world_rules.specs.Ends.{course_in, sent_down, serves}
use Rattle.world_rules.specs.Premises.{IsSealed}
use Rattle.world_rules.specs.Setting.{Setting, as_sealed, at_server}
use Rattle.world_rules.specs.World.{Entered, World}
use Rattle.sim_server.specs.Hosts.{Did, Gave, Host, Stands, kept_of}
use Rattle.sim_server.specs.Pasts.{Kept as Past}
use Rattle.sim_server.specs.Made.{Made, GoesDown, made_of_out}
use Rattle.sim_server.specs.Registers.{entered}

-- ---- what goes out

down-same : (session other : ℕ) (bytes others : List ℕ) → session ≡ other → bytes ≡ others
    → GoesDown session bytes ≡ GoesDown other others
down-same session other bytes others one two =
    ap (λ n. GoesDown n bytes) one ∙ ap (GoesDown other) two

cons-same : (one other : Made) (ones others : List Made) → one ≡ other → ones ≡ others
    → one ∷ ones ≡ other ∷ others
cons-same one other ones others first rest = ap (λ x. x ∷ ones) first ∙ ap (λ xs. other ∷ xs) rest

pub made-of-sent : {D V : Type 0} (lock : Lock) (ring : List RingKey) (setting : Setting D V) (sent : List Sent) (outs : List Out)
    → IsSealed lock ring setting → AreSent lock ring sent outs → map made_of_out outs ≡ map (kept_of setting) (map sent_down sent)
made-of-sent lock ring setting [] [] is are = refl
made-of-sent lock ring setting (one ∷ sent) (out ∷ outs) is are =
    let envelope = as_sealed one.envelope in
    let sealed = are.0.sealed in
    cons-same (made_of_out out) (kept_of setting (sent_down one)) (map made_of_out outs) (map (kept_of setting) (map sent_down sent))
    (down-same out.session one.envelope.session out.packet (setting.sealed Down envelope one.padding) are.0.session
    (sealed.spelled ∙ sym (is.sealed Down envelope one.padding sealed.entry sealed.found)))
    (made-of-sent lock ring setting sent outs is are.1)
made-of-sent lock ring setting [] (out ∷ outs) is are = absurd are
made-of-sent lock ring setting (one ∷ sent) [] is are = absurd are

-- ---- the world after an event

bag-after : {D V : Type 0} (setting : Setting D V) (bag made : List Made) (world : World D V) (done : Course D V)
    → bag ≡ map (kept_of setting) world.bag → made ≡ map (kept_of setting) (map sent_down done.packets)
    → bag ++ made ≡ map (kept_of setting) (world.bag ++ map sent_down done.packets)
bag-after setting bag made world done before more =
    ap (λ xs. xs ++ made) before ∙ ap (λ ys. map (kept_of setting) world.bag ++ ys) more
    ∙ sym (map-append (kept_of setting) world.bag (map sent_down done.packets))

pub serves-stands : {S V D : Type 0} (lock : Lock) (ring : List RingKey) (setting : Setting D V) (host : Host S V) (old : D) (world : World D V) (event : Event)
    (kept : Kept S) (moment : ℕ) (service : V) (draw : D) (outs : List Out) (made : List Entry) (start : ℕ) (bag : List Made) (entries : List Entered) (room : ℕ)
    → IsSealed lock ring setting → Stands setting host old world
    → Gave lock ring kept draw outs made (after_event (at_server setting) setting.serve setting.fresh (course_in world) event)
    → service ≡ (after_event (at_server setting) setting.serve setting.fresh (course_in world) event).service
    → moment ≡ (after_event (at_server setting) setting.serve setting.fresh (course_in world) event).server.now
    → start ≡ host.start → bag ≡ host.bag ++ map made_of_out outs
    → entries ≡ host.entries ++ map (entered host.start) made
    → Stands setting
    (record { server = kept; moment = moment; service = service; clock = host.clock; start = start; bag = bag; entries = entries; room = room })
    draw (serves setting event world)
serves-stands lock ring setting host old world event kept moment service draw outs made start bag entries room is stands did served moved same_start bag_is entries_are =
    let done = after_event (at_server setting) setting.serve setting.fresh (course_in world) event in
    record {
      server = did.stands;
      moment = moved;
      service = served;
      clock = stands.clock;
      drawn = did.drawn;
      start = same_start ∙ stands.start;
      bag = bag_is
          ∙ bag-after setting host.bag (map made_of_out outs) world done stands.bag
          (made-of-sent lock ring setting done.packets outs is did.sent);
      entries = entries_are
          ∙ ap (λ xs. xs ++ map (entered host.start) made) stands.entries
          ∙ ap (λ n. world.entries ++ map (entered n) made) stands.start
          ∙ ap (λ ys. world.entries ++ map (entered world.start) ys) did.entered;
    }

-- ---- events at a moment

-- what an event gives at the moment of the world's clock
pub at-clock : {S D : Type 0} (lock : Lock) (ring : List RingKey) (kept : Kept S) (after drawn draw : D) (effects : Effects) (answer : ℕ → D → Answer D)
    (moment own now clock : ℕ) → moment ≡ own → now ≡ moment_of clock → draw ≡ drawn → Does (StandsFor kept) lock ring after effects (answer (max moment now) draw)
    → Does (StandsFor kept) lock ring after effects (answer (max own (moment_of clock)) drawn)
at-clock lock ring kept after drawn draw effects answer moment own now clock same at draws gives =
    let first : Does (StandsFor kept) lock ring after effects (answer (max own now) draw) =
    subst (λ (m : ℕ). Does (StandsFor kept) lock ring after effects (answer (max m now) draw)) same gives in
    let second : Does (StandsFor kept) lock ring after effects (answer (max own (moment_of clock)) draw) =
    subst (λ (n : ℕ). Does (StandsFor kept) lock ring after effects (answer (max own n) draw)) at first in
    subst (λ d. Does (StandsFor kept) lock ring after effects (answer (max own (moment_of clock)) d)) draws second

-- what an event gives is what a course gave where it has the event's parts
pub gave : {S V D : Type 0} (lock : Lock) (ring : List RingKey) (kept : Kept S) (draw : D) (effects : Effects) (answer : Answer D) (course : Course D V) (service : V)
    → course.packets ≡ [] → course.entries ≡ [] → Does (StandsFor kept) lock ring draw effects answer
    → Gave lock ring kept draw effects.out.outs effects.entries.entries (gone_on course service answer)
gave lock ring kept draw effects answer course service no_packets no_entries gives =
    record {
      stands = gives.stands;
      drawn = gives.drawn;
      sent = subst (λ xs. AreSent lock ring (xs ++ answer.packets) effects.out.outs) (sym no_packets) gives.sent;
      entered = gives.entered ∙ ap (λ xs. xs ++ answer.entries) (sym no_entries);
    }

-- ---- a host

-- the server's side of a world, by its parts
abbrev pub host_of : {S V : Type 0} → Kept S → ℕ → V → ℕ → Past → Host S V
host_of server moment service clock past =
    record {
      server = server;
      moment = moment;
      service = service;
      clock = clock;
      start = past.start;
      bag = past.bag;
      entries = past.entries;
      room = past.room;
    }

pub event-stands : {S V D : Type 0} (lock : Lock) (ring : List RingKey) (setting : Setting D V) (server : Kept S) (moment : ℕ) (service : V) (clock : ℕ) (past : Past)
    (old : D) (world : World D V) (event : Event) (kept : Kept S) (at : ℕ) (served : V) (draw : D) (effects : Effects) (taken after : Past)
    → IsSealed lock ring setting → Stands setting (host_of server moment service clock past) old world
    → Did lock ring kept draw effects (after_event (at_server setting) setting.serve setting.fresh (course_in world) event)
    → served ≡ (after_event (at_server setting) setting.serve setting.fresh (course_in world) event).service
    → at ≡ (after_event (at_server setting) setting.serve setting.fresh (course_in world) event).server.now
    → taken ≡ record past { room = taken.room } → after.bag ≡ taken.bag ++ map made_of_out effects.out.outs
    → after.entries ≡ taken.entries ++ map (entered taken.start) effects.entries.entries → after.start ≡ taken.start
    → Stands setting (host_of kept at served clock after) draw (serves setting event world)
event-stands lock ring setting server moment service clock past old world event kept at served draw effects taken after is stands did serves_so moved same bag entries start =
    serves-stands lock ring setting (host_of server moment service clock past) old world event kept at served draw effects.out.outs effects.entries.entries
    after.start after.bag after.entries after.room is stands did serves_so moved
    (start ∙ ap (λ (p : Past). p.start) same)
    (bag ∙ ap (λ (p : Past). p.bag ++ map made_of_out effects.out.outs) same)
    (entries ∙ ap (λ (p : Past). p.entries ++ map (entered p.start) effects.entries.entries) same)

-- an event that makes nothing and takes no memory
pub quiet-stands : {S V D : Type 0} (lock : Lock) (ring : List RingKey) (setting : Setting D V) (server : Kept S) (moment : ℕ) (service : V) (clock : ℕ) (past : Past)
    (draw : D) (world : World D V) (event : Event) (kept : Kept S) (served : V)
    → IsSealed lock ring setting → Stands setting (host_of server moment service clock past) draw world
    → Gave lock ring kept draw [] [] (after_event (at_server setting) setting.serve setting.fresh (course_in world) event)
    → served ≡ (after_event (at_server setting) setting.serve setting.fresh (course_in world) event).service
    → moment ≡ (after_event (at_server setting) setting.serve setting.fresh (course_in world) event).server.now
    → Stands setting (host_of kept moment served clock past) draw (serves setting event world)
quiet-stands lock ring setting server moment service clock past draw world event kept served is stands did serves_so moved =
    serves-stands lock ring setting (host_of server moment service clock past) draw world event kept moment served draw [] []
    past.start past.bag past.entries past.room is stands did serves_so moved refl (sym (append-nil past.bag)) (sym (append-nil past.entries))
