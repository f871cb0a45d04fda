-- An event of a desk, and its record.
use Rattle.std.proofs.Common.{◌≡◌, ◌≤◌, ◌<◌, ◌^◌, ℕ, Option, None, Some, Result, Ok, Err, List, [], ◌∷◌, ◌++◌, inl, max, sym, ap, subst, refl, ◌∙◌, arith, Bool, true, false}
use Rattle.std.specs.Prelude.{IfSome, IsErr, IsErrAnd, IsSomeAnd}
use Rattle.std.specs.List.{All}
use Rattle.disks.specs.Crash.{MayLeave}
use Rattle.disks.specs.Told.{DiskTold, now}
use Rattle.auth_keys.specs.declared.ring.RingKey.{RingKey}
use Rattle.draws.specs.Draws.{draw_after}
use Rattle.envelope.specs.Packet.{Lock}
use Rattle.msg_ids.specs.Moments.{latest_moment, moment_of}
use Rattle.regs_service.specs.Served.{Step}
use Rattle.sess_records.specs.declared.records.Event.{Event}
use Rattle.sess_records.specs.declared.records.Event.TheVariants.{Packet, Tick, Attach, Begin, Ran, Interrupted}
use Rattle.sess_records.specs.declared.records.Record.{Record}
use Rattle.sess_records.specs.Crashes.{LeavesOnly}
use Rattle.sess_records.specs.Format.{Spells}
use Rattle.sess_records.specs.Seen.{File}
use Rattle.sess_records.specs.Standing.{Holds, LeavesOneOf, Settled, SpellsOneOf, SpellsSome}
use Rattle.server_core.specs.declared.desk.DeskFault.{DeskFault}
use Rattle.server_core.specs.declared.desk.DeskFault.TheVariants as faults
use Rattle.server_core.specs.declared.effects.Effects.{Effects}
use Rattle.server_core.specs.Desks.{Does}
use Rattle.server_output.specs.declared.outs.Out.{Out}
use Rattle.server_output.specs.Outs.{AreSent}
use Rattle.server_core.specs.Packets.{brought_in}
use Rattle.server_core.specs.Server.{Kept, StandsFor as IsServer}
use Rattle.server_rules.specs.Answer.{Answer, after_attach, after_packet, after_tick, after_work, is_spent}
use Rattle.server_rules.specs.Event.{Envelope, Sent, Setting}
use Rattle.server_rules.specs.Server.{Name, Server}
use Rattle.server_session.specs.Says.{Keys}
use Rattle.law_server_replay.specs.Quiet.{quiet}
use Rattle.sess_journal.specs.Keeping.{Added, Adds, Book, GivesNothing, HasRecorded, IsRecorded, Journals, KeepsFor, LeavesSome, Seen, disk_by, disk_in, entry_at}
use Rattle.sess_journal.specs.Replay.{Bases, Basis, LeadsTo, Plays, Reached, Replays, after_interruption, after_reply, always, at_first, reached_by, run_interrupted, setting_at}
use Rattle.sess_journal.proofs.NextLemmas.{replays_more}
use Rattle.sess_journal.specs.Staging.{RowLaws, Stage}
use Rattle.sess_journal.proofs.PlayLemmas.{IsSeeded, seeded}
use Rattle.sess_journal.proofs.ResumeLemmas.{append_none}

-- ---- room for events

abbrev pub HaveRoom : Server → Type 0
HaveRoom server = All (λ session. is_spent session ≡ false) server.sessions

-- each event leaves room for another
pub record LeaveRoom (D : Type 0) : Type 0 where
  pub packet : (setting : Setting D) (envelope : Envelope) (server : Server) (draw : D) → HaveRoom (after_packet setting envelope server draw).server
  pub tick : (setting : Setting D) (server : Server) (draw : D) → HaveRoom (after_tick setting server draw).server
  pub attach : (setting : Setting D) (name : Name) (server : Server) (draw : D) → HaveRoom (after_attach setting name server draw).server
  pub work : (setting : Setting D) (place : ℕ) (serve : Step (List ℕ)) (service : List ℕ) (server : Server) (draw : D) → HaveRoom (after_work setting place serve service server draw).0.server

module _ {D : Type 0} (law : LeaveRoom D) (basis : Basis D) where
  room_by : (after : Reached) (answer one : Answer D) → HaveRoom one.server → answer ≡ one → after ≡ reached_by basis answer → HaveRoom after.server
  room_by after answer one room is same =
      subst (λ (r : Reached). HaveRoom r.server) (sym same) (subst (λ (a : Answer D). HaveRoom a.server) (sym is) room)

  lead_room : (moment place : ℕ) (event : Event (List ℕ)) (before after : Reached) → HaveRoom before.server → LeadsTo basis moment place event before after → HaveRoom after.server
  lead_room moment place (Packet packet) before after room (answer, (envelope, opens, is), same) =
      room_by after answer (after_packet (setting_at basis moment) (brought_in envelope) before.server (basis.at place))
      (law.packet (setting_at basis moment) (brought_in envelope) before.server (basis.at place)) is same
  lead_room moment place Tick before after room (answer, is, same) =
      room_by after answer (after_tick (setting_at basis moment) before.server (basis.at place)) (law.tick (setting_at basis moment) before.server (basis.at place)) is same
  lead_room moment place (Attach key session) before after room (answer, is, same) =
      let name : Name = record { key = key; session = session } in
      room_by after answer (after_attach (setting_at basis moment) name before.server (basis.at place)) (law.attach (setting_at basis moment) name before.server (basis.at place)) is same
  lead_room moment place (Begin job) before after room (below, is) = subst (λ (r : Reached). HaveRoom r.server) (sym is) room
  lead_room moment place (Ran reply) before after room (answer, (job, at, is), same) =
      room_by after answer (after_reply (setting_at basis moment) job reply before.server (basis.at place)) (law.work (setting_at basis moment) job always reply before.server (basis.at place)) is same
  lead_room moment place Interrupted before after room (answer, (job, at, is), same) =
      room_by after answer (after_interruption (setting_at basis moment) job before.server (basis.at place))
      (law.work (setting_at basis moment) job always run_interrupted before.server (basis.at place)) is same

  pub replays_room : (entries : List Record) (before after : Reached) → HaveRoom before.server → Replays basis entries before after → HaveRoom after.server
  replays_room [] before after room is = subst (λ (r : Reached). HaveRoom r.server) (sym is) room
  replays_room (entry ∷ entries) before after room (between, plays, rest) =
      replays_room entries between after (lead_room entry.moment entry.place entry.event before between room plays.leads) rest

  pub first_room : (entries : List Record) (after : Reached) → Replays basis entries at_first after → HaveRoom after.server
  first_room entries after replays = replays_room entries at_first after (λ k d below. absurd (omega (arith, below))) replays

-- ---- what a crash leaves

module _ (laws : RowLaws) where
  -- nothing is done
  calm : (seed : List ℕ) (entries : List Record) (len : ℕ) (told : Option DiskTold) → IfSome told (λ file. Settled seed entries len file)
      → IfSome told (λ was. IsSomeAnd told (λ is. LeavesSome was is (SpellsSome seed entries [])))
  calm seed entries len None settled = tt
  calm seed entries len (Some file) settled =
      let spelt : SpellsSome seed entries [] file.contents =
      record {
        front = [];
        back = [];
        split = refl;
        spells = subst (λ (l : List Record). Spells seed l file.contents) (sym (append_none entries)) (laws.spells seed entries len file settled);
      }
      in
      record {
        each =
            λ left h.
            let is : left ≡ file.contents =
            laws.synced file.contents left (subst (λ s. MayLeave s left) settled.sure (laws.at_once file left h)) in
            subst (λ (l : List ℕ). SpellsSome seed entries [] l) (sym is) spelt;
        earlier = λ since left h. inl h;
        read = spelt;
        longer = omega arith;
      }

  some_of : (P : List ℕ → Type 0) (was is : DiskTold) → LeavesOnly was is P → LeavesSome was is P
  some_of P was is only = record { each = only.each; earlier = only.earlier.adds; read = only.read; longer = only.earlier.longer }

  -- one record is added
  pub one_left : (seed : List ℕ) (entries : List Record) (entry : Record) (was is : Option DiskTold)
      → IfSome was (λ before. IsSomeAnd is (λ after. LeavesOnly before after (SpellsOneOf seed entries entry)))
      → IfSome was (λ before. IsSomeAnd is (λ after. LeavesOnly before after (SpellsSome seed entries (entry ∷ []))))
  one_left seed entries entry None is h = tt
  one_left seed entries entry (Some was) None h = absurd h
  one_left seed entries entry (Some was) (Some is) h = laws.one seed entries entry was is h

  pub only_some : (seed : List ℕ) (entries more : List Record) (was is : Option DiskTold)
      → IfSome was (λ before. IsSomeAnd is (λ after. LeavesOnly before after (SpellsSome seed entries more)))
      → IfSome was (λ before. IsSomeAnd is (λ after. LeavesSome before after (SpellsSome seed entries more)))
  only_some seed entries more None is h = tt
  only_some seed entries more (Some was) None h = absurd h
  only_some seed entries more (Some was) (Some is) h = some_of (SpellsSome seed entries more) was is h

-- ---- what a desk stands for

module _ {K S D : Type 0} (bases : Bases S D) (told : K → Option DiskTold) where
  -- a record is added behind others
  pub keeps_more : (seal : S) (entries : List Record) (file added : File K) (reached after : Reached) (desk : Seen K S D) (entry : Record) (server : Server)
      → Holds told entries file → Replays (bases seal file.seed) entries at_first reached
      → desk.server.seal ≡ seal → desk.book.journal ≡ Some added → Added told file entry added → Plays (bases seal file.seed) entry reached after
      → IsServer desk.server server → server ≡ record after.server { now = server.now } → after.server.now ≤ server.now
      → desk.latest ≡ server.now → after.place < 2 ^ 64 → desk.draw ≡ (bases seal file.seed).at after.place
      → KeepsFor bases told (entries ++ entry ∷ []) desk server
  keeps_more seal entries file added reached after desk entry server holds replays same_seal opened adds plays stands same later latest place drawn =
      let basis : Basis D = bases seal file.seed in
      let same_basis : bases desk.server.seal added.seed ≡ basis =
      ap (λ (s : S). bases s added.seed) same_seal ∙ ap (λ (s : List ℕ). bases seal s) adds.seed in
      record {
        stands = stands;
        recorded = record {
          file = added;
          opened = opened;
          holds = adds.holds entries holds;
          reached = after;
          replays = subst (λ (b : Basis D). Replays b (entries ++ entry ∷ []) at_first after) (sym same_basis) (replays_more basis entries entry reached after replays plays);
          same = same;
          later = later;
          latest_is = latest;
          place = place;
          drawn = subst (λ (b : Basis D). desk.draw ≡ b.at after.place) (sym same_basis) drawn;
        };
      }

-- ---- what a call comes to

some_and : {X : Type 0} (o : Option X) (P : X → Type 0) → IsSomeAnd o P → (x : X) × (o ≡ Some x) × P x
some_and None P h = absurd h
some_and (Some x) P h = (x, refl, h)

-- the record that was to be added is there, or isn't
abbrev pub LeftIn : {K : Type 0} → (K → Option DiskTold) → List Record → Record → File K → Book K → Type 0
LeftIn {K} told entries entry file book = (disk : K) × (disk_in book ≡ Some disk) × LeavesOneOf told entries entry file disk

-- ---- what a book that a record was added to has

pub left_in : {K : Type 0} (told : K → Option DiskTold) (entries : List Record) (entry due : Record) (file : File K) (journal : Option (File K)) (book : Book K)
    → journal ≡ Some file → entry ≡ due → Holds told entries file
    → IfSome journal (λ before. IsSomeAnd (disk_in book) (λ disk. (entries : List Record) → Holds told entries before → LeavesOneOf told entries entry before disk))
    → LeftIn told entries due file book
left_in {K} told entries entry due file journal book opened is holds h =
    let there : IsSomeAnd (disk_in book) (λ disk. (entries : List Record) → Holds told entries file → LeavesOneOf told entries entry file disk) =
    subst (λ (j : Option (File K)). IfSome j (λ before. IsSomeAnd (disk_in book) (λ disk. (entries : List Record) → Holds told entries before → LeavesOneOf told entries entry before disk))) opened h in
    let found = some_and (disk_in book) (λ disk. (entries : List Record) → Holds told entries file → LeavesOneOf told entries entry file disk) there in
    (found.0, found.1, subst (λ (e : Record). LeavesOneOf told entries e file found.0) is (found.2 entries holds))

pub added_in : {K : Type 0} (told : K → Option DiskTold) (entry due : Record) (file : File K) (journal now : Option (File K)) → journal ≡ Some file → entry ≡ due
    → IfSome journal (λ before. IsSomeAnd now (Added told before entry)) → (added : File K) × (now ≡ Some added) × Added told file due added
added_in {K} told entry due file journal now opened is h =
    let there : IsSomeAnd now (Added told file entry) = subst (λ (j : Option (File K)). IfSome j (λ before. IsSomeAnd now (Added told before entry))) opened h in
    let found = some_and now (Added told file entry) there in
    (found.0, found.1, subst (λ (e : Record). Added told file e found.0) is found.2)

pub same_record : (one other at there : ℕ) (event : Event (List ℕ)) → one ≡ other → at ≡ there
    → (let a : Record = record { moment = one; place = at; event = event } in a) ≡ (let b : Record = record { moment = other; place = there; event = event } in b)
same_record one other at there event moment place = λ i. record { moment = moment i; place = place i; event = event }

pub iff_no : (b : Bool) (P : Type 0) → (P → b ≡ false) → b ≡ true → P → ⊥
iff_no b P fails is h = let e : true ≡ false = sym is ∙ fails h in absurd (cc)

-- what `?` answers
pub err_is : {A : Type 0} (r : Result A DeskFault) (fault : DeskFault) (P : DeskFault → Type 0) → IsErr r × IsErrAnd r P → ((e : DeskFault) → P e → e ≡ fault) → r ≡ Err fault
err_is {A} (Ok value) fault P (is, h) same = absurd h
err_is {A} (Err e) fault P (is, h) same = ap Err (same e h)

pub none_sent : (lock : Lock) (keys : List RingKey) (sent : List Sent) (outs : List Out) → AreSent lock keys sent outs → outs ≡ [] → sent ≡ []
none_sent lock keys [] outs h is = refl
none_sent lock keys (one ∷ sent) [] h is = absurd h
none_sent lock keys (one ∷ sent) (out ∷ outs) h is = let e : out ∷ outs ≡ [] = is in absurd (cc)

-- ---- an event of a desk at a moment

module _ {K S D : Type 0} {bases : Bases S D} {told : K → Option DiskTold} {entries : List Record} {old : Seen K S D} {server : Server} {moment : ℕ} (stage : Stage bases told entries old server moment) where
  abbrev pub its : HasRecorded bases told old.server.seal entries old.book old.latest old.draw server
  its = stage.keeps.recorded

  abbrev pub basis : Basis D
  basis = bases old.server.seal stage.keeps.recorded.file.seed

  abbrev pub time : ℕ
  time = max server.now moment

  pub time_early : time ≤ latest_moment
  time_early =
      let at : server.now ≤ latest_moment = stage.keeps.stands.between.at in
      let early : moment ≤ latest_moment = stage.early in omega (arith, at, early)

  pub time_is : max old.latest moment ≡ time
  time_is = ap (λ (n : ℕ). max n moment) its.latest_is

  pub time_of : moment_of (max old.latest moment) ≡ time
  time_of = let within : time ≤ latest_moment = time_early in ap moment_of time_is ∙ omega (arith, within)

  place_is : basis.place_of old.draw ≡ its.reached.place
  place_is = ap basis.place_of its.drawn ∙ stage.places its.reached.place its.place

  -- each session has room for an event
  pub keeps_room : LeaveRoom D → HaveRoom server
  keeps_room law = subst HaveRoom (sym its.same) (first_room law basis entries its.reached its.replays)

  -- the draw of its place
  pub draw_back : (Q : File K → Type 0) (draw : D) (seed : List ℕ) (place : ℕ) → draw ≡ (bases old.server.seal seed).at place
      → IsSomeAnd old.book.journal (λ file. (seed ≡ file.seed) × Q file) → place ≡ basis.place_of old.draw → draw ≡ old.draw
  draw_back Q draw seed place is found there =
      let own : (seed ≡ its.file.seed) × Q its.file = subst (λ (j : Option (File K)). IsSomeAnd j (λ file. (seed ≡ file.seed) × Q file)) its.opened found in
      is ∙ ap (λ (s : List ℕ). (bases old.server.seal s).at place) own.0
      ∙ ap basis.at (there ∙ place_is) ∙ sym its.drawn

  -- its record is lawful
  pub plays_at : (event : Event (List ℕ)) (after : Reached) → LeadsTo basis (max old.latest moment) (basis.place_of old.draw) event its.reached after
      → Plays basis (entry_at basis.place_of old moment event) its.reached after
  plays_at event after leads =
      let before : its.reached.server.now ≤ server.now = its.later in
      let latest : old.latest ≡ server.now = its.latest_is in
      let place : basis.place_of old.draw ≡ its.reached.place = place_is in
      record {
        moment = omega (arith, before, latest);
        place = omega (arith, place);
        leads = leads;
      }

  -- what the event gives is what its record gives
  pub same_event : (F : ℕ → Server → D → Answer D) → ((at : ℕ) (one : Server) (n : ℕ) (draw : D) → F at (record one { now = n }) draw ≡ F at one draw)
      → F time server old.draw ≡ F (moment_of (max old.latest moment)) its.reached.server (basis.at (basis.place_of old.draw))
  same_event F blind =
      let is : moment_of (max old.latest moment) ≡ time = time_of in
      ap (λ (s : Server). F time s old.draw) its.same ∙ blind time its.reached.server server.now old.draw
      ∙ ap (λ (d : D). F time its.reached.server d) (its.drawn ∙ ap basis.at (sym place_is))
      ∙ ap (λ (n : ℕ). F n its.reached.server (basis.at (basis.place_of old.draw))) (sym is)

  -- nothing changes but the moment
  pub keeps_quiet : (new : Seen K S D) → new.server.seal ≡ old.server.seal → IsServer new.server (record server { now = time })
      → new.latest ≡ max old.latest moment → new.draw ≡ old.draw → new.book ≡ old.book
      → KeepsFor bases told entries new (record server { now = time })
  keeps_quiet new seal stands latest draw book =
      record {
        stands = stands;
        recorded = record {
          file = its.file;
          opened = ap (λ (b : Book K). b.journal) book ∙ its.opened;
          holds = its.holds;
          reached = its.reached;
          replays = subst (λ (s : S). Replays (bases s its.file.seed) entries at_first its.reached) (sym seal) its.replays;
          same = ap (λ (s : Server). record s { now = time }) its.same;
          later = let before : its.reached.server.now ≤ server.now = its.later in omega (arith, before);
          latest_is = latest ∙ time_is;
          place = its.place;
          drawn = draw ∙ subst (λ (s : S). old.draw ≡ (bases s its.file.seed).at its.reached.place) (sym seal) its.drawn;
        };
      }

  -- nothing is added
  pub adds_none : (new : Seen K S D) → new.book ≡ old.book → Adds bases told entries [] old new
  adds_none new book =
      record {
        file = its.file;
        opened = its.opened;
        disk = its.file.disk;
        stands = ap (λ (b : Book K). disk_in b) book ∙ ap (λ (j : Option (File K)). disk_by j old.book.lost) its.opened;
        reached = its.reached;
        replays = subst (λ (l : List Record). Replays basis l at_first its.reached) (sym (append_none entries)) its.replays;
        leaves = calm stage.laws its.file.seed entries its.file.len (told its.file.disk) its.holds;
      }

-- ---- a record that is added

module _ {K S D : Type 0} {bases : Bases S D} {told : K → Option DiskTold} {entries : List Record} {old : Seen K S D} {server : Server} {moment : ℕ} (stage : Stage bases told entries old server moment)
    (event : Event (List ℕ)) (after : Reached) (leads : LeadsTo (basis stage) (max old.latest moment) ((basis stage).place_of old.draw) event (its stage).reached after) where
  abbrev due : Record
  due = entry_at (basis stage).place_of old moment event

  adds_one : (new : Seen K S D) → LeftIn told entries due (its stage).file new.book → Adds bases told entries (due ∷ []) old new
  adds_one new (disk, stands, left) =
      record {
        file = (its stage).file;
        opened = (its stage).opened;
        disk = disk;
        stands = stands;
        reached = after;
        replays = replays_more (basis stage) entries due (its stage).reached after (its stage).replays (plays_at stage event after leads);
        leaves =
            only_some stage.laws (its stage).file.seed entries (due ∷ []) (told (its stage).file.disk) (told disk)
            (one_left stage.laws (its stage).file.seed entries due (told (its stage).file.disk) (told disk) left);
      }

  -- its disk failed as the record was added
  pub failed_journals : {A : Type 0} {P : A → List Record → Type 0} (new : Seen K S D) (r : Result A DeskFault) → r ≡ Err faults.Disk → LeftIn told entries due (its stage).file new.book
      → Journals bases told entries (due ∷ []) [] server old new r P
  failed_journals {A} {P} new r is left =
      subst (λ (r : Result A DeskFault). Journals bases told entries (due ∷ []) [] server old new r P) (sym is)
      (record {
        more = due ∷ [];
        back = [];
        front = refl;
        adds = adds_one new left;
        answers = tt;
        memory = λ same. let e : faults.Disk ≡ faults.Memory = same in absurd (cc);
      })

  -- the record was added
  pub added_journals : {A : Type 0} {P : A → List Record → Type 0} (new : Seen K S D) (value : A) → LeftIn told entries due (its stage).file new.book → P value (due ∷ [])
      → Journals bases told entries (due ∷ []) [] server old new (Ok value) P
  added_journals {A} {P} new value left answers =
      record {
        more = due ∷ [];
        back = [];
        front = refl;
        adds = adds_one new left;
        answers = answers;
        memory = tt;
      }

-- What an event gives to the server, by the laws on events: its record leads to that.
pub record Occurs {K S D : Type 0} {bases : Bases S D} {told : K → Option DiskTold} {entries : List Record} {old : Seen K S D} {server : Server} {moment : ℕ} (stage : Stage bases told entries old server moment)
    (event : Event (List ℕ)) (answer : Answer D) : Type 0 where
  pub leads : LeadsTo (basis stage) (max old.latest moment) ((basis stage).place_of old.draw) event (its stage).reached (reached_by (basis stage) answer)
  pub draws : (words : ℕ) × (answer.draw ≡ draw_after (basis stage).step words old.draw)
  pub at : answer.server.now ≡ max server.now moment

module _ {K S D : Type 0} {bases : Bases S D} {told : K → Option DiskTold} {entries : List Record} {old : Seen K S D} {server : Server} {moment : ℕ} {stage : Stage bases told entries old server moment}
    {event : Event (List ℕ)} {answer : Answer D} (occurs : Occurs stage event answer) where
  -- its record was to be added, and the disk failed
  pub failed_by : {A : Type 0} {P : A → List Record → Type 0} (new : Seen K S D) (r : Result A DeskFault) → r ≡ Err faults.Disk
      → LeftIn told entries (entry_at (basis stage).place_of old moment event) (its stage).file new.book → Journals bases told entries (entry_at (basis stage).place_of old moment event ∷ []) [] server old new r P
  failed_by {A} {P} new r is left = failed_journals stage event (reached_by (basis stage) answer) occurs.leads new r is left

  -- its record was added
  pub added_by : {A : Type 0} {P : A → List Record → Type 0} (new : Seen K S D) (value : A) → LeftIn told entries (entry_at (basis stage).place_of old moment event) (its stage).file new.book
      → P value (entry_at (basis stage).place_of old moment event ∷ []) → Journals bases told entries (entry_at (basis stage).place_of old moment event ∷ []) [] server old new (Ok value) P
  added_by {A} {P} new value left answers = added_journals stage event (reached_by (basis stage) answer) occurs.leads new value left answers

-- its record is added, and the desk stands for what it gives
pub does_recorded : {K S D : Type 0} {bases : Bases S D} {told : K → Option DiskTold} {entries : List Record} {old : Seen K S D} {server : Server} {moment : ℕ} (stage : Stage bases told entries old server moment) (event : Event (List ℕ)) (answer : Answer D) → Occurs stage event answer
    → (lock : Lock) (keys : List RingKey) (new : Seen K S D) (effects : Effects) (added : File K) → Does (IsServer new.server) lock keys new.draw effects answer
    → new.server.seal ≡ old.server.seal → new.latest ≡ max old.latest moment → new.book.journal ≡ Some added → Added told (its stage).file (entry_at (basis stage).place_of old moment event) added
    → Does (KeepsFor bases told (entries ++ entry_at (basis stage).place_of old moment event ∷ []) new) lock keys new.draw effects answer
does_recorded {K} {S} {D} {bases} {told} {entries} {old} {server} {moment} stage event answer occurs lock keys new effects added gives seal latest opened adds =
    let words = occurs.draws in
    let seed : IsSeeded (basis stage) answer.draw =
    seeded (basis stage) stage.goes stage.places (its stage).reached.place answer.draw words.0 (its stage).place (words.1 ∙ ap (draw_after (basis stage).step words.0) (its stage).drawn) in
    record {
      stands =
          keeps_more bases told old.server.seal entries (its stage).file added (its stage).reached (reached_by (basis stage) answer) new (entry_at (basis stage).place_of old moment event) answer.server
          (its stage).holds (its stage).replays seal opened adds (plays_at stage event (reached_by (basis stage) answer) occurs.leads) gives.stands refl (omega arith)
          (latest ∙ time_is stage ∙ sym occurs.at) seed.place (gives.drawn ∙ seed.drawn);
      drawn = gives.drawn;
      sent = gives.sent;
      entered = gives.entered;
    }

-- ---- what a call comes to without a record

module _ {K S D : Type 0} {bases : Bases S D} {told : K → Option DiskTold} {entries : List Record} {old : Seen K S D} {server : Server} {moment : ℕ} (stage : Stage bases told entries old server moment) where
  -- the desk is as it was
  pub none_journals : {A : Type 0} {all : List Record} {P : A → List Record → Type 0} (new : Seen K S D) (fault : DeskFault) (r : Result A DeskFault) → r ≡ Err fault → new ≡ old
      → Journals bases told entries all [] server old new r P
  none_journals {A} {all} {P} new fault r is same =
      subst (λ (r : Result A DeskFault). Journals bases told entries all [] server old new r P) (sym is)
      (record {
        more = [];
        back = all;
        front = refl;
        adds = adds_none stage new (ap (λ (d : Seen K S D). d.book) same);
        answers = tt;
        memory = λ _. (
          refl,
          subst (λ (l : List Record). KeepsFor bases told l new server) (sym (append_none entries)) (subst (λ (d : Seen K S D). KeepsFor bases told entries d server) (sym same) stage.keeps),
        );
      })

  -- no record was added
  pub quiet_journals : {A : Type 0} {all : List Record} {P : A → List Record → Type 0} (new : Seen K S D) (value : A) → new.book ≡ old.book → P value [] → Journals bases told entries all [] server old new (Ok value) P
  quiet_journals {A} {all} {P} new value book answers =
      record {
        more = [];
        back = all;
        front = refl;
        adds = adds_none stage new book;
        answers = answers;
        memory = tt;
      }

  -- ---- a tick, an attach and a run, which ask nothing of the ring's keys

  -- an event that gives nothing to a server that has room for it changes nothing but the moment
  pub does_quiet : (lock : Lock) (keys : List RingKey) (new : Seen K S D) (effects : Effects) (answer : Answer D) → Does (IsServer new.server) lock keys new.draw effects answer
      → answer ≡ quiet (max server.now moment) server old.draw → new.server.seal ≡ old.server.seal → new.latest ≡ max old.latest moment → new.book ≡ old.book
      → Does (KeepsFor bases told (entries ++ []) new) lock keys new.draw effects answer
  does_quiet lock keys new effects answer given is_quiet seal latest book =
      let then : Server = record server { now = max server.now moment } in
      let server_is : answer.server ≡ then = ap (λ (a : Answer D). a.server) is_quiet in
      let draw_is : new.draw ≡ old.draw = given.drawn ∙ ap (λ (a : Answer D). a.draw) is_quiet in
      let stands : KeepsFor bases told entries new then =
      keeps_quiet stage new seal (subst (λ (s : Server). IsServer new.server s) server_is given.stands) latest draw_is book in
      record {
        stands = subst (λ (l : List Record). KeepsFor bases told l new answer.server) (sym (append_none entries)) (subst (λ (s : Server). KeepsFor bases told entries new s) (sym server_is) stands);
        drawn = given.drawn;
        sent = given.sent;
        entered = given.entered;
      }

  -- what it gives at the moment of the kept server is what it gives at its own
  pub gives_now : (lock : Lock) (keys : List RingKey) (kept : Kept S) (draw : D) (effects : Effects) (F : ℕ → Answer D) → Does (IsServer kept) lock keys draw effects (F (max old.server.moment moment))
      → Does (IsServer kept) lock keys draw effects (F (max server.now moment))
  gives_now lock keys kept draw effects F gives =
      subst (λ (n : ℕ). Does (IsServer kept) lock keys draw effects (F (max n moment))) stage.keeps.stands.stands.moment gives

-- what a tick and an attach come to, by the desk before
abbrev pub MayJournals : {K S D : Type 0} → Bases S D → (K → Option DiskTold) → (D → ℕ) → Lock → (S → List RingKey) → (D → Keys → Answer D) → List Record → Server → ℕ → Event (List ℕ) → Seen K S D
    → Result Effects DeskFault → Seen K S D → Type 0
MayJournals bases told place_of lock ring_of answer entries server now event new result old =
    Journals bases told entries (entry_at place_of old now event ∷ []) [] server old new result (λ effects more. IsRecorded (GivesNothing effects) (entry_at place_of old now event) more
    × ((ring : Keys) → Does (KeepsFor bases told (entries ++ more) new) lock (ring_of old.server.seal) new.draw effects (answer old.draw ring)))
