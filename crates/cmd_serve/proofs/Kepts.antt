-- What is served with the server of a journal.
use Rattle.std.proofs.Common.{◌≡◌, ◌⊎◌, inl, inr, ℕ, ◌<◌, ◌+◌, List, [], ◌++◌, Option, None, Some, IfSome, IsSomeAnd, refl, sym, ap, subst, ◌∙◌, append-nil, arith}
use Rattle.auth_keys.specs.declared.ring.RingKey.{RingKey}
use Rattle.commands.specs.declared.command.ServeOptions.{ServeOptions}
use Rattle.disks.specs.Told.{DiskTold}
use Rattle.mt_edge.specs.declared.net_call.NetCall.{NetCall}
use Rattle.regs_service.specs.Registers as registers
use Rattle.sess_journal.specs.Keeping.{Behind, IsBroken, IsFull as LacksRoom, Seen, StandsFor, count_of, disk_by, disk_in, event_bytes_max, journal_bytes_max, place_by}
use Rattle.sess_journal.specs.Replay.{Bases, Replays, at_first}
use Rattle.sess_records.specs.Format.{Spells}
use Rattle.sess_records.specs.Seen.{File}
use Rattle.sess_records.specs.Standing.{Settled, SpellsSome}
use Rattle.sess_records.specs.declared.records.Record.{Record}
use Rattle.server_core.specs.declared.desk.DeskFault.{DeskFault}
use Rattle.server_core.specs.declared.desk.DeskFault.TheVariants as faults
use Rattle.server_node.specs.Trace.{rules_of}
use Rattle.server_rules.specs.Server.{Server}
use Rattle.statuses.specs.Outside.{Outside, Part}
use Rattle.statuses.specs.declared.status.Status.{Status}
use Rattle.cmd_serve.specs.Connections.{Between, Connection, behind_all}
use Rattle.cmd_serve.specs.Inner.{CountsDeskBy, CountsFileBy, EndsBehind, Hears, IsDeaf, IsMute, IsServeFault, LeavesDesk, ServesKept, ServesOn, UnlessBroken, first_kept}
use Rattle.cmd_serve.specs.Journals.{Drawing, IsFilled, SpellsServer, SpellsUpTo, basis_of}
use Rattle.cmd_serve.specs.Lines.{last_line}
use Rattle.cmd_serve.specs.Packets.{outside_of}
use Rattle.cmd_serve.specs.Runs.{Deaf, IsFull, Mute, Serves, Registers}
use Rattle.cmd_serve.specs.declared.ending.Ending.{Ending}
use Rattle.cmd_serve.specs.declared.ending.Ending.TheVariants.{Served, Stopped, NotTaken, Journal, Full, Memory}
use Rattle.cmd_serve.proofs.ServingLemmas.{ends-all, line-behind}
use Rattle.cmd_serve.proofs.Ways.{calls-deaf, calls-mute, calls-serves}

-- the law on what a journal's file spells
abbrev pub Spelling : Type 0
Spelling = (seed : List ℕ) (entries : List Record) (len : ℕ) (told : DiskTold) → Settled seed entries len told → Spells seed entries told.contents

-- the file of an open journal is its disk
same-file : {K : Type 0} (journal : Option (File K)) (lost : Option K) (file : File K) (back : K) → journal ≡ Some file → Some back ≡ disk_by journal lost → file.disk ≡ back
same-file None lost file back is there = cc
same-file {K} (Some other) lost file back is there =
    let one : other ≡ file = cc in
    let disk : back ≡ other.disk = cc in
    ap (λ (some : File K). some.disk) (sym one) ∙ sym disk

file-by : (ending : Ending) (before after : ℕ) → CountsDeskBy ending before after → CountsFileBy ending before after
file-by Served before after counted = counted
file-by Stopped before after counted = counted
file-by NotTaken before after counted = counted
file-by Journal before after counted = counted
file-by Full before after counted = counted
file-by Memory before after counted = counted

module _ {K D : Type 0} (drawing : Drawing D) (told : K → Option DiskTold) where
  if-told : (file : Option DiskTold) (P Q : DiskTold → Type 0) → ((one : DiskTold) → P one → Q one) → IfSome file P → IfSome file Q
  if-told None P Q so holds = tt
  if-told (Some file) P Q so holds = so file holds

  -- what stands for a server spells it
  pub spells-it : Spelling → (desk : Seen K (List RingKey) D) (server : Server) (back : K) → StandsFor (λ (own : List RingKey) (seed : List ℕ). basis_of drawing own seed) told desk server → Some back ≡ disk_in desk.book
      → IfSome (told back) (λ file. SpellsServer drawing desk.server.seal server desk.draw file.contents)
  spells-it law desk server back stands there =
      let entries = stands.0 in
      let recorded = stands.1.recorded in
      let same : recorded.file.disk ≡ back = same-file desk.book.journal desk.book.lost recorded.file back recorded.opened there in
      let holds : IfSome (told back) (λ file. Settled recorded.file.seed entries recorded.file.len file) =
      subst (λ (disk : K). IfSome (told disk) (λ file. Settled recorded.file.seed entries recorded.file.len file)) same recorded.holds in
      if-told (told back) (λ file. Settled recorded.file.seed entries recorded.file.len file) (λ file. SpellsServer drawing desk.server.seal server desk.draw file.contents)
      (λ file settled. record {
        seed = recorded.file.seed;
        entries = entries;
        spells = law recorded.file.seed entries recorded.file.len file settled;
        reached = recorded.reached;
        replays = recorded.replays;
        same = recorded.same;
        draw_is = recorded.drawn;
      }) holds

  place-back : (place : K → ℕ) (found : Option K) (back : K) → Some back ≡ found → place back ≡ place_by place found
  place-back place found back is = ap (λ (some : Option K). place_by place some) is

  count-back : (count : K → ℕ) (found : Option K) (back : K) → Some back ≡ found → count back ≡ count_of count found
  count-back count found back is = ap (λ (some : Option K). count_of count some) is

  module _ (ring : List RingKey) (law : Spelling) where
    spells-now : (desk : Seen K (List RingKey) D) (back : K) (last : Between D Registers) → desk.server.seal ≡ ring → Some back ≡ disk_in desk.book → desk.draw ≡ last.draw
        → StandsFor (λ (own : List RingKey) (seed : List ℕ). basis_of drawing own seed) told desk last.server
        → IfSome (told back) (λ file. SpellsServer drawing ring last.server last.draw file.contents)
    spells-now desk back last own there drawn stands =
        subst (λ (draw : D). IfSome (told back) (λ file. SpellsServer drawing ring last.server draw file.contents)) drawn
        (subst (λ (some : List RingKey). IfSome (told back) (λ file. SpellsServer drawing some last.server desk.draw file.contents)) own (spells-it law desk last.server back stands there))

    -- what stands at the end spells it, unless a call of the disk failed
    spells-last : (desk : Seen K (List RingKey) D) (back : K) (connections : List (Connection D Registers)) (ending : Ending) (last : Between D Registers)
        → desk.server.seal ≡ ring → Some back ≡ disk_in desk.book → desk.draw ≡ last.draw
        → LeavesDesk ending (StandsFor (λ (own : List RingKey) (seed : List ℕ). basis_of drawing own seed) told desk) (Behind (λ (own : List RingKey) (seed : List ℕ). basis_of drawing own seed) told desk) last.server
        → UnlessBroken (Serves ring connections ending) (IfSome (told back) (λ file. SpellsServer drawing ring last.server last.draw file.contents))
    spells-last desk back connections Served last own there drawn leaves = spells-now desk back last own there drawn leaves
    spells-last desk back connections Stopped last own there drawn leaves = spells-now desk back last own there drawn leaves
    spells-last desk back connections NotTaken last own there drawn leaves = spells-now desk back last own there drawn leaves
    spells-last desk back connections Journal last own there drawn leaves = tt
    spells-last desk back connections Full last own there drawn leaves = spells-now desk back last own there drawn leaves.stands
    spells-last desk back connections Memory last own there drawn leaves = spells-now desk back last own there drawn leaves

  -- a full journal's file is filled
  filled-file : (desk : Seen K (List RingKey) D) (server : Server) (back : K) (len : ℕ) → StandsFor (λ (own : List RingKey) (seed : List ℕ). basis_of drawing own seed) told desk server → Some back ≡ disk_in desk.book
      → LacksRoom desk.book event_bytes_max len → IfSome (told back) (λ file. IsFilled file.contents)
  filled-file desk server back len stands there room =
      let entries = stands.0 in
      let recorded = stands.1.recorded in
      let same : recorded.file.disk ≡ back = same-file desk.book.journal desk.book.lost recorded.file back recorded.opened there in
      let holds : IfSome (told back) (λ file. Settled recorded.file.seed entries recorded.file.len file) =
      subst (λ (disk : K). IfSome (told disk) (λ file. Settled recorded.file.seed entries recorded.file.len file)) same recorded.holds in
      let long : (len ≡ recorded.file.len) × (journal_bytes_max < len + event_bytes_max) =
      subst (λ (journal : Option (File K)). IsSomeAnd journal (λ file. (len ≡ file.len) × (journal_bytes_max < len + event_bytes_max))) recorded.opened room in
      if-told (told back) (λ file. Settled recorded.file.seed entries recorded.file.len file) (λ file. IsFilled file.contents)
      (λ file settled. subst (λ (n : ℕ). journal_bytes_max < n + event_bytes_max) (long.0 ∙ settled.whole) long.1) holds

  full-last : (ring : List RingKey) (desk : Seen K (List RingKey) D) (back : K) (connections : List (Connection D Registers)) (ending : Ending) (last : Between D Registers)
      → Some back ≡ disk_in desk.book
      → LeavesDesk ending (StandsFor (λ (own : List RingKey) (seed : List ℕ). basis_of drawing own seed) told desk) (Behind (λ (own : List RingKey) (seed : List ℕ). basis_of drawing own seed) told desk) last.server
      → IsFull (Serves ring connections ending) → IfSome (told back) (λ file. IsFilled file.contents)
  full-last ring desk back connections Full last there leaves is = filled-file desk last.server back leaves.len leaves.stands there leaves.full.1
  full-last ring desk back connections Served last there leaves is = absurd is
  full-last ring desk back connections Stopped last there leaves is = absurd is
  full-last ring desk back connections NotTaken last there leaves is = absurd is
  full-last ring desk back connections Journal last there leaves is = absurd is
  full-last ring desk back connections Memory last there leaves is = absurd is

  -- ---- what a failed call of the disk leaves

  -- what spells the server spells it with no more behind it
  up-to : (ring : List RingKey) (server : Server) (draw : D) (bytes : List ℕ) → SpellsServer drawing ring server draw bytes → SpellsUpTo drawing ring server bytes
  up-to ring server draw bytes spelt = record {
    seed = spelt.seed;
    entries = spelt.entries;
    reached = spelt.reached;
    replays = spelt.replays;
    same = spelt.same;
    more = [];
    few = omega arith;
    after = spelt.reached;
    lawful = subst (λ (l : List Record). Replays (basis_of drawing ring spelt.seed) l at_first spelt.reached) (sym (append-nil spelt.entries)) spelt.replays;
    spells = record {
      front = [];
      back = [];
      split = refl;
      spells = subst (λ (l : List Record). Spells spelt.seed l bytes) (sym (append-nil spelt.entries)) spelt.spells;
    };
  }

  pub up-to-it : Spelling → (desk : Seen K (List RingKey) D) (server : Server) (back : K) → StandsFor (λ (own : List RingKey) (seed : List ℕ). basis_of drawing own seed) told desk server → Some back ≡ disk_in desk.book
      → IfSome (told back) (λ file. SpellsUpTo drawing desk.server.seal server file.contents)
  up-to-it law desk server back stands there =
      if-told (told back) (λ file. SpellsServer drawing desk.server.seal server desk.draw file.contents) (λ file. SpellsUpTo drawing desk.server.seal server file.contents)
      (λ file spelt. up-to desk.server.seal server desk.draw file.contents spelt) (spells-it law desk server back stands there)

  broken-file : (desk : Seen K (List RingKey) D) (server : Server) (back : K) → IsBroken (λ (own : List RingKey) (seed : List ℕ). basis_of drawing own seed) told desk server → Some back ≡ disk_in desk.book
      → IfSome (told back) (λ file. SpellsUpTo drawing desk.server.seal server file.contents)
  broken-file desk server back broken there =
      let both : Some back ≡ Some broken.disk = there ∙ broken.stands in
      let same : broken.disk ≡ back = cc in
      if-told (told back) (λ file. SpellsSome broken.seed broken.entries broken.more file.contents) (λ file. SpellsUpTo drawing desk.server.seal server file.contents)
      (λ file spelt. record {
        seed = broken.seed;
        entries = broken.entries;
        reached = broken.reached;
        replays = broken.replays;
        same = broken.same;
        more = broken.more;
        few = broken.few;
        after = broken.after;
        lawful = broken.lawful;
        spells = spelt;
      })
      (subst (λ (disk : K). IfSome (told disk) (λ file. SpellsSome broken.seed broken.entries broken.more file.contents)) same broken.spells)

  up-to-by : Spelling → (desk : Seen K (List RingKey) D) (back : K) (ending : Ending) (server : Server) → Some back ≡ disk_in desk.book
      → LeavesDesk ending (StandsFor (λ (own : List RingKey) (seed : List ℕ). basis_of drawing own seed) told desk) (Behind (λ (own : List RingKey) (seed : List ℕ). basis_of drawing own seed) told desk) server
      → IfSome (told back) (λ file. SpellsUpTo drawing desk.server.seal server file.contents)
  up-to-by law desk back Served server there leaves = up-to-it law desk server back leaves there
  up-to-by law desk back Stopped server there leaves = up-to-it law desk server back leaves there
  up-to-by law desk back NotTaken server there leaves = up-to-it law desk server back leaves there
  up-to-by law desk back Journal server there leaves = broken-file desk server back leaves there
  up-to-by law desk back Full server there leaves = up-to-it law desk server back leaves.stands there
  up-to-by law desk back Memory server there leaves = up-to-it law desk server back leaves there

  up-to-last : (ring : List RingKey) → Spelling → (desk : Seen K (List RingKey) D) (back : K) (ending : Ending) (server : Server) → desk.server.seal ≡ ring → Some back ≡ disk_in desk.book
      → LeavesDesk ending (StandsFor (λ (own : List RingKey) (seed : List ℕ). basis_of drawing own seed) told desk) (Behind (λ (own : List RingKey) (seed : List ℕ). basis_of drawing own seed) told desk) server
      → IfSome (told back) (λ file. SpellsUpTo drawing ring server file.contents)
  up-to-last ring law desk back ending server own there leaves =
      subst (λ (some : List RingKey). IfSome (told back) (λ file. SpellsUpTo drawing some server file.contents)) own (up-to-by law desk back ending server there leaves)

  module _ {N O : Type 0} (options : ServeOptions) (ring : List RingKey) (place faults : K → ℕ) (law : Spelling) where
    -- connections can't be taken, or the first line isn't written
    pub kept-not : (desk : Seen K (List RingKey) D) (server : Server) (back : K) (net : Part (List NetCall) N) (out : Outside O) (given : Option (List ℕ)) (one : Status)
        → desk.server.seal ≡ ring → StandsFor (λ (own : List RingKey) (seed : List ℕ). basis_of drawing own seed) told desk server → Some back ≡ disk_in desk.book
        → IsDeaf options.port net out one ⊎ IsMute options.port net out one
        → ServesKept drawing options ring told place faults (first_kept options given server desk.draw) (place_by place (disk_in desk.book)) (count_of faults (disk_in desk.book)) net out given (back, one)
    kept-not desk server back net out given one own stands there (inl deaf) = record {
      course = Deaf ring;
      own = refl;
      calls = calls-deaf options.port net ring deaf.called deaf.counted deaf.tells;
      goes = refl;
      leaves = subst (λ (some : List RingKey). IfSome (told back) (λ file. SpellsServer drawing some server desk.draw file.contents)) own (spells-it law desk server back stands there);
      up_to = subst (λ (some : List RingKey). IfSome (told back) (λ file. SpellsUpTo drawing some server file.contents)) own (up-to-it law desk server back stands there);
      same_place = place-back place (disk_in desk.book) back there;
      counted = count-back faults (disk_in desk.book) back there;
      ends = deaf.ends;
      full = λ none. absurd none;
    }
    kept-not desk server back net out given one own stands there (inr mute) = record {
      course = Mute ring;
      own = refl;
      calls = calls-mute options.port net ring mute.called mute.counted mute.tells;
      goes = refl;
      leaves = subst (λ (some : List RingKey). IfSome (told back) (λ file. SpellsServer drawing some server desk.draw file.contents)) own (spells-it law desk server back stands there);
      up_to = subst (λ (some : List RingKey). IfSome (told back) (λ file. SpellsUpTo drawing some server file.contents)) own (up-to-it law desk server back stands there);
      same_place = place-back place (disk_in desk.book) back there;
      counted = count-back faults (disk_in desk.book) back there;
      ends = mute.ends;
      full = λ none. absurd none;
    }

    -- connections are served
    pub kept-serves : (desk desk_then : Seen K (List RingKey) D) (server : Server) (back : K) (calls : N → Option (List NetCall)) (counts : N → ℕ) (net between net_then : N)
        (writes : O → Option (List ℕ)) (counts_out : O → ℕ) (out amid out_then : O) (given given_then : Option (List ℕ)) (ending : Ending) (text : List ℕ) (one : Status)
        → desk_then.server.seal ≡ ring → Some back ≡ disk_in desk_then.book
        → Hears options.port (record { told = calls; faults = counts; before = net; after = between }) (record { told = writes; faults = counts_out; before = out; after = amid })
        → ServesOn (rules_of drawing.step registers.step (outside_of ring)) options (first_kept options given server desk.draw)
        (record { told = calls; faults = counts; before = between; after = net_then }) given_then (StandsFor (λ (own : List RingKey) (seed : List ℕ). basis_of drawing own seed) told desk_then) (Behind (λ (own : List RingKey) (seed : List ℕ). basis_of drawing own seed) told desk_then) desk_then.draw ending
        → CountsDeskBy ending (count_of faults (disk_in desk.book)) (count_of faults (disk_in desk_then.book))
        → place_by place (disk_in desk_then.book) ≡ place_by place (disk_in desk.book)
        → text ≡ last_line options.conns Served → EndsBehind text (record { told = writes; faults = counts_out; before = amid; after = out_then }) ending one
        → ServesKept drawing options ring told place faults (first_kept options given server desk.draw) (place_by place (disk_in desk.book)) (count_of faults (disk_in desk.book))
        (record { told = calls; faults = counts; before = net; after = net_then }) (record { told = writes; faults = counts_out; before = out; after = out_then }) given_then (back, one)
    kept-serves desk desk_then server back calls counts net between net_then writes counts_out out amid out_then given given_then ending text one own there hears serves counted same is ends =
        let first : Between D Registers = first_kept options given server desk.draw in
        let last : Between D Registers = behind_all first serves.connections in
        record {
          course = Serves ring serves.connections ending;
          own = refl;
          calls = calls-serves options.port calls counts net between net_then ring serves.connections ending hears.called hears.counted hears.tells serves.noted serves.counted serves.tells;
          goes = record { are = serves.are.are; ended = serves.are.ended; moments = serves.are.moments; words = refl };
          leaves = spells-last ring law desk_then back serves.connections ending last own there serves.are.words serves.leaves;
          up_to = up-to-last ring law desk_then back ending last.server own there serves.leaves;
          same_place = place-back place (disk_in desk_then.book) back there ∙ same;
          counted = subst (λ (n : ℕ). CountsFileBy ending (count_of faults (disk_in desk.book)) n) (sym (count-back faults (disk_in desk_then.book) back there)) (file-by ending _ _ counted);
          ends = ends-all options writes counts_out out amid out_then one hears.written ending
              (line-behind (record { told = writes; faults = counts_out; before = amid; after = out_then }) ending one text (last_line options.conns Served) is ends);
          full = full-last ring desk_then back serves.connections ending last there serves.leaves;
        }

-- a server of a journal that stood for one answers that it is closed no more
pub serve-fault : {K S D : Type 0} (bases : Bases S D) (told : K → Option DiskTold) (desk : Seen K S D) (fault : DeskFault) (server : Server) → Behind bases told desk fault server → IsServeFault fault
serve-fault bases told desk faults.Memory server behind = tt
serve-fault bases told desk faults.Disk server behind = tt
serve-fault bases told desk (faults.Full len) server behind = tt
serve-fault bases told desk faults.Closed server behind = absurd behind
