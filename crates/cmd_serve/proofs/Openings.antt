-- A server comes of a journal's file, or none.
use Rattle.std.proofs.Common.{◌≡◌, ◌≢◌, ℕ, List, [], ◌∷◌, ◌++◌, Option, None, Some, inl, inr, IfSome, IsSomeAnd, IfOk, IfErr, Result, Ok, Err, refl, ap, subst, ◌∙◌}
use Rattle.auth_keys.specs.declared.ring.RingKey.{RingKey}
use Rattle.disks.specs.Told.{DiskTold}
use Rattle.draws.specs.Draws.{draw_after, next_bytes}
use Rattle.envelope.specs.Lawful.{OpensWhatItSealed}
use Rattle.envelope.specs.Lock.{mt_lock}
use Rattle.mt_edge.specs.Clocks.{Gave}
use Rattle.mt_edge.specs.Faults.{Rose}
use Rattle.server_rules.specs.Server.{Server, fresh_server}
use Rattle.sess_journal.specs.Keeping.{IsSameDisk, KeepsFor, Opened, Seen, count_of, disk_in, ending, place_by}
use Rattle.sess_journal.specs.Opening.{IsKeptAfter, IsLawfulFile, disk_left}
use Rattle.sess_records.specs.Calls.{HasCause, IfNotJournal}
use Rattle.sess_records.specs.Seen.{File}
use Rattle.sess_records.specs.declared.fault.JournalFault.{JournalFault}
use Rattle.sess_records.specs.declared.fault.JournalFault.TheVariants as causes
use Rattle.sess_records.specs.declared.records.Record.{Record}
use Rattle.sess_journal.specs.Files.{IsNoJournalAt}
use Rattle.sess_journal.specs.Replay.{Basis, Reached, Replays, at_first}
use Rattle.cmd_serve.specs.Inner.{FoundIn, IsLeft, OpensFile, ShutsFile}
use Rattle.cmd_serve.specs.Journals.{Drawing, Keeping, SeedsBy, basis_of, Faulty, Foreign, Starved, New, Old}

-- the laws on records
pub record RecordLaws (D : Type 0) : Type 0 where
  pub seals : OpensWhatItSealed mt_lock
  pub one : (basis : Basis D) (entries : List Record) (before after other : Reached) → OpensWhatItSealed basis.lock
      → Replays basis entries before after → Replays basis entries before other → after ≡ other
  pub whole : (basis : Basis D) (entries more : List Record) (before between after : Reached) → Replays basis entries before between
      → Replays basis more between after → Replays basis (entries ++ more) before after

-- P holds of what is there, which is this
of-some : {X : Type 0} (found : Option X) (x : X) (P : X → Type 0) → found ≡ Some x → IsSomeAnd found P → P x
of-some {X} found x P is has = let there : IsSomeAnd (Some x) P = subst (λ (some : Option X). IsSomeAnd some P) is has in there

-- what is there is in its place, and counts what it counts
place-of : {K : Type 0} (told : K → Option DiskTold) (place : K → ℕ) (disk : K) (after : Option K) → IsSomeAnd after (IsSameDisk told place disk) → place_by place after ≡ place disk
place-of told place disk None same = absurd same
place-of told place disk (Some other) same = same.place_is

count-in : {K : Type 0} (count : K → ℕ) (disk : K) (after : Option K) → IsSomeAnd after (λ other. count other ≡ count disk) → count_of count after ≡ count disk
count-in count disk None same = absurd same
count-in count disk (Some other) same = same

module _ {K D : Type 0} (drawing : Drawing D) (ring : List RingKey) (told : K → Option DiskTold) (place faults : K → ℕ) where
  nothing : (file : Option DiskTold) → IfSome file (λ some. FoundIn drawing ring Faulty some.contents)
  nothing None = tt
  nothing (Some file) = tt

  -- the draw of a desk whose records lead to a place
  drawn-there : (laws : RecordLaws D) (entries : List Record) (desk : Seen K (List RingKey) D) (server : Server) (seed : List ℕ) (after : Reached)
      → (stands : KeepsFor (λ (own : List RingKey) (some : List ℕ). basis_of drawing own some) told entries desk server) → IsSomeAnd desk.book.journal (λ file. file.seed ≡ seed)
      → Replays (basis_of drawing desk.server.seal seed) entries at_first after → desk.draw ≡ drawing.standing_at seed after.place
  drawn-there laws entries desk server seed after stands is replays =
      let recorded = stands.recorded in
      let same : recorded.file.seed ≡ seed = of-some desk.book.journal recorded.file (λ (file : File K). file.seed ≡ seed) recorded.opened is in
      let own : Replays (basis_of drawing desk.server.seal seed) entries at_first recorded.reached =
      subst (λ (some : List ℕ). Replays (basis_of drawing desk.server.seal some) entries at_first recorded.reached) same recorded.replays in
      let there : recorded.reached ≡ after = laws.one (basis_of drawing desk.server.seal seed) entries at_first recorded.reached after laws.seals own replays in
      recorded.drawn ∙ ap (λ (some : List ℕ). drawing.standing_at some recorded.reached.place) same ∙ ap (λ (some : Reached). drawing.standing_at seed some.place) there

  pub created : (laws : RecordLaws D) (result : Result (Seen K (List RingKey) D) (K × JournalFault)) (disk : K) (seed : List ℕ) (given : Option (List ℕ)) (draw draw_then : D)
      → IfSome (told disk) (λ file. file.contents ≡ [])
      → (seed ≡ next_bytes drawing.step 32 draw) → (draw_then ≡ draw_after drawing.step 4 draw)
      → IfOk result (λ desk. KeepsFor (λ (own : List RingKey) (some : List ℕ). basis_of drawing own some) told [] desk fresh_server) → IfOk result (λ desk. desk.server.seal ≡ ring)
      → IfOk result (λ desk. IsSomeAnd desk.book.journal (λ file. file.seed ≡ seed))
      → IfOk result (λ desk. IsSomeAnd (disk_in desk.book) (λ other. faults other ≡ faults disk)) → IsSomeAnd (disk_left result) (IsSameDisk told place disk)
      → IfOk result (OpensFile drawing ring told place faults disk given given draw draw_then)
  created laws (Ok desk) disk seed given draw draw_then empty seeded drawn stands seal own counted same = record {
    keeping = New seed;
    opened = tt;
    found = empty;
    clock = refl;
    seeded = (seeded, drawn);
    server = fresh_server;
    starts = (refl, drawn-there laws [] desk fresh_server seed at_first stands own refl);
    stands = ([], stands);
    ring_is = seal;
    same_place = place-of told place disk (disk_in desk.book) same;
    counted = count-in faults disk (disk_in desk.book) counted;
  }
  created laws (Err back) disk seed given draw draw_then empty seeded drawn stands seal own counted same = tt

  pub opened : (laws : RecordLaws D) (result : Result (Seen K (List RingKey) D) (K × JournalFault)) (disk : K) (now : ℕ) (given given_then : Option (List ℕ)) (draw : D)
      → Gave (now ∷ []) given given_then
      → IfOk result (Opened (λ (own : List RingKey) (some : List ℕ). basis_of drawing own some) told disk now) → IfOk result (λ desk. desk.server.seal ≡ ring)
      → IfOk result (λ desk. IsSomeAnd (disk_in desk.book) (λ other. faults other ≡ faults disk)) → IsSomeAnd (disk_left result) (IsSameDisk told place disk)
      → IfOk result (OpensFile drawing ring told place faults disk given given_then draw draw)
  opened laws (Ok desk) disk now given given_then draw gave is seal counted same =
      let ended = is.resumed in
      let replays : Replays (basis_of drawing desk.server.seal is.seed) (is.entries ++ ending now is.reached) at_first ended.after =
      laws.whole (basis_of drawing desk.server.seal is.seed) is.entries (ending now is.reached) at_first is.reached ended.after is.replays ended.replays in
      record {
        keeping = Old is.seed is.entries now;
        opened = tt;
        found = is.spells;
        clock = gave;
        seeded = refl;
        server = ended.after.server;
        starts = record {
          reached = is.reached;
          replays = subst (λ (own : List RingKey). Replays (basis_of drawing own is.seed) is.entries at_first is.reached) seal is.replays;
          after = ended.after;
          ended = subst (λ (own : List RingKey). Replays (basis_of drawing own is.seed) (ending now is.reached) is.reached ended.after) seal ended.replays;
          server_is = refl;
          draw_is = drawn-there laws (is.entries ++ ending now is.reached) desk ended.after.server is.seed ended.after ended.stands ended.seed_is replays;
        };
        stands = (is.entries ++ ending now is.reached, ended.stands);
        ring_is = seal;
        same_place = place-of told place disk (disk_in desk.book) same;
        counted = count-in faults disk (disk_in desk.book) counted;
      }
  opened laws (Err back) disk now given given_then draw gave is seal counted same = tt

  -- ---- none comes of it

  foreign-some : (file : Option DiskTold) (at : ℕ) → IfSome file (λ some. some.contents ≢ []) → IfSome file (λ some. IsNoJournalAt (basis_of drawing ring) at some.contents)
      → ((seed : List ℕ) (entries : List Record) (reached : Reached) → IfSome file (λ some. IsLawfulFile (basis_of drawing ring) seed entries reached some.contents → ⊥))
      → IfSome file (λ some. FoundIn drawing ring (Foreign at) some.contents)
  foreign-some None at some none unlawful = tt
  foreign-some (Some file) at some none unlawful = (some, none, unlawful)

  shut-by : (disk other : K) (fault : JournalFault) (now : ℕ) (given given_then : Option (List ℕ)) (draw : D)
      → Gave (now ∷ []) given given_then → IfSome (told disk) (λ file. file.contents ≢ [])
      → IfNotJournal fault (λ at. IfSome (told disk) (λ file. IsNoJournalAt (basis_of drawing ring) at file.contents))
      → ((seed : List ℕ) (entries : List Record) (reached : Reached) → IfSome (told disk) (λ file. IsLawfulFile (basis_of drawing ring) seed entries reached file.contents → IfNotJournal fault (λ _. ⊥)))
      → IfSome (told disk) (λ before. IsSomeAnd (told other) (λ after. IsKeptAfter fault before.contents after.contents))
      → HasCause fault (faults disk) (faults other) → IsSameDisk told place disk other
      → ShutsFile drawing ring told place faults disk given given_then draw draw (other, fault)
  shut-by disk other causes.Disk now given given_then draw gave some refused lawful kept cause same = record {
    keeping = Faulty;
    cause = refl;
    found = nothing (told disk);
    clock = inr (now, gave);
    seeded = inl refl;
    unharmed = tt;
    counted = cause;
    same_place = same.place_is;
  }
  shut-by disk other (causes.NotJournal at) now given given_then draw gave some refused lawful kept cause same = record {
    keeping = Foreign at;
    cause = refl;
    found = foreign-some (told disk) at some refused lawful;
    clock = (now, gave);
    seeded = refl;
    unharmed = kept;
    counted = cause;
    same_place = same.place_is;
  }
  shut-by disk other causes.Memory now given given_then draw gave some refused lawful kept cause same = record {
    keeping = Starved;
    cause = refl;
    found = some;
    clock = (now, gave);
    seeded = refl;
    unharmed = kept;
    counted = cause;
    same_place = same.place_is;
  }

  pub opened-not : (result : Result (Seen K (List RingKey) D) (K × JournalFault)) (disk : K) (now : ℕ) (given given_then : Option (List ℕ)) (draw : D)
      → Gave (now ∷ []) given given_then → IfSome (told disk) (λ file. file.contents ≢ [])
      → IfErr result (λ back. IfNotJournal back.1 (λ at. IfSome (told disk) (λ file. IsNoJournalAt (basis_of drawing ring) at file.contents)))
      → ((seed : List ℕ) (entries : List Record) (reached : Reached) → IfSome (told disk) (λ file. IsLawfulFile (basis_of drawing ring) seed entries reached file.contents → IfErr result (λ back. IfNotJournal back.1 (λ _. ⊥))))
      → IfErr result (λ back. IfSome (told disk) (λ before. IsSomeAnd (told back.0) (λ after. IsKeptAfter back.1 before.contents after.contents)))
      → IfErr result (λ back. HasCause back.1 (faults disk) (faults back.0)) → IsSomeAnd (disk_left result) (IsSameDisk told place disk)
      → IfErr result (ShutsFile drawing ring told place faults disk given given_then draw draw)
  opened-not (Ok desk) disk now given given_then draw gave some refused lawful kept cause same = tt
  opened-not (Err (other, fault)) disk now given given_then draw gave some refused lawful kept cause same =
      shut-by disk other fault now given given_then draw gave some refused lawful kept cause same

  pub faulty : (disk other : K) (fault : JournalFault) (given : Option (List ℕ)) (draw draw_then : D)
      → fault ≡ causes.Disk → SeedsBy drawing Faulty draw draw_then → Rose (faults disk) (faults other) → IsSameDisk told place disk other
      → ShutsFile drawing ring told place faults disk given given draw draw_then (other, fault)
  faulty disk other causes.Disk given draw draw_then is seeded rose same = record {
    keeping = Faulty;
    cause = refl;
    found = nothing (told disk);
    clock = inl refl;
    seeded = seeded;
    unharmed = tt;
    counted = rose;
    same_place = same.place_is;
  }
  faulty disk other (causes.NotJournal at) given draw draw_then is seeded rose same = cc
  faulty disk other causes.Memory given draw draw_then is seeded rose same = cc

  pub created-not : (result : Result (Seen K (List RingKey) D) (K × JournalFault)) (disk : K) (given : Option (List ℕ)) (draw draw_then : D)
      → draw_then ≡ draw_after drawing.step 4 draw → IfErr result (λ back. (back.1 ≡ causes.Disk) × Rose (faults disk) (faults back.0)) → IsSomeAnd (disk_left result) (IsSameDisk told place disk)
      → IfErr result (ShutsFile drawing ring told place faults disk given given draw draw_then)
  created-not (Ok desk) disk given draw draw_then drawn cause same = tt
  created-not (Err (other, fault)) disk given draw draw_then drawn cause same = faulty disk other fault given draw draw_then cause.0 (inr drawn) cause.1 same

  -- ---- before its length was asked for

  found-at : (was is : Option DiskTold) (keeping : Keeping) → is ≡ was → IfSome is (λ file. FoundIn drawing ring keeping file.contents) → IfSome was (λ file. FoundIn drawing ring keeping file.contents)
  found-at was is keeping same found = subst (λ (some : Option DiskTold). IfSome some (λ file. FoundIn drawing ring keeping file.contents)) same found

  pub opens-from : (result : Result (Seen K (List RingKey) D) (K × JournalFault)) (was disk : K) (given given_then : Option (List ℕ)) (draw draw_then : D)
      → told disk ≡ told was → place disk ≡ place was → faults disk ≡ faults was
      → IfOk result (OpensFile drawing ring told place faults disk given given_then draw draw_then) → IfOk result (OpensFile drawing ring told place faults was given given_then draw draw_then)
  opens-from (Err back) was disk given given_then draw draw_then telling there counts opens = tt
  opens-from (Ok desk) was disk given given_then draw draw_then telling there counts opens = record {
    keeping = opens.keeping;
    opened = opens.opened;
    found = found-at (told was) (told disk) opens.keeping telling opens.found;
    clock = opens.clock;
    seeded = opens.seeded;
    server = opens.server;
    starts = opens.starts;
    stands = opens.stands;
    ring_is = opens.ring_is;
    same_place = opens.same_place ∙ there;
    counted = opens.counted ∙ counts;
  }

  pub shuts-from : (result : Result (Seen K (List RingKey) D) (K × JournalFault)) (was disk : K) (given given_then : Option (List ℕ)) (draw draw_then : D)
      → told disk ≡ told was → place disk ≡ place was → faults disk ≡ faults was
      → IfErr result (ShutsFile drawing ring told place faults disk given given_then draw draw_then) → IfErr result (ShutsFile drawing ring told place faults was given given_then draw draw_then)
  shuts-from (Ok desk) was disk given given_then draw draw_then telling there counts shuts = tt
  shuts-from (Err back) was disk given given_then draw draw_then telling there counts shuts = record {
    keeping = shuts.keeping;
    cause = shuts.cause;
    found = found-at (told was) (told disk) shuts.keeping telling shuts.found;
    clock = shuts.clock;
    seeded = shuts.seeded;
    unharmed = subst (λ (some : Option DiskTold). IsLeft back.1 some (told back.0)) telling shuts.unharmed;
    counted = subst (λ (count : ℕ). HasCause back.1 count (faults back.0)) counts shuts.counted;
    same_place = shuts.same_place ∙ there;
  }
