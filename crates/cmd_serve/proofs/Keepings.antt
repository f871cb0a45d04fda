-- A run with a journal, from its parts.
use Rattle.std.proofs.Common.{◌≡◌, ◌≢◌, ◌<◌, ◌⊎◌, inl, inr, ℕ, zero, suc, List, [], ◌∷◌, ◌++◌, length, slice_index_or, slice_set, Option, None, Some, IfSome, IsSome, IsSomeAnd, refl, sym, ap, subst, ◌∙◌, arith}
use Rattle.auth_keys.specs.declared.ring.RingKey.{RingKey}
use Rattle.commands.specs.declared.command.ServeOptions.{ServeOptions}
use Rattle.disks.specs.Named.{Closes, CountsDone, Named, NamesTold, Opens as OpensNamed, OpensNone as OpensNoFile, Puts}
use Rattle.disks.specs.Told.{DiskTold}
use Rattle.mt_edge.specs.Faults.{Rose, one_more}
use Rattle.mt_edge.specs.declared.net_call.NetCall.{NetCall}
use Rattle.sess_journal.specs.Keeping.{Seen, count_of, disk_in, place_by}
use Rattle.sess_journal.specs.Opening.{HaveSameRecords, IsKeptAfter}
use Rattle.sess_records.specs.Calls.{HasCause}
use Rattle.sess_records.specs.declared.fault.JournalFault.{JournalFault}
use Rattle.sess_records.specs.declared.fault.JournalFault.TheVariants as causes
use Rattle.server_rules.specs.Server.{Server}
use Rattle.statuses.specs.Outside.{HadFault, Outside, Part}
use Rattle.statuses.specs.declared.status.Status.{Status}
use Rattle.cmd_serve.specs.Connections.{Between, behind_all}
use Rattle.cmd_serve.specs.Inner.{CountsFile, CountsFileBy, EndsBecause, FoundIn, GoesFrom, IsBecause, IsBegun, IsLeft, OpensFile, RunsWith, ServesKept, ShutsFile, UnlessBroken, first_kept, served_in}
use Rattle.cmd_serve.specs.Journals.{AsksFor, Drawing, FoundBy, Holds, HoldsSome, IsFilled, IsOpen, IsShut, Keeping, LeavesBy, SpellsServer, SpellsUpTo, StartsBy, Unopened, Faulty, Foreign, Starved, New, Old}
use Rattle.cmd_serve.specs.Runs.{CountsBy, CountsDisks, CountsKept, Course, Draws, Unread, Refused, Unbegun, Shut, Deaf, Mute, Serves, Ends, EndsShut, FailsNever, FailsOnce, GoesBy, IfTold, JournalsBy, Opens, Registers}
use Rattle.cmd_serve.specs.declared.ending.Ending.{Ending}
use Rattle.cmd_serve.specs.declared.ending.Ending.TheVariants.{Served, Stopped, NotTaken, Journal, Full, Memory}
use Rattle.cmd_serve.proofs.ServingLemmas.{own-with}
use Rattle.cmd_serve.proofs.Texts.{rose-once}
use Rattle.cmd_serve.proofs.Ways.{calls-shut}

-- ---- a list in which a member is changed

set-length : {X : Type 0} (xs : List X) (place : ℕ) (x : X) → length (slice_set xs place x) ≡ length xs
set-length [] place x = refl
set-length (y ∷ xs) zero x = refl
set-length (y ∷ xs) (suc place) x = ap (λ (n : ℕ). suc n) (set-length xs place x)

set-at : {X : Type 0} (xs : List X) (place : ℕ) (x other : X) → place < length xs → slice_index_or (slice_set xs place x) place other ≡ x
set-at [] place x other inside = absurd (omega (arith, inside))
set-at (y ∷ xs) zero x other inside = refl
set-at (y ∷ xs) (suc place) x other inside = set-at xs place x other (omega (arith, inside))

-- ---- a file is opened and comes back

holds-then : (name left : List ℕ) (place : ℕ) (files between after : List Named) → place < length files → between ≡ slice_set files place (record { name = name; contents = None }) → Puts place left between after
    → Holds name left after
holds-then name left place files between after inside taken puts =
    let none : Named = record { name = name; contents = None } in
    let back : Named = record { name = name; contents = Some left } in
    let there : slice_index_or between place none ≡ none = ap (λ (some : List Named). slice_index_or some place none) taken ∙ set-at files place none none inside in
    let is : after ≡ slice_set between place back = puts none ∙ ap (λ (some : Named). slice_set between place (record { name = some.name; contents = Some left })) there in
    let long : length between ≡ length files = ap (λ (some : List Named). length some) taken ∙ set-length files place none in
    let longer : length after ≡ length between = ap (λ (some : List Named). length some) is ∙ set-length between place back in
    let whole : place < length between = omega (arith, inside, long) in
    record {
      place = place;
      inside = omega (arith, inside, long, longer);
      file = λ other. ap (λ (some : List Named). slice_index_or some place other) is ∙ set-at between place back other whole;
    }

-- what the files tell of it
pub record Passes (name found left : List ℕ) (before after : NamesTold) : Type 0 where
  pub found_is : Holds name found before.files
  pub left_is : Holds name left after.files
  pub asked : after.asked ≡ before.asked ++ name ∷ []

passes : (name found left : List ℕ) (place place_then : ℕ) (before between after : NamesTold) → place_then ≡ place → OpensNamed name place found before between → Closes place_then left between after
    → Passes name found left before after
passes name found left place place_then before between after same opens closes =
    let puts : Puts place left between.files after.files = subst (λ (at : ℕ). Puts at left between.files after.files) same closes.files in
    record {
      found_is = record { place = place; inside = opens.files.inside; file = opens.files.file };
      left_is = holds-then name left place before.files between.files after.files opens.files.inside opens.files.files puts;
      asked = closes.asked ∙ opens.asked;
    }

pub passes-told : (name : List ℕ) (found left : Option DiskTold) (place place_then : ℕ) (first middle last : Option NamesTold) (P : NamesTold → NamesTold → Type 0) → place_then ≡ place
    → IfSome middle (λ after. IsSomeAnd first (λ before. IsSomeAnd found (λ holds. OpensNamed name place holds.contents before after)))
    → IfSome last (λ after. IsSomeAnd middle (λ before. IsSomeAnd left (λ holds. Closes place_then holds.contents before after)))
    → ((one other : DiskTold) (before after : NamesTold) → found ≡ Some one → left ≡ Some other → Passes name one.contents other.contents before after → P before after)
    → IfSome last (λ after. IsSomeAnd first (λ before. P before after))
passes-told name found left place place_then first middle None P same opens closes so = tt
passes-told name found left place place_then first None (Some last) P same opens closes so = absurd closes
passes-told name found None place place_then first (Some middle) (Some last) P same opens closes so = absurd closes
passes-told name found (Some left) place place_then None (Some middle) (Some last) P same opens closes so = absurd opens
passes-told name None (Some left) place place_then (Some first) (Some middle) (Some last) P same opens closes so = absurd opens
passes-told name (Some found) (Some left) place place_then (Some first) (Some middle) (Some last) P same opens closes so =
    so found left first last refl refl (passes name found.contents left.contents place place_then first middle last same opens closes)

-- what holds of a file that tells
of-told : (told : Option DiskTold) (one : DiskTold) (P : DiskTold → Type 0) → told ≡ Some one → IfSome told P → P one
of-told told one P is holds = let there : IfSome (Some one) P = subst (λ (some : Option DiskTold). IfSome some P) is holds in there

of-both : (told other : Option DiskTold) (one left : DiskTold) (P : DiskTold → DiskTold → Type 0) → told ≡ Some one → other ≡ Some left → IfSome told (λ before. IsSomeAnd other (λ after. P before after)) → P one left
of-both told other one left P is also holds =
    let begun : IsSomeAnd other (λ after. P one after) = of-told told one (λ before. IsSomeAnd other (λ after. P before after)) is holds in
    let ended : IsSomeAnd (Some left) (λ after. P one after) = subst (λ (some : Option DiskTold). IsSomeAnd some (λ after. P one after)) also begun in
    ended

-- ---- the file can't be opened

module _ {D : Type 0} (drawing : Drawing D) (ring : List RingKey) (name : List ℕ) where
  failed-asks : (first last : Option NamesTold) → IfSome last (λ after. IsSomeAnd first (λ before. OpensNoFile name before after)) → IfSome last (λ after. IsSomeAnd first (λ before. AsksFor name Faulty before after))
  failed-asks first None told = tt
  failed-asks None (Some last) told = absurd told
  failed-asks (Some first) (Some last) told = told.asked

  failed-found : (first last : Option NamesTold) → IfSome last (λ after. IsSomeAnd first (λ before. OpensNoFile name before after)) → IfSome last (λ after. IsSomeAnd first (λ before. FoundBy drawing ring name Faulty before after))
  failed-found first None told = tt
  failed-found None (Some last) told = absurd told
  failed-found (Some first) (Some last) told = tt

  pub with-failed : {N O K : Type 0} (options : ServeOptions) (calls : N → Option (List NetCall)) (faulted : N → ℕ) (net : N) (out : Outside O) (given : Option (List ℕ)) (draw : D) (disks : Part NamesTold K) (one : Status)
      → options.journal ≡ Some name → IfTold disks (λ before after. OpensNoFile name before after) → FailsOnce disks → (IsSome (disks.told disks.before) → IsSome (disks.told disks.after)) → EndsShut out Faulty one
      → RunsWith drawing options ring (record { told = calls; faults = faulted; before = net; after = net }) out (record { before = given; after = given }) (record { before = draw; after = draw }) disks one
  with-failed options calls faulted net out given draw disks one named told once tells ends = record {
    course = Shut ring;
    keeping = Faulty;
    own = refl;
    calls = calls-shut options.port calls faulted net ring;
    goes = subst (λ (journal : Option (List ℕ)). GoesBy drawing options journal disks (record { before = given; after = given }) (record { before = draw; after = draw }) Faulty (Shut ring)) (sym named)
        (record {
          shut = tt;
          opens = record {
            asked = failed-asks (disks.told disks.before) (disks.told disks.after) told;
            found = failed-found (disks.told disks.before) (disks.told disks.after) told;
            clock = inl refl;
            seeded = inl refl;
          };
        });
    counts = once;
    tells = tells;
    ends = ends;
    full = λ none. absurd none;
  }

-- ---- no server comes of it

asks-any : (name : List ℕ) (keeping : Keeping) (before after : NamesTold) → (keeping ≡ Unopened → ⊥) → after.asked ≡ before.asked ++ name ∷ [] → AsksFor name keeping before after
asks-any name Unopened before after opened asked = absurd (opened refl)
asks-any name Faulty before after opened asked = inl asked
asks-any name (Foreign at) before after opened asked = asked
asks-any name Starved before after opened asked = asked
asks-any name (New seed) before after opened asked = asked
asks-any name (Old seed entries now) before after opened asked = asked

shut-is : (fault : JournalFault) (keeping : Keeping) → IsBecause fault keeping → IsShut keeping
shut-is causes.Disk keeping is = subst IsShut (sym is) tt
shut-is (causes.NotJournal at) keeping is = subst IsShut (sym is) tt
shut-is causes.Memory keeping is = subst IsShut (sym is) tt

shut-opened : (keeping : Keeping) → IsShut keeping → keeping ≡ Unopened → ⊥
shut-opened keeping shut is = let there : IsShut Unopened = subst IsShut is shut in there

shut-ends : {O : Type 0} (out : Outside O) (fault : JournalFault) (keeping : Keeping) (one : Status) → IsBecause fault keeping → EndsBecause out fault one → EndsShut out keeping one
shut-ends out causes.Disk keeping one is ends = subst (λ (some : Keeping). EndsShut out some one) (sym is) ends
shut-ends out (causes.NotJournal at) keeping one is ends = subst (λ (some : Keeping). EndsShut out some one) (sym is) ends
shut-ends out causes.Memory keeping one is ends = subst (λ (some : Keeping). EndsShut out some one) (sym is) ends

not-none : (before after : ℕ) → before ≡ 0 → Rose before after → after ≢ 0
not-none before after none (inl more) = λ is. omega (arith, none, more, is)
not-none before after none (inr most) = λ is. omega (arith, most, is)

shut-counts : {K : Type 0} (D : Type 0) (disks : Part NamesTold K) (ring : List RingKey) (fault : JournalFault) (keeping : Keeping) (was own between : ℕ) → IsBecause fault keeping → was ≡ 0 → HasCause fault was own
    → between ≡ disks.faults disks.before → CountsDone own between (disks.faults disks.after) → CountsDisks {D = D} {K = K} disks keeping (Shut ring)
shut-counts D disks ring causes.Disk keeping was own between is none cause never done =
    subst (λ (some : Keeping). CountsDisks {D = D} disks some (Shut ring)) (sym is) (done.faulty (not-none was own none cause) ∙ ap one_more never)
shut-counts D disks ring (causes.NotJournal at) keeping was own between is none cause never done =
    subst (λ (some : Keeping). CountsDisks {D = D} disks some (Shut ring)) (sym is) (done.clean (cause ∙ none) ∙ never)
shut-counts D disks ring causes.Memory keeping was own between is none cause never done =
    subst (λ (some : Keeping). CountsDisks {D = D} disks some (Shut ring)) (sym is) (done.clean (cause ∙ none) ∙ never)

module _ {D : Type 0} (drawing : Drawing D) (ring : List RingKey) (name : List ℕ) where
  shut-found : (fault : JournalFault) (keeping : Keeping) (found left : DiskTold) (before after : NamesTold) → IsBecause fault keeping → FoundIn drawing ring keeping found.contents
      → IsKeptAfter fault found.contents left.contents → Passes name found.contents left.contents before after → FoundBy drawing ring name keeping before after
  shut-found causes.Disk keeping found left before after is inside same passed = subst (λ (some : Keeping). FoundBy drawing ring name some before after) (sym is) tt
  shut-found (causes.NotJournal at) keeping found left before after is inside same passed =
      let foreign : FoundIn drawing ring (Foreign at) found.contents = subst (λ (some : Keeping). FoundIn drawing ring some found.contents) is inside in
      subst (λ (some : Keeping). FoundBy drawing ring name some before after) (sym is)
      (record {
        bytes = found.contents;
        some = foreign.0;
        no_journal = foreign.1;
        unlawful = foreign.2;
        before_is = passed.found_is;
        after_is = subst (λ (bytes : List ℕ). Holds name bytes after.files) same passed.left_is;
      })
  shut-found causes.Memory keeping found left before after is inside same passed =
      let some_bytes : FoundIn drawing ring Starved found.contents = subst (λ (some : Keeping). FoundIn drawing ring some found.contents) is inside in
      subst (λ (some : Keeping). FoundBy drawing ring name some before after) (sym is)
      (record { bytes = found.contents; some = some_bytes; left = left.contents; kept = same; before_is = passed.found_is; after_is = passed.left_is })

  open-found : (keeping : Keeping) (found left : DiskTold) (before after : NamesTold) → IsOpen keeping → FoundIn drawing ring keeping found.contents → Passes name found.contents left.contents before after
      → FoundBy drawing ring name keeping before after
  open-found Unopened found left before after opened inside passed = absurd opened
  open-found Faulty found left before after opened inside passed = absurd opened
  open-found (Foreign at) found left before after opened inside passed = absurd opened
  open-found Starved found left before after opened inside passed = absurd opened
  open-found (New seed) found left before after opened inside passed = subst (λ (bytes : List ℕ). Holds name bytes before.files) inside passed.found_is
  open-found (Old seed entries now) found left before after opened inside passed = record { bytes = found.contents; holds = passed.found_is; says = inside }

  not-unopened : (keeping : Keeping) → IsOpen keeping → keeping ≡ Unopened → ⊥
  not-unopened keeping opened is = let there : IsOpen Unopened = subst IsOpen is opened in there

  open-leaves : (keeping : Keeping) (server : Server) (draw : D) (found left : DiskTold) (before after : NamesTold) → IsOpen keeping → SpellsServer drawing ring server draw left.contents → Passes name found.contents left.contents before after
      → LeavesBy drawing ring name keeping server draw after
  open-leaves Unopened server draw found left before after opened spells passed = absurd opened
  open-leaves Faulty server draw found left before after opened spells passed = absurd opened
  open-leaves (Foreign at) server draw found left before after opened spells passed = absurd opened
  open-leaves Starved server draw found left before after opened spells passed = absurd opened
  open-leaves (New seed) server draw found left before after opened spells passed = record { bytes = left.contents; holds = passed.left_is; says = spells }
  open-leaves (Old seed entries now) server draw found left before after opened spells passed = record { bytes = left.contents; holds = passed.left_is; says = spells }

same-bytes : (fault : JournalFault) (was is : Option DiskTold) (found left : DiskTold) → was ≡ Some found → is ≡ Some left
    → IsLeft fault was is → IsKeptAfter fault found.contents left.contents
same-bytes causes.Disk was is found left begun ended same = tt
same-bytes (causes.NotJournal at) was is found left begun ended same = of-both was is found left (λ before after. after.contents ≡ before.contents) begun ended same
same-bytes causes.Memory was is found left begun ended same =
    of-both was is found left (λ before after. (after.contents ≡ before.contents) ⊎ HaveSameRecords before.contents after.contents) begun ended same

-- ---- a server comes of it

-- a course that goes on behind the opening ends alike whatever the file was
ends-any : {D O : Type 0} (options : ServeOptions) (out : Outside O) (ring : List RingKey) (keeping : Keeping) (course : Course D) (one : Status) → IsBegun ring course → Ends options out Unopened course one → Ends options out keeping course one
ends-any options out ring keeping Unread one own ends = absurd own
ends-any options out ring keeping (Refused line) one own ends = absurd own
ends-any options out ring keeping Unbegun one own ends = absurd own
ends-any options out ring keeping (Shut other) one own ends = absurd own
ends-any options out ring keeping (Deaf other) one own ends = ends
ends-any options out ring keeping (Mute other) one own ends = ends
ends-any options out ring keeping (Serves other connections ending) one own ends = ends

module _ {K : Type 0} (disks : Part NamesTold K) (was own between : ℕ) (none : was ≡ 0) (never : between ≡ disks.faults disks.before) (done : CountsDone own between (disks.faults disks.after)) where
  never-failed : own ≡ was → FailsNever disks
  never-failed same = done.clean (same ∙ none) ∙ never

  failed-once : Rose was own → FailsOnce disks
  failed-once rose = done.faulty (not-none was own none rose) ∙ ap one_more never

  kept-ending : (ending : Ending) → CountsFileBy ending was own → CountsBy disks ending
  kept-ending Served counted = never-failed counted
  kept-ending Stopped counted = never-failed counted
  kept-ending NotTaken counted = never-failed counted
  kept-ending Journal counted = failed-once counted
  kept-ending Full counted = never-failed counted
  kept-ending Memory counted = never-failed counted

  kept-course : {D : Type 0} (course : Course D) → CountsFile course was own → CountsKept disks course
  kept-course Unread counted = absurd counted
  kept-course (Refused line) counted = absurd counted
  kept-course Unbegun counted = absurd counted
  kept-course (Shut ring) counted = absurd counted
  kept-course (Deaf ring) counted = never-failed counted
  kept-course (Mute ring) counted = never-failed counted
  kept-course (Serves ring connections ending) counted = kept-ending ending counted

  kept-counts : {D : Type 0} (keeping : Keeping) (course : Course D) → IsOpen keeping → CountsFile course was own → CountsDisks disks keeping course
  kept-counts Unopened course opened counted = absurd opened
  kept-counts Faulty course opened counted = absurd opened
  kept-counts (Foreign at) course opened counted = absurd opened
  kept-counts Starved course opened counted = absurd opened
  kept-counts (New seed) course opened counted = kept-course course counted
  kept-counts (Old seed entries now) course opened counted = kept-course course counted

  -- a call of the disk that failed is told at the end
  kept-whole : {D : Type 0} (course : Course D) (P : Type 0) → CountsFile course was own → (HadFault disks → ⊥) → UnlessBroken course P → P
  kept-whole Unread P counted calm holds = holds
  kept-whole (Refused line) P counted calm holds = holds
  kept-whole Unbegun P counted calm holds = holds
  kept-whole (Shut ring) P counted calm holds = holds
  kept-whole (Deaf ring) P counted calm holds = holds
  kept-whole (Mute ring) P counted calm holds = holds
  kept-whole (Serves ring connections Served) P counted calm holds = holds
  kept-whole (Serves ring connections Stopped) P counted calm holds = holds
  kept-whole (Serves ring connections NotTaken) P counted calm holds = holds
  kept-whole (Serves ring connections Journal) P counted calm holds = absurd (calm (rose-once (disks.faults disks.before) (disks.faults disks.after) (failed-once counted)))
  kept-whole (Serves ring connections Full) P counted calm holds = holds
  kept-whole (Serves ring connections Memory) P counted calm holds = holds

-- the connections that begin with its server
keeps-by : {D K : Type 0} (drawing : Drawing D) (options : ServeOptions) (name : List ℕ) (disks : Part NamesTold K) (given given_then given_last : Option (List ℕ)) (draws : Draws D) (ring : List RingKey) (keeping : Keeping) (server : Server) (draw : D) (course : Course D)
    → IsBegun ring course → IsOpen keeping → Opens drawing ring name disks given given_then draws keeping → StartsBy drawing ring keeping draws.before server draw
    → GoesFrom drawing.step options (first_kept options given_then server draw) given_last course
    → ((HadFault disks → ⊥) → IfTold disks (λ before after. LeavesBy drawing ring name keeping (behind_all (first_kept options given_then server draw) (served_in course)).server (behind_all (first_kept options given_then server draw) (served_in course)).draw after))
    → IfTold disks (λ before after. HoldsSome name (SpellsUpTo drawing ring (behind_all (first_kept options given_then server draw) (served_in course)).server) after)
    → JournalsBy drawing options name disks (record { before = given; after = given_last }) draws keeping course
keeps-by drawing options name disks given given_then given_last draws ring keeping server draw Unread own opened opens starts goes leaves up_to = absurd own
keeps-by drawing options name disks given given_then given_last draws ring keeping server draw (Refused line) own opened opens starts goes leaves up_to = absurd own
keeps-by drawing options name disks given given_then given_last draws ring keeping server draw Unbegun own opened opens starts goes leaves up_to = absurd own
keeps-by drawing options name disks given given_then given_last draws ring keeping server draw (Shut other) own opened opens starts goes leaves up_to = absurd own
keeps-by drawing options name disks given given_then given_last draws ring keeping server draw (Deaf other) own opened opens starts goes leaves up_to =
    subst (λ (some : List RingKey). JournalsBy drawing options name disks (record { before = given; after = given_last }) draws keeping (Deaf some)) (sym own)
    (record { opened = opened; first = first_kept options given_then server draw; opens = opens; starts = starts; service = refl; left = refl; leaves = leaves; up_to = up_to }, goes)
keeps-by drawing options name disks given given_then given_last draws ring keeping server draw (Mute other) own opened opens starts goes leaves up_to =
    subst (λ (some : List RingKey). JournalsBy drawing options name disks (record { before = given; after = given_last }) draws keeping (Mute some)) (sym own)
    (record { opened = opened; first = first_kept options given_then server draw; opens = opens; starts = starts; service = refl; left = refl; leaves = leaves; up_to = up_to }, goes)
keeps-by {D} drawing options name disks given given_then given_last draws ring keeping server draw (Serves other connections ending) own opened opens starts goes leaves up_to =
    let goes_own : GoesFrom drawing.step options (first_kept options given_then server draw) given_last (Serves ring connections ending) =
    subst (λ (some : List RingKey). GoesFrom drawing.step options (first_kept options given_then server draw) given_last (Serves some connections ending)) own goes in
    subst (λ (some : List RingKey). JournalsBy drawing options name disks (record { before = given; after = given_last }) draws keeping (Serves some connections ending)) (sym own)
    (record { opened = opened; first = first_kept options given_then server draw; opens = opens; starts = starts; service = refl; left = refl; leaves = leaves; up_to = up_to }, goes_own)

-- ---- a file that was opened, and comes back

module _ {N O D K E : Type 0} (drawing : Drawing D) (options : ServeOptions) (ring : List RingKey) (name : List ℕ) (named : options.journal ≡ Some name)
    (told : E → Option DiskTold) (place faults : E → ℕ) (disk : E) (disks : Part NamesTold K) (between : K) (given given_then : Option (List ℕ)) (draw draw_then : D)
    (none_yet : faults disk ≡ 0)
    (opens : IfSome (disks.told between) (λ after. IsSomeAnd (disks.told disks.before) (λ before. IsSomeAnd (told disk) (λ holds. OpensNamed name (place disk) holds.contents before after))))
    (never : disks.faults between ≡ disks.faults disks.before) (tells : IsSome (disks.told disks.before) → IsSome (disks.told disks.after)) where
  pub with-shut : (back : E × JournalFault) (calls : N → Option (List NetCall)) (faulted : N → ℕ) (net : N) (out : Outside O) (one : Status)
      → ShutsFile drawing ring told place faults disk given given_then draw draw_then back
      → IfSome (disks.told disks.after) (λ after. IsSomeAnd (disks.told between) (λ before. IsSomeAnd (told back.0) (λ holds. Closes (place back.0) holds.contents before after)))
      → CountsDone (faults back.0) (disks.faults between) (disks.faults disks.after)
      → EndsBecause out back.1 one
      → RunsWith drawing options ring (record { told = calls; faults = faulted; before = net; after = net }) out (record { before = given; after = given_then }) (record { before = draw; after = draw_then }) disks one
  with-shut back calls faulted net out one shuts closes done ends =
      let shut = shut-is back.1 shuts.keeping shuts.cause in
      record {
        course = Shut ring;
        keeping = shuts.keeping;
        own = refl;
        calls = calls-shut options.port calls faulted net ring;
        goes = subst (λ (journal : Option (List ℕ)). GoesBy drawing options journal disks (record { before = given; after = given_then }) (record { before = draw; after = draw_then }) shuts.keeping (Shut ring)) (sym named)
            (record {
              shut = shut;
              opens = record {
                asked = passes-told name (told disk) (told back.0) (place disk) (place back.0) (disks.told disks.before) (disks.told between) (disks.told disks.after) (AsksFor name shuts.keeping) shuts.same_place opens closes
                    (λ found left before after is also passed. asks-any name shuts.keeping before after (shut-opened shuts.keeping shut) passed.asked);
                found = passes-told name (told disk) (told back.0) (place disk) (place back.0) (disks.told disks.before) (disks.told between) (disks.told disks.after) (FoundBy drawing ring name shuts.keeping) shuts.same_place opens closes
                    (λ found left before after is also passed.
                    shut-found drawing ring name back.1 shuts.keeping found left before after shuts.cause (of-told (told disk) found (λ file. FoundIn drawing ring shuts.keeping file.contents) is shuts.found)
                    (same-bytes back.1 (told disk) (told back.0) found left is also shuts.unharmed) passed);
                clock = shuts.clock;
                seeded = shuts.seeded;
              };
            });
        counts = shut-counts D disks ring back.1 shuts.keeping (faults disk) (faults back.0) (disks.faults between) shuts.cause none_yet shuts.counted never done;
        tells = tells;
        ends = shut-ends out back.1 shuts.keeping one shuts.cause ends;
        full = λ none. absurd none;
      }

  pub with-kept : (desk : Seen E (List RingKey) D) (back : E × Status) (net : Part (List NetCall) N) (out : Outside O) (given_last : Option (List ℕ))
      → (opened : OpensFile drawing ring told place faults disk given given_then draw draw_then desk)
      → ServesKept drawing options desk.server.seal told place faults (first_kept options given_then opened.server desk.draw) (place_by place (disk_in desk.book)) (count_of faults (disk_in desk.book)) net out given_last back
      → IfSome (disks.told disks.after) (λ after. IsSomeAnd (disks.told between) (λ before. IsSomeAnd (told back.0) (λ holds. Closes (place back.0) holds.contents before after)))
      → CountsDone (faults back.0) (disks.faults between) (disks.faults disks.after)
      → RunsWith drawing options ring net out (record { before = given; after = given_last }) (record { before = draw; after = draw_then }) disks back.1
  with-kept desk back net out given_last opened serves closes done =
      let first : Between D Registers = first_kept options given_then opened.server desk.draw in
      let own : IsBegun ring serves.course = subst (λ (some : List RingKey). IsBegun some serves.course) opened.ring_is serves.own in
      let same : place back.0 ≡ place disk = serves.same_place ∙ opened.same_place in
      let counted : CountsFile serves.course (faults disk) (faults back.0) = subst (λ (n : ℕ). CountsFile serves.course n (faults back.0)) opened.counted serves.counted in
      let server : Server = (behind_all first (served_in serves.course)).server in
      let last : D = (behind_all first (served_in serves.course)).draw in
      record {
        course = serves.course;
        keeping = opened.keeping;
        own = own-with ring serves.course own;
        calls = serves.calls;
        goes = subst (λ (journal : Option (List ℕ)). GoesBy drawing options journal disks (record { before = given; after = given_last }) (record { before = draw; after = draw_then }) opened.keeping serves.course) (sym named)
            (keeps-by drawing options name disks given given_then given_last (record { before = draw; after = draw_then }) ring opened.keeping opened.server desk.draw serves.course own opened.opened
            (record {
              asked = passes-told name (told disk) (told back.0) (place disk) (place back.0) (disks.told disks.before) (disks.told between) (disks.told disks.after) (AsksFor name opened.keeping) same opens closes
                  (λ found left before after is also passed. asks-any name opened.keeping before after (not-unopened drawing ring name opened.keeping opened.opened) passed.asked);
              found = passes-told name (told disk) (told back.0) (place disk) (place back.0) (disks.told disks.before) (disks.told between) (disks.told disks.after) (FoundBy drawing ring name opened.keeping) same opens closes
                  (λ found left before after is also passed.
                  open-found drawing ring name opened.keeping found left before after opened.opened (of-told (told disk) found (λ file. FoundIn drawing ring opened.keeping file.contents) is opened.found) passed);
              clock = opened.clock;
              seeded = opened.seeded;
            })
            opened.starts serves.goes
            (λ calm.
            passes-told name (told disk) (told back.0) (place disk) (place back.0) (disks.told disks.before) (disks.told between) (disks.told disks.after) (λ before after. LeavesBy drawing ring name opened.keeping server last after) same opens closes
            (λ found left before after is also passed.
            let whole = kept-whole disks (faults disk) (faults back.0) (disks.faults between) none_yet never done serves.course _ counted calm serves.leaves in
            let own_spells : IfSome (told back.0) (λ file. SpellsServer drawing ring server last file.contents) =
            subst (λ (some : List RingKey). IfSome (told back.0) (λ file. SpellsServer drawing some server last file.contents)) opened.ring_is whole in
            open-leaves drawing ring name opened.keeping server last found left before after opened.opened (of-told (told back.0) left (λ file. SpellsServer drawing ring server last file.contents) also own_spells) passed))
            (passes-told name (told disk) (told back.0) (place disk) (place back.0) (disks.told disks.before) (disks.told between) (disks.told disks.after) (λ before after. HoldsSome name (SpellsUpTo drawing ring server) after) same opens closes
            (λ found left before after is also passed.
            let own_up_to : IfSome (told back.0) (λ file. SpellsUpTo drawing ring server file.contents) =
            subst (λ (some : List RingKey). IfSome (told back.0) (λ file. SpellsUpTo drawing some server file.contents)) opened.ring_is serves.up_to in
            record { bytes = left.contents; holds = passed.left_is; says = of-told (told back.0) left (λ file. SpellsUpTo drawing ring server file.contents) also own_up_to })));
        counts = kept-counts disks (faults disk) (faults back.0) (disks.faults between) none_yet never done opened.keeping serves.course opened.opened counted;
        tells = tells;
        ends = ends-any options out ring opened.keeping serves.course back.1 own serves.ends;
        full = λ is. subst (λ (journal : Option (List ℕ)). IfSome journal (λ some. IfTold disks (λ before after. HoldsSome some IsFilled after))) (sym named)
            (passes-told name (told disk) (told back.0) (place disk) (place back.0) (disks.told disks.before) (disks.told between) (disks.told disks.after) (λ before after. HoldsSome name IsFilled after) same opens closes
            (λ found left before after there also passed.
            record { bytes = left.contents; holds = passed.left_is; says = of-told (told back.0) left (λ file. IsFilled file.contents) also (serves.full is) }));
      }
