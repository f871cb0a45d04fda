-- Whatever happens to a journal, it stays one.
use Rattle.std.proofs.Common.{◌≡◌, ◌≤◌, ℕ, Option, None, Some, List, [], ◌∷◌, ◌++◌, length, true, is_some, inl, inr, refl, sym, ap, subst, ◌∙◌, append_assoc, max, arith}
use Rattle.std.proofs.lemmas.List.{take_all}
use Rattle.std.specs.Prelude.{IfSome, IsSomeAnd}
use Rattle.disks.specs.declared.disk_act.DiskAct.{DiskAct}
use Rattle.disks.specs.Crash.{MayLeave, Standing, after_acts}
use Rattle.disks.specs.Told.{DiskTold, MayHaveLeft, now as moment_now}
use Rattle.envelope.specs.Lawful.{OpensWhatItSealed}
use Rattle.sess_records.specs.declared.records.Event.TheVariants.{Interrupted}
use Rattle.sess_records.specs.declared.records.Record.{Record}
use Rattle.sess_records.specs.Crashes.{Leaves}
use Rattle.sess_records.specs.Format.{Spells}
use Rattle.sess_records.specs.Seen.{File}
use Rattle.sess_records.specs.Standing.{IsSure, Settled, SpellsSome}
use Rattle.server_rules.specs.Server.{Server}
use Rattle.sess_journal.specs.Back.{MayLeaveIn}
use Rattle.sess_journal.specs.Histories.{Calls, Comes, CrashesIn, Happens, IsOpenedAs, Opens, Stops, StopsOpening, StopsWork, Works}
use Rattle.sess_journal.specs.Keeping.{KeepsFor, LeavesSome, Seen, disk_by, disk_in, ending, ending_by}
use Rattle.sess_journal.specs.Opening.{IsLawfulFile, MayBecome, Resumes}
use Rattle.sess_journal.specs.Files.{IsNoJournalAt}
use Rattle.sess_journal.specs.Replay.{Bases, Basis, LeadsTo, Reached, Replays, after_interruption, at_first, reached_by, setting_at}
use Rattle.sess_journal.proofs.BackLemmas.{AfterSync, AtOnce, FileLaws, some_is}
use Rattle.sess_journal.proofs.NextLemmas.{whole}

-- a read gives lawful records, and so does whatever a crash now may leave
abbrev pub HasLawful : {D : Type 0} → (List ℕ → Basis D) → List ℕ → Type 0
HasLawful by_seed file = (seed : List ℕ) × (entries : List Record) × (reached : Reached) × IsLawfulFile by_seed seed entries reached file

pub record StaysLawful {D : Type 0} (by_seed : List ℕ → Basis D) (file : DiskTold) : Type 0 where
  pub read : HasLawful by_seed file.contents
  pub each : (left : List ℕ) → MayLeave (moment_now file) left → HasLawful by_seed left

some_map : {X : Type 0} → (o : Option X) (P Q : X → Type 0) → ((x : X) → P x → Q x) → IsSomeAnd o P → IsSomeAnd o Q
some_map None P Q f h = h
some_map (Some x) P Q f h = f x h

some_of : {X : Type 0} → (o : Option X) (P : X → Type 0) → IsSomeAnd o P → (x : X) × (o ≡ Some x) × P x
some_of None P h = absurd h
some_of (Some x) P h = (x, refl, h)

-- a crash now is one at some moment since an earlier one
since_then : (since : ℕ) (file : DiskTold) (left : List ℕ) → since ≤ length file.acts → MayLeave (moment_now file) left → MayHaveLeft since file left
since_then since file left low may = record {
  at = length file.acts;
  from = low;
  to = omega arith;
  left = subst (λ (l : List DiskAct). MayLeave (after_acts file.first l) left) (sym (take_all (length file.acts) file.acts (omega arith))) may;
}

module _ {K S D : Type 0} (laws : FileLaws D) (at_once : AtOnce) (after_sync : AfterSync) (bases : Bases S D) (told : K → Option DiskTold) (seal : S) where
  -- ---- some first ones of lawful records

  some_lawful : (seed : List ℕ) (entries more : List Record) (reached : Reached) (left : List ℕ) → Replays (bases seal seed) (entries ++ more) at_first reached → SpellsSome seed entries more left
      → HasLawful (bases seal) left
  some_lawful seed entries more reached left replays found =
      let all : Replays (bases seal seed) ((entries ++ found.front) ++ found.back) at_first reached =
      subst (λ (l : List Record). Replays (bases seal seed) l at_first reached) (ap (λ (l : List Record). entries ++ l) found.split ∙ sym (append_assoc entries found.front found.back)) replays in
      let front = laws.parts (bases seal seed) (entries ++ found.front) found.back at_first reached all in
      (seed, entries ++ found.front, front.0, record { spells = found.spells; replays = front.1 })

  -- ---- an opening

  ends_by : (now : ℕ) (basis : Basis D) (reached : Reached) (begun : Option ℕ) → reached.begun ≡ begun
      → (after : Reached) × Replays basis (ending_by now reached.server.now reached.place begun) reached after
  ends_by now basis reached None is = (reached, refl)
  ends_by now basis reached (Some job) is =
      let moment = max reached.server.now now in
      let answer = after_interruption (setting_at basis moment) job reached.server (basis.at reached.place) in
      let after = reached_by basis answer in
      let leads : LeadsTo basis moment reached.place Interrupted reached after = (answer, (job, is, refl), refl) in
      (after, (after, record { moment = omega arith; place = omega arith; leads = leads }, refl))

  resumed_lawful : (now : ℕ) (file left : List ℕ) → Resumes (bases seal) now file left → HasLawful (bases seal) left
  resumed_lawful now file left resumes =
      let basis = bases seal resumes.seed in
      let end = ends_by now basis resumes.reached resumes.reached.begun refl in
      some_lawful resumes.seed resumes.entries (ending now resumes.reached) end.0 left
      (whole basis resumes.entries (ending now resumes.reached) at_first resumes.reached end.0 resumes.lawful.replays end.1) resumes.some_of

  module _ (now : ℕ) (before after : DiskTold) (stays : StaysLawful (bases seal) before) (leaves : Leaves before after (MayBecome (bases seal) now before.contents)) where
    crash_in : (left : List ℕ) → MayHaveLeft (length before.acts) after left → HasLawful (bases seal) left
    crash_in left may = elim (leaves.adds (length before.acts) left may) [
      | inl first ↦ stays.each left (at_once before left first)
      | inr became ↦ elim became [
        | inl is ↦ subst (HasLawful (bases seal)) (sym is) stays.read
        | inr resumes ↦ resumed_lawful now before.contents left resumes
      ]
    ]

    by_opening : StaysLawful (bases seal) after
    by_opening = record {
      read = crash_in after.contents (since_then (length before.acts) after after.contents leaves.longer leaves.possible);
      each = λ left may. crash_in left (since_then (length before.acts) after left leaves.longer may);
    }

    in_opening : (left : List ℕ) → MayLeaveIn before after left → HasLawful (bases seal) left
    in_opening left may = elim may [ inl crash ↦ crash_in left crash | inr is ↦ subst (HasLawful (bases seal)) (sym is) by_opening.read ]

  -- ---- a call

  module _ (one other : K) (call : Calls bases told seal one other) (before : DiskTold) (one_told : told one ≡ Some before) where
    adds_there : IsSomeAnd (told other) (λ after. LeavesSome before after (SpellsSome call.adds.file.seed call.entries call.more))
    adds_there =
        let first : disk_in call.before.book ≡ Some call.adds.file.disk = ap (λ (j : Option (File K)). disk_by j call.before.book.lost) call.adds.opened in
        let was : told call.adds.file.disk ≡ Some before = ap told (some_is call.adds.file.disk one (sym first ∙ call.one_is)) ∙ one_told in
        let half : IsSomeAnd (told call.adds.disk) (λ i. LeavesSome before i (SpellsSome call.adds.file.seed call.entries call.more)) =
        subst (λ (t : Option DiskTold). IfSome t (λ w. IsSomeAnd (told call.adds.disk) (λ i. LeavesSome w i (SpellsSome call.adds.file.seed call.entries call.more)))) was call.adds.leaves in
        subst (λ (d : K). IsSomeAnd (told d) (λ i. LeavesSome before i (SpellsSome call.adds.file.seed call.entries call.more)))
        (some_is call.adds.disk other (sym call.adds.stands ∙ call.other_is)) half

    module _ (after : DiskTold) (leaves : LeavesSome before after (SpellsSome call.adds.file.seed call.entries call.more)) where
      in_call : (left : List ℕ) → MayLeaveIn before after left → HasLawful (bases seal) left
      in_call left may =
          let found : SpellsSome call.adds.file.seed call.entries call.more left =
          elim may [ inl crash ↦ leaves.each left crash | inr is ↦ subst (SpellsSome call.adds.file.seed call.entries call.more) (sym is) leaves.read ] in
          some_lawful call.adds.file.seed call.entries call.more call.adds.reached left
          (subst (λ (b : Basis D). Replays b (call.entries ++ call.more) at_first call.adds.reached) (call.ring call.adds.file.seed) call.adds.replays) found

      by_call : StaysLawful (bases seal) after
      by_call = record {
        read = in_call after.contents (inr refl);
        each = λ left may. in_call left (inl (since_then (length before.acts) after left leaves.longer may));
      }

  -- ---- a crash

  found_lawful : (left : List ℕ) (file : DiskTold) → HasLawful (bases seal) left → IsSure left file → StaysLawful (bases seal) file
  found_lawful left file lawful sure = record {
    read = subst (HasLawful (bases seal)) (sym sure.contents) lawful;
    each = λ other may. subst (HasLawful (bases seal)) (sym (after_sync left other (subst (λ (s : Standing). MayLeave s other) sure.sure may))) lawful;
  }

  at_rest : (before : DiskTold) (left : List ℕ) → StaysLawful (bases seal) before → MayLeaveIn before before left → HasLawful (bases seal) left
  at_rest before left stays (inl may) = stays.each left (at_once before left may)
  at_rest before left stays (inr is) = subst (HasLawful (bases seal)) (sym is) stays.read

  -- ---- one thing after the other

  abbrev IsStill : K → Type 0
  IsStill disk = IsSomeAnd (told disk) (StaysLawful (bases seal))

  crashed : (one between other : K) (before after : DiskTold) → told one ≡ Some before → told between ≡ Some after → CrashesIn told one between other
      → ((left : List ℕ) → MayLeaveIn before after left → HasLawful (bases seal) left) → IsStill other
  crashed one between other before after is is_too crash lawful =
      let half : IsSomeAnd (told between) (λ a. MayLeaveIn before a crash.left) =
      subst (λ (t : Option DiskTold). IfSome t (λ b. IsSomeAnd (told between) (λ a. MayLeaveIn b a crash.left))) is crash.may in
      let may : MayLeaveIn before after crash.left = subst (λ (t : Option DiskTold). IsSomeAnd t (λ a. MayLeaveIn before a crash.left)) is_too half in
      let h = lawful crash.left may in
      some_map (told other) (IsSure crash.left) (StaysLawful (bases seal)) (λ file sure. found_lawful crash.left file h sure) crash.found

  opens_there : (one other : K) (opening : IsOpenedAs bases told seal one other) (before : DiskTold) → told one ≡ Some before
      → IsSomeAnd (told other) (λ after. Leaves before after (MayBecome (bases seal) opening.now before.contents))
  opens_there one other opening before is =
      subst (λ (t : Option DiskTold). IfSome t (λ b. IsSomeAnd (told other) (λ a. Leaves b a (MayBecome (bases seal) opening.now b.contents)))) is opening.leaves

  happens : (one other : K) → IsStill one → Happens bases told seal one other → IsStill other
  happens one other still (Works call) =
      let was = some_of (told one) (StaysLawful (bases seal)) still in
      let there = some_of (told other) (λ a. LeavesSome was.0 a (SpellsSome call.adds.file.seed call.entries call.more)) (adds_there one other call was.0 was.1) in
      subst (λ (t : Option DiskTold). IsSomeAnd t (StaysLawful (bases seal))) (sym there.1) (by_call one other call was.0 was.1 there.0 there.2)
  happens one other still (Opens opening) =
      let was = some_of (told one) (StaysLawful (bases seal)) still in
      let there = some_of (told other) (λ a. Leaves was.0 a (MayBecome (bases seal) opening.now was.0.contents)) (opens_there one other opening was.0 was.1) in
      subst (λ (t : Option DiskTold). IsSomeAnd t (StaysLawful (bases seal))) (sym there.1) (by_opening opening.now was.0 there.0 was.2 there.2)
  happens one other still (Stops crash) =
      let was = some_of (told one) (StaysLawful (bases seal)) still in
      crashed one one other was.0 was.0 was.1 was.1 crash (λ left may. at_rest was.0 left was.2 may)
  happens one other still (StopsWork between call crash) =
      let was = some_of (told one) (StaysLawful (bases seal)) still in
      let there = some_of (told between) (λ a. LeavesSome was.0 a (SpellsSome call.adds.file.seed call.entries call.more)) (adds_there one between call was.0 was.1) in
      crashed one between other was.0 there.0 was.1 there.1 crash (λ left may. in_call one between call was.0 was.1 there.0 there.2 left may)
  happens one other still (StopsOpening between opening crash) =
      let was = some_of (told one) (StaysLawful (bases seal)) still in
      let there = some_of (told between) (λ a. Leaves was.0 a (MayBecome (bases seal) opening.now was.0.contents)) (opens_there one between opening was.0 was.1) in
      crashed one between other was.0 there.0 was.1 there.1 crash (λ left may. in_opening opening.now was.0 there.0 was.2 there.2 left may)

  comes : (first : K) (disks : List K) (last : K) → IsStill first → Comes bases told seal first disks last → IsStill last
  comes first [] last still is = subst IsStill (sym is) still
  comes first (next ∷ disks) last still (one, rest) = comes next disks last (happens first next still one) rest

  -- ---- from a new journal on

  module _ (spells : (seed : List ℕ) (entries : List Record) (len : ℕ) (told : DiskTold) → Settled seed entries len told → Spells seed entries told.contents) where
    settled_lawful : (seed : List ℕ) (entries : List Record) (len : ℕ) (reached : Reached) (t : Option DiskTold) → is_some t ≡ true → IfSome t (λ file. Settled seed entries len file)
        → Replays (bases seal seed) entries at_first reached → IsSomeAnd t (StaysLawful (bases seal))
    settled_lawful seed entries len reached None tells settled replays = absurd (cc tells)
    settled_lawful seed entries len reached (Some file) tells settled replays =
        found_lawful file.contents file (seed, entries, reached, record { spells = spells seed entries len file settled; replays = replays }) (record { contents = refl; sure = settled.sure })

    created : (desk : Seen K S D) (server : Server) (entries : List Record) (first : K) → KeepsFor bases told entries desk server → disk_in desk.book ≡ Some first → is_some (told first) ≡ true
        → ((seed : List ℕ) → bases desk.server.seal seed ≡ bases seal seed) → IsStill first
    created desk server entries first keeps is tells ring =
        let file : File K = keeps.recorded.file in
        let disk_is : disk_in desk.book ≡ Some file.disk = ap (λ (j : Option (File K)). disk_by j desk.book.lost) keeps.recorded.opened in
        let same : file.disk ≡ first = some_is file.disk first (sym disk_is ∙ is) in
        settled_lawful file.seed entries file.len keeps.recorded.reached (told first) tells
        (subst (λ (d : K). IfSome (told d) (λ f. Settled file.seed entries file.len f)) same keeps.recorded.holds)
        (subst (λ (b : Basis D). Replays b entries at_first keeps.recorded.reached) (ring file.seed) keeps.recorded.replays)

    pub never_refused : (desk : Seen K S D) (server : Server) (entries : List Record) (first : K) (disks : List K) (last : K) (at : ℕ) → ((seed : List ℕ) → OpensWhatItSealed (bases seal seed).lock)
        → KeepsFor bases told entries desk server → disk_in desk.book ≡ Some first → is_some (told first) ≡ true → ((seed : List ℕ) → bases desk.server.seal seed ≡ bases seal seed)
        → Comes bases told seal first disks last → IsSomeAnd (told last) (λ file. IsNoJournalAt (bases seal) at file.contents → ⊥)
    never_refused desk server entries first disks last at unseals keeps is tells ring come =
        some_map (told last) (StaysLawful (bases seal)) (λ file. IsNoJournalAt (bases seal) at file.contents → ⊥)
        (λ file still. laws.opened (bases seal) still.read.0 still.read.1 still.read.2 file.contents at (unseals still.read.0) still.read.3.spells still.read.3.replays)
        (comes first disks last (created desk server entries first keeps is tells ring) come)
