-- What comes back after a crash.
use Rattle.std.proofs.Common.{◌≡◌, ℕ, Option, None, Some, List, [], ◌++◌, length, inl, inr, refl, sym, ap, subst, ◌∙◌, append_assoc, arith}
use Rattle.std.proofs.lemmas.List.{take_all}
use Rattle.std.specs.Prelude.{◌⊎◌, IfSome, IsSomeAnd}
use Rattle.disks.specs.declared.disk_act.DiskAct.{DiskAct}
use Rattle.disks.specs.Crash.{MayLeave, Standing, after_acts, synced_at}
use Rattle.disks.specs.Told.{DiskTold, MayHaveLeft, now as moment_now}
use Rattle.envelope.specs.Lawful.{OpensWhatItSealed}
use Rattle.sess_records.specs.declared.records.Record.{Record}
use Rattle.sess_records.specs.Format.{Spells}
use Rattle.sess_records.specs.Seen.{File}
use Rattle.sess_records.specs.Crashes.{Leaves}
use Rattle.sess_records.specs.Standing.{Settled, SpellsSome}
use Rattle.server_rules.specs.Server.{Server}
use Rattle.sess_journal.specs.Back.{ComesBack, HoldsBytes, HoldsSome, MayHold, MayLeaveIn, Returns, ReturnsAfter}
use Rattle.sess_journal.specs.Keeping.{Adds, KeepsFor, LeavesSome, Opened, Resumed, Seen, disk_by, disk_in, ending}
use Rattle.sess_journal.specs.Opening.{MayBecome, Resumes}
use Rattle.sess_journal.specs.Files.{IsNoJournalAt}
use Rattle.sess_journal.specs.Replay.{Bases, Basis, Reached, Replays, at_first}
use Rattle.sess_journal.proofs.ResumeLemmas.{append_none}

-- a file spells one list, and lawful records aren't refused
pub record FileLaws (D : Type 0) : Type 0 where
  pub seed : (seed other : List ℕ) (entries others : List Record) (file : List ℕ) → Spells seed entries file → Spells other others file → seed ≡ other
  pub entries : (seed other : List ℕ) (entries others : List Record) (file : List ℕ) → Spells seed entries file → Spells other others file → entries ≡ others
  pub parts : (basis : Basis D) (entries more : List Record) (before after : Reached) → Replays basis (entries ++ more) before after
      → (between : Reached) × Replays basis entries before between × Replays basis more between after
  pub opened : (by_seed : List ℕ → Basis D) (seed : List ℕ) (entries : List Record) (reached : Reached) (file : List ℕ) (at : ℕ)
      → OpensWhatItSealed (by_seed seed).lock → Spells seed entries file → Replays (by_seed seed) entries at_first reached
      → IsNoJournalAt by_seed at file → ⊥

pub some_is : {X : Type 0} (one other : X) → Some one ≡ Some other → one ≡ other
some_is one other is = cc

left_told : {P : List ℕ → Type 0} (t u : Option DiskTold) (was then : DiskTold) → t ≡ Some was → u ≡ Some then → IfSome t (λ w. IsSomeAnd u (λ i. LeavesSome w i P)) → LeavesSome was then P
left_told {P} t u was then is is_too h =
    let first : IsSomeAnd u (λ i. LeavesSome was i P) = subst (λ (t : Option DiskTold). IfSome t (λ w. IsSomeAnd u (λ i. LeavesSome w i P))) is h in
    let second : LeavesSome was then P = subst (λ (u : Option DiskTold). IsSomeAnd u (λ i. LeavesSome was i P)) is_too first in second

left_has : (P : List ℕ → Type 0) (was then : DiskTold) (left : List ℕ) → LeavesSome was then P → MayHaveLeft (length was.acts) then left ⊎ (left ≡ then.contents) → P left
left_has P was then left leaves (inl h) = leaves.each left h
left_has P was then left leaves (inr is) = subst P (sym is) leaves.read

pub spells_left : (left seed : List ℕ) (entries : List Record) (t : Option DiskTold) → IfSome t (λ b. Spells seed entries b.contents) → IsSomeAnd t (λ f. f.contents ≡ left) → Spells seed entries left
spells_left left seed entries None h bytes = absurd bytes
spells_left left seed entries (Some file) h bytes = subst (λ (l : List ℕ). Spells seed entries l) bytes h

-- what the laws say of a crash at once, and after a sync
abbrev pub AtOnce : Type 0
AtOnce = (told : DiskTold) (left : List ℕ) → MayHaveLeft (length told.acts) told left → MayLeave (moment_now told) left

abbrev pub AfterSync : Type 0
AfterSync = (bytes left : List ℕ) → MayLeave (synced_at bytes) left → left ≡ bytes

-- what the call alone leaves, a crash behind it may leave too
some_moment : (before after : DiskTold) (P : List ℕ → Type 0) → Leaves before after P → (left : List ℕ) → MayLeaveIn before after left → MayHaveLeft (length before.acts) after left
some_moment before after P leaves left (inl may) = may
some_moment before after P leaves left (inr is) = record {
  at = length after.acts;
  from = leaves.longer;
  to = omega arith;
  left =
      subst (λ (l : List DiskAct). MayLeave (after_acts after.first l) left) (sym (take_all (length after.acts) after.acts (omega arith)))
      (subst (λ (l : List ℕ). MayLeave (moment_now after) l) (sym is) leaves.possible);
}

-- ---- an opening of what is left

module _ {K S D : Type 0} (laws : FileLaws D) (bases : Bases S D) (told : K → Option DiskTold) (seal : S) (left : List ℕ) (disk : K) (now : ℕ) (desk : Seen K S D) (bytes : HoldsBytes told disk left)
    (same : (seed : List ℕ) → bases desk.server.seal seed ≡ bases seal seed) (opened : Opened bases told disk now desk) where
  -- what is opened has the records that are left
  pub returns : (seed : List ℕ) (entries more : List Record) → SpellsSome seed entries more left → Returns bases told seal seed entries more now desk
  returns seed entries more found =
      let spells : Spells opened.seed opened.entries left = spells_left left opened.seed opened.entries (told disk) opened.spells bytes in
      let seed_is : opened.seed ≡ seed = laws.seed opened.seed seed opened.entries (entries ++ found.front) left spells found.spells in
      let list_is : opened.entries ≡ entries ++ found.front = laws.entries opened.seed seed opened.entries (entries ++ found.front) left spells found.spells in
      record {
        front = found.front;
        back = found.back;
        split = found.split;
        reached = opened.reached;
        replays =
            subst (λ (b : Basis D). Replays b (entries ++ found.front) at_first opened.reached) (ap (λ (s : List ℕ). bases desk.server.seal s) seed_is ∙ same seed)
            (subst (λ (l : List Record). Replays (bases desk.server.seal opened.seed) l at_first opened.reached) list_is opened.replays);
        resumed =
            subst (λ (s : List ℕ). Resumed bases told s now opened.reached ((entries ++ found.front) ++ ending now opened.reached) desk) seed_is
            (subst (λ (l : List Record). Resumed bases told opened.seed now opened.reached (l ++ ending now opened.reached) desk) list_is opened.resumed);
      }

  -- it was left by an earlier opening that did nothing yet
  not_yet : (seed : List ℕ) (entries more : List Record) (reached : Reached) (earlier : ℕ) → Replays (bases seal seed) (entries ++ more) at_first reached → SpellsSome seed entries more left
      → ReturnsAfter bases told seal seed entries more earlier now desk
  not_yet seed entries more reached earlier replays found =
      let all : Replays (bases seal seed) ((entries ++ found.front) ++ found.back) at_first reached =
      subst (λ (l : List Record). Replays (bases seal seed) l at_first reached) (ap (λ (l : List Record). entries ++ l) found.split ∙ sym (append_assoc entries found.front found.back)) replays in
      let front = laws.parts (bases seal seed) (entries ++ found.front) found.back at_first reached all in
      record {
        front = found.front;
        back = found.back;
        split = found.split;
        reached = front.0;
        replays = front.1;
        returns = returns seed (entries ++ found.front) (ending earlier front.0) (record {
          front = [];
          back = ending earlier front.0;
          split = refl;
          spells = subst (λ (l : List Record). Spells seed l left) (sym (append_none (entries ++ found.front))) found.spells;
        });
      }

  -- it was left by an earlier opening that went on
  gone_on : (seed : List ℕ) (entries more : List Record) (earlier : ℕ) (file : List ℕ) → SpellsSome seed entries more file → Resumes (bases seal) earlier file left
      → ReturnsAfter bases told seal seed entries more earlier now desk
  gone_on seed entries more earlier file found resumes =
      let seed_is : resumes.seed ≡ seed = laws.seed resumes.seed seed resumes.entries (entries ++ found.front) file resumes.lawful.spells found.spells in
      let list_is : resumes.entries ≡ entries ++ found.front = laws.entries resumes.seed seed resumes.entries (entries ++ found.front) file resumes.lawful.spells found.spells in
      record {
        front = found.front;
        back = found.back;
        split = found.split;
        reached = resumes.reached;
        replays =
            subst (λ (s : List ℕ). Replays (bases seal s) (entries ++ found.front) at_first resumes.reached) seed_is
            (subst (λ (l : List Record). Replays (bases seal resumes.seed) l at_first resumes.reached) list_is resumes.lawful.replays);
        returns = returns seed (entries ++ found.front) (ending earlier resumes.reached)
            (subst (λ (s : List ℕ). SpellsSome s (entries ++ found.front) (ending earlier resumes.reached) left) seed_is
            (subst (λ (l : List Record). SpellsSome resumes.seed l (ending earlier resumes.reached) left) list_is resumes.some_of));
      }

  -- a crash in an opening left it
  pub returns_after : (at_once : AtOnce) (seed : List ℕ) (entries more : List Record) (reached : Reached) (earlier : ℕ) (before after : DiskTold)
      → Replays (bases seal seed) (entries ++ more) at_first reached → HoldsSome seed entries more before → Leaves before after (MayBecome (bases seal) earlier before.contents)
      → MayLeaveIn before after left → ReturnsAfter bases told seal seed entries more earlier now desk
  returns_after at_once seed entries more reached earlier before after replays holds leaves may =
      elim (leaves.adds (length before.acts) left (some_moment before after (MayBecome (bases seal) earlier before.contents) leaves left may)) [
        | inl first ↦ not_yet seed entries more reached earlier replays (holds.each left (at_once before left first))
        | inr became ↦ elim became [
          | inl is ↦ not_yet seed entries more reached earlier replays (subst (λ (l : List ℕ). SpellsSome seed entries more l) (sym is) holds.read)
          | inr resumes ↦ gone_on seed entries more earlier before.contents holds.read resumes
        ]
      ]

-- ---- what is left by a call

module _ {K S D : Type 0} (told : K → Option DiskTold) (before after : Seen K S D) (left : List ℕ) (holds : MayHold told before.book after.book left) where
  -- the disk before the call
  was_of : (file : File K) → before.book.journal ≡ Some file → told file.disk ≡ Some holds.was
  was_of file opened =
      let disk_is : disk_in before.book ≡ Some file.disk = ap (λ (j : Option (File K)). disk_by j before.book.lost) opened in
      ap told (sym (some_is holds.one file.disk (sym holds.one_is ∙ disk_is))) ∙ holds.was_is

module _ {K S D : Type 0} (laws : FileLaws D) (bases : Bases S D) (told : K → Option DiskTold) (entries more : List Record) (before after : Seen K S D) (adds : Adds bases told entries more before after)
    (left : List ℕ) (holds : MayHold told before.book after.book left) where
  -- what is left has some of the records
  left_some : SpellsSome adds.file.seed entries more left
  left_some =
      let P : List ℕ → Type 0 = SpellsSome adds.file.seed entries more in
      let other : holds.other ≡ adds.disk = some_is holds.other adds.disk (sym holds.other_is ∙ adds.stands) in
      let was_is : told adds.file.disk ≡ Some holds.was = was_of told before after left holds adds.file adds.opened in
      let then_is : told adds.disk ≡ Some holds.then = ap told (sym other) ∙ holds.then_is in
      left_has P holds.was holds.then left (left_told (told adds.file.disk) (told adds.disk) holds.was holds.then was_is then_is adds.leaves) holds.left_is

  pub comes_back : (disk : K) (now : ℕ) (desk : Seen K S D) → HoldsBytes told disk left → ((seed : List ℕ) → bases desk.server.seal seed ≡ bases before.server.seal seed)
      → Opened bases told disk now desk → ComesBack bases told entries more now before desk
  comes_back disk now desk bytes same opened = record {
    file = adds.file;
    opened = adds.opened;
    returns = returns laws bases told before.server.seal left disk now desk bytes same opened adds.file.seed entries more left_some;
  }

  pub not_refused : (seal : S) (at : ℕ) → ((seed : List ℕ) → bases seal seed ≡ bases before.server.seal seed) → OpensWhatItSealed (bases before.server.seal adds.file.seed).lock
      → IsNoJournalAt (bases seal) at left → ⊥
  not_refused seal at same unseals =
      let found = left_some in
      let basis : Basis D = bases before.server.seal adds.file.seed in
      let all : Replays basis ((entries ++ found.front) ++ found.back) at_first adds.reached =
      subst (λ (l : List Record). Replays basis l at_first adds.reached) (ap (λ (l : List Record). entries ++ l) found.split ∙ sym (append_assoc entries found.front found.back)) adds.replays in
      let front = laws.parts basis (entries ++ found.front) found.back at_first adds.reached all in
      laws.opened (bases seal) adds.file.seed (entries ++ found.front) front.0 left at
      (subst (λ (b : Basis D). OpensWhatItSealed b.lock) (sym (same adds.file.seed)) unseals) found.spells
      (subst (λ (b : Basis D). Replays b (entries ++ found.front) at_first front.0) (sym (same adds.file.seed)) front.1)

-- ---- between two calls

module _ {K S D : Type 0} (laws : FileLaws D) (bases : Bases S D) (told : K → Option DiskTold) (entries : List Record) (server : Server) (before : Seen K S D) (keeps : KeepsFor bases told entries before server)
    (left : List ℕ) (holds : MayHold told before.book before.book left) where
  -- what is left has all records
  left_all : AtOnce → AfterSync → (spells : (seed : List ℕ) (entries : List Record) (len : ℕ) (told : DiskTold) → Settled seed entries len told → Spells seed entries told.contents)
      → SpellsSome keeps.recorded.file.seed entries [] left
  left_all at_once after_sync spells =
      let file : File K = keeps.recorded.file in
      let was_is : told file.disk ≡ Some holds.was = was_of told before before left holds file keeps.recorded.opened in
      let settled : Settled file.seed entries file.len holds.was = subst (λ (t : Option DiskTold). IfSome t (λ f. Settled file.seed entries file.len f)) was_is keeps.recorded.holds in
      let one : holds.one ≡ holds.other = some_is holds.one holds.other (sym holds.one_is ∙ holds.other_is) in
      let same : holds.was ≡ holds.then = some_is holds.was holds.then (sym holds.was_is ∙ ap told one ∙ holds.then_is) in
      let is : left ≡ holds.was.contents = elim (holds.left_is) [
        | inl may ↦ after_sync holds.was.contents left
            (subst (λ (s : Standing). MayLeave s left) settled.sure (at_once holds.was left (subst (λ (t : DiskTold). MayHaveLeft (length holds.was.acts) t left) (sym same) may)))
        | inr read ↦ read ∙ ap (λ (t : DiskTold). t.contents) (sym same)
      ] in
      record {
        front = [];
        back = [];
        split = refl;
        spells =
            subst (λ (l : List Record). Spells file.seed l left) (sym (append_none entries))
            (subst (λ (l : List ℕ). Spells file.seed entries l) (sym is) (spells file.seed entries file.len holds.was settled));
      }

  pub comes_back_whole : AtOnce → AfterSync → (spells : (seed : List ℕ) (entries : List Record) (len : ℕ) (told : DiskTold) → Settled seed entries len told → Spells seed entries told.contents)
      → (disk : K) (now : ℕ) (desk : Seen K S D) → HoldsBytes told disk left → ((seed : List ℕ) → bases desk.server.seal seed ≡ bases before.server.seal seed)
      → Opened bases told disk now desk → ComesBack bases told entries [] now before desk
  comes_back_whole at_once after_sync spells disk now desk bytes same opened = record {
    file = keeps.recorded.file;
    opened = keeps.recorded.opened;
    returns = returns laws bases told before.server.seal left disk now desk bytes same opened keeps.recorded.file.seed entries [] (left_all at_once after_sync spells);
  }
