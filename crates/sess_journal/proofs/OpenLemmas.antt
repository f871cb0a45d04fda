-- What an opening leaves of a disk.
use Rattle.std.proofs.Common.{◌≡◌, ◌≢◌, ℕ, Option, None, Some, List, [], ◌∷◌, ◌++◌, inl, inr, refl, sym, subst, ◌∙◌, arith}
use Rattle.std.specs.Prelude.{IfSome, IsSomeAnd}
use Rattle.disks.specs.Told.{DiskTold}
use Rattle.sess_records.specs.declared.fault.JournalFault.{JournalFault}
use Rattle.sess_records.specs.declared.fault.JournalFault.TheVariants as faults
use Rattle.sess_records.specs.declared.records.Record.{Record}
use Rattle.sess_records.specs.Calls.{IfNotJournal}
use Rattle.sess_records.specs.Crashes.{Leaves, LeavesOnly}
use Rattle.sess_records.specs.Format.{IsFault, Spells, open_gate}
use Rattle.sess_records.specs.Seen.{Reading}
use Rattle.sess_records.specs.Standing.{Behind, HasNext, SpellsOneOf}
use Rattle.sess_journal.specs.Keeping.{ending}
use Rattle.sess_journal.specs.Opening.{IsLawfulFile, MayBecome}
use Rattle.sess_journal.specs.Playing.{Follows, Player}
use Rattle.sess_journal.specs.Files.{IsNoJournalAt}
use Rattle.sess_journal.specs.Replay.{Bases, Basis, Reached, Replays, at_first}
use Rattle.sess_journal.proofs.NextLemmas.{no_header}
use Rattle.sess_journal.proofs.ResumeLemmas.{append_none, spells_by}

-- ---- steps of a call, one behind the other

goes_on : (before between after : DiskTold) (P : List ℕ → Type 0) → Leaves before between P → Leaves between after P → Leaves before after P
goes_on before between after P p q = record {
  first = q.first ∙ p.first;
  longer = omega (arith, p.longer, q.longer);
  adds = λ since left m. elim (q.adds since left m) [ inl e ↦ p.adds since left e | inr has ↦ inr has ];
  possible = q.possible;
}

weaker : (before after : DiskTold) (P Q : List ℕ → Type 0) → ((left : List ℕ) → P left → Q left) → Leaves before after P → Leaves before after Q
weaker before after P Q f p = record {
  first = p.first;
  longer = p.longer;
  adds = λ since left m. elim (p.adds since left m) [ inl e ↦ inl e | inr has ↦ inr (f left has) ];
  possible = p.possible;
}

-- ---- what is left

module _ {D : Type 0} (by_seed : List ℕ → Basis D) (now : ℕ) where
  -- what an opening may leave so far
  abbrev pub LeftBy : Option DiskTold → Option DiskTold → Type 0
  LeftBy old new = IfSome old (λ before. IsSomeAnd new (λ after. Leaves before after (MayBecome by_seed now before.contents)))

  -- a file that was made sure of
  pub made_sure : (old mid new : Option DiskTold) → new ≡ mid → IfSome old (λ before. IsSomeAnd mid (λ after. Leaves before after (λ left. left ≡ before.contents))) → LeftBy old new
  made_sure None mid new same h = tt
  made_sure (Some before) None new same h = absurd h
  made_sure (Some before) (Some between) new same h =
      subst (λ (t : Option DiskTold). IsSomeAnd t (λ after. Leaves before after (MayBecome by_seed now before.contents))) (sym same)
      (weaker before between (λ left. left ≡ before.contents) (MayBecome by_seed now before.contents) (λ left is. inl is) h)

  module _ (seed : List ℕ) (entries : List Record) (reached : Reached) where
    -- the records, and an end of a run
    no_ending : (file left : List ℕ) → IsLawfulFile by_seed seed entries reached file → Spells seed entries left → MayBecome by_seed now file left
    no_ending file left lawful spells = inr (record {
      seed = seed;
      entries = entries;
      reached = reached;
      lawful = lawful;
      some_of = record { front = []; back = ending now reached; split = refl; spells = subst (λ (l : List Record). Spells seed l left) (sym (append_none entries)) spells };
    })

    an_ending : (file left : List ℕ) (entry : Record) → ending now reached ≡ entry ∷ [] → IsLawfulFile by_seed seed entries reached file → Spells seed (entries ++ entry ∷ []) left
        → MayBecome by_seed now file left
    an_ending file left entry is lawful spells = inr (record {
      seed = seed;
      entries = entries;
      reached = reached;
      lawful = lawful;
      some_of = record { front = entry ∷ []; back = []; split = is; spells = spells };
    })

    -- what stands behind the records was cut
    pub finished : (old mid new : Option DiskTold) → LeftBy old mid → IfSome old (λ before. IsLawfulFile by_seed seed entries reached before.contents)
        → IfSome mid (λ before. IsSomeAnd new (λ after. LeavesOnly before after (Spells seed entries))) → LeftBy old new
    finished None mid new h lawful cut = tt
    finished (Some before) None new h lawful cut = absurd h
    finished (Some before) (Some between) None h lawful cut = absurd cut
    finished (Some before) (Some between) (Some after) h lawful cut =
        goes_on before between after (MayBecome by_seed now before.contents) h
        (weaker between after (Spells seed entries) (MayBecome by_seed now before.contents) (λ left spells. no_ending before.contents left lawful spells) cut.earlier)

    -- the end of a run was added
    pub ended : (first : DiskTold) (entry : Record) (old new : Option DiskTold) → ending now reached ≡ entry ∷ [] → IsLawfulFile by_seed seed entries reached first.contents
        → IfSome old (λ before. IsSomeAnd new (λ after. LeavesOnly before after (SpellsOneOf seed entries entry)))
        → IfSome old (λ before. IsSomeAnd new (λ after. Leaves first before (MayBecome by_seed now first.contents) → Leaves first after (MayBecome by_seed now first.contents)))
    ended first entry None new is lawful added = tt
    ended first entry (Some before) None is lawful added = absurd added
    ended first entry (Some before) (Some after) is lawful added = λ h.
        goes_on first before after (MayBecome by_seed now first.contents) h
        (weaker before after (SpellsOneOf seed entries entry) (MayBecome by_seed now first.contents)
        (λ left one. elim one [ inl spells ↦ no_ending first.contents left lawful spells | inr spells ↦ an_ending first.contents left entry is lawful spells ]) added.earlier)

    -- the run's end is what is left to do
    pub resumed : {K : Type 0} → (told : K → Option DiskTold) (left : Option K) (old mid : Option DiskTold) → LeftBy old mid → IfSome old (λ before. IsLawfulFile by_seed seed entries reached before.contents)
        → ((first : DiskTold) → IsLawfulFile by_seed seed entries reached first.contents
        → IfSome mid (λ before. IsSomeAnd left (λ other. IsSomeAnd (told other) (λ after. Leaves first before (MayBecome by_seed now first.contents) → Leaves first after (MayBecome by_seed now first.contents)))))
        → IfSome old (λ before. IsSomeAnd left (λ other. IsSomeAnd (told other) (λ after. Leaves before after (MayBecome by_seed now before.contents))))
    resumed told left None mid h lawful goes = tt
    resumed told left (Some before) None h lawful goes = absurd h
    resumed {K} told left (Some before) (Some between) h lawful goes =
        some_and left (λ other. IsSomeAnd (told other) (λ after. Leaves before between (MayBecome by_seed now before.contents) → Leaves before after (MayBecome by_seed now before.contents)))
        (λ other. IsSomeAnd (told other) (λ after. Leaves before after (MayBecome by_seed now before.contents)))
        (λ other. some_and (told other) (λ after. Leaves before between (MayBecome by_seed now before.contents) → Leaves before after (MayBecome by_seed now before.contents))
        (λ after. Leaves before after (MayBecome by_seed now before.contents)) (λ after f. f h)) (goes before lawful)
      where
        some_and : {X : Type 0} → (o : Option X) (P Q : X → Type 0) → ((x : X) → P x → Q x) → IsSomeAnd o P → IsSomeAnd o Q
        some_and None P Q f h = h
        some_and (Some x) P Q f h = f x h

-- nothing was done
pub nothing_done : (first : DiskTold) (P : List ℕ → Type 0) (t : Option DiskTold) → IfSome t (λ before. IsSomeAnd t (λ after. Leaves first before P → Leaves first after P))
nothing_done first P None = tt
nothing_done first P (Some told) = λ h. h

pub nothing_done_at : {K : Type 0} → (told : K → Option DiskTold) (left : Option K) (disk : K) (first : DiskTold) (P : List ℕ → Type 0) → left ≡ Some disk
    → IfSome (told disk) (λ before. IsSomeAnd left (λ other. IsSomeAnd (told other) (λ after. Leaves first before P → Leaves first after P)))
nothing_done_at {K} told left disk first P is =
    subst (λ (o : Option K). IfSome (told disk) (λ before. IsSomeAnd o (λ other. IsSomeAnd (told other) (λ after. Leaves first before P → Leaves first after P)))) (sym is) (nothing_done first P (told disk))

-- the end of a run is on the disk that is left
pub ended_at : {K D : Type 0} → (told : K → Option DiskTold) (by_seed : List ℕ → Basis D) (now : ℕ) (seed : List ℕ) (entries : List Record) (reached : Reached) (first : DiskTold) (entry : Record)
    (old : Option DiskTold) (left : Option K) (disk : K) → left ≡ Some disk → ending now reached ≡ entry ∷ [] → IsLawfulFile by_seed seed entries reached first.contents
    → IfSome old (λ before. IsSomeAnd (told disk) (λ after. LeavesOnly before after (SpellsOneOf seed entries entry)))
    → IfSome old (λ before. IsSomeAnd left (λ other. IsSomeAnd (told other) (λ after. Leaves first before (MayBecome by_seed now first.contents) → Leaves first after (MayBecome by_seed now first.contents))))
ended_at {K} told by_seed now seed entries reached first entry old left disk is ends lawful added =
    subst (λ (o : Option K). IfSome old (λ before. IsSomeAnd o (λ other. IsSomeAnd (told other) (λ after. Leaves first before (MayBecome by_seed now first.contents) → Leaves first after (MayBecome by_seed now first.contents)))))
    (sym is) (ended by_seed now seed entries reached first entry old (told disk) ends lawful added)

-- ---- a file of lawful records

pub never_refused : {D : Type 0} → (by_seed : List ℕ → Basis D) (seed : List ℕ) (entries : List Record) (reached : Reached) (fault : JournalFault) (old : Option DiskTold)
    → ((file : List ℕ) (at : ℕ) → Spells seed entries file → Replays (by_seed seed) entries at_first reached → IsNoJournalAt by_seed at file → ⊥)
    → IfNotJournal fault (λ at. IfSome old (λ before. IsNoJournalAt by_seed at before.contents))
    → IfSome old (λ before. IsLawfulFile by_seed seed entries reached before.contents → IfNotJournal fault (λ _. ⊥))
never_refused by_seed seed entries reached fault None law refused = tt
never_refused by_seed seed entries reached faults.Disk (Some before) law refused = λ lawful. tt
never_refused by_seed seed entries reached (faults.NotJournal at) (Some before) law refused = λ lawful. law before.contents at lawful.spells lawful.replays refused
never_refused by_seed seed entries reached faults.Memory (Some before) law refused = λ lawful. tt

-- a file with no header
pub no_journal_at_once : {D : Type 0} → (by_seed : List ℕ → Basis D) (fault : JournalFault) (old : Option DiskTold)
    → IfNotJournal fault (λ at. (at ≡ 0) × IfSome old (λ before. IsFault at before.contents)) → IfNotJournal fault (λ at. IfSome old (λ before. IsNoJournalAt by_seed at before.contents))
no_journal_at_once by_seed faults.Disk old h = tt
no_journal_at_once by_seed (faults.NotJournal at) old h = no_header by_seed at old h.0 h.1
no_journal_at_once by_seed faults.Memory old h = tt

-- a file that was made sure of and read
no_journal_there : {D : Type 0} → (by_seed : List ℕ → Basis D) (at : ℕ) (old mid : Option DiskTold) → IfSome old (λ before. IsSomeAnd mid (λ after. after.contents ≡ before.contents))
    → IfSome mid (λ file. IsNoJournalAt by_seed at file.contents) → IfSome old (λ before. IsNoJournalAt by_seed at before.contents)
no_journal_there by_seed at None mid same h = tt
no_journal_there by_seed at (Some before) None same h = absurd same
no_journal_there by_seed at (Some before) (Some between) same h = subst (IsNoJournalAt by_seed at) same h

pub no_journal_when_read : {D : Type 0} → (by_seed : List ℕ → Basis D) (fault : JournalFault) (old mid : Option DiskTold) → IfSome old (λ before. IsSomeAnd mid (λ after. after.contents ≡ before.contents))
    → IfNotJournal fault (λ at. IfSome mid (λ file. IsNoJournalAt by_seed at file.contents)) → IfNotJournal fault (λ at. IfSome old (λ before. IsNoJournalAt by_seed at before.contents))
no_journal_when_read by_seed faults.Disk old mid same h = tt
no_journal_when_read by_seed (faults.NotJournal at) old mid same h = no_journal_there by_seed at old mid same h
no_journal_when_read by_seed faults.Memory old mid same h = tt

-- ---- all records were played

lawful_by : {D : Type 0} → (by_seed : List ℕ → Basis D) (seed : List ℕ) (entries : List Record) (reached : Reached) (old : Option DiskTold) → IfSome old (λ before. Spells seed entries before.contents)
    → Replays (by_seed seed) entries at_first reached → IfSome old (λ before. IsLawfulFile by_seed seed entries reached before.contents)
lawful_by by_seed seed entries reached None spells replays = tt
lawful_by by_seed seed entries reached (Some before) spells replays = record { spells = spells; replays = replays }

module _ {K S D : Type 0} (bases : Bases S D) (told : K → Option DiskTold)
    (read : (seed : List ℕ) (entries : List Record) (gate at len : ℕ) (told : DiskTold) → Behind seed entries gate at len told → gate ≢ open_gate → Spells seed entries told.contents)
    (opening : Reading K) (player : Player S D) (f : Follows bases told opening player) (none : HasNext opening → ⊥) (old first : Option DiskTold) (told_is : told opening.disk ≡ first)
    (same : IfSome old (λ before. IsSomeAnd first (λ after. after.contents ≡ before.contents))) where
  -- the file spells them
  pub played_lawful : IfSome old (λ before. IsLawfulFile (bases player.server.seal) opening.seed f.entries f.reached before.contents)
  played_lawful =
      let there : IfSome old (λ before. IsSomeAnd (told opening.disk) (λ after. after.contents ≡ before.contents)) =
      subst (λ (t : Option DiskTold). IfSome old (λ before. IsSomeAnd t (λ after. after.contents ≡ before.contents))) (sym told_is) same in
      lawful_by (bases player.server.seal) opening.seed f.entries f.reached old
      (spells_by read opening.seed f.entries opening.gate opening.at opening.len old (told opening.disk) f.taken none there)
      (subst (λ (s : List ℕ). Replays (bases player.server.seal s) f.entries at_first f.reached) f.seed_is f.replays)

  -- and what is behind them is cut
  pub played_finished : (now : ℕ) (new : Option DiskTold) → IfSome old (λ before. IsSomeAnd first (λ after. Leaves before after (λ left. left ≡ before.contents)))
      → IfSome (told opening.disk) (λ before. IsSomeAnd new (λ after. LeavesOnly before after (Spells opening.seed f.entries))) → LeftBy (bases player.server.seal) now old new
  played_finished now new sure cut =
      finished (bases player.server.seal) now opening.seed f.entries f.reached old (told opening.disk) new
      (made_sure (bases player.server.seal) now old first (told opening.disk) told_is sure) played_lawful cut

-- the ring is that of the seal
pub under_seal : {K S D : Type 0} → (bases : Bases S D) (told : K → Option DiskTold) (now : ℕ) (one other : S) (old : Option DiskTold) (left : Option K) → one ≡ other
    → IfSome old (λ before. IsSomeAnd left (λ disk. IsSomeAnd (told disk) (λ after. Leaves before after (MayBecome (bases one) now before.contents))))
    → IfSome old (λ before. IsSomeAnd left (λ disk. IsSomeAnd (told disk) (λ after. Leaves before after (MayBecome (bases other) now before.contents))))
under_seal {K} {S} bases told now one other old left is h =
    subst (λ (s : S). IfSome old (λ before. IsSomeAnd left (λ disk. IsSomeAnd (told disk) (λ after. Leaves before after (MayBecome (bases s) now before.contents))))) is h
