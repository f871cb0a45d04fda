-- A run's status, by what stood in the files of the journal's name.
use Rattle.std.proofs.Common.{◌≡◌, ◌≢◌, ◌⊎◌, inl, inr, ℕ, List, [], true, false, Option, None, Some, IfSome, IsSome, IsSomeAnd, refl, subst}
use Rattle.auth_keys.specs.declared.ring.RingKey.{RingKey}
use Rattle.commands.specs.declared.command.ServeOptions.{ServeOptions}
use Rattle.disks.specs.Named.{NamesTold}
use Rattle.server_rules.specs.Server.{Server}
use Rattle.statuses.specs.Outside.{HadFault, Outside, Part, Tells}
use Rattle.statuses.specs.declared.status.Status.{Status}
use Rattle.statuses.specs.declared.status.Status.TheVariants as status
use Rattle.cmd_serve.specs.Journals.{Drawing, FoundBy, Holds, IsJournal, IsOpen, IsUnlawful, Keeping, StartsBy, Unopened, Faulty, Foreign, Starved, New, Old}
use Rattle.cmd_serve.specs.Lines.{journal_fault}
use Rattle.cmd_serve.specs.Runs.{Course, Draws, Unread, Refused, Unbegun, Shut, Deaf, Mute, Serves, Ends, EndsShut, GoesBy, HasRing, IsFull, JournalsBy, Judges, Moments}

-- ---- files that tell

always : (first : Option NamesTold) (Q : NamesTold → Type 0) → ((told : NamesTold) → Q told) → IfSome first Q
always None Q so = tt
always (Some told) Q so = so told

so-too : (first : Option NamesTold) (P Q : NamesTold → Type 0) → IfSome first P → ((told : NamesTold) → P told → Q told) → IfSome first Q
so-too None P Q has so = tt
so-too (Some told) P Q has so = so told has

-- what is said of them before a run and after it, where they go on telling
told-before : (first last : Option NamesTold) (P : NamesTold → NamesTold → Type 0) (Q : NamesTold → Type 0) → (IsSome first → IsSome last)
    → IfSome last (λ after. IsSomeAnd first (λ before. P before after)) → ((before after : NamesTold) → P before after → Q before) → IfSome first Q
told-before None last P Q tells has so = tt
told-before (Some before) None P Q tells has so = let none : false ≡ true = tells refl in cc
told-before (Some before) (Some after) P Q tells has so = so before after has

-- ---- what becomes of the file

module _ {D : Type 0} (drawing : Drawing D) (ring : List RingKey) (name : List ℕ) where
  not-journal : (bytes : List ℕ) → bytes ≢ [] → IsUnlawful drawing ring bytes → IsJournal drawing ring bytes → ⊥
  not-journal bytes some unlawful (inl none) = some none
  not-journal bytes some unlawful (inr lawful) = unlawful lawful.seed lawful.entries lawful.reached lawful.lawful

  -- one that is taken for something else is no journal
  foreign-not : (keeping : Keeping) (at : ℕ) (before after : NamesTold) → keeping ≡ Foreign at → FoundBy drawing ring name keeping before after
      → ((bytes : List ℕ) → Holds name bytes before.files → IsJournal drawing ring bytes) → ⊥
  foreign-not keeping at before after is found all =
      let foreign : FoundBy drawing ring name (Foreign at) before after = subst (λ (some : Keeping). FoundBy drawing ring name some before after) is found in
      not-journal foreign.bytes foreign.some foreign.unlawful (all foreign.bytes foreign.before_is)

  -- one that a server comes of is a journal
  open-journal : (keeping : Keeping) (drawn : D) (server : Server) (draw : D) (before after : NamesTold) → IsOpen keeping → FoundBy drawing ring name keeping before after
      → StartsBy drawing ring keeping drawn server draw → ((bytes : List ℕ) → Holds name bytes before.files → IsJournal drawing ring bytes → ⊥) → ⊥
  open-journal Unopened drawn server draw before after opened found starts none = opened
  open-journal Faulty drawn server draw before after opened found starts none = opened
  open-journal (Foreign at) drawn server draw before after opened found starts none = opened
  open-journal Starved drawn server draw before after opened found starts none = opened
  open-journal (New seed) drawn server draw before after opened found starts none = none [] found (inl refl)
  open-journal (Old seed entries now) drawn server draw before after opened found starts none =
      none found.bytes found.holds
      (inr (record { seed = seed; entries = entries; reached = starts.reached; lawful = record { spells = found.says; replays = starts.replays } }))

not-open : (keeping : Keeping) (at : ℕ) → IsOpen keeping → keeping ≡ Foreign at → ⊥
not-open keeping at opened is = let there : IsOpen (Foreign at) = subst IsOpen is opened in there

-- ---- files of this name that are journals

abbrev IsNeverForeign : {D : Type 0} → Drawing D → List ℕ → Keeping → Course D → NamesTold → Type 0
IsNeverForeign drawing name keeping course told = (ring : List RingKey) → HasRing ring course
    → ((bytes : List ℕ) → Holds name bytes told.files → IsJournal drawing ring bytes) → (at : ℕ) → keeping ≡ Foreign at → ⊥

module _ {D K : Type 0} (drawing : Drawing D) (options : ServeOptions) (name : List ℕ) (disks : Part NamesTold K) (moments : Moments) (draws : Draws D) (keeping : Keeping)
    (tells : IsSome (disks.told disks.before) → IsSome (disks.told disks.after)) where
  foreign-in : (course : Course D) → JournalsBy drawing options name disks moments draws keeping course → IfSome (disks.told disks.before) (IsNeverForeign drawing name keeping course)
  foreign-in Unread goes = always (disks.told disks.before) (IsNeverForeign drawing name keeping Unread) (λ told ring own. absurd own)
  foreign-in (Refused line) goes = always (disks.told disks.before) (IsNeverForeign drawing name keeping (Refused line)) (λ told ring own. absurd own)
  foreign-in Unbegun goes = always (disks.told disks.before) (IsNeverForeign drawing name keeping Unbegun) (λ told ring own. absurd own)
  foreign-in (Shut own) goes =
      told-before (disks.told disks.before) (disks.told disks.after) (FoundBy drawing own name keeping) (IsNeverForeign drawing name keeping (Shut own)) tells goes.opens.found
      (λ before after found ring same all at is.
      foreign-not drawing ring name keeping at before after is (subst (λ (some : List RingKey). FoundBy drawing some name keeping before after) same found) all)
  foreign-in (Deaf own) goes = always (disks.told disks.before) (IsNeverForeign drawing name keeping (Deaf own)) (λ told ring same all at is. not-open keeping at goes.0.opened is)
  foreign-in (Mute own) goes = always (disks.told disks.before) (IsNeverForeign drawing name keeping (Mute own)) (λ told ring same all at is. not-open keeping at goes.0.opened is)
  foreign-in (Serves own connections ending) goes =
      always (disks.told disks.before) (IsNeverForeign drawing name keeping (Serves own connections ending)) (λ told ring same all at is. not-open keeping at goes.0.opened is)

-- ---- files of this name that aren't

abbrev IsFaulted : Status → Type 0
IsFaulted one = (one ≡ status.JournalFault) ⊎ (one ≡ status.WriteFault) ⊎ (one ≡ status.Memory)

told-fault : {O : Type 0} (out : Outside O) (one : Status) → Tells out status.JournalFault journal_fault one → IsFaulted one
told-fault out one (inl done) = inl done.0
told-fault out one (inr failed) = inr (inl failed.0)

shut-fault : {O : Type 0} (out : Outside O) (keeping : Keeping) (one : Status) → EndsShut out keeping one → IsFaulted one
shut-fault out Unopened one ends = absurd ends
shut-fault out Faulty one ends = told-fault out one ends
shut-fault out (Foreign at) one ends = told-fault out one ends
shut-fault out Starved one ends = inr (inr ends.0)
shut-fault out (New seed) one ends = absurd ends
shut-fault out (Old seed entries now) one ends = absurd ends

abbrev IsFaultedWithout : {D : Type 0} → Drawing D → List ℕ → Course D → Status → NamesTold → Type 0
IsFaultedWithout drawing name course one told = (ring : List RingKey) → HasRing ring course
    → ((bytes : List ℕ) → Holds name bytes told.files → IsJournal drawing ring bytes → ⊥) → IsFaulted one

module _ {D K O : Type 0} (drawing : Drawing D) (options : ServeOptions) (name : List ℕ) (disks : Part NamesTold K) (out : Outside O) (moments : Moments) (draws : Draws D) (keeping : Keeping) (one : Status)
    (tells : IsSome (disks.told disks.before) → IsSome (disks.told disks.after)) where
  opened-not : (own : List RingKey) (server : Server) (draw : D) (before after : NamesTold) → IsOpen keeping → FoundBy drawing own name keeping before after → StartsBy drawing own keeping draws.before server draw
      → (ring : List RingKey) → own ≡ ring → ((bytes : List ℕ) → Holds name bytes before.files → IsJournal drawing ring bytes → ⊥) → ⊥
  opened-not own server draw before after opened found starts ring same none =
      open-journal drawing own name keeping draws.before server draw before after opened found starts
      (λ bytes holds is. none bytes holds (subst (λ (some : List RingKey). IsJournal drawing some bytes) same is))

  refused-in : (course : Course D) → JournalsBy drawing options name disks moments draws keeping course → Ends options out keeping course one
      → IfSome (disks.told disks.before) (IsFaultedWithout drawing name course one)
  refused-in Unread goes ends = always (disks.told disks.before) (IsFaultedWithout drawing name Unread one) (λ told ring own. absurd own)
  refused-in (Refused line) goes ends = always (disks.told disks.before) (IsFaultedWithout drawing name (Refused line) one) (λ told ring own. absurd own)
  refused-in Unbegun goes ends = always (disks.told disks.before) (IsFaultedWithout drawing name Unbegun one) (λ told ring own. absurd own)
  refused-in (Shut own) goes ends = always (disks.told disks.before) (IsFaultedWithout drawing name (Shut own) one) (λ told ring same none. shut-fault out keeping one ends)
  refused-in (Deaf own) goes ends =
      told-before (disks.told disks.before) (disks.told disks.after) (FoundBy drawing own name keeping) (IsFaultedWithout drawing name (Deaf own) one) tells goes.0.opens.found
      (λ before after found ring same none. absurd (opened-not own goes.0.first.server goes.0.first.draw before after goes.0.opened found goes.0.starts ring same none))
  refused-in (Mute own) goes ends =
      told-before (disks.told disks.before) (disks.told disks.after) (FoundBy drawing own name keeping) (IsFaultedWithout drawing name (Mute own) one) tells goes.0.opens.found
      (λ before after found ring same none. absurd (opened-not own goes.0.first.server goes.0.first.draw before after goes.0.opened found goes.0.starts ring same none))
  refused-in (Serves own connections ending) goes ends =
      told-before (disks.told disks.before) (disks.told disks.after) (FoundBy drawing own name keeping) (IsFaultedWithout drawing name (Serves own connections ending) one) tells goes.0.opens.found
      (λ before after found ring same none. absurd (opened-not own goes.0.first.server goes.0.first.draw before after goes.0.opened found goes.0.starts ring same none))

-- ---- both

no-other : (P Q : Type 0) (keeping : Keeping) → P ⊎ ((at : ℕ) × (keeping ≡ Foreign at)) ⊎ Q → ((at : ℕ) → keeping ≡ Foreign at → ⊥) → P ⊎ Q
no-other P Q keeping (inl p) never = inl p
no-other P Q keeping (inr (inl foreign)) never = absurd (never foreign.0 foreign.1)
no-other P Q keeping (inr (inr q)) never = inr q

pub judged : {D K O : Type 0} (drawing : Drawing D) (options : ServeOptions) (journal : Option (List ℕ)) (disks : Part NamesTold K) (out : Outside O) (moments : Moments) (draws : Draws D) (keeping : Keeping) (course : Course D) (one : Status)
    → GoesBy drawing options journal disks moments draws keeping course → (IsSome (disks.told disks.before) → IsSome (disks.told disks.after)) → Ends options out keeping course one
    → (one ≡ status.JournalFault → HadFault disks ⊎ ((at : ℕ) × (keeping ≡ Foreign at)) ⊎ IsFull course)
    → IfSome journal (λ name. Judges drawing name disks course one)
judged drawing options None disks out moments draws keeping course one goes tells ends cause = tt
judged drawing options (Some name) disks out moments draws keeping course one goes tells ends cause = record {
  taken = so-too (disks.told disks.before) (IsNeverForeign drawing name keeping course)
      (λ told. (ring : List RingKey) → HasRing ring course → ((bytes : List ℕ) → Holds name bytes told.files → IsJournal drawing ring bytes) → one ≡ status.JournalFault → HadFault disks ⊎ IsFull course)
      (foreign-in drawing options name disks moments draws keeping tells course goes)
      (λ told never ring own all is. no-other (HadFault disks) (IsFull course) keeping (cause is) (never ring own all));
  refused = refused-in drawing options name disks out moments draws keeping one tells course goes ends;
}
