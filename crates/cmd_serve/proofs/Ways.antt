-- A run, from its parts.
use Rattle.std.proofs.Common.{◌≡◌, ◌≢◌, ◌<◌, ◌≤◌, ◌+◌, ◌⊎◌, inl, inr, ℕ, List, [], ◌∷◌, ◌++◌, length, Option, Some, None, IfSome, IsSome, IsSomeAnd, Result, Ok, refl, sym, ap, subst, ◌∙◌, append_assoc, append-nil, length-append, arith}
use Rattle.auth_keys.specs.KeyFile.{IsFaultOf, IsRingOf}
use Rattle.auth_keys.specs.declared.fault.KeyFault.{KeyFault}
use Rattle.auth_keys.specs.declared.fault.KeyFault.TheVariants as keys_faults
use Rattle.auth_keys.specs.declared.ring.RingKey.{RingKey}
use Rattle.commands.specs.declared.command.ServeOptions.{ServeOptions}
use Rattle.key_files.specs.Files.{AsksOnce, GivesBy, HasText, IsFileOf, IsRefusedAt, line_of}
use Rattle.key_files.specs.declared.reading.KeysFault.{KeysFault}
use Rattle.mt_edge.specs.Files.{FilesTold}
use Rattle.mt_edge.specs.declared.act.Act.TheVariants.{Ready, Failed as NotReady}
use Rattle.mt_edge.specs.declared.net_call.NetCall.{NetCall}
use Rattle.mt_edge.specs.declared.net_call.NetCall.TheVariants.{Accept, Listen}
use Rattle.mt_edge.specs.declared.net_call.Outcome.TheVariants.{Failed}
use Rattle.disks.specs.Named.{NamesTold}
use Rattle.statuses.specs.Outside.{HadFault, Outside, Part, Tells}
use Rattle.statuses.specs.declared.status.Status.{Status}
use Rattle.statuses.specs.declared.status.Status.TheVariants as status
use Rattle.cmd_serve.specs.Connections.{AreNoted, AreNotedBy, Connection, CountsEnding, EndsBy}
use Rattle.cmd_serve.specs.Inner.{IsWith, RunsWith}
use Rattle.cmd_serve.specs.Journals.{Drawing, HoldsSome, IsFilled, IsOpen, Keeping, Unopened, Faulty, Foreign, Starved, New, Old}
use Rattle.cmd_serve.specs.Lines.{listening}
use Rattle.cmd_serve.specs.Runs.{Calls, CountsDisks, CountsFiles, CountsNet, Course, Draws, Unread, Refused, Unbegun, Shut, Deaf, Mute, Serves, Ends, EndsShut, FailsNever, FailsOnce, GoesBy, HasKeys, IfTold, IsFull, Makes, Moments, Reads, Registers, ServeRun, WritesFirst}
use Rattle.cmd_serve.specs.declared.ending.Ending.{Ending}
use Rattle.cmd_serve.specs.declared.ending.Ending.TheVariants.{Served, Stopped, NotTaken, Journal, Full, Memory}
use Rattle.cmd_serve.proofs.Judging.{judged}
use Rattle.cmd_serve.proofs.Texts.{rose-once}

-- ---- the text of a key file

-- a text has one reading
pub record OneReading : Type 0 where
  pub no_fault : (text : List ℕ) (ring : List RingKey) (fault : KeyFault) → IsRingOf text ring → IsFaultOf text fault → fault ≡ keys_faults.Memory
  pub fault : (text : List ℕ) (one other : KeyFault) → one ≢ keys_faults.Memory → other ≢ keys_faults.Memory → IsFaultOf text one → IsFaultOf text other → one ≡ other

no-line : (fault : KeyFault) (line : ℕ) → line_of fault ≡ Some line → fault ≡ keys_faults.Memory → ⊥
no-line fault line on is = let none : None ≡ Some line = sym (ap line_of is) ∙ on in cc

ring-or-fault : OneReading → (text : List ℕ) (ring : List RingKey) (line : ℕ) → IsRingOf text ring → IsRefusedAt text line → ⊥
ring-or-fault one text ring line is refused = no-line refused.fault line refused.on (one.no_fault text ring refused.fault is refused.its)

same-line : OneReading → (text : List ℕ) (line other : ℕ) → IsRefusedAt text line → IsRefusedAt text other → line ≡ other
same-line one text line other refused again =
    let fault = one.fault text refused.fault again.fault (no-line refused.fault line refused.on) (no-line again.fault other again.on) refused.its again.its in
    let both : Some line ≡ Some other = sym refused.on ∙ ap line_of fault ∙ again.on in
    cc

-- what the file of a name says, by what one of the name says
only-text : (told : FilesTold) (name text : List ℕ) (P : List ℕ → Type 0) → IsFileOf told.files name text → HasText (Some told) name P → P text
only-text told name text P is has = subst P (is has.0 has.1) has.2

-- ---- what is read

keys-with : {D : Type 0} (told : Option FilesTold) (name : List ℕ) (ring : List RingKey) (course : Course D) → IsWith ring course → HasText told name (λ text. IsRingOf text ring) → HasKeys told name course
keys-with told name ring Unread own has = absurd own
keys-with told name ring (Refused line) own has = absurd own
keys-with told name ring Unbegun own has = tt
keys-with told name ring (Shut other) own has = subst (λ (one : List RingKey). HasText told name (λ text. IsRingOf text one)) (sym own) has
keys-with told name ring (Deaf other) own has = subst (λ (one : List RingKey). HasText told name (λ text. IsRingOf text one)) (sym own) has
keys-with told name ring (Mute other) own has = subst (λ (one : List RingKey). HasText told name (λ text. IsRingOf text one)) (sym own) has
keys-with told name ring (Serves other connections ending) own has = subst (λ (one : List RingKey). HasText told name (λ text. IsRingOf text one)) (sym own) has

counts-with : {D F : Type 0} (files : Part FilesTold F) (ring : List RingKey) (course : Course D) → IsWith ring course → FailsNever files → CountsFiles files course
counts-with files ring Unread own never = absurd own
counts-with files ring (Refused line) own never = absurd own
counts-with files ring Unbegun own never = never
counts-with files ring (Shut other) own never = never
counts-with files ring (Deaf other) own never = never
counts-with files ring (Mute other) own never = never
counts-with files ring (Serves other connections ending) own never = never

not-refused : {D : Type 0} (ring : List RingKey) (course : Course D) (line : ℕ) → IsWith ring course → course ≡ Refused line → ⊥
not-refused ring course line own is = subst (λ (one : Course _). IsWith ring one) is own

refused-not : {D : Type 0} (told : Option FilesTold) (name : List ℕ) (ring : List RingKey) (course : Course D) → OneReading → HasText told name (λ text. IsRingOf text ring)
    → IfSome told (λ files. (text : List ℕ) (line : ℕ) → IsFileOf files.files name text → IsRefusedAt text line → (course ≡ Refused line) ⊎ (course ≡ Unread) ⊎ (course ≡ Unbegun))
refused-not None name ring course one has = tt
refused-not (Some told) name ring course one has = λ text line is refused.
    absurd (ring-or-fault one text ring line (only-text told name text (λ some. IsRingOf some ring) is has) refused)

taken-with : {D : Type 0} (told : Option FilesTold) (name : List ℕ) (own : List RingKey) (course : Course D) → IsWith own course
    → IfSome told (λ files. (text : List ℕ) (ring : List RingKey) (line : ℕ) → IsFileOf files.files name text → IsRingOf text ring → course ≡ Refused line → ⊥)
taken-with None name own course with = tt
taken-with (Some told) name own course with = λ text ring line is its same. not-refused own course line with same

pub reads-with : {D F : Type 0} (name : List ℕ) (files : Part FilesTold F) (ring : List RingKey) (course : Course D) → OneReading → IsWith ring course
    → GivesBy (files.told files.before) name (Ok ring) → IfTold files (AsksOnce name) → FailsNever files → Reads name files course
reads-with name files ring course one own has asked never = record {
  keys = keys-with (files.told files.before) name ring course own has;
  asked = asked;
  counted = counts-with files ring course own never;
  refused = refused-not (files.told files.before) name ring course one has;
  taken = taken-with (files.told files.before) name ring course own;
}

-- a file that can't be read, and one for which memory runs out
first-cause : {D : Type 0} (told : Option FilesTold) (name : List ℕ) (course : Course D) → (course ≡ Unread) ⊎ (course ≡ Unbegun)
    → IfSome told (λ files. (text : List ℕ) (line : ℕ) → IsFileOf files.files name text → IsRefusedAt text line → (course ≡ Refused line) ⊎ (course ≡ Unread) ⊎ (course ≡ Unbegun))
first-cause None name course is = tt
first-cause (Some told) name course (inl unread) = λ text line file refused. inr (inl unread)
first-cause (Some told) name course (inr unbegun) = λ text line file refused. inr (inr unbegun)

never-refused : {D : Type 0} (told : Option FilesTold) (name : List ℕ) (course : Course D) → ((line : ℕ) → course ≡ Refused line → ⊥)
    → IfSome told (λ files. (text : List ℕ) (ring : List RingKey) (line : ℕ) → IsFileOf files.files name text → IsRingOf text ring → course ≡ Refused line → ⊥)
never-refused None name course other = tt
never-refused (Some told) name course other = λ text ring line is its same. other line same

abbrev IsRefusal : {D : Type 0} → Course D → Type 0
IsRefusal Unread = ⊥
IsRefusal (Refused line) = Unit {0}
IsRefusal Unbegun = ⊥
IsRefusal (Shut ring) = ⊥
IsRefusal (Deaf ring) = ⊥
IsRefusal (Mute ring) = ⊥
IsRefusal (Serves ring connections ending) = ⊥

reads-unread : {D F : Type 0} (name : List ℕ) (files : Part FilesTold F) → IfTold files (AsksOnce name) → FailsOnce files → Reads {D = D} {F = F} name files Unread
reads-unread {D} name files asked once = record {
  keys = tt;
  asked = asked;
  counted = once;
  refused = first-cause (files.told files.before) name Unread (inl refl);
  taken = never-refused (files.told files.before) name Unread (λ line same. subst (λ (one : Course D). IsRefusal one) (sym same) tt);
}

reads-unbegun : {D F : Type 0} (name : List ℕ) (files : Part FilesTold F) → IfTold files (AsksOnce name) → FailsNever files → Reads {D = D} {F = F} name files Unbegun
reads-unbegun {D} name files asked never = record {
  keys = tt;
  asked = asked;
  counted = never;
  refused = first-cause (files.told files.before) name Unbegun (inr refl);
  taken = never-refused (files.told files.before) name Unbegun (λ line same. subst (λ (one : Course D). IsRefusal one) (sym same) tt);
}

refused-so : (D : Type 0) (told : Option FilesTold) (name : List ℕ) (line : ℕ) → OneReading → HasText told name (λ text. IsRefusedAt text line)
    → IfSome told (λ files. (text : List ℕ) (other : ℕ) → IsFileOf files.files name text → IsRefusedAt text other
    → (◌≡◌ {A = Course D} (Refused line) (Refused other)) ⊎ (◌≡◌ {A = Course D} (Refused line) Unread) ⊎ (◌≡◌ {A = Course D} (Refused line) Unbegun))
refused-so D None name line one has = tt
refused-so D (Some told) name line one has = λ text other is refused.
    inl (ap (λ (n : ℕ). Refused n) (same-line one text line other (only-text told name text (λ some. IsRefusedAt some line) is has) refused))

taken-so : (D : Type 0) (told : Option FilesTold) (name : List ℕ) (line : ℕ) → OneReading → HasText told name (λ text. IsRefusedAt text line)
    → IfSome told (λ files. (text : List ℕ) (ring : List RingKey) (other : ℕ) → IsFileOf files.files name text → IsRingOf text ring → ◌≡◌ {A = Course D} (Refused line) (Refused other) → ⊥)
taken-so D None name line one has = tt
taken-so D (Some told) name line one has = λ text ring other is its same. ring-or-fault one text ring line its (only-text told name text (λ some. IsRefusedAt some line) is has)

reads-refused : {D F : Type 0} (name : List ℕ) (files : Part FilesTold F) (line : ℕ) → OneReading → HasText (files.told files.before) name (λ text. IsRefusedAt text line)
    → IfTold files (AsksOnce name) → FailsNever files → Reads {D = D} {F = F} name files (Refused line)
reads-refused {D} name files line one has asked never = record {
  keys = has;
  asked = asked;
  counted = never;
  refused = refused-so D (files.told files.before) name line one has;
  taken = taken-so D (files.told files.before) name line one has;
}

-- ---- what is called

made-none : (told : Option (List NetCall)) → IfSome told (λ after. IsSomeAnd told (λ before. (made : List NetCall) × (after ≡ before ++ made) × (made ≡ [])))
made-none None = tt
made-none (Some calls) = ([], sym (append-nil calls), refl)

pub calls-none : {D N : Type 0} (port : ℕ) (told : N → Option (List NetCall)) (faults : N → ℕ) (net : N) → Calls {D = D} {N = N} port (record { told = told; faults = faults; before = net; after = net }) Unbegun
calls-none port told faults net = record { made = made-none (told net); counted = refl; tells = λ is none. is }

pub calls-shut : {D N : Type 0} (port : ℕ) (told : N → Option (List NetCall)) (faults : N → ℕ) (net : N) (ring : List RingKey) → Calls {D = D} {N = N} port (record { told = told; faults = faults; before = net; after = net }) (Shut ring)
calls-shut port told faults net ring = record { made = made-none (told net); counted = refl; tells = λ is none. is }

calls-unread : {D N : Type 0} (port : ℕ) (told : N → Option (List NetCall)) (faults : N → ℕ) (net : N) → Calls {D = D} {N = N} port (record { told = told; faults = faults; before = net; after = net }) Unread
calls-unread port told faults net = record { made = made-none (told net); counted = refl; tells = λ is none. is }

calls-refused : {D N : Type 0} (port line : ℕ) (told : N → Option (List NetCall)) (faults : N → ℕ) (net : N) → Calls {D = D} {N = N} port (record { told = told; faults = faults; before = net; after = net }) (Refused line)
calls-refused port line told faults net = record { made = made-none (told net); counted = refl; tells = λ is none. is }

-- one call, and others behind it
made-one : (first last : Option (List NetCall)) (call : NetCall) → IfSome last (λ after. IsSomeAnd first (λ before. after ≡ before ++ call ∷ []))
    → IfSome last (λ after. IsSomeAnd first (λ before. (made : List NetCall) × (after ≡ before ++ made) × (made ≡ call ∷ [])))
made-one first None call told = tt
made-one None (Some last) call told = absurd told
made-one (Some first) (Some last) call told = (call ∷ [], told, refl)

made-both : (first middle last : Option (List NetCall)) (call : NetCall) (P : List NetCall → Type 0) → IfSome middle (λ after. IsSomeAnd first (λ before. after ≡ before ++ call ∷ []))
    → IfSome last (λ after. IsSomeAnd middle (λ before. (made : List NetCall) × (after ≡ before ++ made) × P made))
    → IfSome last (λ after. IsSomeAnd first (λ before. (made : List NetCall) × (after ≡ before ++ made) × ((behind : List NetCall) × (made ≡ call ∷ behind) × P behind)))
made-both first middle None call P one next = tt
made-both first None (Some last) call P one next = absurd next
made-both None (Some middle) (Some last) call P one next = absurd one
made-both (Some first) (Some middle) (Some last) call P one next = (
  call ∷ next.0,
  next.1 ∙ ap (λ (calls : List NetCall). calls ++ next.0) one ∙ append_assoc first (call ∷ []) next.0,
  (next.0, refl, next.2),
)

pub calls-deaf : {D N : Type 0} (port : ℕ) (net : Part (List NetCall) N) (ring : List RingKey) → IfTold net (λ before after. after ≡ before ++ Listen port NotReady ∷ []) → FailsOnce net
    → (IsSome (net.told net.before) → net.faults net.before ≡ 0 → IsSome (net.told net.after)) → Calls {D = D} {N = N} port net (Deaf ring)
calls-deaf port net ring told once tells = record { made = made-one (net.told net.before) (net.told net.after) (Listen port NotReady) told; counted = once; tells = tells }

pub calls-mute : {D N : Type 0} (port : ℕ) (net : Part (List NetCall) N) (ring : List RingKey) → IfTold net (λ before after. after ≡ before ++ Listen port Ready ∷ []) → FailsNever net
    → (IsSome (net.told net.before) → net.faults net.before ≡ 0 → IsSome (net.told net.after)) → Calls {D = D} {N = N} port net (Mute ring)
calls-mute port net ring told never tells = record { made = made-one (net.told net.before) (net.told net.after) (Listen port Ready) told; counted = never; tells = tells }

pub calls-serves : {D N : Type 0} (port : ℕ) (told : N → Option (List NetCall)) (faults : N → ℕ) (first middle last : N) (ring : List RingKey) (connections : List (Connection D Registers)) (ending : Ending)
    → IfSome (told middle) (λ after. IsSomeAnd (told first) (λ before. after ≡ before ++ Listen port Ready ∷ [])) → faults middle ≡ faults first
    → (IsSome (told first) → faults first ≡ 0 → IsSome (told middle))
    → IfSome (told last) (λ after. IsSomeAnd (told middle) (λ before. (made : List NetCall) × (after ≡ before ++ made) × AreNotedBy ending connections made)) → CountsEnding ending (faults middle) (faults last)
    → (IsSome (told middle) → faults middle ≡ 0 → IsSome (told last))
    → Calls port (record { told = told; faults = faults; before = first; after = last }) (Serves ring connections ending)
calls-serves port told faults first middle last ring connections ending listened never goes noted counted tells = record {
  made = made-both (told first) (told middle) (told last) (Listen port Ready) (AreNotedBy ending connections) listened noted;
  counted = subst (λ (count : ℕ). CountsEnding ending count (faults last)) never counted;
  tells = λ is none. tells (goes is none) (never ∙ none);
}

-- ---- causes

write-fault-of : {O : Type 0} (out : Outside O) (due : Status) (text : List ℕ) (one : Status) → Tells out due text one → (due ≡ status.WriteFault → ⊥) → one ≡ status.WriteFault → HadFault out
write-fault-of out due text one (inl done) other is = absurd (other (sym done.0 ∙ is))
write-fault-of out due text one (inr failed) other is = failed.1

write-fault : {D O : Type 0} (options : ServeOptions) (out : Outside O) (keeping : Keeping) (course : Course D) (one : Status) → Ends options out keeping course one → one ≡ status.WriteFault → HadFault out
write-fault options out keeping Unread one ends is = write-fault-of out status.KeysRefused _ one ends (λ same. cc) is
write-fault options out keeping (Refused line) one ends is = write-fault-of out status.KeysRefused _ one ends (λ same. cc) is
write-fault options out keeping Unbegun one ends is = let both : status.Memory ≡ status.WriteFault = sym ends.0 ∙ is in cc
write-fault options out Unopened (Shut ring) one ends is = absurd ends
write-fault options out Faulty (Shut ring) one ends is = write-fault-of out status.JournalFault _ one ends (λ same. cc) is
write-fault options out (Foreign at) (Shut ring) one ends is = write-fault-of out status.JournalFault _ one ends (λ same. cc) is
write-fault options out Starved (Shut ring) one ends is = let both : status.Memory ≡ status.WriteFault = sym ends.0 ∙ is in cc
write-fault options out (New seed) (Shut ring) one ends is = absurd ends
write-fault options out (Old seed entries now) (Shut ring) one ends is = absurd ends
write-fault options out keeping (Deaf ring) one ends is = write-fault-of out status.NotListening _ one ends (λ same. cc) is
write-fault options out keeping (Mute ring) one ends is = ends.1
write-fault options out keeping (Serves ring connections Served) one ends is = write-fault-of out status.Done _ one ends.1 (λ same. cc) is
write-fault options out keeping (Serves ring connections Stopped) one ends is = write-fault-of out status.Done _ one ends.1 (λ same. cc) is
write-fault options out keeping (Serves ring connections NotTaken) one ends is = write-fault-of out status.NotListening _ one ends.1 (λ same. cc) is
write-fault options out keeping (Serves ring connections Journal) one ends is = write-fault-of out status.JournalFault _ one ends.1 (λ same. cc) is
write-fault options out keeping (Serves ring connections Full) one ends is = write-fault-of out status.JournalFault _ one ends.1 (λ same. cc) is
write-fault options out keeping (Serves ring connections Memory) one ends is = let both : status.Memory ≡ status.WriteFault = sym ends.1.0 ∙ is in cc

-- a status other than that of the course, or of a write fault, doesn't come
other-status : {O : Type 0} (out : Outside O) (due : Status) (text : List ℕ) (one which : Status) → Tells out due text one → (due ≡ which → ⊥) → (status.WriteFault ≡ which → ⊥) → one ≡ which → ⊥
other-status out due text one which (inl done) other never is = other (sym done.0 ∙ is)
other-status out due text one which (inr failed) other never is = never (sym failed.0 ∙ is)

-- nor where no server comes of the journal's file
shut-status : {O : Type 0} (out : Outside O) (keeping : Keeping) (one which : Status) → EndsShut out keeping one → (status.JournalFault ≡ which → ⊥) → (status.WriteFault ≡ which → ⊥) → (status.Memory ≡ which → ⊥) → one ≡ which → ⊥
shut-status out Unopened one which ends other never short is = ends
shut-status out Faulty one which ends other never short is = other-status out status.JournalFault _ one which ends other never is
shut-status out (Foreign at) one which ends other never short is = other-status out status.JournalFault _ one which ends other never is
shut-status out Starved one which ends other never short is = short (sym ends.0 ∙ is)
shut-status out (New seed) one which ends other never short is = ends
shut-status out (Old seed entries now) one which ends other never short is = ends

not-listening : {D N O : Type 0} (options : ServeOptions) (net : Part (List NetCall) N) (out : Outside O) (keeping : Keeping) (course : Course D) (one : Status) → CountsNet net course → Ends options out keeping course one
    → one ≡ status.NotListening → HadFault net
not-listening options net out keeping Unread one counted ends is = absurd (other-status out status.KeysRefused _ one status.NotListening ends (λ same. cc) (λ same. cc) is)
not-listening options net out keeping (Refused line) one counted ends is = absurd (other-status out status.KeysRefused _ one status.NotListening ends (λ same. cc) (λ same. cc) is)
not-listening options net out keeping Unbegun one counted ends is = let both : status.Memory ≡ status.NotListening = sym ends.0 ∙ is in cc
not-listening options net out keeping (Shut ring) one counted ends is = absurd (shut-status out keeping one status.NotListening ends (λ same. cc) (λ same. cc) (λ same. cc) is)
not-listening options net out keeping (Deaf ring) one counted ends is = rose-once (net.faults net.before) (net.faults net.after) counted
not-listening options net out keeping (Mute ring) one counted ends is = let both : status.WriteFault ≡ status.NotListening = sym ends.0 ∙ is in cc
not-listening options net out keeping (Serves ring connections Served) one counted ends is = absurd (other-status out status.Done _ one status.NotListening ends.1 (λ same. cc) (λ same. cc) is)
not-listening options net out keeping (Serves ring connections Stopped) one counted ends is = absurd (other-status out status.Done _ one status.NotListening ends.1 (λ same. cc) (λ same. cc) is)
not-listening options net out keeping (Serves ring connections NotTaken) one counted ends is = rose-once (net.faults net.before) (net.faults net.after) counted
not-listening options net out keeping (Serves ring connections Journal) one counted ends is = absurd (other-status out status.JournalFault _ one status.NotListening ends.1 (λ same. cc) (λ same. cc) is)
not-listening options net out keeping (Serves ring connections Full) one counted ends is = absurd (other-status out status.JournalFault _ one status.NotListening ends.1 (λ same. cc) (λ same. cc) is)
not-listening options net out keeping (Serves ring connections Memory) one counted ends is = let both : status.Memory ≡ status.NotListening = sym ends.1.0 ∙ is in cc

keys-refused : {D F O : Type 0} (options : ServeOptions) (files : Part FilesTold F) (out : Outside O) (keeping : Keeping) (course : Course D) (one : Status) → CountsFiles files course → Ends options out keeping course one
    → one ≡ status.KeysRefused → HadFault files ⊎ ((line : ℕ) × (course ≡ Refused line))
keys-refused options files out keeping Unread one counted ends is = inl (rose-once (files.faults files.before) (files.faults files.after) counted)
keys-refused options files out keeping (Refused line) one counted ends is = inr (line, refl)
keys-refused options files out keeping Unbegun one counted ends is = let both : status.Memory ≡ status.KeysRefused = sym ends.0 ∙ is in cc
keys-refused options files out keeping (Shut ring) one counted ends is = absurd (shut-status out keeping one status.KeysRefused ends (λ same. cc) (λ same. cc) (λ same. cc) is)
keys-refused options files out keeping (Deaf ring) one counted ends is = absurd (other-status out status.NotListening _ one status.KeysRefused ends (λ same. cc) (λ same. cc) is)
keys-refused options files out keeping (Mute ring) one counted ends is = let both : status.WriteFault ≡ status.KeysRefused = sym ends.0 ∙ is in cc
keys-refused options files out keeping (Serves ring connections Served) one counted ends is = absurd (other-status out status.Done _ one status.KeysRefused ends.1 (λ same. cc) (λ same. cc) is)
keys-refused options files out keeping (Serves ring connections Stopped) one counted ends is = absurd (other-status out status.Done _ one status.KeysRefused ends.1 (λ same. cc) (λ same. cc) is)
keys-refused options files out keeping (Serves ring connections NotTaken) one counted ends is = absurd (other-status out status.NotListening _ one status.KeysRefused ends.1 (λ same. cc) (λ same. cc) is)
keys-refused options files out keeping (Serves ring connections Journal) one counted ends is = absurd (other-status out status.JournalFault _ one status.KeysRefused ends.1 (λ same. cc) (λ same. cc) is)
keys-refused options files out keeping (Serves ring connections Full) one counted ends is = absurd (other-status out status.JournalFault _ one status.KeysRefused ends.1 (λ same. cc) (λ same. cc) is)
keys-refused options files out keeping (Serves ring connections Memory) one counted ends is = let both : status.Memory ≡ status.KeysRefused = sym ends.1.0 ∙ is in cc

-- the journal's fault

broken-kept : {D K : Type 0} (disks : Part NamesTold K) (ring : List RingKey) (connections : List (Connection D Registers)) (keeping : Keeping) → IsOpen keeping
    → CountsDisks disks keeping (Serves ring connections Journal) → HadFault disks
broken-kept disks ring connections Unopened opens counted = absurd opens
broken-kept disks ring connections Faulty opens counted = absurd opens
broken-kept disks ring connections (Foreign at) opens counted = absurd opens
broken-kept disks ring connections Starved opens counted = absurd opens
broken-kept disks ring connections (New seed) opens counted = rose-once (disks.faults disks.before) (disks.faults disks.after) counted
broken-kept disks ring connections (Old seed entries now) opens counted = rose-once (disks.faults disks.before) (disks.faults disks.after) counted

broken-run : {D K : Type 0} (drawing : Drawing D) (options : ServeOptions) (journal : Option (List ℕ)) (disks : Part NamesTold K) (moments : Moments) (draws : Draws D) (keeping : Keeping) (ring : List RingKey) (connections : List (Connection D Registers))
    → GoesBy drawing options journal disks moments draws keeping (Serves ring connections Journal) → CountsDisks disks keeping (Serves ring connections Journal) → HadFault disks
broken-run drawing options None disks moments draws keeping ring connections goes counted = absurd (goes.2 tt)
broken-run drawing options (Some name) disks moments draws keeping ring connections goes counted = broken-kept disks ring connections keeping goes.0.opened counted

-- where no server comes of the file
shut-by : {D K O : Type 0} (disks : Part NamesTold K) (out : Outside O) (keeping : Keeping) (course : Course D) (one : Status) → EndsShut out keeping one → CountsDisks disks keeping course
    → one ≡ status.JournalFault → HadFault disks ⊎ ((at : ℕ) × (keeping ≡ Foreign at))
shut-by disks out Unopened course one ends counted is = absurd ends
shut-by disks out Faulty course one ends counted is = inl (rose-once (disks.faults disks.before) (disks.faults disks.after) counted)
shut-by disks out (Foreign at) course one ends counted is = inr (at, refl)
shut-by disks out Starved course one ends counted is = let both : status.Memory ≡ status.JournalFault = sym ends.0 ∙ is in cc
shut-by disks out (New seed) course one ends counted is = absurd ends
shut-by disks out (Old seed entries now) course one ends counted is = absurd ends

first-two : {P Q : Type 0} (R : Type 0) → P ⊎ Q → P ⊎ Q ⊎ R
first-two R (inl p) = inl p
first-two R (inr q) = inr (inl q)

no-journal : {D K O : Type 0} (drawing : Drawing D) (options : ServeOptions) (disks : Part NamesTold K) (moments : Moments) (draws : Draws D) (out : Outside O) (keeping : Keeping) (course : Course D) (one : Status)
    → GoesBy drawing options options.journal disks moments draws keeping course → CountsDisks disks keeping course → Ends options out keeping course one
    → one ≡ status.JournalFault → HadFault disks ⊎ ((at : ℕ) × (keeping ≡ Foreign at)) ⊎ IsFull course
no-journal drawing options disks moments draws out keeping Unread one goes counted ends is = absurd (other-status out status.KeysRefused _ one status.JournalFault ends (λ same. cc) (λ same. cc) is)
no-journal drawing options disks moments draws out keeping (Refused line) one goes counted ends is = absurd (other-status out status.KeysRefused _ one status.JournalFault ends (λ same. cc) (λ same. cc) is)
no-journal drawing options disks moments draws out keeping Unbegun one goes counted ends is = let both : status.Memory ≡ status.JournalFault = sym ends.0 ∙ is in cc
no-journal drawing options disks moments draws out keeping (Shut ring) one goes counted ends is = first-two ⊥ (shut-by disks out keeping (Shut ring) one ends counted is)
no-journal drawing options disks moments draws out keeping (Deaf ring) one goes counted ends is = absurd (other-status out status.NotListening _ one status.JournalFault ends (λ same. cc) (λ same. cc) is)
no-journal drawing options disks moments draws out keeping (Mute ring) one goes counted ends is = let both : status.WriteFault ≡ status.JournalFault = sym ends.0 ∙ is in cc
no-journal drawing options disks moments draws out keeping (Serves ring connections Served) one goes counted ends is = absurd (other-status out status.Done _ one status.JournalFault ends.1 (λ same. cc) (λ same. cc) is)
no-journal drawing options disks moments draws out keeping (Serves ring connections Stopped) one goes counted ends is = absurd (other-status out status.Done _ one status.JournalFault ends.1 (λ same. cc) (λ same. cc) is)
no-journal drawing options disks moments draws out keeping (Serves ring connections NotTaken) one goes counted ends is = absurd (other-status out status.NotListening _ one status.JournalFault ends.1 (λ same. cc) (λ same. cc) is)
no-journal drawing options disks moments draws out keeping (Serves ring connections Journal) one goes counted ends is =
    inl (broken-run drawing options options.journal disks moments draws keeping ring connections goes counted)
no-journal drawing options disks moments draws out keeping (Serves ring connections Full) one goes counted ends is = inr (inr tt)
no-journal drawing options disks moments draws out keeping (Serves ring connections Memory) one goes counted ends is = let both : status.Memory ≡ status.JournalFault = sym ends.1.0 ∙ is in cc

-- ---- nothing but a fault or want of memory keeps it from being done

done-or-fault : {O : Type 0} (out : Outside O) (text : List ℕ) (one : Status) → (HadFault out → ⊥) → Tells out status.Done text one → (one ≡ status.Done) ⊎ (one ≡ status.Memory)
done-or-fault out text one none (inl done) = inl done.0
done-or-fault out text one none (inr failed) = absurd (none failed.1)

shut-or-short : {D K O : Type 0} (disks : Part NamesTold K) (out : Outside O) (keeping : Keeping) (course : Course D) (one : Status) → EndsShut out keeping one → CountsDisks disks keeping course
    → (HadFault disks → ⊥) → ((at : ℕ) → keeping ≡ Foreign at → ⊥) → one ≡ status.Memory
shut-or-short disks out Unopened course one ends counted call own = absurd ends
shut-or-short disks out Faulty course one ends counted call own = absurd (call (rose-once (disks.faults disks.before) (disks.faults disks.after) counted))
shut-or-short disks out (Foreign at) course one ends counted call own = absurd (own at refl)
shut-or-short disks out Starved course one ends counted call own = ends.0
shut-or-short disks out (New seed) course one ends counted call own = absurd ends
shut-or-short disks out (Old seed entries now) course one ends counted call own = absurd ends

-- no fault of an outside is counted, the file is empty or a journal, and the journal has room
record IsCalm {F N O K D : Type 0} (files : Part FilesTold F) (net : Part (List NetCall) N) (out : Outside O) (disks : Part NamesTold K) (keeping : Keeping) (course : Course D) : Type 0 where
  pub file : HadFault files → ⊥
  pub call : HadFault net → ⊥
  pub write : HadFault out → ⊥
  pub disk : HadFault disks → ⊥
  pub own : (at : ℕ) → keeping ≡ Foreign at → ⊥
  pub room : IsFull course → ⊥

done-without-fault : {D F N O K : Type 0} (drawing : Drawing D) (options : ServeOptions) (files : Part FilesTold F) (net : Part (List NetCall) N) (out : Outside O) (moments : Moments) (draws : Draws D) (disks : Part NamesTold K) (keeping : Keeping) (course : Course D) (one : Status)
    → CountsFiles files course → CountsNet net course → GoesBy drawing options options.journal disks moments draws keeping course → CountsDisks disks keeping course → Ends options out keeping course one → ((line : ℕ) → course ≡ Refused line → ⊥)
    → IsCalm files net out disks keeping course → (one ≡ status.Done) ⊎ (one ≡ status.Memory)
done-without-fault drawing options files net out moments draws disks keeping Unread one read called goes counted ends ring calm = absurd (calm.file (rose-once (files.faults files.before) (files.faults files.after) read))
done-without-fault drawing options files net out moments draws disks keeping (Refused line) one read called goes counted ends ring calm = absurd (ring line refl)
done-without-fault drawing options files net out moments draws disks keeping Unbegun one read called goes counted ends ring calm = inr ends.0
done-without-fault drawing options files net out moments draws disks keeping (Shut own) one read called goes counted ends ring calm = inr (shut-or-short disks out keeping (Shut own) one ends counted calm.disk calm.own)
done-without-fault drawing options files net out moments draws disks keeping (Deaf own) one read called goes counted ends ring calm = absurd (calm.call (rose-once (net.faults net.before) (net.faults net.after) called))
done-without-fault drawing options files net out moments draws disks keeping (Mute own) one read called goes counted ends ring calm = absurd (calm.write ends.1)
done-without-fault drawing options files net out moments draws disks keeping (Serves own connections Served) one read called goes counted ends ring calm = done-or-fault out _ one calm.write ends.1
done-without-fault drawing options files net out moments draws disks keeping (Serves own connections Stopped) one read called goes counted ends ring calm = done-or-fault out _ one calm.write ends.1
done-without-fault drawing options files net out moments draws disks keeping (Serves own connections NotTaken) one read called goes counted ends ring calm = absurd (calm.call (rose-once (net.faults net.before) (net.faults net.after) called))
done-without-fault drawing options files net out moments draws disks keeping (Serves own connections Journal) one read called goes counted ends ring calm =
    absurd (calm.disk (broken-run drawing options options.journal disks moments draws keeping own connections goes counted))
done-without-fault drawing options files net out moments draws disks keeping (Serves own connections Full) one read called goes counted ends ring calm = absurd (calm.room tt)
done-without-fault drawing options files net out moments draws disks keeping (Serves own connections Memory) one read called goes counted ends ring calm = inr ends.1.0

complete : {D F N O K : Type 0} (drawing : Drawing D) (options : ServeOptions) (files : Part FilesTold F) (net : Part (List NetCall) N) (out : Outside O) (moments : Moments) (draws : Draws D) (disks : Part NamesTold K) (keeping : Keeping) (course : Course D) (one : Status) (told : Option FilesTold)
    → CountsFiles files course → CountsNet net course → GoesBy drawing options options.journal disks moments draws keeping course → CountsDisks disks keeping course → Ends options out keeping course one
    → IfSome told (λ told. (text : List ℕ) (ring : List RingKey) (line : ℕ) → IsFileOf told.files options.keys text → IsRingOf text ring → course ≡ Refused line → ⊥)
    → IfSome told (λ told. (text : List ℕ) (ring : List RingKey) → IsFileOf told.files options.keys text → IsRingOf text ring
    → (HadFault files → ⊥) → (HadFault net → ⊥) → (HadFault out → ⊥) → (HadFault disks → ⊥) → ((at : ℕ) → keeping ≡ Foreign at → ⊥) → (IsFull course → ⊥) → (one ≡ status.Done) ⊎ (one ≡ status.Memory))
complete drawing options files net out moments draws disks keeping course one None read called goes counted ends taken = tt
complete drawing options files net out moments draws disks keeping course one (Some told) read called goes counted ends taken = λ text ring is its file call write disk own room.
    done-without-fault drawing options files net out moments draws disks keeping course one read called goes counted ends (λ line. taken text ring line is its)
    (record { file = file; call = call; write = write; disk = disk; own = own; room = room })

-- ---- no more connections are asked for than there should be

noted-length : {D : Type 0} (connections : List (Connection D Registers)) (calls : List NetCall) → AreNoted connections calls → length calls ≡ length connections
noted-length [] calls noted = ap length noted
noted-length (last ∷ earlier) calls noted =
    let before = noted-length earlier noted.0 noted.3 in
    ap length noted.2 ∙ length-append noted.0 (noted.1 ∷ []) ∙ omega (arith, before)

few-accepts : {D : Type 0} (conns : ℕ) (ending : Ending) (connections : List (Connection D Registers)) (calls : List NetCall) → EndsBy conns ending connections → AreNotedBy ending connections calls → length calls ≤ conns
few-accepts conns Served connections calls ended noted = omega (arith, noted-length connections calls noted, ended.1)
few-accepts conns NotTaken connections calls ended noted =
    omega (arith, ap length noted.2, length-append noted.0 (Accept Failed ∷ []), noted-length connections noted.0 noted.1, ended.1)
few-accepts conns Stopped [] calls ended noted = absurd ended
few-accepts conns Stopped (last ∷ earlier) calls ended noted = omega (arith, noted-length (last ∷ earlier) calls noted, ended.2)
few-accepts conns Journal [] calls ended noted = absurd ended
few-accepts conns Journal (last ∷ earlier) calls ended noted = omega (arith, noted-length (last ∷ earlier) calls noted, ended.2)
few-accepts conns Full [] calls ended noted = absurd ended
few-accepts conns Full (last ∷ earlier) calls ended noted = omega (arith, noted-length (last ∷ earlier) calls noted, ended.2)
few-accepts conns Memory [] calls ended noted = absurd ended
few-accepts conns Memory (last ∷ earlier) calls ended noted = omega (arith, noted-length (last ∷ earlier) calls noted, ended.2)

-- how many connections there were
few-served : {D K : Type 0} (drawing : Drawing D) (options : ServeOptions) (journal : Option (List ℕ)) (disks : Part NamesTold K) (moments : Moments) (draws : Draws D) (keeping : Keeping) (ring : List RingKey) (connections : List (Connection D Registers)) (ending : Ending)
    → GoesBy drawing options journal disks moments draws keeping (Serves ring connections ending) → EndsBy options.conns ending connections
few-served drawing options None disks moments draws keeping ring connections ending goes = goes.1.ended
few-served drawing options (Some name) disks moments draws keeping ring connections ending goes = goes.1.ended

few-made : {D K : Type 0} (drawing : Drawing D) (options : ServeOptions) (disks : Part NamesTold K) (moments : Moments) (draws : Draws D) (keeping : Keeping) (course : Course D) (made : List NetCall) → Makes options.port course made
    → GoesBy drawing options options.journal disks moments draws keeping course → length made ≤ 1 + options.conns
few-made drawing options disks moments draws keeping Unread made is goes = omega (arith, ap length is)
few-made drawing options disks moments draws keeping (Refused line) made is goes = omega (arith, ap length is)
few-made drawing options disks moments draws keeping Unbegun made is goes = omega (arith, ap length is)
few-made drawing options disks moments draws keeping (Shut ring) made is goes = omega (arith, ap length is)
few-made drawing options disks moments draws keeping (Deaf ring) made is goes = omega (arith, ap length is)
few-made drawing options disks moments draws keeping (Mute ring) made is goes = omega (arith, ap length is)
few-made drawing options disks moments draws keeping (Serves ring connections ending) made is goes =
    omega (arith, ap length is.1, few-accepts options.conns ending connections is.0 (few-served drawing options options.journal disks moments draws keeping ring connections ending goes) is.2)

few-calls : (first last : Option (List NetCall)) (most : ℕ) (P : List NetCall → Type 0) → ((made : List NetCall) → P made → length made ≤ most)
    → IfSome last (λ after. IsSomeAnd first (λ before. (made : List NetCall) × (after ≡ before ++ made) × P made))
    → IfSome last (λ after. IsSomeAnd first (λ before. length after ≤ length before + most))
few-calls first None most P few made = tt
few-calls None (Some last) most P few made = absurd made
few-calls (Some first) (Some last) most P few made = omega (arith, ap length made.1, length-append first made.0, few made.0 made.2)

-- ---- none is asked for unless the first line is written

first-made : {D O : Type 0} (options : ServeOptions) (out : Outside O) (keeping : Keeping) (course : Course D) (one : Status) (made : List NetCall) → Makes options.port course made → Ends options out keeping course one
    → 1 < length made → WritesFirst out (listening options.port)
first-made options out keeping Unread one made is ends more = absurd (omega (arith, more, ap length is))
first-made options out keeping (Refused line) one made is ends more = absurd (omega (arith, more, ap length is))
first-made options out keeping Unbegun one made is ends more = absurd (omega (arith, more, ap length is))
first-made options out keeping (Shut ring) one made is ends more = absurd (omega (arith, more, ap length is))
first-made options out keeping (Deaf ring) one made is ends more = absurd (omega (arith, more, ap length is))
first-made options out keeping (Mute ring) one made is ends more = absurd (omega (arith, more, ap length is))
first-made options out keeping (Serves ring connections ending) one made is ends more = ends.0

first-called : (first last : Option (List NetCall)) (P : List NetCall → Type 0) (W : Type 0) → ((made : List NetCall) → P made → 1 < length made → W)
    → IfSome last (λ after. IsSomeAnd first (λ before. (made : List NetCall) × (after ≡ before ++ made) × P made))
    → IfSome last (λ after. IsSomeAnd first (λ before. length before + 1 < length after → W))
first-called first None P W written made = tt
first-called None (Some last) P W written made = absurd made
first-called (Some first) (Some last) P W written made = λ more. written made.0 made.2 (omega (arith, more, ap length made.1, length-append first made.0))

-- ---- all of it

pub run-of : {F N O D K : Type 0} (drawing : Drawing D) (options : ServeOptions) (files : Part FilesTold F) (net : Part (List NetCall) N) (out : Outside O) (moments : Moments) (draws : Draws D) (disks : Part NamesTold K) (one : Status) (course : Course D) (keeping : Keeping)
    → Reads options.keys files course → Calls options.port net course → GoesBy drawing options options.journal disks moments draws keeping course → CountsDisks disks keeping course → (IsSome (disks.told disks.before) → IsSome (disks.told disks.after)) → Ends options out keeping course one
    → (IsFull course → IfSome options.journal (λ name. IfTold disks (λ before after. HoldsSome name IsFilled after)))
    → ServeRun drawing options files net out moments draws disks one
run-of drawing options files net out moments draws disks one course keeping reads calls goes counts tells ends full = record {
  course = course;
  keeping = keeping;
  reads = reads;
  calls = calls;
  serves = goes;
  counts = counts;
  tells = tells;
  ends = ends;
  full = full;
  few = few-calls (net.told net.before) (net.told net.after) (1 + options.conns) (Makes options.port course) (λ made is. few-made drawing options disks moments draws keeping course made is goes) calls.made;
  first_line = first-called (net.told net.before) (net.told net.after) (Makes options.port course) (WritesFirst out (listening options.port)) (λ made is. first-made options out keeping course one made is ends) calls.made;
  write_fault = write-fault options out keeping course one ends;
  not_listening = not-listening options net out keeping course one calls.counted ends;
  keys_refused = keys-refused options files out keeping course one reads.counted ends;
  journal_fault = no-journal drawing options disks moments draws out keeping course one goes counts ends;
  judges = judged drawing options options.journal disks out moments draws keeping course one goes tells ends (no-journal drawing options disks moments draws out keeping course one goes counts ends);
  completeness = complete drawing options files net out moments draws disks keeping course one (files.told files.before) reads.counted calls.counted goes counts ends reads.taken;
}

-- ---- the file's name

pub keys-named : (told : Option FilesTold) (name own : List ℕ) (result : Result (List RingKey) KeysFault) → name ≡ own → GivesBy told name result → GivesBy told own result
keys-named told name own result is has = subst (λ (some : List ℕ). GivesBy told some result) is has

pub refused-named : (told : Option FilesTold) (name own : List ℕ) (line : ℕ) → name ≡ own → HasText told name (λ text. IsRefusedAt text line) → HasText told own (λ text. IsRefusedAt text line)
refused-named told name own line is has = subst (λ (some : List ℕ). HasText told some (λ text. IsRefusedAt text line)) is has

pub asks-named : (before after : Option FilesTold) (name own : List ℕ) → name ≡ own → IfSome after (λ last. IsSomeAnd before (λ first. AsksOnce name first last))
    → IfSome after (λ last. IsSomeAnd before (λ first. AsksOnce own first last))
asks-named before after name own is asked = subst (λ (some : List ℕ). IfSome after (λ last. IsSomeAnd before (λ first. AsksOnce some first last))) is asked

-- ---- the ways of a run

pub run-with : {F N O D K : Type 0} (drawing : Drawing D) (options : ServeOptions) (files : Part FilesTold F) (net : Part (List NetCall) N) (out : Outside O) (moments : Moments) (draws : Draws D) (disks : Part NamesTold K) (one : Status) (ring : List RingKey)
    → OneReading → GivesBy (files.told files.before) options.keys (Ok ring) → IfTold files (AsksOnce options.keys) → FailsNever files → RunsWith drawing options ring net out moments draws disks one
    → ServeRun drawing options files net out moments draws disks one
run-with drawing options files net out moments draws disks one ring reading has asked never runs =
    run-of drawing options files net out moments draws disks one runs.course runs.keeping (reads-with options.keys files ring runs.course reading runs.own has asked never) runs.calls runs.goes runs.counts runs.tells runs.ends runs.full

-- before the ring is there nothing else is done
pub idle-unread : {D K : Type 0} (drawing : Drawing D) (options : ServeOptions) (journal : Option (List ℕ)) (told : K → Option NamesTold) (faults : K → ℕ) (disks : K) (given : Option (List ℕ)) (draw : D)
    → GoesBy drawing options journal (record { told = told; faults = faults; before = disks; after = disks }) (record { before = given; after = given }) (record { before = draw; after = draw }) Unopened Unread
idle-unread drawing options None told faults disks given draw = (refl, (refl, refl), λ broken. broken)
idle-unread drawing options (Some name) told faults disks given draw = (refl, (refl, refl))

pub idle-refused : {D K : Type 0} (drawing : Drawing D) (options : ServeOptions) (journal : Option (List ℕ)) (told : K → Option NamesTold) (faults : K → ℕ) (disks : K) (given : Option (List ℕ)) (draw : D) (line : ℕ)
    → GoesBy drawing options journal (record { told = told; faults = faults; before = disks; after = disks }) (record { before = given; after = given }) (record { before = draw; after = draw }) Unopened (Refused line)
idle-refused drawing options None told faults disks given draw line = (refl, (refl, refl), λ broken. broken)
idle-refused drawing options (Some name) told faults disks given draw line = (refl, (refl, refl))

pub idle-unbegun : {D K : Type 0} (drawing : Drawing D) (options : ServeOptions) (journal : Option (List ℕ)) (told : K → Option NamesTold) (faults : K → ℕ) (disks : K) (given : Option (List ℕ)) (draw : D)
    → GoesBy drawing options journal (record { told = told; faults = faults; before = disks; after = disks }) (record { before = given; after = given }) (record { before = draw; after = draw }) Unopened Unbegun
idle-unbegun drawing options None told faults disks given draw = (refl, (refl, refl), λ broken. broken)
idle-unbegun drawing options (Some name) told faults disks given draw = (refl, (refl, refl))

pub run-unread : {F N O D K : Type 0} (drawing : Drawing D) (options : ServeOptions) (files : Part FilesTold F) (told : N → Option (List NetCall)) (faults : N → ℕ) (net : N) (out : Outside O) (given : Option (List ℕ)) (draw : D) (tells : K → Option NamesTold) (counts : K → ℕ) (disks : K) (one : Status)
    → IfTold files (AsksOnce options.keys) → FailsOnce files → Ends {D = D} {O = O} options out Unopened Unread one
    → ServeRun drawing options files (record { told = told; faults = faults; before = net; after = net }) out (record { before = given; after = given }) (record { before = draw; after = draw }) (record { told = tells; faults = counts; before = disks; after = disks }) one
run-unread {F} {N} {O} {D} {K} drawing options files told faults net out given draw tells counts disks one asked once ends =
    run-of drawing options files (record { told = told; faults = faults; before = net; after = net }) out (record { before = given; after = given }) (record { before = draw; after = draw }) (record { told = tells; faults = counts; before = disks; after = disks }) one Unread Unopened
    (reads-unread {D = D} options.keys files asked once) (calls-unread {D = D} options.port told faults net) (idle-unread drawing options options.journal tells counts disks given draw) refl (λ some. some) ends (λ none. absurd none)

pub run-refused : {F N O D K : Type 0} (drawing : Drawing D) (options : ServeOptions) (files : Part FilesTold F) (told : N → Option (List NetCall)) (faults : N → ℕ) (net : N) (out : Outside O) (given : Option (List ℕ)) (draw : D) (tells : K → Option NamesTold) (counts : K → ℕ) (disks : K) (one : Status) (line : ℕ)
    → OneReading → HasText (files.told files.before) options.keys (λ text. IsRefusedAt text line) → IfTold files (AsksOnce options.keys) → FailsNever files → Ends {D = D} {O = O} options out Unopened (Refused line) one
    → ServeRun drawing options files (record { told = told; faults = faults; before = net; after = net }) out (record { before = given; after = given }) (record { before = draw; after = draw }) (record { told = tells; faults = counts; before = disks; after = disks }) one
run-refused {F} {N} {O} {D} {K} drawing options files told faults net out given draw tells counts disks one line reading has asked never ends =
    run-of drawing options files (record { told = told; faults = faults; before = net; after = net }) out (record { before = given; after = given }) (record { before = draw; after = draw }) (record { told = tells; faults = counts; before = disks; after = disks }) one (Refused line) Unopened
    (reads-refused {D = D} options.keys files line reading has asked never) (calls-refused {D = D} options.port line told faults net) (idle-refused drawing options options.journal tells counts disks given draw line) refl (λ some. some) ends (λ none. absurd none)

pub run-unbegun : {F N O D K : Type 0} (drawing : Drawing D) (options : ServeOptions) (files : Part FilesTold F) (told : N → Option (List NetCall)) (faults : N → ℕ) (net : N) (out : Outside O) (given : Option (List ℕ)) (draw : D) (tells : K → Option NamesTold) (counts : K → ℕ) (disks : K) (one : Status)
    → IfTold files (AsksOnce options.keys) → FailsNever files → Ends {D = D} {O = O} options out Unopened Unbegun one
    → ServeRun drawing options files (record { told = told; faults = faults; before = net; after = net }) out (record { before = given; after = given }) (record { before = draw; after = draw }) (record { told = tells; faults = counts; before = disks; after = disks }) one
run-unbegun {F} {N} {O} {D} {K} drawing options files told faults net out given draw tells counts disks one asked never ends =
    run-of drawing options files (record { told = told; faults = faults; before = net; after = net }) out (record { before = given; after = given }) (record { before = draw; after = draw }) (record { told = tells; faults = counts; before = disks; after = disks }) one Unbegun Unopened
    (reads-unbegun {D = D} options.keys files asked never) (calls-none {D = D} options.port told faults net) (idle-unbegun drawing options options.journal tells counts disks given draw) refl (λ some. some) ends (λ none. absurd none)
