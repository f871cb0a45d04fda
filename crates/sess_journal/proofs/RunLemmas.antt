-- A run of a desk: its begin, its end, and both in a row.
use Rattle.std.proofs.Common.{◌≡◌, ◌<◌, ℕ, Option, Some, None, Result, Err, List, [], ◌∷◌, ◌++◌, ◌⊎◌, inl, inr, length, max, option_map, sym, ap, subst, refl, ◌∙◌, append_assoc, arith}
use Rattle.std.specs.Prelude.{IfSome, IsSomeAnd}
use Rattle.disks.specs.Told.{DiskTold}
use Rattle.auth_keys.specs.declared.ring.RingKey.{RingKey}
use Rattle.envelope.specs.Packet.{Lock}
use Rattle.regs_service.specs.Served.{Step}
use Rattle.sess_records.specs.declared.records.Event.TheVariants.{Begin, Ran}
use Rattle.sess_records.specs.declared.records.Record.{Record}
use Rattle.sess_records.specs.Format.{Spells}
use Rattle.sess_records.specs.Seen.{File}
use Rattle.sess_records.specs.Standing.{SpellsSome}
use Rattle.server_core.specs.declared.desk.DeskFault.{DeskFault}
use Rattle.server_core.specs.declared.desk.DeskFault.TheVariants as faults
use Rattle.server_core.specs.declared.effects.Effects.{Effects}
use Rattle.server_core.specs.Desks.{Does}
use Rattle.server_rules.specs.Answer.{Answer}
use Rattle.server_rules.specs.Server.{Server}
use Rattle.server_session.specs.Says.{Keys}
use Rattle.waits.specs.declared.job.Job.{Job}
use Rattle.waits.specs.Jobs.{ready_count}
use Rattle.sess_journal.specs.Keeping.{Added, Adds, Book, HasBegun, Journals, KeepsFor, LeavesSome, Seen, disk_by, entry_at, reply_by}
use Rattle.sess_journal.specs.Replay.{Bases, LeadsTo, Reached, Replays, at_first}
use Rattle.sess_journal.specs.Staging.{Stage}
use Rattle.sess_journal.proofs.DeskLemmas.{basis, its, plays_at}
use Rattle.sess_journal.proofs.NextLemmas.{replays_more}
use Rattle.sess_journal.proofs.TraitLemmas.{err_map, ok_map}

-- ---- the reply

some_is : {X : Type 0} (one other : X) → Some one ≡ Some other → one ≡ other
some_is one other is = cc

-- what the service foresees for the request of a job is its reply to it
pub reply_is : {V : Type 0} (serve : Step V) (service : V) (found : Option Job) (request : List ℕ) → Some request ≡ option_map (λ (job : Job). job.request) found
    → (serve service request).0 ≡ reply_by serve service found
reply_is serve service None request is = let e : Some request ≡ None = is in absurd (cc)
reply_is serve service (Some job) request is = ap (λ (r : List ℕ). (serve service r).0) (some_is request job.request is)

-- the record of a reply
pub same_ran : (one other at there : ℕ) (reply due : List ℕ) → one ≡ other → at ≡ there → reply ≡ due
    → (let a : Record = record { moment = one; place = at; event = Ran reply } in a) ≡ (let b : Record = record { moment = other; place = there; event = Ran due } in b)
same_ran one other at there reply due moment place is = λ i. record { moment = moment i; place = place i; event = Ran (is i) }

-- ---- the begin

module _ {K S D : Type 0} {bases : Bases S D} {told : K → Option DiskTold} {entries : List Record} {old : Seen K S D} {server : Server} {moment : ℕ} (stage : Stage bases told entries old server moment)
    (job : ℕ) (below : job < ready_count server.jobs) where
  abbrev begin : Record
  begin = entry_at (basis stage).place_of old moment (Begin job)

  abbrev pub begun : Reached
  begun = record (its stage).reached { begun = Some job }

  -- its record leads there
  pub begin_leads : LeadsTo (basis stage) (max old.latest moment) ((basis stage).place_of old.draw) (Begin job) (its stage).reached begun
  begin_leads = (subst (λ (s : Server). job < ready_count s.jobs) (its stage).same below, refl)

  -- it is there
  pub begins_at : (book : Book K) (added : File K) → book.journal ≡ Some added → Added told (its stage).file begin added
      → HasBegun bases told (entries ++ begin ∷ []) job (record old { book = book }) server
  begins_at book added opened adds =
      record {
        keeps = record {
          stands = stage.keeps.stands;
          recorded = record {
            file = added;
            opened = opened;
            holds = adds.holds entries (its stage).holds;
            reached = begun;
            replays =
                subst (λ (s : List ℕ). Replays (bases old.server.seal s) (entries ++ begin ∷ []) at_first begun) (sym adds.seed)
                (replays_more (basis stage) entries begin (its stage).reached begun (its stage).replays (plays_at stage (Begin job) begun begin_leads));
            same = (its stage).same;
            later = (its stage).later;
            latest_is = (its stage).latest_is;
            place = (its stage).place;
            drawn = subst (λ (s : List ℕ). old.draw ≡ (bases old.server.seal s).at (its stage).reached.place) (sym adds.seed) (its stage).drawn;
          };
        };
        begun = refl;
      }

-- what the begin of a run comes to, by the desk before
abbrev pub BeginJournals : {K S D A : Type 0} → Bases S D → (K → Option DiskTold) → (D → ℕ) → ℕ → List Record → Server → ℕ → Seen K S D → Result A DeskFault → Seen K S D → Type 0
BeginJournals bases told place_of job entries server now new result old =
    Journals bases told entries (entry_at place_of old now (Begin job) ∷ []) [] server old new result (λ seed more.
    (more ≡ entry_at place_of old now (Begin job) ∷ []) × HasBegun bases told (entries ++ entry_at place_of old now (Begin job) ∷ []) job new server)

-- what its end comes to
abbrev pub EndJournals : {K S D V : Type 0} → Bases S D → (K → Option DiskTold) → (D → ℕ) → Lock → (S → List RingKey) → (D → Keys → Answer D) → (D → Keys → V) → List ℕ → List Record → Server → ℕ → V → Seen K S D
    → Result Effects DeskFault → Seen K S D → Type 0
EndJournals bases told place_of lock ring_of answer after reply entries server now service new result old =
    Journals bases told entries (entry_at place_of old now (Ran reply) ∷ []) [] server old new result (λ effects more.
    (more ≡ entry_at place_of old now (Ran reply) ∷ [])
    × ((ring : Keys) → Does (KeepsFor bases told (entries ++ more) new) lock (ring_of old.server.seal) new.draw effects (answer old.draw ring) × (service ≡ after old.draw ring)))

-- and both
abbrev pub RunJournals : {K S D V : Type 0} → Bases S D → (K → Option DiskTold) → (D → ℕ) → Lock → (S → List RingKey) → (D → Keys → Answer D) → (D → Keys → V) → ℕ → List ℕ → List Record → Server → ℕ → V → Seen K S D
    → Result Effects DeskFault → Seen K S D → Type 0
RunJournals bases told place_of lock ring_of answer after job reply entries server now service new result old =
    Journals bases told entries (entry_at place_of old now (Begin job) ∷ entry_at place_of old now (Ran reply) ∷ []) (entry_at place_of old now (Begin job) ∷ []) server old new result (λ effects more.
    (more ≡ entry_at place_of old now (Begin job) ∷ entry_at place_of old now (Ran reply) ∷ [])
    × ((ring : Keys) → Does (KeepsFor bases told (entries ++ more) new) lock (ring_of old.server.seal) new.draw effects (answer old.draw ring) × (service ≡ after old.draw ring)))

-- ---- calls in a row

-- some of the first records, and some of the others
first_some : (seed : List ℕ) (entries one two : List Record) (left : List ℕ) → SpellsSome seed entries one left → SpellsSome seed entries (one ++ two) left
first_some seed entries one two left h =
    record { front = h.front; back = h.back ++ two; split = ap (λ (l : List Record). l ++ two) h.split ∙ append_assoc h.front h.back two; spells = h.spells }

then_some : (seed : List ℕ) (entries one two : List Record) (left : List ℕ) → SpellsSome seed (entries ++ one) two left → SpellsSome seed entries (one ++ two) left
then_some seed entries one two left h =
    record {
      front = one ++ h.front;
      back = h.back;
      split = ap (λ (l : List Record). one ++ l) h.split ∙ sym (append_assoc one h.front h.back);
      spells = subst (λ (l : List Record). Spells seed l left) (append_assoc entries one h.front) h.spells;
    }

either_map : {A B C E : Type 0} → (A → C) → (B → E) → A ⊎ B → C ⊎ E
either_map f h (inl a) = inl (f a)
either_map f h (inr b) = inr (h b)

pub either_so : {A B C : Type 0} → (A → C) → (B → C) → A ⊎ B → C
either_so f h (inl a) = f a
either_so f h (inr b) = h b

leaves_up : (seed : List ℕ) (entries one two : List Record) (was between is : Option DiskTold)
    → IfSome was (λ w. IsSomeAnd between (λ m. LeavesSome w m (SpellsSome seed entries one)))
    → IfSome between (λ m. IsSomeAnd is (λ i. LeavesSome m i (SpellsSome seed (entries ++ one) two)))
    → IfSome was (λ w. IsSomeAnd is (λ i. LeavesSome w i (SpellsSome seed entries (one ++ two))))
leaves_up seed entries one two None between is h k = tt
leaves_up seed entries one two (Some was) None is h k = absurd h
leaves_up seed entries one two (Some was) (Some between) None h k = absurd k
leaves_up seed entries one two (Some was) (Some between) (Some is) h k =
    record {
      each = λ left may. either_so (λ before. first_some seed entries one two left (h.each left before)) (then_some seed entries one two left) (k.earlier (length was.acts) left may);
      earlier =
          λ since left may.
          either_so (λ before. either_map (λ a. a) (first_some seed entries one two left) (h.earlier since left before)) (λ some. inr (then_some seed entries one two left some))
          (k.earlier since left may);
      read = then_some seed entries one two is.contents k.read;
      longer = omega (arith, h.longer, k.longer);
    }

module _ {K S D : Type 0} (bases : Bases S D) (told : K → Option DiskTold) (entries : List Record) (old mid new : Seen K S D) where
  -- records are added, and others behind them
  pub adds_up : (one two : List Record) (a : Adds bases told entries one old mid) (b : Adds bases told (entries ++ one) two mid new) → b.file.seed ≡ a.file.seed
      → mid.server.seal ≡ old.server.seal → Adds bases told entries (one ++ two) old new
  adds_up one two a b seed seal =
      let same : b.file.disk ≡ a.disk = some_is b.file.disk a.disk (sym (ap (λ (j : Option (File K)). disk_by j mid.book.lost) b.opened) ∙ a.stands) in
      let then : IfSome (told a.disk) (λ m. IsSomeAnd (told b.disk) (λ i. LeavesSome m i (SpellsSome a.file.seed (entries ++ one) two))) =
      subst (λ (d : K). IfSome (told d) (λ m. IsSomeAnd (told b.disk) (λ i. LeavesSome m i (SpellsSome a.file.seed (entries ++ one) two)))) same
      (subst (λ (s : List ℕ). IfSome (told b.file.disk) (λ m. IsSomeAnd (told b.disk) (λ i. LeavesSome m i (SpellsSome s (entries ++ one) two)))) seed b.leaves) in
      let sealed : Replays (bases old.server.seal b.file.seed) ((entries ++ one) ++ two) at_first b.reached =
      subst (λ (s : S). Replays (bases s b.file.seed) ((entries ++ one) ++ two) at_first b.reached) seal b.replays in
      record {
        file = a.file;
        opened = a.opened;
        disk = b.disk;
        stands = b.stands;
        reached = b.reached;
        replays =
            subst (λ (l : List Record). Replays (bases old.server.seal a.file.seed) l at_first b.reached) (append_assoc entries one two)
            (subst (λ (s : List ℕ). Replays (bases old.server.seal s) ((entries ++ one) ++ two) at_first b.reached) seed sealed);
        leaves = leaves_up a.file.seed entries one two (told a.file.disk) (told a.disk) (told b.disk) a.leaves then;
      }

  -- a call whose begin was recorded comes to what its end comes to
  pub journals_up : {A : Type 0} {P Q : A → List Record → Type 0} (begin ran : Record) (server : Server) (r : Result A DeskFault) (a : Adds bases told entries (begin ∷ []) old mid)
      (j : Journals bases told (entries ++ begin ∷ []) (ran ∷ []) [] server mid new r Q) → j.adds.file.seed ≡ a.file.seed → mid.server.seal ≡ old.server.seal
      → ((value : A) (more : List Record) → Q value more → P value (begin ∷ more)) → Journals bases told entries (begin ∷ ran ∷ []) (begin ∷ []) server old new r P
  journals_up {A} {P} {Q} begin ran server r a j seed seal f =
      record {
        more = begin ∷ j.more;
        back = j.back;
        front = ap (λ (l : List Record). begin ∷ l) j.front;
        adds = adds_up (begin ∷ []) j.more a j.adds seed seal;
        answers = ok_map r (λ value h. f value j.more h) j.answers;
        memory =
            err_map r
            (λ fault h is. let kept = h is in (
              ap (λ (l : List Record). begin ∷ l) kept.0,
              subst (λ (l : List Record). KeepsFor bases told l new server) (append_assoc entries (begin ∷ []) j.more) kept.1,
            )) j.memory;
      }

-- a call whose begin was refused
pub begin_refused : {K S D A B : Type 0} {P : A → List Record → Type 0} {Q : B → List Record → Type 0} (bases : Bases S D) (told : K → Option DiskTold) (entries : List Record) (old new : Seen K S D) (begin ran : Record)
    (server : Server) (fault : DeskFault) → (fault ≡ faults.Memory → ⊥) → Journals bases told entries (begin ∷ []) [] server old new (Err fault) Q
    → Journals bases told entries (begin ∷ ran ∷ []) (begin ∷ []) server old new (Err fault) P
begin_refused {K} {S} {D} {A} {B} {P} {Q} bases told entries old new begin ran server fault other j =
    record {
      more = j.more;
      back = j.back ++ ran ∷ [];
      front = ap (λ (l : List Record). l ++ ran ∷ []) j.front ∙ append_assoc j.more j.back (ran ∷ []);
      adds = j.adds;
      answers = tt;
      memory = λ is. absurd (other is);
    }

-- the journal keeps its seed
pub seed_in : {K : Type 0} (X : File K → Type 0) (journal : Option (File K)) (file : File K) (seed : List ℕ) → journal ≡ Some file → IsSomeAnd journal (λ one. (seed ≡ one.seed) × X one) → seed ≡ file.seed
seed_in {K} X journal file seed opened h =
    let own : (seed ≡ file.seed) × X file = subst (λ (j : Option (File K)). IsSomeAnd j (λ one. (seed ≡ one.seed) × X one)) opened h in own.0

-- a run whose begin was recorded comes to what its end comes to
pub run_up : {K S D V : Type 0} (bases : Bases S D) (told : K → Option DiskTold) (place_of : D → ℕ) (lock : Lock) (ring_of : S → List RingKey) (answer : D → Keys → Answer D) (after : D → Keys → V) (job : ℕ) (reply : List ℕ)
    (entries : List Record) (server : Server) (now : ℕ) (service : V) (old new : Seen K S D) (book : Book K) (r : Result Effects DeskFault)
    (a : Adds bases told entries (entry_at place_of old now (Begin job) ∷ []) old (record old { book = book }))
    (j : EndJournals bases told place_of lock ring_of answer after reply (entries ++ entry_at place_of old now (Begin job) ∷ []) server now service new r (record old { book = book }))
    → j.adds.file.seed ≡ a.file.seed → RunJournals bases told place_of lock ring_of answer after job reply entries server now service new r old
run_up {K} {S} {D} {V} bases told place_of lock ring_of answer after job reply entries server now service old new book r a j seed =
    let begin : Record = entry_at place_of old now (Begin job) in
    let ran : Record = entry_at place_of old now (Ran reply) in
    journals_up bases told entries old (record old { book = book }) new begin ran server r a j seed refl
    (λ effects more h. (
      ap (λ (l : List Record). begin ∷ l) h.0,
      λ ring. (
        subst (λ (l : List Record). Does (KeepsFor bases told l new) lock (ring_of old.server.seal) new.draw effects (answer old.draw ring)) (append_assoc entries (begin ∷ []) more) (h.1 ring).0,
        (h.1 ring).1,
      ),
    ))
