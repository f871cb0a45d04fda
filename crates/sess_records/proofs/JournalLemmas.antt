-- What the calls of journals and openings come to, where their disks tell.
use Rattle.std.proofs.Common.{◌≡◌, ◌≢◌, ◌≤◌, ◌<◌, ◌+◌, ◌-◌, ◌^◌, ◌∙◌, ℕ, List, [], ◌∷◌, ◌++◌, length, take, drop, get_or, ◌⊎◌, inl, inr, arith, subst, sym, ap, ap₂, refl, append_assoc, Option, Some, None}
use Rattle.std.specs.Prelude.{IfSome, IsSomeAnd}
use Rattle.std.proofs.lemmas.List.{append-nil, drop_all, drop_more, length-append, length-take-le, take-append-drop, take-take, take_at}
use Rattle.std.proofs.lemmas.List.Elements.{All-nil, All-push}
use Rattle.mt_edge.specs.declared.act.Act.{Act}
use Rattle.mt_edge.specs.declared.act.Act.TheVariants.{Ready, Failed}
use Rattle.std.proofs.lemmas.Bool.{cases_lt}
use Rattle.mt_edge.specs.Faults.{Rose, one_more}
use Rattle.disks.specs.Crash.{MayLeave, synced_at}
use Rattle.disks.specs.Told.{DiskTold, now}
use Rattle.sess_records.specs.declared.heads.Head.{Head}
use Rattle.sess_records.specs.declared.fault.JournalFault.{JournalFault}
use Rattle.sess_records.specs.declared.fault.JournalFault.TheVariants as cause
use Rattle.sess_records.specs.declared.header.Front.{Front}
use Rattle.sess_records.specs.declared.records.Record.{Record}
use Rattle.sess_records.specs.Format.{HasHeader, HasRecord, IsEvent, IsFault, IsRecord, Reached, Spells, magic, open_gate, closed_gate, kind_of, rest_of, size_of, spelt, written}
use Rattle.sess_records.specs.Crashes.{Leaves, LeavesOnly}
use Rattle.sess_records.specs.Seen.{File, Reading}
use Rattle.sess_records.specs.Standing.{Behind, HasNext, HasTaken, Holds, IsJournal, IsOpening, IsSure, LeavesOneOf, LeavesTaken, Settled, SpellsOneOf}
use Rattle.sess_records.specs.Calls.{IfNotJournal}
use Rattle.sess_records.specs.Steps.{Adds, Finds, HasGate, HasNoEvent, IsAt, Settles, StartsWith, Trims, head_bytes, header_of}
use Rattle.sess_records.proofs.StepLemmas.{AtOnce, goes_on, only, weaker}
use Rattle.sess_records.proofs.WriteLemmas.{AfterSync, Staging, Sured, end_inside, Tells, Trimmed, Turned}
use Rattle.sess_records.proofs.FormLemmas.{IsHead, length-body_of, length-head_bytes, length-written, spelt_size}
use Rattle.sess_records.proofs.FileLemmas.{front, front_more, length-front, length-magic, pieces, reached_more, reached_parts, reached_rest, settled_by, settled_parts, settled_sure, spelt_pieces, spells_front, spells_gate, spells_by, too_short, unfit, unfit_kind}

-- ---- adding

abbrev pub Adding : Act → ℕ → List ℕ → Option DiskTold → Option DiskTold → Type 0
Adding answer len spelling old new = IfSome old (λ before. IsSomeAnd new (λ after. (front : List ℕ) (shut : ℕ) → len ≡ length front + 1 → IsSure (front ++ shut ∷ []) before
    → Adds answer front shut spelling before after))

pub not_staged : (len : ℕ) (bytes spelling : List ℕ) (old new : Option DiskTold) → Staging Failed bytes old new → Adding Failed len spelling old new
not_staged len bytes spelling None new p = tt
not_staged len bytes spelling (Some before) None p = absurd p
not_staged len bytes spelling (Some before) (Some after) p = λ front shut e s. record {
  done = λ r. absurd (cc r);
  leaves = weaker before after (StartsWith (front ++ shut ∷ [])) (λ left. StartsWith (front ++ shut ∷ []) left ⊎ HasGate front (spelling ++ closed_gate ∷ []) left)
      (λ left x. inl x) (p (front ++ shut ∷ []) s).leaves;
}

pub staged_turned : (answer : Act) (len gate : ℕ) (spelling : List ℕ) (old mid new : Option DiskTold) → len ≡ gate + 1
    → Staging Ready (spelling ++ 0 ∷ []) old mid → Turned answer gate mid new → Adding answer len spelling old new
staged_turned answer len gate spelling None mid new place p q = tt
staged_turned answer len gate spelling (Some before) None new place p q = absurd p
staged_turned answer len gate spelling (Some before) (Some between) None place p q = absurd q
staged_turned answer len gate spelling (Some before) (Some between) (Some after) place p q = λ front shut e s.
    let back = spelling ++ closed_gate ∷ [] in
    let P = λ (left : List ℕ). StartsWith (front ++ shut ∷ []) left ⊎ HasGate front back left in
    let first = p (front ++ shut ∷ []) s in
    let sure : IsSure (front ++ shut ∷ back) between = subst (λ (l : List ℕ). IsSure l between) (append_assoc front (shut ∷ []) back) (first.done refl) in
    let second = q front back shut (omega (arith, e, place)) sure in
    record {
      done = second.done;
      leaves = goes_on before between after P (weaker before between (StartsWith (front ++ shut ∷ [])) P (λ left x. inl x) first.leaves)
          (weaker between after (HasGate front back) P (λ left x. inr x) second.leaves);
    }

pub journal_whole : (seed : List ℕ) (len : ℕ) (old : Option DiskTold) → IsJournal seed len old → IfSome old (λ file. len ≡ length file.contents)
journal_whole seed len None j = tt
journal_whole seed len (Some file) j = j.sound.1.whole

record_added : (answer : Act) (seed spelling : List ℕ) (entries : List Record) (entry : Record) (len next : ℕ) (before after : DiskTold) → answer ≡ Ready → IsRecord entry
    → spelt entry ≡ spelling → next ≡ len + size_of entry.event
    → ((front : List ℕ) (shut : ℕ) → len ≡ length front + 1 → IsSure (front ++ shut ∷ []) before → Adds answer front shut spelling before after)
    → Settled seed entries len before → Settled seed (entries ++ entry ∷ []) next after
record_added answer seed spelling entries entry len next before after r lawful same more p s =
    let h = s.reached.seeded in
    let adds = p (front seed entries) s.gate (omega (arith, s.reached.place, length-front seed entries h)) (settled_sure seed entries len before s) in
    let is : front seed entries ++ open_gate ∷ (spelling ++ closed_gate ∷ []) ≡ front seed (entries ++ entry ∷ []) ++ closed_gate ∷ [] =
    ap (λ (l : List ℕ). front seed entries ++ open_gate ∷ (l ++ closed_gate ∷ [])) (sym same) ∙ front_more seed entries entry closed_gate [] in
    settled_by seed (entries ++ entry ∷ []) closed_gate next after h (All-push IsRecord entries entry s.reached.lawful lawful) (λ e. omega (arith, e))
    (omega (arith, more, s.reached.place, length-written entries entry, spelt_size entry)) (subst (λ (l : List ℕ). IsSure l after) is (adds.done r))

pub added_told : (answer : Act) (seed spelling : List ℕ) (entry : Record) (len next : ℕ) (old new : Option DiskTold) → Tells old new → IsRecord entry
    → spelt entry ≡ spelling → next ≡ len + size_of entry.event → Adding answer len spelling old new → answer ≡ Ready
    → (entries : List Record) → IfSome old (λ file. Settled seed entries len file) → IfSome new (λ file. Settled seed (entries ++ entry ∷ []) next file)
added_told answer seed spelling entry len next None None t lawful same more p r entries s = tt
added_told answer seed spelling entry len next None (Some after) t lawful same more p r entries s = absurd (cc t)
added_told answer seed spelling entry len next (Some before) None t lawful same more p r entries s = absurd (cc t)
added_told answer seed spelling entry len next (Some before) (Some after) t lawful same more p r entries s =
    record_added answer seed spelling entries entry len next before after r lawful same more p s

-- a settled file is left as it is
settled_left : AfterSync → (seed : List ℕ) (entries : List Record) (len : ℕ) (told : DiskTold) → Settled seed entries len told → (left : List ℕ) → MayLeave (now told) left → Spells seed entries left
settled_left after_sync seed entries len told s left may =
    let same : left ≡ told.contents = after_sync told.contents left (subst (λ x. MayLeave x left) s.sure may) in
    spells_by seed entries s.gate [] left s.reached.seeded s.reached.lawful s.closed (same ∙ settled_parts seed entries len told s)

pub any_moment_told : AtOnce → AfterSync → (answer : Act) (seed spelling : List ℕ) (entry : Record) (len : ℕ) (old new : Option DiskTold) → IsRecord entry
    → spelt entry ≡ spelling → Adding answer len spelling old new → (entries : List Record) → IfSome old (λ file. Settled seed entries len file)
    → IfSome old (λ before. IsSomeAnd new (λ after. LeavesOnly before after (SpellsOneOf seed entries entry)))
any_moment_told at_once after_sync answer seed spelling entry len None new lawful same p entries s = tt
any_moment_told at_once after_sync answer seed spelling entry len (Some before) None lawful same p entries s = absurd p
any_moment_told at_once after_sync answer seed spelling entry len (Some before) (Some after) lawful same p entries s =
    let h = s.reached.seeded in
    let adds = p (front seed entries) s.gate (omega (arith, s.reached.place, length-front seed entries h)) (settled_sure seed entries len before s) in
    let P = λ (left : List ℕ). StartsWith (front seed entries ++ s.gate ∷ []) left ⊎ HasGate (front seed entries) (spelling ++ closed_gate ∷ []) left in
    let reads : (left : List ℕ) → P left → SpellsOneOf seed entries entry left = λ left has. elim has [
      | inl starts ↦ inl (spells_front seed entries s.gate left h s.reached.lawful s.closed starts)
      | inr gate ↦ spells_gate seed entries entry left h s.reached.lawful lawful (gate.0, gate.1 ∙ ap (λ (l : List ℕ). front seed entries ++ gate.0 ∷ (l ++ closed_gate ∷ [])) (sym same))
    ] in
    only at_once before after (SpellsOneOf seed entries entry) (λ left may. inl (settled_left after_sync seed entries len before s left may)) (weaker before after P (SpellsOneOf seed entries entry) reads adds.leaves)

-- a journal with one more record has records
pub added_journal : (answer : Act) (seed spelling : List ℕ) (entry : Record) (len next : ℕ) (old new : Option DiskTold) → Tells old new → IsRecord entry
    → spelt entry ≡ spelling → next ≡ len + size_of entry.event → Adding answer len spelling old new → answer ≡ Ready → IsJournal seed len old → IsJournal seed next new
added_journal answer seed spelling entry len next old new t lawful same more p r j = record { headed = omega (arith, more, j.headed); sound = sound old new t p j }
  where
    sound : (old new : Option DiskTold) → Tells old new → Adding answer len spelling old new → IsJournal seed len old
        → IfSome new (λ file. (entries : List Record) × Settled seed entries next file)
    sound None None t p j = tt
    sound None (Some after) t p j = absurd (cc t)
    sound (Some before) None t p j = absurd (cc t)
    sound (Some before) (Some after) t p j =
        (j.sound.0 ++ entry ∷ [], record_added answer seed spelling j.sound.0 entry len next before after r lawful same more p j.sound.1)

-- ---- a new journal

pub created_told : (seed header : List ℕ) (old new : Option DiskTold) → header ≡ header_of seed → length seed ≡ 32 → Tells old new
    → IfSome old (λ _. IsSomeAnd new (λ after. IsSure header after)) → IfSome new (λ file. Settled seed [] 41 file)
unfolding header_of
created_told seed header None None made h t p = tt
created_told seed header None (Some after) made h t p = absurd (cc t)
created_told seed header (Some before) None made h t p = tt
created_told seed header (Some before) (Some after) made h t p =
    let is : magic ++ (seed ++ closed_gate ∷ []) ≡ front seed [] ++ closed_gate ∷ [] =
    ap (λ (l : List ℕ). magic ++ (l ++ closed_gate ∷ [])) (sym (append-nil seed)) ∙ sym (append_assoc magic (seed ++ []) (closed_gate ∷ [])) in
    settled_by seed [] closed_gate 41 after h (All-nil IsRecord) (λ e. omega (arith, e)) refl (subst (λ (l : List ℕ). IsSure l after) (made ∙ is) p)

-- a file with some records is that of a journal
pub journal_by : (seed : List ℕ) (entries : List Record) (len : ℕ) (new : Option DiskTold) → 41 ≤ len → IfSome new (λ file. Settled seed entries len file) → IsJournal seed len new
journal_by seed entries len new low s = record { headed = low; sound = sound new s }
  where
    sound : (new : Option DiskTold) → IfSome new (λ file. Settled seed entries len file) → IfSome new (λ file. (entries : List Record) × Settled seed entries len file)
    sound None s = tt
    sound (Some file) s = (entries, s)

-- one more fault is a count that rose
pub rose : (before after : ℕ) → after ≡ one_more before → Rose before after
rose before after e = elim (cases_lt before (2 ^ 64 - 1)) [ inl low ↦ inl (grind (arith, e, low)) | inr high ↦ inr (grind (arith, e, high)) ]

-- ---- the end of an opening

-- the two parts of a file, before and behind the next gate
trimmed_by : (answer : Act) (seed : List ℕ) (entries : List Record) (gate at len : ℕ) (before after : DiskTold) → (b : Behind seed entries gate at len before)
    → ((front back : List ℕ) → at ≡ length front → IsSure (front ++ back) before → Trims answer front before after) → Trims answer (front seed entries ++ gate ∷ []) before after
trimmed_by answer seed entries gate at len before after b p =
    let is : before.contents ≡ (front seed entries ++ gate ∷ []) ++ b.reached.rest =
    reached_parts seed entries gate at before.contents b.reached ∙ sym (append_assoc (front seed entries) (gate ∷ []) b.reached.rest) in
    p (front seed entries ++ gate ∷ []) b.reached.rest (omega (arith, b.reached.place, length-append (front seed entries) (gate ∷ []), length-front seed entries b.reached.seeded))
    (record { contents = is; sure = b.sure ∙ ap synced_at is })

pub finished_told : (answer : Act) (seed : List ℕ) (gate at len : ℕ) (old new : Option DiskTold) → gate ≢ open_gate → Tells old new → Trimmed answer at old new → answer ≡ Ready
    → (entries : List Record) → IfSome old (λ file. Behind seed entries gate at len file) → IfSome new (λ file. Settled seed entries at file)
finished_told answer seed gate at len None None shut t p r entries b = tt
finished_told answer seed gate at len None (Some after) shut t p r entries b = absurd (cc t)
finished_told answer seed gate at len (Some before) None shut t p r entries b = absurd (cc t)
finished_told answer seed gate at len (Some before) (Some after) shut t p r entries b =
    let h = b.reached.seeded in
    let trims = trimmed_by answer seed entries gate at len before after b p in
    settled_by seed entries gate at after h b.reached.lawful shut b.reached.place (trims.done r)

pub finished_journal : (answer : Act) (seed : List ℕ) (gate at len : ℕ) (old new : Option DiskTold) → gate ≢ open_gate → Tells old new → Trimmed answer at old new → answer ≡ Ready
    → IsOpening seed gate at len old → IsJournal seed at new
finished_journal answer seed gate at len old new shut t p r o = record { headed = o.headed; sound = sound old new t p o }
  where
    sound : (old new : Option DiskTold) → Tells old new → Trimmed answer at old new → IsOpening seed gate at len old
        → IfSome new (λ file. (entries : List Record) × Settled seed entries at file)
    sound None None t p o = tt
    sound None (Some after) t p o = absurd (cc t)
    sound (Some before) None t p o = absurd (cc t)
    sound (Some before) (Some after) t p o = (o.taken.0, finished_told answer seed gate at len (Some before) (Some after) shut t p r o.taken.0 o.taken.1)

pub opening_whole : (seed : List ℕ) (gate at len : ℕ) (old : Option DiskTold) → IsOpening seed gate at len old → IfSome old (λ file. len ≡ length file.contents)
opening_whole seed gate at len None o = tt
opening_whole seed gate at len (Some file) o = o.taken.1.whole

pub finish_leaves : AtOnce → AfterSync → (answer : Act) (seed : List ℕ) (gate at len : ℕ) (old new : Option DiskTold) → gate ≢ open_gate → Trimmed answer at old new
    → (entries : List Record) → IfSome old (λ file. Behind seed entries gate at len file) → IfSome old (λ before. IsSomeAnd new (λ after. LeavesOnly before after (Spells seed entries)))
finish_leaves at_once after_sync answer seed gate at len None new shut p entries b = tt
finish_leaves at_once after_sync answer seed gate at len (Some before) None shut p entries b = absurd p
finish_leaves at_once after_sync answer seed gate at len (Some before) (Some after) shut p entries b =
    let h = b.reached.seeded in
    let trims = trimmed_by answer seed entries gate at len before after b p in
    let here : (left : List ℕ) → MayLeave (now before) left → Spells seed entries left = λ left may.
    let same : left ≡ before.contents = after_sync before.contents left (subst (λ x. MayLeave x left) b.sure may) in
    spells_by seed entries gate b.reached.rest left h b.reached.lawful shut (same ∙ reached_parts seed entries gate at before.contents b.reached) in
    only at_once before after (λ left. Spells seed entries left) here
    (weaker before after (StartsWith (front seed entries ++ gate ∷ [])) (λ left. Spells seed entries left) (λ left starts. spells_front seed entries gate left h b.reached.lawful shut starts) trims.leaves)

-- ---- the front of a file

pub found_taken : (front : Front) (old new : Option DiskTold) → Tells old new → IfSome old (λ before. IsSomeAnd new (λ after. Finds front before after))
    → IfSome new (λ file. Behind front.seed [] front.gate 41 front.len file)
found_taken front None None t p = tt
found_taken front None (Some after) t p = absurd (cc t)
found_taken front (Some before) None t p = tt
found_taken front (Some before) (Some after) t p = record {
  reached = subst (λ (l : List ℕ). Reached front.seed [] front.gate 41 l) (sym p.sure.contents) p.reached;
  whole = p.whole ∙ ap length (sym p.sure.contents);
  sure = p.sure.sure ∙ ap synced_at (sym p.sure.contents);
}

pub found_opening : (front : Front) (old new : Option DiskTold) → Tells old new → 41 ≤ front.len → IfSome old (λ before. IsSomeAnd new (λ after. Finds front before after))
    → IsOpening front.seed front.gate 41 front.len new
found_opening front old new t low p = record { headed = omega arith; inside = low; taken = taken new (found_taken front old new t p) }
  where
    taken : (new : Option DiskTold) → IfSome new (λ file. Behind front.seed [] front.gate 41 front.len file)
        → IfSome new (λ file. (entries : List Record) × Behind front.seed entries front.gate 41 front.len file)
    taken None b = tt
    taken (Some file) b = ([], b)

pub found_same : (front : Front) (old new : Option DiskTold) → IfSome old (λ before. IsSomeAnd new (λ after. Finds front before after))
    → IfSome old (λ before. IsSomeAnd new (λ after. after.contents ≡ before.contents))
found_same front None new p = tt
found_same front (Some before) None p = absurd p
found_same front (Some before) (Some after) p = p.sure.contents

pub no_header_fault : (at : ℕ) (old : Option DiskTold) → at ≡ 0 → IfSome old (λ before. HasHeader before.contents → ⊥) → IfSome old (λ before. IsFault at before.contents)
no_header_fault at None e p = tt
no_header_fault at (Some before) e p = inl (e, p)

-- ---- the next record

-- where no record stands behind an open gate, the file is no journal from there on
no_record : (seed : List ℕ) (entries : List Record) (gate at len : ℕ) (file : DiskTold) → gate ≡ open_gate → Behind seed entries gate at len file
    → (HasRecord (drop at file.contents) → ⊥) → IsFault at file.contents
no_record seed entries gate at len file is b none =
    let r = b.reached in
    inr (record {
      seed = seed;
      entries = entries;
      reached = record {
        seeded = r.seeded;
        lawful = r.lawful;
        rest = r.rest;
        split = r.split ∙ ap (λ (x : ℕ). magic ++ (seed ++ (written entries ++ x ∷ r.rest))) is;
        place = r.place;
      };
      none = λ has. none (subst HasRecord (sym (reached_rest seed entries gate at file.contents r)) has);
    })

-- what a refused record says of an opening
abbrev pub RefusedAt : {K : Type 0} → (K → Option DiskTold) → JournalFault → Reading K → Type 0
RefusedAt told fault opening = IfNotJournal fault (λ at. (at ≡ opening.at) × IfSome (told opening.disk) (λ file. (entries : List Record)
    → HasTaken told entries opening → IsFault at file.contents))

pub refused_next : {K : Type 0} → (told : K → Option DiskTold) (fault : JournalFault) (one other : Reading K) → one ≡ other → one.gate ≡ open_gate
    → IfNotJournal fault (λ at. (at ≡ one.at) × IfSome (told one.disk) (λ file. HasRecord (drop one.at file.contents) → ⊥)) → RefusedAt told fault other
refused_next {K} told fault one other same is p = subst (λ (opening : Reading K). RefusedAt told fault opening) same (here fault p)
  where
    behind : (at : ℕ) (old : Option DiskTold) → at ≡ one.at → IfSome old (λ file. HasRecord (drop one.at file.contents) → ⊥)
        → IfSome old (λ file. (entries : List Record) → IfSome old (λ known. Behind one.seed entries one.gate one.at one.len known) → IsFault at file.contents)
    behind at None e none = tt
    behind at (Some file) e none = λ entries b. subst (λ (x : ℕ). IsFault x file.contents) (sym e) (no_record one.seed entries one.gate one.at one.len file is b none)

    here : (fault : JournalFault) → IfNotJournal fault (λ at. (at ≡ one.at) × IfSome (told one.disk) (λ file. HasRecord (drop one.at file.contents) → ⊥)) → RefusedAt told fault one
    here cause.Disk p = tt
    here (cause.NotJournal at) p = (p.0, behind at (told one.disk) p.0 p.1)
    here cause.Memory p = tt

-- a record that was read
pub record Read (head : Head) (rest : List ℕ) (entry : Record) : Type 0 where
  pub event : IsEvent entry.event
  pub kind : kind_of entry.event ≡ head.kind
  pub rest_is : rest_of entry.event ≡ rest
  pub moment : entry.moment ≡ head.moment
  pub place : entry.place ≡ head.place

pub read_lawful : (head : Head) (rest : List ℕ) (entry : Record) (count : ℕ) → IsHead head → head.size ≡ 17 + count → length rest ≡ count → Read head rest entry → IsRecord entry
read_lawful head rest entry count h size long r = record {
  moment = omega (arith, r.moment, h.moment);
  place = omega (arith, r.place, h.place);
  event = r.event;
  short = omega (arith, length-body_of entry, ap length r.rest_is, size, long, h.size);
}

read_at : (file : List ℕ) (head : Head) (rest : List ℕ) (entry : Record) (at count gate : ℕ) → head.size ≡ 17 + count → length rest ≡ count → Read head rest entry
    → take 21 (drop at file) ≡ head_bytes head → take (count + 1) (drop (at + 21) file) ≡ rest ++ gate ∷ [] → IsAt entry gate at file
read_at file head rest entry at count gate size long r p q =
    let more = drop (at + 21 + (count + 1)) file in
    let spelling : spelt entry ≡ head_bytes head ++ rest =
    spelt_pieces head entry (omega (arith, size, long, ap length r.rest_is)) r.kind r.moment r.place ∙ ap (λ (l : List ℕ). head_bytes head ++ l) r.rest_is in (
      more,
      pieces file (head_bytes head) rest at count gate (length-head_bytes head) long p q
          ∙ sym (append_assoc (head_bytes head) rest (gate ∷ more)) ∙ ap (λ (l : List ℕ). l ++ gate ∷ more) (sym spelling),
    )

pub read_told : (head : Head) (rest : List ℕ) (entry : Record) (at count gate : ℕ) (old mid : Option DiskTold) → mid ≡ old → head.size ≡ 17 + count → length rest ≡ count
    → Read head rest entry → IfSome old (λ file. take 21 (drop at file.contents) ≡ head_bytes head)
    → IfSome mid (λ file. take (count + 1) (drop (at + 21) file.contents) ≡ rest ++ gate ∷ []) → IfSome old (λ file. IsAt entry gate at file.contents)
read_told head rest entry at count gate old mid same size long r p q =
    by_old old p (subst (λ (x : Option DiskTold). IfSome x (λ known. take (count + 1) (drop (at + 21) known.contents) ≡ rest ++ gate ∷ [])) same q)
  where
    by_old : (old : Option DiskTold) → IfSome old (λ file. take 21 (drop at file.contents) ≡ head_bytes head)
        → IfSome old (λ file. take (count + 1) (drop (at + 21) file.contents) ≡ rest ++ gate ∷ []) → IfSome old (λ file. IsAt entry gate at file.contents)
    by_old None p q = tt
    by_old (Some file) p q = read_at file.contents head rest entry at count gate size long r p q

-- one more record was taken
taken_one : (seed : List ℕ) (entries : List Record) (gate at len : ℕ) (file : DiskTold) (entry : Record) (next at_next : ℕ) → gate ≡ open_gate → IsRecord entry
    → at_next ≡ at + size_of entry.event → IsAt entry next at file.contents → Behind seed entries gate at len file → Behind seed (entries ++ entry ∷ []) next at_next len file
taken_one seed entries gate at len file entry next at_next is lawful place p b = record {
  reached = reached_more seed entries at file.contents entry next p.0 at_next lawful (subst (λ (x : ℕ). Reached seed entries x at file.contents) is b.reached) p.1
      (omega (arith, place, spelt_size entry));
  whole = b.whole;
  sure = b.sure;
}

pub taken_told : (seed : List ℕ) (gate at len : ℕ) (old new : Option DiskTold) (entry : Record) (next at_next : ℕ) → new ≡ old → gate ≡ open_gate → IsRecord entry
    → at_next ≡ at + size_of entry.event → IfSome old (λ file. IsAt entry next at file.contents)
    → (entries : List Record) → IfSome old (λ file. Behind seed entries gate at len file) → IfSome new (λ file. Behind seed (entries ++ entry ∷ []) next at_next len file)
taken_told seed gate at len old new entry next at_next same is lawful place p entries b =
    subst (λ (x : Option DiskTold). IfSome x (λ file. Behind seed (entries ++ entry ∷ []) next at_next len file)) (sym same) (by_old old p b)
  where
    by_old : (old : Option DiskTold) → IfSome old (λ file. IsAt entry next at file.contents) → IfSome old (λ file. Behind seed entries gate at len file)
        → IfSome old (λ file. Behind seed (entries ++ entry ∷ []) next at_next len file)
    by_old None p b = tt
    by_old (Some file) p b = taken_one seed entries gate at len file entry next at_next is lawful place p b

pub taken_opening : (seed : List ℕ) (gate at len : ℕ) (old new : Option DiskTold) (entry : Record) (next at_next : ℕ) → new ≡ old → gate ≡ open_gate → IsRecord entry
    → at_next ≡ at + size_of entry.event → at_next ≤ len → IfSome old (λ file. IsAt entry next at file.contents) → IsOpening seed gate at len old → IsOpening seed next at_next len new
taken_opening seed gate at len old new entry next at_next same is lawful place inside p o = record {
  headed = omega (arith, place, o.headed);
  inside = inside;
  taken = subst (λ (x : Option DiskTold). IfSome x (λ file. (entries : List Record) × Behind seed entries next at_next len file)) (sym same) (by_old old p o.taken);
}
  where
    by_old : (old : Option DiskTold) → IfSome old (λ file. IsAt entry next at file.contents) → IfSome old (λ file. (entries : List Record) × Behind seed entries gate at len file)
        → IfSome old (λ file. (entries : List Record) × Behind seed entries next at_next len file)
    by_old None p b = tt
    by_old (Some file) p b = (b.0 ++ entry ∷ [], taken_one seed b.0 gate at len file entry next at_next is lawful place p b.1)

-- nothing was taken
pub same_opening : (seed : List ℕ) (gate at len : ℕ) (old new : Option DiskTold) → new ≡ old → IsOpening seed gate at len old → IsOpening seed gate at len new
same_opening seed gate at len old new same o = subst (λ (x : Option DiskTold). IsOpening seed gate at len x) (sym same) o

-- what was read of a front, and what no front is
pub head_told : (at count : ℕ) (bytes : List ℕ) (head : Head) (old : Option DiskTold) → count ≡ 21 → head_bytes head ≡ bytes
    → IfSome old (λ file. bytes ≡ take count (drop at file.contents)) → IfSome old (λ file. take 21 (drop at file.contents) ≡ head_bytes head)
head_told at count bytes head None e is p = tt
head_told at count bytes head (Some file) e is p = sym (is ∙ p ∙ ap (λ (n : ℕ). take n (drop at file.contents)) e)

pub too_short_told : (at len : ℕ) (old : Option DiskTold) → at ≤ len → len - at ≤ 21 → IfSome old (λ file. len ≡ length file.contents) → IfSome old (λ file. HasRecord (drop at file.contents) → ⊥)
too_short_told at len None inside short p = tt
too_short_told at len (Some file) inside short p = too_short file.contents at len p inside short

pub unfit_told : (at len : ℕ) (head : Head) (old : Option DiskTold) → at ≤ len → IsHead head → (head.size < 17) ⊎ (len - at ≤ head.size + 4) → IfSome old (λ file. len ≡ length file.contents)
    → IfSome old (λ file. take 21 (drop at file.contents) ≡ head_bytes head) → IfSome old (λ file. HasRecord (drop at file.contents) → ⊥)
unfit_told at len head None inside h bad p q = tt
unfit_told at len head (Some file) inside h bad p q = unfit file.contents at len head p inside h q bad

pub unfit_kind_told : (at count : ℕ) (head : Head) (old : Option DiskTold) → IsHead head → head.size ≡ 17 + count → HasNoEvent head.kind count
    → IfSome old (λ file. take 21 (drop at file.contents) ≡ head_bytes head) → IfSome old (λ file. HasRecord (drop at file.contents) → ⊥)
unfit_kind_told at count head None h size none q = tt
unfit_kind_told at count head (Some file) h size none q = unfit_kind (drop at file.contents) head count h size q none

-- ---- reading a header

-- what a call that made sure of a disk leaves, where nothing was changed since
pub sure_leaves : (answer : Act) (old mid new : Option DiskTold) → new ≡ mid → Sured answer old mid → IfSome old (λ before. IsSomeAnd new (λ after. Leaves before after (λ left. left ≡ before.contents)))
sure_leaves answer None mid new e p = tt
sure_leaves answer (Some before) None new e p = absurd p
sure_leaves answer (Some before) (Some between) new e p =
    subst (λ (x : Option DiskTold). IsSomeAnd x (λ after. Leaves before after (λ left. left ≡ before.contents))) (sym e) p.leaves

-- a file that was made sure of is as it was
pub sure_same : (old mid new : Option DiskTold) → new ≡ mid → Sured Ready old mid → IfSome old (λ before. IsSomeAnd new (λ after. after.contents ≡ before.contents))
sure_same None mid new e p = tt
sure_same (Some before) None new e p = absurd p
sure_same (Some before) (Some between) new e p = subst (λ (x : Option DiskTold). IsSomeAnd x (λ after. after.contents ≡ before.contents)) (sym e) (p.done refl).contents

-- a header behind which anything stands
header_parts : (file header seed : List ℕ) → length header ≡ 41 → header ≡ take 41 (drop 0 file) → take 40 header ≡ magic ++ seed → file ≡ magic ++ (seed ++ get_or header 40 0 ∷ drop 41 file)
header_parts file header seed long read front =
    let last : drop 40 header ≡ get_or header 40 0 ∷ [] =
    drop_more header 40 0 (omega (arith, long)) ∙ ap (λ (l : List ℕ). get_or header 40 0 ∷ l) (drop_all 41 header (omega (arith, long))) in
    let whole : header ≡ (magic ++ seed) ++ get_or header 40 0 ∷ [] = sym (take-append-drop 40 header) ∙ ap₂ (λ (a b : List ℕ). a ++ b) front last in
    sym (take-append-drop 41 file) ∙ ap (λ (l : List ℕ). l ++ drop 41 file) (sym read ∙ whole)
    ∙ append_assoc (magic ++ seed) (get_or header 40 0 ∷ []) (drop 41 file) ∙ append_assoc magic seed (get_or header 40 0 ∷ drop 41 file)

find : (len : ℕ) (header seed : List ℕ) (before after : DiskTold) → Settles Ready before after → len ≡ length after.contents → 41 ≤ len
    → header ≡ take 41 (drop 0 after.contents) → take 40 header ≡ magic ++ seed → Finds (record { len = len; seed = seed; gate = get_or header 40 0 }) before after
find len header seed before after s whole enough read front =
    let sure = s.done refl in
    let long : length header ≡ 41 = ap length read ∙ length-take-le 41 after.contents (omega (arith, whole, enough)) in
    let seeded : length seed ≡ 32 = omega (arith, ap length front, length-append magic seed, length-magic, length-take-le 40 header (omega (arith, long))) in
    record {
      sure = sure;
      whole = whole ∙ ap length sure.contents;
      reached = record {
        seeded = seeded;
        lawful = All-nil IsRecord;
        rest = drop 41 before.contents;
        split = header_parts before.contents header seed long (read ∙ ap (λ (l : List ℕ). take 41 (drop 0 l)) sure.contents) front;
        place = refl;
      };
    }

pub find_told : (len : ℕ) (header seed : List ℕ) (old mid one new : Option DiskTold) → one ≡ mid → new ≡ one → Sured Ready old mid → IfSome mid (λ file. len ≡ length file.contents)
    → 41 ≤ len → IfSome one (λ file. header ≡ take 41 (drop 0 file.contents)) → take 40 header ≡ magic ++ seed
    → IfSome old (λ before. IsSomeAnd new (λ after. Finds (record { len = len; seed = seed; gate = get_or header 40 0 }) before after))
find_told len header seed None mid one new o n s whole enough read front = tt
find_told len header seed (Some before) None one new o n s whole enough read front = absurd s
find_told len header seed (Some before) (Some after) one new o n s whole enough read front =
    let here : header ≡ take 41 (drop 0 after.contents) = subst (λ (x : Option DiskTold). IfSome x (λ file. header ≡ take 41 (drop 0 file.contents))) o read in
    subst (λ (x : Option DiskTold). IsSomeAnd x (λ told. Finds (record { len = len; seed = seed; gate = get_or header 40 0 }) before told)) (sym (n ∙ o))
    (find len header seed before after s whole enough here front)

-- a range inside a file whose length is known, where nothing was changed since
pub inside_same : (count len : ℕ) (mid one : Option DiskTold) → one ≡ mid → IfSome mid (λ file. len ≡ length file.contents) → count ≤ len → IfSome one (λ file. count ≤ length file.contents)
inside_same count len mid one same whole low = subst (λ (x : Option DiskTold). IfSome x (λ file. count ≤ length file.contents)) (sym same) (end_inside count len mid whole low)

-- a file with no header is no journal from its first byte on
pub refused_told : (fault : JournalFault) (old : Option DiskTold) → IfNotJournal fault (λ at. (at ≡ 0) × IfSome old (λ before. HasHeader before.contents → ⊥))
    → IfNotJournal fault (λ at. (at ≡ 0) × IfSome old (λ before. IsFault at before.contents))
refused_told cause.Disk old p = tt
refused_told (cause.NotJournal at) old p = (p.0, no_header_fault at old p.0 p.1)
refused_told cause.Memory old p = tt

header_long : (file : List ℕ) → HasHeader file → 41 ≤ length file
header_long file h = omega (arith, ap length h.split, length-append magic (h.seed ++ h.gate ∷ h.rest), length-append h.seed (h.gate ∷ h.rest), length-magic, h.seeded)

header_front : (file : List ℕ) → HasHeader file → take 8 file ≡ magic
header_front file h = ap (take 8) h.split ∙ take_at magic (h.seed ++ h.gate ∷ h.rest) 8 length-magic

-- a file that is shorter than a header has none
pub short_told : (len : ℕ) (old mid : Option DiskTold) → Sured Ready old mid → IfSome mid (λ file. len ≡ length file.contents) → len < 41 → IfSome old (λ before. HasHeader before.contents → ⊥)
short_told len None mid s whole short = tt
short_told len (Some before) None s whole short = absurd s
short_told len (Some before) (Some after) s whole short = λ h. omega (arith, header_long before.contents h, whole, short, ap length (s.done refl).contents)

-- nor has one that begins with other letters
pub other_told : (header : List ℕ) (old mid one : Option DiskTold) → one ≡ mid → Sured Ready old mid → IfSome one (λ file. header ≡ take 41 (drop 0 file.contents)) → take 8 header ≢ magic
    → IfSome old (λ before. HasHeader before.contents → ⊥)
other_told header None mid one o s read other = tt
other_told header (Some before) None one o s read other = absurd s
other_told header (Some before) (Some after) one o s read other = λ h.
    let here : header ≡ take 41 (drop 0 after.contents) = subst (λ (x : Option DiskTold). IfSome x (λ file. header ≡ take 41 (drop 0 file.contents))) o read in
    let same : header ≡ take 41 before.contents = here ∙ ap (λ (l : List ℕ). take 41 (drop 0 l)) (s.done refl).contents in
    other (ap (take 8) same ∙ take-take 8 41 before.contents (omega arith) ∙ header_front before.contents h)

-- ---- what contracts see of a value, and what it is

pub held_seen : {K : Type 0} → (told : K → Option DiskTold) (entries : List Record) (one other : File K) → one ≡ other → Holds told entries other → Holds told entries one
held_seen {K} told entries one other same h = subst (λ (journal : File K). Holds told entries journal) (sym same) h

pub left_seen : {K : Type 0} → (told : K → Option DiskTold) (entries : List Record) (entry : Record) (one other : File K) (after : K) → one ≡ other
    → LeavesOneOf told entries entry one after → LeavesOneOf told entries entry other after
left_seen {K} told entries entry one other after same p = subst (λ (journal : File K). LeavesOneOf told entries entry journal after) same p

pub rose_seen : {K : Type 0} → (faults : K → ℕ) (one other : File K) (after : K) → one ≡ other → Rose (faults one.disk) (faults after) → Rose (faults other.disk) (faults after)
rose_seen {K} faults one other after same h = subst (λ (journal : File K). Rose (faults journal.disk) (faults after)) same h

pub len_seen : {K : Type 0} → (one other : File K) → one ≡ other → one.len ≡ other.len
len_seen {K} one other same = ap (λ (journal : File K). journal.len) same

pub next_seen : {K : Type 0} → (one other : Reading K) → one ≡ other → HasNext other → HasNext one
next_seen {K} one other same h = subst (λ (opening : Reading K). HasNext opening) (sym same) h

pub no_next_seen : {K : Type 0} → (one other : Reading K) → one ≡ other → (HasNext other → ⊥) → HasNext one → ⊥
no_next_seen {K} one other same none h = none (subst (λ (opening : Reading K). HasNext opening) same h)

pub taken_seen : {K : Type 0} → (told : K → Option DiskTold) (entries : List Record) (one other : Reading K) → one ≡ other → HasTaken told entries other → HasTaken told entries one
taken_seen {K} told entries one other same h = subst (λ (opening : Reading K). HasTaken told entries opening) (sym same) h

pub taken_left_seen : {K : Type 0} → (told : K → Option DiskTold) (entries : List Record) (one other : Reading K) (after : K) → one ≡ other
    → LeavesTaken told entries one after → LeavesTaken told entries other after
taken_left_seen {K} told entries one other after same p = subst (λ (opening : Reading K). LeavesTaken told entries opening after) same p

pub rose_taken : {K : Type 0} → (faults : K → ℕ) (one other : Reading K) (after : K) → one ≡ other → Rose (faults one.disk) (faults after) → Rose (faults other.disk) (faults after)
rose_taken {K} faults one other after same h = subst (λ (opening : Reading K). Rose (faults opening.disk) (faults after)) same h
