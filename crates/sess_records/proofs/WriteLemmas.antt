-- What a crash leaves of each write.
use Rattle.std.proofs.Common.{◌≡◌, ◌≤◌, ◌+◌, ◌-◌, ◌∙◌, ℕ, List, [], ◌∷◌, ◌++◌, length, take, drop, min, inl, inr, arith, subst, sym, ap, refl, Option, Some, None, append_assoc}
use Rattle.std.proofs.lemmas.List.{take_all, take_at, drop_at, drop_all, take-append-drop, length-append, length-drop, length-take-le, append-nil}
use Rattle.std.proofs.lemmas.List.Elements.{All-append, All-nil, All-cons, All-weaker}
use Rattle.std.specs.Prelude.{IfSome, IsSomeAnd, is_some}
use Rattle.std.specs.List.{All}
use Rattle.mt_edge.specs.declared.act.Act.{Act}
use Rattle.mt_edge.specs.declared.act.Act.TheVariants.{Ready, Failed}
use Rattle.disks.specs.declared.disk_act.DiskAct.TheVariants.{Write, Cut, Sync}
use Rattle.disks.specs.Crash.{IsApart, MayLeave, Range, Standing, after_act, overwritten, synced_at}
use Rattle.disks.specs.Told.{Changes, DiskTold, Noted, Syncs, now}
use Rattle.sess_records.specs.Standing.{IsSure}
use Rattle.sess_records.specs.Steps.{Appends, HasGate, IsBase, Opens, Settles, Shortens, Staged, Stages, StartsWith, Trims, Turns}
use Rattle.sess_records.proofs.StepLemmas.{NoMore, OneMore, goes_on, noted, stays, weaker}

-- a crash leaves what is in front
pub front_stays : (base left : List ℕ) (standing : Standing) → IsBase base standing → MayLeave standing left → StartsWith base left
front_stays base left standing b may =
    let n = length base in
    let low : 0 + n ≤ standing.least = omega (arith, b.least) in
    let apart : All (IsApart 0 n) standing.written = All-weaker (λ (range : Range). n ≤ range.at) (IsApart 0 n) (λ range h. inl (omega (arith, h))) standing.written b.behind in
    let same : take n left ≡ take n standing.synced = may.stays 0 n low apart in
    let front : take n left ≡ base = same ∙ ap (take n) b.synced ∙ take_all n base (omega arith) in
    (drop n left, sym (take-append-drop n left) ∙ ap (λ l. l ++ drop n left) front)

-- one more write behind it
base_after : (base : List ℕ) (s t : Standing) (at count : ℕ) → length base ≤ at → IsBase base s → t ≡ after_act s (Write at count) → IsBase base t
base_after base s t at count low b e = record {
  synced = ap (λ (x : Standing). x.synced) e ∙ b.synced;
  least = ap (λ (x : Standing). x.least) e ∙ b.least;
  behind = subst (λ (l : List Range). All (λ range. length base ≤ range.at) l) (sym (ap (λ (x : Standing). x.written) e))
      (All-append (λ (range : Range). length base ≤ range.at) s.written (record { at = at; count = count } ∷ []) b.behind
      (All-cons (λ (range : Range). length base ≤ range.at) (record { at = at; count = count }) [] low (All-nil (λ (range : Range). length base ≤ range.at))));
}

-- a write at the end
pub overwritten_end : (bytes before : List ℕ) (end : ℕ) → end ≡ length before → overwritten end bytes before ≡ before ++ bytes
overwritten_end bytes before end e =
    let front : take end before ≡ before = take_all end before (omega (arith, e)) in
    let back : drop (end + length bytes) before ≡ [] = drop_all (end + length bytes) before (omega (arith, e)) in
    ap (λ l. l ++ bytes ++ drop (end + length bytes) before) front ∙ ap (λ l. before ++ bytes ++ l) back ∙ append-nil (before ++ bytes)

sure_base : (base : List ℕ) (told : DiskTold) → IsSure base told → IsBase base (now told)
sure_base base told s = record {
  synced = ap (λ (x : Standing). x.synced) s.sure;
  least = ap (λ (x : Standing). x.least) s.sure;
  behind = subst (λ (l : List Range). All (λ range. length base ≤ range.at) l) (sym (ap (λ (x : Standing). x.written) s.sure)) (All-nil (λ (range : Range). length base ≤ range.at));
}

pub sure_staged : (base : List ℕ) (told : DiskTold) → IsSure base told → Staged base [] told
sure_staged base told s = record { contents = s.contents ∙ sym (append-nil base); base_stays = sure_base base told s }

appends : OneMore → NoMore → (answer : Act) (end : ℕ) (bytes : List ℕ) (before after : DiskTold) → end ≡ length before.contents
    → Changes answer (Write end (length bytes)) (overwritten end bytes before.contents) before after
    → (base tail : List ℕ) → Staged base tail before → Appends answer base (tail ++ bytes) before after
appends one_more no_more Ready end bytes before after at_end ch base tail st =
    let n : Noted (Write end (length bytes)) before after = ch.does.0 in
    let low : length base ≤ end = omega (arith, at_end, ap length st.contents, length-append base tail) in
    let b : IsBase base (now after) = base_after base (now before) (now after) end (length bytes) low st.base_stays n.stands in
    record {
      done = λ _. record {
        contents = ch.does.1 ∙ overwritten_end bytes before.contents end at_end ∙ ap (λ l. l ++ bytes) st.contents ∙ append_assoc base tail bytes;
        base_stays = b;
      };
      leaves = noted one_more (Write end (length bytes)) before after (StartsWith base) ch.first ch.possible n (λ left may. front_stays base left (now after) b may);
    }
appends one_more no_more Failed end bytes before after at_end ch base tail st = record {
  done = λ e. absurd (cc e);
  leaves = elim ch.does [
    | inl n ↦
        let low : length base ≤ end = omega (arith, at_end, ap length st.contents, length-append base tail) in
        let b : IsBase base (now after) = base_after base (now before) (now after) end (length bytes) low st.base_stays n.stands in
        noted one_more (Write end (length bytes)) before after (StartsWith base) ch.first ch.possible n (λ left may. front_stays base left (now after) b may)
    | inr same ↦ stays no_more before after (StartsWith base) ch.first ch.possible same
  ];
}

pub appends_told : OneMore → NoMore → (answer : Act) (end : ℕ) (bytes : List ℕ) (old new : Option DiskTold) → IfSome old (λ before. end ≡ length before.contents)
    → IfSome old (λ before. IsSomeAnd new (λ after. Changes answer (Write end (length bytes)) (overwritten end bytes before.contents) before after))
    → IfSome old (λ before. IsSomeAnd new (λ after. (base tail : List ℕ) → Staged base tail before → Appends answer base (tail ++ bytes) before after))
appends_told one_more no_more answer end bytes None new w h = tt
appends_told one_more no_more answer end bytes (Some before) None w h = absurd h
appends_told one_more no_more answer end bytes (Some before) (Some after) w h = appends one_more no_more answer end bytes before after w h

longer : (answer : Act) (end : ℕ) (bytes : List ℕ) (before after : DiskTold) → end ≡ length before.contents
    → Changes answer (Write end (length bytes)) (overwritten end bytes before.contents) before after → answer ≡ Ready → length after.contents ≡ end + length bytes
longer Ready end bytes before after e ch _ = omega (arith, e, ap length (ch.does.1 ∙ overwritten_end bytes before.contents end e), length-append before.contents bytes)
longer Failed end bytes before after e ch r = absurd (cc r)

pub longer_told : (answer : Act) (end : ℕ) (bytes : List ℕ) (old new : Option DiskTold) → IfSome old (λ before. end ≡ length before.contents)
    → IfSome old (λ before. IsSomeAnd new (λ after. Changes answer (Write end (length bytes)) (overwritten end bytes before.contents) before after))
    → answer ≡ Ready → IfSome old (λ before. IsSomeAnd new (λ after. length after.contents ≡ end + length bytes))
longer_told answer end bytes None new w h r = tt
longer_told answer end bytes (Some before) None w h r = absurd h
longer_told answer end bytes (Some before) (Some after) w h r = longer answer end bytes before after w h r

-- ---- a sync

-- what the laws say: a sync leaves what a read gave
abbrev pub AfterSync : Type 0
AfterSync = (bytes left : List ℕ) → MayLeave (synced_at bytes) left → left ≡ bytes

settles : OneMore → NoMore → AfterSync → (answer : Act) (before after : DiskTold) → Syncs answer before after → Settles answer before after
settles one_more no_more after_sync Ready before after sy = record {
  done = λ _. record { contents = sy.settles.1; sure = sy.settles.0.stands };
  leaves = noted one_more (Sync before.contents) before after (λ left. left ≡ before.contents) sy.first sy.possible sy.settles.0
      (λ left may. after_sync before.contents left (subst (λ s. MayLeave s left) sy.settles.0.stands may));
}
settles one_more no_more after_sync Failed before after sy = record {
  done = λ e. absurd (cc e);
  leaves = stays no_more before after (λ left. left ≡ before.contents) sy.first sy.possible sy.settles;
}

pub settles_told : OneMore → NoMore → AfterSync → (answer : Act) (old new : Option DiskTold) → IfSome old (λ before. IsSomeAnd new (λ after. Syncs answer before after))
    → IfSome old (λ before. IsSomeAnd new (λ after. Settles answer before after))
settles_told one_more no_more after_sync answer None new h = tt
settles_told one_more no_more after_sync answer (Some before) None h = absurd h
settles_told one_more no_more after_sync answer (Some before) (Some after) h = settles one_more no_more after_sync answer before after h

-- ---- a gate

-- what the laws say: a write inside leaves all but what it writes
abbrev pub Inside : Type 0
Inside = (bytes left : List ℕ) (at count : ℕ) → at + count ≤ length bytes → MayLeave (after_act (synced_at bytes) (Write at count)) left
    → left ≡ take at bytes ++ (take count (drop at left) ++ drop (at + count) bytes)

-- the part behind the gate
behind_gate : (front back : List ℕ) (shut at : ℕ) → at ≡ length front → drop (at + 1) (front ++ shut ∷ back) ≡ back
behind_gate front back shut at e =
    let same : front ++ shut ∷ back ≡ (front ++ shut ∷ []) ++ back = sym (append_assoc front (shut ∷ []) back) in
    ap (drop (at + 1)) same ∙ drop_at (front ++ shut ∷ []) back (at + 1) (omega (arith, e, length-append front (shut ∷ [])))

-- one byte is one
one_byte : (bytes : List ℕ) → length bytes ≡ 1 → (byte : ℕ) × (bytes ≡ byte ∷ [])
one_byte [] e = absurd (omega (arith, e))
one_byte (x ∷ []) e = (x, refl)
one_byte (x ∷ y ∷ xs) e = absurd (omega (arith, e))

gate_leaves : Inside → (front back left : List ℕ) (shut at : ℕ) → at ≡ length front → MayLeave (after_act (synced_at (front ++ shut ∷ back)) (Write at 1)) left → HasGate front back left
gate_leaves inside front back left shut at e may =
    let bytes = front ++ shut ∷ back in
    let long : length bytes ≡ length front + (length back + 1) = omega (arith, length-append front (shut ∷ back)) in
    let all : left ≡ take at bytes ++ (take 1 (drop at left) ++ drop (at + 1) bytes) = inside bytes left at 1 (omega (arith, long, e)) may in
    let least : length bytes ≤ length left = may.not_shorter in
    let rest : length (drop at left) ≡ length left - at = length-drop at left in
    let one : length (take 1 (drop at left)) ≡ 1 = length-take-le 1 (drop at left) (omega (arith, rest, least, long, e)) in
    let byte = one_byte (take 1 (drop at left)) one in (
      byte.0,
      all ∙ ap (λ l. l ++ (take 1 (drop at left) ++ drop (at + 1) bytes)) (take_at front (shut ∷ back) at (sym e))
          ∙ ap (λ l. front ++ (l ++ drop (at + 1) bytes)) byte.1 ∙ ap (λ l. front ++ (byte.0 ∷ l)) (behind_gate front back shut at e),
    )

gate_written : (front back : List ℕ) (shut at : ℕ) → at ≡ length front → overwritten at (1 ∷ []) (front ++ shut ∷ back) ≡ front ++ 1 ∷ back
gate_written front back shut at e =
    ap (λ l. l ++ (1 ∷ []) ++ drop (at + 1) (front ++ shut ∷ back)) (take_at front (shut ∷ back) at (sym e))
    ∙ ap (λ l. (front ++ (1 ∷ [])) ++ l) (behind_gate front back shut at e) ∙ append_assoc front (1 ∷ []) back

opens : OneMore → NoMore → Inside → (answer : Act) (at : ℕ) (before after : DiskTold)
    → Changes answer (Write at 1) (overwritten at (1 ∷ []) before.contents) before after
    → (front back : List ℕ) (shut : ℕ) → at ≡ length front → IsSure (front ++ shut ∷ back) before → Opens answer front back before after
opens one_more no_more inside answer at before after ch front back shut e s =
    by_answer answer ch
  where
    here : Noted (Write at 1) before after → (left : List ℕ) → MayLeave (now after) left → HasGate front back left
    here n left may =
        let stands : now after ≡ after_act (synced_at (front ++ shut ∷ back)) (Write at 1) = n.stands ∙ ap (λ x. after_act x (Write at 1)) s.sure in
        gate_leaves inside front back left shut at e (subst (λ x. MayLeave x left) stands may)

    by_answer : (answer : Act) → Changes answer (Write at 1) (overwritten at (1 ∷ []) before.contents) before after → Opens answer front back before after
    by_answer Ready ch = record {
      done = λ _. ch.does.1 ∙ ap (overwritten at (1 ∷ [])) s.contents ∙ gate_written front back shut at e;
      leaves = noted one_more (Write at 1) before after (HasGate front back) ch.first ch.possible ch.does.0 (here ch.does.0);
    }
    by_answer Failed ch = record {
      done = λ r. absurd (cc r);
      leaves = elim ch.does [
        | inl n ↦ noted one_more (Write at 1) before after (HasGate front back) ch.first ch.possible n (here n)
        | inr same ↦ stays no_more before after (HasGate front back) ch.first ch.possible same
      ];
    }

pub opens_told : OneMore → NoMore → Inside → (answer : Act) (at : ℕ) (old new : Option DiskTold)
    → IfSome old (λ before. IsSomeAnd new (λ after. Changes answer (Write at 1) (overwritten at (1 ∷ []) before.contents) before after))
    → IfSome old (λ before. IsSomeAnd new (λ after. (front back : List ℕ) (shut : ℕ) → at ≡ length front → IsSure (front ++ shut ∷ back) before → Opens answer front back before after))
opens_told one_more no_more inside answer at None new h = tt
opens_told one_more no_more inside answer at (Some before) None h = absurd h
opens_told one_more no_more inside answer at (Some before) (Some after) h = opens one_more no_more inside answer at before after h

-- ---- a cut

cut_leaves : (front back left : List ℕ) (end : ℕ) → end ≡ length front → MayLeave (after_act (synced_at (front ++ back)) (Cut end)) left → StartsWith front left
cut_leaves front back left end e may =
    let bytes = front ++ back in
    let low : 0 + end ≤ min (length bytes) end = grind (arith, e, length-append front back) in
    let same : take end left ≡ take end bytes = may.stays 0 end low (All-nil (IsApart 0 end)) in
    (drop end left, sym (take-append-drop end left) ∙ ap (λ l. l ++ drop end left) (same ∙ take_at front back end (sym e)))

shortens : OneMore → NoMore → (answer : Act) (end : ℕ) (before after : DiskTold) → Changes answer (Cut end) (take end before.contents) before after
    → (front back : List ℕ) → end ≡ length front → IsSure (front ++ back) before → Shortens answer front before after
shortens one_more no_more answer end before after ch front back e s = by_answer answer ch
  where
    here : Noted (Cut end) before after → (left : List ℕ) → MayLeave (now after) left → StartsWith front left
    here n left may =
        let stands : now after ≡ after_act (synced_at (front ++ back)) (Cut end) = n.stands ∙ ap (λ x. after_act x (Cut end)) s.sure in
        cut_leaves front back left end e (subst (λ x. MayLeave x left) stands may)

    by_answer : (answer : Act) → Changes answer (Cut end) (take end before.contents) before after → Shortens answer front before after
    by_answer Ready ch = record {
      done = λ _. ch.does.1 ∙ ap (take end) s.contents ∙ take_at front back end (sym e);
      leaves = noted one_more (Cut end) before after (StartsWith front) ch.first ch.possible ch.does.0 (here ch.does.0);
    }
    by_answer Failed ch = record {
      done = λ r. absurd (cc r);
      leaves = elim ch.does [
        | inl n ↦ noted one_more (Cut end) before after (StartsWith front) ch.first ch.possible n (here n)
        | inr same ↦ stays no_more before after (StartsWith front) ch.first ch.possible same
      ];
    }

pub shortens_told : OneMore → NoMore → (answer : Act) (end : ℕ) (old new : Option DiskTold)
    → IfSome old (λ before. IsSomeAnd new (λ after. Changes answer (Cut end) (take end before.contents) before after))
    → IfSome old (λ before. IsSomeAnd new (λ after. (front back : List ℕ) → end ≡ length front → IsSure (front ++ back) before → Shortens answer front before after))
shortens_told one_more no_more answer end None new h = tt
shortens_told one_more no_more answer end (Some before) None h = absurd h
shortens_told one_more no_more answer end (Some before) (Some after) h = shortens one_more no_more answer end before after h

-- ---- one call behind another

-- what a write behind the end comes to, where the disk tells
abbrev pub Appended : Act → List ℕ → Option DiskTold → Option DiskTold → Type 0
Appended answer bytes old new = IfSome old (λ before. IsSomeAnd new (λ after. (base tail : List ℕ) → Staged base tail before → Appends answer base (tail ++ bytes) before after))

abbrev pub Sured : Act → Option DiskTold → Option DiskTold → Type 0
Sured answer old new = IfSome old (λ before. IsSomeAnd new (λ after. Settles answer before after))

abbrev pub Staging : Act → List ℕ → Option DiskTold → Option DiskTold → Type 0
Staging answer bytes old new = IfSome old (λ before. IsSomeAnd new (λ after. (base : List ℕ) → IsSure base before → Stages answer base bytes before after))

pub two_appended : (answer : Act) (one other : List ℕ) (old mid new : Option DiskTold) → Appended Ready one old mid → Appended answer other mid new → Appended answer (one ++ other) old new
two_appended answer one other None mid new p q = tt
two_appended answer one other (Some before) None new p q = absurd p
two_appended answer one other (Some before) (Some between) None p q = absurd q
two_appended answer one other (Some before) (Some between) (Some after) p q = λ base tail st.
    let first = p base tail st in
    let second = q base (tail ++ one) (first.done refl) in
    record {
      done = λ r. subst (λ (l : List ℕ). Staged base l after) (append_assoc tail one other) (second.done r);
      leaves = goes_on before between after (StartsWith base) first.leaves second.leaves;
    }

pub not_appended : (bytes others : List ℕ) (old new : Option DiskTold) → Appended Failed bytes old new → Staging Failed others old new
not_appended bytes others None new p = tt
not_appended bytes others (Some before) None p = absurd p
not_appended bytes others (Some before) (Some after) p = λ base s. record {
  done = λ r. absurd (cc r);
  leaves = (p base [] (sure_staged base before s)).leaves;
}

pub appended_settled : (answer : Act) (bytes : List ℕ) (old mid new : Option DiskTold) → Appended Ready bytes old mid → Sured answer mid new → Staging answer bytes old new
appended_settled answer bytes None mid new p q = tt
appended_settled answer bytes (Some before) None new p q = absurd p
appended_settled answer bytes (Some before) (Some between) None p q = absurd q
appended_settled answer bytes (Some before) (Some between) (Some after) p q = λ base s.
    let first = p base [] (sure_staged base before s) in
    let here : between.contents ≡ base ++ bytes = (first.done refl).contents in
    record {
      done = λ r. subst (λ (l : List ℕ). IsSure l after) here (q.done r);
      leaves = goes_on before between after (StartsWith base) first.leaves
          (weaker between after (λ left. left ≡ between.contents) (StartsWith base) (λ left e. (bytes, e ∙ here)) q.leaves);
    }

-- a disk that tells goes on, and one that doesn't never begins
abbrev pub Tells : Option DiskTold → Option DiskTold → Type 0
Tells old new = is_some new ≡ is_some old

-- ---- a gate and a cut, made sure of

abbrev pub Opened : Act → ℕ → Option DiskTold → Option DiskTold → Type 0
Opened answer gate old new = IfSome old (λ before. IsSomeAnd new (λ after. (front back : List ℕ) (shut : ℕ) → gate ≡ length front → IsSure (front ++ shut ∷ back) before → Opens answer front back before after))

abbrev pub Turned : Act → ℕ → Option DiskTold → Option DiskTold → Type 0
Turned answer gate old new = IfSome old (λ before. IsSomeAnd new (λ after. (front back : List ℕ) (shut : ℕ) → gate ≡ length front → IsSure (front ++ shut ∷ back) before → Turns answer front back before after))

pub not_opened : (gate : ℕ) (old new : Option DiskTold) → Opened Failed gate old new → Turned Failed gate old new
not_opened gate None new p = tt
not_opened gate (Some before) None p = absurd p
not_opened gate (Some before) (Some after) p = λ front back shut e s. record { done = λ r. absurd (cc r); leaves = (p front back shut e s).leaves }

pub opened_settled : (answer : Act) (gate : ℕ) (old mid new : Option DiskTold) → Opened Ready gate old mid → Sured answer mid new → Turned answer gate old new
opened_settled answer gate None mid new p q = tt
opened_settled answer gate (Some before) None new p q = absurd p
opened_settled answer gate (Some before) (Some between) None p q = absurd q
opened_settled answer gate (Some before) (Some between) (Some after) p q = λ front back shut e s.
    let first = p front back shut e s in
    let here : between.contents ≡ front ++ 1 ∷ back = first.done refl in
    record {
      done = λ r. subst (λ (l : List ℕ). IsSure l after) here (q.done r);
      leaves = goes_on before between after (HasGate front back) first.leaves
          (weaker between after (λ left. left ≡ between.contents) (HasGate front back) (λ left e. (1, e ∙ here)) q.leaves);
    }

abbrev pub Shortened : Act → ℕ → Option DiskTold → Option DiskTold → Type 0
Shortened answer end old new = IfSome old (λ before. IsSomeAnd new (λ after. (front back : List ℕ) → end ≡ length front → IsSure (front ++ back) before → Shortens answer front before after))

abbrev pub Trimmed : Act → ℕ → Option DiskTold → Option DiskTold → Type 0
Trimmed answer end old new = IfSome old (λ before. IsSomeAnd new (λ after. (front back : List ℕ) → end ≡ length front → IsSure (front ++ back) before → Trims answer front before after))

pub not_shortened : (end : ℕ) (old new : Option DiskTold) → Shortened Failed end old new → Trimmed Failed end old new
not_shortened end None new p = tt
not_shortened end (Some before) None p = absurd p
not_shortened end (Some before) (Some after) p = λ front back e s. record { done = λ r. absurd (cc r); leaves = (p front back e s).leaves }

pub shortened_settled : (answer : Act) (end : ℕ) (old mid new : Option DiskTold) → Shortened Ready end old mid → Sured answer mid new → Trimmed answer end old new
shortened_settled answer end None mid new p q = tt
shortened_settled answer end (Some before) None new p q = absurd p
shortened_settled answer end (Some before) (Some between) None p q = absurd q
shortened_settled answer end (Some before) (Some between) (Some after) p q = λ front back e s.
    let first = p front back e s in
    let here : between.contents ≡ front = first.done refl in
    record {
      done = λ r. subst (λ (l : List ℕ). IsSure l after) here (q.done r);
      leaves = goes_on before between after (StartsWith front) first.leaves
          (weaker between after (λ left. left ≡ between.contents) (StartsWith front) (λ left e. ([], e ∙ here ∙ sym (append-nil front))) q.leaves);
    }

-- ---- a new file

begun_contents : (bytes : List ℕ) (before between after : DiskTold) → Changes Ready (Cut 0) (take 0 before.contents) before between
    → Changes Ready (Write 0 (length bytes)) (overwritten 0 bytes between.contents) between after → after.contents ≡ bytes
begun_contents bytes before between after p q =
    let none : between.contents ≡ [] = p.does.1 in
    q.does.1 ∙ ap (overwritten 0 bytes) none ∙ overwritten_end bytes [] 0 refl

pub begun_told : (answer : Act) (bytes : List ℕ) (old one two new : Option DiskTold)
    → IfSome old (λ before. IsSomeAnd one (λ after. Changes Ready (Cut 0) (take 0 before.contents) before after))
    → IfSome one (λ before. IsSomeAnd two (λ after. Changes Ready (Write 0 (length bytes)) (overwritten 0 bytes before.contents) before after))
    → Sured answer two new → answer ≡ Ready → IfSome old (λ _. IsSomeAnd new (λ after. IsSure bytes after))
begun_told answer bytes None one two new p q s r = tt
begun_told answer bytes (Some before) None two new p q s r = absurd p
begun_told answer bytes (Some before) (Some between) None new p q s r = absurd q
begun_told answer bytes (Some before) (Some between) (Some behind) None p q s r = absurd s
begun_told answer bytes (Some before) (Some between) (Some behind) (Some after) p q s r =
    subst (λ (l : List ℕ). IsSure l after) (begun_contents bytes before between behind p q) (s.done r)

-- a place inside what a file has grown to
pub grown_inside : (gate total : ℕ) (old new : Option DiskTold) → Tells old new → IfSome old (λ before. IsSomeAnd new (λ after. length after.contents ≡ total)) → gate ≤ total
    → IfSome new (λ after. gate ≤ length after.contents)
grown_inside gate total None None t p h = tt
grown_inside gate total None (Some after) t p h = absurd (cc t)
grown_inside gate total (Some before) None t p h = tt
grown_inside gate total (Some before) (Some after) t p h = omega (arith, p, h)

pub end_inside : (end len : ℕ) (old : Option DiskTold) → IfSome old (λ file. len ≡ length file.contents) → end ≤ len → IfSome old (λ file. end ≤ length file.contents)
end_inside end len None p h = tt
end_inside end len (Some file) p h = omega (arith, p, h)
