-- The registers of each start, line by line.
use Rattle.std.proofs.Common.{◌≡◌, ◌≢◌, ◌∙◌, ℕ, zero, suc, ◌+◌, nat_eq, ◌&&◌, Bool, true, false, cond, IsTrue, ◌↔◌, List, [], ◌∷◌, ◌++◌, length, take, Option, Some, Result, Ok, Err, IfOk, OnOk, unwrap_or, ◌⊎◌, inl, inr, refl, sym, ap, subst, arith}
use Rattle.std.specs.List.{slice_get}
use Rattle.std.specs.BTreeMap.{BTreeMap, get, Updates}
use Rattle.std.specs.Ordering.{nat_cmp, is_eq}
use Rattle.std.specs.declared.cmp.Ordering.{Ordering}
use Rattle.std.specs.declared.cmp.Ordering.TheVariants.{Less, Equal, Greater}
use Rattle.std.proofs.lemmas.Map.Lookups.{exact_unsigned}
use Rattle.std.proofs.lemmas.Bool.{both_ways, eqb-true, eq-eqb}
use Rattle.regs_service.specs.Registers.{Sums, fresh, step}
use Rattle.trace_check.specs.declared.fact.Fact.{Fact}
use Rattle.trace_check.specs.declared.fact.Fact.TheVariants.{Body, Name, State, Entry, Made, Left, Closed, Gone, Outside}
use Rattle.trace_check.specs.declared.fact.Entry as entry
use Rattle.trace_check.specs.declared.sentence.Sentence.TheVariants as sentence
use Rattle.trace_check.specs.Facts.{At}
use Rattle.trace_check.specs.Sentences.{Keeps, state_in}
use Rattle.trace_check.specs.States.{IsRight, state_of, state_with, with_state}
use Rattle.trace_check.proofs.Steps.{not_equal}
use Rattle.trace_check.proofs.Marking.{same_fact}
use Rattle.trace_check.proofs.Judging.{iff_by}
use Rattle.trace_check.proofs.Serving.{state_more, take_more_at}

-- ---- one map

equal_only : (o : Ordering) → is_eq o ≡ true → o ≡ Equal
equal_only Equal e = refl
equal_only Less e = cc
equal_only Greater e = cc

apart : (start q : ℕ) → (start ≡ q → ⊥) → is_eq (nat_cmp start q) ≡ false
apart start q ne = not_equal (is_eq (nat_cmp start q)) (λ e. ne (exact_unsigned start q (equal_only (nat_cmp start q) e)))

state_when : (old mid new : BTreeMap ℕ Sums) (start q : ℕ) (s : Sums) (b : Bool) → nat_eq start q ≡ b → ((other : ℕ) → other ≢ start → get nat_cmp mid other ≡ get nat_cmp old other) → Updates nat_cmp mid new start (Some s)
    → state_of new q ≡ cond b s (state_of old q)
state_when old mid new start q s true test others updates =
    let same = eqb-true start q test in
    ap (λ (o : Option Sums). unwrap_or o fresh) (subst (λ (k : ℕ). get nat_cmp new k ≡ Some s) same updates.1)
state_when old mid new start q s false test others updates =
    let ne : start ≡ q → ⊥ = λ e. both_ways (nat_eq start q) test (eq-eqb start q e) in
    ap (λ (o : Option Sums). unwrap_or o fresh) (updates.2 q (apart start q ne) ∙ others q (λ e. ne (sym e)))

pub put_state : (old mid new : BTreeMap ℕ Sums) (start : ℕ) (s : Sums) → ((other : ℕ) → other ≢ start → get nat_cmp mid other ≡ get nat_cmp old other) → Updates nat_cmp mid new start (Some s)
    → (q : ℕ) → state_of new q ≡ with_state start q s (state_of old q)
put_state old mid new start s others updates q = state_when old mid new start q s (nat_eq start q) refl others updates

-- ---- one line

pub unchanged : (start : ℕ) (state : Sums) (f : Fact) → ((e : entry.Entry) → f ≡ Entry e → ⊥) → state_with start state f ≡ state
unchanged start state (Entry e) h = absurd (h e refl)
unchanged start state (Body _ _) h = refl
unchanged start state (Name _ _) h = refl
unchanged start state (State _ _) h = refl
unchanged start state (Made _) h = refl
unchanged start state (Left _) h = refl
unchanged start state (Closed _) h = refl
unchanged start state (Gone _) h = refl
unchanged start state Outside h = refl

when_not : (a b : Bool) (x y : Sums) → b ≡ false → cond (a && b) x y ≡ y
when_not true b x y e = ap (λ c. cond c x y) e
when_not false b x y e = refl

-- an entry that didn't run changes nothing
pub not_run : (start : ℕ) (state : Sums) (e : entry.Entry) → e.ran ≡ false → state_with start state (Entry e) ≡ state
not_run start state e h = when_not (nat_eq e.start start) e.ran (step state e.request).1 state h

with_when : (b : Bool) (changed start : ℕ) (ran : Bool) (services : ℕ → Sums) (request : List ℕ) → nat_eq changed start ≡ b → ran ≡ true
    → cond b (step (services changed) request).1 (services start) ≡ cond (b && ran) (step (services start) request).1 (services start)
with_when true changed start ran services request e h =
    let same = eqb-true changed start e in
    ap (λ (n : ℕ). (step (services n) request).1) same ∙ sym (ap (λ c. cond c (step (services start) request).1 (services start)) h)
with_when false changed start ran services request e h = refl

-- an entry that ran steps its start
pub has_run : (old : BTreeMap ℕ Sums) (start : ℕ) (e : entry.Entry) → e.ran ≡ true
    → with_state e.start start (step (state_of old e.start) e.request).1 (state_of old start) ≡ state_with start (state_of old start) (Entry e)
has_run old start e h = with_when (nat_eq e.start start) e.start start e.ran (state_of old) e.request refl h

pub right_run : (old : BTreeMap ℕ Sums) (e : entry.Entry) → e.ran ≡ true → (e.reply ≡ (step (state_of old e.start) e.request).0) ↔ IsRight old (Entry e)
right_run old e ran =
    (λ right other is did. let same : e ≡ other = cc in subst (λ (x : entry.Entry). x.reply ≡ (step (state_of old x.start) x.request).0) same right, λ all. all e refl ran)

pub right_still : (old : BTreeMap ℕ Sums) (e : entry.Entry) → e.ran ≡ false → IsRight old (Entry e)
right_still old e ran other is did = let same : e ≡ other = cc in absurd (both_ways other.ran (subst (λ (x : entry.Entry). x.ran ≡ false) same ran) did)

-- ---- all lines

pub right_keeps : (facts : List Fact) (place : ℕ) (f : Fact) (services : BTreeMap ℕ Sums) → At facts place f → ((start : ℕ) → state_of services start ≡ state_in start (take place facts))
    → IsRight services f ↔ Keeps sentence.Served facts place
right_keeps facts place f services at states = (
  λ right e is ran. right e (same_fact facts place place f (Entry e) refl at is) ran ∙ ap (λ (s : Sums). (step s e.request).0) (states e.start),
  λ keeps e is ran. keeps e (at ∙ ap (λ (x : Fact). Some x) is) ran ∙ ap (λ (s : Sums). (step s e.request).0) (sym (states e.start)),
)

pub states_more : (facts : List Fact) (place : ℕ) (f : Fact) (old new : BTreeMap ℕ Sums) → At facts place f → ((start : ℕ) → state_of old start ≡ state_in start (take place facts))
    → ((start : ℕ) → state_of new start ≡ state_with start (state_of old start) f) → (start : ℕ) → state_of new start ≡ state_in start (take (place + 1) facts)
states_more facts place f old new at states after start =
    let next : place + 1 ≡ suc place = omega arith in
    let one : take (place + 1) facts ≡ take (suc place) facts = ap (λ n. take n facts) next in
    after start ∙ (ap (λ (s : Sums). state_with start s f) (states start)
    ∙ (sym (state_more start (take place facts) f) ∙ ap (state_in start) (sym (one ∙ take_more_at facts place f at))))

-- a member of a list with one more
pub got_more : (xs : List Bool) (last is : Bool) (place : ℕ) → slice_get (xs ++ last ∷ []) place ≡ Some is → (slice_get xs place ≡ Some is) ⊎ ((place ≡ length xs) × (last ≡ is))
got_more [] last is zero e = inr (refl, cc)
got_more [] last is (suc place) e = absurd cc
got_more (x ∷ xs) last is zero e = inl e
got_more (x ∷ xs) last is (suc place) e = elim (got_more xs last is place e) [ inl h ↦ inl h | inr h ↦ inr (omega (arith, h.0), h.1) ]

pub each_more : (facts : List Fact) (xs new : List Bool) (last : Bool) (place : ℕ) → length xs ≡ place → new ≡ xs ++ last ∷ [] → (IsTrue last ↔ Keeps sentence.Served facts place)
    → ((p : ℕ) (is : Bool) → slice_get xs p ≡ Some is → IsTrue is ↔ Keeps sentence.Served facts p) → (p : ℕ) (is : Bool) → slice_get new p ≡ Some is → IsTrue is ↔ Keeps sentence.Served facts p
each_more facts xs new last place len put own each p is e =
    elim (got_more xs last is p (subst (λ (l : List Bool). slice_get l p ≡ Some is) put e)) [
      | inl h ↦ each p is h
      | inr h ↦
          let here : IsTrue last ↔ Keeps sentence.Served facts p = subst (λ (q : ℕ). IsTrue last ↔ Keeps sentence.Served facts q) (sym (h.0 ∙ len)) own in
          subst (λ (b : Bool). IsTrue b ↔ Keeps sentence.Served facts p) h.1 here
    ]

grows : (xs : List Bool) (last : Bool) → length (xs ++ last ∷ []) ≡ length xs + 1
grows [] last = refl
grows (x ∷ xs) last = omega (arith, grows xs last)

pub longer_by_one : (xs new : List Bool) (last : Bool) (place : ℕ) → length xs ≡ place → new ≡ xs ++ last ∷ [] → length new ≡ place + 1
longer_by_one xs new last place len put = ap length put ∙ (grows xs last ∙ ap (λ n. n + 1) len)

-- a reply that is compared
pub same_reply : (b : Bool) (told own entry reply : List ℕ) (service state : Sums) (asked request : List ℕ) → IsTrue b ↔ (told ≡ own) → told ≡ entry → own ≡ reply → reply ≡ (step service asked).0 → service ≡ state → asked ≡ request
    → IsTrue b ↔ (entry ≡ (step state request).0)
same_reply b told own entry reply service state asked request is p q r s t =
    let right : own ≡ (step state request).0 = q ∙ (r ∙ (ap (λ (x : Sums). (step x asked).0) s ∙ ap (λ (x : List ℕ). (step state x).0) t)) in
    (λ e. sym p ∙ (is.0 e ∙ right), λ e. is.1 (p ∙ (e ∙ sym right)))

-- the state that is put back
pub put_step : (old mid new : BTreeMap ℕ Sums) (start : ℕ) (s service : Sums) (asked request : List ℕ) → service ≡ state_of old start → asked ≡ request → s ≡ (step service asked).1
    → ((other : ℕ) → other ≢ start → get nat_cmp mid other ≡ get nat_cmp old other) → Updates nat_cmp mid new start (Some s)
    → (q : ℕ) → state_of new q ≡ with_state start q (step (state_of old start) request).1 (state_of old q)
put_step old mid new start s service asked request a b c others updates q =
    let whole : s ≡ (step (state_of old start) request).1 = c ∙ (ap (λ (x : Sums). (step x asked).1) a ∙ ap (λ (x : List ℕ). (step (state_of old start) x).1) b) in
    put_state old mid new start s others updates q ∙ ap (λ (x : Sums). with_state start q x (state_of old q)) whole

pub ok_right : {E : Type 0} (r : Result Bool E) (old : BTreeMap ℕ Sums) (e : entry.Entry) → e.ran ≡ true → IfOk r (λ b. IsTrue b ↔ (e.reply ≡ (step (state_of old e.start) e.request).0)) → IfOk r (λ b. IsTrue b ↔ IsRight old (Entry e))
ok_right (Ok b) old e ran h = iff_by h (right_run old e ran)
ok_right (Err f) old e ran h = h

pub ok_after : {E : Type 0} (r : Result Bool E) (old new : BTreeMap ℕ Sums) (e : entry.Entry) → e.ran ≡ true
    → OnOk r ((start : ℕ) → state_of new start ≡ with_state e.start start (step (state_of old e.start) e.request).1 (state_of old start))
    → OnOk r ((start : ℕ) → state_of new start ≡ state_with start (state_of old start) (Entry e))
ok_after (Ok b) old new e ran h = λ start. h start ∙ has_run old start e ran
ok_after (Err f) old new e ran h = h
