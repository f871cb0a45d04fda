-- What ran in a start, line by line and as a whole.
use Rattle.std.proofs.Common.{◌≡◌, ◌∙◌, ℕ, zero, suc, nat_eq, ◌&&◌, Bool, true, false, cond, List, [], ◌∷◌, ◌++◌, take, Option, Some, None, refl, sym, ap, subst}
use Rattle.std.specs.List.{cons_option}
use Rattle.std.proofs.lemmas.Bool.{eq-eqb, eqb-true}
use Rattle.std.proofs.lemmas.List.Elements.{filter_map-append}
use Rattle.regs_service.specs.Served.{Ran, Served, replies_of, replies_to, requests_of, state_after}
use Rattle.regs_service.specs.Registers.{Sums, fresh, step}
use Rattle.trace_check.specs.declared.fact.Fact.{Fact}
use Rattle.trace_check.specs.declared.fact.Fact.TheVariants.{Body, Name, State, Entry, Made, Left, Closed, Gone, Outside}
use Rattle.trace_check.specs.declared.fact.Entry as entry
use Rattle.trace_check.specs.declared.sentence.Sentence.TheVariants as sentence
use Rattle.trace_check.specs.Facts.{At}
use Rattle.trace_check.specs.Sentences.{Holds, Keeps, ran_of, ran_in, state_in}
use Rattle.trace_check.specs.States.{state_with}

-- ---- entries that ran in a start

abbrev pub is_run : ℕ → entry.Entry → Bool
is_run start e = nat_eq e.start start && e.ran

both : (a b : Bool) → (a && b) ≡ true → (a ≡ true) × (b ≡ true)
both true true e = (refl, refl)
both true false e = cc
both false b e = cc

both_true : (a b : Bool) → a ≡ true → b ≡ true → (a && b) ≡ true
both_true true b p q = q
both_true false b p q = cc

abbrev pub the_run : entry.Entry → Ran
the_run e = record { request = e.request; reply = e.reply }

ran_entry : (start : ℕ) (e : entry.Entry) → is_run start e ≡ true → ran_of start (Entry e) ≡ Some (the_run e)
ran_entry start e run = ap (λ (b : Bool). cond b (Some (the_run e)) None) run

some_when : (b : Bool) (r ran : Ran) → cond b (Some r) None ≡ Some ran → (b ≡ true) × (r ≡ ran)
some_when true r ran e = (refl, cc)
some_when false r ran e = cc

ran_is : (start : ℕ) (f : Fact) (ran : Ran) → ran_of start f ≡ Some ran → (e : entry.Entry) × (f ≡ Entry e) × (is_run start e ≡ true) × (the_run e ≡ ran)
ran_is start (Entry e) ran is = let w = some_when (is_run start e) (the_run e) ran is in (e, refl, w.0, w.1)
ran_is start (Body _ _) ran is = absurd cc
ran_is start (Name _ _) ran is = absurd cc
ran_is start (State _ _) ran is = absurd cc
ran_is start (Made _) ran is = absurd cc
ran_is start (Left _) ran is = absurd cc
ran_is start (Closed _) ran is = absurd cc
ran_is start (Gone _) ran is = absurd cc
ran_is start Outside ran is = absurd cc

-- ---- from the left

abbrev pub after : Sums → List Ran → Sums
after state runs = state_after step state (requests_of runs)

-- each entry of the start that ran has the reply of the state before it
abbrev pub AreRight : ℕ → Sums → List Fact → Type 0
AreRight start state facts =
    (p : ℕ) (e : entry.Entry) → At facts p (Entry e) → is_run start e ≡ true → e.reply ≡ (step (after state (ran_in start (take p facts))) e.request).0

left_with : (start : ℕ) (state : Sums) (f : Fact) (fs : List Fact) (o : Option Ran) → ran_of start f ≡ o → AreRight start state (f ∷ fs)
    → ((s : Sums) → AreRight start s fs → Served step s (ran_in start fs)) → Served step state (cons_option o (ran_in start fs))
left_with start state f fs None is right more =
    more state (λ p e at run. right (suc p) e at run ∙ ap (λ (o : Option Ran). (step (after state (cons_option o (ran_in start (take p fs)))) e.request).0) is)
left_with start state f fs (Some ran) is right more =
    let own = ran_is start f ran is in
    let head : ran.reply ≡ (step state ran.request).0 =
    subst (λ (r : Ran). r.reply ≡ (step state r.request).0) own.3 (right 0 own.0 (ap (λ (x : Fact). Some x) own.1) own.2) in
    let tail = more (step state ran.request).1
    (λ p e at run. right (suc p) e at run ∙ ap (λ (o : Option Ran). (step (after state (cons_option o (ran_in start (take p fs)))) e.request).0) is) in
    λ i. head i ∷ tail i

pub served_left : (start : ℕ) (state : Sums) (facts : List Fact) → AreRight start state facts → Served step state (ran_in start facts)
served_left start state [] right = refl
served_left start state (f ∷ fs) right = left_with start state f fs (ran_of start f) refl right (λ s r. served_left start s fs r)

right_first : (start : ℕ) (state : Sums) (e : entry.Entry) (fs : List Fact) (o : Option Ran) → ran_of start (Entry e) ≡ o → is_run start e ≡ true
    → Served step state (cons_option o (ran_in start fs)) → e.reply ≡ (step state e.request).0
right_first start state e fs None is run served = let h = ran_entry start e run in absurd cc
right_first start state e fs (Some ran) is run served =
    let h = ran_entry start e run in
    let same : the_run e ≡ ran = cc in
    let head : ran.reply ≡ (step state ran.request).0 = cc in
    subst (λ (r : Ran). r.reply ≡ (step state r.request).0) (sym same) head

right_more : (start : ℕ) (state : Sums) (f : Fact) (fs : List Fact) (o : Option Ran) → ran_of start f ≡ o → Served step state (cons_option o (ran_in start fs))
    → ((s : Sums) → Served step s (ran_in start fs) → AreRight start s fs)
    → (p : ℕ) (e : entry.Entry) → At fs p (Entry e) → is_run start e ≡ true → e.reply ≡ (step (after state (cons_option o (ran_in start (take p fs)))) e.request).0
right_more start state f fs None is served more p e at run = more state served p e at run
right_more start state f fs (Some ran) is served more p e at run =
    let tail : replies_of (ran_in start fs) ≡ replies_to step (step state ran.request).1 (requests_of (ran_in start fs)) = cc in
    more (step state ran.request).1 tail p e at run

pub right_left : (start : ℕ) (state : Sums) (facts : List Fact) → Served step state (ran_in start facts) → AreRight start state facts
right_left start state [] served p e at run = absurd cc
right_left start state (f ∷ fs) served zero e at run =
    let same : f ≡ Entry e = cc in
    right_first start state e fs (ran_of start (Entry e)) refl run (subst (λ (x : Fact). Served step state (cons_option (ran_of start x) (ran_in start fs))) same served)
right_left start state (f ∷ fs) served (suc p) e at run = right_more start state f fs (ran_of start f) refl served (λ s r. right_left start s fs r) p e at run

-- ---- the last sentence

pub holds_served : (facts : List Fact) → ((place : ℕ) → Keeps sentence.Served facts place) → Holds sentence.Served facts
holds_served facts keeps = λ start. served_left start fresh facts (λ p e at run.
    let t = both (nat_eq e.start start) e.ran run in
    subst (λ (n : ℕ). e.reply ≡ (step (state_in n (take p facts)) e.request).0) (eqb-true e.start start t.0) (keeps p e at t.1))

pub keeps_served : (facts : List Fact) → Holds sentence.Served facts → (place : ℕ) → Keeps sentence.Served facts place
keeps_served facts holds place = λ e at ran. right_left e.start fresh facts (holds e.start) place e at (both_true (nat_eq e.start e.start) e.ran (eq-eqb e.start e.start refl) ran)

-- ---- one line more

abbrev pub stepped : Option Ran → Sums → Sums
stepped None state = state
stepped (Some ran) state = (step state ran.request).1

after_more : (state : Sums) (runs : List Ran) (o : Option Ran) → after state (runs ++ cons_option o []) ≡ stepped o (after state runs)
after_more state [] None = refl
after_more state [] (Some ran) = refl
after_more state (first ∷ runs) o = after_more (step state first.request).1 runs o

stepped_when : (b : Bool) (ran : Ran) (state : Sums) → stepped (cond b (Some ran) None) state ≡ cond b (step state ran.request).1 state
stepped_when true ran state = refl
stepped_when false ran state = refl

stepped_with : (start : ℕ) (state : Sums) (f : Fact) → stepped (ran_of start f) state ≡ state_with start state f
stepped_with start state (Entry e) = stepped_when (is_run start e) (the_run e) state
stepped_with start state (Body _ _) = refl
stepped_with start state (Name _ _) = refl
stepped_with start state (State _ _) = refl
stepped_with start state (Made _) = refl
stepped_with start state (Left _) = refl
stepped_with start state (Closed _) = refl
stepped_with start state (Gone _) = refl
stepped_with start state Outside = refl

pub state_more : (start : ℕ) (facts : List Fact) (f : Fact) → state_in start (facts ++ f ∷ []) ≡ state_with start (state_in start facts) f
state_more start facts f =
    ap (after fresh) (filter_map-append (ran_of start) facts (f ∷ [])) ∙ (after_more fresh (ran_in start facts) (ran_of start f) ∙ stepped_with start (state_in start facts) f)

pub take_more_at : (facts : List Fact) (place : ℕ) (f : Fact) → At facts place f → take (suc place) facts ≡ take place facts ++ f ∷ []
take_more_at [] place f at = absurd cc
take_more_at (x ∷ xs) zero f at = let same : x ≡ f = cc in ap (λ (y : Fact). y ∷ []) same
take_more_at (x ∷ xs) (suc place) f at = ap (λ (l : List Fact). x ∷ l) (take_more_at xs place f at)
