-- Entries of what was cut off: they differ in whether they ran alone.
use Rattle.std.proofs.Common.{◌≡◌, ◌∙◌, ◌==◌, ◌&&◌, ◌||◌, ℕ, Bool, true, false, List, [], ◌∷◌, ◌++◌, map, reverse, refl, sym, ap, subst, inl, inr, eq-eqb}
use Rattle.std.specs.List.{AllByRecursion, list_any}
use Rattle.std.proofs.lemmas.Bool.{cases_Bool}
use Rattle.std.proofs.lemmas.List.{reverse-append}
use Rattle.regs_service.specs.Served.{Ran, Served, Step, replies_of, replies_to, requests_of}
use Rattle.server_rules.specs.Event.{Entry}
use Rattle.server_rules.specs.Server.{Name, Session}
use Rattle.service_tl.specs.Results.{is_good}
use Rattle.world_rules.specs.World.{Entered}
use Rattle.world_rules.specs.Once.{ran_in}
use Rattle.law_moves.specs.Table as moves
use Rattle.law_order.specs.After.{IsHonest, is_run, is_run_well}
use Rattle.law_server_moves.specs.Servers.{AreEntered, IsEntered}
use Rattle.law_crashes.specs.Records.{unran_in}

abbrev pub unrun : Entry → Entry
unrun entry = record entry { ran = false }

abbrev pub entry_in : Entered → Entry
entry_in entered = entered.entry

-- ---- the law on moves doesn't ask whether an entry ran

abbrev pub Alike : List Entry → List Entry → Type 0
Alike [] [] = Unit {0}
Alike [] (f ∷ fs) = ⊥
Alike (e ∷ es) [] = ⊥
Alike (e ∷ es) (f ∷ fs) = (unrun f ≡ unrun e) × Alike es fs

alike_both : (es fs more others : List Entry) → Alike es fs → Alike more others → Alike (es ++ more) (fs ++ others)
alike_both [] [] more others h k = k
alike_both [] (f ∷ fs) more others h k = absurd h
alike_both (e ∷ es) [] more others h k = absurd h
alike_both (e ∷ es) (f ∷ fs) more others h k = (h.0, alike_both es fs more others h.1 k)

reverse_first : {X : Type 0} (x : X) (xs : List X) → reverse (x ∷ xs) ≡ reverse xs ++ x ∷ []
reverse_first x xs = reverse-append (x ∷ []) xs

alike_reversed : (es fs : List Entry) → Alike es fs → Alike (reverse es) (reverse fs)
alike_reversed [] [] h = tt
alike_reversed [] (f ∷ fs) h = absurd h
alike_reversed (e ∷ es) [] h = absurd h
alike_reversed (e ∷ es) (f ∷ fs) h =
    subst (λ (l : List Entry). Alike l (reverse (f ∷ fs))) (sym (reverse_first e es))
    (subst (λ (l : List Entry). Alike (reverse es ++ e ∷ []) l) (sym (reverse_first f fs))
    (alike_both (reverse es) (reverse fs) (e ∷ []) (f ∷ []) (alike_reversed es fs h.1) (h.0, tt)))

entered_so : (lives : List Session) (e f : Entry) (there : moves.Entry) → unrun f ≡ unrun e → IsEntered lives e there → IsEntered lives f there
entered_so lives e f there is h = record {
  life = h.life;
  among = h.among;
  unique = h.unique;
  key = h.key ∙ sym (ap (λ (x : Entry). x.key) is);
  session = h.session ∙ sym (ap (λ (x : Entry). x.session) is);
  number = h.number ∙ sym (ap (λ (x : Entry). x.number) is);
  request = h.request ∙ sym (ap (λ (x : Entry). x.request) is);
  reply = h.reply ∙ sym (ap (λ (x : Entry). x.reply) is);
}

entered_alike : (lives : List Session) (es fs : List Entry) (ts : List moves.Entry) → Alike es fs → AreEntered lives es ts → AreEntered lives fs ts
entered_alike lives [] [] ts h k = k
entered_alike lives [] (f ∷ fs) ts h k = absurd h
entered_alike lives (e ∷ es) [] ts h k = absurd h
entered_alike lives (e ∷ es) (f ∷ fs) [] h k = absurd k
entered_alike lives (e ∷ es) (f ∷ fs) (t ∷ ts) h k = (entered_so lives e f t h.0 k.0, entered_alike lives es fs ts h.1 k.1)

-- ---- the same entries in a world

abbrev pub entered_in : ℕ → List Entry → List Entered
entered_in start entries = map (λ (entry : Entry). record { start = start; entry = entry }) entries

alike_more : (start : ℕ) (more : List Entry) → Alike (map entry_in (entered_in start more)) (map entry_in (unran_in start more))
alike_more start [] = tt
alike_more start (e ∷ more) = (refl, alike_more start more)

alike_behind : (start : ℕ) (old : List Entered) (more : List Entry) → Alike (map entry_in (old ++ entered_in start more)) (map entry_in (old ++ unran_in start more))
alike_behind start [] more = alike_more start more
alike_behind start (one ∷ old) more = (refl, alike_behind start old more)

pub still_entered : (lives : List Session) (start : ℕ) (old : List Entered) (more : List Entry) (ts : List moves.Entry)
    → AreEntered lives (reverse (map entry_in (old ++ entered_in start more))) ts → AreEntered lives (reverse (map entry_in (old ++ unran_in start more))) ts
still_entered lives start old more ts h =
    entered_alike lives (reverse (map entry_in (old ++ entered_in start more))) (reverse (map entry_in (old ++ unran_in start more))) ts
    (alike_reversed (map entry_in (old ++ entered_in start more)) (map entry_in (old ++ unran_in start more)) (alike_behind start old more)) h

-- ---- nothing of it ran

pub none_ran : (start : ℕ) (more : List Entry) → AllByRecursion (λ (one : Entered). one.entry.ran ≡ false) (unran_in start more)
none_ran start [] = tt
none_ran start (e ∷ more) = (refl, none_ran start more)

pub none_ran_in : (start : ℕ) (more : List Entry) → AllByRecursion (λ (one : Entry). one.ran ≡ false) (map entry_in (unran_in start more))
none_ran_in start [] = tt
none_ran_in start (e ∷ more) = (refl, none_ran_in start more)

both_false : (b : Bool) → (b && false) ≡ false
both_false true = refl
both_false false = refl

no_runs : (at start : ℕ) (more : List Entry) → ran_in at (unran_in start more) ≡ []
no_runs at start [] = refl
no_runs at start (e ∷ more) = rw (both_false (start == at)) (no_runs at start more)

pub same_runs : (at start : ℕ) (old : List Entered) (more : List Entry) → ran_in at (old ++ unran_in start more) ≡ ran_in at old
same_runs at start [] more = no_runs at start more
same_runs at start (one ∷ old) more =
    elim (cases_Bool ((one.start == at) && one.entry.ran)) [
      | inl is ↦ rw is (ap (λ (l : List Ran). record { request = one.entry.request; reply = one.entry.reply } ∷ l) (same_runs at start old more))
      | inr not_so ↦ rw not_so (same_runs at start old more)
    ]

-- ---- what ran by a service that gives one reply

abbrev pub IsOf : List ℕ → Entry → Type 0
IsOf reply entry = entry.ran ≡ true → entry.reply ≡ reply

-- a service that gives it
abbrev pub giving : {V : Type 0} → List ℕ → Step V
giving reply service request = (reply, service)

all_one : {V : Type 0} (reply : List ℕ) (service : V) (runs : List Ran) → Served (giving reply) service runs → AllByRecursion (λ (one : Ran). one.reply ≡ reply) runs
all_one reply service [] h = tt
all_one reply service (one ∷ runs) h =
    let first : one.reply ≡ reply = cc in
    let rest : replies_of runs ≡ replies_to (giving reply) service (requests_of runs) = cc in
    (first, all_one reply service runs rest)

runs_of : (reply : List ℕ) (start : ℕ) (more : List Entry) → AllByRecursion (λ (one : Ran). one.reply ≡ reply) (ran_in start (entered_in start more))
    → AllByRecursion (IsOf reply) more
runs_of reply start [] h = tt
runs_of reply start (e ∷ more) h =
    elim (cases_Bool e.ran) [
      | inl is ↦
          let k : AllByRecursion (λ (one : Ran). one.reply ≡ reply) (record { request = e.request; reply = e.reply } ∷ ran_in start (entered_in start more)) =
          rw (eq-eqb start start refl, is) at h in
          (λ so. k.0, runs_of reply start more k.1)
      | inr not_so ↦ (λ so. absurd (let x : false ≡ true = sym not_so ∙ so in cc), runs_of reply start more (rw (eq-eqb start start refl, not_so) at h))
    ]

pub runs_are : {V : Type 0} (reply : List ℕ) (service : V) (start : ℕ) (more : List Entry) → Served (giving reply) service (ran_in start (entered_in start more)) → AllByRecursion (IsOf reply) more
runs_are reply service start more h = runs_of reply start more (all_one reply service (ran_in start (entered_in start more)) h)

-- ---- the order of calls asks for what ran well

module _ (reply : List ℕ) (bad : is_good reply ≡ false) where
  bad_there : (entry : Entry) → entry.ran ≡ true → IsOf reply entry → is_good entry.reply ≡ false
  bad_there entry is of = ap is_good (of is) ∙ bad

  no_run : (name : Name) (number : ℕ) (entry : Entry) → is_run_well name number (unrun entry) ≡ false
  no_run name number entry =
      let named : Bool = (entry.key == name.key) && (entry.session == name.session) in
      ap (λ (b : Bool). (named && b) && is_good entry.reply) (both_false (entry.number == number))
      ∙ ap (λ (b : Bool). b && is_good entry.reply) (both_false named)

  not_well : (name : Name) (number : ℕ) (entry : Entry) → IsOf reply entry → is_run_well name number entry ≡ is_run_well name number (unrun entry)
  not_well name number entry of =
      elim (cases_Bool entry.ran) [
        | inl is ↦
            let worse : is_run_well name number entry ≡ false =
            ap (λ (b : Bool). is_run name number entry && b) (bad_there entry is of) ∙ both_false (is_run name number entry) in
            worse ∙ sym (no_run name number entry)
        | inr not_so ↦ ap (λ (b : Bool). is_run_well name number (record entry { ran = b })) not_so
      ]

  well_more : (name : Name) (number start : ℕ) (more : List Entry) → AllByRecursion (IsOf reply) more
      → list_any (is_run_well name number) (map entry_in (entered_in start more)) ≡ list_any (is_run_well name number) (map entry_in (unran_in start more))
  well_more name number start [] h = refl
  well_more name number start (e ∷ more) h =
      ap (λ (b : Bool). b || list_any (is_run_well name number) (map entry_in (entered_in start more))) (not_well name number e h.0)
      ∙ ap (λ (b : Bool). is_run_well name number (unrun e) || b) (well_more name number start more h.1)

  pub well_behind : (name : Name) (number start : ℕ) (old : List Entered) (more : List Entry) → AllByRecursion (IsOf reply) more
      → list_any (is_run_well name number) (map entry_in (old ++ entered_in start more)) ≡ list_any (is_run_well name number) (map entry_in (old ++ unran_in start more))
  well_behind name number start [] more h = well_more name number start more h
  well_behind name number start (one ∷ old) more h =
      ap (λ (b : Bool). is_run_well name number one.entry || b) (well_behind name number start old more h)

  honest_by : (entry : Entry) → IsOf reply entry → IsHonest entry → is_good entry.reply ≡ false
  honest_by entry of honest =
      elim (cases_Bool entry.ran) [
        | inl is ↦ bad_there entry is of
        | inr not_so ↦ honest not_so
      ]

  honest_more : (start : ℕ) (more : List Entry) → AllByRecursion (IsOf reply) more → AllByRecursion IsHonest (map entry_in (entered_in start more))
      → AllByRecursion IsHonest (map entry_in (unran_in start more))
  honest_more start [] h k = tt
  honest_more start (e ∷ more) h k = (λ is. honest_by e h.0 k.0, honest_more start more h.1 k.1)

  pub honest_behind : (start : ℕ) (old : List Entered) (more : List Entry) → AllByRecursion (IsOf reply) more
      → AllByRecursion IsHonest (map entry_in (old ++ entered_in start more)) → AllByRecursion IsHonest (map entry_in (old ++ unran_in start more))
  honest_behind start [] more h k = honest_more start more h k
  honest_behind start (one ∷ old) more h k = (k.0, honest_behind start old more h k.1)

-- ---- behind those of before

pub map_behind : (old more : List Entered) → map entry_in (old ++ more) ≡ map entry_in old ++ map entry_in more
map_behind [] more = refl
map_behind (one ∷ old) more = ap (λ (l : List Entry). one.entry ∷ l) (map_behind old more)
