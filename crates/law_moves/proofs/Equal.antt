-- Tests of lists and of equality, and what they show.
use Rattle.std.proofs.Common.{◌≡◌, ◌≢◌, ℕ, ◌==◌, Bool, true, false, not, ◌&&◌, ◌||◌, List, [], ◌∷◌, Option, Some, None, inl, inr, refl, ap, ◌∙◌, subst, subst₂}
use Rattle.std.proofs.lemmas.Bool.{and_parts, or_cases, eqb-true, eqb-false}
use Rattle.std.proofs.lemmas.List.Elements.{All-cons, All-nil}
use Rattle.std.specs.Bool.{OnFalse}
use Rattle.std.specs.List.{Contains, All, list_any, list_all}
use Rattle.law_moves.specs.Table.{Text, Message, Outcome, Judged, Item, Packet}
use Rattle.law_moves.specs.Table.Outcome.{AcceptedCall, AcceptedOther, Noticed}
use Rattle.law_moves.specs.Table.Item.{NewSession, Result, Notice, WrongSalt}
use Rattle.law_moves.specs.LawfulBut.{At}
use Rattle.law_moves.proofs.Basics.{contains_first, contains_rest}

-- Lists

-- something in the list passes a test
pub found : {A : Type 0} (test : A → Bool) (xs : List A) → list_any test xs ≡ true → (x : A) × Contains xs x × (test x ≡ true)
found test [] h = absurd cc
found test (x ∷ xs) h =
    elim (or_cases (test x) (list_any test xs) h) [
      | inl passes ↦ (x, contains_first x xs, passes)
      | inr later ↦ let old = found test xs later in (old.0, contains_rest old.0 x xs old.1, old.2)
    ]

-- each thing in the list passes a test that shows P
pub each : {A : Type 0} (P : A → Type 0) (test : A → Bool) (xs : List A)
    → ((x : A) → test x ≡ true → P x) → list_all test xs ≡ true → All P xs
each P test [] shows h = All-nil P
each P test (x ∷ xs) shows h =
    let parts = and_parts (test x) (list_all test xs) h in All-cons P x xs (shows x parts.0) (each P test xs shows parts.1)

-- a condition, unless it is left out
pub unless : {P : Type 0} (place out : ℕ) (test : Bool) → (test ≡ true → P) → ((place == out) || test) ≡ true → At place out P
unless {P = P} place out test shows h = go (place == out) h
  where
    go : (left_out : Bool) → (left_out || test) ≡ true → OnFalse left_out P
    go true h = tt
    go false h = shows h

pub is_false : (test : Bool) → not test ≡ true → test ≡ false
is_false true h = absurd cc
is_false false h = refl

pub differs : (n m : ℕ) → not (n == m) ≡ true → n ≢ m
differs n m h = eqb-false n m (is_false (n == m) h)

-- Equal things

abbrev pub same_texts : List ℕ → List ℕ → Bool
same_texts [] [] = true
same_texts [] (m ∷ ms) = false
same_texts (n ∷ ns) [] = false
same_texts (n ∷ ns) (m ∷ ms) = (n == m) && same_texts ns ms

pub texts_same : (ns ms : List ℕ) → same_texts ns ms ≡ true → ns ≡ ms
texts_same [] [] h = refl
texts_same [] (m ∷ ms) h = absurd cc
texts_same (n ∷ ns) [] h = absurd cc
texts_same (n ∷ ns) (m ∷ ms) h =
    let parts = and_parts (n == m) (same_texts ns ms) h in
    let first : n ≡ m = eqb-true n m parts.0 in
    let later : ns ≡ ms = texts_same ns ms parts.1 in
    cc

abbrev pub same_calls : Option Text → Option Text → Bool
same_calls None None = true
same_calls None (Some text) = false
same_calls (Some text) None = false
same_calls (Some text) (Some other) = same_texts text other

pub calls_same : (one other : Option Text) → same_calls one other ≡ true → one ≡ other
calls_same None None h = refl
calls_same None (Some text) h = absurd cc
calls_same (Some text) None h = absurd cc
calls_same (Some text) (Some other) h = ap Some (texts_same text other h)

abbrev pub same_outcomes : Outcome → Outcome → Bool
same_outcomes (AcceptedCall body) (AcceptedCall other) = same_texts body other
same_outcomes (AcceptedCall body) AcceptedOther = false
same_outcomes (AcceptedCall body) (Noticed code) = false
same_outcomes AcceptedOther (AcceptedCall other) = false
same_outcomes AcceptedOther AcceptedOther = true
same_outcomes AcceptedOther (Noticed code) = false
same_outcomes (Noticed code) (AcceptedCall other) = false
same_outcomes (Noticed code) AcceptedOther = false
same_outcomes (Noticed code) (Noticed other) = code == other

pub outcomes_same : (one other : Outcome) → same_outcomes one other ≡ true → one ≡ other
outcomes_same (AcceptedCall body) (AcceptedCall other) h = ap AcceptedCall (texts_same body other h)
outcomes_same (AcceptedCall body) AcceptedOther h = absurd cc
outcomes_same (AcceptedCall body) (Noticed code) h = absurd cc
outcomes_same AcceptedOther (AcceptedCall other) h = absurd cc
outcomes_same AcceptedOther AcceptedOther h = refl
outcomes_same AcceptedOther (Noticed code) h = absurd cc
outcomes_same (Noticed code) (AcceptedCall other) h = absurd cc
outcomes_same (Noticed code) AcceptedOther h = absurd cc
outcomes_same (Noticed code) (Noticed other) h = ap Noticed (eqb-true code other h)

abbrev pub same_items : Item → Item → Bool
same_items (NewSession unique salt) (NewSession other too) = (unique == other) && (salt == too)
same_items (Result number reply) (Result other too) = (number == other) && same_texts reply too
same_items (Notice number code) (Notice other too) = (number == other) && (code == too)
same_items (WrongSalt number salt) (WrongSalt other too) = (number == other) && (salt == too)
same_items one other = false

pub items_same : (one other : Item) → same_items one other ≡ true → one ≡ other
items_same (NewSession unique salt) (NewSession other too) h =
    let parts = and_parts (unique == other) (salt == too) h in
    let first : unique ≡ other = eqb-true unique other parts.0 in
    let second : salt ≡ too = eqb-true salt too parts.1 in
    cc
items_same (Result number reply) (Result other too) h =
    let parts = and_parts (number == other) (same_texts reply too) h in
    let first : number ≡ other = eqb-true number other parts.0 in
    let second : reply ≡ too = texts_same reply too parts.1 in
    cc
items_same (Notice number code) (Notice other too) h =
    let parts = and_parts (number == other) (code == too) h in
    let first : number ≡ other = eqb-true number other parts.0 in
    let second : code ≡ too = eqb-true code too parts.1 in
    cc
items_same (WrongSalt number salt) (WrongSalt other too) h =
    let parts = and_parts (number == other) (salt == too) h in
    let first : number ≡ other = eqb-true number other parts.0 in
    let second : salt ≡ too = eqb-true salt too parts.1 in
    cc
items_same (NewSession unique salt) (Result other too) h = absurd cc
items_same (NewSession unique salt) (Notice other too) h = absurd cc
items_same (NewSession unique salt) (WrongSalt other too) h = absurd cc
items_same (Result number reply) (NewSession other too) h = absurd cc
items_same (Result number reply) (Notice other too) h = absurd cc
items_same (Result number reply) (WrongSalt other too) h = absurd cc
items_same (Notice number code) (NewSession other too) h = absurd cc
items_same (Notice number code) (Result other too) h = absurd cc
items_same (Notice number code) (WrongSalt other too) h = absurd cc
items_same (WrongSalt number salt) (NewSession other too) h = absurd cc
items_same (WrongSalt number salt) (Result other too) h = absurd cc
items_same (WrongSalt number salt) (Notice other too) h = absurd cc

abbrev pub all_items : List Item → List Item → Bool
all_items [] [] = true
all_items [] (item ∷ items) = false
all_items (item ∷ items) [] = false
all_items (item ∷ items) (other ∷ others) = same_items item other && all_items items others

pub all_items_same : (one other : List Item) → all_items one other ≡ true → one ≡ other
all_items_same [] [] h = refl
all_items_same [] (item ∷ items) h = absurd cc
all_items_same (item ∷ items) [] h = absurd cc
all_items_same (item ∷ items) (other ∷ others) h =
    let parts = and_parts (same_items item other) (all_items items others) h in
    let first : item ≡ other = items_same item other parts.0 in
    let later : items ≡ others = all_items_same items others parts.1 in
    cc

-- a thing stands in a list, by a test of equality
abbrev pub has : {A : Type 0} (same : A → A → Bool) → List A → A → Bool
has same xs x = list_any (λ y. same y x) xs

pub contains_if : {A : Type 0} (same : A → A → Bool) → ((y x : A) → same y x ≡ true → y ≡ x) → (xs : List A) (x : A)
    → has same xs x ≡ true → Contains xs x
contains_if same shows xs x h =
    let at = found (λ y. same y x) xs h in subst (Contains xs) (shows at.0 x at.2) at.1

abbrev pub same_numbers : ℕ → ℕ → Bool
same_numbers n m = n == m

pub numbers_same : (n m : ℕ) → same_numbers n m ≡ true → n ≡ m
numbers_same n m h = eqb-true n m h

abbrev pub same_judged : Judged → Judged → Bool
same_judged one other = (one.number == other.number) && same_outcomes one.outcome other.outcome

pub judged_same : (one other : Judged) → same_judged one other ≡ true → one ≡ other
judged_same one other h =
    let parts = and_parts (one.number == other.number) (same_outcomes one.outcome other.outcome) h in
    subst₂ (λ number outcome. one ≡ record { number = number; outcome = outcome }) (eqb-true one.number other.number parts.0)
    (outcomes_same one.outcome other.outcome parts.1) refl

abbrev pub same_packets : Packet → Packet → Bool
same_packets one other = (one.server == other.server) && all_items one.items other.items

pub packets_same : (one other : Packet) → same_packets one other ≡ true → one ≡ other
packets_same one other h =
    let parts = and_parts (one.server == other.server) (all_items one.items other.items) h in
    subst₂ (λ server items. one ≡ record { server = server; items = items }) (eqb-true one.server other.server parts.0)
    (all_items_same one.items other.items parts.1) refl

abbrev pub same_messages : Message → Message → Bool
same_messages one other =
    (one.session == other.session)
    && ((one.salt == other.salt) && ((one.number == other.number) && (same_calls one.call other.call && same_texts one.known other.known)))

pub messages_same : (one other : Message) → same_messages one other ≡ true → one ≡ other
messages_same one other h =
    let a = and_parts (one.session == other.session) _ h in
    let b = and_parts (one.salt == other.salt) _ a.1 in
    let c = and_parts (one.number == other.number) _ b.1 in
    let d = and_parts (same_calls one.call other.call) (same_texts one.known other.known) c.1 in
    let s : one.session ≡ other.session = eqb-true one.session other.session a.0 in
    let t : one.salt ≡ other.salt = eqb-true one.salt other.salt b.0 in
    let n : one.number ≡ other.number = eqb-true one.number other.number c.0 in
    let e : one.call ≡ other.call = calls_same one.call other.call d.0 in
    let f : one.known ≡ other.known = texts_same one.known other.known d.1 in
    ap (λ session. record one { session = session }) s
    ∙ ap (λ salt. record one { session = other.session; salt = salt }) t
    ∙ ap (λ number. record one { session = other.session; salt = other.salt; number = number }) n
    ∙ ap (λ call. record one { session = other.session; salt = other.salt; number = other.number; call = call }) e
    ∙ ap (λ known. record other { known = known }) f
