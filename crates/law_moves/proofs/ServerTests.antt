-- Tests that compute whether a server session may decide and say something but for one condition.
use Rattle.std.proofs.Common.{◌≡◌, ℕ, ◌==◌, Bool, true, false, not, ◌&&◌, ◌||◌, List, [], ◌∷◌, Some, inl, inr}
use Rattle.std.proofs.lemmas.Bool.{and_parts, or_cases, eqb-true}
use Rattle.std.specs.List.{list_any}
use Rattle.law_moves.specs.Table.{Text, Message, Outcome, Judged, ServerSession, Item, Entry}
use Rattle.law_moves.specs.Table.Outcome.{AcceptedCall, AcceptedOther, Noticed}
use Rattle.law_moves.specs.Table.Item.{NewSession, Result, Notice, WrongSalt}
use Rattle.law_moves.specs.World.{World, IsAccepted, HasAccepted}
use Rattle.law_moves.specs.Lawful.{HasReply, BeginsNew}
use Rattle.law_moves.specs.LawfulBut.{MayDecideBut, MaySayBut}
use Rattle.law_moves.proofs.Equal.{found, unless, differs, same_texts, texts_same, same_calls, calls_same, has, contains_if, same_numbers, numbers_same, same_judged, judged_same}

-- A server session judges and speaks

abbrev pub decide_test : ℕ → ServerSession → Message → Outcome → Bool
decide_test out server message (AcceptedCall body) =
    ((4 == out) || same_calls message.call (Some body)) && ((5 == out) || has same_numbers server.salts message.salt)
decide_test out server message AcceptedOther = (5 == out) || has same_numbers server.salts message.salt
decide_test out server message (Noticed code) = (6 == out) || not (code == 20)

pub decide_if : (out : ℕ) (server : ServerSession) (message : Message) (outcome : Outcome)
    → decide_test out server message outcome ≡ true → MayDecideBut out server message outcome
decide_if out server message (AcceptedCall body) h =
    let a = and_parts ((4 == out) || same_calls message.call (Some body)) ((5 == out) || has same_numbers server.salts message.salt) h in (
      unless 4 out (same_calls message.call (Some body)) (calls_same message.call (Some body)) a.0,
      unless 5 out (has same_numbers server.salts message.salt) (contains_if same_numbers numbers_same server.salts message.salt) a.1,
    )
decide_if out server message AcceptedOther h =
    unless 5 out (has same_numbers server.salts message.salt) (contains_if same_numbers numbers_same server.salts message.salt) h
decide_if out server message (Noticed code) h = unless 6 out (not (code == 20)) (differs code 20) h

abbrev pub is_reply : ℕ → ℕ → Text → Entry → Bool
is_reply unique number reply entry = (entry.server == unique) && ((entry.number == number) && same_texts entry.reply reply)

pub reply_if : (entries : List Entry) (unique number : ℕ) (reply : Text)
    → list_any (is_reply unique number reply) entries ≡ true → HasReply entries unique number reply
reply_if entries unique number reply h =
    let at = found (is_reply unique number reply) entries h in
    let a = and_parts (at.0.server == unique) _ at.2 in
    let b = and_parts (at.0.number == number) (same_texts at.0.reply reply) a.1 in
    (at.0, at.1, eqb-true at.0.server unique a.0, eqb-true at.0.number number b.0, texts_same at.0.reply reply b.1)

abbrev pub noticed : ℕ → ℕ → Judged
noticed number code = record { number = number; outcome = Noticed code }

abbrev pub say_test : ℕ → World → ℕ → Item → Bool
say_test out w unique (NewSession named salt) =
    ((1 == out) || (named == unique)) && ((2 == out) || has same_numbers (w.servers unique).salts salt)
say_test out w unique (Result number reply) = (3 == out) || list_any (is_reply unique number reply) w.entries
say_test out w unique (Notice number code) =
    (4 == out)
    || (has same_judged (w.servers unique).judged (noticed number code)
    || ((code == 20) && has same_numbers (w.servers unique).forgotten number))
say_test out w unique (WrongSalt number salt) =
    ((5 == out) || has same_judged (w.servers unique).judged (noticed number 48)) && ((6 == out) || has same_numbers (w.servers unique).salts salt)

pub say_if : (out : ℕ) (w : World) (unique : ℕ) (item : Item) → say_test out w unique item ≡ true → MaySayBut out w unique item
say_if out w unique (NewSession named salt) h =
    let a = and_parts ((1 == out) || (named == unique)) ((2 == out) || has same_numbers (w.servers unique).salts salt) h in (
      unless 1 out (named == unique) (eqb-true named unique) a.0,
      unless 2 out (has same_numbers (w.servers unique).salts salt) (contains_if same_numbers numbers_same (w.servers unique).salts salt) a.1,
    )
say_if out w unique (Result number reply) h =
    unless 3 out (list_any (is_reply unique number reply) w.entries) (λ passes. inl (reply_if w.entries unique number reply passes)) h
say_if out w unique (Notice number code) h =
    unless 4 out (has same_judged (w.servers unique).judged (noticed number code)
    || ((code == 20) && has same_numbers (w.servers unique).forgotten number)) (
    λ passes.
    elim (or_cases (has same_judged (w.servers unique).judged (noticed number code)) _ passes) [
      | inl judged ↦ inl (contains_if same_judged judged_same (w.servers unique).judged (noticed number code) judged)
      | inr forgotten ↦
          let b = and_parts (code == 20) (has same_numbers (w.servers unique).forgotten number) forgotten in
          inr (inl (eqb-true code 20 b.0, contains_if same_numbers numbers_same (w.servers unique).forgotten number b.1))
    ]
    ) h
say_if out w unique (WrongSalt number salt) h =
    let a = and_parts ((5 == out) || has same_judged (w.servers unique).judged (noticed number 48)) ((6 == out) || has same_numbers (w.servers unique).salts salt) h in (
      unless 5 out (has same_judged (w.servers unique).judged (noticed number 48)) (contains_if same_judged judged_same (w.servers unique).judged (noticed number 48)) a.0,
      unless 6 out (has same_numbers (w.servers unique).salts salt) (contains_if same_numbers numbers_same (w.servers unique).salts salt) a.1,
    )

abbrev pub is_accepted : Outcome → Bool
is_accepted (AcceptedCall body) = true
is_accepted AcceptedOther = true
is_accepted (Noticed code) = false

pub accepted_if : (outcome : Outcome) → is_accepted outcome ≡ true → IsAccepted outcome
accepted_if (AcceptedCall body) h = tt
accepted_if AcceptedOther h = tt
accepted_if (Noticed code) h = absurd cc

abbrev pub has_accepted : ServerSession → Bool
has_accepted server = list_any (λ judged. is_accepted judged.outcome) server.judged

pub has_accepted_if : (server : ServerSession) → has_accepted server ≡ true → HasAccepted server
has_accepted_if server h =
    let at = found (λ (judged : Judged). is_accepted judged.outcome) server.judged h in (at.0, at.1, accepted_if at.0.outcome at.2)

abbrev pub begins_new : List Item → Bool
begins_new [] = false
begins_new (NewSession named salt ∷ items) = true
begins_new (Result number reply ∷ items) = false
begins_new (Notice number code ∷ items) = false
begins_new (WrongSalt number salt ∷ items) = false

pub begins_if : (items : List Item) → begins_new items ≡ true → BeginsNew items
begins_if [] h = absurd cc
begins_if (NewSession named salt ∷ items) h = tt
begins_if (Result number reply ∷ items) h = absurd cc
begins_if (Notice number code ∷ items) h = absurd cc
begins_if (WrongSalt number salt ∷ items) h = absurd cc
