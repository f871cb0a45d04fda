-- What steps use up together.
use Rattle.std.proofs.Common.{◌≡◌, ◌∙◌, ℕ, Bool, true, false, ◌+◌, ◌*◌, ◌≤◌, List, length, refl, arith, inl, inr}
use Rattle.std.specs.Prelude.{if◌then◌else◌}
use Rattle.std.proofs.lemmas.Bool.{cases_Bool, cond-true, cond-false}
use Rattle.std.proofs.lemmas.List.Sums.{sum_by-le-sum_by}
use Rattle.service_tl.specs.declared.lists.Message.{Message}
use Rattle.outbox.specs.declared.kept.Kept.{Kept}
use Rattle.outbox.specs.Replies.{Replies}
use Rattle.server_output.specs.Dues.{Dues, has_number}
use Rattle.server_session.specs.declared.session.SessionState.{SessionState}
use Rattle.server_session.specs.SessionState.{replies_left}
use Rattle.server_session.specs.Unsaid.{CallsFor, NoMoreUnsaid, called_weight, unsaid_bytes, unsaid_count, unsaid_weight}
use Rattle.server_dispatch.specs.declared.turn.Turn.{Turn}
use Rattle.server_dispatch.specs.Speaks.{Spends}
use Rattle.server_dispatch.specs.Spare.{Uses}

-- fewer are called for

weighs-less : (called more : Kept → Bool) (weight : Kept → ℕ) (kept : Kept) → CallsFor called more → called_weight called weight kept ≤ called_weight more weight kept
weighs-less called more weight kept calls =
    elim (cases_Bool (called kept)) [
      | inl is ↦
          let one : called_weight called weight kept ≡ weight kept = cond-true (called kept) (weight kept) 0 is in
          let other : called_weight more weight kept ≡ weight kept = cond-true (more kept) (weight kept) 0 (calls kept is) in
          omega arith
      | inr none ↦ let nothing : called_weight called weight kept ≡ 0 = cond-false (called kept) (weight kept) 0 none in omega arith
    ]

unsaid-less : (said : Bool) (few many : ℕ) → few ≤ many → (if said then 0 else few) ≤ (if said then 0 else many)
unsaid-less true few many less = omega arith
unsaid-less false few many less = less

weight-less : (called more : Kept → Bool) (weight : Kept → ℕ) (messages : List Message) (replies : Replies) → CallsFor called more
    → unsaid_weight (called_weight called weight) messages replies ≤ unsaid_weight (called_weight more weight) messages replies
weight-less called more weight messages replies calls =
    sum_by-le-sum_by (λ (kept : Kept). if has_number kept.number messages then 0 else called_weight called weight kept)
    (λ (kept : Kept). if has_number kept.number messages then 0 else called_weight more weight kept) replies
    (λ kept. unsaid-less (has_number kept.number messages) (called_weight called weight kept) (called_weight more weight kept) (weighs-less called more weight kept calls))

pub count-less : (called more : Kept → Bool) (standing : SessionState) (owing : Dues) → CallsFor called more → unsaid_count called standing owing ≤ unsaid_count more standing owing
count-less called more standing owing calls = weight-less called more (λ kept. 1) owing.messages standing.outbox.replies calls

pub bytes-less : (called more : Kept → Bool) (standing : SessionState) (owing : Dues) → CallsFor called more → unsaid_bytes called standing owing ≤ unsaid_bytes more standing owing
bytes-less called more standing owing calls = weight-less called more (λ kept. length kept.body) owing.messages standing.outbox.replies calls

pub used : (called : Kept → Bool) (now messages size answers kept : ℕ) (standing : SessionState) (turn : Turn) (after : SessionState) (left : Turn)
    → Spends now messages size answers standing turn after left → NoMoreUnsaid standing turn.owing after left.owing
    → replies_left standing ≤ replies_left after + kept → Uses called now messages size answers kept standing turn after left
used called now messages size answers kept standing turn after left spends unsaid replies =
    record {
      places = omega (arith, spends.places, unsaid.count called);
      bytes = omega (arith, spends.bytes, unsaid.bytes called);
      numbers = spends.numbers;
      entries = spends.entries;
      replies = replies;
      places_taken = spends.places_taken;
      bytes_taken = spends.bytes_taken;
      key = spends.key;
      number = spends.number;
      at = spends.at;
    }

-- nothing is used
pub nothing-used : (called : Kept → Bool) (now : ℕ) (standing : SessionState) (turn : Turn) → Uses called now 0 0 0 0 standing turn standing turn
nothing-used called now standing turn =
    record {
      places = omega arith;
      bytes = omega arith;
      numbers = omega arith;
      entries = omega arith;
      replies = omega arith;
      places_taken = refl;
      bytes_taken = refl;
      key = refl;
      number = refl;
      at = λ is. is;
    }

-- one more message that was given up
pub uses-more : (called : Kept → Bool) (now place : ℕ) (standing after last : SessionState) (turn next end : Turn) → Uses called now place (place * 48) place place standing turn after next
    → Uses called now 1 48 1 1 after next last end → Uses called now (place + 1) ((place + 1) * 48) (place + 1) (place + 1) standing turn last end
uses-more called now place standing after last turn next end one two =
    record {
      places = omega (arith, one.places, two.places);
      bytes = omega (arith, one.bytes, two.bytes);
      numbers = omega (arith, one.numbers, two.numbers);
      entries = omega (arith, one.entries, two.entries);
      replies = omega (arith, one.replies, two.replies);
      places_taken = two.places_taken ∙ one.places_taken;
      bytes_taken = two.bytes_taken ∙ one.bytes_taken;
      key = two.key ∙ one.key;
      number = two.number ∙ one.number;
      at = λ is. two.at (one.at is);
    }

-- what two steps use is no more than this
pub uses-both : (called : Kept → Bool) (now messages size answers kept more larger further longer both_messages both_size both_answers both_kept : ℕ) (standing : SessionState) (turn : Turn)
    (after : SessionState) (next : Turn) (last : SessionState) (end : Turn) → Uses called now messages size answers kept standing turn after next
    → Uses called now more larger further longer after next last end → messages + more ≤ both_messages → size + larger ≤ both_size → answers + further ≤ both_answers
    → kept + longer ≤ both_kept → Uses called now both_messages both_size both_answers both_kept standing turn last end
uses-both called now messages size answers kept more larger further longer both_messages both_size both_answers both_kept standing turn after next last end one two of_messages of_size of_answers of_kept =
    record {
      places = omega (arith, one.places, two.places, of_messages);
      bytes = omega (arith, one.bytes, two.bytes, of_size);
      numbers = omega (arith, one.numbers, two.numbers, of_messages);
      entries = omega (arith, one.entries, two.entries, of_answers);
      replies = omega (arith, one.replies, two.replies, of_kept);
      places_taken = two.places_taken ∙ one.places_taken;
      bytes_taken = two.bytes_taken ∙ one.bytes_taken;
      key = two.key ∙ one.key;
      number = two.number ∙ one.number;
      at = λ is. two.at (one.at is);
    }
