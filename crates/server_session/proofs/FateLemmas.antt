-- What a reply's other fate changes, and what it leaves.
use Rattle.std.proofs.Common.{arith, suc, ◌<◌, ◌≡◌, ◌≢◌, ◌∙◌, ℕ, Bool, true, false, eqb, cond, ◌&&◌, ◌||◌, Option, Some, None, List, [], ◌∷◌, ◌++◌, map, fold, ap, sym, subst, refl, inl, inr}
use Rattle.std.specs.Prelude.{option_map, All, AllPairs}
use Rattle.std.specs.List.{find, list_any}
use Rattle.std.proofs.lemmas.Bool.{cases_Bool, cond-true, cond-false, cond_both, eqb-true, eqb-false, eq-eqb, ne_eqb, and_parts, and_right, or_left, or_right, or_parts, false≢true}
use Rattle.std.proofs.lemmas.Option.{none-some, same_Some}
use Rattle.std.proofs.lemmas.List.Folds.{list_any-append}
use Rattle.std.proofs.lemmas.List.Elements.{All-cons, All-head, All-tail, All-weaker}
use Rattle.std.proofs.lemmas.Grind.{fold-append}
use Rattle.id_window.specs.declared.mark.Mark.{Mark}
use Rattle.id_window.specs.declared.mark.Mark.TheVariants.{Replied}
use Rattle.id_window.specs.Marks.{Marks, given, mark_of}
use Rattle.id_window.specs.History.{History, Outcome, Refused, AcceptedContainer, AcceptedCall, AcceptedOther, found, is_kept as is_number_kept}
use Rattle.outbox.specs.declared.kept.Kept.{Kept}
use Rattle.outbox.specs.Replies.{call_of, without_number}
use Rattle.server_rules.specs.Server.{Fate, IsKept, WasAcked, WasDropped, Reply, answered_mark, is_fate_kept, is_kept, kept_of, kept_replies, mark_after, marks_of, reply_to}
use Rattle.law_server.specs.Order.{AreReplies}
use Rattle.server_rules.specs.Speaking.{dropped}
use Rattle.server_rules.specs.Rows.{acked_by}
use Rattle.server_session.specs.Fates.{Apart, AreApart, refated, refated_one, with_ended}

abbrev pub is_one : ℕ → Reply → Bool
is_one number reply = is_kept reply && eqb reply.number number

abbrev option_or_else : {A : Type 0} → A → Option A → A
option_or_else x None = x
option_or_else x (Some y) = y

some-same : (x y : Reply) → ◌≡◌ {A = Option Reply} (Some x) (Some y) → x ≡ y
some-same x y same = ap (λ (o : Option Reply). option_or_else x o) same

call-stays : (fate : Fate) (number : ℕ) (r : Reply) → (refated_one fate number r).call ≡ r.call
call-stays fate number r = cond_both (is_one number r) (record r { fate = fate }) r (λ (s : Reply). s.call ≡ r.call) (λ _. refl) (λ _. refl)

-- ---- what stays of each reply

-- no reply has the number
pub none-refated : (fate : Fate) (number : ℕ) (replies : List Reply) → list_any (λ m. eqb m number) (map (λ (r : Reply). r.number) replies) ≡ false
    → refated fate number replies ≡ replies
none-refated fate number [] none = refl
none-refated fate number (r ∷ rs) none =
    let parts = or_parts _ _ none in
    let other : is_one number r ≡ false = and_right _ _ parts.0 in
    rw (other, none-refated fate number rs parts.1) refl

-- ---- the replies that are kept

pub kept-left : (fate : Fate) (number : ℕ) (replies : List Reply) → is_fate_kept fate ≡ false → Apart (map (λ (r : Reply). r.number) replies)
    → kept_replies (refated fate number replies) ≡ without_number number (kept_replies replies)
kept-left fate number [] ends apart = refl
kept-left fate number (r ∷ rs) ends apart =
    elim (cases_Bool (is_kept r)) [
      | inr gone ↦ rw (gone, gone) (kept-left fate number rs ends apart.1)
      | inl kept ↦ elim (cases_Bool (eqb r.number number)) [
        | inl this ↦
            let none : list_any (λ m. eqb m number) (map (λ (s : Reply). s.number) rs) ≡ false =
            subst (λ (n : ℕ). list_any (λ m. eqb m n) (map (λ (s : Reply). s.number) rs) ≡ false) (eqb-true r.number number this) apart.0 in
            rw (kept, this, ends, none-refated fate number rs none) refl
        | inr other ↦ rw (kept, other, kept, kept-left fate number rs ends apart.1) refl
      ]
    ]

-- a kept reply that is found in the outbox is that of the session
pub found-kept : (test : Kept → Bool) (replies : List Reply)
    → find test (kept_replies replies) ≡ option_map kept_of (find (λ r. is_kept r && test (kept_of r)) replies)
found-kept test [] = refl
found-kept test (r ∷ rs) =
    elim (cases_Bool (is_kept r)) [
      | inr gone ↦ rw gone (found-kept test rs)
      | inl kept ↦ elim (cases_Bool (test (kept_of r))) [
        | inl this ↦ rw (kept, this) refl
        | inr other ↦ rw (kept, other) (found-kept test rs)
      ]
    ]

-- no reply is it
pub none-found : (fate : Fate) (number : ℕ) (replies : List Reply) → find (is_one number) replies ≡ None → refated fate number replies ≡ replies
none-found fate number [] none = refl
none-found fate number (r ∷ rs) none =
    elim (cases_Bool (is_one number r)) [
      | inl is ↦ absurd (none-some r (sym none ∙ cond-true (is_one number r) (Some r) (find (is_one number) rs) is))
      | inr not ↦ rw (not, none-found fate number rs (sym (cond-false (is_one number r) (Some r) (find (is_one number) rs) not) ∙ none)) refl
    ]

-- the reply whose call an outbox tells
pub told-call : (call : ℕ) (reply : Option Reply) → call_of (option_map kept_of reply) ≡ Some call → (r : Reply) × (reply ≡ Some r) × (r.call ≡ call)
told-call call None is = absurd (none-some call is)
told-call call (Some r) is = (r, refl, same_Some r.call call is)

pub told-kept : (kept : Kept) (reply : Option Reply) → option_map kept_of reply ≡ Some kept → (r : Reply) × (reply ≡ Some r) × (kept_of r ≡ kept)
told-kept kept None is = absurd (none-some kept is)
told-kept kept (Some r) is = (r, refl, same_Some (kept_of r) kept is)

pub told-none : (reply : Option Reply) → call_of (option_map kept_of reply) ≡ None → reply ≡ None
told-none None is = refl
told-none (Some r) is = absurd (none-some r.call (sym is))

-- what a search found passes its test
pub found-is : (test : Reply → Bool) (replies : List Reply) (r : Reply) → find test replies ≡ Some r → test r ≡ true
found-is test [] r found = absurd (none-some r found)
found-is test (x ∷ rs) r found =
    elim (cases_Bool (test x)) [
      | inl is ↦ subst (λ (o : Reply). test o ≡ true) (some-same x r (sym (cond-true (test x) (Some x) (find test rs) is) ∙ found)) is
      | inr not ↦ found-is test rs r (sym (cond-false (test x) (Some x) (find test rs) not) ∙ found)
    ]

-- its key is among those of the list
pub found-among : (key : Reply → ℕ) (test : Reply → Bool) (replies : List Reply) (r : Reply) → find test replies ≡ Some r
    → list_any (λ m. eqb m (key r)) (map key replies) ≡ true
found-among key test [] r found = absurd (none-some r found)
found-among key test (x ∷ rs) r found =
    elim (cases_Bool (test x)) [
      | inl is ↦ or_left _ _ (eq-eqb (key x) (key r) (ap key (some-same x r (sym (cond-true (test x) (Some x) (find test rs) is) ∙ found))))
      | inr not ↦ or_right _ _ (found-among key test rs r (sym (cond-false (test x) (Some x) (find test rs) not) ∙ found))
    ]

-- ---- the reply to a call

-- a found reply is the reply to its call
pub own-reply : (test : Reply → Bool) (replies : List Reply) (r : Reply) → Apart (map (λ (s : Reply). s.call) replies)
    → find test replies ≡ Some r → reply_to r.call replies ≡ Some r
own-reply test [] r apart found = absurd (none-some r found)
own-reply test (x ∷ rs) r apart found =
    elim (cases_Bool (test x)) [
      | inl is ↦
          let same : x ≡ r = some-same x r (sym (cond-true (test x) (Some x) (find test rs) is) ∙ found) in
          cond-true (eqb x.call r.call) (Some x) (reply_to r.call rs) (eq-eqb x.call r.call (ap (λ (s : Reply). s.call) same)) ∙ ap (λ (s : Reply). Some s) same
      | inr not ↦
          let there : find test rs ≡ Some r = sym (cond-false (test x) (Some x) (find test rs) not) ∙ found in
          let among = found-among (λ (s : Reply). s.call) test rs r there in
          let other : eqb x.call r.call ≡ false =
          ne_eqb x.call r.call (λ same. false≢true (sym apart.0 ∙ subst (λ (n : ℕ). list_any (λ m. eqb m n) (map (λ (s : Reply). s.call) rs) ≡ true) (sym same) among)) in
          cond-false (eqb x.call r.call) (Some x) (reply_to r.call rs) other ∙ own-reply test rs r apart.1 there
    ]

-- the reply to a call, where one has another fate
pub reply-refated : (fate : Fate) (number call : ℕ) (replies : List Reply)
    → reply_to call (refated fate number replies) ≡ option_map (refated_one fate number) (reply_to call replies)
reply-refated fate number call [] = refl
reply-refated fate number call (r ∷ rs) =
    let same : (refated_one fate number r).call ≡ r.call = call-stays fate number r in
    elim (cases_Bool (eqb r.call call)) [
      | inl is ↦ rw (same, is) refl
      | inr not ↦ rw (same, not) (reply-refated fate number call rs)
    ]

-- that to another call stays
pub other-reply : (fate : Fate) (number call : ℕ) (replies : List Reply) (r : Reply) → Apart (map (λ (s : Reply). s.number) replies)
    → find (is_one number) replies ≡ Some r → eqb r.call call ≡ false → reply_to call (refated fate number replies) ≡ reply_to call replies
other-reply fate number call [] r apart found other = refl
other-reply fate number call (x ∷ rs) r apart found other =
    elim (cases_Bool (is_one number x)) [
      | inl is ↦
          let same : x ≡ r = some-same x r (sym (cond-true (is_one number x) (Some x) (find (is_one number) rs) is) ∙ found) in
          let apart_from : eqb x.call call ≡ false = ap (λ (s : Reply). eqb s.call call) same ∙ other in
          let none : list_any (λ m. eqb m number) (map (λ (s : Reply). s.number) rs) ≡ false =
          subst (λ (n : ℕ). list_any (λ m. eqb m n) (map (λ (s : Reply). s.number) rs) ≡ false) (eqb-true x.number number (and_parts _ _ is).1) apart.0 in
          rw (is, apart_from, none-refated fate number rs none) refl
      | inr not ↦
          rw (not, other-reply fate number call rs r apart.1 (sym (cond-false (is_one number x) (Some x) (find (is_one number) rs) not) ∙ found) other) refl
    ]

-- ---- marks

-- the outcome that is noted of a number
abbrev outcome_from : ℕ → Option Outcome → History → Option Outcome
outcome_from number last history = fold (λ so_far judgement. cond (eqb judgement.number number) (Some judgement.outcome) so_far) last history

abbrev from_mark : ℕ → Option Mark → Marks → Option Mark
from_mark number last marks = fold (λ so_far given. cond (eqb given.0 number) (Some given.1) so_far) last marks

mark-from : (number : ℕ) (replies : List Reply) (last : Option Outcome) (history : History)
    → from_mark number (option_map (mark_after replies number) last) (marks_of history replies) ≡ option_map (mark_after replies number) (outcome_from number last history)
mark-from number replies last [] = refl
mark-from number replies last (judgement ∷ history) =
    elim (cases_Bool (eqb judgement.number number)) [
      | inl is ↦
          let mine : Option Mark = Some (mark_after replies judgement.number judgement.outcome) in
          ap (λ (so_far : Option Mark). from_mark number so_far (marks_of history replies))
          (cond-true (eqb judgement.number number) mine (option_map (mark_after replies number) last) is
          ∙ ap (λ (n : ℕ). Some (mark_after replies n judgement.outcome)) (eqb-true judgement.number number is))
          ∙ mark-from number replies (Some judgement.outcome) history
          ∙ ap (λ (so_far : Option Outcome). option_map (mark_after replies number) (outcome_from number so_far history))
          (sym (cond-true (eqb judgement.number number) (Some judgement.outcome) last is))
      | inr not ↦
          let mine : Option Mark = Some (mark_after replies judgement.number judgement.outcome) in
          ap (λ (so_far : Option Mark). from_mark number so_far (marks_of history replies))
          (cond-false (eqb judgement.number number) mine (option_map (mark_after replies number) last) not)
          ∙ mark-from number replies last history
          ∙ ap (λ (so_far : Option Outcome). option_map (mark_after replies number) (outcome_from number so_far history))
          (sym (cond-false (eqb judgement.number number) (Some judgement.outcome) last not))
    ]

-- the mark of an outcome where the reply to the call has another fate
abbrev ended_mark : Fate → Option Mark → Option Mark
ended_mark fate (Some (Replied good)) = Some (answered_mark good fate)
ended_mark fate mark = mark

kept-fate : (fate : Fate) → is_fate_kept fate ≡ true → fate ≡ IsKept
kept-fate IsKept is = refl
kept-fate WasAcked is = absurd (false≢true is)
kept-fate WasDropped is = absurd (false≢true is)

mark-ends : (fate : Fate) (call : ℕ) (one other : List Reply) (r : Reply) → reply_to call one ≡ Some r → is_kept r ≡ true
    → reply_to call other ≡ Some (record r { fate = fate }) → (outcome : Option Outcome)
    → option_map (mark_after other call) outcome ≡ ended_mark fate (option_map (mark_after one call) outcome)
mark-ends fate call one other r before kept after None = refl
mark-ends fate call one other r before kept after (Some (Refused code)) = refl
mark-ends fate call one other r before kept after (Some AcceptedContainer) = refl
mark-ends fate call one other r before kept after (Some AcceptedCall) = rw (before, after, kept-fate r.fate kept) refl
mark-ends fate call one other r before kept after (Some AcceptedOther) = rw (before, after, kept-fate r.fate kept) refl

given-own : (call : ℕ) (mark : Mark) (marks : Marks) → mark_of call (given call mark marks) ≡ Some mark
given-own call mark marks =
    fold-append (λ last given. cond (eqb given.0 call) (Some given.1) last) None marks ((call, mark) ∷ []) ∙ cond-true (eqb call call) (Some mark) (mark_of call marks) (eq-eqb call call refl)

given-other : (number call : ℕ) (mark : Mark) (marks : Marks) → eqb call number ≡ false → mark_of number (given call mark marks) ≡ mark_of number marks
given-other number call mark marks other =
    fold-append (λ last given. cond (eqb given.0 number) (Some given.1) last) None marks ((call, mark) ∷ []) ∙ cond-false (eqb call number) (Some mark) (mark_of number marks) other

ended-own : (fate : Fate) (call : ℕ) (mark : Option Mark) (marks : Marks) → mark_of call marks ≡ mark → mark_of call (with_ended call fate mark marks) ≡ ended_mark fate mark
ended-own fate call (Some (Replied good)) marks is = given-own call (answered_mark good fate) marks
ended-own fate call mark marks is = is

ended-other : (fate : Fate) (number call : ℕ) (mark : Option Mark) (marks : Marks) → eqb call number ≡ false
    → mark_of number (with_ended call fate mark marks) ≡ mark_of number marks
ended-other fate number call (Some (Replied good)) marks other = given-other number call (answered_mark good fate) marks other
ended-other fate number call mark marks other = refl

-- the mark of a call whose kept reply was found is that by its fate
pub own-mark : (fate : Fate) (number : ℕ) (history : History) (replies : List Reply) (r : Reply) → AreApart replies
    → find (is_one number) replies ≡ Some r → is_number_kept r.call history ≡ true
    → mark_of r.call (marks_of history (refated fate number replies))
    ≡ mark_of r.call (with_ended r.call fate (found r.call history (marks_of history replies)) (marks_of history replies))
own-mark fate number history replies r apart there kept =
    let is : is_one number r ≡ true = found-is (is_one number) replies r there in
    let before : reply_to r.call replies ≡ Some r = own-reply (is_one number) replies r apart.calls there in
    let after : reply_to r.call (refated fate number replies) ≡ Some (record r { fate = fate }) =
    reply-refated fate number r.call replies ∙ ap (option_map (refated_one fate number)) before ∙ ap (λ (s : Reply). Some s) (cond-true (is_one number r) (record r { fate = fate }) r is) in
    let marks = marks_of history replies in
    let here : found r.call history marks ≡ mark_of r.call marks = cond-true (is_number_kept r.call history) (mark_of r.call marks) None kept in
    mark-from r.call (refated fate number replies) None history
    ∙ mark-ends fate r.call replies (refated fate number replies) r before (and_parts _ _ is).0 after (outcome_from r.call None history)
    ∙ ap (ended_mark fate) (sym (mark-from r.call replies None history))
    ∙ sym (rw here (ended-own fate r.call (mark_of r.call marks) marks refl))

pub marks-ended : (others : (history : History) (one other : List Reply) (number : ℕ) → reply_to number one ≡ reply_to number other → mark_of number (marks_of history one) ≡ mark_of number (marks_of history other))
    → (fate : Fate) (number : ℕ) (history : History) (replies : List Reply) (r : Reply) → AreApart replies
    → find (is_one number) replies ≡ Some r → (m : ℕ) → is_number_kept m history ≡ true
    → mark_of m (marks_of history (refated fate number replies))
    ≡ mark_of m (with_ended r.call fate (found r.call history (marks_of history replies)) (marks_of history replies))
marks-ended others fate number history replies r apart there m kept =
    elim (cases_Bool (eqb r.call m)) [
      | inl is ↦
          let same : r.call ≡ m = eqb-true r.call m is in
          subst (λ (n : ℕ). mark_of n (marks_of history (refated fate number replies)) ≡ mark_of n (with_ended r.call fate (found r.call history (marks_of history replies)) (marks_of history replies)))
          same (own-mark fate number history replies r apart there (subst (λ (n : ℕ). is_number_kept n history ≡ true) (sym same) kept))
      | inr not ↦
          others history (refated fate number replies) replies m (other-reply fate number m replies r apart.numbers there not)
          ∙ sym (ended-other fate m r.call (found r.call history (marks_of history replies)) (marks_of history replies) not)
    ]

-- ---- dropped, and acknowledged

pub drops-refates : (number : ℕ) (replies : List Reply)
    → map (λ other. cond (eqb other.number number) (dropped other) other) replies ≡ refated WasDropped number replies
drops-refates number [] = refl
drops-refates number (r ∷ rs) =
    elim (cases_Bool (is_kept r)) [
      | inr gone ↦ rw (gone, drops-refates number rs) (cond_both (eqb r.number number) r r (λ (s : Reply). s ∷ refated WasDropped number rs ≡ r ∷ refated WasDropped number rs) (λ _. refl) (λ _. refl))
      | inl kept ↦ rw (kept, drops-refates number rs) refl
    ]

turned : (a b : ℕ) → eqb a b ≡ eqb b a
turned a b =
    elim (cases_Bool (eqb a b)) [
      | inl is ↦ is ∙ sym (eq-eqb b a (sym (eqb-true a b is)))
      | inr not ↦ not ∙ sym (ne_eqb b a (λ same. eqb-false a b not (sym same)))
    ]

one-more-acked : (numbers : List ℕ) (number : ℕ) (r : Reply) → refated_one WasAcked number (acked_by numbers r) ≡ acked_by (numbers ++ number ∷ []) r
one-more-acked numbers number r =
    let more : list_any (λ n. eqb n r.number) (numbers ++ number ∷ []) ≡ (list_any (λ n. eqb n r.number) numbers || (eqb number r.number || false)) =
    list_any-append (λ n. eqb n r.number) numbers (number ∷ []) in
    elim (cases_Bool (is_kept r)) [
      | inr gone ↦ rw (gone, gone) refl
      | inl kept ↦ elim (cases_Bool (list_any (λ n. eqb n r.number) numbers)) [
        | inl among ↦ rw (more, kept, among) refl
        | inr not ↦ elim (cases_Bool (eqb r.number number)) [
          | inl is ↦ rw (more, kept, not, kept, is, sym (turned r.number number) ∙ is) refl
          | inr other ↦ rw (more, kept, not, kept, other, sym (turned r.number number) ∙ other) refl
        ]
      ]
    ]

pub acked-in-turn : (numbers : List ℕ) (number : ℕ) (replies : List Reply)
    → refated WasAcked number (map (acked_by numbers) replies) ≡ map (acked_by (numbers ++ number ∷ [])) replies
acked-in-turn numbers number [] = refl
acked-in-turn numbers number (r ∷ rs) = rw (one-more-acked numbers number r, acked-in-turn numbers number rs) refl

pub none-acked : (replies : List Reply) → map (acked_by []) replies ≡ replies
none-acked [] = refl
none-acked (r ∷ rs) = rw (and_right (is_kept r) false refl, none-acked rs) refl

same-acked : (key : Reply → ℕ) (stays : (numbers : List ℕ) (r : Reply) → key (acked_by numbers r) ≡ key r) (numbers : List ℕ) (replies : List Reply)
    → map key (map (acked_by numbers) replies) ≡ map key replies
same-acked key stays numbers [] = refl
same-acked key stays numbers (r ∷ rs) = rw (stays numbers r, same-acked key stays numbers rs) refl

pub acked-apart : (numbers : List ℕ) (replies : List Reply) → AreApart replies → AreApart (map (acked_by numbers) replies)
acked-apart numbers replies apart =
    let test : Reply → Bool = λ r. is_kept r && list_any (λ n. eqb n r.number) numbers in
    record {
      calls = subst Apart (sym (same-acked (λ (r : Reply). r.call) (λ ns r. cond_both (is_kept r && list_any (λ n. eqb n r.number) ns) (record r { fate = WasAcked }) r (λ (s : Reply). s.call ≡ r.call) (λ _. refl) (λ _. refl)) numbers replies)) apart.calls;
      numbers = subst Apart (sym (same-acked (λ (r : Reply). r.number) (λ ns r. cond_both (is_kept r && list_any (λ n. eqb n r.number) ns) (record r { fate = WasAcked }) r (λ (s : Reply). s.number ≡ r.number) (λ _. refl) (λ _. refl)) numbers replies)) apart.numbers;
    }

-- ---- replies of distinct calls, whose numbers rise

pairs-head : {X : Type 0} (R : X → X → Type 0) (x : X) (xs : List X) → AllPairs R (x ∷ xs) → All (R x) xs
pairs-head R x xs all = λ k d within. all 0 (suc k) d (omega arith) (omega arith)

pairs-tail : {X : Type 0} (R : X → X → Type 0) (x : X) (xs : List X) → AllPairs R (x ∷ xs) → AllPairs R xs
pairs-tail R x xs all = λ i j d lt within. all (suc i) (suc j) d (omega arith) (omega arith)

none-same : (key : Reply → ℕ) (n : ℕ) (replies : List Reply) → All (λ r. key r ≢ n) replies → list_any (λ m. eqb m n) (map key replies) ≡ false
none-same key n [] all = refl
none-same key n (r ∷ rs) all =
    rw (ne_eqb (key r) n (All-head (λ (s : Reply). key s ≢ n) r rs all)) (none-same key n rs (All-tail (λ (s : Reply). key s ≢ n) r rs all))

pub apart-by : (key : Reply → ℕ) (R : Reply → Reply → Type 0) → ((one other : Reply) → R one other → key other ≢ key one) → (replies : List Reply) → AllPairs R replies → Apart (map key replies)
apart-by key R differ [] all = tt
apart-by key R differ (r ∷ rs) all =
    (none-same key (key r) rs (All-weaker (R r) (λ (s : Reply). key s ≢ key r) (differ r) rs (pairs-head R r rs all)), apart-by key R differ rs (pairs-tail R r rs all))

pub are-apart : (history : History) (replies : List Reply) (last : ℕ) → AreReplies history replies last → AreApart replies
are-apart history replies last are =
    record {
      calls = apart-by (λ (r : Reply). r.call) (λ (one other : Reply). one.call ≢ other.call) (λ one other differ same. differ (sym same)) replies are.once;
      numbers = apart-by (λ (r : Reply). r.number) (λ (one other : Reply). one.number < other.number) (λ one other lt same. omega arith) replies are.rising;
    }

-- ---- what holds of the others

-- where a reply is taken out, the others keep what holds of each
pub all-left : (P : Kept → Type 0) (number : ℕ) (replies : List Kept) → All P replies → All P (without_number number replies)
all-left P number [] all = all
all-left P number (kept ∷ others) all =
    elim (cases_Bool (eqb kept.number number)) [
      | inl is ↦ rw is (All-tail P kept others all)
      | inr not ↦ rw not (All-cons P kept (without_number number others) (All-head P kept others all) (all-left P number others (All-tail P kept others all)))
    ]

-- one that is found is as all are
pub found-holds : (P : Kept → Type 0) (test : Kept → Bool) (replies : List Kept) (kept : Kept) → find test replies ≡ Some kept → All P replies → P kept
found-holds P test [] kept found all = absurd (none-some kept found)
found-holds P test (first ∷ others) kept found all =
    elim (cases_Bool (test first)) [
      | inl is ↦ subst P (same_Some first kept (sym (cond-true (test first) (Some first) (find test others) is) ∙ found)) (All-head P first others all)
      | inr not ↦ found-holds P test others kept (sym (cond-false (test first) (Some first) (find test others) not) ∙ found) (All-tail P first others all)
    ]
