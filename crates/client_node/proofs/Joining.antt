-- What is written in two steps is written in one.
use Rattle.std.proofs.Common.{◌≡◌, ℕ, Bool, List, [], ◌∷◌, ◌++◌, Option, Some, None, IfSome, IsSomeAnd, Result, Ok, Err, inl, inr, sym, ap, subst, ◌∙◌, append_assoc}
use Rattle.cipher_modes.specs.CounterMode.{CtrState}
use Rattle.mt_edge.specs.Faults.{one_more}
use Rattle.mt_edge.specs.Links.{Told}
use Rattle.transport.specs.Wires.{Line}
use Rattle.client_node.specs.Flow.{BreaksLast, Cut, FlowedBy, FramedBy}
use Rattle.client_node.specs.Writes.{Breaks, Seen, Writes, Wrote, WroteFront}
use Rattle.transport.specs.Spelt.{Spells}
use Rattle.client_node.specs.declared.end.End.{End}
use Rattle.client_node.specs.declared.end.End.TheVariants as ends

-- ---- what is written

pub wrote_both : (one other : List ℕ) (first middle last : Told) → Wrote one first middle → Wrote other middle last → Wrote (one ++ other) first last
wrote_both one other first middle last before after =
    record {
      written = after.written ∙ ap (λ bytes. bytes ++ other) before.written ∙ append_assoc first.written one other;
      came = after.came ∙ before.came;
      left = after.left ∙ before.left;
      reads = after.reads ∙ before.reads;
    }

pub wrote_front : (one whole rest : List ℕ) (first middle last : Told) → Wrote one first middle → WroteFront whole rest middle last → WroteFront (one ++ whole) rest first last
wrote_front one whole rest first middle last before after =
    record {
      front = after.front;
      rest = after.rest;
      cut = after.cut;
      some = after.some;
      wrote = subst (λ (bytes : List ℕ). Wrote bytes first last) (sym (append_assoc one whole after.front))
          (wrote_both one (whole ++ after.front) first middle last before after.wrote);
    }

-- what is told in two steps, where it tells
pub told_both : (P Q R : Told → Told → Type 0) → ((first middle last : Told) → P first middle → Q middle last → R first last) → (first middle last : Option Told)
    → IfSome middle (λ after. IsSomeAnd first (λ before. P before after))
    → IfSome last (λ after. IsSomeAnd middle (λ before. Q before after))
    → IfSome last (λ after. IsSomeAnd first (λ before. R before after))
told_both P Q R both first middle None before after = tt
told_both P Q R both first None (Some last) before after = absurd after
told_both P Q R both None (Some middle) (Some last) before after = absurd before
told_both P Q R both (Some first) (Some middle) (Some last) before after = both first middle last before after

pub writes_both : (one other : List ℕ) (first middle last : Seen) → Writes one first middle → Writes other middle last → Writes (one ++ other) first last
writes_both one other first middle last before after =
    record {
      told = told_both (Wrote one) (Wrote other) (Wrote (one ++ other)) (wrote_both one other) first.told middle.told last.told before.told after.told;
      faults = after.faults ∙ before.faults;
    }

pub breaks_both : (one whole rest : List ℕ) (first middle last : Seen) → Writes one first middle → Breaks whole rest middle last → Breaks (one ++ whole) rest first last
breaks_both one whole rest first middle last before after =
    record {
      told = told_both (Wrote one) (WroteFront whole rest) (WroteFront (one ++ whole) rest) (wrote_front one whole rest) first.told middle.told last.told before.told after.told;
      faults = after.faults ∙ ap (λ (count : ℕ). one_more count) before.faults;
    }

-- ---- what the wire tells

pub tells_after : (first middle last : Line) (one other : List (List ℕ)) (bytes more : List ℕ)
    → ((to : Option CtrState) (packets : List (List ℕ)) (before : List ℕ) → Spells first to packets before → Spells middle to (packets ++ one) (before ++ bytes))
    → ((to : Option CtrState) (packets : List (List ℕ)) (before : List ℕ) → Spells middle to packets before → Spells last to (packets ++ other) (before ++ more))
    → ((to : Option CtrState) (packets : List (List ℕ)) (before : List ℕ) → Spells first to packets before → Spells last to (packets ++ (one ++ other)) (before ++ (bytes ++ more)))
tells_after first middle last one other bytes more before after to packets text tells =
    rw (sym (append_assoc packets one other), sym (append_assoc text bytes more)) (after to (packets ++ one) (text ++ bytes) (before to packets text tells))

-- the frames of all packets but the last one
abbrev cut_both : (line line_between : Line) (framed those : List (List ℕ)) (one other : List ℕ)
    → line_between.form ≡ line.form
    → ((to : Option CtrState) (packets : List (List ℕ)) (text : List ℕ) → Spells line to packets text → Spells line_between to (packets ++ framed) (text ++ one))
    → Cut line_between those other → Cut line (framed ++ those) (one ++ other)
cut_both line line_between framed those one other form tells cut =
    record {
      earlier = framed ++ cut.earlier;
      packet = cut.packet;
      whole = one ++ cut.whole;
      last = cut.last;
      between = cut.between;
      packets = ap (λ (all : List (List ℕ)). framed ++ all) cut.packets ∙ sym (append_assoc framed cut.earlier (cut.packet ∷ []));
      all = ap (λ (all : List ℕ). one ++ all) cut.all ∙ sym (append_assoc one cut.whole cut.last);
      form = cut.form ∙ form;
      tells = tells_after line line_between cut.between framed cut.earlier one cut.whole tells cut.tells;
    }

breaks_last_both : (is_done : Bool) (line line_between : Line) (framed those : List (List ℕ)) (one other : List ℕ) (first middle last : Seen)
    → line_between.form ≡ line.form
    → ((to : Option CtrState) (packets : List (List ℕ)) (text : List ℕ) → Spells line to packets text → Spells line_between to (packets ++ framed) (text ++ one))
    → Writes one first middle → BreaksLast is_done line_between those other middle last → BreaksLast is_done line (framed ++ those) (one ++ other) first last
breaks_last_both is_done line line_between framed those one other first middle last form tells before after =
    record {
      last = after.last;
      cut = cut_both line line_between framed those one other form tells after.cut;
      breaks = breaks_both one after.cut.whole after.cut.last first middle last before after.breaks;
    }

both_same : (sent framed others those : List (List ℕ)) → sent ≡ framed → others ≡ those → sent ++ others ≡ framed ++ those
both_same sent framed others those before after = ap (λ (all : List (List ℕ)). all ++ others) before ∙ ap (λ (all : List (List ℕ)). framed ++ all) after

pub flowed_both : {X : Type 0} (result : Result X End) (is_done : Bool) (line line_between : Line) (framed those : List (List ℕ)) (one other : List ℕ) (first middle last : Seen)
    → line_between.form ≡ line.form
    → ((to : Option CtrState) (packets : List (List ℕ)) (text : List ℕ) → Spells line to packets text → Spells line_between to (packets ++ framed) (text ++ one))
    → Writes one first middle → FlowedBy result is_done line_between those other middle last → FlowedBy result is_done line (framed ++ those) (one ++ other) first last
flowed_both (Ok done) is_done line line_between framed those one other first middle last form tells before after = writes_both one other first middle last before after
flowed_both (Err ends.Spent) is_done line line_between framed those one other first middle last form tells before after = writes_both one other first middle last before after
flowed_both (Err ends.Memory) is_done line line_between framed those one other first middle last form tells before after = writes_both one other first middle last before after
flowed_both (Err ends.Decided) is_done line line_between framed those one other first middle last form tells before (inl after) =
    inl (writes_both one other first middle last before after)
flowed_both (Err ends.Decided) is_done line line_between framed those one other first middle last form tells before (inr after) =
    inr (breaks_last_both is_done line line_between framed those one other first middle last form tells before after)
flowed_both (Err ends.Lost) is_done line line_between framed those one other first middle last form tells before after =
    breaks_last_both is_done line line_between framed those one other first middle last form tells before after
flowed_both (Err ends.TurnsSpent) is_done line line_between framed those one other first middle last form tells before after = absurd after

pub framed_both : {X : Type 0} (result : Result X End) (is_done : Bool) (sent framed others those : List (List ℕ)) → sent ≡ framed → FramedBy result is_done others those
    → FramedBy result is_done (sent ++ others) (framed ++ those)
framed_both (Ok done) is_done sent framed others those before after = both_same sent framed others those before after
framed_both (Err ends.Spent) is_done sent framed others those before after = both_same sent framed others those before after
framed_both (Err ends.Decided) is_done sent framed others those before after = both_same sent framed others those before after
framed_both (Err ends.Lost) is_done sent framed others those before after = both_same sent framed others those before after
framed_both (Err ends.TurnsSpent) is_done sent framed others those before after = both_same sent framed others those before after
framed_both (Err ends.Memory) is_done sent framed others those before (inl after) = inl (both_same sent framed others those before after)
framed_both (Err ends.Memory) is_done sent framed others those before (inr (last, no_more, after)) =
    inr (last, no_more, both_same sent framed others (those ++ last ∷ []) before after ∙ sym (append_assoc framed those (last ∷ [])))
