use Rattle.std.proofs.Common.{◌≡◌, ◌∙◌, false, sym, refl}
use Rattle.std.proofs.lemmas.Bool.{false≢true}
use Rattle.std.proofs.lemmas.Option.{none-some, same_Some}
use Rattle.id_window.specs.declared.mark.Mark.{Mark}
use Rattle.id_window.specs.declared.mark.Mark.TheVariants.{Noticed, Service, Container, Waiting, Replied, Acked, Dropped}
use Rattle.id_window.specs.Marks.{is_accepted}
use Rattle.server_session.specs.Marking.{dropped_mark}
use Rattle.server_session.proofs.Turning.{stands-set, stands-stays}
use Rattle.server_session.proofs.marking.mark_dropped.Goals as goal

-- the mark of a message that wasn't accepted stays
stays : (mark : Mark) → is_accepted mark ≡ false → dropped_mark mark ≡ mark
stays (Noticed code) is = refl
stays Service is = absurd (false≢true (sym is))
stays Container is = absurd (false≢true (sym is))
stays Waiting is = absurd (false≢true (sym is))
stays (Replied well) is = absurd (false≢true (sym is))
stays (Acked well) is = absurd (false≢true (sym is))
stays (Dropped well) is = absurd (false≢true (sym is))

pub returns-in_default : goal.returns-in_default
returns-in_default c = λ history marks stands.
    stands-stays c.other_marks_count_nothing.ensures c.args.inbox.now history marks c.args.call dropped_mark
    (λ mark found. absurd (none-some mark (sym c.in_default.is ∙ (c.mark.ensures.stands history marks stands ∙ found)))) stands

pub returns-then-is_accepted : goal.returns-then-is_accepted
returns-then-is_accepted c = λ history marks stands.
    stands-set c.other_marks_count_nothing.ensures c.set_mark.new.self history marks c.args.call dropped_mark c.in-Some.mark c.dropped.result
    (sym (c.mark.ensures.stands history marks stands) ∙ c.in-Some.is) (sym c.dropped.ensures.value) (c.set_mark.ensures.stands history marks stands)

pub returns-else-is_accepted : goal.returns-else-is_accepted
returns-else-is_accepted c = λ history marks stands.
    let found = sym (c.mark.ensures.stands history marks stands) ∙ c.in-Some.is in
    let not_accepted : is_accepted c.in-Some.mark ≡ false = sym c.is_accepted.ensures ∙ c.if-is_accepted.false in
    stands-stays c.other_marks_count_nothing.ensures c.args.inbox.now history marks c.args.call dropped_mark
    (λ mark is. let same : c.in-Some.mark ≡ mark = same_Some c.in-Some.mark mark (sym found ∙ is) in rw (← same) (stays c.in-Some.mark not_accepted)) stands
