use Rattle.std.proofs.Common.{◌≡◌, ◌∙◌, true, false, Some, None, refl, sym, rules, arith}
use Rattle.std.proofs.lemmas.Grind.{common_steps}
use Rattle.id_window.specs.History.{Refused, found}
use Rattle.inbox.specs.declared.judged.Verdict.TheVariants.{Accepted, Noticed}
use Rattle.inbox.specs.Judging.{is_recorded, outcome_of}
use Rattle.inbox.specs.Drafts.{draft_verdict, drafted}
use Rattle.inbox.proofs.SettledLemmas.{same_verdict, settled_by, settled_refused, settled_unrecorded, settled_accepted, accepted_mark}
use Rattle.inbox.proofs.settling.verdict_on.Goals as goal

-- ---- refused and recorded

pub returns-then-is_recorded-clause-judged : goal.returns-then-is_recorded-clause-judged
returns-then-is_recorded-clause-judged c session stands =
    let none : c.find.result ≡ None = first_of (search rules, cc, grind (arith, common_steps)) in
    let mark_is : None ≡ found c.args.number session.history session.marks = sym none ∙ c.find.ensures.stands session.history session.marks stands in
    same_verdict session c.args.envelope c.args.number c.args.seq c.args.kind None (Some c.in-Some-refusal.code) mark_is (c.in-Some-refusal.ensures.stands session.history session.marks stands)

pub returns-then-is_recorded-clause-stands : goal.returns-then-is_recorded-clause-stands
returns-then-is_recorded-clause-stands c session stands =
    let kept : is_recorded c.in-Some-refusal.code ≡ true = first_of (cc, search rules) in
    settled_by _ session c.args.number c.args.seq c.args.kind (Noticed c.in-Some-refusal.code) (draft_verdict c.args.envelope session (drafted c.args.number c.args.seq c.args.kind))
    (returns-then-is_recorded-clause-judged c session stands)
    (settled_refused _ session c.args.number c.args.seq c.args.kind c.in-Some-refusal.code kept
    (c.note-then-is_recorded.ensures.stands session.history session.marks (Refused c.in-Some-refusal.code) stands refl))

-- ---- refused and not recorded

pub returns-else-is_recorded-clause-judged : goal.returns-else-is_recorded-clause-judged
returns-else-is_recorded-clause-judged c session stands =
    let none : c.find.result ≡ None = first_of (search rules, cc, grind (arith, common_steps)) in
    let mark_is : None ≡ found c.args.number session.history session.marks = sym none ∙ c.find.ensures.stands session.history session.marks stands in
    same_verdict session c.args.envelope c.args.number c.args.seq c.args.kind None (Some c.in-Some-refusal.code) mark_is (c.in-Some-refusal.ensures.stands session.history session.marks stands)

pub returns-else-is_recorded-clause-stands : goal.returns-else-is_recorded-clause-stands
returns-else-is_recorded-clause-stands c session stands =
    let left : is_recorded c.in-Some-refusal.code ≡ false = first_of (cc, search rules) in
    settled_by _ session c.args.number c.args.seq c.args.kind (Noticed c.in-Some-refusal.code) (draft_verdict c.args.envelope session (drafted c.args.number c.args.seq c.args.kind))
    (returns-else-is_recorded-clause-judged c session stands)
    (settled_unrecorded _ session c.args.number c.args.seq c.args.kind c.in-Some-refusal.code left stands)

-- ---- accepted

pub returns-in-None-clause-judged : goal.returns-in-None-clause-judged
returns-in-None-clause-judged c session stands =
    let none : c.find.result ≡ None = first_of (search rules, cc, grind (arith, common_steps)) in
    let mark_is : None ≡ found c.args.number session.history session.marks = sym none ∙ c.find.ensures.stands session.history session.marks stands in
    same_verdict session c.args.envelope c.args.number c.args.seq c.args.kind None None mark_is (c.in-None.ensures.stands session.history session.marks stands)

pub returns-in-None-clause-stands : goal.returns-in-None-clause-stands
returns-in-None-clause-stands c session stands =
    settled_by _ session c.args.number c.args.seq c.args.kind Accepted (draft_verdict c.args.envelope session (drafted c.args.number c.args.seq c.args.kind))
    (returns-in-None-clause-judged c session stands)
    (settled_accepted _ session c.args.number c.args.seq c.args.kind c.first_mark.result c.first_mark.ensures
    (c.note.ensures.stands session.history session.marks (outcome_of c.args.kind) stands (accepted_mark c.args.kind c.first_mark.result c.first_mark.ensures)))
