use Rattle.std.proofs.Common.{IsTrue, true, false, ◌↔◌, subst, sym}
use Rattle.trace_check.specs.declared.fact.Fact.{Fact}
use Rattle.trace_check.specs.Lawful.{IsLawful}
use Rattle.trace_check.proofs.Judging.{no, yes}
use Rattle.trace_check.proofs.judge.may_stand.Goals as goal

pub returns-in-Body : goal.returns-in-Body
returns-in-Body c = subst (λ (f : Fact). IsTrue c.may_stand_body.result ↔ IsLawful c.args.book.now.facts.items c.args.place f) (sym c.in-Body.is) c.may_stand_body.ensures

pub returns-in-Name : goal.returns-in-Name
returns-in-Name c = subst (λ (f : Fact). IsTrue c.may_stand_name.result ↔ IsLawful c.args.book.now.facts.items c.args.place f) (sym c.in-Name.is) c.may_stand_name.ensures

pub returns-in-State : goal.returns-in-State
returns-in-State c = subst (λ (f : Fact). IsTrue c.may_stand_state.result ↔ IsLawful c.args.book.now.facts.items c.args.place f) (sym c.in-State.is) c.may_stand_state.ensures

pub returns-in-Entry : goal.returns-in-Entry
returns-in-Entry c = subst (λ (f : Fact). IsTrue true ↔ IsLawful c.args.book.now.facts.items c.args.place f) (sym c.in-Entry.is) (yes tt)

pub returns-in-Made : goal.returns-in-Made
returns-in-Made c = subst (λ (f : Fact). IsTrue true ↔ IsLawful c.args.book.now.facts.items c.args.place f) (sym c.in-Made.is) (yes tt)

pub returns-in-Left : goal.returns-in-Left
returns-in-Left c = subst (λ (f : Fact). IsTrue true ↔ IsLawful c.args.book.now.facts.items c.args.place f) (sym c.in-Left.is) (yes tt)

pub returns-in-Closed : goal.returns-in-Closed
returns-in-Closed c = subst (λ (f : Fact). IsTrue true ↔ IsLawful c.args.book.now.facts.items c.args.place f) (sym c.in-Closed.is) (yes tt)

pub returns-in-Gone : goal.returns-in-Gone
returns-in-Gone c = subst (λ (f : Fact). IsTrue true ↔ IsLawful c.args.book.now.facts.items c.args.place f) (sym c.in-Gone.is) (yes tt)

pub returns-in-Outside : goal.returns-in-Outside
returns-in-Outside c = subst (λ (f : Fact). IsTrue false ↔ IsLawful c.args.book.now.facts.items c.args.place f) (sym c.in-Outside.is) (no (λ is. is))
