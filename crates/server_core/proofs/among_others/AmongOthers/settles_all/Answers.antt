use Rattle.std.proofs.Common.{◌≡◌, ◌∙◌, ◌+◌, ◌-◌, ◌≤◌, List, ◌∷◌, length, ap, sym, subst, arith, inl, inr}
use Rattle.std.specs.Iterator.Adapters.{zip_first, zip_second}
use Rattle.std.specs.Slice.Iter.{iter_rest}
use Rattle.std.specs.Vec.Iter.{into_iter_items}
use Rattle.inbox.specs.declared.judged.Judgement.{Judgement}
use Rattle.server_rules.specs.Event.{Setting}
use Rattle.server_session.specs.Says.{setting_of}
use Rattle.server_dispatch.specs.declared.dues.Due.{Due}
use Rattle.server_core.specs.SettlingAll.{all_settled, calls_of}
use Rattle.server_core.proofs.AllSettled.{HasUsed, all-begin, calls-first, calls-next, ends, goes-on, nothing-yet, spare-first, uses-all, uses-first}
use Rattle.server_core.proofs.Left.{left-all, left-then}
use Rattle.server_core.proofs.among_others.AmongOthers.settles_all.Goals as goal

pub loop-judgement-init : goal.loop-judgement-init
loop-judgement-init g c =
    let D : Type 0 = g.row.D.Denot in
    let begins = c.into_iter-judgement-iterator.ensures.into_iter_gives in
    let judged = c.args.judged.now in
    let dues = c.args.dues.items in
    let first = iter_rest (zip_first c.into_iter-judgement-iterator.result) in
    let second = into_iter_items (zip_second c.into_iter-judgement-iterator.result) in
    let first_is : first ≡ judged = rw (begins, c.zip-judgement-items.ensures.first) c.iter.ensures.rest in
    let second_is : second ≡ dues = rw begins c.zip-judgement-items.ensures.second.0 in
    let calls = calls_of judged dues in
    record {
      can_next = (tt, tt);
      finite = tt;
      enough = subst (λ (left : List Judgement). length left ≤ length second) (sym first_is)
          (subst (λ (left : List Due). length judged ≤ length left) (sym second_is) c.requires.enough);
      calls = λ kept is. sym (ap (λ (left : List Judgement). calls_of left second kept) first_is ∙ ap (λ (left : List Due). calls_of judged left kept) second_is) ∙ is;
      used = subst (λ (left : List Due). HasUsed c.args.now c.args.limit calls dues left c.args.limit c.args.self.now.speaking.standing c.args.self.now.speaking.turn c.args.self.now.speaking.standing c.args.self.now.speaking.turn) (sym second_is)
          (nothing-yet c.args.now c.args.limit calls dues c.args.self.now.speaking.standing c.args.self.now.speaking.turn);
      job_room = subst (λ (left : List Judgement). length left ≤ c.args.self.now.speaking.jobs.room) (sym first_is) c.requires.job_room;
      binding_room = subst (λ (left : List Judgement). length left ≤ c.args.self.now.speaking.bindings.room) (sym first_is) c.requires.binding_room;
      others = left-all c.args.self.now.others;
      under = λ keys name past told bodies among ring told_are are is speaks.
          all-begin {S = D} c.args.now (setting_of c.args.now g.D.Draw.step keys) name past c.args.limit judged first dues second c.args.self.now.others c.args.self.now.speaking.standing c.args.self.now.speaking.turn
          c.args.self.now.speaking.jobs.jobs c.args.self.now.speaking.bindings.bindings c.args.draw.now told bodies among first_is second_is told_are are is speaks;
    }

pub settles-left-requires-clause-at : goal.settles-left-requires-clause-at
settles-left-requires-clause-at g c =
    let uses = c.loop-judgement.invariant.used.uses (calls_of c.args.judged.now c.args.dues.items) (λ kept is. is) in
    uses.at c.requires.at

pub settles-left-requires-clause-room : goal.settles-left-requires-clause-room
settles-left-requires-clause-room g c =
    let judgement = c.in-Some.judgement.now in
    let s = c.loop-judgement.judgement-iterator in
    let t = c.next.new.self in
    let calls = calls_of c.args.judged.now c.args.dues.items in
    let steps = c.in-Some.ensures.steps in
    let again = calls-first calls judgement (iter_rest (zip_first s)) (iter_rest (zip_first t)) c.in-Some.due (into_iter_items (zip_second s)) (into_iter_items (zip_second t))
    steps.0 steps.1.0 c.loop-judgement.invariant.calls in
    spare-first c.args.now c.args.limit calls judgement c.args.dues.items (into_iter_items (zip_second s)) (into_iter_items (zip_second t)) c.in-Some.due c.judged-due.result c.loop-judgement.left
    c.args.self.now.speaking.standing c.args.self.now.speaking.turn c.loop-judgement.self.speaking.standing c.loop-judgement.self.speaking.turn c.judged-due.ensures c.requires.room c.loop-judgement.invariant.used steps.1.0 again

pub loop-judgement-preserved : goal.loop-judgement-preserved
loop-judgement-preserved g c =
    let D : Type 0 = g.row.D.Denot in
    let now = c.args.now in
    let so_far = c.loop-judgement.invariant in
    let after = c.settles-left.new in
    let promised = c.settles-left.ensures in
    let judgement = c.in-Some.judgement.now in
    let due = c.in-Some.due in
    let given = c.judged-due.result in
    let judged = iter_rest (zip_first c.loop-judgement.judgement-iterator) in
    let next = iter_rest (zip_first c.next.new.self) in
    let dues = into_iter_items (zip_second c.loop-judgement.judgement-iterator) in
    let left_dues = into_iter_items (zip_second c.next.new.self) in
    let first_is : judged ≡ judgement ∷ next = c.in-Some.ensures.steps.0 in
    let due_is : dues ≡ due ∷ left_dues = c.in-Some.ensures.steps.1.0 in
    let long : length judged ≡ length (judgement ∷ next) = ap (λ (judged : List Judgement). length judged) first_is in
    let due_long : length dues ≡ length (due ∷ left_dues) = ap (λ (dues : List Due). length dues) due_is in
    let calls = calls_of c.args.judged.now c.args.dues.items in
    let again = calls-first calls judgement judged next due dues left_dues first_is due_is so_far.calls in
    let answered = c.settles-left.result in
    let left = c.loop-judgement.left in
    let few = promised.few in
    let together : (left - answered) + answered ≡ left = omega (arith, few) in
    record {
      can_next = (tt, tt);
      finite = tt;
      enough = omega (arith, so_far.enough, long, due_long);
      calls = calls-next calls judgement judged next due dues left_dues first_is due_is so_far.calls;
      used = uses-first now c.args.limit calls judgement c.args.dues.items dues left_dues due given left answered (left - answered)
          c.args.self.now.speaking.standing c.args.self.now.speaking.turn c.loop-judgement.self.speaking.standing c.loop-judgement.self.speaking.turn after.self.speaking.standing after.self.speaking.turn
          c.judged-due.ensures so_far.used due_is again together promised.uses;
      job_room = omega (arith, so_far.job_room, promised.job_room_lasts, long);
      binding_room = omega (arith, so_far.binding_room, promised.binding_room_lasts, long);
      others = left-then c.args.self.now.others c.loop-judgement.self.others after.self.others so_far.others promised.left;
      under = λ keys name past told bodies among ring told_are are is speaks.
          let setting : Setting D = setting_of now g.D.Draw.step keys in
          goes-on {S = D} c.one_session_stays_alone.ensures.settles c.one_session_stays_in_order.ensures.settles now setting name past left answered (left - answered)
          (all_settled setting told bodies among) judgement judged next due dues left_dues
          c.loop-judgement.self.others c.loop-judgement.self.speaking.standing c.loop-judgement.self.speaking.turn c.loop-judgement.self.speaking.jobs.jobs c.loop-judgement.self.speaking.bindings.bindings c.loop-judgement.draw
          after.self.others after.self.speaking.standing after.self.speaking.turn after.self.speaking.jobs.jobs after.self.speaking.bindings.bindings after.draw
          given c.judged-due.ensures first_is due_is together (so_far.under keys name past told bodies among ring told_are are is speaks)
          (record {
            settled = λ seq verdict body opened so_far. promised.settled keys name past seq verdict body opened so_far ring;
            fewer = λ seq verdict body opened so_far. promised.fewer keys name past seq verdict body opened so_far ring;
          });
    }

pub returns-clause-settled : goal.returns-clause-settled
returns-clause-settled g c = λ keys name past told bodies among ring told_are are is speaks.
    let D : Type 0 = g.row.D.Denot in
    let now = c.args.now in
    let setting : Setting D = setting_of now g.D.Draw.step keys in
    let so_far = c.loop-judgement.invariant in
    let judged = iter_rest (zip_first c.loop-judgement.judgement-iterator) in
    let dues = into_iter_items (zip_second c.loop-judgement.judgement-iterator) in
    let none : length judged ≡ 0 =
    elim c.in-None.ensures.steps [
      | inl first ↦ first.1.0
      | inr second ↦ omega (arith, so_far.enough, second.1.0, c.loop-judgement.judgement-iterator.b.rest.ok.0)
    ] in
    ends {S = D} now setting name past c.loop-judgement.left (all_settled setting told bodies among) judged dues
    c.loop-judgement.self.others c.loop-judgement.self.speaking.standing c.loop-judgement.self.speaking.turn c.loop-judgement.self.speaking.jobs.jobs c.loop-judgement.self.speaking.bindings.bindings c.loop-judgement.draw
    (so_far.under keys name past told bodies among ring told_are are is speaks) none

pub returns-clause-uses : goal.returns-clause-uses
returns-clause-uses g c = λ called implied.
    uses-all c.args.now c.args.limit (calls_of c.args.judged.now c.args.dues.items) c.args.dues.items (into_iter_items (zip_second c.loop-judgement.judgement-iterator)) c.loop-judgement.left
    c.args.self.now.speaking.standing c.args.self.now.speaking.turn c.loop-judgement.self.speaking.standing c.loop-judgement.self.speaking.turn c.loop-judgement.invariant.used called implied

pub returns-clause-left : goal.returns-clause-left
returns-clause-left g c = c.loop-judgement.invariant.others
