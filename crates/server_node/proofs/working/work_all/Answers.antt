use Rattle.std.proofs.Common.{◌+◌, None, Some, ◌∙◌, arith}
use Rattle.server_node.proofs.Doings.{did_more}
use Rattle.server_node.proofs.Goings.{alike_both, goes_both}
use Rattle.server_node.proofs.Idling.{few_begin, few_more, idle_most, idle_none}
use Rattle.server_node.proofs.working.work_all.Goals as goal

pub returns-in-Err-clause-worked : goal.returns-in-Err-clause-worked
returns-in-Err-clause-worked g c = record { count = 0; did = c.in-Err.ensures.did c.args.service.now; idle = λ outside talk is stands. tt }

pub runs-init : goal.runs-init
runs-init g c = record {
  few = few_begin g.K.D.Draw.step g.V.Service.step g.K.S.Seal.lock (g.K.Desk.keys c.args.desk.now) _ _ c.args.now c.unfinished-most.result
      (c.in_default.ensures.did c.args.service.now) (λ server stands. c.unfinished-most.ensures.stands server stands);
  did = c.in_default.ensures.did c.args.service.now;
  goes = c.in_default.ensures.goes;
  same_in = c.tick.ensures.same_in;
  same_keys = c.tick.ensures.same_keys;
  same_binding = c.tick.ensures.same_binding;
  desk_counted = c.in_default.ensures.desk_counted;
}

pub returns-in-Err-run_first-clause-worked : goal.returns-in-Err-run_first-clause-worked
returns-in-Err-run_first-clause-worked g c =
    let so_far = c.runs.invariant in
    record {
      count = c.runs._count + 1;
      did = did_more g.K.D.Draw.step g.V.Service.step g.K.S.Seal.lock (g.K.Desk.keys c.args.desk.now) (g.K.Desk.keys c.runs.desk) _ _ _ c.args.now c.runs._count (Some c.in-Err-run_first.end) so_far.same_keys so_far.did c.in-Err-run_first.ensures.did;
      idle = λ outside talk is stands. tt;
    }

pub runs-preserved : goal.runs-preserved
runs-preserved g c =
    let so_far = c.runs.invariant in
    record {
      few = few_more g.K.D.Draw.step g.V.Service.step g.K.S.Seal.lock (g.K.Desk.keys c.args.desk.now) _ _ c.args.now c.runs._count c.unfinished-most.result c.ready.result
          c.runs_leave_fewer_jobs.ensures so_far.did (λ server stands. c.ready.ensures.stands server stands) (omega arith) so_far.few;
      did = did_more g.K.D.Draw.step g.V.Service.step g.K.S.Seal.lock (g.K.Desk.keys c.args.desk.now) (g.K.Desk.keys c.runs.desk) _ _ _ c.args.now c.runs._count None so_far.same_keys so_far.did c.in_default-run_first.ensures.did;
      goes = goes_both None _ _ _ _ _ _ _ _ _ so_far.goes c.in_default-run_first.ensures.goes;
      same_in = alike_both _ _ _ so_far.same_in c.run_first.ensures.same_in;
      same_keys = c.run_first.ensures.same_keys ∙ so_far.same_keys;
      same_binding = c.run_first.ensures.same_binding ∙ so_far.same_binding;
      desk_counted = c.in_default-run_first.ensures.desk_counted ∙ so_far.desk_counted;
    }

pub returns-then-ready-eq0-clause-worked : goal.returns-then-ready-eq0-clause-worked
returns-then-ready-eq0-clause-worked g c =
    idle_none g.K.D.Draw.step g.V.Service.step g.K.S.Seal.lock (g.K.Desk.keys c.args.desk.now) _ _ c.args.now c.runs._count c.ready.result
    c.runs.invariant.did (λ server stands. c.ready.ensures.stands server stands) (omega arith)

pub returns-clause-worked : goal.returns-clause-worked
returns-clause-worked g c =
    idle_most g.K.D.Draw.step g.V.Service.step g.K.S.Seal.lock (g.K.Desk.keys c.args.desk.now) _ _ c.args.now c.runs._count c.unfinished-most.result
    c.runs.invariant.did c.runs.invariant.few (omega (arith, c.runs-test.false, c.runs.auto._count-end))
