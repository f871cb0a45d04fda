use Rattle.std.proofs.Common.{◌≡◌, ◌∙◌, ◌<◌, ◌≤◌, ◌+◌, ◌++◌, ◌∷◌, [], ℕ, List, length, get_or, ap, sym, subst, arith}
use Rattle.std.proofs.lemmas.List.{length_push}
use Rattle.server_session.specs.Names.{name_kept}
use Rattle.server_core.specs.declared.tick_turns.TickTurn.{TickTurn}
use Rattle.server_core.specs.Answering.{answers_left}
use Rattle.server_core.specs.Reserving.{IsFresh}
use Rattle.server_core.proofs.OverdueLemmas.{counted-more, none-behind}
use Rattle.server_core.proofs.Places.{one-of}
use Rattle.server_core.proofs.FreshLemmas.{enough-push, few-push, fresh-push, sum-push}
use Rattle.server_core.proofs.reserving.fresh_voices.Goals as goal

pub loop-place-preserved : goal.loop-place-preserved
loop-place-preserved c =
    let so = c.loop-place.invariant in
    let list = c.loop-place.list.items in
    let most = c.most_answers-most.result.0 in
    let overdue = c.most_answers-most.result.1 in
    let now = c.args.now in
    let jobs = c.args.jobs.now.jobs in
    let standings = c.args.sessions.now in
    let place = c.loop-place.place in
    let counts = c.count-count.ensures in
    let before = c.loop-place-test.true in
    let within : place < length standings = omega arith in
    let apart = c.most_answers-most.ensures.apart in
    let behind = so.behind apart in
    let voice : TickTurn = c.in_ok-new.field-0 in
    let items : c.push_reserved.new.self.items ≡ list ++ voice ∷ [] = c.push_reserved.ensures.items in
    let fresh : IsFresh most voice = c.in_ok-new.ensures in
    let left : voice.left ≡ most = fresh.left in
    let long = so.long in
    let grown : length c.push_reserved.new.self.items ≡ length list + 1 = ap (λ (items : List TickTurn). length items) items ∙ length_push list voice in
    let long_vec = c.push_reserved.ensures.len in
    let had = so.vec in
    let room = so.capacity in
    let same = c.push_reserved.ensures.capacity in
    let few = c.most_answers-most.ensures.few in
    let sum = so.total in
    let most_so = so.most in
    record {
      long = omega arith;
      vec = omega arith;
      capacity = omega arith;
      each = fresh-push list voice c.push_reserved.new.self.items items (subst (λ (most : ℕ). IsFresh most voice) (sym left) fresh) so.each;
      few = few-push list voice c.push_reserved.new.self.items items (subst (λ (n : ℕ). n ≤ 4096) (sym left) few) so.few;
      enough = λ unfailed. enough-push c.args.now c.args.jobs.now.jobs c.args.sessions.now list voice c.push_reserved.new.self.items items
          (λ d. subst (λ (place : ℕ). answers_left c.args.now c.args.jobs.now.jobs (name_kept (get_or c.args.sessions.now place d)) ≤ voice.left) (sym so.long)
          (subst (λ (n : ℕ). answers_left c.args.now c.args.jobs.now.jobs (name_kept (get_or c.args.sessions.now c.loop-place.place d)) ≤ n) (sym left)
          (c.most_answers-most.ensures.enough d unfailed
          (λ none. none-behind now jobs standings place d apart within (let all = none in omega arith))))) (so.enough unfailed);
      total = sum-push list voice c.push_reserved.new.self.items c.loop-place.total most items so.total left;
      most = omega arith;
      behind = λ _.
          let d = one-of standings place within in
          let fewer = c.saturating_sub-left.ensures in
          counted-more now jobs standings place d c.loop-place.left c.saturating_sub-left.result overdue within behind (c.most_answers-most.ensures.found d) (omega arith);
    }
