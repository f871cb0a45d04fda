use Rattle.std.proofs.Common.{◌≡◌, ◌∙◌, ◌<◌, ◌+◌, ◌∷◌, [], ℕ, List, length, get_or, drop, ap, sym, subst, arith, Vec, Global}
use Rattle.std.proofs.lemmas.List.{drop_all, drop_more}
use Rattle.server_session.specs.Says.{setting_of}
use Rattle.server_core.specs.Outgoing.{IsSending}
use Rattle.server_core.proofs.tick_turns.TickTurns.sends.Goals as goal

pub loop-k-preserved : goal.loop-k-preserved
loop-k-preserved g c =
    let so = c.loop-k.invariant in
    let order = c.args.self.now.order.items in
    let k = c.loop-k.k in
    let room = so.room in
    let lasts = c.sends_at.ensures.room_lasts in
    let more = c.loop-k-test.true in
    let end = c.len-k-end.ensures in
    record {
      sendable = c.sends_at.ensures.sendable;
      count = c.sends_at.ensures.same_count ∙ so.count;
      order = c.sends_at.ensures.same_order ∙ so.order;
      entries = c.sends_at.ensures.same_entries ∙ so.entries;
      room = omega arith;
      sends = λ keys start begins.
          let setting = setting_of c.args.now g.D.Draw.step keys in
          let place = c.index-place.result.now in
          let within : k < length order = omega arith in
          let at : get_or order k place ≡ place =
          sym (c.index-place.ensures ∙ ap (λ (items : List ℕ). get_or items k place) (ap (λ (order : Vec ℕ Global). order.items) so.order)) in
          let left : drop k order ≡ place ∷ drop (k + 1) order = drop_more order k place within ∙ ap (λ (first : ℕ). first ∷ drop (k + 1) order) at in
          c.sends_at.ensures.sends keys (drop (k + 1) order) start
          (subst (λ (left : List ℕ). IsSending {S = g.row.D.Denot} g.S.Seal.lock (g.S.Seal.keys c.args.seal.now) setting c.loop-k.sessions c.loop-k.self.list.items left c.loop-k.draw c.loop-k.outs.outs start)
          left (so.sends keys start begins));
    }

pub returns-clause-sends : goal.returns-clause-sends
returns-clause-sends g c = λ keys start begins.
    let order = c.args.self.now.order.items in
    let k = c.loop-k.k in
    let over = c.loop-k-test.false in
    let end = c.len-k-end.ensures in
    let none : drop k order ≡ [] = drop_all k order (omega arith) in
    subst (λ (left : List ℕ). IsSending {S = g.row.D.Denot} g.S.Seal.lock (g.S.Seal.keys c.args.seal.now) (setting_of c.args.now g.D.Draw.step keys) c.loop-k.sessions
    c.loop-k.self.list.items left c.loop-k.draw c.loop-k.outs.outs start) none (c.loop-k.invariant.sends keys start begins)
