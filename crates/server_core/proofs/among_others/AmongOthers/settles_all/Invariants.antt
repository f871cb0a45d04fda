use Rattle.std.proofs.Common.{◌≡◌, ◌≤◌, ℕ, List, length, map}
use Rattle.std.specs.Iterator.Adapters.{zip_first, zip_second}
use Rattle.std.specs.Slice.Iter.{iter_rest}
use Rattle.std.specs.Vec.Iter.{into_iter_items}
use Rattle.id_window.specs.History.{History}
use Rattle.inbox.specs.Verdicts.{Judgement, bare_judgement}
use Rattle.server_rules.specs.Server.{Name}
use Rattle.server_session.specs.Says.{Keys, setting_of}
use Rattle.server_session.specs.Unsaid.{CallsFor}
use Rattle.server_dispatch.specs.Rings.{AreOf}
use Rattle.server_core.specs.Among.{Among}
use Rattle.server_core.specs.Others.{AreLeft}
use Rattle.server_core.specs.Settling.{SpeaksAmong}
use Rattle.server_core.specs.SettlingAll.{AreDue, AreSettling, all_settled, calls_of}
use Rattle.server_core.proofs.AllSettled.{HasUsed, IsUnderWay}
use Rattle.server_core.proofs.among_others.AmongOthers.settles_all.Given as goal

-- the judgements and dues that are left lead to what all lead to, and there is room for them
abbrev pub invariant-loop-judgement : goal.invariant-loop-judgement
invariant-loop-judgement g l = record {
  can_next : (goal.iterator-loop-judgement g).can_next l.judgement-iterator;
  finite : (goal.iterator-loop-judgement g).is_finite l.judgement-iterator;
  enough : length (iter_rest (zip_first l.judgement-iterator)) ≤ length (into_iter_items (zip_second l.judgement-iterator));
  calls : CallsFor (calls_of (iter_rest (zip_first l.judgement-iterator)) (into_iter_items (zip_second l.judgement-iterator))) (calls_of l.judged l.fn.dues.items);
  used : HasUsed l.now l.limit (calls_of l.judged l.fn.dues.items) l.fn.dues.items (into_iter_items (zip_second l.judgement-iterator)) l.left l.fn.self.speaking.standing l.fn.self.speaking.turn l.self.speaking.standing l.self.speaking.turn;
  job_room : length (iter_rest (zip_first l.judgement-iterator)) ≤ l.self.speaking.jobs.room;
  binding_room : length (iter_rest (zip_first l.judgement-iterator)) ≤ l.self.speaking.bindings.room;
  others : AreLeft l.fn.self.others l.self.others;
  under : (keys : Keys) (name : Name) (past : History) (told : List Judgement) (bodies : List (List ℕ)) (among : Among g.row.D.Denot) → AreOf l.ring keys → l.judged ≡ map bare_judgement told
      → AreDue told bodies l.fn.dues.items → AreSettling name past l.limit told among
      → SpeaksAmong l.now l.fn.self.others l.fn.self.speaking.standing l.fn.self.speaking.turn l.fn.self.speaking.jobs.jobs l.fn.self.speaking.bindings.bindings l.fn.draw among
      → IsUnderWay g.row.D.Denot l.now (setting_of l.now g.D.Draw.step keys) name past l.left (all_settled (setting_of l.now g.D.Draw.step keys) told bodies among)
      (iter_rest (zip_first l.judgement-iterator)) (into_iter_items (zip_second l.judgement-iterator)) l.self.others l.self.speaking.standing l.self.speaking.turn l.self.speaking.jobs.jobs l.self.speaking.bindings.bindings l.draw;
}
