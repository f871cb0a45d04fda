-- One session within an event: what becomes of its numbers.
use Rattle.std.proofs.Common.{◌≡◌, ◌≢◌, ℕ, ◌+◌, ◌<◌, ◌≤◌, List, [], ◌∷◌, ◌++◌, get_or, ap, sym, arith}
use Rattle.std.specs.Prelude.{map}
use Rattle.std.proofs.lemmas.List.Elements.{All-cons, All-head, All-tail, All-push, All-weaker}
use Rattle.std.proofs.lemmas.List.Quantifiers.{all_pairs_push}
use Rattle.id_window.specs.History.{History, was_accepted}
use Rattle.waits.specs.declared.job.Unfinished.{Unfinished}
use Rattle.waits.specs.Jobs.{Queue}
use Rattle.server_rules.specs.Server.{Reply, IsKept}
use Rattle.law_server.specs.Order.{WasAccepted, WasCalled, IsUnanswered, HasNoJob, IsMidway}
use Rattle.law_server.proofs.Lists.{pairs-cons, pairs-head, pairs-tail, all-same, pairs-same, all-out, all-middle, pairs-out, pairs-middle}

abbrev pub Differ : ℕ → ℕ → Type 0
Differ one other = one ≢ other

-- the numbers that are given go on
pub midway-given : (opened : List ℕ) (history : History) (replies : List Reply) (last later : ℕ) (jobs : Queue) → last ≤ later
    → IsMidway opened history replies last jobs → IsMidway opened history replies later jobs
midway-given opened history replies last later jobs le m = record {
  order = record {
    judged = m.order.judged;
    replied = record {
      accepted = m.order.replied.accepted;
      once = m.order.replied.once;
      rising = m.order.replied.rising;
      given = All-weaker (λ (reply : Reply). reply.number < last + 4) (λ (reply : Reply). reply.number < later + 4) (λ reply lt. omega arith) replies m.order.replied.given;
    };
    unfinished = m.order.unfinished;
  };
  opened = m.opened;
}

-- a reply but for what became of it
abbrev pub stamp : Reply → Reply
stamp reply = record reply { fate = IsKept }

unanswered-fates : (replies others : List Reply) → map stamp replies ≡ map stamp others → (number : ℕ) → IsUnanswered replies number → IsUnanswered others number
unanswered-fates replies others same number is = all-same (λ (reply : Reply). reply.call ≢ number) stamp replies others same is

-- what becomes of replies changes nothing else
pub midway-fates : (opened : List ℕ) (history : History) (replies others : List Reply) (last : ℕ) (jobs : Queue) → map stamp replies ≡ map stamp others
    → IsMidway opened history replies last jobs → IsMidway opened history others last jobs
midway-fates opened history replies others last jobs same m = record {
  order = record {
    judged = m.order.judged;
    replied = record {
      accepted = all-same (λ (reply : Reply). WasAccepted reply.call history) stamp replies others same m.order.replied.accepted;
      once = pairs-same (λ (one other : Reply). one.call ≢ other.call) stamp replies others same m.order.replied.once;
      rising = pairs-same (λ (one other : Reply). one.number < other.number) stamp replies others same m.order.replied.rising;
      given = all-same (λ (reply : Reply). reply.number < last + 4) stamp replies others same m.order.replied.given;
    };
    unfinished = record {
      called = m.order.unfinished.called;
      unanswered =
          All-weaker (λ (one : Unfinished). IsUnanswered replies one.job.number) (λ (one : Unfinished). IsUnanswered others one.job.number)
          (λ one is. unanswered-fates replies others same one.job.number is) jobs m.order.unfinished.unanswered;
      once = m.order.unfinished.once;
    };
  };
  opened = record {
    once = m.opened.once;
    accepted = m.opened.accepted;
    unanswered = All-weaker (IsUnanswered replies) (IsUnanswered others) (unanswered-fates replies others same) opened m.opened.unanswered;
    unfinished = m.opened.unfinished;
  };
}

-- the number of a job
abbrev pub number_of : Unfinished → ℕ
number_of one = one.job.number

-- what jobs wait for, and whether they have failed, changes nothing else
pub midway-told : (opened : List ℕ) (history : History) (replies : List Reply) (last : ℕ) (jobs others : Queue) → map number_of jobs ≡ map number_of others
    → IsMidway opened history replies last jobs → IsMidway opened history replies last others
midway-told opened history replies last jobs others same m = record {
  order = record {
    judged = m.order.judged;
    replied = m.order.replied;
    unfinished = record {
      called = all-same (λ (number : ℕ). WasCalled number history) number_of jobs others same m.order.unfinished.called;
      unanswered = all-same (IsUnanswered replies) number_of jobs others same m.order.unfinished.unanswered;
      once = pairs-same Differ number_of jobs others same m.order.unfinished.once;
    };
  };
  opened = record {
    once = m.opened.once;
    accepted = m.opened.accepted;
    unanswered = m.opened.unanswered;
    unfinished =
        All-weaker (HasNoJob jobs) (HasNoJob others)
        (λ (number : ℕ) is. all-same (λ (job : ℕ). job ≢ number) number_of jobs others same is) opened m.opened.unfinished;
  };
}

-- an open number is left as it is
pub midway-leaves : (number : ℕ) (opened : List ℕ) (history : History) (replies : List Reply) (last : ℕ) (jobs : Queue)
    → IsMidway (number ∷ opened) history replies last jobs → IsMidway opened history replies last jobs
midway-leaves number opened history replies last jobs m = record {
  order = m.order;
  opened = record {
    once = pairs-tail Differ number opened m.opened.once;
    accepted = All-tail (λ (number : ℕ). WasAccepted number history) number opened m.opened.accepted;
    unanswered = All-tail (IsUnanswered replies) number opened m.opened.unanswered;
    unfinished = All-tail (HasNoJob jobs) number opened m.opened.unfinished;
  };
}

-- it becomes a job
pub midway-job : (one : Unfinished) (opened : List ℕ) (history : History) (replies : List Reply) (last : ℕ) (jobs : Queue) → WasCalled one.job.number history
    → IsMidway (one.job.number ∷ opened) history replies last jobs → IsMidway opened history replies last (jobs ++ one ∷ [])
midway-job one opened history replies last jobs called m =
    let rest = midway-leaves one.job.number opened history replies last jobs m in
    record {
      order = record {
        judged = m.order.judged;
        replied = m.order.replied;
        unfinished = record {
          called = All-push (λ (one : Unfinished). WasCalled one.job.number history) jobs one m.order.unfinished.called called;
          unanswered =
              All-push (λ (one : Unfinished). IsUnanswered replies one.job.number) jobs one m.order.unfinished.unanswered
              (All-head (IsUnanswered replies) one.job.number opened m.opened.unanswered);
          once =
              all_pairs_push (λ (one other : Unfinished). one.job.number ≢ other.job.number) jobs one m.order.unfinished.once
              (All-head (HasNoJob jobs) one.job.number opened m.opened.unfinished);
        };
      };
      opened = record {
        once = rest.opened.once;
        accepted = rest.opened.accepted;
        unanswered = rest.opened.unanswered;
        unfinished = λ k d within.
            All-push (λ (other : Unfinished). other.job.number ≢ get_or opened k d) jobs one (rest.opened.unfinished k d within)
            (pairs-head Differ one.job.number opened m.opened.once k d within);
      };
    }

-- a job is taken out, and its number is open
pub midway-out : (before : Queue) (one : Unfinished) (after : Queue) (opened : List ℕ) (history : History) (replies : List Reply) (last : ℕ)
    → IsMidway opened history replies last (before ++ one ∷ after) → IsMidway (one.job.number ∷ opened) history replies last (before ++ after)
midway-out before one after opened history replies last m =
    let called = all-middle (λ (one : Unfinished). WasCalled one.job.number history) before one after m.order.unfinished.called in
    record {
      order = record {
        judged = m.order.judged;
        replied = m.order.replied;
        unfinished = record {
          called = all-out (λ (one : Unfinished). WasCalled one.job.number history) before one after m.order.unfinished.called;
          unanswered = all-out (λ (one : Unfinished). IsUnanswered replies one.job.number) before one after m.order.unfinished.unanswered;
          once = pairs-out (λ (one other : Unfinished). one.job.number ≢ other.job.number) before one after m.order.unfinished.once;
        };
      };
      opened = record {
        once =
            pairs-cons Differ one.job.number opened
            (λ k d within. all-middle (λ (other : Unfinished). other.job.number ≢ get_or opened k d) before one after (m.opened.unfinished k d within))
            m.opened.once;
        accepted =
            All-cons (λ (number : ℕ). WasAccepted number history) one.job.number opened
            (called.0, called.1, called.2, ap was_accepted called.3) m.opened.accepted;
        unanswered =
            All-cons (IsUnanswered replies) one.job.number opened
            (all-middle (λ (one : Unfinished). IsUnanswered replies one.job.number) before one after m.order.unfinished.unanswered) m.opened.unanswered;
        unfinished =
            All-cons (HasNoJob (before ++ after)) one.job.number opened
            (pairs-middle (λ (one other : Unfinished). one.job.number ≢ other.job.number) (λ one other apart is. apart (sym is)) before one after m.order.unfinished.once)
            (λ k d within. all-out (λ (other : Unfinished). other.job.number ≢ get_or opened k d) before one after (m.opened.unfinished k d within));
      };
    }

-- an open number is answered by a reply of a further number
pub midway-answered : (reply : Reply) (opened : List ℕ) (history : History) (replies : List Reply) (last later : ℕ) (jobs : Queue) → last + 4 ≤ reply.number
    → reply.number < later + 4 → IsMidway (reply.call ∷ opened) history replies last jobs → IsMidway opened history (replies ++ reply ∷ []) later jobs
midway-answered reply opened history replies last later jobs above below m =
    let rest = midway-leaves reply.call opened history replies last jobs m in
    let apart : HasNoJob jobs reply.call = All-head (HasNoJob jobs) reply.call opened m.opened.unfinished in
    record {
      order = record {
        judged = m.order.judged;
        replied = record {
          accepted =
              All-push (λ (reply : Reply). WasAccepted reply.call history) replies reply m.order.replied.accepted
              (All-head (λ (number : ℕ). WasAccepted number history) reply.call opened m.opened.accepted);
          once =
              all_pairs_push (λ (one other : Reply). one.call ≢ other.call) replies reply m.order.replied.once
              (All-head (IsUnanswered replies) reply.call opened m.opened.unanswered);
          rising =
              all_pairs_push (λ (one other : Reply). one.number < other.number) replies reply m.order.replied.rising
              (λ k d within. let lower : (get_or replies k d).number < last + 4 = m.order.replied.given k d within in omega arith);
          given =
              All-push (λ (reply : Reply). reply.number < later + 4) replies reply
              (All-weaker (λ (reply : Reply). reply.number < last + 4) (λ (reply : Reply). reply.number < later + 4) (λ reply lt. omega arith) replies m.order.replied.given)
              below;
        };
        unfinished = record {
          called = m.order.unfinished.called;
          unanswered = λ k d within.
              All-push (λ (reply : Reply). reply.call ≢ (get_or jobs k d).job.number) replies reply (m.order.unfinished.unanswered k d within)
              (λ is. apart k d within (sym is));
          once = m.order.unfinished.once;
        };
      };
      opened = record {
        once = rest.opened.once;
        accepted = rest.opened.accepted;
        unanswered = λ k d within.
            All-push (λ (reply : Reply). reply.call ≢ get_or opened k d) replies reply (rest.opened.unanswered k d within)
            (pairs-head Differ reply.call opened m.opened.once k d within);
        unfinished = rest.opened.unfinished;
      };
    }
