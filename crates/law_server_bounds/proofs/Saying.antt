-- What each thing that a session does costs the session of a name: numbers, messages that are owed, and jobs.
use Rattle.std.proofs.Common.{◌≡◌, ◌≢◌, ◌∙◌, ℕ, suc, ◌+◌, ◌≤◌, Bool, true, false, List, [], ◌∷◌, length, ap, sym, refl, arith}
use Rattle.std.specs.Prelude.{map}
use Rattle.std.specs.List.{Contains}
use Rattle.std.proofs.lemmas.Bool.{cond_both}
use Rattle.msg_ids.specs.Moments.{latest_moment}
use Rattle.msg_ids.specs.Counters.{room}
use Rattle.service_tl.specs.declared.item.Item.{Item}
use Rattle.service_tl.specs.declared.item.Item.TheVariants.{RpcResult}
use Rattle.service_tl.specs.declared.lists.Message.{Message}
use Rattle.packing.specs.Numbering.{is_content_related, numbered}
use Rattle.waits.specs.declared.job.Job.{Job}
use Rattle.waits.specs.declared.job.Unfinished.{Unfinished}
use Rattle.waits.specs.Jobs.{accepted as with_job, is_of, without_first}
use Rattle.server_rules.specs.Server.{Name, Reply, IsKept, is_kept, name_of}
use Rattle.server_rules.specs.Event.{Owed, Setting, Speaker}
use Rattle.server_rules.specs.Speaking.{answers, has_said, message_of, owes_message, says, says_again}
use Rattle.server_rules.specs.Waiting.{outlook, tells_of}
use Rattle.law_server_bounds.proofs.Counts.{FallsByOne, count, count-other, count-own, first-fewer, jobs-push, jobs_by, name_for, of-other, one-low, told-same}
use Rattle.law_server_bounds.proofs.Kept.{OnlyDrops}
use Rattle.law_server_bounds.proofs.Names.{names-same}
use Rattle.law_server_bounds.proofs.Unsaid.{has, unsaid, unsaid-answered, unsaid-changed, unsaid-further, unsaid-said}
use Rattle.law_server_bounds.proofs.PacketSteps.{Steps}

-- ---- the session of the name speaks

module _ {S : Type 0} (falls : FallsByOne) (setting : Setting S) (timely : setting.now ≤ latest_moment) (own : Name) where
  -- it owes few messages, and has given no more numbers than it owes messages
  pub record P (n : ℕ) (x : Speaker S) : Type 0 where
    pub named : name_of x.session ≡ own
    pub total : count own x.owed + jobs_by own x.jobs + unsaid own x.owed x.session.replies ≤ n
    pub left : 16384 ≤ room x.session.counters + count own x.owed
    pub unsent : x.sent ≡ []

  -- a message is owed that has its number
  owes-one : (message : Message) (n : ℕ) (x : Speaker S) → P n x → P (suc n) (owes_message message x)
  owes-one message n x p =
      let one : Owed = record { name = name_of x.session; message = message } in
      let longer = count-own own x.owed one p.named in
      let less = unsaid-further own x.owed (one ∷ []) x.session.replies in
      let total = p.total in
      let left = p.left in
      record { named = p.named; total = omega (arith, longer, less, total); left = omega (arith, longer, left); unsent = p.unsent }

  more-p : (n : ℕ) (x : Speaker S) → P n x → P (suc n) x
  more-p n x p = let total = p.total in record { named = p.named; total = omega (arith, total); left = p.left; unsent = p.unsent }

  said-p : (item : Item) (n : ℕ) (x : Speaker S) → P n x → P (suc n) (says setting item x)
  said-p item n x p =
      let one : Owed = record { name = name_of x.session; message = numbered setting.now x.session.counters item } in
      let longer = count-own own x.owed one p.named in
      let less = unsaid-further own x.owed (one ∷ []) x.session.replies in
      let fewer = falls x.session.counters setting.now (is_content_related item) timely in
      let total = p.total in
      let left = p.left in
      record { named = p.named; total = omega (arith, longer, less, total); left = omega (arith, longer, fewer, left); unsent = p.unsent }

  answered-p : (call : ℕ) (content : List ℕ) (n : ℕ) (x : Speaker S) → P n x → P (suc n) (answers setting call content x)
  answered-p call content n x p =
      let item = RpcResult call content in
      let message = numbered setting.now x.session.counters item in
      let one : Owed = record { name = name_of x.session; message = message } in
      let reply : Reply = record { call = call; number = message.number; seq = message.seq; content = content; fate = IsKept } in
      let longer = count-own own x.owed one p.named in
      let less = unsaid-answered (length message.body) own x.owed one x.session.replies reply (names-same (name_of x.session) own p.named) refl in
      let fewer = falls x.session.counters setting.now (is_content_related item) timely in
      let total = p.total in
      let left = p.left in
      record { named = p.named; total = omega (arith, longer, less, total); left = omega (arith, longer, fewer, left); unsent = p.unsent }

  repeated-p : (reply : Reply) (n : ℕ) (x : Speaker S) → P n x → P (suc n) (says_again reply x)
  repeated-p reply n x p =
      cond_both (has_said reply.number x) x (owes_message (message_of reply) x) (P (suc n)) (λ is. more-p n x p) (λ is. owes-one (message_of reply) n x p)

  kept-p : (reply : Reply) (n : ℕ) (x : Speaker S) → Contains x.session.replies reply → is_kept reply ≡ true → P n x → P n (says_again reply x)
  kept-p reply n x there is_so p =
      cond_both (has_said reply.number x) x (owes_message (message_of reply) x) (P n) (λ is. p)
      (λ is.
      let one : Owed = record { name = name_of x.session; message = message_of reply } in
      let none : has own x.owed reply.number ≡ false = sym (ap (λ (name : Name). has name x.owed reply.number) p.named) ∙ is in
      let longer = count-own own x.owed one p.named in
      let less = unsaid-said own x.owed one reply x.session.replies there is_so none (names-same (name_of x.session) own p.named) refl in
      let total = p.total in
      let left = p.left in
      record { named = p.named; total = omega (arith, longer, less, total); left = omega (arith, longer, left); unsent = p.unsent })

  fated-p : (change : Reply → Reply) (n : ℕ) (x : Speaker S) → OnlyDrops change → P n x → P n (record x { session = record x.session { replies = map change x.session.replies } })
  fated-p change n x only p =
      let less = unsaid-changed change only own x.owed x.session.replies in
      let total = p.total in
      record { named = p.named; total = omega (arith, less, total); left = p.left; unsent = p.unsent }

  joined-p : (job : Job) (n : ℕ) (x : Speaker S) → P n x → P (suc n) (record x { jobs = with_job job x.jobs })
  joined-p job n x p =
      let one : Unfinished = record { job = job; failed = false } in
      let longer = jobs-push own x.jobs one in
      let low = one-low (is_of own.key own.session one) in
      let total = p.total in
      record { named = p.named; total = omega (arith, longer, low, total); left = p.left; unsent = p.unsent }

  taken-p : (test : Unfinished → Bool) (n : ℕ) (x : Speaker S) → P n x → P n (record x { jobs = without_first test x.jobs })
  taken-p test n x p =
      let fewer = first-fewer own test x.jobs in
      let total = p.total in
      record { named = p.named; total = omega (arith, fewer, total); left = p.left; unsent = p.unsent }

  told-p : (number n : ℕ) (x : Speaker S) → P n x → P n (tells_of number x)
  told-p number n x p =
      let same = told-same own (outlook x.session x.jobs number) x.session number x.jobs in
      let total = p.total in
      record {
        named = p.named;
        total = omega (arith, same, total);
        left = p.left;
        unsent = p.unsent;
      }

  pub own-steps : Steps S setting P
  own-steps = record {
    more = more-p;
    said = said-p;
    salted = λ count n x p. record { named = p.named; total = p.total; left = p.left; unsent = p.unsent };
    answered = answered-p;
    recorded = λ ran call request content n x p. record { named = p.named; total = p.total; left = p.left; unsent = p.unsent };
    repeated = repeated-p;
    kept = kept-p;
    fated = fated-p;
    joined = λ job n x key session p. joined-p job n x p;
    taken = taken-p;
    told = told-p;
    bound = λ bindings n x p. record { named = p.named; total = p.total; left = p.left; unsent = p.unsent };
    past = λ history n x p. record { named = p.named; total = p.total; left = p.left; unsent = p.unsent };
  }

-- ---- another one speaks

module _ {S : Type 0} (setting : Setting S) (own other : Name) (apart : own ≢ other) (messages jobs : ℕ) (past : List Owed) where
  -- it costs the session of the name nothing
  pub record Q (n : ℕ) (x : Speaker S) : Type 0 where
    pub named : name_of x.session ≡ other
    pub owed : count own x.owed ≡ messages
    pub fewer : jobs_by own x.jobs ≤ jobs
    pub unsaid : (replies : List Reply) → unsaid own x.owed replies ≤ unsaid own past replies
    pub unsent : x.sent ≡ []

  apart-from : (x : Speaker S) → name_of x.session ≡ other → own ≢ name_of x.session
  apart-from x named same = apart (same ∙ named)

  owes-other : (message : Message) (n m : ℕ) (x : Speaker S) → Q n x → Q m (owes_message message x)
  owes-other message n m x q =
      let one : Owed = record { name = name_of x.session; message = message } in
      record {
        named = q.named;
        owed = count-other own x.owed one (apart-from x q.named) ∙ q.owed;
        fewer = q.fewer;
        unsaid = λ replies. let less = unsaid-further own x.owed (one ∷ []) replies in let before = q.unsaid replies in omega (arith, less, before);
        unsent = q.unsent;
      }

  same-q : (n m : ℕ) (x : Speaker S) → Q n x → Q m x
  same-q n m x q = record { named = q.named; owed = q.owed; fewer = q.fewer; unsaid = q.unsaid; unsent = q.unsent }

  said-q : (item : Item) (n m : ℕ) (x : Speaker S) → Q n x → Q m (says setting item x)
  said-q item n m x q =
      let after = owes-other (numbered setting.now x.session.counters item) n m x q in
      record { named = after.named; owed = after.owed; fewer = after.fewer; unsaid = after.unsaid; unsent = after.unsent }

  answered-q : (call : ℕ) (content : List ℕ) (n m : ℕ) (x : Speaker S) → Q n x → Q m (answers setting call content x)
  answered-q call content n m x q =
      let after = owes-other (numbered setting.now x.session.counters (RpcResult call content)) n m x q in
      record { named = after.named; owed = after.owed; fewer = after.fewer; unsaid = after.unsaid; unsent = after.unsent }

  again-q : (reply : Reply) (n m : ℕ) (x : Speaker S) → Q n x → Q m (says_again reply x)
  again-q reply n m x q =
      cond_both (has_said reply.number x) x (owes_message (message_of reply) x) (Q m) (λ is. same-q n m x q) (λ is. owes-other (message_of reply) n m x q)

  joined-q : (job : Job) (n m : ℕ) (x : Speaker S) → job.key ≡ x.session.key → job.session ≡ x.session.number → Q n x
      → Q m (record x { jobs = with_job job x.jobs })
  joined-q job n m x key session q =
      let one : Unfinished = record { job = job; failed = false } in
      let longer = jobs-push own x.jobs one in
      let N : ℕ → ℕ → Name = λ key session. record { key = key; session = session } in
      let named : name_for job ≡ other = ap (λ (key : ℕ). N key job.session) key ∙ ap (λ (session : ℕ). N x.session.key session) session ∙ q.named in
      let off = of-other own one (λ same. apart (same ∙ named)) in
      let fewer = q.fewer in
      record { named = q.named; owed = q.owed; fewer = omega (arith, longer, off, fewer); unsaid = q.unsaid; unsent = q.unsent }

  taken-q : (test : Unfinished → Bool) (n : ℕ) (x : Speaker S) → Q n x → Q n (record x { jobs = without_first test x.jobs })
  taken-q test n x q =
      let less = first-fewer own test x.jobs in
      let fewer = q.fewer in
      record { named = q.named; owed = q.owed; fewer = omega (arith, less, fewer); unsaid = q.unsaid; unsent = q.unsent }

  told-q : (number n : ℕ) (x : Speaker S) → Q n x → Q n (tells_of number x)
  told-q number n x q =
      let same = told-same own (outlook x.session x.jobs number) x.session number x.jobs in
      let fewer = q.fewer in
      record {
        named = q.named;
        owed = q.owed;
        fewer = omega (arith, same, fewer);
        unsaid = q.unsaid;
        unsent = q.unsent;
      }

  pub other-steps : Steps S setting Q
  other-steps = record {
    more = λ n x q. same-q n (suc n) x q;
    said = λ item n x q. said-q item n (suc n) x q;
    salted = λ count n x q. record { named = q.named; owed = q.owed; fewer = q.fewer; unsaid = q.unsaid; unsent = q.unsent };
    answered = λ call content n x q. answered-q call content n (suc n) x q;
    recorded = λ ran call request content n x q. record { named = q.named; owed = q.owed; fewer = q.fewer; unsaid = q.unsaid; unsent = q.unsent };
    repeated = λ reply n x q. again-q reply n (suc n) x q;
    kept = λ reply n x there is q. again-q reply n n x q;
    fated = λ change n x only q. record { named = q.named; owed = q.owed; fewer = q.fewer; unsaid = q.unsaid; unsent = q.unsent };
    joined = λ job n x key session q. joined-q job n (suc n) x key session q;
    taken = taken-q;
    told = told-q;
    bound = λ bindings n x q. record { named = q.named; owed = q.owed; fewer = q.fewer; unsaid = q.unsaid; unsent = q.unsent };
    past = λ history n x q. record { named = q.named; owed = q.owed; fewer = q.fewer; unsaid = q.unsaid; unsent = q.unsent };
  }
