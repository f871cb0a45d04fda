use Rattle.std.proofs.Common.{◌∙◌, sym}
use Rattle.std.proofs.lemmas.Bool.{true≢false, true_from_ne_false}
use Rattle.client_core.proofs.DropLemmas.{drops_next, drops_there}
use Rattle.client_core.proofs.FrontLemmas.{same_queue}
use Rattle.client_core.proofs.GoesLemmas.{kept_calls}
use Rattle.client_core.proofs.core_client.Core.says_next_drop.Goals as goal

pub returns-in-Some-clause-so_far : goal.returns-in-Some-clause-so_far
returns-in-Some-clause-so_far g c first k count less so =
    let there = c.in-Some.ensures.member so.now.client.table (kept_calls _ _ _ so.now c.self.view_is so.goes) in
    drops_next first _ _ _ _ k count c.in-Some.call so c.requires.room there (c.says_drop.ensures.goes so.now so.goes)
    (λ still. c.says_drop.ensures.left (true_from_ne_false c.says_drop.result (λ out. true≢false (sym (c.says_drop.ensures.full out) ∙ still))) so.now so.goes (sym there))

pub returns-in_default-clause-so_far : goal.returns-in_default-clause-so_far
returns-in_default-clause-so_far g c first k count less so =
    absurd (drops_there first _ _ k count so c.requires.room less (sym c.in_default.is ∙ c.member.ensures.member so.now.client.table (kept_calls _ _ _ so.now c.self.view_is so.goes)))

pub returns-in_default-clause-queued : goal.returns-in_default-clause-queued
returns-in_default-clause-queued g c = same_queue _
