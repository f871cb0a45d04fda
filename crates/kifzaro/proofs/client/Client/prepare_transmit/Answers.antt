use Rattle.std.proofs.Common.{◌≡◌, ◌∙◌, Option, None, List, ℕ, ap, sym, subst}
use Rattle.std.specs.Prelude.{Ok}
use Rattle.client_core.specs.Flushed.{setting_of}
use Rattle.client_core.specs.Holding.{kept_of}
use Rattle.client_core.specs.declared.flush.Flush.TheVariants as flushed
use Rattle.envelope.specs.Lock.{mt_lock}
use Rattle.kifzaro.specs.Clients.{Kept, Polls}
use Rattle.kifzaro.specs.Drawing.{drawing}
use Rattle.kifzaro.proofs.PollLemmas.{polled, polled_so}
use Rattle.kifzaro.proofs.client.Client.prepare_transmit.Goals as goal

pub returns-in-Packet-clause-polls : goal.returns-in-Packet-clause-polls
returns-in-Packet-clause-polls c = λ client is none.
    let old = c.args.self.now in
    subst (λ (new : Kept). Polls (setting_of drawing old.ring) mt_lock old.ring c.args.now client old.draw (polled (flushed.Packet c.in-Packet.packet)) (kept_of new.holder) new.draw)
    (sym c.self-2.view_is)
    (polled_so old c.flush.new.self c.args.now client (flushed.Packet c.in-Packet.packet) is (c.in-Packet.ensures.flushes client is) (c.in-Packet.ensures.ended client is))

pub returns-in-Nothing-clause-polls : goal.returns-in-Nothing-clause-polls
returns-in-Nothing-clause-polls c = λ client is none.
    let old = c.args.self.now in
    let new = c.flush.new.self in
    let waits : None ≡ new.waiting = sym (ap (λ (one : Kept). one.waiting) c.flush.ensures.rest ∙ none) in
    subst (λ (waiting : Option (List ℕ)). Polls (setting_of drawing old.ring) mt_lock old.ring c.args.now client old.draw (Ok waiting) (kept_of new.holder) new.draw) waits
    (polled_so old new c.args.now client flushed.Nothing is (c.in-Nothing.ensures.flushes client is) (c.in-Nothing.ensures.ended client is))

pub returns-in-Spent-clause-polls : goal.returns-in-Spent-clause-polls
returns-in-Spent-clause-polls c = λ client is none.
    polled_so c.args.self.now c.flush.new.self c.args.now client flushed.Spent is (c.in-Spent.ensures.flushes client is) (c.in-Spent.ensures.ended client is)

pub returns-in-Memory-clause-polls : goal.returns-in-Memory-clause-polls
returns-in-Memory-clause-polls c = λ client is none.
    polled_so c.args.self.now c.flush.new.self c.args.now client flushed.Memory is (c.in-Memory.ensures.flushes client is) (c.in-Memory.ensures.ended client is)
