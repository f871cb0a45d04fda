use Rattle.std.proofs.Common.{◌≡◌, ◌∙◌, ℕ, [], ◌∷◌, ◌++◌, ap, sym, subst}
use Rattle.msg_ids.specs.Counters.{Counters, after_next}
use Rattle.service_tl.specs.declared.lists.Message.{Message}
use Rattle.service_tl.specs.Items.{spelling_of}
use Rattle.call_table.specs.Table.{no_calls}
use Rattle.client_rules.specs.Client.{Client, after_message, numbered, time_of}
use Rattle.client_rules.specs.Filling.{changes}
use Rattle.client_core.specs.Kept.{Stands}
use Rattle.client_core.specs.Draft.{Goes, Holds, item_of, needs_answer, said_bytes, said_message}
use Rattle.client_core.proofs.GoesLemmas.{goes_in, goes_out}
use Rattle.client_core.proofs.core_client.Core.say.Goals as goal

pub returns-clause-goes : goal.returns-clause-goes
returns-clause-goes g c fits filling is =
    let said = c.args.said.now in
    let client = filling.client in
    let content = needs_answer said in
    let inside : Stands (Rattle.client_core.specs.contracts.core_client.Core.the_view c.self.inside) client = rw c.self.view_is is.client in
    let now : c.time-at.result ≡ time_of client = c.time-at.ensures client is.client in
    let counters : c.self.inside.numbers ≡ client.counters = ap (λ (rest : Client). rest.counters) inside.rest in
    let message = numbered content (spelling_of (item_of said)) client in
    let same : said_message c.time-at.result c.self.inside.numbers said ≡ message =
    ap (λ (at : ℕ). said_message at c.self.inside.numbers said) now ∙ ap (λ (own : Counters). said_message (time_of client) own said) counters in
    let gone = goes_in c.args.self.now c.args.draft.now filling message (changes (λ (one : Client). after_message content one)) (said_bytes said) is
    (c.say.ensures.size) (sym c.say.ensures.told ∙ fits) in
    subst (Goes _ c.say.new.self) (sym gone) (record {
      client = record {
        rest = ap (λ (rest : Client). record rest { counters = c.say.new.numbers }) inside.rest
            ∙ ap (λ (own : Counters). record client { counters = own; table = no_calls })
            (c.say.ensures.counted fits ∙ (ap (λ (at : ℕ). after_next c.self.inside.numbers at content) now ∙ ap (λ (own : Counters). after_next own (time_of client) content) counters));
        calls = inside.calls;
      };
      messages = subst (λ (one : Message). Holds c.say.new.self (filling.messages ++ one ∷ [])) same (c.say.ensures.holds fits filling.messages is.messages);
      inner = c.say.ensures.inner fits ∙ is.inner;
      is_full = c.say.ensures.open fits ∙ is.is_full;
    })

pub returns-clause-then : goal.returns-clause-then
returns-clause-then g c fits filling change is =
    let said = c.args.said.now in
    let content = needs_answer said in
    let message = numbered content (spelling_of (item_of said)) filling.client in
    let size = c.say.ensures.size in
    goes_in c.args.self.now c.args.draft.now filling message (changes (λ (one : Client). change (after_message content one))) (said_bytes said) is size (sym c.say.ensures.told ∙ fits)
    ∙ sym (ap (changes change) (goes_in c.args.self.now c.args.draft.now filling message (changes (λ (one : Client). after_message content one)) (said_bytes said) is size (sym c.say.ensures.told ∙ fits)))

pub returns-clause-stays : goal.returns-clause-stays
returns-clause-stays g c fits filling change is =
    let said = c.args.said.now in
    let content = needs_answer said in
    let inside : Goes (Rattle.client_core.specs.contracts.core_client.Core.the_view c.self.inside) c.args.draft.now filling = rw c.self.view_is is in
    rw (c.say.ensures.full fits, c.say.ensures.uncounted fits)
    (goes_out _ c.args.draft.now filling (numbered content (spelling_of (item_of said)) filling.client) (changes (λ (one : Client). change (after_message content one))) (said_bytes said) inside
    (c.say.ensures.size) (sym c.say.ensures.told ∙ fits))
