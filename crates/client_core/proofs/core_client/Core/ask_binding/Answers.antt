use Rattle.std.proofs.Common.{◌≡◌, ◌∙◌, ℕ, [], ◌∷◌, ◌++◌, length, ap, subst, arith}
use Rattle.draws.specs.Draws.{draw_after, next_bytes}
use Rattle.msg_ids.specs.Counters.{Counters}
use Rattle.service_tl.specs.declared.lists.Message.{Message}
use Rattle.service_tl.specs.declared.item.Item.TheVariants.{AuthBindTempAuthKey}
use Rattle.service_tl.specs.Items.{spelling_of}
use Rattle.temp_keys.specs.Messages.{binding_message}
use Rattle.client_core.specs.Asked.{asked_inner, asked_message}
use Rattle.client_core.specs.Draft.{Holds}
use Rattle.client_core.specs.Kept.{Contents}
use Rattle.client_core.proofs.NumberLemmas.{next_behind}
use Rattle.client_core.proofs.RoomLemmas.{room_less, takes_more}
use Rattle.client_core.proofs.core_client.Core.ask_binding.Goals as goal

pub invariant_of-self : goal.invariant_of-self
invariant_of-self g c = (
  c.calls_stay_sound.ensures.later c.self.inside.numbers.last _ _ (omega (arith, ap (λ (own : Counters). own.last) c.given-number.ensures.counted, next_behind c.self.inside.numbers.last c.args.at)) c.self.invariant.0,
  c.set_binding.ensures.can_bind (omega (arith, c.body-body.ensures.size), omega (arith, c.body-body.ensures.size)),
  c.self.invariant.2,
)

pub returns-clause-holds : goal.returns-clause-holds
returns-clause-holds g c messages holds =
    let step = g.D.Draw.step in
    let draw = c.args.draw.now in
    let needed = c.args.needed in
    let rest = (Rattle.client_core.specs.contracts.core_client.Core.the_view c.self.inside).rest in
    let whole = asked_message step c.args.key.now c.args.at rest needed draw in
    let says = λ (nonce number : ℕ) (behind : g.row.D.Denot). spelling_of (AuthBindTempAuthKey needed.perm nonce needed.expires
    (binding_message c.args.key.now (next_bytes step 16 behind) number (asked_inner rest needed nonce) (next_bytes step 8 (draw_after step 2 behind)))) in
    let number = ap (λ own. own.0) c.given-number.ensures.given in
    let body : c.as_slice.result.now ≡ whole.body =
    c.as_slice.ensures.value ∙ (c.body-body.ensures.body
    ∙ (ap (λ own. says own c.given-number.result.0 c.word.new.self) c.word.ensures.word
    ∙ (ap (λ own. says (step draw).0 own c.word.new.self) number
    ∙ ap (λ own. says (step draw).0 whole.number own) c.word.ensures.after))) in
    let same = ap (λ own. record { number = own.0; seq = own.1; body = c.as_slice.result.now }) c.given-number.ensures.given
    ∙ (ap (λ own. record { number = whole.number; seq = whole.seq; body = own }) body
    ∙ ap (λ (core : Contents). asked_message step c.args.key.now c.args.at core.rest needed draw) c.self.view_is) in
    subst (λ (one : Message). Holds c.put.new.self (messages ++ one ∷ [])) same (c.put.ensures.holds messages holds)

pub put-requires-clause-room : goal.put-requires-clause-room
put-requires-clause-room g c = room_less _ _ _ (omega (arith, ap length c.as_slice.ensures.value, c.body-body.ensures.size)) c.requires.bytes

pub returns-clause-takes : goal.returns-clause-takes
returns-clause-takes g c = takes_more _ _ _ _ (omega (arith, ap length c.as_slice.ensures.value, c.body-body.ensures.size)) c.put.ensures.takes
