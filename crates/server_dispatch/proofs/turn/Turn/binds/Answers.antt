use Rattle.std.proofs.Common.{◌≡◌, ℕ, subst, Some, None}
use Rattle.temp_keys.specs.Checking.{Binds, IsFaultOf, call_of}
use Rattle.server_rules.specs.Event.{BindingCall}
use Rattle.server_rules.specs.Server.{name_of}
use Rattle.server_dispatch.specs.Bindings.{binding_told}
use Rattle.server_dispatch.proofs.Steps.{put-bound}
use Rattle.server_dispatch.proofs.turn.Turn.binds.Goals as goal

pub returns-in-Ok-clause-speaks : goal.returns-in-Ok-clause-speaks
returns-in-Ok-clause-speaks g c = λ keys jobs draw speaker are none speaks.
    let binding = c.args.binding.now in
    let call : BindingCall = record { number = c.args.number; perm = binding.perm; nonce = binding.nonce; expires = binding.expires; message = binding.message } in
    let at_key = subst (λ (key : ℕ). Binds (call_of c.args.ring.now c.args.now key c.number.result c.args.number binding) c.in-Ok.bound) (c.key.ensures.stands _ _ speaks.says.stands) c.in-Ok.ensures.bound in
    let at = subst (λ (number : ℕ). Binds (call_of c.args.ring.now c.args.now speaker.session.key number c.args.number binding) c.in-Ok.bound) (c.number.ensures.stands _ _ speaks.says.stands) at_key in
    let right : keys.bound_by c.args.now (name_of speaker.session) call ≡ Some (binding_told c.in-Ok.bound) = are.binds c.args.now (name_of speaker.session) call c.in-Ok.bound at in
    rw right (c.answers_shortly.ensures.speaks keys jobs c.put.new.self.bindings draw _ none (put-bound _ _ _ _ _ _ _ _ (binding_told c.in-Ok.bound) speaks c.put.ensures.put))

pub returns-in-Err-clause-speaks : goal.returns-in-Err-clause-speaks
returns-in-Err-clause-speaks g c = λ keys jobs draw speaker are none speaks.
    let binding = c.args.binding.now in
    let call : BindingCall = record { number = c.args.number; perm = binding.perm; nonce = binding.nonce; expires = binding.expires; message = binding.message } in
    let at_key = subst (λ (key : ℕ). IsFaultOf (call_of c.args.ring.now c.args.now key c.number.result c.args.number binding) c.in-Err.field-0) (c.key.ensures.stands _ _ speaks.says.stands) c.in-Err.ensures.fault in
    let at = subst (λ (number : ℕ). IsFaultOf (call_of c.args.ring.now c.args.now speaker.session.key number c.args.number binding) c.in-Err.field-0) (c.number.ensures.stands _ _ speaks.says.stands) at_key in
    let wrong : keys.bound_by c.args.now (name_of speaker.session) call ≡ None = are.refuses c.args.now (name_of speaker.session) call c.in-Err.field-0 at in
    rw wrong (c.answers_shortly-in-Err.ensures.speaks keys jobs c.args.bindings.now.bindings draw speaker none speaks)
