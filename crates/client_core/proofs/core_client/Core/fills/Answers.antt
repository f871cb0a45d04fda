use Rattle.std.proofs.Common.{◌∙◌, ◌+◌, ℕ, Bool, List, ap, sym, subst, arith}
use Rattle.std.specs.Prelude.{if◌then◌else◌}
use Rattle.client_rules.specs.Client.{Client}
use Rattle.client_rules.specs.Filling.{empty}
use Rattle.client_core.specs.Draft.{Goes}
use Rattle.client_core.specs.Filled.{waiting_said}
use Rattle.client_core.specs.Flushed.{setting_of}
use Rattle.client_core.proofs.FillLemmas.{fills_draw, fills_is, waiting_draw}
use Rattle.call_table.specs.declared.row.Row.{Row}
use Rattle.call_table.specs.Kept.{Contents as Calls}
use Rattle.client_core.specs.Owed.{SameQueue, binding_bytes, binding_most, drops_bytes, front_of, holds_back, owed_bytes, waiting_bytes}
use Rattle.client_core.proofs.FrontLemmas.{room_begins, same_holds, same_needs}
use Rattle.client_core.proofs.RoomLemmas.{room_left, room_less}
use Rattle.client_core.proofs.core_client.Core.fills.Goals as goal

pub returns-clause-goes : goal.returns-clause-goes
returns-clause-goes g c client is =
    let first = empty client c.args.draw.now in
    let setting = setting_of g.D.Draw.step (g.S.Seal.keys c.args.seal.now) in
    subst (Goes _ _) (fills_is setting client c.args.draw.now)
    (c.says_calls.ensures.goes _ (c.says_drops.ensures.goes _ (c.says_binding.ensures.goes (waiting_said first) (c.says_waiting.ensures.goes first is) (waiting_draw first))))

pub returns-clause-drawn : goal.returns-clause-drawn
returns-clause-drawn g c client is =
    let first = empty client c.args.draw.now in
    let setting = setting_of g.D.Draw.step (g.S.Seal.keys c.args.seal.now) in
    sym (fills_draw setting client c.args.draw.now ∙ c.says_binding.ensures.drawn (waiting_said first) (c.says_waiting.ensures.goes first is) (waiting_draw first))

pub returns-clause-learnt : goal.returns-clause-learnt
returns-clause-learnt g c =
    let tells = λ (rest : Client). rest.learnt in
    ap tells c.says_calls.ensures.rest ∙ (ap tells c.says_drops.ensures.rest ∙ (ap tells c.says_binding.ensures.rest ∙ c.says_waiting.ensures.learnt))

pub returns-clause-key : goal.returns-clause-key
returns-clause-key g c =
    let tells = λ (rest : Client). rest.key in
    ap tells c.says_calls.ensures.rest ∙ (ap tells c.says_drops.ensures.rest ∙ (ap tells c.says_binding.ensures.rest ∙ c.says_waiting.ensures.key))

pub says_waiting-requires-clause-bytes : goal.says_waiting-requires-clause-bytes
says_waiting-requires-clause-bytes g c = room_less _ _ _ (omega arith) c.requires.bytes

pub says_binding-requires-clause-bytes : goal.says_binding-requires-clause-bytes
says_binding-requires-clause-bytes g c =
    let left = drops_bytes c.args.self.now.calls.rows + front_of c.args.self.now in
    let needs = ap {B = ℕ} (λ (b : Bool). if b then binding_bytes else 0) (same_needs c.says_waiting.new.self.rest c.args.self.now.rest c.says_waiting.ensures.temporary c.says_waiting.ensures.learnt) in
    let one = room_left (waiting_bytes c.args.self.now) (binding_most c.args.self.now.rest + left) (owed_bytes c.args.self.now) c.args.draft.now c.says_waiting.new.draft (omega arith) c.requires.bytes c.says_waiting.ensures.takes in
    room_less _ _ _ (omega (arith, needs)) one

pub says_binding-requires-clause-place : goal.says_binding-requires-clause-place
says_binding-requires-clause-place g c =
    let needs = ap {B = ℕ} (λ (b : Bool). if b then 1 else 0) (same_needs c.says_waiting.new.self.rest c.args.self.now.rest c.says_waiting.ensures.temporary c.says_waiting.ensures.learnt) in
    omega (arith, needs, c.requires.places, c.says_waiting.ensures.takes.left)

pub says_binding-requires-clause-room : goal.says_binding-requires-clause-room
says_binding-requires-clause-room g c needs =
    c.requires.binding (sym (same_needs c.says_waiting.new.self.rest c.args.self.now.rest c.says_waiting.ensures.temporary c.says_waiting.ensures.learnt) ∙ needs)

pub says_drops-requires-clause-bytes : goal.says_drops-requires-clause-bytes
says_drops-requires-clause-bytes g c =
    let left = drops_bytes c.args.self.now.calls.rows + front_of c.args.self.now in
    let needs = ap {B = ℕ} (λ (b : Bool). if b then binding_bytes else 0) (same_needs c.says_waiting.new.self.rest c.args.self.now.rest c.says_waiting.ensures.temporary c.says_waiting.ensures.learnt) in
    let rows = ap (λ (calls : Calls). drops_bytes calls.rows) c.says_binding.ensures.calls ∙ ap drops_bytes c.says_waiting.ensures.rows in
    let one = room_left (waiting_bytes c.args.self.now) (binding_most c.says_waiting.new.self.rest + left) (owed_bytes c.args.self.now) c.args.draft.now c.says_waiting.new.draft (omega (arith, needs)) c.requires.bytes c.says_waiting.ensures.takes in
    let two = room_left (binding_most c.says_waiting.new.self.rest) left (binding_most c.says_waiting.new.self.rest + left) c.says_waiting.new.draft c.says_binding.new.draft (omega arith) one c.says_binding.ensures.takes in
    room_less _ _ _ (omega (arith, rows)) two

pub says_calls-requires-clause-bytes : goal.says_calls-requires-clause-bytes
says_calls-requires-clause-bytes g c =
    let left = drops_bytes c.args.self.now.calls.rows + front_of c.args.self.now in
    let same = same_needs c.says_waiting.new.self.rest c.args.self.now.rest c.says_waiting.ensures.temporary c.says_waiting.ensures.learnt in
    let needs = ap {B = ℕ} (λ (b : Bool). if b then binding_bytes else 0) same in
    let number = ap {B = ℕ} (λ (b : Bool). if b then 1 else 0) same in
    let before = ap (λ (calls : Calls). calls.rows) c.says_binding.ensures.calls ∙ c.says_waiting.ensures.rows in
    let one = room_left (waiting_bytes c.args.self.now) (binding_most c.says_waiting.new.self.rest + left) (owed_bytes c.args.self.now) c.args.draft.now c.says_waiting.new.draft (omega (arith, needs)) c.requires.bytes c.says_waiting.ensures.takes in
    let two = room_left (binding_most c.says_waiting.new.self.rest) left (binding_most c.says_waiting.new.self.rest + left) c.says_waiting.new.draft c.says_binding.new.draft (omega arith) one c.says_binding.ensures.takes in
    let three = room_left (drops_bytes c.says_binding.new.self.calls.rows) (front_of c.args.self.now) left c.says_binding.new.draft c.says_drops.new.draft (omega (arith, ap drops_bytes before)) two c.says_drops.ensures.takes in
    let held = same_holds c.says_waiting.new.self.rest c.args.self.now.rest c.says_waiting.ensures.temporary c.says_waiting.ensures.learnt in
    let kept = ap (λ (rest : Client). holds_back rest) c.says_drops.ensures.rest in
    let room = c.says_drops.ensures.room ∙ (ap (λ (calls : Calls). calls.room) c.says_binding.ensures.calls ∙ c.says_waiting.ensures.room) in
    room_begins c.args.self.now c.says_drops.new.self _ (λ is. kept ∙ c.says_binding.ensures.held (held ∙ is))
    (subst (λ (rows : List Row). SameQueue rows c.says_drops.new.self.calls.rows) before c.says_drops.ensures.queued) three
    (omega (arith, number, c.requires.places, c.says_waiting.ensures.takes.left, c.says_binding.ensures.takes.left, c.says_drops.ensures.takes.left))
    (omega (arith, c.requires.reserved, room))

pub returns-clause-same_room : goal.returns-clause-same_room
returns-clause-same_room g c =
    c.says_calls.ensures.same_room ∙ (c.says_drops.ensures.takes.same ∙ (c.says_binding.ensures.takes.same ∙ c.says_waiting.ensures.takes.same))
