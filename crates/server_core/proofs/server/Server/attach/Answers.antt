use Rattle.std.proofs.Common.{◌≡◌, ◌∙◌, ◌≤◌, ℕ, Result, Ok, Err, [], max, ap, sym, subst, refl}
use Rattle.std.specs.Prelude.{IfOk, OnOk}
use Rattle.msg_ids.specs.Moments.{latest_moment}
use Rattle.server_rules.specs.Server.{Name}
use Rattle.server_rules.specs.Event.{Setting}
use Rattle.server_rules.specs.Answer.{Answer, after_attach, begun}
use Rattle.server_session.specs.Says.{setting_of}
use Rattle.server_core.specs.declared.effects.Effects.{Effects}
use Rattle.server_core.specs.Effects.{Gives}
use Rattle.server_core.specs.One.{answer_of}
use Rattle.server_core.specs.Sessions.{is_kept_as}
use Rattle.server_core.specs.Server.{Kept, Stands}
use Rattle.server_core.proofs.Attached.{none-gives}
use Rattle.server_core.proofs.Desked.{does}
use Rattle.server_core.proofs.Lists.{no-place}
use Rattle.server_core.proofs.Sending.{nothing-sent}
use Rattle.server_core.proofs.Speaking.{none-at, sessions-have_room}
use Rattle.server_core.proofs.server.Server.attach.Goals as goal

-- where it went well, both hold
both : {A E : Type 0} (result : Result A E) (P : Type 0) (Q R : A → Type 0) → ((x : A) → P → Q x → R x) → OnOk result P → IfOk result Q → IfOk result R
both (Ok x) P Q R follows holds is = follows x holds is
both (Err error) P Q R follows holds is = tt

pub returns-in-None-clause-given : goal.returns-in-None-clause-given
returns-in-None-clause-given g c = λ keys server is.
    let stands = is.stands in
    let K : Type 0 = Kept g.row.S.Denot in
    let D : Type 0 = g.row.D.Denot in
    let name : Name = record { key = c.args.key; session = c.args.session } in
    let lock = g.S.Seal.lock in
    let ring = g.S.Seal.keys c.args.self.now.seal in
    let setting : Setting D = setting_of (max c.args.self.now.moment c.args.now) g.D.Draw.step keys in
    let inside = subst (λ (kept : K). Stands kept server) (sym c.self.view_is) stands in
    let moment : c.later-moment.result ≡ max c.args.self.now.moment c.args.now =
    c.later-moment.ensures ∙ ap (λ (kept : K). max kept.moment c.args.now) c.self.view_is in
    let standings = c.self.inside.sessions in
    let none = none-at c.sessions_stand_later.ensures.name c.self.inside.moment name standings server.sessions inside.sessions
    (no-place (is_kept_as name) standings c.in-None.ensures) in
    let all = sessions-have_room c.sessions_stand_later.ensures.room (g.S.Seal.keys c.self.inside.seal) c.self.inside.moment c.self.inside.moment standings server.sessions
    inside.sessions c.self.invariant.speaking in
    let answer : after_attach setting name server c.args.draw.now ≡ answer_of setting (begun server c.args.draw.now) =
    none-gives setting name server c.args.draw.now none all in
    let P : Type 0 = Stands {S = g.row.S.Denot} c.passes.new.self (record server { now = c.later-moment.result }) in
    let Q : Effects → Type 0 = λ effects. (effects.out.outs ≡ []) × (effects.entries.entries ≡ []) in
    let R : Effects → Type 0 = λ effects. Gives {S = g.row.S.Denot} {D = D} lock ring c.passes.new.self c.args.draw.now effects (after_attach setting name server c.args.draw.now) in
    let follows : (effects : Effects) → P → Q effects → R effects = λ effects after nothing.
    subst (λ (answer : Answer D). Gives {S = g.row.S.Denot} {D = D} lock ring c.passes.new.self c.args.draw.now effects answer) (sym answer)
    (record {
      stands = subst (λ (now : ℕ). Stands {S = g.row.S.Denot} c.passes.new.self (record server { now = now })) moment after;
      drawn = refl;
      sent = nothing-sent lock ring [] effects.out.outs refl nothing.0;
      entered = nothing.1;
    }) in
    let early : setting.now ≤ latest_moment = subst (λ (at : ℕ). at ≤ latest_moment) moment c.is_early.ensures in
    does g.row.S.Denot D lock ring c.passes.new.self c.args.draw.now (λ (effects : Effects). effects) (after_attach setting name server c.args.draw.now) c.passes.result
    (c.events_keep_order.ensures.attach setting name server c.args.draw.now early is.between)
    (both c.passes.result P Q R follows (c.passes.ensures.stands server stands) c.passes.ensures.nothing)

pub returns-in-Some-clause-given : goal.returns-in-Some-clause-given
returns-in-Some-clause-given g c = λ keys server is.
    let K : Type 0 = Kept g.row.S.Denot in
    let D : Type 0 = g.row.D.Denot in
    let lock = g.S.Seal.lock in
    let ring = g.S.Seal.keys c.args.self.now.seal in
    let draw = c.args.draw.now in
    let setting : Setting D = setting_of (max c.args.self.now.moment c.args.now) g.D.Draw.step keys in
    let name : Name = record { key = c.args.key; session = c.args.session } in
    let moment : c.later-moment.result ≡ max c.args.self.now.moment c.args.now =
    c.later-moment.ensures ∙ ap (λ (kept : K). max kept.moment c.args.now) c.self.view_is in
    let early : setting.now ≤ latest_moment = subst (λ (at : ℕ). at ≤ latest_moment) moment c.is_early.ensures in
    does g.row.S.Denot D lock ring c.attach_at.new.self c.attach_at.new.draw (λ (effects : Effects). effects) (after_attach setting name server draw) c.attach_at.result
    (c.events_keep_order.ensures.attach setting name server draw early is.between)
    (subst (λ (now : ℕ). IfOk c.attach_at.result (λ effects. Gives {S = g.row.S.Denot} {D = D} lock ring
    c.attach_at.new.self c.attach_at.new.draw effects (after_attach (setting_of now g.D.Draw.step keys) name server draw)))
    moment (c.attach_at.ensures.given keys server is.stands))
