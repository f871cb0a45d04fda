use Rattle.std.proofs.Common.{◌≡◌, ◌∙◌, ◌≤◌, ℕ, Result, Ok, Err, [], max, ap, sym, subst, refl}
use Rattle.std.specs.Prelude.{IfOk, OnOk}
use Rattle.msg_ids.specs.Moments.{latest_moment}
use Rattle.waits.specs.Jobs.{overdue_count}
use Rattle.server_rules.specs.Event.{Setting}
use Rattle.server_rules.specs.Answer.{Answer, after_tick, begun}
use Rattle.server_session.specs.Says.{setting_of}
use Rattle.server_core.specs.declared.effects.Effects.{Effects}
use Rattle.server_core.specs.Effects.{Gives}
use Rattle.server_core.specs.One.{answer_of}
use Rattle.server_core.specs.Server.{Kept, Stands}
use Rattle.server_core.proofs.Desked.{does}
use Rattle.server_core.proofs.Sending.{nothing-sent}
use Rattle.server_core.proofs.Speaking.{sessions-have_room}
use Rattle.server_core.proofs.server.Server.tick.Goals as goal

-- where it went well, both hold
both : {A E : Type 0} (result : Result A E) (P : Type 0) (Q R : A → Type 0) → ((x : A) → P → Q x → R x) → OnOk result P → IfOk result Q → IfOk result R
both (Ok x) P Q R follows holds is = follows x holds is
both (Err error) P Q R follows holds is = tt

pub returns-then-overdue-eq0-clause-given : goal.returns-then-overdue-eq0-clause-given
returns-then-overdue-eq0-clause-given g c = λ keys server is.
    let stands = is.stands in
    let order = is.between.order in
    let K : Type 0 = Kept g.row.S.Denot in
    let D : Type 0 = g.row.D.Denot in
    let lock = g.S.Seal.lock in
    let ring = g.S.Seal.keys c.args.self.now.seal in
    let now = max c.args.self.now.moment c.args.now in
    let setting : Setting D = setting_of now g.D.Draw.step keys in
    let draw = c.args.draw.now in
    let inside = subst (λ (kept : K). Stands kept server) (sym c.self.view_is) stands in
    let moment : c.later-moment.result ≡ now = c.later-moment.ensures ∙ ap (λ (kept : K). max kept.moment c.args.now) c.self.view_is in
    let all = sessions-have_room c.sessions_stand_later.ensures.room (g.S.Seal.keys c.self.inside.seal) c.self.inside.moment c.self.inside.moment c.self.inside.sessions
    server.sessions inside.sessions c.self.invariant.speaking in
    let count : overdue_count c.later-moment.result c.self.inside.jobs.jobs ≡ 0 = sym c.overdue.ensures.count ∙ c.if-overdue-eq0.true in
    let none : overdue_count now server.jobs ≡ 0 = ap (overdue_count now) (sym inside.jobs) ∙ (ap (λ (now : ℕ). overdue_count now c.self.inside.jobs.jobs) (sym moment) ∙ count) in
    let answer : after_tick setting server draw ≡ answer_of setting (begun server draw) = c.quiet_ticks_say_nothing.ensures setting server draw all order.unfailed none in
    let P : Type 0 = Stands {S = g.row.S.Denot} c.passes.new.self (record server { now = c.later-moment.result }) in
    let Q : Effects → Type 0 = λ effects. (effects.out.outs ≡ []) × (effects.entries.entries ≡ []) in
    let R : Effects → Type 0 = λ effects. Gives {S = g.row.S.Denot} {D = D} lock ring c.passes.new.self draw effects (after_tick setting server draw) in
    let follows : (effects : Effects) → P → Q effects → R effects = λ effects after nothing.
    subst (λ (answer : Answer D). Gives {S = g.row.S.Denot} {D = D} lock ring c.passes.new.self draw effects answer) (sym answer)
    (record {
      stands = subst (λ (now : ℕ). Stands {S = g.row.S.Denot} c.passes.new.self (record server { now = now })) moment after;
      drawn = refl;
      sent = nothing-sent lock ring [] effects.out.outs refl nothing.0;
      entered = nothing.1;
    }) in
    let early : now ≤ latest_moment = subst (λ (at : ℕ). at ≤ latest_moment) moment c.is_early.ensures in
    does g.row.S.Denot D lock ring c.passes.new.self draw (λ (effects : Effects). effects) (after_tick setting server draw) c.passes.result
    (c.events_keep_order.ensures.tick setting server draw early is.between)
    (both c.passes.result P Q R follows (c.passes.ensures.stands server stands) c.passes.ensures.nothing)

pub returns-else-overdue-eq0-clause-given : goal.returns-else-overdue-eq0-clause-given
returns-else-overdue-eq0-clause-given g c = λ keys server is.
    let K : Type 0 = Kept g.row.S.Denot in
    let D : Type 0 = g.row.D.Denot in
    let lock = g.S.Seal.lock in
    let ring = g.S.Seal.keys c.args.self.now.seal in
    let draw = c.args.draw.now in
    let setting : Setting D = setting_of (max c.args.self.now.moment c.args.now) g.D.Draw.step keys in
    let moment : c.later-moment.result ≡ max c.args.self.now.moment c.args.now =
    c.later-moment.ensures ∙ ap (λ (kept : K). max kept.moment c.args.now) c.self.view_is in
    let early : setting.now ≤ latest_moment = subst (λ (at : ℕ). at ≤ latest_moment) moment c.is_early.ensures in
    does g.row.S.Denot D lock ring c.ticks_due.new.self c.ticks_due.new.draw (λ (effects : Effects). effects) (after_tick setting server draw) c.ticks_due.result
    (c.events_keep_order.ensures.tick setting server draw early is.between)
    (subst (λ (now : ℕ). IfOk c.ticks_due.result (λ effects. Gives {S = g.row.S.Denot} {D = D} lock ring
    c.ticks_due.new.self c.ticks_due.new.draw effects (after_tick (setting_of now g.D.Draw.step keys) server draw)))
    moment (c.ticks_due.ensures.given keys server is))
