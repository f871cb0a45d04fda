use Rattle.std.proofs.Common.{◌≡◌, ◌∙◌, List, ap, sym, subst, refl}
use Rattle.std.specs.List.{All}
use Rattle.waits.specs.Held.{Held as Jobs}
use Rattle.waits.specs.declared.job.Job.{Job}
use Rattle.waits.specs.Jobs.{without_ready}
use Rattle.std.proofs.lemmas.List.Elements.{All-nil}
use Rattle.server_output.specs.Dues.{Dues}
use Rattle.server_dispatch.specs.Entries.{Held}
use Rattle.server_rules.specs.Event.{Owed, Setting, Speaker}
use Rattle.server_rules.specs.Sending.{messages_by}
use Rattle.server_rules.specs.Server.{name_of}
use Rattle.server_session.specs.Says.{setting_of}
use Rattle.server_dispatch.specs.Speaks.{Speaks}
use Rattle.server_dispatch.specs.declared.turn.Turn.{Turn}
use Rattle.server_core.specs.Working.{Ends, IsRunning, ran, worked}
use Rattle.server_core.proofs.Attached.{own-rest}
use Rattle.server_core.proofs.Own.{IsOwn, own-ran}
use Rattle.server_core.proofs.Names.{some-same}
use Rattle.server_core.proofs.Worked.{without_its}
use Rattle.server_core.proofs.working.works.Goals as goal

pub returns-clause-ends : goal.returns-clause-ends
returns-clause-ends g c = λ keys name others past wanted whole begins same_jobs no_entries ready is_wanted.
    let D : Type 0 = g.row.D.Denot in
    let now = c.args.now in
    let setting : Setting D = setting_of now g.D.Draw.step keys in
    let k = c.args.work.k in
    let reply = c.args.work.reply in
    let speaker : Speaker D = without_its k whole in
    let job : Job = c.take-job.result in
    let taken : job ≡ wanted = some-same job wanted (sym c.take-job.ensures.job ∙ ready) in
    let jobs_are : c.take-job.new.self.jobs ≡ speaker.jobs = ap (λ (held : Jobs). held.jobs) c.take-job.ensures.others ∙ ap (without_ready k) same_jobs in
    let is = subst (λ (job : Job). IsRunning name others past job c.args.work.limit speaker) (sym taken) is_wanted in
    let owed : c.args.work.speech.owing.messages ≡ messages_by (name_of speaker.session) speaker.owed =
    ap (λ (dues : Dues). dues.messages) c.requires.room.speech.owing ∙ ap (λ (owed : List Owed). messages_by (name_of speaker.session) owed) (sym begins.owed) in
    let turn : Turn = record { owing = c.args.work.speech.owing; entries = c.args.work.entries } in
    let first : Speaks now c.args.standing.now turn c.take-job.new.self.jobs speaker.bindings c.args.draw.now speaker = record {
      says = record { stands = begins.stands; owed = owed; draws = begins.draws };
      jobs = jobs_are;
      bindings = refl;
      entries = ap (λ (held : Held). held.entries) c.requires.room.entries ∙ sym no_entries;
    } in
    let said : Speaker D = ran setting job reply speaker in
    let done = c.answers_run.ensures.speaks keys speaker.bindings c.args.draw.now name others past speaker first is in
    let begun : IsOwn D name speaker = record {
      named = is.named;
      owed = subst (λ (owed : List Owed). All (λ one. one.name ≡ name) owed) (sym begins.owed) (All-nil (λ (one : Owed). one.name ≡ name));
      sent = begins.sent;
    } in
    let own = own-ran c.sessions_speak_for_themselves.ensures.gives_up c.sessions_speak_for_themselves.ensures.finishes setting name job reply speaker begun in
    let rest = own-rest setting said in
    let ends : Ends g.S.Seal.lock (g.S.Seal.keys c.args.seal.now) now c.sends-out.new.standing c.answers_run.new.jobs.jobs c.sends-out.new.draw
    (record { out = c.sends-out.result; entries = c.answers_run.new.turn.entries }) (worked setting job reply speaker) = record {
      stands = c.sends-out.ensures.stands keys said done.says;
      jobs = done.jobs ∙ sym rest.jobs;
      drawn = c.sends-out.ensures.drawn keys said done.says;
      sent = c.sends-out.ensures.sent keys said done.says own.sent;
      entered = done.entries ∙ sym rest.entries;
    } in
    subst (λ (job : Job). Ends g.S.Seal.lock (g.S.Seal.keys c.args.seal.now) now c.sends-out.new.standing c.answers_run.new.jobs.jobs c.sends-out.new.draw
    (record { out = c.sends-out.result; entries = c.answers_run.new.turn.entries }) (worked setting job reply speaker)) taken ends
