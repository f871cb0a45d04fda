use Rattle.std.proofs.Common.{◌≡◌, ◌∙◌, ◌<◌, ◌≤◌, ℕ, Bool, true, false, Some, List, length, get_or, set, ap, sym, subst, refl, arith}
use Rattle.std.specs.Prelude.{nat_lt}
use Rattle.std.specs.List.{position, position_or_len}
use Rattle.std.proofs.lemmas.Bool.{ltb-false}
use Rattle.std.proofs.lemmas.List.{length-set}
use Rattle.std.proofs.lemmas.List.Sums.{passes_at_first}
use Rattle.server_output.specs.Outs.{AreSent}
use Rattle.server_dispatch.specs.Entries.{Held}
use Rattle.auth_keys.specs.declared.ring.RingKey.{RingKey}
use Rattle.server_rules.specs.Server.{Name, is_same, name_of}
use Rattle.server_rules.specs.Event.{Sent, Setting, Speaker, State, speaker_in, spoken}
use Rattle.server_rules.specs.Answer.{Answer, after_attach, begun, is_spent, room_min}
use Rattle.server_session.specs.declared.session.SessionState.{SessionState}
use Rattle.server_session.specs.SessionState.{Stands as StandsFor, numbers_left}
use Rattle.server_session.specs.Names.{name_kept}
use Rattle.server_session.specs.Says.{setting_of}
use Rattle.server_core.specs.declared.effects.Effects.{Effects}
use Rattle.server_core.specs.Effects.{Gives}
use Rattle.server_core.specs.One.{answer_of, lost_where}
use Rattle.server_core.specs.Sessions.{AreKept, is_kept_as}
use Rattle.server_core.specs.Server.{CanSpeak, IsSound, Kept, Stands, without_kept_where}
use Rattle.server_core.specs.Speech.{Begins, attached}
use Rattle.server_core.proofs.Attached.{IsThere, attach-gives, attached-name, attached-rest, drawn-where, ends-so, entered-where, sent-where}
use Rattle.server_core.proofs.Lists.{place-is}
use Rattle.server_core.proofs.Places.{can-still, one-of, sound-set}
use Rattle.server_core.proofs.Speaking.{found-at, kept-later, kept-set, sessions-apart, sessions-have_room}
use Rattle.server_core.proofs.Steady.{no_keys, sound-of, steady-by}
use Rattle.server_core.proofs.server.Server.attach_at.Goals as goal

pub lose_spent-requires : goal.lose_spent-requires
lose_spent-requires g c =
    let K : Type 0 = Kept g.row.S.Denot in
    let name : Name = record { key = c.args.key; session = c.args.session } in
    let standings = c.self.inside.sessions in
    let placed : Some c.args.place ≡ position (is_kept_as name) standings =
    sym (ap (λ (kept : K). position (is_kept_as name) kept.sessions) c.self.view_is ∙ c.requires.place) in
    let at = place-is (is_kept_as name) standings c.args.place placed in
    let d = one-of standings c.args.place at.1 in
    let after = get_or c.attach-out.new.self c.args.place d in
    let long : length c.attach-out.new.self ≡ length standings =
    ap (λ (standings : List SessionState). length standings) (c.attach-out.ensures.others d) ∙ length-set standings c.args.place after in
    omega (arith, at.1)

pub returns-clause-given : goal.returns-clause-given
returns-clause-given g c = λ keys server stands.
    let V : Type 0 = g.row.S.Denot in
    let D : Type 0 = g.row.D.Denot in
    let K : Type 0 = Kept V in
    let names = c.sessions_stand_later.ensures.name in
    let rooms = c.sessions_stand_later.ensures.room in
    let name : Name = record { key = c.args.key; session = c.args.session } in
    let test = is_kept_as name in
    let place = c.args.place in
    let moment = c.args.moment in
    let standings = c.self.inside.sessions in
    let placed : Some place ≡ position test standings = sym (ap (λ (kept : K). position test kept.sessions) c.self.view_is ∙ c.requires.place) in
    let at = place-is test standings place placed in
    let first = position_or_len test standings in
    let within : first < length standings = omega (arith, at.0, at.1) in
    let d = one-of standings place at.1 in
    let after = get_or c.attach-out.new.self place d in
    let so = nat_lt (numbers_left after) room_min in
    let lock = g.S.Seal.lock in
    let ring = g.S.Seal.keys c.self.inside.seal in
    let lt : c.self.inside.moment ≤ moment =
    subst (λ (old : ℕ). old ≤ moment) (sym (ap (λ (kept : K). kept.moment) c.self.view_is)) c.requires.later in
    let inside = subst (λ (kept : K). Stands kept server) (sym c.self.view_is) stands in
    let are = kept-later c.sessions_stand_later.ensures.later c.self.inside.moment moment standings server.sessions lt inside.sessions in
    let there = found-at names moment name standings server.sessions d are within in
    let setting : Setting D = setting_of moment g.D.Draw.step keys in
    let state : State D = begun server c.args.draw.now in
    let speaker : Speaker D = speaker_in state there.session in
    let begins : Begins moment (get_or standings place d) c.args.draw.now speaker = record {
      stands = subst (λ (n : ℕ). StandsFor moment (get_or standings n d) there.session) at.0 there.stands;
      draws = refl;
      owed = refl;
      sent = refl;
    } in
    let done : Speaker D = attached setting speaker in
    let stands_now : StandsFor moment after done.session = c.attach-out.ensures.stands d keys speaker begins in
    let is_there : IsThere D setting name server c.args.draw.now there.session = record {
      found = there.found;
      apart = sessions-apart names moment standings server.sessions are c.room_to_attach.ensures.apart;
      room = sessions-have_room rooms ring c.self.inside.moment moment standings server.sessions are c.self.invariant.speaking;
      speaks = λ speaker. c.sessions_speak_for_themselves.ensures.attaches setting speaker;
    } in
    let gives = attach-gives setting name server c.args.draw.now there.session is_there in
    let so_same : so ≡ is_spent done.session = ap (λ (left : ℕ). nat_lt left room_min) (rooms moment after done.session stands_now) in
    let answer : Answer D = answer_of setting (lost_where so name (spoken state done)) in
    let own : name_of done.session ≡ name = attached-name setting name server c.args.draw.now there.session is_there in
    let kept = kept-set names moment name standings server.sessions after done.session are c.room_to_attach.ensures.apart within stands_now own in
    let rest = attached-rest setting speaker in
    let ends = ends-so names setting state done name so c.self.inside.seal (set standings first after) c.self.inside.jobs.jobs c.self.inside.bindings.bindings kept
    (inside.jobs ∙ sym rest.jobs) (inside.bindings ∙ sym rest.bindings) in
    let sessions_are : c.lose_spent.new.sessions ≡ without_kept_where so name (set standings first after) =
    c.lose_spent.ensures.sessions d
    ∙ ap (without_kept_where so name) (c.attach-out.ensures.others d ∙ ap (λ (n : ℕ). set standings n after) (sym at.0)) in
    let effects : Effects = record { out = c.attach-out.result; entries = c.in_ok-entries.entries } in
    let same_ring : ring ≡ g.S.Seal.keys c.args.self.now.seal = ap (λ (kept : K). g.S.Seal.keys kept.seal) c.self.view_is in
    let sent : AreSent lock ring answer.packets c.attach-out.result.outs =
    subst (λ (sent : List Sent). AreSent lock ring sent c.attach-out.result.outs) (sym (sent-where so name (spoken state done)))
    (c.attach-out.ensures.sent d keys speaker begins) in
    let kept_now : K = record {
      seal = c.self.inside.seal;
      moment = moment;
      sessions = c.lose_spent.new.sessions;
      jobs = c.lose_spent.new.jobs.jobs;
      bindings = c.self.inside.bindings.bindings;
    } in
    let stands_then : Stands kept_now answer.server = record {
      moment = ends.moment;
      sessions = subst (λ (standings : List SessionState). AreKept moment standings answer.server.sessions) (sym sessions_are) ends.sessions;
      jobs = c.lose_spent.ensures.jobs d ∙ ends.jobs;
      bindings = ends.bindings;
    } in
    let drawn : c.attach-out.new.draw ≡ answer.draw = c.attach-out.ensures.drawn d keys speaker begins ∙ sym (drawn-where so name (spoken state done)) in
    let entered : effects.entries.entries ≡ answer.entries =
    ap (λ (held : Held). held.entries) c.in_ok-entries.ensures ∙ (sym rest.entries ∙ sym (entered-where so name (spoken state done))) in
    let sent_then : AreSent lock (g.S.Seal.keys c.args.self.now.seal) answer.packets c.attach-out.result.outs =
    subst (λ (ring : List RingKey). AreSent lock ring answer.packets c.attach-out.result.outs) same_ring sent in
    let given : Gives {S = V} {D = D} lock (g.S.Seal.keys c.args.self.now.seal) kept_now c.attach-out.new.draw effects answer =
    record { stands = stands_then; drawn = drawn; sent = sent_then; entered = entered } in
    let same : after_attach setting name server c.args.draw.now ≡ answer =
    gives ∙ ap (λ (so : Bool). answer_of setting (lost_where so name (spoken state done))) (sym so_same) in
    subst (λ (answer : Answer D). Gives {S = V} {D = D} lock (g.S.Seal.keys c.args.self.now.seal) kept_now c.attach-out.new.draw effects answer) (sym same) given

pub invariant_of-self : goal.invariant_of-self
invariant_of-self g c =
    let K : Type 0 = Kept g.row.S.Denot in
    let name : Name = record { key = c.args.key; session = c.args.session } in
    let test = is_kept_as name in
    let place = c.args.place in
    let standings = c.self.inside.sessions in
    let placed : Some place ≡ position test standings = sym (ap (λ (kept : K). position test kept.sessions) c.self.view_is ∙ c.requires.place) in
    let at = place-is test standings place placed in
    let first = position_or_len test standings in
    let within : first < length standings = omega (arith, at.0, at.1) in
    let d = one-of standings place at.1 in
    let before = get_or standings place d in
    let after = get_or c.attach-out.new.self place d in
    let so = nat_lt (numbers_left after) room_min in
    let ring = g.S.Seal.keys c.self.inside.seal in
    let lt : c.self.inside.moment ≤ c.args.moment =
    subst (λ (moment : ℕ). moment ≤ c.args.moment) (sym (ap (λ (kept : K). kept.moment) c.self.view_is)) c.requires.later in
    let same : name_kept after ≡ name_kept before = c.attach-out.ensures.same_name d in
    let has : test before ≡ true = ap (λ (n : ℕ). test (get_or standings n d)) (sym at.0) ∙ passes_at_first test standings d within in
    let is : test after ≡ true = ap (λ (other : Name). is_same name other) same ∙ has in
    let can : so ≡ false → CanSpeak ring c.args.moment after = λ left.
    can-still ring c.self.inside.moment c.args.moment before after (c.self.invariant.speaking place d at.1) same (c.attach-out.ensures.at d)
    (ltb-false (numbers_left after) room_min left) in
    let sound = sound-set c.sessions_stand_later.ensures.at ring c.self.inside.moment c.args.moment name standings after so lt (sound-of ring _ c.self.invariant) within is can in
    let sessions_are : c.lose_spent.new.sessions ≡ without_kept_where so name (set standings first after) =
    c.lose_spent.ensures.sessions d
    ∙ ap (without_kept_where so name) (c.attach-out.ensures.others d ∙ ap (λ (n : ℕ). set standings n after) (sym at.0)) in
    let V : Type 0 = g.row.S.Denot in
    let D : Type 0 = g.row.D.Denot in
    let old = c.self.invariant in
    let setting : Setting D = setting_of c.args.moment g.D.Draw.step no_keys in
    let given = returns-clause-given g c no_keys old.server (subst (λ (kept : K). Stands kept old.server) c.self.view_is old.stands_for.stands) in
    steady-by {S = V} ring _ (after_attach setting name old.server c.args.draw.now).server
    (subst (λ (standings : List SessionState). IsSound ring c.args.moment standings) (sym sessions_are) sound)
    given.stands (c.events_keep_order.ensures.attach setting name old.server c.args.draw.now c.is_early.ensures old.stands_for.between)
