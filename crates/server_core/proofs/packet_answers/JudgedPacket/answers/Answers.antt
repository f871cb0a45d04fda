use Rattle.std.proofs.Common.{◌≡◌, ◌∙◌, ◌≤◌, ℕ, false, true, List, [], length, ap, sym, subst, refl, arith}
use Rattle.auth_keys.specs.Rings.{entry_of}
use Rattle.auth_keys.specs.declared.ring.RingKey.{RingKey}
use Rattle.std.specs.Prelude.{IsSome, nat_lt}
use Rattle.std.proofs.lemmas.Bool.{ltb-false}
use Rattle.waits.specs.Held.{Held as Jobs}
use Rattle.waits.specs.Jobs.{Queue}
use Rattle.id_window.specs.History.{History}
use Rattle.inbox.specs.declared.judged.Judgement.{Judgement as BareJudgement}
use Rattle.inbox.specs.Verdicts.{Judgement}
use Rattle.server_output.specs.Dues.{Dues}
use Rattle.server_output.specs.Outs.{AreSent}
use Rattle.server_dispatch.specs.Bindings.{Held as Bindings}
use Rattle.server_dispatch.specs.Entries.{Held}
use Rattle.server_dispatch.specs.Speaks.{Speaks}
use Rattle.server_dispatch.specs.declared.turn.Turn.{Turn}
use Rattle.server_dispatch.specs.Rings.{AreOf}
use Rattle.server_rules.specs.Answer.{is_spent, name_in, opens, room_min}
use Rattle.server_rules.specs.Event.{Sent, Setting, Speaker}
use Rattle.server_rules.specs.Server.{Binding, Name, Session}
use Rattle.server_session.specs.declared.session.SessionState.{SessionState}
use Rattle.server_session.specs.Names.{name_kept}
use Rattle.server_session.specs.Says.{setting_of}
use Rattle.server_session.specs.SessionState.{numbers_left}
use Rattle.law_server.specs.Lives.{history_by}
use Rattle.server_core.specs.Among.{Among, remembers_among, speaks_among, takes_among}
use Rattle.server_core.specs.One.{says_its_own}
use Rattle.server_core.specs.Packets.{bodies_of, judged_of}
use Rattle.server_core.specs.Room.{turn_in}
use Rattle.server_core.specs.Server.{CanSpeak, IsSound}
use Rattle.server_core.specs.Settling.{SpeaksAmong}
use Rattle.server_core.specs.SettlingAll.{all_settled, are_numbered, calls_of}
use Rattle.server_core.proofs.AllSettled.{judged-calls}
use Rattle.server_core.proofs.Attached.{own-rest}
use Rattle.server_core.proofs.Names.{name-by}
use Rattle.server_core.proofs.Ordered.{KeepsOrder}
use Rattle.server_core.proofs.PacketDues.{told-few}
use Rattle.server_core.proofs.PacketRoom.{acks-short, opening-room, sending-room, settling-room}
use Rattle.server_core.proofs.Taken.{Told, begins-taking, left-apart, left-bound, left-drawn, left-entered, left-sent, opened-settling, sound-last, taken-sent, told-so}
use Rattle.server_core.proofs.packet_answers.JudgedPacket.answers.Goals as goal

-- a speaker with the same jobs and bindings
lent-speaks : {S : Type 0} {now : ℕ} {standing : SessionState} {turn : Turn} {queue lent : Queue} {bound given : List Binding} {draw : S} {speaker : Speaker S}
    → lent ≡ queue → given ≡ bound → Speaks now standing turn queue bound draw speaker → Speaks now standing turn lent given draw speaker
lent-speaks jobs_are bindings_are speaks =
    record { says = speaks.says; jobs = jobs_are ∙ speaks.jobs; bindings = bindings_are ∙ speaks.bindings; entries = speaks.entries }

pub opens-requires : goal.opens-requires
opens-requires g c =
    let long = ap (λ (judged : List BareJudgement). length judged) c.as_slice-judged.ensures in
    let acks_long = ap (λ (acks : List ℕ). length acks) c.as_slice.ensures.value in
    let acks = length c.as_slice.result.now in
    let standing = c.args.self.standing in
    let room = c.args.self.room in
    let few : acks ≤ length room.dues.items = omega (arith, c.requires.fitting.few, c.acks_in.ensures.few, long, acks_long) in
    record {
      few = acks-short acks standing c.args.jobs.now.room c.args.bindings.now.room room c.requires.room few;
      room = opening-room acks standing c.args.jobs.now.room c.args.bindings.now.room room c.requires.room few c.requires.speaking.numbers;
      at = c.requires.speaking.at;
    }

pub settles_all-requires : goal.settles_all-requires
settles_all-requires g c =
    let long = ap (λ (judged : List BareJudgement). length judged) c.as_slice-judged.ensures in
    let acks_long = ap (λ (acks : List ℕ). length acks) c.as_slice.ensures.value in
    let acks = length c.as_slice.result.now in
    let standing = c.args.self.standing in
    let room = c.args.self.room in
    let judged = c.as_slice-judged.result.now in
    let enough : length judged ≤ length room.dues.items = omega (arith, c.requires.fitting.few, long) in
    let few : acks ≤ length room.dues.items = omega (arith, enough, c.acks_in.ensures.few, acks_long) in
    let N : List BareJudgement → Type 0 = λ judged. are_numbered judged room.dues.items ≡ true in
    let asked = judged-calls judged room.dues.items (subst N (sym c.as_slice-judged.ensures) c.requires.fitting.numbered) in
    record {
      enough = enough;
      room = settling-room (calls_of judged room.dues.items) c.args.now acks standing c.opens.new.standing c.args.jobs.now.room c.args.bindings.now.room room c.opens.new.self
          c.requires.room few c.requires.speaking.numbers asked c.opens.ensures.spends c.opens.ensures.unsaid c.opens.ensures.same_replies;
      job_room = let same = ap (λ (held : Jobs). held.room) c.replace-lent_jobs.ensures.value in omega (arith, enough, same, c.requires.room.jobs);
      binding_room = let same = ap (λ (held : Bindings). held.room) c.replace-lent_bindings.ensures.value in omega (arith, enough, same, c.requires.room.bindings);
      at = c.opens.ensures.spends.at c.requires.speaking.at;
    }

pub sends-out-requires : goal.sends-out-requires
sends-out-requires g c =
    let acks = length c.as_slice.result.now in
    let standing = c.args.self.standing in
    let room = c.args.self.room in
    let calls = calls_of c.as_slice-judged.result.now room.dues.items in
    let can = sending-room calls c.args.now acks _ _ _ standing c.opens.new.standing c.settles_all.new.self.speaking.standing c.args.jobs.now.room c.args.bindings.now.room room
    c.opens.new.self c.settles_all.new.self.speaking.turn c.requires.room c.requires.speaking.numbers c.opens.ensures.spends (c.settles_all.ensures.uses calls (λ kept is. is)) in
    let K : ℕ → Type 0 = λ key. IsSome (entry_of key (g.S.Seal.keys c.args.seal.now)) in
    record {
      few = can.few;
      short = can.short;
      key = subst K (sym can.key) c.requires.speaking.key;
      numbers = can.numbers;
      outs = can.outs;
      nothing = can.nothing;
      at = can.at c.requires.speaking.at;
    }

pub goes_back-sessions-requires : goal.goes_back-sessions-requires
goes_back-sessions-requires g c =
    let acks = length c.as_slice.result.now in
    let room = c.args.self.room in
    let calls = calls_of c.as_slice-judged.result.now room.dues.items in
    let can = sending-room calls c.args.now acks _ _ _ c.args.self.standing c.opens.new.standing c.settles_all.new.self.speaking.standing c.args.jobs.now.room c.args.bindings.now.room room
    c.opens.new.self c.settles_all.new.self.speaking.turn c.requires.room c.requires.speaking.numbers c.opens.ensures.spends (c.settles_all.ensures.uses calls (λ kept is. is)) in
    let same : name_kept c.sends-out.new.standing ≡ name_kept c.args.self.standing =
    c.sends-out.ensures.same_name ∙ name-by (name_kept c.settles_all.new.self.speaking.standing) (name_kept c.args.self.standing) can.key can.number in
    record {
      apart =
          left-apart (g.S.Seal.keys c.args.seal.now) c.args.now (name_kept c.args.self.standing) c.args.self.others c.settles_all.new.self.others c.sends-out.new.standing
          c.requires.beside c.settles_all.ensures.left same;
    }

pub returns-clause-sound : goal.returns-clause-sound
returns-clause-sound g c =
    let acks = length c.as_slice.result.now in
    let room = c.args.self.room in
    let calls = calls_of c.as_slice-judged.result.now room.dues.items in
    let can = sending-room calls c.args.now acks _ _ _ c.args.self.standing c.opens.new.standing c.settles_all.new.self.speaking.standing c.args.jobs.now.room c.args.bindings.now.room room
    c.opens.new.self c.settles_all.new.self.speaking.turn c.requires.room c.requires.speaking.numbers c.opens.ensures.spends (c.settles_all.ensures.uses calls (λ kept is. is)) in
    let same : name_kept c.sends-out.new.standing ≡ name_kept c.args.self.standing =
    c.sends-out.ensures.same_name ∙ name-by (name_kept c.settles_all.new.self.speaking.standing) (name_kept c.args.self.standing) can.key can.number in
    let ring = g.S.Seal.keys c.args.seal.now in
    let now = c.args.now in
    let standing = c.sends-out.new.standing in
    let left = c.settles_all.new.self.others in
    let so = nat_lt (numbers_left standing) room_min in
    let K : ℕ → Type 0 = λ key. IsSome (entry_of key ring) in
    let can_speak : so ≡ false → CanSpeak ring now standing = λ not_so.
    record {
      key = subst K (sym (ap (λ (name : Name). name.key) same)) c.requires.speaking.key;
      numbers = ltb-false (numbers_left standing) room_min not_so;
      at = c.sends-out.ensures.at;
    } in
    subst (λ (standings : List SessionState). IsSound ring now standings) (sym c.goes_back-sessions.ensures.sessions)
    (sound-last ring now (name_kept c.args.self.standing) c.args.self.others left standing so c.requires.beside c.settles_all.ensures.left can_speak)

pub returns-clause-given : goal.returns-clause-given
returns-clause-given g c = λ keys envelope among of has fits.
    let D : Type 0 = g.row.D.Denot in
    let now = c.args.now in
    let setting : Setting D = setting_of now g.D.Draw.step keys in
    let room = c.args.self.room in
    let name = name_in envelope in
    let session : Session = among.speaker.session in
    let history : History = history_by setting envelope session in
    let bodies : List (List ℕ) = bodies_of setting envelope session in
    let speech = c.speech_keeps_order.ensures in
    let rows = c.rows_keep_order.ensures in
    let keeps : KeepsOrder D = record {
      says = speech.says;
      notices = speech.notices;
      again = speech.came_again;
      left = speech.left;
      tells = speech.tells;
      accepts = rows.accepts;
      new = speech.new;
      acknowledges = speech.acknowledges;
      gives = rows.gives_up;
      takes = c.taken_jobs_are_open.ensures.first;
    } in
    let judged : List BareJudgement = c.as_slice-judged.result.now in
    let judged_is : judged ≡ c.args.self.judged = c.as_slice-judged.ensures in
    let all_told : Told judged bodies room.dues.items (judged_of setting envelope session) = told-so judged bodies room.dues.items (judged_of setting envelope session) (judged_is ∙ has.are) fits.due in
    let told : List Judgement = all_told.told in
    let few = told-few judged bodies room.dues.items told all_told.are all_told.due in
    let long : length told ≡ length c.args.self.judged = sym few.0 ∙ ap (λ (judged : List BareJudgement). length judged) judged_is in
    let none : room.speech.owing.messages ≡ [] = ap (λ (dues : Dues). dues.messages) c.requires.room.taken.speech.owing in
    let nothing : room.entries.entries ≡ [] = ap (λ (held : Held). held.entries) c.requires.room.taken.entries in
    let first = begins-taking setting envelope c.args.self.others c.args.self.standing (turn_in room) c.args.jobs.now.jobs c.args.bindings.now.bindings c.args.draw.now
    c.args.self.judged among has none nothing in
    let opened : Among D = speaks_among (opens setting history told) among in
    let lent_jobs = c.replace-lent_jobs.result.jobs in
    let lent_bindings = c.replace-lent_bindings.result.bindings in
    let jobs_are : lent_jobs ≡ c.args.jobs.now.jobs = ap (λ (held : Jobs). held.jobs) c.replace-lent_jobs.ensures.value in
    let bindings_are : lent_bindings ≡ c.args.bindings.now.bindings = ap (λ (held : Bindings). held.bindings) c.replace-lent_bindings.ensures.value in
    let begins : SpeaksAmong now c.args.self.others c.opens.new.standing c.opens.new.self lent_jobs lent_bindings c.opens.new.draw opened = record {
      others = has.heard.others;
      speaks = lent-speaks jobs_are bindings_are (c.opens.ensures.speaks keys c.args.jobs.now.jobs c.args.bindings.now.bindings (remembers_among history among).speaker told
          (c.as_slice.ensures.value ∙ c.acks_in.ensures.acks told all_told.are) first);
    } in
    let settling = opened-settling keeps c.packets_are_judged.ensures.opened c.packets_are_judged.ensures.told setting envelope room.limit told among has.alone has.order all_told.same
    (omega (arith, long, fits.few)) in
    let of_ring = subst (λ (ring : List RingKey). AreOf ring keys) (sym c.ring.ensures) of in
    let all = c.settles_all.ensures.settled keys name history told bodies opened of_ring all_told.are all_told.due settling begins in
    let taken : Among D = takes_among setting envelope among in
    let P : List Judgement → Type 0 = λ judged. SpeaksAmong now c.settles_all.new.self.others c.settles_all.new.self.speaking.standing c.settles_all.new.self.speaking.turn c.settles_all.new.self.speaking.jobs.jobs
    c.settles_all.new.self.speaking.bindings.bindings c.settles_all.new.draw (all_settled setting judged bodies (speaks_among (opens setting history judged) among)) in
    let at = subst P all_told.same all in
    let own = c.sessions_speak_for_themselves.ensures in
    let sent : taken.speaker.sent ≡ [] = taken-sent own.owes own.gives_up setting envelope among ∙ has.heard.sent in
    let rest = own-rest setting taken.speaker in
    let done : Among D = speaks_among (says_its_own setting) taken in
    let so = is_spent done.speaker.session in
    let stands = c.sends-out.ensures.stands keys taken.speaker at.speaks.says in
    let lock = g.S.Seal.lock in
    let keys_held = g.S.Seal.keys c.args.seal.now in
    record {
      stands = record {
        moment = refl;
        sessions = c.goes_back-sessions.ensures.kept now done at.others stands;
        jobs = c.goes_back-sessions.ensures.left now done stands (at.speaks.jobs ∙ sym rest.jobs);
        bindings = at.speaks.bindings ∙ sym rest.bindings ∙ sym (left-bound so done);
      };
      drawn = c.sends-out.ensures.drawn keys taken.speaker at.speaks.says ∙ sym (left-drawn so done);
      sent = subst (λ (sent : List Sent). AreSent lock keys_held sent c.sends-out.result.outs) (sym (left-sent so done))
          (c.sends-out.ensures.sent keys taken.speaker at.speaks.says sent);
      entered = at.speaks.entries ∙ sym rest.entries ∙ sym (left-entered so done);
    }
