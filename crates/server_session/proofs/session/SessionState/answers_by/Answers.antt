use Rattle.std.proofs.Common.{◌≡◌, ◌∙◌, ℕ, List, None, drop, length, ap, subst, refl}
use Rattle.msg_ids.specs.Counters.{Counters}
use Rattle.service_tl.specs.declared.item.Item.TheVariants.{RpcResult}
use Rattle.service_tl.specs.Items.{spelling_of}
use Rattle.packing.specs.Numbering.{numbered}
use Rattle.outbox.specs.Bodies.{head_bytes}
use Rattle.server_rules.specs.Server.{kept_of, reply_to}
use Rattle.server_rules.specs.Speaking.{made_room, says}
use Rattle.law_server.specs.Order.{reply_made}
use Rattle.server_session.specs.SessionState.{Stands}
use Rattle.server_session.specs.Says.{Says, setting_of}
use Rattle.server_session.proofs.OldestLemmas.{none-found, room-unanswered}
use Rattle.server_session.proofs.UnsaidLemmas.{none-more-answered}
use Rattle.server_session.proofs.session.SessionState.answers_by.Goals as goal

pub returns-clause-says : goal.returns-clause-says
returns-clause-says g c = λ keys draw speaker none says_before.
    let setting = setting_of c.args.now g.D.Draw.step keys in
    let content = drop head_bytes c.args.body in
    let owes = c.owes_result-number in
    let said : Says c.args.now owes.new.self owes.new.owing draw (says setting (RpcResult c.args.call content) speaker) =
    subst (λ (content : List ℕ). Says c.args.now owes.new.self owes.new.owing draw (says setting (RpcResult c.args.call content) speaker)) c.rest.ensures.value
    (owes.ensures.says keys draw speaker says_before) in
    let session = (says setting (RpcResult c.args.call content) speaker).session in
    let bytes : c.len.result ≡ length (spelling_of (RpcResult c.args.call content)) = c.len.ensures.value ∙ ap (λ (body : List ℕ). length body) c.requires.result in
    let room : Stands c.args.now c.makes_room.new.self (record session { replies = made_room (length (spelling_of (RpcResult c.args.call content))) session.replies }) =
    subst (λ (bytes : ℕ). Stands c.args.now c.makes_room.new.self (record session { replies = made_room bytes session.replies })) bytes
    (c.makes_room.ensures.stands c.args.now session said.stands) in
    let reply = reply_made setting c.args.call content speaker in
    let number : owes.result.0 ≡ reply.number =
    owes.ensures.given.0
    ∙ (ap (λ (counters : Counters). (numbered c.args.now counters (RpcResult c.args.call c.rest.result.now)).number) says_before.stands.counters
    ∙ ap (λ (content : List ℕ). (numbered c.args.now speaker.session.counters (RpcResult c.args.call content)).number) c.rest.ensures.value) in
    let seq : owes.result.1 ≡ reply.seq =
    owes.ensures.given.1
    ∙ (ap (λ (counters : Counters). (numbered c.args.now counters (RpcResult c.args.call c.rest.result.now)).seq) says_before.stands.counters
    ∙ ap (λ (content : List ℕ). (numbered c.args.now speaker.session.counters (RpcResult c.args.call content)).seq) c.rest.ensures.value) in
    let same : kept_of reply ≡ record { call = c.args.call; number = owes.result.0; seq = owes.result.1; body = c.args.body } =
    rw (number, seq, ← c.requires.result) refl in
    let unanswered : reply_to c.args.call (made_room (length (spelling_of (RpcResult c.args.call content))) session.replies) ≡ None =
    room-unanswered (length (spelling_of (RpcResult c.args.call content))) c.args.call speaker.session.replies (none-found c.args.call speaker.session.replies none) in
    record {
      stands = c.keeps_reply.ensures.stands c.args.now (record session { replies = made_room (length (spelling_of (RpcResult c.args.call content))) session.replies }) reply room same refl unanswered;
      owed = said.owed;
      draws = said.draws;
    }

pub returns-clause-unsaid : goal.returns-clause-unsaid
returns-clause-unsaid g c =
    let owes = c.owes_result-number in
    none-more-answered c.args.self.now owes.new.self c.makes_room.new.self _ c.args.owing.now _
    (record { call = c.args.call; number = owes.result.0; seq = owes.result.1; body = c.args.body })
    owes.ensures.same_outbox owes.ensures.stays_said owes.ensures.said c.makes_room.ensures.fewer_kept c.keeps_reply.ensures.kept
