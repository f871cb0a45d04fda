use Rattle.std.proofs.Common.{refl, length}
use Rattle.service_tl.specs.declared.item.Item.TheVariants.{RpcResult}
use Rattle.service_tl.specs.Items.{spelling_of}
use Rattle.server_rules.specs.Speaking.{made_room}
use Rattle.law_server.specs.Order.{reply_made}
use Rattle.law_server.proofs.Replies.{reply-last, reply-others, kept-last}
use Rattle.law_server.proofs.laws.answers_are_kept.Goals as goal

pub returns-clause-reply : goal.returns-clause-reply
returns-clause-reply g c = λ setting call content speaker none.
    reply-last (length (spelling_of (RpcResult call content))) speaker.session.replies (reply_made setting call content speaker) none

pub returns-clause-others : goal.returns-clause-others
returns-clause-others g c = λ setting call content speaker number apart.
    reply-others (made_room (length (spelling_of (RpcResult call content))) speaker.session.replies) (reply_made setting call content speaker) number apart

pub returns-clause-kept : goal.returns-clause-kept
returns-clause-kept g c = λ setting call content speaker.
    kept-last (made_room (length (spelling_of (RpcResult call content))) speaker.session.replies) (reply_made setting call content speaker) refl
