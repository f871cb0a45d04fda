use Rattle.law_server_replay.proofs.QuietAttach.{attach_quiet}
use Rattle.law_server_replay.proofs.QuietTick.{none_overdue}
use Rattle.law_server_replay.proofs.laws.quiet_events_change_nothing.Goals as goal

pub returns-clause-tick : goal.returns-clause-tick
returns-clause-tick g c = λ setting server draw ordered unspent none.
    c.quiet_ticks_say_nothing.ensures setting server draw unspent ordered.unfailed (none_overdue setting server draw ordered none)

pub returns-clause-attach : goal.returns-clause-attach
returns-clause-attach g c = λ setting name server draw ordered unspent none.
    attach_quiet setting c.new_sessions_say_so.ensures.begins (λ speaker. c.sessions_speak_for_themselves.ensures.attaches setting speaker) server draw ordered unspent
    c.sessions_speak.ensures.own name none
