-- The sessions of a server whose numbers fit their places, with the lines that they have in the end.
use Rattle.std.proofs.Common.{◌<◌, ◌^◌, Option, List, sym, subst, ◌∙◌}
use Rattle.std.specs.List.{AllByRecursion}
use Rattle.salt_line.specs.Line.{Line}
use Rattle.server_rules.specs.Server.{Name, Reply, Session, name_of, session_named}
use Rattle.server_rules.specs.Event.{Setting, State}
use Rattle.server_rules.specs.Sending.{all_sent}
use Rattle.law_server_bounds.specs.Small.{IsSmallReply, IsSmallRow, IsSmallSession, IsSmallState}
use Rattle.law_server_moves.specs.Speaking.{with_line}
use Rattle.law_server_moves.specs.Events.{lined, with_lines}
use Rattle.law_server_moves.specs.Sending.{IsFit}
use Rattle.law_server_moves.proofs.Lists.{each_of, map_all}
use Rattle.law_server_moves.proofs.Events.{all_mapped}
use Rattle.law_server_moves.proofs.Gone.{named_among}
use Rattle.law_server_moves.proofs.Chosen.{line_by, some_found}
use Rattle.law_server_moves.proofs.Served.{has_sent}

fit_with : (y : Session) (line : Line) → IsSmallSession y → AllByRecursion IsSmallRow line.rows → IsFit (with_line line y)
fit_with y line small rows = record {
  unique = small.unique;
  salts = rows;
  history = small.history;
  replies = map_all (IsSmallReply y.counters) (λ (reply : Reply). reply.call < 2 ^ 64) y.replies (λ reply is one. one.call) small.replies;
}

-- where all that has spoken is small, and so is what is to speak, each that is to speak fits with its last line
pub fits_last : {S : Type 0} (setting : Setting S) (done : State S) (before : Name → Option Session) → IsSmallState done → IsSmallState (all_sent setting done)
    → AllByRecursion IsFit (with_lines (λ name. line_by (session_named name (all_sent setting done).sessions) (before name)) done.sessions)
fits_last setting done before now last =
    let said : List Session = (all_sent setting done).sessions in
    let lines : Name → Line = λ name. line_by (session_named name said) (before name) in
    all_mapped IsFit (lined lines) done.sessions
    (λ o there.
    let f = some_found (name_of o) said (has_sent setting (name_of o) done ∙ named_among done.sessions o there) in
    fit_with o (lines (name_of o)) (each_of IsSmallSession done.sessions now.kept.sessions o there)
    (subst (λ (found : Option Session). AllByRecursion IsSmallRow (line_by found (before (name_of o))).rows) (sym f.found)
    (each_of IsSmallSession said last.kept.sessions f.session f.there).salts))
