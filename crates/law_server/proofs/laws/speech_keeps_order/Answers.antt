use Rattle.law_server.proofs.Speaking.{says-keeps, says_again-keeps, answers-keeps, in_place-keeps, leaves-keeps, tells-keeps}
use Rattle.law_server.proofs.Rows.{new-keeps, acknowledges-keeps, notices-keeps, came_again-keeps, acks-keep}
use Rattle.law_server.proofs.Events.{attaches-keeps, sends-keeps}
use Rattle.law_server.proofs.laws.speech_keeps_order.Goals as goal

pub returns-clause-says : goal.returns-clause-says
returns-clause-says g c = says-keeps

pub returns-clause-says_again : goal.returns-clause-says_again
returns-clause-says_again g c = says_again-keeps

pub returns-clause-new : goal.returns-clause-new
returns-clause-new g c = new-keeps

pub returns-clause-acknowledges : goal.returns-clause-acknowledges
returns-clause-acknowledges g c = acknowledges-keeps

pub returns-clause-notices : goal.returns-clause-notices
returns-clause-notices g c = notices-keeps

pub returns-clause-came_again : goal.returns-clause-came_again
returns-clause-came_again g c = came_again-keeps

pub returns-clause-answers : goal.returns-clause-answers
returns-clause-answers g c = answers-keeps

pub returns-clause-in_place : goal.returns-clause-in_place
returns-clause-in_place g c = in_place-keeps

pub returns-clause-left : goal.returns-clause-left
returns-clause-left g c = leaves-keeps

pub returns-clause-tells : goal.returns-clause-tells
returns-clause-tells g c = tells-keeps

pub returns-clause-acks : goal.returns-clause-acks
returns-clause-acks g c = acks-keep

pub returns-clause-attaches : goal.returns-clause-attaches
returns-clause-attaches g c = attaches-keeps

pub returns-clause-sends : goal.returns-clause-sends
returns-clause-sends g c = sends-keeps
