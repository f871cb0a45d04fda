use Rattle.law_moves.proofs.Unless.{lawful_but, lawful_whole}
use Rattle.law_moves.proofs.OddRuns.{runs_twice, taken_session_breaks, taken_by_renewal_breaks, made_again_breaks, given_up_sent_breaks, given_again_breaks, not_queued_breaks, again_unsent_breaks, other_number_breaks, old_number_breaks, number_of_a_call_breaks, two_at_once_breaks, salt_of_zero_breaks, drawn_again_breaks, invented_message_breaks, judged_elsewhere_breaks, judged_again_breaks, other_body_breaks, foreign_salt_breaks, outcome_of_twenty_breaks, early_forget_breaks, other_request_breaks, answered_again_breaks, names_another_breaks, foreign_first_salt_breaks, invented_result_breaks, early_result_breaks, invented_notice_breaks, invented_wrong_salt_breaks, foreign_new_salt_breaks, silent_breaks, invented_packet_breaks, foreign_packet_breaks}
use Rattle.law_moves.proofs.laws.conditions_are_needed.Goals as goal

pub returns-clause-weaker : goal.returns-clause-weaker
returns-clause-weaker c = λ place w move lawful. lawful_but place w move lawful

pub returns-clause-whole : goal.returns-clause-whole
returns-clause-whole c = λ w move lawful. lawful_whole w move lawful

pub returns-clause-taken_session : goal.returns-clause-taken_session
returns-clause-taken_session c = taken_session_breaks

pub returns-clause-taken_by_renewal : goal.returns-clause-taken_by_renewal
returns-clause-taken_by_renewal c = taken_by_renewal_breaks

pub returns-clause-made_again : goal.returns-clause-made_again
returns-clause-made_again c = made_again_breaks

pub returns-clause-given_up_sent : goal.returns-clause-given_up_sent
returns-clause-given_up_sent c = given_up_sent_breaks

pub returns-clause-given_again : goal.returns-clause-given_again
returns-clause-given_again c = given_again_breaks

pub returns-clause-not_queued : goal.returns-clause-not_queued
returns-clause-not_queued c = not_queued_breaks

pub returns-clause-again_unsent : goal.returns-clause-again_unsent
returns-clause-again_unsent c = again_unsent_breaks

pub returns-clause-other_number : goal.returns-clause-other_number
returns-clause-other_number c = other_number_breaks

pub returns-clause-old_number : goal.returns-clause-old_number
returns-clause-old_number c = old_number_breaks

pub returns-clause-number_of_a_call : goal.returns-clause-number_of_a_call
returns-clause-number_of_a_call c = number_of_a_call_breaks

pub returns-clause-two_at_once : goal.returns-clause-two_at_once
returns-clause-two_at_once c = two_at_once_breaks

pub returns-clause-salt_of_zero : goal.returns-clause-salt_of_zero
returns-clause-salt_of_zero c = salt_of_zero_breaks

pub returns-clause-drawn_again : goal.returns-clause-drawn_again
returns-clause-drawn_again c = drawn_again_breaks

pub returns-clause-invented_message : goal.returns-clause-invented_message
returns-clause-invented_message c = invented_message_breaks

pub returns-clause-judged_elsewhere : goal.returns-clause-judged_elsewhere
returns-clause-judged_elsewhere c = judged_elsewhere_breaks

pub returns-clause-judged_again : goal.returns-clause-judged_again
returns-clause-judged_again c = judged_again_breaks

pub returns-clause-other_body : goal.returns-clause-other_body
returns-clause-other_body c = other_body_breaks

pub returns-clause-foreign_salt : goal.returns-clause-foreign_salt
returns-clause-foreign_salt c = foreign_salt_breaks

pub returns-clause-outcome_of_twenty : goal.returns-clause-outcome_of_twenty
returns-clause-outcome_of_twenty c = outcome_of_twenty_breaks

pub returns-clause-early_forget : goal.returns-clause-early_forget
returns-clause-early_forget c = early_forget_breaks

pub returns-clause-other_request : goal.returns-clause-other_request
returns-clause-other_request c = other_request_breaks

pub returns-clause-answered_again : goal.returns-clause-answered_again
returns-clause-answered_again c = answered_again_breaks

pub returns-clause-names_another : goal.returns-clause-names_another
returns-clause-names_another c = names_another_breaks

pub returns-clause-foreign_first_salt : goal.returns-clause-foreign_first_salt
returns-clause-foreign_first_salt c = foreign_first_salt_breaks

pub returns-clause-invented_result : goal.returns-clause-invented_result
returns-clause-invented_result c = invented_result_breaks

pub returns-clause-early_result : goal.returns-clause-early_result
returns-clause-early_result c = early_result_breaks

pub returns-clause-invented_notice : goal.returns-clause-invented_notice
returns-clause-invented_notice c = invented_notice_breaks

pub returns-clause-invented_wrong_salt : goal.returns-clause-invented_wrong_salt
returns-clause-invented_wrong_salt c = invented_wrong_salt_breaks

pub returns-clause-foreign_new_salt : goal.returns-clause-foreign_new_salt
returns-clause-foreign_new_salt c = foreign_new_salt_breaks

pub returns-clause-silent : goal.returns-clause-silent
returns-clause-silent c = silent_breaks

pub returns-clause-invented_packet : goal.returns-clause-invented_packet
returns-clause-invented_packet c = invented_packet_breaks

pub returns-clause-foreign_packet : goal.returns-clause-foreign_packet
returns-clause-foreign_packet c = foreign_packet_breaks

pub returns-clause-queued_again : goal.returns-clause-queued_again
returns-clause-queued_again c = runs_twice
