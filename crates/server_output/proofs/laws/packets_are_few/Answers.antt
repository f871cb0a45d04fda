use Rattle.std.proofs.Common.{◌≡◌, ℕ, List, ◌∷◌, [], length, suc, ap, refl}
use Rattle.msg_ids.specs.Counters.{Counters}
use Rattle.service_tl.specs.declared.lists.Message.{Message}
use Rattle.packing.specs.Packing.{groups, outers_of, after_outer}
use Rattle.server_output.proofs.Counts.{packets-few}
use Rattle.server_output.proofs.laws.packets_are_few.Goals as goal

outers-count : (now : ℕ) (counters : Counters) (all : List (List Message)) → length (outers_of now counters all) ≡ length all
outers-count now counters [] = refl
outers-count now counters (group ∷ all) = ap suc (outers-count now (after_outer now counters group) all)

pub returns-clause-packets : goal.returns-clause-packets
returns-clause-packets c now counters messages = outers-count now counters (groups messages)

pub returns-clause-few : goal.returns-clause-few
returns-clause-few c messages count bytes few short = packets-few messages count bytes few short
