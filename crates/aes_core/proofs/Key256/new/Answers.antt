use Rattle.aes_core.proofs.ScheduleLaws.{IsExpansion-new}
use Rattle.aes_core.proofs.Key256.new.Goals as goal

pub invariant_of-result : goal.invariant_of-result
invariant_of-result c = (
  (IsExpansion-new c.args.key.now _ (record { count = c.told-key; in_range = c.fits-key }) c.key_schedule-schedule.ensures).0,
  c.inverse_schedule-inverse.ensures,
)

pub returns : goal.returns
returns c =
    (IsExpansion-new c.args.key.now _ (record { count = c.told-key; in_range = c.fits-key }) c.key_schedule-schedule.ensures).1
