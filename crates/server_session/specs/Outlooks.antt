-- What becomes of a number that a job waits for, as a session tells it.
use Rattle.server_rules.specs.Waiting.{Outlook as Rule, Over as RuleOver, InVain as RuleInVain, GoesOn as RuleGoesOn}
use Rattle.server_session.specs.declared.outlook.Outlook.{Outlook}
use Rattle.server_session.specs.declared.outlook.Outlook.TheVariants.{Over, InVain, GoesOn}

abbrev pub outlook_told : Outlook → Rule
outlook_told Over = RuleOver
outlook_told InVain = RuleInVain
outlook_told GoesOn = RuleGoesOn
