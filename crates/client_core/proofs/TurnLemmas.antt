-- The turn of a queued call.
use Rattle.std.proofs.Common.{◌≡◌, ◌∙◌, Option, Some, None, ap, refl, arith}
use Rattle.std.specs.Prelude.{option_map}
use Rattle.call_table.specs.declared.call.Living.{Living}
use Rattle.call_table.specs.Table.{Name, Call, living_name}
use Rattle.client_rules.specs.Filling.{number_of}
use Rattle.client_core.proofs.CallLemmas.{value}

number_in_name : (name : Option Name) → option_map (λ own. own.message.number) name ≡ option_map (λ living. living.number) (option_map (λ own. own.message) name)
number_in_name None = refl
number_in_name (Some name) = refl

pub number_is : (own : Option Call) (living : Option Living) → option_map (λ one. option_map (λ name. name.message) (living_name one)) own ≡ Some living
    → number_of own ≡ option_map (λ living. living.number) living
number_is None living is = grind (arith, is)
number_is (Some one) living is =
    number_in_name (living_name one) ∙ ap (λ (own : Option (Option Living)). option_map (λ living. living.number) (value living own)) is
