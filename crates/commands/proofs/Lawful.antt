-- What any words say is lawful.
use Rattle.std.proofs.Common.{◌≡◌, ◌≢◌, ◌<◌, ℕ, List, Option, Some, None, codes, ap, arith}
use Rattle.clap.specs.Words.{Row}
use Rattle.commands.specs.Says.{SaysPair, SaysServe}
use Rattle.commands.specs.Values.{MayHaveNumber}
use Rattle.commands.specs.declared.command.PairOptions.{PairOptions}
use Rattle.commands.specs.declared.command.ServeOptions.{ServeOptions}

abbrev get_some : ℕ → Option ℕ → ℕ
get_some other None = other
get_some other (Some number) = number

-- a number that is at least 1 isn't 0
not_none : (rows : List Row) (o : Option ℕ) → MayHaveNumber (codes "stop-after") 1 1000000000 rows o → o ≡ Some 0 → ⊥
not_none rows None h e = cc
not_none rows (Some number) h e = let none : number ≡ 0 = ap (get_some number) e in omega (arith, h.least_or_more)

pub serve_lawful : (rows : List Row) (options : ServeOptions) → SaysServe rows options → options.stop_after ≢ Some 0
serve_lawful rows options h e = not_none rows options.stop_after h.stop_after e

pub pair_lawful : (rows : List Row) (options : PairOptions) → SaysPair rows options → options.port < 65535
pair_lawful rows options h = omega (arith, h.port.most_or_less)
