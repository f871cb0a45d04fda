-- Scaffolding, and no promise: what the contracts of private functions cite.
use Rattle.std.specs.Prelude.{◌≡◌, ℕ, List, map, Vec, Result, Ok, Err}
use Rattle.std.specs.Global.{Global}
use Rattle.tl_codec.specs.declared.fault.TlFault.{TlFault}
use Rattle.regs_service.specs.declared.request.Request.{Request}
use Rattle.regs_service.specs.declared.request.Request.TheVariants as request
use Rattle.regs_service.specs.Requests.{Asked, Add, Get}

-- a request whose name is lent from the text
abbrev pub asked : Request → Asked
asked (request.Add name amount) = Add name.now amount
asked (request.Get name) = Get name.now

-- what a read answered and what it left are what stands at the front of the text
abbrev pub Tells : Result Request TlFault → List ℕ → Result (Asked × List ℕ) TlFault → Type 0
Tells (Ok request) new read = read ≡ Ok (asked request, new)
Tells (Err fault) new read = read ≡ Err fault

-- the names and sums of a map's entries
abbrev pub sums_of : List (Vec ℕ Global × ℕ) → List (List ℕ × ℕ)
sums_of entries = map (λ entry. (entry.0.items, entry.1)) entries
