use Rattle.std.proofs.Common.{◌≡◌, [], take, drop}
use Rattle.client_core.specs.Keys.{keys_in}
use Rattle.client_core.specs.Kept.{Stands}
use Rattle.client_rules.specs.Client.{Client, calls_of}
use Rattle.cmd_call.specs.Script.{given_all, untaken, untaken_from}
use Rattle.cmd_call.proofs.asking.submit_all.Given as goal

-- the client was given the calls so far, which it took, so that what isn't taken is one of those that are left
abbrev pub invariant-loop-place : goal.invariant-loop-place
invariant-loop-place l = record {
  stands : (whole : Client) → Stands l.fn.client whole → Stands l.client (given_all (take l.place l.script) whole);
  untaken : (whole : Client) → Stands l.fn.client whole → calls_of whole ≡ [] → untaken_from l.place (drop l.place l.script) ≡ untaken l.script;
  keys : keys_in l.client ≡ keys_in l.fn.client;
}
