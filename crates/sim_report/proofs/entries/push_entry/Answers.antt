use Rattle.std.proofs.Common.{rules, refl}
use Rattle.server_dispatch.specs.Entries.{entry_told}
use Rattle.sim_server.specs.Registers.{entered}
use Rattle.sim_report.proofs.entries.push_entry.Goals as goal

pub returns-clause-told : goal.returns-clause-told
returns-clause-told c seats stand =
    let owned = c.owner.ensures seats stand in
    c.entry_line.ensures.told seats (entered c.args.start (entry_told c.args.entry.now)) (record {
      start = refl;
      client = search rules;
      number = refl;
      reply = search rules;
      ran = refl;
    })
