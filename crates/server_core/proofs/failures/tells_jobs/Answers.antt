use Rattle.server_rules.specs.Waiting.{tells_of}
use Rattle.server_core.proofs.Settled.{told-speaks}
use Rattle.server_core.proofs.failures.tells_jobs.Goals as goal

pub returns-clause-speaks : goal.returns-clause-speaks
returns-clause-speaks g c = λ keys draw name others past speaker speaks has few.
    let D : Type 0 = g.row.D.Denot in
    let number = c.args.number in
    let bindings = c.args.speaking.now.bindings.bindings in
    let later = c.tells_of.ensures.told c.args.now speaker speaks.says.stands speaks.jobs in
    let told = told-speaks {S = D} c.args.now number c.args.speaking.now.standing c.args.speaking.now.turn c.args.speaking.now.jobs.jobs c.tells_of.new.jobs.jobs bindings draw speaker speaks later in
    c.answers_failed.ensures.speaks keys bindings draw name others past (tells_of number speaker) told has few

pub returns-clause-fewer : goal.returns-clause-fewer
returns-clause-fewer g c = λ keys draw name others past speaker speaks has.
    let D : Type 0 = g.row.D.Denot in
    let number = c.args.number in
    let bindings = c.args.speaking.now.bindings.bindings in
    let later = c.tells_of.ensures.told c.args.now speaker speaks.says.stands speaks.jobs in
    let told = told-speaks {S = D} c.args.now number c.args.speaking.now.standing c.args.speaking.now.turn c.args.speaking.now.jobs.jobs c.tells_of.new.jobs.jobs bindings draw speaker speaks later in
    c.answers_failed.ensures.fewer keys bindings draw name others past (tells_of number speaker) told has
