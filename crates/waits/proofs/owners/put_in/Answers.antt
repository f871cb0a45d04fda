use Rattle.std.proofs.Common.{◌≡◌, ◌∙◌, ◌+◌, ◌<◌, ◌≤◌, nat_le, List, [], ◌∷◌, ◌++◌, length, ap, sym, refl, subst}
use Rattle.std.proofs.lemmas.Bool.{eq-eqb}
use Rattle.waits.specs.declared.stamped.Stamped.{Stamped}
use Rattle.waits.specs.Limits.{most_jobs, most_job_bytes}
use Rattle.waits.specs.Jobs.{load_of, one_if}
use Rattle.waits.specs.Stamps.{bytes_of, tally, IsWith}
use Rattle.waits.specs.Parts.{Part, is_part_of, all_of}
use Rattle.waits.specs.Kept.{strangers, AreParts}
use Rattle.waits.proofs.Parts.{found_own, not_found}
use Rattle.waits.proofs.Keeping.{parts_more, put_first, strangers_more}
use Rattle.waits.proofs.Lent.{is_own, lent_part, none_of_part, own_at, parts_set, put_set}
use Rattle.waits.proofs.owners.put_in.Goals as goal

pub push-requires-clause-own : goal.push-requires-clause-own
push-requires-clause-own c =
    let job = c.args.job.one.job in
    let lent = lent_part job.key job.session c.args.list.now.items c.in-Some.place c.index_mut.result.now c.in-Some.ensures c.requires.parts c.index_mut.ensures.value in
    is_own job.key job.session c.index_mut.result.now c.args.job.one refl refl lent.among.here

pub push-requires-clause-fits : goal.push-requires-clause-fits
push-requires-clause-fits c =
    let job = c.args.job.one.job in
    let its = found_own job.key job.session c.args.list.now.items c.in-Some.place c.index_mut.result.now c.in-Some.ensures c.requires.parts c.index_mut.ensures.value in
    subst (λ (xs : List Stamped). length xs < most_jobs) its c.requires.fits

pub push-requires-clause-bytes_fit : goal.push-requires-clause-bytes_fit
push-requires-clause-bytes_fit c =
    let job = c.args.job.one.job in
    let its = found_own job.key job.session c.args.list.now.items c.in-Some.place c.index_mut.result.now c.in-Some.ensures c.requires.parts c.index_mut.ensures.value in
    subst (λ (xs : List Stamped). bytes_of xs + load_of job ≤ most_job_bytes) its c.requires.bytes_fit

pub push-requires-clause-later : goal.push-requires-clause-later
push-requires-clause-later c =
    let job = c.args.job.one.job in
    let lent = lent_part job.key job.session c.args.list.now.items c.in-Some.place c.index_mut.result.now c.in-Some.ensures c.requires.parts c.index_mut.ensures.value in
    none_of_part (λ y. one_if (nat_le c.args.job.stamp y.stamp)) c.args.list.now.items c.in-Some.place c.index_mut.result.now lent.at c.requires.later

-- behind the others of its session
pub returns-in-Some-clause-put : goal.returns-in-Some-clause-put
returns-in-Some-clause-put c =
    let job = c.args.job.one.job in
    let lent = lent_part job.key job.session c.args.list.now.items c.in-Some.place c.index_mut.result.now c.in-Some.ensures c.requires.parts c.index_mut.ensures.value in
    put_set c.args.list.now.items c.in-Some.place c.index_mut.result.now c.push.new.self c.args.job lent.at lent.within (ap (λ (part : Part). part.jobs) c.push.ensures)

pub returns-in-Some-clause-parts : goal.returns-in-Some-clause-parts
returns-in-Some-clause-parts c =
    let job = c.args.job.one.job in
    let part = c.index_mut.result.now in
    let lent = lent_part job.key job.session c.args.list.now.items c.in-Some.place part c.in-Some.ensures c.requires.parts c.index_mut.ensures.value in
    let mine = is_own job.key job.session part c.args.job.one refl refl lent.among.here in
    parts_set c.args.list.now.items c.in-Some.place part c.push.new.self lent.at lent.within c.requires.parts
    (ap (λ (p : Part). p.key) c.push.ensures)
    (ap (λ (p : Part). p.session) c.push.ensures)
    (ap strangers c.push.ensures ∙ strangers_more part c.args.job mine (own_at c.args.list.now.items c.in-Some.place part lent.at c.requires.parts))

-- or the first of a session
pub returns-in-None-clause-put : goal.returns-in-None-clause-put
returns-in-None-clause-put c =
    let part = c.push-in-None.new.self in
    let jobs : part.jobs ≡ c.args.job ∷ [] = ap (λ (p : Part). p.jobs) c.push-in-None.ensures ∙ ap (λ (p : Part). p.jobs ++ c.args.job ∷ []) c.new-owner.ensures in
    subst (λ (ps : List Part). IsWith c.args.job (all_of c.args.list.now.items) (all_of ps)) (sym c.push_reserved.ensures.items) (put_first c.args.list.now.items part c.args.job jobs)

pub returns-in-None-clause-parts : goal.returns-in-None-clause-parts
returns-in-None-clause-parts c =
    let job = c.args.job.one.job in
    let empty : Part = record { key = job.key; session = job.session; jobs = [] } in
    let part = c.push-in-None.new.self in
    let is : part ≡ record empty { jobs = c.args.job ∷ [] } = c.push-in-None.ensures ∙ ap (λ (p : Part). record p { jobs = p.jobs ++ c.args.job ∷ [] }) c.new-owner.ensures in
    let none = not_found (is_part_of job.key job.session) c.args.list.now.items (sym c.in-None.ensures) in
    let mine = is_own job.key job.session empty c.args.job.one refl refl (rw (eq-eqb job.key job.key refl, eq-eqb job.session job.session refl) refl) in
    subst AreParts (sym c.push_reserved.ensures.items) (parts_more c.args.list.now.items part c.requires.parts
    (subst (λ (p : Part). tally (is_part_of p.key p.session) c.args.list.now.items ≡ 0) (sym is) none)
    (ap strangers is ∙ strangers_more empty c.args.job mine refl))
