use Rattle.temp_keys.proofs.below.seal_laws.Goals as goal

pub returns : goal.returns
returns c = record {
  append = c.counts_of_bytes.ensures.append;
  part = c.counts_of_bytes.ensures.part;
  last_part = c.counts_of_bytes.ensures.drop;
  digest = c.digests_are_bytes.ensures;
  equations = c.ige_meets_its_equations.ensures;
  undone = c.ige_deciphering_undoes_enciphering.ensures;
}
