use Rattle.msg_key.proofs.DigestBytes.{CountsOfBytes, HasBytes-message_key, HasBytes-aes_key, HasBytes-aes_iv}
use Rattle.msg_key.proofs.laws.keys_are_bytes.Goals as goal

pub returns : goal.returns
returns c =
    let laws : CountsOfBytes = record {
      nil = c.counts_of_bytes.ensures.nil;
      cons = c.counts_of_bytes.ensures.cons;
      append = c.counts_of_bytes.ensures.append;
      part = c.counts_of_bytes.ensures.part;
    } in
    record {
      message_key = HasBytes-message_key laws;
      aes_key = HasBytes-aes_key laws;
      aes_iv = HasBytes-aes_iv laws;
    }
