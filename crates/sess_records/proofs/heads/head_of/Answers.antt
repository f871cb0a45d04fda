use Rattle.std.proofs.Common.{get_or, refl}
use Rattle.sess_records.proofs.HeadLemmas.{head_read}
use Rattle.sess_records.proofs.heads.head_of.Goals as goal

pub returns : goal.returns
returns c =
    head_read c.args.bytes.now
    (record { size = c.word_at-size.result; kind = get_or c.args.bytes.now 4 0; moment = c.long_at-moment.result; place = c.long_at-place.result })
    c.told-bytes c.word_at-size.ensures refl c.long_at-moment.ensures c.long_at-place.ensures
