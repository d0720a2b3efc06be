use Rattle.neg_codec.specs.Encoding.{text_of}
use Rattle.neg_codec.proofs.Again.{message_again}
use Rattle.neg_codec.proofs.Writes.{message_spells}
use Rattle.neg_codec.proofs.laws.round_trip.Goals as goal

pub returns : goal.returns
returns c = λ m is le. message_again (text_of m) m le (message_spells m is)
