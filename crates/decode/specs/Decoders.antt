-- What a decoder's record means.
use Rattle.limits.specs.declared.edition.Limits.{Limits}
use Rattle.phrase.specs.Phrase.{Phrase}
use Rattle.record.specs.Layout.{limits_of}
use Rattle.record.specs.Meaning.{phrase_of}
use Rattle.decode.specs.declared.decoder.Decoder.{Decoder}

abbrev pub phrase_by : Decoder → Phrase
phrase_by decoder = phrase_of decoder.accepted.bytes.now

abbrev pub limits_by : Decoder → Limits
limits_by decoder = limits_of decoder.accepted.bytes.now
