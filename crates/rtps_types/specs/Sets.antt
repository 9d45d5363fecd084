-- Sets of sequence and of fragment numbers, by base, count and words (DDSI-RTPS 9.4.2.6, 9.4.2.8).
use Rattle.rtps_types.specs.NumberSet.{NumberSet}
use Rattle.rtps_types.specs.declared.set.SnSet.{SnSet}
use Rattle.rtps_types.specs.declared.set.FragSet.{FragSet}

-- what contracts see of a set of sequence numbers: its base, its count of offsets, its words
abbrev pub sn_view : SnSet → NumberSet
sn_view s = record { base = s.base; bits = s.bits; words = s.words }

-- what contracts see of a set of fragment numbers: its base, its count of offsets, its words
abbrev pub frag_view : FragSet → NumberSet
frag_view s = record { base = s.base; bits = s.bits; words = s.words }
