-- Octets cut into datagrams.
use Rattle.std.specs.Prelude.{ℕ, List, [], ◌∷◌, take, drop}
use Rattle.rtps_records.specs.RecordFile.{Datagram, Record}
use Rattle.rtps_records.specs.declared.piece.Piece.{Piece}

-- octets cut into datagrams of these lengths, with their moments
abbrev pub cut : List Piece → List ℕ → List Record
cut [] octets = []
cut (p ∷ ps) octets = Datagram p.moment (take p.length octets) ∷ cut ps (drop p.length octets)
