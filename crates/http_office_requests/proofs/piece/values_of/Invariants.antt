-- The loops of `values_of` (the values of the fields of this name).
use Rattle.std.proofs.Common.{drop, map}
use Rattle.httparse.specs.Spans.{header_bytes}
use Rattle.http_office_requests.specs.Piece.{values_of}
use Rattle.http_office_requests.specs.FoundPiece.{FoundSoFar}
use Rattle.http_office_requests.proofs.piece.values_of.Given as goal

-- what was found and what is to come are all the values
abbrev pub invariant-loop-field : goal.invariant-loop-field
invariant-loop-field l =
    FoundSoFar (values_of l.name (map (header_bytes l.head) l.fields)) l.found
    (values_of l.name (map (header_bytes l.head) (drop l.field-index l.fields)))
