use Rattle.std.proofs.Common.{take}
use Rattle.kb_share.specs.Rows.{IsApartAt, found_at, Picks}
use Rattle.kb_share.proofs.row.apart_in_row.Given as goal

-- those that are apart are picked from the first overlaps
abbrev pub invariant-loop-overlap : goal.invariant-loop-overlap
invariant-loop-overlap g l =
    Picks (IsApartAt l.version.rules l.index) (found_at l.version.numbers l.index) (take l.overlap-index l.overlaps) l.found.items
