-- Moves that the machine has.
use Rattle.std.proofs.Common.{ℕ, zero, suc, ◌<◌, [], arith}
use Rattle.std.specs.List.{Contains}
use Rattle.kb_fsa.specs.Table.{Table, moves_of, step}
use Rattle.kb_fsadet.proofs.Sets.{Contains-here}
use Rattle.kb_certificates.specs.declared.later_pairs.relation.Relation.{Relation}
use Rattle.kb_certificates.specs.declared.later_pairs.relation.Relation.TheVariants.{Same}
use Rattle.kb_certificates.specs.declared.later_pairs.rivals.Rivals.{Rivals}
use Rattle.kb_certificates.specs.Rivalry.{moves_by, rivalry, starts_at, with_rival}
use Rattle.kb_certificates.specs.Containing.{flat_map_contains, map_contains, move_of_step}
use Rattle.kb_certificates.specs.Reading.{rivals_after}

pub to_move : (n : ℕ) (table : Table) (rivals : Rivals) (symbol : ℕ) → 0 < step table rivals.own symbol → (rival : ℕ) (relation : Relation)
    → Contains (rivals_after n table rivals symbol) (rival, relation)
    → Contains ((rivalry n table).moves rivals) (symbol, record { own = step table rivals.own symbol; rival = rival; relation = relation })
to_move n table rivals symbol positive rival relation at =
    flat_map_contains (moves_by n table rivals) (moves_of table rivals.own) (symbol, step table rivals.own symbol)
    (symbol, record { own = step table rivals.own symbol; rival = rival; relation = relation })
    (move_of_step table rivals.own symbol positive)
    (map_contains (with_rival symbol (step table rivals.own symbol)) (rivals_after n table rivals symbol) (rival, relation) at)

pub to_start : (state : ℕ) → 0 < state → Contains (starts_at state) (record { own = state; rival = state; relation = Same })
to_start zero positive = absurd (let no : ⊥ = omega arith in no)
to_start (suc state) positive = Contains-here (record { own = suc state; rival = suc state; relation = Same }) []
