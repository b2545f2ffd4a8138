use Rattle.std.proofs.Common.{◌≡◌, ℕ, List, ap, ◌∙◌, subst}
use Rattle.std.proofs.lemmas.Result.{IfOk-weaker}
use Rattle.kb_fsa.specs.declared.alphabet.Alphabet.{Alphabet}
use Rattle.kb_fsa.specs.Table.{Table, Moves}
use Rattle.kb_fsa.specs.Language.{generators, symbols}
use Rattle.kb_explore.specs.Machine.{AreMovesOf}
use Rattle.kb_compose.specs.StatePairs.{moves_of_pairs, state_pairs, AreGroupMoves}
use Rattle.kb_compose.proofs.Groupings.{moves_of_groups}
use Rattle.kb_compose.proofs.machine.StatePairsMachine.moves.Goals as goal

-- the same moves of pairs
same_moves : (n n' : ℕ) (first first' second second' : Table) (pairs pairs' : List ℕ) → n ≡ n' → first ≡ first' → second ≡ second' → pairs ≡ pairs'
    → moves_of_pairs n first second pairs ≡ moves_of_pairs n' first' second' pairs'
same_moves n n' first first' second second' pairs pairs' a b c d =
    ap (λ m. moves_of_pairs m first second pairs) a ∙ ap (λ t. moves_of_pairs n' t second pairs) b
    ∙ ap (λ t. moves_of_pairs n' first' t pairs) c ∙ ap (moves_of_pairs n' first' second') d

pub returns : goal.returns
returns c =
    let first = c.args.self.now.first.now in
    let second = c.args.self.now.second.now in
    let ending = c.args.self.now.ending in
    let place = c.args.place.now in
    let alphabet = c.alphabet-alphabet.ensures.alphabet in
    let moves : c.in_ok-moves.moves.items ≡ moves_of_pairs (generators first.alphabet) first.table second.table place.pairs =
    c.in_ok-moves.ensures
    ∙ same_moves c.generators.result (generators first.alphabet) c.table-first.result.now first.table c.table-second.result.now second.table
    c.as_slice.result.now place.pairs (c.generators.ensures ∙ ap generators alphabet) c.table-first.ensures.table c.table-second.ensures.table
    c.as_slice.ensures.pairs in
    IfOk-weaker c.grouped_by_sort.result
    (λ places. AreGroupMoves c.alphabet-alphabet.result place.ended c.in_ok-moves.moves.items places.items)
    (λ places. AreMovesOf (state_pairs first second ending) (symbols first.alphabet) place places.items)
    (λ places are.
    let P : Alphabet → Type 0 = λ a. AreGroupMoves a place.ended c.in_ok-moves.moves.items places.items in
    let Q : Moves → Type 0 = λ m. AreGroupMoves first.alphabet place.ended m places.items in
    moves_of_groups first second ending place places.items (subst Q moves (subst P alphabet are)))
    c.grouped_by_sort.ensures
