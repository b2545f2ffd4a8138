use Rattle.std.proofs.Common.{◌≡◌, ◌↔◌, ℕ, ◌<◌, ◌≤◌, Bool, nat_lt, IsTrue, List, [], length, get_or, sym, ap, ◌∙◌, arith}
use Rattle.std.specs.List.{list_any}
use Rattle.std.proofs.lemmas.Bool.Decides.{Decides-ltb}
use Rattle.std.proofs.lemmas.List.{take_all}
use Rattle.std.proofs.lemmas.List.Folds.{list_any_at}
use Rattle.kb_fsa.specs.Table.{Moves, Table}
use Rattle.kb_fsa.specs.Language.{Automaton, IsAutomaton, symbols}
use Rattle.kb_fsarat.specs.Repetitions.{LacksMove}
use Rattle.kb_fsarat.proofs.ShortRows.{lacks_where_short}
use Rattle.kb_fsarat.proofs.iteration.lacks_move.Goals as goal

-- the rows and the number of symbols that were read are the automaton's
lacks_where_found : (automaton : Automaton) (rows : List Moves) (count : ℕ) (found : Bool) → IsAutomaton automaton
    → rows ≡ automaton.table.rows → count ≡ symbols automaton.alphabet → found ≡ list_any (λ row. nat_lt (length row) count) rows
    → IsTrue found ↔ LacksMove automaton
lacks_where_found automaton rows count found is own all is_found =
    lacks_where_short automaton is found
    (is_found
    ∙ ap (λ k. list_any (λ (row : Moves). nat_lt (length row) k) rows) all
    ∙ ap (λ rows. list_any (λ (row : Moves). nat_lt (length row) (symbols automaton.alphabet)) rows) own)

pub returns-then-get-symbols : goal.returns-then-get-symbols
returns-then-get-symbols c =
    let rows = c.rows-rows.result.now in
    let count = c.symbols-symbols.result in
    let inside : c.loop-place.place < length rows = omega arith in
    let short : length (get_or rows c.loop-place.place []) < count = omega (arith, ap length c.get.ensures.moves) in
    lacks_where_found c.args.fsa.now rows count _ c.alphabet.ensures.automaton
    (c.rows-rows.ensures.rows ∙ ap (λ (t : Table). t.rows) c.table.ensures.table)
    (c.symbols-symbols.ensures ∙ ap symbols c.alphabet.ensures.alphabet)
    (sym (list_any_at (λ (row : Moves). nat_lt (length row) count) rows c.loop-place.place [] inside
    ((Decides-ltb (length (get_or rows c.loop-place.place [])) count).1 short)))

pub returns : goal.returns
returns c =
    let rows = c.rows-rows.result.now in
    let count = c.symbols-symbols.result in
    let past : length rows ≤ c.loop-place.place = omega arith in
    lacks_where_found c.args.fsa.now rows count _ c.alphabet.ensures.automaton
    (c.rows-rows.ensures.rows ∙ ap (λ (t : Table). t.rows) c.table.ensures.table)
    (c.symbols-symbols.ensures ∙ ap symbols c.alphabet.ensures.alphabet)
    (sym (ap (list_any (λ (row : Moves). nat_lt (length row) count)) (sym (take_all c.loop-place.place rows past)) ∙ c.loop-place.invariant))
