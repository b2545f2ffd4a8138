use Rattle.std.proofs.Common.{◌≡◌, Ok, Err, get_or, ap, ◌∙◌, rules}
use Rattle.std.proofs.lemmas.List.Sorted.{answers_always}
use Rattle.kb_fsa.proofs.Lookups.{searched}
use Rattle.kb_fsa.proofs.rows.target_of.Goals as goal

pub returns-in-Ok : goal.returns-in-Ok
returns-in-Ok c =
    let by_symbol = c.in-Ok.ensures.position (λ move. move.0) (answers_always _ _ _ (λ f a r g called. search rules)) in
    let found = searched c.args.moves.now c.args.symbol (Ok c.in-Ok.place) c.requires.ascends c.in-Ok.ensures.bound by_symbol in
    search (rules, found)

pub returns-in-Err : goal.returns-in-Err
returns-in-Err c =
    let by_symbol = c.in-Err.ensures.position (λ move. move.0) (answers_always _ _ _ (λ f a r g called. search rules)) in
    searched c.args.moves.now c.args.symbol (Err c.in-Err.field-0) c.requires.ascends c.in-Err.ensures.bound by_symbol
