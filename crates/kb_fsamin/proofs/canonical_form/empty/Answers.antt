use Rattle.std.proofs.Common.{◌≡◌, sym, subst, rules}
use Rattle.kb_fsa.specs.Table.{Table}
use Rattle.kb_fsa.specs.Language.{IsAutomaton}
use Rattle.kb_fsamin.specs.Empty.{empty_table}
use Rattle.kb_fsamin.proofs.EmptyCanonical.{is_automaton}
use Rattle.kb_fsamin.proofs.canonical_form.empty.Goals as goal

pub new-requires-3 : goal.new-requires-3
new-requires-3 c =
    let is : c.new-2.result ≡ empty_table = search rules in
    let P : Table → Type 0 = λ table. IsAutomaton (record { alphabet = c.args.alphabet; table = table }) in
    subst P (sym is) (is_automaton c.args.alphabet c.requires)
