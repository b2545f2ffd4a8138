use Rattle.std.proofs.Common.{◌≡◌, ℕ, List, length, sym, ap, ◌∙◌}
use Rattle.kb_fsa.specs.Language.{generators}
use Rattle.kb_fsa.specs.declared.alphabet.Alphabet.{Alphabet}
use Rattle.kb_record.specs.Tree.{Fields}
use Rattle.kb_fsafile.specs.Holds.{HoldsAlphabet, plain, pairs}
use Rattle.kb_task.proofs.loading.automata.language_of_kind.Goals as goal

-- an alphabet of these names has as many letters
named_letters : (given : Fields) (names : List (List ℕ)) (alphabet : Alphabet) (size : ℕ) → HoldsAlphabet given names alphabet size
    → length names ≡ generators alphabet
named_letters given names alphabet size (plain is _ _) = sym (ap generators is)
named_letters given names alphabet size (pairs is _) = sym (ap generators is)

pub returns-in_default-clause-letters : goal.returns-in_default-clause-letters
returns-in_default-clause-letters c =
    let read = c.in-Ok.ensures.read in
    let holds = read.says.holds.holds in
    named_letters holds.letters c.in-Ok.names read.said.alphabet holds.size holds.lettered ∙ ap generators (sym read.alphabet)
