use Rattle.std.proofs.Common.{◌≡◌, ◌∙◌, ℕ, List, length, sym, subst}
use Rattle.std.specs.Prelude.{Contains, Option, Some, None, IfSome, IfNone}
use Rattle.kb_lexing.specs.Spelling.{IsName}
use Rattle.kb_word.specs.Names.{name_of}
use Rattle.kb_word.specs.Printed.{letter_name}
use Rattle.kb_proof.specs.Reading.{Reads}
use Rattle.kb_proof.proofs.TextLemmas.{IsLetter, letter_is_name, letter_is_there, letter_found, name_utf8}
use Rattle.kb_proof.proofs.words.letter_named.Goals as goal

-- what is found by a name is read
found_read : (names : List (List ℕ)) (bytes text : List ℕ) (found : Option ℕ) → text ≡ bytes
    → IfSome found (λ x. name_of names x ≡ Some text) → IfNone found (¬ Contains names text)
    → Reads (letter_name names) (IsLetter (length names)) bytes found
found_read names bytes text None same some none =
    λ x fits e. none (let P : List ℕ → Type 0 = λ l. Contains names l in subst P (sym (same ∙ e)) (letter_is_there names x fits))
found_read names bytes text (Some x) same some none =
    let is = letter_found names x text some in (sym same ∙ is.0, is.1)

pub returns-in_default : goal.returns-in_default
returns-in_default c = λ x fits e.
    let P : List ℕ → Type 0 = λ l. IsName l in
    c.in_default.ensures.cases.0 (name_utf8 c.args.bytes.now (subst P (sym e) (letter_is_name c.args.names.now x c.requires.spelled fits)))

pub returns : goal.returns
returns c =
    found_read c.args.names.now c.args.bytes.now c.in-Ok.name.now c.number_of.result c.in-Ok.ensures.cases.0 c.number_of.ensures.found c.number_of.ensures.none
