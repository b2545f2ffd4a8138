-- A word is irreducible exactly where it is its own normal form.
use Rattle.std.proofs.Common.{◌≡◌, ◌↔◌, Bool, true, false, IsTrue, List, ℕ, sym, ◌∙◌, subst}
use Rattle.std.proofs.lemmas.Bool.{true≢false}
use Rattle.kb_word.specs.Words.{Pair, OneOf}
use Rattle.kb_word.specs.Rewriting.{IsIrreducible, NormalForm}
use Rattle.kb_rules.proofs.Unique.{normal_form_of_irreducible}

pub own_normal_form : (rules : List Pair) (word normal : List ℕ) → NormalForm rules word normal
    → (normal ≡ word) ↔ IsIrreducible (OneOf rules) word
own_normal_form rules word normal is =
    let P : List ℕ → Type 0 = λ w. IsIrreducible (OneOf rules) w in (
      λ own. subst P own is.irreducible,
      λ irreducible. normal_form_of_irreducible irreducible is,
    )

module _ (rules : List Pair) (u v m k : List ℕ) (first second : Bool) (normal : NormalForm rules u m)
    (same : IsTrue first ↔ (m ≡ u)) where
  abbrev AreIrreducible : Type 0
  AreIrreducible = IsIrreducible (OneOf rules) u × IsIrreducible (OneOf rules) v

  -- where the first word is, the second one decides
  pub second_decides : NormalForm rules v k → first ≡ true → IsTrue second ↔ (k ≡ v) → IsTrue second ↔ AreIrreducible
  second_decides other holds answer =
      let one = own_normal_form rules u m normal in
      let two = own_normal_form rules v k other in (
        λ is. (one.0 (same.0 holds), two.0 (answer.0 is)),
        λ both. answer.1 (two.1 both.1),
      )

  -- where it isn't, no more is asked
  pub first_decides : first ≡ false → IsTrue first ↔ AreIrreducible
  first_decides fails =
      let one = own_normal_form rules u m normal in (
        λ is. absurd (true≢false (sym is ∙ fails)),
        λ both. same.1 (one.1 both.0),
      )
