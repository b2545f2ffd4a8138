-- What a value is, and tests that came out false.
use Rattle.std.proofs.Common.{◌≡◌, ◌∙◌, Option, Some, None, sym}
use Rattle.std.specs.Prelude.{IsTrue, true, false}

module _ {X : Type 0} where
  pub not_both : (o : Option X) (x : X) → o ≡ Some x → o ≡ None → ⊥
  not_both None x some none = cc
  not_both (Some y) x some none = cc

  pub same_value : (o : Option X) (x y : X) → o ≡ Some x → o ≡ Some y → x ≡ y
  same_value o x y one other =
      let both : Some x ≡ Some y = sym one ∙ other in
      cc

-- a test that came out false did not hold
pub never : ¬ IsTrue false
never h = let bad : false ≡ true = h in cc
